-- Frames unwound to the one that takes an outcome: to which member they come, and what is kept.
use Rattle.std.proofs.Common.{◌≡◌, ℕ, suc, ◌+◌, ◌≤◌, Bool, true, false, List, [], ◌∷◌, ◌++◌, length, map, Option, Some, None, refl, ap, ◌∙◌, subst, length-append, arith}
use Rattle.te_terms.specs.declared.value.Atom.{Atom}
use Rattle.te_terms.specs.declared.code.Node.{Node}
use Rattle.te_terms.specs.declared.event.Outcome.{Outcome}
use Rattle.te_terms.specs.Terms.{Term, replaced, scoped, bound}
use Rattle.te_terms.specs.Steps.{Member, at_term}
use Rattle.te_terms.specs.Codes.{term_at}
use Rattle.te_terms.proofs.BindingLaws.{bound_scoped}
use Rattle.te_path.specs.declared.values.ValueCell.{ValueCell}
use Rattle.te_path.specs.declared.frames.FrameCell.{FrameCell}
use Rattle.te_path.specs.Chains.{inner_at}
use Rattle.te_path.specs.Layers.{Layer, in_layers}
use Rattle.te_path.specs.Unwinding.{takes, value_in, unwound, or_outer}
use Rattle.te_path.specs.Places.{Alike, ended, layer_of, second_term, node_term, FrameFits, FramesFit, node_left, frames_left}
use Rattle.te_path.proofs.InLayers.{alike_itself, alike_on, layer_passes, layer_takes}

-- binding the name of a second part makes it a node over one value more
pub bound_second : (code : List Node) (regs inner : List (List Atom)) (v : List Atom) (i : ℕ) → bound (length inner) v (second_term code regs inner i) ≡ node_term code regs (inner ++ v ∷ []) i
bound_second code regs inner v i =
    bound_scoped regs inner v (term_at code (suc (length inner)) i)
    ∙ ap (λ n. replaced (scoped regs (inner ++ v ∷ [])) (term_at code n i)) one_more where
      one_more : suc (length inner) ≡ length (inner ++ v ∷ [])
      one_more = omega (arith, length-append inner (v ∷ []))

module _ (code : List Node) (regs : List (List Atom)) (values : List ValueCell) (m : Member) where
  -- the frames of cells, and the member at an outcome in them
  abbrev layers_of : List FrameCell → List Layer
  layers_of fs = map (layer_of code regs values) fs

  abbrev ending : List FrameCell → Outcome → Member
  ending fs o = at_term m (in_layers (layers_of fs) (ended o))

  -- the second part of a frame with its name bound
  abbrev bound_part : Outcome → FrameCell → Term
  bound_part o f = node_term code regs (inner_at values f.values ++ value_in o ∷ []) f.second

  -- the frame f goes on with the outcome's value
  pub record Resumes (fs : List FrameCell) (o : Outcome) (rest : List FrameCell) (f : FrameCell) : Type 0 where
    pub fits : FrameFits code values f
    pub rest_fit : FramesFit code values rest
    pub alike : Alike (ending fs o) (at_term m (in_layers (layers_of rest) (bound_part o f)))
    pub left : node_left code (suc (length (inner_at values f.values))) f.second + frames_left code values rest ≤ frames_left code values fs

  -- what the frames come to: the outcome itself, where none takes it
  abbrev pub ComesTo : List FrameCell → Outcome → List FrameCell → Option FrameCell → Type 0
  ComesTo fs o rest None = Alike (ending fs o) (at_term m (ended o))
  ComesTo fs o rest (Some f) = Resumes fs o rest f

  passes_on : (f : FrameCell) (fs : List FrameCell) (o : Outcome) (end : Member) → takes f.awaits o ≡ false → Alike (ending fs o) end → Alike (ending (f ∷ fs) o) end
  passes_on f fs o end e rest =
      alike_on (ending (f ∷ fs) o) (ending fs o) end (layer_passes (layer_of code regs values f) (layers_of fs) m o e) rest

  passes : (f : FrameCell) (fs : List FrameCell) (o : Outcome) (rest : List FrameCell) (taker : Option FrameCell) → takes f.awaits o ≡ false → ComesTo fs o rest taker → ComesTo (f ∷ fs) o rest taker
  passes f fs o rest None e comes = passes_on f fs o (at_term m (ended o)) e comes
  passes f fs o rest (Some g) e comes = record {
    fits = comes.fits;
    rest_fit = comes.rest_fit;
    alike = passes_on f fs o (at_term m (in_layers (layers_of rest) (bound_part o g))) e comes.alike;
    left = omega (arith, comes.left);
  }

  resumes : (f : FrameCell) (fs : List FrameCell) (o : Outcome) → FramesFit code values (f ∷ fs) → takes f.awaits o ≡ true → Resumes (f ∷ fs) o fs f
  resumes f fs o fit e = record {
    fits = fit.0;
    rest_fit = fit.1;
    alike = subst (λ t. Alike (ending (f ∷ fs) o) (at_term m (in_layers (layers_of fs) t))) (bound_second code regs (inner_at values f.values) (value_in o) f.second)
        (layer_takes (layer_of code regs values f) (layers_of fs) m o e);
    left = omega arith;
  }

  by_taking : (f : FrameCell) (fs : List FrameCell) (o : Outcome) (r : Bool) → FramesFit code values (f ∷ fs) → takes f.awaits o ≡ r → ComesTo fs o (unwound o fs).rest (unwound o fs).taker →
      ComesTo (f ∷ fs) o (or_outer f fs r (unwound o fs)).rest (or_outer f fs r (unwound o fs)).taker
  by_taking f fs o true fit e outer = resumes f fs o fit e
  by_taking f fs o false fit e outer = passes f fs o (unwound o fs).rest (unwound o fs).taker e outer

  pub comes_to : (fs : List FrameCell) (o : Outcome) → FramesFit code values fs → ComesTo fs o (unwound o fs).rest (unwound o fs).taker
  comes_to [] o fit = alike_itself (at_term m (ended o))
  comes_to (f ∷ fs) o fit = by_taking f fs o (takes f.awaits o) fit refl (comes_to fs o fit.1)
