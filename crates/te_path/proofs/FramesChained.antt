-- The frames of a link, unwound.
use Rattle.std.proofs.Common.{◌≡◌, ◌≢◌, ℕ, zero, suc, ◌-◌, true, false, List, [], ◌∷◌, ◌++◌, ◌≤◌, length, length-append, Some, None, refl, sym, ap, ◌∙◌, ◌<◌, subst, arith}
use Rattle.std.specs.Prelude.{slice_get}
use Rattle.te_terms.specs.declared.event.Outcome.{Outcome}
use Rattle.te_path.specs.declared.frames.FrameCell.{FrameCell}
use Rattle.te_path.specs.Chains.{IsLinked, frame_parent, frames_at}
use Rattle.te_path.specs.Unwinding.{takes, unwound, or_outer, rest_of}
use Rattle.te_path.proofs.Chained.{chain_is, chain_past, chain_new}
use Rattle.te_terms.proofs.Lists.{back}

module _ (cells : List FrameCell) (is_linked : IsLinked frame_parent cells) (o : Outcome) where
  pub is_taken : (k : ℕ) (f : FrameCell) → k ≢ 0 → slice_get cells (k - 1) ≡ Some f → takes f.awaits o ≡ true → rest_of cells (Some f) ≡ unwound o (frames_at cells k)
  is_taken zero f some e t = absurd (some refl)
  is_taken (suc i) f some e t =
      sym (ap (unwound o) (chain_is frame_parent cells is_linked i f (subst (λ n. slice_get cells n ≡ Some f) (back i) e)) ∙ ap (λ r.
      or_outer f (frames_at cells f.parent) r (unwound o (frames_at cells f.parent))) t)

  pub is_passed : (k : ℕ) (f : FrameCell) → k ≢ 0 → slice_get cells (k - 1) ≡ Some f → takes f.awaits o ≡ false → unwound o (frames_at cells k) ≡ unwound o (frames_at cells f.parent)
  is_passed zero f some e t = absurd (some refl)
  is_passed (suc i) f some e t =
      ap (unwound o) (chain_is frame_parent cells is_linked i f (subst (λ n. slice_get cells n ≡ Some f) (back i) e)) ∙ ap (λ r.
      or_outer f (frames_at cells f.parent) r (unwound o (frames_at cells f.parent))) t

  pub is_past : (k : ℕ) → k ≢ 0 → slice_get cells (k - 1) ≡ None → rest_of cells None ≡ unwound o (frames_at cells k)
  is_past zero some e = absurd (some refl)
  is_past (suc i) some e = sym (ap (unwound o) (chain_past frame_parent cells i (subst (λ n. slice_get cells n ≡ None) (back i) e)))

  pub is_below : (k : ℕ) (f : FrameCell) → k ≢ 0 → slice_get cells (k - 1) ≡ Some f → f.parent < k
  is_below k f some e = omega (arith, is_linked (k - 1) f e, some)

pub frames_new : (cells : List FrameCell) → IsLinked frame_parent cells → (f : FrameCell) → f.parent ≤ length cells → (new : List FrameCell) (k : ℕ)
    → new ≡ cells ++ f ∷ [] → k ≡ length new → frames_at new k ≡ f ∷ frames_at cells f.parent
frames_new cells is_linked f h new k is at =
    ap (λ fs. frames_at fs k) is
    ∙ ap (frames_at (cells ++ f ∷ [])) (at ∙ ap length is ∙ long)
    ∙ chain_new frame_parent cells is_linked f h where
      long : length (cells ++ f ∷ []) ≡ suc (length cells)
      long = omega (arith, length-append cells (f ∷ []))
