-- An outcome that has been handed to frames.
use Rattle.std.proofs.Common.{◌≡◌, ℕ, suc, ◌+◌, ◌<◌, ◌≤◌, List, [], ◌∷◌, ◌++◌, length, Some, None, Option, refl, ap, sym, subst, arith, length-append}
use Rattle.te_terms.specs.declared.event.Outcome.{Outcome}
use Rattle.te_terms.specs.declared.event.Outcome.TheVariants.{Gives, Raises}
use Rattle.te_terms.specs.Steps.{Member}
use Rattle.te_path.specs.declared.cells.Cells.{Cells}
use Rattle.te_path.specs.declared.values.ValueCell.{ValueCell}
use Rattle.te_path.specs.declared.frames.FrameCell.{FrameCell}
use Rattle.te_path.specs.declared.place.Place.{Place}
use Rattle.te_path.specs.declared.spot.Stop.{Stop}
use Rattle.te_path.specs.declared.spot.Spot.{Spot}
use Rattle.te_path.specs.Chains.{IsLinked, Extends, value_parent, inner_at, frames_at}
use Rattle.te_path.specs.Growth.{AreLinked}
use Rattle.te_path.specs.Origins.{Origin, member_at}
use Rattle.te_path.specs.Paths.{HasFewFresh}
use Rattle.te_path.specs.Unwinding.{value_in, unwound, Unwound, rest_of}
use Rattle.te_path.specs.Places.{placed, ending_in, layers_at, node_left, ended, AreAround, IsPlace, nodes_left, left_at, Alike}
use Rattle.te_path.specs.Spots.{spelled, stop_of, IsSpot}
use Rattle.te_path.proofs.Growing.{layers_grown, left_grown, fit_grown}
use Rattle.te_path.proofs.Unwinds.{ComesTo, Resumes, comes_to}

-- where an ending stands
abbrev pub end_spot : Stop → ℕ → Spot
end_spot stop count = record { stop = stop; node = 0; values = 0; frames = 0; count = count }

module _ (o : Origin) (cells : Cells) (count : ℕ) where
  ended_is_spot : AreLinked cells → (r : Outcome) → HasFewFresh (member_at o count (ended r)) → IsSpot o cells (end_spot (stop_of r) count)
  ended_is_spot are (Gives v) few = record {
    around = record { linked = are; values_in = omega arith; frames_in = omega arith; fit = tt };
    own_head = refl;
    settled = refl;
    stands = refl;
    choice = λ e. absurd cc;
    few = few;
  }
  ended_is_spot are (Raises v) few = record {
    around = record { linked = are; values_in = omega arith; frames_in = omega arith; fit = tt };
    own_head = refl;
    settled = refl;
    stands = refl;
    choice = λ e. absurd cc;
    few = few;
  }

  spelled_end : (r : Outcome) → member_at o count (ended r) ≡ spelled o cells (end_spot (stop_of r) count)
  spelled_end (Gives v) = refl
  spelled_end (Raises v) = refl

  module _ (frames : ℕ) (around : AreAround o.code cells 0 frames) (r : Outcome) (few : HasFewFresh (ending_in o cells count frames r)) where
    abbrev ending : Member
    ending = ending_in o cells count frames r

    few_after : (m : Member) → Alike ending m → HasFewFresh m
    few_after m alike = omega (arith, few, alike.no_more)

    unwinds_so : (taker : Option FrameCell) → rest_of cells.frames taker ≡ unwound r (frames_at cells.frames frames) →
        ComesTo o.code o.regs cells.values (member_at o count (ended r)) (frames_at cells.frames frames) r (rest_of cells.frames taker).rest (rest_of cells.frames taker).taker
    unwinds_so taker e =
        subst (λ (w : Unwound). ComesTo o.code o.regs cells.values (member_at o count (ended r)) (frames_at cells.frames frames) r w.rest w.taker) (sym e)
        (comes_to o.code o.regs cells.values (member_at o count (ended r)) (frames_at cells.frames frames) r around.fit)

    -- no frame took the outcome
    pub end_is : (stop : Stop) → stop ≡ stop_of r → rest_of cells.frames None ≡ unwound r (frames_at cells.frames frames) →
        IsSpot o cells (end_spot stop count) × Alike ending (spelled o cells (end_spot stop count))
    end_is stop at e =
        let alike : Alike ending (member_at o count (ended r)) = unwinds_so None e in
        subst (λ s. IsSpot o cells (end_spot s count) × Alike ending (spelled o cells (end_spot s count))) (sym at)
        (ended_is_spot around.linked r (few_after (member_at o count (ended r)) alike), subst (Alike ending) (spelled_end r) alike)

    -- a frame took it
    module _ (f : FrameCell) (e : rest_of cells.frames (Some f) ≡ unwound r (frames_at cells.frames frames)) (parent_in : f.parent ≤ length cells.frames) where
      resumes : Resumes o.code o.regs cells.values (member_at o count (ended r)) (frames_at cells.frames frames) r (frames_at cells.frames f.parent) f
      resumes = unwinds_so (Some f) e

      pub taker_sees : f.values ≤ length cells.values
      taker_sees = resumes.fits.within

      module _ (new : List ValueCell) (link : ℕ) (more : Extends cells.values new) (are : IsLinked value_parent new) (last : link ≡ length new)
          (inner : inner_at new link ≡ inner_at cells.values f.values ++ value_in r ∷ []) where
        abbrev then_cells : Cells
        then_cells = record { values = new; frames = cells.frames }

        abbrev then_place : Place
        then_place = record { node = f.second; values = link; frames = f.parent; count = count }

        same_layers : layers_at o.code o.regs then_cells f.parent ≡ layers_at o.code o.regs cells f.parent
        same_layers = layers_grown o.code cells.values new around.linked.values more o.regs (frames_at cells.frames f.parent) resumes.rest_fit

        same_left : left_at o.code then_cells f.parent ≡ left_at o.code cells f.parent
        same_left = left_grown o.code cells.values new around.linked.values more (frames_at cells.frames f.parent) resumes.rest_fit

        level : length (inner_at new link) ≡ suc (length (inner_at cells.values f.values))
        level = omega (arith, ap length inner, length-append (inner_at cells.values f.values) (value_in r ∷ []))

        then_alike : Alike ending (placed o then_cells then_place)
        then_alike = rw (same_layers, inner) resumes.alike

        pub resumed : IsPlace o then_cells then_place × Alike ending (placed o then_cells then_place) × (nodes_left o.code then_cells then_place < 1 + left_at o.code cells frames)
        resumed = (
          record {
            node_in = resumes.fits.second;
            around = record {
              linked = record { values = are; frames = around.linked.frames };
              values_in = omega (arith, last);
              frames_in = parent_in;
              fit = fit_grown o.code cells.values new around.linked.values more (frames_at cells.frames f.parent) resumes.rest_fit;
            };
            few = few_after (placed o then_cells then_place) then_alike;
          },
          then_alike,
          omega (arith, resumes.left, same_left, ap (λ l. node_left o.code l f.second) level),
        )
