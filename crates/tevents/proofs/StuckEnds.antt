-- Whether some entry ends stuck, place by place.
use Rattle.std.proofs.Common.{◌≡◌, ℕ, ◌+◌, ◌<◌, ◌≤◌, ◌⊎◌, inl, inr, List, length, Some, ◌∙◌, ap, subst, arith}
use Rattle.std.specs.Prelude.{Any}
use Rattle.std.proofs.lemmas.Bool.{cases_lt}
use Rattle.std.proofs.lemmas.Option.{slice_get_within, slice_get-get_or, get_or_from_slice_get}
use Rattle.te_history.specs.declared.entry.Entry.{Entry}
use Rattle.tevents.specs.StuckEnds.{IsStuckEnd, IsStuckAt}

-- an entry that ends stuck stands at a place
pub at_place : (h : List Entry) → Any IsStuckEnd h → (k : ℕ) × (k < length h) × IsStuckAt h k
at_place h any = (any.0, any.2, (any.1, slice_get-get_or h any.0 any.1 any.2 ∙ ap Some any.3, any.4))

pub from_place : (h : List Entry) (k : ℕ) → IsStuckAt h k → Any IsStuckEnd h
from_place h k at = (k, at.0, slice_get_within h k at.0 at.1, get_or_from_slice_get h k at.0 at.0 at.1, at.2)

-- none before a place
abbrev pub NoneBefore : List Entry → ℕ → Type 0
NoneBefore h n = (k : ℕ) → k < n → IsStuckAt h k → ⊥

pub none_next : (h : List Entry) (n : ℕ) → NoneBefore h n → (IsStuckAt h n → ⊥) → NoneBefore h (n + 1)
none_next h n before here k low at = by_side (cases_lt k n)
  where
    by_side : (k < n) ⊎ (n ≤ k) → ⊥
    by_side (inl lower) = before k lower at
    by_side (inr last) = let one : k ≡ n = omega arith in here (subst (IsStuckAt h) one at)

pub none_at_all : (h : List Entry) (n : ℕ) → length h ≤ n → NoneBefore h n → ¬ Any IsStuckEnd h
none_at_all h n past before any = let at = at_place h any in before at.0 (omega (arith, at.1)) at.2
