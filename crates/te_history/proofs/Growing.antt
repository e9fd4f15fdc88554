-- What holds of the empty history, and is kept by each entry that follows, holds of each loose history.
use Rattle.std.proofs.Common.{◌≡◌, ◌⊎◌, inl, inr, ℕ, zero, suc, List, [], ◌∷◌, ◌++◌, Some, sym, subst, append_assoc}
use Rattle.std.specs.List.{slice_get}
use Rattle.std.proofs.lemmas.List.{append-nil}
use Rattle.te_history.specs.declared.entry.Entry.{Entry}
use Rattle.te_history.specs.Follows.{LooselyFollows, LooseFrom, LegalFrom, IsLoose, IsLegal}

pub grows : (callers : ℕ) (P : List Entry → Type 0) → ((h : List Entry) (e : Entry) → LooselyFollows callers h e → P h → P (h ++ e ∷ []))
    → (before history : List Entry) → LooseFrom callers before history → P before → P (before ++ history)
grows callers P step before [] loose holds = subst P (sym (append-nil before)) holds
grows callers P step before (e ∷ es) loose holds =
    subst P (append_assoc before (e ∷ []) es) (grows callers P step (before ++ e ∷ []) es loose.1 (step before e loose.0 holds))

-- where an item stands in a list with one more
pub in_longer : {A : Type 0} (xs : List A) (k : ℕ) (x e : A) → slice_get (xs ++ e ∷ []) k ≡ Some x → (slice_get xs k ≡ Some x) ⊎ (x ≡ e)
in_longer [] zero x e is = let same : x ≡ e = cc in inr same
in_longer [] (suc k) x e is = absurd cc
in_longer (y ∷ ys) zero x e is = inl is
in_longer (y ∷ ys) (suc k) x e is = in_longer ys k x e is

legal_from : (callers : ℕ) (before history : List Entry) → LegalFrom callers before history → LooseFrom callers before history
legal_from callers before [] legal = tt
legal_from callers before (e ∷ es) legal = (legal.0.0, legal_from callers (before ++ e ∷ []) es legal.1)

pub legal_is_loose : (callers : ℕ) (history : List Entry) → IsLegal callers history → IsLoose callers history
legal_is_loose callers history legal = legal_from callers [] history legal

-- the second part of a loose history follows the first
later : (callers : ℕ) (before first second : List Entry) → LooseFrom callers before (first ++ second) → LooseFrom callers (before ++ first) second
later callers before [] second loose = subst (λ (h : List Entry). LooseFrom callers h second) (sym (append-nil before)) loose
later callers before (e ∷ es) second loose =
    subst (λ (h : List Entry). LooseFrom callers h second) (append_assoc before (e ∷ []) es) (later callers (before ++ e ∷ []) es second loose.1)

pub later_part : (callers : ℕ) (first second : List Entry) → IsLoose callers (first ++ second) → LooseFrom callers first second
later_part callers first second loose = later callers [] first second loose
