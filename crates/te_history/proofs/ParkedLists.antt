-- The parked callers of a state, one caller after another.
use Rattle.std.proofs.Common.{◌≡◌, ◌≢◌, ℕ, zero, suc, ◌+◌, ◌≤◌, List, [], ◌∷◌, length, drop, refl, ap, sym, ◌∙◌, arith, add-one}
use Rattle.te_terms.specs.declared.event.Parked.{Parked}
use Rattle.te_terms.specs.Terms.{Term}
use Rattle.te_history.specs.declared.status.Status.{Status}
use Rattle.te_history.specs.declared.status.Status.TheVariants as statuses
use Rattle.te_history.specs.State.{Standing, idle, parked, given, ended, State, parked_by, parked_from}
use Rattle.te_history.specs.Follows.{Stands}
use Rattle.te_history.specs.Histories.{HasStatus, status_of}
use Rattle.te_terms.proofs.Lists.{drop_at}

-- the parked callers from one caller on
abbrev pub parked_after : ℕ → State → List Parked
parked_after t s = parked_from t (drop t s.callers)

next_after : (s : State) (t : ℕ) (c : Standing) → Stands s t c → parked_after t s ≡ parked_by t c (parked_after (t + 1) s)
next_after s t c stands = ap (parked_from t) (drop_at s.callers t c stands) ∙ ap (λ (n : ℕ). parked_by t c (parked_from n (drop n s.callers))) (sym (add-one t))

-- a parked caller is the next one
pub parked_next : (s : State) (t ticket : ℕ) (event : Term) → Stands s t (parked ticket event)
    → parked_after t s ≡ record { thread = t; ticket = ticket; event = event } ∷ parked_after (t + 1) s
parked_next s t ticket event stands = next_after s t (parked ticket event) stands

-- and another caller is none
pub other_next : (s : State) (t : ℕ) (status : Status) → HasStatus s t status → ((ticket : ℕ) → status ≢ statuses.Parked ticket)
    → parked_after t s ≡ parked_after (t + 1) s
other_next s t status has other = by_standing has.0 has.1 has.2
  where
    by_standing : (c : Standing) → Stands s t c → status ≡ status_of c → parked_after t s ≡ parked_after (t + 1) s
    by_standing idle stands is = next_after s t idle stands
    by_standing (parked ticket event) stands is = absurd (other ticket is)
    by_standing (given ticket outcome) stands is = next_after s t (given ticket outcome) stands
    by_standing ended stands is = next_after s t ended stands

none_left : (xs : List Standing) (t : ℕ) → length xs ≤ t → drop t xs ≡ []
none_left [] zero past = refl
none_left [] (suc t) past = refl
none_left (x ∷ xs) zero past = absurd (omega arith)
none_left (x ∷ xs) (suc t) past = none_left xs t (omega arith)

pub last_after : (s : State) (t : ℕ) → length s.callers ≤ t → parked_after t s ≡ []
last_after s t past = ap (parked_from t) (none_left s.callers t past)
