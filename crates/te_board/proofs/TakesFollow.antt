-- A caller that is given an outcome in a legal history may take it: the board isn't stuck then.
use Rattle.std.proofs.Common.{◌≡◌, ℕ, Bool, true, false, List, refl}
use Rattle.te_terms.specs.declared.event.Outcome.{Outcome}
use Rattle.te_history.specs.declared.entry.Entry.{Entry}
use Rattle.te_history.specs.declared.entry.Entry.TheVariants as entries
use Rattle.te_history.specs.declared.status.Status.TheVariants as statuses
use Rattle.te_history.specs.State.{Standing, idle, parked, given, ended, State, state}
use Rattle.te_history.specs.Follows.{Stands, Follows, IsLegal}
use Rattle.te_history.specs.Histories.{HasStatus, status_of}
use Rattle.te_history.proofs.Growing.{legal_is_loose}
use Rattle.te_history.proofs.Lasting.{stuck_waits}

pub given_so : (s : State) (t ticket : ℕ) (outcome : Outcome) → HasStatus s t (statuses.Given ticket outcome) → Stands s t (given ticket outcome)
given_so s t ticket outcome has = by_standing has.0 has.1 has.2
  where
    by_standing : (x : Standing) → Stands s t x → statuses.Given ticket outcome ≡ status_of x → Stands s t (given ticket outcome)
    by_standing idle stands is = absurd cc
    by_standing (parked under event) stands is = absurd cc
    by_standing (given under due) stands is =
        let ticket_is : ticket ≡ under = cc in
        let due_is : outcome ≡ due = cc in
        rw (ticket_is, due_is) stands
    by_standing ended stands is = absurd cc

pub take_follows : (callers : ℕ) (history : List Entry) (by ticket : ℕ) (outcome : Outcome) → IsLegal callers history
    → HasStatus (state callers history) by (statuses.Given ticket outcome) → Follows callers history (entries.Take by ticket outcome)
take_follows callers history by ticket outcome legal has =
    ((running (state callers history).stuck refl, given_so (state callers history) by ticket outcome has), tt)
  where
    running : (b : Bool) → (state callers history).stuck ≡ b → (state callers history).stuck ≡ false
    running false is = is
    running true is =
        absurd (stuck_waits callers history (legal_is_loose callers history legal) is by (given ticket outcome) (given_so (state callers history) by ticket outcome has))
