-- What a guarded receive comes to in a commit. This project's own.
use Rattle.std.specs.Prelude.{◌≡◌, ℕ, true, List, take, ℤ, Ok, Err, Some, slice_get}
use Rattle.te_terms.specs.declared.value.Atom.{Atom}
use Rattle.te_terms.specs.declared.value.Trap.TheVariants.{Kind}
use Rattle.te_terms.specs.declared.event.Outcome.{Outcome}
use Rattle.te_terms.specs.declared.event.Outcome.TheVariants.{Gives, Raises}
use Rattle.te_terms.specs.declared.expr.Test.{Test}
use Rattle.te_terms.specs.Values.{trap_value}
use Rattle.te_terms.specs.Expressions.{known, int, part, test_value}
use Rattle.te_terms.specs.Terms.{Term}
use Rattle.te_cert.specs.declared.cert.Member.{Member}
use Rattle.te_cert.specs.declared.cert.Cert.{Cert}
use Rattle.te_history.specs.declared.entry.Entry.{Entry}
use Rattle.te_history.specs.declared.entry.Entry.TheVariants.{Commit}
use Rattle.te_history.specs.State.{parked, state}
use Rattle.te_history.specs.Follows.{Stands, IsLoose}

-- it gives a value for which the test of the bound and the place holds, or raises (-2) where the test traps
abbrev pub IsGuarded : ℕ → Test → ℤ → Outcome → Type 0
IsGuarded place test bound (Gives v) = test_value test (int bound) (part (known v) place) ≡ Ok true
IsGuarded place test bound (Raises w) = (w ≡ trap_value Kind) × ((v : List Atom) × (test_value test (int bound) (part (known v) place) ≡ Err Kind))

-- in each commit of a loose history, each member whose parked event this is comes to such an outcome
abbrev pub GuardHolds : ℕ → Test → ℤ → Term → Type 0
GuardHolds place test bound event =
    (callers : ℕ) (history : List Entry) (n by : ℕ) (cert : Cert) (outcomes : List Outcome) → IsLoose callers history
    → slice_get history n ≡ Some (Commit by cert outcomes) → (i : ℕ) (m : Member) → slice_get cert.members i ≡ Some m
    → Stands (state callers (take n history)) m.thread (parked m.ticket event)
    → (o : Outcome) × (slice_get outcomes i ≡ Some o) × IsGuarded place test bound o
