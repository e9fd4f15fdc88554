-- Atoms, values, terms and entries that fit: integers of 64 bits, at most 4 atoms to a value, and each channel is so. This project's own.
use Rattle.std.specs.Prelude.{◌≡◌, ℕ, ◌≤◌, true, List, length}
use Rattle.std.specs.List.{AllByRecursion}
use Rattle.te_terms.specs.declared.value.Atom.{Atom}
use Rattle.te_terms.specs.declared.value.Atom.TheVariants.{Int, Chan}
use Rattle.te_terms.specs.declared.event.Outcome.{Outcome}
use Rattle.te_terms.specs.declared.event.Outcome.TheVariants.{Gives, Raises}
use Rattle.te_terms.specs.Values.{fits_i64}
use Rattle.te_terms.specs.Limits.{most_atoms}
use Rattle.te_terms.specs.Expressions.{Variable, register, name, known, Primitive, int, chan, part, Calculation, one, both, Expression, whole, tuple}
use Rattle.te_terms.specs.Terms.{Term, always, never, fresh, throw, send, recv, and_then, choose, catch, when}
use Rattle.te_history.specs.declared.status.How.{How}
use Rattle.te_history.specs.declared.status.How.TheVariants as ways
use Rattle.te_history.specs.declared.entry.Entry.{Entry}
use Rattle.te_history.specs.declared.entry.Entry.TheVariants as entries

abbrev pub AtomFits : (ℕ → Type 0) → Atom → Type 0
AtomFits P (Int z) = fits_i64 z ≡ true
AtomFits P (Chan c) = P c

-- at most 4 of them
pub record ValueFits (P : ℕ → Type 0) (v : List Atom) : Type 0 where
  pub few : length v ≤ most_atoms
  pub atoms : AllByRecursion (AtomFits P) v

abbrev pub VariableFits : (ℕ → Type 0) → Variable → Type 0
VariableFits P (register r) = Unit {0}
VariableFits P (name n) = Unit {0}
VariableFits P (known v) = ValueFits P v

abbrev pub PrimitiveFits : (ℕ → Type 0) → Primitive → Type 0
PrimitiveFits P (int z) = fits_i64 z ≡ true
PrimitiveFits P (chan c) = P c
PrimitiveFits P (part x d) = VariableFits P x

abbrev pub CalculationFits : (ℕ → Type 0) → Calculation → Type 0
CalculationFits P (one p) = PrimitiveFits P p
CalculationFits P (both o p q) = PrimitiveFits P p × PrimitiveFits P q

abbrev pub ExpressionFits : (ℕ → Type 0) → Expression → Type 0
ExpressionFits P (whole x) = VariableFits P x
ExpressionFits P (tuple cs) = AllByRecursion (CalculationFits P) cs × (length cs ≤ most_atoms)

abbrev pub TermFits : (ℕ → Type 0) → Term → Type 0
TermFits P (always e) = ExpressionFits P e
TermFits P never = Unit {0}
TermFits P fresh = Unit {0}
TermFits P (throw e) = ExpressionFits P e
TermFits P (send p e) = PrimitiveFits P p × ExpressionFits P e
TermFits P (recv p) = PrimitiveFits P p
TermFits P (and_then e n f) = TermFits P e × TermFits P f
TermFits P (choose e f) = TermFits P e × TermFits P f
TermFits P (catch e n h) = TermFits P e × TermFits P h
TermFits P (when test p q e f) = PrimitiveFits P p × PrimitiveFits P q × TermFits P e × TermFits P f

abbrev pub OutcomeFits : (ℕ → Type 0) → Outcome → Type 0
OutcomeFits P (Gives v) = ValueFits P v
OutcomeFits P (Raises v) = ValueFits P v

abbrev pub HowFits : (ℕ → Type 0) → How → Type 0
HowFits P (ways.Done values) = AllByRecursion (ValueFits P) values
HowFits P (ways.Raised value) = ValueFits P value
HowFits P ways.Stuck = Unit {0}

abbrev pub EntryIsSpelled : (ℕ → Type 0) → Entry → Type 0
EntryIsSpelled P (entries.Post by ticket event) = TermFits P event
EntryIsSpelled P (entries.Commit by cert outcomes) = AllByRecursion (OutcomeFits P) outcomes
EntryIsSpelled P (entries.Withdraw by ticket) = Unit {0}
EntryIsSpelled P (entries.Take by ticket outcome) = OutcomeFits P outcome
EntryIsSpelled P (entries.Rest by) = Unit {0}
EntryIsSpelled P (entries.Stuck by) = Unit {0}
EntryIsSpelled P (entries.End by how) = HowFits P how
