-- The channels that stand in atoms, values, terms and entries: each of them is so.
use Rattle.std.specs.Prelude.{ℕ, List}
use Rattle.std.specs.List.{AllByRecursion}
use Rattle.te_terms.specs.declared.value.Atom.{Atom}
use Rattle.te_terms.specs.declared.value.Atom.TheVariants.{Int, Chan}
use Rattle.te_terms.specs.declared.event.Outcome.{Outcome}
use Rattle.te_terms.specs.declared.event.Outcome.TheVariants.{Gives, Raises}
use Rattle.te_terms.specs.Expressions.{Variable, register, name, known, Primitive, int, chan, part, Calculation, one, both, Expression, whole, tuple}
use Rattle.te_terms.specs.Terms.{Term, always, never, fresh, throw, send, recv, and_then, choose, catch, when}
use Rattle.te_history.specs.declared.status.How.{How}
use Rattle.te_history.specs.declared.status.How.TheVariants as ways
use Rattle.te_history.specs.declared.entry.Entry.{Entry}
use Rattle.te_history.specs.declared.entry.Entry.TheVariants as entries

abbrev pub AtomHas : (ℕ → Type 0) → Atom → Type 0
AtomHas P (Int z) = Unit {0}
AtomHas P (Chan c) = P c

abbrev pub ValueHas : (ℕ → Type 0) → List Atom → Type 0
ValueHas P v = AllByRecursion (AtomHas P) v

abbrev pub VariableHas : (ℕ → Type 0) → Variable → Type 0
VariableHas P (register r) = Unit {0}
VariableHas P (name n) = Unit {0}
VariableHas P (known v) = ValueHas P v

abbrev pub PrimitiveHas : (ℕ → Type 0) → Primitive → Type 0
PrimitiveHas P (int z) = Unit {0}
PrimitiveHas P (chan c) = P c
PrimitiveHas P (part x d) = VariableHas P x

abbrev pub CalculationHas : (ℕ → Type 0) → Calculation → Type 0
CalculationHas P (one p) = PrimitiveHas P p
CalculationHas P (both o p q) = PrimitiveHas P p × PrimitiveHas P q

abbrev pub ExpressionHas : (ℕ → Type 0) → Expression → Type 0
ExpressionHas P (whole x) = VariableHas P x
ExpressionHas P (tuple cs) = AllByRecursion (CalculationHas P) cs

abbrev pub TermHas : (ℕ → Type 0) → Term → Type 0
TermHas P (always e) = ExpressionHas P e
TermHas P never = Unit {0}
TermHas P fresh = Unit {0}
TermHas P (throw e) = ExpressionHas P e
TermHas P (send p e) = PrimitiveHas P p × ExpressionHas P e
TermHas P (recv p) = PrimitiveHas P p
TermHas P (and_then e n f) = TermHas P e × TermHas P f
TermHas P (choose e f) = TermHas P e × TermHas P f
TermHas P (catch e n h) = TermHas P e × TermHas P h
TermHas P (when test p q e f) = PrimitiveHas P p × PrimitiveHas P q × TermHas P e × TermHas P f

abbrev pub OutcomeHas : (ℕ → Type 0) → Outcome → Type 0
OutcomeHas P (Gives v) = ValueHas P v
OutcomeHas P (Raises v) = ValueHas P v

abbrev pub HowHas : (ℕ → Type 0) → How → Type 0
HowHas P (ways.Done values) = AllByRecursion (ValueHas P) values
HowHas P (ways.Raised value) = ValueHas P value
HowHas P ways.Stuck = Unit {0}

abbrev pub EntryHas : (ℕ → Type 0) → Entry → Type 0
EntryHas P (entries.Post by ticket event) = TermHas P event
EntryHas P (entries.Commit by cert outcomes) = AllByRecursion (OutcomeHas P) outcomes
EntryHas P (entries.Withdraw by ticket) = Unit {0}
EntryHas P (entries.Take by ticket outcome) = OutcomeHas P outcome
EntryHas P (entries.Rest by) = Unit {0}
EntryHas P (entries.Stuck by) = Unit {0}
EntryHas P (entries.End by how) = HowHas P how
