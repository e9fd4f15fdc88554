-- What fits has such channels.
use Rattle.std.proofs.Common.{ℕ, List, [], ◌∷◌}
use Rattle.std.specs.List.{AllByRecursion}
use Rattle.te_terms.specs.declared.value.Atom.{Atom}
use Rattle.te_terms.specs.declared.value.Atom.TheVariants.{Int, Chan}
use Rattle.te_terms.specs.declared.event.Outcome.{Outcome}
use Rattle.te_terms.specs.declared.event.Outcome.TheVariants.{Gives, Raises}
use Rattle.te_terms.specs.Expressions.{Variable, register, name, known, Primitive, int, chan, part, Calculation, one, both, Expression, whole, tuple}
use Rattle.te_terms.specs.Terms.{Term, always, never, fresh, throw, send, recv, and_then, choose, catch, when}
use Rattle.te_history.specs.declared.status.How.{How}
use Rattle.te_history.specs.declared.status.How.TheVariants as ways
use Rattle.te_history.specs.declared.entry.Entry.{Entry}
use Rattle.te_history.specs.declared.entry.Entry.TheVariants as entries
use Rattle.te_report.specs.Channels.{ValueHas, VariableHas, PrimitiveHas, CalculationHas, ExpressionHas, TermHas, OutcomeHas, HowHas, EntryHas}
use Rattle.te_report.specs.Fitting.{AtomFits, ValueFits, VariableFits, PrimitiveFits, CalculationFits, ExpressionFits, TermFits, OutcomeFits, HowFits, EntryIsSpelled}

module _ (P : ℕ → Type 0) where
  atoms_have : (v : List Atom) → AllByRecursion (AtomFits P) v → ValueHas P v
  atoms_have [] h = tt
  atoms_have (Int z ∷ as') h = (tt, atoms_have as' h.1)
  atoms_have (Chan c ∷ as') h = (h.0, atoms_have as' h.1)

  value_has : (v : List Atom) → ValueFits P v → ValueHas P v
  value_has v h = atoms_have v h.atoms

  values_have : (vs : List (List Atom)) → AllByRecursion (ValueFits P) vs → AllByRecursion (ValueHas P) vs
  values_have [] h = tt
  values_have (v ∷ vs) h = (value_has v h.0, values_have vs h.1)

  variable_has : (x : Variable) → VariableFits P x → VariableHas P x
  variable_has (register r) h = tt
  variable_has (name n) h = tt
  variable_has (known v) h = value_has v h

  primitive_has : (p : Primitive) → PrimitiveFits P p → PrimitiveHas P p
  primitive_has (int z) h = tt
  primitive_has (chan c) h = h
  primitive_has (part x d) h = variable_has x h

  calculations_have : (cs : List Calculation) → AllByRecursion (CalculationFits P) cs → AllByRecursion (CalculationHas P) cs
  calculations_have [] h = tt
  calculations_have (one p ∷ cs) h = (primitive_has p h.0, calculations_have cs h.1)
  calculations_have (both o p q ∷ cs) h = ((primitive_has p h.0.0, primitive_has q h.0.1), calculations_have cs h.1)

  expression_has : (e : Expression) → ExpressionFits P e → ExpressionHas P e
  expression_has (whole x) h = variable_has x h
  expression_has (tuple cs) h = calculations_have cs h.0

  term_has : (t : Term) → TermFits P t → TermHas P t
  term_has (always e) h = expression_has e h
  term_has never h = tt
  term_has fresh h = tt
  term_has (throw e) h = expression_has e h
  term_has (send p e) h = (primitive_has p h.0, expression_has e h.1)
  term_has (recv p) h = primitive_has p h
  term_has (and_then e n f) h = (term_has e h.0, term_has f h.1)
  term_has (choose e f) h = (term_has e h.0, term_has f h.1)
  term_has (catch e n f) h = (term_has e h.0, term_has f h.1)
  term_has (when test p q e f) h = (primitive_has p h.0, primitive_has q h.1, term_has e h.2, term_has f h.3)

  outcome_has : (o : Outcome) → OutcomeFits P o → OutcomeHas P o
  outcome_has (Gives v) h = value_has v h
  outcome_has (Raises v) h = value_has v h

  outcomes_have : (os : List Outcome) → AllByRecursion (OutcomeFits P) os → AllByRecursion (OutcomeHas P) os
  outcomes_have [] h = tt
  outcomes_have (o ∷ os) h = (outcome_has o h.0, outcomes_have os h.1)

  how_has : (how : How) → HowFits P how → HowHas P how
  how_has (ways.Done values) h = values_have values h
  how_has (ways.Raised value) h = value_has value h
  how_has ways.Stuck h = tt

  pub entry_has : (e : Entry) → EntryIsSpelled P e → EntryHas P e
  entry_has (entries.Post by ticket event) h = term_has event h
  entry_has (entries.Commit by cert outcomes) h = outcomes_have outcomes h
  entry_has (entries.Withdraw by ticket) h = tt
  entry_has (entries.Take by ticket outcome) h = outcome_has outcome h
  entry_has (entries.Rest by) h = tt
  entry_has (entries.Stuck by) h = tt
  entry_has (entries.End by how) h = how_has how h

  pub entries_have : (es : List Entry) → AllByRecursion (EntryIsSpelled P) es → AllByRecursion (EntryHas P) es
  entries_have [] h = tt
  entries_have (e ∷ es) h = (entry_has e h.0, entries_have es h.1)
