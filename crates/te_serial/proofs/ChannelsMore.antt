-- What fits with such channels fits still where more channels are so.
use Rattle.std.proofs.Common.{ℕ, List, [], ◌∷◌}
use Rattle.std.specs.List.{AllByRecursion}
use Rattle.te_terms.specs.declared.value.Atom.{Atom}
use Rattle.te_terms.specs.declared.value.Atom.TheVariants.{Int, Chan}
use Rattle.te_terms.specs.declared.event.Outcome.{Outcome}
use Rattle.te_terms.specs.declared.event.Outcome.TheVariants.{Gives, Raises}
use Rattle.te_terms.specs.Expressions.{Variable, register, name, known, Primitive, int, chan, part, Calculation, one, both, Expression, whole, tuple}
use Rattle.te_terms.specs.Terms.{Term, always, never, fresh, throw, send, recv, and_then, choose, catch, when}
use Rattle.te_history.specs.declared.status.How.{How}
use Rattle.te_history.specs.declared.status.How.TheVariants as ways
use Rattle.te_history.specs.declared.entry.Entry.{Entry}
use Rattle.te_history.specs.declared.entry.Entry.TheVariants as entries
use Rattle.te_report.specs.Fitting.{AtomFits, ValueFits, VariableFits, PrimitiveFits, CalculationFits, ExpressionFits, TermFits, OutcomeFits, HowFits, EntryIsSpelled}

module _ (P Q : ℕ → Type 0) (more : (c : ℕ) → P c → Q c) where
  atom_more : (a : Atom) → AtomFits P a → AtomFits Q a
  atom_more (Int z) h = h
  atom_more (Chan c) h = more c h

  atoms_more : (v : List Atom) → AllByRecursion (AtomFits P) v → AllByRecursion (AtomFits Q) v
  atoms_more [] h = tt
  atoms_more (a ∷ as') h = (atom_more a h.0, atoms_more as' h.1)

  value_more : (v : List Atom) → ValueFits P v → ValueFits Q v
  value_more v h = record { few = h.few; atoms = atoms_more v h.atoms }

  values_more : (vs : List (List Atom)) → AllByRecursion (ValueFits P) vs → AllByRecursion (ValueFits Q) vs
  values_more [] h = tt
  values_more (v ∷ vs) h = (value_more v h.0, values_more vs h.1)

  variable_more : (x : Variable) → VariableFits P x → VariableFits Q x
  variable_more (register r) h = tt
  variable_more (name n) h = tt
  variable_more (known v) h = value_more v h

  primitive_more : (p : Primitive) → PrimitiveFits P p → PrimitiveFits Q p
  primitive_more (int z) h = h
  primitive_more (chan c) h = more c h
  primitive_more (part x d) h = variable_more x h

  calculations_more : (cs : List Calculation) → AllByRecursion (CalculationFits P) cs → AllByRecursion (CalculationFits Q) cs
  calculations_more [] h = tt
  calculations_more (one p ∷ cs) h = (primitive_more p h.0, calculations_more cs h.1)
  calculations_more (both o p q ∷ cs) h = ((primitive_more p h.0.0, primitive_more q h.0.1), calculations_more cs h.1)

  expression_more : (e : Expression) → ExpressionFits P e → ExpressionFits Q e
  expression_more (whole x) h = variable_more x h
  expression_more (tuple cs) h = (calculations_more cs h.0, h.1)

  pub term_more : (t : Term) → TermFits P t → TermFits Q t
  term_more (always e) h = expression_more e h
  term_more never h = tt
  term_more fresh h = tt
  term_more (throw e) h = expression_more e h
  term_more (send p e) h = (primitive_more p h.0, expression_more e h.1)
  term_more (recv p) h = primitive_more p h
  term_more (and_then e n f) h = (term_more e h.0, term_more f h.1)
  term_more (choose e f) h = (term_more e h.0, term_more f h.1)
  term_more (catch e n f) h = (term_more e h.0, term_more f h.1)
  term_more (when test p q e f) h = (primitive_more p h.0, primitive_more q h.1, term_more e h.2, term_more f h.3)

  pub outcome_more : (o : Outcome) → OutcomeFits P o → OutcomeFits Q o
  outcome_more (Gives v) h = value_more v h
  outcome_more (Raises v) h = value_more v h

  pub outcomes_more : (os : List Outcome) → AllByRecursion (OutcomeFits P) os → AllByRecursion (OutcomeFits Q) os
  outcomes_more [] h = tt
  outcomes_more (o ∷ os) h = (outcome_more o h.0, outcomes_more os h.1)

  how_more : (how : How) → HowFits P how → HowFits Q how
  how_more (ways.Done values) h = values_more values h
  how_more (ways.Raised value) h = value_more value h
  how_more ways.Stuck h = tt

  pub entry_more : (e : Entry) → EntryIsSpelled P e → EntryIsSpelled Q e
  entry_more (entries.Post by ticket event) h = term_more event h
  entry_more (entries.Commit by cert outcomes) h = outcomes_more outcomes h
  entry_more (entries.Withdraw by ticket) h = tt
  entry_more (entries.Take by ticket outcome) h = outcome_more outcome h
  entry_more (entries.Rest by) h = tt
  entry_more (entries.Stuck by) h = tt
  entry_more (entries.End by how) h = how_more how h

  pub entries_more : (es : List Entry) → AllByRecursion (EntryIsSpelled P) es → AllByRecursion (EntryIsSpelled Q) es
  entries_more [] h = tt
  entries_more (e ∷ es) h = (entry_more e h.0, entries_more es h.1)
