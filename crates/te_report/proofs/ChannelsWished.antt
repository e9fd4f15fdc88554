-- What a thread of a script wishes has the script's channels and those of the outcomes that it has taken.
use Rattle.std.proofs.Common.{◌≡◌, ℕ, zero, suc, ◌+◌, ◌<◌, ◌≤◌, Bool, true, false, cond, eqb, List, [], ◌∷◌, ◌++◌, take, Result, Ok, Err, refl, arith}
use Rattle.std.specs.List.{AllByRecursion}
use Rattle.te_terms.specs.declared.value.Atom.{Atom}
use Rattle.te_terms.specs.declared.value.Trap.{Trap}
use Rattle.te_terms.specs.declared.event.Outcome.{Outcome}
use Rattle.te_terms.specs.declared.event.Outcome.TheVariants.{Gives, Raises}
use Rattle.te_terms.specs.Limits.{most_fresh}
use Rattle.te_terms.specs.Measures.{one_fresh, fresh_count}
use Rattle.te_terms.specs.Expressions.{Variable, register, name, known, Primitive, int, chan, part, Calculation, one, both, Expression, whole, tuple, in_expression, value_of}
use Rattle.te_terms.specs.Terms.{Term, always, never, fresh, throw, send, recv, and_then, choose, catch, when}
use Rattle.te_terms.proofs.Measured.{fresh_sees, counted-replaced}
use Rattle.te_script.specs.declared.wish.Site.{Site}
use Rattle.te_script.specs.Scripts.{Statement, sync, emit, repeat, Scope, one_deeper, IsVariable, IsPrimitive, IsCalculation, IsExpression, IsEvent, AreStatements, with_register, Thread, IsThread}
use Rattle.te_script.specs.Wishes.{Step, syncing, emitting, site_at, steps_of, pass_over, passes_over, flat_from, flat}
use Rattle.te_script.specs.Wishes.{Wish, syncs, done, raised, holding, Doing, synchronises, ends, has_raised, Reached}
use Rattle.te_script.specs.Wishes.{emits_or, reached_by, reached, wish_of, wish}
use Rattle.te_report.specs.Fitting.{ValueFits, VariableFits, PrimitiveFits, CalculationFits, ExpressionFits, TermFits, OutcomeFits}
use Rattle.te_report.proofs.ChannelsEvaluated.{trap_has, value_has, expression_by, term_by}

module _ (P : ℕ → Type 0) where
  -- ---- what is spelled in a scope

  variable_spelled : (s : Scope) (x : Variable) → IsVariable s x → VariableFits P x
  variable_spelled s (register r) h = tt
  variable_spelled s (name n) h = tt
  variable_spelled s (known v) h = absurd h

  primitive_spelled : (s : Scope) (p : Primitive) → ((c : ℕ) → c < s.channels → P c) → IsPrimitive s p → PrimitiveFits P p
  primitive_spelled s (int z) low h = h
  primitive_spelled s (chan c) low h = low c h
  primitive_spelled s (part x d) low h = variable_spelled s x h.0

  calculations_spelled : (s : Scope) (cs : List Calculation) → ((c : ℕ) → c < s.channels → P c) → AllByRecursion (IsCalculation s) cs → AllByRecursion (CalculationFits P) cs
  calculations_spelled s [] low h = tt
  calculations_spelled s (one p ∷ cs) low h = (primitive_spelled s p low h.0, calculations_spelled s cs low h.1)
  calculations_spelled s (both o p q ∷ cs) low h = ((primitive_spelled s p low h.0.0, primitive_spelled s q low h.0.1), calculations_spelled s cs low h.1)

  expression_spelled : (s : Scope) (e : Expression) → ((c : ℕ) → c < s.channels → P c) → IsExpression s e → ExpressionFits P e
  expression_spelled s (whole x) low h = variable_spelled s x h
  expression_spelled s (tuple cs) low h = (calculations_spelled s cs low h.0, h.1)

  event_spelled : (s : Scope) (t : Term) → ((c : ℕ) → c < s.channels → P c) → IsEvent s t → TermFits P t
  event_spelled s (always e) low h = expression_spelled s e low h
  event_spelled s never low h = tt
  event_spelled s fresh low h = tt
  event_spelled s (throw e) low h = expression_spelled s e low h
  event_spelled s (send p e) low h = (primitive_spelled s p low h.0, expression_spelled s e low h.1)
  event_spelled s (recv p) low h = primitive_spelled s p low h
  event_spelled s (and_then e n f) low h = (event_spelled s e low h.1, event_spelled (one_deeper s) f low h.2)
  event_spelled s (choose e f) low h = (event_spelled s e low h.0, event_spelled s f low h.1)
  event_spelled s (catch e n f) low h = (event_spelled s e low h.1, event_spelled (one_deeper s) f low h.2)
  event_spelled s (when test p q e f) low h = (primitive_spelled s p low h.0, primitive_spelled s q low h.1, event_spelled s e low h.2, event_spelled s f low h.3)

  -- ---- statements and steps

  pub record EventHas (t : Term) : Type 0 where
    pub term : TermFits P t
    pub few : fresh_count t ≤ most_fresh

  abbrev StatementHas : Statement → Type 0
  StatementHas (sync r t) = EventHas t
  StatementHas (emit e) = ExpressionFits P e
  StatementHas (repeat times count) = Unit {0}

  abbrev StepHas : Step → Type 0
  StepHas (syncing at r t) = EventHas t
  StepHas (emitting at e) = ExpressionFits P e

  statements_have : (channels registers written : ℕ) (ss : List Statement) → ((c : ℕ) → c < channels → P c) → AreStatements channels registers written ss → AllByRecursion StatementHas ss
  statements_have channels registers written [] low h = tt
  statements_have channels registers written (sync r t ∷ ss) low h = (
    record { term = event_spelled (record { written = written; level = 0; channels = channels }) t low h.1; few = h.2.few_fresh },
    statements_have channels registers (with_register written r) ss low h.3,
  )
  statements_have channels registers written (emit e ∷ ss) low h =
      (expression_spelled (record { written = written; level = 0; channels = channels }) e low h.0, statements_have channels registers written ss low h.1)
  statements_have channels registers written (repeat times count ∷ ss) low h = (tt, statements_have channels registers written ss low h.1)

  all_append : (xs ys : List Step) → AllByRecursion StepHas xs → AllByRecursion StepHas ys → AllByRecursion StepHas (xs ++ ys)
  all_append [] ys hx hy = hy
  all_append (x ∷ xs) ys hx hy = (hx.0, all_append xs ys hx.1 hy)

  all_take : (n : ℕ) (ss : List Statement) → AllByRecursion StatementHas ss → AllByRecursion StatementHas (take n ss)
  all_take zero [] h = tt
  all_take (suc n) [] h = tt
  all_take zero (s ∷ ss) h = tt
  all_take (suc n) (s ∷ ss) h = (h.0, all_take n ss h.1)

  steps_have : (at : Site) (s : Statement) → StatementHas s → AllByRecursion StepHas (steps_of at s)
  steps_have at (sync r t) h = (h, tt)
  steps_have at (emit e) h = (h, tt)
  steps_have at (repeat times count) h = tt

  pass_has : (number pass : ℕ) (ss : List Statement) → AllByRecursion StatementHas ss → AllByRecursion StepHas (pass_over number pass ss)
  pass_has number pass [] h = tt
  pass_has number pass (s ∷ ss) h =
      all_append (steps_of (site_at number pass) s) (pass_over (suc number) pass ss) (steps_have (site_at number pass) s h.0) (pass_has (suc number) pass ss h.1)

  passes_have : (more number pass : ℕ) (body : List Statement) → AllByRecursion StatementHas body → AllByRecursion StepHas (passes_over more number pass body)
  passes_have zero number pass body h = tt
  passes_have (suc more) number pass body h =
      all_append (pass_over number pass body) (passes_over more number (suc pass) body) (pass_has number pass body h) (passes_have more number (suc pass) body h)

  flat_has : (number behind : ℕ) (ss : List Statement) → AllByRecursion StatementHas ss → AllByRecursion StepHas (flat_from number behind ss)
  flat_has number behind [] h = tt
  flat_has number (suc behind) (s ∷ ss) h = flat_has (suc number) behind ss h.1
  flat_has number zero (sync r t ∷ ss) h = (h.0, flat_has (suc number) zero ss h.1)
  flat_has number zero (emit e ∷ ss) h = (h.0, flat_has (suc number) zero ss h.1)
  flat_has number zero (repeat times count ∷ ss) h =
      all_append (passes_over times (suc number) 0 (take count ss)) (flat_from (suc number) count ss) (passes_have times (suc number) 0
      (take count ss) (all_take count ss h.1)) (flat_has (suc number) count ss h.1)

  -- ---- where a thread has come to

  abbrev DoingHas : Doing → Type 0
  DoingHas (synchronises at t) = EventHas t
  DoingHas ends = Unit {0}
  DoingHas (has_raised v) = ValueFits P v

  record ReachedHas (r : Reached) : Type 0 where
    pub emitted : AllByRecursion (ValueFits P) r.emitted
    pub does : DoingHas r.does

  abbrev Keeps : (Variable → Variable) → Type 0
  Keeps by = (x : Variable) → VariableFits P x → VariableFits P (by x)

  holds : (r : ℕ) (v : List Atom) (by : Variable → Variable) → ValueFits P v → Keeps by → Keeps (holding r v by)
  holds r v by h kept (register q) hx = at (eqb q r)
    where
      at : (b : Bool) → VariableFits P (cond b (known v) (by (register q)))
      at true = h
      at false = kept (register q) hx
  holds r v by h kept (name n) hx = kept (name n) hx
  holds r v by h kept (known w) hx = kept (known w) hx

  values_append : (vs : List (List Atom)) (v : List Atom) → AllByRecursion (ValueFits P) vs → ValueFits P v → AllByRecursion (ValueFits P) (vs ++ v ∷ [])
  values_append [] v hs h = (h, tt)
  values_append (w ∷ ws) v hs h = (hs.0, values_append ws v hs.1 h)

  emits_has : (r : Result (List Atom) Trap) (emitted : List (List Atom)) (go : List (List Atom) → Reached) → ((v : List Atom) → r ≡ Ok v → ValueFits P v) → AllByRecursion (ValueFits P) emitted
      → ((more : List (List Atom)) → AllByRecursion (ValueFits P) more → ReachedHas (go more)) → ReachedHas (emits_or r emitted go)
  emits_has (Ok v) emitted go value he rest = rest (emitted ++ v ∷ []) (values_append emitted v he (value v refl))
  emits_has (Err t) emitted go value he rest = record { emitted = he; does = trap_has P t }

  reached_has : (by : Variable → Variable) (emitted : List (List Atom)) (steps : List Step) (outs : List Outcome) → Keeps by → AllByRecursion (ValueFits P) emitted
      → AllByRecursion StepHas steps → AllByRecursion (OutcomeFits P) outs → ReachedHas (reached_by by emitted steps outs)
  reached_has by emitted [] outs kept he hs ho = record { emitted = he; does = tt }
  reached_has by emitted (emitting at e ∷ rest) outs kept he hs ho =
      emits_has (value_of (in_expression by e)) emitted (λ more. reached_by by more rest outs)
      (λ v is. value_has P (in_expression by e) v (expression_by P by kept e hs.0) is) he (λ more hm. reached_has by more rest outs kept hm hs.1 ho)
  reached_has by emitted (syncing at r t ∷ rest) [] kept he hs ho = record {
    emitted = he;
    does = record { term = term_by P by kept t hs.0.term; few = omega (arith, counted-replaced one_fresh (λ a b. a + b) fresh_sees by t, hs.0.few) };
  }
  reached_has by emitted (syncing at r t ∷ rest) (Gives v ∷ outs) kept he hs ho = reached_has (holding r v by) emitted rest outs (holds r v by ho.0 kept) he hs.1 ho.1
  reached_has by emitted (syncing at r t ∷ rest) (Raises v ∷ outs) kept he hs ho = record { emitted = he; does = ho.0 }

  -- ---- wishes

  abbrev pub WishHas : Wish → Type 0
  WishHas (syncs t) = EventHas t
  WishHas (done values) = AllByRecursion (ValueFits P) values
  WishHas (raised v) = ValueFits P v

  wish_of_has : (emitted : List (List Atom)) (does : Doing) → AllByRecursion (ValueFits P) emitted → DoingHas does → WishHas (wish_of emitted does)
  wish_of_has emitted (synchronises at t) he hd = hd
  wish_of_has emitted ends he hd = he
  wish_of_has emitted (has_raised v) he hd = hd

  pub wish_has : (channels : ℕ) (t : Thread) (outs : List Outcome) → ((c : ℕ) → c < channels → P c) → IsThread channels t → AllByRecursion (OutcomeFits P) outs → WishHas (wish t outs)
  wish_has channels t outs low is ho =
      let steps = flat_has 1 0 t.statements (statements_have channels _ 0 t.statements low is.in_order) in
      let r = reached_has (λ x. x) [] (flat t) outs (λ x h. h) tt steps ho in
      wish_of_has (reached t outs).emitted (reached t outs).does r.emitted r.does
