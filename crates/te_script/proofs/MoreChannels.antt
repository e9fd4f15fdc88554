-- What is in scope stays so with more channels and more registers written, and a thread that keeps its limits with some channels keeps them with more.
use Rattle.std.proofs.Common.{ℕ, suc, ◌≤◌, List, [], ◌∷◌, arith}
use Rattle.std.specs.List.{AllByRecursion}
use Rattle.te_terms.specs.Expressions.{Variable, register, name, known, Primitive, int, chan, part, Calculation, one, both, Expression, whole, tuple}
use Rattle.te_terms.specs.Terms.{Term, always, never, fresh, throw, send, recv, and_then, choose, catch, when}
use Rattle.te_script.specs.Scripts.{Statement, sync, emit, repeat, Thread, Scope, IsVariable, IsPrimitive, IsCalculation, IsExpression, IsEvent, AreStatements, with_register, IsThread}

abbrev scope : ℕ → ℕ → ℕ → Scope
scope w l m = record { written = w; level = l; channels = m }

module _ (m n w u : ℕ) (more : m ≤ n) (later : w ≤ u) where
  variable : (l : ℕ) (x : Variable) → IsVariable (scope w l m) x → IsVariable (scope u l n) x
  variable l (register r) h = omega arith
  variable l (name k) h = h
  variable l (known v) h = absurd h

  primitive : (l : ℕ) (p : Primitive) → IsPrimitive (scope w l m) p → IsPrimitive (scope u l n) p
  primitive l (int z) h = h
  primitive l (chan c) h = omega arith
  primitive l (part x d) h = (variable l x h.0, h.1)

  calculation : (l : ℕ) (c : Calculation) → IsCalculation (scope w l m) c → IsCalculation (scope u l n) c
  calculation l (one p) h = primitive l p h
  calculation l (both o p q) h = (primitive l p h.0, primitive l q h.1)

  calculations : (l : ℕ) (cs : List Calculation) → AllByRecursion (IsCalculation (scope w l m)) cs → AllByRecursion (IsCalculation (scope u l n)) cs
  calculations l [] h = h
  calculations l (c ∷ cs) h = (calculation l c h.0, calculations l cs h.1)

  pub expression : (l : ℕ) (e : Expression) → IsExpression (scope w l m) e → IsExpression (scope u l n) e
  expression l (whole x) h = variable l x h
  expression l (tuple cs) h = (calculations l cs h.0, h.1)

  pub event : (l : ℕ) (t : Term) → IsEvent (scope w l m) t → IsEvent (scope u l n) t
  event l (always e) h = expression l e h
  event l never h = h
  event l fresh h = h
  event l (throw e) h = expression l e h
  event l (send p e) h = (primitive l p h.0, expression l e h.1)
  event l (recv p) h = primitive l p h
  event l (and_then e k f) h = (h.0, event l e h.1, event (suc l) f h.2)
  event l (choose e f) h = (event l e h.0, event l f h.1)
  event l (catch e k f) h = (h.0, event l e h.1, event (suc l) f h.2)
  event l (when test p q e f) h = (primitive l p h.0, primitive l q h.1, event l e h.2, event l f h.3)

-- statements in order stay so
pub AreStatements-more : (m n registers w : ℕ) (ss : List Statement) → m ≤ n → AreStatements m registers w ss → AreStatements n registers w ss
AreStatements-more m n registers w [] more h = h
AreStatements-more m n registers w (emit e ∷ ss) more h = (expression m n w w more (omega arith) 0 e h.0, AreStatements-more m n registers w ss more h.1)
AreStatements-more m n registers w (sync r t ∷ ss) more h = (h.0, event m n w w more (omega arith) 0 t h.1, h.2, AreStatements-more m n registers (with_register w r) ss more h.3)
AreStatements-more m n registers w (repeat times count ∷ ss) more h = (h.0, AreStatements-more m n registers w ss more h.1)

pub IsThread-more : (m n : ℕ) (t : Thread) → m ≤ n → IsThread m t → IsThread n t
IsThread-more m n t more h = record { registers = h.registers; distinct = h.distinct; statements = h.statements; in_order = AreStatements-more m n _ 0 t.statements more h.in_order }
