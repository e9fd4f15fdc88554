-- Replacing the variables of an expression twice is replacing them once, and a replacement that keeps the variables of a scope
-- changes nothing there.
use Rattle.std.proofs.Common.{◌≡◌, ℕ, ◌<◌, List, [], ◌∷◌, map, refl}
use Rattle.std.specs.List.{AllByRecursion}
use Rattle.te_terms.specs.Expressions.{Variable, register, name, known, Primitive, int, chan, part, Calculation, one, both, Expression, whole, tuple, in_primitive, in_calculation, in_expression}
use Rattle.te_terms.specs.Terms.{Term, always, never, fresh, throw, send, recv, and_then, choose, catch, when, replaced}
use Rattle.te_terms.proofs.BindingLaws.{replaced_twice}
use Rattle.te_script.specs.Scripts.{Scope, one_deeper, IsVariable, IsPrimitive, IsCalculation, IsExpression, IsEvent}
use Rattle.te_terms.proofs.BindingLaws.{expression_twice}

-- ---- nothing changes where each variable in scope is kept

-- each register that was written, and each name, is kept
pub record Keeps (f : Variable → Variable) (written : ℕ) : Type 0 where
  pub registers : (r : ℕ) → r < written → f (register r) ≡ register r
  pub names : (n : ℕ) → f (name n) ≡ name n

variable_kept : (f : Variable → Variable) (s : Scope) (x : Variable) → Keeps f s.written → IsVariable s x → f x ≡ x
variable_kept f s (register r) k h = k.registers r h
variable_kept f s (name n) k h = k.names n
variable_kept f s (known v) k h = absurd h

primitive_kept : (f : Variable → Variable) (s : Scope) (p : Primitive) → Keeps f s.written → IsPrimitive s p → in_primitive f p ≡ p
primitive_kept f s (int z) k h = refl
primitive_kept f s (chan c) k h = refl
primitive_kept f s (part x d) k h = λ i. part (variable_kept f s x k h.0 i) d

calculation_kept : (f : Variable → Variable) (s : Scope) (c : Calculation) → Keeps f s.written → IsCalculation s c → in_calculation f c ≡ c
calculation_kept f s (one p) k h = λ i. one (primitive_kept f s p k h i)
calculation_kept f s (both o p q) k h = λ i. both o (primitive_kept f s p k h.0 i) (primitive_kept f s q k h.1 i)

calculations_kept : (f : Variable → Variable) (s : Scope) (cs : List Calculation) → Keeps f s.written → AllByRecursion (IsCalculation s) cs → map (in_calculation f) cs ≡ cs
calculations_kept f s [] k h = refl
calculations_kept f s (c ∷ cs) k h = λ i. calculation_kept f s c k h.0 i ∷ calculations_kept f s cs k h.1 i

pub expression_kept : (f : Variable → Variable) (s : Scope) (e : Expression) → Keeps f s.written → IsExpression s e → in_expression f e ≡ e
expression_kept f s (whole x) k h = λ i. whole (variable_kept f s x k h i)
expression_kept f s (tuple cs) k h = λ i. tuple (calculations_kept f s cs k h.0 i)

pub event_kept : (f : Variable → Variable) (s : Scope) (t : Term) → Keeps f s.written → IsEvent s t → replaced f t ≡ t
event_kept f s (always e) k h = λ i. always (expression_kept f s e k h i)
event_kept f s never k h = refl
event_kept f s fresh k h = refl
event_kept f s (throw e) k h = λ i. throw (expression_kept f s e k h i)
event_kept f s (send p e) k h = λ i. send (primitive_kept f s p k h.0 i) (expression_kept f s e k h.1 i)
event_kept f s (recv p) k h = λ i. recv (primitive_kept f s p k h i)
event_kept f s (and_then e n g) k h = λ i. and_then (event_kept f s e k h.1 i) n (event_kept f (one_deeper s) g k h.2 i)
event_kept f s (choose e g) k h = λ i. choose (event_kept f s e k h.0 i) (event_kept f s g k h.1 i)
event_kept f s (catch e n g) k h = λ i. catch (event_kept f s e k h.1 i) n (event_kept f (one_deeper s) g k h.2 i)
event_kept f s (when test p q e g) k h = λ i. when test (primitive_kept f s p k h.0 i) (primitive_kept f s q k h.1 i) (event_kept f s e k h.2 i) (event_kept f s g k h.3 i)
