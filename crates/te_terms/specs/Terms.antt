-- Events as terms, and the replacing of their variables.
-- Forms and binding after Donnelly and Fluet, Transactional Events, JFP 18(5-6), 2008, made first order; throw, catch, if and fresh are this project's own.
use Rattle.std.specs.Prelude.{ℕ, List, ◌==◌, Some, None, Option, slice_get, if◌then◌else◌}
use Rattle.te_terms.specs.declared.value.Atom.{Atom}
use Rattle.te_terms.specs.declared.expr.Test.{Test}
use Rattle.te_terms.specs.Expressions.{Variable, register, name, known, Primitive, Expression, in_primitive, in_expression}

-- `and_then e n f` is `then e x.f` and `catch e n h` is `catch e x.h`, where x is the inner name of level n
pub data Term : Type 0 where
  always : Expression → Term
  never : Term
  fresh : Term
  throw : Expression → Term
  send : Primitive → Expression → Term
  recv : Primitive → Term
  and_then : Term → ℕ → Term → Term
  choose : Term → Term → Term
  catch : Term → ℕ → Term → Term
  when : Test → Primitive → Primitive → Term → Term → Term

-- the term in which each variable is replaced
abbrev pub replaced : (Variable → Variable) → Term → Term
replaced by (always e) = always (in_expression by e)
replaced by never = never
replaced by fresh = fresh
replaced by (throw e) = throw (in_expression by e)
replaced by (send p e) = send (in_primitive by p) (in_expression by e)
replaced by (recv p) = recv (in_primitive by p)
replaced by (and_then e n f) = and_then (replaced by e) n (replaced by f)
replaced by (choose e f) = choose (replaced by e) (replaced by f)
replaced by (catch e n h) = catch (replaced by e) n (replaced by h)
replaced by (when test p q e f) = when test (in_primitive by p) (in_primitive by q) (replaced by e) (replaced by f)

-- the value for one inner name
abbrev pub name_to : ℕ → List Atom → Variable → Variable
name_to n v (register r) = register r
name_to n v (name m) = if m == n then known v else name m
name_to n v (known w) = known w

-- the binding of inner name n to a value throughout a term
abbrev pub bound : ℕ → List Atom → Term → Term
bound n v t = replaced (name_to n v) t

abbrev pub or_register : Option (List Atom) → ℕ → Variable
or_register (Some v) r = known v
or_register None r = register r

-- the values of the registers, from register 0 on
abbrev pub registers_to : List (List Atom) → Variable → Variable
registers_to regs (register r) = or_register (slice_get regs r) r
registers_to regs (name m) = name m
registers_to regs (known w) = known w

-- the term in which each register is replaced by its value
abbrev pub closed : List (List Atom) → Term → Term
closed regs t = replaced (registers_to regs) t

abbrev pub or_name : Option (List Atom) → ℕ → Variable
or_name (Some v) n = known v
or_name None n = name n

-- the values of the registers, and those of the inner names, from level 0 on
abbrev pub scoped : List (List Atom) → List (List Atom) → Variable → Variable
scoped regs inner (register r) = or_register (slice_get regs r) r
scoped regs inner (name n) = or_name (slice_get inner n) n
scoped regs inner (known w) = known w
