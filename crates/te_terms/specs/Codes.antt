-- How nodes spell terms: the term under a node, at a level.
use Rattle.std.specs.Prelude.{ℕ, zero, suc, List, map, Option, Some, None, slice_get}
use Rattle.te_terms.specs.declared.expr.Var.{Var}
use Rattle.te_terms.specs.declared.expr.Var.TheVariants.{Reg, Inner}
use Rattle.te_terms.specs.declared.expr.Operand.{Operand}
use Rattle.te_terms.specs.declared.expr.Operand.TheVariants as operands
use Rattle.te_terms.specs.declared.expr.Calc.{Calc}
use Rattle.te_terms.specs.declared.expr.Calc.TheVariants as calcs
use Rattle.te_terms.specs.declared.expr.Expr.{Expr}
use Rattle.te_terms.specs.declared.expr.Expr.TheVariants as exprs
use Rattle.te_terms.specs.declared.code.Node.{Node}
use Rattle.te_terms.specs.declared.code.Node.TheVariants as nodes
use Rattle.te_terms.specs.Expressions.{Variable, register, name, Primitive, int, chan, part, Calculation, one, both, Expression, whole, tuple}
use Rattle.te_terms.specs.Terms.{Term, always, never, fresh, throw, send, recv, and_then, choose, catch, when}

abbrev pub variable_of : Var → Variable
variable_of (Reg r) = register r
variable_of (Inner n) = name n

abbrev pub primitive_of : Operand → Primitive
primitive_of (operands.Int z) = int z
primitive_of (operands.Chan c) = chan c
primitive_of (operands.Part x d) = part (variable_of x) d

abbrev pub calculation_of : Calc → Calculation
calculation_of (calcs.One p) = one (primitive_of p)
calculation_of (calcs.Op o p q) = both o (primitive_of p) (primitive_of q)

abbrev pub expression_of : Expr → Expression
expression_of (exprs.Whole x) = whole (variable_of x)
expression_of (exprs.Tuple cs) = tuple (map calculation_of cs)

-- the term of one node, where the terms under its children are given; a second part stands one level up
abbrev pub over : (ℕ → ℕ → Term) → ℕ → Option Node → Term
over under level None = never
over under level (Some (nodes.Always e)) = always (expression_of e)
over under level (Some nodes.Never) = never
over under level (Some nodes.Fresh) = fresh
over under level (Some (nodes.Throw e)) = throw (expression_of e)
over under level (Some (nodes.Send p e)) = send (primitive_of p) (expression_of e)
over under level (Some (nodes.Recv p)) = recv (primitive_of p)
over under level (Some (nodes.Then a b)) = and_then (under level a) level (under (suc level) b)
over under level (Some (nodes.Choose a b)) = choose (under level a) (under level b)
over under level (Some (nodes.Catch a b)) = catch (under level a) level (under (suc level) b)
over under level (Some (nodes.If c a b)) = when c.test (primitive_of c.left) (primitive_of c.right) (under level a) (under level b)

-- a node's children are earlier nodes, so as many rounds as its number and one suffice
abbrev pub term_within : ℕ → List Node → ℕ → ℕ → Term
term_within zero code level i = never
term_within (suc rounds) code level i = over (term_within rounds code) level (slice_get code i)

-- the term under node i, which stands at this level
abbrev pub term_at : List Node → ℕ → ℕ → Term
term_at code level i = term_within (suc i) code level i

-- the term under node i, with its registers not yet replaced
abbrev pub term_under : List Node → ℕ → Term
term_under code i = term_at code 0 i
