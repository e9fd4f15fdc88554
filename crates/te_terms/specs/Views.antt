-- Nodes as a code lends them: their calculations lie in the code's own list.
use Rattle.std.specs.Prelude.{◌≤◌, length}
use Rattle.te_terms.specs.declared.expr.Expr.{Expr}
use Rattle.te_terms.specs.declared.expr.Expr.TheVariants as exprs
use Rattle.te_terms.specs.declared.code.Node.{Node}
use Rattle.te_terms.specs.declared.code.Node.TheVariants as nodes
use Rattle.te_terms.specs.declared.lent.ExprView.{ExprView}
use Rattle.te_terms.specs.declared.lent.ExprView.TheVariants as expr_views
use Rattle.te_terms.specs.declared.lent.NodeView.{NodeView}
use Rattle.te_terms.specs.declared.lent.NodeView.TheVariants as views
use Rattle.te_terms.specs.Limits.{most_atoms}

-- the expression that is lent
abbrev pub expression_seen : ExprView → Expr
expression_seen (expr_views.Whole x) = exprs.Whole x
expression_seen (expr_views.Tuple cs) = exprs.Tuple cs.now

-- the node that is lent
abbrev pub node_seen : NodeView → Node
node_seen (views.Always e) = nodes.Always (expression_seen e)
node_seen views.Never = nodes.Never
node_seen (views.Throw e) = nodes.Throw (expression_seen e)
node_seen (views.Send p e) = nodes.Send p (expression_seen e)
node_seen (views.Recv p) = nodes.Recv p
node_seen (views.Then a b) = nodes.Then a b
node_seen (views.Choose a b) = nodes.Choose a b
node_seen (views.Catch a b) = nodes.Catch a b
node_seen (views.If c a b) = nodes.If c a b
node_seen views.Fresh = nodes.Fresh

-- a tuple has at most 4 calculations
abbrev pub IsShort : ExprView → Type 0
IsShort (expr_views.Whole x) = Unit {0}
IsShort (expr_views.Tuple cs) = length cs.now ≤ most_atoms

abbrev pub IsShortNode : NodeView → Type 0
IsShortNode (views.Always e) = IsShort e
IsShortNode (views.Throw e) = IsShort e
IsShortNode (views.Send p e) = IsShort e
IsShortNode _ = Unit {0}
