-- How a code keeps its nodes: small slots, and one list of the calculations of all of them. No public clause cites this module.
use Rattle.std.specs.Prelude.{ℕ, ◌+◌, ◌*◌, ◌≤◌, List, [], ◌∷◌, length, map, take, drop}
use Rattle.std.specs.List.{AllByRecursion}
use Rattle.te_terms.specs.declared.expr.Operand.{Operand}
use Rattle.te_terms.specs.declared.expr.Calc.{Calc}
use Rattle.te_terms.specs.declared.expr.Calc.TheVariants as calcs
use Rattle.te_terms.specs.declared.expr.Expr.{Expr}
use Rattle.te_terms.specs.declared.expr.Expr.TheVariants as exprs
use Rattle.te_terms.specs.declared.code.Node.{Node}
use Rattle.te_terms.specs.declared.code.Node.TheVariants as nodes
use Rattle.te_terms.specs.declared.code.Mark.{Mark}
use Rattle.te_terms.specs.declared.slot.Outline.{Outline}
use Rattle.te_terms.specs.declared.slot.Outline.TheVariants as outlines
use Rattle.te_terms.specs.declared.slot.Form.{Form}
use Rattle.te_terms.specs.declared.slot.Form.TheVariants as forms
use Rattle.te_terms.specs.declared.slot.Slot.{Slot}
use Rattle.te_terms.specs.Limits.{most_atoms}
use Rattle.te_terms.specs.Kept.{IsKept}

-- ---- a node taken apart

-- an expression but for its calculations
abbrev pub outline_of : Expr → Outline
outline_of (exprs.Whole x) = outlines.Whole x
outline_of (exprs.Tuple cs) = outlines.Tuple (length cs)

-- a node but for its calculations
abbrev pub form_of : Node → Form
form_of (nodes.Always e) = forms.Always (outline_of e)
form_of nodes.Never = forms.Never
form_of nodes.Fresh = forms.Fresh
form_of (nodes.Throw e) = forms.Throw (outline_of e)
form_of (nodes.Send p e) = forms.Send (outline_of e)
form_of (nodes.Recv p) = forms.Recv
form_of (nodes.Then a b) = forms.Then a b
form_of (nodes.Choose a b) = forms.Choose a b
form_of (nodes.Catch a b) = forms.Catch a b
form_of (nodes.If c a b) = forms.If c.test a b

-- the calculations of an expression, and of a node: its own primitives, and then those of its expression
abbrev pub listed_in : Expr → List Calc
listed_in (exprs.Whole x) = []
listed_in (exprs.Tuple cs) = cs

abbrev pub calculations_of : Node → List Calc
calculations_of (nodes.Always e) = listed_in e
calculations_of (nodes.Throw e) = listed_in e
calculations_of (nodes.Send p e) = calcs.One p ∷ listed_in e
calculations_of (nodes.Recv p) = calcs.One p ∷ []
calculations_of (nodes.If c a b) = calcs.One c.left ∷ calcs.One c.right ∷ []
calculations_of _ = []

-- ---- put together again

-- the primitive of a calculation that is one
abbrev pub primitive_in : Calc → Operand
primitive_in (calcs.One p) = p
primitive_in (calcs.Op o p q) = p

abbrev pub expression_in : Outline → List Calc → Expr
expression_in (outlines.Whole x) cs = exprs.Whole x
expression_in (outlines.Tuple n) cs = exprs.Tuple (take n cs)

-- the node whose calculations stand first in the list
abbrev pub node_in : Form → List Calc → Node
node_in (forms.Always e) cs = nodes.Always (expression_in e cs)
node_in (forms.Throw e) cs = nodes.Throw (expression_in e cs)
node_in (forms.Send e) (c ∷ cs) = nodes.Send (primitive_in c) (expression_in e cs)
node_in forms.Recv (c ∷ cs) = nodes.Recv (primitive_in c)
node_in (forms.Then a b) cs = nodes.Then a b
node_in (forms.Choose a b) cs = nodes.Choose a b
node_in (forms.Catch a b) cs = nodes.Catch a b
node_in (forms.If t a b) (c ∷ d ∷ cs) = nodes.If record { test = t; left = primitive_in c; right = primitive_in d } a b
node_in forms.Fresh cs = nodes.Fresh
node_in _ _ = nodes.Never

-- the node that a slot keeps, and the nodes of a code
abbrev pub node_of : List Calc → Slot → Node
node_of list slot = node_in slot.form (drop slot.from list)

abbrev pub nodes_of : List Slot → List Calc → List Node
nodes_of slots list = map (node_of list) slots

-- ---- stretches

-- how many calculations an expression has, and a node
abbrev pub count_in : Outline → ℕ
count_in (outlines.Whole x) = 0
count_in (outlines.Tuple n) = n

abbrev pub needed : Form → ℕ
needed (forms.Always e) = count_in e
needed (forms.Throw e) = count_in e
needed (forms.Send e) = 1 + count_in e
needed forms.Recv = 1
needed (forms.If t a b) = 2
needed _ = 0

-- at most 4 of them are an expression's
abbrev pub IsFew : Form → Type 0
IsFew (forms.Always e) = count_in e ≤ most_atoms
IsFew (forms.Throw e) = count_in e ≤ most_atoms
IsFew (forms.Send e) = count_in e ≤ most_atoms
IsFew _ = Unit {0}

-- a slot's stretch lies within the list
pub record IsWithin (list : List Calc) (slot : Slot) : Type 0 where
  pub within : slot.from + needed slot.form ≤ length list
  pub few : IsFew slot.form

-- each slot's does, and the list is no longer than the slots need
pub record IsStored (slots : List Slot) (list : List Calc) : Type 0 where
  pub each : AllByRecursion (IsWithin list) slots
  pub short : length list ≤ 5 * length slots

-- what a code keeps
pub record IsCode (slots : List Slot) (list : List Calc) (marks : List Mark) (fresh : ℕ) : Type 0 where
  pub kept : IsKept (nodes_of slots list) marks fresh
  pub stored : IsStored slots list
