-- Sizes of a node that is appended, and of terms whose variables are replaced.
use Rattle.std.proofs.Common.{◌≡◌, ℕ, ◌+◌, max, List, [], ◌∷◌, refl, arith}
use Rattle.te_terms.specs.declared.code.Node.{Node}
use Rattle.te_terms.specs.declared.code.Node.TheVariants as nodes
use Rattle.te_terms.specs.Expressions.{Variable}
use Rattle.te_terms.specs.Terms.{Term, replaced}
use Rattle.te_terms.specs.Measures.{one_each, weighing, one_fresh, height, total, choice_count, send_count, receive_count, counts_of, node_count, fresh_count}
use Rattle.te_terms.specs.Limits.{IsWithinLimits}
use Rattle.te_terms.specs.Codes.{term_under}
use Rattle.te_terms.specs.Shape.{children, one_if_fresh, term_over}
use Rattle.te_terms.specs.Kept.{own_weighing}
use Rattle.te_terms.proofs.Measured.{each_sees, weighing_sees, fresh_sees, counted-replaced, counted_leaf, counted_two}

abbrev plus : ℕ → ℕ → ℕ
plus a b = a + b

weighed : (c s r : ℕ) (code : List Node) (node : Node) → weighing c s r (term_over code node) ≡ own_weighing c s r node
weighed c s r code (nodes.Always x) = refl
weighed c s r code nodes.Never = refl
weighed c s r code nodes.Fresh = refl
weighed c s r code (nodes.Throw x) = refl
weighed c s r code (nodes.Send p x) = refl
weighed c s r code (nodes.Recv p) = refl
weighed c s r code (nodes.Then x y) = refl
weighed c s r code (nodes.Choose x y) = refl
weighed c s r code (nodes.Catch x y) = refl
weighed c s r code (nodes.If p x y) = refl

freshened : (code : List Node) (node : Node) → one_fresh (term_over code node) ≡ one_if_fresh node
freshened code (nodes.Always x) = refl
freshened code nodes.Never = refl
freshened code nodes.Fresh = refl
freshened code (nodes.Throw x) = refl
freshened code (nodes.Send p x) = refl
freshened code (nodes.Recv p) = refl
freshened code (nodes.Then x y) = refl
freshened code (nodes.Choose x y) = refl
freshened code (nodes.Catch x y) = refl
freshened code (nodes.If c x y) = refl

-- the sizes of a node over terms of these sizes
pub record Sizes (code : List Node) (node : Node) (nodes choices sends receives heights news : ℕ) : Type 0 where
  pub nodes_are : node_count (term_over code node) ≡ 1 + nodes
  pub choices_are : choice_count (term_over code node) ≡ own_weighing 1 0 0 node + choices
  pub sends_are : send_count (term_over code node) ≡ own_weighing 0 1 0 node + sends
  pub receives_are : receive_count (term_over code node) ≡ own_weighing 0 0 1 node + receives
  pub height_is : height (term_over code node) ≡ 1 + heights
  pub fresh_are : fresh_count (term_over code node) ≡ one_if_fresh node + news

pub leaf_sizes : (code : List Node) (node : Node) → children node ≡ [] → Sizes code node 0 0 0 0 0 0
leaf_sizes code node e = record {
  nodes_are = counted_leaf one_each plus code node e;
  choices_are = omega (arith, counted_leaf (weighing 1 0 0) plus code node e, weighed 1 0 0 code node);
  sends_are = omega (arith, counted_leaf (weighing 0 1 0) plus code node e, weighed 0 1 0 code node);
  receives_are = omega (arith, counted_leaf (weighing 0 0 1) plus code node e, weighed 0 0 1 code node);
  height_is = counted_leaf one_each max code node e;
  fresh_are = omega (arith, counted_leaf one_fresh plus code node e, freshened code node);
}

pub two_sizes : (code : List Node) (node : Node) (a b : ℕ) → children node ≡ a ∷ b ∷ [] →
    Sizes code node (node_count (term_under code a) + node_count (term_under code b)) (choice_count (term_under code a) + choice_count (term_under code b))
    (send_count (term_under code a) + send_count (term_under code b)) (receive_count (term_under code a) + receive_count (term_under code b))
    (max (height (term_under code a)) (height (term_under code b))) (fresh_count (term_under code a) + fresh_count (term_under code b))
two_sizes code node a b e = record {
  nodes_are = counted_two one_each plus each_sees code node a b e;
  choices_are = omega (arith, counted_two (weighing 1 0 0) plus (weighing_sees 1 0 0) code node a b e, weighed 1 0 0 code node);
  sends_are = omega (arith, counted_two (weighing 0 1 0) plus (weighing_sees 0 1 0) code node a b e, weighed 0 1 0 code node);
  receives_are = omega (arith, counted_two (weighing 0 0 1) plus (weighing_sees 0 0 1) code node a b e, weighed 0 0 1 code node);
  height_is = counted_two one_each max each_sees code node a b e;
  fresh_are = omega (arith, counted_two one_fresh plus fresh_sees code node a b e, freshened code node);
}

-- ---- replacing variables leaves the sizes

weighed-replaced : (c s r : ℕ) (by : Variable → Variable) (t : Term) → total (weighing c s r) (replaced by t) ≡ total (weighing c s r) t
weighed-replaced c s r by t = counted-replaced (weighing c s r) plus (weighing_sees c s r) by t

pub counts-replaced : (by : Variable → Variable) (t : Term) → counts_of (replaced by t) ≡ counts_of t
counts-replaced by t = rw (weighed-replaced 1 0 0 by t, weighed-replaced 0 1 0 by t, weighed-replaced 0 0 1 by t) refl

pub limits_replaced : (by : Variable → Variable) (t : Term) → IsWithinLimits t → IsWithinLimits (replaced by t)
limits_replaced by t within = record {
  low = omega (arith, within.low, counted-replaced one_each max each_sees by t);
  few = omega (arith, within.few, counted-replaced one_each plus each_sees by t);
  few_fresh = omega (arith, within.few_fresh, counted-replaced one_fresh plus fresh_sees by t);
}
