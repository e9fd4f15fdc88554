-- Counts over the nodes of a term: what leaves them as they are, and what they are over two parts.
use Rattle.std.proofs.Common.{◌≡◌, ℕ, zero, suc, ◌+◌, ◌≤◌, List, [], ◌∷◌, Option, Some, None, Result, Ok, Err, refl, ap, ◌∙◌, arith}
use Rattle.std.specs.Prelude.{slice_get}
use Rattle.te_terms.specs.declared.value.Atom.{Atom}
use Rattle.te_terms.specs.declared.value.Trap.{Trap}
use Rattle.te_terms.specs.declared.code.Node.{Node}
use Rattle.te_terms.specs.declared.code.Node.TheVariants as nodes
use Rattle.te_terms.specs.Expressions.{Variable, value_of}
use Rattle.te_terms.specs.Terms.{Term, always, never, fresh, throw, send, recv, and_then, choose, catch, when, replaced}
use Rattle.te_terms.specs.Measures.{counted, total, one_each, weighing, one_fresh, one_final, one_with_value, node_count, final_count, weight, choice_count, send_count, receive_count}
use Rattle.te_terms.specs.Codes.{over, term_within, term_at, term_under}
use Rattle.te_terms.specs.Shape.{children, term_over}
use Rattle.te_terms.specs.Steps.{head, with_head}

joined : (join : ℕ → ℕ → ℕ) (a b c d e f : ℕ) → a ≡ d → b ≡ e → c ≡ f → a + join b c ≡ d + join e f
joined join a b c d e f p q r = rw (p, q, r) refl

-- ---- counts of forms alone

-- what a node counts depends on its form alone
pub record SeesForms (own : Term → ℕ) : Type 0 where
  pub replaced_too : (by : Variable → Variable) (t : Term) → own (replaced by t) ≡ own t
  pub level_too : (f g : ℕ → ℕ → Term) (l m : ℕ) (o : Option Node) → own (over f l o) ≡ own (over g m o)

pub each_sees : SeesForms one_each
each_sees = record { replaced_too = λ by t. refl; level_too = λ f g l m o. refl }

weighing_replaced : (c s r : ℕ) (by : Variable → Variable) (t : Term) → weighing c s r (replaced by t) ≡ weighing c s r t
weighing_replaced c s r by (always e) = refl
weighing_replaced c s r by never = refl
weighing_replaced c s r by fresh = refl
weighing_replaced c s r by (throw e) = refl
weighing_replaced c s r by (send p e) = refl
weighing_replaced c s r by (recv p) = refl
weighing_replaced c s r by (and_then e n f) = refl
weighing_replaced c s r by (choose e f) = refl
weighing_replaced c s r by (catch e n h) = refl
weighing_replaced c s r by (when test p q e f) = refl

weighing_levels : (c s r : ℕ) (f g : ℕ → ℕ → Term) (l m : ℕ) (o : Option Node) → weighing c s r (over f l o) ≡ weighing c s r (over g m o)
weighing_levels c s r f g l m None = refl
weighing_levels c s r f g l m (Some (nodes.Always e)) = refl
weighing_levels c s r f g l m (Some nodes.Never) = refl
weighing_levels c s r f g l m (Some nodes.Fresh) = refl
weighing_levels c s r f g l m (Some (nodes.Throw e)) = refl
weighing_levels c s r f g l m (Some (nodes.Send p e)) = refl
weighing_levels c s r f g l m (Some (nodes.Recv p)) = refl
weighing_levels c s r f g l m (Some (nodes.Then a b)) = refl
weighing_levels c s r f g l m (Some (nodes.Choose a b)) = refl
weighing_levels c s r f g l m (Some (nodes.Catch a b)) = refl
weighing_levels c s r f g l m (Some (nodes.If p a b)) = refl

pub weighing_sees : (c s r : ℕ) → SeesForms (weighing c s r)
weighing_sees c s r = record { replaced_too = weighing_replaced c s r; level_too = weighing_levels c s r }

fresh_replaced : (by : Variable → Variable) (t : Term) → one_fresh (replaced by t) ≡ one_fresh t
fresh_replaced by (always e) = refl
fresh_replaced by never = refl
fresh_replaced by fresh = refl
fresh_replaced by (throw e) = refl
fresh_replaced by (send p e) = refl
fresh_replaced by (recv p) = refl
fresh_replaced by (and_then e n f) = refl
fresh_replaced by (choose e f) = refl
fresh_replaced by (catch e n h) = refl
fresh_replaced by (when test p q e f) = refl

fresh_levels : (f g : ℕ → ℕ → Term) (l m : ℕ) (o : Option Node) → one_fresh (over f l o) ≡ one_fresh (over g m o)
fresh_levels f g l m None = refl
fresh_levels f g l m (Some (nodes.Always e)) = refl
fresh_levels f g l m (Some nodes.Never) = refl
fresh_levels f g l m (Some nodes.Fresh) = refl
fresh_levels f g l m (Some (nodes.Throw e)) = refl
fresh_levels f g l m (Some (nodes.Send p e)) = refl
fresh_levels f g l m (Some (nodes.Recv p)) = refl
fresh_levels f g l m (Some (nodes.Then a b)) = refl
fresh_levels f g l m (Some (nodes.Choose a b)) = refl
fresh_levels f g l m (Some (nodes.Catch a b)) = refl
fresh_levels f g l m (Some (nodes.If c a b)) = refl

pub fresh_sees : SeesForms one_fresh
fresh_sees = record { replaced_too = fresh_replaced; level_too = fresh_levels }

-- replacing variables leaves such a count
pub counted-replaced : (own : Term → ℕ) (join : ℕ → ℕ → ℕ) → SeesForms own → (by : Variable → Variable) (t : Term) → counted own join (replaced by t) ≡ counted own join t
counted-replaced own join sees by (always e) = sees.replaced_too by (always e)
counted-replaced own join sees by never = refl
counted-replaced own join sees by fresh = refl
counted-replaced own join sees by (throw e) = sees.replaced_too by (throw e)
counted-replaced own join sees by (send p e) = sees.replaced_too by (send p e)
counted-replaced own join sees by (recv p) = sees.replaced_too by (recv p)
counted-replaced own join sees by (and_then e n f) =
    joined join _ _ _ _ _ _ (sees.replaced_too by (and_then e n f)) (counted-replaced own join sees by e) (counted-replaced own join sees by f)
counted-replaced own join sees by (choose e f) =
    joined join _ _ _ _ _ _ (sees.replaced_too by (choose e f)) (counted-replaced own join sees by e) (counted-replaced own join sees by f)
counted-replaced own join sees by (catch e n h) =
    joined join _ _ _ _ _ _ (sees.replaced_too by (catch e n h)) (counted-replaced own join sees by e) (counted-replaced own join sees by h)
counted-replaced own join sees by (when test p q e f) =
    joined join _ _ _ _ _ _ (sees.replaced_too by (when test p q e f)) (counted-replaced own join sees by e) (counted-replaced own join sees by f)

-- ---- terms under nodes

counted_over : (own : Term → ℕ) (join : ℕ → ℕ → ℕ) → SeesForms own → (f g : ℕ → ℕ → Term) (l m : ℕ) (o : Option Node) →
    ((l m c : ℕ) → counted own join (f l c) ≡ counted own join (g m c)) → counted own join (over f l o) ≡ counted own join (over g m o)
counted_over own join sees f g l m None same = refl
counted_over own join sees f g l m (Some (nodes.Always e)) same = refl
counted_over own join sees f g l m (Some nodes.Never) same = refl
counted_over own join sees f g l m (Some nodes.Fresh) same = refl
counted_over own join sees f g l m (Some (nodes.Throw e)) same = refl
counted_over own join sees f g l m (Some (nodes.Send p e)) same = refl
counted_over own join sees f g l m (Some (nodes.Recv p)) same = refl
counted_over own join sees f g l m (Some (nodes.Then a b)) same =
    joined join _ _ _ _ _ _ (sees.level_too f g l m (Some (nodes.Then a b))) (same l m a) (same (suc l) (suc m) b)
counted_over own join sees f g l m (Some (nodes.Choose a b)) same =
    joined join _ _ _ _ _ _ (sees.level_too f g l m (Some (nodes.Choose a b))) (same l m a) (same l m b)
counted_over own join sees f g l m (Some (nodes.Catch a b)) same =
    joined join _ _ _ _ _ _ (sees.level_too f g l m (Some (nodes.Catch a b))) (same l m a) (same (suc l) (suc m) b)
counted_over own join sees f g l m (Some (nodes.If c a b)) same =
    joined join _ _ _ _ _ _ (sees.level_too f g l m (Some (nodes.If c a b))) (same l m a) (same l m b)

counted_within : (own : Term → ℕ) (join : ℕ → ℕ → ℕ) → SeesForms own → (code : List Node) (n l m i : ℕ) → counted own join (term_within n code l i) ≡ counted own join (term_within n code m i)
counted_within own join sees code zero l m i = refl
counted_within own join sees code (suc n) l m i =
    counted_over own join sees (term_within n code) (term_within n code) l m (slice_get code i) (counted_within own join sees code n)

-- and so does the level
pub counted-level : (own : Term → ℕ) (join : ℕ → ℕ → ℕ) → SeesForms own → (code : List Node) (level i : ℕ) → counted own join (term_at code level i) ≡ counted own join (term_under code i)
counted-level own join sees code level i = counted_within own join sees code (suc i) level 0 i

-- a node without children counts for itself
pub counted_leaf : (own : Term → ℕ) (join : ℕ → ℕ → ℕ) (code : List Node) (node : Node) → children node ≡ [] → counted own join (term_over code node) ≡ own (term_over code node)
counted_leaf own join code (nodes.Always x) e = refl
counted_leaf own join code nodes.Never e = refl
counted_leaf own join code nodes.Fresh e = refl
counted_leaf own join code (nodes.Throw x) e = refl
counted_leaf own join code (nodes.Send p x) e = refl
counted_leaf own join code (nodes.Recv p) e = refl
counted_leaf own join code (nodes.Then x y) e = absurd cc
counted_leaf own join code (nodes.Choose x y) e = absurd cc
counted_leaf own join code (nodes.Catch x y) e = absurd cc
counted_leaf own join code (nodes.If c x y) e = absurd cc

two_parts : (own : Term → ℕ) (join : ℕ → ℕ → ℕ) → SeesForms own → (code : List Node) (s l m a b x y : ℕ) → x ∷ y ∷ [] ≡ a ∷ b ∷ [] →
    s + join (counted own join (term_at code l x)) (counted own join (term_at code m y)) ≡ s + join (counted own join (term_under code a)) (counted own join (term_under code b))
two_parts own join sees code s l m a b x y e =
    let p : x ≡ a = cc in
    let q : y ≡ b = cc in
    joined join s _ _ s _ _ refl (counted-level own join sees code l x ∙ ap (λ i. counted own join (term_under code i)) p)
    (counted-level own join sees code m y ∙ ap (λ i. counted own join (term_under code i)) q)

-- and one with two joins what they count
pub counted_two : (own : Term → ℕ) (join : ℕ → ℕ → ℕ) → SeesForms own → (code : List Node) (node : Node) (a b : ℕ) → children node ≡ a ∷ b ∷ [] →
    counted own join (term_over code node) ≡ own (term_over code node) + join (counted own join (term_under code a)) (counted own join (term_under code b))
counted_two own join sees code (nodes.Always x) a b e = absurd cc
counted_two own join sees code nodes.Never a b e = absurd cc
counted_two own join sees code nodes.Fresh a b e = absurd cc
counted_two own join sees code (nodes.Throw x) a b e = absurd cc
counted_two own join sees code (nodes.Send p x) a b e = absurd cc
counted_two own join sees code (nodes.Recv p) a b e = absurd cc
counted_two own join sees code (nodes.Then x y) a b e = two_parts own join sees code _ 0 1 a b x y e
counted_two own join sees code (nodes.Choose x y) a b e = two_parts own join sees code _ 0 0 a b x y e
counted_two own join sees code (nodes.Catch x y) a b e = two_parts own join sees code _ 0 1 a b x y e
counted_two own join sees code (nodes.If c x y) a b e = two_parts own join sees code _ 0 0 a b x y e

-- ---- bounds

pub some_nodes : (t : Term) → 1 ≤ node_count t
some_nodes (always e) = omega arith
some_nodes never = omega arith
some_nodes fresh = omega arith
some_nodes (throw e) = omega arith
some_nodes (send p e) = omega arith
some_nodes (recv p) = omega arith
some_nodes (and_then e n f) = omega arith
some_nodes (choose e f) = omega arith
some_nodes (catch e n h) = omega arith
some_nodes (when test p q e f) = omega arith

-- where no node counts for more than one, there are as many nodes at least
no_more : (own : Term → ℕ) → ((t : Term) → own t ≤ 1) → (t : Term) → total own t ≤ node_count t
no_more own one (always e) = one (always e)
no_more own one never = one never
no_more own one fresh = one fresh
no_more own one (throw e) = one (throw e)
no_more own one (send p e) = one (send p e)
no_more own one (recv p) = one (recv p)
no_more own one (and_then e n f) = omega (arith, one (and_then e n f), no_more own one e, no_more own one f)
no_more own one (choose e f) = omega (arith, one (choose e f), no_more own one e, no_more own one f)
no_more own one (catch e n h) = omega (arith, one (catch e n h), no_more own one e, no_more own one h)
no_more own one (when test p q e f) = omega (arith, one (when test p q e f), no_more own one e, no_more own one f)

value_once : (r : Result (List Atom) Trap) → one_with_value r ≤ 1
value_once (Ok v) = omega arith
value_once (Err t) = omega arith

final_once : (t : Term) → one_final t ≤ 1
final_once (always e) = value_once (value_of e)
final_once (throw e) = value_once (value_of e)
final_once _ = omega arith

pub finals_are_nodes : (t : Term) → final_count t ≤ node_count t
finals_are_nodes t = no_more one_final final_once t

weighing_once : (c s r : ℕ) → c ≤ 1 → s ≤ 1 → r ≤ 1 → (t : Term) → weighing c s r t ≤ 1
weighing_once c s r few few' few'' (choose e f) = few
weighing_once c s r few few' few'' (send p e) = few'
weighing_once c s r few few' few'' (recv p) = few''
weighing_once c s r few few' few'' _ = omega arith

pub weights_are_nodes : (c s r : ℕ) → c ≤ 1 → s ≤ 1 → r ≤ 1 → (t : Term) → total (weighing c s r) t ≤ node_count t
weights_are_nodes c s r few few' few'' t = no_more (weighing c s r) (weighing_once c s r few few' few'') t

-- the weight is the choices, the sends and the receives
pub weight-by_kind : (t : Term) → weight t ≡ choice_count t + (send_count t + receive_count t)
weight-by_kind (always e) = refl
weight-by_kind never = refl
weight-by_kind fresh = refl
weight-by_kind (throw e) = refl
weight-by_kind (send p e) = refl
weight-by_kind (recv p) = refl
weight-by_kind (and_then e n f) = omega (arith, weight-by_kind e, weight-by_kind f)
weight-by_kind (choose e f) = omega (arith, weight-by_kind e, weight-by_kind f)
weight-by_kind (catch e n h) = omega (arith, weight-by_kind e, weight-by_kind h)
weight-by_kind (when test p q e f) = omega (arith, weight-by_kind e, weight-by_kind f)

-- ---- another head

-- what `then` and `catch` count doesn't depend on their first part
pub record SeesNoFirst (own : Term → ℕ) : Type 0 where
  pub then_too : (e g : Term) (n : ℕ) (f : Term) → own (and_then e n f) ≡ own (and_then g n f)
  pub catch_too : (e g : Term) (n : ℕ) (h : Term) → own (catch e n h) ≡ own (catch g n h)

-- the sum with another head in the place of the head
pub total-with_head : (own : Term → ℕ) → SeesNoFirst own → (u t : Term) → total own (with_head u t) + total own (head t) ≡ total own t + total own u
total-with_head own sees u (always e) = omega arith
total-with_head own sees u never = omega arith
total-with_head own sees u fresh = omega arith
total-with_head own sees u (throw e) = omega arith
total-with_head own sees u (send p e) = omega arith
total-with_head own sees u (recv p) = omega arith
total-with_head own sees u (and_then e n f) = omega (arith, total-with_head own sees u e, sees.then_too (with_head u e) e n f)
total-with_head own sees u (choose e f) = omega arith
total-with_head own sees u (catch e n h) = omega (arith, total-with_head own sees u e, sees.catch_too (with_head u e) e n h)
total-with_head own sees u (when test p q e f) = omega arith
