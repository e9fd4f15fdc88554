-- Children of a node that is appended: which are free, and how often each number is named then.
use Rattle.std.proofs.Common.{◌≡◌, ◌≢◌, ℕ, ◌+◌, ◌<◌, ◌⊎◌, inl, inr, cond, eqb, zero-add, List, [], ◌∷◌, ◌++◌, length, Option, Some, refl, sym, ap, ◌∙◌, subst, arith}
use Rattle.std.specs.Prelude.{◌==◌}
use Rattle.std.specs.List.{count_by}
use Rattle.std.proofs.lemmas.List.Sums.{sum_by_push}
use Rattle.std.proofs.lemmas.Bool.Decides.{nat_tests}
use Rattle.te_terms.specs.declared.code.Node.{Node}
use Rattle.te_terms.specs.declared.code.Node.TheVariants as nodes
use Rattle.te_terms.specs.Shape.{children, times_in, times_named, HasFreeChildren}
use Rattle.te_terms.specs.Kept.{IsFree, listed}

times_two : (c a b : ℕ) (cs : List ℕ) → cs ≡ a ∷ b ∷ [] → count_by (λ x. x == c) cs ≡ cond (eqb a c) 1 0 + cond (eqb b c) 1 0
times_two c a b cs e = rw (e, zero-add) refl

pub times_named_push : (c : ℕ) (code : List Node) (node : Node) → times_named c (code ++ node ∷ []) ≡ times_named c code + times_in c node
times_named_push c code node = sum_by_push (times_in c) code node

-- a leaf names no child
pub times_none : (c : ℕ) (cs : List ℕ) → cs ≡ [] → count_by (λ x. x == c) cs ≡ 0
times_none c cs e = rw e refl

pub leaf_is_free : (code : List Node) (node : Node) → children node ≡ [] → HasFreeChildren code node
leaf_is_free code node e c h = absurd (omega (arith, times_none c (children node) e))

both_ways : (c a b : ℕ) → ((a ≡ c) × (b ≡ c) × (cond (eqb a c) 1 0 + cond (eqb b c) 1 0 ≡ 2)) ⊎ (((a ≡ c) × (b ≢ c) × (cond (eqb a c) 1 0 + cond (eqb b c) 1 0 ≡ 1)) ⊎
    (((a ≢ c) × (b ≡ c) × (cond (eqb a c) 1 0 + cond (eqb b c) 1 0 ≡ 1)) ⊎ ((a ≢ c) × (b ≢ c) × (cond (eqb a c) 1 0 + cond (eqb b c) 1 0 ≡ 0))))
both_ways c a b = grind (arith, nat_tests)

-- the times that a node with two children names a number
times : (c a b : ℕ) (node : Node) → children node ≡ a ∷ b ∷ [] →
    ((a ≡ c) × (b ≡ c) × (times_in c node ≡ 2)) ⊎ (((a ≡ c) × (b ≢ c) × (times_in c node ≡ 1)) ⊎ (((a ≢ c) × (b ≡ c) × (times_in c node ≡ 1)) ⊎ ((a ≢ c) × (b ≢ c) × (times_in c node ≡ 0))))
times c a b node e = rw (times_two c a b (children node) e) (both_ways c a b)

pub two_free : (code : List Node) (node : Node) (a b : ℕ) → children node ≡ a ∷ b ∷ [] → a ≢ b → IsFree code a → IsFree code b → HasFreeChildren code node
two_free code node a b e differ fa fb c h =
    let pushed = times_named_push c code node in
    elim (times c a b node e) [
      | inl both ↦ absurd (differ (both.0 ∙ sym both.1))
      | inr (inl left) ↦ (subst (λ k. k < length code) left.0 fa.0, omega (arith, pushed, ap (λ k. times_named k code) left.0))
      | inr (inr (inl right)) ↦ (subst (λ k. k < length code) right.1 fb.0, omega (arith, pushed, ap (λ k. times_named k code) right.1))
      | inr (inr (inr neither)) ↦ absurd (omega arith)
    ]

pub two_differ : (code : List Node) (node : Node) (a b : ℕ) → children node ≡ a ∷ b ∷ [] → HasFreeChildren code node → a ≢ b
two_differ code node a b e free same =
    elim (times a a b node e) [
      | inl both ↦ omega (arith, times_named_push a code node, (free a (omega arith)).1)
      | inr (inl left) ↦ left.1 (sym same)
      | inr (inr (inl right)) ↦ right.0 refl
      | inr (inr (inr neither)) ↦ neither.0 refl
    ]

pub first_free : (code : List Node) (node : Node) (a b : ℕ) → children node ≡ a ∷ b ∷ [] → HasFreeChildren code node → IsFree code a
first_free code node a b e free =
    elim (times a a b node e) [
      | inl both ↦ absurd (two_differ code node a b e free (sym both.1))
      | inr (inl left) ↦ let at = free a (omega arith) in (at.0, omega (arith, times_named_push a code node, at.1))
      | inr (inr (inl right)) ↦ absurd (right.0 refl)
      | inr (inr (inr neither)) ↦ absurd (neither.0 refl)
    ]

pub second_free : (code : List Node) (node : Node) (a b : ℕ) → children node ≡ a ∷ b ∷ [] → HasFreeChildren code node → IsFree code b
second_free code node a b e free =
    elim (times b a b node e) [
      | inl both ↦ absurd (two_differ code node a b e free both.0)
      | inr (inl left) ↦ absurd (left.1 refl)
      | inr (inr (inl right)) ↦ let at = free b (omega arith) in (at.0, omega (arith, times_named_push b code node, at.1))
      | inr (inr (inr neither)) ↦ absurd (neither.1 refl)
    ]

-- free children are nodes
pub free_within : (code : List Node) (node : Node) (two : Option (ℕ × ℕ)) → HasFreeChildren code node → listed two ≡ children node →
    (x : ℕ × ℕ) → two ≡ Some x → (x.0 < length code) × (x.1 < length code)
free_within code node two free e x some =
    let are : children node ≡ x.0 ∷ x.1 ∷ [] = sym e ∙ ap listed some in
    ((first_free code node x.0 x.1 are free).0, (second_free code node x.0 x.1 are free).0)

-- a node has no child, or two
pub no_or_two_children : (node : Node) → (children node ≡ []) ⊎ ((a : ℕ) × ((b : ℕ) × (children node ≡ a ∷ b ∷ [])))
no_or_two_children (nodes.Always x) = inl refl
no_or_two_children nodes.Never = inl refl
no_or_two_children nodes.Fresh = inl refl
no_or_two_children (nodes.Throw x) = inl refl
no_or_two_children (nodes.Send p x) = inl refl
no_or_two_children (nodes.Recv p) = inl refl
no_or_two_children (nodes.Then a b) = inr (a, (b, refl))
no_or_two_children (nodes.Choose a b) = inr (a, (b, refl))
no_or_two_children (nodes.Catch a b) = inr (a, (b, refl))
no_or_two_children (nodes.If c a b) = inr (a, (b, refl))
