-- How the total of what the parties have changes with one of them.
use Rattle.std.proofs.Common.{◌≡◌, ◌≢◌, ℕ, zero, suc, ◌+◌, Bool, true, false, List, [], ◌∷◌, ◌++◌, set, sym, refl, ap, subst, ⊎_elim, arith}
use Rattle.std.specs.List.{concat}
use mathlib.Core.Option.{some, some-ne-none}
use lib.ListN.{get_elem?}
use Rattle.crossbeam_deque.proofs.Lists.{at_set}
use Rattle.te_steal.specs.declared.rule.Account.{Account}
use Rattle.te_steal.specs.Relays.{one_where, occurrences}
use Rattle.te_steal.specs.Rule.{total_of, times_held, EachView}

pub each_after_set : (F : ℕ → Account → Type 0) (views : List Account) (port : ℕ) (w : Account) → F port w
    → ((j : ℕ) (u : Account) → j ≢ port → get_elem? views j ≡ some u → F j u) → EachView F (set views port w)
each_after_set F views port w mine others j u e =
    ⊎_elim (λ (x : (j ≡ port) × (w ≡ u)). subst (λ (y : ℕ × Account). F y.0 y.1) (λ i. (sym x.0 i, x.1 i)) mine)
    (λ (x : (j ≢ port) × (get_elem? views j ≡ some u)). others j u x.0 x.1) (at_set views port j w u e)

pub total_after_set : (f : Account → ℕ) (views : List Account) (port : ℕ) (v w : Account) → get_elem? views port ≡ some v
    → total_of f (set views port w) + f v ≡ total_of f views + f w
total_after_set f [] port v w e = absurd (some-ne-none v (sym e))
total_after_set f (u ∷ views) zero v w e =
    let same : u ≡ v = cc e in
    let value : f u ≡ f v = ap f same in
    omega (arith, value)
total_after_set f (u ∷ views) (suc port) v w e =
    let rest = total_after_set f views port v w e in
    omega (arith, rest)

pub total_with_last : (f : Account → ℕ) (views : List Account) (w : Account) → total_of f (views ++ w ∷ []) ≡ total_of f views + f w
total_with_last f [] w = omega arith
total_with_last f (u ∷ views) w = let rest = total_with_last f views w in omega (arith, rest)

-- where the total is nothing, each has nothing
pub none_in_total : (f : Account → ℕ) (views : List Account) (port : ℕ) (v : Account) → total_of f views ≡ 0
    → get_elem? views port ≡ some v → f v ≡ 0
none_in_total f [] port v none e = absurd (some-ne-none v (sym e))
none_in_total f (u ∷ views) zero v none e =
    let same : u ≡ v = cc e in
    let value : f u ≡ f v = ap f same in
    omega (arith, value, none)
none_in_total f (u ∷ views) (suc port) v none e = none_in_total f views port v (omega (arith, none)) e

total_of_none : (f : Account → ℕ) (views : List Account) → EachView (λ j u. f u ≡ 0) views → total_of f views ≡ 0
total_of_none f [] none = refl
total_of_none f (u ∷ views) none =
    let first = none 0 u refl in
    let rest = total_of_none f views (λ j w e. none (suc j) w e) in
    omega (arith, first, rest)

-- where the others have nothing, the total is what one has
pub total_of_one : (f : Account → ℕ) (views : List Account) (port : ℕ) (v : Account) → get_elem? views port ≡ some v
    → ((j : ℕ) (u : Account) → j ≢ port → get_elem? views j ≡ some u → f u ≡ 0) → total_of f views ≡ f v
total_of_one f [] port v e others = absurd (some-ne-none v (sym e))
total_of_one f (u ∷ views) zero v e others =
    let same : u ≡ v = cc e in
    let value : f u ≡ f v = ap f same in
    let rest = total_of_none f views (λ j w k. others (suc j) w (λ p. absurd cc) k) in
    omega (arith, value, rest)
total_of_one f (u ∷ views) (suc port) v e others =
    let first = others 0 u (λ p. absurd cc) refl in
    let rest = total_of_one f views port v e (λ j w apart k. others (suc j) w (λ p. apart (omega (arith, p))) k) in
    omega (arith, first, rest)

pub is_false : (b : Bool) → b ≢ true → b ≡ false
is_false true h = absurd (h refl)
is_false false h = refl

pub none_is_false : (b : Bool) → one_where b ≡ 0 → b ≡ false
none_is_false true h = absurd (omega (arith, h))
none_is_false false h = refl

pub nothing_weighs : (n : ℕ) (u : Account) → u.took ≡ [] → u.absorbed ≡ [] → times_held n u ≡ 0
nothing_weighs n u took absorbed =
    let own : occurrences n u.took ≡ 0 = ap (occurrences n) took in
    let stolen : occurrences n (concat u.absorbed) ≡ 0 = ap (λ l. occurrences n (concat l)) absorbed in
    omega (arith, own, stolen)
