-- How lists in the order of another grow, and how often a number occurs in them.
use Rattle.std.proofs.Common.{◌≡◌, ◌≤◌, ℕ, ◌+◌, List, [], ◌∷◌, ◌++◌, length, refl, inl, inr, arith}
use Rattle.te_steal.specs.Relays.{occurrences, IsInOrderOf}

pub occurrences_append : (n : ℕ) (ms ns : List ℕ) → occurrences n (ms ++ ns) ≡ occurrences n ms + occurrences n ns
occurrences_append n [] ns = omega arith
occurrences_append n (m ∷ ms) ns = let rest = occurrences_append n ms ns in omega (arith, rest)

pub order_of_itself : (ns : List ℕ) → IsInOrderOf ns ns
order_of_itself [] = tt
order_of_itself (n ∷ ns) = inl (refl, order_of_itself ns)

-- numbers come behind the second list
pub behind_all : (ns all more : List ℕ) → IsInOrderOf ns all → IsInOrderOf ns (all ++ more)
behind_all [] all more h = tt
behind_all (n ∷ ns) [] more h = absurd h
behind_all (n ∷ ns) (m ∷ all) more (inl h) = inl (h.0, behind_all ns all more h.1)
behind_all (n ∷ ns) (m ∷ all) more (inr h) = inr (behind_all (n ∷ ns) all more h)

-- numbers come before the second list
before_all : (ns all first : List ℕ) → IsInOrderOf ns all → IsInOrderOf ns (first ++ all)
before_all ns all [] h = h
before_all [] all (m ∷ first) h = tt
before_all (n ∷ ns) all (m ∷ first) h = inr (before_all (n ∷ ns) all first h)

-- the same numbers come behind both
pub behind_both : (ns all more : List ℕ) → IsInOrderOf ns all → IsInOrderOf (ns ++ more) (all ++ more)
behind_both [] all more h = before_all more more all (order_of_itself more)
behind_both (n ∷ ns) [] more h = absurd h
behind_both (n ∷ ns) (m ∷ all) more (inl h) = inl (h.0, behind_both ns all more h.1)
behind_both (n ∷ ns) (m ∷ all) more (inr h) = inr (behind_both (n ∷ ns) all more h)

-- without the first number
tail_in_order : (n : ℕ) (ns all : List ℕ) → IsInOrderOf (n ∷ ns) all → IsInOrderOf ns all
tail_in_order n [] all h = tt
tail_in_order n (m ∷ ns) [] h = absurd h
tail_in_order n (m ∷ ns) (k ∷ all) (inl h) = inr h.1
tail_in_order n (m ∷ ns) (k ∷ all) (inr h) = inr (tail_in_order n (m ∷ ns) all h)

pub second_in_order : (first ns all : List ℕ) → IsInOrderOf (first ++ ns) all → IsInOrderOf ns all
second_in_order [] ns all h = h
second_in_order (m ∷ first) ns all h = second_in_order first ns all (tail_in_order m (first ++ ns) all h)

pub first_in_order : (ns more all : List ℕ) → IsInOrderOf (ns ++ more) all → IsInOrderOf ns all
first_in_order [] more all h = tt
first_in_order (n ∷ ns) more [] h = absurd h
first_in_order (n ∷ ns) more (m ∷ all) (inl h) = inl (h.0, first_in_order ns more all h.1)
first_in_order (n ∷ ns) more (m ∷ all) (inr h) = inr (first_in_order (n ∷ ns) more all h)

pub no_longer : (ns all : List ℕ) → IsInOrderOf ns all → length ns ≤ length all
no_longer [] all h = omega arith
no_longer (n ∷ ns) [] h = absurd h
no_longer (n ∷ ns) (m ∷ all) (inl h) = let rest = no_longer ns all h.1 in omega (arith, rest)
no_longer (n ∷ ns) (m ∷ all) (inr h) = let rest = no_longer (n ∷ ns) all h in omega (arith, rest)
