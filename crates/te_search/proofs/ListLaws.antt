-- Lists of paths that hold a path, and that hold none twice.
use Rattle.std.proofs.Common.{◌≡◌, ◌⊎◌, inl, inr, ℕ, zero, suc, List, [], ◌∷◌, ◌++◌, Some, slice_get, refl, ap, sym, subst, arith}
use Rattle.te_trail.specs.Paths.{Path}
use Rattle.te_trail.specs.Stores.{Holds}
use Rattle.te_search.specs.Searching.{NoPathTwice}
use Rattle.te_trail.proofs.StoresHold.{held}
use Rattle.te_trail.proofs.StoresHold.{place_held}

pub holds_left : (xs ys : List Path) (x : Path) → Holds xs x → Holds (xs ++ ys) x
holds_left [] ys x h = absurd h
holds_left (z ∷ xs) ys x (inl e) = inl e
holds_left (z ∷ xs) ys x (inr h) = inr (holds_left xs ys x h)

pub holds_right : (xs ys : List Path) (x : Path) → Holds ys x → Holds (xs ++ ys) x
holds_right [] ys x h = h
holds_right (z ∷ xs) ys x h = inr (holds_right xs ys x h)

pub holds_which : (xs ys : List Path) (x : Path) → Holds (xs ++ ys) x → Holds xs x ⊎ Holds ys x
holds_which [] ys x h = inr h
holds_which (z ∷ xs) ys x (inl e) = inl (inl e)
holds_which (z ∷ xs) ys x (inr h) = elim (holds_which xs ys x h) [ inl k ↦ inl (inr k) | inr k ↦ inr k ]

pub holds_one : (x y : Path) → Holds (y ∷ []) x → x ≡ y
holds_one x y (inl e) = e
holds_one x y (inr n) = absurd n

-- ---- none twice

pub once_both : (xs ys : List Path) → NoPathTwice xs → NoPathTwice ys → ((x : Path) → Holds xs x → ¬ Holds ys x) → NoPathTwice (xs ++ ys)
once_both [] ys o p apart = p
once_both (x ∷ xs) ys o p apart = ((λ h. elim (holds_which xs ys x h) [ inl a ↦ o.0 a | inr b ↦ apart x (inl refl) b ]), once_both xs ys o.1 p (λ y h. apart y (inr h)))

pub once_left : (xs ys : List Path) → NoPathTwice (xs ++ ys) → NoPathTwice xs
once_left [] ys o = tt
once_left (x ∷ xs) ys o = ((λ h. o.0 (holds_left xs ys x h)), once_left xs ys o.1)

pub once_right : (xs ys : List Path) → NoPathTwice (xs ++ ys) → NoPathTwice ys
once_right [] ys o = o
once_right (x ∷ xs) ys o = once_right xs ys o.1

pub once_apart : (xs ys : List Path) → NoPathTwice (xs ++ ys) → (x : Path) → Holds xs x → ¬ Holds ys x
once_apart [] ys o x h = absurd h
once_apart (z ∷ xs) ys o x (inl e) = λ k. o.0 (holds_right xs ys z (subst (Holds ys) e k))
once_apart (z ∷ xs) ys o x (inr h) = once_apart xs ys o.1 x h

pub once_by_places : (xs : List Path) → ((i j : ℕ) (x : Path) → slice_get xs i ≡ Some x → slice_get xs j ≡ Some x → i ≡ j) → NoPathTwice xs
once_by_places [] h = tt
once_by_places (y ∷ xs) h = (
  (λ k. (let n : (n : ℕ) × (slice_get xs n ≡ Some y) = place_held xs y k in let z : 0 ≡ suc n.0 = h 0 (suc n.0) y refl n.1 in omega (arith, z))),
  once_by_places xs (λ i j x e f. (let z : suc i ≡ suc j = h (suc i) (suc j) x e f in omega (arith, z))),
)

pub one_place : (xs : List Path) → NoPathTwice xs → (i j : ℕ) (x : Path) → slice_get xs i ≡ Some x → slice_get xs j ≡ Some x → i ≡ j
one_place [] o i j x e f = cc
one_place (y ∷ xs) o zero zero x e f = refl
one_place (y ∷ xs) o zero (suc j) x e f = (let s : y ≡ x = cc in absurd (o.0 (subst (Holds xs) (sym s) (held xs j x f))))
one_place (y ∷ xs) o (suc i) zero x e f = (let s : y ≡ x = cc in absurd (o.0 (subst (Holds xs) (sym s) (held xs i x e))))
one_place (y ∷ xs) o (suc i) (suc j) x e f = ap suc (one_place xs o.1 i j x e f)
