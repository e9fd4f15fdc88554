-- A list whose elements are read one by one, with one more or one less.
use Rattle.std.proofs.Common.{◌≡◌, ℕ, zero, suc, List, [], ◌∷◌, map, refl, ap}
use Rattle.std.specs.List.{insert, remove}

pub insert_map : {A B : Type 0} (f : A → B) (xs : List A) (i : ℕ) (x : A) → map f (insert xs i x) ≡ insert (map f xs) i (f x)
insert_map f xs zero x = refl
insert_map f [] (suc i) x = refl
insert_map f (y ∷ xs) (suc i) x = ap (λ r. f y ∷ r) (insert_map f xs i x)

pub remove_map : {A B : Type 0} (f : A → B) (xs : List A) (i : ℕ) → map f (remove xs i) ≡ remove (map f xs) i
remove_map f [] zero = refl
remove_map f [] (suc i) = refl
remove_map f (y ∷ xs) zero = refl
remove_map f (y ∷ xs) (suc i) = ap (λ r. f y ∷ r) (remove_map f xs i)
