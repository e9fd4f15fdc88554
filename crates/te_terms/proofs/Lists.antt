-- Lists and options alone: what stands where.
use Rattle.std.proofs.Common.{Bool, Err, IfOk, List, None, Ok, Option, Result, Some, [], ap, arith, drop, eq-eqb, false}
use Rattle.std.proofs.Common.{get_or, inl, inr, length, max, nat_eq, not, refl, slice_get, subst, suc, sym, take, true}
use Rattle.std.proofs.Common.{zero, ℕ, ◌&&◌, ◌++◌, ◌+◌, ◌-◌, ◌<◌, ◌∙◌, ◌∷◌, ◌≡◌, ◌≤◌, ◌⊎◌}
use Rattle.std.proofs.lemmas.Option.{slice_get-get_or}
use Rattle.std.specs.List.{AllByRecursion, slice_get}
use Rattle.std.specs.Option.{option_map}
use Rattle.std.specs.Prelude.{List, [], slice_get, ◌∷◌, ◌≢◌}

pub drop_at : {A : Type 0} (xs : List A) (k : ℕ) (x : A) → slice_get xs k ≡ Some x → drop k xs ≡ x ∷ drop (suc k) xs
drop_at [] k x is = absurd cc
drop_at (y ∷ ys) zero x is = let same : y ≡ x = cc in ap (λ z. z ∷ ys) same
drop_at (y ∷ ys) (suc k) x is = drop_at ys k x is

pub take_next : {A : Type 0} (xs : List A) (k : ℕ) (x : A) → slice_get xs k ≡ Some x → take (suc k) xs ≡ take k xs ++ x ∷ []
take_next [] k x is = absurd cc
take_next (y ∷ ys) zero x is = let same : y ≡ x = cc in ap (λ z. z ∷ []) same
take_next (y ∷ ys) (suc k) x is = ap (λ zs. y ∷ zs) (take_next ys k x is)

pub get_some : {A : Type 0} (xs : List A) (i : ℕ) → i < length xs → (x : A) × (slice_get xs i ≡ Some x)
get_some [] i within = absurd (omega arith)
get_some (x ∷ xs) zero within = (x, refl)
get_some (x ∷ xs) (suc i) within = get_some xs i (omega arith)

pub found_here : {A : Type 0} (xs : List A) (i : ℕ) (x : A) → i < length xs → x ≡ get_or xs i x → slice_get xs i ≡ Some x
found_here xs i x within is = slice_get-get_or xs i x within ∙ ap Some (sym is)

pub all_at : {X : Type 0} (P : X → Type 0) (xs : List X) (i : ℕ) (x : X) → AllByRecursion P xs → slice_get xs i ≡ Some x → P x
all_at P [] i x all at = absurd cc
all_at P (y ∷ ys) zero x all at = let is : y ≡ x = cc in subst P is all.0
all_at P (y ∷ ys) (suc i) x all at = all_at P ys i x all.1 at

pub in_beginning : {X : Type 0} (n : ℕ) (xs : List X) (k : ℕ) (x : X) → slice_get (take n xs) k ≡ Some x → slice_get xs k ≡ Some x
in_beginning zero xs k x at = absurd cc
in_beginning (suc n) [] k x at = absurd cc
in_beginning (suc n) (y ∷ ys) zero x at = at
in_beginning (suc n) (y ∷ ys) (suc k) x at = in_beginning n ys k x at

pub if_ok : {A E : Type 0} (P Q : A → Type 0) (r : Result A E) → ((a : A) → P a → Q a) → IfOk r P → IfOk r Q
if_ok P Q (Ok a) f h = f a h
if_ok P Q (Err e) f h = tt

pub both_true : (a b : Bool) → (a && b) ≡ true → (a ≡ true) × (b ≡ true)
both_true true true e = (refl, refl)
both_true true false e = absurd cc
both_true false b e = absurd cc

pub one_item : {A : Type 0} (o : Option A) (x y : A) → o ≡ Some x → o ≡ Some y → x ≡ y
one_item o x y e e' = let both : Some x ≡ Some y = sym e ∙ e' in cc

pub some_item : {A : Type 0} {x : A} {xs : List A} → x ∷ xs ≢ []
some_item e = cc

pub get_at : {A : Type 0} (xs : List A) (i : ℕ) (d : A) → i < length xs → slice_get xs i ≡ Some (get_or xs i d)
get_at [] i d low = absurd (omega arith)
get_at (x ∷ xs) zero d low = refl
get_at (x ∷ xs) (suc i) d low = get_at xs i d (omega arith)

pub get-longer : {X : Type 0} (xs ys : List X) (i : ℕ) (x : X) → slice_get xs i ≡ Some x → slice_get (xs ++ ys) i ≡ Some x
get-longer [] ys i x is = absurd cc
get-longer (z ∷ xs) ys zero x is = is
get-longer (z ∷ xs) ys (suc i) x is = get-longer xs ys i x is

pub get-last : {X : Type 0} (xs : List X) (x : X) → slice_get (xs ++ x ∷ []) (length xs) ≡ Some x
get-last [] x = refl
get-last (y ∷ xs) x = get-last xs x

pub take_all : {A : Type 0} (xs : List A) (n : ℕ) → length xs ≤ n → take n xs ≡ xs
take_all [] zero h = refl
take_all [] (suc n) h = refl
take_all (x ∷ xs) zero h = absurd (omega (arith, h))
take_all (x ∷ xs) (suc n) h = ap (λ r. x ∷ r) (take_all xs n (omega (arith, h)))

pub not_true : (b : Bool) → not b ≡ true → b ≡ false
not_true true h = cc
not_true false h = refl

pub back : (i : ℕ) → suc i - 1 ≡ i
back i = omega arith

pub deeper : (d l a b : ℕ) → 1 ≤ a → 1 ≤ b → max (max d (suc l + a - 1)) (suc l + b - 1) ≡ max d (l + (1 + max a b) - 1)
deeper d l a b ha hb = omega arith

pub whole_taken : (xs : List (List ℕ)) → take (length xs) xs ≡ xs
whole_taken [] = refl
whole_taken (x ∷ xs) = ap (λ ys. x ∷ ys) (whole_taken xs)

pub not_false : (b : Bool) → not b ≡ false → b ≡ true
not_false true e = refl
not_false false e = absurd cc

pub same_item : {A : Type 0} (x y : A) (o : Option A) → o ≡ Some x → o ≡ Some y → x ≡ y
same_item x y o a b = let both : Some x ≡ Some y = sym a ∙ b in cc

pub AllByRecursion-append : {A : Type 0} (P : A → Type 0) (xs : List A) (x : A) → AllByRecursion P xs → P x → AllByRecursion P (xs ++ x ∷ [])
AllByRecursion-append P [] x h last = (last, tt)
AllByRecursion-append P (y ∷ xs) x h last = (h.0, AllByRecursion-append P xs x h.1 last)

pub both : (a b : Bool) → a && b ≡ true → (a ≡ true) × (b ≡ true)
both true b e = (refl, e)
both false b e = cc

pub never_both : {A : Type 0} (o : Option A) (x : A) → o ≡ None → o ≡ Some x → ⊥
never_both o x e f = cc

pub at_last : (xs : List ℕ) (p : ℕ) → slice_get (xs ++ (p ∷ [])) (length xs) ≡ Some p
at_last [] p = refl
at_last (x ∷ xs) p = at_last xs p

pub all_with : {A : Type 0} (P Q : A → Type 0) (xs : List A) → ((x : A) → P x → Q x) → AllByRecursion P xs → AllByRecursion Q xs
all_with P Q [] f a = tt
all_with P Q (x ∷ xs) f a = (f x a.0, all_with P Q xs f a.1)

pub all_both : {A : Type 0} (P : A → Type 0) (xs ys : List A) → AllByRecursion P xs → AllByRecursion P ys → AllByRecursion P (xs ++ ys)
all_both P [] ys a b = b
all_both P (x ∷ xs) ys a b = (a.0, all_both P xs ys a.1 b)

pub bool_is : (a b : Bool) → (a ≡ true → b ≡ true) → (b ≡ true → a ≡ true) → a ≡ b
bool_is true b f k = sym (f refl)
bool_is false true f k = k refl
bool_is false false f k = refl

pub take_more : {A : Type 0} (xs ys : List A) (n : ℕ) → n ≤ length xs → take n (xs ++ ys) ≡ take n xs
take_more xs ys zero h = refl
take_more [] ys (suc n) h = absurd (omega (arith, h))
take_more (x ∷ xs) ys (suc n) h = ap (λ r. x ∷ r) (take_more xs ys n (omega (arith, h)))

pub at_or_last : {A : Type 0} (xs : List A) (y : A) (i : ℕ) (o : A) → slice_get (xs ++ (y ∷ [])) i ≡ Some o → ((i ≡ length xs) × (y ≡ o)) ⊎ ((i < length xs) × (slice_get xs i ≡ Some o))
at_or_last [] y zero o e = inl (refl, cc)
at_or_last [] y (suc i) o e = cc
at_or_last (x ∷ xs) y zero o e = inr ((let z : 0 < suc (length xs) = omega arith in z), e)
at_or_last (x ∷ xs) y (suc i) o e = elim (at_or_last xs y i o e) [ inl a ↦ inl (ap suc a.0, a.1) | inr b ↦ inr ((let z : suc i < suc (length xs) = omega (arith, b.0) in z), b.1) ]

pub get_low : {A : Type 0} (xs : List A) (x : A) (k : ℕ) → slice_get xs k ≡ Some x → k < length xs
get_low [] x k e = cc
get_low (y ∷ xs) x zero e = omega arith
get_low (y ∷ xs) x (suc k) e = (let h : k < length xs = get_low xs x k e in omega (arith, h))

pub get_front : {A : Type 0} (xs ys : List A) (i : ℕ) → i < length xs → slice_get (xs ++ ys) i ≡ slice_get xs i
get_front [] ys i lt = absurd (omega arith)
get_front (x ∷ xs) ys zero lt = refl
get_front (x ∷ xs) ys (suc i) lt = get_front xs ys i (omega arith)

pub get_taken : {A : Type 0} (xs : List A) (n i : ℕ) (x : A) → slice_get (take n xs) i ≡ Some x → (i < n) × (slice_get xs i ≡ Some x)
get_taken [] zero i x is = absurd cc
get_taken [] (suc n) i x is = absurd cc
get_taken (y ∷ ys) zero i x is = absurd cc
get_taken (y ∷ ys) (suc n) zero x is = (omega arith, is)
get_taken (y ∷ ys) (suc n) (suc i) x is = let rest = get_taken ys n i x is in let lt = rest.0 in (omega arith, rest.1)

pub eq_same : (n : ℕ) → nat_eq n n ≡ true
eq_same n = eq-eqb n n refl

pub some_map : {A B : Type 0} (f : A → B) (o : Option A) (y : B) → option_map f o ≡ Some y → (x : A) × (o ≡ Some x) × (f x ≡ y)
some_map f None y e = cc
some_map f (Some x) y e = (x, refl, cc)
