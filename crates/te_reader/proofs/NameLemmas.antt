-- Names in a list: where they are, and what a declaration adds.
use Rattle.std.proofs.Common.{◌≡◌, ℕ, suc, ◌+◌, ◌<◌, Bool, true, false, cond, not, nat_lt, List, [], ◌∷◌, ◌++◌, length, refl, sym, ◌∙◌, ap, arith}
use Rattle.std.specs.Prelude.{Option, Some, None, nat_le, ◌&&◌, if◌then◌else◌}
use Rattle.std.specs.Option.{option_map}
use Rattle.std.specs.List.{prefix_len}
use Rattle.std.specs.Str.{bytes_eq}
use Rattle.std.proofs.lemmas.Bool.Decides.{nat_tests}
use Rattle.std.proofs.lemmas.Slice.Eq.{bytes_eq-Decides}
use Rattle.te_reader.specs.Grammar.{Names, IsAt, IsNew, IsShortName, IsFreeName, with_inner}
use Rattle.te_reader.specs.NameReads.{◌>>=◌, checked, if_absent, first_place_of, declared_in, bound_in}

-- what an optional step that came to something is made of
pub bind_some : {A B : Type 0} (o : Option A) (f : A → Option B) (y : B) → (o >>= f) ≡ Some y → (x : A) × (o ≡ Some x) × (f x ≡ Some y)
bind_some None f y e = absurd cc
bind_some (Some x) f y e = (x, refl, e)

pub checked_some : (b : Bool) (u : Unit {0}) → checked b ≡ Some u → b ≡ true
checked_some true u e = refl
checked_some false u e = absurd cc

pub absent_some : (o : Option ℕ) (u : Unit {0}) → if_absent o ≡ Some u → o ≡ None
absent_some None u e = refl
absent_some (Some i) u e = absurd cc

-- ---- places

-- the first name is at place 0, or the others are one place on
pub place_cons : (x : List ℕ) (xs : List (List ℕ)) (n : List ℕ) → first_place_of (x ∷ xs) n ≡ (if bytes_eq x n then Some 0 else option_map suc (first_place_of xs n))
unfolding first_place_of
place_cons x xs n = by (bytes_eq x n) where
  test : List ℕ → Bool
  test y = not (bytes_eq y n)

  ahead : (k : ℕ) → (b : Bool) → nat_lt k (length xs) ≡ b → cond (nat_lt (1 + k) (suc (length xs))) (Some (1 + k)) None ≡ option_map suc (cond (nat_lt k (length xs)) (Some k) None)
  ahead k true e = let up : nat_lt (1 + k) (suc (length xs)) ≡ true = grind (arith, nat_tests) in let one : 1 + k ≡ suc k = omega arith in rw (up, e, one) refl
  ahead k false e = let up : nat_lt (1 + k) (suc (length xs)) ≡ false = grind (arith, nat_tests) in rw (up, e) refl

  by : (b : Bool) → cond (nat_lt (cond (not b) (1 + prefix_len test xs) 0) (suc (length xs)))
      (Some (cond (not b) (1 + prefix_len test xs) 0)) None ≡ (if b then Some 0 else option_map suc
      (cond (nat_lt (prefix_len test xs) (length xs)) (Some (prefix_len test xs)) None))
  by true = let up : nat_lt 0 (suc (length xs)) ≡ true = grind (arith, nat_tests) in rw up refl
  by false = ahead (prefix_len test xs) _ refl

no_place : (n : List ℕ) (i : ℕ) → first_place_of [] n ≡ Some i → ⊥
unfolding first_place_of
no_place n i e = cc

-- a name is at the place where it was found
pub place_is : (names : List (List ℕ)) (n : List ℕ) (i : ℕ) → first_place_of names n ≡ Some i → IsAt names i n × (i < length names)
place_is [] n i e = absurd (no_place n i e)
place_is (x ∷ xs) n i e = by (bytes_eq x n) (bytes_eq-Decides x n).0 (first_place_of xs n) (place_is xs n) (sym (place_cons x xs n) ∙ e) where
  by : (b : Bool) → (b ≡ true → x ≡ n) → (o : Option ℕ) → ((j : ℕ) → o ≡ Some j → IsAt xs j n × (j < length xs))
      → (if b then Some 0 else option_map suc o) ≡ Some i → IsAt (x ∷ xs) i n × (i < suc (length xs))
  by true same o later e = let z : i ≡ 0 = cc in rw z (ap Some (same refl), omega arith)
  by false same None later e = absurd cc
  by false same (Some j) later e = let z : i ≡ suc j = cc in let h = later j refl in rw z (h.0, omega (arith, h.1))

-- a name that was not found is new
pub place_none : (names : List (List ℕ)) (n : List ℕ) → first_place_of names n ≡ None → IsNew n names
place_none [] n e = tt
place_none (x ∷ xs) n e = by (bytes_eq x n) (bytes_eq-Decides x n).1 (first_place_of xs n) (place_none xs n) (sym (place_cons x xs n) ∙ e) where
  by : (b : Bool) → (x ≡ n → b ≡ true) → (o : Option ℕ) → (o ≡ None → IsNew n xs) → (if b then Some 0 else option_map suc o) ≡ None → IsNew n (x ∷ xs)
  by true same o later e = absurd cc
  by false same None later e = (λ q. absurd (let h = same q in cc), later refl)
  by false same (Some j) later e = absurd cc

-- ---- declarations

pub record IsDeclared (most : ℕ) (names : List (List ℕ)) (n : List ℕ) (more : List (List ℕ)) : Type 0 where
  pub room : length names < most
  pub short : IsShortName n
  pub new : IsNew n names
  pub appended : more ≡ names ++ n ∷ []

pub declared : (most : ℕ) (names : List (List ℕ)) (n : List ℕ) (more : List (List ℕ)) → declared_in most names n ≡ Some more → IsDeclared most names n more
unfolding declared_in
declared most names n more e =
    let a = bind_some (if_absent (first_place_of names n)) (λ _. checked (nat_lt (length names) most && nat_le (length n) 32) >>= λ _. Some (names ++ n ∷ [])) more e in
    let b = bind_some (checked (nat_lt (length names) most && nat_le (length n) 32)) (λ _. Some (names ++ n ∷ [])) more a.2 in
    let fits = checked_some _ _ b.1 in
    record {
      room = grind (arith, nat_tests, fits);
      short = grind (arith, nat_tests, fits);
      new = place_none names n (absent_some _ _ a.1);
      appended = cc;
    }

-- an inner name that was bound is free, and is in scope then
pub bound_is : (s : Names) (n : List ℕ) (more : Names) → bound_in s n ≡ Some more → IsFreeName s n × (more ≡ with_inner s n)
unfolding bound_in
bound_is s n more e =
    let a = bind_some (if_absent (first_place_of s.channels n)) _ more e in
    let b = bind_some (if_absent (first_place_of s.registers n)) _ more a.2 in
    let c = bind_some (if_absent (first_place_of s.inners n)) _ more b.2 in
    let d = bind_some (checked (nat_le (length n) 32)) (λ _. Some (with_inner s n)) more c.2 in
    let fits = checked_some _ _ d.1 in (
      record {
        short = grind (arith, nat_tests, fits);
        no_channel = place_none s.channels n (absent_some _ _ a.1);
        no_register = place_none s.registers n (absent_some _ _ b.1);
        no_inner = place_none s.inners n (absent_some _ _ c.1);
      },
      cc,
    )
