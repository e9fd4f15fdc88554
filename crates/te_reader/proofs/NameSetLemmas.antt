-- Names that are among others, and the index by which they are found.
use Rattle.std.proofs.Common.{◌≡◌, ℕ, zero, suc, ◌<◌, ◌≤◌, Bool, true, false, cond, List, [], ◌∷◌, ◌++◌, length, refl, sym, ◌∙◌, ap, subst, inl, inr, arith}
use Rattle.std.specs.Prelude.{Some, None, ◌⊎◌, ◌||◌}
use Rattle.std.specs.Borrow.{Bor}
use Rattle.std.specs.BTreeMap.{BTreeMap, get_by, UpdatesBy}
use Rattle.std.specs.Cmp.Lexicographic.{slice_cmp}
use Rattle.std.specs.Ordering.{nat_cmp}
use Rattle.std.specs.Str.{bytes_eq}
use Rattle.std.proofs.lemmas.Slice.Eq.{bytes_eq-Decides}
use Rattle.std.proofs.lemmas.Map.Text.{btree_map_updates_str}
use Rattle.te_reader.specs.Grammar.{IsAt}
use Rattle.te_reader.specs.Rules.{is_among}
use Rattle.te_reader.specs.NameSets.{FindsEachName}
use Rattle.te_reader.proofs.ListsKept.{at_more, at_last}
use Rattle.te_reader.proofs.KeptIsRead.{at_inside}

or_true : (a b : Bool) → b ≡ true → (a || b) ≡ true
or_true true b e = refl
or_true false b e = e

pub among_at : (names : List (List ℕ)) (i : ℕ) (n : List ℕ) → IsAt names i n → is_among n names ≡ true
unfolding is_among
among_at [] i n h = absurd cc
among_at (x ∷ xs) zero n h = let same : x ≡ n = cc in rw (same, (bytes_eq-Decides n n).1 refl) refl
among_at (x ∷ xs) (suc i) n h = or_true (bytes_eq x n) (is_among n xs) (among_at xs i n h)

-- the place of a name that is among others
pub among_is : (names : List (List ℕ)) (n : List ℕ) → is_among n names ≡ true → (i : ℕ) × IsAt names i n
unfolding is_among
among_is [] n e = absurd cc
among_is (x ∷ xs) n e = by (among_is xs n) (bytes_eq x n) (bytes_eq-Decides x n).0 e where
  by : (is_among n xs ≡ true → (i : ℕ) × IsAt xs i n) → (b : Bool) → (b ≡ true → x ≡ n) → (b || is_among n xs) ≡ true → (i : ℕ) × IsAt (x ∷ xs) i n
  by later true same e = (0, ap Some (same refl))
  by later false same e = let h = later e in (suc h.0, h.1)

-- a name of a longer list stands among the first ones, or is the last
at_split : (names : List (List ℕ)) (n : List ℕ) (i : ℕ) (m : List ℕ) → IsAt (names ++ n ∷ []) i m → IsAt names i m ⊎ ((i ≡ length names) × (n ≡ m))
at_split [] n zero m h = inr (refl, cc)
at_split [] n (suc i) m h = absurd cc
at_split (x ∷ xs) n zero m h = inl h
at_split (x ∷ xs) n (suc i) m h = by (at_split xs n i m h) where
  by : IsAt xs i m ⊎ ((i ≡ length xs) × (n ≡ m)) → IsAt (x ∷ xs) (suc i) m ⊎ ((suc i ≡ suc (length xs)) × (n ≡ m))
  by (inl k) = inl k
  by (inr k) = inr (ap suc k.0, k.1)

module _ (names : List (List ℕ)) (n : List ℕ) (old : BTreeMap (Bor (List ℕ)) ℕ) (found : FindsEachName names old) where
  -- a name that is among them already
  pub found_again : is_among n names ≡ true → FindsEachName (names ++ n ∷ []) old
  found_again e i m h = by (at_split names n i m h) where
    by : IsAt names i m ⊎ ((i ≡ length names) × (n ≡ m)) → (j : ℕ) × (get_by (λ k. slice_cmp nat_cmp m k.now) old ≡ Some j) × (j ≤ i) × IsAt (names ++ n ∷ []) j m
    by (inl k) = let f = found i m k in (f.0, f.1, f.2, at_more names (n ∷ []) f.0 m f.3)
    by (inr k) =
        let at = among_is names n e in
        let f = found at.0 n at.1 in
        let below : at.0 < length names = at_inside names at.0 n at.1 in (
          f.0,
          subst (λ (x : List ℕ). get_by (λ k. slice_cmp nat_cmp x k.now) old ≡ Some f.0) k.1 f.1,
          omega (arith, below, f.2, k.0),
          subst (λ (x : List ℕ). IsAt (names ++ n ∷ []) f.0 x) k.1 (at_more names (n ∷ []) f.0 n f.3),
        )

  module _ (new : BTreeMap (Bor (List ℕ)) ℕ) (number : ℕ) (is : number ≡ length names)
      (updates : UpdatesBy (λ x y. slice_cmp nat_cmp x.now y.now) (λ k. slice_cmp nat_cmp n k.now) old new (Some number))
      (fresh : is_among n names ≡ false) where
    -- the index knows a new name, and the others as before
    pub still_found : FindsEachName names new
    still_found i m h =
        let f = found i m h in
        (f.0, btree_map_updates_str n old new (Some number) updates m ∙ by (bytes_eq n m) (bytes_eq-Decides n m).0 ∙ f.1, f.2, f.3) where
          by : (b : Bool) → (b ≡ true → n ≡ m) → cond b (Some number) (get_by (λ k. slice_cmp nat_cmp m k.now) old) ≡ get_by (λ k. slice_cmp nat_cmp m k.now) old
          by true same = absurd (let here : is_among n names ≡ true = among_at names i n (h ∙ ap Some (sym (same refl))) in cc)
          by false same = refl

    pub found_new : FindsEachName (names ++ n ∷ []) new
    found_new i m h = by (at_split names n i m h) where
      by : IsAt names i m ⊎ ((i ≡ length names) × (n ≡ m)) → (j : ℕ) × (get_by (λ k. slice_cmp nat_cmp m k.now) new ≡ Some j) × (j ≤ i) × IsAt (names ++ n ∷ []) j m
      by (inl k) = let f = still_found i m k in (f.0, f.1, f.2, at_more names (n ∷ []) f.0 m f.3)
      by (inr k) = (
        length names,
        btree_map_updates_str n old new (Some number) updates m ∙ rw ((bytes_eq-Decides n m).1 k.1) (ap Some is),
        omega (arith, k.0),
        subst (λ (x : List ℕ). IsAt (names ++ n ∷ []) (length names) x) k.1 (at_last names n),
      )

pub another : (n q : List ℕ) → Some n ≡ Some q → bytes_eq n q ≡ true
another n q e = (bytes_eq-Decides n q).1 cc

-- ---- whether a name is among them, by its index

module _ (names : List (List ℕ)) (numbers : BTreeMap (Bor (List ℕ)) ℕ) (found : FindsEachName names numbers) (q : List ℕ) where
  -- not in the index
  pub no_number : get_by (λ k. slice_cmp nat_cmp q k.now) numbers ≡ None → false ≡ is_among q names
  no_number e = by (is_among q names) refl where
    by : (b : Bool) → is_among q names ≡ b → false ≡ b
    by false h = refl
    by true h = absurd (let at = among_is names q h in let f = found at.0 q at.1 in let both = sym f.1 ∙ e in cc)

  -- at its number in the index stands nothing, or another name
  pub at_number : (j : ℕ) → get_by (λ k. slice_cmp nat_cmp q k.now) numbers ≡ Some j → (b : Bool) → (b ≡ true → IsAt names j q) → (IsAt names j q → b ≡ true) → b ≡ is_among q names
  at_number j e b good all = by (is_among q names) refl b good all where
    by : (v : Bool) → is_among q names ≡ v → (b : Bool) → (b ≡ true → IsAt names j q) → (IsAt names j q → b ≡ true) → b ≡ v
    by true h b good all =
        let at = among_is names q h in
        let f = found at.0 q at.1 in
        let same : f.0 ≡ j = let both : Some f.0 ≡ Some j = sym f.1 ∙ e in cc in
        all (subst (λ (x : ℕ). IsAt names x q) same f.3)
    by false h true good all = absurd (let here : is_among q names ≡ true = among_at names j q (good refl) in cc)
    by false h false good all = refl
