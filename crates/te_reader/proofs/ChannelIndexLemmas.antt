-- The index of channels, empty and with one name more.
use Rattle.std.proofs.Common.{◌≡◌, ◌≢◌, ℕ, zero, suc, ◌<◌, ◌⊎◌, inl, inr, Bool, true, false, cond, List, [], ◌∷◌, ◌++◌}
use Rattle.std.proofs.Common.{length, get_or, set, refl, sym, ◌∙◌, ap, subst, arith, length-append, length-set}
use Rattle.std.proofs.lemmas.Bool.Decides.{nat_tests}
use Rattle.std.proofs.lemmas.Grind.{get_or-set_at}
use Rattle.std.proofs.lemmas.List.{get_or-set_other}
use Rattle.std.specs.Prelude.{Option, Some, None, if◌then◌else◌, nat_eq, slice_index, slice_get}
use Rattle.std.specs.Option.{option_map}
use Rattle.std.specs.Borrow.{Bor}
use Rattle.std.specs.BTreeMap.{BTreeMap, get_by, UpdatesBy}
use Rattle.std.specs.Cmp.Lexicographic.{slice_cmp}
use Rattle.std.specs.Ordering.{nat_cmp}
use Rattle.std.specs.Str.{bytes_eq}
use Rattle.std.proofs.lemmas.Slice.Eq.{bytes_eq-Decides}
use Rattle.std.proofs.lemmas.Map.Text.{btree_map_updates_str}
use Rattle.te_script.specs.Scripts.{AreDistinct}
use Rattle.te_reader.specs.Grammar.{IsAt, IsNew}
use Rattle.te_reader.specs.NameReads.{first_place_of, declared_in}
use Rattle.te_reader.specs.ChannelIndex.{slot_behind, IsIndex}
use Rattle.te_reader.proofs.NameLemmas.{place_cons, place_is, declared}
use Rattle.te_reader.proofs.ListsKept.{distinct_push}
use Rattle.te_reader.proofs.SpelledIsRead.{place_absent, place_found}

pub empty_index : (names : List (List ℕ)) (numbers : BTreeMap (Bor (List ℕ)) ℕ) (slots : List ℕ) → names ≡ [] → numbers.entries ≡ [] → length slots ≡ 256 → IsIndex names numbers slots
empty_index names numbers slots none empty size = record {
  size = size;
  few = rw none (omega arith);
  distinct = rw none tt;
  marked = λ i n at. let no : IsAt [] i n = rw none at at in absurd cc;
  finds = λ q. rw (none, empty) (sym (place_absent [] q tt));
}

-- where a name is once a new one stands behind the others
place_push : (names : List (List ℕ)) (n q : List ℕ) → IsNew n names → first_place_of (names ++ n ∷ []) q ≡ (if bytes_eq n q then Some (length names) else first_place_of names q)
place_push [] n q new = place_cons n [] q ∙ by (bytes_eq n q) (first_place_of [] q) (place_absent [] q tt) where
  by : (b : Bool) (o : Option ℕ) → o ≡ None → (if b then Some 0 else option_map suc o) ≡ (if b then Some 0 else o)
  by true o e = refl
  by false o e = rw e refl
place_push (x ∷ xs) n q new =
    place_cons x (xs ++ n ∷ []) q ∙ by (bytes_eq x q) (bytes_eq n q) (bytes_eq-Decides x q).0 (bytes_eq-Decides n q).0
    (place_push xs n q new.1) ∙ sym (ap (λ o. if bytes_eq n q then Some (suc (length xs)) else o) (place_cons x xs q))
  where
    by : (a b : Bool) → (a ≡ true → x ≡ q) → (b ≡ true → n ≡ q) → first_place_of (xs ++ n ∷ []) q ≡ (if b then Some (length xs) else first_place_of xs q)
        → (if a then Some 0 else option_map suc (first_place_of (xs ++ n ∷ []) q)) ≡ (if b then Some (suc (length xs)) else (if a then Some 0 else option_map suc (first_place_of xs q)))
    by true true first other later = absurd (new.0 (first refl ∙ sym (other refl)))
    by true false first other later = refl
    by false true first other later = rw later refl
    by false false first other later = rw later refl

-- ---- marks

pushed_at : (xs : List (List ℕ)) (n : List ℕ) (i : ℕ) (m : List ℕ) → IsAt (xs ++ n ∷ []) i m → IsAt xs i m ⊎ (m ≡ n)
pushed_at [] n zero m at = inr cc
pushed_at [] n (suc i) m at = absurd cc
pushed_at (x ∷ xs) n zero m at = inl at
pushed_at (x ∷ xs) n (suc i) m at = pushed_at xs n i m at

-- a mark stays where another one is set
mark_stays : (slots : List ℕ) (i j v : ℕ) → i < length slots → 0 < v → 0 < get_or slots j 0 → 0 < get_or (set slots i v) j 0
mark_stays slots i j v within some h = by (nat_eq j i) refl where
  by : (b : Bool) → nat_eq j i ≡ b → 0 < get_or (set slots i v) j 0
  by true e = let same : j ≡ i = grind (arith, nat_tests) in omega (arith, get_or-set_at slots i j v 0 same within)
  by false e = let other : j ≢ i = grind (arith, nat_tests) in omega (arith, get_or-set_other slots i j v 0 other)

pub index_push : (names more : List (List ℕ)) (n : List ℕ) (number value : ℕ) (old new : BTreeMap (Bor (List ℕ)) ℕ)
    (slots : List ℕ) → IsIndex names old slots → declared_in 256 names n ≡ Some more → number ≡ length names
    → UpdatesBy (λ x y. slice_cmp nat_cmp x.now y.now) (λ k. slice_cmp nat_cmp n k.now) old new (Some number)
    → (slot : ℕ) → slot ≡ slot_behind 0 n → slot < 256 → 0 < value → IsIndex more new (set slots slot value)
index_push names more n number value old new slots index e is updates slot at_slot below some =
    let within : slot < length slots = omega (arith, index.size) in
    let d = declared 256 names n more e in
    let P : List (List ℕ) → Type 0 = λ xs. AreDistinct xs in
    record {
      few = omega (arith, d.room, ap length d.appended, length-append names (n ∷ []));
      size = length-set slots slot value ∙ index.size;
      distinct = subst P (sym d.appended) (distinct_push names n index.distinct d.new);
      finds = λ q. btree_map_updates_str n old new (Some number) updates q ∙ by q (bytes_eq n q) ∙ sym (place_push names n q d.new) ∙ ap (λ xs. first_place_of xs q) (sym d.appended);
      marked = λ i m at. elim (pushed_at names n i m (rw d.appended at at)) [
        | inl old_at ↦ mark_stays slots slot (slot_behind 0 m) value within some (index.marked i m old_at)
        | inr same ↦ omega (arith, get_or-set_at slots slot (slot_behind 0 m) value 0 (ap (slot_behind 0) same ∙ sym at_slot) within)
      ];
    } where
      by : (q : List ℕ) (b : Bool) → cond b (Some number) (get_by (λ k. slice_cmp nat_cmp q k.now) old) ≡ (if b then Some (length names) else first_place_of names q)
      by q true = ap Some is
      by q false = index.finds q

-- ---- lookups

pub no_mark : (names : List (List ℕ)) (numbers : BTreeMap (Bor (List ℕ)) ℕ) (slots : List ℕ) (n : List ℕ)
    → IsIndex names numbers slots → slice_index slots (slot_behind 0 n) ≡ 0 → first_place_of names n ≡ None
no_mark names numbers slots n index none = by (first_place_of names n) refl where
  by : (o : Option ℕ) → first_place_of names n ≡ o → o ≡ None
  by None e = refl
  by (Some i) e = absurd (omega (arith, none, index.marked i n (place_is names n i e).0))

pub is_marked : (names : List (List ℕ)) (numbers : BTreeMap (Bor (List ℕ)) ℕ) (slots : List ℕ) (i : ℕ) (n m : List ℕ)
    → IsIndex names numbers slots → Some m ≡ slice_get names i → m ≡ n → first_place_of names n ≡ Some i
is_marked names numbers slots i n m index at same = place_found names i n index.distinct (sym at ∙ ap Some same)
