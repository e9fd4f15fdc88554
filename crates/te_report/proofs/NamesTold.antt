-- Names are told by their places, and have letters, digits and `_` alone.
use Rattle.std.proofs.Common.{◌≡◌, ◌≢◌, ℕ, zero, suc, ◌+◌, ◌<◌, Bool, true, false, cond, not, nat_lt, List, [], ◌∷◌, length, refl, ap, ◌∙◌, arith}
use Rattle.std.specs.Prelude.{◌==◌, Option, Some, None, slice_get, if◌then◌else◌}
use Rattle.std.specs.Option.{option_map}
use Rattle.std.specs.List.{AllByRecursion, prefix_len, position}
use Rattle.std.specs.Char.{is_ascii_alphabetic}
use Rattle.std.specs.Str.{bytes_eq}
use Rattle.std.proofs.lemmas.Bool.Decides.{nat_tests}
use Rattle.std.proofs.lemmas.Slice.Eq.{bytes_eq-Decides}
use Rattle.te_terms.proofs.Lists.{all_at}
use Rattle.te_script.specs.Names.{is_word_byte, IsIdentifier}
use Rattle.te_script.specs.Scripts.{Thread, Program, AreDistinct, thread_names}
use Rattle.te_report.specs.Report.{thread_name, name_of, or_nothing, channel_name}
use Rattle.te_report.specs.FirstPlaces.{place_of_name}
use Rattle.te_report.specs.Sayings.{or_first, said_thread}
use Rattle.te_report.proofs.Cuts.{lacks, lacks_cons}

-- ---- the first place that passes a test

-- the first place of an item that passes, item by item
abbrev pub place_by : {A : Type 0} → (A → Bool) → List A → Option ℕ
place_by p [] = None
place_by p (x ∷ xs) = if p x then Some 0 else option_map suc (place_by p xs)

module _ {A : Type 0} (p : A → Bool) where
  ahead : (xs : List A) (k : ℕ) (b : Bool) → nat_lt k (length xs) ≡ b → cond (nat_lt (1 + k) (suc (length xs))) (Some (1 + k)) None ≡ option_map suc (cond (nat_lt k (length xs)) (Some k) None)
  ahead xs k true e = let up : nat_lt (1 + k) (suc (length xs)) ≡ true = grind (arith, nat_tests) in let one : 1 + k ≡ suc k = omega arith in rw (up, e, one) refl
  ahead xs k false e = let up : nat_lt (1 + k) (suc (length xs)) ≡ false = grind (arith, nat_tests) in rw (up, e) refl

  abbrev test : A → Bool
  test x = not (p x)

  pub position_is : (xs : List A) → position p xs ≡ place_by p xs
  position_is [] = refl
  position_is (x ∷ xs) = by (p x) (position_is xs) where
    by : (b : Bool) → position p xs ≡ place_by p xs
        → cond (nat_lt (cond (not b) (1 + prefix_len test xs) 0) (suc (length xs))) (Some (cond (not b) (1 + prefix_len test xs) 0)) None ≡ (if b then Some 0 else option_map suc (place_by p xs))
    by true more = let up : nat_lt 0 (suc (length xs)) ≡ true = grind (arith, nat_tests) in rw up refl
    by false more = ahead xs (prefix_len test xs) _ refl ∙ ap (option_map suc) more

  pub found_below : (xs : List A) (i : ℕ) → place_by p xs ≡ Some i → i < length xs
  found_below [] i e = absurd cc
  found_below (x ∷ xs) i e = by (p x) (place_by p xs) (found_below xs) e where
    by : (b : Bool) (o : Option ℕ) → ((j : ℕ) → o ≡ Some j → j < length xs) → (if b then Some 0 else option_map suc o) ≡ Some i → i < suc (length xs)
    by true o later e = let z : i ≡ 0 = cc in omega arith
    by false None later e = absurd cc
    by false (Some j) later e = let z : i ≡ suc j = cc in let h = later j refl in omega arith

  -- the place of an item that passes, where none before it does
  pub first_found : (xs : List A) (i : ℕ) (x : A) → slice_get xs i ≡ Some x → p x ≡ true → ((k : ℕ) (y : A) → k < i → slice_get xs k ≡ Some y → p y ≡ false) → place_by p xs ≡ Some i
  first_found [] i x is passes before = absurd cc
  first_found (y ∷ ys) zero x is passes before = let same : y ≡ x = cc in let passes' : p y ≡ true = ap p same ∙ passes in rw passes' refl
  first_found (y ∷ ys) (suc i) x is passes before =
      let fails : p y ≡ false = before 0 y (omega arith) refl in
      let rest = first_found ys i x is passes (λ k z lt there. before (suc k) z (omega arith) there) in
      rw (fails, rest) refl

-- ---- names

other_name : (x n : List ℕ) → x ≢ n → bytes_eq x n ≡ false
other_name x n other = by (bytes_eq x n) (bytes_eq-Decides x n).0 where
  by : (b : Bool) → (b ≡ true → x ≡ n) → b ≡ false
  by true same = absurd (other (same refl))
  by false same = refl

none_earlier : (n : List ℕ) (names : List (List ℕ)) (i : ℕ) → AreDistinct names → slice_get names i ≡ Some n → (k : ℕ) (y : List ℕ) → k < i → slice_get names k ≡ Some y → bytes_eq y n ≡ false
none_earlier n [] i d is k y lt there = absurd cc
none_earlier n (x ∷ xs) zero d is k y lt there = absurd (omega arith)
none_earlier n (x ∷ xs) (suc i) d is zero y lt there =
    let same : x ≡ y = cc in
    let apart : x ≢ n = all_at (λ z. x ≢ z) xs i n d.0 is in
    other_name y n (λ e. apart (same ∙ e))
none_earlier n (x ∷ xs) (suc i) d is (suc k) y lt there = none_earlier n xs i d.1 is k y (omega arith) there

pub place_found : (names : List (List ℕ)) (i : ℕ) (n : List ℕ) → AreDistinct names → slice_get names i ≡ Some n → place_of_name names n ≡ Some i
unfolding place_of_name
place_found names i n distinct is =
    position_is (λ x. bytes_eq x n) names ∙ first_found (λ x. bytes_eq x n) names i n is ((bytes_eq-Decides n n).1 refl) (none_earlier n names i distinct is)

-- the name of a thread that is there
pub named_there : (threads : List Thread) (t : ℕ) → t < length threads → slice_get (thread_names threads) t ≡ Some (thread_name (slice_get threads t))
named_there [] t lt = absurd (omega arith)
named_there (x ∷ xs) zero lt = refl
named_there (x ∷ xs) (suc t) lt = named_there xs t (omega arith)

pub thread_told : (script : Program) (t : ℕ) → AreDistinct (thread_names script.threads) → t < length script.threads → said_thread (thread_names script.threads) (name_of script t) ≡ t
thread_told script t distinct lt =
    ap or_first (place_found (thread_names script.threads) t (name_of script t) distinct (named_there script.threads t lt))

pub channel_there : (names : List (List ℕ)) (c : ℕ) → c < length names → slice_get names c ≡ Some (or_nothing (slice_get names c))
channel_there [] c lt = absurd (omega arith)
channel_there (x ∷ xs) zero lt = refl
channel_there (x ∷ xs) (suc c) lt = channel_there xs c (omega arith)

pub channel_told : (script : Program) (c : ℕ) → AreDistinct script.channels → c < length script.channels → place_of_name script.channels (channel_name script c) ≡ Some c
channel_told script c distinct lt = place_found script.channels c (channel_name script c) distinct (channel_there script.channels c lt)

-- ---- their bytes

word_lacks : (c : ℕ) (bs : List ℕ) → is_word_byte c ≡ false → AllByRecursion (λ x. is_word_byte x ≡ true) bs → lacks c bs ≡ true
word_lacks c [] sign all = refl
word_lacks c (b ∷ bs) sign all = lacks_cons c b bs (other (b == c) refl) (word_lacks c bs sign all.1) where
  other : (t : Bool) → (b == c) ≡ t → (b == c) ≡ false
  other false e = e
  other true e =
      let same : b ≡ c = grind (arith, nat_tests) in
      absurd (let no_word : is_word_byte b ≡ false = ap is_word_byte same ∙ sign in let word = all.0 in cc)

letter_is_word : (b : ℕ) → is_ascii_alphabetic b ≡ true → is_word_byte b ≡ true
letter_is_word b h = grind (arith, nat_tests, h)

pub name_lacks : (c : ℕ) (n : List ℕ) → is_word_byte c ≡ false → IsIdentifier n → lacks c n ≡ true
name_lacks c [] sign is = absurd is
name_lacks c (b ∷ bs) sign is = word_lacks c (b ∷ bs) sign (letter_is_word b is.0, is.1)

pub name_some : (n : List ℕ) → IsIdentifier n → 0 < length n
name_some [] is = absurd is
name_some (b ∷ bs) is = omega arith
