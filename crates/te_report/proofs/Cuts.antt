-- Where texts are cut, and the words that stand between.
use Rattle.std.proofs.Common.{◌≡◌, ℕ, zero, suc, ◌+◌, ◌<◌, ◌≤◌, Bool, true, false, cond, not, List, [], ◌∷◌, ◌++◌, length, take, drop, map, refl, sym, ap, ◌∙◌, arith, eq-eqb, append_assoc}
use Rattle.std.specs.Prelude.{◌==◌, if◌then◌else◌}
use Rattle.std.specs.List.{AllByRecursion, prefix_len}
use Rattle.std.proofs.lemmas.List.{append-nil}
use Rattle.std.proofs.lemmas.Bool.Decides.{nat_tests}
use Rattle.te_report.specs.Sayings.{up_to, cut_behind, words_by, words}

-- no byte c stands in the text
abbrev pub lacks : ℕ → List ℕ → Bool
lacks c [] = true
lacks c (b ∷ bs) = if b == c then false else lacks c bs

pub lacks_cons : (c b : ℕ) (bs : List ℕ) → (b == c) ≡ false → lacks c bs ≡ true → lacks c (b ∷ bs) ≡ true
lacks_cons c b bs other rest = rw other rest

pub lacks_append : (c : ℕ) (xs ys : List ℕ) → lacks c xs ≡ true → lacks c ys ≡ true → lacks c (xs ++ ys) ≡ true
lacks_append c [] ys p q = q
lacks_append c (b ∷ bs) ys p q = by (b == c) (λ h. lacks_append c bs ys h q) p where
  by : (t : Bool) → (lacks c bs ≡ true → lacks c (bs ++ ys) ≡ true) → (if t then false else lacks c bs) ≡ true → (if t then false else lacks c (bs ++ ys)) ≡ true
  by true more p = absurd cc
  by false more p = more p

-- ---- before and behind the first

pub front : (c : ℕ) (xs rest : List ℕ) → lacks c xs ≡ true → up_to c (xs ++ c ∷ rest) ≡ xs
front c [] rest p = rw (eq-eqb c c refl) refl
front c (b ∷ bs) rest p = by (b == c) (front c bs rest) p where
  by : (t : Bool) → (lacks c bs ≡ true → up_to c (bs ++ c ∷ rest) ≡ bs) → (if t then false else lacks c bs) ≡ true → (if t then [] else b ∷ up_to c (bs ++ c ∷ rest)) ≡ b ∷ bs
  by true more p = absurd cc
  by false more p = ap (λ l. b ∷ l) (more p)

pub back : (c : ℕ) (xs rest : List ℕ) → lacks c xs ≡ true → cut_behind c (xs ++ c ∷ rest) ≡ rest
back c [] rest p = rw (eq-eqb c c refl) refl
back c (b ∷ bs) rest p = by (b == c) (back c bs rest) p where
  by : (t : Bool) → (lacks c bs ≡ true → cut_behind c (bs ++ c ∷ rest) ≡ rest) → (if t then false else lacks c bs) ≡ true → (if t then bs ++ c ∷ rest else cut_behind c (bs ++ c ∷ rest)) ≡ rest
  by true more p = absurd cc
  by false more p = more p

pub whole_front : (c : ℕ) (xs : List ℕ) → lacks c xs ≡ true → up_to c xs ≡ xs
whole_front c [] p = refl
whole_front c (b ∷ bs) p = by (b == c) (whole_front c bs) p where
  by : (t : Bool) → (lacks c bs ≡ true → up_to c bs ≡ bs) → (if t then false else lacks c bs) ≡ true → (if t then [] else b ∷ up_to c bs) ≡ b ∷ bs
  by true more p = absurd cc
  by false more p = ap (λ l. b ∷ l) (more p)

pub no_back : (c : ℕ) (xs : List ℕ) → lacks c xs ≡ true → cut_behind c xs ≡ []
no_back c [] p = refl
no_back c (b ∷ bs) p = by (b == c) (no_back c bs) p where
  by : (t : Bool) → (lacks c bs ≡ true → cut_behind c bs ≡ []) → (if t then false else lacks c bs) ≡ true → (if t then bs else cut_behind c bs) ≡ []
  by true more p = absurd cc
  by false more p = more p

-- ---- as the code cuts: by the length of the run without the byte

pub run_le : (c : ℕ) (bs : List ℕ) → prefix_len (λ b. not (b == c)) bs ≤ length bs
run_le c [] = omega arith
run_le c (b ∷ bs) = by (b == c) (run_le c bs) where
  by : (t : Bool) → prefix_len (λ b. not (b == c)) bs ≤ length bs → cond (not t) (1 + prefix_len (λ b. not (b == c)) bs) 0 ≤ suc (length bs)
  by true le = omega arith
  by false le = omega arith

pub front_taken : (c : ℕ) (bs : List ℕ) → take (prefix_len (λ b. not (b == c)) bs) bs ≡ up_to c bs
front_taken c [] = refl
front_taken c (b ∷ bs) = by (b == c) (front_taken c bs) where
  by : (t : Bool) → take (prefix_len (λ b. not (b == c)) bs) bs ≡ up_to c bs → take (cond (not t) (1 + prefix_len (λ b. not (b == c)) bs) 0) (b ∷ bs) ≡ (if t then [] else b ∷ up_to c bs)
  by true more = refl
  by false more =
      let one : 1 + prefix_len (λ b. not (b == c)) bs ≡ suc (prefix_len (λ b. not (b == c)) bs) = omega arith in
      ap (λ n. take n (b ∷ bs)) one ∙ ap (λ l. b ∷ l) more

pub back_dropped : (c : ℕ) (bs : List ℕ) → drop (prefix_len (λ b. not (b == c)) bs + 1) bs ≡ cut_behind c bs
back_dropped c [] = refl
back_dropped c (b ∷ bs) = by (b == c) (back_dropped c bs) where
  by : (t : Bool) → drop (prefix_len (λ b. not (b == c)) bs + 1) bs ≡ cut_behind c bs → drop (cond (not t) (1 + prefix_len (λ b. not (b == c)) bs) 0 + 1) (b ∷ bs) ≡ (if t then bs else cut_behind c bs)
  by true more = refl
  by false more =
      let one : 1 + prefix_len (λ b. not (b == c)) bs + 1 ≡ suc (prefix_len (λ b. not (b == c)) bs + 1) = omega arith in
      ap (λ n. drop n (b ∷ bs)) one ∙ more

-- where the byte isn't there
pub front_all : (c : ℕ) (bs : List ℕ) → length bs ≤ prefix_len (λ b. not (b == c)) bs → up_to c bs ≡ bs
front_all c [] long = refl
front_all c (b ∷ bs) long = by (b == c) (front_all c bs) long where
  by : (t : Bool) → (length bs ≤ prefix_len (λ b. not (b == c)) bs → up_to c bs ≡ bs)
      → suc (length bs) ≤ cond (not t) (1 + prefix_len (λ b. not (b == c)) bs) 0
      → (if t then [] else b ∷ up_to c bs) ≡ b ∷ bs
  by true more long = absurd (omega arith)
  by false more long = ap (λ l. b ∷ l) (more (omega arith))

pub back_none : (c : ℕ) (bs : List ℕ) → length bs ≤ prefix_len (λ b. not (b == c)) bs → cut_behind c bs ≡ []
back_none c [] long = refl
back_none c (b ∷ bs) long = by (b == c) (back_none c bs) long where
  by : (t : Bool) → (length bs ≤ prefix_len (λ b. not (b == c)) bs → cut_behind c bs ≡ [])
      → suc (length bs) ≤ cond (not t) (1 + prefix_len (λ b. not (b == c)) bs) 0
      → (if t then bs else cut_behind c bs) ≡ []
  by true more long = absurd (omega arith)
  by false more long = more (omega arith)

-- ---- words

pub behind_le : (c : ℕ) (bs : List ℕ) → length (cut_behind c bs) ≤ length bs
behind_le c [] = omega arith
behind_le c (b ∷ bs) = by (b == c) (behind_le c bs) where
  by : (t : Bool) → length (cut_behind c bs) ≤ length bs → length (if t then bs else cut_behind c bs) ≤ suc (length bs)
  by true le = omega arith
  by false le = omega arith

pub behind_shorter : (c b : ℕ) (bs : List ℕ) → length (cut_behind c (b ∷ bs)) ≤ length bs
behind_shorter c b bs = by (b == c) (behind_le c bs) where
  by : (t : Bool) → length (cut_behind c bs) ≤ length bs → length (if t then bs else cut_behind c bs) ≤ length bs
  by true le = omega arith
  by false le = le

enough : (n m c : ℕ) (bytes : List ℕ) → length bytes ≤ n → length bytes ≤ m → words_by n c bytes ≡ words_by m c bytes
enough zero zero c bytes p q = refl
enough zero (suc m) c [] p q = refl
enough zero (suc m) c (b ∷ bs) p q = absurd (omega arith)
enough (suc n) zero c [] p q = refl
enough (suc n) zero c (b ∷ bs) p q = absurd (omega arith)
enough (suc n) (suc m) c [] p q = refl
enough (suc n) (suc m) c (b ∷ bs) p q =
    let le = behind_shorter c b bs in
    ap (λ ws. up_to c (b ∷ bs) ∷ ws) (enough n m c (cut_behind c (b ∷ bs)) (omega arith) (omega arith))

pub no_words : (c : ℕ) → words c [] ≡ []
unfolding words
no_words c = refl

pub next_word : (c b : ℕ) (bs : List ℕ) → words c (b ∷ bs) ≡ up_to c (b ∷ bs) ∷ words c (cut_behind c (b ∷ bs))
unfolding words
next_word c b bs =
    let le = behind_shorter c b bs in
    ap (λ ws. up_to c (b ∷ bs) ∷ ws) (enough (length bs) (length (cut_behind c (b ∷ bs))) c (cut_behind c (b ∷ bs)) (omega arith) (omega arith))

-- where something is left
pub next_of_some : (c : ℕ) (bytes : List ℕ) → 0 < length bytes → words c bytes ≡ up_to c bytes ∷ words c (cut_behind c bytes)
next_of_some c [] some = absurd (omega arith)
next_of_some c (b ∷ bs) some = next_word c b bs

-- one word more is done
pub next_done : {A : Type 0} (f : List ℕ → A) (done : List A) (c : ℕ) (rest : List ℕ) → 0 < length rest
    → done ++ f (up_to c rest) ∷ [] ++ map f (words c (cut_behind c rest)) ≡ done ++ map f (words c rest)
next_done f done c rest some =
    append_assoc done (f (up_to c rest) ∷ []) (map f (words c (cut_behind c rest))) ∙ ap (λ ws. done ++ map f ws) (sym (next_of_some c rest some))

-- all words are done
pub all_done : {A : Type 0} (f : List ℕ → A) (done : List A) (c : ℕ) (rest : List ℕ) → length rest ≤ 0 → done ++ map f (words c rest) ≡ done
all_done f done c [] none = ap (λ ws. done ++ map f ws) (no_words c) ∙ append-nil done
all_done f done c (b ∷ bs) none = absurd (omega arith)

pub some_left : (bs : List ℕ) (b : Bool) → b ≡ (length bs == 0) → b ≡ false → 0 < length bs
some_left bs b is f = let some : (length bs == 0) ≡ false = sym is ∙ f in grind (arith, nat_tests)

pub none_left : (bs : List ℕ) (b : Bool) → b ≡ (length bs == 0) → b ≡ true → length bs ≤ 0
none_left bs b is t = let none : (length bs == 0) ≡ true = sym is ∙ t in grind (arith, nat_tests)

-- what a loop over words keeps: with those that are left it is the whole
pub word_done : {A : Type 0} (f : List ℕ → A) (done new : List A) (x : A) (c : ℕ) (rest before back : List ℕ) (b : Bool) → b ≡ (length rest == 0) → b ≡ false
    → before ≡ up_to c rest → back ≡ cut_behind c rest → x ≡ f before → new ≡ done ++ x ∷ [] → (whole : List A) → done ++ map f (words c rest) ≡ whole → new ++ map f (words c back) ≡ whole
word_done f done new x c rest before back b is some front_is back_is told longer whole so_far =
    ap (λ ns. ns ++ map f (words c back)) (longer ∙ ap (λ y. done ++ y ∷ []) (told ∙ ap f front_is))
    ∙ ap (λ bs. done ++ f (up_to c rest) ∷ [] ++ map f (words c bs)) back_is
    ∙ next_done f done c rest (some_left rest b is some) ∙ so_far

pub words_done : {A : Type 0} (f : List ℕ → A) (done : List A) (c : ℕ) (rest : List ℕ) (b : Bool)
    → b ≡ (length rest == 0) → b ≡ true → (whole : List A) → done ++ map f (words c rest) ≡ whole → done ≡ whole
words_done f done c rest b is none whole so_far = sym (all_done f done c rest (none_left rest b is none)) ∙ so_far

few_by : (n c : ℕ) (bytes : List ℕ) → length (words_by n c bytes) ≤ n
few_by zero c bytes = omega arith
few_by (suc n) c [] = omega arith
few_by (suc n) c (b ∷ bs) = let le = few_by n c (cut_behind c (b ∷ bs)) in omega arith

-- there are no more words than bytes
pub few_words : (c : ℕ) (bytes : List ℕ) → length (words c bytes) ≤ length bytes
unfolding words
few_words c bytes = few_by (length bytes) c bytes

length_map : {A : Type 0} (f : List ℕ → A) (xs : List (List ℕ)) → length (map f xs) ≡ length xs
length_map f [] = refl
length_map f (x ∷ xs) = ap suc (length_map f xs)

-- nor are there more that are told by words
pub few_told : {A : Type 0} (f : List ℕ → A) (c : ℕ) (bytes : List ℕ) (xs : List A) → xs ≡ map f (words c bytes) → length xs ≤ length bytes
few_told f c bytes xs is = omega (arith, ap length is, length_map f (words c bytes), few_words c bytes)

-- ---- texts joined by a byte

abbrev pub others : ℕ → List (List ℕ) → List ℕ
others c [] = []
others c (x ∷ xs) = c ∷ (x ++ others c xs)

abbrev pub joined : ℕ → List (List ℕ) → List ℕ
joined c [] = []
joined c (x ∷ xs) = x ++ others c xs

-- a text that is there, without the byte
abbrev pub IsWord : ℕ → List ℕ → Type 0
IsWord c x = (0 < length x) × (lacks c x ≡ true)

pub back_joined : (c : ℕ) (x : List ℕ) (xs : List (List ℕ)) → lacks c x ≡ true → cut_behind c (x ++ others c xs) ≡ joined c xs
back_joined c x [] p = ap (cut_behind c) (append-nil x) ∙ no_back c x p
back_joined c x (y ∷ ys) p = back c x (y ++ others c ys) p

pub front_joined : (c : ℕ) (x : List ℕ) (xs : List (List ℕ)) → lacks c x ≡ true → up_to c (x ++ others c xs) ≡ x
front_joined c x [] p = ap (up_to c) (append-nil x) ∙ whole_front c x p
front_joined c x (y ∷ ys) p = front c x (y ++ others c ys) p

pub words_joined : (c : ℕ) (xs : List (List ℕ)) → AllByRecursion (IsWord c) xs → words c (joined c xs) ≡ xs
words_joined c [] all = no_words c
words_joined c ([] ∷ xs) all = absurd (omega (arith, all.0.0))
words_joined c ((b ∷ bs) ∷ xs) all =
    next_word c b (bs ++ others c xs)
    ∙ ap (λ w. w ∷ words c (cut_behind c ((b ∷ bs) ++ others c xs))) (front_joined c (b ∷ bs) xs all.0.1)
    ∙ ap (λ r. (b ∷ bs) ∷ words c r) (back_joined c (b ∷ bs) xs all.0.1)
    ∙ ap (λ ws. (b ∷ bs) ∷ ws) (words_joined c xs all.1)

pub lacks_others : (c d : ℕ) (xs : List (List ℕ)) → (d == c) ≡ false → AllByRecursion (λ x. lacks c x ≡ true) xs → lacks c (others d xs) ≡ true
lacks_others c d [] other all = refl
lacks_others c d (x ∷ xs) other all = lacks_cons c d (x ++ others d xs) other (lacks_append c x (others d xs) all.0 (lacks_others c d xs other all.1))

pub lacks_joined : (c d : ℕ) (xs : List (List ℕ)) → (d == c) ≡ false → AllByRecursion (λ x. lacks c x ≡ true) xs → lacks c (joined d xs) ≡ true
lacks_joined c d [] other all = refl
lacks_joined c d (x ∷ xs) other all = lacks_append c x (others d xs) all.0 (lacks_others c d xs other all.1)
