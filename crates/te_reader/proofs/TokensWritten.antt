-- What is written spells its tokens: each token where what follows doesn't lengthen it, and single blanks before tokens.
use Rattle.std.proofs.Common.{◌≡◌, ℕ, Bool, true, false, List, [], ◌∷◌, ◌++◌, take, refl, sym, ◌∙◌, ap, subst, append_assoc, one-add, arith, inl, inr}
use Rattle.std.specs.Prelude.{codes}
use Rattle.std.specs.List.{AllByRecursion, prefix_len}
use Rattle.std.specs.Char.{is_ascii_alphabetic, is_ascii_digit}
use Rattle.std.proofs.lemmas.Bool.Decides.{nat_tests}
use Rattle.te_script.specs.Names.{is_word_byte, IsIdentifier}
use Rattle.te_reader.specs.declared.token.Word.{Word}
use Rattle.te_reader.specs.declared.token.Word.TheVariants as words
use Rattle.te_reader.specs.declared.token.Sign.{Sign}
use Rattle.te_reader.specs.declared.token.Sign.TheVariants as signs
use Rattle.te_reader.specs.Tokens.{Token, word, name, inner, integer, sign, word_spelling, sign_spelling, spelling, is_blank, IsToken, IsLongest, Spells}
use Rattle.te_reader.specs.Lexed.{found, byte_run, reserved_as, word_or_name, token_at}
use Rattle.te_reader.specs.Grammar.{Span, is, ◌⨟◌, nothing, either, some_name, span_under}
use Rattle.te_reader.proofs.ReservedWords.{reserved_back, differs_from_words}
use Rattle.te_reader.proofs.LongestTokens.{passes, passes_all, token_found, longest_found}
use Rattle.te_reader.proofs.SpelledIsLexed.{not_reserved}
use Rattle.te_reader.proofs.ByteKinds.{digit_is_no_letter}

-- ---- what may follow a word or a number

-- the text begins with no letter, digit or `_`
abbrev pub IsApart : List ℕ → Type 0
IsApart [] = Unit {0}
IsApart (b ∷ bs) = is_word_byte b ≡ false

abbrev StopsAt : (ℕ → Bool) → List ℕ → Type 0
StopsAt p [] = Unit {0}
StopsAt p (b ∷ bs) = p b ≡ false

words_stop : (behind : List ℕ) → IsApart behind → StopsAt is_word_byte behind
words_stop [] h = tt
words_stop (b ∷ bs) h = h

digits_stop : (behind : List ℕ) → IsApart behind → StopsAt is_ascii_digit behind
digits_stop [] h = tt
digits_stop (b ∷ bs) h = grind (arith, nat_tests, h)

taken_run : (p : ℕ → Bool) (xs behind : List ℕ) → AllByRecursion (λ x. p x ≡ true) xs → StopsAt p behind → take (prefix_len p (xs ++ behind)) (xs ++ behind) ≡ xs
taken_run p [] [] all stop = refl
taken_run p [] (b ∷ bs) all stop = rw stop refl
taken_run p (x ∷ xs) behind all stop = rw (all.0, one-add (prefix_len p (xs ++ behind))) (ap (λ ys. x ∷ ys) (taken_run p xs behind all.1 stop))

-- ---- one token

-- a token that what follows doesn't lengthen
pub record Ends (u : Token) (behind : List ℕ) : Type 0 where
  pub is_token : IsToken u
  pub is_longest : IsLongest u (spelling u ++ behind)

ends_found : (u : Token) (b : ℕ) (bs behind : List ℕ) → spelling u ≡ b ∷ bs → token_at b (bs ++ behind) ≡ found u → Ends u behind
ends_found u b bs behind spelled e = record {
  is_token = (token_found b (bs ++ behind) u e).is_token;
  is_longest = subst (λ (text : List ℕ). IsLongest u text) (ap (λ x. x ++ behind) (sym spelled)) (longest_found b (bs ++ behind) u e);
}

run_is : (p : ℕ → Bool) (b : ℕ) (xs behind : List ℕ) → AllByRecursion (λ x. p x ≡ true) xs → StopsAt p behind → byte_run p b (xs ++ behind) ≡ b ∷ xs
run_is p b xs behind all stop = ap (λ ys. b ∷ ys) (taken_run p xs behind all stop)

letters_end : (u : Token) (b : ℕ) (bs behind : List ℕ) → spelling u ≡ b ∷ bs → is_ascii_alphabetic b ≡ true
    → AllByRecursion (λ x. is_word_byte x ≡ true) bs → word_or_name (reserved_as (b ∷ bs)) (b ∷ bs) ≡ u → IsApart behind
    → Ends u behind
letters_end u b bs behind spelled letter all same apart = ends_found u b bs behind spelled (rw (letter, run_is is_word_byte b bs behind all (words_stop behind apart)) (ap found same))

pub name_ends : (n behind : List ℕ) → IsIdentifier n → IsApart behind → Ends (name n) behind
name_ends [] behind h apart = absurd h
name_ends (b ∷ bs) behind h apart = letters_end (name (b ∷ bs)) b bs behind refl h.0 h.1 (not_reserved (b ∷ bs) (differs_from_words (b ∷ bs) h.2)) apart

word_by : (w : Word) (b : ℕ) (bs behind : List ℕ) → word_spelling w ≡ b ∷ bs → is_ascii_alphabetic b ≡ true → passes bs ≡ true → IsApart behind → Ends (word w) behind
word_by w b bs behind spelled letter all apart =
    letters_end (word w) b bs behind spelled letter (passes_all bs all) (rw (← spelled) (rw (reserved_back w) refl)) apart

pub word_ends : (w : Word) (behind : List ℕ) → IsApart behind → Ends (word w) behind
word_ends words.Channels behind h = word_by words.Channels 99 (codes "hannels") behind refl refl refl h
word_ends words.Thread behind h = word_by words.Thread 116 (codes "hread") behind refl refl refl h
word_ends words.Sync behind h = word_by words.Sync 115 (codes "ync") behind refl refl refl h
word_ends words.Emit behind h = word_by words.Emit 101 (codes "mit") behind refl refl refl h
word_ends words.Always behind h = word_by words.Always 97 (codes "lways") behind refl refl refl h
word_ends words.Never behind h = word_by words.Never 110 (codes "ever") behind refl refl refl h
word_ends words.Throw behind h = word_by words.Throw 116 (codes "hrow") behind refl refl refl h
word_ends words.Send behind h = word_by words.Send 115 (codes "end") behind refl refl refl h
word_ends words.Recv behind h = word_by words.Recv 114 (codes "ecv") behind refl refl refl h
word_ends words.Do behind h = word_by words.Do 100 (codes "o") behind refl refl refl h
word_ends words.Choose behind h = word_by words.Choose 99 (codes "hoose") behind refl refl refl h
word_ends words.Try behind h = word_by words.Try 116 (codes "ry") behind refl refl refl h
word_ends words.Catch behind h = word_by words.Catch 99 (codes "atch") behind refl refl refl h
word_ends words.If behind h = word_by words.If 105 (codes "f") behind refl refl refl h
word_ends words.Else behind h = word_by words.Else 101 (codes "lse") behind refl refl refl h
word_ends words.Fresh behind h = word_by words.Fresh 102 (codes "resh") behind refl refl refl h
word_ends words.Repeat behind h = word_by words.Repeat 114 (codes "epeat") behind refl refl refl h

pub inner_ends : (bs behind : List ℕ) → AllByRecursion (λ x. is_word_byte x ≡ true) bs → IsApart behind → Ends (inner (95 ∷ bs)) behind
inner_ends bs behind all apart = ends_found (inner (95 ∷ bs)) 95 bs behind refl (ap (λ xs. found (inner xs)) (run_is is_word_byte 95 bs behind all (words_stop behind apart)))

pub digits_end : (d : ℕ) (ds behind : List ℕ) → is_ascii_digit d ≡ true → AllByRecursion (λ x. is_ascii_digit x ≡ true) ds → IsApart behind → Ends (integer (d ∷ ds)) behind
digits_end d ds behind first all apart = ends_found (integer (d ∷ ds)) d ds behind refl
    (rw (digit_is_no_letter d first, first) (ap (λ xs. found (integer xs))
    (run_is is_ascii_digit d ds behind all (digits_stop behind apart))))

pub negative_ends : (d : ℕ) (ds behind : List ℕ) → is_ascii_digit d ≡ true → AllByRecursion (λ x. is_ascii_digit x ≡ true) ds → IsApart behind → Ends (integer (45 ∷ d ∷ ds)) behind
negative_ends d ds behind first all apart = ends_found (integer (45 ∷ d ∷ ds)) 45 (d ∷ ds) behind refl
    (rw first (ap (λ xs. found (integer (45 ∷ xs))) (run_is is_ascii_digit d ds behind all (digits_stop behind apart))))

-- a sign that ends wherever it stands
abbrev pub IsOneByte : Sign → ℕ → Type 0
IsOneByte g b = (sign_spelling g ≡ b ∷ []) × ((ys : List ℕ) → token_at b ys ≡ found (sign g))

pub brace_opens : IsOneByte signs.OpenBrace 123
brace_opens = (refl, λ ys. refl)

pub brace_closes : IsOneByte signs.CloseBrace 125
brace_closes = (refl, λ ys. refl)

pub semicolon_is : IsOneByte signs.Semicolon 59
semicolon_is = (refl, λ ys. refl)

-- ---- texts that spell

-- a token before what is spelled
pub token_first : (u : Token) (ts : List Token) (behind : List ℕ) → Ends u behind → Spells ts behind → Spells (u ∷ ts) (spelling u ++ behind)
token_first u ts behind ends h = (behind, record { gap = []; is_split = refl; is_gap = tt; is_token = ends.is_token; is_longest = ends.is_longest }, h)

-- a blank before it
pub blank_first : (b : ℕ) (ts : List Token) (text : List ℕ) → is_blank b ≡ true → Spells ts text → Spells ts (b ∷ text)
blank_first b [] text blank h = inl (blank, h)
blank_first b (t ∷ ts) text blank h =
    let k = h.1 in
    (h.0, record { gap = b ∷ k.gap; is_split = ap (λ x. b ∷ x) k.is_split; is_gap = inl (blank, k.is_gap); is_token = k.is_token; is_longest = k.is_longest }, h.2)

-- before whatever is spelled behind it, this text spells such a span
pub record Writes (text : List ℕ) (span : Span) : Type 0 where
  pub before : (rest : List Token) (behind : List ℕ) → IsApart behind → Spells rest behind → (ts : List Token) × span ts rest × Spells ts (text ++ behind)

-- what may stand behind a word or a number, with whatever may behind it
abbrev pub StandsApart : List ℕ → Type 0
StandsApart text = (behind : List ℕ) → IsApart behind → IsApart (text ++ behind)

pub then_writes : (a b : List ℕ) (first second : Span) → Writes a first → Writes b second → StandsApart b → Writes (a ++ b) (first ⨟ second)
then_writes a b first second f g apart = record {
  before = λ rest behind h k.
      let later = g.before rest behind h k in
      let whole = f.before later.0 (b ++ behind) (apart behind h) later.2 in
      (whole.0, (later.0, whole.1, later.1), subst (λ (text : List ℕ). Spells whole.0 text) (sym (append_assoc a b behind)) whole.2);
}

pub nothing_writes : Writes [] nothing
nothing_writes = record { before = λ rest behind h k. (rest, refl, k) }

pub token_writes : (u : Token) → ((behind : List ℕ) → IsApart behind → Ends u behind) → Writes (spelling u) (is u)
token_writes u ends = record { before = λ rest behind h k. (u ∷ rest, refl, token_first u rest behind (ends behind h) k) }

pub word_writes : (w : Word) → Writes (word_spelling w) (is (word w))
word_writes w = token_writes (word w) (word_ends w)

pub name_writes : (n : List ℕ) → IsIdentifier n → Writes n (is (name n))
name_writes n h = token_writes (name n) (λ behind apart. name_ends n behind h apart)

-- a sign of one byte needs nothing behind it
pub sign_before : (g : Sign) (b : ℕ) (text : List ℕ) (span : Span) → IsOneByte g b → Writes text span → Writes (b ∷ text) (is (sign g) ⨟ span)
sign_before g b text span one f = record {
  before = λ rest behind h k.
      let later = f.before rest behind h k in
      let ends = ends_found (sign g) b [] (text ++ behind) one.0 (one.1 (text ++ behind)) in
      let all = token_first (sign g) later.0 (text ++ behind) ends later.2 in
      (sign g ∷ later.0, (later.0, refl, later.1), subst (λ (xs : List ℕ). Spells (sign g ∷ later.0) (xs ++ (text ++ behind))) one.0 all);
}

pub sign_writes : (g : Sign) (b : ℕ) → IsOneByte g b → Writes (b ∷ []) (is (sign g))
sign_writes g b one = record {
  before = λ rest behind h k.
      let ends = ends_found (sign g) b [] behind one.0 (one.1 behind) in
      let all = token_first (sign g) rest behind ends k in
      (sign g ∷ rest, refl, subst (λ (xs : List ℕ). Spells (sign g ∷ rest) (xs ++ behind)) one.0 all);
}

-- a sign that a blank follows
pub sign_and_blank : (g : Sign) (b : ℕ) (bs text : List ℕ) (span : Span) → sign_spelling g ≡ b ∷ bs → ((ys : List ℕ) → token_at b (bs ++ (32 ∷ ys)) ≡ found (sign g)) → Writes text span
    → Writes (b ∷ (bs ++ (32 ∷ text))) (is (sign g) ⨟ span)
sign_and_blank g b bs text span spelled at f = record {
  before = λ rest behind h k.
      let later = f.before rest behind h k in
      let blank = blank_first 32 later.0 (text ++ behind) refl later.2 in
      let ends = ends_found (sign g) b bs (32 ∷ (text ++ behind)) spelled (at (text ++ behind)) in
      let all = token_first (sign g) later.0 (32 ∷ (text ++ behind)) ends blank in (
        sign g ∷ later.0,
        (later.0, refl, later.1),
        subst (λ (xs : List ℕ). Spells (sign g ∷ later.0) xs) (ap (λ xs. xs ++ (32 ∷ (text ++ behind))) spelled ∙ ap (λ xs. b ∷ xs) (sym (append_assoc bs (32 ∷ text) behind))) all,
      );
}

-- a blank or a line feed before it
pub blank_writes : (b : ℕ) (text : List ℕ) (span : Span) → is_blank b ≡ true → Writes text span → Writes (b ∷ text) span
blank_writes b text span blank f = record { before = λ rest behind h k. let w = f.before rest behind h k in (w.0, w.1, blank_first b w.0 (text ++ behind) blank w.2) }

-- for this name, of which this is true
pub named_writes : (text n : List ℕ) (fact : List ℕ → Type 0) (span : List ℕ → Span) → fact n → Writes text (span n) → Writes text (some_name (λ x. span_under true (fact x) (span x)))
named_writes text n fact span true_of f = record { before = λ rest behind h k. let w = f.before rest behind h k in (w.0, (n, (true_of, w.1)), w.2) }

pub under_writes : (text : List ℕ) (fact : Type 0) (span : Span) → fact → Writes text span → Writes text (span_under true fact span)
under_writes text fact span true_of f = record { before = λ rest behind h k. let w = f.before rest behind h k in (w.0, (true_of, w.1), w.2) }

pub second_writes : (text : List ℕ) (first second : Span) → Writes text second → Writes text (either first second)
second_writes text first second f = record { before = λ rest behind h k. let w = f.before rest behind h k in (w.0, inr w.1, w.2) }
