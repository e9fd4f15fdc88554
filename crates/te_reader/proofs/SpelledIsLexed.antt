-- A text that spells some tokens is lexed as these.
use Rattle.std.proofs.Common.{◌≡◌, ◌≢◌, ℕ, ◌<◌, ◌≤◌, Bool, true, false, nat_eq, List, [], ◌∷◌, ◌++◌, length, drop, refl, sym, ◌∙◌, ap, arith, inl, inr}
use Rattle.std.specs.Prelude.{Option, Some, None, ◌⊎◌, ◌==◌, if◌then◌else◌}
use Rattle.std.specs.Char.{is_ascii_alphabetic, is_ascii_digit}
use Rattle.std.proofs.lemmas.Bool.{ne_eqb}
use Rattle.te_reader.specs.declared.token.Word.{Word}
use Rattle.te_reader.specs.declared.token.Word.TheVariants as words
use Rattle.te_reader.specs.declared.token.Sign.{Sign}
use Rattle.te_reader.specs.declared.token.Sign.TheVariants as signs
use Rattle.te_script.specs.Names.{is_word_byte}
use Rattle.te_reader.specs.Tokens.{Token, word, name, inner, integer, sign, word_spelling, sign_spelling, spelling}
use Rattle.te_reader.specs.Tokens.{IsDigits, IsToken, Between, in_blanks, in_comment, is_blank, IsGap, IsLongest}
use Rattle.te_reader.specs.Tokens.{Spells}
use Rattle.te_reader.specs.Lexed.{gap, found, reserved_as, word_or_name, token_at, piece_at, before, byte_run, lexed_behind, lexed}
use Rattle.te_reader.proofs.ByteKinds.{letter_is_no_gap, digit_is_no_gap, digit_is_no_letter}
use Rattle.te_reader.proofs.ReservedWords.{reserved_spells, reserved_back, differs_from_words}
use Rattle.te_reader.specs.Spots.{token, spot, spots}
use Rattle.te_reader.proofs.TokenSteps.{found_first, at_token}
use Rattle.te_reader.proofs.LongestTokens.{Kind, letters, underscore, digits, negative, arrow, less, one_byte, begun, limit, within_limit, token_found}

-- ---- gaps

-- a byte of a gap is passed over
stepped : (place next : Between) (b : ℕ) (bs : List ℕ) → piece_at place b bs ≡ gap next → lexed_behind place 0 (b ∷ bs) ≡ lexed_behind next 0 bs
unfolding lexed_behind
stepped place next b bs e = rw e refl

pub blank_piece : (b : ℕ) (bs : List ℕ) → is_blank b ≡ true → piece_at in_blanks b bs ≡ gap in_blanks
blank_piece b bs e = rw e refl

pub hash_piece : (b : ℕ) (bs : List ℕ) → b ≡ 35 → piece_at in_blanks b bs ≡ gap in_comment
hash_piece b bs e = rw e refl

pub line_piece : (b : ℕ) (bs : List ℕ) → b ≡ 10 → piece_at in_comment b bs ≡ gap in_blanks
line_piece b bs e = rw e refl

pub inside_piece : (b : ℕ) (bs : List ℕ) → b ≢ 10 → piece_at in_comment b bs ≡ gap in_comment
inside_piece b bs e = rw (ne_eqb b 10 e) refl

-- a gap is passed over
gap_passed : (place : Between) (g xs : List ℕ) → IsGap place g → lexed_behind place 0 (g ++ xs) ≡ lexed xs
gap_passed in_blanks [] xs h = refl
gap_passed in_comment [] xs h = absurd h
gap_passed in_blanks (b ∷ bs) xs h = by h (gap_passed in_blanks bs xs) (gap_passed in_comment bs xs) where
  by : ((is_blank b ≡ true) × IsGap in_blanks bs) ⊎ ((b ≡ 35) × IsGap in_comment bs)
      → (IsGap in_blanks bs → lexed_behind in_blanks 0 (bs ++ xs) ≡ lexed xs)
      → (IsGap in_comment bs → lexed_behind in_comment 0 (bs ++ xs) ≡ lexed xs)
      → lexed_behind in_blanks 0 (b ∷ (bs ++ xs)) ≡ lexed xs
  by (inl k) blanks comment = stepped in_blanks in_blanks b (bs ++ xs) (blank_piece b (bs ++ xs) k.0) ∙ blanks k.1
  by (inr k) blanks comment = stepped in_blanks in_comment b (bs ++ xs) (hash_piece b (bs ++ xs) k.0) ∙ comment k.1
gap_passed in_comment (b ∷ bs) xs h = by h (gap_passed in_blanks bs xs) (gap_passed in_comment bs xs) where
  by : ((b ≡ 10) × IsGap in_blanks bs) ⊎ ((b ≢ 10) × IsGap in_comment bs)
      → (IsGap in_blanks bs → lexed_behind in_blanks 0 (bs ++ xs) ≡ lexed xs)
      → (IsGap in_comment bs → lexed_behind in_comment 0 (bs ++ xs) ≡ lexed xs)
      → lexed_behind in_comment 0 (b ∷ (bs ++ xs)) ≡ lexed xs
  by (inl k) blanks comment = stepped in_comment in_blanks b (bs ++ xs) (line_piece b (bs ++ xs) k.0) ∙ blanks k.1
  by (inr k) blanks comment = stepped in_comment in_comment b (bs ++ xs) (inside_piece b (bs ++ xs) k.0) ∙ comment k.1

-- nothing stands in a last gap
last_gap : (place : Between) (text : List ℕ) → IsGap place (text ++ 10 ∷ []) → lexed_behind place 0 text ≡ record { tokens = []; whole = true }
unfolding lexed_behind
last_gap place [] h = refl
last_gap in_blanks (b ∷ bs) h = by h (last_gap in_blanks bs) (last_gap in_comment bs) where
  by : ((is_blank b ≡ true) × IsGap in_blanks (bs ++ 10 ∷ [])) ⊎ ((b ≡ 35) × IsGap in_comment (bs ++ 10 ∷ []))
      → (IsGap in_blanks (bs ++ 10 ∷ []) → lexed_behind in_blanks 0 bs ≡ record { tokens = []; whole = true })
      → (IsGap in_comment (bs ++ 10 ∷ []) → lexed_behind in_comment 0 bs ≡ record { tokens = []; whole = true }) → lexed_behind in_blanks 0 (b ∷ bs) ≡ record { tokens = []; whole = true }
  by (inl k) blanks comment = stepped in_blanks in_blanks b bs (blank_piece b bs k.0) ∙ blanks k.1
  by (inr k) blanks comment = stepped in_blanks in_comment b bs (hash_piece b bs k.0) ∙ comment k.1
last_gap in_comment (b ∷ bs) h = by h (last_gap in_blanks bs) (last_gap in_comment bs) where
  by : ((b ≡ 10) × IsGap in_blanks (bs ++ 10 ∷ [])) ⊎ ((b ≢ 10) × IsGap in_comment (bs ++ 10 ∷ []))
      → (IsGap in_blanks (bs ++ 10 ∷ []) → lexed_behind in_blanks 0 bs ≡ record { tokens = []; whole = true })
      → (IsGap in_comment (bs ++ 10 ∷ []) → lexed_behind in_comment 0 bs ≡ record { tokens = []; whole = true }) → lexed_behind in_comment 0 (b ∷ bs) ≡ record { tokens = []; whole = true }
  by (inl k) blanks comment = stepped in_comment in_blanks b bs (line_piece b bs k.0) ∙ blanks k.1
  by (inr k) blanks comment = stepped in_comment in_comment b bs (inside_piece b bs k.0) ∙ comment k.1

-- ---- a token by its spelling

abbrev sign_by : List ℕ → Token
sign_by [] = sign signs.Less
sign_by (b ∷ []) =
    if b == 60 then sign signs.Less
    else (if b == 123 then sign signs.OpenBrace
    else (if b == 125 then sign signs.CloseBrace
    else (if b == 40 then sign signs.Open
    else (if b == 41 then sign signs.Close
    else (if b == 59 then sign signs.Semicolon
    else (if b == 44 then sign signs.Comma
    else (if b == 46 then sign signs.Dot
    else (if b == 61 then sign signs.Equal
    else (if b == 43 then sign signs.Plus
    else (if b == 45 then sign signs.Minus
    else (if b == 42 then sign signs.Star
    else sign signs.Bar)))))))))))
sign_by (b ∷ c ∷ cs) = sign signs.Arrow

abbrev minus_by : List ℕ → List ℕ → Token
minus_by all [] = sign signs.Minus
minus_by all (b ∷ bs) = integer all

abbrev token_by : List ℕ → Token
token_by [] = sign signs.Less
token_by (b ∷ bs) =
    if is_ascii_alphabetic b then word_or_name (reserved_as (b ∷ bs)) (b ∷ bs)
    else (if is_ascii_digit b then integer (b ∷ bs)
    else (if b == 95 then inner (b ∷ bs)
    else (if b == 45 then minus_by (b ∷ bs) bs
    else sign_by (b ∷ bs))))

word_back : (w : Word) → token_by (word_spelling w) ≡ word w
word_back words.Channels = rw (reserved_back words.Channels) refl
word_back words.Thread = rw (reserved_back words.Thread) refl
word_back words.Sync = rw (reserved_back words.Sync) refl
word_back words.Emit = rw (reserved_back words.Emit) refl
word_back words.Always = rw (reserved_back words.Always) refl
word_back words.Never = rw (reserved_back words.Never) refl
word_back words.Throw = rw (reserved_back words.Throw) refl
word_back words.Send = rw (reserved_back words.Send) refl
word_back words.Recv = rw (reserved_back words.Recv) refl
word_back words.Do = rw (reserved_back words.Do) refl
word_back words.Choose = rw (reserved_back words.Choose) refl
word_back words.Try = rw (reserved_back words.Try) refl
word_back words.Catch = rw (reserved_back words.Catch) refl
word_back words.If = rw (reserved_back words.If) refl
word_back words.Else = rw (reserved_back words.Else) refl
word_back words.Fresh = rw (reserved_back words.Fresh) refl
word_back words.Repeat = rw (reserved_back words.Repeat) refl

sign_back : (g : Sign) → token_by (sign_spelling g) ≡ sign g
sign_back signs.Arrow = refl
sign_back signs.Less = refl
sign_back signs.OpenBrace = refl
sign_back signs.CloseBrace = refl
sign_back signs.Open = refl
sign_back signs.Close = refl
sign_back signs.Semicolon = refl
sign_back signs.Comma = refl
sign_back signs.Dot = refl
sign_back signs.Equal = refl
sign_back signs.Plus = refl
sign_back signs.Minus = refl
sign_back signs.Star = refl
sign_back signs.Bar = refl

-- a name is no reserved word
pub not_reserved : (n : List ℕ) → ((w : Word) → word_spelling w ≢ n) → word_or_name (reserved_as n) n ≡ name n
not_reserved n h = by (reserved_as n) (reserved_spells n) where
  by : (o : Option Word) → ((w : Word) → o ≡ Some w → word_spelling w ≡ n) → word_or_name o n ≡ name n
  by None e = refl
  by (Some w) e = absurd (h w (e w refl))

token_back : (u : Token) → IsToken u → token_by (spelling u) ≡ u
token_back (word w) h = word_back w
token_back (sign g) h = sign_back g
token_back (name []) h = absurd h
token_back (name (b ∷ bs)) h = rw h.0 (not_reserved (b ∷ bs) (differs_from_words (b ∷ bs) h.2))
token_back (inner []) h = absurd h
token_back (inner (b ∷ bs)) h = rw h.0 refl
token_back (integer []) h = absurd h
token_back (integer (b ∷ bs)) h = by h where
  minus : (ds : List ℕ) → 0 < length ds → minus_by (45 ∷ ds) ds ≡ integer (45 ∷ ds)
  minus [] some = absurd (omega arith)
  minus (d ∷ ds) some = refl

  by : IsDigits (b ∷ bs) ⊎ ((b ≡ 45) × IsDigits bs) → token_by (b ∷ bs) ≡ integer (b ∷ bs)
  by (inl d) = rw (digit_is_no_letter b d.1.0, d.1.0) refl
  by (inr d) = rw d.0 (minus bs d.1.0)

-- ---- tokens

minus_there : (x : ℕ) (ys : List ℕ) → x ≡ 45 → (t : Token) × (token_at x ys ≡ found t)
minus_there x [] e = (sign signs.Minus, rw e refl)
minus_there x (d ∷ ds) e = by (is_ascii_digit d) refl where
  by : (v : Bool) → is_ascii_digit d ≡ v → (t : Token) × (token_at x (d ∷ ds) ≡ found t)
  by true f = (integer (45 ∷ byte_run is_ascii_digit d ds), rw (e, f) refl)
  by false f = (sign signs.Minus, rw (e, f) refl)

less_there : (x : ℕ) (ys : List ℕ) → x ≡ 60 → (t : Token) × (token_at x ys ≡ found t)
less_there x [] e = (sign signs.Less, rw e refl)
less_there x (d ∷ ds) e = by (d == 45) refl where
  by : (v : Bool) → (d == 45) ≡ v → (t : Token) × (token_at x (d ∷ ds) ≡ found t)
  by true f = (sign signs.Arrow, rw (e, f) refl)
  by false f = (sign signs.Less, rw (e, f) refl)

-- some token stands where one begins
pub token_there : (x : ℕ) (xs ys : List ℕ) → Kind x xs → (t : Token) × (token_at x ys ≡ found t)
token_there x xs ys (letters e all) = (word_or_name (reserved_as (byte_run is_word_byte x ys)) (byte_run is_word_byte x ys), rw e refl)
token_there x xs ys (underscore e all) = (inner (byte_run is_word_byte x ys), rw e refl)
token_there x xs ys (digits e all) = (integer (byte_run is_ascii_digit x ys), rw (digit_is_no_letter x e, e) refl)
token_there x xs ys (negative e all) = minus_there x ys e
token_there x xs ys (arrow e f) = less_there x ys e
token_there x xs ys (less e f) = less_there x ys e
token_there x xs ys (one_byte s e g f) = (sign s, e ys)

no_gap_there : (x : ℕ) (xs : List ℕ) → Kind x xs → (is_blank x ≡ false) × (nat_eq x 35 ≡ false)
no_gap_there x xs (letters e all) = letter_is_no_gap x e
no_gap_there x xs (underscore e all) = rw e (refl, refl)
no_gap_there x xs (digits e all) = digit_is_no_gap x e
no_gap_there x xs (negative e all) = rw e (refl, refl)
no_gap_there x xs (arrow e f) = rw e (refl, refl)
no_gap_there x xs (less e f) = rw e (refl, refl)
no_gap_there x xs (one_byte s e g f) = g

-- two beginnings of one list that are equally long are the same
same_parts : (xs us ys vs : List ℕ) → xs ++ ys ≡ us ++ vs → length xs ≡ length us → (xs ≡ us) × (ys ≡ vs)
same_parts [] [] ys vs e l = (refl, e)
same_parts [] (u ∷ us) ys vs e l = absurd (omega arith)
same_parts (x ∷ xs) [] ys vs e l = absurd (omega arith)
same_parts (x ∷ xs) (u ∷ us) ys vs e l =
    let first : x ≡ u = cc in
    let others : xs ++ ys ≡ us ++ vs = cc in
    let later = same_parts xs us ys vs others (omega arith) in
    ((λ i. first i ∷ later.0 i), later.1)

-- the longest token is the one that the lexer finds
pub token_taken : (u : Token) (rest : List ℕ) → IsToken u → IsLongest u (spelling u ++ rest)
    → (lexed (spelling u ++ rest) ≡ before (found u) (lexed rest)) × (spots (spelling u ++ rest) ≡ spot (token u) (length (spelling u ++ rest)) (spots rest))
token_taken u rest is_token longest =
    let k = begun u is_token in
    let all : spelling u ++ rest ≡ k.first ∷ (k.others ++ rest) = ap (λ x. x ++ rest) k.spelled in
    let there = token_there k.first k.others (k.others ++ rest) k.kind in
    let f = token_found k.first (k.others ++ rest) there.0 there.1 in
    let far : length k.others ≤ limit k.first (k.others ++ rest) = within_limit k.first k.others rest k.kind in
    let no_longer : length (spelling there.0) ≤ length (spelling u) = longest there.0 (drop (limit k.first (k.others ++ rest)) (k.others ++ rest)) f.is_token (all ∙ f.split) in
    let as_long : length (spelling u) ≡ length (spelling there.0) = omega (arith, far, f.long, no_longer, ap length k.spelled) in
    let parts = same_parts (spelling u) (spelling there.0) rest (drop (limit k.first (k.others ++ rest)) (k.others ++ rest)) (all ∙ f.split) as_long in
    let same : u ≡ there.0 = sym (token_back u is_token) ∙ ap token_by parts.0 ∙ token_back there.0 f.is_token in
    let at : piece_at in_blanks k.first (k.others ++ rest) ≡ found u = at_token k.first (k.others ++ rest) (no_gap_there k.first k.others k.kind) ∙ there.1 ∙ ap found (sym same) in
    let first = found_first u k.first (k.others ++ rest) (limit k.first (k.others ++ rest)) at (as_long ∙ f.long) in (
      ap lexed all ∙ first.0 ∙ ap (λ x. before (found u) (lexed x)) (sym parts.1),
      ap spots all ∙ first.1 ∙ ap (λ x. spot (token u) (length (k.first ∷ (k.others ++ rest))) (spots x)) (sym parts.1) ∙ ap (λ x. spot (token u) (length x) (spots rest)) (sym all),
    )

pub spelled_is_lexed : (ts : List Token) (text : List ℕ) → Spells ts text → lexed text ≡ record { tokens = ts; whole = true }
spelled_is_lexed [] text h = last_gap in_blanks text h
spelled_is_lexed (t ∷ ts) text h =
    let b = h.1 in
    ap lexed b.is_split ∙ gap_passed in_blanks b.gap (spelling t ++ h.0) b.is_gap ∙ (token_taken t h.0 b.is_token b.is_longest).0 ∙ ap (before (found t)) (spelled_is_lexed ts h.0 h.2)
