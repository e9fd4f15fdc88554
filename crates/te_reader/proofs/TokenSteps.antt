-- What the tokens of a text are, by what stands at its front.
use Rattle.std.proofs.Common.{◌≡◌, ℕ, zero, suc, ◌+◌, ◌<◌, ◌≤◌, Bool, true, false, not, nat_eq, cond, List, [], ◌∷◌, length, get_or, take, drop, refl, sym, ◌∙◌, ap, arith, drop-cons, add-one, one-add}
use Rattle.std.specs.Prelude.{Option, Some, None, if◌then◌else◌}
use Rattle.std.specs.List.{prefix_len}
use Rattle.std.specs.Char.{is_ascii_alphabetic, is_ascii_digit}
use Rattle.std.proofs.lemmas.List.{drop_all}
use Rattle.std.proofs.Math.Seq.{drop-length}
use Rattle.std.proofs.lemmas.Bool.{ne_eqb}
use Rattle.std.proofs.lemmas.List.Folds.{length-prefix_len}
use Rattle.te_reader.specs.declared.token.Word.{Word}
use Rattle.te_reader.specs.declared.token.Sign.TheVariants as signs
use Rattle.te_reader.specs.declared.token.Lexeme.{Lexeme}
use Rattle.te_reader.specs.declared.token.Lexeme.TheVariants as lexemes
use Rattle.te_script.specs.Names.{is_word_byte}
use Rattle.te_reader.specs.Tokens.{Token, inner, integer, sign, word_spelling, spelling, is_blank, Between, in_blanks, in_comment}
use Rattle.te_reader.specs.Lexed.{gap, found, other, piece_at, token_at, before, byte_run, reserved_as, word_or_name, lexed_behind, lexed, one_sign, between_place, IsAtToken, IsOneSign}
use Rattle.te_reader.specs.Spots.{token, over, strange, spot, spots_behind, spots}
use Rattle.te_reader.specs.Finding.{IsHeaded}
use Rattle.te_reader.proofs.ByteKinds.{letter_is_no_gap, letter_is_word, digit_is_no_gap, digit_is_no_letter}
use Rattle.te_reader.proofs.ReservedWords.{reserved_spells}

-- bytes of a token that is already taken are dropped
pub behind_drops : (k : ℕ) (bs : List ℕ) → lexed_behind in_blanks k bs ≡ lexed (drop k bs)
unfolding lexed_behind
behind_drops zero [] = refl
behind_drops zero (b ∷ bs) = refl
behind_drops (suc k) [] = refl
behind_drops (suc k) (b ∷ bs) = behind_drops k bs

pub spots_drop : (k : ℕ) (bs : List ℕ) → spots_behind in_blanks k bs ≡ spots (drop k bs)
unfolding spots_behind
spots_drop zero [] = refl
spots_drop zero (b ∷ bs) = refl
spots_drop (suc k) [] = refl
spots_drop (suc k) (b ∷ bs) = spots_drop k bs

-- what stands behind one place of a text is what stands behind another, for tokens and for spots
abbrev pub GoesOn : Between → ℕ → Between → ℕ → List ℕ → Type 0
GoesOn place i next j text =
    (lexed_behind place 0 (drop i text) ≡ lexed_behind next 0 (drop j text)) × (spots_behind place 0 (drop i text) ≡ spots_behind next 0 (drop j text))

-- a byte of a gap is passed over
pub gap_goes : (place next : Between) (i : ℕ) (text : List ℕ) → i < length text → piece_at place (get_or text i 0) (drop (suc i) text) ≡ gap next → GoesOn place i next (suc i) text
unfolding lexed_behind spots_behind
gap_goes place next i text h e = (rw (drop-cons text i 0, e) refl, rw (drop-cons text i 0, e) refl)

-- a token of so many bytes is the first
abbrev pub IsFirst : Token → ℕ → List ℕ → Type 0
IsFirst t n text = (lexed text ≡ before (found t) (lexed (drop n text))) × (spots text ≡ spot (token t) (length text) (spots (drop n text)))

pub found_first : (t : Token) (b : ℕ) (bs : List ℕ) (m : ℕ) → piece_at in_blanks b bs ≡ found t → length (spelling t) ≡ suc m → IsFirst t (suc m) (b ∷ bs)
unfolding lexed_behind spots_behind
found_first t b bs m e h = (rw (e, h, behind_drops m bs) refl, rw (e, h, spots_drop m bs) refl)

-- a byte that begins no token is the last
pub other_last : (b : ℕ) (bs : List ℕ) → piece_at in_blanks b bs ≡ other → (lexed (b ∷ bs) ≡ record { tokens = []; whole = false }) × (spots (b ∷ bs) ≡ spot (strange b) (suc (length bs)) [])
unfolding lexed_behind spots_behind
other_last b bs e = (rw e refl, rw e refl)

-- at a byte of no gap stands what `token_at` says
pub at_token : (b : ℕ) (bs : List ℕ) → (is_blank b ≡ false) × (nat_eq b 35 ≡ false) → piece_at in_blanks b bs ≡ token_at b bs
at_token b bs h = rw (h.0, h.1)

length_word : (o : Option Word) (r : List ℕ) → ((w : Word) → o ≡ Some w → word_spelling w ≡ r) → length (spelling (word_or_name o r)) ≡ length r
length_word None r h = refl
length_word (Some w) r h = ap length (h w refl)

length_run : (p : ℕ → Bool) (b : ℕ) (bs : List ℕ) → length (byte_run p b bs) ≡ suc (prefix_len p bs)
length_run p b bs = ap suc (length-prefix_len p bs)

-- a run whose first byte passes is that byte and the run behind it
run_is : (p : ℕ → Bool) (b : ℕ) (bs : List ℕ) (n : ℕ) → p b ≡ true → n ≡ prefix_len p (b ∷ bs) → n ≡ suc (prefix_len p bs)
run_is p b bs n h e = e ∙ (rw h (one-add _))

pub word_first : (text : List ℕ) (n : ℕ) → is_ascii_alphabetic (get_or text 0 0) ≡ true → n ≡ prefix_len is_word_byte text → IsFirst (word_or_name (reserved_as (take n text)) (take n text)) n text
word_first [] n h e = absurd cc
word_first (b ∷ bs) n h e =
    let at : piece_at in_blanks b bs ≡ found (word_or_name (reserved_as (byte_run is_word_byte b bs)) (byte_run is_word_byte b bs)) = at_token b bs (letter_is_no_gap b h) ∙ (rw h refl) in
    let long = length_word (reserved_as (byte_run is_word_byte b bs)) (byte_run is_word_byte b bs) (reserved_spells (byte_run is_word_byte b bs)) ∙ length_run is_word_byte b bs in
    rw (run_is is_word_byte b bs n (letter_is_word b h) e) (found_first _ b bs _ at long)

-- the run is empty where the first byte fails, and only there
no_digit : (d : ℕ) (ds : List ℕ) → prefix_len is_ascii_digit (d ∷ ds) ≡ 0 → is_ascii_digit d ≡ false
no_digit d ds = by (is_ascii_digit d) where
  by : (b : Bool) → cond b (1 + prefix_len is_ascii_digit ds) 0 ≡ 0 → b ≡ false
  by true e = absurd (omega arith)
  by false e = refl

first_digit : (d : ℕ) (ds : List ℕ) (n : ℕ) → n ≡ prefix_len is_ascii_digit (d ∷ ds) → (n ≡ 0 → ⊥) → is_ascii_digit d ≡ true
first_digit d ds n = by (is_ascii_digit d) where
  by : (b : Bool) → n ≡ cond b (1 + prefix_len is_ascii_digit ds) 0 → (n ≡ 0 → ⊥) → b ≡ true
  by true e some = refl
  by false e some = absurd (some e)

pub inner_first : (text : List ℕ) (n : ℕ) → get_or text 0 0 ≡ 95 → n ≡ prefix_len is_word_byte text → IsFirst (inner (take n text)) n text
inner_first [] n h e = absurd cc
inner_first (b ∷ bs) n h e =
    let at : piece_at in_blanks b bs ≡ found (inner (byte_run is_word_byte b bs)) = rw h refl in
    let passes : is_word_byte b ≡ true = rw h refl in
    rw (run_is is_word_byte b bs n passes e) (found_first _ b bs _ at (length_run is_word_byte b bs))

pub digits_first : (text : List ℕ) (n : ℕ) → is_ascii_digit (get_or text 0 0) ≡ true → n ≡ prefix_len is_ascii_digit text → IsFirst (integer (take n text)) n text
digits_first [] n h e = absurd cc
digits_first (b ∷ bs) n h e =
    let at : piece_at in_blanks b bs ≡ found (integer (byte_run is_ascii_digit b bs)) = at_token b bs (digit_is_no_gap b h) ∙ (rw (digit_is_no_letter b h, h) refl) in
    rw (run_is is_ascii_digit b bs n h e) (found_first _ b bs _ at (length_run is_ascii_digit b bs))

-- ---- signs

pub minus_first : (text : List ℕ) → get_or text 0 0 ≡ 45 → prefix_len is_ascii_digit (drop 1 text) ≡ 0 → IsFirst (sign signs.Minus) 1 text
minus_first [] h e = absurd cc
minus_first (b ∷ []) h e = found_first _ b [] 0 (rw h refl) refl
minus_first (b ∷ d ∷ ds) h e = found_first _ b (d ∷ ds) 0 (rw (h, no_digit d ds e) refl) refl

pub negative_first : (text : List ℕ) (n : ℕ) → get_or text 0 0 ≡ 45 → n ≡ prefix_len is_ascii_digit (drop 1 text) → (n ≡ 0 → ⊥) → IsFirst (integer (take (1 + n) text)) (1 + n) text
negative_first [] n h e some = absurd cc
negative_first (b ∷ []) n h e some = absurd (some e)
negative_first (b ∷ d ∷ ds) n h e some =
    let digit = first_digit d ds n e some in
    let at : piece_at in_blanks b (d ∷ ds) ≡ found (integer (45 ∷ byte_run is_ascii_digit d ds)) = rw (h, digit) refl in
    let long : length (spelling (integer (45 ∷ byte_run is_ascii_digit d ds))) ≡ suc (suc (prefix_len is_ascii_digit ds)) = ap suc (length_run is_ascii_digit d ds) in
    rw (one-add n, run_is is_ascii_digit d ds n digit e, h) (found_first _ 45 (d ∷ ds) _ (ap (λ x. piece_at in_blanks x (d ∷ ds)) (sym h) ∙ at) long)

pub arrow_first : (text : List ℕ) → get_or text 0 0 ≡ 60 → get_or text 1 0 ≡ 45 → IsFirst (sign signs.Arrow) 2 text
arrow_first [] h e = absurd cc
arrow_first (b ∷ []) h e = absurd cc
arrow_first (b ∷ d ∷ ds) h e = found_first _ b (d ∷ ds) 1 (rw (h, e) refl) refl

pub less_first : (text : List ℕ) → get_or text 0 0 ≡ 60 → (1 < length text → get_or text 1 0 ≡ 45 → ⊥) → IsFirst (sign signs.Less) 1 text
less_first [] h e = absurd cc
less_first (b ∷ []) h e = found_first _ b [] 0 (rw h refl) refl
less_first (b ∷ d ∷ ds) h e = found_first _ b (d ∷ ds) 0 (rw (h, (ne_eqb d 45 (e (omega arith)))) refl) refl

-- none of the other kinds of token stands here
pub record IsSignByte (b : ℕ) : Type 0 where
  pub letter : is_ascii_alphabetic b ≡ false
  pub digit : is_ascii_digit b ≡ false
  pub less : b ≡ 60 → ⊥
  pub minus : b ≡ 45 → ⊥
  pub inner : b ≡ 95 → ⊥

pub sign_first : (text : List ℕ) (l : Lexeme) → 0 < length text → IsAtToken text → IsSignByte (get_or text 0 0)
    → IsOneSign l (get_or text 0 0) (one_sign (get_or text 0 0)) → IsHeaded l (drop 1 text) text
sign_first [] l some at kind h = absurd (omega arith)
sign_first (b ∷ bs) l some at kind h = by l (at_token b bs at ∙ (rw (kind.letter, kind.digit, ne_eqb b 60 kind.less, ne_eqb b 45 kind.minus, ne_eqb b 95 kind.inner) refl)) h where
  by : (l : Lexeme) → piece_at in_blanks b bs ≡ one_sign b → IsOneSign l b (one_sign b) → IsHeaded l bs (b ∷ bs)
  by (lexemes.Sign g) e k = let f = found_first (sign g) b bs 0 (e ∙ k.0) k.1 in (sym f.0, sym f.1)
  by (lexemes.Other x) e k = let f = other_last b bs (e ∙ k.0) in (sym f.0, rw k.1 (sym f.1))
  by (lexemes.Word w) e k = absurd k
  by (lexemes.Name n) e k = absurd k
  by (lexemes.Inner n) e k = absurd k
  by (lexemes.Integer n) e k = absurd k
  by lexemes.End e k = absurd k

pub no_text : (text : List ℕ) → length text ≡ 0 → (lexed text ≡ record { tokens = []; whole = true }) × (spots text ≡ spot over 0 [])
unfolding lexed_behind spots_behind
no_text [] h = (refl, refl)
no_text (b ∷ bs) h = absurd (omega arith)

-- ---- gaps

-- what stands behind a place of a text is what stands in the text
abbrev pub StillSame : Between → ℕ → List ℕ → Type 0
StillSame place i text = (lexed_behind place 0 (drop i text) ≡ lexed text) × (spots_behind place 0 (drop i text) ≡ spots text)

still : (place next : Between) (i j : ℕ) (text : List ℕ) → GoesOn place i next j text → StillSame place i text → StillSame next j text
still place next i j text g h = (sym g.0 ∙ h.0, sym g.1 ∙ h.1)

-- a comment goes on up to its line feed
pub comment_goes : (i : ℕ) (text : List ℕ) (next : Bool) → i < length text → next ≡ not (nat_eq (get_or text i 0) 10) → StillSame in_comment i text → StillSame (between_place next) (i + 1) text
comment_goes i text next h e = still in_comment (between_place next) i (i + 1) text (rw (e, add-one) (gap_goes in_comment _ i text h (by (nat_eq (get_or text i 0) 10)))) where
  by : (b : Bool) → (if b then gap in_blanks else gap in_comment) ≡ gap (between_place (not b))
  by true = refl
  by false = refl

pub comment_begins : (i : ℕ) (text : List ℕ) → i < length text → get_or text i 0 ≡ 35 → StillSame in_blanks i text → StillSame in_comment (i + 1) text
comment_begins i text h e = still in_blanks in_comment i (i + 1) text (rw add-one (gap_goes in_blanks in_comment i text h (rw e refl)))

pub blank_goes : (i : ℕ) (text : List ℕ) → i < length text → is_blank (get_or text i 0) ≡ true → StillSame in_blanks i text → StillSame in_blanks (i + 1) text
blank_goes i text h b = still in_blanks in_blanks i (i + 1) text (rw add-one (gap_goes in_blanks in_blanks i text h (rw b refl)))

-- a text that is a gap has no token
pub all_gap : (text : List ℕ) (inside : Bool) (i : ℕ) → length text ≤ i → StillSame (between_place inside) i text → StillSame in_blanks (length text) text
unfolding lexed_behind spots_behind
all_gap text inside i h e =
    let none : drop i text ≡ [] = drop_all i text h in
    (rw (drop-length text) (ap (lexed_behind (between_place inside) 0) (sym none) ∙ e.0), rw (drop-length text) (ap (spots_behind (between_place inside) 0) (sym none) ∙ e.1))

pub kept : (text : List ℕ) (i : ℕ) (now known : Bool) → known ≡ now → StillSame (between_place now) i text → StillSame (between_place known) i text
kept text i now known e h = rw e h
