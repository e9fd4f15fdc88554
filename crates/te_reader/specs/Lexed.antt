-- The tokens of a text up to the first byte that begins none, as a function. Contracts inside this crate cite it.
use Rattle.std.specs.Prelude.{◌≡◌, ◌<◌, ℕ, zero, suc, pred, Bool, true, false, ◌==◌, List, [], ◌∷◌, length, take, Option, Some, None, if◌then◌else◌}
use Rattle.std.specs.List.{prefix_len}
use Rattle.std.specs.Str.{bytes_eq}
use Rattle.std.specs.Char.{is_ascii_alphabetic, is_ascii_digit}
use Rattle.te_reader.specs.declared.token.Word.{Word}
use Rattle.te_reader.specs.declared.token.Word.TheVariants as words
use Rattle.te_reader.specs.declared.token.Sign.TheVariants as signs
use Rattle.te_reader.specs.declared.token.Lexeme.{Lexeme}
use Rattle.te_reader.specs.declared.token.Lexeme.TheVariants as lexemes
use Rattle.te_script.specs.Names.{is_word_byte}
use Rattle.te_reader.specs.Tokens.{Token, word, name, inner, integer, sign, word_spelling, sign_spelling, spelling, is_blank, Between, in_blanks, in_comment}

-- tokens, and whether the text's end stands behind them
pub record Stream : Type 0 where
  pub tokens : List Token
  pub whole : Bool

-- what stands at one byte: a part of a gap, behind which we are here; a token; or a byte that begins none
pub data Piece : Type 0 where
  gap : Between → Piece
  found : Token → Piece
  other : Piece

-- ---- reserved words

-- those with so many letters
abbrev pub words_so_long : ℕ → List Word
words_so_long n =
    if n == 4 then words.Sync ∷ words.Send ∷ words.Recv ∷ words.Emit ∷ words.Else ∷ []
    else (if n == 6 then words.Thread ∷ words.Always ∷ words.Choose ∷ words.Repeat ∷ []
    else (if n == 5 then words.Never ∷ words.Throw ∷ words.Catch ∷ words.Fresh ∷ []
    else (if n == 2 then words.Do ∷ words.If ∷ []
    else (if n == 3 then words.Try ∷ []
    else (if n == 8 then words.Channels ∷ []
    else [])))))

abbrev pub word_among : List Word → List ℕ → Option Word
word_among [] bytes = None
word_among (w ∷ ws) bytes = if bytes_eq bytes (word_spelling w) then Some w else word_among ws bytes

-- the reserved word of this spelling
unfoldable pub reserved_as : List ℕ → Option Word
reserved_as bytes = word_among (words_so_long (length bytes)) bytes

abbrev pub word_or_name : Option Word → List ℕ → Token
word_or_name None bytes = name bytes
word_or_name (Some w) bytes = word w

-- ---- the token at a byte

-- the first byte with the run of such bytes behind it
abbrev pub byte_run : (ℕ → Bool) → ℕ → List ℕ → List ℕ
byte_run p b bs = b ∷ take (prefix_len p bs) bs

abbrev pub one_sign : ℕ → Piece
one_sign b =
    if b == 123 then found (sign signs.OpenBrace)
    else (if b == 125 then found (sign signs.CloseBrace)
    else (if b == 40 then found (sign signs.Open)
    else (if b == 41 then found (sign signs.Close)
    else (if b == 59 then found (sign signs.Semicolon)
    else (if b == 44 then found (sign signs.Comma)
    else (if b == 46 then found (sign signs.Dot)
    else (if b == 61 then found (sign signs.Equal)
    else (if b == 43 then found (sign signs.Plus)
    else (if b == 42 then found (sign signs.Star)
    else (if b == 124 then found (sign signs.Bar)
    else other))))))))))

-- `<-` is one token
abbrev pub less_sign : List ℕ → Piece
less_sign [] = found (sign signs.Less)
less_sign (b ∷ bs) = if b == 45 then found (sign signs.Arrow) else found (sign signs.Less)

-- a `-` that a digit follows begins an integer
abbrev pub minus_sign : List ℕ → Piece
minus_sign [] = found (sign signs.Minus)
minus_sign (b ∷ bs) = if is_ascii_digit b then found (integer (45 ∷ byte_run is_ascii_digit b bs)) else found (sign signs.Minus)

abbrev pub token_at : ℕ → List ℕ → Piece
token_at b bs =
    if is_ascii_alphabetic b then found (word_or_name (reserved_as (byte_run is_word_byte b bs)) (byte_run is_word_byte b bs))
    else (if is_ascii_digit b then found (integer (byte_run is_ascii_digit b bs))
    else (if b == 60 then less_sign bs
    else (if b == 45 then minus_sign bs
    else (if b == 95 then found (inner (byte_run is_word_byte b bs))
    else one_sign b))))

abbrev pub piece_at : Between → ℕ → List ℕ → Piece
piece_at in_blanks b bs = if is_blank b then gap in_blanks else (if b == 35 then gap in_comment else token_at b bs)
piece_at in_comment b bs = if b == 10 then gap in_blanks else gap in_comment

-- ---- the tokens of a text

abbrev pub place_after : Piece → Between
place_after (gap place) = place
place_after (found t) = in_blanks
place_after other = in_blanks

-- how many bytes of the token stand behind its first
abbrev pub bytes_after : Piece → ℕ
bytes_after (gap place) = 0
bytes_after (found t) = pred (length (spelling t))
bytes_after other = 0

abbrev pub before : Piece → Stream → Stream
before (gap place) s = s
before (found t) s = record s { tokens = t ∷ s.tokens }
before other s = record { tokens = []; whole = false }

-- the tokens behind so many bytes of one that is already taken
unfoldable pub lexed_behind : Between → ℕ → List ℕ → Stream
lexed_behind place skipped [] = record { tokens = []; whole = true }
lexed_behind place (suc skipped) (b ∷ bs) = lexed_behind place skipped bs
lexed_behind place zero (b ∷ bs) = before (piece_at place b bs) (lexed_behind (place_after (piece_at place b bs)) (bytes_after (piece_at place b bs)) bs)

abbrev pub lexed : List ℕ → Stream
lexed text = lexed_behind in_blanks 0 text

-- a token, the end or a byte that begins none, before what follows
abbrev pub stream_headed : Lexeme → Stream → Stream
stream_headed (lexemes.Word w) s = record s { tokens = word w ∷ s.tokens }
stream_headed (lexemes.Name n) s = record s { tokens = name n.now ∷ s.tokens }
stream_headed (lexemes.Inner n) s = record s { tokens = inner n.now ∷ s.tokens }
stream_headed (lexemes.Integer n) s = record s { tokens = integer n.now ∷ s.tokens }
stream_headed (lexemes.Sign g) s = record s { tokens = sign g ∷ s.tokens }
stream_headed lexemes.End s = record { tokens = []; whole = true }
stream_headed (lexemes.Other b) s = record { tokens = []; whole = false }

abbrev pub between_place : Bool → Between
between_place true = in_comment
between_place false = in_blanks

-- no gap stands here
abbrev pub IsAtToken : List ℕ → Type 0
IsAtToken [] = Unit {0}
IsAtToken (b ∷ bs) = (is_blank b ≡ false) × ((b == 35) ≡ false)

-- the sign of a found piece, or a byte that begins no token
abbrev pub IsOneSign : Lexeme → ℕ → Piece → Type 0
IsOneSign (lexemes.Sign g) b p = (p ≡ found (sign g)) × (length (sign_spelling g) ≡ 1)
IsOneSign (lexemes.Other x) b p = (p ≡ other) × (x ≡ b)
IsOneSign l b p = ⊥

-- a name has a byte
abbrev pub HasByte : Lexeme → Type 0
HasByte (lexemes.Name n) = 0 < length n.now
HasByte (lexemes.Inner n) = 0 < length n.now
HasByte l = Unit {0}
