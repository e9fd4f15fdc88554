-- Tokens, their spelling, and the texts that spell a list of them. All of it is this project's own.
use Rattle.std.specs.Prelude.{◌≡◌, ◌≢◌, ℕ, ◌<◌, ◌≤◌, ◌==◌, ◌||◌, Bool, true, ◌⊎◌, List, [], ◌∷◌, ◌++◌, length, codes}
use Rattle.std.specs.List.{AllByRecursion}
use Rattle.std.specs.Char.{is_ascii_digit}
use Rattle.te_script.specs.Names.{is_word_byte, IsIdentifier}
use Rattle.te_reader.specs.declared.token.Word.{Word}
use Rattle.te_reader.specs.declared.token.Word.TheVariants as words
use Rattle.te_reader.specs.declared.token.Sign.{Sign}
use Rattle.te_reader.specs.declared.token.Sign.TheVariants as signs

-- a reserved word, a name, an inner name, an integer, or a sign
pub data Token : Type 0 where
  word : Word → Token
  name : List ℕ → Token
  inner : List ℕ → Token
  integer : List ℕ → Token
  sign : Sign → Token

abbrev pub word_spelling : Word → List ℕ
word_spelling words.Channels = codes "channels"
word_spelling words.Thread = codes "thread"
word_spelling words.Sync = codes "sync"
word_spelling words.Emit = codes "emit"
word_spelling words.Always = codes "always"
word_spelling words.Never = codes "never"
word_spelling words.Throw = codes "throw"
word_spelling words.Send = codes "send"
word_spelling words.Recv = codes "recv"
word_spelling words.Do = codes "do"
word_spelling words.Choose = codes "choose"
word_spelling words.Try = codes "try"
word_spelling words.Catch = codes "catch"
word_spelling words.If = codes "if"
word_spelling words.Else = codes "else"
word_spelling words.Fresh = codes "fresh"
word_spelling words.Repeat = codes "repeat"

abbrev pub sign_spelling : Sign → List ℕ
sign_spelling signs.Arrow = codes "<-"
sign_spelling signs.Less = codes "<"
sign_spelling signs.OpenBrace = codes "{"
sign_spelling signs.CloseBrace = codes "}"
sign_spelling signs.Open = codes "("
sign_spelling signs.Close = codes ")"
sign_spelling signs.Semicolon = codes ";"
sign_spelling signs.Comma = codes ","
sign_spelling signs.Dot = codes "."
sign_spelling signs.Equal = codes "="
sign_spelling signs.Plus = codes "+"
sign_spelling signs.Minus = codes "-"
sign_spelling signs.Star = codes "*"
sign_spelling signs.Bar = codes "|"

abbrev pub spelling : Token → List ℕ
spelling (word w) = word_spelling w
spelling (name n) = n
spelling (inner n) = n
spelling (integer n) = n
spelling (sign s) = sign_spelling s

-- ---- what an inner name and an integer may be; what a name may be is te_script's

-- `_`, then letters, digits and `_`
abbrev pub IsInner : List ℕ → Type 0
IsInner [] = ⊥
IsInner (b ∷ bs) = (b ≡ 95) × AllByRecursion (λ x. is_word_byte x ≡ true) bs

-- at least one digit
abbrev pub IsDigits : List ℕ → Type 0
IsDigits ds = (0 < length ds) × AllByRecursion (λ x. is_ascii_digit x ≡ true) ds

-- digits, or `-` directly followed by digits
abbrev pub IsInteger : List ℕ → Type 0
IsInteger [] = ⊥
IsInteger (b ∷ bs) = IsDigits (b ∷ bs) ⊎ ((b ≡ 45) × IsDigits bs)

abbrev pub IsToken : Token → Type 0
IsToken (word w) = Unit {0}
IsToken (name n) = IsIdentifier n
IsToken (inner n) = IsInner n
IsToken (integer n) = IsInteger n
IsToken (sign s) = Unit {0}

abbrev pub AreTokens : List Token → Type 0
AreTokens ts = AllByRecursion IsToken ts

-- ---- texts

-- a place among blanks, or in a comment
pub data Between : Type 0 where
  in_blanks : Between
  in_comment : Between

-- space, line feed, tab, carriage return
abbrev pub is_blank : ℕ → Bool
is_blank b = (b == 32) || (b == 10) || (b == 9) || (b == 13)

-- blanks and comments; a comment goes from `#` to its line feed
abbrev pub IsGap : Between → List ℕ → Type 0
IsGap in_blanks [] = Unit {0}
IsGap in_blanks (b ∷ bs) = ((is_blank b ≡ true) × IsGap in_blanks bs) ⊎ ((b ≡ 35) × IsGap in_comment bs)
IsGap in_comment [] = ⊥
IsGap in_comment (b ∷ bs) = ((b ≡ 10) × IsGap in_blanks bs) ⊎ ((b ≢ 10) × IsGap in_comment bs)

-- a gap up to the end of the text, which ends a comment as a line feed does
abbrev pub IsLastGap : List ℕ → Type 0
IsLastGap bytes = IsGap in_blanks (bytes ++ 10 ∷ [])

-- no token that the text begins with is longer
abbrev pub IsLongest : Token → List ℕ → Type 0
IsLongest t text = (u : Token) (more : List ℕ) → IsToken u → text ≡ spelling u ++ more → length (spelling u) ≤ length (spelling t)

-- behind a gap the text goes on with the longest token there, and then with the rest
pub record BeginsWith (t : Token) (rest : List ℕ) (text : List ℕ) : Type 0 where
  pub gap : List ℕ
  pub is_split : text ≡ gap ++ (spelling t ++ rest)
  pub is_gap : IsGap in_blanks gap
  pub is_token : IsToken t
  pub is_longest : IsLongest t (spelling t ++ rest)

-- the text spells these tokens, one behind another
abbrev pub Spells : List Token → List ℕ → Type 0
Spells [] text = IsLastGap text
Spells (t ∷ ts) text = (rest : List ℕ) × BeginsWith t rest text × Spells ts rest
