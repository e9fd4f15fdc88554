-- Taking the first token of a list, where it is of the kind that is wanted. Contracts inside this crate cite it.
use Rattle.std.specs.Prelude.{◌≡◌, ℕ, Bool, true, false, ◌==◌, List, [], ◌∷◌, Option, Some, None, if◌then◌else◌}
use Rattle.std.specs.Borrow.{Bor}
use Rattle.te_reader.specs.declared.token.Word.{Word}
use Rattle.te_reader.specs.declared.token.Word.TheVariants as words
use Rattle.te_reader.specs.declared.token.Sign.{Sign}
use Rattle.te_reader.specs.declared.token.Sign.TheVariants as signs
use Rattle.te_reader.specs.Tokens.{Token, word, name, inner, integer, sign}
use Rattle.te_reader.specs.Lexed.{Stream}

-- ---- words and signs by number

abbrev pub word_number : Word → ℕ
word_number words.Channels = 0
word_number words.Thread = 1
word_number words.Sync = 2
word_number words.Emit = 3
word_number words.Always = 4
word_number words.Never = 5
word_number words.Throw = 6
word_number words.Send = 7
word_number words.Recv = 8
word_number words.Do = 9
word_number words.Choose = 10
word_number words.Try = 11
word_number words.Catch = 12
word_number words.If = 13
word_number words.Else = 14
word_number words.Fresh = 15
word_number words.Repeat = 16

abbrev pub sign_number : Sign → ℕ
sign_number signs.Arrow = 0
sign_number signs.Less = 1
sign_number signs.OpenBrace = 2
sign_number signs.CloseBrace = 3
sign_number signs.Open = 4
sign_number signs.Close = 5
sign_number signs.Semicolon = 6
sign_number signs.Comma = 7
sign_number signs.Dot = 8
sign_number signs.Equal = 9
sign_number signs.Plus = 10
sign_number signs.Minus = 11
sign_number signs.Star = 12
sign_number signs.Bar = 13

-- ---- the first token

unfoldable pub word_first : Word → List Token → Option (List Token)
word_first w (word v ∷ ts) = if word_number w == word_number v then Some ts else None
word_first w _ = None

unfoldable pub sign_first : Sign → List Token → Option (List Token)
sign_first s (sign g ∷ ts) = if sign_number s == sign_number g then Some ts else None
sign_first s _ = None

unfoldable pub name_first : List Token → Option (List ℕ × List Token)
name_first (name n ∷ ts) = Some (n, ts)
name_first _ = None

unfoldable pub inner_first : List Token → Option (List ℕ × List Token)
inner_first (inner n ∷ ts) = Some (n, ts)
inner_first _ = None

-- a NAME or an INNER
unfoldable pub bound_first : List Token → Option (List ℕ × List Token)
bound_first (name n ∷ ts) = Some (n, ts)
bound_first (inner n ∷ ts) = Some (n, ts)
bound_first _ = None

unfoldable pub integer_first : List Token → Option (List ℕ × List Token)
integer_first (integer n ∷ ts) = Some (n, ts)
integer_first _ = None

-- ---- what a call leaves

-- where the token stood there it is taken; else nothing is
abbrev pub Takes : Bool → Stream → Stream → Option (List Token) → Type 0
Takes true old new o = (o ≡ Some new.tokens) × (new.whole ≡ old.whole)
Takes false old new o = (o ≡ None) × (new ≡ old)

abbrev pub TakesBytes : Option (Bor (List ℕ)) → Stream → Stream → Option (List ℕ × List Token) → Type 0
TakesBytes (Some n) old new o = (o ≡ Some (n.now, new.tokens)) × (new.whole ≡ old.whole)
TakesBytes None old new o = (o ≡ None) × (new ≡ old)

-- nothing is left, and no byte that begins no token stands there
abbrev pub IsEndOfText : Stream → Type 0
IsEndOfText s = (s.tokens ≡ []) × (s.whole ≡ true)
