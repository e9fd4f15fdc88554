-- What stands at each place of a text, up to its end or to the first byte that begins no token.
use Rattle.std.specs.Prelude.{◌≡◌, ◌≢◌, ℕ, zero, suc, Bool, true, false, List, [], ◌∷◌, ◌++◌, length}
use Rattle.te_reader.specs.declared.token.Sign.TheVariants as signs
use Rattle.te_reader.specs.Tokens.{Token, sign, spelling, is_blank, Between, in_blanks, IsGap, IsLastGap, IsToken, BeginsWith}
use Rattle.te_reader.specs.Lexed.{Piece, gap, found, other, piece_at, place_after, bytes_after}

-- a token, the end of the text, or a byte that begins no token
pub data Head : Type 0 where
  token : Token → Head
  over : Head
  strange : ℕ → Head

-- what stands at a place, whether the next token is a `.`, and how many bytes are left from there on
pub record Spot : Type 0 where
  pub head : Head
  pub dotted : Bool
  pub left : ℕ

abbrev pub is_dot : Head → Bool
is_dot (token (sign signs.Dot)) = true
is_dot _ = false

abbrev pub begins_with_dot : List Spot → Bool
begins_with_dot [] = false
begins_with_dot (s ∷ more) = is_dot s.head

-- ---- the spots of a text, as a relation

-- a token behind a gap, the longest one there
pub record IsTokenSpot (s : Spot) (t : Token) (text : List ℕ) (rest : List ℕ) : Type 0 where
  pub begins : BeginsWith t rest text
  pub place : s.left ≡ length (spelling t ++ rest)

-- a byte behind a gap that begins neither a token nor a gap
pub record IsStrange (s : Spot) (byte : ℕ) (text : List ℕ) : Type 0 where
  pub gap : List ℕ
  pub rest : List ℕ
  pub is_split : text ≡ gap ++ byte ∷ rest
  pub is_gap : IsGap in_blanks gap
  pub no_blank : is_blank byte ≡ false
  pub no_comment : byte ≢ 35
  pub no_token : (u : Token) (more : List ℕ) → IsToken u → byte ∷ rest ≡ spelling u ++ more → ⊥
  pub place : s.left ≡ suc (length rest)

-- a spot at the front of a text behind a gap, with more behind it; no spot is behind the end and behind a strange byte
abbrev pub StandsFirst : Spot → Head → List ℕ → List Spot → (List ℕ → Type 0) → Type 0
StandsFirst s (token t) text more later = (rest : List ℕ) × IsTokenSpot s t text rest × later rest
StandsFirst s over text more later = (more ≡ []) × IsLastGap text × (s.left ≡ 0)
StandsFirst s (strange b) text more later = (more ≡ []) × IsStrange s b text

-- the spots of a text
abbrev pub AreSpots : List Spot → List ℕ → Type 0
AreSpots [] text = ⊥
AreSpots (s ∷ more) text = (s.dotted ≡ begins_with_dot more) × StandsFirst s s.head text more (λ rest. AreSpots more rest)

-- ---- the same as a function

abbrev pub spot : Head → ℕ → List Spot → List Spot
spot h left more = record { head = h; dotted = begins_with_dot more; left = left } ∷ more

abbrev pub spot_before : Piece → ℕ → ℕ → List Spot → List Spot
spot_before (gap place) b left more = more
spot_before (found t) b left more = spot (token t) left more
spot_before other b left more = spot (strange b) left []

-- the spots behind so many bytes of a token that is already taken
unfoldable pub spots_behind : Between → ℕ → List ℕ → List Spot
spots_behind place skipped [] = spot over 0 []
spots_behind place (suc skipped) (b ∷ bs) = spots_behind place skipped bs
spots_behind place zero (b ∷ bs) = spot_before (piece_at place b bs) b (suc (length bs)) (spots_behind (place_after (piece_at place b bs)) (bytes_after (piece_at place b bs)) bs)

abbrev pub spots : List ℕ → List Spot
spots text = spots_behind in_blanks 0 text
