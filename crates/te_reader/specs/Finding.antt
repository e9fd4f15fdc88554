-- What calls answer in finding the fault of a text. Contracts inside this crate cite it.
use Rattle.std.specs.Prelude.{◌≡◌, ℕ, Bool, true, false, not, List, [], ◌∷◌, ◌++◌, length, Option, Some, None}
use Rattle.te_reader.specs.declared.token.Lexeme.{Lexeme}
use Rattle.te_reader.specs.declared.token.Lexeme.TheVariants as lexemes
use Rattle.te_reader.specs.declared.form.Form as declared
use Rattle.te_reader.specs.declared.finder.Found as finder
use Rattle.te_reader.specs.declared.part.Part.{Part}
use Rattle.te_reader.specs.declared.part.Part.TheVariants as parts
use Rattle.te_reader.specs.Runs.{is_bound, Found, found}
use Rattle.te_reader.specs.Tokens.{word, name, inner, integer, sign}
use Rattle.te_reader.specs.Lexed.{lexed, stream_headed}
use Rattle.te_reader.specs.Spots.{Spot, Head, token, over, strange, spot, spots}
use Rattle.te_reader.specs.Forms.{Form, form}

-- a token, the end or a byte that begins none
abbrev pub lexeme_head : Lexeme → Head
lexeme_head (lexemes.Word w) = token (word w)
lexeme_head (lexemes.Name n) = token (name n.now)
lexeme_head (lexemes.Inner n) = token (inner n.now)
lexeme_head (lexemes.Integer n) = token (integer n.now)
lexeme_head (lexemes.Sign g) = token (sign g)
lexeme_head lexemes.End = over
lexeme_head (lexemes.Other b) = strange b

abbrev pub form_seen : declared.Form → Form
form_seen f = form f.role f.wanted.now

-- the top of a stack, and the rest
abbrev pub PopsTop : {A : Type 0} → Option A → List A → List A → Type 0
PopsTop (Some a) old new = old ≡ a ∷ new
PopsTop None old new = (old ≡ []) × (new ≡ [])

abbrev pub IsOnTop : {A : Type 0} → Option A → List A → Type 0
IsOnTop {A = A} (Some a) items = (rest : List A) × (items ≡ a ∷ rest)
IsOnTop None items = items ≡ []

-- these items, the first on top of those that stood there
abbrev pub set_top : {A : Type 0} → A → List A → List A
set_top a [] = []
set_top a (b ∷ bs) = a ∷ bs

-- what stands at a place, before what follows it
abbrev pub headed_spots : Lexeme → ℕ → List Spot → List Spot
headed_spots (lexemes.Word w) left more = spot (token (word w)) left more
headed_spots (lexemes.Name n) left more = spot (token (name n.now)) left more
headed_spots (lexemes.Inner n) left more = spot (token (inner n.now)) left more
headed_spots (lexemes.Integer n) left more = spot (token (integer n.now)) left more
headed_spots (lexemes.Sign g) left more = spot (token (sign g)) left more
headed_spots lexemes.End left more = spot over 0 []
headed_spots (lexemes.Other b) left more = spot (strange b) left []

-- what stands at the front of a text, and the bytes behind it, are the text's tokens and spots
abbrev pub IsHeaded : Lexeme → List ℕ → List ℕ → Type 0
IsHeaded l rest text = (stream_headed l (lexed rest) ≡ lexed text) × (headed_spots l (length text) (spots rest) ≡ spots text)

-- ---- places in a text

-- what stands first, and more behind it; nothing is behind the end and behind a strange byte
abbrev pub EndsSpots : Head → List Spot → Type 0
EndsSpots (token t) more = Unit {0}
EndsSpots over more = more ≡ []
EndsSpots (strange b) more = more ≡ []

abbrev pub LooksAt : Head → Bool → ℕ → List Spot → Type 0
LooksAt h dotted left ss = (more : List Spot) × (ss ≡ record { head = h; dotted = dotted; left = left } ∷ more) × EndsSpots h more

-- going on behind a token
abbrev pub GoesBehind : Head → List Spot → List Spot → Type 0
GoesBehind (token t) old new = (s : Spot) × (old ≡ s ∷ new)
GoesBehind over old new = Unit {0}
GoesBehind (strange b) old new = Unit {0}

abbrev pub first_head : List Spot → Head
first_head [] = over
first_head (s ∷ ss) = s.head

abbrev pub is_end : Head → Bool
is_end (token t) = false
is_end over = true
is_end (strange b) = true

-- ---- forms

-- the last event behind the parts of a `do`
abbrev pub is_last : Part → Head → Bool
is_last parts.Parts h = not (is_bound h)
is_last _ h = false

-- a form was picked, or none was; what its role leaves wanted is so before what was wanted
abbrev pub IsPickedAs : Option declared.Form → List Part → List Part → Option Form → Type 0
IsPickedAs None old new o = o ≡ None
IsPickedAs (Some f) old new o = (w : List Part) × (o ≡ Some (form f.role w)) × (w ++ old ≡ f.wanted.now ++ new)

-- a fault that was found
abbrev pub found_of : finder.Found → Found
found_of f = found f.cause f.left
