-- What names and integers are read as, and the steps of a reading. Contracts inside this crate cite it.
use Rattle.std.specs.Prelude.{ℕ, Bool, true, false, List, [], ◌∷◌, ◌++◌, length, ℤ, nat_lt, nat_le, ◌&&◌, Option, Some, None, option_and_then, if◌then◌else◌}
use Rattle.std.specs.List.{position}
use Rattle.std.specs.Str.{bytes_eq}
use Rattle.te_terms.specs.Values.{fits_i64}
use Rattle.te_terms.specs.Expressions.{Variable, register, name}
use Rattle.te_reader.specs.Tokens.{Token}
use Rattle.te_reader.specs.Integers.{integer_value}
use Rattle.te_reader.specs.Grammar.{Names, with_inner}
use Rattle.te_terms.specs.Limits.{longest_name}

infixl 10 ◌>>=◌
abbrev pub ◌>>=◌ : {A B : Type 0} → Option A → (A → Option B) → Option B
o >>= f = option_and_then f o

-- what was read, and the tokens behind it
abbrev pub Read : Type 0 → Type 0
Read A = Option (A × List Token)

abbrev pub checked : Bool → Option (Unit {0})
checked true = Some tt
checked false = None

-- ---- names and integers

-- the first place of a name
unfoldable pub first_place_of : List (List ℕ) → List ℕ → Option ℕ
first_place_of names n = position (λ x. bytes_eq x n) names

abbrev pub if_absent : Option ℕ → Option (Unit {0})
if_absent None = Some tt
if_absent (Some i) = None

-- a list with one name more, which is short and not yet among them
unfoldable pub declared_in : ℕ → List (List ℕ) → List ℕ → Option (List (List ℕ))
declared_in most names n = do
  _ ← if_absent (first_place_of names n)
  _ ← checked (nat_lt (length names) most && nat_le (length n) longest_name)
  Some (names ++ n ∷ [])

-- an integer, where it is one of 64 bits
abbrev pub fitting : ℤ → Option ℤ
fitting z = if fits_i64 z then Some z else None

unfoldable pub integer_read : List ℕ → Option ℤ
integer_read spelling = fitting (integer_value spelling)

-- the names in scope where no inner name is
abbrev pub names_of : List (List ℕ) → List (List ℕ) → Names
names_of channels registers = record { channels = channels; registers = registers; inners = [] }

abbrev pub or_inner : Names → List ℕ → Option ℕ → Option Variable
or_inner s n (Some r) = Some (register r)
or_inner s n None = do
  l ← first_place_of s.inners n
  Some (name l)

-- the register of a NAME, or else its inner name
unfoldable pub variable_named : Names → List ℕ → Option Variable
variable_named s n = or_inner s n (first_place_of s.registers n)

-- an inner name more, where it may be bound
unfoldable pub bound_in : Names → List ℕ → Option Names
bound_in s n = do
  _ ← if_absent (first_place_of s.channels n)
  _ ← if_absent (first_place_of s.registers n)
  _ ← if_absent (first_place_of s.inners n)
  _ ← checked (nat_le (length n) longest_name)
  Some (with_inner s n)
