-- Expressions whose variables may be replaced by values, and what they come to. The rules are this project's own.
use Rattle.std.specs.Prelude.{ℕ, Bool, List, [], ◌∷◌, ℤ, int_lt, Result, Ok, Err, map, slice_get, if◌then◌else◌}
use Rattle.std.specs.Option.{ok_or}
use Rattle.te_terms.specs.declared.value.Atom.{Atom}
use Rattle.te_terms.specs.declared.value.Atom.TheVariants.{Int, Chan}
use Rattle.te_terms.specs.declared.value.Trap.{Trap}
use Rattle.te_terms.specs.declared.value.Trap.TheVariants.{Range, Kind}
use Rattle.te_terms.specs.declared.expr.Arith.{Arith}
use Rattle.te_terms.specs.declared.expr.Test.{Test}
use Rattle.te_terms.specs.declared.expr.Test.TheVariants.{Equal, Less}
use Rattle.te_terms.specs.Values.{same_atom, arith_result, fits_i64}

-- a register by its number, an inner name by its level, or the value that replaced one of them
pub data Variable : Type 0 where
  register : ℕ → Variable
  name : ℕ → Variable
  known : List Atom → Variable

-- an integer, a channel, or a place of a variable
pub data Primitive : Type 0 where
  int : ℤ → Primitive
  chan : ℕ → Primitive
  part : Variable → ℕ → Primitive

pub data Calculation : Type 0 where
  one : Primitive → Calculation
  both : Arith → Primitive → Primitive → Calculation

pub data Expression : Type 0 where
  whole : Variable → Expression
  tuple : List Calculation → Expression

-- ---- replacing variables

abbrev pub in_primitive : (Variable → Variable) → Primitive → Primitive
in_primitive by (int z) = int z
in_primitive by (chan c) = chan c
in_primitive by (part x d) = part (by x) d

abbrev pub in_calculation : (Variable → Variable) → Calculation → Calculation
in_calculation by (one p) = one (in_primitive by p)
in_calculation by (both o p q) = both o (in_primitive by p) (in_primitive by q)

abbrev pub in_expression : (Variable → Variable) → Expression → Expression
in_expression by (whole x) = whole (by x)
in_expression by (tuple cs) = tuple (map (in_calculation by) cs)

-- ---- evaluation, from left to right: the first trap decides

infixl 10 ◌>>=◌
abbrev pub ◌>>=◌ : {A B : Type 0} → Result A Trap → (A → Result B Trap) → Result B Trap
(Ok x) >>= f = f x
(Err t) >>= f = Err t

-- only a variable that was replaced has a value
abbrev pub variable_value : Variable → Result (List Atom) Trap
variable_value (register r) = Err Kind
variable_value (name n) = Err Kind
variable_value (known v) = Ok v

abbrev pub primitive_atom : Primitive → Result Atom Trap
primitive_atom (int z) = Ok (Int z)
primitive_atom (chan c) = Ok (Chan c)
primitive_atom (part x d) = variable_value x >>= λ v. ok_or (slice_get v d) Kind

-- the channel that stands in a channel's place
abbrev pub channel_of : Atom → Result ℕ Trap
channel_of (Int z) = Err Kind
channel_of (Chan c) = Ok c

abbrev pub channel_value : Primitive → Result ℕ Trap
channel_value p = primitive_atom p >>= channel_of

abbrev pub integer_of : Atom → Result ℤ Trap
integer_of (Int z) = Ok z
integer_of (Chan c) = Err Kind

-- both operands are found, then their kinds are tested, then the range
abbrev pub calculation_atom : Calculation → Result Atom Trap
calculation_atom (one p) = primitive_atom p
calculation_atom (both o p q) = do
  a ← primitive_atom p
  b ← primitive_atom q
  x ← integer_of a
  y ← integer_of b
  if fits_i64 (arith_result o x y) then Ok (Int (arith_result o x y)) else Err Range

abbrev pub calculated_atoms : List Calculation → Result (List Atom) Trap
calculated_atoms [] = Ok []
calculated_atoms (c ∷ cs) = do
  a ← calculation_atom c
  rest ← calculated_atoms cs
  Ok (a ∷ rest)

-- the value of an expression, or its trap
abbrev pub value_of : Expression → Result (List Atom) Trap
value_of (whole x) = variable_value x
value_of (tuple cs) = calculated_atoms cs

-- `=` compares atoms; `<` needs integers
abbrev pub compared : Test → Atom → Atom → Result Bool Trap
compared Equal a b = Ok (same_atom a b)
compared Less a b = do
  x ← integer_of a
  y ← integer_of b
  Ok (int_lt x y)

abbrev pub test_value : Test → Primitive → Primitive → Result Bool Trap
test_value test p q = do
  a ← primitive_atom p
  b ← primitive_atom q
  compared test a b
