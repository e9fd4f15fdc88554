-- What expressions are read as, as functions of the tokens. Contracts inside this crate cite it.
use Rattle.std.specs.Prelude.{ℕ, zero, suc, List, [], ◌∷◌, ℤ, pos, negsuc, nat_le, Option, Some, None, if◌then◌else◌}
use Rattle.te_terms.specs.declared.expr.Arith.{Arith}
use Rattle.te_terms.specs.declared.expr.Arith.TheVariants as ariths
use Rattle.te_terms.specs.Expressions.{name, Primitive, int, chan, part, Calculation, one, both, Expression, whole, tuple}
use Rattle.te_reader.specs.declared.token.Sign.TheVariants as signs
use Rattle.te_reader.specs.Tokens.{Token}
use Rattle.te_reader.specs.Heads.{sign_first, name_first, inner_first, integer_first}
use Rattle.te_reader.specs.Integers.{integer_value}
use Rattle.te_reader.specs.Grammar.{Names}
use Rattle.te_reader.specs.NameReads.{◌>>=◌, Read, first_place_of, integer_read, variable_named}
use Rattle.te_terms.specs.Limits.{most_atoms}

-- 0, 1, 2 or 3
abbrev pub place_read : ℤ → Option ℕ
place_read (pos d) = if nat_le d 3 then Some d else None
place_read (negsuc n) = None

unfoldable pub read_place : List Token → Read ℕ
read_place ts = do
  d ← integer_first ts
  place ← place_read (integer_value d.0)
  Some (place, d.1)

-- a place of an inner name that is spelled as an INNER
unfoldable pub read_inner_part : Names → List Token → Read Primitive
read_inner_part s ts = do
  n ← inner_first ts
  l ← first_place_of s.inners n.0
  behind ← sign_first signs.Dot n.1
  d ← read_place behind
  Some (part (name l) d.0, d.1)

-- a NAME is a channel, unless a `.` is behind it
abbrev pub part_or_channel : Names → List ℕ → List Token → Option (List Token) → Read Primitive
part_or_channel s n ts (Some behind) = do
  x ← variable_named s n
  d ← read_place behind
  Some (part x d.0, d.1)
part_or_channel s n ts None = do
  c ← first_place_of s.channels n
  Some (chan c, ts)

unfoldable pub read_named : Names → List ℕ → List Token → Read Primitive
read_named s n ts = part_or_channel s n ts (sign_first signs.Dot ts)

abbrev pub named_or_inner : Names → List Token → Read (List ℕ) → Read Primitive
named_or_inner s ts (Some n) = read_named s n.0 n.1
named_or_inner s ts None = read_inner_part s ts

abbrev pub integer_or_name : Names → List Token → Read (List ℕ) → Read Primitive
integer_or_name s ts (Some d) = do
  z ← integer_read d.0
  Some (int z, d.1)
integer_or_name s ts None = named_or_inner s ts (name_first ts)

unfoldable pub read_primitive : Names → List Token → Read Primitive
read_primitive s ts = integer_or_name s ts (integer_first ts)

abbrev pub or_star : List Token → Option (List Token) → Read Arith
or_star ts (Some rest) = Some (ariths.Mul, rest)
or_star ts None = None

abbrev pub or_minus : List Token → Option (List Token) → Read Arith
or_minus ts (Some rest) = Some (ariths.Sub, rest)
or_minus ts None = or_star ts (sign_first signs.Star ts)

abbrev pub or_plus : List Token → Option (List Token) → Read Arith
or_plus ts (Some rest) = Some (ariths.Add, rest)
or_plus ts None = or_minus ts (sign_first signs.Minus ts)

unfoldable pub arith_first : List Token → Read Arith
arith_first ts = or_plus ts (sign_first signs.Plus ts)

abbrev pub one_or_both : Names → Primitive → List Token → Read Arith → Read Calculation
one_or_both s p ts (Some o) = do
  q ← read_primitive s o.1
  Some (both o.0 p q.0, q.1)
one_or_both s p ts None = Some (one p, ts)

unfoldable pub read_calculation : Names → List Token → Read Calculation
read_calculation s ts = do
  p ← read_primitive s ts
  one_or_both s p.0 p.1 (arith_first p.1)

-- the end of a tuple, or a comma and more
abbrev pub end_or_more : Calculation → List Token → (List Token → Read (List Calculation)) → Option (List Token) → Read (List Calculation)
end_or_more c ts more (Some rest) = Some (c ∷ [], rest)
end_or_more c ts more None = do
  behind ← sign_first signs.Comma ts
  cs ← more behind
  Some (c ∷ cs.0, cs.1)

-- at least one calculation and at most so many, up to the tuple's end
unfoldable pub read_calculations : ℕ → Names → List Token → Read (List Calculation)
read_calculations zero s ts = None
read_calculations (suc left) s ts = do
  c ← read_calculation s ts
  end_or_more c.0 c.1 (read_calculations left s) (sign_first signs.Close c.1)

abbrev pub empty_or_calculations : Names → List Token → Option (List Token) → Read (List Calculation)
empty_or_calculations s ts (Some rest) = Some ([], rest)
empty_or_calculations s ts None = read_calculations most_atoms s ts

-- the inside of a tuple
unfoldable pub read_tuple : Names → List Token → Read (List Calculation)
read_tuple s ts = empty_or_calculations s ts (sign_first signs.Close ts)

abbrev pub inner_or_tuple : Names → List Token → Read (List ℕ) → Read Expression
inner_or_tuple s ts (Some n) = do
  l ← first_place_of s.inners n.0
  Some (whole (name l), n.1)
inner_or_tuple s ts None = do
  inside ← sign_first signs.Open ts
  cs ← read_tuple s inside
  Some (tuple cs.0, cs.1)

abbrev pub variable_or_tuple : Names → List Token → Read (List ℕ) → Read Expression
variable_or_tuple s ts (Some n) = do
  x ← variable_named s n.0
  Some (whole x, n.1)
variable_or_tuple s ts None = inner_or_tuple s ts (inner_first ts)

unfoldable pub read_expression : Names → List Token → Read Expression
read_expression s ts = variable_or_tuple s ts (name_first ts)
