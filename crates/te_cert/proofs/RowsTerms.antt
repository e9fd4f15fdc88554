-- Short words for the terms of the worked scripts.
use Rattle.std.specs.Prelude.{ℕ, List, [], ◌∷◌, pos}
use Rattle.te_terms.specs.declared.value.Atom.{Atom}
use Rattle.te_terms.specs.declared.value.Atom.TheVariants.{Int}
use Rattle.te_terms.specs.declared.expr.Arith.TheVariants.{Add}
use Rattle.te_terms.specs.Expressions.{name, Primitive, int, part, one, both, Expression, whole, tuple}

-- a tuple of one integer, as an expression and as a value
abbrev pub single : ℕ → Expression
single n = tuple (one (int (pos n)) ∷ [])

abbrev pub single_value : ℕ → List Atom
single_value n = Int (pos n) ∷ []

abbrev pub unit : Expression
unit = tuple []

-- the inner name of a level, as a whole and at its first place
abbrev pub the_name : ℕ → Expression
the_name n = whole (name n)

abbrev pub first_of : ℕ → Primitive
first_of n = part (name n) 0

-- one more than the first place of an inner name
abbrev pub one_more_than : ℕ → Expression
one_more_than n = tuple (both Add (first_of n) (int (pos 1)) ∷ [])
