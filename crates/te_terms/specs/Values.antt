-- Atoms, the values that traps raise, and the channels that events make. A value is the list of its atoms.
use Rattle.std.specs.Prelude.{ℕ, ◌+◌, ◌*◌, ◌%◌, ◌^◌, Bool, false, ◌==◌, List, [], ◌∷◌, ℤ, negsuc, ◌+ℤ◌, ◌-ℤ◌, ◌*ℤ◌, int_le, pos, ◌&&◌, int_lt}
use Rattle.std.specs.Cmp.Lexicographic.{pointwise}
use Rattle.std.specs.Ordering.{int_eq}
use Rattle.te_terms.specs.declared.value.Atom.{Atom}
use Rattle.te_terms.specs.declared.value.Atom.TheVariants.{Int, Chan}
use Rattle.te_terms.specs.declared.value.Trap.{Trap}
use Rattle.te_terms.specs.declared.value.Trap.TheVariants.{Range, Kind}
use Rattle.te_terms.specs.declared.expr.Arith.{Arith}
use Rattle.te_terms.specs.declared.expr.Arith.TheVariants.{Add, Sub, Mul}

-- the value that a trap raises: (-1) or (-2)
abbrev pub trap_value : Trap → List Atom
trap_value Range = Int (negsuc 0) ∷ []
trap_value Kind = Int (negsuc 1) ∷ []

-- the number of the fresh channel that a thread makes under a ticket after so many others; channels of a script are below 256
abbrev pub fresh_channel : ℕ → ℕ → ℕ → ℕ
fresh_channel thread ticket count = 2 ^ 30 + ((thread % 64) * 2 ^ 18 + ticket % 2 ^ 18) * 16 + count

-- atoms of different kinds are unequal
abbrev pub same_atom : Atom → Atom → Bool
same_atom (Int x) (Int y) = int_eq x y
same_atom (Chan c) (Chan d) = c == d
same_atom (Int x) (Chan d) = false
same_atom (Chan c) (Int y) = false

-- the sum, difference or product of two integers, however large
abbrev pub arith_result : Arith → ℤ → ℤ → ℤ
arith_result Add x y = x +ℤ y
arith_result Sub x y = x -ℤ y
arith_result Mul x y = x *ℤ y

-- whether an integer is one of 64 bits
abbrev pub fits_i64 : ℤ → Bool
fits_i64 z = int_le (negsuc 9223372036854775807) z && int_lt z (pos 9223372036854775808)

-- values are the same where their atoms are, place by place
abbrev pub same_value : List Atom → List Atom → Bool
same_value v w = pointwise same_atom v w
