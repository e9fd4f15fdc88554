-- The wishes of a thread that computes with its register, and of threads whose emit traps.
use Rattle.std.proofs.Common.{◌≡◌, refl}
use Rattle.std.specs.Prelude.{ℕ, List, [], ◌∷◌, codes, pos, Some, None}
use Rattle.te_terms.specs.declared.value.Atom.{Atom}
use Rattle.te_terms.specs.declared.value.Atom.TheVariants.{Int}
use Rattle.te_terms.specs.declared.value.Trap.TheVariants.{Range, Kind}
use Rattle.te_terms.specs.declared.expr.Arith.TheVariants.{Add, Mul}
use Rattle.te_terms.specs.declared.event.Outcome.TheVariants.{Gives, Raises}
use Rattle.te_terms.specs.Values.{trap_value}
use Rattle.te_terms.specs.Expressions.{Variable, register, known, Expression, int, part, one, both, whole, tuple}
use Rattle.te_terms.specs.Terms.{Term, always}
use Rattle.te_script.specs.Scripts.{Thread, sync, emit, repeat}
use Rattle.te_script.specs.Wishes.{syncs, done, raised, wish, site, site_at, reached}

abbrev value : ℕ → List Atom
value n = Int (pos n) ∷ []

abbrev single : ℕ → Expression
single n = tuple (one (int (pos n)) ∷ [])

-- three times the first place of a variable, and that place
abbrev tripled : Variable → Term
tripled x = always (tuple (both Mul (part x 0) (int (pos 3)) ∷ one (part x 0) ∷ []))

-- ---- a thread that writes one register twice and then emits it

abbrev triples : Thread
triples = record {
  name = codes "a";
  registers = codes "x" ∷ [];
  statements = sync 0 (always (single 2)) ∷ sync 0 (tripled (register 0)) ∷ emit (whole (register 0)) ∷ [];
}

abbrev six_two : List Atom
six_two = Int (pos 6) ∷ Int (pos 2) ∷ []

pub first_wish : wish triples [] ≡ syncs (always (single 2))
first_wish = refl

-- the register has the value that was given
pub second_wish : wish triples (Gives (value 2) ∷ []) ≡ syncs (tripled (known (value 2)))
second_wish = refl

pub last_wish : wish triples (Gives (value 2) ∷ Gives six_two ∷ []) ≡ done (six_two ∷ [])
last_wish = refl

-- a raised value ends the thread with what it had emitted
pub raised_wish : wish triples (Raises (value 9) ∷ []) ≡ raised (value 9)
raised_wish = refl

-- ---- an emit that traps raises, and what stands behind it isn't reached

abbrev emits : Expression → Thread
emits e = record { name = codes "a"; registers = codes "x" ∷ []; statements = sync 0 (always (single 2)) ∷ emit e ∷ emit (single 1) ∷ [] }

-- a place that the value doesn't have
pub missing_place : wish (emits (tuple (one (part (register 0) 1) ∷ []))) (Gives (value 2) ∷ []) ≡ raised (trap_value Kind)
missing_place = refl

-- a sum outside 64 bits
pub too_large : wish (emits (tuple (both Add (part (register 0) 0) (int (pos 9223372036854775806)) ∷ []))) (Gives (value 2) ∷ []) ≡ raised (trap_value Range)
too_large = refl

-- ---- two repeats with an emit between them and one behind

abbrev repeats : Thread
repeats = record {
  name = codes "a";
  registers = codes "x" ∷ codes "y" ∷ [];
  statements =
      repeat 2 1 ∷ sync 0 (always (single 2)) ∷ emit (whole (register 0)) ∷ repeat 2 2 ∷ sync 1 (tripled (register 0)) ∷ sync 0 (always (whole (register 1))) ∷ emit (whole (register 0)) ∷ [];
}

pub first_site : site repeats [] ≡ Some (site_at 2 0)
first_site = refl

-- the second pass
pub second_pass : site repeats (Gives (value 2) ∷ []) ≡ Some (site_at 2 1)
second_pass = refl

pub in_second_repeat : site repeats (Gives (value 2) ∷ Gives (value 3) ∷ []) ≡ Some (site_at 5 0)
in_second_repeat = refl

-- the register has the value of the last pass, and it was emitted
pub wish_in_second_repeat : wish repeats (Gives (value 2) ∷ Gives (value 3) ∷ []) ≡ syncs (tripled (known (value 3)))
wish_in_second_repeat = refl

pub emitted_between : (reached repeats (Gives (value 2) ∷ Gives (value 3) ∷ [])).emitted ≡ value 3 ∷ []
emitted_between = refl

pub behind_first : site repeats (Gives (value 2) ∷ Gives (value 3) ∷ Gives six_two ∷ []) ≡ Some (site_at 6 0)
behind_first = refl

pub again : site repeats (Gives (value 2) ∷ Gives (value 3) ∷ Gives six_two ∷ Gives six_two ∷ []) ≡ Some (site_at 5 1)
again = refl

pub wish_again : wish repeats (Gives (value 2) ∷ Gives (value 3) ∷ Gives six_two ∷ Gives six_two ∷ []) ≡ syncs (tripled (known six_two))
wish_again = refl

-- past both
pub last_of_repeats : wish repeats (Gives (value 2) ∷ Gives (value 3) ∷ Gives six_two ∷ Gives six_two ∷ Gives (value 1) ∷ Gives (value 4) ∷ []) ≡ done (value 3 ∷ value 4 ∷ [])
last_of_repeats = refl

pub ended_has_no_site : site repeats (Gives (value 2) ∷ Raises (value 3) ∷ []) ≡ None
ended_has_no_site = refl
