-- What a core is seen as: its thread, and where it stands.
use Rattle.std.specs.Prelude.{◌≡◌, ℕ, zero, suc, ◌+◌, ◌-◌, ◌<◌, ◌≤◌, length, List, [], ◌∷◌, ◌++◌, ◌==◌, Option, Some, None, Result, Ok, Err, take, drop, if◌then◌else◌}
use Rattle.te_terms.specs.declared.value.Atom.{Atom}
use Rattle.te_terms.specs.declared.value.Trap.{Trap}
use Rattle.te_terms.specs.declared.event.Outcome.{Outcome}
use Rattle.te_terms.specs.declared.event.Outcome.TheVariants.{Gives, Raises}
use Rattle.te_terms.specs.Values.{trap_value}
use Rattle.te_terms.specs.Expressions.{Variable, register, name, known, Expression, in_expression, value_of}
use Rattle.te_terms.specs.Terms.{Term, replaced, registers_to}
use Rattle.te_script.specs.declared.wish.Site.{Site}
use Rattle.te_script.specs.declared.wish.Spot.{Spot}
use Rattle.te_script.specs.declared.wish.Round.{Round}
use Rattle.te_script.specs.Scripts.{Statement, sync, emit, repeat, AreSyncs, IsRepeat, Thread}
use Rattle.te_script.specs.Wishes.{Step, syncing, emitting, pass_over, passes_over, flat_from, flat, Doing, synchronises, ends, has_raised, Reached, Wish, wish_of}
use Rattle.te_script.specs.Limits.{most_statements, most_times}

-- ---- where a thread stands

-- the value of one register
abbrev pub register_to : ℕ → List Atom → Variable → Variable
register_to r v (register s) = if s == r then known v else register s
register_to r v (name n) = name n
register_to r v (known w) = known w

-- the steps in which register r has this value, up to the one that writes it again
abbrev pub written : ℕ → List Atom → List Step → List Step
written r v [] = []
written r v (emitting at e ∷ rest) = emitting at (in_expression (register_to r v) e) ∷ written r v rest
written r v (syncing at s t ∷ rest) = syncing at s (replaced (register_to r v) t) ∷ (if s == r then rest else written r v rest)

-- at a sync on a term, for this register, with the steps behind it; past the last step; or raised
pub data Next : Type 0 where
  waits : Site → ℕ → Term → List Step → Next
  ended : Next
  failed : List Atom → Next

-- where a thread stands, with the values that it has emitted
pub record Stand : Type 0 where
  pub emitted : List (List Atom)
  pub next : Next

abbrev pub emits : Result (List Atom) Trap → List (List Atom) → (List (List Atom) → Stand) → Stand
emits (Ok v) emitted go = go (emitted ++ v ∷ [])
emits (Err t) emitted go = record { emitted = emitted; next = failed (trap_value t) }

-- where the next sync stands behind the emits; an emit that traps raises
abbrev pub stand_at : List Step → List (List Atom) → Stand
stand_at [] emitted = record { emitted = emitted; next = ended }
stand_at (syncing at r t ∷ rest) emitted = record { emitted = emitted; next = waits at r t rest }
stand_at (emitting at e ∷ rest) emitted = emits (value_of e) emitted (stand_at rest)

-- a given value is written to the register, a raised one ends the thread
abbrev pub moved : List (List Atom) → Next → Outcome → Stand
moved emitted (waits at r t rest) (Gives v) = stand_at (written r v rest) emitted
moved emitted (waits at r t rest) (Raises v) = record { emitted = emitted; next = failed v }
moved emitted ended o = record { emitted = emitted; next = ended }
moved emitted (failed v) o = record { emitted = emitted; next = failed v }

abbrev pub goes_by : Stand → List Outcome → Stand
goes_by s [] = s
goes_by s (o ∷ os) = goes_by (moved s.emitted s.next o) os

-- where a thread stands after these outcomes
abbrev pub stand_after : Thread → List Outcome → Stand
stand_after t outs = goes_by (stand_at (flat t) []) outs

-- what it does there
abbrev pub doing_of : Next → Doing
doing_of (waits at r t rest) = synchronises at t
doing_of ended = ends
doing_of (failed v) = has_raised v

abbrev pub wish_at : Stand → Wish
wish_at s = wish_of s.emitted (doing_of s.next)

pub record At : Type 0 where
  pub thread : Thread
  pub stand : Stand

-- the core of a thread after these outcomes
abbrev pub core_after : Thread → List Outcome → At
core_after t outs = record { thread = t; stand = stand_after t outs }

-- the thread waits for the outcome of a sync
abbrev pub IsWaiting : Next → Type 0
IsWaiting (waits at r t rest) = Unit {0}
IsWaiting ended = ⊥
IsWaiting (failed v) = ⊥

-- ---- the rest of a thread, under the present registers

-- register r is written again, so its name stays
abbrev pub without_register : ℕ → (Variable → Variable) → Variable → Variable
without_register r by (register s) = if s == r then register s else by (register s)
without_register r by (name n) = by (name n)
without_register r by (known v) = by (known v)

-- the steps in which each register has its value, until it is written again
abbrev pub under : (Variable → Variable) → List Step → List Step
under by [] = []
under by (emitting at e ∷ rest) = emitting at (in_expression by e) ∷ under by rest
under by (syncing at r t ∷ rest) = syncing at r (replaced by t) ∷ under (without_register r by) rest

-- the first step left is a sync, or none is left
abbrev pub next_of : List Step → Next
next_of [] = ended
next_of (syncing at r t ∷ rest) = waits at r t rest
next_of (emitting at e ∷ rest) = ended

abbrev pub next_at : Option (List Atom) → List (List Atom) → List Step → Next
next_at (Some v) regs rest = failed v
next_at None regs rest = next_of (under (registers_to regs) rest)

-- the first step left is no emit
abbrev pub IsPastEmitting : List Step → Type 0
IsPastEmitting [] = Unit {0}
IsPastEmitting (syncing at r t ∷ rest) = Unit {0}
IsPastEmitting (emitting at e ∷ rest) = ⊥

-- the first step left is a sync at this site that writes this register
abbrev pub WritesTo : List Step → ℕ → Type 0
WritesTo [] r = ⊥
WritesTo (syncing at s t ∷ rest) r = r ≡ s
WritesTo (emitting at e ∷ rest) r = ⊥

-- how many values the steps can emit
abbrev pub emits_left : List Step → ℕ
emits_left [] = 0
emits_left (syncing at r t ∷ rest) = emits_left rest
emits_left (emitting at e ∷ rest) = suc (emits_left rest)

-- how many values the statements can emit: no repeat has an emit
abbrev pub emits_in : List Statement → ℕ
emits_in [] = 0
emits_in (sync r t ∷ rest) = emits_in rest
emits_in (emit e ∷ rest) = suc (emits_in rest)
emits_in (repeat times count ∷ rest) = emits_in rest

-- ---- spots in a text

-- the steps from a place on, outside of every repeat
abbrev pub steps_behind : ℕ → List Statement → List Step
steps_behind place ss = flat_from (suc place) 0 (drop place ss)

-- the rest of a pass over a body, the passes still to come, and what stands behind the repeat
abbrev pub left_in : ℕ → Option Round → List Statement → List Step
left_in place None ss = steps_behind place ss
left_in place (Some r) ss =
    pass_over (suc place) r.pass (take (r.end - place) (drop place ss))
    ++ (passes_over (r.times - suc r.pass) (suc r.first) (suc r.pass) (take (r.end - r.first) (drop r.first ss)) ++ steps_behind r.end ss)

-- the steps that are left from a spot on
abbrev pub steps_left_at : Spot → List Statement → List Step
steps_left_at spot ss = left_in spot.place spot.round ss

-- a place in the body of a repeat
pub record IsInRepeat (place : ℕ) (r : Round) (ss : List Statement) : Type 0 where
  pub begun : r.first ≤ place
  pub inside : place < r.end
  pub within : r.end ≤ length ss
  pub more : r.pass < r.times
  pub most : r.times ≤ most_times
  pub body : AreSyncs (r.end - r.first) (drop r.first ss)

-- the first statement is a sync, or there is none
abbrev pub IsAtSync : List Statement → Type 0
IsAtSync [] = Unit {0}
IsAtSync (sync r t ∷ ss) = Unit {0}
IsAtSync (emit e ∷ ss) = ⊥
IsAtSync (repeat times count ∷ ss) = ⊥

abbrev pub FitsRound : ℕ → Option Round → List Statement → Type 0
FitsRound place None ss = IsAtSync (drop place ss)
FitsRound place (Some r) ss = IsInRepeat place r ss

-- each repeat has its body
abbrev pub HasBodies : List Statement → Type 0
HasBodies [] = Unit {0}
HasBodies (sync r t ∷ ss) = HasBodies ss
HasBodies (emit e ∷ ss) = HasBodies ss
HasBodies (repeat times count ∷ ss) = IsRepeat times count ss × HasBodies ss

-- a spot at a sync or past the end
pub record IsSyncSpot (spot : Spot) (ss : List Statement) : Type 0 where
  pub within : spot.place ≤ length ss
  pub round : FitsRound spot.place spot.round ss

-- the steps behind the first one
abbrev pub steps_behind_first : List Step → List Step
steps_behind_first [] = []
steps_behind_first (s ∷ ss) = ss

-- the spot behind the sync at a spot is in the same repeat, or is the place behind it
abbrev pub SpotGoesOn : Spot → Option Spot → List Statement → Type 0
SpotGoesOn spot (Some next) ss = IsSyncSpot next ss × (steps_left_at next ss ≡ steps_behind_first (steps_left_at spot ss))
SpotGoesOn spot None ss = steps_behind (suc spot.place) ss ≡ steps_behind_first (steps_left_at spot ss)

-- the spot is one of some text
abbrev pub IsSomewhere : Spot → Type 0
IsSomewhere spot = (ss : List Statement) × IsSyncSpot spot ss

-- the first statement is no emit
abbrev pub IsPastEmits : List Statement → Type 0
IsPastEmits [] = Unit {0}
IsPastEmits (sync r t ∷ ss) = Unit {0}
IsPastEmits (emit e ∷ ss) = ⊥
IsPastEmits (repeat times count ∷ ss) = Unit {0}

abbrev pub pass_of : Option Round → ℕ
pass_of None = 0
pass_of (Some r) = r.pass

-- a core stands at a sync or past the end, and has room for all that is still emitted
pub record IsCore (t : Thread) (spot : Spot) (len room : ℕ) : Type 0 where
  pub short : length t.statements ≤ most_statements
  pub at : IsSyncSpot spot t.statements
  pub fits : len + emits_left (steps_left_at spot t.statements) ≤ room

-- where a thread stands once the emits before its next sync are done
pub record Settles (regs : List (List Atom)) (before : List Step) (emitted : List (List Atom))
    (raised : Option (List Atom)) (after : List Step) (now : List (List Atom)) : Type 0 where
  pub stands : stand_at (under (registers_to regs) before) emitted ≡ record { emitted = now; next = next_at raised regs after }
  pub fits : length now + emits_left after ≤ length emitted + emits_left before
