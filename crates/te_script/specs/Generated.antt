-- The scripts of the generator: rings of three threads, each of which can only commit whole. This project's own.
use Rattle.std.specs.Prelude.{ℕ, zero, suc, ◌+◌, ◌*◌, ◌/◌, ◌%◌, List, [], ◌∷◌, ◌++◌, codes, pos}
use Rattle.std.specs.Fmt.{decimal}
use Rattle.te_terms.specs.declared.expr.Arith.TheVariants.{Add}
use Rattle.te_terms.specs.Expressions.{register, name, int, chan, part, one, both, whole, tuple}
use Rattle.te_terms.specs.Terms.{Term, always, send, recv, and_then}
use Rattle.te_script.specs.Scripts.{Statement, sync, emit, Thread, Program}

-- what a function gives for 0, 1 and so on, so many
abbrev pub each : {A : Type 0} → (ℕ → A) → ℕ → List A
each f zero = []
each f (suc n) = each f n ++ f n ∷ []

abbrev pub rings_of : ℕ → ℕ
rings_of number = 1 + number % 21

abbrev pub rounds_of : ℕ → ℕ
rounds_of number = 1 + number % 300

-- a letter and a number in decimal
abbrev pub generated_channel_name : ℕ → List ℕ
generated_channel_name n = codes "c" ++ decimal n

abbrev pub generated_thread_name : ℕ → List ℕ
generated_thread_name n = codes "t" ++ decimal n

-- do { _0 <- send p (round); recv r }
abbrev pub starting : ℕ → ℕ → ℕ → Term
starting p r round = and_then (send (chan p) (tuple (one (int (pos round)) ∷ []))) 0 (recv (chan r))

-- do { _0 <- recv p; _1 <- send q (_0.0 + 1); always _0 }
abbrev pub passing_event : ℕ → ℕ → Term
passing_event p q = and_then (recv (chan p)) 0 (and_then (send (chan q) (tuple (both Add (part (name 0) 0) (int (pos 1)) ∷ []))) 1 (always (whole (name 0))))

-- the first thread of a ring with these three channels starts a number round, and the others pass it on
abbrev pub part_event : ℕ → ℕ → ℕ → Term
part_event zero first round = starting first (first + 2) round
part_event (suc zero) first round = passing_event first (first + 1)
part_event (suc (suc more)) first round = passing_event (first + 1) (first + 2)

-- the event of a thread in a round
abbrev pub event_of : ℕ → ℕ → Term
event_of thread round = part_event (thread % 3) (3 * (thread / 3)) round

-- a sync a round, and then an emit
abbrev pub generated_thread : ℕ → ℕ → Thread
generated_thread rounds thread = record {
  name = generated_thread_name thread;
  registers = codes "x" ∷ [];
  statements = each (λ round. sync 0 (event_of thread round)) rounds ++ emit (whole (register 0)) ∷ [];
}

abbrev pub generated : ℕ → Program
generated number = record { channels = each generated_channel_name (3 * rings_of number); threads = each (generated_thread (rounds_of number)) (3 * rings_of number) }
