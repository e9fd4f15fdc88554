-- Worked cases of single expressions and terms, by computing.
use Rattle.std.proofs.Common.{◌≡◌, ◌+◌, false, [], ◌∷◌, Some, None, Ok, Err, refl}
use Rattle.std.specs.Prelude.{ℤ, pos, negsuc}
use Rattle.te_terms.specs.declared.value.Atom.TheVariants.{Int, Chan}
use Rattle.te_terms.specs.declared.value.Trap.TheVariants.{Range, Kind}
use Rattle.te_terms.specs.declared.expr.Arith.TheVariants.{Add, Sub, Mul}
use Rattle.te_terms.specs.declared.expr.Test.TheVariants.{Equal, Less}
use Rattle.te_terms.specs.declared.event.Outcome.TheVariants.{Gives, Raises}
use Rattle.te_terms.specs.Values.{trap_value, fresh_channel}
use Rattle.te_terms.specs.Expressions.{Expression, name, known, int, chan, part, one, both, whole, tuple, value_of, test_value}
use Rattle.te_terms.specs.Terms.{Term, always, never, fresh, throw, send, recv, and_then, catch, when}
use Rattle.te_terms.specs.Steps.{Member, come_to, quiet_step, outcome_of, raising, giving}
use Rattle.te_terms.specs.Settling.{settled}

abbrev number : ℤ → Expression
number z = tuple (one (int z) ∷ [])

-- a member at its first ticket
abbrev first : Term → Member
first t = come_to 0 0 0 t

-- one above the greatest integer of 64 bits
abbrev past_greatest : Expression
past_greatest = tuple (both Add (int (pos 9223372036854775807)) (int (pos 1)) ∷ [])

-- ---- the first trap from the left decides

range_before_kind : value_of (tuple (both Add (int (pos 9223372036854775807)) (int (pos 1)) ∷ both Add (chan 0) (int (pos 1)) ∷ [])) ≡ Err Range
range_before_kind = refl

kind_before_range : value_of (tuple (both Add (chan 0) (int (pos 1)) ∷ both Add (int (pos 9223372036854775807)) (int (pos 1)) ∷ [])) ≡ Err Kind
kind_before_range = refl

traps_raise : (trap_value Range ≡ Int (negsuc 0) ∷ []) × (trap_value Kind ≡ Int (negsuc 1) ∷ [])
traps_raise = (refl, refl)

-- both operands are found before kinds are tested, and kinds before the range
missing_place_is_kind : value_of (tuple (both Mul (chan 0) (part (known []) 0) ∷ [])) ≡ Err Kind
missing_place_is_kind = refl

least_is_no_trap : value_of (tuple (both Sub (int (negsuc 9223372036854775806)) (int (pos 1)) ∷ [])) ≡ Ok (Int (negsuc 9223372036854775807) ∷ [])
least_is_no_trap = refl

below_least : value_of (tuple (both Sub (int (negsuc 9223372036854775807)) (int (pos 1)) ∷ [])) ≡ Err Range
below_least = refl

-- ---- tests

channel_is_no_integer : test_value Equal (chan 0) (int (pos 0)) ≡ Ok false
channel_is_no_integer = refl

channel_has_no_order : test_value Less (chan 0) (int (pos 1)) ≡ Err Kind
channel_has_no_order = refl

-- ---- steps

-- the channel of a send traps first
send_without_channel : quiet_step (first (send (int (pos 5)) past_greatest)) ≡ Some (first (raising (trap_value Kind)))
send_without_channel = refl

send_of_a_trap : quiet_step (first (send (chan 5) past_greatest)) ≡ Some (first (raising (trap_value Range)))
send_of_a_trap = refl

-- an ending that looks like a trap is none
minus_one_is_final : (quiet_step (first (always (number (negsuc 0)))) ≡ None) × (outcome_of (always (number (negsuc 0))) ≡ Some (Gives (Int (negsuc 0) ∷ [])))
minus_one_is_final = (refl, refl)

minus_one_is_not_caught : quiet_step (first (catch (always (number (negsuc 0))) 0 (always (number (pos 7))))) ≡ Some (first (giving (Int (negsuc 0) ∷ [])))
minus_one_is_not_caught = refl

a_trap_is_caught : outcome_of (settled (first (catch (always past_greatest) 0 (always (whole (name 0)))))).term ≡ Some (Gives (Int (negsuc 0) ∷ []))
unfolding settled
a_trap_is_caught = refl

difference : Term
difference = and_then (always (number (pos 1))) 0 (and_then (always (number (pos 2))) 1 (always (tuple (both Sub (part (name 1) 0) (part (name 0) 0) ∷ []))))

difference_gives_one : outcome_of (settled (first difference)).term ≡ Some (Gives (Int (pos 1) ∷ []))
unfolding settled difference
difference_gives_one = refl

-- never doesn't step under `catch`, and isn't final
never_stays : (quiet_step (first (catch never 0 (always (number (pos 1))))) ≡ None) × (outcome_of (catch never 0 (always (number (pos 1)))) ≡ None)
never_stays = (refl, refl)

raises_past_then : outcome_of (settled (first (and_then (throw (number (pos 3))) 0 (always (number (pos 1)))))).term ≡ Some (Raises (Int (pos 3) ∷ []))
unfolding settled
raises_past_then = refl

a_test_chooses : quiet_step (first (when Less (int (pos 1)) (int (pos 2)) never (recv (chan 1)))) ≡ Some (first never)
a_test_chooses = refl

a_test_traps : quiet_step (first (when Less (chan 1) (int (pos 2)) never (recv (chan 1)))) ≡ Some (first (raising (trap_value Kind)))
a_test_traps = refl

-- ---- fresh channels

abbrev two_fresh : Term
two_fresh = and_then fresh 0 (and_then fresh 1 (always (tuple (one (part (name 0) 0) ∷ one (part (name 1) 0) ∷ []))))

-- a fresh channel is made of thread, ticket and count
fresh_gives : quiet_step (come_to 3 5 2 fresh) ≡ Some (come_to 3 5 3 (giving (Chan (fresh_channel 3 5 2) ∷ [])))
fresh_gives = refl

first_fresh_channel : fresh_channel 0 0 0 ≡ 1073741824
first_fresh_channel = refl

-- thread 64 and ticket 2^18 begin again
fresh_channels_wrap : (fresh_channel 64 0 0 ≡ fresh_channel 0 0 0) × (fresh_channel 1 262144 3 ≡ fresh_channel 1 0 3)
fresh_channels_wrap = (refl, refl)

-- two in one event differ
two_fresh_differ : outcome_of (settled (first two_fresh)).term ≡ Some (Gives (Chan (fresh_channel 0 0 0) ∷ Chan (fresh_channel 0 0 1) ∷ []))
unfolding settled
two_fresh_differ = refl

fresh_are_counted : (settled (first two_fresh)).count ≡ 2
unfolding settled
fresh_are_counted = refl

-- and so do those of two tickets, and of two threads
next_ticket_differs : outcome_of (settled (come_to 0 1 0 two_fresh)).term ≡ Some (Gives (Chan (fresh_channel 0 0 0 + 16) ∷ Chan (fresh_channel 0 0 0 + 17) ∷ []))
unfolding settled
next_ticket_differs = refl

next_thread_differs : fresh_channel 1 0 0 ≡ fresh_channel 0 0 0 + 4194304
next_thread_differs = refl
