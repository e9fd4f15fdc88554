-- Quiet steps, heads and endings of terms.
-- `then`, `choose`, `send` and `recv` after Donnelly and Fluet, Transactional Events, JFP 18(5-6), 2008; traps, throw, catch, if and fresh are this project's own.
use Rattle.std.specs.Prelude.{◌≡◌, ℕ, suc, Bool, true, false, List, [], ◌∷◌, Option, Some, None, Result, Ok, Err}
use Rattle.std.specs.Option.{option_map}
use Rattle.te_terms.specs.declared.value.Atom.{Atom}
use Rattle.te_terms.specs.declared.value.Atom.TheVariants.{Chan}
use Rattle.te_terms.specs.declared.value.Trap.{Trap}
use Rattle.te_terms.specs.declared.value.Trap.TheVariants.{Kind}
use Rattle.te_terms.specs.declared.event.Outcome.{Outcome}
use Rattle.te_terms.specs.declared.event.Outcome.TheVariants.{Gives, Raises}
use Rattle.te_terms.specs.Values.{trap_value, fresh_channel}
use Rattle.te_terms.specs.Expressions.{known, whole, value_of, channel_value, test_value}
use Rattle.te_terms.specs.Terms.{Term, always, never, fresh, throw, send, recv, and_then, choose, catch, when, bound}

-- a thread under a ticket, how many fresh channels it has made, and the term that it has come to
pub record Member : Type 0 where
  pub thread : ℕ
  pub ticket : ℕ
  pub count : ℕ
  pub term : Term

-- the one way in which members are made
abbrev pub come_to : ℕ → ℕ → ℕ → Term → Member
come_to thread ticket count t = record { thread = thread; ticket = ticket; count = count; term = t }

-- the member at another term
abbrev pub at_term : Member → Term → Member
at_term m t = record m { term = t }

-- the terms that give and raise one value
abbrev pub giving : List Atom → Term
giving v = always (whole (known v))

abbrev pub raising : List Atom → Term
raising v = throw (whole (known v))

-- ---- final terms

abbrev pub given_by : Result (List Atom) Trap → Option Outcome
given_by (Ok v) = Some (Gives v)
given_by (Err t) = None

abbrev pub raised_by : Result (List Atom) Trap → Option Outcome
raised_by (Ok v) = Some (Raises v)
raised_by (Err t) = None

-- the outcome of a final term: `always E` or `throw E` where E has a value
abbrev pub outcome_of : Term → Option Outcome
outcome_of (always e) = given_by (value_of e)
outcome_of (throw e) = raised_by (value_of e)
outcome_of _ = None

-- ---- quiet steps

-- a trap becomes a throw
abbrev pub thrown : {A : Type 0} → Result A Trap → Option Term
thrown (Ok x) = None
thrown (Err t) = Some (raising (trap_value t))

-- a send traps by its channel first
abbrev pub send_trap : Result ℕ Trap → Result (List Atom) Trap → Option Term
send_trap (Err t) e = Some (raising (trap_value Kind))
send_trap (Ok c) e = thrown e

abbrev pub recv_trap : Result ℕ Trap → Option Term
recv_trap (Err t) = Some (raising (trap_value Kind))
recv_trap (Ok c) = None

abbrev pub decided : Result Bool Trap → Term → Term → Term
decided (Ok true) e f = e
decided (Ok false) e f = f
decided (Err t) e f = raising (trap_value t)

-- the first part's place in `then` and in `catch`
abbrev pub under_then : ℕ → Term → Member → Member
under_then n f m = at_term m (and_then m.term n f)

abbrev pub under_catch : ℕ → Term → Member → Member
under_catch n h m = at_term m (catch m.term n h)

-- what follows the first part of `then`: its ending, where it has one, else its step in its place
abbrev pub goes_on : (Term → Member) → Option Outcome → Option Member → ℕ → Term → Option Member
goes_on to (Some (Gives v)) step n f = Some (to (bound n v f))
goes_on to (Some (Raises v)) step n f = Some (to (raising v))
goes_on to None step n f = option_map (under_then n f) step

abbrev pub is_caught : (Term → Member) → Option Outcome → Option Member → ℕ → Term → Option Member
is_caught to (Some (Gives v)) step n h = Some (to (giving v))
is_caught to (Some (Raises v)) step n h = Some (to (bound n v h))
is_caught to None step n h = option_map (under_catch n h) step

-- the quiet step of the member that has come to a term, where it has one
abbrev pub quiet_step_of : ℕ → ℕ → ℕ → Term → Option Member
quiet_step_of thread ticket count (always e) = option_map (come_to thread ticket count) (thrown (value_of e))
quiet_step_of thread ticket count never = None
quiet_step_of thread ticket count fresh = Some (come_to thread ticket (suc count) (giving (Chan (fresh_channel thread ticket count) ∷ [])))
quiet_step_of thread ticket count (throw e) = option_map (come_to thread ticket count) (thrown (value_of e))
quiet_step_of thread ticket count (send p e) = option_map (come_to thread ticket count) (send_trap (channel_value p) (value_of e))
quiet_step_of thread ticket count (recv p) = option_map (come_to thread ticket count) (recv_trap (channel_value p))
quiet_step_of thread ticket count (and_then e n f) = goes_on (come_to thread ticket count) (outcome_of e) (quiet_step_of thread ticket count e) n f
quiet_step_of thread ticket count (choose e f) = None
quiet_step_of thread ticket count (catch e n h) = is_caught (come_to thread ticket count) (outcome_of e) (quiet_step_of thread ticket count e) n h
quiet_step_of thread ticket count (when test p q e f) = Some (come_to thread ticket count (decided (test_value test p q) e f))

abbrev pub quiet_step : Member → Option Member
quiet_step m = quiet_step_of m.thread m.ticket m.count m.term

-- no quiet step is left
abbrev pub IsSettled : Member → Type 0
IsSettled m = quiet_step m ≡ None

-- ---- the head

-- the head of `then` and of `catch` is that of the first part
abbrev pub head : Term → Term
head (and_then e n f) = head e
head (catch e n h) = head e
head t = t

-- the term with another term in its head's place
abbrev pub with_head : Term → Term → Term
with_head u (and_then e n f) = and_then (with_head u e) n f
with_head u (catch e n h) = catch (with_head u e) n h
with_head u _ = u
