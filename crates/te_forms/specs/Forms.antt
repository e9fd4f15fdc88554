-- The events of guarded receives, and of swaps and barriers over a ring. This project's own.
use Rattle.std.specs.Prelude.{◌≡◌, ℕ, zero, suc, ◌<◌, List, [], length, ℤ, slice_index}
use Rattle.te_terms.specs.declared.value.Atom.{Atom}
use Rattle.te_terms.specs.declared.expr.Test.{Test}
use Rattle.te_terms.specs.Expressions.{name, known, int, chan, part, whole}
use Rattle.te_terms.specs.Terms.{Term, always, never, send, recv, and_then, when}
use Rattle.te_terms.specs.Steps.{giving}
use Rattle.te_forms.specs.declared.form.Form.{Form}
use Rattle.te_forms.specs.declared.form.Form.TheVariants.{Swap, Barrier}
use Rattle.te_forms.specs.Rings.{role_before}

-- do { v <- recv channel; if bound TEST v.place { always v } else { never } }
abbrev pub guarded_term : ℕ → ℕ → Test → ℤ → Term
guarded_term channel place test bound = and_then (recv (chan channel)) 0 (when test (int bound) (part (name 0) place) (always (whole (name 0))) never)

-- ---- swaps and barriers

-- a role sends on its own channel, and receives on that of the role before it
abbrev pub sends : List ℕ → ℕ → List Atom → Term
sends ring role offer = send (chan (slice_index ring role)) (whole (known offer))

abbrev pub receives : List ℕ → ℕ → Term
receives ring role = recv (chan (slice_index ring (role_before (length ring) role)))

-- role 0: do { u <- send c0 offer; recv cl }, where cl is the last channel
-- role i: do { v <- recv c(i-1); u <- send c(i) offer; always v }
abbrev pub swap_term : List ℕ → ℕ → List Atom → Term
swap_term ring zero offer = and_then (sends ring zero offer) 0 (receives ring zero)
swap_term ring (suc i) offer = and_then (receives ring (suc i)) 0 (and_then (sends ring (suc i) offer) 1 (always (whole (name 0))))

-- the swap of (), followed by `always ()`
abbrev pub barrier_term : List ℕ → ℕ → Term
barrier_term ring zero = and_then (sends ring zero []) 0 (and_then (receives ring zero) 1 (giving []))
barrier_term ring (suc i) = and_then (receives ring (suc i)) 0 (and_then (sends ring (suc i) []) 1 (giving []))

abbrev pub form_term : List ℕ → Form → Term
form_term ring (Swap role offer) = swap_term ring role offer
form_term ring (Barrier role) = barrier_term ring role

abbrev pub role_of : Form → ℕ
role_of (Swap role offer) = role
role_of (Barrier role) = role

-- what it sends on: a barrier ()
abbrev pub offer_of : Form → List Atom
offer_of (Swap role offer) = offer
offer_of (Barrier role) = []

-- the term is that of the form over the ring
pub record IsForm (ring : List ℕ) (f : Form) (t : Term) : Type 0 where
  pub within : role_of f < length ring
  pub term_is : t ≡ form_term ring f
