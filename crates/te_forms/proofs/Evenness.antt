-- Each role has as many form members as the one before it: what a role has to send, the next has to receive.
use Rattle.std.proofs.Common.{◌≡◌, inl, inr, ℕ, zero, suc, ◌+◌, ◌==◌, Bool, true, false, cond, List, [], ◌∷◌, Some, refl, sym, ap, subst, ◌∙◌, arith, sum_by, if◌then◌else◌}
use Rattle.std.specs.Prelude.{slice_get, slice_set}
use Rattle.std.proofs.lemmas.List.Sums.{sum_by-cons}
use Rattle.te_terms.specs.declared.event.Outcome.{Outcome}
use Rattle.te_cert.specs.declared.cert.Meeting.{Meeting}
use Rattle.te_cert.proofs.Places.{get_set_other}
use Rattle.te_forms.specs.declared.form.Form.{Form}
use Rattle.te_forms.specs.Rings.{role_before}
use Rattle.te_forms.specs.Forms.{role_of, offer_of}
use Rattle.te_forms.proofs.Stages.{Stage, Ended}
use Rattle.te_forms.proofs.Seats.{Seat, stranger, acting, IsDone, AllDone}
use Rattle.te_forms.proofs.Moves.{Handing, both_moved, Moves}
use Rattle.te_forms.proofs.Turns.{two_seats}
use Rattle.te_forms.proofs.Counting.{sends_left, receives_left, send_counts, receipt_counts}

-- a sum where one item is replaced
pub sum_set : {X : Type 0} (f : X → ℕ) (xs : List X) (i : ℕ) (x y : X) → slice_get xs i ≡ Some x → sum_by f (slice_set xs i y) + f x ≡ sum_by f xs + f y
sum_set f [] i x y at = absurd cc
sum_set f (z ∷ zs) zero x y at =
    let same : z ≡ x = cc in
    let new = sum_by-cons f y zs in
    let old = sum_by-cons f z zs in
    let value = ap f same in
    omega (arith, new, old, value)
sum_set f (z ∷ zs) (suc i) x y at =
    let rest = sum_set f zs i x y at in
    let new = sum_by-cons f z (slice_set zs i y) in
    let old = sum_by-cons f z zs in
    omega (arith, new, old, rest)

module _ (roles role : ℕ) where
  -- what a seat has to send on the role's channel, and what it has to receive there
  abbrev pub leaves : Seat → ℕ
  leaves stranger = 0
  leaves (acting f s) = if role_of f == role then sends_left (role_of f) s else 0

  abbrev pub awaits : Seat → ℕ
  awaits stranger = 0
  awaits (acting f s) = if role_before roles (role_of f) == role then receives_left (role_of f) s else 0

  nothing : (b : Bool) → cond {A = ℕ} b 0 0 ≡ 0
  nothing true = refl
  nothing false = refl

  none_left : (f : Form) (s : Stage) (o : Outcome) → Ended f s o → (leaves (acting f s) ≡ 0) × (awaits (acting f s) ≡ 0)
  none_left f s o end = (
    ap (λ (x : Stage). leaves (acting f x)) end.is_done ∙ nothing (role_of f == role),
    ap (λ (x : Stage). awaits (acting f x)) end.is_done ∙ nothing (role_before roles (role_of f) == role),
  )

  seat_done : (k : Seat) (o : Outcome) → IsDone k o → (leaves k ≡ 0) × (awaits k ≡ 0)
  seat_done stranger o end = (refl, refl)
  seat_done (acting f s) o end = none_left f s o end

  at_end : (seats : List Seat) (os : List Outcome) → AllDone seats os → (sum_by leaves seats ≡ 0) × (sum_by awaits seats ≡ 0)
  at_end [] os all = (refl, refl)
  at_end (k ∷ ks) (o ∷ os) all =
      let one = seat_done k o all.0 in
      let rest = at_end ks os all.1 in
      let left = sum_by-cons leaves k ks in
      let due = sum_by-cons awaits k ks in
      let l = one.0 in
      let a = one.1 in
      let ls = rest.0 in
      let as' = rest.1 in
      (omega (arith, left, l, ls), omega (arith, due, a, as'))
  at_end (k ∷ ks) [] all = absurd all

  fewer : (b : Bool) (x y : ℕ) → x ≡ suc y → cond {A = ℕ} b x 0 ≡ cond {A = ℕ} b y 0 + cond {A = ℕ} b 1 0
  fewer true x y e = omega (arith, e)
  fewer false x y e = refl

  module _ (m : Meeting) (seats : List Seat) (h : Handing roles seats m) where
    abbrev giver_before : Seat
    giver_before = acting h.giver h.giver_stage

    abbrev giver_after : Seat
    giver_after = acting h.giver h.giver_next

    abbrev taker_before : Seat
    taker_before = acting h.taker h.taker_stage

    abbrev taker_after : Seat
    taker_after = acting h.taker h.taker_next

    abbrev once : List Seat
    once = slice_set seats m.sender giver_after

    taker_there : slice_get once m.receiver ≡ Some taker_before
    taker_there = get_set_other seats m.sender m.receiver giver_after (two_seats roles seats m h) ∙ h.taker_at

    -- one send less of the giver's role
    one_send : sum_by leaves seats ≡ sum_by leaves (both_moved roles seats m h) + cond {A = ℕ} (role_of h.giver == role) 1 0
    one_send =
        let giver = sum_set leaves seats m.sender giver_before giver_after h.giver_at in
        let taker = sum_set leaves once m.receiver taker_before taker_after taker_there in
        let counts = send_counts (role_of h.giver) h.giver_stage h.giver_next h.sends in
        let keeps = receipt_counts (role_of h.taker) (offer_of h.giver) h.taker_stage h.taker_next h.receives in
        let less = fewer (role_of h.giver == role) (sends_left (role_of h.giver) h.giver_stage) (sends_left (role_of h.giver) h.giver_next) counts.0 in
        let same : leaves taker_before ≡ leaves taker_after = ap (λ (n : ℕ). cond {A = ℕ} (role_of h.taker == role) n 0) keeps.1 in
        omega (arith, giver, taker, less, same)

    -- and one receipt less of the next
    one_receipt : sum_by awaits seats ≡ sum_by awaits (both_moved roles seats m h) + cond {A = ℕ} (role_of h.giver == role) 1 0
    one_receipt =
        let giver = sum_set awaits seats m.sender giver_before giver_after h.giver_at in
        let taker = sum_set awaits once m.receiver taker_before taker_after taker_there in
        let counts = send_counts (role_of h.giver) h.giver_stage h.giver_next h.sends in
        let keeps = receipt_counts (role_of h.taker) (offer_of h.giver) h.taker_stage h.taker_next h.receives in
        let less = fewer (role_before roles (role_of h.taker) == role) (receives_left (role_of h.taker) h.taker_stage) (receives_left (role_of h.taker) h.taker_next) keeps.0 in
        let same : awaits giver_before ≡ awaits giver_after = ap (λ (n : ℕ). cond {A = ℕ} (role_before roles (role_of h.giver) == role) n 0) counts.1 in
        let place : cond {A = ℕ} (role_before roles (role_of h.taker) == role) 1 0 ≡ cond {A = ℕ} (role_of h.giver == role) 1 0 = ap (λ (r : ℕ). cond {A = ℕ} (r == role) 1 0) h.follows in
        omega (arith, giver, taker, less, same, place)

  -- as much is to be sent as is to be received
  pub as_much : (ms : List Meeting) (seats last : List Seat) (os : List Outcome) → Moves roles ms seats last → AllDone last os
      → sum_by leaves seats ≡ sum_by awaits seats
  as_much [] seats last os same done_all =
      let end = at_end seats os (subst (λ (ks : List Seat). AllDone ks os) (sym same) done_all) in end.0 ∙ sym end.1
  as_much (m ∷ ms) seats last os (inl both) done_all = as_much ms seats last os both.1 done_all
  as_much (m ∷ ms) seats last os (inr both) done_all =
      let rest = as_much ms (both_moved roles seats m both.0) last os both.1 done_all in
      let sent = one_send m seats both.0 in
      let got = one_receipt m seats both.0 in
      omega (arith, rest, sent, got)
