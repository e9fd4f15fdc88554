-- Each form member sends once and receives once, and keeps what it has received to the end.
use Rattle.std.proofs.Common.{◌≡◌, ◌≢◌, ◌⊎◌, inl, inr, ℕ, zero, suc, ◌+◌, ◌==◌, Bool, true, false, cond, List, [], ◌∷◌, Option, Some, None, refl, sym, ap, subst, ◌∙◌, arith, count_by, eq-eqb, ne_eqb}
use Rattle.std.specs.Prelude.{slice_get, slice_set}
use Rattle.std.proofs.lemmas.List.Sums.{sum_by-cons}
use Rattle.te_terms.specs.declared.value.Atom.{Atom}
use Rattle.te_terms.specs.declared.event.Outcome.{Outcome}
use Rattle.te_cert.specs.declared.cert.Meeting.{Meeting}
use Rattle.te_forms.specs.declared.form.Form.{Form}
use Rattle.te_cert.proofs.Places.{get_set_same, get_set_other}
use Rattle.te_forms.specs.Rings.{role_before}
use Rattle.te_forms.specs.Forms.{role_of, offer_of}
use Rattle.te_forms.specs.Handing.{outcome_by}
use Rattle.te_forms.proofs.Stages.{Stage, begun, halfway, done, after_send, after_receive}
use Rattle.te_forms.proofs.Seats.{Seat, stranger, acting, IsDone, AllDone}
use Rattle.te_forms.proofs.Moves.{Handing, both_moved, Moves}
use Rattle.te_forms.proofs.Turns.{two_seats, Turned, gives, takes, rests, turned, kinds, kind_at, kinds_stay}

-- ---- counts

pub count_hit : {X : Type 0} (p : X → Bool) (x : X) (xs : List X) → p x ≡ true → count_by p (x ∷ xs) ≡ suc (count_by p xs)
count_hit p x xs e = sum_by-cons (λ y. cond {A = ℕ} (p y) 1 0) x xs ∙ ap (λ (b : Bool). cond {A = ℕ} b 1 0 + count_by p xs) e ∙ omega arith

pub count_miss : {X : Type 0} (p : X → Bool) (x : X) (xs : List X) → p x ≡ false → count_by p (x ∷ xs) ≡ count_by p xs
count_miss p x xs e = sum_by-cons (λ y. cond {A = ℕ} (p y) 1 0) x xs ∙ ap (λ (b : Bool). cond {A = ℕ} b 1 0 + count_by p xs) e ∙ omega arith

-- how often a place sends, and how often it receives
abbrev pub times_sending : ℕ → List Meeting → ℕ
times_sending i ms = count_by (λ m. m.sender == i) ms

abbrev pub times_receiving : ℕ → List Meeting → ℕ
times_receiving i ms = count_by (λ m. m.receiver == i) ms

-- ---- what is left to do

abbrev pub sends_left : ℕ → Stage → ℕ
sends_left role begun = 1
sends_left zero (halfway w) = 0
sends_left (suc i) (halfway w) = 1
sends_left role (done w) = 0

abbrev pub receives_left : ℕ → Stage → ℕ
receives_left role begun = 1
receives_left zero (halfway w) = 1
receives_left (suc i) (halfway w) = 0
receives_left role (done w) = 0

-- how much one send, or one receipt, leaves of both
pub send_counts : (role : ℕ) (s next : Stage) → after_send role s ≡ Some next → (sends_left role s ≡ suc (sends_left role next)) × (receives_left role s ≡ receives_left role next)
send_counts zero begun next e = let is : halfway [] ≡ next = cc in (ap (λ (x : Stage). suc (sends_left zero x)) is, ap (receives_left zero) is)
send_counts zero (halfway w) next e = absurd cc
send_counts zero (done w) next e = absurd cc
send_counts (suc i) begun next e = absurd cc
send_counts (suc i) (halfway w) next e = let is : done w ≡ next = cc in (ap (λ (x : Stage). suc (sends_left (suc i) x)) is, ap (receives_left (suc i)) is)
send_counts (suc i) (done w) next e = absurd cc

pub receipt_counts : (role : ℕ) (v : List Atom) (s next : Stage) → after_receive role v s ≡ Some next
    → (receives_left role s ≡ suc (receives_left role next)) × (sends_left role s ≡ sends_left role next)
receipt_counts zero v begun next e = absurd cc
receipt_counts zero v (halfway w) next e = let is : done v ≡ next = cc in (ap (λ (x : Stage). suc (receives_left zero x)) is, ap (sends_left zero) is)
receipt_counts zero v (done w) next e = absurd cc
receipt_counts (suc i) v begun next e = let is : halfway v ≡ next = cc in (ap (λ (x : Stage). suc (receives_left (suc i) x)) is, ap (sends_left (suc i)) is)
receipt_counts (suc i) v (halfway w) next e = absurd cc
receipt_counts (suc i) v (done w) next e = absurd cc

-- ---- at the end

pub record DoneAt (k : Seat) (os : List Outcome) (i : ℕ) : Type 0 where
  pub outcome : Outcome
  pub is_there : slice_get os i ≡ Some outcome
  pub is_done : IsDone k outcome

pub done_at : (seats : List Seat) (os : List Outcome) (i : ℕ) (k : Seat) → AllDone seats os → slice_get seats i ≡ Some k → DoneAt k os i
done_at [] [] i k all at = absurd cc
done_at (l ∷ ls) (o ∷ os) zero k all at = let same : l ≡ k = cc in record { outcome = o; is_there = refl; is_done = subst (λ (x : Seat). IsDone x o) same all.0 }
done_at (l ∷ ls) (o ∷ os) (suc i) k all at = let rest = done_at ls os i k all.1 at in record { outcome = rest.outcome; is_there = rest.is_there; is_done = rest.is_done }
done_at [] (o ∷ os) i k all at = absurd all
done_at (l ∷ ls) [] i k all at = absurd all

not_a_stranger : (o : Option Seat) (f : Form) (s : Stage) → o ≡ Some stranger → o ≡ Some (acting f s) → ⊥
not_a_stranger o f s e e' = let both : Some stranger ≡ Some (acting f s) = sym e ∙ e' in cc

-- ---- each once

module _ (roles i : ℕ) (f : Form) where
  -- a seat at another place
  other_place : (seats : List Seat) (j : ℕ) (s : Stage) → slice_get seats j ≡ Some stranger → slice_get seats i ≡ Some (acting f s) → j ≢ i
  other_place seats j s strange at same =
      not_a_stranger (slice_get seats i) f s (subst (λ (k : ℕ). slice_get seats k ≡ Some stranger) same strange) at

  -- a meeting counts where the seat gives, or takes
  module _ (m : Meeting) (ms : List Meeting) (seats : List Seat) (h : Handing roles seats m) (s : Stage) where
    sends_step : Turned roles seats m h i f s
        → ((x : Stage) → slice_get (both_moved roles seats m h) i ≡ Some (acting f x) → times_sending i ms ≡ sends_left (role_of f) x)
        → times_sending i (m ∷ ms) ≡ sends_left (role_of f) s
    sends_step (gives next same other due there) rest =
        count_hit (λ (x : Meeting). x.sender == i) m ms (eq-eqb m.sender i same) ∙ ap suc (rest next there) ∙ sym (send_counts (role_of f) s next due).0
    sends_step (takes next other same form due there) rest =
        count_miss (λ (x : Meeting). x.sender == i) m ms (ne_eqb m.sender i other) ∙ rest next there ∙ sym (receipt_counts (role_of f) (offer_of h.giver) s next due).1
    sends_step (rests other also there) rest = count_miss (λ (x : Meeting). x.sender == i) m ms (ne_eqb m.sender i other) ∙ rest s there

    receives_step : Turned roles seats m h i f s
        → ((x : Stage) → slice_get (both_moved roles seats m h) i ≡ Some (acting f x) → times_receiving i ms ≡ receives_left (role_of f) x)
        → times_receiving i (m ∷ ms) ≡ receives_left (role_of f) s
    receives_step (gives next same other due there) rest =
        count_miss (λ (x : Meeting). x.receiver == i) m ms (ne_eqb m.receiver i other) ∙ rest next there ∙ sym (send_counts (role_of f) s next due).1
    receives_step (takes next other same form due there) rest =
        count_hit (λ (x : Meeting). x.receiver == i) m ms (eq-eqb m.receiver i same) ∙ ap suc (rest next there)
        ∙ sym (receipt_counts (role_of f) (offer_of h.giver) s next due).0
    receives_step (rests other also there) rest = count_miss (λ (x : Meeting). x.receiver == i) m ms (ne_eqb m.receiver i also) ∙ rest s there

  ended_seat : (seats last : List Seat) (os : List Outcome) (s : Stage) → seats ≡ last → AllDone last os → slice_get seats i ≡ Some (acting f s) → DoneAt (acting f s) os i
  ended_seat seats last os s same done_all at = done_at seats os i (acting f s) (subst (λ (ks : List Seat). AllDone ks os) (sym same) done_all) at

  pub sends_once : (ms : List Meeting) (seats last : List Seat) (os : List Outcome) (s : Stage) → Moves roles ms seats last → AllDone last os
      → slice_get seats i ≡ Some (acting f s) → times_sending i ms ≡ sends_left (role_of f) s
  sends_once [] seats last os s same done_all at = sym (ap (sends_left (role_of f)) (ended_seat seats last os s same done_all at).is_done.is_done)
  sends_once (m ∷ ms) seats last os s (inl both) done_all at =
      count_miss (λ (x : Meeting). x.sender == i) m ms (ne_eqb m.sender i (other_place seats m.sender s both.0.0 at))
      ∙ sends_once ms seats last os s both.1 done_all at
  sends_once (m ∷ ms) seats last os s (inr both) done_all at =
      sends_step m ms seats both.0 s (turned roles seats m both.0 i f s at)
      (λ x there. sends_once ms (both_moved roles seats m both.0) last os x both.1 done_all there)

  pub receives_once : (ms : List Meeting) (seats last : List Seat) (os : List Outcome) (s : Stage) → Moves roles ms seats last → AllDone last os
      → slice_get seats i ≡ Some (acting f s) → times_receiving i ms ≡ receives_left (role_of f) s
  receives_once [] seats last os s same done_all at = sym (ap (receives_left (role_of f)) (ended_seat seats last os s same done_all at).is_done.is_done)
  receives_once (m ∷ ms) seats last os s (inl both) done_all at =
      count_miss (λ (x : Meeting). x.receiver == i) m ms (ne_eqb m.receiver i (other_place seats m.receiver s both.0.1 at))
      ∙ receives_once ms seats last os s both.1 done_all at
  receives_once (m ∷ ms) seats last os s (inr both) done_all at =
      receives_step m ms seats both.0 s (turned roles seats m both.0 i f s at)
      (λ x there. receives_once ms (both_moved roles seats m both.0) last os x both.1 done_all there)

-- ---- what was received stays

-- it has received this
abbrev pub HasGot : ℕ → Stage → List Atom → Type 0
HasGot role begun v = ⊥
HasGot zero (halfway w) v = ⊥
HasGot (suc k) (halfway w) v = w ≡ v
HasGot role (done w) v = w ≡ v

pub has_got : (role : ℕ) (v : List Atom) (s next : Stage) → after_receive role v s ≡ Some next → HasGot role next v
has_got zero v begun next e = absurd cc
has_got zero v (halfway w) next e = let is : done v ≡ next = cc in subst (λ (x : Stage). HasGot zero x v) is refl
has_got zero v (done w) next e = absurd cc
has_got (suc i) v begun next e = let is : halfway v ≡ next = cc in subst (λ (x : Stage). HasGot (suc i) x v) is refl
has_got (suc i) v (halfway w) next e = absurd cc
has_got (suc i) v (done w) next e = absurd cc

still_has : (role : ℕ) (v : List Atom) (s next : Stage) → after_send role s ≡ Some next → HasGot role s v → HasGot role next v
still_has zero v begun next e h = absurd h
still_has zero v (halfway w) next e h = absurd h
still_has zero v (done w) next e h = absurd cc
still_has (suc i) v begun next e h = absurd h
still_has (suc i) v (halfway w) next e h = let is : done w ≡ next = cc in subst (λ (x : Stage). HasGot (suc i) x v) is h
still_has (suc i) v (done w) next e h = absurd cc

no_more : (role : ℕ) (v u : List Atom) (s next : Stage) → after_receive role u s ≡ Some next → HasGot role s v → ⊥
no_more zero v u begun next e h = h
no_more zero v u (halfway w) next e h = h
no_more zero v u (done w) next e h = cc
no_more (suc i) v u begun next e h = h
no_more (suc i) v u (halfway w) next e h = cc
no_more (suc i) v u (done w) next e h = cc

module _ (roles i : ℕ) (f : Form) (v : List Atom) where
  abbrev comes_to : List Outcome → Type 0
  comes_to os = slice_get os i ≡ Some (outcome_by f v)

  at_end : (os : List Outcome) (s : Stage) → DoneAt (acting f s) os i → HasGot (role_of f) s v → comes_to os
  at_end os s end got =
      let has : end.is_done.received ≡ v = got_done (role_of f) (subst (λ (x : Stage). HasGot (role_of f) x v) end.is_done.is_done got) in
      end.is_there ∙ ap Some (end.is_done.outcome_is ∙ ap (outcome_by f) has)
    where
      got_done : {w : List Atom} → (role : ℕ) → HasGot role (done w) v → w ≡ v
      got_done zero h = h
      got_done (suc k) h = h

  step : (m : Meeting) (seats : List Seat) (h : Handing roles seats m) (s : Stage) (os : List Outcome) → Turned roles seats m h i f s → HasGot (role_of f) s v
      → ((x : Stage) → slice_get (both_moved roles seats m h) i ≡ Some (acting f x) → HasGot (role_of f) x v → comes_to os) → comes_to os
  step m seats h s os (gives next same other due there) got rest = rest next there (still_has (role_of f) v s next due got)
  step m seats h s os (takes next other same form due there) got rest = absurd (no_more (role_of f) v (offer_of h.giver) s next due got)
  step m seats h s os (rests other also there) got rest = rest s there got

  -- what it has received decides what it comes to
  pub stays_got : (ms : List Meeting) (seats last : List Seat) (os : List Outcome) (s : Stage) → Moves roles ms seats last → AllDone last os
      → slice_get seats i ≡ Some (acting f s) → HasGot (role_of f) s v → comes_to os
  stays_got [] seats last os s same done_all at got = at_end os s (ended_seat roles i f seats last os s same done_all at) got
  stays_got (m ∷ ms) seats last os s (inl both) done_all at got = stays_got ms seats last os s both.1 done_all at got
  stays_got (m ∷ ms) seats last os s (inr both) done_all at got =
      step m seats both.0 s os (turned roles seats m both.0 i f s at) got
      (λ x there h. stays_got ms (both_moved roles seats m both.0) last os x both.1 done_all there h)

-- ---- each meeting

-- a form member hands on to the next at the meeting, who comes to what it offers; or strangers meet
pub record IsHandover (roles : ℕ) (forms : List (Option Form)) (os : List Outcome) (m : Meeting) : Type 0 where
  pub giver : Form
  pub taker : Form
  pub giver_at : slice_get forms m.sender ≡ Some (Some giver)
  pub taker_at : slice_get forms m.receiver ≡ Some (Some taker)
  pub follows : role_before roles (role_of taker) ≡ role_of giver
  pub comes_to : slice_get os m.receiver ≡ Some (outcome_by taker (offer_of giver))

abbrev pub Fate : ℕ → List (Option Form) → List Outcome → Meeting → Type 0
Fate roles forms os m = IsHandover roles forms os m ⊎ ((slice_get forms m.sender ≡ Some None) × (slice_get forms m.receiver ≡ Some None))

abbrev pub Fates : ℕ → List (Option Form) → List Outcome → List Meeting → Type 0
Fates roles forms os [] = Unit {0}
Fates roles forms os (m ∷ ms) = Fate roles forms os m × Fates roles forms os ms

taker_now : (roles : ℕ) (seats : List Seat) (m : Meeting) (h : Handing roles seats m) → slice_get (both_moved roles seats m h) m.receiver ≡ Some (acting h.taker h.taker_next)
taker_now roles seats m h =
    get_set_same (slice_set seats m.sender (acting h.giver h.giver_next)) m.receiver (acting h.taker h.taker_stage) (acting h.taker h.taker_next)
    (get_set_other seats m.sender m.receiver (acting h.giver h.giver_next) (two_seats roles seats m h) ∙ h.taker_at)

pub all_fates : (roles : ℕ) (ms : List Meeting) (seats last : List Seat) (os : List Outcome) → Moves roles ms seats last → AllDone last os
    → Fates roles (kinds seats) os ms
all_fates roles [] seats last os same done_all = tt
all_fates roles (m ∷ ms) seats last os (inl both) done_all =
    (inr (kind_at seats m.sender stranger both.0.0, kind_at seats m.receiver stranger both.0.1), all_fates roles ms seats last os both.1 done_all)
all_fates roles (m ∷ ms) seats last os (inr both) done_all =
    let h = both.0 in
    let after : List Seat = both_moved roles seats m h in
    let got = has_got (role_of h.taker) (offer_of h.giver) h.taker_stage h.taker_next h.receives in
    let one : IsHandover roles (kinds seats) os m = record {
      giver = h.giver;
      taker = h.taker;
      giver_at = kind_at seats m.sender (acting h.giver h.giver_stage) h.giver_at;
      taker_at = kind_at seats m.receiver (acting h.taker h.taker_stage) h.taker_at;
      follows = h.follows;
      comes_to = stays_got roles m.receiver h.taker (offer_of h.giver) ms after last os h.taker_next both.1 done_all (taker_now roles seats m h) got;
    } in
    (inl one, subst (λ (ks : List (Option Form)). Fates roles ks os ms) (kinds_stay roles seats m h) (all_fates roles ms after last os both.1 done_all))
