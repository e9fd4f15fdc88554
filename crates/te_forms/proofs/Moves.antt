-- What the meetings of a play do to the seats: a form member meets only the one before it or after it, at its due stage, and strangers meet each other.
use Rattle.std.proofs.Common.{◌≡◌, ◌⊎◌, inl, inr, ℕ, zero, suc, ◌<◌, List, [], ◌∷◌, length, Option, Some, None, Ok, refl, sym, ap, subst, ◌∙◌, arith, eqb-true}
use Rattle.std.specs.Prelude.{slice_get, slice_set, slice_index}
use Rattle.std.specs.Option.{option_map}
use Rattle.te_terms.specs.declared.value.Atom.{Atom}
use Rattle.te_terms.specs.Terms.{Term}
use Rattle.te_terms.specs.Steps.{giving, with_head}
use Rattle.te_terms.specs.Joint.{Message, sending, receiving}
use Rattle.te_cert.specs.declared.cert.Meeting.{Meeting}
use Rattle.te_cert.specs.Play.{Player, Table, Advance, Ends, player_with_term, advanced, met, ends_advance, meets, all_meet}
use Rattle.te_cert.proofs.AllAdvance.{through}
use Rattle.te_cert.proofs.AllMeet.{who_met, ends_of}
use Rattle.te_cert.proofs.Places.{set_own}
use Rattle.te_forms.specs.declared.form.Form.{Form}
use Rattle.te_forms.specs.Rings.{IsRing, IsOnRing, role_before}
use Rattle.te_forms.specs.Forms.{role_of, offer_of}
use Rattle.te_forms.proofs.Avoiding.{replaced_avoids, sending_avoids, receiving_avoids}
use Rattle.te_forms.proofs.AdvancesAvoid.{advance_avoids}
use Rattle.te_forms.proofs.Stages.{Stage, stage_term, after_send, after_receive, own_message, own_source, sends_at, receives_at, has_sent, has_received}
use Rattle.te_forms.proofs.Seats.{Seat, stranger, acting, IsSeated, AllSeated, seat_at, seats_set}

-- ---- meetings on seats

-- a form member hands on to the next, at the due stages of both
pub record Handing (roles : ℕ) (seats : List Seat) (m : Meeting) : Type 0 where
  pub giver : Form
  pub taker : Form
  pub giver_stage : Stage
  pub taker_stage : Stage
  pub giver_next : Stage
  pub taker_next : Stage
  pub giver_at : slice_get seats m.sender ≡ Some (acting giver giver_stage)
  pub taker_at : slice_get seats m.receiver ≡ Some (acting taker taker_stage)
  pub giver_within : role_of giver < roles
  pub taker_within : role_of taker < roles
  pub follows : role_before roles (role_of taker) ≡ role_of giver
  pub sends : after_send (role_of giver) giver_stage ≡ Some giver_next
  pub receives : after_receive (role_of taker) (offer_of giver) taker_stage ≡ Some taker_next

abbrev pub both_moved : (roles : ℕ) (seats : List Seat) (m : Meeting) → Handing roles seats m → List Seat
both_moved roles seats m h = slice_set (slice_set seats m.sender (acting h.giver h.giver_next)) m.receiver (acting h.taker h.taker_next)

abbrev pub AreStrangers : List Seat → Meeting → Type 0
AreStrangers seats m = (slice_get seats m.sender ≡ Some stranger) × (slice_get seats m.receiver ≡ Some stranger)

-- the meetings, one after another, lead from the first seats to the last
abbrev pub Moves : ℕ → List Meeting → List Seat → List Seat → Type 0
Moves roles [] seats last = seats ≡ last
Moves roles (m ∷ ms) seats last =
    (AreStrangers seats m × Moves roles ms seats last) ⊎ ((h : Handing roles seats m) × Moves roles ms (both_moved roles seats m h) last)

-- what one meeting comes to, and what all do
data Comes (ring : List ℕ) (seats : List Seat) (m : Meeting) (u : List Player) : Type 0 where
  comes_aside : slice_get seats m.sender ≡ Some stranger → slice_get seats m.receiver ≡ Some stranger → AllSeated ring seats u → Comes ring seats m u
  comes_on : (h : Handing (length ring) seats m) → AllSeated ring (both_moved (length ring) seats m h) u → Comes ring seats m u

pub record Led (ring : List ℕ) (ms : List Meeting) (seats : List Seat) (u : List Player) : Type 0 where
  pub last : List Seat
  pub moves : Moves (length ring) ms seats last
  pub all : AllSeated ring last u

-- ---- the channels of a ring

pub in_ring : (ring : List ℕ) (i : ℕ) → i < length ring → slice_get ring i ≡ Some (slice_index ring i)
in_ring [] i lt = absurd (omega arith)
in_ring (c ∷ cs) zero lt = refl
in_ring (c ∷ cs) (suc i) lt = in_ring cs i (omega arith)

pub before_within : (roles role : ℕ) → role < roles → role_before roles role < roles
before_within roles zero lt = omega arith
before_within roles (suc i) lt = omega arith

pub same_role : (ring : List ℕ) → IsRing ring → (i j : ℕ) → i < length ring → j < length ring → slice_index ring i ≡ slice_index ring j → i ≡ j
same_role ring is i j lt lt' same = is.different i j (slice_index ring i) (in_ring ring i lt) (in_ring ring j lt' ∙ ap Some (sym same))

-- ---- one meeting

due : {A : Type 0} (o : Option Stage) (x y : A) → option_map (λ _. x) o ≡ Some y → (s : Stage) × (o ≡ Some s) × (x ≡ y)
due (Some s) x y e = (s, refl, cc)
due None x y e = absurd cc

module _ (ring : List ℕ) (is_ring : IsRing ring) where
  -- a form member that stands at a send
  module _ (f : Form) (s : Stage) (t : Term) (is : t ≡ stage_term ring f s) where
    at_send : (sent : Message) → sending t ≡ Some sent → (next : Stage) × (after_send (role_of f) s ≡ Some next) × (own_message ring f ≡ sent)
    at_send sent e = due (after_send (role_of f) s) (own_message ring f) sent (sym (sends_at ring f s) ∙ ap sending (sym is) ∙ e)

    at_receive : (v : List Atom) (c : ℕ) → receiving t ≡ Some c → (next : Stage) × (after_receive (role_of f) v s ≡ Some next) × (own_source ring f ≡ c)
    at_receive v c e = due (after_receive (role_of f) v s) (own_source ring f) c (sym (receives_at ring f v s) ∙ ap receiving (sym is) ∙ e)

  own_channel : (f : Form) → role_of f < length ring → IsOnRing ring (own_message ring f).channel
  own_channel f lt = (role_of f, in_ring ring (role_of f) lt)

  own_source_in : (f : Form) → role_of f < length ring → IsOnRing ring (own_source ring f)
  own_source_in f lt = (role_before (length ring) (role_of f), in_ring ring (role_before (length ring) (role_of f)) (before_within (length ring) (role_of f) lt))

  -- where a player has sent or received, and has advanced
  sender_seated : (i : ℕ) (p : Player) (a : Advance) (f : Form) (s next : Stage) → IsSeated ring (acting f s) p → after_send (role_of f) s ≡ Some next
      → advanced i (player_with_term p (with_head (giving []) p.member.term)) ≡ Ok a → IsSeated ring (acting f next) a.player
  sender_seated i p a f s next seat due goes =
      let there : advanced i (player_with_term p (with_head (giving []) p.member.term)) ≡ Ok (record { player = player_with_term p (stage_term ring f next); word = [] }) =
      subst (λ (t : Term). advanced i (player_with_term p (with_head (giving []) t)) ≡ Ok (record { player = player_with_term p (stage_term ring f next); word = [] })) (sym seat.1)
      (has_sent ring i p f s next due) in
      let both : Ok a ≡ Ok (record { player = player_with_term p (stage_term ring f next); word = [] }) = sym goes ∙ there in
      let same : a ≡ record { player = player_with_term p (stage_term ring f next); word = [] } = cc in
      (seat.0, ap (λ (x : Advance). x.player.member.term) same)

  receiver_seated : (i : ℕ) (p : Player) (a : Advance) (f : Form) (v : List Atom) (s next : Stage) → IsSeated ring (acting f s) p → after_receive (role_of f) v s ≡ Some next
      → advanced i (player_with_term p (with_head (giving v) p.member.term)) ≡ Ok a → IsSeated ring (acting f next) a.player
  receiver_seated i p a f v s next seat due goes =
      let there : advanced i (player_with_term p (with_head (giving v) p.member.term)) ≡ Ok (record { player = player_with_term p (stage_term ring f next); word = [] }) =
      subst (λ (t : Term). advanced i (player_with_term p (with_head (giving v) t)) ≡ Ok (record { player = player_with_term p (stage_term ring f next); word = [] })) (sym seat.1)
      (has_received ring i p f v s next due) in
      let both : Ok a ≡ Ok (record { player = player_with_term p (stage_term ring f next); word = [] }) = sym goes ∙ there in
      let same : a ≡ record { player = player_with_term p (stage_term ring f next); word = [] } = cc in
      (seat.0, ap (λ (x : Advance). x.player.member.term) same)

  module _ (seats : List Seat) (m : Meeting) (ps : List Player) (all : AllSeated ring seats ps) (s r : Player) (sent : Message) (channel : ℕ) (a b : Advance)
      (sends : sending s.member.term ≡ Some sent) (receives : receiving r.member.term ≡ Some channel) (one_channel : sent.channel ≡ channel)
      (s_goes : advanced m.sender (player_with_term s (with_head (giving []) s.member.term)) ≡ Ok a)
      (r_goes : advanced m.receiver (player_with_term r (with_head (giving sent.value) r.member.term)) ≡ Ok b) where
    abbrev players : List Player
    players = slice_set (slice_set ps m.sender a.player) m.receiver b.player

    by_seats : (x y : Seat) → slice_get seats m.sender ≡ Some x → slice_get seats m.receiver ≡ Some y → IsSeated ring x s → IsSeated ring y r → Comes ring seats m players
    by_seats stranger stranger x_at y_at x_is y_is =
        let sent_value = (sending_avoids ring s.member.term sent x_is sends).1 in
        let a_is = advance_avoids ring is_ring m.sender _ a (replaced_avoids ring (giving []) s.member.term tt x_is) s_goes in
        let b_is = advance_avoids ring is_ring m.receiver _ b (replaced_avoids ring (giving sent.value) r.member.term sent_value y_is) r_goes in
        let one = seats_set ring seats ps m.sender stranger a.player all a_is in
        let once : AllSeated ring seats (slice_set ps m.sender a.player) = subst (λ (ks : List Seat). AllSeated ring ks (slice_set ps m.sender a.player)) (set_own seats m.sender stranger x_at) one in
        let two = seats_set ring seats (slice_set ps m.sender a.player) m.receiver stranger b.player once b_is in
        comes_aside x_at y_at (subst (λ (ks : List Seat). AllSeated ring ks players) (set_own seats m.receiver stranger y_at) two)
    by_seats stranger (acting g t) x_at y_at x_is y_is =
        let got = at_receive g t r.member.term y_is.1 sent.value channel receives in
        absurd ((sending_avoids ring s.member.term sent x_is sends).0
        (subst (IsOnRing ring) (got.2 ∙ sym one_channel) (own_source_in g y_is.0)))
    by_seats (acting f t) stranger x_at y_at x_is y_is =
        let gave = at_send f t s.member.term x_is.1 sent sends in
        absurd (receiving_avoids ring r.member.term channel y_is receives
        (subst (IsOnRing ring) (ap (λ (x : Message). x.channel) gave.2 ∙ one_channel) (own_channel f x_is.0)))
    by_seats (acting f t) (acting g u) x_at y_at x_is y_is =
        let gave = at_send f t s.member.term x_is.1 sent sends in
        let got = at_receive g u r.member.term y_is.1 (offer_of f) channel receives in
        let value : sent.value ≡ offer_of f = ap (λ (x : Message). x.value) (sym gave.2) in
        let channels : slice_index ring (role_before (length ring) (role_of g)) ≡ slice_index ring (role_of f) = got.2 ∙ sym one_channel ∙ ap (λ (x : Message). x.channel) (sym gave.2) in
        let h : Handing (length ring) seats m = record {
          giver = f;
          taker = g;
          giver_stage = t;
          taker_stage = u;
          giver_next = gave.0;
          taker_next = got.0;
          giver_at = x_at;
          taker_at = y_at;
          giver_within = x_is.0;
          taker_within = y_is.0;
          follows = same_role ring is_ring (role_before (length ring) (role_of g)) (role_of f) (before_within (length ring) (role_of g) y_is.0) x_is.0 channels;
          sends = gave.1;
          receives = got.1;
        } in
        let a_is = sender_seated m.sender s a f t gave.0 x_is gave.1 s_goes in
        let goes : advanced m.receiver (player_with_term r (with_head (giving (offer_of f)) r.member.term)) ≡ Ok b =
        subst (λ (v : List Atom). advanced m.receiver (player_with_term r (with_head (giving v) r.member.term)) ≡ Ok b) value r_goes in
        let b_is = receiver_seated m.receiver r b g (offer_of f) u got.0 y_is got.1 goes in
        comes_on h (seats_set ring (slice_set seats m.sender (acting f gave.0)) (slice_set ps m.sender a.player) m.receiver (acting g got.0) b.player
        (seats_set ring seats ps m.sender (acting f gave.0) a.player all a_is) b_is)

  met_comes : (seats : List Seat) (j : ℕ) (m : Meeting) (t u : Table) (o : Option Ends) → AllSeated ring seats t.players
      → met (slice_get t.players m.sender) (slice_get t.players m.receiver) ≡ o → ends_advance j m t o ≡ Ok u → Comes ring seats m u.players
  met_comes seats j m t u None all so e = absurd cc
  met_comes seats j m t u (Some ends) all so e =
      let who = who_met (slice_get t.players m.sender) (slice_get t.players m.receiver) ends so in
      let goes : ends_advance j m t (Some (ends_of who.sender who.receiver who.fit.sent)) ≡ Ok u = subst (λ (x : Ends). ends_advance j m t (Some x) ≡ Ok u) (sym who.ends_are) e in
      let first = through (advanced m.sender (player_with_term who.sender (with_head (giving []) who.sender.member.term))) _ u goes in
      let second = through (advanced m.receiver (player_with_term who.receiver (with_head (giving who.fit.sent.value) who.receiver.member.term))) _ u first.2 in
      let made = second.2 in
      let players : slice_set (slice_set t.players m.sender first.0.player) m.receiver second.0.player ≡ u.players = cc in
      let x = seat_at ring seats t.players m.sender who.sender all who.sender_is in
      let y = seat_at ring seats t.players m.receiver who.receiver all who.receiver_is in
      subst (Comes ring seats m) players
      (by_seats seats m t.players all who.sender who.receiver who.fit.sent who.fit.channel first.0 second.0 who.fit.sends who.fit.receives
      (eqb-true who.fit.sent.channel who.fit.channel who.fit.one_channel) first.1 second.1 x.seat y.seat x.is_there y.is_there x.is_seated y.is_seated)

  -- ---- all meetings

  led_on : (m : Meeting) (ms : List Meeting) (seats : List Seat) (one last : List Player) → Comes ring seats m one
      → ((ks : List Seat) → AllSeated ring ks one → Led ring ms ks last) → Led ring (m ∷ ms) seats last
  led_on m ms seats one last (comes_aside s_at r_at all) rest =
      let more = rest seats all in record { last = more.last; moves = inl ((s_at, r_at), more.moves); all = more.all }
  led_on m ms seats one last (comes_on h all) rest =
      let more = rest (both_moved (length ring) seats m h) all in record { last = more.last; moves = inr (h, more.moves); all = more.all }

  pub meetings_lead : (j : ℕ) (ms : List Meeting) (seats : List Seat) (t u : Table) → AllSeated ring seats t.players → all_meet j ms t ≡ Ok u → Led ring ms seats u.players
  meetings_lead j [] seats t u all e = let same : t ≡ u = cc in record { last = seats; moves = refl; all = subst (λ (x : Table). AllSeated ring seats x.players) same all }
  meetings_lead j (m ∷ ms) seats t u all e =
      let first = through (meets j m t) _ u e in
      led_on m ms seats first.0.players u.players
      (met_comes seats j m t first.0 (met (slice_get t.players m.sender) (slice_get t.players m.receiver)) all refl first.1)
      (λ ks seated. meetings_lead (suc j) ms ks first.0 u seated first.2)
