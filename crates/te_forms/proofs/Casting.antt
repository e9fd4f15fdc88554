-- Who plays which part in a commit whose ring is private: each member's event is a form's, or names no channel of the ring.
use Rattle.std.proofs.Common.{◌≡◌, inl, inr, ℕ, zero, suc, List, [], ◌∷◌, take, Option, Some, None, refl, sym, ap, subst, ◌∙◌, is_some}
use Rattle.std.specs.Prelude.{slice_get}
use Rattle.std.specs.Option.{option_map, option_and_then}
use Rattle.std.proofs.lemmas.Option.{slice_get-map}
use Rattle.te_terms.specs.Terms.{Term}
use Rattle.te_terms.specs.Steps as steps
use Rattle.te_cert.specs.declared.cert.Member.{Member}
use Rattle.te_history.specs.declared.entry.Entry.{Entry}
use Rattle.te_history.specs.State.{parked, State, state}
use Rattle.te_history.specs.Follows.{Stands, AreEvents}
use Rattle.te_forms.specs.declared.form.Form.{Form}
use Rattle.te_forms.specs.Rings.{IsRing}
use Rattle.te_forms.specs.Forms.{IsForm}
use Rattle.te_forms.specs.Privacy.{FitsRing, IsPrivate}
use Rattle.te_forms.specs.Handing.{FormMember}
use Rattle.te_forms.specs.Reading.{form_in, form_at, marks_of}
use Rattle.te_board.proofs.ParkedLists.{one_event}
use Rattle.te_forms.proofs.Posts.{parked_posted, posted_there}
use Rattle.te_terms.proofs.Lists.{in_beginning}
use Rattle.te_forms.proofs.Recognized.{is_read, one_form, read_is, form_names}
use Rattle.te_forms.proofs.Stages.{begun}
use Rattle.te_forms.proofs.Seats.{Seat, acting, AllFit, first_seat, first_seats}
use Rattle.te_forms.proofs.Turns.{kind, kinds, kind_at}

-- ---- where the ring is private, the events of a group fit

module _ (ring : List ℕ) (callers : ℕ) (history : List Entry) (n : ℕ) (private_so : IsPrivate ring history) where
  event_fits : (t k : ℕ) (e : Term) → Stands (state callers (take n history)) t (parked k e) → FitsRing ring e
  event_fits t k e stands =
      let posted = posted_there t (take n history) e (parked_posted callers (take n history) t k e stands) in
      private_so posted.place t posted.ticket e (in_beginning n history posted.place _ posted.is_there)

  pub all_fit : (ms : List Member) (gs : List steps.Member) → AreEvents (state callers (take n history)) ms gs → AllFit ring gs
  all_fit [] [] events = tt
  all_fit (m ∷ ms) (g ∷ gs) events = (event_fits m.thread m.ticket g.term events.1, all_fit ms gs events.2)
  all_fit [] (g ∷ gs) events = absurd events
  all_fit (m ∷ ms) [] events = absurd events

-- ---- one place

-- a member, its event, and its first seat
pub record PlaceAt (ring : List ℕ) (s : State) (members : List Member) (seats : List Seat) (i : ℕ) : Type 0 where
  pub member : Member
  pub event : Term
  pub fit : FitsRing ring event
  pub member_at : slice_get members i ≡ Some member
  pub stands : Stands s member.thread (parked member.ticket event)
  pub seat_at : slice_get seats i ≡ Some (first_seat ring event fit)

one_further : (ring : List ℕ) (s : State) (m : Member) (ms : List Member) (k : Seat) (ks : List Seat) (i : ℕ) → PlaceAt ring s ms ks i → PlaceAt ring s (m ∷ ms) (k ∷ ks) (suc i)
one_further ring s m ms k ks i p = record { member = p.member; event = p.event; fit = p.fit; member_at = p.member_at; stands = p.stands; seat_at = p.seat_at }

pub by_member : (ring : List ℕ) (s : State) (ms : List Member) (gs : List steps.Member) (fit : AllFit ring gs) (i : ℕ) (m : Member) → AreEvents s ms gs
    → slice_get ms i ≡ Some m → PlaceAt ring s ms (first_seats ring gs fit) i
by_member ring s [] [] fit i m events at = absurd cc
by_member ring s (x ∷ xs) (g ∷ gs) fit zero m events at = record { member = x; event = g.term; fit = fit.0; member_at = refl; stands = events.1; seat_at = refl }
by_member ring s (x ∷ xs) (g ∷ gs) fit (suc i) m events at =
    one_further ring s x xs (first_seat ring g.term fit.0) (first_seats ring gs fit.1) i (by_member ring s xs gs fit.1 i m events.2 at)
by_member ring s [] (g ∷ gs) fit i m events at = absurd events
by_member ring s (x ∷ xs) [] fit i m events at = absurd events

pub by_seat : (ring : List ℕ) (s : State) (ms : List Member) (gs : List steps.Member) (fit : AllFit ring gs) (i : ℕ) (k : Seat) → AreEvents s ms gs
    → slice_get (first_seats ring gs fit) i ≡ Some k → PlaceAt ring s ms (first_seats ring gs fit) i
by_seat ring s [] [] fit i k events at = absurd cc
by_seat ring s (x ∷ xs) (g ∷ gs) fit zero k events at = record { member = x; event = g.term; fit = fit.0; member_at = refl; stands = events.1; seat_at = refl }
by_seat ring s (x ∷ xs) (g ∷ gs) fit (suc i) k events at =
    one_further ring s x xs (first_seat ring g.term fit.0) (first_seats ring gs fit.1) i (by_seat ring s xs gs fit.1 i k events.2 at)
by_seat ring s [] (g ∷ gs) fit i k events at = absurd events
by_seat ring s (x ∷ xs) [] fit i k events at = absurd events

-- a seat of a kind
pub some_seat : (seats : List Seat) (i : ℕ) (o : Option Form) → slice_get (kinds seats) i ≡ Some o → (k : Seat) × (slice_get seats i ≡ Some k)
some_seat [] i o at = absurd cc
some_seat (k ∷ ks) zero o at = (k, refl)
some_seat (k ∷ ks) (suc i) o at = some_seat ks i o at

-- ---- forms by places

module _ (ring : List ℕ) (is_ring : IsRing ring) (s : State) (members : List Member) (seats : List Seat) where
  pub kind_of : (i : ℕ) (p : PlaceAt ring s members seats i) → slice_get (kinds seats) i ≡ Some (kind (first_seat ring p.event p.fit))
  kind_of i p = kind_at seats i (first_seat ring p.event p.fit) p.seat_at

  form_kind : (e : Term) (fit : FitsRing ring e) (f : Form) → IsForm ring f e → kind (first_seat ring e fit) ≡ Some f
  form_kind e (inl own) f is = ap Some (one_form ring is_ring own.form f e own.is_form is)
  form_kind e (inr avoids) f is = absurd (form_names ring is_ring f e is avoids)

  pub kind_form : (e : Term) (fit : FitsRing ring e) (f : Form) → kind (first_seat ring e fit) ≡ Some f → IsForm ring f e
  kind_form e (inl own) f is = let same : own.form ≡ f = cc in subst (λ (x : Form). IsForm ring x e) same own.is_form
  kind_form e (inr avoids) f is = absurd cc

  same_event : (p : FormMember ring s members) (q : PlaceAt ring s members seats p.place) → p.event ≡ q.event
  same_event p q =
      let both : Some p.member ≡ Some q.member = sym p.is_there ∙ q.member_at in
      let same : p.member ≡ q.member = cc in
      one_event s q.member.thread q.member.ticket p.event q.event (subst (λ (m : Member). Stands s m.thread (parked m.ticket p.event)) same p.stands) q.stands

  -- a form member's place has its form
  pub member_kind : (p : FormMember ring s members) → PlaceAt ring s members seats p.place → slice_get (kinds seats) p.place ≡ Some (Some p.form)
  member_kind p q =
      kind_of p.place q ∙ ap Some (form_kind q.event q.fit p.form (subst (IsForm ring p.form) (same_event p q) p.is_form))

  -- its first seat
  pub member_seat : (p : FormMember ring s members) → PlaceAt ring s members seats p.place → slice_get seats p.place ≡ Some (acting p.form begun)
  member_seat p q = q.seat_at ∙ ap Some (as_seat q.event q.fit p.form (subst (IsForm ring p.form) (same_event p q) p.is_form))
    where
      as_seat : (e : Term) (fit : FitsRing ring e) (f : Form) → IsForm ring f e → first_seat ring e fit ≡ acting f begun
      as_seat e (inl own) f is = ap (λ (x : Form). acting x begun) (one_form ring is_ring own.form f e own.is_form is)
      as_seat e (inr avoids) f is = absurd (form_names ring is_ring f e is avoids)

  -- and a place of a form is a form member's
  abbrev pub kind_member : (i : ℕ) (f : Form) → PlaceAt ring s members seats i → slice_get (kinds seats) i ≡ Some (Some f) → FormMember ring s members
  kind_member i f q at =
      let both : Some (kind (first_seat ring q.event q.fit)) ≡ Some (Some f) = sym (kind_of i q) ∙ at in
      let same : kind (first_seat ring q.event q.fit) ≡ Some f = cc in
      record { place = i; member = q.member; event = q.event; form = f; is_there = q.member_at; stands = q.stands; is_form = kind_form q.event q.fit f same }

  -- ---- marks

  read_kind : (e : Term) (fit : FitsRing ring e) → form_in ring e ≡ kind (first_seat ring e fit)
  read_kind e (inl own) = is_read ring is_ring own.form e own.is_form
  read_kind e (inr avoids) = by_reading (form_in ring e) refl
    where
      by_reading : (o : Option Form) → form_in ring e ≡ o → o ≡ None
      by_reading (Some f) so = absurd (form_names ring is_ring f e (read_is ring is_ring e f so) avoids)
      by_reading None so = refl

-- the mark of a member tells whether its place has a form
pub mark_at : (ring : List ℕ) → IsRing ring → (callers : ℕ) (h : List Entry) (members : List Member) (seats : List Seat) (i : ℕ)
    → PlaceAt ring (state callers h) members seats i → (o : Option Form) → slice_get (kinds seats) i ≡ Some o → slice_get (marks_of ring h members) i ≡ Some (is_some o)
mark_at ring is_ring callers h members seats i q o at =
    let both : Some (kind (first_seat ring q.event q.fit)) ≡ Some o = sym (kind_at seats i (first_seat ring q.event q.fit) q.seat_at) ∙ at in
    let same : kind (first_seat ring q.event q.fit) ≡ o = cc in
    let read : form_at ring h q.member.thread ≡ o =
    ap (option_and_then (form_in ring)) (parked_posted callers h q.member.thread q.member.ticket q.event q.stands)
    ∙ read_kind ring is_ring (state callers h) members seats q.event q.fit ∙ same in
    slice_get-map (λ (m : Member). is_some (form_at ring h m.thread)) members i ∙ ap (option_map (λ (m : Member). is_some (form_at ring h m.thread))) q.member_at
    ∙ ap (λ (x : Option Form). Some (is_some x)) read
