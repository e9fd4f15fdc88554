-- What each player of a play stands for: a form member at its stage, or a stranger, who names no channel of the ring.
use Rattle.std.proofs.Common.{◌≡◌, inl, inr, ℕ, zero, suc, ◌<◌, Bool, List, [], ◌∷◌, ◌++◌, length, Some, Ok, refl, sym, ap, subst, ◌∙◌}
use Rattle.std.specs.Prelude.{slice_get, slice_set}
use Rattle.te_terms.specs.declared.event.Outcome.{Outcome}
use Rattle.te_terms.specs.Terms.{Term}
use Rattle.te_terms.specs.Steps.{Member, outcome_of}
use Rattle.te_cert.specs.Play.{Player, Table, Advance, player_with_term, advanced, all_advanced, ending, endings, seated}
use Rattle.te_cert.proofs.AllAdvance.{through}
use Rattle.te_forms.specs.declared.form.Form.{Form}
use Rattle.te_forms.specs.Rings.{IsRing}
use Rattle.te_forms.specs.Forms.{form_term, role_of}
use Rattle.te_forms.specs.Privacy.{TermAvoids, FitsRing}
use Rattle.te_forms.proofs.AdvancesAvoid.{advance_avoids}
use Rattle.te_cert.proofs.PlaysReduce.{ends_at as ends_so}
use Rattle.te_forms.proofs.Stages.{Stage, begun, stage_term, begins, Ended, ends_at}

pub data Seat : Type 0 where
  stranger : Seat
  acting : Form → Stage → Seat

abbrev pub IsSeated : List ℕ → Seat → Player → Type 0
IsSeated ring stranger p = TermAvoids ring p.member.term
IsSeated ring (acting f s) p = (role_of f < length ring) × (p.member.term ≡ stage_term ring f s)

abbrev pub AllSeated : List ℕ → List Seat → List Player → Type 0
AllSeated ring [] [] = Unit {0}
AllSeated ring (k ∷ ks) (p ∷ ps) = IsSeated ring k p × AllSeated ring ks ps
AllSeated ring [] (p ∷ ps) = ⊥
AllSeated ring (k ∷ ks) [] = ⊥

-- ---- one seat among them

pub record SeatAt (ring : List ℕ) (seats : List Seat) (i : ℕ) (p : Player) : Type 0 where
  pub seat : Seat
  pub is_there : slice_get seats i ≡ Some seat
  pub is_seated : IsSeated ring seat p

pub seat_at : (ring : List ℕ) (seats : List Seat) (ps : List Player) (i : ℕ) (p : Player) → AllSeated ring seats ps → slice_get ps i ≡ Some p → SeatAt ring seats i p
seat_at ring [] [] i p all at = absurd cc
seat_at ring (k ∷ ks) (q ∷ qs) zero p all at =
    let same : q ≡ p = cc in record { seat = k; is_there = refl; is_seated = subst (IsSeated ring k) same all.0 }
seat_at ring (k ∷ ks) (q ∷ qs) (suc i) p all at =
    let rest = seat_at ring ks qs i p all.1 at in record { seat = rest.seat; is_there = rest.is_there; is_seated = rest.is_seated }
seat_at ring [] (q ∷ qs) i p all at = absurd all
seat_at ring (k ∷ ks) [] i p all at = absurd all

pub seats_set : (ring : List ℕ) (seats : List Seat) (ps : List Player) (i : ℕ) (k : Seat) (p : Player) → AllSeated ring seats ps → IsSeated ring k p
    → AllSeated ring (slice_set seats i k) (slice_set ps i p)
seats_set ring [] [] i k p all one = tt
seats_set ring (l ∷ ls) (q ∷ qs) zero k p all one = (one, all.1)
seats_set ring (l ∷ ls) (q ∷ qs) (suc i) k p all one = (all.0, seats_set ring ls qs i k p all.1 one)
seats_set ring [] (q ∷ qs) i k p all one = absurd all
seats_set ring (l ∷ ls) [] i k p all one = absurd all

-- ---- at the start

abbrev pub AllFit : List ℕ → List Member → Type 0
AllFit ring [] = Unit {0}
AllFit ring (g ∷ gs) = FitsRing ring g.term × AllFit ring gs

abbrev pub first_seat : (ring : List ℕ) (t : Term) → FitsRing ring t → Seat
first_seat ring t (inl own) = acting own.form begun
first_seat ring t (inr avoids) = stranger

abbrev pub first_seats : (ring : List ℕ) (gs : List Member) → AllFit ring gs → List Seat
first_seats ring [] fit = []
first_seats ring (g ∷ gs) fit = first_seat ring g.term fit.0 ∷ first_seats ring gs fit.1

module _ (ring : List ℕ) (is_ring : IsRing ring) where
  own_seated : (i : ℕ) (p : Player) (a : Advance) (f : Form) → role_of f < length ring → p.member.term ≡ form_term ring f → advanced i p ≡ Ok a
      → IsSeated ring (acting f begun) a.player
  own_seated i p a f within is goes =
      let there : advanced i p ≡ Ok (record { player = player_with_term p (form_term ring f); word = [] }) =
      subst (λ (t : Term). advanced i (player_with_term p t) ≡ Ok (record { player = player_with_term p (form_term ring f); word = [] })) (sym is) (begins ring i p f) in
      let both : Ok a ≡ Ok (record { player = player_with_term p (form_term ring f); word = [] }) = sym goes ∙ there in
      let same : a ≡ record { player = player_with_term p (form_term ring f); word = [] } = cc in
      (within, ap (λ (x : Advance). x.player.member.term) same)

  one_seated : (i : ℕ) (p : Player) (a : Advance) (fit : FitsRing ring p.member.term) → advanced i p ≡ Ok a → IsSeated ring (first_seat ring p.member.term fit) a.player
  one_seated i p a (inl own) goes = own_seated i p a own.form own.is_form.within own.is_form.term_is goes
  one_seated i p a (inr avoids) goes = advance_avoids ring is_ring i p a avoids goes

  with_letters : (i : ℕ) (g : Member) (gs : List Member) (l : List Bool) (ls : List (List Bool)) (t : Table) (fit : AllFit ring (g ∷ gs))
      → ((u : Table) → all_advanced (suc i) (seated gs ls) ≡ Ok u → AllSeated ring (first_seats ring gs fit.1) u.players)
      → all_advanced i (record { member = g; letters = l } ∷ seated gs ls) ≡ Ok t → AllSeated ring (first_seats ring (g ∷ gs) fit) t.players
  with_letters i g gs l ls t fit rest e =
      let first = through (advanced i (record { member = g; letters = l })) _ t e in
      let others = through (all_advanced (suc i) (seated gs ls)) _ t first.2 in
      let both : record { players = first.0.player ∷ others.0.players; word = first.0.word ++ others.0.word } ≡ t = let so = others.2 in cc in
      subst (λ (x : Table). AllSeated ring (first_seats ring (g ∷ gs) fit) x.players) both
      (one_seated i (record { member = g; letters = l }) first.0 fit.0 first.1, rest others.0 others.1)

  -- the members of a group that fit are seated once they have advanced
  pub all_seated : (i : ℕ) (gs : List Member) (letters : List (List Bool)) (t : Table) (fit : AllFit ring gs) → all_advanced i (seated gs letters) ≡ Ok t
      → AllSeated ring (first_seats ring gs fit) t.players
  all_seated i [] letters t fit e = let none : record { players = []; word = [] } ≡ t = cc in subst (λ (x : Table). AllSeated ring [] x.players) none tt
  all_seated i (g ∷ gs) [] t fit e = with_letters i g gs [] [] t fit (λ u so. all_seated (suc i) gs [] u fit.1 so) e
  all_seated i (g ∷ gs) (l ∷ ls) t fit e = with_letters i g gs l ls t fit (λ u so. all_seated (suc i) gs ls u fit.1 so) e

-- ---- at the end

-- a form member is done, and comes to what it has received
abbrev pub IsDone : Seat → Outcome → Type 0
IsDone stranger o = Unit {0}
IsDone (acting f s) o = Ended f s o

abbrev pub AllDone : List Seat → List Outcome → Type 0
AllDone [] [] = Unit {0}
AllDone (k ∷ ks) (o ∷ os) = IsDone k o × AllDone ks os
AllDone [] (o ∷ os) = ⊥
AllDone (k ∷ ks) [] = ⊥

one_done : (ring : List ℕ) (k : Seat) (p : Player) (o : Outcome) → IsSeated ring k p → outcome_of p.member.term ≡ Some o → IsDone k o
one_done ring stranger p o seat ends = tt
one_done ring (acting f s) p o seat ends = ends_at ring f s o (ap outcome_of (sym seat.1) ∙ ends)

pub all_done : (ring : List ℕ) (i : ℕ) (seats : List Seat) (ps : List Player) (os : List Outcome) → AllSeated ring seats ps → endings i ps ≡ Ok os → AllDone seats os
all_done ring i [] [] os all e = let none : [] ≡ os = cc in subst (AllDone []) none tt
all_done ring i (k ∷ ks) (p ∷ ps) os all e =
    let first = through (ending i (outcome_of p.member.term) p.letters) _ os e in
    let others = through (endings (suc i) ps) _ os first.2 in
    let both : first.0 ∷ others.0 ≡ os = let so = others.2 in cc in
    subst (AllDone (k ∷ ks)) both
    (one_done ring k p first.0 all.0 (ends_so i (outcome_of p.member.term) p.letters first.0 first.1), all_done ring (suc i) ks ps others.0 all.1 others.1)
all_done ring i [] (p ∷ ps) os all e = absurd all
all_done ring i (k ∷ ks) [] os all e = absurd all
