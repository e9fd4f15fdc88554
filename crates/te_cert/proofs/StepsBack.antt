-- What plays after a step, plays before it.
use Rattle.std.proofs.Common.{◌≡◌, ℕ, suc, Bool, true, ◌==◌, List, [], ◌∷◌, ◌++◌, Some, Ok, slice_get, slice_set, refl, sym, ap, subst, ◌∙◌, set-set}
use Rattle.te_terms.specs.declared.event.Outcome.{Outcome}
use Rattle.te_terms.specs.Terms.{Term}
use Rattle.te_terms.specs.Steps.{Member, giving, with_head, at_term}
use Rattle.te_terms.specs.Joint.{Label, choice, meeting, Message, sending, receiving, IsGroup, member_of, with_member}
use Rattle.te_terms.proofs.OneThing.{send_is_alone, receive_is_alone}
use Rattle.te_cert.specs.Play.{Player, player_with_term, meets, all_meet, endings, advanced, ◌>>=◌}
use Rattle.te_cert.specs.Certs.{place_of, meetings_of}
use Rattle.te_cert.specs.declared.cert.Meeting.{Meeting}
use Rattle.te_cert.proofs.Advancing.{advanced_is}
use Rattle.te_cert.proofs.Places.{get_set_same, get_set_other, set_own, places_apart, place_stays, member_stays, group_stays, meetings_stay}
use Rattle.te_cert.proofs.SideBySide.{AreBeside, TakesPlace, one_changes}
use Rattle.te_cert.proofs.GoingAhead.{IsAhead, as_it_stands, ahead_as_it_stands, ahead_before_quiet, ahead_before_choice, ahead_before_other}
use Rattle.te_cert.proofs.StepsTaken.{goes_with, QuietTaken, ChoiceTaken, MeetingTaken}

-- these meetings bring these players to these outcomes, whatever the number of the first and the labels so far
abbrev pub Finish : List Meeting → List Player → List Outcome → Type 0
Finish meetings players results = (j : ℕ) (word : List Label) →
    (last : List Player) × (played : List Label)
    × (all_meet j meetings (record { players = players; word = word }) ≡ Ok (record { players = last; word = played })) × (endings 0 last ≡ Ok results)

-- the members go ahead by their letters, and by the meetings end so
pub record Plays (word : List Label) (g : List Member) (results : List Outcome) : Type 0 where
  pub players : List Player
  pub ahead : AreBeside (IsAhead word) g players
  pub finish : Finish (meetings_of g word) players results

-- ---- a step of one member

-- the same players serve before the step
one_back : (word later : List Label) (g : List Member) (m n : Member) (results : List Outcome) → IsGroup g → member_of n.thread g ≡ Some m →
    ((o : Member) (p : Player) → (n.thread ≡ o.thread → ⊥) → IsAhead later o p → IsAhead word o p) → ((p : Player) → IsAhead later n p → IsAhead word m p) →
    meetings_of g later ≡ meetings_of g word → Plays later (with_member n g) results → Plays word g results
one_back word later g m n results group at others here same plays =
    let taken = one_changes (IsAhead word) (IsAhead later) g m n plays.players group at others plays.ahead in record {
      players = plays.players;
      ahead = subst (AreBeside (IsAhead word) g) (set_own plays.players (place_of n.thread g) taken.player taken.stands)
          (taken.before taken.player (here taken.player taken.fits));
      finish = subst (λ ms. Finish ms plays.players results) (meetings_stay n g later ∙ same) plays.finish;
    }

pub before_quiet : (word : List Label) (g h : List Member) (results : List Outcome) → IsGroup g → QuietTaken g h → Plays word h results → Plays word g results
before_quiet word g h results group q plays =
    one_back word word g q.before q.after results group q.at (λ o p apart ahead. ahead) (λ p. ahead_before_quiet word q.before q.after p q.step) refl
    (subst (λ x. Plays word x results) (sym q.to) plays)

pub before_choice : (word : List Label) (t : ℕ) (left : Bool) (g h : List Member) (results : List Outcome) → IsGroup g → ChoiceTaken t left g h →
    Plays word h results → Plays (choice t left ∷ word) g results
before_choice word t left g h results group c plays =
    subst (λ u. Plays (choice u left ∷ word) g results) c.thread
    (one_back (choice c.before.thread left ∷ word) word g c.before (record c.before { term = c.term }) results group c.at
    (λ o p apart ahead. ahead_before_other word c.before.thread left o p apart ahead)
    (λ p. ahead_before_choice word c.before left c.term p c.chosen) refl
    (subst (λ x. Plays word x results) (sym c.to) plays))

-- ---- a meeting

-- both ends stand as they were, and go on to where these players stand
meet_so : (j a b : ℕ) (ps qs : List Player) (word : List Label) (s r s' r' : Player) (ws wr : List Label) (m : Message) (c : ℕ) →
    slice_get qs a ≡ Some s → slice_get qs b ≡ Some r → sending s.member.term ≡ Some m → receiving r.member.term ≡ Some c → (m.channel == c) ≡ true →
    advanced a (player_with_term s (with_head (giving []) s.member.term)) ≡ Ok (record { player = s'; word = ws }) →
    advanced b (player_with_term r (with_head (giving m.value) r.member.term)) ≡ Ok (record { player = r'; word = wr }) →
    slice_set (slice_set qs a s') b r' ≡ ps →
    (played : List Label) × (meets j (record { sender = a; receiver = b }) (record { players = qs; word = word }) ≡ Ok (record { players = ps; word = played }))
meet_so j a b ps qs word s r s' r' ws wr m c s_at r_at sends receives fits s_goes r_goes same =
    (word ++ (meeting s.member.thread r.member.thread ∷ ws) ++ wr, rw (s_at, r_at, sends, receives, fits, s_goes, r_goes, same) refl)

-- an end advances as its letters lead
advances : (at : ℕ) (word : List Label) (m : Member) (u : Term) (p : Player) (goes : IsAhead word (at_term m u) p) →
    advanced at (player_with_term (as_it_stands word m) u) ≡ Ok (record { player = p; word = goes.word })
advances at word m u p goes = advanced_is at (player_with_term (as_it_stands word m) u) ∙ goes.goes at

-- what the ends become takes the place of what they were
set_back : (ps : List Player) (a b : ℕ) (s r s' r' : Player) → slice_get ps b ≡ Some r' → slice_get (slice_set ps b r) a ≡ Some s' →
    slice_set (slice_set (slice_set (slice_set ps b r) a s) a s') b r' ≡ ps
set_back ps a b s r s' r' r_at s_at =
    ap (λ x. slice_set x b r') (set-set (slice_set ps b r) a s s' ∙ set_own (slice_set ps b r) a s' s_at) ∙ set-set ps b r r' ∙ set_own ps b r' r_at

-- a first meeting, then the others
then_finish : (j : ℕ) (at : Meeting) (ms : List Meeting) (ps qs : List Player) (word : List Label) (results : List Outcome) →
    (played : List Label) × (meets j at (record { players = qs; word = word }) ≡ Ok (record { players = ps; word = played })) → Finish ms ps results →
    (last : List Player) × (played : List Label)
    × (all_meet j (at ∷ ms) (record { players = qs; word = word }) ≡ Ok (record { players = last; word = played })) × (endings 0 last ≡ Ok results)
then_finish j at ms ps qs word results first finish =
    let rest = finish (suc j) first.0 in
    (rest.0, rest.1, ap (λ x. x >>= all_meet (suc j) ms) first.1 ∙ rest.2, rest.3)

-- the sender is put back before the receiver, as it moves first
meeting_back : (word : List Label) (g : List Member) (i j : Member) (m : Message) (c : ℕ) (results : List Outcome) → IsGroup g → (i.thread ≡ j.thread → ⊥) →
    member_of i.thread g ≡ Some i → member_of j.thread g ≡ Some j → sending i.term ≡ Some m → receiving j.term ≡ Some c → (m.channel == c) ≡ true →
    Plays word (with_member (goes_with (giving m.value) j) (with_member (goes_with (giving []) i) g)) results →
    Plays (meeting i.thread j.thread ∷ word) g results
meeting_back word g i j m c results group apart i_at j_at sends receives fits plays =
    let i' = goes_with (giving []) i in
    let j' = goes_with (giving m.value) j in
    let g' = with_member i' g in
    let a = place_of i.thread g in
    let b = place_of j.thread g in
    let s = as_it_stands word i in
    let r = as_it_stands word j in
    let at_send = send_is_alone i i.term m sends in
    let at_receive = receive_is_alone j j.term c receives in
    let received : TakesPlace (IsAhead word) (IsAhead word) g' j j' plays.players b =
    subst (TakesPlace (IsAhead word) (IsAhead word) g' j j' plays.players) (place_stays j.thread i' g)
    (one_changes (IsAhead word) (IsAhead word) g' j j' plays.players (group_stays i' g group) (member_stays j.thread i' g apart ∙ j_at)
    (λ o p other was. was) plays.ahead) in
    let ps = slice_set plays.players b r in
    let sent : TakesPlace (IsAhead word) (IsAhead word) g i i' ps a =
    one_changes (IsAhead word) (IsAhead word) g i i' ps group i_at (λ o p other was. was)
    (received.before r (ahead_as_it_stands word j at_receive.0.0 at_receive.1)) in
    let r_stands : slice_get (slice_set ps a s) b ≡ Some r =
    get_set_other ps a b s (places_apart i.thread j.thread g i j i_at j_at apart) ∙ get_set_same plays.players b received.player r received.stands in
    record {
      players = slice_set ps a s;
      ahead = sent.before s (ahead_as_it_stands word i at_send.0.0 at_send.1);
      finish = λ k labels. then_finish k (record { sender = a; receiver = b }) (meetings_of g word) plays.players (slice_set ps a s) labels results
          (meet_so k a b plays.players (slice_set ps a s) labels s r sent.player received.player sent.fits.word received.fits.word m c
          (get_set_same ps a sent.player s sent.stands) r_stands sends receives fits
          (advances a word i i'.term sent.player sent.fits) (advances b word j j'.term received.player received.fits)
          (set_back plays.players a b s r sent.player received.player received.stands sent.stands))
          (subst (λ ms. Finish ms plays.players results) (meetings_stay j' g' word ∙ meetings_stay i' g word) plays.finish);
    }

pub before_meeting : (word : List Label) (s r : ℕ) (g h : List Member) (results : List Outcome) → IsGroup g → MeetingTaken s r g h → Plays word h results →
    Plays (meeting s r ∷ word) g results
before_meeting word s r g h results group t plays =
    subst (λ u. Plays (meeting u r ∷ word) g results) t.sending_thread (subst (λ u. Plays (meeting t.sender.thread u ∷ word) g results) t.receiving_thread
    (meeting_back word g t.sender t.receiver t.message t.channel results group t.apart t.sender_at t.receiver_at t.sends t.receives t.fits
    (subst (λ x. Plays word x results) (sym t.to) plays)))
