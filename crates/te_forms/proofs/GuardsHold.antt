-- A member with a guarded receive comes, in each commit, to a value for which the test holds, or to the raise of its trap.
use Rattle.std.proofs.Common.{◌≡◌, ◌≢◌, ◌⊎◌, inl, inr, ℕ, suc, Bool, true, false, List, [], ◌∷◌, ℤ, Option, Some, None, Result, Ok, Err, refl, sym, ap, subst, ◌∙◌, take, IfOk}
use Rattle.std.specs.Prelude.{slice_get, slice_set, map}
use Rattle.std.specs.Option.{ok_or}
use Rattle.te_terms.specs.declared.value.Atom.{Atom}
use Rattle.te_terms.specs.declared.value.Atom.TheVariants.{Int, Chan}
use Rattle.te_terms.specs.declared.value.Trap.{Trap}
use Rattle.te_terms.specs.declared.value.Trap.TheVariants.{Range, Kind}
use Rattle.te_terms.specs.declared.expr.Test.{Test}
use Rattle.te_terms.specs.declared.expr.Test.TheVariants.{Equal, Less}
use Rattle.te_terms.specs.declared.event.Outcome.{Outcome}
use Rattle.te_terms.specs.declared.event.Outcome.TheVariants.{Gives, Raises}
use Rattle.te_terms.specs.Values.{trap_value}
use Rattle.te_terms.specs.Expressions.{known, int, part, ◌>>=◌, compared, test_value}
use Rattle.te_terms.specs.Terms.{Term, never}
use Rattle.te_terms.specs.Steps.{giving, decided, outcome_of, with_head}
use Rattle.te_terms.specs.Steps as steps
use Rattle.te_terms.specs.Joint.{Message, sending, receiving}
use Rattle.te_cert.specs.declared.cert.Member.{Member}
use Rattle.te_cert.specs.declared.cert.Meeting.{Meeting}
use Rattle.te_cert.specs.Play.{Player, Table, Advance, Ends, player_with_term, advanced, advance_within, met, ends_advance, meets, all_meet}
use Rattle.te_cert.proofs.AllAdvance.{through}
use Rattle.te_cert.proofs.AllMeet.{who_met, ends_of}
use Rattle.te_cert.proofs.Places.{get_set_same, get_set_other}
use Rattle.te_history.specs.State.{state}
use Rattle.te_history.proofs.Commits.{same_or_other}
use Rattle.te_forms.specs.Forms.{guarded_term}
use Rattle.te_forms.specs.Guards.{IsGuarded, GuardHolds}
use Rattle.te_forms.proofs.Places.{group_at, player_at, outcome_at, parts_of}
use Rattle.te_board.proofs.ParkedLists.{one_event}
use Rattle.te_forms.proofs.Posts.{commits_so}

-- the player at a place stands at such a term
record At (P : Term → Type 0) (ps : List Player) (i : ℕ) : Type 0 where
  pub player : Player
  pub is_there : slice_get ps i ≡ Some player
  pub stands : P player.member.term

module _ (channel place : ℕ) (test : Test) (bound : ℤ) where
  -- what the test of a value comes to
  abbrev tested : List Atom → Result Bool Trap
  tested v = test_value test (int bound) (part (known v) place)

  -- what is left once it has received the value
  abbrev after : List Atom → Term
  after v = decided (tested v) (giving v) never

  -- it waits, or has received a value
  abbrev Stand : Term → Type 0
  Stand t = (t ≡ guarded_term channel place test bound) ⊎ ((v : List Atom) × (t ≡ after v))

  -- ---- its steps

  waits : (i : ℕ) (p : Player) → advanced i (player_with_term p (guarded_term channel place test bound)) ≡ Ok
      (record { player = player_with_term p (guarded_term channel place test bound); word = [] })
  waits i p = refl

  decides : (i : ℕ) (p : Player) (v : List Atom) (r : Result Bool Trap)
      → advance_within 8 i (player_with_term p (decided r (giving v) never)) ≡ Ok (record { player = player_with_term p (decided r (giving v) never); word = [] })
  decides i p v (Ok true) = refl
  decides i p v (Ok false) = refl
  decides i p v (Err Range) = refl
  decides i p v (Err Kind) = refl

  receives : (i : ℕ) (p : Player) (v : List Atom) → advanced i
      (player_with_term p (with_head (giving v) (guarded_term channel place test bound))) ≡ Ok
      (record { player = player_with_term p (after v); word = [] })
  receives i p v = decides i p v (tested v)

  sends_nothing : (v : List Atom) (r : Result Bool Trap) → sending (decided r (giving v) never) ≡ None
  sends_nothing v (Ok true) = refl
  sends_nothing v (Ok false) = refl
  sends_nothing v (Err t) = refl

  receives_nothing : (v : List Atom) (r : Result Bool Trap) → receiving (decided r (giving v) never) ≡ None
  receives_nothing v (Ok true) = refl
  receives_nothing v (Ok false) = refl
  receives_nothing v (Err t) = refl

  never_sends : (t : Term) (m : Message) → Stand t → sending t ≡ Some m → ⊥
  never_sends t m (inl is) sends = let none : None ≡ Some m = ap sending (sym is) ∙ sends in cc
  never_sends t m (inr has) sends = let none : None ≡ Some m = sym (sends_nothing has.0 (tested has.0)) ∙ ap sending (sym has.1) ∙ sends in cc

  never_receives : (v : List Atom) (t : Term) (c : ℕ) → t ≡ after v → receiving t ≡ Some c → ⊥
  never_receives v t c is waiting = let none : None ≡ Some c = sym (receives_nothing v (tested v)) ∙ ap receiving (sym is) ∙ waiting in cc

  -- ---- a meeting

  received : (i : ℕ) (p : Player) (a : Advance) (v : List Atom) → p.member.term ≡ guarded_term channel place test bound
      → advanced i (player_with_term p (with_head (giving v) p.member.term)) ≡ Ok a → a.player.member.term ≡ after v
  received i p a v is goes =
      let there : advanced i (player_with_term p (with_head (giving v) p.member.term)) ≡ Ok (record { player = player_with_term p (after v); word = [] }) =
      subst (λ (t : Term). advanced i (player_with_term p (with_head (giving v) t)) ≡ Ok (record { player = player_with_term p (after v); word = [] })) (sym is) (receives i p v) in
      let both : Ok a ≡ Ok (record { player = player_with_term p (after v); word = [] }) = sym goes ∙ there in
      let same : a ≡ record { player = player_with_term p (after v); word = [] } = cc in
      ap (λ (x : Advance). x.player.member.term) same

  moved : (i : ℕ) (p : Player) (a : Advance) (v : List Atom) (c : ℕ) → Stand p.member.term → receiving p.member.term ≡ Some c
      → advanced i (player_with_term p (with_head (giving v) p.member.term)) ≡ Ok a → Stand a.player.member.term
  moved i p a v c (inl is) waiting goes = inr (v, received i p a v is goes)
  moved i p a v c (inr has) waiting goes = absurd (never_receives has.0 p.member.term c has.1 waiting)

  abbrev StandsAt : List Player → ℕ → Type 0
  StandsAt ps i = At Stand ps i

  -- both ends have moved
  module _ (i : ℕ) (m : Meeting) (ps : List Player) (s r : Player) (sent : Message) (c : ℕ) (a b : Advance) (at : StandsAt ps i)
      (s_is : slice_get ps m.sender ≡ Some s) (r_is : slice_get ps m.receiver ≡ Some r) (sends : sending s.member.term ≡ Some sent) (waiting : receiving r.member.term ≡ Some c)
      (r_goes : advanced m.receiver (player_with_term r (with_head (giving sent.value) r.member.term)) ≡ Ok b) where
    abbrev once : List Player
    once = slice_set ps m.sender a.player

    one_player : (p q : Player) (k : ℕ) → k ≡ i → slice_get ps k ≡ Some p → slice_get ps i ≡ Some q → q ≡ p
    one_player p q k same p_at q_at =
        let both : Some q ≡ Some p = sym q_at ∙ subst (λ (j : ℕ). slice_get ps j ≡ Some p) same p_at in cc

    not_sender : m.sender ≢ i
    not_sender same =
        never_sends s.member.term sent (subst (λ (x : Player). Stand x.member.term) (one_player s at.player m.sender same s_is at.is_there) at.stands) sends

    by_receiver : (m.receiver ≡ i) ⊎ (m.receiver ≢ i) → StandsAt (slice_set once m.receiver b.player) i
    by_receiver (inl same) =
        let stands = subst (λ (x : Player). Stand x.member.term) (one_player r at.player m.receiver same r_is at.is_there) at.stands in
        let was : slice_get once i ≡ Some at.player = get_set_other ps m.sender i a.player not_sender ∙ at.is_there in
        let put : slice_get (slice_set once i b.player) i ≡ Some b.player = get_set_same once i at.player b.player was in
        record {
          player = b.player;
          is_there = subst (λ (k : ℕ). slice_get (slice_set once k b.player) i ≡ Some b.player) (sym same) put;
          stands = moved m.receiver r b sent.value c stands waiting r_goes;
        }
    by_receiver (inr other) = record {
      player = at.player;
      is_there = get_set_other once m.receiver i b.player other ∙ get_set_other ps m.sender i a.player not_sender ∙ at.is_there;
      stands = at.stands;
    }

  met_so : (i j : ℕ) (m : Meeting) (t u : Table) (o : Option Ends) → StandsAt t.players i → met (slice_get t.players m.sender) (slice_get t.players m.receiver) ≡ o
      → ends_advance j m t o ≡ Ok u → StandsAt u.players i
  met_so i j m t u None at so e = absurd cc
  met_so i j m t u (Some ends) at so e =
      let who = who_met (slice_get t.players m.sender) (slice_get t.players m.receiver) ends so in
      let goes : ends_advance j m t (Some (ends_of who.sender who.receiver who.fit.sent)) ≡ Ok u = subst (λ (x : Ends). ends_advance j m t (Some x) ≡ Ok u) (sym who.ends_are) e in
      let first = through (advanced m.sender (player_with_term who.sender (with_head (giving []) who.sender.member.term))) _ u goes in
      let second = through (advanced m.receiver (player_with_term who.receiver (with_head (giving who.fit.sent.value) who.receiver.member.term))) _ u first.2 in
      let made = second.2 in
      let players : slice_set (slice_set t.players m.sender first.0.player) m.receiver second.0.player ≡ u.players = cc in
      subst (λ (ps : List Player). StandsAt ps i) players
      (by_receiver i m t.players who.sender who.receiver who.fit.sent who.fit.channel first.0 second.0 at who.sender_is who.receiver_is who.fit.sends who.fit.receives
      second.1 (same_or_other m.receiver i))

  all_met : (i j : ℕ) (ms : List Meeting) (t u : Table) → StandsAt t.players i → all_meet j ms t ≡ Ok u → StandsAt u.players i
  all_met i j [] t u at e = let same : t ≡ u = cc in subst (λ (x : Table). StandsAt x.players i) same at
  all_met i j (m ∷ ms) t u at e =
      let first = through (meets j m t) _ u e in
      all_met i (suc j) ms first.0 u (met_so i j m t first.0 (met (slice_get t.players m.sender) (slice_get t.players m.receiver)) at refl first.1) first.2

  -- ---- the start and the end

  starts : (k i : ℕ) (g : steps.Member) (letters : List Bool) (a : Advance) (ps : List Player) → g.term ≡ guarded_term channel place test bound
      → advanced k (record { member = g; letters = letters }) ≡ Ok a → slice_get ps i ≡ Some a.player → StandsAt ps i
  starts k i g letters a ps is goes at =
      let p : Player = record { member = g; letters = letters } in
      let there : advanced k p ≡ Ok (record { player = player_with_term p (guarded_term channel place test bound); word = [] }) =
      subst (λ (t : Term). advanced k (player_with_term p t) ≡ Ok (record { player = player_with_term p (guarded_term channel place test bound); word = [] })) (sym is) (waits k p) in
      let both : Ok a ≡ Ok (record { player = player_with_term p (guarded_term channel place test bound); word = [] }) = sym goes ∙ there in
      let same : a ≡ record { player = player_with_term p (guarded_term channel place test bound); word = [] } = cc in
      record { player = a.player; is_there = at; stands = inl (ap (λ (x : Advance). x.player.member.term) same) }

  -- only an atom of another kind, or none, traps
  compared_traps : (x : ℤ) (a : Atom) (t : Trap) → compared test (Int x) a ≡ Err t → t ≡ Kind
  compared_traps = by_test test
    where
      by_test : (which : Test) (x : ℤ) (a : Atom) (t : Trap) → compared which (Int x) a ≡ Err t → t ≡ Kind
      by_test Equal x a t e = absurd cc
      by_test Less x (Int y) t e = absurd cc
      by_test Less x (Chan c) t e = cc

  traps : (o : Option Atom) (t : Trap) → (ok_or o Kind >>= compared test (Int bound)) ≡ Err t → t ≡ Kind
  traps (Some a) t e = compared_traps bound a t e
  traps None t e = cc

  decided_so : (v : List Atom) (r : Result Bool Trap) (o : Outcome) → tested v ≡ r → outcome_of (decided r (giving v) never) ≡ Some o → IsGuarded place test bound o
  decided_so v (Ok true) o is ends = let same : Gives v ≡ o = cc in subst (IsGuarded place test bound) same is
  decided_so v (Ok false) o is ends = absurd cc
  decided_so v (Err t) o is ends =
      let same : Raises (trap_value t) ≡ o = cc in
      let kind : t ≡ Kind = traps (slice_get v place) t is in
      subst (IsGuarded place test bound) same (ap trap_value kind, (v, is ∙ ap (λ (x : Trap). Err x) kind))

  ends_so : (t : Term) (o : Outcome) → Stand t → outcome_of t ≡ Some o → IsGuarded place test bound o
  ends_so t o (inl is) ends = let none : None ≡ Some o = ap outcome_of (sym is) ∙ ends in absurd cc
  ends_so t o (inr has) ends = decided_so has.0 (tested has.0) o refl (ap outcome_of (sym has.1) ∙ ends)

  -- ---- each commit

  pub held : GuardHolds place test bound (guarded_term channel place test bound)
  held callers history n by cert outcomes loose at i m m_at stands =
      let commits = commits_so callers history n by cert outcomes loose at in
      let here = group_at (state callers (take n history)) cert.members commits.group i m commits.events m_at in
      let is : here.one.term ≡ guarded_term channel place test bound =
      one_event (state callers (take n history)) m.thread m.ticket here.one.term (guarded_term channel place test bound) here.stands stands in
      let parts = parts_of commits.group (map (λ (x : Member). x.choices) cert.members) cert.meets (record { outcomes = outcomes; word = commits.word }) commits.plays in
      let player = player_at 0 commits.group (map (λ (x : Member). x.choices) cert.members) parts.start i here.one parts.starts here.is_there in
      let first = starts player.place i here.one player.letters player.advance parts.start.players is player.goes player.is_there in
      let last = all_met i 0 cert.meets parts.start parts.last first parts.meet in
      let end = outcome_at 0 parts.last.players outcomes i last.player parts.end last.is_there in
      (end.outcome, end.is_there, ends_so last.player.member.term end.outcome last.stands end.ends)

-- so is the event that is made of this term
pub all_held : {E : Type 0} (channel place : ℕ) (test : Test) (bound : ℤ) (r : Result Term E) → IfOk r (λ event. event ≡ guarded_term channel place test bound)
    → IfOk r (λ event. GuardHolds place test bound event)
all_held channel place test bound (Ok event) is = subst (GuardHolds place test bound) (sym is) (held channel place test bound)
all_held channel place test bound (Err e) is = tt
