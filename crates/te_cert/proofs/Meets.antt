-- A meeting of two players: that its ends don't fit, that one lacks a letter then, and what both come to.
use Rattle.std.proofs.Common.{◌≡◌, ◌≢◌, ◌⊎◌, inl, inr, subst, ℕ, Bool, true, false, cond, ◌==◌, List, [], ◌∷◌, ◌++◌, Option, Some, None, Result, Ok, Err, refl, sym, ap, ◌∙◌}
use Rattle.std.specs.Prelude.{slice_get, slice_set, IsSome, OnOk, IfErr}
use Rattle.std.specs.Option.{option_map}
use Rattle.te_terms.specs.declared.value.Atom.{Atom}
use Rattle.te_terms.specs.Steps.{Member}
use Rattle.te_terms.specs.Joint.{Label, meeting, Message, sent_from, received_on, sending, receiving}
use Rattle.te_terms.proofs.OneThing.{end_is_alone, send_is_alone, receive_is_alone, never_is_alone}
use Rattle.te_path.specs.declared.spot.Stop.{Stop}
use Rattle.te_path.specs.declared.spot.Stop.TheVariants as stops
use Rattle.te_path.specs.Paths.{IsChoice, StandsAt}
use Rattle.te_cert.specs.declared.cert.Meeting.{Meeting}
use Rattle.te_cert.specs.Play.{Player, Table, Ends, met, met_by, meets, ends_advance, advanced, no_letter, no_meeting}
use Rattle.te_cert.specs.declared.cert.CertFault.{CertFault}
use Rattle.te_cert.specs.declared.cert.CertFault.TheVariants as faults
use Rattle.te_cert.specs.Players.{player_handed, passing, PlayerGoesOn, Lacks, TellsFault, BecomesTable}
use Rattle.te_cert.proofs.SeatsByPlace.{Standing}
use Rattle.te_cert.proofs.Places.{get_set_other}

-- ---- what a stop tells of the term

abbrev sent_at : Stop → Option Message
sent_at (stops.Send c v) = Some (record { channel = c; value = v })
sent_at _ = None

abbrev received_at : Stop → Option ℕ
received_at (stops.Recv c) = Some c
received_at _ = None

at_choice : (m : Member) → IsChoice m.term → (sending m.term ≡ None) × (receiving m.term ≡ None)
at_choice m at = (ap sent_from at.1.1, ap received_on at.1.1)

sends_so : (m : Member) (stop : Stop) → StandsAt m.term stop → sending m.term ≡ sent_at stop
sends_so m (stops.Done v) at = (end_is_alone m m.term _ at).2
sends_so m (stops.Raised v) at = (end_is_alone m m.term _ at).2
sends_so m (stops.Send c v) at = at
sends_so m (stops.Recv c) at = (receive_is_alone m m.term c at).2
sends_so m stops.Choice at = (at_choice m at).0
sends_so m stops.Dead at = (never_is_alone m m.term at).2

receives_so : (m : Member) (stop : Stop) → StandsAt m.term stop → receiving m.term ≡ received_at stop
receives_so m (stops.Done v) at = (end_is_alone m m.term _ at).3
receives_so m (stops.Raised v) at = (end_is_alone m m.term _ at).3
receives_so m (stops.Send c v) at = (send_is_alone m m.term _ at).2
receives_so m (stops.Recv c) at = at
receives_so m stops.Choice at = (at_choice m at).1
receives_so m stops.Dead at = (never_is_alone m m.term at).3

-- what passes is sent, and received
passing_sends : (a b : Stop) (v : List Atom) → passing a b ≡ Some v → IsSome (sent_at a)
passing_sends (stops.Send c w) b v p = refl
passing_sends _ b v p = absurd cc

passing_receives : (a b : Stop) (v : List Atom) → passing a b ≡ Some v → IsSome (received_at b)
passing_receives (stops.Send c w) (stops.Recv d) v p = refl
passing_receives _ _ v p = absurd cc

-- ---- both ends move by what passes

abbrev both : Player → Player → List Atom → Ends
both p q v = record { sender = player_handed [] p; receiver = player_handed v q }

on_channels : (p q : Player) (v : List Atom) (same : Bool) → cond {A = Option Ends} same (Some (both p q v)) None ≡ option_map (both p q) (cond {A = Option (List Atom)} same (Some v) None)
on_channels p q v true = refl
on_channels p q v false = refl

meet_by : (p q : Player) (a b : Stop) → met_by p q (sent_at a) (received_at b) ≡ option_map (both p q) (passing a b)
meet_by p q (stops.Send c v) (stops.Recv d) = on_channels p q v (c == d)
meet_by p q _ _ = refl

-- two players at the places of a meeting
module _ (j : ℕ) (mt : Meeting) (ps : List Player) (a b : Stop) (sender : Standing ps mt.sender a) (receiver : Standing ps mt.receiver b) where
  abbrev p : Player
  p = sender.player

  abbrev q : Player
  q = receiver.player

  abbrev at : List Label → Table
  at word = record { players = ps; word = word }

  they_meet : (word : List Label) → meets j mt (at word) ≡ ends_advance j mt (at word) (option_map (both p q) (passing a b))
  they_meet word =
      ap (λ o. ends_advance j mt (at word) (met o (slice_get ps mt.receiver))) sender.is_there
      ∙ ap (λ o. ends_advance j mt (at word) (met (Some p) o)) receiver.is_there
      ∙ ap (λ o. ends_advance j mt (at word) (met_by p q o (receiving q.member.term))) (sends_so p.member a sender.stands)
      ∙ ap (λ o. ends_advance j mt (at word) (met_by p q (sent_at a) o)) (receives_so q.member b receiver.stands)
      ∙ ap (ends_advance j mt (at word)) (meet_by p q a b)

  pub misfit : passing a b ≡ None → (word : List Label) → TellsFault (meets j mt (at word)) (faults.Meet j)
  misfit none word = inr (no_meeting j, they_meet word ∙ ap (λ o. ends_advance j mt (at word) (option_map (both p q) o)) none, refl)

  one_sender : (x : Player) → slice_get ps mt.sender ≡ Some x → x ≡ p
  one_sender x is = let one : Some x ≡ Some p = sym is ∙ sender.is_there in cc

  module _ (v : List Atom) (some : passing a b ≡ Some v) where
    they_go : (word : List Label) → meets j mt (at word) ≡ ends_advance j mt (at word) (Some (both p q v))
    they_go word = they_meet word ∙ ap (λ o. ends_advance j mt (at word) (option_map (both p q) o)) some

    -- the sender stands at a send
    pub sends_there : (x : Player) → slice_get ps mt.sender ≡ Some x → IsSome (sending x.member.term)
    sends_there x is =
        let same = one_sender x is in
        subst (λ (o : Option Message). IsSome o) (sym (ap (λ (y : Player). sending y.member.term) same ∙ sends_so p.member a sender.stands)) (passing_sends a b v some)

    pub sender_fails : (e : CertFault) → (e ≡ faults.Memory) ⊎ ((e ≡ faults.Choices mt.sender) × Lacks mt.sender [] ps) → (word : List Label) → TellsFault (meets j mt (at word)) e
    sender_fails e (inl memory) word = inl memory
    sender_fails e (inr lacks) word =
        let so : advanced mt.sender (player_handed [] p) ≡ Err (no_letter mt.sender) =
        ap (λ x. advanced mt.sender (player_handed [] x)) (sym (one_sender lacks.1.player lacks.1.is_there))
        ∙ lacks.1.lacks in
        inr (no_letter mt.sender, they_go word ∙ rw so refl, lacks.0)

    module _ (apart : mt.sender ≢ mt.receiver) (after : List Player) (went : PlayerGoesOn mt.sender [] ps after) where
      sender_goes : advanced mt.sender (player_handed [] p) ≡ Ok (record { player = went.end; word = went.word })
      sender_goes = ap (λ x. advanced mt.sender (player_handed [] x)) (sym (one_sender went.player went.is_there)) ∙ went.advances

      -- the receiver's stays while the sender goes on
      one_receiver : (x : Player) → slice_get after mt.receiver ≡ Some x → x ≡ q
      one_receiver x is =
          let one : Some x ≡ Some q = sym is ∙ ap (λ xs. slice_get xs mt.receiver) went.then_so ∙ get_set_other ps mt.sender mt.receiver went.end apart ∙ receiver.is_there in
          cc

      -- and stands at a receive
      pub receives_there : (x : Player) → slice_get after mt.receiver ≡ Some x → IsSome (receiving x.member.term)
      receives_there x is =
          let same = one_receiver x is in
          subst (λ (o : Option ℕ). IsSome o) (sym (ap (λ (y : Player). receiving y.member.term) same ∙ receives_so q.member b receiver.stands)) (passing_receives a b v some)

      receiver_fails : (e : CertFault) → (e ≡ faults.Memory) ⊎ ((e ≡ faults.Choices mt.receiver) × Lacks mt.receiver v after) → (word : List Label) → TellsFault (meets j mt (at word)) e
      receiver_fails e (inl memory) word = inl memory
      receiver_fails e (inr lacks) word =
          let so : advanced mt.receiver (player_handed v q) ≡ Err (no_letter mt.receiver) =
          ap (λ x. advanced mt.receiver (player_handed v x)) (sym (one_receiver lacks.1.player lacks.1.is_there))
          ∙ lacks.1.lacks in
          inr (no_letter mt.receiver, they_go word ∙ rw (sender_goes, so) refl, lacks.0)

      both_go : (last : List Player) → PlayerGoesOn mt.receiver v after last → (word : List Label) → BecomesTable (meets j mt (at word)) last
      both_go last got word =
          let so : advanced mt.receiver (player_handed v q) ≡ Ok (record { player = got.end; word = got.word }) = ap (λ x. advanced mt.receiver (player_handed v x))
          (sym (one_receiver got.player got.is_there)) ∙ got.advances in
          let players : slice_set (slice_set ps mt.sender went.end) mt.receiver got.end ≡ last = sym (got.then_so ∙ ap (λ xs. slice_set xs mt.receiver got.end) went.then_so) in
          (word ++ (meeting p.member.thread q.member.thread ∷ went.word) ++ got.word, they_go word ∙ rw (sender_goes, so, players) refl)

      -- both by the answer of the receiver's
      pub both_go_so : (last : List Player) (r : Result (Unit {0}) CertFault) → OnOk r (PlayerGoesOn mt.receiver v after last) → OnOk r ((word : List Label) → BecomesTable (meets j mt (at word)) last)
      both_go_so last (Ok u) got = both_go last got
      both_go_so last (Err e) got = tt

      pub receiver_fails_so : (r : Result (Unit {0}) CertFault) → IfErr r (λ e. (e ≡ faults.Memory) ⊎ ((e ≡ faults.Choices mt.receiver) × Lacks mt.receiver v after)) →
          IfErr r (λ e. (word : List Label) → TellsFault (meets j mt (at word)) e)
      receiver_fails_so (Ok u) fails = tt
      receiver_fails_so (Err e) fails = receiver_fails e fails
