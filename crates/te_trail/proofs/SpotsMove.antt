-- What a choice and a meeting leave of spots, as states of paths.
use Rattle.std.proofs.Common.{◌≡◌, ◌<◌, ℕ, List, [], ◌∷◌, Bool, Option, Some, None, slice_get, refl, ap, ap₂, sym, ◌∙◌, subst, length}
use Rattle.std.specs.Option.{option_map, option_and_then, IsSome}
use Rattle.te_terms.specs.declared.value.Atom.{Atom}
use Rattle.te_terms.specs.Terms.{Term}
use Rattle.te_terms.specs.Steps.{Member, at_term, giving, with_head}
use Rattle.te_terms.specs.Joint.{Message, after_choice, sending, receiving, member_of}
use Rattle.te_terms.specs.Settling.{settled}
use Rattle.te_path.specs.declared.cells.Cells.{Cells}
use Rattle.te_path.specs.declared.spot.Spot.{Spot}
use Rattle.te_path.specs.declared.spot.Stop.{Stop}
use Rattle.te_path.specs.declared.spot.Stop.TheVariants as stops
use Rattle.te_path.specs.Growth.{Grows}
use Rattle.te_path.specs.Paths.{StandsAt, StepsTo, IsChoice, after_sending, after_receiving}
use Rattle.te_path.specs.Spots.{spelled, IsSpot}
use Rattle.te_path.proofs.Growing.{spelled_grown, spot_grown}
use Rattle.te_path.proofs.OneStop.{same_stop}
use Rattle.te_trail.specs.declared.planned.Planned.{Planned}
use Rattle.te_trail.specs.Paths.{Path, branched}
use Rattle.te_trail.specs.States.{chosen, MovedEnds, members_met, path_state}
use Rattle.te_trail.specs.Trails.{FaceEachOther}
use Rattle.te_trail.specs.Records.{origin_at, SpotSpells, BothMet}
use Rattle.te_terms.proofs.Lists.{eq_same, get_low, one_item}

-- of the event there
pub record SpellsAt (e : Planned) (c : Cells) (s : Spot) (m : Member) : Type 0 where
  pub is_spot : IsSpot (origin_at e) c s
  pub spells : spelled (origin_at e) c s ≡ m

pub spells_at : (events : List Planned) (c : Cells) (i : ℕ) (s : Spot) (m : Member) (e : Planned) → SpotSpells events c i s m → slice_get events i ≡ Some e → SpellsAt e c s m
spells_at events c i s m e sp at =
    let one : sp.event ≡ e = one_item (slice_get events i) sp.event e sp.is_event at in
    record { is_spot = subst (λ x. IsSpot (origin_at x) c s) one sp.is_spot; spells = ap (λ x. spelled (origin_at x) c s) (sym one) ∙ sp.spells }

pub spells_low : (events : List Planned) (c : Cells) (i : ℕ) (s : Spot) (m : Member) → SpotSpells events c i s m → i < length events
spells_low events c i s m sp = get_low events sp.event i sp.is_event

spells_stands : (events : List Planned) (c : Cells) (i : ℕ) (s : Spot) (m : Member) → SpotSpells events c i s m → StandsAt m.term s.stop
spells_stands events c i s m sp = subst (λ z. StandsAt z.term s.stop) sp.spells sp.is_spot.stands

pub choice_stop : (events : List Planned) (c : Cells) (i : ℕ) (s : Spot) (m : Member) → SpotSpells events c i s m → IsChoice m.term → s.stop ≡ stops.Choice
choice_stop events c i s m sp is = same_stop m.term s.stop stops.Choice (spells_stands events c i s m sp) is

pub send_stop : (events : List Planned) (c : Cells) (i : ℕ) (s : Spot) (m : Member) (message : Message)
    → SpotSpells events c i s m → sending m.term ≡ Some message → s.stop ≡ stops.Send message.channel message.value
send_stop events c i s m message sp is = same_stop m.term s.stop (stops.Send message.channel message.value) (spells_stands events c i s m sp) is

-- ---- choices

pub branch_state : (g : List Member) (x : Path) (left : Bool) (m end : Member) → path_state g x ≡ Some m → StepsTo m (after_choice left m.term) end → path_state g (branched x left) ≡ Some end
branch_state g x left m end e step =
    let there : option_map settled (chosen left m) ≡ Some end = ap (λ o. option_map settled (option_map (at_term m) o)) step.steps ∙ ap Some step.settles in
    ap (option_and_then (λ n. option_map settled (chosen left n))) e ∙ there

-- ---- meetings

-- the sender goes on with ()
sent_end : (a end : Member) (message : Message) → sending a.term ≡ Some message → StepsTo a (after_sending a.term) end → settled (at_term a (with_head (giving []) a.term)) ≡ end
sent_end a end message e step =
    let is : after_sending a.term ≡ Some (with_head (giving []) a.term) = ap (option_map (λ m. with_head (giving []) a.term)) e in
    let one : with_head (giving []) a.term ≡ step.next = one_item (after_sending a.term) (with_head (giving []) a.term) step.next is step.steps in
    ap (λ t. settled (at_term a t)) one ∙ step.settles

-- the receiver goes on with the value
got_end : (b end : Member) (v : List Atom) (channel : ℕ) → receiving b.term ≡ Some channel → StepsTo b (after_receiving v b.term) end → settled (at_term b (with_head (giving v) b.term)) ≡ end
got_end b end v channel e step =
    let is : after_receiving v b.term ≡ Some (with_head (giving v) b.term) = ap (option_map (λ c. with_head (giving v) b.term)) e in
    let one : with_head (giving v) b.term ≡ step.next = one_item (after_receiving v b.term) (with_head (giving v) b.term) step.next is step.steps in
    ap (λ t. settled (at_term b t)) one ∙ step.settles

-- the sender's spot moves, then the receiver's
pub record Handed (e f : Planned) (c0 c1 c2 : Cells) (s s2 r r2 : Spot) (v : List Atom) : Type 0 where
  pub first : Grows c0 c1
  pub second : Grows c1 c2
  pub sender : IsSpot (origin_at e) c1 s2
  pub sends : StepsTo (spelled (origin_at e) c0 s) (after_sending (spelled (origin_at e) c0 s).term) (spelled (origin_at e) c1 s2)
  pub receiver : IsSpot (origin_at f) c2 r2
  pub receives : StepsTo (spelled (origin_at f) c1 r) (after_receiving v (spelled (origin_at f) c1 r).term) (spelled (origin_at f) c2 r2)

pub both_met : (events : List Planned) (e f : Planned) (c0 c1 c2 : Cells) (i j : ℕ) (s s2 r r2 : Spot) (k : ℕ)
    (v : List Atom) (a b : Member) → slice_get events i ≡ Some e → slice_get events j ≡ Some f
    → SpotSpells events c0 i s a → SpotSpells events c0 j r b → (face : FaceEachOther a b) → s.stop ≡ stops.Send k v
    → Handed e f c0 c1 c2 s s2 r r2 v → BothMet events c2 i s2 j r2 a b
both_met events e f c0 c1 c2 i j s s2 r r2 k v a b ae af sa sb face stop h = record {
  ends = record { sender = at_term a (with_head (giving []) a.term); receiver = at_term b (with_head (giving face.message.value) b.term) };
  meeting = rw (face.sends, face.receives, eq_same face.message.channel) refl;
  sender = record { event = e; is_event = ae; is_spot = spot_grown (origin_at e) c1 c2 s2 h.second h.sender; spells = spelled_grown (origin_at e) c1 c2 s2 h.second h.sender ∙ sym first };
  receiver = record { event = f; is_event = af; is_spot = h.receiver; spells = sym second };
}
  where
    at_s : SpellsAt e c0 s a
    at_s = spells_at events c0 i s a e sa ae

    at_r : SpellsAt f c0 r b
    at_r = spells_at events c0 j r b f sb af

    value : v ≡ face.message.value
    value = let z : stops.Send k v ≡ stops.Send face.message.channel face.message.value = sym stop ∙ send_stop events c0 i s a face.message sa face.sends in cc

    first : settled (at_term a (with_head (giving []) a.term)) ≡ spelled (origin_at e) c1 s2
    first = sent_end a (spelled (origin_at e) c1 s2) face.message face.sends (subst (λ z. StepsTo z (after_sending z.term) (spelled (origin_at e) c1 s2)) at_s.spells h.sends)

    in_between : spelled (origin_at f) c1 r ≡ b
    in_between = spelled_grown (origin_at f) c0 c1 r h.first at_r.is_spot ∙ at_r.spells

    second : settled (at_term b (with_head (giving face.message.value) b.term)) ≡ spelled (origin_at f) c2 r2
    second = ap (λ w. settled (at_term b (with_head (giving w) b.term))) (sym value) ∙ got_end b
        (spelled (origin_at f) c2 r2) v face.message.channel face.receives
        (subst (λ z. StepsTo z (after_receiving v z.term) (spelled (origin_at f) c2 r2)) in_between h.receives)

-- ---- what a spot needs to move

some_is : {A : Type 0} (o : Option A) (x : A) → o ≡ Some x → IsSome o
some_is o x e = subst IsSome (sym e) refl

pub can_send : (events : List Planned) (e : Planned) (c : Cells) (i : ℕ) (s : Spot) (a : Member) (message : Message)
    → slice_get events i ≡ Some e → SpotSpells events c i s a → sending a.term ≡ Some message
    → IsSome (sending (spelled (origin_at e) c s).term)
can_send events e c i s a message ae sp sends = some_is (sending (spelled (origin_at e) c s).term) message (ap (λ m. sending m.term) (spells_at events c i s a e sp ae).spells ∙ sends)

pub can_receive : (events : List Planned) (e : Planned) (c c2 : Cells) (i : ℕ) (s : Spot) (b : Member) (channel : ℕ)
    → Grows c c2 → slice_get events i ≡ Some e → SpotSpells events c i s b → receiving b.term ≡ Some channel
    → IsSome (receiving (spelled (origin_at e) c2 s).term)
can_receive events e c c2 i s b channel grows ae sp receives =
    let there : SpellsAt e c s b = spells_at events c i s b e sp ae in
    some_is (receiving (spelled (origin_at e) c2 s).term) channel (ap (λ m. receiving m.term) (spelled_grown (origin_at e) c c2 s grows there.is_spot ∙ there.spells) ∙ receives)
