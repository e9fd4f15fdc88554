-- The events of a store, and the states of paths when there are more of them.
use Rattle.std.proofs.Common.{◌≡◌, ◌⊎◌, ◌<◌, ◌≤◌, ◌+◌, inl, inr, ℕ, zero, suc, List, [], ◌∷◌, ◌++◌, Bool, true, false}
use Rattle.std.proofs.Common.{cond, Option, Some, None, slice_get, refl, ap, ap₂, sym, ◌∙◌, subst, nat_eq, eqb-true}
use Rattle.std.proofs.Common.{eq-eqb, length, take, map, arith}
use Rattle.std.proofs.lemmas.List.{map-append}
use Rattle.std.specs.Option.{option_map, option_and_then}
use Rattle.te_terms.specs.Steps.{Member}
use Rattle.te_terms.specs.declared.event.Parked.{Parked}
use Rattle.te_terms.specs.Joint.{RiseFrom, IsGroup, member_of, as_member, as_group}
use Rattle.te_terms.specs.Settling.{settled}
use Rattle.te_trail.specs.declared.planned.Planned.{Planned}
use Rattle.te_trail.specs.Paths.{Path, planted, branched, sent, got}
use Rattle.te_trail.specs.Trails.{Trail, unplanted}
use Rattle.te_trail.specs.States.{chosen, MovedEnds, members_met, path_state, HasState}
use Rattle.te_trail.specs.Records.{origin_at, member_of_event, members_of, ArePlannedEvents}
use Rattle.te_terms.proofs.Lists.{eq_same, get_taken, get_low, some_map, take_all}
use Rattle.te_trail.proofs.RecordsRead.{get_old, get_which}
use Rattle.te_trail.proofs.PastsChain.{then_some, parts_of}

events_rest : (x : Planned) (xs : List Planned) → ArePlannedEvents (x ∷ xs) → ArePlannedEvents xs
events_rest x xs are = record {
  rooted = λ i e at. are.rooted (suc i) e at;
  once = λ i j e f ei fj same. (let s : suc i ≡ suc j = are.once (suc i) (suc j) e f ei fj same in cc);
}

-- an event is found by its thread
pub event_found : (events : List Planned) → ArePlannedEvents events → (i : ℕ) (e : Planned) → slice_get events i ≡ Some e → member_of e.thread (members_of events) ≡ Some (member_of_event e)
event_found [] are i e at = cc
event_found (x ∷ xs) are zero e at = let one : x ≡ e = cc in subst (λ y. member_of e.thread (member_of_event y ∷ members_of xs) ≡ Some (member_of_event e)) (sym one) (rw (eq_same e.thread) refl)
event_found (x ∷ xs) are (suc i) e at = go (event_found xs (events_rest x xs are) i e at) (nat_eq x.thread e.thread) refl
  where
    go : member_of e.thread (members_of xs) ≡ Some (member_of_event e) → (o : Bool) → nat_eq x.thread e.thread ≡ o
        → cond o (Some (member_of_event x)) (member_of e.thread (members_of xs)) ≡ Some (member_of_event e)
    go ih true w = let z : zero ≡ suc i = are.once zero (suc i) x e refl at (eqb-true x.thread e.thread w) in cc
    go ih false w = ih

-- no event of a thread
event_absent : (events : List Planned) (t : ℕ) → member_of t (members_of events) ≡ None → (i : ℕ) (e : Planned) → slice_get events i ≡ Some e → e.thread ≡ t → ⊥
event_absent [] t none i e at same = cc
event_absent (x ∷ xs) t none i e at same = go (λ n k a. event_absent xs t n k e a same) i at (nat_eq x.thread t) refl none
  where
    go : (member_of t (members_of xs) ≡ None → (k : ℕ) → slice_get xs k ≡ Some e → ⊥) → (i : ℕ)
        → slice_get (x ∷ xs) i ≡ Some e → (o : Bool) → nat_eq x.thread t ≡ o
        → cond o (Some (member_of_event x)) (member_of t (members_of xs)) ≡ None → ⊥
    go ih i at true w none = cc
    go ih zero at false w none = let one : x ≡ e = cc in let z : nat_eq x.thread t ≡ true = eq-eqb x.thread t (ap (λ y. y.thread) one ∙ same) in cc
    go ih (suc i) at false w none = ih none i at

pub events_put : (events : List Planned) (new : Planned) → ArePlannedEvents events → new.root < length new.code.value
    → member_of new.thread (members_of events) ≡ None → ArePlannedEvents (events ++ (new ∷ []))
events_put events new are low none = record {
  rooted = λ i e at. root e i (get_which events (new ∷ []) e i at);
  once = λ i j e f ei fj same. one i j e f same (get_which events (new ∷ []) e i ei) (get_which events (new ∷ []) f j fj);
}
  where
    last : (j : ℕ) (e : Planned) → slice_get (new ∷ []) j ≡ Some e → (j ≡ 0) × (new ≡ e)
    last zero e at = (refl, cc)
    last (suc j) e at = cc

    root : (e : Planned) (i : ℕ) → (slice_get events i ≡ Some e) ⊎ ((j : ℕ) × (i ≡ length events + j) × (slice_get (new ∷ []) j ≡ Some e)) → e.root < length e.code.value
    root e i (inl a) = are.rooted i e a
    root e i (inr a) = subst (λ y. y.root < length y.code.value) (last a.0 e a.2).1 low

    one : (i j : ℕ) (e f : Planned) → e.thread ≡ f.thread → (slice_get events i ≡ Some e)
        ⊎ ((k : ℕ) × (i ≡ length events + k) × (slice_get (new ∷ []) k ≡ Some e))
        → (slice_get events j ≡ Some f) ⊎ ((k : ℕ) × (j ≡ length events + k) × (slice_get (new ∷ []) k ≡ Some f)) → i ≡ j
    one i j e f same (inl a) (inl b) = are.once i j e f a b same
    one i j e f same (inl a) (inr b) = absurd (event_absent events new.thread none i e a (same ∙ ap (λ y. y.thread) (sym (last b.0 f b.2).1)))
    one i j e f same (inr a) (inl b) = absurd (event_absent events new.thread none j f b (sym same ∙ ap (λ y. y.thread) (sym (last a.0 e a.2).1)))
    one i j e f same (inr a) (inr b) = a.1 ∙ ap (λ k. length events + k) ((last a.0 e a.2).0 ∙ sym (last b.0 f b.2).0) ∙ sym b.1

pub members_put : (events : List Planned) (new : Planned) → members_of (events ++ (new ∷ [])) ≡ members_of events ++ (member_of_event new ∷ [])
members_put events new = map-append member_of_event events (new ∷ [])

-- ---- states stay

member_more : (g more : List Member) (t : ℕ) (m : Member) → member_of t g ≡ Some m → member_of t (g ++ more) ≡ Some m
member_more [] more t m e = cc
member_more (x ∷ g) more t m e = go (member_more g more t m) (nat_eq x.thread t) e
  where
    go : (member_of t g ≡ Some m → member_of t (g ++ more) ≡ Some m) → (o : Bool) → cond o (Some x) (member_of t g) ≡ Some m → cond o (Some x) (member_of t (g ++ more)) ≡ Some m
    go ih true e = e
    go ih false e = ih e

-- a state stays while events are put behind the others
pub state_more : (g more : List Member) (x : Path) (m : Member) → path_state g x ≡ Some m → path_state (g ++ more) x ≡ Some m
state_more g more (planted t) m e =
    let a : (n : Member) × (member_of t g ≡ Some n) × (settled n ≡ m) = some_map settled (member_of t g) m e in
    ap (option_map settled) (member_more g more t a.0 a.1) ∙ ap Some a.2
state_more g more (branched p left) m e =
    let a : (n : Member) × (path_state g p ≡ Some n) × (option_map settled (chosen left n) ≡ Some m) = then_some (λ n. option_map settled (chosen left n)) (path_state g p) m e in
    ap (option_and_then (λ n. option_map settled (chosen left n))) (state_more g more p a.0 a.1) ∙ a.2
state_more g more (sent s r) m e =
    let a : (n : Member) × (path_state g s ≡ Some n) × (option_and_then
    (λ b. option_map (λ z. settled z.sender) (members_met n b)) (path_state g r) ≡ Some m) =
    then_some (λ n. option_and_then (λ b. option_map (λ z. settled z.sender) (members_met n b)) (path_state g r))
    (path_state g s) m e in
    let b : (n : Member) × (path_state g r ≡ Some n) × (option_map (λ z. settled z.sender)
    (members_met a.0 n) ≡ Some m) = then_some (λ n. option_map (λ z. settled z.sender) (members_met a.0 n))
    (path_state g r) m a.2 in
    let sa : path_state (g ++ more) s ≡ Some a.0 = state_more g more s a.0 a.1 in
    let rb : path_state (g ++ more) r ≡ Some b.0 = state_more g more r b.0 b.1 in
    rw (sa, rb) b.2
state_more g more (got s r) m e =
    let a : (n : Member) × (path_state g s ≡ Some n) × (option_and_then
    (λ b. option_map (λ z. settled z.receiver) (members_met n b)) (path_state g r) ≡ Some m) =
    then_some (λ n. option_and_then (λ b. option_map (λ z. settled z.receiver) (members_met n b))
    (path_state g r)) (path_state g s) m e in
    let b : (n : Member) × (path_state g r ≡ Some n) × (option_map (λ z. settled z.receiver)
    (members_met a.0 n) ≡ Some m) = then_some (λ n. option_map (λ z. settled z.receiver) (members_met a.0 n))
    (path_state g r) m a.2 in
    let sa : path_state (g ++ more) s ≡ Some a.0 = state_more g more s a.0 a.1 in
    let rb : path_state (g ++ more) r ≡ Some b.0 = state_more g more r b.0 b.1 in
    rw (sa, rb) b.2

-- ---- the events of a list in which threads rise

higher : (low : ℕ) (ps : List Parked) (i : ℕ) (x : Parked) → RiseFrom low (as_group ps) → slice_get ps i ≡ Some x → low < x.thread
higher low [] i x rise e = cc
higher low (p ∷ ps) zero x rise e = let is : p ≡ x = cc in subst (λ y. low < y.thread) is rise.0
higher low (p ∷ ps) (suc i) x rise e = let more : p.thread < x.thread = higher p.thread ps i x rise.1 e in omega (arith, rise.0)

rest_rises : (low : ℕ) (ps : List Parked) → RiseFrom low (as_group ps) → IsGroup (as_group ps)
rest_rises low [] rise = tt
rest_rises low (p ∷ ps) rise = rise.1

pub not_before : (ps : List Parked) (i : ℕ) (x : Parked) → IsGroup (as_group ps) → slice_get ps i ≡ Some x → member_of x.thread (as_group (take i ps)) ≡ None
not_before ps zero x rise e = refl
not_before [] (suc i) x rise e = cc
not_before (p ∷ ps) (suc i) x rise e = go (not_before ps i x (rest_rises p.thread ps rise) e) (higher p.thread ps i x rise e) (nat_eq p.thread x.thread) refl
  where
    go : member_of x.thread (as_group (take i ps)) ≡ None → p.thread < x.thread → (o : Bool)
        → nat_eq p.thread x.thread ≡ o → cond o (Some (as_member p)) (member_of x.thread (as_group (take i ps))) ≡ None
    go ih less true w = absurd (omega (arith, less, eqb-true p.thread x.thread w))
    go ih less false w = ih

pub one_more : (ps : List Parked) (i : ℕ) (x : Parked) → slice_get ps i ≡ Some x → as_group (take i ps) ++ (as_member x ∷ []) ≡ as_group (take (i + 1) ps)
one_more ps i x e = go ps i e ∙ ap (λ n. as_group (take n ps)) (let n : suc i ≡ i + 1 = omega arith in n)
  where
    go : (ps : List Parked) (i : ℕ) → slice_get ps i ≡ Some x → as_group (take i ps) ++ (as_member x ∷ []) ≡ as_group (take (suc i) ps)
    go [] i e = cc
    go (p ∷ ps) zero e = let is : p ≡ x = cc in ap (λ y. as_member y ∷ []) (sym is)
    go (p ∷ ps) (suc i) e = ap (λ r. as_member p ∷ r) (go ps i e)

-- all events are put
pub all_taken : (store : Trail) (ps : List Parked) (i : ℕ) → store.events ≡ as_group (take i ps) → store.paths ≡ [] → store.marks ≡ [] → length ps ≤ i → store ≡ unplanted (as_group ps)
all_taken store ps i e p m h =
    ap (λ es. record { events = es; paths = store.paths; marks = store.marks }) (e ∙ ap as_group (take_all ps i h)) ∙ ap₂ (λ a b. record { events = as_group ps; paths = a; marks = b }) p m
