-- What stays of a search when there are more events.
use Rattle.std.proofs.Common.{◌≡◌, inl, inr, ℕ, List, [], ◌∷◌, ◌++◌, Some, ap, ap₂, sym, ◌∙◌, subst}
use Rattle.std.specs.Option.{option_map, option_and_then}
use Rattle.te_terms.specs.Steps.{Member}
use Rattle.te_terms.specs.Settling.{settled}
use Rattle.te_terms.specs.Joint.{member_of}
use Rattle.te_trail.specs.Paths.{Path, planted, branched, sent, got}
use Rattle.te_trail.specs.States.{chosen, MovedEnds, members_met, path_state, HasState}
use Rattle.te_trail.specs.Stores.{Holds, IsStore}
use Rattle.te_terms.proofs.Lists.{some_map, all_with}
use Rattle.te_trail.proofs.PastsChain.{then_some, parts_of}
use Rattle.te_pair.specs.declared.end.End.{End}
use Rattle.te_search.specs.Groups.{IsFinal, Partial, IsPartial}
use Rattle.te_search.specs.Searching.{MayMeet, IsSearch}
use Rattle.te_search.specs.Works.{EndsStand, WaitsOn, IsCounted}
use Rattle.te_search.specs.Stacks.{EventsAreAmong}
use Rattle.te_search.proofs.Ending.{fails_fewer}

-- a path that stands at a member stands there still
pub state_more : (g h : List Member) → EventsAreAmong g h → (x : Path) (m : Member) → path_state g x ≡ Some m → path_state h x ≡ Some m
state_more g h among (planted t) m e = (let a : (n : Member) × (member_of t g ≡ Some n) × (settled n ≡ m) = some_map settled (member_of t g) m e in ap (option_map settled)
    (among t a.0 a.1) ∙ ap Some a.2)
state_more g h among (branched p l) m e =
    let a : (n : Member) × (path_state g p ≡ Some n) × (option_map settled (chosen l n) ≡ Some m) = then_some (λ n. option_map settled (chosen l n)) (path_state g p) m e in
    ap (option_and_then (λ n. option_map settled (chosen l n))) (state_more g h among p a.0 a.1) ∙ a.2
state_more g h among (sent s r) m e =
    ap₂ (λ i j. option_and_then (λ a. option_and_then (λ b. option_map (λ k. settled k.sender) (members_met a b)) j) i) (state_more g h among s b.0 b.3) (state_more g h among r b.1 b.4)
    ∙ sym (ap₂ (λ i j. option_and_then (λ a. option_and_then (λ b. option_map (λ k. settled k.sender) (members_met a b)) j) i) b.3 b.4) ∙ e
  where
    b : (a : Member) × (b : Member) × (p : MovedEnds) × (path_state g s ≡ Some a) × (path_state g r ≡ Some b) × (members_met a b ≡ Some p)
    b = parts_of g s r (λ p. settled p.sender) m e
state_more g h among (got s r) m e =
    ap₂ (λ i j. option_and_then (λ a. option_and_then (λ b. option_map (λ k. settled k.receiver) (members_met a b)) j) i) (state_more g h among s b.0 b.3) (state_more g h among r b.1 b.4)
    ∙ sym (ap₂ (λ i j. option_and_then (λ a. option_and_then (λ b. option_map (λ k. settled k.receiver) (members_met a b)) j) i) b.3 b.4) ∙ e
  where
    b : (a : Member) × (b : Member) × (p : MovedEnds) × (path_state g s ≡ Some a) × (path_state g r ≡ Some b) × (members_met a b ≡ Some p)
    b = parts_of g s r (λ p. settled p.receiver) m e

-- and it stood there before, where it stood at any
pub state_less : (g h : List Member) → EventsAreAmong g h → (x : Path) → HasState g x → (m : Member) → path_state h x ≡ Some m → path_state g x ≡ Some m
state_less g h among x (n, e) m f = (let k : path_state h x ≡ Some n = state_more g h among x n e in e ∙ sym k ∙ f)

pub final_more : (g h : List Member) → EventsAreAmong g h → (x : Path) → IsFinal g x → IsFinal h x
final_more g h among x f = record { member = f.member; outcome = f.outcome; state = state_more g h among x f.member f.state; ends = f.ends }

pub final_less : (g h : List Member) → EventsAreAmong g h → (x : Path) → HasState g x → IsFinal h x → IsFinal g x
final_less g h among x s f = record { member = f.member; outcome = f.outcome; state = state_less g h among x s f.member f.state; ends = f.ends }

pub store_more : (g h : List Member) (paths : List Path) → EventsAreAmong g h → IsStore g paths → IsStore h paths
store_more g h paths among s = record {
  made = s.made;
  sound = s.sound;
  state = λ x k. (let t = s.state x k in (t.0, state_more g h among x t.0 t.1));
  once = s.once;
  pairs = s.pairs;
}

meet_less : (g h : List Member) → EventsAreAmong g h → (x : Path) → HasState g x → MayMeet h x → MayMeet g x
meet_less g h among x s m = record { own = m.own; other = m.other; ends = m.ends; state = state_less g h among x s m.own m.state; meets = m.meets }

pub partial_more : (g h : List Member) (paths : List Path) → EventsAreAmong g h → (q : Partial) → IsPartial g paths q → IsPartial h paths q
partial_more g h paths among q p = record { starts = p.starts; made = p.made; finals = λ x k. final_more g h among x (p.finals x k); agree = p.agree }

pub counted_more : (g h : List Member) (paths finals : List Path) (n : ℕ) → EventsAreAmong g h → IsCounted g paths finals n → IsCounted h paths finals n
counted_more g h paths finals n among c = record {
  tried = c.tried;
  count_is = c.count_is;
  are = record { partial = all_with (IsPartial g paths) (IsPartial h paths) c.tried (partial_more g h paths among) c.are.partial; once = c.are.once };
  starts = c.starts;
}

pub ends_more : (g h : List Member) (paths : List Path) (ends : List End) → EventsAreAmong g h → EndsStand g paths ends → EndsStand h paths ends
ends_more g h paths ends among are i e x ee ex = (let s : WaitsOn g x e.channel e.sends = are i e x ee ex in record {
  member = s.member;
  state = state_more g h among x s.member s.state;
  stands = s.stands;
})

pub search_more : (g h : List Member) (paths pending waits finals : List Path) → EventsAreAmong g h → IsSearch g paths pending waits finals → IsSearch h paths pending waits finals
search_more g h paths pending waits finals among w = record {
  store = store_more g h paths among w.store;
  ups = w.ups;
  choices = λ p l m u k shut s c. w.choices p l m u k shut (state_less g h among p (w.store.state p k) m s) c;
  waiting = λ p k shut m. w.waiting p k shut (meet_less g h among p (w.store.state p k) m);
  meetings = λ p q a b e hp hq ag sa sb m. w.meetings p q a b e hp hq ag (state_less g h among p (w.store.state p (w.waits_made p hp)) a sa)
      (state_less g h among q (w.store.state q (w.waits_made q hq)) b sb) m;
  final = λ p k shut f. w.final p k shut (final_less g h among p (w.store.state p k) f);
  failed = λ front start rest is. fails_fewer (λ f. IsFinal g f × Holds (front ++ (start ∷ [])) f) (λ f. IsFinal h f × Holds (front ++ (start ∷ [])) f)
      (λ f k. (w.finals_final f (early front start rest is f k.1), k.1)) (start ∷ []) (w.failed front start rest is);
  branched_from = w.branched_from;
  met_from = w.met_from;
  pending_made = w.pending_made;
  waits_made = w.waits_made;
  finals_made = w.finals_made;
  finals_final = λ p k. final_more g h among p (w.finals_final p k);
  pending_apart = w.pending_apart;
  pending_once = w.pending_once;
  waits_once = w.waits_once;
  finals_once = w.finals_once;
}
  where
    front_in : (front rest : List Path) (start f : Path) → Holds (front ++ (start ∷ [])) f → Holds (front ++ (start ∷ rest)) f
    front_in [] rest start f (inl e) = inl e
    front_in [] rest start f (inr n) = absurd n
    front_in (x ∷ front) rest start f (inl e) = inl e
    front_in (x ∷ front) rest start f (inr k) = inr (front_in front rest start f k)

    early : (front : List Path) (start : Path) (rest : List Path) → finals ≡ front ++ (start ∷ rest) → (f : Path) → Holds (front ++ (start ∷ [])) f → Holds finals f
    early front start rest is f k = subst (λ l. Holds l f) (sym is) (front_in front rest start f k)
