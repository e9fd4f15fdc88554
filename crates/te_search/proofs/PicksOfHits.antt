-- From a joined past that names only final paths to one path of each of its threads.
use Rattle.std.proofs.Common.{◌≡◌, ◌<◌, inl, inr, ℕ, zero, suc, List, [], ◌∷◌, Bool, true, false, Option, Some, None, is_some, length, slice_get, refl, ap, sym, ◌∙◌, subst, arith}
use Rattle.te_terms.specs.Steps.{Member}
use Rattle.te_trail.specs.Paths.{Path, thread_of, move_of, IsAbove}
use Rattle.te_trail.specs.Stores.{Holds, any_rests_on}
use Rattle.te_search.specs.declared.work.Work.{Work}
use Rattle.te_search.specs.Finals.{numbers_of}
use Rattle.te_search.specs.Groups.{IsFinal}
use Rattle.te_search.specs.Assemblies.{joint, Numbers, IsOfThreads, Reaches, starts, takes, AreNumbers}
use Rattle.te_search.specs.Works.{IsHit}
use Rattle.te_search.specs.Stacks.{EventsAreAmong}
use Rattle.te_search.specs.Picks.{Picks, touched}
use Rattle.te_search.proofs.JoinedPasts.{crew_named, joint_past}
use Rattle.te_search.proofs.GroupsSound.{taken, taken_true, true_taken}
use Rattle.te_search.proofs.GroupsClosed.{HoldsThread, Closed, close, past_named}
use Rattle.te_search.proofs.Trying.{stands_top, joined_threads}
use Rattle.te_terms.proofs.Lists.{get_low, get_some, bool_is}
use Rattle.te_search.proofs.EventsAdded.{final_more, state_more, store_more}

holds_number : (threads : List ℕ) (i t : ℕ) → slice_get threads i ≡ Some t → HoldsThread threads t
holds_number [] i t e = cc
holds_number (s ∷ ss) zero t e = inl (let one : s ≡ t = cc in sym one)
holds_number (s ∷ ss) (suc i) t e = inr (holds_number ss i t e)

-- what is named is final
all_final : (w : Work) (threads : List ℕ) (out : List (Option ℕ)) → (h : IsHit w threads out) → (t : ℕ) (x : Path) → joint h.found.members t ≡ Some x → IsFinal w.store.events x
all_final w threads out h t x e =
    let i : (i : ℕ) × (slice_get threads i ≡ Some t) = joined_threads w.store.events w.store.paths threads
    (numbers_of w.finals) h.found.members h.stand h.found.crew t x e in
    let o : (o : Option ℕ) × (slice_get out i.0 ≡ Some o) = get_some out i.0
    (let l : i.0 < length threads = get_low threads t i.0 i.1 in let s : length out ≡ length threads = h.found.names.wide in omega (arith, l, s)) in
    go i.0 i.1 o.0 o.1 (h.found.names.each i.0 t o.0 i.1 o.1)
  where
    go : (i : ℕ) → slice_get threads i ≡ Some t → (o : Option ℕ) → slice_get out i ≡ Some o → Numbers w.store.paths (joint h.found.members t) o → IsFinal w.store.events x
    go i ei None eo n = (let c : None ≡ Some x = sym n ∙ e in cc)
    go i ei (Some m) eo (c, ec, jc) = (let one : c ≡ x = (let k : Some c ≡ Some x = sym jc ∙ e in cc) in subst (IsFinal w.store.events) one (h.found.all i m c eo ec))

pub hit_picks : (w : Work) (threads : List ℕ) (out : List (Option ℕ)) → IsHit w threads out → (ps : List Path) × Picks w.store.events w.store.paths threads out ps
hit_picks w threads out h = (
  c.members,
  record {
    store = h.stand.store;
    ups = h.stand.ups;
    crew = c.crew;
    names = record { wide = h.found.names.wide; each = λ i t o et eo. subst (λ j. Numbers w.store.paths j o) (sym (c.same t)) (h.found.names.each i t o et eo) };
    listed = listed;
    all = λ t x e. (let i : (i : ℕ) × (slice_get threads i ≡ Some t) = listed t x e in picked t x e (taken_true c.members t (c.takes t x (holds_number threads i.0 t i.1) (sym (c.same t) ∙ e))));
    start = h.start;
    reached = c.reached;
  },
)
  where
    c : Closed w.store.events (Holds w.store.paths) (IsFinal w.store.events) h.start h.found.members threads
    c = close w.store.events (Holds w.store.paths) (IsFinal w.store.events) h.start h.stand.store.sound h.stand.store.state
        (λ y hy fy. stands_top w.store.events w.store.paths threads (numbers_of w.finals) h.stand y fy) threads
        h.found.members h.found.crew (h.found.reached (starts h.start))
        (all_final w threads out h)

    listed : IsOfThreads threads (joint c.members)
    listed = joined_threads w.store.events w.store.paths threads (numbers_of w.finals) c.members h.stand c.crew

    picked : (t : ℕ) (x : Path) → joint c.members t ≡ Some x → (y : Path) × Holds c.members y × (thread_of y ≡ t) → Holds c.members x
    picked t x e (y, hy, ty) = (let n : joint c.members t ≡ Some y = subst (λ k. joint c.members k ≡ Some y) ty
        (crew_named w.store.events (Holds w.store.paths) (IsFinal w.store.events) c.members c.crew y hy) in let one : y ≡ x = (let k : Some y ≡ Some x = sym n ∙ e in cc) in subst
        (Holds c.members) one hy)

pub hit_numbers : (w : Work) (threads : List ℕ) (out : List (Option ℕ)) → IsHit w threads out → AreNumbers w.store.paths out
hit_numbers w threads out h i m e =
    let t : (t : ℕ) × (slice_get threads i ≡ Some t) = get_some threads i
    (let l : i < length out = get_low out (Some m) i e in let s : length out ≡ length threads = h.found.names.wide in omega (arith, l, s)) in
    let n : (c : Path) × (slice_get w.store.paths m ≡ Some c) × (joint h.found.members t.0 ≡ Some c) = h.found.names.each i t.0 (Some m) t.1 e in
    get_low w.store.paths n.0 m n.1

-- ---- among more events

pub picks_more : (g h : List Member) (paths : List Path) (threads : List ℕ) (joined : List (Option ℕ)) (ps : List Path) → EventsAreAmong g h → Picks g paths threads joined ps
    → Picks h paths threads joined ps
picks_more g h paths threads joined ps among p = record {
  store = store_more g h paths among p.store;
  ups = p.ups;
  crew = record {
    fins = λ y k. final_more g h among y (p.crew.fins y k);
    team = record { sounds = p.crew.team.sounds; states = λ y k. (let s = p.crew.team.states y k in (s.0, state_more g h among y s.0 s.1)); agrees = p.crew.team.agrees };
    makes = p.crew.makes;
    made_all = p.crew.made_all;
    tops = p.crew.tops;
  };
  names = p.names;
  listed = p.listed;
  all = p.all;
  start = p.start;
  reached = p.reached;
}

-- ---- the threads of a joined past

some_true : (o : Option Path) → is_some o ≡ true → (x : Path) × (o ≡ Some x)
some_true None e = cc
some_true (Some x) e = (x, refl)

pub touched_path : (ps : List Path) (t : ℕ) → touched ps t ≡ true → (x : Path) × (joint ps t ≡ Some x)
touched_path ps t e = some_true (joint ps t) e

-- a move of the past is of such a thread
pub past_touched : (g : List Member) (paths : List Path) (threads : List ℕ) (joined : List (Option ℕ)) (ps : List Path) → Picks g paths threads joined ps → (x : Path)
    → any_rests_on ps (move_of x) ≡ true → touched ps (thread_of x) ≡ true
past_touched g paths threads joined ps p x e = (let z : (z : Path) × (joint ps (thread_of x) ≡ Some z) × IsAbove x z = past_named g (Holds paths) (IsFinal g) ps p.crew x e in ap is_some z.1)

pub picked_touched : (g : List Member) (paths : List Path) (threads : List ℕ) (joined : List (Option ℕ)) (ps : List Path) → Picks g paths threads joined ps → (y : Path)
    → Holds ps y → touched ps (thread_of y) ≡ true
picked_touched g paths threads joined ps p y h = ap is_some (crew_named g (Holds paths) (IsFinal g) ps p.crew y h)

-- they are those of the picked paths
pub taken_touched : (g : List Member) (paths : List Path) (threads : List ℕ) (joined : List (Option ℕ)) (ps : List Path) → Picks g paths threads joined ps → (t : ℕ) → taken ps t ≡ touched ps t
taken_touched g paths threads joined ps p t = bool_is (taken ps t) (touched ps t)
    (λ e. (let y : (y : Path) × Holds ps y × (thread_of y ≡ t) = taken_true ps t e in subst (λ k. touched ps k ≡ true) y.2 (picked_touched g paths threads joined ps p y.0 y.1)))
    (λ e. (let x : (x : Path) × (joint ps t ≡ Some x) = touched_path ps t e in let h : Holds ps x.0 = p.all t x.0 x.1 in subst (λ k. taken ps k ≡ true)
    (joint_past g ps p.crew.team t x.0 x.1).1 (true_taken ps x.0 h)))

pub reach_holds : (start : Path) (ps : List Path) → Reaches start ps → Holds ps start
reach_holds start ps (starts f) = inl refl
reach_holds start ps (takes s qs f x r e h) = inr (reach_holds s qs r)
