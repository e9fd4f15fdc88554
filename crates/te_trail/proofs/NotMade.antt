-- Which paths aren't made, seen from the records.
use Rattle.std.proofs.Common.{◌≡◌, ◌≢◌, ◌<◌, ℕ, zero, suc, List, [], ◌∷◌, cond, eqb-true, Bool, true, false, ◌&&◌, not}
use Rattle.std.proofs.Common.{Option, Some, None, slice_get, length, refl, ap, ap₂, sym, ◌∙◌, subst, arith, nat_eq}
use Rattle.std.proofs.Common.{eq-eqb, eq-or-lt_of_le, ◌+◌, ◌≤◌, inl, inr}
use Rattle.te_terms.specs.declared.value.Atom.{Atom}
use Rattle.te_terms.specs.Steps.{Member}
use Rattle.te_trail.specs.declared.store.PathRecord.{PathRecord}
use Rattle.te_trail.specs.declared.store.Last.{Last}
use Rattle.te_trail.specs.declared.store.Last.TheVariants.{Root, Left, Right, Sender, Receiver}
use Rattle.te_trail.specs.declared.ticks.Tick.{Tick}
use Rattle.te_path.specs.declared.spot.Stop.{Stop}
use Rattle.te_path.specs.declared.spot.Stop.TheVariants as stops
use Rattle.te_path.specs.Paths.{StandsAt}
use Rattle.te_terms.specs.Joint.{member_of, Message, sending, receiving}
use Rattle.te_trail.specs.Paths.{Path, planted, branched, sent, got, thread_of, parent_of}
use Rattle.te_trail.specs.Clocks.{Agree}
use Rattle.te_trail.specs.States.{path_state}
use Rattle.te_trail.specs.Stores.{Holds}
use Rattle.te_trail.specs.Trails.{Trail, TellsWhether, IsLeft, IsStop, IsUnplanted, IsUnmade, AreUnmet, IsAtChoice, AreMeetingEnds, AreAgreeing, FaceEachOther}
use Rattle.te_trail.specs.Walks.{NoneBefore, IsNoEvent, IsNoPlanting, IsNoBranch, IsNoMeeting}
use Rattle.std.proofs.lemmas.Option.{slice_get-map}
use Rattle.std.specs.Option.{option_map}
use Rattle.te_trail.specs.declared.planned.Planned.{Planned}
use Rattle.te_trail.specs.Records.{members_of, member_of_event, paths_of, IsMadeBy, parent_number, HasParent, Fits, FitsAll}
use Rattle.te_terms.proofs.Lists.{get_low, one_item}
use Rattle.te_trail.proofs.StoresHold.{place_held}

-- ---- none of all

pub none_more : (P : ℕ → Type 0) (i : ℕ) → NoneBefore P i → P i → NoneBefore P (i + 1)
none_more P i before here k h = elim (eq-or-lt_of_le (let le : k ≤ i = omega (arith, h) in le)) [ inl same ↦ subst P (sym same) here | inr less ↦ before k less ]

pub unplanted_by : (store : Trail) (i t n : ℕ) → ((m : Member) → slice_get store.events i ≡ Some m → m.thread ≡ t)
    → length store.paths ≤ n → NoneBefore (IsNoPlanting store.paths t) n → IsUnplanted store i
unplanted_by store i t n is h none m em held =
    let at : (k : ℕ) × (slice_get store.paths k ≡ Some (planted m.thread)) = place_held store.paths (planted m.thread) held in
    none at.0 (omega (arith, h, get_low store.paths (planted m.thread) at.0 at.1)) (planted m.thread) at.1 (ap planted (is m em))

pub unmade_by : (store : Trail) (p : ℕ) (left : Bool) (n : ℕ) → length store.paths ≤ n → NoneBefore (IsNoBranch store.paths p left) n → IsUnmade store p left
unmade_by store p left n h none x ex held =
    let at : (k : ℕ) × (slice_get store.paths k ≡ Some (branched x left)) = place_held store.paths (branched x left) held in
    none at.0 (omega (arith, h, get_low store.paths (branched x left) at.0 at.1)) x (branched x left) ex at.1 refl

pub unmet_by : (store : Trail) (p q n : ℕ) → length store.paths ≤ n → NoneBefore (IsNoMeeting store.paths p q) n → AreUnmet store p q
unmet_by store p q n h none x z ex ez held =
    let at : (k : ℕ) × (slice_get store.paths k ≡ Some (sent x z)) = place_held store.paths (sent x z) held in
    none at.0 (omega (arith, h, get_low store.paths (sent x z) at.0 at.1)) x z (sent x z) ex ez at.1 refl

-- ---- one record

-- the parent of a path is known by its number
parent_is : (paths : List Path) → ((i j : ℕ) (x : Path) → slice_get paths i ≡ Some x → slice_get paths j ≡ Some x
    → i ≡ j) → (k p par : ℕ) (l : Last) (x y : Path) → HasParent paths k y (parent_number l par) → parent_of y ≡ Some x
    → slice_get paths p ≡ Some x → par ≡ p
parent_is paths once k p par l x y up e ex = by l up
  where
    some : (par < k) × (z : Path) × (slice_get paths par ≡ Some z) × (parent_of y ≡ Some z) → par ≡ p
    some (h, z, ez, pz) = once par p x (ez ∙ ap Some (one_item (parent_of y) z x pz e)) ex

    by : (l : Last) → HasParent paths k y (parent_number l par) → par ≡ p
    by Root u = let none : parent_of y ≡ None = u in cc
    by Left u = some u
    by Right u = some u
    by Sender u = some u
    by Receiver u = some u

pub record Here (paths : List Path) (k : ℕ) (n : PathRecord) : Type 0 where
  pub kind : (y : Path) → slice_get paths k ≡ Some y → IsMadeBy n.last y
  pub thread : (y : Path) → slice_get paths k ≡ Some y → thread_of y ≡ n.thread
  pub parent : (p : ℕ) (x y : Path) → slice_get paths p ≡ Some x → slice_get paths k ≡ Some y → parent_of y ≡ Some x → n.parent ≡ p

pub here : (records : List PathRecord) (ticks : List Tick) (paths : List Path) → FitsAll records ticks
    → paths_of records ≡ paths → (k : ℕ) (n : PathRecord) → slice_get records k ≡ Some n → Here paths k n
here records ticks paths fit view k n en = subst (λ ps. Here ps k n) view (record {
  kind = λ y ey. (fit.fits k n y en ey).kind;
  thread = λ y ey. (fit.fits k n y en ey).thread;
  parent = λ p x y ex ey e. parent_is (paths_of records) fit.once k p n.parent n.last x y (fit.fits k n y en ey).up e ex;
})

clash : (b : Bool) → b ≡ true → b ≡ false → ⊥
clash b e f = cc

pub planting_none : (paths : List Path) (k t : ℕ) (n : PathRecord) → Here paths k n → nat_eq n.thread t ≡ false → IsNoPlanting paths t k
planting_none paths k t n h free y ey is = clash (nat_eq n.thread t) (eq-eqb n.thread t (sym (h.thread y ey) ∙ ap thread_of is)) free

pub planting_other : (paths : List Path) (k t : ℕ) (n : PathRecord) → Here paths k n → (n.last ≡ Root → ⊥) → IsNoPlanting paths t k
planting_other paths k t n h free y ey is = by n.last refl (subst (IsMadeBy n.last) is (h.kind y ey))
  where
    by : (l : Last) → n.last ≡ l → IsMadeBy l (planted t) → ⊥
    by Root e m = free e
    by Left e (p, f) = cc
    by Right e (p, f) = cc
    by Sender e (s, r, f) = cc
    by Receiver e (s, r, f) = cc

pub branch_none : (paths : List Path) (k p : ℕ) (left : Bool) (n : PathRecord) → Here paths k n → nat_eq n.parent p ≡ false → IsNoBranch paths p left k
branch_none paths k p left n h free x y ex ey is = clash (nat_eq n.parent p) (eq-eqb n.parent p (h.parent p x y ex ey (ap parent_of is))) free

pub branch_other : (paths : List Path) (k p : ℕ) (left : Bool) (n : PathRecord) → Here paths k n → (n.last ≡ Left → left ≡ false) → (n.last ≡ Right → left ≡ true) → IsNoBranch paths p left k
branch_other paths k p left n h is_left is_right x y ex ey is = by n.last refl (subst (IsMadeBy n.last) is (h.kind y ey))
  where
    by : (l : Last) → n.last ≡ l → IsMadeBy l (branched x left) → ⊥
    by Root e (t, f) = cc
    by Left e (p, f) = (let side : left ≡ true = cc in clash left side (is_left e))
    by Right e (p, f) = (let side : left ≡ false = cc in clash left (is_right e) side)
    by Sender e (s, r, f) = cc
    by Receiver e (s, r, f) = cc

pub meeting_none : (paths : List Path) (k p q : ℕ) (n : PathRecord) → Here paths k n → nat_eq n.parent p ≡ false → IsNoMeeting paths p q k
meeting_none paths k p q n h free x z y ex ez ey is = clash (nat_eq n.parent p) (eq-eqb n.parent p (h.parent p x y ex ey (ap parent_of is))) free

pub meeting_mate : (paths : List Path) (k p q : ℕ) (m : PathRecord)
    → ((i : ℕ) (s r : Path) → slice_get paths i ≡ Some (sent s r) → slice_get paths (suc i) ≡ Some (got s r))
    → Here paths (suc k) m → nat_eq m.parent q ≡ false → IsNoMeeting paths p q k
meeting_mate paths k p q m pairs h free x z y ex ez ey is = clash (nat_eq m.parent q) (eq-eqb m.parent q (h.parent q z (got x z) ez (pairs k x z (ey ∙ ap Some is)) refl)) free

pub meeting_other : (paths : List Path) (k p q : ℕ) (n : PathRecord) → Here paths k n → (n.last ≡ Sender → ⊥) → IsNoMeeting paths p q k
meeting_other paths k p q n h free x z y ex ez ey is = by n.last refl (subst (IsMadeBy n.last) is (h.kind y ey))
  where
    by : (l : Last) → n.last ≡ l → IsMadeBy l (sent x z) → ⊥
    by Root e (t, f) = cc
    by Left e (p, f) = cc
    by Right e (p, f) = cc
    by Sender e m = free e
    by Receiver e (s, r, f) = cc

-- ---- stops and conditions

pub at_choice : (store : Trail) (p : ℕ) (stop : Stop) → stop ≡ stops.Choice → IsStop store p stop → IsAtChoice store p
at_choice store p stop e told x m ex sm =
    let l : (k : Member) × IsLeft store.events store.paths x k × StandsAt k.term stop = told x ex in
    let one : l.0 ≡ m = one_item (path_state store.events x) l.0 m l.1.state sm in
    subst (λ k. StandsAt k.term stops.Choice) one (subst (StandsAt l.0.term) e l.2)

pub are_ends : (store : Trail) (p q : ℕ) (first second : Stop) (c d : ℕ) (v : List Atom) → first ≡ stops.Send c v
    → second ≡ stops.Recv d → c ≡ d → IsStop store p first → IsStop store q second → AreMeetingEnds store p q
are_ends store p q first second c d v e f same tp tq x y a b ex ey sa sb =
    let l : (k : Member) × IsLeft store.events store.paths x k × StandsAt k.term first = tp x ex in
    let m : (k : Member) × IsLeft store.events store.paths y k × StandsAt k.term second = tq y ey in
    let one : l.0 ≡ a = one_item (path_state store.events x) l.0 a l.1.state sa in
    let two : m.0 ≡ b = one_item (path_state store.events y) m.0 b m.1.state sb in
    let sends : sending a.term ≡ Some (record { channel = c; value = v }) = subst (λ k. StandsAt k.term (stops.Send c v)) one (subst (StandsAt l.0.term) e l.2) in
    let receives : receiving b.term ≡ Some d = subst (λ k. StandsAt k.term (stops.Recv d)) two (subst (StandsAt m.0.term) f m.2) in
    record { message = record { channel = c; value = v }; sends = sends; receives = receives ∙ ap Some (sym same) }

pub agreeing : (store : Trail) (p q : ℕ) (answer : Bool) → answer ≡ true → TellsWhether store.paths p q Agree answer → AreAgreeing store p q
agreeing store p q answer e tells x y ex ey = (tells x y ex ey).0 e

pub meeting_apart : (paths : List Path) (k p q : ℕ) (n : PathRecord) → Here paths k n → (n.parent ≡ p → ⊥) → IsNoMeeting paths p q k
meeting_apart paths k p q n h free x z y ex ez ey is = free (h.parent p x y ex ey (ap parent_of is))

pub event_thread : (events : List Planned) (store : Trail) → members_of events ≡ store.events → (i : ℕ) (e : Planned)
    → slice_get events i ≡ Some e → (m : Member) → slice_get store.events i ≡ Some m → m.thread ≡ e.thread
event_thread events store v i e at m em =
    let there : slice_get (members_of events) i ≡ Some (member_of_event e) = slice_get-map member_of_event events i ∙ ap (option_map member_of_event) at in
    ap (λ z. z.thread) (one_item (slice_get (members_of events) i) m (member_of_event e) (ap (λ es. slice_get es i) v ∙ em) there)

pub absent_by : (g : List Member) (t n : ℕ) → length g ≤ n → NoneBefore (IsNoEvent g t) n → member_of t g ≡ None
absent_by [] t n h none = refl
absent_by (x ∷ g) t zero h none = absurd (omega (arith, h))
absent_by (x ∷ g) t (suc n) h none = go (absent_by g t n (omega (arith, h)) (λ k less. none (suc k) (omega (arith, less)))) (nat_eq x.thread t) refl
  where
    go : member_of t g ≡ None → (o : Bool) → nat_eq x.thread t ≡ o → cond o (Some x) (member_of t g) ≡ None
    go ih true w = absurd (none zero (omega arith) x refl (eqb-true x.thread t w))
    go ih false w = ih

pub other_thread : (events : List Planned) (store : Trail) → members_of events ≡ store.events
    → (i : ℕ) (e : Planned) (t : ℕ) → slice_get events i ≡ Some e → nat_eq e.thread t ≡ false
    → IsNoEvent store.events t i
other_thread events store v i e t at free m em same = clash (nat_eq e.thread t) (eq-eqb e.thread t (sym (event_thread events store v i e at m em) ∙ same)) free
