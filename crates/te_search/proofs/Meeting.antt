-- A path in hand meets the kept ends that are its partners, one after the other.
use Rattle.std.proofs.Common.{◌≡◌, ◌≤◌, ◌<◌, inl, inr, ℕ, zero, suc, ◌+◌, List, [], ◌∷◌, ◌++◌, length, map, Bool, true}
use Rattle.std.proofs.Common.{false, not, cond, nat_eq, Option, Some, MatchBool, slice_get, get_or, refl, ap, sym, ◌∙◌}
use Rattle.std.proofs.Common.{subst, arith, append_assoc, append-nil, length-append, eq-or-lt_of_le, eq-eqb, true≢false}
use Rattle.std.specs.List.{filter, IsDistinct, AllByRecursion}
use Rattle.std.proofs.lemmas.Map.Keys.{IsDistinct-head, IsDistinct-tail}
use Rattle.te_terms.specs.Steps.{Member}
use Rattle.te_trail.specs.Paths.{Path, sent, got}
use Rattle.te_trail.specs.Stores.{Holds}
use Rattle.te_trail.specs.Trails.{Trail, FaceEachOther}
use Rattle.te_trail.specs.Clocks.{Agree, IsSound}
use Rattle.te_trail.proofs.ClockLaws.{agrees_by, agree_by}
use Rattle.te_trail.proofs.AgreeIsExact.{agree_flip}
use Rattle.te_trail.specs.States.{path_state}
use Rattle.te_pair.specs.declared.end.End.{End}
use Rattle.te_pair.specs.Ends.{paths_kept, PathIsKept, is_at, paths_at}
use Rattle.te_pair.proofs.PartnersFound.{at_told, at_is}
use Rattle.te_search.specs.declared.work.Work.{Work}
use Rattle.te_search.specs.Searching.{paths_by, AreUp}
use Rattle.te_trail.specs.Records.{path_at}
use Rattle.te_search.specs.Works.{label_told, pending_of, IsWorkOf, IsWorkOn, CanMeet, met_paths, WaitsOn, MeetsOne, others_of, IsMeeting}
use Rattle.te_search.proofs.ListLaws.{holds_left, holds_right, holds_which}
use Rattle.te_trail.proofs.StoresHold.{held}
use Rattle.te_search.proofs.Trying.{path_there}
use Rattle.te_terms.proofs.Lists.{get_some, found_here, get-longer}
use Rattle.te_search.proofs.Trying as trying
use Rattle.te_search.proofs.Working.{gains_both, ups_more}

-- ---- the kept paths of a direction and channel

-- a kept end that stands there
pub record IsThere (ends : List End) (channel : ℕ) (sends : Bool) (q : ℕ) : Type 0 where
  pub place : ℕ
  pub end : End
  pub is : slice_get ends place ≡ Some end
  pub path : end.path ≡ q
  pub channel_is : end.channel ≡ channel
  pub sends_is : end.sends ≡ sends

pub end_of_other : (ends : List End) (channel : ℕ) (sends : Bool) (j q : ℕ) → slice_get (paths_at channel sends ends) j ≡ Some q → IsThere ends channel sends q
end_of_other [] channel sends j q e = cc
end_of_other (d ∷ ends) channel sends j q e = go (is_at channel sends d) refl (λ i. end_of_other ends channel sends i q) j e
  where
    later : IsThere ends channel sends q → IsThere (d ∷ ends) channel sends q
    later t = record { place = suc t.place; end = t.end; is = t.is; path = t.path; channel_is = t.channel_is; sends_is = t.sends_is }

    go : (b : Bool) → is_at channel sends d ≡ b → ((i : ℕ) → slice_get (paths_at channel sends ends) i ≡ Some q → IsThere ends channel sends q) → (j : ℕ)
        → slice_get (paths_kept (cond b (d ∷ filter (is_at channel sends) ends) (filter (is_at channel sends) ends))) j ≡ Some q → IsThere (d ∷ ends) channel sends q
    go true w ih zero e = record { place = 0; end = d; is = refl; path = cc; channel_is = (at_told channel sends d w).0; sends_is = (at_told channel sends d w).1 }
    go true w ih (suc j) e = later (ih j e)
    go false w ih j e = later (ih j e)

pub other_of_end : (ends : List End) (channel : ℕ) (sends : Bool) (i : ℕ) (e : End) → slice_get ends i ≡ Some e → e.channel ≡ channel → e.sends ≡ sends
    → (j : ℕ) × (slice_get (paths_at channel sends ends) j ≡ Some e.path)
other_of_end [] channel sends i e h c s = cc
other_of_end (d ∷ ends) channel sends zero e h c s = (let one : d ≡ e = cc in go (is_at channel sends d) (ap (is_at channel sends) one ∙ at_is channel sends e c s) one)
  where
    go : (b : Bool) → b ≡ true → d ≡ e → (j : ℕ) × (slice_get (paths_kept (cond b (d ∷ filter (is_at channel sends) ends) (filter (is_at channel sends) ends))) j ≡ Some e.path)
    go true w one = (0, ap (λ k. Some k.path) one)
    go false w one = cc
other_of_end (d ∷ ends) channel sends (suc i) e h c s = go (is_at channel sends d) (other_of_end ends channel sends i e h c s)
  where
    go : (b : Bool) → (j : ℕ) × (slice_get (paths_at channel sends ends) j ≡ Some e.path)
        → (j : ℕ) × (slice_get (paths_kept (cond b (d ∷ filter (is_at channel sends) ends) (filter (is_at channel sends) ends))) j ≡ Some e.path)
    go true (j, f) = (suc j, f)
    go false k = k

same_path : (paths : List Path) (n m : ℕ) (y z : Path) → n ≡ m → slice_get paths n ≡ Some y → slice_get paths m ≡ Some z → z ≡ y
same_path paths n m y z same ey ez = (let f : slice_get paths n ≡ Some z = subst (λ i. slice_get paths i ≡ Some z) (sym same) ez in cc)

same_number : (others : List ℕ) (n j q r : ℕ) → j ≡ n → slice_get others n ≡ Some q → slice_get others j ≡ Some r → q ≡ r
same_number others n j q r same en ej = (let f : slice_get others n ≡ Some r = subst (λ i. slice_get others i ≡ Some r) same ej in cc)

not_again : (n : ℕ) (ns : List ℕ) (j q : ℕ) → AllByRecursion (λ y. nat_eq n y ≡ false) ns → slice_get ns j ≡ Some q → n ≡ q → ⊥
not_again n [] j q a f s = cc
not_again n (m ∷ ns) zero q a f s = (let t : n ≡ m = cc in true≢false (sym (eq-eqb n m t) ∙ a.0))
not_again n (m ∷ ns) (suc j) q a f s = not_again n ns j q a.1 f s

-- no number stands at two places
distinct_places : (ns : List ℕ) → IsDistinct nat_eq ns → (i j q : ℕ) → slice_get ns i ≡ Some q → slice_get ns j ≡ Some q → i ≡ j
distinct_places [] d i j q e f = cc
distinct_places (n ∷ ns) d zero zero q e f = refl
distinct_places (n ∷ ns) d zero (suc j) q e f = (let s : n ≡ q = cc in absurd (not_again n ns j q (IsDistinct-head nat_eq n ns d) f s))
distinct_places (n ∷ ns) d (suc i) zero q e f = (let s : n ≡ q = cc in absurd (not_again n ns i q (IsDistinct-head nat_eq n ns d) e s))
distinct_places (n ∷ ns) d (suc i) (suc j) q e f = ap suc (distinct_places ns (IsDistinct-tail nat_eq n ns d) i j q e f)

-- ---- meetings, path by path

pub meeting_starts : (old : Work) (p : ℕ) (x : Path) (sends : Bool) (others : List ℕ) → IsWorkOn old p → IsMeeting old old x sends others 0
meeting_starts old p x sends others w = record {
  news = [];
  gains = record {
    paths = sym (append-nil old.store.paths);
    events = refl;
    store = w.search.store;
    pending = sym (append-nil (pending_of old));
    pending_low = w.pending_low;
    moves = sym (append-nil (map label_told old.moves.items));
    waiting = refl;
    finals = refl;
    groups = refl;
  };
  ups = w.search.ups;
  made = λ j q y h. absurd (omega (arith, h));
  from = λ z h. absurd h;
}

-- the receiver's path and the sender's path of a pair
abbrev pub sender_of : Bool → Path → Path → Path
sender_of true x y = x
sender_of false x y = y

abbrev pub receiver_of : Bool → Path → Path → Path
receiver_of true x y = y
receiver_of false x y = x

met_is : (s : Bool) (x y : Path) → met_paths s x y ≡ sent (sender_of s x y) (receiver_of s x y) ∷ (got (sender_of s x y) (receiver_of s x y) ∷ [])
met_is true x y = refl
met_is false x y = refl

ups_met : (paths : List Path) (s r : Path) → AreUp paths → Holds paths s → Holds paths r → AreUp (paths ++ (sent s r ∷ (got s r ∷ [])))
ups_met paths s r ups hs hr = subst AreUp (append_assoc paths (sent s r ∷ []) (got s r ∷ []))
    (ups_more (paths ++ (sent s r ∷ [])) (got s r) (ups_more paths (sent s r) ups (λ y e. (let one : s ≡ y = cc in subst (Holds paths) one hs)))
    (λ y e. (let one : r ≡ y = cc in subst (Holds (paths ++ (sent s r ∷ []))) one (holds_left paths (sent s r ∷ []) r hr))))

made_of : (s : Bool) (paths : List Path) (x y : Path) → Holds paths x → Holds paths y → Holds paths (sender_of s x y) × Holds paths (receiver_of s x y)
made_of true paths x y hx hy = (hx, hy)
made_of false paths x y hx hy = (hy, hx)

-- one more of the others
pub meeting_more : (old cur new : Work) (x y : Path) (sends : Bool) (others : List ℕ) (n q : ℕ) → Holds old.store.paths x → slice_get others n ≡ Some q → slice_get old.store.paths q ≡ Some y
    → IsMeeting old cur x sends others n → MeetsOne cur new x y sends → IsMeeting old new x sends others (n + 1)
meeting_more old cur new x y sends others n q hx en ey m (inr (not_it, same)) = subst (λ w. IsMeeting old w x sends others (n + 1)) (sym same) (record {
  news = m.news;
  gains = m.gains;
  ups = m.ups;
  made = λ j r z h ej ez ag w hw. elim (eq-or-lt_of_le (let k : j ≤ n = omega (arith, h) in k)) [
    | inl same_place ↦ absurd (not_it (subst (Agree x) (same_path old.store.paths q r y z (same_number others n j q r same_place en ej) ey ez) ag))
    | inr l ↦ m.made j r z l ej ez ag w hw
  ];
  from = λ z h. (let f = m.from z h in (f.0, f.1, f.2, (let k : f.0 < n + 1 = omega (arith, f.3) in k), f.4, f.5, f.6, f.7));
})
meeting_more old cur new x y sends others n q hx en ey m (inl (ag, g)) = record {
  news = m.news ++ met_paths sends x y;
  gains = gains_both old cur new m.news (met_paths sends x y) m.gains g;
  ups = subst AreUp (sym g.paths) (subst (λ l. AreUp (cur.store.paths ++ l)) (sym (met_is sends x y))
      (ups_met cur.store.paths (sender_of sends x y) (receiver_of sends x y) m.ups
      (made_of sends cur.store.paths x y (old_in x hx) (old_in y (held old.store.paths q y ey))).0
      (made_of sends cur.store.paths x y (old_in x hx) (old_in y (held old.store.paths q y ey))).1));
  made = λ j r z h ej ez ag2 w hw. elim (eq-or-lt_of_le (let k : j ≤ n = omega (arith, h) in k)) [
    | inl same_place ↦ holds_right m.news (met_paths sends x y) w
        (subst (λ k. Holds (met_paths sends x k) w) (same_path old.store.paths q r y z (same_number others n j q r same_place en ej) ey ez) hw)
    | inr l ↦ holds_left m.news (met_paths sends x y) w (m.made j r z l ej ez ag2 w hw)
  ];
  from = λ z h. elim (holds_which m.news (met_paths sends x y) z h) [
    | inl a ↦ (let f = m.from z a in (f.0, f.1, f.2, (let k : f.0 < n + 1 = omega (arith, f.3) in k), f.4, f.5, f.6, f.7))
    | inr b ↦ (n, q, y, (let k : n < n + 1 = omega arith in k), en, ey, ag, b)
  ];
}
  where
    old_in : (r : Path) → Holds old.store.paths r → Holds cur.store.paths r
    old_in r h = subst (λ l. Holds l r) (sym m.gains.paths) (holds_left old.store.paths m.news r h)

-- ---- a partner can be met

pub number_there : (ends : List End) (i : ℕ) (e : End) → slice_get ends i ≡ Some e → slice_get (paths_kept ends) i ≡ Some e.path
number_there [] i e h = cc
number_there (d ∷ ends) zero e h = (let one : d ≡ e = cc in ap (λ q. Some q.path) one)
number_there (d ∷ ends) (suc i) e h = number_there ends i e h

pub end_low : (w : Work) (pending : List Path) → IsWorkOf w pending → (i : ℕ) (e : End) → slice_get w.waiting i ≡ Some e → e.path < length w.store.paths
end_low w pending k i e h = k.waits_low i e.path (number_there w.waiting i e h)

-- what a copy of the others lists
pub listed_at : (copy lent others : List ℕ) (i q : ℕ) → i < length copy → q ≡ get_or copy i q → copy ≡ lent → lent ≡ others → slice_get others i ≡ Some q
listed_at copy lent others i q low is a b = subst (λ l. slice_get l i ≡ Some q) (a ∙ b) (found_here copy i q low is)

-- the path isn't kept yet
pub not_kept : (w : Work) (p : ℕ) (x : Path) → IsWorkOn w p → slice_get w.store.paths p ≡ Some x → ¬ PathIsKept w.waiting p
not_kept w p x k ex (i, low, is) =
    let e : slice_get (paths_kept w.waiting) i ≡ Some p = found_here (paths_kept w.waiting) i p low (sym is) in
    let h : Holds (paths_by w.store.paths (paths_kept w.waiting)) x = held (paths_by w.store.paths (paths_kept w.waiting)) i x (trying.paths_at w.store.paths (paths_kept w.waiting) i p x e ex) in
    (k.search.pending_apart x (subst (λ q. Holds (pending_of w ++ (q ∷ [])) x) (sym (path_there w.store.paths p x ex)) (holds_right (pending_of w) (x ∷ []) x (inl refl)))).0 h

pub other_low : (w : Work) (pending : List Path) (channel : ℕ) (sends : Bool) → IsWorkOf w pending → (j q : ℕ) → slice_get (others_of w channel sends) j ≡ Some q → q < length w.store.paths
other_low w pending channel sends k j q e = (let t : IsThere w.waiting channel (not sends) q = end_of_other w.waiting channel (not sends) j q e in
    subst (λ n. n < length w.store.paths) t.path (end_low w pending k t.place t.end t.is))

pub can_meet : (store : Trail) (p q : ℕ) (x y : Path) (a b : Member) → slice_get store.paths p ≡ Some x → slice_get store.paths q ≡ Some y → path_state store.events x ≡ Some a
    → path_state store.events y ≡ Some b → FaceEachOther a b → Agree x y → (¬ Holds store.paths (sent x y)) → CanMeet store p q
can_meet store p q x y a b ex ey sa sb face ag un = record {
  stand = λ u v c d eu ev su sv. (let one : x ≡ u = same_got store.paths p x u ex eu in let two : y ≡ v = same_got store.paths q y v ey ev in let s : a ≡ c = same_some
      (path_state store.events u) a c (ap (path_state store.events) (sym one) ∙ sa) su in let t : b ≡ d = same_some (path_state store.events v) b d
      (ap (path_state store.events) (sym two) ∙ sb) sv in subst (λ k. FaceEachOther k d) s (subst (FaceEachOther a) t face));
  agree = λ u v eu ev. subst (λ k. Agree k v) (same_got store.paths p x u ex eu) (subst (Agree x) (same_got store.paths q y v ey ev) ag);
  unmet = λ u v eu ev. subst (λ k. ¬ Holds store.paths (sent k v)) (same_got store.paths p x u ex eu) (subst (λ k. ¬ Holds store.paths (sent x k)) (same_got store.paths q y v ey ev) un);
}
  where
    same_some : (o : Option Member) (c d : Member) → o ≡ Some c → o ≡ Some d → c ≡ d
    same_some o c d e f = cc

    same_got : (paths : List Path) (n : ℕ) (u v : Path) → slice_get paths n ≡ Some u → slice_get paths n ≡ Some v → u ≡ v
    same_got paths n u v e f = cc

pub face_by : (g : List Member) (x y : Path) (channel : ℕ) → (a : WaitsOn g x channel true) → (b : WaitsOn g y channel false) → FaceEachOther a.member b.member
face_by g x y channel a b = record { message = a.stands.0; sends = a.stands.1; receives = b.stands ∙ ap Some (sym a.stands.2) }

pub agree_flips : (x y : Path) → IsSound x → IsSound y → Agree x y → Agree y x
agree_flips x y sx sy a = agree_by y x (agree_flip x y (agrees_by x y sx sy a))

in_pair : (s : Bool) (x y v : Path) → Holds (met_paths s x v) (sent (sender_of s x y) (receiver_of s x y)) → v ≡ y
in_pair true x y v (inl e) = cc
in_pair true x y v (inr (inl e)) = cc
in_pair true x y v (inr (inr n)) = absurd n
in_pair false x y v (inl e) = cc
in_pair false x y v (inr (inl e)) = cc
in_pair false x y v (inr (inr n)) = absurd n

own_of : (s : Bool) (P : Path → Type 0) (x y : Path) → P (sender_of s x y) → P (receiver_of s x y) → P x
own_of true P x y a b = a
own_of false P x y a b = b

-- the two haven't met yet
pub still_unmet : (old cur : Work) (p : ℕ) (x y : Path) (sends : Bool) (others : List ℕ) (n q : ℕ) → IsWorkOn old p → slice_get old.store.paths p ≡ Some x
    → slice_get old.store.paths q ≡ Some y → slice_get others n ≡ Some q → ((i j r : ℕ) → slice_get others i ≡ Some r → slice_get others j ≡ Some r → i ≡ j)
    → IsMeeting old cur x sends others n → ¬ Holds cur.store.paths (sent (sender_of sends x y) (receiver_of sends x y))
still_unmet old cur p x y sends others n q w ex ey en once m h = elim
    (holds_which old.store.paths m.news (sent (sender_of sends x y) (receiver_of sends x y))
    (subst (λ l. Holds l (sent (sender_of sends x y) (receiver_of sends x y))) m.gains.paths h)) [
      | inl o ↦ (let k : Holds waits (sender_of sends x y) × Holds waits (receiver_of sends x y) = w.search.met_from (sender_of sends x y) (receiver_of sends x y) o in free
          (own_of sends (Holds waits) x y k.0 k.1))
      | inr new ↦ nothing (m.from (sent (sender_of sends x y) (receiver_of sends x y)) new)
    ]
  where
    waits : List Path
    waits = paths_by old.store.paths (paths_kept old.waiting)

    free : ¬ Holds waits x
    free = (w.search.pending_apart x (subst (λ k. Holds (pending_of old ++ (k ∷ [])) x) (sym (path_there old.store.paths p x ex)) (holds_right (pending_of old) (x ∷ []) x (inl refl)))).0

    nothing : (j : ℕ) × (r : ℕ) × (v : Path) × (j < n) × (slice_get others j ≡ Some r) × (slice_get old.store.paths r ≡ Some v) × Agree x v
        × Holds (met_paths sends x v) (sent (sender_of sends x y) (receiver_of sends x y)) → ⊥
    nothing (j, r, v, jn, er, ev, ag, hm) =
        let s : v ≡ y = in_pair sends x y v hm in
        let same : r ≡ q = w.search.store.once r q y (ev ∙ ap Some s) ey in
        let place : j ≡ n = once j n q (er ∙ ap Some same) en in
        absurd (omega (arith, place, jn))

pub same_channel : (g : List Member) (y : Path) (c d : ℕ) (s t : Bool) → c ≡ d → s ≡ t → WaitsOn g y c s → WaitsOn g y d t
same_channel g y c d s t e f h = subst (λ k. WaitsOn g y k t) e (subst (WaitsOn g y c) f h)

-- one of the others stands on the other side of the channel
pub other_stands : (w : Work) (pending : List Path) (channel : ℕ) (sends : Bool) → IsWorkOf w pending → (j q : ℕ) (y : Path) → slice_get (others_of w channel sends) j ≡ Some q
    → slice_get w.store.paths q ≡ Some y → WaitsOn w.store.events y channel (not sends)
other_stands w pending channel sends k j q y e ey = (let t : IsThere w.waiting channel (not sends) q = end_of_other w.waiting channel (not sends) j q e in
    same_channel w.store.events y t.end.channel channel t.end.sends (not sends) t.channel_is t.sends_is (k.ends t.place t.end y t.is (ap (slice_get w.store.paths) t.path ∙ ey)))

pub meeting_ready : (old cur : Work) (p : ℕ) (x y : Path) (channel : ℕ) (sends : Bool) (n q : ℕ) → IsWorkOn old p → slice_get old.store.paths p ≡ Some x
    → slice_get old.store.paths q ≡ Some y → WaitsOn old.store.events x channel sends → slice_get (others_of old channel sends) n ≡ Some q → IsDistinct nat_eq (others_of old channel sends)
    → IsMeeting old cur x sends (others_of old channel sends) n → Agree x y → MatchBool sends (CanMeet cur.store p q) (CanMeet cur.store q p)
meeting_ready old cur p x y channel true n q w ex ey stands en once m ag =
    let other : WaitsOn old.store.events y channel false = other_stands old (pending_of old ++ (path_at old.store.paths p ∷ [])) channel true w n q y en ey in
    can_meet cur.store p q x y stands.member other.member (ap (λ k. slice_get k p) m.gains.paths ∙ get-longer old.store.paths m.news p x ex)
    (ap (λ k. slice_get k q) m.gains.paths ∙ get-longer old.store.paths m.news q y ey)
    (ap (λ g. path_state g x) m.gains.events ∙ stands.state) (ap (λ g. path_state g y) m.gains.events ∙ other.state) (face_by old.store.events x y channel stands other) ag
    (still_unmet old cur p x y true (others_of old channel true) n q w ex ey en (distinct_places (others_of old channel true) once) m)
meeting_ready old cur p x y channel false n q w ex ey stands en once m ag =
    let other : WaitsOn old.store.events y channel true = other_stands old (pending_of old ++ (path_at old.store.paths p ∷ [])) channel false w n q y en ey in
    let hx : Holds old.store.paths x = held old.store.paths p x ex in
    let hy : Holds old.store.paths y = held old.store.paths q y ey in
    can_meet cur.store q p y x other.member stands.member (ap (λ k. slice_get k q) m.gains.paths ∙ get-longer old.store.paths m.news q y ey)
    (ap (λ k. slice_get k p) m.gains.paths ∙ get-longer old.store.paths m.news p x ex)
    (ap (λ g. path_state g y) m.gains.events ∙ other.state) (ap (λ g. path_state g x) m.gains.events ∙ stands.state) (face_by old.store.events y x channel other stands)
    (agree_flips x y (w.search.store.sound x hx) (w.search.store.sound y hy) ag)
    (still_unmet old cur p x y false (others_of old channel false) n q w ex ey en (distinct_places (others_of old channel false) once) m)

-- ---- what is still there

pub old_number : (old cur : Work) (x : Path) (sends : Bool) (others : List ℕ) (n : ℕ) → IsMeeting old cur x sends others n → (p : ℕ) → p < length old.store.paths → p < length cur.store.paths
old_number old cur x sends others n m p low = let l : length cur.store.paths ≡ length old.store.paths + length m.news = ap length m.gains.paths
    ∙ length-append old.store.paths m.news in omega (arith, l, low)

pub old_path : (old cur : Work) (x : Path) (sends : Bool) (others : List ℕ) (n : ℕ) → IsMeeting old cur x sends others n → (p : ℕ) (u : Path) → p < length old.store.paths
    → slice_get cur.store.paths p ≡ Some u → slice_get old.store.paths p ≡ Some u
old_path old cur x sends others n m p u low e =
    let y : (y : Path) × (slice_get old.store.paths p ≡ Some y) = get_some old.store.paths p low in
    let there : slice_get cur.store.paths p ≡ Some y.0 = ap (λ q. slice_get q p) m.gains.paths ∙ get-longer old.store.paths m.news p y.0 y.1 in
    y.1 ∙ sym there ∙ e
