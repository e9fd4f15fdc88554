-- A path of a batch that waits meets its lower partners.
use Rattle.std.proofs.Common.{◌≡◌, ◌≢◌, ◌≤◌, ◌<◌, ◌↔◌, inl, inr, ℕ, zero, suc, ◌+◌, List, [], ◌∷◌, ◌++◌}
use Rattle.std.proofs.Common.{length, map, take, Bool, true, false, not, cond, Some, MatchBool, get_or}
use Rattle.std.proofs.Common.{ltb}
use Rattle.std.proofs.Common.{slice_get, refl, ap, sym, ◌∙◌, subst, subst₂, arith, append_assoc, append-nil}
use Rattle.std.proofs.Common.{length-append, eq-or-lt_of_le}
use Rattle.std.proofs.lemmas.Bool.{lt-ltb, ltb-true, ltb-false}
use Rattle.std.proofs.lemmas.List.Kept.{AllPairs-from_increasing}
use Rattle.std.specs.List.Sorted.{IsStrictlyIncreasing}
use Rattle.std.specs.List.{Contains}
use Rattle.te_terms.specs.Steps.{Member}
use Rattle.te_terms.specs.Joint.{sending, receiving}
use Rattle.te_terms.proofs.OneThing.{send_is_alone, receive_is_alone}
use Rattle.te_trail.specs.Paths.{Path, sent}
use Rattle.te_trail.specs.Clocks.{Agree}
use Rattle.te_trail.specs.States.{path_state}
use Rattle.te_trail.specs.Stores.{Holds}
use Rattle.te_trail.specs.Trails.{Trail}
use Rattle.te_pair.specs.declared.end.End.{End}
use Rattle.te_pair.specs.Ends.{StandsOn, IsEnd, IsAtEnd, IsPartner}
use Rattle.te_search.specs.declared.work.Work.{Work}
use Rattle.te_search.specs.Searching.{paths_by}
use Rattle.te_trail.specs.Records.{path_at}
use Rattle.te_search.specs.Works.{label_told, pending_of, CanMeet, Gains, met_paths, WaitsOn, others_of, IsMeeting}
use Rattle.te_search.specs.Batches.{meetings_with}
use Rattle.te_search.specs.Batching.{ends_below, IsLeftFrom, EndsAreKept, BatchIsOpen}
use Rattle.te_trail.proofs.StoresHold.{held}
use Rattle.te_search.proofs.Trying.{path_there}
use Rattle.te_terms.proofs.Lists.{get_low}
use Rattle.te_terms.proofs.Lists.{get_at}
use Rattle.te_terms.proofs.Lists.{get_some}
use Rattle.te_search.proofs.NumbersListed.{take_one}
use Rattle.te_terms.proofs.Lists.{found_here}
use Rattle.te_search.proofs.Working.{map_both}
use Rattle.te_terms.proofs.Lists.{get-longer}
use Rattle.te_search.proofs.Meeting.{IsThere, end_of_other, other_of_end, sender_of, receiver_of, meeting_more}
use Rattle.te_search.proofs.Meeting.{can_meet, face_by, agree_flips, still_unmet}
use Rattle.te_search.proofs.Waiting.{wait_done}
use Rattle.te_terms.proofs.Lists.{never_both}
use Rattle.te_pair.proofs.EndsTold.{one_state}
use Rattle.te_search.proofs.GoneOn.{AreFew, seen_from, gains_seen, in_hand, left_so, below_next, open_next}

-- ---- directions

turned : (a b : Bool) → a ≡ not b → a ≢ b
turned a true h e = cc
turned a false h e = cc

other_side : (a b : Bool) → a ≢ b → a ≡ not b
other_side true true h = absurd (h refl)
other_side true false h = refl
other_side false true h = refl
other_side false false h = absurd (h refl)

-- ---- where a path stands, told in two ways

stands_on : (sends : Bool) (channel : ℕ) (g : List Member) (x : Path) → (s : WaitsOn g x channel sends)
    → StandsOn sends channel s.member
stands_on true channel g x s = s.stands
stands_on false channel g x s = s.stands

-- the member that it stands at stands so
pub stands_here : (g : List Member) (sends : Bool) (channel : ℕ) (x : Path) (m : Member) → WaitsOn g x channel sends
    → path_state g x ≡ Some m → StandsOn sends channel m
stands_here g sends channel x m s st = subst (StandsOn sends channel) (one_state (path_state g x) s.member m s.state st)
    (stands_on sends channel g x s)

on_stands : (sends : Bool) (channel : ℕ) (g : List Member) (x : Path) (m : Member) → path_state g x ≡ Some m
    → StandsOn sends channel m → WaitsOn g x channel sends
on_stands true channel g x m st s = record { member = m; state = st; stands = s }
on_stands false channel g x m st s = record { member = m; state = st; stands = s }

-- it stands in one way
pub stands_once : (g : List Member) (x : Path) (c d : ℕ) (s t : Bool) → WaitsOn g x c s → WaitsOn g x d t
    → (c ≡ d) × (s ≡ t)
stands_once g x c d true true a b =
    let one : a.member ≡ b.member = one_state (path_state g x) a.member b.member a.state b.state in
    let m : Some a.stands.0 ≡ Some b.stands.0 = sym a.stands.1 ∙ ap (λ k. sending k.term) one ∙ b.stands.1 in
    (sym a.stands.2 ∙ ap (λ k. k.channel) (let q : a.stands.0 ≡ b.stands.0 = cc in q) ∙ b.stands.2, refl)
stands_once g x c d false false a b =
    let one : a.member ≡ b.member = one_state (path_state g x) a.member b.member a.state b.state in
    let m : Some c ≡ Some d = sym a.stands ∙ ap (λ k. receiving k.term) one ∙ b.stands in
    ((let q : c ≡ d = cc in q), refl)
stands_once g x c d true false a b =
    let one : a.member ≡ b.member = one_state (path_state g x) a.member b.member a.state b.state in
    absurd (never_both (receiving a.member.term) d (send_is_alone a.member a.member.term a.stands.0 a.stands.1).2
    (ap (λ k. receiving k.term) one ∙ b.stands))
stands_once g x c d false true a b =
    let one : a.member ≡ b.member = one_state (path_state g x) a.member b.member a.state b.state in
    absurd (never_both (sending a.member.term) b.stands.0 (receive_is_alone a.member a.member.term c a.stands).2
    (ap (λ k. sending k.term) one ∙ b.stands.1))

end_stands : (store : Trail) (e : End) (x : Path) → IsEnd store e → slice_get store.paths e.path ≡ Some x
    → WaitsOn store.events x e.channel e.sends
end_stands store e x h ex = (let one : h.of ≡ x = (let k : Some h.of ≡ Some x = sym h.made ∙ ex in cc) in
    subst (λ y. WaitsOn store.events y e.channel e.sends) one
    (on_stands e.sends e.channel store.events h.of h.member h.state h.stands))

pub stands_end : (store : Trail) (e : End) (x : Path) → slice_get store.paths e.path ≡ Some x
    → WaitsOn store.events x e.channel e.sends → IsEnd store e
stands_end store e x ex s = record {
  of = x;
  made = ex;
  member = s.member;
  state = s.state;
  stands = stands_on e.sends
      e.channel store.events x s;
}

pub at_end_stands : (store : Trail) (p : ℕ) (x : Path) (m : Member) → slice_get store.paths p ≡ Some x
    → path_state store.events x ≡ Some m → IsAtEnd store p
    → (channel : ℕ) × (sends : Bool) × WaitsOn store.events x channel sends
at_end_stands store p x m ex st at = (let a : (sends : Bool) ×
    (channel : ℕ) × StandsOn sends channel m = at x m ex st in (a.1, a.0, on_stands a.0 a.1 store.events x m st a.2))

-- ---- elements and places

pub contains_at : {A : Type 0} (xs : List A) (i : ℕ) (x : A) → slice_get xs i ≡ Some x → Contains xs x
contains_at xs i x e = (
  i,
  get_low xs x i e,
  (let k : slice_get xs i ≡ Some (get_or xs i x) = get_at xs i x
      (get_low xs x i e) in let two : Some (get_or xs i x) ≡ Some x = sym k ∙ e in cc),
)

pub place_in : {A : Type 0} (xs : List A) (x : A) → Contains xs x → (i : ℕ) × (slice_get xs i ≡ Some x)
place_in xs x c = (c.0, found_here xs c.0 x c.1 (sym c.2))

-- ---- partners

-- a lower kept end of the other direction on the channel, whose path agrees
pub record IsOther (w : Work) (n : ℕ) (x : Path) (channel : ℕ) (sends : Bool) (q : ℕ) : Type 0 where
  pub lower : q < n
  pub path : Path
  pub is : slice_get w.store.paths q ≡ Some path
  pub stands : WaitsOn w.store.events path channel (not sends)
  pub agree : Agree x path

pub from_partner : (w : Work) (n batched : ℕ) (x : Path) (channel : ℕ) (sends : Bool) (q : ℕ) → EndsAreKept w batched
    → slice_get w.store.paths n ≡ Some x → WaitsOn w.store.events x channel sends
    → q < n → IsPartner w.store w.waiting n q → IsOther w n x channel sends q
from_partner w n batched x channel sends q k ex stands low h = by (place_in w.waiting h.other h.other_kept)
    (get_some w.store.paths q (let l : n < length w.store.paths = get_low w.store.paths x n ex in
    omega (arith, l, low)))
  where
    one : (h.own.channel ≡ channel) × (h.own.sends ≡ sends)
    one = stands_once w.store.events x h.own.channel channel h.own.sends sends
        (end_stands w.store h.own x h.own_end (ap (slice_get w.store.paths) h.own_path ∙ ex)) stands

    by : (i : ℕ) × (slice_get w.waiting i ≡ Some h.other) → (y : Path) × (slice_get w.store.paths q ≡ Some y)
        → IsOther w n x channel sends q
    by (i, ei) (y, ey) = record {
      lower = low;
      path = y;
      is = ey;
      stands = subst₂ (λ c s. WaitsOn w.store.events y c s) (h.channel ∙ one.0)
          (other_side h.other.sends h.own.sends h.direction ∙ ap not one.1)
          (k.ends i h.other y ei (ap (slice_get w.store.paths) h.other_path ∙ ey));
      agree = h.agree x y ex ey;
    }

pub to_partner : (w : Work) (n batched : ℕ) (x : Path) (channel : ℕ) (sends : Bool) (q : ℕ) (y : Path)
    → EndsAreKept w batched → n < batched → slice_get w.store.paths n ≡ Some x → WaitsOn w.store.events x channel sends
    → q < n → slice_get w.store.paths q ≡ Some y → WaitsOn w.store.events y channel (not sends) → Agree x y
    → IsPartner w.store w.waiting n q
to_partner w n batched x channel sends q y k last ex sx low ey sy ag = record {
  own = record { path = n; channel = channel; sends = sends };
  own_path = refl;
  own_end = stands_end w.store (record { path = n; channel = channel; sends = sends }) x ex sx;
  other = record { path = q; channel = channel; sends = not sends };
  other_path = refl;
  other_kept = (let r : (i : ℕ) × (slice_get w.waiting i ≡ Some
      (record { path = q; channel = channel; sends = not sends })) = k.all q y channel (not sends)
      (omega (arith, low, last)) ey sy in contains_at w.waiting r.0
      (record { path = q; channel = channel; sends = not sends }) r.1);
  channel = refl;
  direction = turned (not sends) sends refl;
  agree = λ u v eu ev. subst₂ Agree (same_got n x u ex eu) (same_got q y v ey ev) ag;
}
  where
    same_got : (i : ℕ) (a b : Path) → slice_get w.store.paths i ≡ Some a → slice_get w.store.paths i ≡ Some b → a ≡ b
    same_got i a b ea eb = cc

-- ---- meetings, partner by partner

take_none : (ns : List ℕ) → take 0 ns ≡ []
take_none [] = refl
take_none (n ∷ ns) = refl

meetings_last : (sends : Bool) (x : Path) (ys : List Path) (y : Path)
    → meetings_with sends x (ys ++ (y ∷ [])) ≡ meetings_with sends x ys ++ met_paths sends x y
meetings_last sends x [] y = append-nil (met_paths sends x y)
meetings_last sends x (z ∷ ys) y = ap (λ l. met_paths sends x z ++ l) (meetings_last sends x ys y)
    ∙ sym (append_assoc (met_paths sends x z) (meetings_with sends x ys) (met_paths sends x y))

-- no number stands at two places of a list that rises
pub rising_places : (ns : List ℕ) → IsStrictlyIncreasing ns → (i j q : ℕ) → slice_get ns i ≡ Some q
    → slice_get ns j ≡ Some q → i ≡ j
rising_places ns r i j q e f = by (ltb i j) refl
  where
    at : (k : ℕ) → slice_get ns k ≡ Some q → get_or ns k q ≡ q
    at k h = (let a : slice_get ns k ≡ Some (get_or ns k q) = get_at ns k q (get_low ns q k h) in let two : Some
        (get_or ns k q) ≡ Some q = sym a ∙ h in cc)

    apart : (a b : ℕ) → a < b → slice_get ns a ≡ Some q → slice_get ns b ≡ Some q → ⊥
    apart a b l ea eb = (let k : get_or ns a q < get_or ns b q = AllPairs-from_increasing ns r a b q l
        (get_low ns q b eb) in let ha : get_or ns a q ≡ q = at a ea in let hb : get_or ns b q ≡ q = at b eb in
        omega (arith, k, ha, hb))

    by : (o : Bool) → ltb i j ≡ o → i ≡ j
    by true w = absurd (apart i j (ltb-true i j w) e f)
    by false w = (let g : j ≤ i = ltb-false i j w in elim (eq-or-lt_of_le g) [
      | inl s ↦ sym s
      | inr l ↦ absurd
          (apart j i l f e)
    ])

-- the lowest path of the batch has met so many of its lower partners
pub record Meets (old cur : Work) (n : ℕ) (x : Path) (sends : Bool) (others : List ℕ) (i : ℕ) : Type 0 where
  pub meeting : IsMeeting old cur x sends others i
  pub paths : cur.store.paths ≡ old.store.paths ++ meetings_with sends x (paths_by old.store.paths (take i others))

pub meets_none : (old : Work) (n batched : ℕ) (x : Path) (sends : Bool) (others : List ℕ) → BatchIsOpen old n batched
    → Meets old old n x sends others 0
meets_none old n batched x sends others o = record {
  meeting = record {
    news = [];
    gains = record {
      paths = sym (append-nil old.store.paths);
      events = refl;
      store = o.work.search.store;
      pending = sym (append-nil (pending_of old));
      pending_low = o.work.pending_low;
      moves = sym (append-nil (map label_told old.moves.items));
      waiting = refl;
      finals = refl;
      groups = refl;
    };
    ups = o.work.search.ups;
    made = λ j q y h. absurd (omega (arith, h));
    from = λ z h. absurd h;
  };
  paths = sym (ap (λ l. old.store.paths ++ meetings_with sends x (paths_by old.store.paths l)) (take_none others)
      ∙ append-nil old.store.paths);
}

pub meets_more : (old cur new : Work) (n : ℕ) (x : Path) (sends : Bool) (others : List ℕ) (i q : ℕ) (y : Path)
    → Meets old cur n x sends others i → slice_get old.store.paths n ≡ Some x
    → slice_get others i ≡ Some q → slice_get old.store.paths q ≡ Some y → Agree x y
    → Gains cur new (met_paths sends x y) → Meets old new n x sends others (i + 1)
meets_more old cur new n x sends others i q y m ex eq ey ag g = record {
  meeting = meeting_more old cur new x y sends others i q (held old.store.paths n x ex) eq ey m.meeting
      (inl (ag, g));
  paths = g.paths ∙ ap (λ l. l ++ met_paths sends x y) m.paths
      ∙ append_assoc old.store.paths (meetings_with sends x (paths_by old.store.paths (take i others)))
      (met_paths sends x y)
      ∙ ap (λ l. old.store.paths ++ l) (sym (meetings_last sends x (paths_by old.store.paths (take i others)) y)
      ∙ ap (meetings_with sends x) (sym one_more));
}
  where
    one_more : paths_by old.store.paths (take (i + 1) others) ≡ paths_by old.store.paths (take i others) ++ (y ∷ [])
    one_more = ap (paths_by old.store.paths) (take_one others i q eq)
        ∙ map_both (path_at old.store.paths) (take i others) (q ∷ [])
        ∙ ap (λ z. paths_by old.store.paths (take i others) ++ (z ∷ [])) (path_there old.store.paths q y ey)

-- meetings as a search sees them
pub meeting_seen : (old cur : Work) (n : ℕ) (waits : List End) (x : Path) (sends : Bool) (others : List ℕ) (i : ℕ)
    (fo : AreFew old) (fc : AreFew cur) → n ≤ length old.store.paths
    → IsMeeting old cur x sends others i → IsMeeting (seen_from old n waits fo)
    (seen_from cur n waits fc) x sends others i
meeting_seen old cur n waits x sends others i fo fc low m = record {
  news = m.news;
  gains = gains_seen old cur n waits
      m.news fo fc low m.gains;
  ups = m.ups;
  made = m.made;
  from = m.from;
}

pub few_before : (old cur : Work) (x : Path) (sends : Bool) (others : List ℕ) (i : ℕ)
    → IsMeeting old cur x sends others i → AreFew cur → AreFew old
few_before old cur x sends others i m few =
    (let l : length cur.store.paths ≡ length old.store.paths + length m.news = ap length m.gains.paths
    ∙ length-append old.store.paths m.news in omega (arith, l, few))

-- the two haven't met yet
not_met : (old cur : Work) (n batched : ℕ) (x y : Path) (sends : Bool) (others : List ℕ) (i q : ℕ)
    → BatchIsOpen old n batched → AreFew cur → slice_get old.store.paths n ≡ Some x → slice_get old.store.paths q ≡ Some y
    → IsStrictlyIncreasing others → slice_get others i ≡ Some q → IsMeeting old cur x sends others i
    → ¬ Holds cur.store.paths (sent (sender_of sends x y) (receiver_of sends x y))
not_met old cur n batched x y sends others i q o few ex ey rise en m =
    let fo : AreFew old = few_before old cur x sends others i m few in
    let low : n < length old.store.paths = get_low old.store.paths x n ex in
    still_unmet (seen_from old (n + 1) (ends_below n old.waiting) fo)
    (seen_from cur (n + 1) (ends_below n old.waiting) few) n x y sends others i q
    (in_hand old n (ends_below n old.waiting) fo low o.work) ex ey en
    (rising_places others rise) (meeting_seen old cur (n + 1) (ends_below n old.waiting) x sends others i fo few
    (omega (arith, low)) m)

-- the next can be met
pub other_ready : (old cur : Work) (n batched : ℕ) (x : Path) (channel : ℕ) (sends : Bool) (others : List ℕ) (i q : ℕ)
    → BatchIsOpen old n batched → AreFew cur → slice_get old.store.paths n ≡ Some x
    → WaitsOn old.store.events x channel sends → IsStrictlyIncreasing others → slice_get others i ≡ Some q
    → IsOther old n x channel sends q → Meets old cur n x sends others i
    → MatchBool sends (CanMeet cur.store n q) (CanMeet cur.store q n)
other_ready old cur n batched x channel true others i q o few ex sx rise en h m =
    can_meet cur.store n q x h.path sx.member h.stands.member
    (ap (λ k. slice_get k n) m.meeting.gains.paths ∙ get-longer old.store.paths m.meeting.news n x ex)
    (ap (λ k. slice_get k q) m.meeting.gains.paths ∙ get-longer old.store.paths m.meeting.news q h.path h.is)
    (ap (λ g. path_state g x) m.meeting.gains.events ∙ sx.state)
    (ap (λ g. path_state g h.path) m.meeting.gains.events ∙ h.stands.state)
    (face_by old.store.events x h.path channel sx h.stands) h.agree
    (not_met old cur n batched x h.path true others i q o few ex h.is rise en m.meeting)
other_ready old cur n batched x channel false others i q o few ex sx rise en h m =
    can_meet cur.store q n h.path x h.stands.member sx.member
    (ap (λ k. slice_get k q) m.meeting.gains.paths ∙ get-longer old.store.paths m.meeting.news q h.path h.is)
    (ap (λ k. slice_get k n) m.meeting.gains.paths ∙ get-longer old.store.paths m.meeting.news n x ex)
    (ap (λ g. path_state g h.path) m.meeting.gains.events ∙ h.stands.state)
    (ap (λ g. path_state g x) m.meeting.gains.events ∙ sx.state) (face_by old.store.events h.path x channel h.stands sx)
    (agree_flips x h.path (o.work.search.store.sound x (held old.store.paths n x ex))
    (o.work.search.store.sound h.path (held old.store.paths q h.path h.is)) h.agree)
    (not_met old cur n batched x h.path false others i q o few ex h.is rise en m.meeting)

-- ---- all are met

ends_are_kept : (n : ℕ) (es : List End) (j : ℕ) (e : End) → slice_get (ends_below n es) j ≡ Some e
    → (i : ℕ) × (slice_get es i ≡ Some e) × (e.path < n)
ends_are_kept n [] j e h = cc
ends_are_kept n (d ∷ es) j e h = go (ltb d.path n) refl (λ k f. ends_are_kept n es k e f) j h
  where
    more : (i : ℕ) × (slice_get es i ≡ Some e) × (e.path < n) → (i : ℕ) × (slice_get (d ∷ es) i ≡ Some e) × (e.path < n)
    more (i, a, l) = (suc i, a, l)

    go : (o : Bool) → ltb d.path n ≡ o
        → ((k : ℕ) → slice_get (ends_below n es) k ≡ Some e → (i : ℕ) × (slice_get es i ≡ Some e) × (e.path < n))
        → (j : ℕ) → slice_get (cond o (d ∷ ends_below n es) (ends_below n es)) j ≡ Some e
        → (i : ℕ) × (slice_get (d ∷ es) i ≡ Some e) × (e.path < n)
    go true w ih zero h = (let one : d ≡ e = cc in (0, h, subst (λ q. q.path < n) one (ltb-true d.path n w)))
    go true w ih (suc j) h = more (ih j h)
    go false w ih j h = more (ih j h)

kept_are_ends : (n : ℕ) (es : List End) (i : ℕ) (e : End) → slice_get es i ≡ Some e → e.path < n
    → (j : ℕ) × (slice_get (ends_below n es) j ≡ Some e)
kept_are_ends n [] i e h l = cc
kept_are_ends n (d ∷ es) zero e h l = (let one : d ≡ e = cc in
    subst (λ q. (j : ℕ) × (slice_get (ends_below n (q ∷ es)) j ≡ Some e)) (sym one)
    (0, ap (λ o. slice_get (cond o (e ∷ ends_below n es) (ends_below n es)) 0) (lt-ltb e.path n l)))
kept_are_ends n (d ∷ es) (suc i) e h l = go (ltb d.path n) (kept_are_ends n es i e h l)
  where
    go : (o : Bool) → (j : ℕ) × (slice_get (ends_below n es) j ≡ Some e)
        → (j : ℕ) × (slice_get (cond o (d ∷ ends_below n es) (ends_below n es)) j ≡ Some e)
    go true (j, f) = (suc j, f)
    go false r = r

pub meets_all : (old cur : Work) (n batched : ℕ) (x : Path) (channel : ℕ) (sends : Bool) (others : List ℕ)
    → BatchIsOpen old n batched → n < batched → AreFew cur → slice_get old.store.paths n ≡ Some x
    → WaitsOn old.store.events x channel sends → ((q : ℕ) → Contains others q → IsOther old n x channel sends q)
    → ((q : ℕ) → IsOther old n x channel sends q → Contains others q)
    → Meets old cur n x sends others (length others) → BatchIsOpen cur (n + 1) batched
meets_all old cur n batched x channel sends others o low few ex sx are all m = open_next old cur n batched
    m.meeting.news o low m.meeting.gains.paths m.meeting.gains.events m.meeting.gains.waiting
    (subst (IsLeftFrom cur (n + 1)) kept (left_so cur (n + 1) (waits ++ (own ∷ [])) few m.meeting.gains.pending_low
    (wait_done was (seen_from cur (n + 1) waits few) (seen_from cur (n + 1)
    (waits ++ (own ∷ [])) few) n x channel sends ex
    (in_hand old n waits few_old in_old o.work) sx met refl refl refl refl refl refl)))
  where
    waits : List End
    waits = ends_below n old.waiting

    few_old : AreFew old
    few_old = few_before old cur x sends others (length others) m.meeting few

    in_old : n < length old.store.paths
    in_old = get_low old.store.paths x n ex

    was : Work
    was = seen_from old (n + 1) waits few_old

    own : End
    own = record { path = n; channel = channel; sends = sends }

    kept : waits ++ (own ∷ []) ≡ ends_below (n + 1) cur.waiting
    kept = (let r : (i : ℕ) × (slice_get old.waiting i ≡ Some own) = o.kept.all n x channel sends low ex sx in
        sym (ap (ends_below (n + 1)) m.meeting.gains.waiting ∙ below_next old.waiting r.0 own o.kept.rise r.1))

    listed : (q : ℕ) → IsOther old n x channel sends q → (j : ℕ) × (slice_get (others_of was channel sends) j ≡ Some q)
    listed q h =
        let r : (i : ℕ) × (slice_get old.waiting i ≡ Some
        (record { path = q; channel = channel; sends = not sends })) = o.kept.all q h.path channel (not sends)
        (let l : q < n = h.lower in omega (arith, l, low)) h.is h.stands in
        let b : (j : ℕ) × (slice_get waits j ≡ Some
        (record { path = q; channel = channel; sends = not sends })) = kept_are_ends n old.waiting r.0
        (record { path = q; channel = channel; sends = not sends }) r.1 h.lower in
        other_of_end waits channel (not sends) b.0
        (record { path = q; channel = channel; sends = not sends }) b.1 refl refl

    other : (j q : ℕ) (y : Path) → slice_get (others_of was channel sends) j ≡ Some q
        → slice_get old.store.paths q ≡ Some y → Agree x y → IsOther old n x channel sends q
    other j q y ej ey ag =
        let t : IsThere waits channel (not sends) q = end_of_other waits channel (not sends) j q ej in
        let k : (i : ℕ) × (slice_get old.waiting i ≡ Some t.end) ×
        (t.end.path < n) = ends_are_kept n old.waiting t.place t.end t.is in
        record {
          lower = subst (λ p. p < n) t.path k.2;
          path = y;
          is = ey;
          stands = subst₂ (λ c s. WaitsOn old.store.events y c s) t.channel_is t.sends_is
              (o.kept.ends k.0 t.end y k.1 (ap (slice_get old.store.paths) t.path ∙ ey));
          agree = ag;
        }

    met : IsMeeting was (seen_from cur (n + 1) waits few) x sends (others_of was channel sends)
        (length (others_of was channel sends))
    met = record {
      news = m.meeting.news;
      gains = gains_seen old cur (n + 1) waits m.meeting.news few_old few (omega (arith, in_old)) m.meeting.gains;
      ups = m.meeting.ups;
      made = λ j q y l ej ey ag z hz. (let c : (i : ℕ) × (slice_get others i ≡ Some q) = place_in others q
          (all q (other j q y ej ey ag)) in
          m.meeting.made c.0 q y (get_low others q c.0 c.1) c.1 ey ag z hz);
      from = λ z h. (let f = m.meeting.from z h in let b : (j : ℕ) ×
          (slice_get (others_of was channel sends) j ≡ Some f.1) = listed f.1
          (are f.1 (contains_at others f.0 f.1 f.4)) in
          (b.0, f.1, f.2, get_low (others_of was channel sends) f.1 b.0 b.1, b.1, f.5, f.6, f.7));
    }

-- ---- the partners that a look names

pub others_are : (w : Work) (n batched : ℕ) (x : Path) (channel : ℕ) (sends : Bool) (others : List ℕ)
    → EndsAreKept w batched → slice_get w.store.paths n ≡ Some x → WaitsOn w.store.events x channel sends
    → ((q : ℕ) → Contains others q ↔ ((q < n) × IsPartner w.store w.waiting n q)) → (q : ℕ) → Contains others q
    → IsOther w n x channel sends q
others_are w n batched x channel sends others k ex sx exact q c =
    (let r : (q < n) × IsPartner w.store w.waiting n q = (exact q).0 c in
    from_partner w n batched x channel sends q k ex sx r.0 r.1)

pub others_all : (w : Work) (n batched : ℕ) (x : Path) (channel : ℕ) (sends : Bool) (others : List ℕ)
    → EndsAreKept w batched → n < batched → slice_get w.store.paths n ≡ Some x → WaitsOn w.store.events x channel sends
    → ((q : ℕ) → Contains others q ↔ ((q < n) × IsPartner w.store w.waiting n q)) → (q : ℕ)
    → IsOther w n x channel sends q → Contains others q
others_all w n batched x channel sends others k low ex sx exact q h = (exact q).1
    (h.lower, to_partner w n batched x channel sends q h.path k low ex sx h.lower h.is h.stands h.agree)
