-- A path in hand that has met its partners waits.
use Rattle.std.proofs.Common.{◌≡◌, ◌⊎◌, ◌<◌, inl, inr, ℕ, zero, suc, ◌+◌, List, [], ◌∷◌, ◌++◌, length, map, Bool, true}
use Rattle.std.proofs.Common.{false, not, Option, Some, None, slice_get, refl, ap, ap₂, sym, ◌∙◌, subst, arith, eqb-true, append-nil, length-append}
use Rattle.te_terms.specs.Terms.{Term}
use Rattle.te_terms.specs.Steps.{Member, at_term, outcome_of}
use Rattle.te_terms.proofs.OneThing.{Rests, send_is_alone, receive_is_alone}
use Rattle.te_terms.specs.Joint.{after_choice, sending, receiving}
use Rattle.te_trail.specs.Paths.{Path, branched, sent, got, thread_of}
use Rattle.te_trail.specs.Stores.{Holds, IsStore, labels_of_move}
use Rattle.te_trail.specs.Clocks.{Agree}
use Rattle.te_trail.specs.States.{chosen, MovedEnds, members_met, path_state}
use Rattle.te_terms.proofs.Lists.{some_map, get_low, at_or_last, get-longer, never_both}
use Rattle.te_trail.proofs.MembersMove.{Handing, handing}
use Rattle.te_pair.specs.Ends.{path_of, paths_kept}
use Rattle.te_search.specs.declared.work.Work.{Work}
use Rattle.te_search.specs.Finals.{numbers_of, TellThreads}
use Rattle.te_pair.specs.declared.end.End.{End}
use Rattle.te_search.specs.Groups.{IsFinal}
use Rattle.te_search.specs.Searching.{paths_by, AreUp, AllFail, IsSearch}
use Rattle.te_trail.specs.Records.{path_at}
use Rattle.te_search.specs.Works.{AreLow, EndsStand, label_told, pending_of, IsCounted, IsWork, IsWorkOn, met_paths, WaitsOn, others_of, IsMeeting}
use Rattle.te_search.proofs.ListLaws.{holds_left, holds_right, holds_which, holds_one, once_by_places}
use Rattle.te_trail.proofs.StoresHold.{held}
use Rattle.te_search.proofs.FinalsTold.{told_more}
use Rattle.te_search.proofs.WorkDone.{IsStep, step_done}
use Rattle.te_search.proofs.Trying.{listed, paths_at, path_there}
use Rattle.te_search.proofs.Working.{map_both, at_more, by_more, low_more, low_both, counted_more, ends_more}
use Rattle.te_search.proofs.Meeting.{IsThere, end_of_other, other_of_end, number_there, agree_flips}
use Rattle.te_pair.proofs.EndsTold.{one_state}

-- ---- what stands at a send or a receive does nothing else

stands_alone : (g : List Member) (x : Path) (channel : ℕ) (sends : Bool) → (s : WaitsOn g x channel sends) → Rests s.member s.member.term × ((left : Bool) → after_choice left s.member.term ≡ None)
stands_alone g x channel true s = let a = send_is_alone s.member s.member.term s.stands.0 s.stands.1 in (a.0, a.1)
stands_alone g x channel false s = let a = receive_is_alone s.member s.member.term channel s.stands in (a.0, a.1)

pub waits_choose : (g : List Member) (x : Path) (channel : ℕ) (sends : Bool) → WaitsOn g x channel sends → (l : Bool) (m u : Member) → path_state g x ≡ Some m → chosen l m ≡ Some u → ⊥
waits_choose g x channel sends s l m u st c =
    let a : (t : Term) × (after_choice l m.term ≡ Some t) × (at_term m t ≡ u) = some_map (at_term m) (after_choice l m.term) u c in
    let one : s.member ≡ m = one_state (path_state g x) s.member m s.state st in
    never_both (after_choice l m.term) a.0 (ap (λ k. after_choice l k.term) (sym one) ∙ (stands_alone g x channel sends s).1 l) a.1

pub waits_end : (g : List Member) (x : Path) (channel : ℕ) (sends : Bool) → WaitsOn g x channel sends → ¬ IsFinal g x
waits_end g x channel sends s f =
    let one : s.member ≡ f.member = one_state (path_state g x) s.member f.member s.state f.state in
    never_both (outcome_of f.member.term) f.outcome (ap (λ k. outcome_of k.term) (sym one) ∙ (stands_alone g x channel sends s).0.1) f.ends

-- which of two that meet is which
sender_side : (g : List Member) (x : Path) (channel : ℕ) (sends : Bool) (a b : Member) (e : MovedEnds) → WaitsOn g x channel sends → path_state g x ≡ Some a → (h : Handing a b e)
    → (sends ≡ true) × (h.message.channel ≡ channel)
sender_side g x channel true a b e s st h =
    let one : s.member ≡ a = one_state (path_state g x) s.member a s.state st in
    let m : Some s.stands.0 ≡ Some h.message = sym s.stands.1 ∙ ap (λ k. sending k.term) one ∙ h.sends in
    (refl, ap (λ k. k.channel) (let q : h.message ≡ s.stands.0 = cc in q) ∙ s.stands.2)
sender_side g x channel false a b e s st h =
    let one : s.member ≡ a = one_state (path_state g x) s.member a s.state st in
    absurd (never_both (sending a.term) h.message (ap (λ k. sending k.term) (sym one) ∙ (receive_is_alone s.member s.member.term channel s.stands).2) h.sends)

receiver_side : (g : List Member) (x : Path) (channel : ℕ) (sends : Bool) (a b : Member) (e : MovedEnds) → WaitsOn g x channel sends → path_state g x ≡ Some b → (h : Handing a b e)
    → (sends ≡ false) × (h.channel ≡ channel)
receiver_side g x channel false a b e s st h =
    let one : s.member ≡ b = one_state (path_state g x) s.member b s.state st in
    let m : Some channel ≡ Some h.channel = sym s.stands ∙ ap (λ k. receiving k.term) one ∙ h.receives in
    (refl, (let q : h.channel ≡ channel = cc in q))
receiver_side g x channel true a b e s st h =
    let one : s.member ≡ b = one_state (path_state g x) s.member b s.state st in
    absurd (never_both (receiving b.term) h.channel (ap (λ k. receiving k.term) (sym one) ∙ (send_is_alone s.member s.member.term s.stands.0 s.stands.1).2) h.receives)

pair_first : (s : Bool) (x y : Path) → s ≡ true → Holds (met_paths s x y) (sent x y) × Holds (met_paths s x y) (got x y)
pair_first true x y e = (inl refl, inr (inl refl))
pair_first false x y e = cc

pair_second : (s : Bool) (x y : Path) → s ≡ false → Holds (met_paths s x y) (sent y x) × Holds (met_paths s x y) (got y x)
pair_second false x y e = (inl refl, inr (inl refl))
pair_second true x y e = cc

no_branch : (s : Bool) (x y q : Path) (l : Bool) → ¬ Holds (met_paths s x y) (branched q l)
no_branch true x y q l (inl e) = cc
no_branch true x y q l (inr (inl e)) = cc
no_branch true x y q l (inr (inr n)) = n
no_branch false x y q l (inl e) = cc
no_branch false x y q l (inr (inl e)) = cc
no_branch false x y q l (inr (inr n)) = n

pair_is : (s : Bool) (x y q r : Path) → Holds (met_paths s x y) (sent q r) → ((q ≡ x) × (r ≡ y)) ⊎ ((q ≡ y) × (r ≡ x))
pair_is true x y q r (inl e) = inl ((let a : q ≡ x = cc in a), (let b : r ≡ y = cc in b))
pair_is true x y q r (inr (inl e)) = cc
pair_is true x y q r (inr (inr n)) = absurd n
pair_is false x y q r (inl e) = inr ((let a : q ≡ y = cc in a), (let b : r ≡ x = cc in b))
pair_is false x y q r (inr (inl e)) = cc
pair_is false x y q r (inr (inr n)) = absurd n

pub end_of : (ends : List End) (i n : ℕ) → slice_get (paths_kept ends) i ≡ Some n → (e : End) × (slice_get ends i ≡ Some e) × (e.path ≡ n)
end_of [] i n e = cc
end_of (d ∷ ends) zero n e = (d, refl, cc)
end_of (d ∷ ends) (suc i) n e = end_of ends i n e

-- ---- the path waits

-- the work of which a path in hand has met all partners, with the path kept
pub wait_done : (old mid new : Work) (p : ℕ) (x : Path) (channel : ℕ) (sends : Bool) → slice_get old.store.paths p ≡ Some x → IsWorkOn old p
    → WaitsOn old.store.events x channel sends → IsMeeting old mid x sends (others_of old channel sends) (length (others_of old channel sends))
    → new.store ≡ mid.store → new.moves.items ≡ mid.moves.items → new.pending.items ≡ mid.pending.items → new.finals ≡ mid.finals → new.groups ≡ mid.groups
    → new.waiting ≡ mid.waiting ++ (record { path = p; channel = channel; sends = sends } ∷ []) → IsWork new
wait_done old mid new p x channel sends ex w stands m st mo pe fi gr wa = record {
  search = subst (λ e. IsSearch e new.store.paths (pending_of new) (paths_by new.store.paths (paths_kept new.waiting)) (paths_by new.store.paths (numbers_of new.finals)))
      (sym events) (search_of (step_done old.store.events old.store.paths (pending_of old) waits finals x m.news (x ∷ []) [] before step));
  pending_low = subst (AreLow new.store.paths) (sym pe) (subst (λ t. AreLow t.paths mid.pending.items) (sym st) m.gains.pending_low);
  waits_low = subst (λ q. AreLow q (paths_kept new.waiting)) (sym paths)
      (subst (AreLow (old.store.paths ++ m.news)) (sym numbers)
      (low_both (old.store.paths ++ m.news) (paths_kept old.waiting) (p ∷ []) (low_more old.store.paths m.news (paths_kept old.waiting) w.waits_low) p_low));
  finals_low = subst (λ k. AreLow new.store.paths (numbers_of k)) (sym (fi ∙ m.gains.finals))
      (subst (λ q. AreLow q (numbers_of old.finals)) (sym paths)
      (low_more old.store.paths m.news (numbers_of old.finals) w.finals_low));
  finals_told = subst (TellThreads new.store.paths) (sym (fi ∙ m.gains.finals))
      (subst (λ q. TellThreads q old.finals) (sym paths) (told_more old.store.paths m.news old.finals w.finals_low w.finals_told));
  ends = subst (λ e. EndsStand e new.store.paths new.waiting) (sym events)
      (subst (EndsStand old.store.events new.store.paths) (sym waiting) (subst (λ q. EndsStand old.store.events q (old.waiting ++ (own ∷ []))) (sym paths) ends_are));
  told_are = ap (map label_told) mo ∙ m.gains.moves ∙ ap (λ k. k ++ map labels_of_move m.news) w.told_are ∙ sym (map_both labels_of_move old.store.paths m.news) ∙ ap (map labels_of_move) (sym paths);
  counted = subst (λ e. IsCounted e new.store.paths (paths_by new.store.paths (numbers_of new.finals)) new.groups) (sym events)
      (subst (IsCounted old.store.events new.store.paths (paths_by new.store.paths (numbers_of new.finals))) (sym (gr ∙ m.gains.groups))
      (subst (λ f. IsCounted old.store.events new.store.paths f old.groups) (sym finals_same)
      (subst (λ q. IsCounted old.store.events q finals old.groups) (sym paths) (counted_more old.store.events old.store.paths m.news finals old.groups w.counted))));
}
  where
    own : End
    own = record { path = p; channel = channel; sends = sends }

    waits : List Path
    waits = paths_by old.store.paths (paths_kept old.waiting)

    finals : List Path
    finals = paths_by old.store.paths (numbers_of old.finals)

    paths : new.store.paths ≡ old.store.paths ++ m.news
    paths = ap (λ t. t.paths) st ∙ m.gains.paths

    events : new.store.events ≡ old.store.events
    events = ap (λ t. t.events) st ∙ m.gains.events

    waiting : new.waiting ≡ old.waiting ++ (own ∷ [])
    waiting = wa ∙ ap (λ k. k ++ (own ∷ [])) m.gains.waiting

    numbers : paths_kept new.waiting ≡ paths_kept old.waiting ++ (p ∷ [])
    numbers = ap paths_kept waiting ∙ map_both path_of old.waiting (own ∷ [])

    p_in : p < length old.store.paths
    p_in = get_low old.store.paths x p ex

    p_low : AreLow (old.store.paths ++ m.news) (p ∷ [])
    p_low zero n e = (let one : p ≡ n = cc in let l : length (old.store.paths ++ m.news) ≡ length old.store.paths + length m.news = length-append old.store.paths m.news in omega (arith, one, l, p_in))
    p_low (suc i) n e = cc

    hx : Holds old.store.paths x
    hx = held old.store.paths p x ex

    waits_same : paths_by new.store.paths (paths_kept new.waiting) ≡ waits ++ (x ∷ [])
    waits_same = ap₂ paths_by paths numbers ∙ map_both (path_at (old.store.paths ++ m.news)) (paths_kept old.waiting) (p ∷ [])
        ∙ ap₂ (λ a b. a ++ (b ∷ [])) (by_more old.store.paths m.news (paths_kept old.waiting) w.waits_low)
        (at_more old.store.paths m.news p p_in ∙ path_there old.store.paths p x ex)

    finals_same : paths_by new.store.paths (numbers_of new.finals) ≡ finals
    finals_same = ap₂ (λ q k. paths_by q (numbers_of k)) paths (fi ∙ m.gains.finals) ∙ by_more old.store.paths m.news (numbers_of old.finals) w.finals_low

    pending_same : pending_of new ≡ pending_of old ++ m.news
    pending_same = ap₂ paths_by (ap (λ t. t.paths) st) pe ∙ m.gains.pending

    ends_are : EndsStand old.store.events (old.store.paths ++ m.news) (old.waiting ++ (own ∷ []))
    ends_are i e y ei ey = elim (at_or_last old.waiting own i e ei) [
      | inl a ↦ (let at : slice_get (old.store.paths ++ m.news) p ≡ Some x = get-longer old.store.paths m.news p x ex in let here : slice_get
          (old.store.paths ++ m.news) p ≡ Some y = ap (λ k. slice_get (old.store.paths ++ m.news) k.path) a.1
          ∙ ey in let same : x ≡ y = (let k : Some x ≡ Some y = sym at ∙ here in cc) in subst (λ k. WaitsOn old.store.events y k.channel k.sends) a.1
          (subst (λ z. WaitsOn old.store.events z channel sends) same stands))
      | inr b ↦ ends_more old.store.events old.store.paths m.news old.waiting w.waits_low w.ends i e y b.1 ey
    ]

    before : IsSearch old.store.events old.store.paths (pending_of old ++ (x ∷ [])) waits finals
    before = subst (λ y. IsSearch old.store.events old.store.paths (pending_of old ++ (y ∷ [])) waits finals) (path_there old.store.paths p x ex) w.search

    free : ¬ Holds waits x
    free = (before.pending_apart x (holds_right (pending_of old) (x ∷ []) x (inl refl))).0

    store : IsStore old.store.events (old.store.paths ++ m.news)
    store = subst (λ e. IsStore e (old.store.paths ++ m.news)) m.gains.events (subst (IsStore mid.store.events) m.gains.paths m.gains.store)

    -- a kept end with its number
    kept_end : (y : Path) → Holds waits y → (j : ℕ) × (e : End) × (slice_get old.waiting j ≡ Some e) × (slice_get old.store.paths e.path ≡ Some y)
    kept_end y h =
        let l : (i : ℕ) × (n : ℕ) × (slice_get (paths_kept old.waiting) i ≡ Some n) × (slice_get old.store.paths n ≡ Some y) = listed old.store.paths
        (paths_kept old.waiting) w.waits_low y h in
        let e : (e : End) × (slice_get old.waiting l.0 ≡ Some e) × (e.path ≡ l.1) = end_of old.waiting l.0 l.1 l.2 in
        (l.0, e.0, e.1, ap (slice_get old.store.paths) e.2 ∙ l.3)

    partner : (y : Path) → Holds waits y → Agree x y → ((e : End) → WaitsOn old.store.events y e.channel e.sends → (e.channel ≡ channel) × (e.sends ≡ not sends)) → (z : Path)
        → Holds (met_paths sends x y) z → Holds m.news z
    partner y h ag fits z hz =
        let k : (j : ℕ) × (e : End) × (slice_get old.waiting j ≡ Some e) × (slice_get old.store.paths e.path ≡ Some y) = kept_end y h in
        let f : (k.1.channel ≡ channel) × (k.1.sends ≡ not sends) = fits k.1 (w.ends k.0 k.1 y k.2 k.3) in
        let o : (j : ℕ) × (slice_get (others_of old channel sends) j ≡ Some k.1.path) = other_of_end old.waiting channel (not sends) k.0 k.1 k.2 f.0 f.1 in
        m.made o.0 k.1.path y (get_low (others_of old channel sends) k.1.path o.0 o.1) o.1 k.3 ag z hz

    meet_both : (q r : Path) (a b : Member) (e : MovedEnds) → Holds waits q ⊎ Holds (x ∷ []) q → Holds waits r ⊎ Holds (x ∷ []) r → Agree q r → path_state old.store.events q ≡ Some a
        → path_state old.store.events r ≡ Some b → members_met a b ≡ Some e → Holds (old.store.paths ++ m.news) (sent q r) × Holds (old.store.paths ++ m.news) (got q r)
    meet_both q r a b e (inl hq) (inl hr) ag sa sb mt = let k : Holds old.store.paths (sent q r) × Holds old.store.paths (got q r) = before.meetings q r a b e hq hr ag sa sb mt in
        (holds_left old.store.paths m.news (sent q r) k.0, holds_left old.store.paths m.news (got q r) k.1)
    meet_both q r a b e (inr hq) (inr hr) ag sa sb mt = absurd (ag.apart (ap thread_of (holds_one q x hq ∙ sym (holds_one r x hr))))
    meet_both q r a b e (inr hq) (inl hr) ag sa sb mt =
        let one : q ≡ x = holds_one q x hq in
        let h : Handing a b e = handing a b e mt in
        let s : (sends ≡ true) × (h.message.channel ≡ channel) = sender_side old.store.events x channel sends a b e stands (ap (path_state old.store.events) (sym one) ∙ sa) h in
        let p2 : (z : Path) → Holds (met_paths sends x r) z → Holds m.news z = partner r hr (subst (λ k. Agree k r) one ag)
        (λ d sd. (let t : (d.sends ≡ false) × (h.channel ≡ d.channel) = receiver_side old.store.events r d.channel d.sends a b e sd sb h in
        (sym t.1 ∙ sym (eqb-true h.message.channel h.channel h.same) ∙ s.1, t.0 ∙ ap not (sym s.0)))) in
        let f : Holds (met_paths sends x r) (sent x r) × Holds (met_paths sends x r) (got x r) = pair_first sends x r s.0 in
        subst (λ k. Holds (old.store.paths ++ m.news) (sent k r) × Holds (old.store.paths ++ m.news) (got k r)) (sym one)
        (holds_right old.store.paths m.news (sent x r) (p2 (sent x r) f.0), holds_right old.store.paths m.news (got x r) (p2 (got x r) f.1))
    meet_both q r a b e (inl hq) (inr hr) ag sa sb mt =
        let one : r ≡ x = holds_one r x hr in
        let h : Handing a b e = handing a b e mt in
        let s : (sends ≡ false) × (h.channel ≡ channel) = receiver_side old.store.events x channel sends a b e stands (ap (path_state old.store.events) (sym one) ∙ sb) h in
        let hq2 : Holds old.store.paths q = before.waits_made q hq in
        let p2 : (z : Path) → Holds (met_paths sends x q) z
        → Holds m.news z = partner q hq (agree_flips q x (before.store.sound q hq2) (before.store.sound x hx) (subst (Agree q) one ag))
        (λ d sd. (let t : (d.sends ≡ true) × (h.message.channel ≡ d.channel) = sender_side old.store.events q d.channel d.sends a b e sd sa h in
        (sym t.1 ∙ eqb-true h.message.channel h.channel h.same ∙ s.1, t.0 ∙ ap not (sym s.0)))) in
        let f : Holds (met_paths sends x q) (sent q x) × Holds (met_paths sends x q) (got q x) = pair_second sends x q s.0 in
        subst (λ k. Holds (old.store.paths ++ m.news) (sent q k) × Holds (old.store.paths ++ m.news) (got q k)) (sym one)
        (holds_right old.store.paths m.news (sent q x) (p2 (sent q x) f.0), holds_right old.store.paths m.news (got q x) (p2 (got q x) f.1))

    step : IsStep old.store.events old.store.paths (pending_of old) waits finals x m.news (x ∷ []) []
    step = record {
      store = store;
      ups = subst AreUp m.gains.paths m.ups;
      news_once = once_by_places (old.store.paths ++ m.news) store.once;
      done = record {
        chooses = λ l k u s c. absurd (waits_choose old.store.events x channel sends stands l k u s c);
        waits_there = λ k. holds_right waits (x ∷ []) x (inl refl);
        final_there = λ f. absurd (waits_end old.store.events x channel sends stands f);
      };
      kept_is = λ z h. holds_one z x h;
      ended_is = λ z h. absurd h;
      kept_once = ((λ n. n), tt);
      ended_once = tt;
      branched_of = λ q l h. (let f = m.from (branched q l) h in absurd (no_branch sends x f.2 q l f.7));
      met_of = λ q r h. (let f = m.from (sent q r) h in both_kept q r f.2 (other_waits f.0 f.1 f.2 f.4 f.5) (pair_is sends x f.2 q r f.7));
      meetings = λ q r a b e hq hr ag sa sb mt. meet_both q r a b e (holds_which waits (x ∷ []) q hq) (holds_which waits (x ∷ []) r hr) ag sa sb mt;
      failed = subst (AllFail old.store.events) (sym (append-nil finals)) before.failed;
    }
      where
        other_waits : (j q : ℕ) (y : Path) → slice_get (others_of old channel sends) j ≡ Some q → slice_get old.store.paths q ≡ Some y → Holds waits y
        other_waits j q y e ey = (let t : IsThere old.waiting channel (not sends) q = end_of_other old.waiting channel (not sends) j q e in
            held waits t.place y (paths_at old.store.paths (paths_kept old.waiting) t.place t.end.path y (number_there old.waiting t.place t.end t.is)
            (ap (slice_get old.store.paths) t.path ∙ ey)))

        both_kept : (q r y : Path) → Holds waits y → ((q ≡ x) × (r ≡ y)) ⊎ ((q ≡ y) × (r ≡ x)) → Holds (waits ++ (x ∷ [])) q × Holds (waits ++ (x ∷ [])) r
        both_kept q r y hy (inl (a, b)) = (holds_right waits (x ∷ []) q (inl a), holds_left waits (x ∷ []) r (subst (Holds waits) (sym b) hy))
        both_kept q r y hy (inr (a, b)) = (holds_left waits (x ∷ []) q (subst (Holds waits) (sym a) hy), holds_right waits (x ∷ []) r (inl b))

    search_of : IsSearch old.store.events (old.store.paths ++ m.news) (pending_of old ++ m.news) (waits ++ (x ∷ [])) (finals ++ [])
        → IsSearch old.store.events new.store.paths (pending_of new) (paths_by new.store.paths (paths_kept new.waiting)) (paths_by new.store.paths (numbers_of new.finals))
    search_of s = subst (λ q. IsSearch old.store.events q (pending_of new)
        (paths_by new.store.paths (paths_kept new.waiting)) (paths_by new.store.paths (numbers_of new.finals)))
        (sym paths)
        (subst (λ d. IsSearch old.store.events (old.store.paths ++ m.news) d
        (paths_by new.store.paths (paths_kept new.waiting)) (paths_by new.store.paths (numbers_of new.finals)))
        (sym pending_same)
        (subst (λ a. IsSearch old.store.events (old.store.paths ++ m.news) (pending_of old ++ m.news) a
        (paths_by new.store.paths (numbers_of new.finals))) (sym waits_same)
        (subst (IsSearch old.store.events (old.store.paths ++ m.news) (pending_of old ++ m.news) (waits ++ (x ∷ []))) (append-nil finals ∙ sym finals_same) s)))
