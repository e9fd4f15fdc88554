-- What the work of a search gains.
use Rattle.std.proofs.Common.{◌≡◌, ◌⊎◌, ◌<◌, inl, inr, ℕ, zero, suc, ◌+◌, List, [], ◌∷◌, ◌++◌, length, map, Bool, true, false}
use Rattle.std.proofs.Common.{Option, Some, None, Result, Ok, Err, OnOk, slice_get, refl, ap, ap₂, sym, ◌∙◌, subst, arith, append_assoc, append-nil, length-append}
use Rattle.std.specs.Option.{option_map}
use Rattle.te_terms.specs.Terms.{Term}
use Rattle.te_terms.specs.Steps.{Member, at_term, with_head}
use Rattle.te_terms.proofs.OneThing.{Rests, choice_rests}
use Rattle.te_path.specs.Paths.{IsChoice}
use Rattle.te_terms.specs.Joint.{after_choice, chosen_from, sending, receiving}
use Rattle.te_trail.specs.Paths.{Path, branched, sent, got, parent_of}
use Rattle.te_trail.specs.Stores.{Holds, IsStore, labels_of_move}
use Rattle.te_trail.specs.Trails.{with_paths, IsAtChoice, IsUnmade}
use Rattle.te_trail.specs.States.{chosen, path_state, HasState}
use Rattle.te_trail.proofs.MembersMove.{Handing, handing}
use Rattle.te_pair.specs.Ends.{paths_kept}
use Rattle.te_search.specs.declared.work.Work.{Work}
use Rattle.te_search.specs.Finals.{numbers_of, TellThreads}
use Rattle.te_pair.specs.declared.end.End.{End}
use Rattle.te_search.specs.Groups.{IsFinal, Partial, IsPartial}
use Rattle.te_search.specs.Searching.{paths_by, AreUp, NoPathTwice, AllFail, MayMeet, IsSearch}
use Rattle.te_trail.specs.Records.{path_at}
use Rattle.te_search.specs.Works.{AreLow, EndsStand, label_told, pending_of, IsCounted, IsWork, IsWorkOn, Gains, RunsShort, IsSpentAt}
use Rattle.te_search.proofs.ListLaws.{holds_left, holds_right, holds_which, holds_one, once_by_places}
use Rattle.te_trail.proofs.StoresHold.{place_held}
use Rattle.te_trail.proofs.StoresHold.{held as holds_at}
use Rattle.te_search.proofs.FinalsTold.{told_more}
use Rattle.te_search.proofs.WorkDone.{IsStep, step_done, final_cannot_choose}
use Rattle.te_terms.proofs.Lists.{all_with, get_low, get_some, get-longer, never_both, at_or_last}
use Rattle.te_search.proofs.Trying.{path_there}

pub map_both : {A B : Type 0} (f : A → B) (xs ys : List A) → map f (xs ++ ys) ≡ map f xs ++ map f ys
map_both f [] ys = refl
map_both f (x ∷ xs) ys = ap (λ r. f x ∷ r) (map_both f xs ys)

-- ---- lists of numbers over more paths

pub at_more : (paths more : List Path) (n : ℕ) → n < length paths → path_at (paths ++ more) n ≡ path_at paths n
at_more [] more n h = absurd (omega (arith, h))
at_more (x ∷ paths) more zero h = refl
at_more (x ∷ paths) more (suc n) h = at_more paths more n (omega (arith, h))

low_rest : (paths : List Path) (n : ℕ) (ns : List ℕ) → AreLow paths (n ∷ ns) → AreLow paths ns
low_rest paths n ns low i m e = low (suc i) m e

pub by_more : (paths more : List Path) (ns : List ℕ) → AreLow paths ns → paths_by (paths ++ more) ns ≡ paths_by paths ns
by_more paths more [] low = refl
by_more paths more (n ∷ ns) low = ap₂ (λ x y. x ∷ y) (at_more paths more n (low 0 n refl)) (by_more paths more ns (low_rest paths n ns low))

pub low_more : (paths more : List Path) (ns : List ℕ) → AreLow paths ns → AreLow (paths ++ more) ns
low_more paths more ns low i n e = let h : n < length paths = low i n e in let l : length (paths ++ more) ≡ length paths + length more = length-append paths more in omega (arith, h, l)

pub low_both : (paths : List Path) (ns ms : List ℕ) → AreLow paths ns → AreLow paths ms → AreLow paths (ns ++ ms)
low_both paths [] ms a b i k e = b i k e
low_both paths (n ∷ ns) ms a b zero k e = a 0 k e
low_both paths (n ∷ ns) ms a b (suc i) k e = low_both paths ns ms (low_rest paths n ns a) b i k e

pub at_end : (paths : List Path) (x : Path) (more : List Path) → path_at (paths ++ (x ∷ more)) (length paths) ≡ x
at_end [] x more = refl
at_end (y ∷ paths) x more = at_end paths x more

-- ---- one branch, or both ends of a meeting

pub gains_one : (old new : Work) (x : Path) → new.store ≡ with_paths old.store (x ∷ []) → IsStore new.store.events new.store.paths
    → new.pending.items ≡ old.pending.items ++ (length old.store.paths ∷ []) → map label_told new.moves.items ≡ map label_told old.moves.items ++ (labels_of_move x ∷ [])
    → new.waiting ≡ old.waiting → new.finals ≡ old.finals → new.groups ≡ old.groups → AreLow old.store.paths old.pending.items → Gains old new (x ∷ [])
gains_one old new x is store pending moves waiting finals groups low = record {
  paths = ps;
  events = ap (λ t. t.events) is;
  store = store;
  pending = ap₂ paths_by ps pending ∙ map_both (path_at (old.store.paths ++ (x ∷ []))) old.pending.items (length old.store.paths ∷ [])
      ∙ ap₂ (λ a b. a ++ (b ∷ [])) (by_more old.store.paths (x ∷ []) old.pending.items low) (at_end old.store.paths x []);
  pending_low = subst (λ q. AreLow q new.pending.items) (sym ps)
      (subst (AreLow (old.store.paths ++ (x ∷ []))) (sym pending)
      (low_both (old.store.paths ++ (x ∷ [])) old.pending.items (length old.store.paths ∷ []) (low_more old.store.paths (x ∷ []) old.pending.items low) last));
  moves = moves;
  waiting = waiting;
  finals = finals;
  groups = groups;
}
  where
    ps : new.store.paths ≡ old.store.paths ++ (x ∷ [])
    ps = ap (λ t. t.paths) is

    last : AreLow (old.store.paths ++ (x ∷ [])) (length old.store.paths ∷ [])
    last zero n e = (let one : length old.store.paths ≡ n = cc in let l : length (old.store.paths ++ (x ∷ [])) ≡ length old.store.paths + 1 = length-append old.store.paths
        (x ∷ []) in omega (arith, one, l))
    last (suc i) n e = cc

two_same : (a b c d : Path) → a ≡ c → b ≡ d → (a ∷ (b ∷ [])) ≡ (c ∷ (d ∷ []))
two_same a b c d e f = ap₂ (λ u v. u ∷ (v ∷ [])) e f

pub gains_two : (old new : Work) (x y : Path) → new.store ≡ with_paths old.store (x ∷ (y ∷ [])) → IsStore new.store.events new.store.paths
    → new.pending.items ≡ old.pending.items ++ (length old.store.paths ∷ ((length old.store.paths + 1) ∷ [])) → map label_told new.moves.items ≡ map label_told old.moves.items ++
    (labels_of_move x ∷ (labels_of_move y ∷ []))
    → new.waiting ≡ old.waiting → new.finals ≡ old.finals → new.groups ≡ old.groups → AreLow old.store.paths old.pending.items → Gains old new (x ∷ (y ∷ []))
gains_two old new x y is store pending moves waiting finals groups low = record {
  paths = ps;
  events = ap (λ t. t.events) is;
  store = store;
  pending = ap₂ paths_by ps pending ∙ map_both (path_at (old.store.paths ++ (x ∷ (y ∷ [])))) old.pending.items (length old.store.paths ∷ ((length old.store.paths + 1) ∷ []))
      ∙ ap₂ (λ a b. a ++ b) (by_more old.store.paths (x ∷ (y ∷ [])) old.pending.items low)
      (two_same (path_at (old.store.paths ++ (x ∷ (y ∷ []))) (length old.store.paths)) (path_at (old.store.paths ++ (x ∷ (y ∷ []))) (length old.store.paths + 1)) x y
      (at_end old.store.paths x (y ∷ [])) (at_next old.store.paths));
  pending_low = subst (λ q. AreLow q new.pending.items) (sym ps)
      (subst (AreLow (old.store.paths ++ (x ∷ (y ∷ [])))) (sym pending)
      (low_both (old.store.paths ++ (x ∷ (y ∷ []))) old.pending.items (length old.store.paths ∷ ((length old.store.paths + 1) ∷ []))
      (low_more old.store.paths (x ∷ (y ∷ [])) old.pending.items low) last));
  moves = moves;
  waiting = waiting;
  finals = finals;
  groups = groups;
}
  where
    ps : new.store.paths ≡ old.store.paths ++ (x ∷ (y ∷ []))
    ps = ap (λ t. t.paths) is

    at_next : (paths : List Path) → path_at (paths ++ (x ∷ (y ∷ []))) (length paths + 1) ≡ y
    at_next [] = refl
    at_next (z ∷ paths) = subst (λ n. path_at (z ∷ (paths ++ (x ∷ (y ∷ [])))) n ≡ y) (let e : suc (length paths + 1) ≡ suc (length paths) + 1 = omega arith in e) (at_next paths)

    last : AreLow (old.store.paths ++ (x ∷ (y ∷ []))) (length old.store.paths ∷ ((length old.store.paths + 1) ∷ []))
    last zero n e = (let one : length old.store.paths ≡ n = cc in let l : length (old.store.paths ++ (x ∷ (y ∷ []))) ≡ length old.store.paths + 2 = length-append old.store.paths
        (x ∷ (y ∷ [])) in omega (arith, one, l))
    last (suc zero) n e = (let one : length old.store.paths + 1 ≡ n = cc in let l : length
        (old.store.paths ++ (x ∷ (y ∷ []))) ≡ length old.store.paths + 2 = length-append old.store.paths (x ∷ (y ∷ [])) in omega (arith, one, l))
    last (suc (suc i)) n e = cc

pub gains_both : (a b c : Work) (xs ys : List Path) → Gains a b xs → Gains b c ys → Gains a c (xs ++ ys)
gains_both a b c xs ys g h = record {
  paths = h.paths ∙ ap (λ p. p ++ ys) g.paths ∙ append_assoc a.store.paths xs ys;
  events = h.events ∙ g.events;
  store = h.store;
  pending = h.pending ∙ ap (λ p. p ++ ys) g.pending ∙ append_assoc (pending_of a) xs ys;
  pending_low = h.pending_low;
  moves = h.moves ∙ ap (λ m. m ++ map labels_of_move ys) g.moves ∙ append_assoc (map label_told a.moves.items) (map labels_of_move xs) (map labels_of_move ys)
      ∙ ap (λ r. map label_told a.moves.items ++ r) (sym (map_both labels_of_move xs ys));
  waiting = h.waiting ∙ g.waiting;
  finals = h.finals ∙ g.finals;
  groups = h.groups ∙ g.groups;
}

pub appended_two : {A : Type 0} (old held one two : List A) (a b c d : A) → held ≡ old → one ≡ held ++ (a ∷ []) → two ≡ one ++ (b ∷ []) → a ≡ c → b ≡ d → two ≡ old ++ (c ∷ (d ∷ []))
appended_two old held one two a b c d e f g h k = g ∙ ap (λ l. l ++ (b ∷ [])) (f ∙ ap (λ l. l ++ (a ∷ [])) e) ∙ append_assoc old (a ∷ []) (b ∷ []) ∙ ap₂ (λ u v. old ++ (u ∷ (v ∷ []))) h k

-- ---- counts

pub partial_more : (g : List Member) (paths more : List Path) (q : Partial) → IsPartial g paths q → IsPartial g (paths ++ more) q
partial_more g paths more q p = record { starts = p.starts; made = λ x h. holds_left paths more x (p.made x h); finals = p.finals; agree = p.agree }

pub counted_more : (g : List Member) (paths more finals : List Path) (n : ℕ) → IsCounted g paths finals n → IsCounted g (paths ++ more) finals n
counted_more g paths more finals n c = record {
  tried = c.tried;
  count_is = c.count_is;
  are = record { partial = all_with (IsPartial g paths) (IsPartial g (paths ++ more)) c.tried (partial_more g paths more) c.are.partial; once = c.are.once };
  starts = c.starts;
}

-- ---- the path in hand at a choice

once_of : (g : List Member) (paths : List Path) → IsStore g paths → NoPathTwice paths
once_of g paths store = once_by_places paths store.once

-- a new path whose parent is there
pub ups_more : (paths : List Path) (x : Path) → AreUp paths → ((y : Path) → parent_of x ≡ Some y → Holds paths y) → AreUp (paths ++ (x ∷ []))
ups_more paths x ups up k z y e f = elim (at_or_last paths x k z e) [
  | inl a ↦ (let r : (n : ℕ) × (slice_get paths n ≡ Some y) = place_held paths y (up y (ap parent_of a.1 ∙ f)) in
      (r.0, (let h : r.0 < length paths = get_low paths y r.0 r.1 in let s : k ≡ length paths = a.0 in omega (arith, h, s)), get-longer paths (x ∷ []) r.0 y r.1))
  | inr b ↦ (let r : (r : ℕ) × (r < k) × (slice_get paths r ≡ Some y) = ups k z y b.1 f in (r.0, r.1, get-longer paths (x ∷ []) r.0 y r.2))
]

-- another list of kept ends over more paths
pub ends_more : (g : List Member) (paths more : List Path) (ends : List End) → AreLow paths (paths_kept ends) → EndsStand g paths ends → EndsStand g (paths ++ more) ends
ends_more g paths more ends low are i e x ee ex = are i e x ee (old (low i e.path (number_there ends i e ee)))
  where
    number_there : (ends : List End) (i : ℕ) (e : End) → slice_get ends i ≡ Some e → slice_get (paths_kept ends) i ≡ Some e.path
    number_there [] i e h = cc
    number_there (d ∷ ends) zero e h = (let one : d ≡ e = cc in ap (λ q. Some q.path) one)
    number_there (d ∷ ends) (suc i) e h = number_there ends i e h

    old : e.path < length paths → slice_get paths e.path ≡ Some x
    old h = let y : (y : Path) × (slice_get paths e.path ≡ Some y) = get_some paths e.path h in let z : slice_get
        (paths ++ more) e.path ≡ Some y.0 = get-longer paths more e.path y.0 y.1 in let same : Some y.0 ≡ Some x = sym z ∙ ex in y.1 ∙ same

-- the work after a step that keeps no end and finds no final path
pub work_gained : (old new : Work) (p : ℕ) (x : Path) (news : List Path) → slice_get old.store.paths p ≡ Some x → IsWorkOn old p → Gains old new news → AreUp new.store.paths
    → ((l : Bool) (m u : Member) → path_state old.store.events x ≡ Some m → chosen l m ≡ Some u → Holds (old.store.paths ++ news) (branched x l)) → (¬ MayMeet old.store.events x)
    → (¬ IsFinal old.store.events x)
    → ((q : Path) (l : Bool) → Holds news (branched q l) → q ≡ x) → ((q r : Path) → ¬ Holds news (sent q r)) → IsWork new
work_gained old new p x news ex w g ups chooses meets_not final_not branches none_met = record {
  search = subst (λ e. IsSearch e new.store.paths (pending_of new) (paths_by new.store.paths (paths_kept new.waiting)) (paths_by new.store.paths (numbers_of new.finals)))
      (sym g.events) (search_of (step_done old.store.events old.store.paths (pending_of old) waits finals x news [] [] before step));
  pending_low = g.pending_low;
  waits_low = subst (λ k. AreLow new.store.paths (paths_kept k)) (sym g.waiting)
      (subst (λ q. AreLow q (paths_kept old.waiting)) (sym g.paths) (low_more old.store.paths news (paths_kept old.waiting) w.waits_low));
  finals_low = subst (λ k. AreLow new.store.paths (numbers_of k)) (sym g.finals)
      (subst (λ q. AreLow q (numbers_of old.finals)) (sym g.paths)
      (low_more old.store.paths news (numbers_of old.finals) w.finals_low));
  finals_told = subst (TellThreads new.store.paths) (sym g.finals)
      (subst (λ q. TellThreads q old.finals) (sym g.paths) (told_more old.store.paths news old.finals w.finals_low w.finals_told));
  ends = subst (λ e. EndsStand e new.store.paths new.waiting) (sym g.events)
      (subst (EndsStand old.store.events new.store.paths) (sym g.waiting)
      (subst (λ q. EndsStand old.store.events q old.waiting) (sym g.paths) (ends_more old.store.events old.store.paths news old.waiting w.waits_low w.ends)));
  told_are = g.moves ∙ ap (λ m. m ++ map labels_of_move news) w.told_are ∙ sym (map_both labels_of_move old.store.paths news) ∙ ap (map labels_of_move) (sym g.paths);
  counted = subst (λ e. IsCounted e new.store.paths (paths_by new.store.paths (numbers_of new.finals)) new.groups) (sym g.events)
      (subst (IsCounted old.store.events new.store.paths (paths_by new.store.paths (numbers_of new.finals))) (sym g.groups)
      (subst (λ f. IsCounted old.store.events new.store.paths f old.groups) (sym finals_same)
      (subst (λ q. IsCounted old.store.events q finals old.groups) (sym g.paths) (counted_more old.store.events old.store.paths news finals old.groups w.counted))));
}
  where
    waits : List Path
    waits = paths_by old.store.paths (paths_kept old.waiting)

    finals : List Path
    finals = paths_by old.store.paths (numbers_of old.finals)

    waits_same : paths_by new.store.paths (paths_kept new.waiting) ≡ waits
    waits_same = ap₂ (λ q k. paths_by q (paths_kept k)) g.paths g.waiting ∙ by_more old.store.paths news (paths_kept old.waiting) w.waits_low

    finals_same : paths_by new.store.paths (numbers_of new.finals) ≡ finals
    finals_same = ap₂ (λ q k. paths_by q (numbers_of k)) g.paths g.finals ∙ by_more old.store.paths news (numbers_of old.finals) w.finals_low

    before : IsSearch old.store.events old.store.paths (pending_of old ++ (x ∷ [])) waits finals
    before = subst (λ y. IsSearch old.store.events old.store.paths (pending_of old ++ (y ∷ [])) waits finals) (path_there old.store.paths p x ex) w.search

    store : IsStore old.store.events (old.store.paths ++ news)
    store = subst (λ e. IsStore e (old.store.paths ++ news)) g.events (subst (IsStore new.store.events) g.paths g.store)

    plain : {A : Type 0} (xs : List A) → xs ++ [] ≡ xs
    plain xs = append-nil xs

    step : IsStep old.store.events old.store.paths (pending_of old) waits finals x news [] []
    step = record {
      store = store;
      ups = subst AreUp g.paths ups;
      news_once = once_of old.store.events (old.store.paths ++ news) store;
      done = record { chooses = chooses; waits_there = λ m. absurd (meets_not m); final_there = λ f. absurd (final_not f) };
      kept_is = λ z h. absurd h;
      ended_is = λ z h. absurd h;
      kept_once = tt;
      ended_once = tt;
      branched_of = branches;
      met_of = λ q r h. absurd (none_met q r h);
      meetings = λ q r a b e hq hr ag sa sb m. (let k : Holds old.store.paths (sent q r) × Holds old.store.paths (got q r) = before.meetings q r a b e
          (subst (λ l. Holds l q) (append-nil waits) hq) (subst (λ l. Holds l r) (append-nil waits) hr) ag sa sb m in
          (holds_left old.store.paths news (sent q r) k.0, holds_left old.store.paths news (got q r) k.1));
      failed = subst (AllFail old.store.events) (sym (append-nil finals)) before.failed;
    }

    search_of : IsSearch old.store.events (old.store.paths ++ news) (pending_of old ++ news) (waits ++ []) (finals ++ [])
        → IsSearch old.store.events new.store.paths (pending_of new) (paths_by new.store.paths (paths_kept new.waiting)) (paths_by new.store.paths (numbers_of new.finals))
    search_of s = subst (λ q. IsSearch old.store.events q (pending_of new)
        (paths_by new.store.paths (paths_kept new.waiting)) (paths_by new.store.paths (numbers_of new.finals)))
        (sym g.paths)
        (subst (λ d. IsSearch old.store.events (old.store.paths ++ news) d
        (paths_by new.store.paths (paths_kept new.waiting)) (paths_by new.store.paths (numbers_of new.finals)))
        (sym g.pending)
        (subst (λ a. IsSearch old.store.events (old.store.paths ++ news) (pending_of old ++ news) a
        (paths_by new.store.paths (numbers_of new.finals))) (append-nil waits ∙ sym waits_same)
        (subst (IsSearch old.store.events (old.store.paths ++ news) (pending_of old ++ news) (waits ++ [])) (append-nil finals ∙ sym finals_same) s)))

pub branch_done : (old mid new : Work) (p : ℕ) (x : Path) → slice_get old.store.paths p ≡ Some x → IsWorkOn old p → IsAtChoice old.store p → Gains old mid (branched x true ∷ [])
    → Gains mid new (branched x false ∷ []) → IsWork new
branch_done old mid new p x ex w at a b = work_gained old new p x (branched x true ∷ (branched x false ∷ [])) ex w g ups
    (λ l m u st c. side l) meets_not final_not branches (λ q r h. no_meeting q r h)
  where
    g : Gains old new (branched x true ∷ (branched x false ∷ []))
    g = gains_both old mid new (branched x true ∷ []) (branched x false ∷ []) a b

    hx : Holds old.store.paths x
    hx = holds_at old.store.paths p x ex

    one : AreUp mid.store.paths
    one = subst AreUp (sym a.paths) (ups_more old.store.paths (branched x true) w.search.ups (λ y e. (let s : x ≡ y = cc in subst (Holds old.store.paths) s hx)))

    ups : AreUp new.store.paths
    ups = subst AreUp (sym b.paths) (ups_more mid.store.paths (branched x false) one
        (λ y e. (let s : x ≡ y = cc in subst (Holds mid.store.paths) s (subst (λ q. Holds q x) (sym a.paths) (holds_left old.store.paths (branched x true ∷ []) x hx)))))

    side : (l : Bool) → Holds (old.store.paths ++ (branched x true ∷ (branched x false ∷ []))) (branched x l)
    side true = holds_right old.store.paths (branched x true ∷ (branched x false ∷ [])) (branched x true) (inl refl)
    side false = holds_right old.store.paths (branched x true ∷ (branched x false ∷ [])) (branched x false) (inr (inl refl))

    branches : (q : Path) (l : Bool) → Holds (branched x true ∷ (branched x false ∷ [])) (branched q l) → q ≡ x
    branches q l (inl e) = cc
    branches q l (inr (inl e)) = cc
    branches q l (inr (inr n)) = absurd n

    no_meeting : (q r : Path) → ¬ Holds (branched x true ∷ (branched x false ∷ [])) (sent q r)
    no_meeting q r (inl e) = cc
    no_meeting q r (inr (inl e)) = cc
    no_meeting q r (inr (inr n)) = n

    st : HasState old.store.events x
    st = w.search.store.state x hx

    choice_there : IsChoice st.0.term
    choice_there = at x st.0 ex st.1

    after_left : (u : Term) × (after_choice true st.0.term ≡ Some u)
    after_left = (with_head choice_there.0 st.0.term, ap (λ h. option_map (λ u. with_head u st.0.term) (chosen_from true h)) choice_there.1.1)

    alone : Rests st.0 st.0.term × (sending st.0.term ≡ None) × (receiving st.0.term ≡ None)
    alone = choice_rests st.0 true st.0.term after_left.0 after_left.1

    meets_not : ¬ MayMeet old.store.events x
    meets_not m = elim m.meets [
      | inl e ↦ (let h : Handing m.own m.other m.ends = handing m.own m.other m.ends e in let same : m.own ≡ st.0 =
          (let k : Some m.own ≡ Some st.0 = sym m.state ∙ st.1 in cc) in let s : sending st.0.term ≡ Some h.message = ap (λ k. sending k.term) (sym same)
          ∙ h.sends in let n : sending st.0.term ≡ None = alone.1 in absurd (never_both (sending st.0.term) h.message n s))
      | inr e ↦ (let h : Handing m.other m.own m.ends = handing m.other m.own m.ends e in let same : m.own ≡ st.0 =
          (let k : Some m.own ≡ Some st.0 = sym m.state ∙ st.1 in cc) in let s : receiving st.0.term ≡ Some h.channel = ap (λ k. receiving k.term) (sym same)
          ∙ h.receives in let n : receiving st.0.term ≡ None = alone.2 in absurd (never_both (receiving st.0.term) h.channel n s))
    ]

    final_not : ¬ IsFinal old.store.events x
    final_not f = final_cannot_choose old.store.events x true st.0 (at_term st.0 after_left.0) f st.1 (ap (option_map (at_term st.0)) after_left.1)

-- a branch that isn't made yet
pub branch_unmade : (w : Work) (p : ℕ) (l : Bool) → p < length w.store.paths → IsWorkOn w p → IsUnmade w.store p l
branch_unmade w p l low k x ex h = k.search.branched_from x l h
    (subst (λ y. Holds (pending_of w ++ (y ∷ [])) x) (sym (path_there w.store.paths p x ex)) (holds_right (pending_of w) (x ∷ []) x (inl refl)))

pub branch_left : (old mid : Work) (p : ℕ) (x : Path) → slice_get old.store.paths p ≡ Some x → IsWorkOn old p → Gains old mid (branched x true ∷ []) → IsUnmade mid.store p false
branch_left old mid p x ex w a y ey h =
    let there : slice_get mid.store.paths p ≡ Some x = subst (λ q. slice_get q p ≡ Some x) (sym a.paths) (get-longer old.store.paths (branched x true ∷ []) p x ex) in
    let same : x ≡ y = (let k : Some x ≡ Some y = sym there ∙ ey in cc) in
    elim (holds_which old.store.paths (branched x true ∷ []) (branched y false) (subst (λ q. Holds q (branched y false)) a.paths h)) [
      | inl o ↦ branch_unmade old p false (get_low old.store.paths x p ex) w x ex (subst (λ z. Holds old.store.paths (branched z false)) (sym same) o)
      | inr n ↦ (let e : branched y false ≡ branched x true = holds_one (branched y false) (branched x true) n in apart y x e)
    ]
  where
    apart : (y x : Path) → branched y false ≡ branched x true → ⊥
    apart y x e = cc

-- the same choice after a gain
pub choice_stays : (old mid : Work) (p : ℕ) (news : List Path) → p < length old.store.paths → IsAtChoice old.store p → Gains old mid news → IsAtChoice mid.store p
choice_stays old mid p news low at a x m ex st =
    let y : (y : Path) × (slice_get old.store.paths p ≡ Some y) = get_some old.store.paths p low in
    let there : slice_get mid.store.paths p ≡ Some y.0 = subst (λ q. slice_get q p ≡ Some y.0) (sym a.paths) (get-longer old.store.paths news p y.0 y.1) in
    let same : y.0 ≡ x = (let k : Some y.0 ≡ Some x = sym there ∙ ex in cc) in
    at x m (y.1 ∙ ap Some same) (ap (λ e. path_state e x) (sym a.events) ∙ st)

-- spent, where the budget is short for the next paths
spent_short : (w : Work) (events : List Member) (finals : List Path) (budget : ℕ) → w.store.events ≡ events → IsStore events w.store.paths → IsCounted events w.store.paths finals w.groups
    → RunsShort w budget → IsSpentAt w events budget
spent_short w events finals budget same store c s = record {
  same = same;
  store = store;
  finals = finals;
  counted = c;
  sum = s.near;
  passed = record {
    made = w.store.paths ++ s.more;
    store = subst (λ e. IsStore e (w.store.paths ++ s.more)) same s.store;
    tried = more.tried;
    are = more.are;
    beyond = omega (arith, s.beyond, more.count_is, length-append w.store.paths s.more);
  };
}
  where
    more : IsCounted events (w.store.paths ++ s.more) finals w.groups
    more = counted_more events w.store.paths s.more finals w.groups c

-- spent after a gain
pub spent_gained : (old mid : Work) (p : ℕ) (news : List Path) (budget : ℕ) → IsWorkOn old p → Gains old mid news → RunsShort mid budget → IsSpentAt mid old.store.events budget
spent_gained old mid p news budget w a s = spent_short mid old.store.events (paths_by old.store.paths (numbers_of old.finals)) budget a.events
    (subst (λ e. IsStore e mid.store.paths) a.events a.store)
    (subst (IsCounted old.store.events mid.store.paths (paths_by old.store.paths (numbers_of old.finals))) (sym a.groups)
    (subst (λ q. IsCounted old.store.events q (paths_by old.store.paths (numbers_of old.finals)) old.groups) (sym a.paths)
    (counted_more old.store.events old.store.paths news (paths_by old.store.paths (numbers_of old.finals)) old.groups w.counted))) s

pub spent_here : (old : Work) (p : ℕ) (budget : ℕ) → IsWorkOn old p → RunsShort old budget → IsSpentAt old old.store.events budget
spent_here old p budget w s = spent_short old old.store.events (paths_by old.store.paths (numbers_of old.finals)) budget refl w.search.store w.counted s

pub on_ok : {A E : Type 0} (P Q : Type 0) (r : Result A E) → (P → Q) → OnOk r P → OnOk r Q
on_ok P Q (Ok a) f h = f h
on_ok P Q (Err e) f h = tt
