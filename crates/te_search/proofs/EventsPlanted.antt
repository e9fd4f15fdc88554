-- A whole search of which one more event is planted.
use Rattle.std.proofs.Common.{◌≡◌, ◌⊎◌, ◌<◌, ◌≤◌, inl, inr, ℕ, zero, suc, ◌+◌, List, [], ◌∷◌, ◌++◌, map, length, Bool, true, false}
use Rattle.std.proofs.Common.{cond, ◌||◌, Option, Some, None, slice_get, refl, ap, sym, ◌∙◌, subst, subst₂, arith, nat_eq, eqb-true, eq-eqb, length-append}
use Rattle.te_terms.specs.declared.event.Parked.{Parked}
use Rattle.te_terms.specs.Steps.{Member}
use Rattle.te_terms.specs.Settling.{settled}
use Rattle.te_terms.specs.Joint.{member_of}
use Rattle.te_trail.specs.Paths.{Path, planted, branched, sent, got}
use Rattle.te_trail.specs.States.{HasState}
use Rattle.te_trail.specs.Stores.{Holds, IsStore, labels_of_move}
use Rattle.te_terms.proofs.Lists.{some_map}
use Rattle.te_pair.specs.Ends.{paths_kept}
use Rattle.te_search.specs.declared.work.Work.{Work}
use Rattle.te_search.specs.Finals.{numbers_of, TellThreads}
use Rattle.te_search.specs.Searching.{paths_by, IsSearch}
use Rattle.te_trail.specs.Records.{path_at}
use Rattle.te_search.specs.Works.{AreLow, EndsStand, label_told, IsCounted, IsWork}
use Rattle.te_search.specs.Stacks.{lists_of, SearchIsWhole, EventsAreAmong, count_left}
use Rattle.te_search.specs.Plantings.{has_number}
use Rattle.te_search.proofs.ListLaws.{holds_left, holds_right, holds_which, holds_one}
use Rattle.te_search.proofs.Working.{map_both, by_more, low_more, at_end, counted_more, ends_more, ups_more}
use Rattle.te_search.proofs.FinalsTold.{told_more}
use Rattle.te_search.proofs.WorkDone.{parent_made}
use Rattle.te_search.proofs.EventsAdded as added

-- ---- one more event

pub more_among : (g : List Member) (new : Member) → EventsAreAmong g (g ++ (new ∷ []))
more_among [] new t e h = cc
more_among (m ∷ ms) new t e h = go (more_among ms new t e) (nat_eq m.thread t) h
  where
    go : (member_of t ms ≡ Some e → member_of t (ms ++ (new ∷ [])) ≡ Some e) → (o : Bool) → cond o (Some m) (member_of t ms) ≡ Some e → cond o (Some m) (member_of t (ms ++ (new ∷ []))) ≡ Some e
    go ih true h = h
    go ih false h = ih h

-- it is found where it was put
pub last_found : (g : List Member) (new : Member) (t : ℕ) (e : Member) → member_of t (g ++ (new ∷ [])) ≡ Some e → (member_of t g ≡ Some e) ⊎ ((new.thread ≡ t) × (new ≡ e))
last_found [] new t e h = go (nat_eq new.thread t) refl h
  where
    go : (o : Bool) → nat_eq new.thread t ≡ o → cond o (Some new) None ≡ Some e → (None ≡ Some e) ⊎ ((new.thread ≡ t) × (new ≡ e))
    go true w h = inr (eqb-true new.thread t w, cc)
    go false w h = inl h
last_found (m ∷ ms) new t e h = go (last_found ms new t e) (nat_eq m.thread t) h
  where
    go : (member_of t (ms ++ (new ∷ [])) ≡ Some e → (member_of t ms ≡ Some e) ⊎ ((new.thread ≡ t) × (new ≡ e))) → (o : Bool)
        → cond o (Some m) (member_of t (ms ++ (new ∷ []))) ≡ Some e → (cond o (Some m) (member_of t ms) ≡ Some e) ⊎ ((new.thread ≡ t) × (new ≡ e))
    go ih true h = inl h
    go ih false h = ih h

-- the event of a planted path is there
pub planted_there : (g : List Member) (paths : List Path) (t : ℕ) → IsStore g paths → Holds paths (planted t) → (m : Member) × (member_of t g ≡ Some m)
planted_there g paths t s h = (let k : HasState g (planted t) = s.state (planted t) h in let a : (n : Member) × (member_of t g ≡ Some n) × (settled n ≡ k.0) = some_map settled
    (member_of t g) k.0 k.1 in (a.0, a.1))

pub unplanted_yet : (g : List Member) (paths : List Path) (t : ℕ) → IsStore g paths → member_of t g ≡ None → ¬ Holds paths (planted t)
unplanted_yet g paths t s none h = (let a : (m : Member) × (member_of t g ≡ Some m) = planted_there g paths t s h in clash (member_of t g) a.0 none a.1)
  where
    clash : (o : Option Member) (m : Member) → o ≡ None → o ≡ Some m → ⊥
    clash o m e f = cc

-- ---- and its path

plant_search : (g : List Member) (paths waits finals : List Path) (t : ℕ) → IsSearch g paths [] waits finals → (¬ Holds paths (planted t)) → IsStore g (paths ++ (planted t ∷ []))
    → IsSearch g (paths ++ (planted t ∷ [])) (planted t ∷ []) waits finals
plant_search g paths waits finals t w new s = record {
  store = s;
  ups = ups_more paths (planted t) w.ups (λ y e. absurd (no_parent y e));
  choices = λ p l m u h shut st c. holds_left paths (planted t ∷ []) (branched p l) (w.choices p l m u (old p h shut) (λ n. n) st c);
  waiting = λ p h shut m. w.waiting p (old p h shut) (λ n. n) m;
  meetings = λ p q a b e hp hq ag sa sb m. (let k : Holds paths (sent p q) × Holds paths (got p q) = w.meetings p q a b e hp hq ag sa sb m in
      (holds_left paths (planted t ∷ []) (sent p q) k.0, holds_left paths (planted t ∷ []) (got p q) k.1));
  final = λ p h shut f. w.final p (old p h shut) (λ n. n) f;
  failed = w.failed;
  branched_from = λ p l h k. new (subst (Holds paths) (holds_one p (planted t) k) (parent_in p l h));
  met_from = λ p q h. w.met_from p q (elim (holds_which paths (planted t ∷ []) (sent p q) h) [ inl a ↦ a | inr b ↦ absurd (not_sent p q (holds_one (sent p q) (planted t) b)) ]);
  pending_made = λ p h. holds_right paths (planted t ∷ []) p h;
  waits_made = λ p h. holds_left paths (planted t ∷ []) p (w.waits_made p h);
  finals_made = λ p h. holds_left paths (planted t ∷ []) p (w.finals_made p h);
  finals_final = w.finals_final;
  pending_apart = λ p h. ((λ k. new (subst (Holds paths) (holds_one p (planted t) h) (w.waits_made p k))), (λ k. new (subst (Holds paths) (holds_one p (planted t) h) (w.finals_made p k))));
  pending_once = ((λ n. n), tt);
  waits_once = w.waits_once;
  finals_once = w.finals_once;
}
  where
    no_parent : (y : Path) → None ≡ Some y → ⊥
    no_parent y e = cc

    not_sent : (p q : Path) → sent p q ≡ planted t → ⊥
    not_sent p q e = cc

    not_branched : (p : Path) (l : Bool) → branched p l ≡ planted t → ⊥
    not_branched p l e = cc

    old : (p : Path) → Holds (paths ++ (planted t ∷ [])) p → (¬ Holds (planted t ∷ []) p) → Holds paths p
    old p h shut = elim (holds_which paths (planted t ∷ []) p h) [ inl a ↦ a | inr b ↦ absurd (shut b) ]

    parent_in : (p : Path) (l : Bool) → Holds (paths ++ (planted t ∷ [])) (branched p l) → Holds paths p
    parent_in p l h = elim (holds_which paths (planted t ∷ []) (branched p l) h) [
      | inl a ↦ parent_made paths w.ups (branched p l) p a refl
      | inr b ↦ absurd
          (not_branched p l (holds_one (branched p l) (planted t) b))
    ]

pub planted_work : (old new : Work) (m : Member) → SearchIsWhole (lists_of old) old.groups → new.store.events ≡ old.store.events ++ (m ∷ []) → member_of m.thread old.store.events ≡ None
    → new.store.paths ≡ old.store.paths ++ (planted m.thread ∷ []) → IsStore new.store.events new.store.paths → map label_told new.moves.items ≡ map label_told old.moves.items ++ ([] ∷ [])
    → new.pending.items ≡ length old.store.paths ∷ [] → new.waiting ≡ old.waiting → new.finals ≡ old.finals → new.groups ≡ old.groups → IsWork new
planted_work old new m w ev none ps st mo pe wa fi gr = record {
  search = subst₂ (λ g p. IsSearch g p (paths_by p new.pending.items) (paths_by p (paths_kept new.waiting)) (paths_by p (numbers_of new.finals))) (sym ev) (sym ps)
      (subst (λ k. IsSearch h paths (paths_by paths k) (paths_by paths (paths_kept new.waiting)) (paths_by paths (numbers_of new.finals))) (sym pe)
      (subst (λ k. IsSearch h paths (path_at paths (length old.store.paths) ∷ []) (paths_by paths (paths_kept k)) (paths_by paths (numbers_of new.finals))) (sym wa)
      (subst (λ k. IsSearch h paths (path_at paths (length old.store.paths) ∷ []) (paths_by paths (paths_kept old.waiting)) (paths_by paths (numbers_of k))) (sym fi)
      (subst₂ (λ a b. IsSearch h paths (path_at paths (length old.store.paths) ∷ []) a b) (sym (by_more old.store.paths own (paths_kept old.waiting) w.waits_low))
      (sym (by_more old.store.paths own (numbers_of old.finals) w.finals_low))
      (subst (λ x. IsSearch h paths (x ∷ []) waits finals) (sym (at_end old.store.paths (planted m.thread) []))
      (plant_search h old.store.paths waits finals m.thread (added.search_more old.store.events h old.store.paths [] waits finals among w.search)
      (unplanted_yet old.store.events old.store.paths m.thread w.search.store none) store))))));
  pending_low = subst₂ AreLow (sym ps) (sym pe) last;
  waits_low = subst (λ k. AreLow new.store.paths (paths_kept k)) (sym wa)
      (subst (λ p. AreLow p (paths_kept old.waiting)) (sym ps) (low_more old.store.paths own (paths_kept old.waiting) w.waits_low));
  finals_low = subst (λ k. AreLow new.store.paths (numbers_of k)) (sym fi)
      (subst (λ p. AreLow p (numbers_of old.finals)) (sym ps)
      (low_more old.store.paths own (numbers_of old.finals) w.finals_low));
  finals_told = subst (TellThreads new.store.paths) (sym fi)
      (subst (λ p. TellThreads p old.finals) (sym ps) (told_more old.store.paths own old.finals w.finals_low w.finals_told));
  ends = subst₂ (λ g p. EndsStand g p new.waiting) (sym ev) (sym ps)
      (subst (EndsStand h paths) (sym wa) (added.ends_more old.store.events h paths old.waiting among
      (ends_more old.store.events old.store.paths own old.waiting w.waits_low w.ends)));
  told_are = mo ∙ ap (λ l. l ++ ([] ∷ [])) w.told_are ∙ sym (map_both labels_of_move old.store.paths own) ∙ ap (map labels_of_move) (sym ps);
  counted = subst₂ (λ g p. IsCounted g p (paths_by p (numbers_of new.finals)) new.groups) (sym ev) (sym ps)
      (subst₂ (λ k n. IsCounted h paths (paths_by paths (numbers_of k)) n) (sym fi) (sym gr)
      (subst (λ f. IsCounted h paths f old.groups) (sym (by_more old.store.paths own (numbers_of old.finals) w.finals_low))
      (added.counted_more old.store.events h paths finals old.groups among (counted_more old.store.events old.store.paths own finals old.groups w.counted))));
}
  where
    own : List Path
    own = planted m.thread ∷ []

    h : List Member
    h = old.store.events ++ (m ∷ [])

    paths : List Path
    paths = old.store.paths ++ own

    waits : List Path
    waits = paths_by old.store.paths (paths_kept old.waiting)

    finals : List Path
    finals = paths_by old.store.paths (numbers_of old.finals)

    among : EventsAreAmong old.store.events h
    among = more_among old.store.events m

    store : IsStore h paths
    store = subst₂ IsStore ev ps st

    last : AreLow paths (length old.store.paths ∷ [])
    last zero n e = (let one : length old.store.paths ≡ n = cc in let l : length paths ≡ length old.store.paths + 1 = length-append old.store.paths own in omega (arith, one, l))
    last (suc i) n e = cc

-- every event is planted
pub all_planted : (old new : List Member) (paths more : List Path) (m : Member) → ((t : ℕ) (e : Member) → member_of t old ≡ Some e → Holds paths (planted t))
    → new ≡ old ++ (m ∷ []) → more ≡ paths ++ (planted m.thread ∷ []) → (t : ℕ) (e : Member) → member_of t new ≡ Some e → Holds more (planted t)
all_planted old new paths more m each ev ps t e h = subst (λ l. Holds l (planted t)) (sym ps) (elim (last_found old m t e (ap (member_of t) (sym ev) ∙ h)) [
  | inl a ↦ holds_left paths (planted m.thread ∷ []) (planted t) (each t e a)
  | inr b ↦ holds_right paths (planted m.thread ∷ []) (planted t) (inl (ap planted (sym b.0)))
])

-- ---- what is left to plant

pub number_more : (ns : List ℕ) (s t : ℕ) → has_number (ns ++ (s ∷ [])) t ≡ has_number ns t || nat_eq s t
number_more [] s t = go (nat_eq s t)
  where
    go : (o : Bool) → o || false ≡ o
    go true = refl
    go false = refl
number_more (n ∷ ns) s t = go (nat_eq n t) (number_more ns s t)
  where
    go : (o : Bool) → has_number (ns ++ (s ∷ [])) t ≡ has_number ns t || nat_eq s t → o || has_number (ns ++ (s ∷ [])) t ≡ (o || has_number ns t) || nat_eq s t
    go true e = refl
    go false e = e

left_less : (ns : List ℕ) (s : ℕ) (parked : List Parked) → count_left (ns ++ (s ∷ [])) parked ≤ count_left ns parked
left_less ns s [] = omega arith
left_less ns s (p ∷ parked) = go (has_number ns p.thread) (nat_eq s p.thread) (has_number (ns ++ (s ∷ [])) p.thread) (number_more ns s p.thread) (left_less ns s parked)
  where
    go : (a b c : Bool) → c ≡ a || b → count_left (ns ++ (s ∷ [])) parked ≤ count_left ns parked
        → cond c (count_left (ns ++ (s ∷ [])) parked) (suc (count_left (ns ++ (s ∷ [])) parked)) ≤ cond a (count_left ns parked) (suc (count_left ns parked))
    go true b true e h = h
    go true b false e h = cc
    go false b true e h = omega (arith, h)
    go false b false e h = omega (arith, h)

pub left_fewer : (ns : List ℕ) (parked : List Parked) (i : ℕ) (p : Parked) → slice_get parked i ≡ Some p → has_number ns p.thread ≡ false
    → count_left (ns ++ (p.thread ∷ [])) parked < count_left ns parked
left_fewer ns [] i p e f = cc
left_fewer ns (q ∷ parked) zero p e f = (let one : q ≡ p = cc in let c : count_left (ns ++ (p.thread ∷ [])) (p ∷ parked) < count_left ns (p ∷ parked) = go (has_number ns p.thread)
    (has_number (ns ++ (p.thread ∷ [])) p.thread) f (number_more ns p.thread p.thread ∙ ap (λ o. has_number ns p.thread || o) (eq-eqb p.thread p.thread refl)
    ∙ ap (λ o. o || true) f) (left_less ns p.thread parked) in subst (λ k. count_left (ns ++ (p.thread ∷ [])) (k ∷ parked) < count_left ns (k ∷ parked)) (sym one) c)
  where
    go : (a c : Bool) → a ≡ false → c ≡ true → count_left (ns ++ (p.thread ∷ [])) parked ≤ count_left ns parked → cond c (count_left (ns ++ (p.thread ∷ [])) parked)
        (suc (count_left (ns ++ (p.thread ∷ [])) parked)) < cond a (count_left ns parked) (suc (count_left ns parked))
    go false true e f h = omega (arith, h)
    go true c e f h = cc
    go false false e f h = cc
left_fewer ns (q ∷ parked) (suc i) p e f = go (has_number ns q.thread) (nat_eq p.thread q.thread) (has_number (ns ++ (p.thread ∷ [])) q.thread) (number_more ns p.thread q.thread)
    (left_fewer ns parked i p e f)
  where
    go : (a b c : Bool) → c ≡ a || b → count_left (ns ++ (p.thread ∷ [])) parked < count_left ns parked → cond c (count_left (ns ++ (p.thread ∷ [])) parked)
        (suc (count_left (ns ++ (p.thread ∷ [])) parked)) < cond a (count_left ns parked) (suc (count_left ns parked))
    go true b true e h = h
    go true b false e h = cc
    go false b true e h = omega (arith, h)
    go false b false e h = omega (arith, h)
