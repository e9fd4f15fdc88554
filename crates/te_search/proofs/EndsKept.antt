-- A batch keeps exactly those of its paths that stand at a send or a receive.
use Rattle.std.proofs.Common.{◌≡◌, ◌≤◌, ◌<◌, ◌⊎◌, ◌↔◌, inl, inr, ℕ, zero, suc, ◌+◌, ◌-◌, List, [], ◌∷◌, ◌++◌, length}
use Rattle.std.proofs.Common.{take, Bool, true, false, cond, ltb, Some, slice_get, get_or, refl, ap, sym, ◌∙◌, subst}
use Rattle.std.proofs.Common.{subst₂, arith, eq-or-lt_of_le, append-nil, append_assoc}
use Rattle.std.specs.List.{Contains, filter}
use Rattle.std.specs.List.Sorted.{IsStrictlyIncreasing}
use Rattle.std.proofs.lemmas.List.Kept.{IsStrictlyIncreasing-filter}
use Rattle.std.proofs.lemmas.Bool.{lt-ltb, ltb-true}
use Rattle.te_terms.specs.Steps.{Member, head, outcome_of}
use Rattle.te_terms.specs.Joint.{IsGroup, as_group, member_of}
use Rattle.te_terms.specs.declared.value.Atom.{Atom}
use Rattle.te_terms.specs.declared.event.Outcome.{Outcome}
use Rattle.te_terms.specs.Terms.{Term, never}
use Rattle.te_path.specs.declared.spot.Stop.{Stop}
use Rattle.te_path.specs.declared.spot.Stop.TheVariants as stops
use Rattle.te_path.specs.Paths.{StandsAt}
use Rattle.te_trail.specs.Trails.{IsStop}
use Rattle.te_trail.specs.Paths.{Path, planted}
use Rattle.te_trail.specs.States.{HasState}
use Rattle.te_trail.specs.Stores.{Holds}
use Rattle.te_pair.specs.declared.end.End.{End}
use Rattle.te_pair.specs.Ends.{path_of, paths_kept, PathIsKept, IsEnd, IsAtEnd, IsPartner}
use Rattle.te_pair.specs.Ends.{AreEnds as AllEnds}
use Rattle.te_search.specs.declared.batched.Look.TheVariants as looks
use Rattle.te_search.specs.declared.work.Work.{Work}
use Rattle.te_search.specs.declared.batched.Batched.{Batched}
use Rattle.te_search.specs.Works.{IsWithinBudget, WaitsOn, threads_of}
use Rattle.te_search.specs.Findings.{IsBudget}
use Rattle.te_search.specs.Picks.{RiseAbove, NumbersRise}
use Rattle.te_search.specs.Batches.{Batches, numbers_from, NextBatch, IsLook}
use Rattle.te_search.specs.Batching.{ends_below, IsLeftFrom, HasGoneOn, EndsAreKept, IsBatched, KeepsOne, BatchStays, batches_of}
use Rattle.te_trail.proofs.StoresHold.{held}
use Rattle.te_search.proofs.NumbersListed.{take_one}
use Rattle.te_terms.proofs.Lists.{get_at}
use Rattle.te_terms.proofs.Lists.{get_some}
use Rattle.te_terms.proofs.Lists.{at_or_last}
use Rattle.te_terms.proofs.Lists.{get-longer}
use Rattle.te_search.proofs.Waiting.{end_of, waits_end}
use Rattle.te_search.proofs.Ending.{stop_final, stop_waits, stop_chooses}
use Rattle.te_search.proofs.PathsEnd.{dead_elsewhere}
use Rattle.te_search.proofs.Meeting.{number_there}
use Rattle.te_search.proofs.GoneOn.{numbers_add, count_numbers, below_more, choice_elsewhere}
use Rattle.te_search.proofs.EndsMet.{stands_once, stands_end, stands_here, at_end_stands, contains_at, place_in}

-- ---- one path

rise_last : (low : ℕ) (es : List End) (own : End) → RiseAbove low (paths_kept es) → low < own.path
    → ((i : ℕ) (e : End) → slice_get es i ≡ Some e → e.path < own.path) → RiseAbove low (paths_kept (es ++ (own ∷ [])))
rise_last low [] own r l h = (l, tt)
rise_last low (e ∷ es) own r l h = (r.0, rise_last e.path es own r.1 (h 0 e refl) (λ i d k. h (suc i) d k))

rises_last : (es : List End) (own : End) → NumbersRise (paths_kept es)
    → ((i : ℕ) (e : End) → slice_get es i ≡ Some e → e.path < own.path) → NumbersRise (paths_kept (es ++ (own ∷ [])))
rises_last [] own r h = tt
rises_last (e ∷ es) own r h = rise_last e.path es own r (h 0 e refl) (λ i d k. h (suc i) d k)

last_there : (es : List End) (own : End) → slice_get (es ++ (own ∷ [])) (length es) ≡ Some own
last_there [] own = refl
last_there (e ∷ es) own = last_there es own

-- the next path is kept where it stands
kept_more : (old : Work) (new : Work) (p : ℕ) (x : Path) (channel : ℕ) (sends : Bool) → EndsAreKept old p
    → slice_get old.store.paths p ≡ Some x → WaitsOn old.store.events x channel sends
    → new.store ≡ old.store → new.waiting ≡ old.waiting ++ (record { path = p; channel = channel; sends = sends } ∷ [])
    → EndsAreKept new (p + 1)
kept_more old new p x channel sends k ex sx st wa = record {
  ends = λ i e y ei ey. subst (λ t. WaitsOn t.events y e.channel e.sends) (sym st)
      (stands i e y (listed i e ei) (ap (λ t. slice_get t.paths e.path) (sym st) ∙ ey));
  rise = subst (λ w. NumbersRise (paths_kept w)) (sym wa) (rises_last old.waiting own k.rise k.low);
  low = λ i e ei. elim (listed i e ei) [
    | inl a ↦ (let one : own.path ≡ e.path = ap path_of a.1 in
        omega (arith, one))
    | inr b ↦ (let l : e.path < p = k.low i e b.1 in omega (arith, l))
  ];
  all = λ n y c d low ey sy. all n y c d (eq-or-lt_of_le (let l : n ≤ p = omega (arith, low) in l))
      (ap (λ t. slice_get t.paths n) (sym st) ∙ ey) (subst (λ t. WaitsOn t.events y c d) st sy);
}
  where
    own : End
    own = record { path = p; channel = channel; sends = sends }

    listed : (i : ℕ) (e : End) → slice_get new.waiting i ≡ Some e
        → ((i ≡ length old.waiting) × (own ≡ e)) ⊎ ((i < length old.waiting) × (slice_get old.waiting i ≡ Some e))
    listed i e ei = at_or_last old.waiting own i e (ap (λ w. slice_get w i) (sym wa) ∙ ei)

    stands : (i : ℕ) (e : End) (y : Path) → ((i ≡ length old.waiting) × (own ≡ e)) ⊎
        ((i < length old.waiting) × (slice_get old.waiting i ≡ Some e)) → slice_get old.store.paths e.path ≡ Some y
        → WaitsOn old.store.events y e.channel e.sends
    stands i e y (inl (at, one)) ey = (let here : slice_get old.store.paths p ≡ Some y = ap
        (λ (q : End). slice_get old.store.paths q.path) one ∙ ey in let same : x ≡ y =
        (let two : Some x ≡ Some y = sym ex ∙ here in cc) in
        subst (λ (q : End). WaitsOn old.store.events y q.channel q.sends) one
        (subst (λ z. WaitsOn old.store.events z channel sends) same sx))
    stands i e y (inr (at, ei)) ey = k.ends i e y ei ey

    all : (n : ℕ) (y : Path) (c : ℕ) (d : Bool) → (n ≡ p) ⊎ (n < p) → slice_get old.store.paths n ≡ Some y
        → WaitsOn old.store.events y c d → (i : ℕ) × (slice_get new.waiting i ≡ Some
        (record { path = n; channel = c; sends = d }))
    all n y c d (inr low) ey sy = (let r : (i : ℕ) × (slice_get old.waiting i ≡ Some
        (record { path = n; channel = c; sends = d })) = k.all n y c d low ey sy in (
          r.0,
          ap (λ w. slice_get w r.0) wa ∙ get-longer old.waiting (own ∷ []) r.0
              (record { path = n; channel = c; sends = d }) r.1,
        ))
    all n y c d (inl here) ey sy =
        let same : x ≡ y = (let at : slice_get old.store.paths p ≡ Some y = ap (slice_get old.store.paths) (sym here)
        ∙ ey in let two : Some x ≡ Some y = sym ex ∙ at in cc) in
        let one : (channel ≡ c) × (sends ≡ d) = stands_once old.store.events y channel c sends d
        (subst (λ z. WaitsOn old.store.events z channel sends) same sx) sy in (
          length old.waiting,
          ap (λ w. slice_get w (length old.waiting)) wa ∙ last_there old.waiting own
              ∙ ap Some (is n c d here one.0 one.1),
        )
      where
        is : (n c : ℕ) (d : Bool) → n ≡ p → channel ≡ c → sends ≡ d → own ≡ record { path = n; channel = c; sends = d }
        is n c d a b e = ap {B = End} (λ q. record { path = q; channel = channel; sends = sends }) (sym a)
            ∙ ap {B = End} (λ q. record { path = n; channel = q; sends = sends }) b
            ∙ ap {B = End} (λ q. record { path = n; channel = c; sends = q }) e

pub keeps_end : (old new : Work) (p : ℕ) (x : Path) (channel : ℕ) (sends : Bool) → EndsAreKept old p
    → slice_get old.store.paths p ≡ Some x → WaitsOn old.store.events x channel sends
    → new ≡ record old { waiting = new.waiting } → new.waiting ≡ old.waiting ++
    (record { path = p; channel = channel; sends = sends } ∷ []) → KeepsOne old new p
keeps_end old new p x channel sends k ex sx same wa = record {
  kept = kept_more old new p x channel sends k ex sx (ap (λ w. w.store) same) wa;
  more = record { path = p; channel = channel; sends = sends } ∷ [];
  waiting = wa;
  one = λ i e ei. alone i e ei;
  same = same;
}
  where
    alone : (i : ℕ) (e : End) → slice_get (record { path = p; channel = channel; sends = sends } ∷ []) i ≡ Some e
        → e.path ≡ p
    alone zero e ei = (let is : record { path = p; channel = channel; sends = sends } ≡ e = cc in sym (ap path_of is))
    alone (suc i) e ei = cc

-- the next path stands elsewhere
pub keeps_none : (w : Work) (p : ℕ) (x : Path) → EndsAreKept w p → slice_get w.store.paths p ≡ Some x
    → ((channel : ℕ) (sends : Bool) → ¬ WaitsOn w.store.events x channel sends) → KeepsOne w w p
keeps_none w p x k ex elsewhere = record {
  kept = record {
    ends = k.ends;
    rise = k.rise;
    low = λ i e ei. (let l : e.path < p = k.low i e ei in omega (arith, l));
    all = λ n y c d low ey sy. elim (eq-or-lt_of_le (let l : n ≤ p = omega (arith, low) in l)) [
      | inl here ↦ absurd (elsewhere c d (subst (λ z. WaitsOn w.store.events z c d)
          (let at : slice_get w.store.paths p ≡ Some y = ap (slice_get w.store.paths) (sym here)
          ∙ ey in let two : Some y ≡ Some x = sym at ∙ ex in cc) sy))
      | inr l ↦ k.all n y c d l ey sy
    ];
  };
  more = [];
  waiting = sym (append-nil w.waiting);
  one = λ i e ei. cc;
  same = refl;
}

-- ---- a batch

-- the paths from the last batch to p are kept where they are ends
pub record IsKeeping (old cur : Batched) (p : ℕ) (batch : List ℕ) : Type 0 where
  pub kept : EndsAreKept cur.work p
  pub more : List End
  pub waiting : cur.work.waiting ≡ old.work.waiting ++ more
  pub from : (i : ℕ) (e : End) → slice_get more i ≡ Some e → old.batched ≤ e.path
  pub are : batch ≡ numbers_from old.batched (p - old.batched)
  pub after : old.batched ≤ p
  pub same : cur.work ≡ record old.work { waiting = cur.work.waiting }
  pub stays : BatchStays old cur

pub keeping_starts : (s : Batched) → IsBatched s → IsKeeping s s s.batched []
keeping_starts s b = record {
  kept = b.opened.kept;
  more = [];
  waiting = sym (append-nil s.work.waiting);
  from = λ i e ei. cc;
  are = ap (numbers_from s.batched) (let z : 0 ≡ s.batched - s.batched = omega arith in z);
  after = (let l : s.batched ≤ s.batched = omega arith in l);
  same = refl;
  stays = record { parked = refl; threads = refl; budget = refl; batched = refl; applied = refl };
}

both_parts : {A : Type 0} (xs ys : List A) (i : ℕ) (x : A) → slice_get (xs ++ ys) i ≡ Some x
    → (slice_get xs i ≡ Some x) ⊎ ((j : ℕ) × (slice_get ys j ≡ Some x))
both_parts [] ys i x e = inr (i, e)
both_parts (y ∷ xs) ys zero x e = inl e
both_parts (y ∷ xs) ys (suc i) x e = both_parts xs ys i x e

pub keeping_more : (old cur new : Batched) (p : ℕ) (batch more : List ℕ) → IsKeeping old cur p batch
    → KeepsOne cur.work new.work p → BatchStays cur new → more ≡ batch ++ (p ∷ []) → IsKeeping old new (p + 1) more
keeping_more old cur new p batch more k o s is = record {
  kept = o.kept;
  more = k.more ++ o.more;
  waiting = o.waiting ∙ ap (λ w. w ++ o.more) k.waiting ∙ append_assoc old.work.waiting k.more o.more;
  from = λ i e ei. elim (both_parts k.more o.more i e ei) [
    | inl a ↦ k.from i e a
    | inr b ↦
        (let one : e.path ≡ p = o.one b.0 e b.1 in let l : old.batched ≤ p = k.after in omega (arith, one, l))
  ];
  are = is ∙ ap (λ b. b ++ (p ∷ [])) k.are ∙ sym (ap (numbers_from old.batched)
      (let e : p + 1 - old.batched ≡ (p - old.batched) + 1 = omega (arith, k.after) in e)
      ∙ numbers_add old.batched (p - old.batched) 1
      ∙ ap (λ m. numbers_from old.batched (p - old.batched) ++ (m ∷ []))
      (let e : old.batched + (p - old.batched) ≡ p = omega (arith, k.after) in e));
  after = (let l : old.batched ≤ p = k.after in omega (arith, l));
  same = o.same ∙ ap {A = Work} (λ w. record w { waiting = new.work.waiting }) k.same;
  stays = record {
    parked = s.parked ∙ k.stays.parked;
    threads = s.threads ∙ k.stays.threads;
    budget = s.budget
        ∙ k.stays.budget;
    batched = s.batched ∙ k.stays.batched;
    applied = s.applied ∙ k.stays.applied;
  };
}

-- ---- the whole batch

number_at : (n count i : ℕ) → i < count → slice_get (numbers_from n count) i ≡ Some (n + i)
number_at n zero i l = absurd (omega (arith, l))
number_at n (suc count) zero l = ap Some (let e : n ≡ n + 0 = omega arith in e)
number_at n (suc count) (suc i) l = number_at (suc n) count i (omega (arith, l))
    ∙ ap Some (let e : suc n + i ≡ n + suc i = omega arith in e)

number_within : (n count i m : ℕ) → slice_get (numbers_from n count) i ≡ Some m → (n ≤ m) × (m < n + count)
number_within n zero i m e = cc
number_within n (suc count) zero m e = (let one : n ≡ m = cc in (omega (arith, one), omega (arith, one)))
number_within n (suc count) (suc i) m e = (let r : (suc n ≤ m) × (m < suc n + count) = number_within
    (suc n) count i m e in (omega (arith, r.0), omega (arith, r.1)))

-- how a batch ends: 64 paths further, or at the last
abbrev pub IsEndOfBatch : ℕ → ℕ → ℕ → Type 0
IsEndOfBatch batched count end = ((end ≡ batched + 64) × (end ≤ count)) ⊎
    ((end ≡ count) × (count < batched + 64) × (batched ≤ count))

-- the size of a batch, of so many paths that are left
abbrev IsSize : ℕ → ℕ → Type 0
IsSize left size = ((size ≡ 64) × (64 ≤ left)) ⊎ ((size ≡ left) × (left < 64))

batch_ends : (batched count size : ℕ) → batched ≤ count → IsSize (count - batched) size
    → IsEndOfBatch batched count (batched + size)
batch_ends batched count size low (inl (e, l)) = inl (omega (arith, e), omega (arith, e, l, low))
batch_ends batched count size low (inr (e, l)) = inr (omega (arith, e, low), omega (arith, l, low), low)

-- a batch to its end
pub record IsWhole (old cur : Batched) (end : ℕ) (batch : List ℕ) : Type 0 where
  pub kept : IsKeeping old cur end batch
  pub ends : IsEndOfBatch old.batched (length old.work.store.paths) end

pub whole_batch : (old cur : Batched) (n size p : ℕ) (batch : List ℕ) → IsBatched old → n ≡ length old.work.store.paths
    → ((size ≡ 64) × (64 ≤ n - old.batched)) ⊎ ((size ≡ n - old.batched) × (n - old.batched < 64))
    → (old.batched ≤ old.batched + size → p ≤ old.batched + size) → old.batched + size ≤ p → IsKeeping old cur p batch
    → IsWhole old cur (old.batched + size) batch
whole_batch old cur n size p batch b is most up down k = record {
  kept = subst (λ m. IsKeeping old cur m batch) (let l : p ≤ old.batched + size = up (omega arith) in
      let e : p ≡ old.batched + size = omega (arith, l, down) in e) k;
  ends = batch_ends old.batched (length old.work.store.paths) size b.opened.last
      (subst (λ m. IsSize (m - old.batched) size) is most);
}

-- an empty batch comes exactly where every path was in one
pub empty_batch : (old new : Batches) (batch : List ℕ) → NextBatch old batch new
    → (batch ≡ []) ↔ (old.batched ≡ length old.trail.paths)
empty_batch old new batch n = (over, λ e. none batch (omega (arith, e, n.low)))
  where
    over : batch ≡ [] → old.batched ≡ length old.trail.paths
    over e = (let z : length batch ≡ 0 = ap length e in elim n.most [
      | inl a ↦ absurd (omega (arith, a, z))
      | inr c ↦
          (let s : old.batched + length batch ≡ length old.trail.paths = c.1 in omega (arith, s, z))
    ])

    none : (batch : List ℕ) → length batch ≡ 0 → batch ≡ []
    none [] z = refl
    none (p ∷ batch) z = absurd (omega (arith, z))

-- an empty batch comes only at the last path
pub batch_none : (old cur : Batched) (end : ℕ) (batch : List ℕ) → IsWhole old cur end batch → batch ≡ []
    → old.batched ≡ length old.work.store.paths
batch_none old cur end batch w none = elim w.ends [
  | inl a ↦ (let e : end ≡ old.batched + 64 = a.0 in absurd (omega (arith, e, nothing)))
  | inr c ↦ (let e : end ≡ length old.work.store.paths = c.0 in let l : old.batched ≤ end = w.kept.after in
      omega (arith, e, l, nothing))
]
  where
    nothing : end - old.batched ≡ 0
    nothing = sym (count_numbers old.batched (end - old.batched)) ∙ ap length (sym w.kept.are ∙ none)

pub taken_batch : (old cur new : Batched) (end : ℕ) (batch : List ℕ) → IsBatched old → IsKeeping old cur end batch
    → IsEndOfBatch old.batched (length old.work.store.paths) end → new ≡ record cur { batched = end }
    → NextBatch (batches_of (Some old)) batch (batches_of (Some new))
taken_batch old cur new end batch b k at is = record {
  are = k.are ∙ ap (numbers_from old.batched) (sym long);
  low = (let l : end ≤ length old.work.store.paths = in_store in let e : length batch ≡ end - old.batched = long in
      omega (arith, l, e, k.after));
  most = elim at [
    | inl a ↦ inl (let s : end ≡ old.batched + 64 = a.0 in let e : length batch ≡ end - old.batched = long in
        omega (arith, s, e))
    | inr c ↦ inr (let s : end ≡ length old.work.store.paths = c.0 in
        let t : length old.work.store.paths < old.batched + 64 = c.1 in
        let u : old.batched ≤ length old.work.store.paths = c.2 in let e : length batch ≡ end - old.batched = long in
        (omega (arith, s, t, u, e), omega (arith, s, t, u, e)))
  ];
  more = k.more;
  ends = λ i d low. is_end i d low;
  kept = λ p. (is_kept p, keeps p);
  kept_are = ap (λ (s : Batched). s.work.waiting) is ∙ k.waiting;
  batched = ap (λ (s : Batched). s.batched) is ∙ (let e : length batch ≡ end - old.batched = long in
      let f : end ≡ old.batched + length batch = omega (arith, e, k.after) in f);
  parked = ap (λ (s : Batched). s.parked) is ∙ k.stays.parked;
  budget = ap (λ (s : Batched). s.budget) is ∙ k.stays.budget;
  trail = ap (λ (s : Batched). s.work.store) is ∙ ap (λ w. w.store) k.same;
  applied = ap (λ (s : Batched). s.applied) is ∙ k.stays.applied;
  goes_on = refl;
}
  where
    long : length batch ≡ end - old.batched
    long = ap length k.are ∙ count_numbers old.batched (end - old.batched)

    in_store : end ≤ length old.work.store.paths
    in_store = elim at [ inl a ↦ a.1 | inr c ↦ (let s : end ≡ length old.work.store.paths = c.0 in omega (arith, s)) ]

    store : cur.work.store ≡ old.work.store
    store = ap (λ w. w.store) k.same

    -- an end of this batch, with where it stands in the list
    new_end : (i : ℕ) (e : End) → slice_get k.more i ≡ Some e
        → (y : Path) × (slice_get old.work.store.paths e.path ≡ Some y) × WaitsOn old.work.store.events y e.channel
        e.sends × (e.path < end)
    new_end i e ei =
        let at : slice_get cur.work.waiting (length old.work.waiting + i) ≡ Some e = ap
        (λ w. slice_get w (length old.work.waiting + i)) k.waiting ∙ after_part old.work.waiting k.more i ∙ ei in
        let l : e.path < end = k.kept.low (length old.work.waiting + i) e at in
        let y : (y : Path) × (slice_get old.work.store.paths e.path ≡ Some y) = get_some old.work.store.paths e.path
        (let m : end ≤ length old.work.store.paths = in_store in omega (arith, l, m)) in (
          y.0,
          y.1,
          subst (λ t. WaitsOn t.events y.0 e.channel e.sends) store
              (k.kept.ends (length old.work.waiting + i) e y.0 at (ap (λ t. slice_get t.paths e.path) store ∙ y.1)),
          l,
        )
      where
        after_part : (xs ys : List End) (i : ℕ) → slice_get (xs ++ ys) (length xs + i) ≡ slice_get ys i
        after_part [] ys i = ap (slice_get ys) (let e : 0 + i ≡ i = omega arith in e)
        after_part (x ∷ xs) ys i = ap (slice_get (x ∷ (xs ++ ys)))
            (let e : suc (length xs) + i ≡ suc (length xs + i) = omega arith in e) ∙ after_part xs ys i

    is_end : (i : ℕ) (d : End) → i < length k.more → IsEnd old.work.store (get_or k.more i d)
    is_end i d low = (let r = new_end i (get_or k.more i d) (get_at k.more i d low) in
        stands_end old.work.store (get_or k.more i d) r.0 r.1 r.2)

    in_batch : (p : ℕ) → old.batched ≤ p → p < end → Contains batch p
    in_batch p low high = subst (λ l. Contains l p) (sym k.are)
        (contains_at (numbers_from old.batched (end - old.batched)) (p - old.batched) p
        (number_at old.batched (end - old.batched) (p - old.batched) (omega (arith, low, high))
        ∙ ap Some (let e : old.batched + (p - old.batched) ≡ p = omega (arith, low) in e)))

    is_kept : (p : ℕ) → Contains (paths_kept k.more) p → Contains batch p × IsAtEnd old.work.store p
    is_kept p c = by (place_in (paths_kept k.more) p c)
      where
        by : (i : ℕ) × (slice_get (paths_kept k.more) i ≡ Some p) → Contains batch p × IsAtEnd old.work.store p
        by (i, ei) =
            let e : (e : End) × (slice_get k.more i ≡ Some e) × (e.path ≡ p) = end_of k.more i p ei in
            let r = new_end i e.0 e.1 in
            let from : old.batched ≤ e.0.path = k.from i e.0 e.1 in
            let l : e.0.path < end = r.3 in
            let same : e.0.path ≡ p = e.2 in (
              in_batch p (omega (arith, from, same)) (omega (arith, l, same)),
              λ x m ex st. (
                e.0.sends,
                e.0.channel,
                stands_here old.work.store.events e.0.sends e.0.channel x m
                    (subst (λ z. WaitsOn old.work.store.events z e.0.channel e.0.sends)
                    (let two : Some r.0 ≡ Some x = sym r.1 ∙ ap (slice_get old.work.store.paths) same
                    ∙ ex in let one : r.0 ≡ x = cc in one) r.2) st,
              ),
            )

    keeps : (p : ℕ) → Contains batch p × IsAtEnd old.work.store p → Contains (paths_kept k.more) p
    keeps p (c, at_end) = by (place_in (numbers_from old.batched (end - old.batched)) p
        (subst (λ l. Contains l p) k.are c))
      where
        by : (i : ℕ) × (slice_get (numbers_from old.batched (end - old.batched)) i ≡ Some p)
            → Contains (paths_kept k.more) p
        by (i, ei) = found (both_parts old.work.waiting k.more kept.0 own
            (ap (λ w. slice_get w kept.0) (sym k.waiting) ∙ kept.1))
          where
            in_range : (old.batched ≤ p) × (p < old.batched + (end - old.batched))
            in_range = number_within old.batched (end - old.batched) i p ei

            low : p < end
            low = (let a : old.batched ≤ p = in_range.0 in let l : p < old.batched + (end - old.batched) = in_range.1 in
                omega (arith, a, l, k.after))

            y : (y : Path) × (slice_get old.work.store.paths p ≡ Some y)
            y = get_some old.work.store.paths p (let m : end ≤ length old.work.store.paths = in_store in
                omega (arith, low, m))

            st : HasState old.work.store.events y.0
            st = b.opened.work.search.store.state y.0 (held old.work.store.paths p y.0 y.1)

            stands : (channel : ℕ) × (sends : Bool) × WaitsOn old.work.store.events y.0 channel sends
            stands = at_end_stands old.work.store p y.0 st.0 y.1 st.1 at_end

            own : End
            own = record { path = p; channel = stands.0; sends = stands.1 }

            kept : (i : ℕ) × (slice_get cur.work.waiting i ≡ Some own)
            kept = k.kept.all p y.0 stands.0 stands.1 low (ap (λ t. slice_get t.paths p) store ∙ y.1)
                (subst (λ t. WaitsOn t.events y.0 stands.0 stands.1) (sym store) stands.2)

            found : (slice_get old.work.waiting kept.0 ≡ Some own) ⊎ ((j : ℕ) × (slice_get k.more j ≡ Some own))
                → Contains (paths_kept k.more) p
            found (inl h) = absurd (let l : p < old.batched = b.opened.kept.low kept.0 own h in
                let a : old.batched ≤ p = in_range.0 in omega (arith, l, a))
            found (inr (j, h)) = contains_at (paths_kept k.more) j p (number_there k.more j own h)

pub batched_on : (old cur new : Batched) (end : ℕ) (batch : List ℕ) → IsBatched old → old.applied ≡ old.batched
    → IsKeeping old cur end batch → IsEndOfBatch old.batched (length old.work.store.paths) end
    → new ≡ record cur { batched = end } → IsBatched new
batched_on old cur new end batch b all k at is = subst IsBatched (sym is) (record {
  rise = subst (λ p. IsGroup (as_group p)) (sym k.stays.parked) b.rise;
  events = ap (λ t. t.events) store ∙ b.events ∙ ap as_group (sym k.stays.parked);
  threads = k.stays.threads ∙ b.threads ∙ ap (λ t. threads_of t.events) (sym store);
  budget = subst IsBudget (sym k.stays.budget) b.budget;
  within = subst₂ IsWithinBudget (sym k.same) (sym k.stays.budget) b.within;
  idle = ap (λ w. w.pending.items) k.same ∙ b.idle;
  opened = record {
    work = subst (λ n. HasGoneOn cur.work n) (sym k.stays.applied)
        (subst₂ (λ w l. IsLeftFrom w old.applied l) (sym k.same) (sym ends) b.opened.work);
    first = (let a : cur.applied ≡ old.applied = k.stays.applied in let l : old.batched ≤ end = k.after in
        omega (arith, a, all, l));
    last = (let l : end ≤ length old.work.store.paths = in_store in
        let e : length cur.work.store.paths ≡ length old.work.store.paths = ap (λ t. length t.paths) store in
        omega (arith, l, e));
    kept = k.kept;
  };
  planted_all = λ t e h. subst (λ s. Holds s.paths (planted t)) (sym store)
      (b.planted_all t e (ap (λ p. member_of t (as_group p)) (sym k.stays.parked) ∙ h));
})
  where
    store : cur.work.store ≡ old.work.store
    store = ap (λ w. w.store) k.same

    in_store : end ≤ length old.work.store.paths
    in_store = elim at [ inl a ↦ a.1 | inr c ↦ (let s : end ≡ length old.work.store.paths = c.0 in omega (arith, s)) ]

    ends : ends_below old.applied cur.work.waiting ≡ ends_below old.applied old.work.waiting
    ends = ap (ends_below old.applied) k.waiting ∙ below_more old.work.waiting k.more old.applied
        (λ i e ei. (let l : old.batched ≤ e.path = k.from i e ei in omega (arith, all, l)))

-- ---- by where a path stands

pub keeps_sender : (old new : Work) (p c : ℕ) (v : List Atom) → EndsAreKept old p → p < length old.store.paths
    → IsStop old.store p (stops.Send c v) → new ≡ record old { waiting = new.waiting }
    → new.waiting ≡ old.waiting ++ (record { path = p; channel = c; sends = true } ∷ []) → KeepsOne old new p
keeps_sender old new p c v k low told same wa = (let x : (x : Path) ×
    (slice_get old.store.paths p ≡ Some x) = get_some old.store.paths p low in
    keeps_end old new p x.0 c true k x.1 (stop_waits old p (stops.Send c v) c true told
    (λ t h. (record { channel = c; value = v }, h, refl)) x.0 x.1) same wa)

pub keeps_receiver : (old new : Work) (p c : ℕ) → EndsAreKept old p → p < length old.store.paths
    → IsStop old.store p (stops.Recv c) → new ≡ record old { waiting = new.waiting }
    → new.waiting ≡ old.waiting ++ (record { path = p; channel = c; sends = false } ∷ []) → KeepsOne old new p
keeps_receiver old new p c k low told same wa = (let x : (x : Path) ×
    (slice_get old.store.paths p ≡ Some x) = get_some old.store.paths p low in
    keeps_end old new p x.0 c false k x.1 (stop_waits old p (stops.Recv c) c false told (λ t h. h) x.0 x.1) same wa)

pub keeps_no_end : (w : Work) (p : ℕ) (stop : Stop) → EndsAreKept w p → p < length w.store.paths → IsStop w.store p stop
    → ((t : Term) → StandsAt t stop → (o : Outcome) × (outcome_of t ≡ Some o)) → KeepsOne w w p
keeps_no_end w p stop k low told by =
    (let x : (x : Path) × (slice_get w.store.paths p ≡ Some x) = get_some w.store.paths p low in
    keeps_none w p x.0 k x.1 (λ c s h. waits_end w.store.events x.0 c s h (stop_final w p stop told by x.0 x.1)))

pub keeps_no_choice : (w : Work) (p : ℕ) → EndsAreKept w p → p < length w.store.paths → IsStop w.store p stops.Choice
    → KeepsOne w w p
keeps_no_choice w p k low told =
    (let x : (x : Path) × (slice_get w.store.paths p ≡ Some x) = get_some w.store.paths p low in let a = told x.0 x.1 in
    keeps_none w p x.0 k x.1 (choice_elsewhere w p x.0 x.1 (a.0, a.1.state)
    (stop_chooses w p stops.Choice told (λ t h. h))))

pub keeps_no_dead_end : (w : Work) (p : ℕ) → EndsAreKept w p → p < length w.store.paths → IsStop w.store p stops.Dead
    → KeepsOne w w p
keeps_no_dead_end w p k low told =
    (let x : (x : Path) × (slice_get w.store.paths p ≡ Some x) = get_some w.store.paths p low in let a = told x.0 x.1 in
    keeps_none w p x.0 k x.1 (dead_elsewhere w.store.events x.0 a.0 a.1.state a.2))

-- ---- the lower ones of some numbers

-- each kept end is one of the store
pub kept_ends : (w : Work) (batched : ℕ) → EndsAreKept w batched → batched ≤ length w.store.paths
    → AllEnds w.store w.waiting
kept_ends w batched k last i d low =
    let e : slice_get w.waiting i ≡ Some (get_or w.waiting i d) = get_at w.waiting i d low in
    let l : (get_or w.waiting i d).path < batched = k.low i (get_or w.waiting i d) e in
    let y : (y : Path) × (slice_get w.store.paths (get_or w.waiting i d).path ≡ Some y) = get_some w.store.paths
    (get_or w.waiting i d).path (omega (arith, l, last)) in
    stands_end w.store (get_or w.waiting i d) y.0 y.1 (k.ends i (get_or w.waiting i d) y.0 e y.1)

filter_last : (f : ℕ → Bool) (xs : List ℕ) (y : ℕ) → filter f (xs ++ (y ∷ [])) ≡ filter f xs ++ cond (f y) (y ∷ []) []
filter_last f [] y = by (f y)
  where
    by : (o : Bool) → cond o (y ∷ []) [] ≡ [] ++ cond o (y ∷ []) []
    by true = refl
    by false = refl
filter_last f (x ∷ xs) y = by (f x) (filter_last f xs y)
  where
    by : (o : Bool) → filter f (xs ++ (y ∷ [])) ≡ filter f xs ++ cond (f y) (y ∷ []) []
        → cond o (x ∷ filter f (xs ++ (y ∷ []))) (filter f (xs ++ (y ∷ []))) ≡ cond o (x ∷ filter f xs)
        (filter f xs) ++ cond (f y) (y ∷ []) []
    by true h = ap (λ l. x ∷ l) h
    by false h = h

pub lower_more : (p : ℕ) (found lower more : List ℕ) (i q : ℕ) → slice_get found i ≡ Some q
    → lower ≡ filter (λ n. ltb n p) (take i found) → q < p → more ≡ lower ++ (q ∷ [])
    → more ≡ filter (λ n. ltb n p) (take (i + 1) found)
lower_more p found lower more i q e h low is = is ∙ ap (λ l. l ++ (q ∷ [])) h
    ∙ sym (ap (filter (λ n. ltb n p)) (take_one found i q e) ∙ filter_last (λ n. ltb n p) (take i found) q
    ∙ ap (λ o. filter (λ n. ltb n p) (take i found) ++ cond o (q ∷ []) []) (lt-ltb q p low))

pub lower_pass : (p : ℕ) (found lower : List ℕ) (i q : ℕ) → slice_get found i ≡ Some q
    → lower ≡ filter (λ n. ltb n p) (take i found) → (¬ (q < p)) → lower ≡ filter (λ n. ltb n p) (take (i + 1) found)
lower_pass p found lower i q e h high = h
    ∙ sym (ap (filter (λ n. ltb n p)) (take_one found i q e) ∙ filter_last (λ n. ltb n p) (take i found) q
    ∙ ap (λ o. filter (λ n. ltb n p) (take i found) ++ cond o (q ∷ []) []) (not_lower (ltb q p) refl)
    ∙ append-nil (filter (λ n. ltb n p) (take i found)))
  where
    not_lower : (o : Bool) → ltb q p ≡ o → ltb q p ≡ false
    not_lower true w = absurd (high (ltb-true q p w))
    not_lower false w = w

filter_has : (f : ℕ → Bool) (xs : List ℕ) (j q : ℕ) → slice_get (filter f xs) j ≡ Some q
    → (i : ℕ) × (slice_get xs i ≡ Some q) × (f q ≡ true)
filter_has f [] j q e = cc
filter_has f (x ∷ xs) j q e = by (f x) refl (λ k. filter_has f xs k q) j e
  where
    more : (i : ℕ) × (slice_get xs i ≡ Some q) × (f q ≡ true) → (i : ℕ) × (slice_get (x ∷ xs) i ≡ Some q) × (f q ≡ true)
    more (i, a, b) = (suc i, a, b)

    by : (o : Bool) → f x ≡ o → ((k : ℕ) → slice_get (filter f xs) k ≡ Some q
        → (i : ℕ) × (slice_get xs i ≡ Some q) × (f q ≡ true)) → (j : ℕ)
        → slice_get (cond o (x ∷ filter f xs) (filter f xs)) j ≡ Some q
        → (i : ℕ) × (slice_get (x ∷ xs) i ≡ Some q) × (f q ≡ true)
    by true w ih zero e = (let one : x ≡ q = cc in (0, e, ap f (sym one) ∙ w))
    by true w ih (suc j) e = more (ih j e)
    by false w ih j e = more (ih j e)

has_filter : (f : ℕ → Bool) (xs : List ℕ) (i q : ℕ) → slice_get xs i ≡ Some q → f q ≡ true
    → (j : ℕ) × (slice_get (filter f xs) j ≡ Some q)
has_filter f [] i q e t = cc
has_filter f (x ∷ xs) zero q e t = (let one : x ≡ q = cc in by (f x) (ap f one ∙ t))
  where
    by : (o : Bool) → o ≡ true → (j : ℕ) × (slice_get (cond o (x ∷ filter f xs) (filter f xs)) j ≡ Some q)
    by true w = (0, e)
    by false w = cc
has_filter f (x ∷ xs) (suc i) q e t = by (f x) (has_filter f xs i q e t)
  where
    by : (o : Bool) → (j : ℕ) × (slice_get (filter f xs) j ≡ Some q)
        → (j : ℕ) × (slice_get (cond o (x ∷ filter f xs) (filter f xs)) j ≡ Some q)
    by true (j, h) = (suc j, h)
    by false h = h

pub lower_look : (s : Batched) (p : ℕ) (found lower : List ℕ) → IsAtEnd s.work.store p → IsStrictlyIncreasing found
    → ((q : ℕ) → Contains found q ↔ IsPartner s.work.store s.work.waiting p q)
    → lower ≡ filter (λ n. ltb n p) found → IsLook (batches_of (Some s)) p (looks.Ends lower)
lower_look s p found lower at rise exact is = (
  at,
  subst IsStrictlyIncreasing (sym is) (IsStrictlyIncreasing-filter (λ n. ltb n p) found rise),
  λ q. (
    (λ c. (let j : (j : ℕ) × (slice_get (filter (λ n. ltb n p) found) j ≡ Some q) = place_in
        (filter (λ n. ltb n p) found) q (subst (λ l. Contains l q) is c) in
        let h : (i : ℕ) × (slice_get found i ≡ Some q) × (ltb q p ≡ true) = filter_has (λ n. ltb n p) found j.0 q j.1 in
        (ltb-true q p h.2, (exact q).0 (contains_at found h.0 q h.1)))),
    (λ k. (let i : (i : ℕ) × (slice_get found i ≡ Some q) = place_in found q ((exact q).1 k.1) in
        let j : (j : ℕ) × (slice_get (filter (λ n. ltb n p) found) j ≡ Some q) = has_filter
        (λ n. ltb n p) found i.0 q i.1 (lt-ltb q p k.0) in
        subst (λ l. Contains l q) (sym is) (contains_at (filter (λ n. ltb n p) found) j.0 q j.1))),
  ),
)

-- ---- looks at other paths

pub dead_look : (s : Batched) (p : ℕ) → IsStop s.work.store p stops.Dead → IsLook (batches_of (Some s)) p looks.Dead
dead_look s p told x m ex st = (let a = told x ex in let one : a.0 ≡ m =
    (let k : Some a.0 ≡ Some m = sym a.1.state ∙ st in cc) in subst (λ (k : Member). head k.term ≡ never) one a.2)

-- ---- before a path is kept

pub not_yet_kept : (w : Work) (p : ℕ) → EndsAreKept w p → ¬ PathIsKept w.waiting p
not_yet_kept w p k c = by (place_in (paths_kept w.waiting) p c)
  where
    by : (i : ℕ) × (slice_get (paths_kept w.waiting) i ≡ Some p) → ⊥
    by (i, ei) = (let e : (e : End) × (slice_get w.waiting i ≡ Some e) × (e.path ≡ p) = end_of w.waiting i p ei in
        let l : e.0.path < p = k.low i e.0 e.1 in let s : e.0.path ≡ p = e.2 in omega (arith, l, s))

-- ---- where a stop says that a path stands

pub send_at_end : (w : Work) (p c : ℕ) (v : List Atom) → IsStop w.store p (stops.Send c v) → IsAtEnd w.store p
send_at_end w p c v told x m ex st = (
  true,
  c,
  stands_here w.store.events true c x m
      (stop_waits w p (stops.Send c v) c true told (λ t h. (record { channel = c; value = v }, h, refl)) x ex) st,
)

pub receive_at_end : (w : Work) (p c : ℕ) → IsStop w.store p (stops.Recv c) → IsAtEnd w.store p
receive_at_end w p c told x m ex st = (
  false,
  c,
  stands_here w.store.events false c x m
      (stop_waits w p (stops.Recv c) c false told (λ t h. h) x ex) st,
)
