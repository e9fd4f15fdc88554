-- What a step of a search in batches comes to.
use Rattle.std.proofs.Common.{◌≡◌, ◌≤◌, ◌<◌, ℕ, zero, suc, ◌+◌, List, [], ◌∷◌, ◌++◌, length, take, Bool, true}
use Rattle.std.proofs.Common.{false, Option, Some, None, Result, Ok, Err, IfOk, IsOk, MatchOption, slice_get}
use Rattle.std.proofs.Common.{Vec, Global, refl, ap, sym, ◌∙◌, subst, arith, append-nil, append_assoc}
use Rattle.te_terms.specs.Joint.{IsGroup, as_group, member_of}
use Rattle.te_trail.specs.Paths.{Path, planted, branched}
use Rattle.te_trail.specs.Stores.{Holds}
use Rattle.te_search.specs.declared.work.Work.{Work}
use Rattle.te_search.specs.declared.assembly.Refused.{Refused}
use Rattle.te_search.specs.declared.assembly.Refused.TheVariants as refusals
use Rattle.te_search.specs.declared.batched.Batched.{Batched}
use Rattle.te_search.specs.declared.batched.Look.{Look}
use Rattle.te_search.specs.declared.batched.Look.TheVariants as looks
use Rattle.te_search.specs.Groups.{IsFinal}
use Rattle.te_search.specs.Finals.{numbers_of}
use Rattle.te_search.specs.Searching.{paths_by}
use Rattle.te_search.specs.Assemblies.{AssemblyStand}
use Rattle.te_trail.specs.Trails.{IsAtChoice}
use Rattle.te_search.specs.Works.{Gains, AreLow, IsWithinBudget, IsHit, IsSpentAt, WaitsOn, threads_of}
use Rattle.te_search.specs.Findings.{IsUsedUp, IsBudget}
use Rattle.te_search.specs.Stacks.{EventsAreAmong}
use Rattle.te_search.specs.Batches.{IsLook, IsApplied, AreLeftTogether, NoneTogether, AreMadeBy, meetings_with}
use Rattle.te_search.specs.Batching.{ends_below, BatchIsOpen, IsBatched, HasTried, BatchGoesOn, MeetsThese, IsHitAmong, EndsWith}
use Rattle.te_search.specs.Batching.{BatchStepsTo, BatchStays, batches_of}
use Rattle.te_search.proofs.ListLaws.{holds_left}
use Rattle.te_terms.proofs.Lists.{get_some}
use Rattle.te_search.proofs.Ending.{ending}
use Rattle.te_search.proofs.GoneOn.{AreFew, seen_from, fork_open}
use Rattle.te_search.proofs.EndsMet.{stands_once}
use Rattle.te_search.proofs.PathsEnd.{hand, tried_ends, dead_opened}
use Rattle.te_search.proofs.BatchesTaken.{none_left, batched_used_up}
use Rattle.te_search.proofs.LooksStay.{look_stays}

pub few_of : (s : Batched) → IsBatched s → AreFew s.work
few_of s b = omega (arith, b.within, b.budget.1)

pub lowest : (s : Batched) → IsBatched s → s.applied < s.batched
    → (x : Path) × (slice_get s.work.store.paths s.applied ≡ Some x)
lowest s b low = get_some s.work.store.paths s.applied (let l : s.batched ≤ length s.work.store.paths = b.opened.last in
    omega (arith, low, l))

pub on_ok_found : {A E : Type 0} (P Q : A → Type 0) (W : Type 0) (r : Result A E) → ((a : A) → P a → W → Q a) → IfOk r P
    → (IsOk r → W) → IfOk r Q
on_ok_found P Q W (Ok a) f h w = f a h (w refl)
on_ok_found P Q W (Err e) f h w = tt

pub is_spent : {A : Type 0} (r : Result A Refused) (e fault : Refused) → r ≡ Err e → e ≡ fault → r ≡ Err refusals.Spent
    → fault ≡ refusals.Spent
is_spent r e fault a b h = cc

-- ---- meetings

pub meets_these : (old new : Batched) (x : Path) (others : List ℕ) (channel : ℕ) (sends : Bool)
    → WaitsOn old.work.store.events x channel sends
    → BatchGoesOn old new (meetings_with sends x (paths_by old.work.store.paths others)) → MeetsThese old new x others
meets_these old new x others channel sends stands g = (
  meetings_with sends x (paths_by old.work.store.paths others),
  (λ c s k. ap (λ b. meetings_with b x (paths_by old.work.store.paths others))
      (stands_once old.work.store.events x channel c sends s stands k).1),
  g,
)

-- ---- a choice

pub forks : (old new : Batched) (mid : Work) (x : Path) → IsBatched old → old.applied < old.batched
    → slice_get old.work.store.paths old.applied ≡ Some x → IsAtChoice old.work.store old.applied
    → Gains old.work mid (branched x true ∷ []) → Gains mid new.work (branched x false ∷ [])
    → IsWithinBudget new.work old.budget → BatchGoesOn old new (branched x true ∷ (branched x false ∷ []))
forks old new mid x k low ex at a b within = record {
  opened = fork_open old.work mid new.work old.applied old.batched x k.opened low ex at few a b;
  paths = b.paths ∙ ap (λ l. l ++ (branched x false ∷ [])) a.paths
      ∙ append_assoc old.work.store.paths (branched x true ∷ []) (branched x false ∷ []);
  events = b.events ∙ a.events;
  waiting = b.waiting ∙ a.waiting;
  within = within;
}
  where
    few : AreFew new.work
    few = omega (arith, within, k.budget.1)

-- ---- a final path

pub end_stand : (s : Batched) (x : Path) → IsBatched s → slice_get s.work.store.paths s.applied ≡ Some x
    → IsFinal s.work.store.events x
    → AssemblyStand s.work.store.events s.work.store.paths s.threads (numbers_of s.work.finals ++ (s.applied ∷ []))
end_stand s x b ex f = (ending (seen_from s.work (s.applied + 1) (ends_below s.applied s.work.waiting)
    (few_of s b)) s.applied x s.threads ex (hand s.work s.applied s.batched x
    (few_of s b) b.opened ex) f b.threads).stand

pub ends_with : (old new : Batched) (x : Path) (found : Option (Vec (Option ℕ) Global)) → IsBatched old
    → old.applied < old.batched → slice_get old.work.store.paths old.applied ≡ Some x
    → IsFinal old.work.store.events x → HasTried old.work new.work old.applied old.threads found
    → IsWithinBudget new.work old.budget → EndsWith old new found
ends_with old new x found b low ex f t w = by found
    (tried_ends old.work new.work old.applied old.batched x old.threads found b.opened low
    (few_of old b) ex f b.threads t)
  where
    by : (found : Option (Vec (Option ℕ) Global)) → MatchOption found (BatchIsOpen new.work (old.applied + 1) old.batched)
        (λ v. IsHit new.work old.threads v.items) → EndsWith old new found
    by None o = record {
      opened = o;
      paths = ap (λ s. s.paths) t.store
          ∙ sym (append-nil old.work.store.paths);
      events = ap (λ s. s.events) t.store;
      waiting = t.waiting;
      within = w;
    }
    by (Some v) h = (h, ap (λ s. s.events) t.store)

pub ends_step : (old new : Batched) (look : Look) (found : Option (Vec (Option ℕ) Global)) → look ≡ looks.Final
    → EndsWith old new found → BatchStepsTo old look new found
ends_step old new look None is g = λ x ex. ([], subst (λ l. AreMadeBy (batches_of (Some old)) x l []) (sym is) refl, g)
ends_step old new look (Some v) is h = h

-- ---- applied

-- what holds between two calls, once the lowest path has gone on
pub batched_next : (old new : Batched) (news : List Path) → IsBatched old → BatchStays old new → BatchGoesOn old new news
    → new.work.pending.items ≡ [] → IsBatched (record new { applied = old.applied + 1 })
batched_next old new news b s g idle = record {
  rise = subst (λ p. IsGroup (as_group p)) (sym s.parked) b.rise;
  events = g.events ∙ b.events ∙ ap as_group (sym s.parked);
  threads = s.threads ∙ b.threads ∙ ap threads_of (sym g.events);
  budget = subst IsBudget (sym s.budget) b.budget;
  within = subst (IsWithinBudget new.work) (sym s.budget) g.within;
  idle = idle;
  opened = subst (BatchIsOpen new.work (old.applied + 1)) (sym s.batched) g.opened;
  planted_all = λ t e h. subst (λ l. Holds l (planted t)) (sym g.paths)
      (holds_left old.work.store.paths news (planted t) (b.planted_all t e
      (ap (λ p. member_of t (as_group p)) (sym s.parked) ∙ h)));
}

pub is_applied : (old new : Batched) (look : Look) (news : List Path) → IsBatched old → BatchStays old new
    → BatchGoesOn old new news
    → ((x : Path) → slice_get old.work.store.paths old.applied ≡ Some x → AreMadeBy (batches_of (Some old)) x look news)
    → IsApplied (batches_of (Some old)) old.applied look (batches_of (Some (record new { applied = old.applied + 1 })))
is_applied old new look news b s g are = record {
  parked = s.parked;
  budget = s.budget;
  events = g.events;
  news = news;
  paths = g.paths;
  are = are;
  kept = g.waiting;
  batched = s.batched;
  applied = refl;
  goes_on = refl;
}

take_first : (k : ℕ) (xs ys : List Path) → k ≤ length xs → take k (xs ++ ys) ≡ take k xs
take_first zero [] [] l = refl
take_first zero [] (y ∷ ys) l = refl
take_first zero (x ∷ xs) ys l = refl
take_first (suc k) [] ys l = absurd (omega (arith, l))
take_first (suc k) (x ∷ xs) ys l = ap (λ r. x ∷ r) (take_first k xs ys (omega (arith, l)))

-- the applied paths stay the first
pub together_none : (old new : Batched) (news : List Path) → IsBatched old → BatchGoesOn old new news
    → old.applied < old.batched → NoneTogether (batches_of (Some old)) old.applied
together_none old new news b g low x ps ex applied l = none_left new.work (old.applied + 1) old.batched ps x g.opened
    (λ y h. subst (λ p. Holds (take (old.applied + 1) p) y) (sym g.paths) (more y (applied y h)))
    (subst (λ e. AreLeftTogether e x ps) (sym g.events) l)
  where
    more : (y : Path) → Holds (take (old.applied + 1) old.work.store.paths) y
        → Holds (take (old.applied + 1) (old.work.store.paths ++ news)) y
    more y h = subst (λ p. Holds p y) (sym (take_first (old.applied + 1) old.work.store.paths news
        (let k : old.batched ≤ length old.work.store.paths = b.opened.last in omega (arith, low, k)))) h

-- ---- what a look says is done

pub dead_step : (s : Batched) (look : Look) → IsBatched s → s.applied < s.batched → look ≡ looks.Dead
    → IsLook (batches_of (Some s)) s.applied look → BatchStepsTo s look s None
dead_step s look b low is h = λ x ex. (
  [],
  subst (λ l. AreMadeBy (batches_of (Some s)) x l []) (sym is) refl,
  record {
    opened = dead_opened s.work s.applied s.batched x b.opened low (few_of s b) ex
        (subst (IsLook (batches_of (Some s)) s.applied) is h);
    paths = sym (append-nil s.work.store.paths);
    events = refl;
    waiting = refl;
    within = b.within;
  },
)

pub fork_step : (old new : Batched) (look : Look) → look ≡ looks.Fork
    → ((x : Path) → slice_get old.work.store.paths old.applied ≡ Some x
    → BatchGoesOn old new (branched x true ∷ (branched x false ∷ []))) → BatchStepsTo old look new None
fork_step old new look is g = λ x ex. (
  branched x true ∷ (branched x false ∷ []),
  subst
      (λ l. AreMadeBy (batches_of (Some old)) x l (branched x true ∷ (branched x false ∷ []))) (sym is) refl,
  g x ex,
)

pub meet_step : (old new : Batched) (look : Look) (others : List ℕ) → look ≡ looks.Ends others
    → ((x : Path) → slice_get old.work.store.paths old.applied ≡ Some x → MeetsThese old new x others)
    → BatchStepsTo old look new None
meet_step old new look others is g = λ x ex. (let m : MeetsThese old new x others = g x ex in
    (m.0, subst (λ l. AreMadeBy (batches_of (Some old)) x l m.0) (sym is) m.1, m.2))

-- ---- the list of new paths is cleared

no_pending : (paths : List Path) (ns : List ℕ) → ns ≡ [] → AreLow paths ns
no_pending paths ns e i n h = (let none : slice_get [] i ≡ Some n = ap (λ l. slice_get l i) (sym e) ∙ h in cc)

cleared_open : (w : Work) (v : Vec ℕ Global) (n batched : ℕ) → v.items ≡ [] → BatchIsOpen w n batched
    → BatchIsOpen (record w { pending = v }) n batched
cleared_open w v n batched none o = record {
  work = record {
    search = o.work.search;
    pending_low = no_pending w.store.paths v.items none;
    waits_low = o.work.waits_low;
    finals_low = o.work.finals_low;
    finals_told = o.work.finals_told;
    ends = o.work.ends;
    told_are = o.work.told_are;
    counted = o.work.counted;
  };
  first = o.first;
  last = o.last;
  kept = record { ends = o.kept.ends; rise = o.kept.rise; low = o.kept.low; all = o.kept.all };
}

pub cleared : (old mid new : Batched) (news : List Path) → BatchGoesOn old mid news
    → new.work ≡ record mid.work { pending = new.work.pending } → new.work.pending.items ≡ [] → BatchGoesOn old new news
cleared old mid new news g same none = record {
  opened = subst (λ w. BatchIsOpen w (old.applied + 1) old.batched) (sym same)
      (cleared_open mid.work new.work.pending (old.applied + 1) old.batched none g.opened);
  paths = ap (λ w. w.store.paths) same ∙ g.paths;
  events = ap (λ w. w.store.events) same ∙ g.events;
  waiting = ap (λ w. w.waiting) same ∙ g.waiting;
  within = subst (λ w. IsWithinBudget w old.budget) (sym same) g.within;
}

-- ---- what a call leaves

-- path p, the lowest, has gone on
pub record Done (old new : Batched) (p : ℕ) (look : Look) : Type 0 where
  pub applied : IsApplied (batches_of (Some old)) p look (batches_of (Some new))
  pub batched : IsBatched new
  pub looks : (q : ℕ) (l : Look) → q < old.batched → IsLook (batches_of (Some old)) q l
      → IsLook (batches_of (Some new)) q l
  pub none : NoneTogether (batches_of (Some old)) p

lowest_done : (old mid : Batched) (look : Look) (v : Vec ℕ Global) → IsBatched old → old.applied < old.batched
    → BatchStays old mid → BatchStepsTo old look mid None → v.items ≡ []
    → Done old (record mid { work = record mid.work { pending = v }; applied = old.applied + 1 }) old.applied look
lowest_done old mid look v b low s step none = by (lowest old b low)
  where
    now : Batched
    now = record mid { work = record mid.work { pending = v } }

    stays : BatchStays old now
    stays = record {
      parked = s.parked;
      threads = s.threads;
      budget = s.budget;
      batched = s.batched;
      applied =
          s.applied;
    }

    by : (x : Path) × (slice_get old.work.store.paths old.applied ≡ Some x)
        → Done old (record now { applied = old.applied + 1 }) old.applied look
    by (x, ex) = on (step x ex)
      where
        on : (news : List Path) × AreMadeBy (batches_of (Some old)) x look news × BatchGoesOn old mid news
            → Done old (record now { applied = old.applied + 1 }) old.applied look
        on (news, made, g) = record {
          applied = is_applied old now look news b stays goes
              (λ y ey. subst (λ z. AreMadeBy (batches_of (Some old)) z look news)
              (let two : Some x ≡ Some y = sym ex ∙ ey in let one : x ≡ y = cc in one) made);
          batched = batched_next old now news b stays goes none;
          looks = λ q l lq h. look_stays (batches_of (Some old))
              (batches_of (Some (record now { applied = old.applied + 1 }))) news goes.paths goes.events goes.waiting q
              l
              (let last : old.batched ≤ length old.work.store.paths = b.opened.last in omega (arith, lq, last)) h;
          none = together_none old now news b goes low;
        }
          where
            goes : BatchGoesOn old now news
            goes = cleared old mid now news g refl none

pub done : (old mid : Batched) (p : ℕ) (look : Look) (v : Vec ℕ Global) → p ≡ old.applied → p < old.batched
    → IsBatched old → BatchStays old mid → BatchStepsTo old look mid None → v.items ≡ []
    → Done old (record mid { work = record mid.work { pending = v }; applied = p + 1 }) p look
done old mid p look v e low b s step none = subst (λ q. Done old
    (record mid { work = record mid.work { pending = v }; applied = q + 1 }) q look) (sym e)
    (lowest_done old mid look v b (subst (λ q. q < old.batched) e low) s step none)

pub spent_told : (old mid : Batched) → IsBatched old → IsSpentAt mid.work old.work.store.events old.budget
    → IsUsedUp old.parked old.budget (length mid.work.store.paths) mid.work.groups
spent_told old mid b s = batched_used_up old.parked mid.work old.budget b.rise (s.same ∙ b.events)
    (subst (λ g. IsSpentAt mid.work g old.budget) (sym s.same) s)

pub hit_told : (old mid : Batched) (joined : List (Option ℕ)) → BatchStays old mid → IsHitAmong old mid joined
    → IsHit mid.work mid.threads joined
hit_told old mid joined s h = subst (λ t. IsHit mid.work t joined) (sym s.threads) h.0

pub among_told : (old mid : Batched) (joined : List (Option ℕ)) → IsBatched old → BatchStays old mid
    → IsHitAmong old mid joined → EventsAreAmong mid.work.store.events (as_group mid.parked)
among_told old mid joined b s h t e m = ap (member_of t) (sym (h.1 ∙ b.events ∙ ap as_group (sym s.parked))) ∙ m
