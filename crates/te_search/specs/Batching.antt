-- How a search in batches keeps its work. No public clause cites this module.
use Rattle.std.specs.Prelude.{◌≡◌, ◌⊎◌, ◌≤◌, ◌<◌, ◌+◌, ◌-◌, ℕ, suc, List, [], ◌∷◌, ◌++◌, map, take, length, Bool, true}
use Rattle.std.specs.Prelude.{false, cond, ltb, Option, Some, None, slice_get, MatchOption, refl}
use Rattle.std.proofs.Common.{Vec, Global}
use Rattle.std.specs.Coded.{Coded, code_by, coded×, coded_ℕ, coded_bool, coded_list}
use Rattle.te_terms.specs.declared.event.Parked.{Parked}
use Rattle.te_terms.specs.contracts.event.Parked as parked_row
use Rattle.te_terms.specs.Steps.{Member}
use Rattle.te_terms.specs.Joint.{IsGroup, as_group, member_of}
use Rattle.te_trail.specs.Paths.{Path, planted}
use Rattle.te_trail.specs.Stores.{Holds, IsStore, labels_of_move}
use Rattle.te_trail.specs.Stored.{coded_trail}
use Rattle.te_trail.specs.Trails.{Trail, unplanted}
use Rattle.te_pair.specs.declared.end.End.{End}
use Rattle.te_pair.specs.contracts.end.End as end_row
use Rattle.te_pair.specs.Ends.{paths_kept}
use Rattle.te_search.specs.declared.work.Work.{Work}
use Rattle.te_search.specs.declared.batched.Batched.{Batched}
use Rattle.te_search.specs.Finals.{numbers_of, TellThreads}
use Rattle.te_search.specs.declared.batched.Look.{Look}
use Rattle.te_search.specs.declared.batched.Look.TheVariants as looks
use Rattle.te_search.specs.Groups.{IsFinal}
use Rattle.te_search.specs.Searching.{paths_by}
use Rattle.te_search.specs.Assemblies.{Crew, NamesPaths, Tries, Assembles, joint}
use Rattle.te_search.specs.Works.{EndsStand, label_told, IsWorkOf, IsWithinBudget, IsHit, WaitsOn, threads_of}
use Rattle.te_search.specs.Findings.{IsBudget}
use Rattle.te_search.specs.Picks.{NumbersRise}
use Rattle.te_search.specs.Batches.{Batches, numbers_from, meetings_with, AreMadeBy}

-- ---- the work as a search knows it whose paths have gone on in order

abbrev pub ends_below : ℕ → List End → List End
ends_below n [] = []
ends_below n (e ∷ es) = cond (ltb e.path n) (e ∷ ends_below n es) (ends_below n es)

-- the paths from n on
abbrev pub rest_from : List Path → ℕ → List Path
rest_from paths n = paths_by paths (numbers_from n (length paths - n))

-- all paths from n on are still to be worked on, and these wait
abbrev pub IsLeftFrom : Work → ℕ → List End → Type 0
IsLeftFrom w n waits = IsWorkOf (record w { waiting = waits }) (rest_from w.store.paths n)

-- the first n paths have gone on, and no others
abbrev pub HasGoneOn : Work → ℕ → Type 0
HasGoneOn w n = IsLeftFrom w n (ends_below n w.waiting)

-- of the first `batched` paths exactly those are kept, in order, that stand at a send or a receive
pub record EndsAreKept (w : Work) (batched : ℕ) : Type 0 where
  pub ends : EndsStand w.store.events w.store.paths w.waiting
  pub rise : NumbersRise (paths_kept w.waiting)
  pub low : (i : ℕ) (e : End) → slice_get w.waiting i ≡ Some e → e.path < batched
  pub all : (k : ℕ) (x : Path) (channel : ℕ) (sends : Bool) → k < batched → slice_get w.store.paths k ≡ Some x
      → WaitsOn w.store.events x channel sends
      → (i : ℕ) × (slice_get w.waiting i ≡ Some (record { path = k; channel = channel; sends = sends }))

-- the first `batched` paths were in a batch, and of these the first n have gone on
pub record BatchIsOpen (w : Work) (n batched : ℕ) : Type 0 where
  pub work : HasGoneOn w n
  pub first : n ≤ batched
  pub last : batched ≤ length w.store.paths
  pub kept : EndsAreKept w batched

-- ---- a search that goes on

pub record IsBatched (s : Batched) : Type 0 where
  pub rise : IsGroup (as_group s.parked)
  pub events : s.work.store.events ≡ as_group s.parked
  pub threads : s.threads ≡ threads_of s.work.store.events
  pub budget : IsBudget s.budget
  pub within : IsWithinBudget s.work s.budget
  pub idle : s.work.pending.items ≡ []
  pub opened : BatchIsOpen s.work s.applied s.batched
  pub planted_all : (t : ℕ) (e : Member) → member_of t (as_group s.parked) ≡ Some e
      → Holds s.work.store.paths (planted t)

-- the first i events are planted, and nothing else was done
pub record IsStarting (s : Batched) (i : ℕ) : Type 0 where
  pub rise : IsGroup (as_group s.parked)
  pub events : s.work.store.events ≡ as_group s.parked
  pub threads : s.threads ≡ take i (threads_of (as_group s.parked))
  pub paths : s.work.store.paths ≡ map (λ p. planted p.thread) (take i s.parked)
  pub store : IsStore (as_group s.parked) s.work.store.paths
  pub told_are : map label_told s.work.moves.items ≡ map labels_of_move s.work.store.paths
  pub pending : s.work.pending.items ≡ []
  pub waiting : s.work.waiting ≡ []
  pub finals : s.work.finals ≡ []
  pub groups : s.work.groups ≡ 0
  pub batched : s.batched ≡ 0
  pub applied : s.applied ≡ 0
  pub budget : IsBudget s.budget
  pub within : IsWithinBudget s.work s.budget

abbrev pub batches_of : Option Batched → Batches
batches_of None = record {
  parked = [];
  budget = 0;
  trail = unplanted [];
  kept = [];
  batched = 0;
  applied = 0;
  goes_on
      = false;
}
batches_of (Some s) = record {
  parked = s.parked;
  budget = s.budget;
  trail = s.work.store;
  kept = s.work.waiting;
  batched = s.batched;
  applied = s.applied;
  goes_on = true;
}

abbrev pub IsTaken : Option Batched → Type 0
IsTaken taken = MatchOption taken (Unit {0}) IsBatched

abbrev pub coded_batches : Coded Batches
coded_batches = code_by (List Parked × (ℕ × (Trail × (List End × (ℕ × (ℕ × Bool))))))
    (coded× (coded_list parked_row.the_row.coded) (coded× coded_ℕ
    (coded× coded_trail (coded× (coded_list end_row.the_row.coded) (coded× coded_ℕ (coded× coded_ℕ coded_bool))))))
    (λ s. (s.parked, (s.budget, (s.trail, (s.kept, (s.batched, (s.applied, s.goes_on)))))))
    (λ p. record {
      parked = p.0;
      budget = p.1.0;
      trail = p.1.1.0;
      kept = p.1.1.1.0;
      batched = p.1.1.1.1.0;
      applied =
          p.1.1.1.1.1.0;
      goes_on = p.1.1.1.1.1.1;
    })
    (λ _. refl)

-- ---- steps

-- all but the work is as before
pub record BatchStays (old new : Batched) : Type 0 where
  pub parked : new.parked ≡ old.parked
  pub threads : new.threads ≡ old.threads
  pub budget : new.budget ≡ old.budget
  pub batched : new.batched ≡ old.batched
  pub applied : new.applied ≡ old.applied

-- the lowest path of the batch has gone on, with these new paths
pub record BatchGoesOn (old new : Batched) (news : List Path) : Type 0 where
  pub opened : BatchIsOpen new.work (old.applied + 1) old.batched
  pub paths : new.work.store.paths ≡ old.work.store.paths ++ news
  pub events : new.work.store.events ≡ old.work.store.events
  pub waiting : new.work.waiting ≡ old.work.waiting
  pub within : IsWithinBudget new.work old.budget

-- it has gone on, with a meeting with each of these
abbrev pub MeetsThose : Batched → Batched → Bool → List ℕ → Type 0
MeetsThose old new sends others = (x : Path) → slice_get old.work.store.paths old.applied ≡ Some x
    → BatchGoesOn old new (meetings_with sends x (paths_by old.work.store.paths others))

-- what it makes are meetings with these
abbrev pub MeetsThese : Batched → Batched → Path → List ℕ → Type 0
MeetsThese old new x others = (news : List Path) × AreMadeBy (batches_of (Some old)) x
    (looks.Ends others) news × BatchGoesOn old new news

-- a group was found among the same events
abbrev pub IsHitAmong : Batched → Batched → List (Option ℕ) → Type 0
IsHitAmong old new joined = IsHit new.work old.threads joined × (new.work.store.events ≡ old.work.store.events)

-- it did, or a group was found
abbrev pub EndsWith : Batched → Batched → Option (Vec (Option ℕ) Global) → Type 0
EndsWith old new found = MatchOption found (BatchGoesOn old new []) (λ v. IsHitAmong old new v.items)

-- it did what its look says, or a group was found
abbrev pub BatchStepsTo : Batched → Look → Batched → Option (Vec (Option ℕ) Global) → Type 0
BatchStepsTo old look new found = MatchOption found
    ((x : Path) → slice_get old.work.store.paths old.applied ≡ Some x
    → (news : List Path) × AreMadeBy (batches_of (Some old)) x look news × BatchGoesOn old new news)
    (λ v. IsHitAmong old new v.items)

-- path p is kept, where it stands at a send or a receive, and nothing else is new
pub record KeepsOne (old new : Work) (p : ℕ) : Type 0 where
  pub kept : EndsAreKept new (p + 1)
  pub more : List End
  pub waiting : new.waiting ≡ old.waiting ++ more
  pub one : (i : ℕ) (e : End) → slice_get more i ≡ Some e → e.path ≡ p
  pub same : new ≡ record old { waiting = new.waiting }

-- a joined past has a path that comes after path p
abbrev pub HasLater : List (Option ℕ) → ℕ → Type 0
HasLater joined p = (i : ℕ) × (m : ℕ) × (slice_get joined i ≡ Some (Some m)) × (p < m)

-- nothing is tried from a final path that rests on a later one
abbrev pub TriesNone : ℕ → List (Option ℕ) → ℕ → Option (Vec (Option ℕ) Global) → Type 0
TriesNone p joined count found = HasLater joined p × (count ≡ 0) × (found ≡ None)

-- so many partial groups were tried from a final path, and it is one of the final paths
pub record HasTried (old new : Work) (p : ℕ) (threads : List ℕ) (found : Option (Vec (Option ℕ) Global)) : Type 0 where
  pub store : new.store ≡ old.store
  pub moves : new.moves ≡ old.moves
  pub pending : new.pending ≡ old.pending
  pub waiting : new.waiting ≡ old.waiting
  pub finals : numbers_of new.finals ≡ numbers_of old.finals ++ (p ∷ [])
  pub told : TellThreads old.store.paths new.finals
  pub count : ℕ
  pub groups : new.groups ≡ old.groups + suc count
  pub joined : List (Option ℕ)
  pub names : (x : Path) → slice_get old.store.paths p ≡ Some x → NamesPaths old.store.paths threads (joint (x ∷ [])) joined
  pub tries : TriesNone p joined count found ⊎ Assembles old.store.events old.store.paths threads
      (numbers_of old.finals ++ (p ∷ [])) joined count found

-- so many partial groups were tried, and one more would pass the budget
pub record IsOutOfTries (old new : Work) (p : ℕ) (budget : ℕ) : Type 0 where
  pub store : new.store ≡ old.store
  pub count : ℕ
  pub groups : new.groups ≡ old.groups + suc count
  pub tries : (x : Path) → slice_get old.store.paths p ≡ Some x
      → Crew old.store.events (Holds old.store.paths) (IsFinal old.store.events) (x ∷ [])
      → Tries old.store.events old.store.paths x (x ∷ []) (count + 1)
  pub sum : length old.store.paths + new.groups ≡ budget

abbrev pub IsSpentTrying : Work → Work → ℕ → ℕ → Type 0
IsSpentTrying old new p budget =
    ((new ≡ old) × (length old.store.paths + old.groups ≡ budget)) ⊎ IsOutOfTries old new p budget
