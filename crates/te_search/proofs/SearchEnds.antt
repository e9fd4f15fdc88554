-- What a search of some of the parked events says of all of them.
use Rattle.std.proofs.Common.{◌≡◌, ◌≢◌, ◌≤◌, inl, ℕ, zero, suc, ◌+◌, List, [], ◌∷◌, ◌++◌, map, length, Bool}
use Rattle.std.proofs.Common.{true, false, cond, Option, Some, None, slice_get, refl, ap, sym, ◌∙◌, subst, subst₂, arith, nat_eq, eq-eqb, length-append}
use Rattle.te_terms.specs.declared.event.Outcome.{Outcome}
use Rattle.te_terms.specs.declared.event.Parked.{Parked}
use Rattle.te_terms.specs.Steps.{Member, outcome_of}
use Rattle.te_terms.specs.Joint.{IsGroup, member_of, as_group, as_member, part, outcomes_of, and_outcome, CanCommit}
use Rattle.te_trail.specs.Paths.{Path, planted}
use Rattle.te_trail.specs.Stores.{Holds, IsStore}
use Rattle.te_pair.specs.Ends.{paths_kept}
use Rattle.te_search.specs.declared.work.Work.{Work}
use Rattle.te_search.specs.Finals.{numbers_of}
use Rattle.te_search.specs.declared.stack.Stack.{Stack}
use Rattle.te_search.specs.declared.finding.SearchFault.TheVariants as faults
use Rattle.te_search.specs.Searching.{paths_by}
use Rattle.te_search.specs.Groups.{Partial, IsPartial, AreTried}
use Rattle.te_search.specs.Works.{threads_of, IsCounted, IsNear, IsPassed, IsSpentAt}
use Rattle.te_search.specs.Findings.{CountsNames, IsUsedUp}
use Rattle.te_search.specs.Bounds.{enough_for}
use Rattle.te_search.specs.Stacks.{EventsAreAmong, IsStack, AwaitsPlanting}
use Rattle.te_search.specs.Plantings.{has_number}
use Rattle.te_search.proofs.AssemblyFinds.{Commits}
use Rattle.te_search.proofs.WorkDone.{nothing_commits}
use Rattle.te_search.proofs.Trying.{member_place}
use Rattle.te_search.proofs.Working as working
use Rattle.te_search.proofs.EventsAdded.{store_more, search_more, partial_more, counted_more}
use Rattle.te_search.proofs.EventsPlanted.{unplanted_yet}
use Rattle.te_terms.proofs.Lists.{all_with}
use Rattle.te_search.proofs.NumbersListed.{parked_found}
use Rattle.te_search.proofs.StacksMove.{not_put}
use Rattle.te_search.proofs.StoresGrow.{plant_grows}
use Rattle.te_search.proofs.GroupsNamed.{have_names}
use Rattle.te_search.proofs.NamesAreFew.{names_fit}
use Rattle.te_search.proofs.MembersPicked.{number_member}

-- ---- what reduces commits

and_outcomes : (a : Option Outcome) (b : Option (List Outcome)) (os : List Outcome) → and_outcome a b ≡ Some os → (o : Outcome) × (rest : List Outcome) × (a ≡ Some o) × (b ≡ Some rest)
and_outcomes (Some o) (Some rest) os e = (o, rest, refl, refl)
and_outcomes (Some o) None os e = cc
and_outcomes None b os e = cc

each_outcome : (end : List Member) (os : List Outcome) → outcomes_of end ≡ Some os → (k : ℕ) (e : Member) → member_of k end ≡ Some e → (o : Outcome) × (outcome_of e.term ≡ Some o)
each_outcome [] os h k e f = cc
each_outcome (m ∷ ms) os h k e f = go (λ r q. each_outcome ms r q k e) (and_outcomes (outcome_of m.term) (outcomes_of ms) os h) (nat_eq m.thread k) f
  where
    go : ((r : List Outcome) → outcomes_of ms ≡ Some r → member_of k ms ≡ Some e → (o : Outcome) × (outcome_of e.term ≡ Some o))
        → (o : Outcome) × (rest : List Outcome) × (outcome_of m.term ≡ Some o) × (outcomes_of ms ≡ Some rest) → (b : Bool) → cond b (Some m) (member_of k ms) ≡ Some e
        → (o : Outcome) × (outcome_of e.term ≡ Some o)
    go ih (o, rest, ho, hr) true f = (let one : m ≡ e = cc in (o, ap (λ q. outcome_of q.term) (sym one) ∙ ho))
    go ih (o, rest, ho, hr) false f = ih rest hr f

some_member : (g : List Member) → g ≢ [] → (k : ℕ) × (e : Member) × (member_of k g ≡ Some e)
some_member [] none = absurd (none refl)
some_member (m ∷ ms) none = (m.thread, m, ap (λ o. cond o (Some m) (member_of m.thread ms)) (eq-eqb m.thread m.thread refl))

pub commits : (parked : List Parked) → CanCommit parked → Commits (as_group parked)
commits parked c = (let m : (k : ℕ) × (e : Member) × (member_of k (part c.side (as_group parked)) ≡ Some e) = some_member (part c.side (as_group parked)) c.is_some in record {
  side = c.side;
  actions = c.reduces.actions;
  end = c.reduces.end;
  reached = c.reduces.reaches;
  finals = each_outcome c.reduces.end c.results c.reduces.ends_so;
  member = m.0;
  event = m.1;
  is_member = m.2;
})

-- ---- nothing is left to plant

pub parked_at : (parked : List Parked) (i t : ℕ) → slice_get (map (λ m. m.thread) (as_group parked)) i ≡ Some t → (p : Parked) × (slice_get parked i ≡ Some p) × (p.thread ≡ t)
parked_at [] i t e = cc
parked_at (p ∷ parked) zero t e = (p, refl, (let one : p.thread ≡ t = cc in one))
parked_at (p ∷ parked) (suc i) t e = parked_at parked i t e

pub blocked : (s : Stack) → IsStack s → ((i : ℕ) (p : Parked) → slice_get s.parked i ≡ Some p → has_number s.threads p.thread ≡ true) → ¬ CanCommit s.parked
blocked s w all c = nothing_commits (as_group s.parked) s.work.store.paths
    (paths_by s.work.store.paths (paths_kept s.work.waiting)) (paths_by s.work.store.paths (numbers_of s.work.finals))
    (search_more s.work.store.events (as_group s.parked) s.work.store.paths [] (paths_by s.work.store.paths (paths_kept s.work.waiting))
    (paths_by s.work.store.paths (numbers_of s.work.finals)) w.levels.among w.whole.search) plants (commits s.parked c)
  where
    plants : (t : ℕ) (e : Member) → member_of t (as_group s.parked) ≡ Some e → Holds s.work.store.paths (planted t)
    plants t e h =
        let i : (i : ℕ) × (slice_get (map (λ m. m.thread) (as_group s.parked)) i ≡ Some t) = member_place t (as_group s.parked) e h in
        let p : (p : Parked) × (slice_get s.parked i.0 ≡ Some p) × (p.thread ≡ t) = parked_at s.parked i.0 t i.1 in
        let n : has_number (threads_of s.work.store.events) t ≡ true = subst (λ k. has_number (threads_of s.work.store.events) k ≡ true) p.2
        (ap (λ l. has_number l p.0.thread) (sym w.levels.threads_are) ∙ all i.0 p.0 p.1) in
        let m : (m : Member) × (member_of t s.work.store.events ≡ Some m) = number_member s.work.store.events t n in
        w.whole.planted_all t m.0 m.1

-- ---- the budget

-- what a search made and tried of some of the events tells names of the list
used_by : (parked : List Parked) (budget : ℕ) (made : List Path) (tried : List Partial) → IsGroup (as_group parked) → IsStore (as_group parked) made → AreTried (as_group parked) made tried
    → IsNear (length made + length tried) budget → IsPassed (as_group parked) budget → IsUsedUp parked budget (length made) (length tried)
used_by parked budget made tried rise store are near more = record {
  names = have_names parked made tried store are;
  sum = near;
  more_paths = length more.made;
  more_groups = length more.tried;
  more = names;
  beyond = more.beyond;
  short = omega (arith, fit, more.beyond, names.paths_are, names.groups_are);
}
  where
    names : CountsNames parked (length more.made) (length more.tried)
    names = have_names parked more.made more.tried more.store more.are

    fit : length names.path_names + length names.group_names ≤ enough_for (as_group parked)
    fit = names_fit (as_group parked) names.path_names names.group_names rise names.paths_distinct names.are_of_paths names.groups_distinct names.are_of_groups

passed_more : (g h : List Member) (budget : ℕ) → EventsAreAmong g h → IsPassed g budget → IsPassed h budget
passed_more g h budget among p = record {
  made = p.made;
  store = store_more g h p.made among p.store;
  tried = p.tried;
  are = record { partial = all_with (IsPartial g p.made) (IsPartial h p.made) p.tried (partial_more g h p.made among) p.are.partial; once = p.are.once };
  beyond = p.beyond;
}

pub used_up : (parked : List Parked) (w : Work) (budget : ℕ) → IsGroup (as_group parked)
    → EventsAreAmong w.store.events (as_group parked) → IsSpentAt w w.store.events budget
    → IsUsedUp parked budget (length w.store.paths) w.groups
used_up parked w budget rise among s = subst (IsUsedUp parked budget (length w.store.paths)) c.count_is
    (used_by parked budget w.store.paths c.tried rise (store_more w.store.events (as_group parked) w.store.paths among s.store) c.are
    (subst (λ n. IsNear (length w.store.paths + n) budget) (sym c.count_is) s.sum) (passed_more w.store.events (as_group parked) budget among s.passed))
  where
    c : IsCounted (as_group parked) w.store.paths s.finals w.groups
    c = counted_more w.store.events (as_group parked) w.store.paths s.finals w.groups among s.counted

-- nothing is left of the budget for one more event
pub whole_used_up : (s : Stack) (place budget : ℕ) → IsStack s → AwaitsPlanting s.threads s.parked (Some place) → length s.work.store.paths + s.work.groups ≡ budget
    → IsUsedUp s.parked budget (length s.work.store.paths) s.work.groups
whole_used_up s place budget w left sum = subst (IsUsedUp s.parked budget (length s.work.store.paths)) c.count_is
    (used_by s.parked budget s.work.store.paths c.tried w.levels.rise store c.are (inl (ap (λ n. length s.work.store.paths + n) c.count_is ∙ sum)) (record {
      made = s.work.store.paths ++ own;
      store = plant_grows (as_group s.parked) s.work.store.paths left.0.thread (as_member left.0) store (parked_found s.parked place left.0 w.levels.rise left.1)
          (unplanted_yet s.work.store.events s.work.store.paths left.0.thread w.whole.search.store (not_put s left.0.thread w.levels left.2));
      tried = more.tried;
      are = more.are;
      beyond = (let l : length (s.work.store.paths ++ own) ≡ length s.work.store.paths + 1 = length-append s.work.store.paths own in omega (arith, sum, more.count_is, l));
    }))
  where
    own : List Path
    own = planted left.0.thread ∷ []

    finals : List Path
    finals = paths_by s.work.store.paths (numbers_of s.work.finals)

    store : IsStore (as_group s.parked) s.work.store.paths
    store = store_more s.work.store.events (as_group s.parked) s.work.store.paths w.levels.among w.whole.search.store

    c : IsCounted (as_group s.parked) s.work.store.paths finals s.work.groups
    c = counted_more s.work.store.events (as_group s.parked) s.work.store.paths finals s.work.groups w.levels.among w.whole.counted

    more : IsCounted (as_group s.parked) (s.work.store.paths ++ own) finals s.work.groups
    more = working.counted_more (as_group s.parked) s.work.store.paths own finals s.work.groups c

pub spent_same : (parked : List Parked) (budget p g paths groups : ℕ) → faults.Spent p g ≡ faults.Spent paths groups → IsUsedUp parked budget p g → IsUsedUp parked budget paths groups
spent_same parked budget p g paths groups e u = (let one : p ≡ paths = cc in let two : g ≡ groups = cc in subst₂ (IsUsedUp parked budget) one two u)
