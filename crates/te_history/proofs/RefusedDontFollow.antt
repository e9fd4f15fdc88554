-- An entry that is refused, for another cause than want of memory, doesn't follow.
use Rattle.std.proofs.Common.{◌≡◌, ◌≢◌, ℕ, ◌<◌, true, false, sym, ◌∙◌, arith}
use Rattle.std.specs.List.{AllByRecursion}
use Rattle.std.proofs.lemmas.Option.{slice_get_within}
use Rattle.te_terms.specs.declared.event.Outcome.{Outcome}
use Rattle.te_history.specs.declared.entry.Entry.{Entry}
use Rattle.te_history.specs.declared.entry.Entry.TheVariants as entries
use Rattle.te_history.specs.declared.entry.StepFault.{StepFault}
use Rattle.te_history.specs.declared.entry.StepFault.TheVariants as faults
use Rattle.te_history.specs.declared.status.How.{How}
use Rattle.te_history.specs.declared.status.How.TheVariants as ways
use Rattle.te_history.specs.declared.status.Status.{Status}
use Rattle.te_history.specs.declared.status.Status.TheVariants as statuses
use Rattle.te_history.specs.State.{Standing, idle, parked, given, ended, State, posts_by}
use Rattle.te_history.specs.Follows.{Stands, IsParkedOrEnded, MayEndAs, LooselyFollows, caller_of}
use Rattle.te_history.specs.Histories.{History, now, HasStatus}
use Rattle.te_history.specs.Refusals.{RefusesPost, RefusesWithdraw, RefusesTake, RefusesRest, RefusesStuck, RefusesEnd, RefusesEntry, IsEndEntry, IsRefused}
use Rattle.te_history.proofs.AfterEntry.{length-state}
use Rattle.te_terms.proofs.Lists.{all_at}
use Rattle.te_history.proofs.RefusedCommits.{one_status, not_commit}

-- ---- each kind of entry

not_post : (s : State) (posts by ticket : ℕ) (fault : StepFault) → RefusesPost s posts by ticket fault → Stands s by idle → ticket ≡ posts → ⊥
not_post s posts by ticket (faults.Other status) refuses stands due = refuses.1 (one_status s by idle status stands refuses.0)
not_post s posts by ticket (faults.Ticket needed) refuses stands due = refuses.2 (due ∙ sym refuses.1)
not_post s posts by ticket _ refuses stands due = absurd refuses

not_withdraw : (s : State) (by ticket : ℕ) (event : _) (fault : StepFault) → RefusesWithdraw s by ticket fault → Stands s by (parked ticket event) → ⊥
not_withdraw s by ticket event (faults.Other status) refuses stands = refuses.1 ticket (one_status s by (parked ticket event) status stands refuses.0)
not_withdraw s by ticket event (faults.Ticket needed) refuses stands =
    let one : statuses.Parked needed ≡ statuses.Parked ticket = one_status s by (parked ticket event) (statuses.Parked needed) stands refuses.0 in
    refuses.1 cc
not_withdraw s by ticket event _ refuses stands = absurd refuses

not_take : (s : State) (by ticket : ℕ) (outcome : Outcome) (fault : StepFault) → RefusesTake s by ticket outcome fault → Stands s by (given ticket outcome) → ⊥
not_take s by ticket outcome (faults.Other status) refuses stands = refuses.1 ticket outcome (one_status s by (given ticket outcome) status stands refuses.0)
not_take s by ticket outcome (faults.Ticket needed) refuses stands =
    let one : statuses.Given needed refuses.0.0 ≡ statuses.Given ticket outcome = one_status s by (given ticket outcome) _ stands refuses.0.1 in
    refuses.1 cc
not_take s by ticket outcome (faults.Result i) refuses stands =
    let one : statuses.Given ticket refuses.1.0 ≡ statuses.Given ticket outcome = one_status s by (given ticket outcome) _ stands refuses.1.1 in
    refuses.1.2 cc
not_take s by ticket outcome _ refuses stands = absurd refuses

not_rest : (s : State) (fault : StepFault) → RefusesRest s fault → s.resting ≡ false → ⊥
not_rest s faults.Resting refuses open_so = absurd cc
not_rest s _ refuses open_so = absurd refuses

pub parked_or_ended : (s : State) (t : ℕ) (status : Status) (standing : Standing) → Stands s t standing → HasStatus s t status → IsParkedOrEnded standing
    → ((ticket : ℕ) → status ≢ statuses.Parked ticket) → status ≢ statuses.Ended → ⊥
parked_or_ended s t status idle stands has so not_parked not_ended = absurd so
parked_or_ended s t status (parked ticket event) stands has so not_parked not_ended = not_parked ticket (one_status s t (parked ticket event) status stands has)
parked_or_ended s t status (given ticket outcome) stands has so not_parked not_ended = absurd so
parked_or_ended s t status ended stands has so not_parked not_ended = not_ended (one_status s t ended status stands has)

not_stuck : (s : State) (by ticket : ℕ) (event : _) (fault : StepFault) → RefusesStuck s by fault → Stands s by (parked ticket event)
    → AllByRecursion IsParkedOrEnded s.callers → ⊥
not_stuck s by ticket event (faults.Live t status) refuses stands all =
    let has = refuses.stands in
    parked_or_ended s t status has.0 has.1 has (all_at IsParkedOrEnded s.callers t has.0 all has.1) refuses.not_parked refuses.not_ended
not_stuck s by ticket event (faults.Other status) refuses stands all = refuses.2 ticket (one_status s by (parked ticket event) status stands refuses.1)
not_stuck s by ticket event _ refuses stands all = absurd refuses

not_end : (s : State) (by : ℕ) (how : How) (fault : StepFault) → RefusesEnd s by how fault → MayEndAs s by how → ⊥
not_end s by ways.Stuck faults.How refuses ends = let stuck = ends.0 in absurd cc
not_end s by ways.Stuck (faults.Other status) refuses ends = refuses.2 ends.1.0 (one_status s by _ status ends.1.2 refuses.1)
not_end s by (ways.Done values) faults.How refuses ends = let running = ends.0 in absurd cc
not_end s by (ways.Done values) (faults.Other status) refuses ends = refuses.2 (one_status s by idle status ends.1 refuses.1)
not_end s by (ways.Raised value) faults.How refuses ends = let running = ends.0 in absurd cc
not_end s by (ways.Raised value) (faults.Other status) refuses ends = refuses.2 (one_status s by idle status ends.1 refuses.1)
not_end s by ways.Stuck _ refuses ends = absurd refuses
not_end s by (ways.Done values) _ refuses ends = absurd refuses
not_end s by (ways.Raised value) _ refuses ends = absurd refuses

-- ---- all entries

pub not_entry : (h : History) (e : Entry) (fault : StepFault) → RefusesEntry h e fault → fault ≢ faults.Memory → ¬ LooselyFollows h.callers h.entries e
not_entry h (entries.Post by ticket event) fault refuses found = λ follows. not_post (now h) (posts_by by h.entries) by ticket fault refuses follows.1 follows.2
not_entry h (entries.Commit by cert outcomes) fault refuses found =
    λ follows. not_commit h.callers (now h) cert outcomes fault (length-state h.callers h.entries) refuses found follows.2
not_entry h (entries.Withdraw by ticket) fault refuses found = λ follows. not_withdraw (now h) by ticket follows.1.0 fault refuses follows.1.1
not_entry h (entries.Take by ticket outcome) fault refuses found = λ follows. not_take (now h) by ticket outcome fault refuses follows.1
not_entry h (entries.Rest by) fault refuses found = λ follows. not_rest (now h) fault refuses follows.2
not_entry h (entries.Stuck by) fault refuses found = λ follows. not_stuck (now h) by follows.1.0 follows.1.1 fault refuses follows.1.2 follows.2
not_entry h (entries.End by how) fault refuses found = λ follows. not_end (now h) by how fault refuses follows

stands_low : (h : History) (t : ℕ) (standing : Standing) → Stands (now h) t standing → t < h.callers
stands_low h t standing stands = omega (arith, slice_get_within (now h).callers t standing stands, length-state h.callers h.entries)

pub by_caller : (h : History) (e : Entry) → LooselyFollows h.callers h.entries e → caller_of e < h.callers
by_caller h (entries.Post by ticket event) follows = stands_low h by _ follows.1
by_caller h (entries.Commit by cert outcomes) follows = follows.1
by_caller h (entries.Withdraw by ticket) follows = stands_low h by _ follows.1.1
by_caller h (entries.Take by ticket outcome) follows = stands_low h by _ follows.1
by_caller h (entries.Rest by) follows = follows.1
by_caller h (entries.Stuck by) follows = stands_low h by _ follows.1.2
by_caller h (entries.End by (ways.Done values)) follows = stands_low h by _ follows.1
by_caller h (entries.End by (ways.Raised value)) follows = stands_low h by _ follows.1
by_caller h (entries.End by ways.Stuck) follows = stands_low h by _ follows.1.2

no_closed : (h : History) (e : Entry) → (now h).stuck ≡ true → ¬ IsEndEntry e → ¬ LooselyFollows h.callers h.entries e
no_closed h (entries.Post by ticket event) stuck no_end = λ follows. let runs = follows.0 in cc
no_closed h (entries.Commit by cert outcomes) stuck no_end = λ follows. let runs = follows.0 in cc
no_closed h (entries.Withdraw by ticket) stuck no_end = λ follows. let runs = follows.0 in cc
no_closed h (entries.Take by ticket outcome) stuck no_end = λ follows. let runs = follows.0 in cc
no_closed h (entries.Rest by) stuck no_end = λ follows. let runs = follows.0 in cc
no_closed h (entries.Stuck by) stuck no_end = λ follows. let runs = follows.0 in cc
no_closed h (entries.End by how) stuck no_end = absurd (no_end tt)

-- what is refused, but for want of memory, doesn't follow
pub refused_fails : (h : History) (e : Entry) (fault : StepFault) → IsRefused h e fault → fault ≢ faults.Memory → ¬ LooselyFollows h.callers h.entries e
refused_fails h e faults.Caller refused found = λ follows. let low = by_caller h e follows in absurd (omega arith)
refused_fails h e faults.Closed refused found = no_closed h e refused.1 refused.2
refused_fails h e _ refused found = not_entry h e _ refused.2 found
