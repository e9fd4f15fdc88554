-- A worker's job goes on by the calls that it makes.
use Rattle.std.proofs.Common.{◌≡◌, ◌≤◌, ◌+◌, ℕ, List, [], ◌∷◌, ◌++◌, refl, sym, ap, ◌∙◌, subst, arith}
use Rattle.te_terms.specs.declared.event.Outcome.{Outcome}
use Rattle.te_terms.specs.declared.value.Atom.{Atom}
use Rattle.te_terms.specs.Terms.{Term}
use Rattle.te_script.specs.Scripts.{Thread}
use Rattle.te_script.specs.Wishes.{Wish, wish, wish_of, syncs, done, raised}
use Rattle.te_script.specs.Cores.{At, Stand, Next, waits, ended, failed, doing_of, wish_at, core_after, IsWaiting}
use Rattle.te_script.specs.Wants.{IsWant}
use Rattle.te_script.specs.declared.wish.Want.TheVariants as wants
use Rattle.te_script.proofs.WishReached.{wish_after}
use Rattle.te_lock.specs.Lock.{Knowledge, Lock}
use Rattle.te_history.specs.declared.entry.Entry.{Entry}
use Rattle.te_history.specs.declared.entry.Entry.TheVariants as entries
use Rattle.te_history.specs.declared.status.How.{How}
use Rattle.te_history.specs.declared.status.How.TheVariants as ways
use Rattle.te_history.specs.State.{posts_by}
use Rattle.te_report.specs.OfScript.{taken, EndsSo}
use Rattle.te_runtime.specs.declared.working.Job.{Job}
use Rattle.te_runtime.specs.declared.fault.SyncFault.{SyncFault}
use Rattle.te_runtime.specs.Calls.{Called}
use Rattle.te_runtime.specs.Syncs.{IsSynced, IsSyncRefused}
use Rattle.te_runtime.specs.Households.{withdrawals_by}
use Rattle.te_runtime.specs.Working.{IsRun, IsJobHeld, IsJobReady, WorkGoesOn, WorkHasStopped, Worked}
use Rattle.te_runtime.proofs.OwnRuns.{Adds, adds_nothing, adds_end, adds_rest, leaves_core, synced_leaves, refused_soon, posts_few}

-- ---- what a core wishes

pub wish_run : (t : ℕ) (own : List Entry) (core : At) → IsRun t own core → wish core.thread (taken t own) ≡ wish_at core.stand
wish_run t own core run = sym (wish_after core.thread (taken t own)) ∙ ap (λ (a : At). wish_at a.stand) (sym run.stands)

waits_next : (emitted : List (List Atom)) (n : Next) (event : Term) → wish_of emitted (doing_of n) ≡ syncs event → IsWaiting n
waits_next emitted (waits at r t rest) event is = tt
waits_next emitted ended event is = absurd cc
waits_next emitted (failed v) event is = absurd cc

pub waits_for : (stand : Stand) (event : Term) → wish_at stand ≡ syncs event → IsWaiting stand.next
waits_for stand event is = waits_next stand.emitted stand.next event is

done_next : (emitted values : List (List Atom)) (n : Next) → IsWant (wish_of emitted (doing_of n)) wants.Done → values ≡ emitted
    → wish_of emitted (doing_of n) ≡ done values
done_next emitted values (waits at r t rest) want is = absurd want
done_next emitted values ended want is = ap done (sym is)
done_next emitted values (failed v) want is = absurd want

pub ends_done : (stand : Stand) (values : List (List Atom)) → IsWant (wish_at stand) wants.Done → values ≡ stand.emitted
    → EndsSo (wish_at stand) (ways.Done values)
ends_done stand values want is = done_next stand.emitted values stand.next want is

pub ends_raised : (w : Wish) (v : List Atom) → IsWant w (wants.Raised v) → EndsSo w (ways.Raised v)
ends_raised (syncs t) v want = absurd want
ends_raised (done values) v want = absurd want
ends_raised (raised u) v want = ap raised want

-- ---- the job after a call

-- the job with another pass
abbrev pub with_pass : Job → Knowledge Entry → Job
with_pass i q = record i { pass = q }

module _ {lock : Lock} (i : Job) (held : IsJobHeld lock i) where
  goes_by : (q : Knowledge Entry) (more : List Entry) → Called i.pass q more → Adds i.core.thread q.caller i.pass.own more [] 0 0 → WorkGoesOn i (with_pass i q)
  goes_by q more c adds =
      let l = leaves_core i.core more 0 0 c held.run adds in record {
        caller = l.same.1;
        text = refl;
        held = record { here = l.same.0; idle = l.idle; run = l.run; once = let w = l.withdrawals_are in let once = held.once in omega (arith, w, once) };
      }

  pub goes_nothing : (q : Knowledge Entry) → Called i.pass q [] → WorkGoesOn i (with_pass i q)
  goes_nothing q c = goes_by q [] c (adds_nothing i.core.thread q.caller i.pass.own)

  pub goes_rested : (q : Knowledge Entry) → Called i.pass q (entries.Rest q.caller ∷ []) → WorkGoesOn i (with_pass i q)
  goes_rested q c = goes_by q _ c (adds_rest i.core.thread q.caller i.pass.own q.caller)

  pub goes_ended : (q : Knowledge Entry) (how : How) → EndsSo (wish_at i.core.stand) how → Called i.pass q (entries.End q.caller how ∷ [])
      → WorkGoesOn i (with_pass i q)
  goes_ended q how ends c =
      let wished : wish_at i.core.stand ≡ wish i.core.thread (taken q.caller i.pass.own) =
      sym (wish_run i.pass.caller i.pass.own i.core held.run) ∙ ap (λ (k : ℕ). wish i.core.thread (taken k i.pass.own)) (sym c.same.1) in
      goes_by q _ c (adds_end i.core.thread q.caller i.pass.own q.caller how (subst (λ (w : Wish). EndsSo w how) wished ends))

module _ {lock : Lock} (i : Job) (ready : IsJobReady lock i) (event : Term) (wished : wish_at i.core.stand ≡ syncs event) where
  wish_now : wish i.core.thread (taken i.pass.caller i.pass.own) ≡ syncs event
  wish_now = wish_run i.pass.caller i.pass.own i.core ready.held.run ∙ wished

  pub goes_refused : (budget : ℕ) (q : Knowledge Entry) (f : SyncFault) → IsSyncRefused budget i.pass q event f → WorkGoesOn i (with_pass i q)
  goes_refused budget q f refused =
      let l = refused_soon i.core event ready.held.run ready.none wish_now budget f refused in record {
        caller = l.same.1;
        text = refl;
        held = record { here = l.same.0; idle = l.idle; run = l.run; once = l.once };
      }

  -- an outcome was taken, and the core has moved on by it
  pub ready_synced : (q : Knowledge Entry) (outcome : Outcome) (core : At) → IsSynced i.pass q event outcome
      → ((so_far : List Outcome) → i.core ≡ core_after i.core.thread so_far → core ≡ core_after i.core.thread (so_far ++ outcome ∷ []))
      → IsJobReady i.pass.lock (record { pass = q; core = core; ticket = i.ticket + 1 })
  ready_synced q outcome core synced moves =
      let moved = moves (taken i.pass.caller i.pass.own) ready.held.run.stands in
      let l = synced_leaves i.core core event outcome ready.held.run wish_now synced moved in
      let none = l.withdrawals_are ∙ ap (λ (n : ℕ). n + 0) ready.none in record {
        held = record { here = l.same.0; idle = l.idle; run = l.run; once = omega (arith, none) };
        none = none;
        ticket = ap (λ (n : ℕ). n + 1) ready.ticket ∙ sym l.posts_are;
      }

  pub goes_synced : (q : Knowledge Entry) (outcome : Outcome) (core : At) → IsSynced i.pass q event outcome
      → ((so_far : List Outcome) → i.core ≡ core_after i.core.thread so_far → core ≡ core_after i.core.thread (so_far ++ outcome ∷ []))
      → WorkGoesOn i (record { pass = q; core = core; ticket = i.ticket + 1 })
  goes_synced q outcome core synced moves = record {
    caller = synced.appended.called.same.1;
    text = ap (λ (a : At). a.thread) (moves (taken i.pass.caller i.pass.own) ready.held.run.stands);
    held = (ready_synced q outcome core synced moves).held;
  }

  pub ticket_fits : (q : Knowledge Entry) (outcome : Outcome) → IsSynced i.pass q event outcome → i.ticket ≤ 200000
  ticket_fits q outcome synced = let few = posts_few _ synced.appended.called in let is = ready.ticket in omega (arith, few, is)

-- ---- one call after another

pub goes_then : (i j k : Job) → WorkGoesOn i j → WorkGoesOn j k → WorkGoesOn i k
goes_then i j k g h = record {
  caller = h.caller ∙ g.caller;
  text = h.text ∙ g.text;
  held = subst (λ (l : Lock). IsJobHeld l k) g.held.here h.held;
}

pub worked_then : (i j k : Job) → WorkGoesOn i j → Worked j k → Worked i k
worked_then i j k g w = record { goes = goes_then i j k g w.goes; stopped = w.stopped }
