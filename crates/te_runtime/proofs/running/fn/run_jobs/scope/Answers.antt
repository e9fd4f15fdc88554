use Rattle.std.proofs.Common.{◌≡◌, ◌∷◌, [], ◌++◌, length, sym, ap, ◌∙◌, subst, arith, rules, refl, List}
use Rattle.std.specs.Prelude.{All}
use Rattle.std.specs.Vec.{vec_len}
use Rattle.te_search.specs.Findings.{IsBudget}
use Rattle.te_runtime.specs.declared.working.Job.{Job}
use Rattle.te_runtime.specs.declared.running.Started.{Started}
use Rattle.te_runtime.specs.declared.running.Started.TheVariants.{There, Here}
use Rattle.te_runtime.specs.Working.{IsJobReady, Worked}
use Rattle.te_runtime.specs.Started.{IsStarted, AreStarted, AreLeft}
use Rattle.te_runtime.proofs.JobsStarted.{none_started, one_started, all_started, one_joined, all_joined, all_left, last_of}
use Rattle.te_runtime.proofs.running.fn.run_jobs.scope.Goals as goal
use Rattle.te_runtime.proofs.running.fn.run_jobs.scope.Goals.{in-Ok, in-Err}

pub starts-init : goal.starts-init
starts-init g c =
    let none = c.requires.none.0 in
    let was = ap (λ v. v.items) c.of-was.ensures in
    let count = ap vec_len c.of-was.ensures in
    let room = c.requires.room.0 in
    record {
      ready = c.requires.ready;
      started = subst (λ (l : List Job). AreStarted l c.captures.jobs.items c.captures.begun.items) (sym was)
          (none_started c.captures.jobs.items c.captures.begun.items none);
      room = omega (arith, c.captures.begun.ok.0, none, room);
      count = omega (arith, c.captures.begun.ok.0, none, count);
    }

pub spawn_with-requires-clause-runs : goal.spawn_with-requires-clause-runs
spawn_with-requires-clause-runs g c κs within = (
  last_of (IsJobReady c.captures.runtime.now) c.pop.new.self.items c.in-Some.job
      (subst (λ (l : List Job). All (IsJobReady c.captures.runtime.now) l) c.in-Some.ensures.items c.starts.invariant.ready),
  c.requires.budget,
)

pub spawn_with-requires-in-Err : goal.spawn_with-requires-in-Err
spawn_with-requires-in-Err g c κs within =
    let ready : IsJobReady c.captures.runtime.now c.in-Some.job = last_of (IsJobReady c.captures.runtime.now) c.pop.new.self.items c.in-Some.job
    (subst (λ (l : List Job). All (IsJobReady c.captures.runtime.now) l) c.in-Some.ensures.items c.starts.invariant.ready) in
    let same = c.in-Err.ensures.err in (
      search (rules, within),
      (search (rules, within), (subst (λ f. IsJobReady f.2.now f.6) (sym same) ready, subst (λ f. IsBudget f.3) (sym same) c.requires.budget)),
    )

pub starts-preserved : goal.starts-preserved
starts-preserved g c =
    let popped = c.in-Some.ensures.items in
    let pushed = c.push_reserved.ensures.items in
    let P : Started → Type 0 = λ x. IsStarted c.in-Some.job x in
    let is : IsStarted c.in-Some.job c.match-spawn_with.one = elim c.match-spawn_with.branch [
      | in-Ok w ↦ subst P (sym w.one-is) (ap (λ p. p.0.value) w.in-Ok.ensures.ok ∙ c.of.ensures)
      | in-Err w ↦ subst P (sym w.one-is) (subst (λ (j : Job). Worked j w.spawn_with-in-Err.result) (ap (λ f. f.6) w.in-Err.ensures.err) w.spawn_with-in-Err.ensures)
    ] in
    record {
      ready = all_left (IsJobReady c.captures.runtime.now) c.pop.new.self.items (c.in-Some.job ∷ [])
          (subst (λ l. All (IsJobReady c.captures.runtime.now) l) popped c.starts.invariant.ready);
      started = one_started c.of-was.result.value.items c.starts.queue.items c.pop.new.self.items c.starts.started.items c.push_reserved.new.self.items c.in-Some.job
          c.match-spawn_with.one c.starts.invariant.started popped pushed is;
      room = let a = c.push_reserved.ensures.len in let b = c.push_reserved.ensures.capacity in let d = c.in-Some.ensures.len in let r = c.starts.invariant.room in omega arith;
      count = let a = c.push_reserved.ensures.len in let d = c.in-Some.ensures.len in let r = c.starts.invariant.count in omega arith;
    }

pub joins-init : goal.joins-init
joins-init g c =
    let n : length c.starts.queue.items ≡ 0 = omega (arith, c.starts.queue.ok.0, c.in_default.ensures.cases.0) in
    let count = c.starts.invariant.count in
    let was = ap vec_len c.of-was.ensures in
    record {
      joined = all_started c.of-was.result.value.items c.starts.queue.items c.starts.started.items c.captures.first.items c.captures.second.items
          c.starts.invariant.started n c.requires.none.1 c.requires.none.2;
      passes = let r = c.requires.room.1 in let none = c.requires.none.1 in omega (arith, c.captures.first.ok.0);
      cores = let r = c.requires.room.2 in let none = c.requires.none.2 in omega (arith, c.captures.second.ok.0);
    }

pub joins-preserved : goal.joins-preserved
joins-preserved g c =
    let popped = c.in-Some-pop.ensures.items in
    let pushed = c.push_reserved-in-Some-pop.ensures.items in
    let also = c.push_reserved-in-Some-pop-2.ensures.items in
    record {
      joined = one_joined c.of-was.result.value.items c.joins.started.items c.pop-in-joins.new.self.items c.joins.passes.items
          c.push_reserved-in-Some-pop.new.self.items c.joins.cores.items c.push_reserved-in-Some-pop-2.new.self.items c.in-Some-pop.one c.joined-pass.result
          c.joins.invariant.joined popped pushed also c.joined-pass.ensures;
      passes = let a = c.push_reserved-in-Some-pop.ensures.len in let b = c.push_reserved-in-Some-pop.ensures.capacity in let d = c.in-Some-pop.ensures.len in
          let r = c.joins.invariant.passes in omega arith;
      cores = let a = c.push_reserved-in-Some-pop-2.ensures.len in let b = c.push_reserved-in-Some-pop-2.ensures.capacity in let d = c.in-Some-pop.ensures.len in
          let r = c.joins.invariant.cores in omega arith;
    }

pub returns : goal.returns
returns g c =
    let n : length c.joins.started.items ≡ 0 = omega (arith, c.joins.started.ok.0, c.in_default-pop.ensures.cases.0) in
    let all = all_joined c.of-was.result.value.items c.joins.started.items c.joins.passes.items c.joins.cores.items c.joins.invariant.joined n in
    subst (λ (l : List Job). AreLeft l c.joins.passes.items c.joins.cores.items) (ap (λ v. v.items) c.of-was.ensures) all
