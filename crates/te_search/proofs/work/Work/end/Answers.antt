use Rattle.std.proofs.Common.{arith, ◌≡◌, ◌+◌, ◌-◌, ◌∷◌, ◌++◌, [], suc, sym, subst, refl, inl, length}
use Rattle.te_search.specs.Assemblies.{AssemblyStand, NamesPaths, Assembles, LacksOne, joint}
use Rattle.te_search.specs.Finals.{numbers_of}
use Rattle.te_search.specs.Works.{AreLow, StepEndsSo}
use Rattle.te_terms.proofs.Lists.{if_ok, get_some}
use Rattle.te_search.proofs.Ending.{numbers_one, told_after, ending, end_done, end_ends, end_short, end_spent}
use Rattle.te_search.proofs.EndsAlone.{lacking_fails}
use Rattle.te_search.proofs.PartialLaws.{tries_zero}
use Rattle.te_search.proofs.WorkKept.{keeps_same, keeps_final}
use Rattle.te_search.proofs.work.Work.end.Goals as goal

pub assemble-answer-requires-clause-stand : goal.assemble-answer-requires-clause-stand
assemble-answer-requires-clause-stand c =
    let x = get_some c.args.self.now.store.paths c.args.p c.requires.path in
    subst (AssemblyStand c.args.self.now.store.events c.args.self.now.store.paths c.args.threads.now)
    (sym (numbers_one c.args.self.now.finals c.push.new.self c.args.p c.thread-thread.result c.in-Ok.ensures.ok))
    (ending c.args.self.now c.args.p x.0 c.args.threads.now x.1 c.requires.work (c.requires.at_end x.0 x.1) c.requires.threads).stand

pub assemble-answer-requires-clause-told : goal.assemble-answer-requires-clause-told
assemble-answer-requires-clause-told c = told_after c.args.self.now c.push.new.self c.args.p c.thread-thread.result
    c.requires.work c.in-Ok.ensures.ok c.thread-thread.ensures

pub lacks_one-requires-clause-low : goal.lacks_one-requires-clause-low
lacks_one-requires-clause-low c =
    let x = get_some c.args.self.now.store.paths c.args.p c.requires.path in
    subst (AreLow c.args.self.now.store.paths) (sym (numbers_one c.args.self.now.finals c.push.new.self c.args.p c.thread-thread.result c.in-Ok.ensures.ok))
    (ending c.args.self.now c.args.p x.0 c.args.threads.now x.1 c.requires.work (c.requires.at_end x.0 x.1) c.requires.threads).stand.finals_low

pub lacks_one-requires-clause-told : goal.lacks_one-requires-clause-told
lacks_one-requires-clause-told c = told_after c.args.self.now c.push.new.self c.args.p c.thread-thread.result
    c.requires.work c.in-Ok.ensures.ok c.thread-thread.ensures

pub returns-then-lacks_one-clause-ok : goal.returns-then-lacks_one-clause-ok
returns-then-lacks_one-clause-ok c =
    let x = get_some c.args.self.now.store.paths c.args.p c.requires.path in
    let e = ending c.args.self.now c.args.p x.0 c.args.threads.now x.1 c.requires.work (c.requires.at_end x.0 x.1) c.requires.threads in
    let gr : c.args.budget - c.len.result - (c.left-left.result - 1) ≡ c.args.self.now.groups + 1 = omega
    (arith, c.left-left.ensures.left, c.if-left-eq0.false, c.len.ensures.number) in
    let numbers = numbers_one c.args.self.now.finals c.push.new.self c.args.p c.thread-thread.result c.in-Ok.ensures.ok in
    end_done c.args.self.now (record {
      store = c.args.self.now.store;
      moves = c.args.self.now.moves;
      pending = c.args.self.now.pending;
      waiting = c.args.self.now.waiting;
      finals = c.push.new.self;
      groups = c.args.budget - c.len.result - (c.left-left.result - 1);
    }) c.args.p x.0 c.args.threads.now 0 x.1 c.requires.work (c.requires.at_end x.0 x.1) e refl refl refl refl numbers gr
    (tries_zero c.args.self.now.store.events c.args.self.now.store.paths x.0 (x.0 ∷ []))
    (lacking_fails c.args.self.now.store.events c.args.self.now.store.paths (numbers_of c.args.self.now.finals ++ (c.args.p ∷ [])) c.args.p x.0 x.1 e.crew
    (subst (λ l. LacksOne c.args.self.now.store.events c.args.self.now.store.paths l c.args.p) numbers (c.lacks_one.ensures c.if-lacks_one.true)))
    (told_after c.args.self.now c.push.new.self c.args.p c.thread-thread.result c.requires.work c.in-Ok.ensures.ok c.thread-thread.ensures)

pub returns-clause-ok : goal.returns-clause-ok
returns-clause-ok c =
    let x = get_some c.args.self.now.store.paths c.args.p c.requires.path in
    let e = ending c.args.self.now c.args.p x.0 c.args.threads.now x.1 c.requires.work (c.requires.at_end x.0 x.1) c.requires.threads in
    let gr : c.args.budget - c.len-2.result - c.assemble-answer.new.left ≡ c.args.self.now.groups + suc ((c.left-left.result - 1) - c.assemble-answer.new.left) = omega
    (arith, c.left-left.ensures.left, c.if-left-eq0.false, c.len-2.ensures.number, c.assemble-answer.ensures.falls) in
    let numbers = numbers_one c.args.self.now.finals c.push.new.self c.args.p c.thread-thread.result c.in-Ok.ensures.ok in
    if_ok (Assembles c.args.self.now.store.events c.args.self.now.store.paths c.args.threads.now
    (numbers_of c.push.new.self) c.deref.result.now ((c.left-left.result - 1) - c.assemble-answer.new.left))
    (StepEndsSo (record {
      store = c.args.self.now.store;
      moves = c.args.self.now.moves;
      pending = c.args.self.now.pending;
      waiting = c.args.self.now.waiting;
      finals = c.push.new.self;
      groups = c.args.budget - c.len-2.result - c.assemble-answer.new.left;
    }) c.args.threads.now)
    c.assemble-answer.result
    (λ found h. end_ends c.args.self.now (record {
      store = c.args.self.now.store;
      moves = c.args.self.now.moves;
      pending = c.args.self.now.pending;
      waiting = c.args.self.now.waiting;
      finals = c.push.new.self;
      groups = c.args.budget - c.len-2.result - c.assemble-answer.new.left;
    }) c.args.p x.0 c.args.threads.now c.deref.result.now
    ((c.left-left.result - 1) - c.assemble-answer.new.left) found
    x.1 c.requires.work (c.requires.at_end x.0 x.1) e refl refl refl refl numbers gr
    (subst (NamesPaths c.args.self.now.store.paths c.args.threads.now (joint (x.0 ∷ []))) (sym c.deref.ensures.value) (c.in-Ok-past_of.ensures.names x.0 x.1))
    (subst (λ l. Assembles c.args.self.now.store.events c.args.self.now.store.paths c.args.threads.now l c.deref.result.now
    ((c.left-left.result - 1) - c.assemble-answer.new.left) found) numbers h)
    (told_after c.args.self.now c.push.new.self c.args.p c.thread-thread.result c.requires.work c.in-Ok.ensures.ok c.thread-thread.ensures))
    c.assemble-answer.ensures.ok

pub returns-then-left-eq0-clause-spent : goal.returns-then-left-eq0-clause-spent
returns-then-left-eq0-clause-spent c h =
    let x = get_some c.args.self.now.store.paths c.args.p c.requires.path in
    let e = ending c.args.self.now c.args.p x.0 c.args.threads.now x.1 c.requires.work (c.requires.at_end x.0 x.1) c.requires.threads in
    let sum : length c.args.self.now.store.paths + c.args.self.now.groups ≡ c.args.budget = omega (arith, c.left-left.ensures.left, c.if-left-eq0.true) in
    end_short c.args.self.now c.args.p x.0 c.args.threads.now c.args.budget c.requires.work e sum

pub returns-clause-spent : goal.returns-clause-spent
returns-clause-spent c h =
    let x = get_some c.args.self.now.store.paths c.args.p c.requires.path in
    let e = ending c.args.self.now c.args.p x.0 c.args.threads.now x.1 c.requires.work (c.requires.at_end x.0 x.1) c.requires.threads in
    let gr : c.args.budget - c.len-2.result - c.assemble-answer.new.left ≡ c.args.self.now.groups + suc ((c.left-left.result - 1) - c.assemble-answer.new.left) = omega
    (arith, c.left-left.ensures.left, c.if-left-eq0.false, c.len-2.ensures.number, c.assemble-answer.ensures.falls) in
    let sum : length c.args.self.now.store.paths + (c.args.budget - c.len-2.result - c.assemble-answer.new.left) ≡ c.args.budget = omega
    (arith, c.left-left.ensures.left, c.len-2.ensures.number, c.assemble-answer.ensures.spent h) in
    end_spent c.args.self.now (record {
      store = c.args.self.now.store;
      moves = c.args.self.now.moves;
      pending = c.args.self.now.pending;
      waiting = c.args.self.now.waiting;
      finals = c.push.new.self;
      groups = c.args.budget - c.len-2.result - c.assemble-answer.new.left;
    }) c.args.p x.0 c.args.threads.now
    ((c.left-left.result - 1) - c.assemble-answer.new.left) c.args.budget
    c.requires.work e refl gr (c.assemble-answer.ensures.tried h x.0 (x.0 ∷ []) e.crew (inl refl)
    (subst (NamesPaths c.args.self.now.store.paths c.args.threads.now (joint (x.0 ∷ []))) (sym c.deref.ensures.value) (c.in-Ok-past_of.ensures.names x.0 x.1))) sum

pub returns-then-left-eq0-clause-keeps : goal.returns-then-left-eq0-clause-keeps
returns-then-left-eq0-clause-keeps c = keeps_same _ _ refl refl refl refl

pub returns-in_default-past_of-clause-keeps : goal.returns-in_default-past_of-clause-keeps
returns-in_default-past_of-clause-keeps c = keeps_final _ _ _ refl refl refl c.in-Ok.ensures.ok

pub returns-then-lacks_one-clause-keeps : goal.returns-then-lacks_one-clause-keeps
returns-then-lacks_one-clause-keeps c = keeps_final _ _ _ refl refl refl c.in-Ok.ensures.ok

pub returns-in_default-clause-keeps : goal.returns-in_default-clause-keeps
returns-in_default-clause-keeps c = keeps_same _ _ refl refl refl c.in_default.ensures.err

pub returns-clause-keeps : goal.returns-clause-keeps
returns-clause-keeps c = keeps_final _ _ _ refl refl refl c.in-Ok.ensures.ok
