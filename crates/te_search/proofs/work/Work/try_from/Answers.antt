use Rattle.std.proofs.Common.{arith, ◌≡◌, ◌+◌, ◌-◌, ◌∷◌, [], suc, ◌∙◌, sym, subst, refl, inl, inr, length}
use Rattle.te_search.specs.Assemblies.{AssemblyStand, NamesPaths, Assembles, joint}
use Rattle.te_search.specs.Finals.{numbers_of, TellThreads}
use Rattle.te_search.specs.Batching.{HasTried, HasLater}
use Rattle.te_terms.proofs.Lists.{if_ok}
use Rattle.te_search.proofs.FinalsTold.{told_one}
use Rattle.te_search.proofs.Ending.{numbers_one}
use Rattle.te_search.proofs.work.Work.try_from.Goals as goal

pub assemble-answer-requires-clause-stand : goal.assemble-answer-requires-clause-stand
assemble-answer-requires-clause-stand c = subst
    (AssemblyStand c.args.self.now.store.events c.args.self.now.store.paths c.args.threads.now)
    (sym (numbers_one c.args.self.now.finals c.push.new.self c.args.p c.thread-thread.result c.in-Ok-push.ensures.ok))
    c.requires.stand

pub assemble-answer-requires-clause-told : goal.assemble-answer-requires-clause-told
assemble-answer-requires-clause-told c = subst (TellThreads c.args.self.now.store.paths) (sym c.in-Ok-push.ensures.ok)
    (told_one c.args.self.now.store.paths c.args.self.now.finals c.args.p c.thread-thread.result c.requires.told
    c.thread-thread.ensures)

pub returns-then-has_later-clause-ok : goal.returns-then-has_later-clause-ok
returns-then-has_later-clause-ok c = record {
  store = refl;
  moves = refl;
  pending = refl;
  waiting = refl;
  finals = numbers_one c.args.self.now.finals c.push.new.self c.args.p c.thread-thread.result c.in-Ok-push.ensures.ok;
  told = subst (TellThreads c.args.self.now.store.paths) (sym c.in-Ok-push.ensures.ok)
      (told_one c.args.self.now.store.paths c.args.self.now.finals c.args.p c.thread-thread.result c.requires.told
      c.thread-thread.ensures);
  count = 0;
  groups = refl;
  joined = c.deref.result.now;
  names = λ x ex. subst (NamesPaths c.args.self.now.store.paths c.args.threads.now (joint (x ∷ [])))
      (sym c.deref.ensures.value) (c.in-Ok.ensures.names x ex);
  tries = inl (c.has_later.ensures.0 c.if-has_later.true, refl, refl);
}

pub returns-clause-ok : goal.returns-clause-ok
returns-clause-ok c =
    let gr : c.args.budget - c.len.result - c.assemble-answer.new.left ≡ c.args.self.now.groups + suc
    ((c.left-left.result - 1) - c.assemble-answer.new.left) = omega
    (arith, c.left-left.ensures.left, c.if-left-eq0.false, c.len.ensures.number, c.assemble-answer.ensures.falls) in
    let numbers = numbers_one c.args.self.now.finals c.push.new.self c.args.p c.thread-thread.result c.in-Ok-push.ensures.ok in
    if_ok (Assembles c.args.self.now.store.events c.args.self.now.store.paths c.args.threads.now
    (numbers_of c.push.new.self) c.deref-2.result.now ((c.left-left.result - 1) - c.assemble-answer.new.left))
    (HasTried c.args.self.now (record {
      store = c.args.self.now.store;
      moves = c.args.self.now.moves;
      pending = c.args.self.now.pending;
      waiting = c.args.self.now.waiting;
      finals = c.push.new.self;
      groups = c.args.budget - c.len.result - c.assemble-answer.new.left;
    }) c.args.p c.args.threads.now)
    c.assemble-answer.result
    (λ found h. record {
      store = refl;
      moves = refl;
      pending = refl;
      waiting = refl;
      finals = numbers;
      told = subst (TellThreads c.args.self.now.store.paths) (sym c.in-Ok-push.ensures.ok)
          (told_one c.args.self.now.store.paths c.args.self.now.finals c.args.p c.thread-thread.result c.requires.told
          c.thread-thread.ensures);
      count = (c.left-left.result - 1) - c.assemble-answer.new.left;
      groups = gr;
      joined = c.deref-2.result.now;
      names = λ x ex. subst (NamesPaths c.args.self.now.store.paths c.args.threads.now (joint (x ∷ [])))
          (sym c.deref-2.ensures.value) (c.in-Ok.ensures.names x ex);
      tries = inr (subst (λ l. Assembles c.args.self.now.store.events c.args.self.now.store.paths c.args.threads.now l
          c.deref-2.result.now ((c.left-left.result - 1) - c.assemble-answer.new.left) found) numbers h);
    })
    c.assemble-answer.ensures.ok

pub returns-clause-spent : goal.returns-clause-spent
returns-clause-spent c h =
    let gr : c.args.budget - c.len.result - c.assemble-answer.new.left ≡ c.args.self.now.groups + suc
    ((c.left-left.result - 1) - c.assemble-answer.new.left) = omega
    (arith, c.left-left.ensures.left, c.if-left-eq0.false, c.len.ensures.number, c.assemble-answer.ensures.falls) in
    let sum : length c.args.self.now.store.paths +
    (c.args.budget - c.len.result - c.assemble-answer.new.left) ≡ c.args.budget = omega
    (arith, c.left-left.ensures.left, c.len.ensures.number, c.assemble-answer.ensures.spent h) in
    inr (record {
      store = refl;
      count = (c.left-left.result - 1) - c.assemble-answer.new.left;
      groups = gr;
      tries = λ x ex crew. c.assemble-answer.ensures.tried h x (x ∷ []) crew (inl refl)
          (subst (NamesPaths c.args.self.now.store.paths c.args.threads.now (joint (x ∷ []))) (sym c.deref-2.ensures.value)
          (c.in-Ok.ensures.names x ex));
      sum = sum;
    })

pub returns-then-left-eq0-clause-spent : goal.returns-then-left-eq0-clause-spent
returns-then-left-eq0-clause-spent c h =
    let sum : length c.args.self.now.store.paths + c.args.self.now.groups ≡ c.args.budget = omega
    (arith, c.left-left.ensures.left, c.if-left-eq0.true) in
    inl (refl, sum)
