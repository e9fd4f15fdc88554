use Rattle.std.proofs.Common.{arith, ◌≡◌, ◌≤◌, ◌+◌, ◌∷◌, [], ap, ◌∙◌, refl, length, length-append}
use Rattle.te_search.proofs.Ending.{taken_in_hand, last_low}
use Rattle.te_search.proofs.WorkKept.{keeps_same, keeps_both}
use Rattle.te_search.proofs.work.Work.settle.Goals as goal

pub step-requires-clause-work : goal.step-requires-clause-work
step-requires-clause-work c = taken_in_hand c.work.self (record {
  store = c.work.self.store;
  moves = c.work.self.moves;
  pending = c.pop.new.self;
  waiting = c.work.self.waiting;
  finals = c.work.self.finals;
  groups = c.work.self.groups;
}) c.in-Some.p c.work.invariant.0 refl refl refl refl refl c.in-Some.ensures.items

pub step-requires-clause-path : goal.step-requires-clause-path
step-requires-clause-path c = last_low c.work.self c.pop.new.self.items c.in-Some.p c.work.invariant.0 c.in-Some.ensures.items

pub work-smaller : goal.work-smaller
work-smaller c =
    let l : length c.work.self.pending.items ≡ length c.pop.new.self.items + 1 = ap length c.in-Some.ensures.items ∙ length-append c.pop.new.self.items (c.in-Some.p ∷ []) in
    let g : length c.step.new.self.pending.items + length c.work.self.store.paths ≡ length c.pop.new.self.items + length c.step.new.self.store.paths = (c.in-Ok-None.ensures.grows refl).0 in
    let m : length c.work.self.store.paths ≤ length c.step.new.self.store.paths = (c.in-Ok-None.ensures.grows refl).1 in
    let w : length c.step.new.self.store.paths + c.step.new.self.groups ≤ c.args.budget = c.in-Ok-None.ensures.within refl in
    omega (arith, l, g, m, w)

pub returns-in-Err-clause-keeps : goal.returns-in-Err-clause-keeps
returns-in-Err-clause-keeps c = keeps_both _ c.work.self _ c.work.invariant.3
    (keeps_both _ (record {
      store = c.work.self.store;
      moves = c.work.self.moves;
      pending = c.pop.new.self;
      waiting = c.work.self.waiting;
      finals = c.work.self.finals;
      groups = c.work.self.groups;
    }) _ (keeps_same _ _ refl refl refl refl) c.step.ensures.keeps)

pub returns-in-Ok-Some-clause-keeps : goal.returns-in-Ok-Some-clause-keeps
returns-in-Ok-Some-clause-keeps c = keeps_both _ c.work.self _ c.work.invariant.3
    (keeps_both _ (record {
      store = c.work.self.store;
      moves = c.work.self.moves;
      pending = c.pop.new.self;
      waiting = c.work.self.waiting;
      finals = c.work.self.finals;
      groups = c.work.self.groups;
    }) _ (keeps_same _ _ refl refl refl refl) c.step.ensures.keeps)

pub returns-clause-keeps : goal.returns-clause-keeps
returns-clause-keeps c = keeps_both _ c.work.self _ c.work.invariant.3 (keeps_same _ _ refl refl refl refl)

pub work-init : goal.work-init
work-init c = (c.requires.work, c.requires.within, refl, keeps_same _ _ refl refl refl refl)
