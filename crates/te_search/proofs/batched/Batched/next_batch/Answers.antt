use Rattle.std.proofs.Common.{arith, ◌≡◌, ◌≤◌, ◌+◌, ◌∙◌, [], ap, sym, subst, refl, length, Some}
use Rattle.te_search.specs.Batching.{batches_of}
use Rattle.te_search.proofs.BatchSteps.{few_of}
use Rattle.te_search.proofs.BatchesTaken.{nothing_left}
use Rattle.te_search.proofs.EndsKept.{IsKeeping, empty_batch, keeping_starts, keeping_more, whole_batch, batch_none, taken_batch}
use Rattle.te_search.proofs.EndsKept.{batched_on}
use Rattle.te_search.proofs.batched.Batched.next_batch.Goals as goal

pub overflow_sub-count : goal.overflow_sub-count
overflow_sub-count c = omega (arith, c.requires.batched.opened.last, c.len-count.ensures.number)

pub overflow_add-end : goal.overflow_add-end
overflow_add-end c =
    let few : length c.args.self.now.work.store.paths ≤ 1000000 = few_of c.args.self.now c.requires.batched in
    omega (arith, c.size_of_batch-size.ensures.low, c.requires.batched.opened.last, c.len-count.ensures.number, few)

pub paths-init : goal.paths-init
paths-init c = subst (λ l. IsKeeping c.args.self.now c.args.self.now c.args.self.now.batched l) (sym c.new-batch.ensures)
    (keeping_starts c.args.self.now c.requires.batched)

pub keep-requires-clause-kept : goal.keep-requires-clause-kept
keep-requires-clause-kept c = c.paths.invariant.kept

pub keep-requires-clause-path : goal.keep-requires-clause-path
keep-requires-clause-path c =
    let e : length c.paths.self.work.store.paths ≡ length c.args.self.now.work.store.paths = ap
    (λ w. length w.store.paths) c.paths.invariant.same in
    omega (
      arith,
      e,
      c.paths-test.true,
      c.size_of_batch-size.ensures.low,
      c.requires.batched.opened.last,
      c.len-count.ensures.number,
    )

pub paths-preserved : goal.paths-preserved
paths-preserved c = keeping_more c.args.self.now c.paths.self c.keep.new.self c.paths.p c.paths.batch c.push.new.self
    c.paths.invariant c.in_ok-keep.ensures.ok
    c.keep.ensures.stays c.in_ok-push.ensures.ok

pub returns-clause-ok : goal.returns-clause-ok
returns-clause-ok c =
    let w = whole_batch c.args.self.now c.paths.self c.len-count.result c.size_of_batch-size.result c.paths.p
    c.paths.batch c.requires.batched c.len-count.ensures.number
    c.size_of_batch-size.ensures.most c.paths.auto.p-end c.paths-test.false c.paths.invariant in
    taken_batch c.args.self.now c.paths.self _
    (c.args.self.now.batched + c.size_of_batch-size.result) c.paths.batch c.requires.batched w.kept w.ends refl

pub returns-clause-empty : goal.returns-clause-empty
returns-clause-empty c =
    let w = whole_batch c.args.self.now c.paths.self c.len-count.result c.size_of_batch-size.result c.paths.p
    c.paths.batch c.requires.batched c.len-count.ensures.number
    c.size_of_batch-size.ensures.most c.paths.auto.p-end c.paths-test.false c.paths.invariant in
    let end = c.args.self.now.batched + c.size_of_batch-size.result in
    empty_batch (batches_of (Some c.args.self.now)) (batches_of
    (Some (record c.paths.self { batched = end }))) c.paths.batch
    (taken_batch c.args.self.now c.paths.self
    (record c.paths.self { batched = end }) end c.paths.batch c.requires.batched w.kept w.ends refl)

pub returns-clause-batched : goal.returns-clause-batched
returns-clause-batched c ok =
    let w = whole_batch c.args.self.now c.paths.self c.len-count.result c.size_of_batch-size.result c.paths.p
    c.paths.batch c.requires.batched c.len-count.ensures.number
    c.size_of_batch-size.ensures.most c.paths.auto.p-end c.paths-test.false c.paths.invariant in
    batched_on c.args.self.now c.paths.self _
    (c.args.self.now.batched + c.size_of_batch-size.result) c.paths.batch c.requires.batched c.requires.applied
    w.kept w.ends refl

pub returns-clause-none : goal.returns-clause-none
returns-clause-none c e =
    let w = whole_batch c.args.self.now c.paths.self c.len-count.result c.size_of_batch-size.result c.paths.p
    c.paths.batch c.requires.batched c.len-count.ensures.number
    c.size_of_batch-size.ensures.most c.paths.auto.p-end c.paths-test.false c.paths.invariant in
    let none : c.paths.batch ≡ [] = cc in
    nothing_left c.args.self.now c.requires.batched
    (c.requires.applied ∙ batch_none c.args.self.now c.paths.self
    (c.args.self.now.batched + c.size_of_batch-size.result) c.paths.batch w none)
