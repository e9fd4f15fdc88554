use Rattle.std.proofs.Common.{◌∙◌, ap, sym, refl, arith, Ok}
use Rattle.std.proofs.lemmas.Option.{slice_get-get_or}
use Rattle.te_crew.proofs.BatchesOfNumbers.{is_next, path_at, is_below}
use Rattle.te_crew.proofs.applying.apply_all.Goals as goal

pub paths-init : goal.paths-init
paths-init c = (
  record {
    goes_on = c.requires.batch.goes_on;
    applied = omega arith;
    batched = refl;
    same = record { parked = refl; budget = refl };
    number = c.requires.numbers;
  },
  c.requires.count,
  c.requires.looks,
)

pub apply-requires-clause-in_batch : goal.apply-requires-clause-in_batch
apply-requires-clause-in_batch c =
    let low = c.paths-test.true in
    is_next c.args.search.now c.paths.search c.args.batch.now c.paths.i _ c.requires.batch c.paths.invariant.0 low
    (path_at c.args.search.now c.args.batch.now c.paths.i 0 c.requires.batch low)

pub apply-requires-clause-lowest : goal.apply-requires-clause-lowest
apply-requires-clause-lowest c =
    path_at c.args.search.now c.args.batch.now c.paths.i 0 c.requires.batch c.paths-test.true
    ∙ sym c.paths.invariant.0.applied

pub apply-requires-clause-look : goal.apply-requires-clause-look
apply-requires-clause-look c =
    c.paths.invariant.2 c.paths.i _ _ (slice_get-get_or c.args.batch.now c.paths.i 0 c.paths-test.true)
    c.in-Some.ensures.value

pub paths-preserved : goal.paths-preserved
paths-preserved c =
    let first = c.args.search.now in
    let batch = c.args.batch.now in
    let up = c.paths.invariant.0 in
    let none = c.in-Ok-None.is ∙ ap Ok c.in-Ok-None.field-0-is in
    let done = c.apply.ensures.applied none in
    let at = path_at first batch c.paths.i 0 c.requires.batch c.paths-test.true in (
      record {
        goes_on = done.goes_on;
        applied = omega (arith, done.applied, at);
        batched = done.batched ∙ up.batched;
        same = record { parked = done.parked ∙ up.same.parked; budget = done.budget ∙ up.same.budget };
        number = omega (arith, done.applied, c.type_inv.batch c.paths.i);
      },
      c.take_at.auto.looks ∙ c.paths.invariant.1,
      λ k q look there left. c.apply.ensures.looks none q look
          (let low = is_below first batch k q c.requires.batch there in omega (arith, low, up.batched))
          (c.paths.invariant.2 k q look there (c.take_at.ensures.rest k look left)),
    )
