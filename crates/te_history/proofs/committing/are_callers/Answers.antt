use Rattle.std.proofs.Common.{◌<◌, get_or, refl, arith}
use Rattle.std.proofs.lemmas.Option.{slice_get_within}
use Rattle.te_cert.specs.declared.cert.Member.{Member}
use Rattle.te_history.proofs.Places.{before_next}
use Rattle.te_terms.proofs.Lists.{get_at}
use Rattle.te_history.proofs.Rising.{few_before}
use Rattle.te_history.proofs.committing.are_callers.Goals as goal

pub overflow_cast-result : goal.overflow_cast-result
overflow_cast-result c =
    let few = few_before c.args.members.now c.loop-i.i c.args.callers c.requires c.loop-i-test.true c.loop-i.invariant in
    let fits = c.ranges.callers.fits in
    omega (arith, few, fits)

pub returns-then-members-i-clause-refused : goal.returns-then-members-i-clause-refused
returns-then-members-i-clause-refused c = (
  c.loop-i.i,
  refl,
  record {
    member = get_or c.args.members.now c.loop-i.i c.index-members-i.result;
    is_there = get_at c.args.members.now c.loop-i.i c.index-members-i.result c.loop-i-test.true;
    stranger = c.if-members-i.true;
    before = c.loop-i.invariant;
  },
)

pub loop-i-preserved : goal.loop-i-preserved
loop-i-preserved c =
    before_next (λ (m : Member). m.thread < c.args.callers) c.args.members.now c.loop-i.i _
    (get_at c.args.members.now c.loop-i.i c.index-members-i.result c.loop-i-test.true) c.if-members-i.false c.loop-i.invariant

pub returns-clause-ok : goal.returns-clause-ok
returns-clause-ok c = λ k m is.
    let low = slice_get_within c.args.members.now k m is in
    let past = c.loop-i-test.false in
    c.loop-i.invariant k m (omega (arith, low, past)) is
