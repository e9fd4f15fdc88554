use Rattle.std.proofs.Common.{length, refl, subst, arith}
use Rattle.std.proofs.lemmas.Option.{slice_get_read, slice_get_within}
use Rattle.te_cert.specs.declared.cert.Member.{Member}
use Rattle.te_history.specs.declared.status.Status.TheVariants.{Parked}
use Rattle.te_history.specs.Histories.{now, HasStatus}
use Rattle.te_history.proofs.Places.{before_next}
use Rattle.te_history.proofs.Rising.{place_at_most}
use Rattle.te_history.proofs.committing.are_parked.Goals as goal

pub overflow_cast-result : goal.overflow_cast-result
overflow_cast-result c =
    let read = slice_get_read c.args.members.now (length c.args.members.now) c.loop-i.i c.index-members-i.result refl c.loop-i-test.true c.index-members-i.is in
    let low = place_at_most c.args.members.now c.loop-i.i c.index-members-i.result c.requires.rise read in
    let high = c.requires.callers c.loop-i.i c.index-members-i.result read in
    let few = c.requires.few in
    omega (arith, low, high, few)

pub returns-then-not-is_parked_under-clause-refused : goal.returns-then-not-is_parked_under-clause-refused
returns-then-not-is_parked_under-clause-refused c =
    let read = slice_get_read c.args.members.now
    (length c.args.members.now) c.loop-i.i c.index-members-i.result refl c.loop-i-test.true c.index-members-i.is in (
      c.loop-i.i,
      c.status-status.result,
      refl,
      record {
        member = c.index-members-i.result;
        is_there = read;
        stands = c.status-status.ensures;
        stale = λ same. let so = c.is_parked_under.ensures.1 same in let not = c.if-not-is_parked_under.true in absurd cc;
        before = c.loop-i.invariant;
      },
    )

pub loop-i-preserved : goal.loop-i-preserved
loop-i-preserved c =
    let read = slice_get_read c.args.members.now (length c.args.members.now) c.loop-i.i c.index-members-i.result refl c.loop-i-test.true c.index-members-i.is in
    before_next (λ (m : Member). HasStatus (now c.args.hist.now) m.thread (Parked m.ticket)) c.args.members.now c.loop-i.i c.index-members-i.result read
    (subst (HasStatus (now c.args.hist.now) c.index-members-i.result.thread)
    (c.is_parked_under.ensures.0 c.if-not-is_parked_under.false) c.status-status.ensures)
    c.loop-i.invariant

pub returns-clause-ok : goal.returns-clause-ok
returns-clause-ok c = λ k m is.
    let low = slice_get_within c.args.members.now k m is in
    let past = c.loop-i-test.false in
    c.loop-i.invariant k m (omega (arith, low, past)) is
