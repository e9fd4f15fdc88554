use Rattle.std.proofs.Common.{get_or, refl, ◌∙◌}
use Rattle.std.proofs.Math.ListN.{drop_of_length-le}
use Rattle.std.proofs.lemmas.Option.{slice_get-get_or}
use Rattle.std.proofs.lemmas.Result.{err_from_is_err_and}
use Rattle.te_path.proofs.Growing.{grows_on, grows_none}
use Rattle.te_cert.specs.Players.{of_group, table_of}
use Rattle.te_cert.proofs.SoFar.{meets_on, meets_fail}
use Rattle.te_cert.proofs.playing.meet_all.Goals as goal

pub loop-j-init : goal.loop-j-init
loop-j-init c = record { grows = grows_none c.args.cells.now c.requires.linked; seated = c.requires.seated; so_far = λ first. (first, refl) }

pub meet-requires-clause-between : goal.meet-requires-clause-between
meet-requires-clause-between c = c.requires.between c.loop-j.j (get_or c.args.meetings.now c.loop-j.j (record { sender = 0; receiver = 0 }))
    (slice_get-get_or c.args.meetings.now c.loop-j.j (record { sender = 0; receiver = 0 }) c.loop-j-test.true)

pub returns-in_err-meet-clause-err : goal.returns-in_err-meet-clause-err
returns-in_err-meet-clause-err c =
    let p = err_from_is_err_and c.from_residual.result c.from_residual.ensures.1 in
    rw (p.1, p.2)
    (λ word. let so_far = c.loop-j.invariant.so_far word in
    meets_fail c.args.meetings.now c.loop-j.j (record { sender = 0; receiver = 0 }) (table_of c.loop-j.cells (of_group c.args.group.now)
    c.loop-j.seats so_far.0) _ c.in_err-meet.field-0.0 c.loop-j-test.true so_far.1 (c.in_err-meet.ensures.err so_far.0))

pub loop-j-preserved : goal.loop-j-preserved
loop-j-preserved c = record {
  grows = grows_on c.args.cells.now c.loop-j.cells c.meet.new.cells c.loop-j.invariant.grows c.in_ok-meet.ensures.grows;
  seated = c.in_ok-meet.ensures.seated;
  so_far = λ first.
      let so_far = c.loop-j.invariant.so_far first in
      let met = c.in_ok-meet.ensures.ok so_far.0 in (
        met.0,
        meets_on c.args.meetings.now c.loop-j.j (record { sender = 0; receiver = 0 }) (table_of c.loop-j.cells (of_group c.args.group.now)
            c.loop-j.seats so_far.0) (table_of c.meet.new.cells (of_group c.args.group.now) c.meet.new.seats met.0) _ c.loop-j-test.true so_far.1
            met.1,
      );
}

pub returns-clause-ok : goal.returns-clause-ok
returns-clause-ok c = λ word.
    let so_far = c.loop-j.invariant.so_far word in
    (so_far.0, so_far.1 ∙ rw (drop_of_length-le c.args.meetings.now c.loop-j-test.false) refl)
