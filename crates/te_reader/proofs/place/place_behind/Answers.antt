use Rattle.std.proofs.Common.{rules, take}
use Rattle.te_reader.proofs.PlaceLemmas.{behind_feed, behind_other}
use Rattle.te_reader.proofs.place.place_behind.Goals as goal
use Rattle.te_reader.proofs.place.place_behind.Goals.{then-b-eq10, else-b-eq10}

pub loop-b-preserved : goal.loop-b-preserved
loop-b-preserved c =
    let before = take c.args.len c.args.text.now in
    let i = c.loop-b.b-index in
    elim c.if-b-eq10.branch [
      | then-b-eq10 w ↦ rw (w.line-is, w.column-is) (behind_feed i before c.loop-b.line c.loop-b.column c.loop-b-test.true c.loop-b.invariant w.if-b-eq10.true)
      | else-b-eq10 w ↦ rw (w.line-is, w.column-is) (behind_other i before c.loop-b.line c.loop-b.column c.loop-b-test.true c.loop-b.invariant (search rules))
    ]
