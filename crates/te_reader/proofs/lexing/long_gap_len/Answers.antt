use Rattle.std.proofs.Common.{length, ◌<◌, sym, ◌∙◌}
use Rattle.te_reader.proofs.TokenSteps.{comment_goes, comment_begins, blank_goes, all_gap, kept}
use Rattle.te_reader.proofs.lexing.long_gap_len.Goals as goal
use Rattle.te_reader.proofs.lexing.long_gap_len.Goals.{then-in_comment, else-in_comment+then-b-eq35, else-in_comment+else-b-eq35+else-not-is_blank}

pub loop-i-preserved : goal.loop-i-preserved
loop-i-preserved c =
    let text = c.args.text.now in
    let i = c.loop-i.i in
    let lt : i < length text = c.loop-i-test.true in
    elim c.if-in_comment.branch [
      | then-in_comment w ↦ comment_goes i text _ lt w.in_comment-is (kept text i _ _ (sym w.if-in_comment.true) c.loop-i.invariant)
      | else-in_comment+then-b-eq35 w ↦ rw w.in_comment-is (comment_begins i text lt w.if-b-eq35.true (kept text i _ _ (sym w.if-in_comment.false) c.loop-i.invariant))
      | else-in_comment+else-b-eq35+else-not-is_blank w ↦
          rw (w.in_comment-is, w.if-in_comment.false) (blank_goes i text lt (sym w.is_blank.ensures ∙ w.if-not-is_blank.false) (kept text i _ _ (sym w.if-in_comment.false) c.loop-i.invariant))
    ]

pub returns-clause-same : goal.returns-clause-same
returns-clause-same c = (all_gap c.args.text.now c.loop-i.in_comment c.loop-i.i c.loop-i-test.false c.loop-i.invariant).0

pub returns-clause-spots : goal.returns-clause-spots
returns-clause-spots c = (all_gap c.args.text.now c.loop-i.in_comment c.loop-i.i c.loop-i-test.false c.loop-i.invariant).1
