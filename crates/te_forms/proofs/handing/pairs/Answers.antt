use Rattle.std.proofs.Common.{◌∙◌}
use Rattle.te_forms.specs.Reading.{pair_in}
use Rattle.te_forms.proofs.ListsGrow.{pairs_some, pairs_none}
use Rattle.te_forms.proofs.handing.pairs.Goals as goal
use Rattle.te_forms.proofs.handing.pairs.Goals.{in-Some+in_ok-push, in_default}

pub loop-i-preserved : goal.loop-i-preserved
loop-i-preserved c = elim c.match-pair.branch [
  | in-Some+in_ok-push w ↦
      w.pairs-is ∙ pairs_some (pair_in c.args.members.now c.args.marks.now) c.args.meetings.now c.loop-i.i c.meeting_at.result w.in-Some.handed c.loop-i.pairs w.push.new.self
      c.meeting_at.ensures w.in-Some.ensures c.loop-i.invariant w.in_ok-push.ensures.ok
  | in_default w ↦
      w.pairs-is ∙ pairs_none (pair_in c.args.members.now c.args.marks.now) c.args.meetings.now c.loop-i.i c.meeting_at.result c.loop-i.pairs
      c.meeting_at.ensures w.in_default.ensures c.loop-i.invariant
]
