use Rattle.std.proofs.Common.{take, is_some}
use Rattle.te_forms.specs.Reading.{form_at}
use Rattle.te_forms.proofs.ListsGrow.{marks_more}
use Rattle.te_forms.proofs.handing.marks.Goals as goal

pub loop-i-preserved : goal.loop-i-preserved
loop-i-preserved c =
    marks_more (λ t. is_some (form_at c.args.ring.now (take c.args.n c.args.hist.now.entries) t)) c.args.members.now c.loop-i.i c.thread_at.result c.is_marked.result
    c.loop-i.marks.items c.push.new.self.items c.thread_at.ensures c.is_marked.ensures c.loop-i.invariant c.in_ok-push.ensures.items
