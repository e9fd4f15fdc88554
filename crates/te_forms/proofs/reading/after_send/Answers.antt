use Rattle.te_forms.specs.Reading.{replaced_under}
use Rattle.te_forms.proofs.FormsRead.{sends_elsewhere, sends_then_waits, sends_then_elsewhere, sends_then_there}
use Rattle.te_forms.proofs.reading.after_send.Goals as goal

pub returns-then-sent-first : goal.returns-then-sent-first
returns-then-sent-first c =
    sends_elsewhere c.args.ring.now c.args.sent.now (replaced_under c.args.code.now c.args.regs.now 1 c.args.rest) c.first-first.result c.first-first.ensures c.if-sent-first.true

pub returns-in_default : goal.returns-in_default
returns-in_default c =
    sends_then_waits c.args.ring.now c.args.sent.now (replaced_under c.args.code.now c.args.regs.now 1 c.args.rest) c.first-first.result c.first-first.ensures c.if-sent-first.false
    c.waits.result (c.in_default.ensures c.args.regs.now 1) c.waits.ensures

pub returns-then-channel-last : goal.returns-then-channel-last
returns-then-channel-last c =
    sends_then_elsewhere c.args.ring.now c.args.sent.now (replaced_under c.args.code.now c.args.regs.now 1 c.args.rest) c.first-first.result c.first-first.ensures c.if-sent-first.false
    c.in-Some.channel c.last-last.result (c.in-Some.ensures c.args.regs.now 1) c.last-last.ensures c.if-channel-last.true

pub returns : goal.returns
returns c =
    sends_then_there c.args.ring.now c.args.sent.now (replaced_under c.args.code.now c.args.regs.now 1 c.args.rest) c.first-first.result c.first-first.ensures c.if-sent-first.false
    c.in-Some.channel c.last-last.result (c.in-Some.ensures c.args.regs.now 1) c.last-last.ensures c.if-channel-last.false
