use Rattle.te_forms.specs.Reading.{replaced_under, both_under}
use Rattle.te_forms.proofs.FormsRead.{waits_whole, waits_not, waits_elsewhere, waits_there}
use Rattle.te_forms.proofs.reading.waits.Goals as goal

pub returns-in_default : goal.returns-in_default
returns-in_default c =
    waits_whole c.args.ring.now c.args.sent.now (replaced_under c.args.code.now c.args.regs.now 1 c.args.rest) (c.in_default.ensures c.args.regs.now 1)

pub returns-in_default-received_at : goal.returns-in_default-received_at
returns-in_default-received_at c =
    waits_not c.args.ring.now c.args.sent.now (replaced_under c.args.code.now c.args.regs.now 1 c.args.rest)
    (both_under c.args.code.now c.args.regs.now 1 (c.in-Some.then, c.in-Some.end)) (c.in-Some.ensures c.args.regs.now 1)
    (c.in_default-received_at.ensures c.args.regs.now 1)

pub returns-then-channel-last : goal.returns-then-channel-last
returns-then-channel-last c =
    waits_elsewhere c.args.ring.now c.args.sent.now (replaced_under c.args.code.now c.args.regs.now 1 c.args.rest)
    (both_under c.args.code.now c.args.regs.now 1 (c.in-Some.then, c.in-Some.end)) (c.in-Some.ensures c.args.regs.now 1)
    c.in-Some-received_at.channel c.last-last.result (c.in-Some-received_at.ensures c.args.regs.now 1) c.last-last.ensures c.if-channel-last.true

pub returns : goal.returns
returns c =
    waits_there c.args.ring.now c.args.sent.now (replaced_under c.args.code.now c.args.regs.now 1 c.args.rest)
    (both_under c.args.code.now c.args.regs.now 1 (c.in-Some.then, c.in-Some.end)) (c.in-Some.ensures c.args.regs.now 1)
    c.in-Some-received_at.channel c.last-last.result c.is_end-ends.result c.when.result (c.in-Some-received_at.ensures c.args.regs.now 1) c.last-last.ensures
    c.if-channel-last.false (c.is_end-ends.ensures 2) c.when.ensures
