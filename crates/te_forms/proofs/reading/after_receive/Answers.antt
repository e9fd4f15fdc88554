use Rattle.std.proofs.Common.{sym}
use Rattle.te_forms.specs.Reading.{replaced_under, both_under}
use Rattle.te_forms.proofs.FormsRead.{receives_whole, receives_only, receives_no_role, receives_first_role, receives_elsewhere, receives_there}
use Rattle.te_forms.proofs.reading.after_receive.Goals as goal

pub returns-in_default : goal.returns-in_default
returns-in_default c = receives_whole c.args.ring.now c.args.channel (replaced_under c.args.code.now c.args.regs.now 1 c.args.rest) (c.in_default.ensures c.args.regs.now 1)

pub returns-in_default-sent_at : goal.returns-in_default-sent_at
returns-in_default-sent_at c =
    receives_only c.args.ring.now c.args.channel (replaced_under c.args.code.now c.args.regs.now 1 c.args.rest) (both_under c.args.code.now c.args.regs.now 1 (c.in-Some.second, c.in-Some.end))
    (c.in-Some.ensures c.args.regs.now 1) (c.in_default-sent_at.ensures 1)

pub returns-in_default-role_on : goal.returns-in_default-role_on
returns-in_default-role_on c =
    receives_no_role c.args.ring.now c.args.channel (replaced_under c.args.code.now c.args.regs.now 1 c.args.rest) (both_under c.args.code.now c.args.regs.now 1 (c.in-Some.second, c.in-Some.end))
    (c.in-Some.ensures c.args.regs.now 1) c.in-Some-sent_at.sent (c.in-Some-sent_at.ensures 1) (sym c.in_default-role_on.ensures.value)

pub returns-then-role-eq0 : goal.returns-then-role-eq0
returns-then-role-eq0 c =
    receives_first_role c.args.ring.now c.args.channel (replaced_under c.args.code.now c.args.regs.now 1 c.args.rest) (both_under c.args.code.now c.args.regs.now 1 (c.in-Some.second, c.in-Some.end))
    (c.in-Some.ensures c.args.regs.now 1) c.in-Some-sent_at.sent (c.in-Some-sent_at.ensures 1) c.in-Some-role_on.role (sym c.in-Some-role_on.ensures.value) c.if-role-eq0.true

pub returns-then-before-channel : goal.returns-then-before-channel
returns-then-before-channel c =
    receives_elsewhere c.args.ring.now c.args.channel (replaced_under c.args.code.now c.args.regs.now 1 c.args.rest) (both_under c.args.code.now c.args.regs.now 1 (c.in-Some.second, c.in-Some.end))
    (c.in-Some.ensures c.args.regs.now 1) c.in-Some-sent_at.sent (c.in-Some-sent_at.ensures 1) c.in-Some-role_on.role c.channel-before.result (sym c.in-Some-role_on.ensures.value)
    c.if-role-eq0.false c.channel-before.ensures c.if-before-channel.true

pub returns : goal.returns
returns c =
    receives_there c.args.ring.now c.args.channel (replaced_under c.args.code.now c.args.regs.now 1 c.args.rest) (both_under c.args.code.now c.args.regs.now 1 (c.in-Some.second, c.in-Some.end))
    (c.in-Some.ensures c.args.regs.now 1) c.in-Some-sent_at.sent (c.in-Some-sent_at.ensures 1) c.in-Some-role_on.role c.channel-before.result c.ended.result
    (sym c.in-Some-role_on.ensures.value) c.if-role-eq0.false c.channel-before.ensures c.if-before-channel.false c.ended.ensures
