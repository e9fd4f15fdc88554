use Rattle.te_forms.specs.Reading.{replaced_under, both_under}
use Rattle.te_forms.proofs.FormsRead.{no_parts, sends_at_first, receives_at_first, neither_at_first}
use Rattle.te_forms.proofs.reading.form_under.Goals as goal

pub returns-in_default : goal.returns-in_default
returns-in_default c = no_parts c.args.ring.now (replaced_under c.args.code.now c.args.regs.now 0 c.args.root) (c.in_default.ensures c.args.regs.now 0)

pub returns-in-Some-sent_at : goal.returns-in-Some-sent_at
returns-in-Some-sent_at c =
    sends_at_first c.args.ring.now (replaced_under c.args.code.now c.args.regs.now 0 c.args.root)
    (both_under c.args.code.now c.args.regs.now 0 (c.in-Some.first, c.in-Some.rest)) (c.in-Some.ensures c.args.regs.now 0)
    c.in-Some-sent_at.sent c.after_send.result (c.in-Some-sent_at.ensures 0) c.after_send.ensures

pub returns-in_default-received_at : goal.returns-in_default-received_at
returns-in_default-received_at c =
    neither_at_first c.args.ring.now (replaced_under c.args.code.now c.args.regs.now 0 c.args.root)
    (both_under c.args.code.now c.args.regs.now 0 (c.in-Some.first, c.in-Some.rest)) (c.in-Some.ensures c.args.regs.now 0)
    (c.in_default-sent_at.ensures 0) (c.in_default-received_at.ensures c.args.regs.now 0)

pub returns : goal.returns
returns c =
    receives_at_first c.args.ring.now (replaced_under c.args.code.now c.args.regs.now 0 c.args.root)
    (both_under c.args.code.now c.args.regs.now 0 (c.in-Some.first, c.in-Some.rest)) (c.in-Some.ensures c.args.regs.now 0)
    c.in-Some-received_at.channel c.after_receive.result (c.in_default-sent_at.ensures 0) (c.in-Some-received_at.ensures c.args.regs.now 0) c.after_receive.ensures
