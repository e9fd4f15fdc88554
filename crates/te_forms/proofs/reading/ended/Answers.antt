use Rattle.te_forms.specs.Reading.{replaced_under}
use Rattle.te_forms.proofs.FormsRead.{ends_with_name, ends_otherwise}
use Rattle.te_forms.proofs.reading.ended.Goals as goal

pub returns-then-is_name : goal.returns-then-is_name
returns-then-is_name c =
    ends_with_name c.args.role c.args.value.now (replaced_under c.args.code.now c.args.regs.now 2 c.args.end) (c.if-is_name.ensures c.args.regs.now 2)

pub returns : goal.returns
returns c =
    ends_otherwise c.args.role c.args.value.now (replaced_under c.args.code.now c.args.regs.now 2 c.args.end) c.is_end-ends.result c.when.result
    (c.if-is_name.ensures c.args.regs.now 2) (c.is_end-ends.ensures 2) c.when.ensures
