use Rattle.te_forms.proofs.FormsRead.{then_parts}
use Rattle.te_forms.proofs.reading.parts_of.Goals as goal

pub returns-in-Some-Then : goal.returns-in-Some-Then
returns-in-Some-Then c =
    then_parts c.args.code.now c.args.i c.in-Some-Then.a c.in-Some-Then.b c.in-Some-Then.ensures.forest (rw c.in-Some-Then.field-0-is at c.in-Some-Then.ensures.value)
