use Rattle.std.proofs.Common.{◌≡◌, List, ℕ, sym, subst, Result}
use Rattle.std.specs.Prelude.{IfOk}
use Rattle.te_script.specs.Scripts.{Program}
use Rattle.tevents.specs.declared.task.Task.{Task}
use Rattle.tevents.specs.declared.task.Task.TheVariants as tasks
use Rattle.tevents.specs.Runs.{Way, in_rounds}
use Rattle.tevents.specs.Causes.{Tells}
use Rattle.tevents.proofs.answering.tell.Goals as goal

-- what the task at hand tells
told_so : {W E : Type 0} (way : Way) (text : W → List ℕ) (status : W → ℕ) (r : Result W E) (task other : Task) (lower : List ℕ)
    (script : Program) → task ≡ other → IfOk r (λ told. Tells way other lower script (text told) (status told))
    → IfOk r (λ told. Tells way task lower script (text told) (status told))
told_so way text status r task other lower script is h =
    subst (λ (t : Task). IfOk r (λ told. Tells way t lower script (text told) (status told))) (sym is) h

pub returns-in-Run : goal.returns-in-Run
returns-in-Run c = told_so in_rounds (λ told. told.text) (λ told. told.status) c.run_and_report.result c.args.task
    (tasks.Run c.in-Run.budget) c.args.lower.now c.args.script.now c.in-Run.is c.run_and_report.ensures

pub returns-in-Print : goal.returns-in-Print
returns-in-Print c = told_so in_rounds (λ told. told.text) (λ told. told.status) c.print.result c.args.task
    tasks.Print c.args.lower.now c.args.script.now c.in-Print.is c.print.ensures

pub returns-in-Check : goal.returns-in-Check
returns-in-Check c = told_so in_rounds (λ told. told.text) (λ told. told.status) c.check.result c.args.task
    (tasks.Check c.in-Check.budget) c.args.lower.now c.args.script.now c.in-Check.is c.check.ensures

pub returns-in-Lift : goal.returns-in-Lift
returns-in-Lift c = told_so in_rounds (λ told. told.text) (λ told. told.status) c.lift.result c.args.task
    tasks.Lift c.args.lower.now c.args.script.now c.in-Lift.is c.lift.ensures
