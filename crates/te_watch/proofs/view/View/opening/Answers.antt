use Rattle.te_history.specs.declared.status.Phase.TheVariants as phases
use Rattle.std.proofs.Common.{false}
use Rattle.te_watch.proofs.Shadowing.{opening-lights}
use Rattle.te_watch.proofs.view.View.opening.Goals as goal

pub returns-clause-shadow : goal.returns-clause-shadow
returns-clause-shadow c =
    λ i. record { front = 0; commits = 0; phase = phases.Running; resting = false; lights = opening-lights c.args.callers 64 c.requires i }
