use Rattle.te_runtime.specs.Refusals.{RefusesDrive}
use Rattle.te_tests_watch.proofs.PassesGrow.{driven_grows}
use Rattle.te_tests_watch.proofs.calls.drive.Goals as goal

pub returns-clause-grows : goal.returns-clause-grows
returns-clause-grows g c = driven_grows c.args.pass.now c.drive.new.pass (RefusesDrive 100000) c.drive.result c.drive.ensures.ok c.drive.ensures.refused
