use Rattle.te_runtime.specs.Refusals.{RefusesPoll}
use Rattle.te_tests_watch.proofs.PassesGrow.{polled_grows}
use Rattle.te_tests_watch.proofs.calls.poll.Goals as goal

pub returns-clause-grows : goal.returns-clause-grows
returns-clause-grows c = polled_grows c.args.pass.now c.poll.new.pass RefusesPoll c.poll.result c.poll.ensures.ok c.poll.ensures.refused
