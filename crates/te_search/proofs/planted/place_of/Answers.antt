use Rattle.te_search.proofs.NumbersListed.{number_step}
use Rattle.te_search.proofs.planted.place_of.Goals as goal

pub threads-preserved : goal.threads-preserved
threads-preserved c = number_step c.args.threads.now c.threads.i c.args.thread 0 c.threads-test.true (λ e. absurd (c.if-threads-i.false e)) c.threads.invariant
