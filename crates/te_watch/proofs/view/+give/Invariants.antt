use Rattle.std.proofs.Common.{length}
use Rattle.te_watch.proofs.view.+give.Given as goal

abbrev pub decreases-give : goal.decreases-give
decreases-give l = length l.members.now
