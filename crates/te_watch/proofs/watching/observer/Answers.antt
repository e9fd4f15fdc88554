use Rattle.te_watch.proofs.OneName.{admits, forks, merges}
use Rattle.te_watch.proofs.watching.observer.Goals as goal

pub reader-requires : goal.reader-requires
reader-requires c = admits

pub tell-name-requires : goal.tell-name-requires
tell-name-requires c = forks _ _

pub learn-requires-clause-rule : goal.learn-requires-clause-rule
learn-requires-clause-rule c = merges _ _ _ _
