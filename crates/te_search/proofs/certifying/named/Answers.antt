use Rattle.te_search.proofs.PastsJoined.{unnamed}
use Rattle.te_search.proofs.certifying.named.Goals as goal

pub returns-in-None-clause-told : goal.returns-in-None-clause-told
returns-in-None-clause-told c = unnamed c.args.threads.now c.args.joined.now c.args.thread c.in-None.ensures
