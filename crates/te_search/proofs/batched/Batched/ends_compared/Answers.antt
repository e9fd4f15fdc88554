use Rattle.std.proofs.Common.{arith}
use Rattle.te_search.proofs.batched.Batched.ends_compared.Goals as goal

pub stop-requires : goal.stop-requires
stop-requires c = omega (arith, c.requires.path, c.requires.batched.opened.last)
