use Rattle.std.proofs.Common.{arith}
use Rattle.te_lock.proofs.Releasing.{releases}
use Rattle.te_lock.proofs.steps.release.Goals as goal

pub swap-requires : goal.swap-requires
swap-requires g c =
    let r = c.requires.ready in
    (c.requires.here.0, omega arith, releases _ _ _ _ _ _ _ _ r.caller r.role r.alone c.requires.held r.value r.slot r.number r.law r.goes _ r.twice)
