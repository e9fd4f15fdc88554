use Rattle.std.proofs.Common.{◌<◌, length, get_or, arith}
use Rattle.std.proofs.lemmas.Option.{slice_get-get_or}
use Rattle.te_cert.proofs.SeatsByPlace.{enters_there}
use Rattle.te_cert.proofs.group.Group.entrant.Goals as goal

pub returns-clause-is : goal.returns-clause-is
returns-clause-is c =
    let lent : c.args.i < length c.args.self.now.lents.now = omega (arith, c.requires.as_many, c.requires.within) in
    rw c.as_slice.ensures
    (enters_there c.args.self.now.members.now c.args.self.now.lents.now c.args.i (get_or c.args.self.now.members.now c.args.i c.index-self-i.result)
    (get_or c.args.self.now.lents.now c.args.i c.index-self-i-2.result)
    (slice_get-get_or c.args.self.now.members.now c.args.i c.index-self-i.result c.requires.within) (slice_get-get_or c.args.self.now.lents.now c.args.i c.index-self-i-2.result lent))

pub returns-clause-entering : goal.returns-clause-entering
returns-clause-entering c =
    let lent : c.args.i < length c.args.self.now.lents.now = omega (arith, c.requires.as_many, c.requires.within) in
    c.requires.lent c.args.i (get_or c.args.self.now.lents.now c.args.i c.index-self-i-2.result) (slice_get-get_or c.args.self.now.lents.now c.args.i c.index-self-i-2.result lent)
