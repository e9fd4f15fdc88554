use Rattle.std.proofs.Common.{arith, ◌≤◌, length}
use Rattle.te_search.proofs.NumbersListed.{nowhere}
use Rattle.te_search.proofs.listed.ParkedList.place.Goals as goal

pub returns : goal.returns
returns c =
    let l : length c.args.self.now ≤ c.places.i = omega (arith, c.len-i-end.ensures, c.places-test.false) in
    λ h. nowhere c.args.self.now c.args.thread c.places.i l h c.places.invariant
