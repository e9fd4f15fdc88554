use Rattle.std.proofs.Common.{subst}
use Rattle.std.proofs.lemmas.Option.{get_or_from_slice_get}
use Rattle.te_search.specs.Batches.{IsLook}
use Rattle.te_crew.proofs.BatchesOfNumbers.{is_in_batch, path_at}
use Rattle.te_crew.proofs.looking.look_at.Goals as goal

pub look-requires : goal.look-requires
look-requires c =
    let s = c.args.search.now in
    let batch = c.args.batch.now in
    let at = path_at s batch c.args.i 0 c.requires.batch c.requires.place in
    is_in_batch s batch c.args.i _ c.requires.batch c.requires.place at

pub returns-in-Ok : goal.returns-in-Ok
returns-in-Ok c = λ p got.
    subst (λ q. IsLook c.args.search.now q c.in-Ok.look) (get_or_from_slice_get c.args.batch.now c.args.i p 0 got)
    c.in-Ok.ensures
