use Rattle.te_crew.proofs.BatchesOfNumbers.{is_in_batch, path_at}
use Rattle.te_crew.proofs.looking.compares_many.Goals as goal

pub ends_compared-requires : goal.ends_compared-requires
ends_compared-requires c =
    let s = c.args.search.now in
    let batch = c.args.batch.now in
    is_in_batch s batch c.paths.i _ c.requires.batch c.paths-test.true (path_at s batch c.paths.i 0 c.requires.batch c.paths-test.true)
