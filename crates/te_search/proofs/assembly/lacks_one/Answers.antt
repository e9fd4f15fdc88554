use Rattle.te_trail.proofs.PastsTold.{clock_low}
use Rattle.te_search.proofs.EndsAlone.{lacks_here}
use Rattle.te_search.proofs.assembly.lacks_one.Goals as goal

pub is_final-requires : goal.is_final-requires
is_final-requires c = clock_low c.args.store.now.paths c.args.p _ c.in-Some.q c.requires.path c.in-Some.ensures

pub returns-then-not-is_final : goal.returns-then-not-is_final
returns-then-not-is_final c on = lacks_here c.args.store.now.events c.args.store.now.paths c.args.finals.now c.args.p c.in-Some.q _ c.is_final.result c.requires.low c.requires.told
    c.in-Some.ensures c.is_final.ensures c.if-not-is_final.true (c.lacks.ensures on)
