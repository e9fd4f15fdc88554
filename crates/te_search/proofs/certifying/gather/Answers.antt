use Rattle.std.proofs.Common.{arith, ◌≡◌, ap, sym, subst, ◌∙◌, length, take, map}
use Rattle.te_trail.specs.Trails.{label_of}
use Rattle.te_trail.proofs.RecordsRead.{take_all}
use Rattle.te_search.specs.Picks.{AreGathered}
use Rattle.te_search.proofs.NumbersListed.{take_one}
use Rattle.te_search.proofs.certifying.gather.Goals as goal

pub parked-preserved : goal.parked-preserved
parked-preserved c = subst (λ l. AreGathered c.args.store.now.events c.args.store.now.paths c.args.threads.now c.args.joined.now
    (map label_of c.args.word.now) l c.take_in.new.gathered)
    (sym (take_one c.args.parked.now c.parked.i c.at.result.now c.at.ensures))
    (c.in_ok-take_in.ensures (take c.parked.i c.args.parked.now) c.parked.invariant)

pub returns : goal.returns
returns c =
    let end : c.parked.i ≡ length c.args.parked.now = omega (arith, c.parked.auto.i-end, c.parked-test.false) in
    subst (λ l. AreGathered c.args.store.now.events c.args.store.now.paths c.args.threads.now c.args.joined.now (map label_of c.args.word.now) l c.parked.gathered)
    (ap (λ n. take n c.args.parked.now) end ∙ take_all c.args.parked.now) c.parked.invariant
