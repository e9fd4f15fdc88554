use Rattle.std.proofs.Common.{ap}
use Rattle.te_trail.proofs.Ancestors.{tidy, above_start, above_next, above_none, above_end}
use Rattle.te_trail.proofs.store.TrailStore.above.Goals as goal

pub loop-at-init : goal.loop-at-init
loop-at-init c = (c.requires.q_within, above_start c.args.self.now.paths c.args.p c.args.q)

pub loop-at-preserved : goal.loop-at-preserved
loop-at-preserved c = above_next c.args.self.now.paths (tidy _ _ _ c.self.invariant.kept.fit
    (ap (λ t. t.paths) c.self.view_is)) _ _ _ _ c.loop-at.invariant.0 c.loop-at.invariant.1 c.loop-at-test.true
    c.in-Some.ensures

pub returns-in-None : goal.returns-in-None
returns-in-None c = above_none c.args.self.now.paths (tidy _ _ _ c.self.invariant.kept.fit
    (ap (λ t. t.paths) c.self.view_is)) _ _ _ c.loop-at.invariant.0 c.loop-at.invariant.1 c.loop-at-test.true
    c.in-None.ensures

pub returns : goal.returns
returns c = above_end c.args.self.now.paths (tidy _ _ _ c.self.invariant.kept.fit (ap (λ t. t.paths) c.self.view_is)) _ _ _ c.loop-at.invariant.0 c.loop-at.invariant.1 c.loop-at-test.false
