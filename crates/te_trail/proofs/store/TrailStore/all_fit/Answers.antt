use Rattle.std.proofs.Common.{ap, arith, ◌≡◌, ◌≤◌, ◌∙◌, sym, inl, inr, rules, refl, get_or}
use Rattle.te_trail.specs.Walks.{FittingFor}
use Rattle.te_trail.proofs.ClocksWalk.{walk_low, walk_high, walk_both, walk_end, tick_low, misfit, fitting}
use Rattle.te_trail.proofs.store.TrailStore.all_fit.Goals as goal

pub walk-preserved-then-x-y : goal.walk-preserved-then-x-y
walk-preserved-then-x-y c = walk_low (FittingFor c.args.self.now.paths c.args.s c.args.r) c.args.firsts.now
    c.args.seconds.now c.walk.i c.walk.j _ c.requires.seconds_rise c.walk-test.true c.if-j-seconds.true c.if-x-y.true
    c.walk.invariant

pub walk-preserved-then-y-x : goal.walk-preserved-then-y-x
walk-preserved-then-y-x c = walk_high (FittingFor c.args.self.now.paths c.args.s c.args.r) c.args.firsts.now
    c.args.seconds.now c.walk.i c.walk.j _ c.requires.firsts_rise c.walk-test.true c.if-j-seconds.true c.if-y-x.true
    c.walk.invariant

pub fits-requires-clause-p_within : goal.fits-requires-clause-p_within
fits-requires-clause-p_within c = tick_low c.args.self.now.paths c.args.firsts.now c.walk.i _ c.requires.firsts_rise c.requires.firsts_low c.walk-test.true

pub fits-requires-clause-q_within : goal.fits-requires-clause-q_within
fits-requires-clause-q_within c = tick_low c.args.self.now.paths c.args.seconds.now c.walk.j _ c.requires.seconds_rise c.requires.seconds_low c.if-j-seconds.true

pub returns-then-not-fits : goal.returns-then-not-fits
returns-then-not-fits c = misfit c.args.self.now.paths c.args.s c.args.r c.args.firsts.now c.args.seconds.now c.walk.i
    c.walk.j _ c.requires.firsts_rise c.requires.seconds_rise c.walk-test.true c.if-j-seconds.true
    (omega (arith, c.if-x-y.false, c.if-y-x.false)) _ _ c.fits.result refl refl c.if-not-fits.true c.fits.ensures

pub walk-preserved : goal.walk-preserved
walk-preserved c = walk_both (FittingFor c.args.self.now.paths c.args.s c.args.r) c.args.firsts.now c.args.seconds.now
    c.walk.i c.walk.j (record { thread = 0; path = 0 }) c.walk-test.true c.if-j-seconds.true
    (omega (arith, c.if-x-y.false, c.if-y-x.false)) (fitting c.args.self.now.paths c.args.s c.args.r
    (get_or c.args.firsts.now c.walk.i (record { thread = 0; path = 0 }))
    (get_or c.args.seconds.now c.walk.j (record { thread = 0; path = 0 })) _ _ c.fits.result refl refl
    c.if-not-fits.false c.fits.ensures) c.walk.invariant

pub returns-else-j-seconds : goal.returns-else-j-seconds
returns-else-j-seconds c = walk_end (FittingFor c.args.self.now.paths c.args.s c.args.r) c.args.firsts.now c.args.seconds.now c.walk.i c.walk.j c.walk.invariant (inr c.if-j-seconds.false)

pub returns-after-walk : goal.returns-after-walk
returns-after-walk c = walk_end (FittingFor c.args.self.now.paths c.args.s c.args.r) c.args.firsts.now c.args.seconds.now c.walk.i c.walk.j c.walk.invariant (inl c.walk-test.false)
