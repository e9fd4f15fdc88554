use Rattle.std.proofs.Common.{ap, sym, subst, arith, ◌≡◌, Bool, true, false, not, List}
use Rattle.te_trail.specs.Paths.{Path}
use Rattle.te_trail.specs.Trails.{TellsWhether}
use Rattle.te_trail.specs.Walks.{FitAt}
use Rattle.te_trail.proofs.Ancestors.{AreTidy, tidy, fits_same, fits_under, fits_own, fits_over, fits_other}
use Rattle.te_trail.proofs.store.TrailStore.fits.Goals as goal

flipped : (b : Bool) → b ≡ true → false ≡ not b
flipped true e = cc
flipped false e = cc

pub returns-then-p-q : goal.returns-then-p-q
returns-then-p-q c = fits_same c.args.self.now.paths c.args.p c.args.q c.args.own c.args.other c.if-p-q.true

pub returns-then-not-own : goal.returns-then-not-own
returns-then-not-own c = fits_under c.args.self.now.paths (tidy _ _ _ c.self.invariant.kept.fit
    (ap (λ t. t.paths) c.self.view_is)) c.args.p c.args.q c.args.own c.args.other c.above.result c.if-p-q-2.true
    c.if-not-own.true c.above.ensures

pub returns-else-not-own : goal.returns-else-not-own
returns-else-not-own c = subst (TellsWhether c.args.self.now.paths c.args.p c.args.q (FitAt c.args.own c.args.other))
    (flipped c.args.own c.if-not-own.false) (fits_own c.args.self.now.paths
    (tidy _ _ _ c.self.invariant.kept.fit (ap (λ t. t.paths) c.self.view_is)) c.args.p c.args.q c.args.own c.args.other
    c.if-p-q-2.true c.if-not-own.false)

pub returns-then-not-other : goal.returns-then-not-other
returns-then-not-other c = fits_over c.args.self.now.paths (tidy _ _ _ c.self.invariant.kept.fit
    (ap (λ t. t.paths) c.self.view_is)) c.args.p c.args.q c.args.own c.args.other c.above-then-not-other.result
    (omega (arith, c.if-p-q.false, c.if-p-q-2.false)) c.if-not-other.true c.above-then-not-other.ensures

pub returns-else-not-other : goal.returns-else-not-other
returns-else-not-other c = subst (TellsWhether c.args.self.now.paths c.args.p c.args.q (FitAt c.args.own c.args.other))
    (flipped c.args.other c.if-not-other.false) (fits_other c.args.self.now.paths
    (tidy _ _ _ c.self.invariant.kept.fit (ap (λ t. t.paths) c.self.view_is)) c.args.p c.args.q c.args.own c.args.other
    (omega (arith, c.if-p-q.false, c.if-p-q-2.false)) c.if-not-other.false)
