use Rattle.std.proofs.Common.{◌≤◌, length, refl, arith}
use Rattle.te_forms.proofs.NamesTold.{fit_next, all_fit, one_unfit}
use Rattle.te_forms.proofs.privacy.is_private.Goals as goal

pub returns-then-not-entry_fits : goal.returns-then-not-entry_fits
returns-then-not-entry_fits c =
    one_unfit c.args.ring.now c.args.hist.now.entries c.loop-i.i c.entry_at.result.now c.entry_at.ensures c.if-not-entry_fits.ensures

pub loop-i-preserved : goal.loop-i-preserved
loop-i-preserved c =
    fit_next c.args.ring.now c.args.hist.now.entries c.loop-i.i c.entry_at.result.now c.entry_at.ensures (c.if-not-entry_fits.ensures.0 refl) c.loop-i.invariant

pub returns : goal.returns
returns c =
    let past : length c.args.hist.now.entries ≤ c.loop-i.i = let ends = c.loop-i-test.false in omega (arith, ends, c.len-i-end.ensures.value) in
    (λ yes. all_fit c.args.ring.now c.args.hist.now.entries c.loop-i.i past c.loop-i.invariant, λ all. refl)
