use Rattle.std.proofs.Common.{◌<◌, ◌≤◌, length, refl, sym, arith}
use Rattle.te_forms.specs.Privacy.{AtomAvoids}
use Rattle.te_forms.proofs.NamesTold.{one_more_holds, all_hold, one_fails, not_past}
use Rattle.te_forms.proofs.naming.value_avoids.Goals as goal

pub returns-in_default : goal.returns-in_default
returns-in_default c =
    let lt : c.loop-d.d < length c.args.value.now = omega (arith, c.loop-d-test.true, c.len-d-end.ensures.value) in
    absurd (not_past c.args.value.now c.loop-d.d lt c.in_default.ensures)

pub returns-then-not-atom_avoids : goal.returns-then-not-atom_avoids
returns-then-not-atom_avoids c =
    one_fails (AtomAvoids c.args.ring.now) c.args.value.now c.loop-d.d c.in-Some.atom (sym c.in-Some.ensures) c.if-not-atom_avoids.ensures

pub loop-d-preserved : goal.loop-d-preserved
loop-d-preserved c =
    one_more_holds (AtomAvoids c.args.ring.now) c.args.value.now c.loop-d.d c.in-Some.atom (sym c.in-Some.ensures) c.loop-d.invariant
    (c.if-not-atom_avoids.ensures.0 refl)

pub returns : goal.returns
returns c =
    let past : length c.args.value.now ≤ c.loop-d.d = omega (arith, c.loop-d-test.false, c.len-d-end.ensures.value) in
    (λ yes. all_hold (AtomAvoids c.args.ring.now) c.args.value.now c.loop-d.d past c.loop-d.invariant, λ all. refl)
