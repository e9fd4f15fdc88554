use Rattle.std.proofs.Common.{◌≡◌, true, false, arith}
use Rattle.te_forms.proofs.RingsMade.{one_so_far, ring_made, ring_kept}
use Rattle.te_forms.proofs.ring.Ring.of.Goals as goal

pub loop-i-preserved : goal.loop-i-preserved
loop-i-preserved c =
    one_so_far c.args.channels.now c.loop-i.kept c.loop-i.i c.loop-i-test.true
    (omega (arith, c.loop-i-test.true, c.if-channels-gt-MOST_ROLES.false, c.loop-i.invariant.places)) c.if-channel-ge256.false
    (λ has. let no : false ≡ true = c.if-is_among.ensures.1 has in cc) c.loop-i.invariant

pub invariant_of-result : goal.invariant_of-result
invariant_of-result c =
    ring_kept c.args.channels.now c.loop-i.kept c.loop-i.i c.loop-i-test.false c.loop-i.auto.i-end c.if-channels-lt2.false c.if-channels-gt-MOST_ROLES.false c.loop-i.invariant

pub returns-clause-none : goal.returns-clause-none
returns-clause-none c = (
  λ e. absurd cc,
  λ no. absurd (no (ring_made c.args.channels.now c.loop-i.kept c.loop-i.i c.loop-i-test.false c.loop-i.auto.i-end c.if-channels-lt2.false
      c.if-channels-gt-MOST_ROLES.false c.loop-i.invariant)),
)
