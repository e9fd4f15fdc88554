use Rattle.std.proofs.Common.{◌≡◌, ◌+◌, ◌≤◌, suc, Some, None, subst, sym, ap, ◌∙◌, arith, add-one, refl}
use Rattle.te_script.specs.Cores.{FitsRound, IsAtSync, IsInRepeat, steps_behind, left_in, steps_behind_first}
use Rattle.te_script.proofs.StepsLeft.{on_outside, on_same_pass, on_next_pass, on_behind}
use Rattle.te_script.proofs.wish.next_in_round.Goals as goal

pub returns-in_default : goal.returns-in_default
returns-in_default c = λ ss h. rw c.in_default.is (on_outside c.args.spot.place ss (rw c.in_default.is at h.round))

pub returns-then-next-round : goal.returns-then-next-round
returns-then-next-round c = λ ss h. rw (c.in-Some.is, c.requires.next, add-one) (on_same_pass c.args.spot.place c.in-Some.round ss
    (rw c.in-Some.is at h.round) (rw (c.requires.next, add-one) at c.if-next-round.true))

pub returns-then-round : goal.returns-then-round
returns-then-round c = λ ss h.
    rw (c.in-Some.is, add-one) (on_next_pass c.args.spot.place c.in-Some.round ss (rw c.in-Some.is at h.round) (rw (c.requires.next, add-one) at c.if-next-round.false) (rw add-one at c.if-round.true))

pub returns : goal.returns
returns c = λ ss h.
    rw c.in-Some.is (on_behind c.args.spot.place c.in-Some.round ss (rw c.in-Some.is at h.round) (rw (c.requires.next, add-one) at c.if-next-round.false) (rw add-one at c.if-round.false))
