use Rattle.std.proofs.Common.{arith, ◌≡◌, ◌∙◌, ap, length, take, ltb}
use Rattle.std.specs.List.{filter}
use Rattle.te_terms.proofs.Lists.{get_at}
use Rattle.te_trail.proofs.RecordsRead.{take_all}
use Rattle.te_search.proofs.EndsKept.{lower_more, lower_pass}
use Rattle.te_search.proofs.batched.lower.Goals as goal

pub found-preserved-then-q-p : goal.found-preserved-then-q-p
found-preserved-then-q-p c = lower_pass c.args.p c.args.found.now c.found.lower c.found.i _
    (get_at c.args.found.now c.found.i 0 c.found-test.true) c.found.invariant (λ l. omega (arith, c.if-q-p.true, l))

pub found-preserved : goal.found-preserved
found-preserved c = lower_more c.args.p c.args.found.now c.found.lower c.push.new.self c.found.i _
    (get_at c.args.found.now c.found.i 0 c.found-test.true) c.found.invariant c.if-q-p.false c.in_ok-push.ensures.ok

pub returns : goal.returns
returns c =
    let end : c.found.i ≡ length c.args.found.now = omega (arith, c.found.auto.i-end, c.found-test.false) in
    c.found.invariant ∙ ap (λ n. filter (λ q. ltb q c.args.p) (take n c.args.found.now)) end
    ∙ ap (filter (λ q. ltb q c.args.p)) (take_all c.args.found.now)
