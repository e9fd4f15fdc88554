use Rattle.std.proofs.Common.{arith, ◌≡◌, ◌∙◌, ap, sym, subst, subst₂, length}
use Rattle.te_search.specs.declared.finding.SearchFault.TheVariants as faults
use Rattle.te_search.specs.Findings.{IsUsedUp}
use Rattle.te_search.specs.Works.{IsWithinBudget}
use Rattle.te_search.specs.Batching.{IsStarting}
use Rattle.te_search.proofs.SearchEnds.{spent_same}
use Rattle.te_search.proofs.BatchesTaken.{start_spent, started, is_start}
use Rattle.te_search.proofs.batched.Batched.start.Goals as goal

pub left-requires : goal.left-requires
left-requires c = subst (IsWithinBudget c.events.batched.work) c.events.invariant.2 c.events.invariant.0.within

pub plant-requires-clause-place : goal.plant-requires-clause-place
plant-requires-clause-place c = omega (arith, ap length c.events.invariant.1, c.events-test.true)

pub plant-requires-clause-room : goal.plant-requires-clause-room
plant-requires-clause-room c = omega (arith, c.events.invariant.2, c.left.ensures.left, c.if-left-eq0.false)

pub returns-then-left-eq0-clause-spent : goal.returns-then-left-eq0-clause-spent
returns-then-left-eq0-clause-spent c paths groups e =
    let i = c.events.invariant in
    spent_same c.args.parked.now c.args.budget _ _ paths groups
    (let f : c.spent.result ≡ faults.Spent paths groups = cc in sym c.spent.ensures ∙ f)
    (subst₂ (λ p b. IsUsedUp p b (length c.events.batched.work.store.paths) c.events.batched.work.groups) i.1 i.2
    (start_spent c.events.batched c.events.i i.0 (omega (arith, ap length i.1, c.events-test.true))
    (omega (arith, i.2, c.left.ensures.left, c.if-left-eq0.true))))

pub returns-then-left-eq0-clause-enough : goal.returns-then-left-eq0-clause-enough
returns-then-left-eq0-clause-enough c h paths groups e =
    let i = c.events.invariant in
    let u : IsUsedUp c.args.parked.now c.args.budget
    (length c.events.batched.work.store.paths) c.events.batched.work.groups = subst₂
    (λ p b. IsUsedUp p b (length c.events.batched.work.store.paths) c.events.batched.work.groups) i.1 i.2
    (start_spent c.events.batched c.events.i i.0 (omega (arith, ap length i.1, c.events-test.true))
    (omega (arith, i.2, c.left.ensures.left, c.if-left-eq0.true))) in
    omega (arith, h, u.short)

pub returns-clause-ok : goal.returns-clause-ok
returns-clause-ok c =
    let end : c.events.i ≡ length c.args.parked.now = omega (arith, c.events.auto.i-end, c.events-test.false) in
    is_start c.events.batched c.args.parked.now c.args.budget c.events.invariant.1 c.events.invariant.2
    (subst (IsStarting c.events.batched) end c.events.invariant.0)

pub returns-clause-batched : goal.returns-clause-batched
returns-clause-batched c =
    let end : c.events.i ≡ length c.args.parked.now = omega (arith, c.events.auto.i-end, c.events-test.false) in
    started c.events.batched (subst (IsStarting c.events.batched)
    (end ∙ sym (ap length c.events.invariant.1)) c.events.invariant.0)
