use Rattle.std.proofs.Common.{arith, ◌≡◌, ◌≤◌, ◌∙◌, ap, sym, subst, length, Some, Err}
use Rattle.te_terms.specs.Joint.{IsGroup, as_group}
use Rattle.te_search.specs.declared.finding.SearchFault.TheVariants as faults
use Rattle.te_search.specs.Findings.{IsUsedUp}
use Rattle.te_search.specs.Works.{IsHit}
use Rattle.te_search.specs.Batches.{IsLook}
use Rattle.te_search.specs.Batching.{BatchStepsTo, batches_of}
use Rattle.te_search.proofs.SearchEnds.{spent_same}
use Rattle.te_search.proofs.BatchSteps.{few_of, done, spent_told, hit_told, among_told}
use Rattle.te_search.proofs.batched.Batched.apply.Goals as goal

pub step-requires-clause-some : goal.step-requires-clause-some
step-requires-clause-some c = omega (arith, c.requires.lowest, c.requires.some)

pub step-requires-clause-look : goal.step-requires-clause-look
step-requires-clause-look c = subst
    (λ q. IsLook (batches_of (Some c.args.self.now)) q c.args.look.now) c.requires.lowest c.requires.look

pub overflow_add-next : goal.overflow_add-next
overflow_add-next c = (let few : length c.args.self.now.work.store.paths ≤ 1000000 = few_of c.args.self.now
    c.requires.batched in omega (arith, c.requires.some, c.requires.batched.opened.last, few))

pub returns-in-Ok-None-clause-applied : goal.returns-in-Ok-None-clause-applied
returns-in-Ok-None-clause-applied c e =
    let steps = subst (BatchStepsTo c.args.self.now c.args.look.now c.step.new.self) c.in-Ok-None.field-0-is
    c.in-Ok-None.ensures.ok in
    let d = done c.args.self.now c.step.new.self c.args.p c.args.look.now c.clear.new.self c.requires.lowest
    c.requires.some c.requires.batched c.step.ensures.stays steps c.clear.ensures.items in
    d.applied

pub returns-in-Ok-None-clause-batched : goal.returns-in-Ok-None-clause-batched
returns-in-Ok-None-clause-batched c e =
    let steps = subst (BatchStepsTo c.args.self.now c.args.look.now c.step.new.self) c.in-Ok-None.field-0-is
    c.in-Ok-None.ensures.ok in
    let d = done c.args.self.now c.step.new.self c.args.p c.args.look.now c.clear.new.self c.requires.lowest
    c.requires.some c.requires.batched c.step.ensures.stays steps c.clear.ensures.items in
    d.batched

pub returns-in-Ok-None-clause-looks : goal.returns-in-Ok-None-clause-looks
returns-in-Ok-None-clause-looks c e =
    let steps = subst (BatchStepsTo c.args.self.now c.args.look.now c.step.new.self) c.in-Ok-None.field-0-is
    c.in-Ok-None.ensures.ok in
    let d = done c.args.self.now c.step.new.self c.args.p c.args.look.now c.clear.new.self c.requires.lowest
    c.requires.some c.requires.batched c.step.ensures.stays steps c.clear.ensures.items in
    d.looks

pub returns-in-Ok-None-clause-none : goal.returns-in-Ok-None-clause-none
returns-in-Ok-None-clause-none c e =
    let steps = subst (BatchStepsTo c.args.self.now c.args.look.now c.step.new.self) c.in-Ok-None.field-0-is
    c.in-Ok-None.ensures.ok in
    let d = done c.args.self.now c.step.new.self c.args.p c.args.look.now c.clear.new.self c.requires.lowest
    c.requires.some c.requires.batched c.step.ensures.stays steps c.clear.ensures.items in
    d.none

pub certify-requires-clause-hit : goal.certify-requires-clause-hit
certify-requires-clause-hit c = subst (IsHit c.step.new.self.work c.step.new.self.threads) (sym c.deref.ensures.value)
    (hit_told c.args.self.now c.step.new.self _ c.step.ensures.stays
    (subst (BatchStepsTo c.args.self.now c.args.look.now c.step.new.self) c.in-Ok-Some.field-0-is
    c.in-Ok-Some.ensures.ok))

pub certify-requires-clause-among : goal.certify-requires-clause-among
certify-requires-clause-among c = among_told c.args.self.now c.step.new.self _ c.requires.batched c.step.ensures.stays
    (subst (BatchStepsTo c.args.self.now c.args.look.now c.step.new.self) c.in-Ok-Some.field-0-is c.in-Ok-Some.ensures.ok)

pub certify-requires-clause-rise : goal.certify-requires-clause-rise
certify-requires-clause-rise c = subst (λ p. IsGroup (as_group p))
    (sym c.step.ensures.stays.parked) c.requires.batched.rise

pub returns-in-Err-Spent-clause-spent : goal.returns-in-Err-Spent-clause-spent
returns-in-Err-Spent-clause-spent c paths groups e =
    spent_same c.args.self.now.parked c.args.self.now.budget _ _ paths groups
    (let f : c.spent.result ≡ faults.Spent paths groups = cc in sym c.spent.ensures ∙ f)
    (spent_told c.args.self.now c.step.new.self c.requires.batched
    (c.in-Err-Spent.ensures.spent (ap Err c.in-Err-Spent.field-0-is)))

pub returns-in-Err-Spent-clause-enough : goal.returns-in-Err-Spent-clause-enough
returns-in-Err-Spent-clause-enough c h paths groups e =
    let u : IsUsedUp c.args.self.now.parked c.args.self.now.budget _ _ = spent_told c.args.self.now c.step.new.self
    c.requires.batched (c.in-Err-Spent.ensures.spent (ap Err c.in-Err-Spent.field-0-is)) in
    omega (arith, h, u.short)
