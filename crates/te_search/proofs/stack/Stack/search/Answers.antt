use Rattle.std.proofs.Common.{arith, subst}
use Rattle.te_terms.specs.Joint.{CanCommit}
use Rattle.te_search.specs.Findings.{IsUsedUp}
use Rattle.te_search.proofs.SearchEnds.{blocked}
use Rattle.te_search.proofs.stack.Stack.search.Goals as goal

pub returns-clause-blocked : goal.returns-clause-blocked
returns-clause-blocked c e = subst (λ p. ¬ CanCommit p) c.events.invariant.1 (blocked c.events.self c.events.invariant.0 c.in_default.ensures)

pub returns-in-Err-clause-enough : goal.returns-in-Err-clause-enough
returns-in-Err-clause-enough c h paths groups e =
    let u : IsUsedUp c.args.self.now.parked c.args.budget paths groups = subst (λ p. IsUsedUp p c.args.budget paths groups) c.events.invariant.1 (c.in-Err.ensures.spent paths groups e) in
    omega (arith, h, u.short)
