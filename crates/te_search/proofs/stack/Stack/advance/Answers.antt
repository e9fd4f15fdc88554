use Rattle.std.proofs.Common.{arith, ◌≡◌, ◌+◌, ◌∙◌, sym, length}
use Rattle.te_search.specs.declared.finding.SearchFault.TheVariants as faults
use Rattle.te_search.proofs.SearchEnds.{whole_used_up, spent_same}
use Rattle.te_search.proofs.stack.Stack.advance.Goals as goal

pub returns-then-left-eq0-clause-spent : goal.returns-then-left-eq0-clause-spent
returns-then-left-eq0-clause-spent c paths groups e =
    let sum : length c.args.self.now.work.store.paths + c.args.self.now.work.groups ≡ c.args.budget = omega (arith, c.left.ensures.left, c.if-left-eq0.true) in
    spent_same c.args.self.now.parked c.args.budget _ _ paths groups (let f : c.spent.result ≡ faults.Spent paths groups = cc in sym c.spent.ensures ∙ f)
    (whole_used_up c.args.self.now c.args.place c.args.budget c.requires.stack c.requires.left sum)
