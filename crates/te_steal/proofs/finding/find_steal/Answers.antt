use Rattle.std.proofs.Common.{◌≡◌, Err, List, ap, subst}
use Rattle.te_terms.specs.declared.event.Parked.{Parked}
use Rattle.te_search.specs.Findings.{IsUsedUp}
use Rattle.te_search.specs.declared.finding.SearchFault.TheVariants as faults
use Rattle.te_steal.proofs.finding.find_steal.Goals as goal

pub returns-in-Err-advance-clause-spent : goal.returns-in-Err-advance-clause-spent
returns-in-Err-advance-clause-spent g c paths groups e =
    let fault : c.in-Err-advance.fault ≡ faults.Spent paths groups = cc in
    subst (λ (parked : List Parked). IsUsedUp parked c.args.budget paths groups) c.batches.invariant.1
    (subst (λ budget. IsUsedUp c.batches.search.parked budget paths groups) c.batches.invariant.2
    (c.in-Err-advance.ensures.spent paths groups (ap Err fault)))
