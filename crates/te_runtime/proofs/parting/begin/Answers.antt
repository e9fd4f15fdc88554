use Rattle.te_runtime.specs.declared.fault.SyncFault.TheVariants as faults
use Rattle.te_runtime.proofs.parting.begin.Goals as goal

pub returns-then-is_resting-clause-looked : goal.returns-then-is_resting-clause-looked
returns-then-is_resting-clause-looked c = (faults.Resting, c.is_resting.ensures.declared c.if-is_resting.true, c.part.ensures.parted)
