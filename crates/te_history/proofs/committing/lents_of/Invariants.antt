use Rattle.std.proofs.Common.{take}
use Rattle.te_cert.specs.Lending.{lent_terms, AreLent}
use Rattle.te_history.specs.Histories.{now}
use Rattle.te_history.specs.Refusals.{AreParked}
use Rattle.te_history.proofs.committing.lents_of.Given as goal

abbrev pub invariant-loop-i : goal.invariant-loop-i
invariant-loop-i l = record {
  parked : AreParked (now l.hist) (take l.i l.members) (lent_terms l.lents.items);
  lent : AreLent l.lents.items;
}
