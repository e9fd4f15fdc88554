use Rattle.std.proofs.Common.{◌≡◌, take}
use Rattle.te_cert.specs.Lending.{lent_terms, AreLent}
use Rattle.te_cert.proofs.checking.lend_all.Given as goal

abbrev pub invariant-loop-event : goal.invariant-loop-event
invariant-loop-event l = record {
  terms : lent_terms l.lents.items ≡ take l.event-index l.events;
  lent : AreLent l.lents.items;
}
