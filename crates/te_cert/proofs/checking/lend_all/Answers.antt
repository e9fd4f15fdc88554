use Rattle.te_cert.proofs.EventsLent.{terms_more, lent_more}
use Rattle.te_cert.proofs.checking.lend_all.Goals as goal

pub loop-event-preserved : goal.loop-event-preserved
loop-event-preserved c = rw c.in-Ok-push.ensures.items (record {
  terms = terms_more c.loop-event.lents.items c.of.result c.args.events.now c.loop-event.event-index c.event-item.result c.loop-event-test.true
      c.event-item.is c.loop-event.invariant.terms c.of.ensures.term;
  lent = lent_more c.loop-event.lents.items c.of.result c.loop-event.invariant.lent c.of.ensures.lent;
})
