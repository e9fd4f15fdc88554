use Rattle.te_terms.proofs.Settles.{settled_is_reached, settled_is_settled, settled_is_one, settled_after, settled_thread, settled_ticket}
use Rattle.te_terms.proofs.laws.members_settle.Goals as goal

pub returns : goal.returns
returns c = record {
  reached = settled_is_reached;
  done = settled_is_settled;
  one = settled_is_one;
  after = settled_after;
  thread = settled_thread;
  ticket = settled_ticket;
}
