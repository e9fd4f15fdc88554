use Rattle.te_terms.proofs.OneThing.{end_is_alone, choice_rests, send_is_alone, receive_is_alone, never_is_alone}
use Rattle.te_terms.proofs.laws.members_do_one_thing.Goals as goal

pub returns : goal.returns
returns c = record {
  end = λ m o p. let is = end_is_alone m m.term o p in (is.0, is.1, is.2, is.3);
  choice = λ m left t p. let is = choice_rests m left m.term t p in (is.0.0, is.0.1, is.1, is.2);
  send = λ m s p. let is = send_is_alone m m.term s p in (is.0.0, is.0.1, is.1, is.2);
  receive = λ m channel p. let is = receive_is_alone m m.term channel p in (is.0.0, is.0.1, is.1, is.2);
  never = λ m p. let is = never_is_alone m m.term p in (is.0.0, is.0.1, is.1, is.2, is.3);
}
