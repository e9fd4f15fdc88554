use Rattle.te_reader.proofs.FaultIsTold.{text_is_faultless, text_or_fault, one_fault}
use Rattle.te_reader.proofs.laws.texts_are_decided.Goals as goal

pub returns : goal.returns
returns c = record {
  either = text_or_fault;
  apart = text_is_faultless;
  one = one_fault;
}
