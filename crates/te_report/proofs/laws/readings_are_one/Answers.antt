use Rattle.te_report.proofs.OneReading.{read_once, read_unrefused, one_fault}
use Rattle.te_report.proofs.laws.readings_are_one.Goals as goal

pub returns : goal.returns
returns c = record {
  read = λ script bytes history other ending last is a b. read_once script is bytes history other ending last a b;
  unrefused = λ script bytes history ending fault is read refused. read_unrefused script is bytes history ending fault read refused;
  one = λ script bytes a b is f g. one_fault script is bytes a b f g;
}
