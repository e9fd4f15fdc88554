use Rattle.te_terms.proofs.StepsLower.{quiet_lowers, choice_lowers, send_lowers, receive_lowers}
use Rattle.te_terms.proofs.laws.turns_end.Goals as goal

pub returns : goal.returns
returns c = record { quiet = quiet_lowers; choice = choice_lowers; send = send_lowers; receive = receive_lowers }
