use Rattle.te_terms.proofs.OneThing.{with_own_head, head_of_with, with_own, no_then, no_catch}
use Rattle.te_terms.proofs.laws.heads_are_replaced.Goals as goal

pub returns : goal.returns
returns c = record { own = with_own_head; other = head_of_with; whole = with_own; no_then = no_then; no_catch = no_catch }
