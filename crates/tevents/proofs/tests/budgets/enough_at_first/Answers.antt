use Rattle.std.proofs.Common.{List, sym, subst, ◌∙◌}
use Rattle.te_terms.specs.declared.event.Parked.{Parked}
use Rattle.te_terms.specs.Joint.{IsGroup, as_group}
use Rattle.te_board.specs.Boards.{state_of}
use Rattle.tevents.proofs.ParkedRise.{parked_rise}
use Rattle.tevents.proofs.tests.budgets.enough_at_first.Goals as goal

pub enough-requires : goal.enough-requires
enough-requires c = subst (λ (ps : List Parked). IsGroup (as_group ps))
    (sym (c.as_slice.ensures ∙ c.in_ok-list.ensures.parked)) (parked_rise (state_of c.in_ok-run.run'.board))
