use Rattle.std.proofs.Common.{◌≡◌, [], sym, ◌∙◌, subst, List}
use Rattle.te_terms.specs.declared.event.Parked.{Parked}
use Rattle.te_terms.specs.Joint.{IsGroup, as_group}
use Rattle.te_board.specs.Boards.{state_of}
use Rattle.te_runtime.specs.Calls.{board_of}
use Rattle.te_runtime.specs.Rounds.{HasPartedIn, IsStageOf}
use Rattle.te_runtime.proofs.ParkedLists.{parked_group}
use Rattle.te_runtime.proofs.TicketsHeld.{holds_called}
use Rattle.te_runtime.proofs.RoundsOfSync.{stage_acted, stage_stuck, stage_unfound, stage_unacted}
use Rattle.te_runtime.proofs.runtime.TeRuntime.search_after.Goals as goal

pub find_alone-requires-clause-rising : goal.find_alone-requires-clause-rising
find_alone-requires-clause-rising g c =
    subst (λ (l : List Parked). IsGroup (as_group l)) (sym (c.as_slice.ensures ∙ c.requires.seen.parked)) (parked_group (state_of (board_of c.args.pass.now)))

pub returns-in-Ok-act_after : goal.returns-in-Ok-act_after
returns-in-Ok-act_after g c = λ first called.
    subst (IsStageOf c.args.budget c.args.ticket first c.act_after.new.pass) (sym c.after_driven.ensures)
    (stage_acted c.args.budget c.args.ticket c.act_after.new.pass c.requires.whole c.requires.holds c.in-Ok-act_after.driven c.in-Ok-act_after.ensures.ok first called)

pub returns-in-Err-Stuck : goal.returns-in-Err-Stuck
returns-in-Err-Stuck g c =
    let refused = rw c.in-Err-Stuck.field-0-is at c.in-Err-Stuck.ensures.refused in
    stage_stuck c.args.budget c.args.ticket c.act_after.new.pass c.requires.whole c.requires.holds refused.0 refused.1

pub part_after-requires : goal.part_after-requires
part_after-requires g c =
    let d = c.in-Err-act_after.ensures.refused.0 in
    record {
      here = d.same.0 ∙ c.requires.here;
      idle = d.idle;
      whole = d.whole;
      holds = holds_called c.args.ticket [] c.requires.whole d tt c.requires.holds;
    }

pub returns-in-Err-act_after : goal.returns-in-Err-act_after
returns-in-Err-act_after g c =
    stage_unacted c.args.budget c.args.ticket c.part_after.new.pass c.requires.whole c.requires.holds c.act_after.new.pass c.part_after.result
    c.in-Err-act_after.ensures.refused.0 c.part_after.ensures

pub returns-in-Err : goal.returns-in-Err
returns-in-Err g c =
    stage_unfound c.args.budget c.args.ticket c.part_after-in-Err.new.pass c.requires.whole c.requires.holds c.args.snapshot.now _ c.in-Err.fault
    c.part_after-in-Err.result c.requires.seen c.as_slice.ensures c.requires.parks c.in-Err.ensures.refused
    (subst (λ reason. HasPartedIn c.args.pass.now c.part_after-in-Err.new.pass c.args.ticket reason c.part_after-in-Err.result) c.unfound-reason.ensures
    c.part_after-in-Err.ensures)
