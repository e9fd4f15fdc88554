use Rattle.std.proofs.Common.{◌∙◌, sym, subst, List}
use Rattle.std.proofs.lemmas.Result.{IfOk-weaker, IfErr-weaker}
use Rattle.te_terms.specs.declared.event.Parked.{Parked}
use Rattle.te_terms.specs.Joint.{IsGroup, as_group}
use Rattle.te_board.specs.Boards.{state_of}
use Rattle.te_runtime.specs.Refusals.{RefusesTurn, RefusesDrive}
use Rattle.te_runtime.specs.Calls.{Refused, RefusedOnce, board_of}
use Rattle.te_runtime.specs.Answers.{IsDriven}
use Rattle.te_runtime.specs.Acts.{IsActed}
use Rattle.te_runtime.proofs.Refusing.{refused_second}
use Rattle.te_runtime.proofs.ParkedLists.{parked_group}
use Rattle.te_runtime.proofs.DriveAnswers.{is_driven}
use Rattle.te_runtime.proofs.runtime.TeRuntime.drive.Goals as goal

pub search-requires-clause-rising : goal.search-requires-clause-rising
search-requires-clause-rising g c lives outlives =
    let seen = c.in_ok-snapshot.ensures.seen in
    subst (λ (l : List Parked). IsGroup (as_group l)) (sym (c.as_slice.ensures ∙ seen.parked)) (parked_group (state_of (board_of c.look_in.new.pass)))

pub returns-in-Ok-clause-ok : goal.returns-in-Ok-clause-ok
returns-in-Ok-clause-ok g c =
    let between = c.look_in.new.pass in
    let after = c.act_in.new.pass in
    IfOk-weaker
    c.act_in.result
    (IsActed between after)
    (IsDriven c.args.pass.now after)
    (λ driven acted. is_driven after driven c.in_ok-snapshot.ensures.called acted)
    c.act_in.ensures.ok

pub returns-in-Ok-clause-refused : goal.returns-in-Ok-clause-refused
returns-in-Ok-clause-refused g c =
    let before = c.args.pass.now in
    let between = c.look_in.new.pass in
    let after = c.act_in.new.pass in
    IfErr-weaker
    c.act_in.result
    (Refused (λ board by. RefusesTurn board) between after)
    (RefusedOnce (RefusesDrive c.args.budget) before after)
    (λ fault refused. refused_second c.args.budget before between after fault c.in_ok-snapshot.ensures.called refused)
    c.act_in.ensures.refused
