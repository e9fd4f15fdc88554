use Rattle.std.proofs.lemmas.Result.{IfOk-weaker}
use Rattle.te_runtime.specs.Refusals.{RefusesTurn}
use Rattle.te_runtime.specs.Acts.{Drives, IsActed}
use Rattle.te_runtime.proofs.Refusing.{refused_call}
use Rattle.te_runtime.proofs.DriveAnswers.{is_acted}
use Rattle.te_runtime.proofs.runtime.TeRuntime.act_in.Goals as goal

pub returns-clause-ok : goal.returns-clause-ok
returns-clause-ok c =
    let after = c.act-driven.new.board in
    let by = c.caller-by.result in
    let seen = c.args.snapshot.now in
    IfOk-weaker
    c.act-driven.result
    (Drives c.in_ok-board.board after by seen)
    (IsActed c.args.pass.now c.exit.new.pass)
    (λ driven drives. is_acted after by seen driven c.in_ok-board.ensures.ok drives c.exit.ensures c.caller-by.ensures.caller c.requires.seen)
    c.act-driven.ensures.ok

pub returns-clause-refused : goal.returns-clause-refused
returns-clause-refused c =
    refused_call (λ board by. RefusesTurn board) (λ b by word is. is) c.act-driven.result c.act-driven.new.board c.caller-by.result
    c.in_ok-board.ensures.ok c.exit.ensures
    c.caller-by.ensures.caller c.act-driven.ensures.same c.act-driven.ensures.cause
