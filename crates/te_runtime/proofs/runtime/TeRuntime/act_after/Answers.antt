use Rattle.std.proofs.lemmas.Result.{IfOk-weaker}
use Rattle.te_runtime.specs.Refusals.{RefusesTurn}
use Rattle.te_runtime.specs.Acts.{Drives, IsActed}
use Rattle.te_runtime.proofs.Refusing.{refused_after_wait}
use Rattle.te_runtime.proofs.DriveAnswers.{is_acted}
use Rattle.te_runtime.proofs.runtime.TeRuntime.act_after.Goals as goal

pub returns-clause-ok : goal.returns-clause-ok
returns-clause-ok g c =
    let after = c.act-driven.new.board in
    let by = c.caller-by.result in
    let seen = c.args.snapshot.now in
    IfOk-weaker
    c.act-driven.result
    (Drives c.wait_in-board.result after by seen)
    (IsActed c.args.pass.now c.exit.new.pass)
    (λ driven drives. is_acted after by seen driven c.wait_in-board.ensures drives c.exit.ensures c.caller-by.ensures.caller c.requires.seen)
    c.act-driven.ensures.ok

pub returns-clause-refused : goal.returns-clause-refused
returns-clause-refused g c =
    refused_after_wait (λ board by. RefusesTurn board) c.act-driven.result c.act-driven.new.board c.caller-by.result c.wait_in-board.ensures c.exit.ensures
    c.caller-by.ensures.caller c.act-driven.ensures.same c.act-driven.ensures.cause
