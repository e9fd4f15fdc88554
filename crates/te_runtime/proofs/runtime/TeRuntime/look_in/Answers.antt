use Rattle.std.proofs.Common.{◌≡◌, [], refl, length}
use Rattle.std.proofs.lemmas.Result.{IfOk-weaker, IfErr-weaker}
use Rattle.te_runtime.specs.Refusals.{RefusesTurn}
use Rattle.te_runtime.specs.Calls.{Called, Refused}
use Rattle.te_runtime.proofs.Calling.{called_same}
use Rattle.te_runtime.proofs.Refusing.{refused}
use Rattle.te_runtime.proofs.runtime.TeRuntime.look_in.Goals as goal

pub returns-clause-called : goal.returns-clause-called
returns-clause-called c =
    IfOk-weaker
    c.look-snapshot.result
    (λ seen. seen.front ≡ length c.in_ok-board.board.entries)
    (λ seen. Called c.args.pass.now c.exit.new.pass [])
    (λ seen is. called_same c.in_ok-board.ensures.ok refl c.exit.ensures)
    c.look-snapshot.ensures.front

pub returns-clause-refused : goal.returns-clause-refused
returns-clause-refused c =
    IfErr-weaker
    c.look-snapshot.result
    (RefusesTurn c.in_ok-board.board)
    (Refused (λ board by. RefusesTurn board) c.args.pass.now c.exit.new.pass)
    (λ fault cause. refused (λ board by. RefusesTurn board) (λ b by word is. is) c.args.pass.now.caller fault c.in_ok-board.ensures.ok refl
    c.exit.ensures refl cause)
    c.look-snapshot.ensures.cause
