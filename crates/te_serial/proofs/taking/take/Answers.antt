use Rattle.std.proofs.Common.{refl, arith}
use Rattle.std.proofs.lemmas.Option.{slice_get_read}
use Rattle.te_history.specs.State.{given}
use Rattle.te_serial.proofs.BoardStates.{caller_within}
use Rattle.te_serial.proofs.TakesSoFar.{core_waits, core_of_given, taken_continues}
use Rattle.te_serial.proofs.taking.take.Goals as goal

pub take_outcome-outcome-requires-clause-caller : goal.take_outcome-outcome-requires-clause-caller
take_outcome-outcome-requires-clause-caller c = caller_within c.args.board.now c.args.t (given c.requires.given.0 c.requires.given.1) c.requires.given.2

pub index_mut-core-requires : goal.index_mut-core-requires
index_mut-core-requires c = omega (arith, core_of_given c.args.board.now c.args.cores.now.items c.args.t c.requires.house c.requires.given, c.args.cores.now.ok.0)

pub give-requires : goal.give-requires
give-requires c =
    let within = core_of_given c.args.board.now c.args.cores.now.items c.args.t c.requires.house c.requires.given in
    let is = slice_get_read c.args.cores.now.items _ c.args.t c.index_mut-core.result.now refl within c.index_mut-core.ensures.value in
    core_waits c.args.board.now c.args.cores.now.items c.args.t c.index_mut-core.result.now c.requires.house c.requires.legal c.requires.given is

pub returns-clause-continues : goal.returns-clause-continues
returns-clause-continues c =
    let within = core_of_given c.args.board.now c.args.cores.now.items c.args.t c.requires.house c.requires.given in
    let is = slice_get_read c.args.cores.now.items _ c.args.t c.index_mut-core.result.now refl within c.index_mut-core.ensures.value in
    taken_continues c.args.board.now c.take_outcome-outcome.new.board c.args.cores.now.items c.args.t c.index_mut-core.result.now c.give.new.self
    c.take_outcome-outcome.result c.requires.house c.take_outcome-outcome.ensures is c.give.ensures.after
