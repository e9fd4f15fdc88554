use Rattle.std.proofs.Common.{◌≤◌, sym, subst, ap, arith}
use Rattle.te_board.specs.Boards.{BoardLog}
use Rattle.te_serial.specs.Houses.{Continues}
use Rattle.te_serial.proofs.Continuing.{goes_on}
use Rattle.te_serial.proofs.TakesSoFar.{given_turn, skip_turn, given_done}
use Rattle.te_serial.proofs.taking.take_given.Goals.{in-Given, in-Idle}
use Rattle.te_serial.proofs.taking.take_given.Goals as goal

pub loop-t-preserved : goal.loop-t-preserved
loop-t-preserved c = elim c.match-place_of.branch [
  | in-Given w ↦
      record {
        given = given_turn c.args.board.now c.loop-t.board w.take.new.board c.match-place_of.board c.loop-t.t c.place_of.result c.loop-t.invariant.given
            c.place_of.ensures.place w.in-Given.is w.take.ensures.taken w.board-is;
        continues = subst (λ (b : BoardLog). Continues c.args.board.now c.args.cores.now.items b c.match-place_of.cores.items) (sym w.board-is)
            (subst (λ v. Continues c.args.board.now c.args.cores.now.items w.take.new.board v.items) (sym w.cores-is)
            (goes_on c.args.board.now c.loop-t.board w.take.new.board c.args.cores.now.items c.loop-t.cores.items w.take.new.cores.items c.loop-t.invariant.continues w.take.ensures.continues));
      }
  | in-Idle w ↦
      record {
        given = skip_turn c.args.board.now c.loop-t.board c.match-place_of.board c.loop-t.t c.place_of.result c.loop-t.invariant.given c.place_of.ensures.place w.in-Idle.is w.board-is;
        continues = subst (λ (b : BoardLog). Continues c.args.board.now c.args.cores.now.items b c.match-place_of.cores.items) (sym w.board-is)
            (subst (λ v. Continues c.args.board.now c.args.cores.now.items c.loop-t.board v.items) (sym w.cores-is) c.loop-t.invariant.continues);
      }
]

pub returns-clause-taken : goal.returns-clause-taken
returns-clause-taken c =
    let past : c.loop-t.board.callers ≤ c.loop-t.t = let le = c.loop-t-test.false in let n = c.callers_of-t-end.ensures.value in
    let same = ap (λ (b : BoardLog). b.callers) c.loop-t.invariant.continues.grows in omega arith in
    given_done c.args.board.now c.loop-t.board c.loop-t.t c.loop-t.invariant.given past
