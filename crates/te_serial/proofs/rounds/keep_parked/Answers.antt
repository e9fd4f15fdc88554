use Rattle.te_serial.proofs.ListsKept.{apart_so_far, is_parked, kept_next, kept_skip, kept_all}
use Rattle.std.proofs.Common.{◌+◌, subst, sym, arith}
use Rattle.te_serial.proofs.ListsKept.{KeptSoFar}
use Rattle.te_serial.proofs.rounds.keep_parked.Goals.{in-Parked+in_ok-keep-in-Parked, in-Idle}
use Rattle.te_serial.proofs.rounds.keep_parked.Goals as goal

pub keep-requires-clause-apart : goal.keep-requires-clause-apart
keep-requires-clause-apart c = apart_so_far c.args.board.now c.loop-t.kept c.loop-t.t c.loop-t.invariant

pub loop-t-preserved : goal.loop-t-preserved
loop-t-preserved c = elim c.match-place_of.branch [
  | in-Parked+in_ok-keep-in-Parked w ↦
      subst (λ ps. KeptSoFar c.args.board.now ps (c.loop-t.t + 1)) (sym w.kept-is)
      (kept_next c.args.board.now c.loop-t.kept w.keep.new.kept c.loop-t.t c.loop-t.invariant
      (is_parked c.args.board.now c.loop-t.t c.place_of.result c.place_of.ensures.place w.in-Parked.is) w.in_ok-keep-in-Parked.ensures)
  | in-Idle w ↦
      subst (λ ps. KeptSoFar c.args.board.now ps (c.loop-t.t + 1)) (sym w.kept-is)
      (kept_skip c.args.board.now c.loop-t.kept c.loop-t.t c.place_of.result c.loop-t.invariant c.place_of.ensures.place w.in-Idle.is)
]

pub returns : goal.returns
returns c = kept_all c.args.board.now c.loop-t.kept c.loop-t.t c.loop-t.invariant
    (let le = c.loop-t-test.false in let n = c.callers_of-t-end.ensures.value in let m = c.callers_of-t-end.ensures.each in omega arith)
