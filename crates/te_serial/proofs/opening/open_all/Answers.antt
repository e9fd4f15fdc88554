use Rattle.std.proofs.Common.{◌<◌, length, sym, ap, subst, ◌∙◌, refl, arith}
use Rattle.std.proofs.lemmas.Option.{slice_get_read}
use Rattle.te_history.specs.State.{parked_list}
use Rattle.te_board.specs.Boards.{BoardLog, state_of}
use Rattle.te_serial.specs.Houses.{Continues}
use Rattle.te_serial.specs.Finishing.{HasCause}
use Rattle.te_serial.proofs.Continuing.{goes_on}
use Rattle.te_serial.proofs.Openings.{told, opened_continues, may_continue, open_cause}
use Rattle.te_serial.proofs.TurnsOfRounds.{opened_next, skipped_next, opened_at_end}
use Rattle.te_serial.proofs.opening.open_all.Goals.{in-Idle+in_ok-open-in-Idle, in-Parked}
use Rattle.te_serial.proofs.opening.open_all.Goals as goal

pub returns-in_err-open-in-Idle-clause-continues : goal.returns-in_err-open-in-Idle-clause-continues
returns-in_err-open-in-Idle-clause-continues c =
    let cores = c.args.cores.now.items in
    let house = c.loop-t.invariant.continues.house in
    let within : c.loop-t.t < length cores = let count = house.callers in let lt = c.loop-t-test.true in let n = c.callers_of-t-end.ensures.value in
    let same = ap (λ (b : BoardLog). b.callers) c.loop-t.invariant.continues.grows in omega arith in
    let is = slice_get_read cores _ c.loop-t.t c.index.result.now refl within c.index.ensures in
    goes_on c.args.board.now c.loop-t.board c.open.new.board cores cores cores c.loop-t.invariant.continues
    (may_continue c.loop-t.board c.open.new.board cores c.loop-t.t c.index.result.now house is c.open.ensures.may)

pub returns-in_err-open-in-Idle-clause-cause : goal.returns-in_err-open-in-Idle-clause-cause
returns-in_err-open-in-Idle-clause-cause c = λ budget.
    let cores = c.args.cores.now.items in
    let house = c.loop-t.invariant.continues.house in
    let within : c.loop-t.t < length cores = let count = house.callers in let lt = c.loop-t-test.true in let n = c.callers_of-t-end.ensures.value in
    let same = ap (λ (b : BoardLog). b.callers) c.loop-t.invariant.continues.grows in omega arith in
    let is = slice_get_read cores _ c.loop-t.t c.index.result.now refl within c.index.ensures in
    let after = may_continue c.loop-t.board c.open.new.board cores c.loop-t.t c.index.result.now house is c.open.ensures.may in
    told c.from_residual.result c.in_err-open-in-Idle.field-0.0 (λ fault. HasCause c.open.new.board cores budget fault) c.from_residual.ensures.1
    (open_cause c.open.new.board cores c.loop-t.t c.index.result.now c.in_err-open-in-Idle.field-0.0 after.house is c.in_err-open-in-Idle.ensures.cause budget)

pub loop-t-preserved : goal.loop-t-preserved
loop-t-preserved c = elim c.match-place_of.branch [
  | in-Idle+in_ok-open-in-Idle w ↦
      let cores = c.args.cores.now.items in
      let house = c.loop-t.invariant.continues.house in
      let within : c.loop-t.t < length cores = let count = house.callers in let lt = c.loop-t-test.true in let n = c.callers_of-t-end.ensures.value in
      let same = ap (λ (b : BoardLog). b.callers) c.loop-t.invariant.continues.grows in omega arith in
      let is = slice_get_read cores _ c.loop-t.t w.index.result.now refl within w.index.ensures in
      record {
        opened = opened_next c.args.board.now c.loop-t.board w.open.new.board c.match-place_of.board c.loop-t.t w.index.result.now.stand c.place_of.result
            c.loop-t.invariant.opened c.place_of.ensures.place w.in-Idle.is w.in_ok-open-in-Idle.ensures.ok w.board-is;
        continues = subst (λ (b : BoardLog). Continues c.args.board.now cores b cores) (sym w.board-is)
            (goes_on c.args.board.now c.loop-t.board w.open.new.board cores cores cores c.loop-t.invariant.continues
            (opened_continues c.loop-t.board w.open.new.board cores c.loop-t.t w.index.result.now house is w.in_ok-open-in-Idle.ensures.ok));
        kept = w.kept-is ∙ w.in_ok-open-in-Idle.ensures.kept ∙ ap (λ (b : BoardLog). parked_list (state_of b)) (sym w.board-is);
      }
  | in-Parked w ↦
      record {
        opened = skipped_next c.args.board.now c.loop-t.board c.match-place_of.board c.loop-t.t c.place_of.result c.loop-t.invariant.opened c.requires.none
            c.place_of.ensures.place w.in-Parked.is w.board-is;
        continues = subst (λ (b : BoardLog). Continues c.args.board.now c.args.cores.now.items b c.args.cores.now.items) (sym w.board-is) c.loop-t.invariant.continues;
        kept = w.kept-is ∙ c.loop-t.invariant.kept ∙ ap (λ (b : BoardLog). parked_list (state_of b)) (sym w.board-is);
      }
]

pub returns-clause-opened : goal.returns-clause-opened
returns-clause-opened c = opened_at_end c.args.board.now c.loop-t.board c.callers_of-t-end.result c.loop-t.t c.loop-t.invariant.opened c.callers_of-t-end.ensures.value c.loop-t-test.false
