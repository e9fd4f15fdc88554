-- Serial rounds go on from what the threads leave.
use Rattle.std.proofs.Common.{◌≡◌, ◌∙◌, ap, sym, subst, length}
use Rattle.std.proofs.lemmas.List.{length-map}
use Rattle.te_script.specs.Scripts.{Program}
use Rattle.te_serial.specs.Houses.{texts_of}
use Rattle.te_runtime.specs.Households.{Household, IsHousehold}
use Rattle.tevents.specs.Runs.{in_threads}
use Rattle.tevents.proofs.RunsCompleted.{IsBegun, ends_where_ok}
use Rattle.tevents.proofs.running.run_workers.Goals as goal

begun : (script : Program) (house : Household) → texts_of house.cores ≡ script.threads → IsHousehold house.board house.cores
    → IsBegun in_threads script house.board house.cores
begun script house texts is = record {
  callers = sym is.house.callers ∙ sym (length-map house.cores (λ core. core.thread)) ∙ ap length texts;
  texts = texts;
  tight = is.tight;
  once = is.once;
  begins = tt;
}

pub returns-clause-ends : goal.returns-clause-ends
returns-clause-ends g c =
    let house = c.in_ok-board.field-0 in
    let left = c.in_ok-board.ensures in
    ends_where_ok in_threads c.args.budget c.args.script.now c.board.inside.board c.board.inside.cores (λ run. run.board) (λ run. run.ending) c.complete.result
    (subst (λ (h : Household). IsBegun in_threads c.args.script.now h.board h.cores) (sym c.board.view_is)
    (begun c.args.script.now house left.texts (record { house = left.house; tight = left.tight; once = left.once }))) c.complete.ensures
