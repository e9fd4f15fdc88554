-- The report is that of the run, and where the script has no repeat the run isn't short of room.
use Rattle.std.proofs.Common.{ℕ, List, length, sym, subst}
use Rattle.te_history.specs.declared.entry.Entry.{Entry}
use Rattle.te_history.specs.Follows.{IsLoose}
use Rattle.te_history.proofs.Growing.{legal_is_loose}
use Rattle.te_report.specs.OfScript.{IsOfScript}
use Rattle.te_report.specs.Report.{second, IsReport}
use Rattle.tevents.specs.Runs.{IsStatusAt}
use Rattle.tevents.proofs.RoomForScripts.{has_room}
use Rattle.tevents.proofs.RunsCompleted.{run_of}
use Rattle.tevents.proofs.answering.report.Goals as goal

pub report_of-requires-clause-loose : goal.report_of-requires-clause-loose
report_of-requires-clause-loose c =
    subst (λ (es : List Entry). IsLoose (length c.args.script.now.threads) es) (sym c.history-hist.ensures.entries)
    (subst (λ (n : ℕ). IsLoose n c.args.run.now.board.entries) c.requires.callers (legal_is_loose c.args.run.now.board.callers c.args.run.now.board.entries c.history-hist.ensures.legal))

pub report_of-requires-clause-of_script : goal.report_of-requires-clause-of_script
report_of-requires-clause-of_script c =
    let ends = c.requires.ends in
    subst (λ (es : List Entry). IsOfScript c.args.script.now es) (sym c.history-hist.ensures.entries)
    (run_of ends.0 ends.1 c.args.script.now c.args.run.now.board.entries c.args.run.now.ending ends.2).of_script

pub returns : goal.returns
returns c = λ way budget ends. record {
  history = c.args.run.now.board.entries;
  ending = c.args.run.now.ending;
  run = ends;
  room = has_room way budget c.args.script.now c.requires.program c.args.run.now.board.entries c.args.run.now.ending ends;
  report = subst (λ (es : List Entry). IsReport second c.args.script.now es c.args.run.now.ending c.in_ok-text.text) c.history-hist.ensures.entries c.in_ok-text.ensures;
  status_is = subst (λ (es : List Entry). IsStatusAt es c.args.run.now.ending c.status_of.result) c.history-hist.ensures.entries c.status_of.ensures;
}
