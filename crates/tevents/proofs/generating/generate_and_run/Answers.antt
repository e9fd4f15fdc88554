use Rattle.std.proofs.Common.{◌∙◌, ap, subst, ℕ, List, length}
use Rattle.te_script.specs.Scripts.{Program, IsProgram}
use Rattle.te_history.specs.declared.entry.Entry.{Entry}
use Rattle.tevents.specs.Summaries.{summary_text}
use Rattle.tevents.proofs.GeneratedScripts.{summarised}
use Rattle.tevents.proofs.generating.generate_and_run.Goals as goal

pub returns : goal.returns
returns c =
    let is : IsProgram c.in_ok-script.script = subst (λ (p : Program). IsProgram p) c.script.view_is c.script.invariant.program in
    let threads = c.history-hist.ensures.callers ∙ c.in_ok-run.ensures.callers in
    let text = c.in_ok-text.ensures ∙ ap (λ (n : ℕ). summary_text c.args.number n c.history-hist.result.now.entries
    c.in_ok-run.run'.ending) threads ∙ ap (λ (es : List Entry).
    summary_text c.args.number (length c.in_ok-script.script.threads) es c.in_ok-run.run'.ending)
    c.history-hist.ensures.entries in
    summarised c.args.number c.args.budget c.in_ok-script.script c.in_ok-run.run'.board.entries c.in_ok-run.run'.ending
    c.in_ok-text.text c.status_at.result is c.in_ok-script.ensures c.in_ok-run.ensures.ends text c.status_at.ensures
