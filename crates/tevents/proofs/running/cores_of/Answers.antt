use Rattle.std.proofs.Common.{rules, ◌≡◌, ◌∙◌, ap, map, []}
use Rattle.te_script.specs.Scripts.{Program}
use Rattle.te_script.specs.Cores.{core_after}
use Rattle.te_report.proofs.FirstCores.{take_past}
use Rattle.tevents.proofs.FirstRun.{fresh_cores, of_texts}
use Rattle.tevents.proofs.running.cores_of.Goals as goal

pub returns : goal.returns
returns c =
    let each : c.loop-text.cores ≡ map (λ a. core_after a.value []) c.script.inside.threads = search (rules, take_past) in
    each ∙ of_texts (λ a. a.value) c.script.inside.threads ∙ ap (λ (p : Program). fresh_cores p.threads) c.script.view_is
