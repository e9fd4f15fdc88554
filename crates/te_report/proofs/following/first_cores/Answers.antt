use Rattle.std.proofs.Common.{rules, ◌≡◌, ◌∙◌, ap, map, []}
use Rattle.te_script.specs.Scripts.{Program}
use Rattle.te_script.specs.Cores.{core_after}
use Rattle.te_report.specs.Following.{cores_from}
use Rattle.te_report.proofs.FirstCores.{first_of_each, take_past}
use Rattle.te_report.proofs.following.first_cores.Goals as goal

pub returns : goal.returns
returns c =
    let each : c.loop-text.cores.items ≡ map (λ a. core_after a.value []) c.script.inside.threads = search (rules, take_past) in
    each ∙ first_of_each (λ a. a.value) 0 c.script.inside.threads ∙ ap (λ (p : Program). cores_from [] 0 p.threads) c.script.view_is
