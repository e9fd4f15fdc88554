use Rattle.std.proofs.Common.{rules, ◌≡◌, ◌∙◌, ap, map, refl, List, [], ◌∷◌}
use Rattle.te_script.specs.Scripts.{Thread, Program, thread_names}
use Rattle.te_report.proofs.FirstCores.{take_past}
use Rattle.te_report.proofs.names.thread_names.Goals as goal

named : {A : Type 0} (text : A → Thread) (xs : List A) → map (λ a. (text a).name) xs ≡ thread_names (map text xs)
named text [] = refl
named text (x ∷ xs) = ap (λ ns. (text x).name ∷ ns) (named text xs)

pub returns : goal.returns
returns c =
    let each : c.loop-text.names ≡ map (λ a. a.value.name) c.script.inside.threads = search (rules, take_past) in
    each ∙ named (λ a. a.value) c.script.inside.threads ∙ ap (λ (p : Program). thread_names p.threads) c.script.view_is
