use Rattle.std.proofs.Common.{rules, ◌≡◌, ℤ, IfOk, subst}
use Rattle.std.proofs.Math.Facts.{to_z-of_z}
use Rattle.te_forms.specs.Forms.{guarded_term}
use Rattle.te_forms.proofs.GuardsHold.{all_held}
use Rattle.te_forms.proofs.forms.guarded.Goals as goal
use mir.Syntax.{w64}
use mir.Val.{SFits}

pub returns-clause-held : goal.returns-clause-held
returns-clause-held c =
    let fits : SFits w64 c.args.bound = search rules in
    all_held c.args.channel c.args.place c.args.test c.args.bound c.event_of.result
    (subst (λ (b : ℤ). IfOk c.event_of.result (λ event. event ≡ guarded_term c.args.channel c.args.place c.args.test b)) (to_z-of_z fits) c.event_of.ensures)
