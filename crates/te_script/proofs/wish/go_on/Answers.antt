use Rattle.std.proofs.Common.{◌≡◌, ◌+◌, map, ◌∙◌, ap, sym, subst, refl, arith}
use Rattle.te_terms.specs.Terms.{registers_to}
use Rattle.te_script.specs.Cores.{steps_left_at, steps_behind_first, stand_at, under, emits_left}
use Rattle.te_script.specs.Texts.{statement_of}
use Rattle.te_script.proofs.EmitsDone.{settled_stand}
use Rattle.te_script.proofs.StepsLeft.{spot_settled}
use Rattle.te_script.proofs.wish.go_on.Goals as goal

pub returns-in-Some-clause-settles : goal.returns-in-Some-clause-settles
returns-in-Some-clause-settles c =
    let ss = map statement_of c.args.stmts.now in
    let on = c.in-Some.ensures ss c.requires.spot in
    rw (sym on.1) (record { stands = settled_stand c.args.regs.now (steps_left_at c.in-Some.spot ss) c.args.emitted.now.items (spot_settled c.in-Some.spot ss on.0); fits = omega arith })
