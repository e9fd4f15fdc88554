use Rattle.std.proofs.Common.{◌≡◌, ◌+◌, ◌∷◌, suc, map, drop, length, ◌∙◌, ap, sym, subst, refl, arith, add-one}
use Rattle.std.proofs.lemmas.List.{length-map}
use Rattle.te_script.specs.Scripts.{repeat, IsRepeat}
use Rattle.te_script.specs.Cores.{IsAtSync, IsPastEmits, HasBodies}
use Rattle.te_script.specs.Texts.{statement_of}
use Rattle.te_script.proofs.EmitsDone.{statements_from, nothing_from}
use Rattle.te_script.proofs.StepsLeft.{entered, outside_spot, repeat_at}
use Rattle.te_script.proofs.wish.spot_at.Goals as goal

pub unreachable-requires : goal.unreachable-requires
unreachable-requires c =
    let here = statements_from c.args.stmts.now c.args.place c.index-stmts-place.result (omega (arith, c.requires.within, c.if-place-stmts.false)) c.index-stmts-place.is in
    subst IsPastEmits (rw c.in-Emit.is at here) c.requires.past

pub returns-in-Sync-clause-spot : goal.returns-in-Sync-clause-spot
returns-in-Sync-clause-spot c =
    let here = statements_from c.args.stmts.now c.args.place c.index-stmts-place.result (omega (arith, c.requires.within, c.if-place-stmts.false)) c.index-stmts-place.is in
    outside_spot c.args.place (map statement_of c.args.stmts.now) (omega (arith, c.requires.within, length-map c.args.stmts.now statement_of)) (subst IsAtSync (sym (rw c.in-Sync.is at here)) tt)

pub returns-in-Repeat-clause-left : goal.returns-in-Repeat-clause-left
returns-in-Repeat-clause-left c =
    let here = statements_from c.args.stmts.now c.args.place c.index-stmts-place.result (omega (arith, c.requires.within, c.if-place-stmts.false)) c.index-stmts-place.is in
    let is = rw c.in-Repeat.is at here in
    let at = repeat_at c.args.place c.in-Repeat.times c.in-Repeat.count (map statement_of c.args.stmts.now) _ c.requires.bodies is in
    rw add-one (entered c.args.place c.in-Repeat.times c.in-Repeat.count (map statement_of c.args.stmts.now) _ is at.0 at.1).1

pub returns-in-Repeat-clause-spot : goal.returns-in-Repeat-clause-spot
returns-in-Repeat-clause-spot c =
    let here = statements_from c.args.stmts.now c.args.place c.index-stmts-place.result (omega (arith, c.requires.within, c.if-place-stmts.false)) c.index-stmts-place.is in
    let is = rw c.in-Repeat.is at here in
    let at = repeat_at c.args.place c.in-Repeat.times c.in-Repeat.count (map statement_of c.args.stmts.now) _ c.requires.bodies is in
    rw add-one (entered c.args.place c.in-Repeat.times c.in-Repeat.count (map statement_of c.args.stmts.now) _ is at.0 at.1).0
