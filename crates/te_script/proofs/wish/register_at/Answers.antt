use Rattle.std.proofs.Common.{◌≡◌, ◌∷◌, ◌+◌, ◌<◌, drop, length, map, refl, subst, sym, ◌∙◌, arith}
use Rattle.std.proofs.lemmas.List.{length-map}
use Rattle.te_script.specs.Cores.{next_of, IsWaiting, WritesTo}
use Rattle.te_script.specs.Texts.{statement_of}
use Rattle.te_script.proofs.EmitsDone.{statements_from}
use Rattle.te_script.proofs.StepsLeft.{left_sync, waits_at, waits_within}
use Rattle.te_script.proofs.WantsTold.{no_emit, no_repeat}
use Rattle.te_script.proofs.wish.register_at.Goals as goal

pub unreachable-requires : goal.unreachable-requires
unreachable-requires c =
    let lt : c.args.spot.now.place < length c.args.stmts.now = omega (arith, waits_within c.args.spot.now _ c.requires.spot c.requires.waits, length-map c.args.stmts.now statement_of) in
    no_emit c.args.spot.now _ _ c.index-stmts-spot.result c.in-Emit.field-0 c.requires.spot (statements_from c.args.stmts.now c.args.spot.now.place
    c.index-stmts-spot.result lt c.index-stmts-spot.is) c.in-Emit.is

pub unreachable-requires-in-Repeat : goal.unreachable-requires-in-Repeat
unreachable-requires-in-Repeat c =
    let lt : c.args.spot.now.place < length c.args.stmts.now = omega (arith, waits_within c.args.spot.now _ c.requires.spot c.requires.waits, length-map c.args.stmts.now statement_of) in
    no_repeat c.args.spot.now _ _ c.index-stmts-spot.result c.in-Repeat.times c.in-Repeat.count c.requires.spot (statements_from c.args.stmts.now
    c.args.spot.now.place c.index-stmts-spot.result lt c.index-stmts-spot.is) c.in-Repeat.is

pub returns : goal.returns
returns c =
    let lt : c.args.spot.now.place < length c.args.stmts.now = omega (arith, waits_within c.args.spot.now _ c.requires.spot c.requires.waits, length-map c.args.stmts.now statement_of) in
    let here = statements_from c.args.stmts.now c.args.spot.now.place c.index-stmts-spot.result lt c.index-stmts-spot.is in
    let sync_here = rw c.in-Sync.is at here in
    rw (left_sync c.args.spot.now _ _ _ _ c.requires.spot sync_here) refl
