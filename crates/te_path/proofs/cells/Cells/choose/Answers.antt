use Rattle.std.proofs.Common.{◌≡◌, Some, ap, ◌∙◌, subst, ◌-◌, arith}
use Rattle.std.specs.Prelude.{slice_get}
use Rattle.std.proofs.lemmas.Option.{slice_get_within}
use Rattle.te_terms.specs.declared.code.Node.TheVariants as nodes
use Rattle.te_terms.specs.Views.{node_seen}
use Rattle.te_path.specs.Origins.{origin_of}
use Rattle.te_path.proofs.Handing.{went_is_place, chooses}
use Rattle.te_path.proofs.cells.Cells.choose.Goals as goal

pub settle-requires : goal.settle-requires
settle-requires c =
    let node = c.requires.spot.choice c.requires.choice in
    let is : slice_get c.args.posted.now.code.now (c.args.spot.now.node - 1) ≡ Some (nodes.Choose c.in-Choose.a c.in-Choose.b) = c.node.ensures.is ∙ ap (λ v. Some (node_seen v)) c.in-Choose.is in
    let there : slice_get c.args.posted.now.code.now node.number ≡ Some (nodes.Choose c.in-Choose.a c.in-Choose.b) = subst (λ n.
    slice_get c.args.posted.now.code.now n ≡ Some (nodes.Choose c.in-Choose.a c.in-Choose.b)) (omega (arith, node.at)) is in
    rw (c.part.ensures)
    (went_is_place (origin_of c.args.posted.now) c.node.ensures.forest c.args.self.now c.args.spot.now c.requires.spot node.number c.in-Choose.a c.in-Choose.b node.at
    (slice_get_within c.args.posted.now.code.now node.number _ there) there c.args.left)

pub returns-clause-step : goal.returns-clause-step
returns-clause-step c =
    let node = c.requires.spot.choice c.requires.choice in
    let is : slice_get c.args.posted.now.code.now (c.args.spot.now.node - 1) ≡ Some (nodes.Choose c.in-Choose.a c.in-Choose.b) = c.node.ensures.is ∙ ap (λ v. Some (node_seen v)) c.in-Choose.is in
    let there : slice_get c.args.posted.now.code.now node.number ≡ Some (nodes.Choose c.in-Choose.a c.in-Choose.b) = subst (λ n.
    slice_get c.args.posted.now.code.now n ≡ Some (nodes.Choose c.in-Choose.a c.in-Choose.b)) (omega (arith, node.at)) is in
    chooses (origin_of c.args.posted.now) c.node.ensures.forest c.args.self.now c.args.spot.now c.requires.spot node.number c.in-Choose.a c.in-Choose.b node.at
    (slice_get_within c.args.posted.now.code.now node.number _ there) there c.settle.new.cells c.settle.new.spot c.args.left c.settle.result
    c.settle.ensures.spot (rw (← c.part.ensures) c.settle.ensures.alike)
