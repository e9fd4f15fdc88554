use Rattle.std.proofs.Common.{◌<◌, List, length, subst, sym}
use Rattle.te_terms.specs.declared.code.Node.{Node}
use Rattle.te_terms.specs.declared.code.Mark.{Mark}
use Rattle.te_terms.specs.Kept.{MarkTells}
use Rattle.te_terms.specs.Slots.{nodes_of}
use Rattle.te_terms.proofs.KeptLemmas.{low_mark}
use Rattle.te_terms.proofs.code.EventCode.mark.Goals as goal

pub returns-clause-low : goal.returns-clause-low
returns-clause-low c =
    let P : List Node → Type 0 = λ code. c.args.i < length code in
    let within : c.args.i < length (nodes_of c.self.inside.slots.items c.self.inside.calcs.items) = subst P (sym c.self.view_is) c.requires in
    let Q : Mark → Type 0 = λ mark. MarkTells (nodes_of c.self.inside.slots.items c.self.inside.calcs.items) c.args.i mark in
    low_mark (nodes_of c.self.inside.slots.items c.self.inside.calcs.items) c.args.i c.index.result.now c.self.invariant.kept.forest within
    (subst Q (sym c.index.ensures) (c.self.invariant.kept.tells c.args.i c.index.result.now within))
