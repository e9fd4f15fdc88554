use Rattle.std.proofs.Common.{rules, ◌≡◌, pos, false, arith, get_or, length, ap, ◌∙◌, sym}
use Rattle.std.proofs.lemmas.Option.{slice_get_past}
use mir.Val.{SFits}
use mir.Syntax.{w64}
use Rattle.std.proofs.Math.Facts.{to_z-of_z}
use Rattle.te_terms.specs.Packed.{atom_in}
use Rattle.te_terms.proofs.PackedLemmas.{atom_at, narrow_at}
use Rattle.te_terms.proofs.value.Value.get.Goals as goal

pub of-requires : goal.of-requires
of-requires c =
    let fits : SFits w64 (get_or c.self.inside.words c.args.d (pos 0)) = search rules in
    rw (to_z-of_z fits) (narrow_at c.args.d c.self.inside.words c.self.inside.are_channels c.self.invariant.narrow)

pub returns-then-d-self : goal.returns-then-d-self
returns-then-d-self c =
    let fits : SFits w64 (get_or c.self.inside.words c.args.d (pos 0)) = search rules in
    let same : c.of.result ≡ atom_in (get_or c.self.inside.words c.args.d (pos 0)) (get_or c.self.inside.are_channels c.args.d false) =
    c.of.ensures ∙ ap (λ w. atom_in w (get_or c.self.inside.are_channels c.args.d false)) (to_z-of_z fits) in
    let there = atom_at c.self.inside.len c.args.d c.self.inside.words c.self.inside.are_channels c.if-d-self.true
    (omega (arith, c.self.told.0, c.self.told.1)) (omega (arith, c.self.told.0, c.self.invariant.within)) in
    cc (same, there, c.self.view_is)

pub returns-else-d-self : goal.returns-else-d-self
returns-else-d-self c =
    sym (slice_get_past c.args.self.now c.args.d (omega (arith, c.if-d-self.false, c.self.invariant.as_long, ap length c.self.view_is)))
