use Rattle.std.proofs.Common.{rules, ◌≡◌, ◌<◌, ℤ, [], ◌∷◌, ◌++◌, length, arith, ap, ◌∙◌, subst}
use Rattle.te_terms.specs.Limits.{most_atoms}
use Rattle.te_terms.specs.Packed.{word_of, is_channel, IsNarrow}
use Rattle.te_terms.proofs.PackedLemmas.{pushed}
use mir.Val.{SFits, to_z, of_z}
use mir.Syntax.{w64}
use Rattle.std.proofs.Math.Facts.{to_z-of_z}
use Rattle.te_terms.proofs.value.Value.push.Goals as goal

pub invariant_of-self : goal.invariant_of-self
invariant_of-self c =
    let fits : SFits w64 c.word.result = search rules in
    let word : to_z w64 (of_z w64 c.word.result) ≡ word_of c.args.atom = to_z-of_z fits ∙ c.word.ensures.value in
    let room : c.self.inside.len < most_atoms = omega (arith, c.requires, c.self.invariant.as_long, ap length c.self.view_is) in
    let N : ℤ → Type 0 = λ w. IsNarrow w (is_channel c.args.atom) in
    let more = pushed c.self.inside.len c.self.inside.words c.self.inside.are_channels c.args.atom c.self.invariant room (subst N c.word.ensures.value c.word.ensures.narrow) in
    rw (word, c.is_channel.ensures) more.packed

pub returns : goal.returns
returns c =
    let fits : SFits w64 c.word.result = search rules in
    let word : to_z w64 (of_z w64 c.word.result) ≡ word_of c.args.atom = to_z-of_z fits ∙ c.word.ensures.value in
    let room : c.self.inside.len < most_atoms = omega (arith, c.requires, c.self.invariant.as_long, ap length c.self.view_is) in
    let N : ℤ → Type 0 = λ w. IsNarrow w (is_channel c.args.atom) in
    let more = pushed c.self.inside.len c.self.inside.words c.self.inside.are_channels c.args.atom c.self.invariant room (subst N c.word.ensures.value c.word.ensures.narrow) in
    rw (word, c.is_channel.ensures) (more.atoms ∙ ap (λ v. v ++ c.args.atom ∷ []) c.self.view_is)
