use Rattle.std.proofs.Common.{◌≡◌, true, false, not, Decides, ap, sym, ◌∙◌}
use Rattle.std.specs.Cmp.{booleans_Decides}
use Rattle.std.proofs.lemmas.Bool.Decides.{Decides-int_eq}
use lib.Pointwise.{pointwise_decides}
use Rattle.te_terms.specs.Values.{same_value}
use Rattle.te_terms.specs.Sameness.{Decides-same_value}
use Rattle.te_terms.proofs.PackedLemmas.{fields_same, fields_tell, tests_agree, test_fails}
use Rattle.te_terms.proofs.Lists.{not_false}
use Rattle.te_terms.proofs.value.ValuePartialEq.eq.Goals as goal

pub returns-then-self-other : goal.returns-then-self-other
returns-then-self-other c =
    test_fails (same_value c.args.self.now c.args.other.now) (Decides-same_value c.args.self.now c.args.other.now)
    (λ e. c.if-self-other.true ((fields_same c.self.invariant c.other.invariant (c.self.view_is ∙ e ∙ sym c.other.view_is)).lens))

pub returns-then-ne : goal.returns-then-ne
returns-then-ne c =
    test_fails (same_value c.args.self.now c.args.other.now) (Decides-same_value c.args.self.now c.args.other.now)
    (λ e.
    let words = (fields_same c.self.invariant c.other.invariant (c.self.view_is ∙ e ∙ sym c.other.view_is)).words in
    let told = (pointwise_decides Decides-int_eq c.self.inside.words c.other.inside.words).1 words in
    let bad : true ≡ false = sym c.if-ne.true ∙ c.ne.ensures ∙ ap not told in
    absurd cc)

pub returns : goal.returns
returns c =
    let words = (pointwise_decides Decides-int_eq c.self.inside.words c.other.inside.words).0 (not_false _ (sym c.ne.ensures ∙ c.if-ne.false)) in
    let kinds = pointwise_decides booleans_Decides c.self.inside.are_channels c.other.inside.are_channels in
    let kinds_told : Decides c.eq.result (c.self.inside.are_channels ≡ c.other.inside.are_channels) = (λ e. kinds.0 (sym c.eq.ensures ∙ e), λ e. c.eq.ensures ∙ kinds.1 e) in
    tests_agree c.eq.result (same_value c.args.self.now c.args.other.now) kinds_told (Decides-same_value c.args.self.now c.args.other.now)
    (λ e. sym c.self.view_is ∙ fields_tell c.if-self-other.false words e ∙ c.other.view_is)
    (λ e. (fields_same c.self.invariant c.other.invariant (c.self.view_is ∙ e ∙ sym c.other.view_is)).kinds)
