use Rattle.std.proofs.Common.{◌≡◌, Bool, true, List, ap, sym, ◌∙◌}
use Rattle.te_terms.specs.declared.value.Atom.{Atom}
use Rattle.te_terms.specs.declared.event.Outcome.{Outcome}
use Rattle.te_terms.specs.declared.event.Outcome.TheVariants.{Gives, Raises}
use Rattle.te_terms.specs.Values.{same_value}
use Rattle.te_terms.specs.Sameness.{Decides-same_value}
use Rattle.te_history.proofs.same.is_same.Goals as goal

same_gives : (b : Bool) (v w : List Atom) (o p : Outcome) → b ≡ same_value v w → o ≡ Gives v → p ≡ Gives w → ((b ≡ true) → o ≡ p) × (o ≡ p → (b ≡ true))
same_gives b v w o p is first second =
    (λ so. first ∙ ap Gives ((Decides-same_value v w).0 (sym is ∙ so)) ∙ sym second, λ same. is ∙ (Decides-same_value v w).1 cc)

same_raises : (b : Bool) (v w : List Atom) (o p : Outcome) → b ≡ same_value v w → o ≡ Raises v → p ≡ Raises w → ((b ≡ true) → o ≡ p) × (o ≡ p → (b ≡ true))
same_raises b v w o p is first second =
    (λ so. first ∙ ap Raises ((Decides-same_value v w).0 (sym is ∙ so)) ∙ sym second, λ same. is ∙ (Decides-same_value v w).1 cc)

pub returns-in-Gives-other : goal.returns-in-Gives-other
returns-in-Gives-other c =
    same_gives c.eq.result c.in-Gives.v c.in-Gives-other.w c.args.outcome.now c.args.other.now c.eq.ensures c.in-Gives.is c.in-Gives-other.is

pub returns-in-Raises-other-2 : goal.returns-in-Raises-other-2
returns-in-Raises-other-2 c =
    same_raises c.eq-in-Raises-other-2.result c.in-Raises.v c.in-Raises-other-2.w c.args.outcome.now c.args.other.now c.eq-in-Raises-other-2.ensures
    c.in-Raises.is c.in-Raises-other-2.is
