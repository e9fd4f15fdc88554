-- A member's turns come to an end, where it advances by its letters.
use Rattle.std.proofs.Common.{◌≡◌, ℕ, zero, suc, ◌≤◌, Bool, true, false, List, [], ◌∷◌, Option, Some, None, Result, refl, sym, ap, ◌∙◌, ◌*◌, arith}
use Rattle.te_terms.specs.Terms.{Term}
use Rattle.te_terms.specs.Steps.{Member, quiet_step, at_term}
use Rattle.te_terms.specs.Joint.{choice, after_choice}
use Rattle.te_terms.specs.Measures.{node_count}
use Rattle.te_terms.specs.Settling.{steps_most, settled}
use Rattle.te_terms.proofs.Settles.{settled_already, settled_after}
use Rattle.te_terms.proofs.Measured.{some_nodes}
use Rattle.te_terms.proofs.StepsLower.{quiet_lowers, choice_lowers}
use Rattle.te_cert.specs.Play.{Player, choice_of, own_turn, takes_turn, advance_within, advanced, Advance, PlayFault, with_label}
use Rattle.te_cert.specs.Advances.{by_letters, with_letter, without_letter}

-- so many turns are enough for a member
abbrev IsEnough : ℕ → Member → Type 0
IsEnough turns m = steps_most m.term ≤ turns

abbrev seat : Member → List Bool → Player
seat m letters = record { member = m; letters = letters }

-- within so many turns the member at place i goes on as by its letters
abbrev Within : ℕ → ℕ → Member → List Bool → Type 0
Within turns i m letters = advance_within turns i (seat m letters) ≡ by_letters i m letters

-- the letters of a member which has no quiet step
abbrev by_settled : ℕ → Member → List Bool → Option Term → Option Term → Result Advance PlayFault
by_settled i m [] e f = without_letter i m (choice_of m e f)
by_settled i m (left ∷ letters) e f = with_letter (λ n. by_letters i n letters) left letters m (choice_of m e f)

at_choice : (turns i : ℕ) (m : Member) (letters : List Bool) (e f : Option Term) →
    ((u : Term) (more : List Bool) → e ≡ Some u → Within turns i (at_term m u) more) →
    ((u : Term) (more : List Bool) → f ≡ Some u → Within turns i (at_term m u) more) →
    takes_turn (advance_within turns i) i (seat m letters) (choice_of m e f) letters ≡ by_settled i m letters e f
at_choice turns i m [] (Some e) (Some f) on_left on_right = refl
at_choice turns i m (true ∷ letters) (Some e) (Some f) on_left on_right = ap (with_label (choice m.thread true)) (on_left e letters refl)
at_choice turns i m (false ∷ letters) (Some e) (Some f) on_left on_right = ap (with_label (choice m.thread false)) (on_right f letters refl)
at_choice turns i m [] _ _ on_left on_right = refl
at_choice turns i m (left ∷ letters) _ _ on_left on_right = refl

by_letters_at : (i : ℕ) (m s : Member) (letters : List Bool) → settled m ≡ s →
    by_letters i m letters ≡ by_settled i s letters (after_choice true s.term) (after_choice false s.term)
by_letters_at i m s [] is = ap (λ x. by_settled i x [] (after_choice true x.term) (after_choice false x.term)) is
by_letters_at i m s (left ∷ letters) is = ap (λ x. by_settled i x (left ∷ letters) (after_choice true x.term) (after_choice false x.term)) is

at_turn : (turns i : ℕ) (m : Member) (letters : List Bool) (o : Option Member) → IsEnough (suc turns) m → quiet_step m ≡ o →
    ((n : Member) (more : List Bool) → IsEnough turns n → Within turns i n more) →
    takes_turn (advance_within turns i) i (seat m letters) (own_turn m o) letters ≡ by_letters i m letters
at_turn turns i m letters (Some n) enough step ih =
    ih n letters (omega (arith, quiet_lowers m n step))
    ∙ by_letters_at i n (settled m) letters (settled_after m n step)
    ∙ sym (by_letters_at i m (settled m) letters refl)
at_turn turns i m letters None enough rests ih =
    at_choice turns i m letters (after_choice true m.term) (after_choice false m.term)
    (λ u more e. ih (at_term m u) more (omega (arith, choice_lowers true m.term u e)))
    (λ u more e. ih (at_term m u) more (omega (arith, choice_lowers false m.term u e)))
    ∙ sym (by_letters_at i m m letters (settled_already m rests))

within : (turns i : ℕ) (m : Member) (letters : List Bool) → IsEnough turns m → Within turns i m letters
within zero i m letters enough = absurd (omega (arith, some_nodes m.term))
within (suc turns) i m letters enough = at_turn turns i m letters (quiet_step m) enough refl (within turns i)

pub advanced_is : (i : ℕ) (p : Player) → advanced i p ≡ by_letters i p.member p.letters
advanced_is i p = within (2 * node_count p.member.term) i p.member p.letters (omega arith)
