-- A member settles: quiet steps lead to it as it is once they are done, and to nothing else without one.
use Rattle.std.proofs.Common.{◌≡◌, ℕ, zero, suc, ◌+◌, ◌≤◌, Option, Some, None, refl, sym, subst, ◌∙◌, arith}
use Rattle.std.specs.Option.{option_map, unwrap_or}
use Rattle.te_terms.specs.Terms.{Term}
use Rattle.te_terms.specs.Steps.{Member, IsSettled, quiet_step}
use Rattle.te_terms.specs.Measures.{fresh_count}
use Rattle.te_terms.specs.Settling.{Quietly, here, after_one, settled_within, settled, steps_most}
use Rattle.te_terms.proofs.Measured.{some_nodes}
use Rattle.te_terms.proofs.QuietStepsEnd.{step_stays}
use Rattle.te_terms.proofs.StepsLower.{quiet_lowers}
use Rattle.te_terms.proofs.FreshStaysFew.{quiet_makes}

-- ---- chains

reached_on : (rounds : ℕ) (m : Member) (o : Option Member) → quiet_step m ≡ o → ((n : Member) → Quietly n (settled_within rounds n)) → Quietly m (unwrap_or (option_map (settled_within rounds) o) m)
reached_on rounds m None e ih = here m
reached_on rounds m (Some n) e ih = after_one m n (settled_within rounds n) e (ih n)

within_reached : (rounds : ℕ) (m : Member) → Quietly m (settled_within rounds m)
within_reached zero m = here m
within_reached (suc rounds) m = reached_on rounds m (quiet_step m) refl (within_reached rounds)

some_left : (t : Term) → 1 ≤ steps_most t
some_left t = omega (arith, some_nodes t)

settled_on : (rounds : ℕ) (m : Member) (o : Option Member) → quiet_step m ≡ o → ((n : Member) → quiet_step m ≡ Some n → IsSettled (settled_within rounds n)) →
    IsSettled (unwrap_or (option_map (settled_within rounds) o) m)
settled_on rounds m None e ih = e
settled_on rounds m (Some n) e ih = ih n e

within_settled : (rounds : ℕ) (m : Member) → steps_most m.term ≤ rounds → IsSettled (settled_within rounds m)
within_settled zero m h = absurd (omega (arith, some_left m.term))
within_settled (suc rounds) m h =
    settled_on rounds m (quiet_step m) refl (λ n e. within_settled rounds n (omega (arith, quiet_lowers m n e)))

-- quiet steps lead to the settled member
pub settled_is_reached : (m : Member) → Quietly m (settled m)
unfolding settled
settled_is_reached m = within_reached (steps_most m.term) m

-- which has none
pub settled_is_settled : (m : Member) → IsSettled (settled m)
unfolding settled
settled_is_settled m = within_settled (steps_most m.term) m (omega arith)

-- two ends of quiet steps without a further one are the same
pub one_end : (m n p : Member) → Quietly m n → Quietly m p → IsSettled n → IsSettled p → n ≡ p
one_end m n p (here _) (here _) h k = refl
one_end m n p (here _) (after_one _ q _ e more) h k = let no : None ≡ Some q = sym h ∙ e in absurd cc
one_end m n p (after_one _ q _ e more) (here _) h k = let no : None ≡ Some q = sym k ∙ e in absurd cc
one_end m n p (after_one _ q _ e more) (after_one _ r _ e' more') h k =
    let same : q ≡ r = let both : Some q ≡ Some r = sym e ∙ e' in cc in
    one_end q n p more (subst (λ x. Quietly x p) (sym same) more') h k

pub settled_is_one : (m n : Member) → Quietly m n → IsSettled n → n ≡ settled m
settled_is_one m n q h = one_end m n (settled m) q (settled_is_reached m) h (settled_is_settled m)

-- what has no quiet step is settled already
pub settled_already : (m : Member) → IsSettled m → settled m ≡ m
settled_already m h = sym (settled_is_one m m (here m) h)

-- a quiet step leaves what it settles as
pub settled_after : (m n : Member) → quiet_step m ≡ Some n → settled n ≡ settled m
settled_after m n e = settled_is_one m (settled n) (after_one m n (settled n) e (settled_is_reached n)) (settled_is_settled n)

pub settled_along : (m n : Member) → Quietly m n → settled n ≡ settled m
settled_along m n (here _) = refl
settled_along m n (after_one _ q _ e more) = settled_along q n more ∙ settled_after m q e

-- ---- what quiet steps keep

pub quietly_thread : (m n : Member) → Quietly m n → n.thread ≡ m.thread
quietly_thread m n (here _) = refl
quietly_thread m n (after_one _ q _ e more) = quietly_thread q n more ∙ (step_stays m q e).0

pub quietly_ticket : (m n : Member) → Quietly m n → n.ticket ≡ m.ticket
quietly_ticket m n (here _) = refl
quietly_ticket m n (after_one _ q _ e more) = quietly_ticket q n more ∙ (step_stays m q e).1

pub quietly_makes : (m n : Member) → Quietly m n → (m.count ≤ n.count) × (n.count + fresh_count n.term ≤ m.count + fresh_count m.term)
quietly_makes m n (here _) = (omega arith, omega arith)
quietly_makes m n (after_one _ q _ e more) =
    let first = quiet_makes m q e in
    let rest = quietly_makes q n more in
    (omega (arith, first.0, rest.0), omega (arith, first.1, rest.1))

pub settled_thread : (m : Member) → (settled m).thread ≡ m.thread
settled_thread m = quietly_thread m (settled m) (settled_is_reached m)

pub settled_ticket : (m : Member) → (settled m).ticket ≡ m.ticket
settled_ticket m = quietly_ticket m (settled m) (settled_is_reached m)

pub settled_makes : (m : Member) → (m.count ≤ (settled m).count) × ((settled m).count + fresh_count (settled m).term ≤ m.count + fresh_count m.term)
settled_makes m = quietly_makes m (settled m) (settled_is_reached m)
