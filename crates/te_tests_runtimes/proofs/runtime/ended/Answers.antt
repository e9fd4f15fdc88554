use Rattle.std.proofs.Common.{◌≡◌, ℕ, zero, suc, ◌<◌, Contains, List, [], ◌∷◌, ◌++◌, map, sym, ap, ◌∙◌, subst, arith}
use Rattle.te_lock.specs.Lock.{Knowledge}
use Rattle.te_history.specs.declared.entry.Entry.{Entry}
use Rattle.te_tests_runtimes.proofs.runtime.ended.Goals as goal

all_four : (a b c d k : ℕ) → a ≡ 0 → b ≡ 1 → c ≡ 2 → d ≡ 3 → k < 4 → Contains (a ∷ b ∷ c ∷ d ∷ []) k
all_four a b c d zero first second third fourth below = (0, omega arith, first)
all_four a b c d (suc zero) first second third fourth below = (1, omega arith, second)
all_four a b c d (suc (suc zero)) first second third fourth below = (2, omega arith, third)
all_four a b c d (suc (suc (suc zero))) first second third fourth below = (3, omega arith, fourth)
all_four a b c d (suc (suc (suc (suc k)))) first second third fourth below = absurd (omega arith)

pub close-requires-clause-everyone : goal.close-requires-clause-everyone
close-requires-clause-everyone c =
    let front = c.args.front in
    let back = c.args.back in
    let order = c.requires.order in
    let one = c.in_ok-push.ensures.items ∙ ap (λ items. items ++ front.0 ∷ []) c.new-passes.ensures.items in
    let two = c.in_ok-push-2.ensures.items ∙ ap (λ items. items ++ front.1 ∷ []) one in
    let three = c.in_ok-push-3.ensures.items ∙ ap (λ items. items ++ back.0 ∷ []) two in
    let four : c.push-4.new.self.items ≡ front.0 ∷ front.1 ∷ back.0 ∷ back.1 ∷ [] = c.in_ok-push-4.ensures.items ∙ ap (λ items. items ++ back.1 ∷ []) three in
    λ k below.
    subst
    (λ (items : List (Knowledge Entry)). Contains (map (λ p. p.caller) items) k)
    (sym four)
    (all_four front.0.caller front.1.caller back.0.caller back.1.caller k order.0.0 order.0.1 order.1.0 order.1.1 (subst (λ n. k < n) c.requires.callers below))
