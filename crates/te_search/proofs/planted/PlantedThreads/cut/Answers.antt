use Rattle.std.proofs.Common.{arith, rules, ◌≡◌, ◌≤◌, ◌++◌, ◌∷◌, [], ◌∙◌, ap, sym, subst, length, length-append, vec_len}
use Rattle.te_pair.proofs.Among.{take_less}
use Rattle.te_search.specs.Plantings.{IsTabled}
use Rattle.te_search.proofs.TableTells.{tabled_less, tabled_less_beyond}
use Rattle.te_search.proofs.planted.PlantedThreads.cut.Goals as goal

pub back-preserved-then-at-lt-TABLED : goal.back-preserved-then-at-lt-TABLED
back-preserved-then-at-lt-TABLED c =
    let split : c.back.self-inside.threads.items ≡ c.pop.new.self.items ++ c.in-Some.thread ∷ [] = c.in-Some.ensures.items in
    let count : vec_len c.back.self-inside.threads ≡ length c.back.self-inside.threads.items = search rules in
    let room : c.args.count ≤ length c.pop.new.self.items = omega (arith, ap length split, length-append c.pop.new.self.items (c.in-Some.thread ∷ []), count, c.back-test.true, c.len.ensures) in (
      tabled_less c.pop.new.self.items c.back.self-inside.table c.in-Some.thread (subst (λ l. IsTabled l c.back.self-inside.table) split c.back.invariant.0) c.if-at-lt-TABLED.true,
      sym (take_less c.back.self-inside.threads.items c.pop.new.self.items c.in-Some.thread c.args.count split room) ∙ c.back.invariant.1,
    )

pub back-preserved-else-at-lt-TABLED : goal.back-preserved-else-at-lt-TABLED
back-preserved-else-at-lt-TABLED c =
    let split : c.back.self-inside.threads.items ≡ c.pop.new.self.items ++ c.in-Some.thread ∷ [] = c.in-Some.ensures.items in
    let count : vec_len c.back.self-inside.threads ≡ length c.back.self-inside.threads.items = search rules in
    let room : c.args.count ≤ length c.pop.new.self.items = omega (arith, ap length split, length-append c.pop.new.self.items (c.in-Some.thread ∷ []), count, c.back-test.true, c.len.ensures) in (
      tabled_less_beyond c.pop.new.self.items c.back.self-inside.table c.in-Some.thread (subst (λ l. IsTabled l c.back.self-inside.table) split c.back.invariant.0)
          (λ l. omega (arith, c.if-at-lt-TABLED.false, l)),
      sym (take_less c.back.self-inside.threads.items c.pop.new.self.items c.in-Some.thread c.args.count split room) ∙ c.back.invariant.1,
    )
