use Rattle.std.proofs.Common.{arith, ◌<◌, ◌≡◌, ◌++◌, ◌∷◌, [], ◌∙◌, sym, ap, subst, slice_set, true, false}
use Rattle.te_search.specs.Plantings.{has_number, IsTabled}
use Rattle.te_search.proofs.TableTells.{tabled_more, tabled_beyond}
use Rattle.te_search.proofs.planted.PlantedThreads.push.Goals as goal

pub invariant_of-self-then-at-lt-TABLED : goal.invariant_of-self-then-at-lt-TABLED
invariant_of-self-then-at-lt-TABLED c = subst (λ l. IsTabled l (slice_set c.self.inside.table c.args.thread true)) (sym c.in_ok-push.ensures.items)
    (tabled_more c.self.inside.threads.items c.self.inside.table c.args.thread c.self.invariant (ap (λ l. has_number l c.args.thread) c.self.view_is ∙ c.requires) c.if-at-lt-TABLED.true)

pub invariant_of-self-else-at-lt-TABLED : goal.invariant_of-self-else-at-lt-TABLED
invariant_of-self-else-at-lt-TABLED c = subst (λ l. IsTabled l c.self.inside.table) (sym c.in_ok-push.ensures.items)
    (tabled_beyond c.self.inside.threads.items c.self.inside.table c.args.thread c.self.invariant
    (ap (λ l. has_number l c.args.thread) c.self.view_is ∙ c.requires)
    (λ l. omega (arith, c.if-at-lt-TABLED.false, l)))
