use Rattle.std.proofs.Common.{arith, ◌≡◌, ◌+◌, ◌∷◌, [], ◌∙◌, ap, sym, subst, length, length-append, None}
use Rattle.te_search.specs.Assemblies.{AreNone}
use Rattle.te_search.proofs.Trying.{none_more, none_yet}
use Rattle.te_search.proofs.assembly.nothing_joined.Goals as goal

pub threads-init : goal.threads-init
threads-init c = (ap length c.in_ok-joined.ensures.items, subst AreNone (sym c.in_ok-joined.ensures.items) none_yet)

pub threads-preserved : goal.threads-preserved
threads-preserved c = (
  ap length c.in_ok-push.ensures.items ∙ length-append c.threads.joined.items (None ∷ []) ∙ ap (λ n. n + 1) c.threads.invariant.0,
  subst AreNone
      (sym c.in_ok-push.ensures.items) (none_more c.threads.joined.items c.threads.invariant.1),
)

pub returns-clause-wide : goal.returns-clause-wide
returns-clause-wide c = c.threads.invariant.0 ∙ (let e : c.threads.counter ≡ c.args.threads = omega (arith, c.threads.auto.counter-end, c.threads-test.false) in e)

pub returns-clause-none : goal.returns-clause-none
returns-clause-none c = c.threads.invariant.1
