use Rattle.std.proofs.Common.{arith, ◌≡◌, ◌<◌, ◌+◌, ◌++◌, ◌∷◌, [], ◌∙◌, ap, sym, subst, Some, None, length, length-append}
use Rattle.te_search.specs.Assemblies.{AreNumbers, later_number}
use Rattle.te_search.proofs.Trying.{takes_more, takes_all, numbers_more, TakesTo}
use Rattle.te_terms.proofs.Lists.{get_at}
use Rattle.te_search.proofs.assembly.take_in.Goals as goal

pub places-preserved : goal.places-preserved
places-preserved c =
    let j : c.places.i < length c.args.joined.now = omega (arith, c.places-test.true, c.requires.wide) in
    let is : c.push.new.self.items ≡ c.places.more.items ++ (c.later.result ∷ []) = c.in_ok-push.ensures.items in
    let to : c.places.more.items ++ (later_number c.clock-own.result _ ∷ []) ≡ c.push.new.self.items = ap (λ o. c.places.more.items ++ (o ∷ [])) (sym c.later.ensures) ∙ sym is in (
      ap length is ∙ length-append c.places.more.items (c.later.result ∷ []) ∙ ap (λ n. n + 1) c.places.invariant.0,
      subst (AreNumbers c.args.store.now.paths) to (numbers_more c.args.store.now.paths c.args.p _ c.places.more.items c.clock-own.result _ c.requires.path c.clock-own.ensures
          (λ m e. c.requires.numbers c.places.i m (get_at c.args.joined.now c.places.i None j ∙ ap Some e)) c.places.invariant.1),
      subst (λ l. TakesTo c.args.store.now.paths c.args.threads.now c.args.p c.args.joined.now l (c.places.i + 1)) to
          (takes_more c.args.store.now.paths c.args.threads.now c.args.p c.args.joined.now c.places.more.items c.places.i _ c.clock-own.result _ c.requires.ups
          c.len-paths.ensures.store.once c.places.invariant.0
          (get_at c.args.threads.now c.places.i 0 c.places-test.true) (get_at c.args.joined.now c.places.i None j) c.clock-own.ensures c.places.invariant.2),
    )

pub returns-clause-taken : goal.returns-clause-taken
returns-clause-taken c =
    let end : c.places.i ≡ length c.args.threads.now = omega (arith, c.places.auto.i-end, c.places-test.false) in
    takes_all c.args.store.now.paths c.args.threads.now c.args.p c.args.joined.now c.places.more.items (c.places.invariant.0 ∙ end)
    (subst (TakesTo c.args.store.now.paths c.args.threads.now c.args.p c.args.joined.now c.places.more.items) end c.places.invariant.2)
