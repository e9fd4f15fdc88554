use Rattle.std.proofs.Common.{◌≡◌, ◌∙◌, ap, sym, subst, arith, ◌<◌, take, length, get_or, not}
use Rattle.std.specs.List.Sorted.{IsPermutation, IsStrictlyIncreasing}
use Rattle.std.proofs.lemmas.List.Elements.{Contains-get_or}
use Rattle.te_trail.specs.Clocks.{Agree}
use Rattle.te_trail.specs.Trails.{AreAgreeing, TellsWhether}
use Rattle.te_pair.specs.Ends.{paths_at}
use Rattle.te_terms.proofs.Lists.{take_all}
use Rattle.te_pair.proofs.PartnersFound.{Picks, kept_low, agrees, differs, found_exact, found_rise, walk_more, walk_pass}
use Rattle.te_pair.proofs.waiting.Waiting.partners.Goals.{then-agree+in_ok-push, else-agree}
use Rattle.te_pair.proofs.waiting.Waiting.partners.Goals as goal

pub agree-requires-clause-q_within : goal.agree-requires-clause-q_within
agree-requires-clause-q_within c = kept_low c.args.store.now c.args.self.now c.end_of-own.result.channel
    (not c.end_of-own.result.sends) c.ends-ends.result.now _ c.requires.ends c.ends-ends.ensures.there
    (Contains-get_or c.ends-ends.result.now c.ends.i 0 c.ends-test.true)

pub ends-preserved : goal.ends-preserved
ends-preserved c =
    let low : get_or c.ends-ends.result.now c.ends.i 0 < length c.args.store.now.paths =
    kept_low c.args.store.now c.args.self.now c.end_of-own.result.channel
    (not c.end_of-own.result.sends) c.ends-ends.result.now _ c.requires.ends c.ends-ends.ensures.there
    (Contains-get_or c.ends-ends.result.now c.ends.i 0 c.ends-test.true) in
    elim c.if-agree.branch [
      | then-agree+in_ok-push w ↦ walk_more (AreAgreeing c.args.store.now c.args.p) c.ends-ends.result.now c.ends.found.items c.if-agree.found.items c.ends.i c.ends-test.true c.ends.invariant
          (agrees c.args.store.now c.args.p (get_or c.ends-ends.result.now c.ends.i 0)
          (subst (TellsWhether c.args.store.now.paths c.args.p (get_or c.ends-ends.result.now c.ends.i 0) Agree)
          w.if-agree.true c.agree.ensures.clocks))
          (ap (λ v. v.items) w.found-is ∙ w.in_ok-push.ensures.items)
      | else-agree w ↦ walk_pass (AreAgreeing c.args.store.now c.args.p) c.ends-ends.result.now c.if-agree.found.items
          c.ends.i c.ends-test.true (subst (λ v. Picks (AreAgreeing c.args.store.now c.args.p)
          (take c.ends.i c.ends-ends.result.now) v.items) (sym w.found-is) c.ends.invariant)
          (differs c.args.store.now c.args.p (get_or c.ends-ends.result.now c.ends.i 0) c.requires.path low
          (subst (TellsWhether c.args.store.now.paths c.args.p (get_or c.ends-ends.result.now c.ends.i 0) Agree)
          w.if-agree.false c.agree.ensures.clocks))
    ]

pub returns-clause-rising : goal.returns-clause-rising
returns-clause-rising c =
    let all : take c.ends.i c.ends-ends.result.now ≡ c.ends-ends.result.now = take_all c.ends-ends.result.now c.ends.i (omega (arith, c.ends-test.false)) in
    subst IsStrictlyIncreasing (sym c.from.ensures) (found_rise
    (AreAgreeing c.args.store.now c.args.p) c.ends-ends.result.now c.ends.found.items c.sort_unstable.new.self.items
    c.ends-ends.ensures.once (subst (λ xs. Picks (AreAgreeing c.args.store.now c.args.p) xs c.ends.found.items) all
    c.ends.invariant) c.sort_unstable.ensures.permutation c.sort_unstable.ensures.sorted)

pub returns-clause-exact : goal.returns-clause-exact
returns-clause-exact c =
    let all : take c.ends.i c.ends-ends.result.now ≡ paths_at c.end_of-own.result.channel
    (not c.end_of-own.result.sends) c.args.self.now = take_all c.ends-ends.result.now c.ends.i
    (omega (arith, c.ends-test.false)) ∙ c.ends-ends.ensures.there in
    λ q. found_exact c.args.store.now c.args.self.now c.args.p c.end_of-own.result c.ends.found.items c.from.result
    (record { path = c.end_of-own.ensures.path; is = c.end_of-own.ensures.is; only = c.end_of-own.ensures.only })
    (subst (λ xs. Picks (AreAgreeing c.args.store.now c.args.p) xs c.ends.found.items) all c.ends.invariant)
    (subst (IsPermutation c.ends.found.items) (sym c.from.ensures) c.sort_unstable.ensures.permutation) q
