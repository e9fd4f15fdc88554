use Rattle.std.proofs.Common.{arith, ◌<◌, ◌∙◌, ap, Some, None, length}
use Rattle.te_search.proofs.Trying.{final_not, finals_more, finals_without}
use Rattle.te_terms.proofs.Lists.{get_low, get_at}
use Rattle.te_search.proofs.assembly.open_place.Goals as goal

pub returns-then-not-is_final : goal.returns-then-not-is_final
returns-then-not-is_final c = (
  c.in-Some.p,
  get_at c.args.joined.now c.places.i None c.places-test.true
      ∙ ap Some c.in-Some.is,
  final_not c.args.store.now.events c.args.store.now.paths c.in-Some.p c.is_final.result c.is_final.ensures c.if-not-is_final.true,
)

pub places-preserved-in_default : goal.places-preserved-in_default
places-preserved-in_default c = finals_without c.args.store.now.events c.args.store.now.paths c.args.joined.now c.places.i (λ x e. c.in_default.not-Some x e) c.places-test.true c.places.invariant

pub places-preserved : goal.places-preserved
places-preserved c = finals_more c.args.store.now.events c.args.store.now.paths c.args.joined.now c.places.i c.in-Some.p c.is_final.result
    (get_at c.args.joined.now c.places.i None c.places-test.true ∙ ap Some c.in-Some.is) c.is_final.ensures c.if-not-is_final.false c.places.invariant

pub returns : goal.returns
returns c i m x e f = c.places.invariant i m x (let h : i < length c.args.joined.now = get_low c.args.joined.now (Some m) i e in let z : i < c.places.i = omega
    (arith, h, c.places-test.false) in z) e f
