use Rattle.std.proofs.Common.{◌≡◌, ◌+◌, ◌*◌, ◌^◌, min, take, Some, slice_get, ap, ap₂, sym, ◌∙◌}
use Rattle.te_terms.specs.Measures.{counts_of, choice_count, send_count}
use Rattle.te_terms.specs.Joint.{as_group}
use Rattle.te_search.specs.Bounds.{over_all}
use Rattle.te_terms.proofs.Lists.{found_here}
use Rattle.te_search.proofs.CappedCounts.{grown_next, over_next}
use Rattle.te_search.proofs.bound.grown.Goals as goal

pub parked-preserved : goal.parked-preserved
parked-preserved c =
    let at : slice_get c.args.parked.now c.parked.i ≡ Some c.index-parked-i.result =
    found_here c.args.parked.now c.parked.i c.index-parked-i.result c.parked-test.true c.index-parked-i.is in
    let counts : c.counts-counts.result ≡ counts_of c.index-parked-i.result.event = c.counts-counts.ensures.value ∙ ap (λ q. counts_of q.event) (sym c.index-parked-i.is) in
    let n = c.args.number in
    let f = c.args.factor in
    let choices = over_all choice_count (as_group (take c.parked.i c.args.parked.now)) in
    let sends = over_all send_count (as_group (take c.parked.i c.args.parked.now)) in
    let x = c.counts-counts.result.choices in
    let y = c.counts-counts.result.sends in
    c.raised-product.ensures ∙ ap (λ k. min (k * f ^ y) 1000001) (c.raised.ensures ∙ ap (λ k. min (k * 3 ^ x) 1000001) c.parked.invariant)
    ∙ grown_next n f choices sends x y 1000001
    ∙ ap₂ (λ i j. min (n * (3 ^ i * f ^ j)) 1000001)
    (ap (λ k. choices + k.choices) counts ∙ sym (over_next choice_count c.args.parked.now c.parked.i c.index-parked-i.result at))
    (ap (λ k. sends + k.sends) counts ∙ sym (over_next send_count c.args.parked.now c.parked.i c.index-parked-i.result at))
