use Rattle.std.proofs.Common.{◌≡◌, ◌+◌, min, take, Some, slice_get, ap, sym, ◌∙◌}
use Rattle.te_terms.specs.Measures.{counts_of, receive_count}
use Rattle.te_terms.specs.Joint.{as_group}
use Rattle.te_search.specs.Bounds.{over_all}
use Rattle.te_terms.proofs.Lists.{found_here}
use Rattle.te_search.proofs.CappedCounts.{capped_plus, over_next}
use Rattle.te_search.proofs.bound.receives_in.Goals as goal

pub parked-preserved : goal.parked-preserved
parked-preserved c =
    let at : slice_get c.args.parked.now c.parked.i ≡ Some c.index-parked-i.result =
    found_here c.args.parked.now c.parked.i c.index-parked-i.result c.parked-test.true c.index-parked-i.is in
    let counts : c.counts.result ≡ counts_of c.index-parked-i.result.event = c.counts.ensures.value ∙ ap (λ q. counts_of q.event) (sym c.index-parked-i.is) in
    let old = over_all receive_count (as_group (take c.parked.i c.args.parked.now)) in
    c.min-receives.ensures ∙ ap (λ n. min (n + c.counts.result.receives) 1000000) c.parked.invariant ∙ capped_plus old c.counts.result.receives 1000000
    ∙ ap (λ n. min n 1000000) (ap (λ k. old + k.receives) counts ∙ sym (over_next receive_count c.args.parked.now c.parked.i c.index-parked-i.result at))
