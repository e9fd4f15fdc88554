use Rattle.std.proofs.Common.{◌≡◌, ◌+◌, ◌*◌, ◌^◌, min, length, ap, ap₂, ◌∙◌}
use Rattle.te_terms.specs.Measures.{choice_count, send_count}
use Rattle.te_terms.specs.Joint.{as_group}
use Rattle.te_search.specs.Bounds.{over_all}
use Rattle.te_search.proofs.CappedCounts.{paths_capped}
use Rattle.te_search.proofs.bound.paths_in.Goals as goal

pub returns : goal.returns
returns c =
    let g = as_group c.args.parked.now in
    c.grown.ensures ∙ ap₂ (λ k r. min (k * (3 ^ over_all choice_count g * (r + 1) ^ over_all send_count g)) 1000001) c.min-events.ensures c.receives_in.ensures
    ∙ paths_capped c.args.parked.now 1000000
