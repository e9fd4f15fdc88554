use Rattle.std.proofs.Common.{◌∙◌, ap, sym, subst, refl}
use Rattle.te_terms.specs.Joint.{IsGroup, as_group}
use Rattle.te_trail.specs.Trails.{unplanted}
use Rattle.te_search.proofs.BatchesTaken.{starts_none}
use Rattle.te_search.proofs.batched.Batched.unplanted.Goals as goal

pub returns-clause-starting : goal.returns-clause-starting
returns-clause-starting c = starts_none _ (subst (λ p. IsGroup (as_group p))
    (sym c.in_ok-copies.ensures) c.requires.rising)
    (c.in_ok-store.ensures ∙ ap (λ p. unplanted (as_group p))
    (sym c.in_ok-copies.ensures)) c.len-paths.ensures.store c.new-2.ensures c.new-3.ensures.items
    c.new-4.ensures.items c.new-5.ensures
    c.new-6.ensures refl refl refl c.requires.budget
