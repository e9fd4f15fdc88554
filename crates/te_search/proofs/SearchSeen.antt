-- How a search in batches is seen from outside.
use Rattle.std.proofs.Common.{◌≡◌, true, false, Option, Some, None, ap, sym, ◌∙◌}
use Rattle.te_search.specs.declared.batched.Batched.{Batched}
use Rattle.te_search.specs.Batches.{Batches}
use Rattle.te_search.specs.Batching.{batches_of}

pub seen_as : (taken : Option Batched) (s : Batched) (view : Batches) → taken ≡ Some s → batches_of taken ≡ view → batches_of (Some s) ≡ view
seen_as taken s view is seen = sym (ap batches_of is) ∙ seen

-- one that goes on is held
pub held : (taken : Option Batched) (view : Batches) → taken ≡ None → batches_of taken ≡ view → view.goes_on ≡ true → ⊥
held taken view is seen goes = stopped (ap (λ (s : Batches). s.goes_on) (sym (ap batches_of is) ∙ seen) ∙ goes)
  where
    stopped : false ≡ true → ⊥
    stopped e = cc
