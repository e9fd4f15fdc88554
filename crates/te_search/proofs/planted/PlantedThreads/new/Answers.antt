use Rattle.std.proofs.Common.{sym, subst, refl}
use Rattle.te_search.specs.Plantings.{IsTabled}
use Rattle.te_search.proofs.TableTells.{tabled_none}
use Rattle.te_search.proofs.planted.PlantedThreads.new.Goals as goal

pub invariant_of-result : goal.invariant_of-result
invariant_of-result c = subst (λ l. IsTabled l _) (sym c.new.ensures.items) (tabled_none _ refl refl)
