use Rattle.std.proofs.Common.{◌∙◌, sym, ap}
use Rattle.te_search.specs.Plantings.{has_number}
use Rattle.te_search.proofs.MembersPicked.{number_in}
use Rattle.te_search.proofs.planted.PlantedThreads.has.Goals as goal

pub returns-in-Some : goal.returns-in-Some
returns-in-Some c = sym (ap (λ l. has_number l c.args.thread) (sym (c.deref.ensures.value ∙ c.self.view_is))
    ∙ number_in c.deref.result.now c.args.thread c.in-Some.field-0 c.in-Some.ensures.0)
