use Rattle.std.proofs.Common.{◌≡◌, ◌∙◌, ap, sym}
use Rattle.te_script.specs.Cores.{At}
use Rattle.te_script.proofs.WishReached.{emitted_after}
use Rattle.te_script.proofs.wish.Core.emitted.Goals as goal

pub returns-clause-after : goal.returns-clause-after
returns-clause-after c = λ so_far is. c.as_slice.ensures.value ∙ ap (λ (a : At). a.stand.emitted) (c.self.view_is ∙ is) ∙ emitted_after c.args.self.now.thread so_far
