use Rattle.std.proofs.Common.{◌∙◌, ap, map}
use Rattle.std.specs.List.{remove}
use Rattle.te_search.proofs.ListsChange.{remove_map}
use Rattle.te_search.proofs.listed.ParkedList.remove.Goals as goal

pub returns : goal.returns
returns c = ap (map (λ b. b.value)) c.remove-gone.ensures.items ∙ remove_map (λ b. b.value) c.self.inside.blocks.items c.args.i ∙ ap (λ l. remove l c.args.i) c.self.view_is
