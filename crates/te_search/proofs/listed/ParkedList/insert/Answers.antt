use Rattle.std.proofs.Common.{◌∙◌, ap, ap₂, map}
use Rattle.std.specs.List.{insert}
use Rattle.te_search.proofs.ListsChange.{insert_map}
use Rattle.te_search.proofs.listed.ParkedList.insert.Goals as goal

pub returns-clause-ok : goal.returns-clause-ok
returns-clause-ok c = ap (map (λ b. b.value)) c.in_ok-insert.ensures.items ∙ insert_map (λ b. b.value) c.self.inside.blocks.items c.args.i c.in_ok-block.block
    ∙ ap₂ (λ l x. insert l c.args.i x) c.self.view_is c.in_ok-block.ensures.ok
