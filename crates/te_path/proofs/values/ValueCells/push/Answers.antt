use Rattle.std.proofs.Common.{rules, ◌≡◌, [], ◌∷◌, ◌++◌, length, ap, ◌∙◌}
use Rattle.te_path.specs.Chains.{inner_at}
use Rattle.te_path.proofs.ValuesChained.{cell_pushed}
use Rattle.te_path.proofs.values.ValueCells.push.Goals as goal

pub invariant_of-self-2 : goal.invariant_of-self-2
invariant_of-self-2 c =
    let items : c.push.new.self.items ≡ c.self.inside.list.items ++ (record { value = c.args.value.now; parent = c.args.parent; level = c.level-level.result }) ∷ [] = search rules in
    (cell_pushed c.self.inside.list.items c.self.invariant c.args.value.now c.args.parent c.level-level.result (rw c.self.view_is c.requires)
    (search rules) (search rules) c.push.new.self.items items).0

pub returns-clause-linked : goal.returns-clause-linked
returns-clause-linked c =
    let items : c.push.new.self.items ≡ c.self.inside.list.items ++ (record { value = c.args.value.now; parent = c.args.parent; level = c.level-level.result }) ∷ [] = search rules in
    (cell_pushed c.self.inside.list.items c.self.invariant c.args.value.now c.args.parent c.level-level.result (rw c.self.view_is c.requires)
    (search rules) (search rules) c.push.new.self.items items).0.linked

pub returns-clause-ok : goal.returns-clause-ok
returns-clause-ok c =
    let items : c.push.new.self.items ≡ c.self.inside.list.items ++ (record { value = c.args.value.now; parent = c.args.parent; level = c.level-level.result }) ∷ [] = search rules in
    let link : c.len-2.result ≡ length c.push.new.self.items = search rules in (
      link,
      rw (← c.self.view_is) (ap (inner_at c.push.new.self.items) link ∙ (cell_pushed c.self.inside.list.items c.self.invariant c.args.value.now
          c.args.parent c.level-level.result (rw c.self.view_is c.requires) (search rules) (search rules) c.push.new.self.items items).1),
    )
