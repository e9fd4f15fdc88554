use Rattle.std.proofs.Common.{rules, ◌≡◌, ◌++◌, ◌∷◌, [], ◌∙◌, ap, refl, length, vec_len}
use Rattle.te_search.proofs.StacksMove.{begin_stack}
use Rattle.te_search.proofs.stack.Stack.begin.Goals as goal

pub returns-clause-ok : goal.returns-clause-ok
returns-clause-ok c =
    let a : vec_len c.args.self.now.work.moves ≡ length c.args.self.now.work.moves.items = search rules in
    begin_stack c.args.self.now _ (record {
      moves = c.len.result;
      waiting = c.mark-2.result;
      finals = c.len-2.result;
      groups = c.args.self.now.work.groups;
    }) c.requires.stack refl refl
    (c.push_reserved.ensures.items ∙ ap (λ l. l ++ (record {
      moves = c.len.result;
      waiting = c.mark-2.result;
      finals = c.len-2.result;
      groups = c.args.self.now.work.groups;
    } ∷ [])) c.in_ok-reserve.ensures.items)
    c.in_ok-mark.ensures.ok refl refl refl refl refl (c.len.ensures ∙ a) c.mark-2.ensures c.len-2.ensures refl
