use Rattle.std.proofs.Common.{ℕ, List, [], ◌∷◌, ◌++◌, take, get_or, ap, sym, ◌∙◌, subst, append_assoc}
use Rattle.std.proofs.lemmas.List.{take_more, take_all}
use Rattle.te_steal.specs.Stolen.{AreLooksAt}
use Rattle.te_steal.proofs.gathering.look_at_left.Goals as goal

pub left-preserved : goal.left-preserved
left-preserved c =
    let is = c.left.invariant in
    let left = c.args.left.now in
    let i = c.left.i in (
      c.look_into.ensures.count ∙ is.0,
      λ took are.
          let more = append_assoc took (take i left) (get_or left i 0 ∷ []) ∙ ap (λ (l : List ℕ). took ++ l) (sym (take_more left i 0 c.left-test.true)) in
          subst (λ l. AreLooksAt c.args.search.now c.args.batch.now l c.look_into.new.looks c.look_into.new.whole) more
          (c.look_into.ensures.looks (took ++ take i left) (is.1 took are)),
    )

pub returns-clause-looks : goal.returns-clause-looks
returns-clause-looks c = λ took are.
    subst (λ l. AreLooksAt c.args.search.now c.args.batch.now (took ++ l) c.left.looks c.left.whole) (take_all c.left.i c.args.left.now c.left-test.false)
    (c.left.invariant.1 took are)
