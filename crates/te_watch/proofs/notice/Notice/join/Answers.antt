use Rattle.std.proofs.Common.{◌≤◌, List, length, sym, ap, ◌∙◌, subst, arith}
use mathlib.Core.List.{IsPrefix}
use Rattle.te_watch.specs.declared.ledger.Batch.{Batch}
use Rattle.te_watch.specs.Shadows.{Shadow}
use Rattle.te_watch.specs.Watches.{Published}
use Rattle.te_watch.specs.Ledgers.{all_of}
use Rattle.te_watch.proofs.Counting.{joined_first, joined_second, joined_as}
use Rattle.te_watch.proofs.notice.Notice.join.Goals as goal

pub returns-then-front-clause-list : goal.returns-then-front-clause-list
returns-then-front-clause-list c =
    let both = c.learn.new.self.log in
    let one = c.self.inside.seen.log in
    let other = c.other.inside.seen.log in
    let begins : IsPrefix one both = subst (λ (l : List Batch). IsPrefix l both) (ap (λ s. s.log) c.again-both.ensures) c.learn.ensures.2 in
    let fronts = ap (λ (s : Shadow). s.front) c.self.invariant.0 in
    let its_fronts = ap (λ (s : Shadow). s.front) c.other.invariant.0 in
    let less : length (all_of one) ≤ length (all_of other) = omega (arith, fronts, its_fronts, c.front.ensures, c.front-2.ensures, c.if-front.true) in
    let mine = ap (λ (p : Published). p.list) c.self.view_is in
    let its = ap (λ (p : Published). p.list) c.other.view_is in
    let now = ap (λ (p : Published). p.list) (c.drop.view_is ∙ c.copy.ensures) in
    joined_as mine its (its ∙ sym now) (joined_second one other both begins c.learn.ensures.3 less)

pub returns-clause-list : goal.returns-clause-list
returns-clause-list c =
    let both = c.learn.new.self.log in
    let one = c.self.inside.seen.log in
    let other = c.other.inside.seen.log in
    let begins : IsPrefix one both = subst (λ (l : List Batch). IsPrefix l both) (ap (λ s. s.log) c.again-both.ensures) c.learn.ensures.2 in
    let fronts = ap (λ (s : Shadow). s.front) c.self.invariant.0 in
    let its_fronts = ap (λ (s : Shadow). s.front) c.other.invariant.0 in
    let less : length (all_of other) ≤ length (all_of one) = omega (arith, fronts, its_fronts, c.front.ensures, c.front-2.ensures, c.if-front.false) in
    let mine = ap (λ (p : Published). p.list) c.self.view_is in
    let its = ap (λ (p : Published). p.list) c.other.view_is in
    joined_as mine its mine (joined_first one other both begins c.learn.ensures.3 less)
