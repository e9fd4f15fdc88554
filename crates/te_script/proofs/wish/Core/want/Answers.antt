use Rattle.std.proofs.Common.{rules, ◌≡◌, ◌+◌, ◌≤◌, ◌∷◌, drop, length, map, sym, ap, subst, ◌∙◌}
use Rattle.std.specs.Prelude.{IfOk}
use Rattle.std.proofs.lemmas.Bool.{ltb-true, ltb-false}
use Rattle.te_terms.specs.Terms.{closed}
use Rattle.te_terms.specs.Codes.{term_under}
use Rattle.te_script.specs.declared.wish.Want.TheVariants as wants
use Rattle.te_script.specs.Scripts.{sync}
use Rattle.te_script.specs.Wishes.{wish, syncs, Wish}
use Rattle.te_script.specs.Cores.{At, wish_at}
use Rattle.te_script.specs.Wants.{IsWant, IsOfText}
use Rattle.te_script.specs.Texts.{statement_of}
use Rattle.te_script.proofs.WantsTold.{stands_at, no_emit, no_repeat, sync_wish, of_statement, told_of_text, told_after, done_wish}
use Rattle.te_terms.proofs.Lists.{if_ok}
use Rattle.te_script.proofs.WishReached.{wish_after}
use Rattle.te_script.proofs.wish.Core.want.Goals as goal

pub unreachable-requires : goal.unreachable-requires
unreachable-requires c =
    let is : map statement_of c.statements.result.now ≡ c.self.inside.text.value.statements = c.statements.ensures.value ∙ ap (λ t. t.statements) c.deref.ensures in
    let lt = ltb-true c.self.inside.spot.place (length c.statements.result.now) (sym c.in-Some-Emit.ensures.lookup.0) in
    let here = stands_at c.self.inside.text.value.statements c.statements.result.now c.self.inside.spot.place c.in-Some-Emit.field-0.now is lt c.in-Some-Emit.ensures.lookup.1 in
    no_emit c.self.inside.spot _ _ c.in-Some-Emit.field-0.now c.in-Some-Emit.field-0-0 c.self.invariant.at here c.in-Some-Emit.field-0-is

pub unreachable-requires-in-Some-Repeat : goal.unreachable-requires-in-Some-Repeat
unreachable-requires-in-Some-Repeat c =
    let is : map statement_of c.statements.result.now ≡ c.self.inside.text.value.statements = c.statements.ensures.value ∙ ap (λ t. t.statements) c.deref.ensures in
    let lt = ltb-true c.self.inside.spot.place (length c.statements.result.now) (sym c.in-Some-Repeat.ensures.lookup.0) in
    let here = stands_at c.self.inside.text.value.statements c.statements.result.now c.self.inside.spot.place c.in-Some-Repeat.field-0.now is lt c.in-Some-Repeat.ensures.lookup.1 in
    no_repeat c.self.inside.spot _ _ c.in-Some-Repeat.field-0.now c.in-Some-Repeat.field-0-0 c.in-Some-Repeat.field-0-1 c.self.invariant.at here c.in-Some-Repeat.field-0-is

-- the sync at which the core stands
at_sync : (c : goal.After-sync_want) → drop c.self.inside.spot.place c.self.inside.text.value.statements ≡ sync c.in-Some-Sync.field-0-0
    (term_under c.in-Some-Sync.code.value c.in-Some-Sync.root) ∷ drop (c.self.inside.spot.place + 1) (map statement_of c.statements.result.now)
at_sync c =
    let is : map statement_of c.statements.result.now ≡ c.self.inside.text.value.statements = c.statements.ensures.value ∙ ap (λ t. t.statements) c.deref.ensures in
    let lt = ltb-true c.self.inside.spot.place (length c.statements.result.now) (sym c.in-Some-Sync.ensures.lookup.0) in
    let here = stands_at c.self.inside.text.value.statements c.statements.result.now c.self.inside.spot.place c.in-Some-Sync.field-0.now is lt c.in-Some-Sync.ensures.lookup.1 in
    here ∙ ap (λ s. statement_of s ∷ drop (c.self.inside.spot.place + 1) (map statement_of c.statements.result.now)) c.in-Some-Sync.field-0-is

pub returns-in-Some-Sync-clause-wish : goal.returns-in-Some-Sync-clause-wish
returns-in-Some-Sync-clause-wish c =
    let told = sync_wish c.self.inside.regs c.self.inside.emitted.items c.self.inside.raised c.self.inside.spot _ _ c.in-Some-Sync.field-0-0
    (term_under c.in-Some-Sync.code.value c.in-Some-Sync.root) c.in_default.is c.self.invariant.at (at_sync c) in
    subst (λ (a : At). IfOk c.sync_want.result (λ want. IsWant (wish_at a.stand) want)) c.self.view_is (subst (λ w. IfOk c.sync_want.result (λ want.
    IsWant w want)) (sym told) c.sync_want.ensures.wish)

pub returns-in-Some-Sync-clause-after : goal.returns-in-Some-Sync-clause-after
returns-in-Some-Sync-clause-after c = λ so_far is.
    subst (λ (w : Wish). IfOk c.sync_want.result (λ want. IsWant w want)) (ap (λ (a : At). wish_at a.stand) is ∙ wish_after c.args.self.now.thread so_far) (returns-in-Some-Sync-clause-wish c)

pub returns-in-Some-Sync-clause-of_text : goal.returns-in-Some-Sync-clause-of_text
returns-in-Some-Sync-clause-of_text c =
    let event = closed c.self.inside.regs (term_under c.in-Some-Sync.code.value c.in-Some-Sync.root) in
    let of = of_statement c.self.inside.text.value c.self.inside.regs _ c.self.inside.spot.place c.in-Some-Sync.field-0-0
    (term_under c.in-Some-Sync.code.value c.in-Some-Sync.root) c.sync_want.ensures.eight (at_sync c) in
    subst (λ (a : At). IfOk c.sync_want.result (λ want. IsOfText a.thread want)) c.self.view_is
    (if_ok (λ want. IsWant (syncs event) want) (λ want. IsOfText c.self.inside.text.value want) c.sync_want.result (λ want.
    told_of_text c.self.inside.text.value event want of) c.sync_want.ensures.wish)

pub returns-in-Some-clause-after : goal.returns-in-Some-clause-after
returns-in-Some-clause-after c = λ so_far is. told_after c.args.self.now so_far (wants.Raised c.in-Some.value) (search rules) is

pub returns-in-None-clause-wish : goal.returns-in-None-clause-wish
returns-in-None-clause-wish c =
    let is : map statement_of c.statements.result.now ≡ c.self.inside.text.value.statements = c.statements.ensures.value ∙ ap (λ t. t.statements) c.deref.ensures in
    let past : length c.statements.result.now ≤ c.self.inside.spot.place = ltb-false c.self.inside.spot.place (length c.statements.result.now) (sym c.in-None.ensures.lookup.0) in
    subst (λ (a : At). IsWant (wish_at a.stand) wants.Done) c.self.view_is
    (rw (done_wish c.self.inside.regs c.self.inside.emitted.items c.self.inside.raised c.self.inside.spot _ c.statements.result.now c.in_default.is c.self.invariant.at is past) tt)

pub returns-in-None-clause-after : goal.returns-in-None-clause-after
returns-in-None-clause-after c = λ so_far is. told_after c.args.self.now so_far wants.Done (returns-in-None-clause-wish c) is
