use Rattle.std.proofs.Common.{rules, ◌≡◌, ◌+◌, ◌≤◌, ◌<◌, drop, length, map, slice_set, vec_capacity, ap, subst, sym, ◌∙◌, arith}
use Rattle.std.proofs.lemmas.List.{length-set}
use Rattle.te_terms.specs.declared.event.Outcome.TheVariants.{Gives}
use Rattle.te_script.specs.Cores.{At, moved, next_at, next_of, steps_left_at, IsWaiting, IsCore}
use Rattle.te_script.specs.Texts.{statement_of}
use Rattle.te_script.proofs.CoreMoves.{waits_itself, one_of_eight, stands_given, core_given}
use Rattle.te_script.proofs.OneMore.{moved_after}
use Rattle.te_script.proofs.wish.Core.give.Goals as goal

pub bounds-self-inside-register_at : goal.bounds-self-inside-register_at
bounds-self-inside-register_at c =
    let first : map statement_of c.statements-in-Gives.result.now ≡ c.self.inside.text.value.statements = c.statements-in-Gives.ensures.value ∙ ap (λ t. t.statements) c.deref-in-Gives.ensures in
    let waits : IsWaiting (next_at c.self.inside.raised c.self.inside.regs (steps_left_at c.self.inside.spot c.self.inside.text.value.statements)) = subst
    (λ (a : At). IsWaiting a.stand.next) (sym c.self.view_is) c.requires in
    let eight = one_of_eight c.self.inside.text.value c.statements-in-Gives.result.now c.statements-in-Gives.result.now c.self.inside.spot c.register_at.result first first c.register_at.ensures
    (rw c.deref-in-Gives.ensures at c.statements-in-Gives.ensures.thread) c.self.invariant.at (waits_itself c.self.inside.raised c.self.inside.regs _ waits) in
    eight

pub offset_bounds-self-inside-register_at : goal.offset_bounds-self-inside-register_at
offset_bounds-self-inside-register_at c =
    let first : map statement_of c.statements-in-Gives.result.now ≡ c.self.inside.text.value.statements = c.statements-in-Gives.ensures.value ∙ ap (λ t. t.statements) c.deref-in-Gives.ensures in
    let waits : IsWaiting (next_at c.self.inside.raised c.self.inside.regs (steps_left_at c.self.inside.spot c.self.inside.text.value.statements)) = subst
    (λ (a : At). IsWaiting a.stand.next) (sym c.self.view_is) c.requires in
    let eight = one_of_eight c.self.inside.text.value c.statements-in-Gives.result.now c.statements-in-Gives.result.now c.self.inside.spot c.register_at.result first first c.register_at.ensures
    (rw c.deref-in-Gives.ensures at c.statements-in-Gives.ensures.thread) c.self.invariant.at (waits_itself c.self.inside.raised c.self.inside.regs _ waits) in
    omega (arith, eight)

pub listed : goal.listed
listed c =
    let first : map statement_of c.statements-in-Gives.result.now ≡ c.self.inside.text.value.statements = c.statements-in-Gives.ensures.value ∙ ap (λ t. t.statements) c.deref-in-Gives.ensures in
    let waits : IsWaiting (next_at c.self.inside.raised c.self.inside.regs (steps_left_at c.self.inside.spot c.self.inside.text.value.statements)) = subst
    (λ (a : At). IsWaiting a.stand.next) (sym c.self.view_is) c.requires in
    let eight = one_of_eight c.self.inside.text.value c.statements-in-Gives.result.now c.statements-in-Gives.result.now c.self.inside.spot c.register_at.result first first c.register_at.ensures
    (rw c.deref-in-Gives.ensures at c.statements-in-Gives.ensures.thread) c.self.invariant.at (waits_itself c.self.inside.raised c.self.inside.regs _ waits) in
    omega (arith, eight, c.type_inv.self-inside)

pub returns-in-Raises-clause-after : goal.returns-in-Raises-clause-after
returns-in-Raises-clause-after c = λ so_far is. moved_after c.args.self.now _ so_far c.args.outcome (search rules) is

pub returns-in-Gives-clause-moves : goal.returns-in-Gives-clause-moves
returns-in-Gives-clause-moves c =
    let first : map statement_of c.statements-in-Gives.result.now ≡ c.self.inside.text.value.statements = c.statements-in-Gives.ensures.value ∙ ap (λ t. t.statements) c.deref-in-Gives.ensures in
    let waits : IsWaiting (next_at c.self.inside.raised c.self.inside.regs (steps_left_at c.self.inside.spot c.self.inside.text.value.statements)) = subst
    (λ (a : At). IsWaiting a.stand.next) (sym c.self.view_is) c.requires in
    let eight = one_of_eight c.self.inside.text.value c.statements-in-Gives.result.now c.statements-in-Gives.result.now c.self.inside.spot c.register_at.result first first c.register_at.ensures
    (rw c.deref-in-Gives.ensures at c.statements-in-Gives.ensures.thread) c.self.invariant.at (waits_itself c.self.inside.raised c.self.inside.regs _ waits) in
    let second : map statement_of c.statements-in-Gives-2.result.now ≡ c.self.inside.text.value.statements = c.statements-in-Gives-2.ensures.value ∙
    ap (λ t. t.statements) c.deref-in-Gives-2.ensures in
    let stands = stands_given c.self.inside.text.value c.statements-in-Gives.result.now c.statements-in-Gives-2.result.now c.self.inside.spot c.register_at.result first second c.register_at.ensures
    c.self.inside.regs c.self.inside.raised c.go_on-stop.result.raised c.self.inside.emitted.items c.go_on-stop.new.emitted.items c.in-Gives.value
    c.go_on-stop.result.spot (omega (
      arith,
      eight,
      c.go_on-stop.ensures.eight,
      length-set c.self.inside.regs c.register_at.result
          c.in-Gives.value,
    )) waits c.go_on-stop.ensures.settles in
    let here : At = record {
      thread = c.self.inside.text.value;
      stand = record {
        emitted = c.go_on-stop.new.emitted.items;
        next = next_at
            c.go_on-stop.result.raised (slice_set c.self.inside.regs c.register_at.result c.in-Gives.value) (steps_left_at c.go_on-stop.result.spot
            c.self.inside.text.value.statements);
      };
    } in
    rw c.in-Gives.is (subst (λ (a : At). here ≡ record { thread = a.thread; stand = moved a.stand.emitted a.stand.next (Gives c.in-Gives.value) })
    c.self.view_is (λ i. record { thread = c.self.inside.text.value; stand = stands i }))

pub returns-in-Gives-clause-after : goal.returns-in-Gives-clause-after
returns-in-Gives-clause-after c = λ so_far is. moved_after c.args.self.now _ so_far c.args.outcome (returns-in-Gives-clause-moves c) is

pub invariant_of-self-in-Gives : goal.invariant_of-self-in-Gives
invariant_of-self-in-Gives c =
    let first : map statement_of c.statements-in-Gives.result.now ≡ c.self.inside.text.value.statements = c.statements-in-Gives.ensures.value ∙ ap (λ t. t.statements) c.deref-in-Gives.ensures in
    let second : map statement_of c.statements-in-Gives-2.result.now ≡ c.self.inside.text.value.statements = c.statements-in-Gives-2.ensures.value ∙
    ap (λ t. t.statements) c.deref-in-Gives-2.ensures in
    let before : IsCore c.self.inside.text.value c.self.inside.spot (length c.self.inside.emitted.items) (vec_capacity c.self.inside.emitted) =
    record { short = c.self.invariant.short; at = c.self.invariant.at; fits = omega (arith, c.self.invariant.fits, c.self.inside.emitted.ok.0) } in
    let core = core_given c.self.inside.text.value c.statements-in-Gives.result.now c.statements-in-Gives-2.result.now c.self.inside.spot c.register_at.result first second c.register_at.ensures
    c.self.inside.regs c.go_on-stop.result.raised c.self.inside.emitted.items c.go_on-stop.new.emitted.items c.in-Gives.value c.go_on-stop.result.spot
    (vec_capacity c.self.inside.emitted) before c.go_on-stop.ensures.spot c.go_on-stop.ensures.settles in
    record { short = core.short; at = core.at; fits = omega (arith, core.fits, c.go_on-stop.ensures.room, c.go_on-stop.new.emitted.ok.0) }
