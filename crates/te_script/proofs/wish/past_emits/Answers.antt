use Rattle.std.proofs.Common.{◌≡◌, ◌+◌, ◌∷◌, [], suc, length, drop, map, sym, ap, subst, ◌∙◌, arith, add-one}
use Rattle.te_terms.specs.Codes.{expression_of}
use Rattle.te_terms.specs.Terms.{registers_to}
use Rattle.te_script.specs.Scripts.{emit}
use Rattle.te_script.specs.Wishes.{site_at, emitting, flat_from}
use Rattle.te_script.specs.Cores.{stand_at, under, emits_left, IsAtSync, IsPastEmits, steps_behind, steps_left_at}
use Rattle.te_script.specs.Texts.{statement_of}
use Rattle.te_script.proofs.EmitsDone.{emit_from, statements_from, nothing_from, behind_emit, emits_on, emits_trap, settled_stand, past_emits_at}
use Rattle.te_script.proofs.StepsLeft.{spot_settled}
use Rattle.te_script.proofs.wish.past_emits.Goals as goal
use Rattle.te_script.proofs.wish.past_emits.Goals.{In-Emit, else-loop-place-test, then-loop-place-test+in_default}

-- the steps from the emit on
at_emit : (c : In-Emit) → steps_behind c.loop-place.place (map statement_of c.args.stmts.now) ≡ emitting (site_at (suc c.loop-place.place) 0)
    (expression_of c.in-Emit.expr) ∷ steps_behind (c.loop-place.place + 1) (map statement_of c.args.stmts.now)
at_emit c =
    behind_emit c.loop-place.place (map statement_of c.args.stmts.now) (expression_of c.in-Emit.expr)
    (emit_from c.args.stmts.now c.loop-place.place c.index-stmts-place.result c.in-Emit.expr c.loop-place-test.true c.index-stmts-place.is c.in-Emit.is)

-- the emit is one of those for which there is room
one_less : (c : In-Emit) → emits_left (steps_behind c.loop-place.place (map statement_of c.args.stmts.now)) ≡ emits_left (steps_behind (c.loop-place.place + 1) (map statement_of c.args.stmts.now)) + 1
one_less c = rw (at_emit c) (omega arith)

pub push_reserved-requires : goal.push_reserved-requires
push_reserved-requires c = omega (arith, one_less (goal.at.push_reserved-requires c).In-Emit, c.requires.room)

pub loop-place-preserved : goal.loop-place-preserved
loop-place-preserved c =
    let e = (goal.at.loop-place-preserved c).In-Emit in
    let rest = steps_behind (c.loop-place.place + 1) (map statement_of c.args.stmts.now) in
    let on = emits_on c.args.regs.now (site_at (suc c.loop-place.place) 0) (expression_of c.in-Emit.expr) rest c.loop-place.emitted.items c.in-Ok.value (sym c.in-Ok.ensures) in
    let before = ap (λ ss. stand_at (under (registers_to c.args.regs.now) ss) c.loop-place.emitted.items) (at_emit e) in
    record {
      same = rw c.push_reserved.ensures.items (sym on ∙ sym before ∙ c.loop-place.invariant.same);
      fits = omega (arith, one_less e);
      room = omega arith;
      within = omega arith;
    }

-- what the emits so far come to is what all of them come to
pub returns-in-Err-clause-settles : goal.returns-in-Err-clause-settles
returns-in-Err-clause-settles c =
    let e = (goal.at.returns-in-Err-clause-settles c).In-Emit in
    let rest = steps_behind (c.loop-place.place + 1) (map statement_of c.args.stmts.now) in
    let trapped = emits_trap c.args.regs.now (site_at (suc c.loop-place.place) 0) (expression_of c.in-Emit.expr) rest c.loop-place.emitted.items c.in-Err.trap (sym c.in-Err.ensures) in
    let before = ap (λ ss. stand_at (under (registers_to c.args.regs.now) ss) c.loop-place.emitted.items) (at_emit e) in
    let nothing = nothing_from c.args.stmts.now (length c.args.stmts.now) (omega arith) in
    record {
      stands = rw c.value.ensures (sym c.loop-place.invariant.same ∙ before ∙ trapped);
      fits = omega (arith, ap (λ ss. emits_left (flat_from (suc (length c.args.stmts.now)) 0 ss)) nothing);
    }

pub returns-clause-settles : goal.returns-clause-settles
returns-clause-settles c =
    let ss = map statement_of c.args.stmts.now in
    let left = c.spot_at.ensures.left in
    let settled = settled_stand c.args.regs.now (steps_left_at c.spot_at.result ss) c.loop-place.emitted.items (spot_settled c.spot_at.result ss c.spot_at.ensures.spot) in
    record {
      stands = sym c.loop-place.invariant.same ∙ ap (λ xs. stand_at (under (registers_to c.args.regs.now) xs) c.loop-place.emitted.items) (sym left) ∙ settled;
      fits = omega (arith, ap emits_left left);
    }

pub spot_at-requires-clause-past : goal.spot_at-requires-clause-past
spot_at-requires-clause-past c =
    elim c.loop-place-test.branch [
      | else-loop-place-test w ↦ subst IsPastEmits (sym (nothing_from c.args.stmts.now c.loop-place.place w.loop-place-test.false)) tt
      | then-loop-place-test+in_default w ↦
          past_emits_at w.index-stmts-place.result _ _ (statements_from c.args.stmts.now c.loop-place.place w.index-stmts-place.result
          w.loop-place-test.true w.index-stmts-place.is) w.in_default.not-Emit
    ]
