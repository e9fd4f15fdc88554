use Rattle.std.proofs.Common.{◌≡◌, ◌<◌, ◌^◌, ◌∷◌, [], pos, subst, sym, ap, ◌∙◌, arith, w64}
use Rattle.std.specs.Prelude.{IfOk}
use Rattle.te_terms.specs.declared.code.Node.TheVariants as nodes
use Rattle.te_terms.specs.declared.expr.Operand.TheVariants as operands
use Rattle.te_terms.specs.Expressions.{Expression, chan, int, one, tuple}
use Rattle.std.proofs.lemmas.Int.{to_z_pos}
use Rattle.te_terms.specs.Terms.{and_then, send, recv}
use Rattle.te_terms.specs.Codes.{term_under}
use Rattle.te_script.proofs.NodesPut.{Put, then_put, then_grows}
use Rattle.te_script.proofs.generator.put_starting.Goals as goal

pub returns-clause-event : goal.returns-clause-event
returns-clause-event c =
    let first : Put c.args.code.now c.put.new.code (nodes.Send (operands.Chan c.args.p) c.calculated.result) = record
    { appended = c.in_ok-sent.ensures.appended; before_is = c.in_ok-sent.ensures.before; after_is = c.in_ok-sent.ensures.behind } in
    let second : Put c.put.new.code c.put-2.new.code (nodes.Recv (operands.Chan c.args.r)) = record {
      appended = c.in_ok-received.ensures.appended;
      before_is = c.in_ok-received.ensures.before;
      after_is = c.in_ok-received.ensures.behind;
    } in
    let small : c.args.round < 2 ^ 63 = omega (arith, c.ranges.round) in
    let value = c.calculated.ensures ∙ ap (λ z. tuple (one (int z) ∷ [])) (to_z_pos w64 c.args.round small) in
    subst (λ (e : Expression). IfOk c.put-3.result (λ n. term_under c.put-3.new.code n ≡ and_then (send (chan c.args.p) e) 0 (recv (chan c.args.r)))) value
    (then_put c.put-3.result c.args.code.now c.put.new.code c.put-2.new.code c.put-3.new.code (nodes.Send (operands.Chan c.args.p)
    c.calculated.result) (nodes.Recv (operands.Chan c.args.r)) c.in_ok-sent.sent c.in_ok-received.received
    first second c.in_ok-sent.ensures.number c.in_ok-received.ensures.number c.put-3.ensures.number c.put-3.ensures.appended c.put-3.ensures.before c.put-3.ensures.behind)

pub returns-clause-grows : goal.returns-clause-grows
returns-clause-grows c =
    let first : Put c.args.code.now c.put.new.code (nodes.Send (operands.Chan c.args.p) c.calculated.result) = record
    { appended = c.in_ok-sent.ensures.appended; before_is = c.in_ok-sent.ensures.before; after_is = c.in_ok-sent.ensures.behind } in
    let second : Put c.put.new.code c.put-2.new.code (nodes.Recv (operands.Chan c.args.r)) = record {
      appended = c.in_ok-received.ensures.appended;
      before_is = c.in_ok-received.ensures.before;
      after_is = c.in_ok-received.ensures.behind;
    } in
    then_grows c.put-3.result c.args.code.now c.put.new.code c.put-2.new.code c.put-3.new.code (nodes.Send (operands.Chan c.args.p)
    c.calculated.result) (nodes.Recv (operands.Chan c.args.r)) (nodes.Then c.in_ok-sent.sent c.in_ok-received.received)
    first second c.put-3.ensures.appended c.put-3.ensures.before c.put-3.ensures.behind
