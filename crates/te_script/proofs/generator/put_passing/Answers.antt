use Rattle.std.proofs.Common.{◌≡◌, ◌∷◌, [], pos, subst, sym, ap}
use Rattle.std.specs.Prelude.{IfOk}
use Rattle.te_terms.specs.declared.code.Node.TheVariants as nodes
use Rattle.te_terms.specs.declared.expr.Operand.TheVariants as operands
use Rattle.te_terms.specs.declared.expr.Expr.TheVariants as exprs
use Rattle.te_terms.specs.declared.expr.Var.TheVariants as vars
use Rattle.te_terms.specs.Expressions.{Expression, chan, whole, name}
use Rattle.te_terms.specs.Terms.{and_then, send, recv, always}
use Rattle.te_terms.specs.Codes.{term_under}
use Rattle.te_script.proofs.NodesPut.{Put, nested_put}
use Rattle.te_script.proofs.generator.put_passing.Goals as goal

pub returns-clause-event : goal.returns-clause-event
returns-clause-event c =
    let first : Put c.args.code.now c.put.new.code (nodes.Recv (operands.Chan c.args.p)) = record {
      appended = c.in_ok-received.ensures.appended;
      before_is = c.in_ok-received.ensures.before;
      after_is = c.in_ok-received.ensures.behind;
    } in
    let second : Put c.put.new.code c.put-2.new.code (nodes.Send (operands.Chan c.args.q) c.calculated.result) = record
    { appended = c.in_ok-sent.ensures.appended; before_is = c.in_ok-sent.ensures.before; after_is = c.in_ok-sent.ensures.behind } in
    let third : Put c.put-2.new.code c.put-3.new.code (nodes.Always (exprs.Whole (vars.Inner 0))) = record
    { appended = c.in_ok-given.ensures.appended; before_is = c.in_ok-given.ensures.before; after_is = c.in_ok-given.ensures.behind } in
    let fourth : Put c.put-3.new.code c.put-4.new.code (nodes.Then c.in_ok-sent.sent c.in_ok-given.given) = record
    { appended = c.in_ok-rest.ensures.appended; before_is = c.in_ok-rest.ensures.before; after_is = c.in_ok-rest.ensures.behind } in
    subst (λ (e : Expression). IfOk c.put-5.result (λ n. term_under c.put-5.new.code n ≡ and_then (recv (chan c.args.p)) 0
    (and_then (send (chan c.args.q) e) 1 (always (whole (name 0)))))) c.calculated.ensures
    (nested_put c.put-5.result c.args.code.now c.put.new.code c.put-2.new.code c.put-3.new.code c.put-4.new.code c.put-5.new.code
    (nodes.Recv (operands.Chan c.args.p)) (nodes.Send (operands.Chan c.args.q) c.calculated.result) (nodes.Always (exprs.Whole (vars.Inner 0)))
    c.in_ok-received.received c.in_ok-sent.sent c.in_ok-given.given c.in_ok-rest.rest first second third fourth c.in_ok-received.ensures.number
    c.in_ok-sent.ensures.number c.in_ok-given.ensures.number c.in_ok-rest.ensures.number
    c.put-5.ensures.number c.put-5.ensures.appended c.put-5.ensures.before c.put-5.ensures.behind)
