use Rattle.te_terms.specs.Terms.{registers_to}
use Rattle.te_terms.specs.Codes.{variable_of}
use Rattle.te_terms.proofs.SameLemmas.{both_known}
use Rattle.te_terms.proofs.same.same_var.Goals as goal

pub returns-in-Some-register : goal.returns-in-Some-register
returns-in-Some-register c =
    both_known c.eq.result c.in-Some.v.now c.in-Some-register.w.now (registers_to c.args.regs.now (variable_of c.args.x))
    (registers_to c.args.others.now (variable_of c.args.y)) c.eq.ensures c.in-Some.ensures c.in-Some-register.ensures
