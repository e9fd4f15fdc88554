use Rattle.std.proofs.Common.{◌+◌, ap, sym, ◌∙◌, take, drop, arith}
use Rattle.te_report.proofs.Cuts.{front_taken, back_dropped, front_all, back_none}
use Rattle.te_report.proofs.cutting.cut.Goals as goal

pub returns-then-len-bytes-clause-front : goal.returns-then-len-bytes-clause-front
returns-then-len-bytes-clause-front c = c.first.ensures ∙ ap (λ n. take n c.args.bytes.now) c.run-len.ensures ∙ front_taken c.args.at c.args.bytes.now

pub returns-then-len-bytes-clause-back : goal.returns-then-len-bytes-clause-back
returns-then-len-bytes-clause-back c = c.past.ensures ∙ ap (λ n. drop (n + 1) c.args.bytes.now) c.run-len.ensures ∙ back_dropped c.args.at c.args.bytes.now

pub returns-else-len-bytes-clause-front : goal.returns-else-len-bytes-clause-front
returns-else-len-bytes-clause-front c = sym (front_all c.args.at c.args.bytes.now (omega (arith, c.if-len-bytes.false, c.run-len.ensures)))

pub returns-else-len-bytes-clause-back : goal.returns-else-len-bytes-clause-back
returns-else-len-bytes-clause-back c = sym (back_none c.args.at c.args.bytes.now (omega (arith, c.if-len-bytes.false, c.run-len.ensures)))
