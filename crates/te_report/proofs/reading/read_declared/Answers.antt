use Rattle.std.proofs.Common.{ℕ, suc, length, subst, arith}
use Rattle.te_report.specs.declared.fault.ReportFault.{ReportFault}
use Rattle.te_report.specs.Told.{IsRefusedFor, LineStandsAt}
use Rattle.te_report.specs.Sayings.{version_of}
use Rattle.te_report.proofs.LinesTaken.{told, is_none, is_some, no_head}
use Rattle.te_report.proofs.ReportsRead.{stands_next, refused_next, refused_last}
use Rattle.te_report.proofs.reading.read_declared.Goals as goal
use Rattle.te_report.proofs.reading.read_declared.Goals.{then-lines-test+else-not-is_last, else-lines-test}

pub returns-in_default-clause-refused : goal.returns-in_default-clause-refused
returns-in_default-clause-refused c = no_head c.args.bytes.now (omega (arith, c.if-bytes-gt-MOST_BYTES.false)) c.in_default.ensures.none_first c.in_default.ensures.none_second

pub returns-in_err-rest-clause-refused : goal.returns-in_err-rest-clause-refused
returns-in_err-rest-clause-refused c =
    let some = is_some c.lines.rest.now c.is_empty.result c.is_empty.ensures c.lines-test.true in
    told c.from_residual-in_err-rest.result c.in_err-rest.field-0.0 (λ (fault : ReportFault). IsRefusedFor c.args.script.now c.args.bytes.now fault) c.from_residual-in_err-rest.ensures.1
    (refused_next c.args.script.now c.args.bytes.now (version_of c.in-Some.head.sites) c.lines.hist c.lines.rest.now (suc (suc (length c.lines.hist.entries))) c.in_err-rest.field-0.0
    c.lines.invariant.stands some (c.is_last.ensures.not c.if-not-is_last.true) c.in_err-rest.ensures.refused)

pub lines-preserved : goal.lines-preserved
lines-preserved c =
    let next = stands_next c.args.script.now c.args.bytes.now (version_of c.in-Some.head.sites) c.lines.hist c.take_line.new.hist c.lines.rest.now c.in_ok-rest.rest.now
    (suc (suc (length c.lines.hist.entries))) c.lines.invariant.stands c.in_ok-rest.ensures.goes_on in
    record {
      stands = subst (λ (n : ℕ). LineStandsAt c.args.script.now c.args.bytes.now (version_of c.in-Some.head.sites) c.take_line.new.hist c.in_ok-rest.rest.now n) next.line next;
      followed = c.in_ok-rest.ensures.so_far;
      declared = c.in_ok-rest.ensures.declared;
    }

pub read_end-requires-clause-ends : goal.read_end-requires-clause-ends
read_end-requires-clause-ends c = λ some. elim c.lines-test.branch [
  | then-lines-test+else-not-is_last w ↦ w.is_last.ensures.last w.if-not-is_last.false
  | else-lines-test w ↦ absurd (some (is_none c.lines.rest.now c.is_empty.result c.is_empty.ensures w.lines-test.false))
]

pub returns-in_err-ending-clause-refused : goal.returns-in_err-ending-clause-refused
returns-in_err-ending-clause-refused c =
    told c.from_residual-in_err-ending.result c.in_err-ending.field-0.0 (λ (fault : ReportFault). IsRefusedFor c.args.script.now c.args.bytes.now fault) c.from_residual-in_err-ending.ensures.1
    (refused_last c.args.script.now c.args.bytes.now (version_of c.in-Some.head.sites) c.lines.hist c.lines.rest.now (suc (suc (length c.lines.hist.entries))) c.in_err-ending.field-0.0
    c.lines.invariant.stands c.in_err-ending.ensures.refused)
