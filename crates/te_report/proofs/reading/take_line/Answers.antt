use Rattle.std.proofs.Common.{◌≡◌, ℕ, suc, ◌+◌, ◌≤◌, ◌++◌, length, sym, ap, ◌∙◌, arith}
use Rattle.te_report.specs.declared.names.Called.{Called}
use Rattle.te_report.specs.declared.fault.ReportFault.{ReportFault}
use Rattle.te_report.specs.Report.{most_reported_entries, numbered}
use Rattle.te_report.specs.Sayings.{up_to, said, said_text, version_of}
use Rattle.te_report.specs.Judging.{NextFails}
use Rattle.te_report.proofs.Verdicts.{as_many}
use Rattle.te_report.proofs.LinesRead.{none_spells, unposted}
use Rattle.te_report.proofs.LinesTaken.{told, sayer_low, taken_next, failed_next}
use Rattle.te_report.proofs.reading.take_line.Goals as goal

pub take_said-requires-clause-caller : goal.take_said-requires-clause-caller
take_said-requires-clause-caller c =
    let by_names = rw c.in-Some.is at c.in_ok-found.ensures.said in
    let is_said = by_names ∙ ap (λ (n : Called). said n c.args.sites (up_to 10 c.args.rest.now)) c.requires.called in
    let low = sayer_low c.args.sites c.args.script.now c.requires.script (up_to 10 c.args.rest.now) c.in-Some.line.said is_said in
    let many = as_many c.args.script.now c.args.hist.now c.args.cores.now.items c.requires.so_far in
    omega (arith, low, many)

pub take_said-requires-clause-unposted : goal.take_said-requires-clause-unposted
take_said-requires-clause-unposted c =
    let by_names = rw c.in-Some.is at c.in_ok-found.ensures.said in
    let is_said = by_names ∙ ap (λ (n : Called). said n c.args.sites (up_to 10 c.args.rest.now)) c.requires.called in
    let number : c.len-count.result + 1 ≡ suc (length c.args.hist.now.entries) = omega (arith, c.len-count.ensures.value) in
    let by_number = rw c.in-Some.is at c.in_ok-found.ensures.split in
    let split = by_number ∙ ap (λ (n : ℕ). numbered n (said_text c.args.script.now c.in-Some.line.said) ++ c.in-Some.line.rest.now) number in
    let within : suc (length c.args.hist.now.entries) ≤ most_reported_entries = omega (arith, c.if-count-ge-MOST_ENTRIES.false, c.len-count.ensures.value) in
    unposted c.args.sites c.args.script.now c.requires.script c.args.hist.now c.args.rest.now c.in-Some.line.said c.in-Some.line.rest.now is_said split within

pub returns-in_err-take_said-in-Some-clause-refused : goal.returns-in_err-take_said-in-Some-clause-refused
returns-in_err-take_said-in-Some-clause-refused c =
    let by_names = rw c.in-Some.is at c.in_ok-found.ensures.said in
    let is_said = by_names ∙ ap (λ (n : Called). said n c.args.sites (up_to 10 c.args.rest.now)) c.requires.called in
    let number : c.len-count.result + 1 ≡ suc (length c.args.hist.now.entries) = omega (arith, c.len-count.ensures.value) in
    let line : c.len-count.result + 2 ≡ suc (suc (length c.args.hist.now.entries)) = omega (arith, c.len-count.ensures.value) in
    let by_number = rw c.in-Some.is at c.in_ok-found.ensures.split in
    let split = by_number ∙ ap (λ (n : ℕ). numbered n (said_text c.args.script.now c.in-Some.line.said) ++ c.in-Some.line.rest.now) number in
    let within : suc (length c.args.hist.now.entries) ≤ most_reported_entries = omega (arith, c.if-count-ge-MOST_ENTRIES.false, c.len-count.ensures.value) in
    told c.from_residual-in_err-take_said-in-Some.result c.in_err-take_said-in-Some.field-0.0
    (λ (fault : ReportFault). NextFails (version_of c.args.sites) c.args.script.now c.args.hist.now c.args.rest.now
    fault)
    c.from_residual-in_err-take_said-in-Some.ensures.1
    (failed_next c.args.sites c.args.script.now c.requires.script c.args.hist.now c.args.rest.now c.in-Some.line.said c.in-Some.line.rest.now is_said split within
    (c.len-count.result + 2) line c.in_err-take_said-in-Some.field-0.0 c.in_err-take_said-in-Some.ensures.refused)

pub returns-in_ok-take_said-in-Some-clause-goes_on : goal.returns-in_ok-take_said-in-Some-clause-goes_on
returns-in_ok-take_said-in-Some-clause-goes_on c =
    let by_names = rw c.in-Some.is at c.in_ok-found.ensures.said in
    let is_said = by_names ∙ ap (λ (n : Called). said n c.args.sites (up_to 10 c.args.rest.now)) c.requires.called in
    let number : c.len-count.result + 1 ≡ suc (length c.args.hist.now.entries) = omega (arith, c.len-count.ensures.value) in
    let by_number = rw c.in-Some.is at c.in_ok-found.ensures.split in
    let split = by_number ∙ ap (λ (n : ℕ). numbered n (said_text c.args.script.now c.in-Some.line.said) ++ c.in-Some.line.rest.now) number in
    let within : suc (length c.args.hist.now.entries) ≤ most_reported_entries = omega (arith, c.if-count-ge-MOST_ENTRIES.false, c.len-count.ensures.value) in
    taken_next c.args.sites c.args.script.now c.requires.script c.args.hist.now c.args.rest.now c.in-Some.line.said c.in-Some.line.rest.now is_said split within
    c.take_said.new.hist c.in_ok-take_said-in-Some.ensures.takes

pub returns-in-None-clause-refused : goal.returns-in-None-clause-refused
returns-in-None-clause-refused c =
    let number : c.len-count.result + 1 ≡ suc (length c.args.hist.now.entries) = omega (arith, c.len-count.ensures.value) in
    let none = rw c.in-None.is at c.in_ok-found.ensures.none in
    let names = c.requires.called in (
      omega (arith, c.len-count.ensures.value),
      none_spells c.args.sites c.args.script.now c.requires.script c.args.hist.now c.args.rest.now
          (λ more e. none more (e ∙ sym (λ i. numbered (number i) (said_text c.args.script.now (said (names i) c.args.sites (up_to 10 c.args.rest.now))) ++ more))),
    )
