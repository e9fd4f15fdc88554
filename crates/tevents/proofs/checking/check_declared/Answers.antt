-- What the search of the list that was declared finds is told.
use Rattle.std.proofs.Common.{◌≡◌, ◌∙◌, ◌+◌, List, length, sym, subst, ap, Ok, Err}
use Rattle.std.proofs.lemmas.Result.{IfOk-weaker}
use Rattle.te_terms.specs.declared.event.Parked.{Parked}
use Rattle.te_terms.specs.Joint.{IsGroup, as_group, CanCommit}
use Rattle.te_search.specs.Findings.{IsGroupOf, IsUsedUp}
use Rattle.tevents.specs.Checks.{IsDecided}
use Rattle.tevents.specs.ReportLines.{report_line, legal_line, undecided_line}
use Rattle.tevents.proofs.ReportsChecked.{declared_rise, blocked, used_up, commits}
use Rattle.tevents.proofs.checking.check_declared.Goals as goal

pub find-requires-clause-rising : goal.find-requires-clause-rising
find-requires-clause-rising c = subst (λ (ps : List Parked). IsGroup (as_group ps)) (sym c.as_slice.ensures)
    (declared_rise (length c.args.script.now.threads) c.args.reading.now.hist.entries c.args.declared.now.before
    c.args.declared.now.parked c.requires.declared)

pub returns-in-Ok-Blocked : goal.returns-in-Ok-Blocked
returns-in-Ok-Blocked c = λ report only.
    let cannot : ¬ CanCommit c.args.declared.now.parked = subst (λ (ps : List Parked). ¬ CanCommit ps) c.as_slice.ensures
    (c.in-Ok-Blocked.ensures.blocked (ap Ok c.in-Ok-Blocked.field-0-is)) in
    IfOk-weaker c.legal.result (λ told. (told.text ≡ legal_line c.len.result) × (told.status ≡ 0))
    (λ told. IsDecided c.args.budget c.args.script.now report told.text told.status)
    (λ told h. blocked c.args.budget c.args.script.now report c.args.reading.now.hist.entries c.args.reading.now.ending only
    c.args.declared.now.before c.args.declared.now.parked c.requires.closed c.requires.declared told.text told.status cannot
    (h.0 ∙ ap legal_line c.len.ensures.value) h.1)
    c.legal.ensures

pub returns-in-Ok-Group : goal.returns-in-Ok-Group
returns-in-Ok-Group c = λ report only.
    let found = c.in-Ok-Group.ensures.group c.in-Ok-Group.field-0-0 (ap Ok c.in-Ok-Group.field-0-is) in
    IfOk-weaker c.faulty.result (λ told. (told.text ≡ report_line 3 (c.args.declared.now.before + 2)) × (told.status ≡ 8))
    (λ told. IsDecided c.args.budget c.args.script.now report told.text told.status)
    (λ told h. commits c.args.budget c.args.script.now report c.args.reading.now.hist.entries c.args.reading.now.ending only
    c.args.declared.now.before c.args.declared.now.parked c.requires.closed c.requires.declared told.text told.status
    c.in-Ok-Group.field-0-0 found.0
    (subst (λ (ps : List Parked). IsGroupOf ps c.in-Ok-Group.field-0-0 found.0) c.as_slice.ensures found.1) h.0 h.1)
    c.faulty.ensures

pub returns-in-Err-Spent : goal.returns-in-Err-Spent
returns-in-Err-Spent c = λ report only.
    let paths = c.in-Err-Spent.paths in
    let groups = c.in-Err-Spent.groups in
    let before = c.args.declared.now.before in
    let used : IsUsedUp c.args.declared.now.parked c.args.budget paths groups = subst
    (λ (ps : List Parked). IsUsedUp ps c.args.budget paths groups) c.as_slice.ensures
    (c.in-Err-Spent.ensures.spent paths groups (ap Err c.in-Err-Spent.field-0-is)) in
    IfOk-weaker c.undecided.result (λ told. (told.text ≡ undecided_line (before + 2) before paths groups) × (told.status ≡ 7))
    (λ told. IsDecided c.args.budget c.args.script.now report told.text told.status)
    (λ told h. used_up c.args.budget c.args.script.now report c.args.reading.now.hist.entries c.args.reading.now.ending only
    before c.args.declared.now.parked c.requires.closed c.requires.declared told.text told.status paths groups used h.0 h.1)
    c.undecided.ensures
