-- Where no board is declared stuck the report is legal, and another ending is a fault.
use Rattle.std.proofs.Common.{◌≡◌, ◌≢◌, ◌∙◌, ◌+◌, ℕ, length, sym, subst, ap}
use Rattle.std.specs.Prelude.{None}
use Rattle.std.proofs.lemmas.Result.{IfOk-weaker}
use Rattle.te_report.specs.declared.ending.Ending.{Ending}
use Rattle.te_report.specs.declared.ending.Ending.TheVariants as endings
use Rattle.te_report.specs.Declarations.{DeclaredIn}
use Rattle.tevents.specs.Checks.{IsDecided}
use Rattle.tevents.specs.ReportLines.{report_line, legal_line}
use Rattle.tevents.proofs.ReportsChecked.{undeclared, ends_otherwise}
use Rattle.tevents.proofs.checking.check_reading.Goals as goal

spent_is_other : (e : Ending) (front paths groups : ℕ) → e ≡ endings.Spent front paths groups → e ≢ endings.Closed
spent_is_other e front paths groups is closed = let bad : endings.Spent front paths groups ≡ endings.Closed = sym is ∙ closed in cc

full_is_other : (e : Ending) → e ≡ endings.Full → e ≢ endings.Closed
full_is_other e is closed = let bad : endings.Full ≡ endings.Closed = sym is ∙ closed in cc

pub returns-in-None : goal.returns-in-None
returns-in-None c = λ report only.
    let none : DeclaredIn (length c.args.script.now.threads) c.args.reading.now.hist.entries None = subst
    (λ d. DeclaredIn (length c.args.script.now.threads) c.args.reading.now.hist.entries d) c.in-None.is c.requires.declared in
    IfOk-weaker c.legal.result (λ told. (told.text ≡ legal_line c.len.result) × (told.status ≡ 0))
    (λ told. IsDecided c.args.budget c.args.script.now report told.text told.status)
    (λ told h. undeclared c.args.budget c.args.script.now report c.args.reading.now.hist.entries c.args.reading.now.ending only
    told.text told.status c.in-Closed.is none (h.0 ∙ ap legal_line c.len.ensures.value) h.1)
    c.legal.ensures

pub returns-in-Spent : goal.returns-in-Spent
returns-in-Spent c = λ report only. IfOk-weaker c.faulty.result
    (λ told. (told.text ≡ report_line 4 (c.len-in-Spent.result + 2)) × (told.status ≡ 8))
    (λ told. IsDecided c.args.budget c.args.script.now report told.text told.status)
    (λ told h. ends_otherwise c.args.budget c.args.script.now report c.args.reading.now.hist.entries c.args.reading.now.ending
    only told.text told.status (spent_is_other _ _ _ _ c.in-Spent.is)
    (h.0 ∙ ap (λ (n : ℕ). report_line 4 (n + 2)) c.len-in-Spent.ensures.value) h.1)
    c.faulty.ensures

pub returns-in-Full : goal.returns-in-Full
returns-in-Full c = λ report only. IfOk-weaker c.faulty-in-Full.result
    (λ told. (told.text ≡ report_line 4 (c.len-in-Full.result + 2)) × (told.status ≡ 8))
    (λ told. IsDecided c.args.budget c.args.script.now report told.text told.status)
    (λ told h. ends_otherwise c.args.budget c.args.script.now report c.args.reading.now.hist.entries c.args.reading.now.ending
    only told.text told.status (full_is_other _ c.in-Full.is)
    (h.0 ∙ ap (λ (n : ℕ). report_line 4 (n + 2)) c.len-in-Full.ensures.value) h.1)
    c.faulty-in-Full.ensures
