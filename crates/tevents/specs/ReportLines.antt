-- The lines that tell what was found of a report. This project's own.
use Rattle.std.specs.Prelude.{ℕ, List, [], ◌++◌, codes}
use Rattle.std.specs.Fmt.{decimal}
use Rattle.te_report.specs.declared.fault.ReportFault.{ReportFault}
use Rattle.te_report.specs.declared.fault.ReportFault.TheVariants as faults

abbrev pub report_line : ℕ → ℕ → List ℕ
report_line fault line = codes "report fault " ++ decimal fault ++ codes " at line " ++ decimal line ++ codes "\n"

-- want of memory has no line
abbrev pub report_fault_line : ReportFault → List ℕ
report_fault_line faults.Head = report_line 1 1
report_fault_line (faults.Line n) = report_line 2 n
report_fault_line (faults.Illegal n cause) = report_line 3 n
report_fault_line (faults.Tail n) = report_line 4 n
report_fault_line faults.Long = report_line 5 1
report_fault_line faults.Memory = []

-- a legal history of so many entries
abbrev pub legal_line : ℕ → List ℕ
legal_line count = codes "legal " ++ decimal count ++ codes "\n"

-- whether the list parked before the stuck line can commit isn't known by this budget
abbrev pub undecided_line : ℕ → ℕ → ℕ → ℕ → List ℕ
undecided_line line front paths groups =
    codes "check spent at line " ++ decimal line ++ codes " front " ++ decimal front ++ codes " paths " ++ decimal paths ++ codes " groups " ++ decimal groups ++ codes "\n"
