-- What was found of a report is what is told of it.
use Rattle.std.proofs.Common.{◌≡◌, ◌≢◌, ℕ, ◌+◌, List, length, sym, subst, inl, inr}
use Rattle.te_terms.specs.declared.event.Outcome.{Outcome}
use Rattle.te_terms.specs.declared.event.Parked.{Parked}
use Rattle.te_terms.specs.Joint.{IsGroup, as_group, CanCommit}
use Rattle.te_cert.specs.Certificates.{Certificate}
use Rattle.te_script.specs.Scripts.{Program}
use Rattle.te_history.specs.declared.entry.Entry.{Entry}
use Rattle.te_history.specs.State.{state}
use Rattle.te_history.specs.Follows.{IsLegal}
use Rattle.te_report.specs.declared.ending.Ending.{Ending}
use Rattle.te_report.specs.declared.ending.Ending.TheVariants as endings
use Rattle.te_report.specs.declared.fault.ReportFault.{ReportFault}
use Rattle.te_report.specs.declared.fault.ReportFault.TheVariants as faults
use Rattle.te_report.specs.Told.{IsReadAs, IsRefusedFor}
use Rattle.te_report.specs.Declarations.{IsDeclared}
use Rattle.te_search.specs.Findings.{IsGroupOf, IsUsedUp}
use Rattle.tevents.specs.ReportLines.{report_line, report_fault_line, legal_line, undecided_line}
use Rattle.tevents.specs.Checks.{IsOnlyReading, IsDecided, IsLifted}
use Rattle.tevents.proofs.DeclaredTruly.{legal_undeclared, legal_declared, declared_legally}
use Rattle.tevents.proofs.GroupsCommit.{found_commits}
use Rattle.tevents.proofs.ParkedRise.{parked_rise}

-- threads of what is declared rise
pub declared_rise : (n : ℕ) (h : List Entry) (before : ℕ) (parked : List Parked) → IsDeclared n h before parked → IsGroup (as_group parked)
declared_rise n h before parked d = subst (λ (ps : List Parked). IsGroup (as_group ps)) (sym d.are_parked) (parked_rise (state n d.earlier))

module _ (budget : ℕ) (script : Program) (report : List ℕ) (history : List Entry) (ending : Ending) (only : IsOnlyReading script report history ending) where
  closed_read : ending ≡ endings.Closed → IsReadAs script history endings.Closed report
  closed_read is = subst (λ (e : Ending). IsReadAs script history e report) is only.read

  pub undeclared : (written : List ℕ) (status : ℕ) → ending ≡ endings.Closed
      → ((before : ℕ) (parked : List Parked) → ¬ IsDeclared (length script.threads) history before parked)
      → written ≡ legal_line (length history) → status ≡ 0 → IsDecided budget script report written status
  undeclared written status is none line zero = inl (record {
    history = history;
    legal =
        record { read = closed_read is; legal = legal_undeclared (length script.threads) history only.read.loose none };
    line = line;
    status_is = zero;
  })

  pub ends_otherwise : (written : List ℕ) (status : ℕ) → ending ≢ endings.Closed → written ≡ report_line 4 (length history + 2) → status ≡ 8 → IsDecided budget script report written status
  ends_otherwise written status other line eight = inr (inr (record {
    none = λ h legal. other (sym (only.once h endings.Closed legal.read).1);
    because = inr (inl (record { history = history; ending = ending; read = only.read; otherwise = other; line = line }));
    status_is = eight;
  }))

  module _ (before : ℕ) (parked : List Parked) (is : ending ≡ endings.Closed) (declared : IsDeclared (length script.threads) history before parked) where
    pub blocked : (written : List ℕ) (status : ℕ) → ¬ CanCommit parked → written ≡ legal_line (length history) → status ≡ 0 → IsDecided budget script report written status
    blocked written status cannot line zero = inl (record {
      history = history;
      legal =
          record {
            read = closed_read is;
            legal = legal_declared
                (length script.threads) history before parked only.read.loose declared cannot;
          };
      line = line;
      status_is = zero;
    })

    pub used_up : (written : List ℕ) (status paths groups : ℕ) → IsUsedUp parked budget paths groups
        → written ≡ undecided_line (before + 2) before paths groups → status ≡ 7
        → IsDecided budget script report written status
    used_up written status paths groups used line seven = inr
        (inl (record {
          history = history;
          read = closed_read is;
          before = before;
          parked = parked;
          declared = declared;
          paths = paths;
          groups = groups;
          used_up = used;
          line = line;
          status_is = seven;
        }))

    pub commits : (written : List ℕ) (status : ℕ) (cert : Certificate) (outcomes : List Outcome)
        → IsGroupOf parked cert outcomes → written ≡ report_line 3 (before + 2) → status ≡ 8
        → IsDecided budget script report written status
    commits written status cert outcomes found line eight = inr (inr (record {
      none = λ h legal. declared_legally (length script.threads) history before parked (subst (IsLegal (length script.threads)) (only.once h endings.Closed legal.read).0 legal.legal) declared can;
      because = inr (inr (record { history = history; read = closed_read is; before = before; parked = parked; declared = declared; commits = can; line = line }));
      status_is = eight;
    }))
      where
        can : CanCommit parked
        can = found_commits parked cert outcomes (declared_rise (length script.threads) history before parked declared) found

-- ---- refused

pub refused_check : (budget : ℕ) (script : Program) (report written : List ℕ) (status : ℕ) (fault : ReportFault)
    → ((h : List Entry) (e : Ending) → ¬ IsReadAs script h e report) → fault ≢ faults.Memory
    → IsRefusedFor script report fault → written ≡ report_fault_line fault → status ≡ 8
    → IsDecided budget script report written status
refused_check budget script report written status fault none named because line eight = inr (inr (record {
  none = λ h legal. none h endings.Closed legal.read;
  because = inl (record { fault = fault; named = named; because = because; line = line });
  status_is = eight;
}))

pub refused_lift : (script : Program) (report written : List ℕ) (status : ℕ) (fault : ReportFault)
    → ((h : List Entry) (e : Ending) → ¬ IsReadAs script h e report) → fault ≢ faults.Memory
    → IsRefusedFor script report fault → written ≡ report_fault_line fault → status ≡ 8
    → IsLifted script report written status
refused_lift script report written status fault none named because line eight =
    inr (record {
      none = none;
      refused = record { fault = fault; named = named; because = because; line = line };
      status_is = eight;
    })
