-- How the value of a history is stored. No contract cites this module.
use Rattle.std.specs.Prelude.{ℕ, List, refl}
use Rattle.std.specs.Coded.{Coded, code_by, coded×, coded_ℕ, coded_list}
use Rattle.te_history.specs.declared.entry.Entry.{Entry}
use Rattle.te_history.specs.contracts.entry.Entry as entry
use Rattle.te_history.specs.Histories.{History}

abbrev pub history_code : Coded History
history_code =
    code_by (ℕ × (List Entry × ℕ)) (coded× coded_ℕ (coded× (coded_list entry.the_row.coded) coded_ℕ)) (λ h. (h.callers, (h.entries, h.spare)))
    (λ p. record { callers = p.0; entries = p.1.0; spare = p.1.1 })
    (λ h. refl)
