-- Entries by which a thread ends stuck. This project's own.
use Rattle.std.specs.Prelude.{◌≡◌, ℕ, List, Some, slice_get}
use Rattle.te_history.specs.declared.status.How.TheVariants as ways
use Rattle.te_history.specs.declared.entry.Entry.{Entry}
use Rattle.te_history.specs.declared.entry.Entry.TheVariants as entries

-- a thread ends in a synchronisation that no group can complete
abbrev pub IsStuckEnd : Entry → Type 0
IsStuckEnd (entries.End by ways.Stuck) = Unit {0}
IsStuckEnd _ = ⊥

-- the entry at a place is so
abbrev pub IsStuckAt : List Entry → ℕ → Type 0
IsStuckAt history at = (e : Entry) × (slice_get history at ≡ Some e) × IsStuckEnd e
