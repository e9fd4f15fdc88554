-- Whether an entry is a commit. No public clause cites this module.
use Rattle.std.specs.Prelude.{Bool, true, false}
use Rattle.te_history.specs.declared.entry.Entry.{Entry}
use Rattle.te_history.specs.declared.entry.Entry.TheVariants.{Commit}

abbrev pub is_commit : Entry → Bool
is_commit (Commit by cert outcomes) = true
is_commit _ = false
