-- Passes that a call of a runtime may be given.
use Rattle.std.specs.Prelude.{◌≡◌, false}
use Rattle.te_lock.specs.Lock.{Knowledge, Lock}
use Rattle.te_history.specs.declared.entry.Entry.{Entry}

-- the pass is of this runtime, and hasn't the turn
abbrev pub IsFreePass : Lock → Knowledge Entry → Type 0
IsFreePass runtime pass = (pass.lock ≡ runtime) × (pass.has_turn ≡ false)
