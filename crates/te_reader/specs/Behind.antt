-- What was read before, in front of what is read yet.
use Rattle.std.specs.Prelude.{List, ◌++◌, ◌+◌, length, Some, None}
use Rattle.te_script.specs.Scripts.{Statement}
use Rattle.te_reader.specs.NameReads.{Read}
use Rattle.te_reader.specs.Reads.{Body}

abbrev pub behind : {A : Type 0} → List A → Read (List A) → Read (List A)
behind done None = None
behind done (Some r) = Some (done ++ r.0, r.1)

-- statements that were read before
abbrev pub behind_body : List Statement → Read Body → Read Body
behind_body done None = None
behind_body done (Some b) = Some (record { statements = done ++ b.0.statements; leading = 0; registers = b.0.registers }, b.1)

-- syncs of a repeat that were read before, and others of it are yet
abbrev pub behind_syncs : List Statement → Read Body → Read Body
behind_syncs done None = None
behind_syncs done (Some b) = Some (record { statements = done ++ b.0.statements; leading = length done + b.0.leading; registers = b.0.registers }, b.1)

-- all syncs of a repeat
abbrev pub behind_repeat : List Statement → Read Body → Read Body
behind_repeat done None = None
behind_repeat done (Some b) = Some (record { statements = done ++ b.0.statements; leading = length done; registers = b.0.registers }, b.1)
