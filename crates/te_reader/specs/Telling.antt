-- What is told of a text that has a fault. Contracts inside this crate cite it.
use Rattle.std.specs.Prelude.{◌≡◌, ◌⊎◌, ℕ, List, Some}
use Rattle.te_reader.specs.declared.fault.ScriptFault.{ScriptFault}
use Rattle.te_reader.specs.declared.fault.ScriptFault.TheVariants.{Memory}
use Rattle.te_reader.specs.Runs.{Found, fault_of}
use Rattle.te_reader.specs.Places.{fault_from, place_in}

-- the fault that is found, at its place, or want of memory
abbrev pub FaultIsTold : List ℕ → ScriptFault → Type 0
FaultIsTold bytes e = (e ≡ Memory) ⊎ ((f : Found) × (fault_of bytes ≡ Some f) × (e ≡ fault_from f.cause (place_in bytes f.left)))
