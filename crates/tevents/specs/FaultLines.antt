-- The line that tells the fault of a script. This is the project's own.
use Rattle.std.specs.Prelude.{ℕ, List, [], ◌++◌, codes}
use Rattle.std.specs.Fmt.{decimal}
use Rattle.te_reader.specs.declared.place.Place.{Place}
use Rattle.te_reader.specs.declared.cause.Which.{Which}
use Rattle.te_reader.specs.declared.cause.Which.TheVariants as limits
use Rattle.te_reader.specs.declared.fault.ScriptFault.{ScriptFault}
use Rattle.te_reader.specs.declared.fault.ScriptFault.TheVariants as faults

-- the name of a limit
abbrev pub which_text : Which → List ℕ
which_text limits.Bytes = codes "bytes"
which_text limits.Name = codes "name"
which_text limits.Channels = codes "channels"
which_text limits.Threads = codes "threads"
which_text limits.Statements = codes "statements"
which_text limits.Registers = codes "registers"
which_text limits.Atoms = codes "atoms"
which_text limits.Nodes = codes "nodes"
which_text limits.Depth = codes "depth"
which_text limits.Fresh = codes "fresh"
which_text limits.Repeat = codes "repeat"

abbrev pub place_text : Place → List ℕ
place_text p = codes " at " ++ decimal p.line ++ codes ":" ++ decimal p.column ++ codes "\n"

-- want of memory has no line
abbrev pub fault_line : ScriptFault → List ℕ
fault_line (faults.Bytes p) = codes "script fault 1" ++ place_text p
fault_line (faults.Token p) = codes "script fault 2" ++ place_text p
fault_line (faults.Syntax p) = codes "script fault 3" ++ place_text p
fault_line (faults.Integer p) = codes "script fault 4" ++ place_text p
fault_line (faults.Unbound p) = codes "script fault 5" ++ place_text p
fault_line (faults.Twice p) = codes "script fault 6" ++ place_text p
fault_line (faults.Shadow p) = codes "script fault 7" ++ place_text p
fault_line (faults.NoThread p) = codes "script fault 8" ++ place_text p
fault_line (faults.Limit w p) = codes "script fault 9 (" ++ which_text w ++ codes ")" ++ place_text p
fault_line faults.Memory = []
