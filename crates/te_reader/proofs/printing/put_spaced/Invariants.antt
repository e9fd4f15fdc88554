use Rattle.std.proofs.Common.{◌≡◌, ◌++◌, drop}
use Rattle.std.specs.List.{flat_map}
use Rattle.te_reader.specs.Canonical.{spaced}
use Rattle.te_reader.proofs.printing.put_spaced.Given as goal

-- with the names that are left it is the whole
abbrev pub invariant-loop-name : goal.invariant-loop-name
invariant-loop-name l = l.out.items ++ flat_map spaced (drop l.name-index l.names) ≡ l.fn.out.items ++ flat_map spaced l.names
