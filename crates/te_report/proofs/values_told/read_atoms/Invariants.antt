use Rattle.std.proofs.Common.{◌≡◌, ◌≤◌, ◌++◌, length, map, take}
use Rattle.te_report.specs.Sayings.{said_atom, words}
use Rattle.te_report.proofs.values_told.read_atoms.Given as goal

-- with the atoms that are left it is the whole
abbrev pub invariant-words : goal.invariant-words
invariant-words l = record {
  few : l.len ≤ 4;
  four : length l.atoms ≡ 4;
  whole : take l.len l.atoms ++ map (said_atom l.called) (words 44 l.rest) ≡ map (said_atom l.called) (words 44 l.fn.text);
}

abbrev pub decreases-words : goal.decreases-words
decreases-words l = length l.rest
