use Rattle.std.proofs.Common.{◌≡◌, [], ◌∷◌, length}
use Rattle.te_reader.specs.declared.part.Part.TheVariants.{Script}
use Rattle.te_reader.specs.Spots.{spots}
use Rattle.te_reader.specs.Rules.{nothing_before}
use Rattle.te_reader.specs.Runs.{run}
use Rattle.te_reader.proofs.finder.find_in.Given as goal

abbrev pub decreases-tokens : goal.decreases-tokens
decreases-tokens l = length l.scanner

abbrev pub invariant-tokens : goal.invariant-tokens
invariant-tokens l = run l.wanted l.context l.scanner ≡ run (Script ∷ []) nothing_before (spots l.text)
