use Rattle.tevents.proofs.RulesFound.{Scanned}
use Rattle.tevents.proofs.parting.part.Given as goal

abbrev pub invariant-bytes : goal.invariant-bytes
invariant-bytes l = Scanned l.text l.starts l.i
