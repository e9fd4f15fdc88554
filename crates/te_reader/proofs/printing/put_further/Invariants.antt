use Rattle.std.proofs.Common.{◌≡◌, ◌++◌, drop, map}
use Rattle.te_terms.specs.Codes.{calculation_of}
use Rattle.te_reader.specs.Printed.{spelling_of_names}
use Rattle.te_reader.specs.Canonical.{further_text}
use Rattle.te_reader.proofs.printing.put_further.Given as goal

-- with the calculations that are left it is the whole
abbrev pub invariant-loop-calc : goal.invariant-loop-calc
invariant-loop-calc l = l.out.items ++ further_text (spelling_of_names l.names)
    (map calculation_of (drop l.calc-index l.calcs)) ≡ l.fn.out.items ++ further_text (spelling_of_names l.names)
    (map calculation_of l.calcs)
