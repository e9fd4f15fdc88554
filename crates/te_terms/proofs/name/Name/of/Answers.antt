use Rattle.std.proofs.Common.{arith}
use Rattle.std.proofs.lemmas.Bool.Decides.{nat_tests}
use Rattle.te_terms.proofs.PaddingLemmas.{IsPadded-copied}
use Rattle.te_terms.proofs.name.Name.of.Goals as goal

pub invariant_of-result : goal.invariant_of-result
invariant_of-result c = (IsPadded-copied 32 0 c.args.bytes.now c.copy_from_slice.new.self c.copy_from_slice.ensures.after (omega arith), grind (arith, nat_tests))
