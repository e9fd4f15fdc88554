-- What isn't among the nodes of a code yet has no parent among them.
use Rattle.std.proofs.Common.{◌≡◌, ℕ, suc, ◌<◌, ◌≤◌, cond, List, [], ◌∷◌, length, Some, refl, ◌∙◌, arith}
use Rattle.std.specs.Prelude.{◌==◌, slice_get}
use Rattle.std.specs.List.{count_by, AllByRecursion}
use Rattle.std.proofs.lemmas.List.Sums.{sum_by-cons}
use Rattle.std.proofs.lemmas.Option.{slice_get_within}
use Rattle.std.proofs.lemmas.Bool.Decides.{nat_tests}
use Rattle.te_terms.specs.declared.code.Node.{Node}
use Rattle.te_terms.specs.Shape.{children, times_in, times_named}
use Rattle.te_terms.proofs.TermLemmas.{IsEarlier}
use Rattle.te_terms.proofs.KeptLemmas.{none_from}
use Rattle.te_terms.proofs.KeptLemmas.{never_named}
use Rattle.te_terms.proofs.KeptLemmas.{none_named}
