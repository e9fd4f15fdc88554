use Rattle.std.proofs.Common.{◌≡◌, length, drop}
use Rattle.te_terms.proofs.Evaluating.{behind, atoms_of}
use Rattle.te_terms.proofs.lent.ExprView.eval_in.Given as goal

abbrev pub invariant-loop-calc : goal.invariant-loop-calc
invariant-loop-calc g l = record {
  filled : length l.value ≡ l.calc-index;
  found : behind l.value (atoms_of (g.S.Scope.values l.scope) (drop l.calc-index l.calc-items)) ≡ atoms_of (g.S.Scope.values l.scope) l.calc-items;
}
