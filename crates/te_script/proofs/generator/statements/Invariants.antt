use Rattle.std.proofs.Common.{◌≡◌, take, drop, map}
use Rattle.std.specs.List.{AllByRecursion}
use Rattle.te_terms.specs.Codes.{term_under}
use Rattle.te_script.specs.Scripts.{sync}
use Rattle.te_script.specs.Texts.{statement_of, RootIsNode}
use Rattle.te_script.proofs.generator.statements.Given as goal

abbrev pub invariant-loop-root : goal.invariant-loop-root
invariant-loop-root l = record {
  value : map statement_of l.stmts ≡ map (sync 0) (map (term_under l.code.value) (take l.root-index l.root-items));
  roots : AllByRecursion RootIsNode l.stmts;
}
