use Rattle.std.proofs.Common.{◌≡◌, ◌++◌, drop, map}
use Rattle.std.specs.List.{AllByRecursion}
use Rattle.te_script.specs.Texts.{statement_of, RootIsNode}
use Rattle.te_reader.specs.Printed.{spelling_of_names}
use Rattle.te_reader.specs.Canonical.{lines_text}
use Rattle.te_reader.proofs.printing.put_lines.Given as goal

-- with the statements that are left it is the whole
abbrev pub invariant-loop-stmt : goal.invariant-loop-stmt
invariant-loop-stmt l = record {
  text : l.out.items ++ lines_text (spelling_of_names l.names) l.left
      (map statement_of (drop l.stmt-index l.stmts)) ≡ l.fn.out.items ++ lines_text (spelling_of_names l.names) 0
      (map statement_of l.stmts);
  roots : AllByRecursion RootIsNode (drop l.stmt-index l.stmts);
}
