use Rattle.std.proofs.Common.{◌≡◌, ◌+◌, ◌≤◌, drop, map}
use Rattle.te_script.specs.Cores.{emits_in}
use Rattle.te_script.specs.Texts.{statement_of}
use Rattle.te_script.proofs.wish.emits_among.Given as goal

abbrev pub invariant-loop-stmt : goal.invariant-loop-stmt
invariant-loop-stmt l = record {
  counted : l.count + emits_in (drop l.stmt-index (map statement_of l.stmts)) ≡ emits_in (map statement_of l.stmts);
  within : l.count ≤ l.stmt-index;
}
