use Rattle.std.proofs.Common.{◌≡◌, ◌-◌, ◌≤◌, [], false, length, map}
use Rattle.std.specs.List.{AllByRecursion}
use Rattle.te_script.specs.Texts.{statement_of, RootIsNode}
use Rattle.te_reader.specs.Reads.{read_body}
use Rattle.te_reader.specs.Behind.{behind_body}
use Rattle.te_reader.proofs.thread.read_body.Given as goal

abbrev pub invariant-stmts : goal.invariant-stmts
invariant-stmts l = record {
  read : behind_body (map statement_of l.stmts.items) (read_body
      (1024 - length l.stmts.items) l.channels false l.regs l.cursor.tokens) ≡ behind_body []
      (read_body 1024 l.channels false [] l.initial.cursor.tokens);
  whole : l.cursor.whole ≡ l.initial.cursor.whole;
  few : length l.regs ≤ 8;
  most : length l.stmts.items ≤ 1024;
  roots : AllByRecursion RootIsNode l.stmts.items;
}

abbrev pub decreases-stmts : goal.decreases-stmts
decreases-stmts l = 1024 - length l.stmts.items
