-- What a thread text and a script are seen as.
use Rattle.std.specs.Prelude.{◌<◌, List, length}
use Rattle.std.specs.List.{AllByRecursion}
use Rattle.te_terms.specs.Codes.{term_under, expression_of}
use Rattle.te_script.specs.declared.script.Stmt.{Stmt}
use Rattle.te_script.specs.declared.script.Stmt.TheVariants as stmts
use Rattle.te_script.specs.Scripts.{Statement, sync, emit, repeat, Thread, IsThread, HasNames}
use Rattle.te_script.specs.Limits.{most_channels}

-- the event of a sync statement is the term under its root, whatever its nodes' numbers
abbrev pub statement_of : Stmt → Statement
statement_of (stmts.Sync r code root) = sync r (term_under code.value root)
statement_of (stmts.Emit e) = emit (expression_of e)
statement_of (stmts.Repeat times count) = repeat times count

-- each root is a node of its code
abbrev pub RootIsNode : Stmt → Type 0
RootIsNode (stmts.Sync r code root) = root < length code.value
RootIsNode (stmts.Emit e) = Unit {0}
RootIsNode (stmts.Repeat times count) = Unit {0}

-- what a thread text keeps: what a thread keeps by itself, with as many channels as there may be, its names and its roots
pub record IsText (t : Thread) (stmts : List Stmt) : Type 0 where
  pub thread : IsThread most_channels t
  pub names : HasNames t
  pub roots : AllByRecursion RootIsNode stmts
