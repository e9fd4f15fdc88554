use Rattle.std.proofs.Common.{◌≡◌, ◌++◌, drop, map}
use Rattle.std.specs.List.{AllByRecursion}
use Rattle.te_script.specs.Texts.{statement_of, RootIsNode}
use Rattle.te_reader.specs.Written.{draft_of, IsDraft}
use Rattle.te_reader.proofs.sync.share.Given as goal

-- with the drafts that are left they are the whole
abbrev pub invariant-loop-draft : goal.invariant-loop-draft
invariant-loop-draft l = record {
  listed : map statement_of l.stmts.items ++ map (draft_of l.fn.code) (drop l.draft-index l.drafts)
      ≡ map statement_of l.fn.stmts.items ++ map (draft_of l.fn.code) l.drafts;
  roots : AllByRecursion RootIsNode l.fn.stmts.items → AllByRecursion RootIsNode l.stmts.items;
  left : AllByRecursion (IsDraft l.fn.code) (drop l.draft-index l.drafts);
}
