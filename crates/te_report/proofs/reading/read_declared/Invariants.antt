use Rattle.std.proofs.Common.{suc, length}
use Rattle.te_report.specs.Following.{AreFollowed}
use Rattle.te_report.specs.Told.{LineStandsAt}
use Rattle.te_report.specs.Declarations.{DeclaredIn}
use Rattle.te_report.specs.Sayings.{version_of}
use Rattle.te_report.proofs.reading.read_declared.Given as goal

-- the lines so far are read, and the cores follow them
abbrev pub invariant-lines : goal.invariant-lines
invariant-lines l = record {
  stands : LineStandsAt l.script l.bytes (version_of l.head.sites) l.hist l.rest (suc (suc (length l.hist.entries)));
  followed : AreFollowed l.script l.hist l.cores.items;
  declared : DeclaredIn l.hist.callers l.hist.entries l.declared;
}

abbrev pub decreases-lines : goal.decreases-lines
decreases-lines l = length l.rest
