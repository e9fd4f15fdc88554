use Rattle.std.proofs.Common.{◌≡◌, drop}
use Rattle.te_serial.specs.Runs.{without_all, AreKept}
use Rattle.te_serial.proofs.committing.release.Given as goal

abbrev pub invariant-loop-member : goal.invariant-loop-member
invariant-loop-member l = record {
  there : AreKept (drop l.member-index l.members) l.kept;
  left : without_all (drop l.member-index l.members) l.kept ≡ without_all l.members l.initial.kept;
}
