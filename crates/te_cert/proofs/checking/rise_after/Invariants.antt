use Rattle.std.proofs.Common.{◌≤◌, ◌<◌, ◌^◌, drop}
use Rattle.te_cert.specs.Checks.{RiseAfter}
use Rattle.te_cert.proofs.checking.rise_after.Given as goal

abbrev pub invariant-loop-member : goal.invariant-loop-member
invariant-loop-member l = record {
  few : l.member-index ≤ l.last;
  fits : l.last < 2 ^ 32;
  on : RiseAfter l.last (drop l.member-index l.members) → RiseAfter l.thread l.members;
  back : RiseAfter l.thread l.members → RiseAfter l.last (drop l.member-index l.members);
}
