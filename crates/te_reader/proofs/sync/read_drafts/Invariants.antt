use Rattle.std.proofs.Common.{◌≡◌, ◌-◌, ◌<◌, ◌≤◌, length, map}
use Rattle.std.specs.List.{AllByRecursion}
use Rattle.te_reader.specs.Written.{draft_of, IsDraft, AreWritten}
use Rattle.te_reader.proofs.sync.read_drafts.Given as goal

abbrev pub invariant-drafts : goal.invariant-drafts
invariant-drafts l = record {
  written : AreWritten l.channels l.fn.registers l.fn.cursor.tokens (map (draft_of l.code) l.drafts.items) l.registers l.cursor.tokens;
  some : 0 < length l.drafts.items;
  within : length l.drafts.items ≤ l.room;
  whole : l.cursor.whole ≡ l.fn.cursor.whole;
  few : length l.registers ≤ 8;
  roots : AllByRecursion (IsDraft l.code) l.drafts.items;
}

abbrev pub decreases-drafts : goal.decreases-drafts
decreases-drafts l = l.room - length l.drafts.items
