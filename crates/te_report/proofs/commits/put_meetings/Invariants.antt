use Rattle.std.proofs.Common.{◌≡◌, ◌++◌, take}
use Rattle.std.specs.List.{flat_map}
use Rattle.te_report.specs.Report.{meeting_text}
use Rattle.te_report.proofs.commits.put_meetings.Given as goal

-- the meetings so far
abbrev pub invariant-loop-meeting : goal.invariant-loop-meeting
invariant-loop-meeting l = l.out.items ≡ l.fn.out.items ++ flat_map (meeting_text l.script l.members) (take l.meeting-index l.meetings)
