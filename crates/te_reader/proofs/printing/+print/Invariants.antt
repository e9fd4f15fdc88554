use Rattle.std.proofs.Common.{◌+◌, ◌*◌, max}
use Rattle.te_reader.proofs.printing.+print.Given as goal

-- an event stands above its parts
abbrev pub decreases-put_event : goal.decreases-put_event
decreases-put_event l = 2 * l.root + 1

abbrev pub decreases-put_then : goal.decreases-put_then
decreases-put_then l = 2 * max l.a l.b + 2

abbrev pub decreases-put_choose : goal.decreases-put_choose
decreases-put_choose l = 2 * max l.a l.b + 2

abbrev pub decreases-put_catch : goal.decreases-put_catch
decreases-put_catch l = 2 * max l.a l.b + 2

abbrev pub decreases-put_if : goal.decreases-put_if
decreases-put_if l = 2 * max l.a l.b + 2
