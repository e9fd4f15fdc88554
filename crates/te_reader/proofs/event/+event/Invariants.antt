use Rattle.std.proofs.Common.{◌+◌, ◌*◌}
use Rattle.te_reader.proofs.event.+event.Given as goal

abbrev pub decreases-read_event : goal.decreases-read_event
decreases-read_event l = 4 * l.layers

abbrev pub decreases-read_braced : goal.decreases-read_braced
decreases-read_braced l = 4 * l.layers + 1

abbrev pub decreases-read_do : goal.decreases-read_do
decreases-read_do l = 4 * l.layers + 3

abbrev pub decreases-read_part : goal.decreases-read_part
decreases-read_part l = 4 * l.layers + 2

abbrev pub decreases-read_rest : goal.decreases-read_rest
decreases-read_rest l = 4 * l.layers + 1

abbrev pub decreases-read_choose : goal.decreases-read_choose
decreases-read_choose l = 4 * l.layers + 2

abbrev pub decreases-read_more : goal.decreases-read_more
decreases-read_more l = 4 * l.layers + 1

abbrev pub decreases-read_try : goal.decreases-read_try
decreases-read_try l = 4 * l.layers + 2

abbrev pub decreases-read_if : goal.decreases-read_if
decreases-read_if l = 4 * l.layers + 2
