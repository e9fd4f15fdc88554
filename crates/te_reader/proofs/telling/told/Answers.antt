use Rattle.std.proofs.Common.{rules}
use Rattle.te_reader.proofs.FaultIsTold.{long_is_told}
use Rattle.te_reader.proofs.telling.told.Goals as goal

pub returns-then-bytes-gt1048576 : goal.returns-then-bytes-gt1048576
returns-then-bytes-gt1048576 c = long_is_told c.args.bytes.now (search rules)
