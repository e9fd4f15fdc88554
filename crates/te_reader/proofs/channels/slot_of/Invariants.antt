use Rattle.std.proofs.Common.{◌≡◌, ◌<◌, drop}
use Rattle.te_reader.specs.ChannelIndex.{slot_behind}
use Rattle.te_reader.proofs.channels.slot_of.Given as goal

abbrev pub invariant-loop-b : goal.invariant-loop-b
invariant-loop-b l = (slot_behind l.slot (drop l.b-index l.name) ≡ slot_behind 0 l.name) × (l.slot < 256)
