use Rattle.std.proofs.Common.{refl}
use Rattle.te_reader.proofs.ChannelIndexLemmas.{empty_index}
use Rattle.te_reader.proofs.channels.Channels.new.Goals as goal

pub invariant_of-result : goal.invariant_of-result
invariant_of-result c = empty_index c.new.result c.new-2.result _ c.new.ensures c.new-2.ensures.empty refl
