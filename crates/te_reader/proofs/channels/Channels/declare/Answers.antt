use Rattle.std.proofs.Common.{◌+◌, arith}
use Rattle.te_reader.proofs.ChannelIndexLemmas.{index_push}
use Rattle.te_reader.proofs.channels.Channels.declare.Goals as goal

pub invariant_of-result : goal.invariant_of-result
invariant_of-result c =
    index_push c.self.inside.names c.declare.new.names c.args.name.now c.len-number.result (c.len-number.result + 1) c.self.inside.numbers c.insert.new.self c.self.inside.slots
    c.self.invariant c.in_ok-declare.ensures.names c.len-number.ensures c.in_ok-insert.ensures.updates c.slot_of.result c.slot_of.ensures.value c.slot_of.ensures.within (omega arith)
