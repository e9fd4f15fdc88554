use Rattle.std.proofs.Common.{◌≡◌, map}
use Rattle.te_script.specs.Generated.{each, generated_channel_name, generated_thread}
use Rattle.te_script.proofs.generator.generate.Given as goal

abbrev pub invariant-loop-channel : goal.invariant-loop-channel
invariant-loop-channel l = l.channels ≡ each generated_channel_name l.channel

abbrev pub invariant-loop-thread : goal.invariant-loop-thread
invariant-loop-thread l = map (λ a. a.value) l.threads ≡ each (generated_thread l.rounds) l.thread
