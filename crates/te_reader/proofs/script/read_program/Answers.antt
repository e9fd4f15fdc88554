use Rattle.std.proofs.Common.{◌<◌, length, map, arith}
use Rattle.std.proofs.lemmas.List.{length-map}
use Rattle.te_reader.proofs.ReadIsKept.{channels_read, program_of}
use Rattle.te_reader.proofs.NamesRead.{spelled_is_script}
use Rattle.te_reader.proofs.script.read_program.Goals as goal

pub invariant_of-result : goal.invariant_of-result
invariant_of-result c =
    let some : 0 < length (map (λ a. a.value) c.in_ok-threads.threads) = simp length-map (omega (arith, c.len.ensures, c.if-len-eq0.false)) in
    let read = program_of c.in_ok-channels.channels (map (λ a. a.value) c.in_ok-threads.threads) _ _ _ (channels_read _ _ _ c.in_ok-channels.ensures.channels.0) some c.in_ok-threads.ensures.0 in
    rw c.into_names.ensures (spelled_is_script _ _ _ read.kept read.spelled c.requires)
