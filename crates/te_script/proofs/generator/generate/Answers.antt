use Rattle.std.proofs.Common.{◌≡◌, ◌+◌, ◌*◌, ◌%◌, ◌∷◌, [], List, map, sym, ap, subst, ◌∙◌, arith}
use Rattle.te_script.specs.Scripts.{Program, IsScript}
use Rattle.te_script.specs.Generated.{each, generated_channel_name, generated_thread, rings_of, rounds_of, generated}
use Rattle.te_script.proofs.GeneratedKept.{script_kept}
use Rattle.te_script.proofs.generator.generate.Goals as goal

-- the program that was made
made : (c : goal.After-loop-thread) → (◌≡◌ {A = Program} (record { channels = c.loop-channel.channels; threads = map (λ a. a.value) c.loop-thread.threads }) (generated c.args.number))
made c =
    let channels : c.loop-channel.channel ≡ 3 * rings_of c.args.number = omega (arith, c.loop-channel.auto.channel-end, c.loop-channel-test.false) in
    let threads : c.loop-thread.thread ≡ 3 * rings_of c.args.number = omega (arith, c.loop-thread.auto.thread-end, c.loop-thread-test.false) in
    let first = c.loop-channel.invariant ∙ ap (each generated_channel_name) channels in
    let second = c.loop-thread.invariant ∙ ap (each (generated_thread (rounds_of c.args.number))) threads in
    λ i. record { channels = first i; threads = second i }

pub invariant_of-result : goal.invariant_of-result
invariant_of-result c =
    subst IsScript (sym (made c))
    (script_kept (3 * rings_of c.args.number) (rounds_of c.args.number) (omega arith) (omega arith) (λ i lt. omega (arith, lt)) (omega arith) (omega arith))

pub returns : goal.returns
returns c = made c
