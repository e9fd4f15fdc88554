-- What stands behind the register of a sync, up to its `;`.
use Rattle.std.proofs.Common.{◌∙◌, arith}
use Rattle.te_reader.specs.Tallies.{tally}
use Rattle.te_reader.proofs.SyncRead.{event_in_sync}
use Rattle.te_reader.proofs.sync.read_sync.Goals as goal

pub returns-clause-event : goal.returns-clause-event
returns-clause-event c =
    let event = rw c.new-names.ensures at c.in_ok-root.ensures.event in (
      event_in_sync c.args.channels.now c.args.registers.now c.args.cursor.now.tokens _ _ c.if-not-take_sign.ensures.0 c.if-not-take_word.ensures.0
          (tally c.args.code.now) _ _ _ event.0 c.if-not-take_sign-2.ensures.0,
      c.if-not-take_sign-2.ensures.1 ∙ event.1 ∙ c.if-not-take_word.ensures.1 ∙ c.if-not-take_sign.ensures.1,
      omega (arith, event.2.last),
    )
