-- Syncs one behind another are appended to the statements.
use Rattle.std.proofs.Common.{arith}
use Rattle.te_reader.proofs.DraftLemmas.{appended}
use Rattle.te_reader.proofs.sync.read_syncs.Goals as goal

pub returns-clause-read : goal.returns-clause-read
returns-clause-read c =
    appended c.share.result c.args.most _ c.args.channels.now c.args.registers.now c.args.cursor.now.tokens c.args.stmts.now.items c.share.new.stmts.items _ _
    c.read_drafts.new.code c.in_ok-drafts.drafts.items _ (omega (arith, c.len.ensures)) c.requires.room
    c.in_ok-drafts.ensures.read (rw c.deref.ensures.value at c.share.ensures.appended) c.share.ensures.never
