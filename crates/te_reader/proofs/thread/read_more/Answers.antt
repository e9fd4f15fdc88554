-- An emit, or some syncs, stand behind the statements before.
use Rattle.std.proofs.Common.{◌≡◌, ◌+◌, [], ◌∷◌, length, ◌∙◌, ap, arith, length-append}
use Rattle.std.proofs.lemmas.List.{map-append}
use Rattle.std.proofs.lemmas.Result.{err_from_is_err_and}
use Rattle.te_terms.specs.Codes.{expression_of}
use Rattle.te_script.specs.declared.script.Stmt.TheVariants as stmts
use Rattle.te_script.specs.Scripts.{emit}
use Rattle.te_script.specs.Texts.{statement_of}
use Rattle.te_reader.specs.Reads.{read_emit}
use Rattle.te_reader.proofs.PassedOn.{read_refused}
use Rattle.te_reader.proofs.WrittenLemmas.{emit_is_read, no_emit_read, syncs_appended}
use Rattle.te_reader.proofs.thread.read_more.Goals as goal

pub returns-then-take_word-2-clause-read : goal.returns-then-take_word-2-clause-read
returns-then-take_word-2-clause-read c =
    let old = c.args.stmts.now.items in
    let pushed = c.in_ok-push.ensures.items in
    let value = c.in_ok-value.value in
    let long : length c.push.new.self.items ≡ length old + 1 = ap length pushed ∙ length-append old (stmts.Emit value ∷ []) in
    record {
      within = omega (arith, long, c.requires.room);
      more = omega (arith, long);
      added = emit (expression_of value) ∷ [];
      appended = rw pushed (map-append statement_of old (stmts.Emit value ∷ []));
      read =
          emit_is_read c.args.channels.now (length old) _ c.args.registers.now c.args.cursor.now.tokens _ _ (expression_of value)
          c.if-take_word.ensures.0 (rw c.if-take_word.ensures.1 at c.if-take_word-2.ensures.0) c.in_ok-value.ensures.0 (omega (arith, long));
    }

pub returns-in_err-value-clause-read : goal.returns-in_err-value-clause-read
returns-in_err-value-clause-read c =
    let p = err_from_is_err_and c.from_residual.result c.from_residual.ensures.1 in
    let emits = rw c.if-take_word.ensures.1 at c.if-take_word-2.ensures.0 in
    rw (p.1, p.2)
    (read_refused _ expression_of _ _ (read_emit c.args.channels.now c.args.registers.now c.take_word-2.new.self.tokens) _ _ c.in_err-value.ensures
    (λ none. no_emit_read c.args.channels.now (length c.args.stmts.now.items) c.args.registers.now c.args.cursor.now.tokens _ c.if-take_word.ensures.0 emits none))

pub returns-clause-read : goal.returns-clause-read
returns-clause-read c =
    let emits = rw c.if-take_word.ensures.1 at c.if-take_word-2.ensures.0 in
    syncs_appended c.args.channels.now c.read_syncs.result c.args.registers.now _ c.args.cursor.now.tokens _ c.args.stmts.now.items c.read_syncs.new.stmts.items
    c.if-take_word.ensures.0 emits (rw (c.if-take_word-2.ensures.1, c.if-take_word.ensures.1) at c.read_syncs.ensures.read)
