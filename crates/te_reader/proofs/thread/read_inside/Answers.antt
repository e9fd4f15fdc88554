-- The syncs of a repeat, up to its closing brace.
use Rattle.std.proofs.Common.{length, map, ◌∙◌, ap, arith}
use Rattle.std.proofs.lemmas.Result.{err_from_is_err_and}
use Rattle.te_script.specs.Texts.{statement_of}
use Rattle.te_reader.specs.Reads.{read_written}
use Rattle.te_reader.proofs.PassedOn.{read_passed_on}
use Rattle.te_reader.proofs.LoopSteps.{syncs_full, no_sync, first_none, first_all}
use Rattle.te_reader.proofs.WrittenLemmas.{syncs_longer, more_of_them, last_of_them}
use Rattle.te_reader.proofs.thread.read_inside.Goals as goal

pub returns-in_err-read_syncs-clause-read : goal.returns-in_err-read_syncs-clause-read
returns-in_err-read_syncs-clause-read c =
    let p = err_from_is_err_and c.from_residual.result c.from_residual.ensures.1 in
    rw (p.1, p.2)
    (read_passed_on _ _ _ (read_written c.args.channels.now c.syncs.registers c.syncs.cursor.tokens) _ c.in_err-read_syncs.ensures.read
    (λ none. first_none c.args.room _ _ _ (no_sync c.args.room (length c.syncs.syncs.items) _ _ _ _ _ c.syncs.invariant.0 (omega (arith, c.len.ensures, c.syncs-test.true)) none)))

pub returns-then-take_sign-clause-read : goal.returns-then-take_sign-clause-read
returns-then-take_sign-clause-read c =
    let old = c.syncs.syncs.items in
    let read = c.in_ok-read_syncs.ensures.read in
    let long = syncs_longer c.args.channels.now c.args.room _ _ _ _ old c.read_syncs.new.stmts.items read in
    record {
      within = read.within;
      read =
          rw (long, read.appended)
          (first_all c.args.room _ _ _ _ _
          (last_of_them c.args.channels.now c.args.room _ _ _ (length old)
          (map statement_of old) _ _ read.first read.others _ c.syncs.invariant.0 read.written
          (omega (arith, long, read.within)) c.if-take_sign.ensures.0));
    }

pub syncs-smaller : goal.syncs-smaller
syncs-smaller c =
    let read = c.in_ok-read_syncs.ensures.read in
    let long = syncs_longer c.args.channels.now c.args.room _ _ _ _ c.syncs.syncs.items c.read_syncs.new.stmts.items read in
    omega (arith, long, read.within)

pub syncs-preserved : goal.syncs-preserved
syncs-preserved c =
    let old = c.syncs.syncs.items in
    let read = c.in_ok-read_syncs.ensures.read in
    let long = syncs_longer c.args.channels.now c.args.room _ _ _ _ old c.read_syncs.new.stmts.items read in (
      rw (long, read.appended, c.if-take_sign.ensures.1)
          (more_of_them c.args.channels.now c.args.room _ _ _ (length old)
          (map statement_of old) _ _ read.first read.others c.syncs.invariant.0 read.written
          (omega (arith, long, read.within)) c.if-take_sign.ensures.0),
      ap (λ s. s.whole) c.if-take_sign.ensures.1 ∙ c.in_ok-read_syncs.ensures.whole ∙ c.syncs.invariant.1,
      c.in_ok-read_syncs.ensures.few,
      c.in_ok-read_syncs.ensures.roots c.syncs.invariant.3,
    )

pub returns-clause-read : goal.returns-clause-read
returns-clause-read c = first_none c.args.room _ _ _ (syncs_full c.args.room (length c.syncs.syncs.items) _ _ _ _ _ c.syncs.invariant.0 (omega (arith, c.len.ensures, c.syncs-test.false)))
