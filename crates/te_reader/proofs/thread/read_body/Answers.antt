-- The statements of a thread, up to its closing brace.
use Rattle.std.proofs.Common.{◌<◌, ℕ, List, [], length, false, ◌∙◌, ap, subst, arith}
use Rattle.std.specs.List.{AllByRecursion}
use Rattle.te_script.specs.Names.{IsName}
use Rattle.std.proofs.lemmas.Result.{err_from_is_err_and}
use Rattle.te_reader.specs.Reads.{read_body}
use Rattle.te_reader.specs.Bodies.{more_behind}
use Rattle.te_reader.proofs.PassedOn.{body_refused}
use Rattle.te_reader.proofs.ReadIsKept.{body_read, kept_lists, spelled_outside}
use Rattle.te_reader.proofs.NamesRead.{body_named}
use Rattle.te_reader.proofs.LoopSteps.{body_ended, body_full, none_more, more_read, named_refused, named_read, was_read}
use Rattle.te_reader.proofs.thread.read_body.Goals as goal

pub returns-then-len-ge-MOST_STATEMENTS : goal.returns-then-len-ge-MOST_STATEMENTS
returns-then-len-ge-MOST_STATEMENTS c =
    named_refused c.args.name _ (body_full 1024 (length c.stmts.stmts.items) _ _ _ _ _ c.stmts.invariant.read c.stmts-test.ensures.0 (omega (arith, c.len.ensures, c.if-len-ge-MOST_STATEMENTS.true)))

pub stmts-smaller : goal.stmts-smaller
stmts-smaller c = omega (arith, c.in_ok-read_more.ensures.read.more, c.in_ok-read_more.ensures.read.within)

pub stmts-preserved : goal.stmts-preserved
stmts-preserved c =
    let more = c.in_ok-read_more.ensures.read in
    let lt : length c.stmts.stmts.items < 1024 = omega (arith, c.len.ensures, c.if-len-ge-MOST_STATEMENTS.false) in
    record {
      read = rw more.appended (more_read 1024 (length c.stmts.stmts.items) _ _ _ _ _ c.stmts.invariant.read c.stmts-test.ensures.0 lt more.added _ _ _ (rw c.stmts-test.ensures.1 at more.read));
      whole = c.in_ok-read_more.ensures.whole ∙ ap (λ s. s.whole) c.stmts-test.ensures.1 ∙ c.stmts.invariant.whole;
      few = c.in_ok-read_more.ensures.few;
      most = more.within;
      roots = c.in_ok-read_more.ensures.roots c.stmts.invariant.roots;
    }

pub returns-in_err-read_more : goal.returns-in_err-read_more
returns-in_err-read_more c =
    let p = err_from_is_err_and c.from_residual.result c.from_residual.ensures.1 in
    let lt : length c.stmts.stmts.items < 1024 = omega (arith, c.len.ensures, c.if-len-ge-MOST_STATEMENTS.false) in
    rw (p.1, p.2)
    (body_refused _ _ (more_behind (length c.stmts.stmts.items) c.args.channels.now c.stmts.regs
    c.take_sign.new.self.tokens) (λ t. t) c.args.cursor.now c.read_more.new.cursor _ c.in_err-read_more.ensures.read
    (λ none. named_refused c.args.name _ (none_more 1024 (length c.stmts.stmts.items) _ _ _ _ _ c.stmts.invariant.read c.stmts-test.ensures.0 lt (rw c.stmts-test.ensures.1 at none))))

pub invariant_of-result : goal.invariant_of-result
invariant_of-result c =
    let all = body_ended 1024 (length c.stmts.stmts.items) _ _ _ _ _ c.stmts.invariant.read _ c.stmts-test.ensures.0 in
    let was = was_read (read_body 1024 c.args.channels.now false [] c.args.cursor.now.tokens) _ _ _ all in
    let body = body_read 256 c.args.channels.now c.requires.few 1024 false [] was.body _ _ was.read in
    let kept = kept_lists 256 c.args.channels.now c.requires.few was.body _ _ _ _ was.statements_are was.registers_are body in
    let spelled = spelled_outside 256 c.args.channels.now c.requires.few 1024 [] was.body _ _ body tt in
    let named = body_named 256 c.args.channels.now was.body.registers was.body.statements _ _ body.in_order spelled c.requires.tokens in
    rw c.from-stmts.ensures
    (record {
      thread = record { registers = c.stmts.invariant.few; distinct = kept.0; statements = kept.1; in_order = kept.2 };
      names = record { name = c.requires.name; registers = subst (λ (xs : List (List ℕ)). AllByRecursion IsName xs) was.registers_are named.0 };
      roots = c.stmts.invariant.roots;
    })

pub returns : goal.returns
returns c =
    let all = body_ended 1024 (length c.stmts.stmts.items) _ _ _ _ _ c.stmts.invariant.read _ c.stmts-test.ensures.0 in
    rw c.from-stmts.ensures (named_read c.args.name _ _ _ _ all, c.stmts-test.ensures.1 ∙ c.stmts.invariant.whole)
