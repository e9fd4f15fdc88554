use Rattle.std.proofs.Common.{sym, ◌∙◌}
use Rattle.te_reader.specs.Finding.{lexeme_head}
use Rattle.te_reader.proofs.NextForm.{last_form, plain_form}
use Rattle.te_reader.proofs.finder.next_form.Goals as goal

pub returns-then-is_last : goal.returns-then-is_last
returns-then-is_last c =
    last_form c.args.part (lexeme_head c.args.lexeme) c.args.dotted c.pick.result c.args.wanted.now c.push.new.self (sym c.is_last.ensures ∙ c.if-is_last.true) c.pick.ensures c.in_ok-push.ensures

pub returns : goal.returns
returns c =
    plain_form c.args.part (lexeme_head c.args.lexeme) c.args.dotted c.pick-2.result c.args.wanted.now (sym c.is_last.ensures ∙ c.if-is_last.false) c.pick-2.ensures
