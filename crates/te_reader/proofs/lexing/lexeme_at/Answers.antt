use Rattle.std.proofs.Common.{rules, ◌≡◌, ◌<◌, length, sym}
use Rattle.te_reader.proofs.TokenSteps.{no_text, sign_first, IsSignByte}
use Rattle.te_reader.proofs.lexing.lexeme_at.Goals as goal

pub returns-then-is_empty-clause-tokens : goal.returns-then-is_empty-clause-tokens
returns-then-is_empty-clause-tokens c =
    let none : length c.args.text.now ≡ 0 = search rules in
    let f = no_text c.args.text.now none in
    (sym f.0, sym f.1)

pub returns-else-first-eq95-clause-tokens : goal.returns-else-first-eq95-clause-tokens
returns-else-first-eq95-clause-tokens c =
    let text = c.args.text.now in
    let some : 0 < length text = search rules in
    let kind : IsSignByte _ = record { letter = search rules; digit = search rules; less = c.if-first-eq60.false; minus = c.if-first-eq45.false; inner = c.if-first-eq95.false } in
    rw c.behind.ensures (sign_first text c.one_sign.result some c.requires kind c.one_sign.ensures)
