use Rattle.std.proofs.Common.{◌≡◌, ◌+◌, ◌≤◌, length, drop, refl, sym, ◌∙◌, ap, arith, length-drop}
use Rattle.std.specs.List.{prefix_len}
use Rattle.std.proofs.lemmas.List.Sums.{prefix_len-le-length}
use Rattle.std.specs.Char.{is_ascii_digit}
use Rattle.te_reader.proofs.TokenSteps.{minus_first, negative_first}
use Rattle.te_reader.proofs.lexing.minus.Goals as goal

pub returns-then-len-eq0-clause-tokens : goal.returns-then-len-eq0-clause-tokens
returns-then-len-eq0-clause-tokens c =
    let text = c.args.text.now in
    let none : prefix_len is_ascii_digit (drop 1 text) ≡ 0 = ap (prefix_len is_ascii_digit) (sym c.behind.ensures) ∙ sym c.digits_len-len.ensures ∙ c.if-len-eq0.true in
    let f = minus_first text c.requires none in
    (rw (f.0, c.behind-then-len-eq0.ensures) refl, rw (f.1, c.behind-then-len-eq0.ensures) refl)

pub split_at-requires : goal.split_at-requires
split_at-requires c =
    let text = c.args.text.now in
    omega (arith, c.digits_len-len.ensures, ap (λ bs. prefix_len is_ascii_digit bs) c.behind.ensures, prefix_len-le-length is_ascii_digit (drop 1 text), length-drop 1 text, c.if-len-eq0.false)

pub returns-clause-tokens : goal.returns-clause-tokens
returns-clause-tokens c =
    let text = c.args.text.now in
    let len = c.digits_len-len.ensures ∙ ap (prefix_len is_ascii_digit) c.behind.ensures in
    let f = negative_first text c.digits_len-len.result c.requires len c.if-len-eq0.false in
    (rw (f.0, ← c.split_at.ensures.front, ← c.split_at.ensures.back) refl, rw (f.1, ← c.split_at.ensures.front, ← c.split_at.ensures.back) refl)

pub overflow_add-len : goal.overflow_add-len
overflow_add-len c =
    let text = c.args.text.now in
    let within : 1 + c.digits_len-len.result ≤ length text =
    omega (
      arith,
      c.digits_len-len.ensures,
      ap (λ bs. prefix_len is_ascii_digit bs) c.behind.ensures,
      prefix_len-le-length is_ascii_digit (drop 1 text),
      length-drop 1 text,
      c.if-len-eq0.false,
    ) in
    omega (arith, within)
