use Rattle.std.proofs.Common.{refl, arith}
use Rattle.std.proofs.lemmas.List.Sums.{prefix_len-le-length}
use Rattle.std.specs.Char.{is_ascii_digit}
use Rattle.te_reader.proofs.TokenSteps.{digits_first}
use Rattle.te_reader.proofs.lexing.digits.Goals as goal

pub split_at-requires : goal.split_at-requires
split_at-requires c = omega (arith, c.digits_len.ensures, prefix_len-le-length is_ascii_digit c.args.text.now)

pub returns-clause-tokens : goal.returns-clause-tokens
returns-clause-tokens c =
    let f = digits_first c.args.text.now c.digits_len.result c.requires c.digits_len.ensures in
    (rw (f.0, ← c.split_at.ensures.front, ← c.split_at.ensures.back) refl, rw (f.1, ← c.split_at.ensures.front, ← c.split_at.ensures.back) refl)
