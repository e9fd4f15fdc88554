use Rattle.std.proofs.Common.{refl, arith}
use Rattle.std.proofs.lemmas.List.Sums.{prefix_len-le-length}
use Rattle.te_script.specs.Names.{is_word_byte}
use Rattle.te_reader.proofs.TokenSteps.{word_first}
use Rattle.te_reader.proofs.lexing.word_or_name.Goals as goal

pub split_at-requires : goal.split_at-requires
split_at-requires c = omega (arith, c.word_len.ensures, prefix_len-le-length is_word_byte c.args.text.now)

pub returns-in-Some-clause-tokens : goal.returns-in-Some-clause-tokens
returns-in-Some-clause-tokens c =
    let f = word_first c.args.text.now c.word_len.result c.requires c.word_len.ensures in (
      rw (f.0, ← c.split_at.ensures.front, ← c.split_at.ensures.back, ← c.reserved_word.ensures, c.in-Some.is) refl,
      rw (f.1, ← c.split_at.ensures.front, ← c.split_at.ensures.back, ← c.reserved_word.ensures, c.in-Some.is) refl,
    )

pub returns-in-None-clause-tokens : goal.returns-in-None-clause-tokens
returns-in-None-clause-tokens c =
    let f = word_first c.args.text.now c.word_len.result c.requires c.word_len.ensures in (
      rw (f.0, ← c.split_at.ensures.front, ← c.split_at.ensures.back, ← c.reserved_word.ensures, c.in-None.is) refl,
      rw (f.1, ← c.split_at.ensures.front, ← c.split_at.ensures.back, ← c.reserved_word.ensures, c.in-None.is) refl,
    )
