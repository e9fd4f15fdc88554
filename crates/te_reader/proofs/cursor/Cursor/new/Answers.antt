use Rattle.std.proofs.Common.{sym, subst}
use Rattle.te_reader.specs.Tokens.{AreTokens}
use Rattle.te_reader.specs.Lexed.{Stream}
use Rattle.te_reader.proofs.LexedTokens.{lexed_tokens}
use Rattle.te_reader.proofs.cursor.Cursor.new.Goals as goal

pub invariant_of-result : goal.invariant_of-result
invariant_of-result c = (c.lexeme.ensures.name, subst (λ (s : Stream). AreTokens s.tokens) (sym c.lexeme.ensures.tokens) (lexed_tokens c.args.text.now))
