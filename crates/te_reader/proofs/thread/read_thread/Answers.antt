use Rattle.std.proofs.Common.{subst}
use Rattle.te_reader.specs.declared.token.Sign.TheVariants as signs
use Rattle.te_reader.specs.Tokens.{AreTokens}
use Rattle.te_reader.proofs.HeadLemmas.{sign_is}
use Rattle.te_reader.proofs.thread.read_thread.Goals as goal

pub read_body-requires-clause-tokens : goal.read_body-requires-clause-tokens
read_body-requires-clause-tokens c = (subst AreTokens (sign_is signs.OpenBrace _ _ c.if-not-take_sign.ensures.0) c.in-Some.ensures.behind).1
