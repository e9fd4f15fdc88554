-- What the lexer finds are tokens.
use Rattle.std.proofs.Common.{◌≡◌, ℕ, zero, suc, List, [], ◌∷◌, refl}
use Rattle.te_reader.specs.Tokens.{AreTokens, Between, in_blanks}
use Rattle.te_reader.specs.Lexed.{Piece, gap, found, other, piece_at, place_after, bytes_after, before, lexed_behind, lexed}
use Rattle.te_reader.proofs.LongestTokens.{token_found}
use Rattle.te_reader.proofs.LexedIsSpelled.{token_of}

tokens_behind : (place : Between) (skipped : ℕ) (text : List ℕ) → AreTokens (lexed_behind place skipped text).tokens
unfolding lexed_behind
tokens_behind place zero [] = tt
tokens_behind place (suc k) [] = tt
tokens_behind place (suc k) (b ∷ bs) = tokens_behind place k bs
tokens_behind place zero (b ∷ bs) = by (piece_at place b bs) refl (tokens_behind (place_after (piece_at place b bs)) (bytes_after (piece_at place b bs)) bs) where
  by : (p : Piece) → piece_at place b bs ≡ p → AreTokens (lexed_behind (place_after p) (bytes_after p) bs).tokens → AreTokens (before p (lexed_behind (place_after p) (bytes_after p) bs)).tokens
  by (gap next) e later = later
  by (found t) e later = ((token_found b bs t (token_of place b bs t e).1).is_token, later)
  by other e later = tt

pub lexed_tokens : (text : List ℕ) → AreTokens (lexed text).tokens
lexed_tokens text = tokens_behind in_blanks 0 text
