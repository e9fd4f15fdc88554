-- The texts of a program. This is the project's own language.
use Rattle.std.specs.Prelude.{ℕ, ◌≤◌, true, List, [], length}
use Rattle.te_script.specs.Scripts.{Program, IsProgram}
use Rattle.te_reader.specs.Tokens.{Token, Spells}
use Rattle.te_reader.specs.Grammar.{spells_program}
use Rattle.te_reader.specs.Limits.{most_bytes}

-- at most 1,048,576 bytes, which spell the tokens of a program that keeps the limits and the rules on names
pub record Text (bytes : List ℕ) (p : Program) : Type 0 where
  pub size : length bytes ≤ most_bytes
  pub tokens : List Token
  pub spelled : Spells tokens bytes
  pub grammar : spells_program true p tokens []
  pub kept : IsProgram p
