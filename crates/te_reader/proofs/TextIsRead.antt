-- What was read of a text is a program of which it is a text, and a text of a program is read as it.
use Rattle.std.proofs.Common.{◌≡◌, ℕ, Bool, true, false, List, [], ◌∷◌, length, refl, subst, arith, ap, ◌∙◌}
use Rattle.std.specs.Prelude.{Some, nat_le}
use Rattle.std.proofs.lemmas.Bool.Decides.{nat_tests}
use Rattle.te_script.specs.Scripts.{Program}
use Rattle.te_reader.specs.Tokens.{Token}
use Rattle.te_reader.specs.Lexed.{lexed}
use Rattle.te_reader.specs.Grammar.{spells_program}
use Rattle.te_reader.specs.Text.{Text}
use Rattle.te_reader.specs.NameReads.{checked}
use Rattle.te_reader.specs.Reads.{read_program, if_end, read_text}
use Rattle.te_reader.proofs.NameLemmas.{bind_some, checked_some}
use Rattle.te_reader.proofs.ReadIsKept.{program_read}
use Rattle.te_reader.proofs.SpelledIsLexed.{spelled_is_lexed}
use Rattle.te_reader.proofs.KeptIsRead.{program_is_read}
use Rattle.te_reader.proofs.LexedIsSpelled.{lexed_is_spelled}

end_some : (whole : Bool) (ts : List Token) (u : Unit {0}) → if_end whole ts ≡ Some u → (whole ≡ true) × (ts ≡ [])
end_some true [] u e = (refl, refl)
end_some true (t ∷ ts) u e = absurd cc
end_some false ts u e = absurd cc

pub text_is_read : (bytes : List ℕ) (p : Program) → read_text bytes ≡ Some p → Text bytes p
unfolding read_text
text_is_read bytes p e =
    let a = bind_some (checked (nat_le (length bytes) 1048576)) _ _ e in
    let b = bind_some (read_program (lexed bytes).tokens) _ _ a.2 in
    let c = bind_some (if_end (lexed bytes).whole b.0.1) _ _ b.2 in
    let fits = checked_some _ _ a.1 in
    let ended = end_some _ _ _ c.1 in
    let same : b.0.0 ≡ p = cc in
    let read = program_read b.0.0 (lexed bytes).tokens b.0.1 b.1 in
    subst (λ (x : Program). Text bytes x) same
    (record {
      size = grind (arith, nat_tests, fits);
      tokens = (lexed bytes).tokens;
      spelled = lexed_is_spelled bytes ended.0;
      grammar = subst (λ (rest : List Token). spells_program true b.0.0 (lexed bytes).tokens rest) ended.1 read.spelled;
      kept = read.kept;
    })

-- a text of a program is read as this program
pub program_of_text_is_read : (bytes : List ℕ) (p : Program) → Text bytes p → read_text bytes ≡ Some p
unfolding read_text
program_of_text_is_read bytes p text =
    let small : nat_le (length bytes) 1048576 ≡ true = grind (arith, nat_tests, text.size) in
    let lexed_as = spelled_is_lexed text.tokens bytes text.spelled in
    let read : read_program (lexed bytes).tokens ≡ Some (p, []) = ap (λ s. read_program s.tokens) lexed_as ∙ program_is_read p text.tokens text.kept text.grammar in
    let whole : (lexed bytes).whole ≡ true = ap (λ s. s.whole) lexed_as in
    rw (small, read, whole) refl
