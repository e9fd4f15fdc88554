-- What the parts of an event come to, once each of them is read.
use Rattle.std.proofs.Common.{◌≡◌, ℕ, suc, List, length, refl, sym, ◌∙◌, ap}
use Rattle.std.specs.Prelude.{Some}
use Rattle.te_terms.specs.declared.expr.Test.{Test}
use Rattle.te_terms.specs.Expressions.{Primitive}
use Rattle.te_terms.specs.Terms.{Term, and_then, choose, catch, when}
use Rattle.te_reader.specs.declared.token.Word.TheVariants as words
use Rattle.te_reader.specs.declared.token.Sign.TheVariants as signs
use Rattle.te_reader.specs.Tokens.{Token}
use Rattle.te_reader.specs.Heads.{word_first, sign_first, bound_first}
use Rattle.te_reader.specs.Grammar.{Names, alone, in_do, in_choose}
use Rattle.te_reader.specs.NameReads.{bound_in}
use Rattle.te_reader.specs.Tallies.{Tally, tally_with_event}
use Rattle.te_reader.specs.EventReads.{Parts, made, read_condition, read_braced, read_part, read_second, read_choose, read_try, read_if, read_alone, read_in_choose, read_event}

module _ (next : Parts) (s : Names) (used then_used : Tally) (e f : Term) (ts rest : List Token) (counted : then_used ≡ tally_with_event used e) where
  pub part_made : (n : List ℕ) (more : Names) (a b c : List Token) → sign_first signs.Arrow ts ≡ Some a
      → next alone s used a ≡ Some (e, b) → sign_first signs.Semicolon b ≡ Some c → bound_in s n ≡ Some more
      → next in_do more then_used c ≡ Some (f, rest)
      → read_part next s used n ts ≡ made used (and_then e (length s.inners) f) rest
  unfolding read_part
  part_made n more a b c arrow first semicolon bound second =
      let second_at : next in_do more (tally_with_event used e) c ≡ Some (f, rest) = ap (λ u. next in_do more u c) (sym counted) ∙ second in
      rw (arrow, first, semicolon, bound, second_at) refl

  pub second_made : next in_choose s then_used ts ≡ Some (f, rest) → read_second next s used e ts ≡ made used (choose e f) rest
  unfolding read_second
  second_made second =
      let second_at : next in_choose s (tally_with_event used e) ts ≡ Some (f, rest) = ap (λ u. next in_choose s u ts) (sym counted) ∙ second in
      rw second_at refl

  pub try_made : (n : List ℕ) (more : Names) (a b c : List Token) → read_braced next s used ts ≡ Some (e, a)
      → word_first words.Catch a ≡ Some b → bound_first b ≡ Some (n, c) → bound_in s n ≡ Some more
      → read_braced next more then_used c ≡ Some (f, rest)
      → read_try next s used ts ≡ made used (catch e (length s.inners) f) rest
  unfolding read_try
  try_made n more a b c first caught name bound second =
      let second_at : read_braced next more (tally_with_event used e) c ≡ Some (f, rest) = ap (λ u. read_braced next more u c) (sym counted) ∙ second in
      rw (first, caught, name, bound, second_at) refl

  pub if_made : (test : Test) (p q : Primitive) (a b c : List Token) → read_condition s ts ≡ Some ((test, p, q), a)
      → read_braced next s used a ≡ Some (e, b) → word_first words.Else b ≡ Some c
      → read_braced next s then_used c ≡ Some (f, rest)
      → read_if next s used ts ≡ made used (when test p q e f) rest
  unfolding read_if
  if_made test p q a b c condition first other second =
      let second_at : read_braced next s (tally_with_event used e) c ≡ Some (f, rest) = ap (λ u. read_braced next s u c) (sym counted) ∙ second in
      rw (condition, first, other, second_at) refl

pub choose_begun : (next : Parts) (s : Names) (used : Tally) (e : Term) (ts a b c : List Token)
    → sign_first signs.OpenBrace ts ≡ Some a → next alone s used a ≡ Some (e, b) → sign_first signs.Bar b ≡ Some c
    → read_choose next s used ts ≡ read_second next s used e c
unfolding read_choose
choose_begun next s used e ts a b c opened first bar = rw (opened, first, bar) refl

pub more_begun : (layers less : ℕ) (s : Names) (used : Tally) (e : Term) (ts b c : List Token) → layers ≡ suc less
    → read_event layers alone s used ts ≡ Some (e, b) → sign_first signs.Bar b ≡ Some c
    → read_event layers in_choose s used ts ≡ read_second (read_event less) s used e c
unfolding read_event read_in_choose
more_begun layers less s used e ts b c one first bar =
    let first_at : read_alone (read_event less) s used ts ≡ Some (e, b) = ap (λ l. read_event l alone s used ts) (sym one) ∙ first in
    ap (λ l. read_event l in_choose s used ts) one ∙ (rw (first_at, bar) refl)
