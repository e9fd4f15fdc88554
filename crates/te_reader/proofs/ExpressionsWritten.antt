-- The canonical text of an expression spells it.
use Rattle.std.proofs.Common.{◌≡◌, ◌≢◌, ℕ, zero, suc, ◌<◌, ◌≤◌, pos, Bool, true, false, List, [], ◌∷◌, ◌++◌, length, take, get_or, refl, sym, ◌∙◌, ap, subst, append_assoc, arith}
use Rattle.std.specs.Prelude.{codes, nat_eq}
use Rattle.std.specs.List.{AllByRecursion}
use Rattle.std.specs.Fmt.{decimal, signed_decimal}
use Rattle.std.specs.Char.{is_ascii_alphabetic}
use Rattle.std.proofs.lemmas.Bool.Decides.{nat_tests}
use Rattle.std.proofs.lemmas.Fmt.{decimal_is_IsNumeral, decimal_injective, length-decimal-le}
use Rattle.te_terms.specs.declared.expr.Arith.{Arith}
use Rattle.te_terms.specs.declared.expr.Arith.TheVariants as ariths
use Rattle.te_terms.specs.Values.{fits_i64}
use Rattle.te_terms.specs.Expressions.{Variable, register, name, known, Primitive, int, chan, part, Calculation, one, both, Expression, whole, tuple}
use Rattle.te_script.specs.Names.{IsName}
use Rattle.te_script.specs.Scripts.{Scope, IsVariable, IsPrimitive, IsCalculation, IsExpression}
use Rattle.te_script.specs.Generated.{each}
use Rattle.te_script.proofs.NamesMade.{word_bytes}
use Rattle.te_script.proofs.GeneratedKept.{length_each, all_each}
use Rattle.te_reader.specs.declared.token.Sign.TheVariants as signs
use Rattle.te_reader.specs.Tokens as tokens
use Rattle.te_reader.specs.Tokens.{Token, sign}
use Rattle.te_reader.specs.Grammar.{is, ◌⨟◌, Names, IsAt, IsFreeName, bound_name, arith_sign, spells_variable}
use Rattle.te_reader.specs.Grammar.{spells_integer, spells_primitive, spells_calculation, spells_further, spells_inside}
use Rattle.te_reader.specs.Grammar.{spells_expression}
use Rattle.te_reader.specs.Canonical.{name_at, inner_text, Spelling, variable_text, primitive_text, arith_text, calculation_text, further_text, inside_text, expression_text}
use Rattle.te_reader.proofs.KeptIsRead.{at_taken, all_taken}
use Rattle.te_reader.proofs.ListsKept.{all_at, all_weaker, at_more, at_last}
use Rattle.te_reader.proofs.Regrouped.{three}
use Rattle.te_reader.proofs.TokensWritten.{Writes, StandsApart, IsOneByte, then_writes, token_writes, inner_ends}
use Rattle.te_reader.proofs.TokensWritten.{name_writes, sign_before, sign_writes, sign_and_blank, blank_writes}
use Rattle.te_reader.proofs.TokensWritten.{named_writes, under_writes, second_writes}
use Rattle.te_reader.proofs.IntegersWritten.{decimal_writes, integer_writes}

-- ---- names

-- a name stands at each place of a list
pub at_each : (xs : List (List ℕ)) (r : ℕ) → r < length xs → IsAt xs r (name_at xs r)
at_each [] r h = absurd (omega arith)
at_each (x ∷ xs) zero h = refl
at_each (x ∷ xs) (suc r) h = at_each xs r (omega (arith, h))

pub at_inner : (l n : ℕ) → n < l → IsAt (each inner_text l) n (inner_text n)
at_inner zero n h = absurd (omega arith)
at_inner (suc l) n h = by (at_inner l n) (nat_eq n l) refl where
  by : (n < l → IsAt (each inner_text l) n (inner_text n)) → (b : Bool) → nat_eq n l ≡ b → IsAt (each inner_text l ++ inner_text l ∷ []) n (inner_text n)
  by earlier true e =
      let same : n ≡ l = grind (arith, nat_tests, e) in
      subst (λ (i : ℕ). IsAt (each inner_text l ++ inner_text l ∷ []) i (inner_text i)) (sym same)
      (subst (λ (i : ℕ). IsAt (each inner_text l ++ inner_text l ∷ []) i (inner_text l)) (length_each inner_text l) (at_last (each inner_text l) (inner_text l)))
  by earlier false e = at_more (each inner_text l) (inner_text l ∷ []) n (inner_text n) (earlier (grind (arith, nat_tests, h, e)))

pub inner_writes : (l : ℕ) → l ≤ 64 → Writes (inner_text l) (is (tokens.inner (inner_text l)))
inner_writes l low = token_writes (tokens.inner (inner_text l)) (λ behind apart. inner_ends (decimal l) behind (word_bytes (decimal l) (decimal_is_IsNumeral l (omega (arith, low))).0.1) apart)

-- what begins with `_` is no identifier
no_identifier : (x ds : List ℕ) → IsName x → x ≢ 95 ∷ ds
no_identifier [] ds h same = h.identifier
no_identifier (b ∷ bs) ds h same =
    let first : b ≡ 95 = ap (λ xs. get_or xs 0 0) same in
    let letter : is_ascii_alphabetic 95 ≡ true = ap is_ascii_alphabetic (sym first) ∙ h.identifier.0 in
    let no : false ≡ true = letter in cc

inner_differs : (i l : ℕ) → i < l → l ≤ 64 → inner_text i ≢ inner_text l
inner_differs i l less low same =
    let digits : decimal i ≡ decimal l = cc in
    let number : i ≡ l = decimal_injective i l (omega (arith, less, low)) (omega (arith, low)) digits in
    omega (arith, number, less)

-- ---- the names in scope of a canonical text

-- so many registers and inner names
abbrev pub names_at : List (List ℕ) → List (List ℕ) → ℕ → ℕ → Names
names_at channels registers w l = record { channels = channels; registers = take w registers; inners = each inner_text l }

abbrev pub scope_at : List (List ℕ) → ℕ → ℕ → Scope
scope_at channels w l = record { written = w; level = l; channels = length channels }

pub inner_is_free : (channels registers : List (List ℕ)) (w l : ℕ) → AllByRecursion IsName channels
    → AllByRecursion IsName registers → l ≤ 64 → IsFreeName (names_at channels registers w l) (inner_text l)
inner_is_free channels registers w l named_channels named_registers low = record {
  short = omega (arith, length-decimal-le 2 l (omega arith) (omega (arith, low)) (omega (arith, low)));
  no_channel = all_weaker IsName (λ x. x ≢ inner_text l) (λ x h. no_identifier x (decimal l) h) channels named_channels;
  no_register = all_weaker IsName (λ x. x ≢ inner_text l) (λ x h. no_identifier x (decimal l) h) (take w registers) (all_taken IsName registers w named_registers);
  no_inner = all_each (λ x. x ≢ inner_text l) inner_text l (λ i less. inner_differs i l less low);
}

-- ---- expressions

dot_is : IsOneByte signs.Dot 46
dot_is = (refl, λ ys. refl)

open_is : IsOneByte signs.Open 40
open_is = (refl, λ ys. refl)

close_is : IsOneByte signs.Close 41
close_is = (refl, λ ys. refl)

comma_is : IsOneByte signs.Comma 44
comma_is = (refl, λ ys. refl)

plus_is : IsOneByte signs.Plus 43
plus_is = (refl, λ ys. refl)

star_is : IsOneByte signs.Star 42
star_is = (refl, λ ys. refl)

module _ (channels registers : List (List ℕ)) (named_channels : AllByRecursion IsName channels)
    (named_registers : AllByRecursion IsName registers) (w l : ℕ) (written : w ≤ length registers) (low : l ≤ 64) where
  abbrev spelling : Spelling
  spelling = record { channels = channels; registers = registers }

  abbrev names : Names
  names = names_at channels registers w l

  abbrev scope : Scope
  scope = scope_at channels w l

  variable_writes : (x : Variable) → IsVariable scope x → Writes (variable_text spelling x) (spells_variable true names x)
  variable_writes (register r) h =
      let at = at_each registers r (omega (arith, h, written)) in
      let is_name = all_at IsName registers r (name_at registers r) named_registers at in
      named_writes (name_at registers r) (name_at registers r) (λ n. IsAt (take w registers) r n)
      (λ n. is (tokens.name n)) (at_taken registers w r (name_at registers r) h at)
      (name_writes (name_at registers r) is_name.identifier)
  variable_writes (name n) h =
      named_writes (inner_text n) (inner_text n) (λ m. IsAt (each inner_text l) n m) bound_name (at_inner l n h)
      (second_writes (inner_text n) (is (tokens.name (inner_text n))) (is (tokens.inner (inner_text n)))
      (inner_writes n (omega (arith, h, low))))
  variable_writes (known v) h = absurd h

  pub primitive_writes : (p : Primitive) → IsPrimitive scope p → Writes (primitive_text spelling p) (spells_primitive true names p)
  primitive_writes (int z) h = under_writes (signed_decimal z) (fits_i64 z ≡ true) (spells_integer z) h (integer_writes z h)
  primitive_writes (chan c) h =
      let at = at_each channels c h in
      let is_name = all_at IsName channels c (name_at channels c) named_channels at in
      named_writes (name_at channels c) (name_at channels c) (λ n. IsAt channels c n) (λ n. is (tokens.name n)) at (name_writes (name_at channels c) is_name.identifier)
  primitive_writes (part x d) h =
      let place : Writes (46 ∷ decimal d) (is (sign signs.Dot) ⨟ spells_integer (pos d)) =
      sign_before signs.Dot 46 (decimal d) (spells_integer (pos d)) dot_is
      (decimal_writes d (omega (arith, h.1))) in
      under_writes (primitive_text spelling (part x d)) (d ≤ 3) (spells_variable true names x ⨟ is (sign signs.Dot) ⨟ spells_integer (pos d)) (omega (arith, h.1))
      (subst (λ (xs : List ℕ). Writes xs (spells_variable true names x ⨟ is (sign signs.Dot) ⨟ spells_integer (pos d))) (sym (three (variable_text spelling x) (codes ".") (decimal d)))
      (then_writes (variable_text spelling x) (46 ∷ decimal d) (spells_variable true names x) (is (sign signs.Dot) ⨟ spells_integer (pos d)) (variable_writes x h.0) place (λ b a. refl)))

  calculation_writes : (c : Calculation) → IsCalculation scope c → Writes (calculation_text spelling c) (spells_calculation true names c)
  calculation_writes (one p) h = primitive_writes p h
  calculation_writes (both o p q) h =
      subst (λ (xs : List ℕ). Writes xs (spells_calculation true names (both o p q))) (sym (three (primitive_text spelling p) (arith_text o) (primitive_text spelling q)))
      (then_writes (primitive_text spelling p) (arith_text o ++ primitive_text spelling q)
      (spells_primitive true names p) (is (sign (arith_sign o)) ⨟ spells_primitive true names q)
      (primitive_writes p h.0) (by o) (stands o)) where
        by : (o : Arith) → Writes (arith_text o ++ primitive_text spelling q) (is (sign (arith_sign o)) ⨟ spells_primitive true names q)
        by ariths.Add = blank_writes 32 _ _ refl (sign_before signs.Plus 43 (32 ∷ primitive_text spelling q) _ plus_is (blank_writes 32 _ _ refl (primitive_writes q h.1)))
        by ariths.Sub = blank_writes 32 _ _ refl (sign_and_blank signs.Minus 45 [] (primitive_text spelling q) _ refl (λ ys. refl) (primitive_writes q h.1))
        by ariths.Mul = blank_writes 32 _ _ refl (sign_before signs.Star 42 (32 ∷ primitive_text spelling q) _ star_is (blank_writes 32 _ _ refl (primitive_writes q h.1)))

        stands : (o : Arith) → StandsApart (arith_text o ++ primitive_text spelling q)
        stands ariths.Add behind apart = refl
        stands ariths.Sub behind apart = refl
        stands ariths.Mul behind apart = refl

  -- the further calculations of a tuple with its end
  further_writes : (cs : List Calculation) → AllByRecursion (IsCalculation scope) cs → Writes (further_text spelling cs ++ codes ")") (spells_further true names cs)
  further_writes [] h = sign_writes signs.Close 41 close_is
  further_writes (c ∷ cs) h = subst (λ (text : List ℕ). Writes text (spells_further true names (c ∷ cs))) (whole_text c cs)
      (sign_before signs.Comma 44 (32 ∷ (calculation_text spelling c ++ (further_text spelling cs ++ codes ")"))) _
      comma_is (blank_writes 32 _ _ refl (then_writes (calculation_text spelling c)
      (further_text spelling cs ++ codes ")") _ _ (calculation_writes c h.0) (further_writes cs h.1) (stands cs))))
    where
      whole_text : (c : Calculation) (cs : List Calculation)
          → 44 ∷ 32 ∷ (calculation_text spelling c ++ (further_text spelling cs ++ codes ")"))
          ≡ (codes ", " ++ calculation_text spelling c ++ further_text spelling cs) ++ codes ")"
      whole_text c cs = ap (λ xs. 44 ∷ 32 ∷ xs) (sym (append_assoc (calculation_text spelling c) (further_text spelling cs) (codes ")")))

      stands : (cs : List Calculation) → StandsApart (further_text spelling cs ++ codes ")")
      stands [] behind apart = refl
      stands (d ∷ ds) behind apart = refl

  inside_writes : (cs : List Calculation) → AllByRecursion (IsCalculation scope) cs → Writes (inside_text spelling cs ++ codes ")") (spells_inside true names cs)
  inside_writes [] h = sign_writes signs.Close 41 close_is
  inside_writes (c ∷ cs) h = subst (λ (text : List ℕ). Writes text (spells_inside true names (c ∷ cs))) (sym (append_assoc (calculation_text spelling c) (further_text spelling cs) (codes ")")))
      (then_writes (calculation_text spelling c) (further_text spelling cs ++ codes ")") _ _ (calculation_writes c h.0) (further_writes cs h.1) (stands cs)) where
        stands : (cs : List Calculation) → StandsApart (further_text spelling cs ++ codes ")")
        stands [] behind apart = refl
        stands (d ∷ ds) behind apart = refl

  pub expression_writes : (e : Expression) → IsExpression scope e → Writes (expression_text spelling e) (spells_expression true names e)
  expression_writes (whole x) h = variable_writes x h
  expression_writes (tuple cs) h = sign_before signs.Open 40 (inside_text spelling cs ++ codes ")") _ open_is (inside_writes cs h.0)
