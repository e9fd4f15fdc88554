-- What is spelled is read: names and expressions.
use Rattle.std.proofs.Common.{◌≡◌, ◌≢◌, ℕ, zero, suc, ◌<◌, ◌≤◌, ◌⊎◌, inl, inr, Bool, true, false, List, [], ◌∷◌, ◌++◌, length, refl, sym, ◌∙◌, arith}
use Rattle.std.specs.Prelude.{Some, None, pos, nat_lt, nat_le, ◌&&◌, ◌==◌, if◌then◌else◌}
use Rattle.std.specs.Option.{option_map}
use Rattle.std.specs.List.{AllByRecursion}
use Rattle.std.specs.Str.{bytes_eq}
use Rattle.std.proofs.lemmas.Bool.Decides.{nat_tests}
use Rattle.std.proofs.lemmas.Slice.Eq.{bytes_eq-Decides}
use Rattle.te_terms.specs.declared.expr.Arith.{Arith}
use Rattle.te_terms.specs.declared.expr.Arith.TheVariants as ariths
use Rattle.te_terms.specs.Expressions.{Variable, register, name, known, Primitive, int, chan, part, Calculation, one, both, Expression, whole, tuple}
use Rattle.te_script.specs.Scripts.{Scope, IsExpression, AreDistinct}
use Rattle.te_terms.proofs.Lists.{AllByRecursion-append}
use Rattle.te_reader.specs.declared.token.Word.{Word}
use Rattle.te_reader.specs.declared.token.Sign.{Sign}
use Rattle.te_reader.specs.declared.token.Sign.TheVariants as signs
use Rattle.te_reader.specs.Tokens as tokens
use Rattle.te_reader.specs.Tokens.{Token, word, sign}
use Rattle.te_reader.specs.Heads.{word_number, sign_number, word_first, sign_first, name_first, inner_first, bound_first, integer_first}
use Rattle.te_reader.specs.Grammar.{Names, IsAt, IsNew, IsShortName, IsFreeName, bound_name, with_inner}
use Rattle.te_reader.specs.Grammar.{spells_variable, spells_integer, spells_primitive, arith_sign, spells_calculation}
use Rattle.te_reader.specs.Grammar.{spells_further, spells_inside, spells_expression}
use Rattle.te_reader.specs.NameReads.{first_place_of, declared_in, bound_in, integer_read, variable_named}
use Rattle.te_reader.specs.ExpressionReads.{read_place, read_inner_part, read_named, read_primitive, arith_first, read_calculation, read_calculations, read_tuple, read_expression}
use Rattle.te_reader.proofs.NameLemmas.{place_cons}
use Rattle.te_reader.proofs.ListsKept.{distinct_push, all_at}

-- ---- the first token

pub takes_sign : (g : Sign) (ts rest : List Token) → ts ≡ sign g ∷ rest → sign_first g ts ≡ Some rest
unfolding sign_first
takes_sign g ts rest e = let same : (sign_number g == sign_number g) ≡ true = grind (arith, nat_tests) in rw (e, same) refl

pub other_sign : (h g : Sign) (ts rest : List Token) → ts ≡ sign g ∷ rest → (sign_number h == sign_number g) ≡ false → sign_first h ts ≡ None
unfolding sign_first
other_sign h g ts rest e unlike = rw (e, unlike) refl

pub takes_word : (w : Word) (ts rest : List Token) → ts ≡ word w ∷ rest → word_first w ts ≡ Some rest
unfolding word_first
takes_word w ts rest e = let same : (word_number w == word_number w) ≡ true = grind (arith, nat_tests) in rw (e, same) refl

pub other_word : (v w : Word) (ts rest : List Token) → ts ≡ word w ∷ rest → (word_number v == word_number w) ≡ false → word_first v ts ≡ None
unfolding word_first
other_word v w ts rest e unlike = rw (e, unlike) refl

pub takes_bound : (n : List ℕ) (ts rest : List Token) → bound_name n ts rest → bound_first ts ≡ Some (n, rest)
unfolding bound_first
takes_bound n ts rest (inl e) = rw e refl
takes_bound n ts rest (inr e) = rw e refl

pub no_bound : (w : Word) (ts rest : List Token) → ts ≡ word w ∷ rest → bound_first ts ≡ None
unfolding bound_first
no_bound w ts rest e = rw e refl

-- a name, an inner name and an integer are no sign
no_sign_at_name : (g : Sign) (n : List ℕ) (ts rest : List Token) → ts ≡ tokens.name n ∷ rest → sign_first g ts ≡ None
unfolding sign_first
no_sign_at_name g n ts rest e = rw e refl

no_sign_at_inner : (g : Sign) (n : List ℕ) (ts rest : List Token) → ts ≡ tokens.inner n ∷ rest → sign_first g ts ≡ None
unfolding sign_first
no_sign_at_inner g n ts rest e = rw e refl

no_sign_at_integer : (g : Sign) (n : List ℕ) (ts rest : List Token) → ts ≡ tokens.integer n ∷ rest → sign_first g ts ≡ None
unfolding sign_first
no_sign_at_integer g n ts rest e = rw e refl

no_sign_at_bound : (g : Sign) (n : List ℕ) (ts rest : List Token) → bound_name n ts rest → sign_first g ts ≡ None
no_sign_at_bound g n ts rest (inl e) = no_sign_at_name g n ts rest e
no_sign_at_bound g n ts rest (inr e) = no_sign_at_inner g n ts rest e

-- ---- places

-- the place of a name among distinct ones
pub place_found : (names : List (List ℕ)) (i : ℕ) (n : List ℕ) → AreDistinct names → IsAt names i n → first_place_of names n ≡ Some i
place_found [] i n d at = absurd cc
place_found (x ∷ xs) zero n d at =
    let same : x ≡ n = cc in
    let yes' : bytes_eq x n ≡ true = (bytes_eq-Decides x n).1 same in
    place_cons x xs n ∙ (rw yes' refl)
place_found (x ∷ xs) (suc i) n d at =
    let later = place_found xs i n d.1 at in
    place_cons x xs n ∙ by (bytes_eq x n) (bytes_eq-Decides x n).0 later where
      unlike : (ys : List (List ℕ)) (j : ℕ) → AllByRecursion (λ y. x ≢ y) ys → IsAt ys j n → x ≡ n → ⊥
      unlike [] j h at = absurd cc
      unlike (y ∷ ys) zero h at = λ same. h.0 (let y_is : y ≡ n = cc in same ∙ sym y_is)
      unlike (y ∷ ys) (suc j) h at = unlike ys j h.1 at

      by : (b : Bool) → (b ≡ true → x ≡ n) → first_place_of xs n ≡ Some i → (if b then Some 0 else option_map suc (first_place_of xs n)) ≡ Some (suc i)
      by true same later = absurd (unlike xs i d.0 at (same refl))
      by false same later = rw later refl

nowhere : (n : List ℕ) → first_place_of [] n ≡ None
unfolding first_place_of
nowhere n = refl

-- a new name has none
pub place_absent : (names : List (List ℕ)) (n : List ℕ) → IsNew n names → first_place_of names n ≡ None
place_absent [] n new = nowhere n
place_absent (x ∷ xs) n new =
    let later = place_absent xs n new.1 in
    place_cons x xs n ∙ by (bytes_eq x n) (bytes_eq-Decides x n).0 later where
      by : (b : Bool) → (b ≡ true → x ≡ n) → first_place_of xs n ≡ None → (if b then Some 0 else option_map suc (first_place_of xs n)) ≡ None
      by true same later = absurd (new.0 (same refl))
      by false same later = rw later refl

pub declares : (most : ℕ) (names : List (List ℕ)) (n : List ℕ) → length names < most → IsShortName n → IsNew n names → declared_in most names n ≡ Some (names ++ n ∷ [])
unfolding declared_in
declares most names n room short new =
    let absent = place_absent names n new in
    let fits : (nat_lt (length names) most && nat_le (length n) 32) ≡ true = grind (arith, nat_tests) in
    rw (absent, fits) refl

-- ---- names in scope

-- names of one kind are distinct, and inner names are apart from registers
pub record InScope (s : Names) : Type 0 where
  pub channels : AreDistinct s.channels
  pub registers : AreDistinct s.registers
  pub inners : AreDistinct s.inners
  pub apart : AllByRecursion (λ n. IsNew n s.registers) s.inners

pub one_more_in_scope : (s : Names) (n : List ℕ) → InScope s → IsFreeName s n → InScope (with_inner s n)
one_more_in_scope s n keeps free = record {
  channels = keeps.channels;
  registers = keeps.registers;
  inners = distinct_push s.inners n keeps.inners free.no_inner;
  apart = AllByRecursion-append (λ x. IsNew x s.registers) s.inners n keeps.apart free.no_register;
}

pub binds : (s : Names) (n : List ℕ) → IsFreeName s n → bound_in s n ≡ Some (with_inner s n)
unfolding bound_in
binds s n free =
    let short : nat_le (length n) 32 ≡ true = grind (arith, nat_tests, free.short) in
    rw (place_absent s.channels n free.no_channel, place_absent s.registers n free.no_register, place_absent s.inners n free.no_inner, short) refl

-- ---- expressions

place_is_read : (d : ℕ) (ts rest : List Token) → d ≤ 3 → spells_integer (pos d) ts rest → read_place ts ≡ Some (d, rest)
unfolding read_place integer_first
place_is_read d ts rest most h = let small : nat_le d 3 ≡ true = grind (arith, nat_tests, most) in rw (h.2, h.1, small) refl

pub no_dot_at_expression : (s : Names) (x : Expression) (ts rest : List Token) → spells_expression true s x ts rest → sign_first signs.Dot ts ≡ None
no_dot_at_expression s (whole (register r)) ts rest h = no_sign_at_name signs.Dot h.0 ts rest h.1.1
no_dot_at_expression s (whole (name l)) ts rest h = no_sign_at_bound signs.Dot h.0 ts rest h.1.1
no_dot_at_expression s (whole (known v)) ts rest h = absurd h
no_dot_at_expression s (tuple cs) ts rest h = other_sign signs.Dot signs.Open ts h.0 h.1 refl

no_close_at_variable : (s : Names) (x : Variable) (ts rest : List Token) → spells_variable true s x ts rest → sign_first signs.Close ts ≡ None
no_close_at_variable s (register r) ts rest h = no_sign_at_name signs.Close h.0 ts rest h.1.1
no_close_at_variable s (name l) ts rest h = no_sign_at_bound signs.Close h.0 ts rest h.1.1
no_close_at_variable s (known v) ts rest h = absurd h

no_close_at_primitive : (s : Names) (p : Primitive) (ts rest : List Token) → spells_primitive true s p ts rest → sign_first signs.Close ts ≡ None
no_close_at_primitive s (int z) ts rest h = no_sign_at_integer signs.Close h.1.0 ts rest h.1.2
no_close_at_primitive s (chan c) ts rest h = no_sign_at_name signs.Close h.0 ts rest h.1.1
no_close_at_primitive s (part x d) ts rest h = no_close_at_variable s x ts h.1.0 h.1.1

no_close_at_calculation : (s : Names) (c : Calculation) (ts rest : List Token) → spells_calculation true s c ts rest → sign_first signs.Close ts ≡ None
no_close_at_calculation s (one p) ts rest h = no_close_at_primitive s p ts rest h
no_close_at_calculation s (both o p q) ts rest h = no_close_at_primitive s p ts h.0 h.1

pub takes_arith : (o : Arith) (ts rest : List Token) → ts ≡ sign (arith_sign o) ∷ rest → arith_first ts ≡ Some (o, rest)
unfolding arith_first sign_first
takes_arith ariths.Add ts rest e = rw e refl
takes_arith ariths.Sub ts rest e = rw e refl
takes_arith ariths.Mul ts rest e = rw e refl

no_dot_at_arith : (o : Arith) (ts rest : List Token) → ts ≡ sign (arith_sign o) ∷ rest → sign_first signs.Dot ts ≡ None
no_dot_at_arith ariths.Add ts rest e = other_sign signs.Dot signs.Plus ts rest e refl
no_dot_at_arith ariths.Sub ts rest e = other_sign signs.Dot signs.Minus ts rest e refl
no_dot_at_arith ariths.Mul ts rest e = other_sign signs.Dot signs.Star ts rest e refl

no_arith : (g : Sign) (ts rest : List Token) → ts ≡ sign g ∷ rest → (g ≡ signs.Close) ⊎ (g ≡ signs.Comma) → (sign_first signs.Dot ts ≡ None) × (arith_first ts ≡ None)
unfolding arith_first sign_first
no_arith g ts rest e (inl f) = rw (e, f) (refl, refl)
no_arith g ts rest e (inr f) = rw (e, f) (refl, refl)

-- what goes on behind a calculation
behind_calculation : (s : Names) (cs : List Calculation) (ts rest : List Token) → spells_further true s cs ts rest → (sign_first signs.Dot ts ≡ None) × (arith_first ts ≡ None)
behind_calculation s [] ts rest h = no_arith signs.Close ts rest h (inl refl)
behind_calculation s (c ∷ cs) ts rest h = no_arith signs.Comma ts h.0 h.1 (inr refl)

module _ (s : Names) (keeps : InScope s) where
  register_named : (r : ℕ) (n : List ℕ) → IsAt s.registers r n → variable_named s n ≡ Some (register r)
  unfolding variable_named
  register_named r n at = rw (place_found s.registers r n keeps.registers at) refl

  inner_named : (l : ℕ) (n : List ℕ) → IsAt s.inners l n → variable_named s n ≡ Some (name l)
  unfolding variable_named
  inner_named l n at = rw (place_absent s.registers n (all_at (λ x. IsNew x s.registers) s.inners l n keeps.apart at), place_found s.inners l n keeps.inners at) refl

  at_name : (n : List ℕ) (ts behind : List Token) → ts ≡ tokens.name n ∷ behind → read_primitive s ts ≡ read_named s n behind
  unfolding read_primitive integer_first name_first
  at_name n ts behind e = rw e refl

  at_inner : (n : List ℕ) (ts behind : List Token) → ts ≡ tokens.inner n ∷ behind → read_primitive s ts ≡ read_inner_part s ts
  unfolding read_primitive integer_first name_first
  at_inner n ts behind e = rw e refl

  named_channel : (c : ℕ) (n : List ℕ) (ts : List Token) → sign_first signs.Dot ts ≡ None → first_place_of s.channels n ≡ Some c → read_named s n ts ≡ Some (chan c, ts)
  unfolding read_named
  named_channel c n ts e f = rw (e, f) refl

  named_part : (x : Variable) (d : ℕ) (n : List ℕ) (ts behind rest : List Token) → sign_first signs.Dot ts ≡ Some behind
      → variable_named s n ≡ Some x → read_place behind ≡ Some (d, rest) → read_named s n ts ≡ Some (part x d, rest)
  unfolding read_named
  named_part x d n ts behind rest e f g = rw (e, f, g) refl

  inner_part : (l d : ℕ) (n : List ℕ) (ts middle behind rest : List Token) → ts ≡ tokens.inner n ∷ middle
      → first_place_of s.inners n ≡ Some l → sign_first signs.Dot middle ≡ Some behind
      → read_place behind ≡ Some (d, rest) → read_inner_part s ts ≡ Some (part (name l) d, rest)
  unfolding read_inner_part inner_first
  inner_part l d n ts middle behind rest e f g h = rw (e, f, g, h) refl

  part_is_read : (x : Variable) (d : ℕ) (ts middle behind rest : List Token) → spells_variable true s x ts middle
      → sign_first signs.Dot middle ≡ Some behind → read_place behind ≡ Some (d, rest)
      → read_primitive s ts ≡ Some (part x d, rest)
  part_is_read (register r) d ts middle behind rest h dot place = at_name h.0 ts middle h.1.1 ∙ named_part (register r) d h.0 middle behind rest dot (register_named r h.0 h.1.0) place
  part_is_read (name l) d ts middle behind rest h dot place = by h.1.1 where
    by : bound_name h.0 ts middle → read_primitive s ts ≡ Some (part (name l) d, rest)
    by (inl e) = at_name h.0 ts middle e ∙ named_part (name l) d h.0 middle behind rest dot (inner_named l h.0 h.1.0) place
    by (inr e) = at_inner h.0 ts middle e ∙ inner_part l d h.0 ts middle behind rest e (place_found s.inners l h.0 keeps.inners h.1.0) dot place
  part_is_read (known v) d ts middle behind rest h dot place = absurd h

  pub primitive_is_read : (p : Primitive) (ts rest : List Token) → spells_primitive true s p ts rest → sign_first signs.Dot rest ≡ None → read_primitive s ts ≡ Some (p, rest)
  unfolding read_primitive integer_read integer_first
  primitive_is_read (int z) ts rest h no_dot = rw (h.1.2, h.1.1, h.0) refl
  primitive_is_read (chan c) ts rest h no_dot = at_name h.0 ts rest h.1.1 ∙ named_channel c h.0 rest no_dot (place_found s.channels c h.0 keeps.channels h.1.0)
  primitive_is_read (part x d) ts rest h no_dot =
      let a = h.1 in
      let b = a.2 in
      part_is_read x d ts a.0 b.0 rest a.1 (takes_sign signs.Dot a.0 b.0 b.1) (place_is_read d b.0 rest h.0 b.2)

  pub calculation_is_read : (c : Calculation) (ts rest : List Token) → spells_calculation true s c ts rest
      → (sign_first signs.Dot rest ≡ None) × (arith_first rest ≡ None) → read_calculation s ts ≡ Some (c, rest)
  unfolding read_calculation
  calculation_is_read (one p) ts rest h ends = rw (primitive_is_read p ts rest h ends.0, ends.1) refl
  calculation_is_read (both o p q) ts rest h ends =
      let a = h.2 in
      rw (primitive_is_read p ts h.0 h.1 (no_dot_at_arith o h.0 a.0 a.1), takes_arith o h.0 a.0 a.1, primitive_is_read q a.0 rest a.2 ends.0) refl

  pub calculations_are_read : (left : ℕ) (c : Calculation) (cs : List Calculation) (ts rest : List Token)
      → length (c ∷ cs) ≤ left → spells_inside true s (c ∷ cs) ts rest → read_calculations left s ts ≡ Some (c ∷ cs, rest)
  unfolding read_calculations
  calculations_are_read zero c cs ts rest most h = absurd (omega arith)
  calculations_are_read (suc left) c [] ts rest most h =
      rw (calculation_is_read c ts h.0 h.1 (behind_calculation s [] h.0 rest h.2), takes_sign signs.Close h.0 rest h.2) refl
  calculations_are_read (suc left) c (d ∷ ds) ts rest most h =
      let after = h.2 in
      let later = calculations_are_read left d ds after.0 rest (omega arith) after.2 in
      rw (
        calculation_is_read c ts h.0 h.1 (behind_calculation s (d ∷ ds) h.0 rest h.2),
        other_sign signs.Close signs.Comma h.0 after.0 after.1 refl,
        takes_sign signs.Comma h.0 after.0 after.1,
        later,
      )
      refl

  pub tuple_is_read : (cs : List Calculation) (ts rest : List Token) → length cs ≤ 4 → spells_inside true s cs ts rest → read_tuple s ts ≡ Some (cs, rest)
  unfolding read_tuple
  tuple_is_read [] ts rest most h = rw (takes_sign signs.Close ts rest h) refl
  tuple_is_read (c ∷ cs) ts rest most h = rw (no_close_at_calculation s c ts h.0 h.1) (calculations_are_read 4 c cs ts rest most h)

  pub expression_is_read : (scope : Scope) (x : Expression) (ts rest : List Token) → IsExpression scope x → spells_expression true s x ts rest → read_expression s ts ≡ Some (x, rest)
  unfolding read_expression name_first inner_first
  expression_is_read scope (whole (register r)) ts rest scoped h = rw (h.1.1, register_named r h.0 h.1.0) refl
  expression_is_read scope (whole (name l)) ts rest scoped h = by h.1.1 where
    by : bound_name h.0 ts rest → read_expression s ts ≡ Some (whole (name l), rest)
    by (inl e) = rw (e, inner_named l h.0 h.1.0) refl
    by (inr e) = rw (e, place_found s.inners l h.0 keeps.inners h.1.0) refl
  expression_is_read scope (whole (known v)) ts rest scoped h = absurd h
  expression_is_read scope (tuple cs) ts rest scoped h =
      let opened = takes_sign signs.Open (sign signs.Open ∷ h.0) h.0 refl in
      rw (h.1, opened, tuple_is_read cs h.0 rest scoped.1 h.2) refl
