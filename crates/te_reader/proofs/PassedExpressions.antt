-- What is gone through without a fault is spelled: names and expressions.
use Rattle.std.proofs.Common.{◌≡◌, ℕ, zero, suc, ◌+◌, ◌<◌, ◌≤◌, Bool, true, false, not, nat_le, List, [], ◌∷◌, ◌++◌, length, refl, sym, ◌∙◌, ap, subst, inl, inr, arith}
use Rattle.std.specs.Prelude.{Option, Some, None, ◌⊎◌, ◌&&◌, ◌||◌}
use Rattle.std.specs.List.{AllByRecursion}
use Rattle.std.proofs.lemmas.Bool.Decides.{nat_tests}
use Rattle.te_terms.specs.declared.expr.Arith.{Arith}
use Rattle.te_terms.specs.declared.expr.Arith.TheVariants as ariths
use Rattle.te_terms.specs.Values.{fits_i64}
use Rattle.te_terms.specs.Expressions.{Variable, register, name, Primitive, int, chan, part, Calculation, one, both, Expression, whole, tuple}
use Rattle.te_script.specs.Scripts.{Scope, IsVariable, IsPrimitive, IsCalculation, IsExpression}
use Rattle.te_reader.specs.declared.token.Word.{Word}
use Rattle.te_reader.specs.declared.token.Sign.{Sign}
use Rattle.te_reader.specs.declared.token.Sign.TheVariants as signs
use Rattle.te_reader.specs.declared.cause.Which.TheVariants as limits
use Rattle.te_reader.specs.declared.cause.Cause.{Cause}
use Rattle.te_reader.specs.declared.cause.Cause.TheVariants as causes
use Rattle.te_reader.specs.declared.part.Role.{Role}
use Rattle.te_reader.specs.declared.part.Role.TheVariants as roles
use Rattle.te_reader.specs.declared.part.Part.{Part}
use Rattle.te_reader.specs.declared.part.Part.TheVariants as parts
use Rattle.te_reader.specs.Tokens as tokens
use Rattle.te_reader.specs.Tokens.{Token, word, sign}
use Rattle.te_reader.specs.Integers.{integer_value}
use Rattle.te_reader.specs.Grammar.{arith_sign, spells_variable, spells_primitive, spells_calculation, spells_further, spells_inside, spells_expression}
use Rattle.te_reader.specs.Spots.{Head, token, over}
use Rattle.te_reader.specs.Forms.{form, place_of_it}
use Rattle.te_reader.specs.Rules.{Context, Check, check, is_among, is_variable, rules, first_broken, context_after, begun, fifth}
use Rattle.te_reader.specs.Runs.{Found, pick, pick_plain, alone_form, operand_form, fits, is_word, is_sign, next_found, broken_or, run}
use Rattle.te_reader.proofs.PickedForms.{word_fits, sign_fits, place_fits}
use Rattle.te_reader.proofs.NameSetLemmas.{among_is}
use Rattle.te_reader.proofs.KeptIsRead.{at_inside}
use Rattle.te_reader.proofs.Passing.{spots_of, dotted, names_in, calm}
use Rattle.te_terms.proofs.Lists.{not_false}

-- nothing is found from here on
abbrev pub Passed : List Part → Context → List Token → Type 0
Passed wanted c ts = run wanted c (spots_of ts) ≡ None

-- ---- single tokens

pub unbroken : (later : Option Found) (at : ℕ) (o : Option Cause) → broken_or later at o ≡ None → (o ≡ None) × (later ≡ None)
unbroken later at None e = (refl, e)
unbroken later at (Some k) e = absurd cc

pub kept_first : (b : Bool) (k : Cause) (ks : List Check) → first_broken (check b k ∷ ks) ≡ None → (b ≡ false) × (first_broken ks ≡ None)
kept_first true k ks e = absurd cc
kept_first false k ks e = (refl, e)

-- a token that has a form, and breaks no rule
pub went : (r : Role) (wanted more : List Part) (c : Context) (t : Token) (ts : List Token) (d : Bool)
    → next_found (λ w x. run w x (spots_of ts)) more c (record { head = token t; dotted = d; left = 0 })
    (Some (form r wanted)) ≡ None
    → (first_broken (rules r c (token t)) ≡ None) × Passed (wanted ++ more) (context_after r c (token t)) ts
went r wanted more c t ts d h = unbroken (run (wanted ++ more) (context_after r c (token t)) (spots_of ts)) 0 (first_broken (rules r c (token t))) h

-- an operand's rules
operand_kept : (b : Bool) (k : Cause) (first : Bool) (c : Context) → first_broken (check b k ∷ fifth first c ∷ []) ≡ None → (b ≡ false) × ((first && nat_le 4 c.calculations) ≡ false)
operand_kept b k first c e =
    let one = kept_first b k (fifth first c ∷ []) e in
    let two = kept_first (first && nat_le 4 c.calculations) (causes.Limit limits.Atoms) [] one.1 in
    (one.0, two.0)

-- a token of a role that stands alone
pub record TookAlone (r : Role) (more : List Part) (c : Context) (ts : List Token) : Type 0 where
  pub first : Token
  pub rest : List Token
  pub is : ts ≡ first ∷ rest
  pub fit : fits r (token first) (dotted rest) ≡ true
  pub kept : first_broken (rules r c (token first)) ≡ None
  pub later : Passed more (context_after r c (token first)) rest

pub took_alone : (r : Role) (more : List Part) (c : Context) (ts : List Token) → fits r over false ≡ false → Passed (parts.Only r ∷ more) c ts → TookAlone r more c ts
unfolding run pick pick_plain
took_alone r more c [] none h = by (fits r over false) none h where
  by : (b : Bool) → b ≡ false → next_found (λ w d. run w d []) more c (record { head = over; dotted = false; left = 0 }) (alone_form r b) ≡ None → TookAlone r more c []
  by true e h = absurd cc
  by false e h = absurd cc
took_alone r more c (t ∷ ts) none h = by (fits r (token t) (dotted ts)) refl h where
  by : (b : Bool) → fits r (token t) (dotted ts) ≡ b → next_found (λ w d. run w d (spots_of ts)) more c
      (record { head = token t; dotted = dotted ts; left = 0 }) (alone_form r b) ≡ None → TookAlone r more c (t ∷ ts)
  by true e h = let u = unbroken _ _ _ h in record { first = t; rest = ts; is = refl; fit = e; kept = u.0; later = u.1 }
  by false e h = absurd cc

-- a sign, in a role that wants it
pub record TookSign (g : Sign) (r : Role) (more : List Part) (c : Context) (ts : List Token) : Type 0 where
  pub rest : List Token
  pub is : ts ≡ sign g ∷ rest
  pub kept : first_broken (rules r c (token (sign g))) ≡ None
  pub later : Passed more (context_after r c (token (sign g))) rest

pub one_token : (t u : Token) → token t ≡ token u → t ≡ u
one_token t u e = cc

pub took_sign : (g : Sign) (r : Role) (more : List Part) (c : Context) (ts : List Token)
    → ((h : Head) (d : Bool) → fits r h d ≡ is_sign g h) → Passed (parts.Only r ∷ more) c ts → TookSign g r more c ts
took_sign g r more c ts wants h =
    let t = took_alone r more c ts (wants over false) h in
    let same : t.first ≡ sign g = one_token t.first (sign g) (sign_fits g (token t.first) (sym (wants (token t.first) (dotted t.rest)) ∙ t.fit)) in
    record {
      rest = t.rest;
      is = t.is ∙ ap (λ x. x ∷ t.rest) same;
      kept = subst (λ (x : Token). first_broken (rules r c (token x)) ≡ None) same t.kept;
      later = subst (λ (x : Token). Passed more (context_after r c (token x)) t.rest) same t.later;
    }

-- a word, in a role that wants it
pub record TookWord (w : Word) (r : Role) (more : List Part) (c : Context) (ts : List Token) : Type 0 where
  pub rest : List Token
  pub is : ts ≡ word w ∷ rest
  pub kept : first_broken (rules r c (token (word w))) ≡ None
  pub later : Passed more (context_after r c (token (word w))) rest

pub took_word : (w : Word) (r : Role) (more : List Part) (c : Context) (ts : List Token)
    → ((h : Head) (d : Bool) → fits r h d ≡ is_word w h) → Passed (parts.Only r ∷ more) c ts → TookWord w r more c ts
took_word w r more c ts wants h =
    let t = took_alone r more c ts (wants over false) h in
    let same : t.first ≡ word w = one_token t.first (word w) (word_fits w (token t.first) (sym (wants (token t.first) (dotted t.rest)) ∙ t.fit)) in
    record {
      rest = t.rest;
      is = t.is ∙ ap (λ x. x ∷ t.rest) same;
      kept = subst (λ (x : Token). first_broken (rules r c (token x)) ≡ None) same t.kept;
      later = subst (λ (x : Token). Passed more (context_after r c (token x)) t.rest) same t.later;
    }

-- ---- names

-- the names in scope, counted
abbrev pub scope_in : Context → Scope
scope_in c = record { written = length c.registers; level = length c.inners; channels = length c.channels }

-- a variable stands at the front
abbrev HasVariable : Context → List Token → List Token → Type 0
HasVariable c ts rest = (x : Variable) × spells_variable true (names_in c) x ts rest × IsVariable (scope_in c) x

or_cases : (a b : Bool) → (a || b) ≡ true → (a ≡ true) ⊎ (b ≡ true)
or_cases true b e = inl refl
or_cases false b e = inr e

named_variable : (c : Context) (n : List ℕ) (rest : List Token) → not (is_variable c (token (tokens.name n))) ≡ false → HasVariable c (tokens.name n ∷ rest) rest
named_variable c n rest e = by (or_cases (is_among n c.registers) (is_among n c.inners) (not_false _ e)) where
  by : (is_among n c.registers ≡ true) ⊎ (is_among n c.inners ≡ true) → HasVariable c (tokens.name n ∷ rest) rest
  by (inl h) = let i = among_is c.registers n h in (register i.0, (n, (i.1, refl)), at_inside c.registers i.0 n i.1)
  by (inr h) = let i = among_is c.inners n h in (name i.0, (n, (i.1, inl refl)), at_inside c.inners i.0 n i.1)

inner_variable : (c : Context) (n : List ℕ) (rest : List Token) → not (is_variable c (token (tokens.inner n))) ≡ false → HasVariable c (tokens.inner n ∷ rest) rest
inner_variable c n rest e = let i = among_is c.inners n (not_false _ e) in (name i.0, (n, (i.1, inr refl)), at_inside c.inners i.0 n i.1)

-- ---- operands

-- an operand, and what follows it
pub record OperandPassed (first : Bool) (more : List Part) (c : Context) (ts : List Token) : Type 0 where
  pub value : Primitive
  pub rest : List Token
  pub spelled : spells_primitive true (names_in c) value ts rest
  pub scoped : IsPrimitive (scope_in c) value
  pub few : (first && nat_le 4 c.calculations) ≡ false
  pub later : Passed more (begun first c) rest
  pub shorter : length rest < length ts

-- the place behind a variable
place_passed : (first : Bool) (more : List Part) (c : Context) (ts rest : List Token) (x : Variable)
    → spells_variable true (names_in c) x ts rest → IsVariable (scope_in c) x → length rest < length ts
    → (first && nat_le 4 c.calculations) ≡ false
    → Passed (parts.Only (roles.Sign signs.Dot) ∷ parts.Only roles.Place ∷ more) (begun first c) rest → OperandPassed first more c ts
place_passed first more c ts rest x spelled scoped less few h =
    let dot = took_sign signs.Dot (roles.Sign signs.Dot) (parts.Only roles.Place ∷ more) (begun first c) rest (λ h d. refl) h in
    let p = took_alone roles.Place more (begun first c) dot.rest refl dot.later in
    let f = place_fits (token p.first) p.fit in
    let digits = f.0 in
    let d = f.2.0 in
    let same : p.first ≡ tokens.integer digits = one_token p.first (tokens.integer digits) f.1 in
    let is : dot.rest ≡ tokens.integer digits ∷ p.rest = p.is ∙ ap (λ y. y ∷ p.rest) same in
    record {
      value = part x d;
      rest = p.rest;
      spelled = (f.2.2, (rest, spelled, (dot.rest, dot.is, (digits, f.2.1, is))));
      scoped = (scoped, omega (arith, f.2.2));
      few = few;
      later = p.later;
      shorter = omega (arith, less, ap length dot.is, ap length is);
    }

-- the operand that some token begins, whose form is the one of an operand
operand_at : (first : Bool) (wanted more : List Part) (c : Context) (t : Token) (ts : List Token) (d : Bool) → dotted ts ≡ d
    → next_found (λ w x. run w x (spots_of ts)) more c (record { head = token t; dotted = d; left = 0 })
    (operand_form first wanted (token t) d) ≡ None → OperandPassed first (wanted ++ more) c (t ∷ ts)
operand_at first wanted more c (tokens.integer n) ts d e h =
    let u = went (roles.Integer first) wanted more c (tokens.integer n) ts d h in
    let k = operand_kept (not (fits_i64 (integer_value n))) causes.Integer first c u.0 in
    record {
      value = int (integer_value n);
      rest = ts;
      spelled = (not_false (fits_i64 (integer_value n)) k.0, (n, refl, refl));
      scoped = not_false (fits_i64 (integer_value n)) k.0;
      few = k.1;
      later = u.1;
      shorter = omega arith;
    }
operand_at first wanted more c (tokens.name n) ts true e h =
    let u = went (roles.Variable first) (place_of_it wanted) more c (tokens.name n) ts true h in
    let k = operand_kept (not (is_variable c (token (tokens.name n)))) causes.Unbound first c u.0 in
    let v = named_variable c n ts k.0 in
    place_passed first (wanted ++ more) c (tokens.name n ∷ ts) ts v.0 v.1 v.2 (omega arith) k.1 u.1
operand_at first wanted more c (tokens.name n) ts false e h =
    let u = went (roles.Channel first) wanted more c (tokens.name n) ts false h in
    let k = operand_kept (not (is_among n c.channels)) causes.Unbound first c u.0 in
    let i = among_is c.channels n (not_false (is_among n c.channels) k.0) in
    record {
      value = chan i.0;
      rest = ts;
      spelled = (n, (i.1, refl));
      scoped = at_inside c.channels i.0 n i.1;
      few = k.1;
      later = u.1;
      shorter = omega arith;
    }
operand_at first wanted more c (tokens.inner n) ts d e h =
    let u = went (roles.Variable first) (place_of_it wanted) more c (tokens.inner n) ts d h in
    let k = operand_kept (not (is_variable c (token (tokens.inner n)))) causes.Unbound first c u.0 in
    let v = inner_variable c n ts k.0 in
    place_passed first (wanted ++ more) c (tokens.inner n ∷ ts) ts v.0 v.1 v.2 (omega arith) k.1 u.1
operand_at first wanted more c (tokens.word w) ts d e h = absurd cc
operand_at first wanted more c (tokens.sign g) ts d e h = absurd cc

pub operand_passed : (more : List Part) (c : Context) (ts : List Token) → Passed (parts.Operand ∷ more) c ts → OperandPassed false more c ts
unfolding run pick pick_plain
operand_passed more c [] h = absurd cc
operand_passed more c (t ∷ ts) h = operand_at false [] more c t ts (dotted ts) refl h

-- ---- tuples

-- the rest of a tuple, behind a calculation
record FurtherPassed (more : List Part) (c : Context) (ts : List Token) : Type 0 where
  values : List Calculation
  rest : List Token
  spelled : spells_further true (names_in c) values ts rest
  scoped : AllByRecursion (IsCalculation (scope_in c)) values
  few : c.calculations + length values ≤ 4
  later : Passed more (calm c) rest
  shorter : length rest < length ts

-- a tuple from a calculation on
record CalculationsPassed (more : List Part) (c : Context) (ts : List Token) : Type 0 where
  value : Calculation
  values : List Calculation
  rest : List Token
  middle : List Token
  spelled : spells_calculation true (names_in c) value ts middle
  spelled_further : spells_further true (names_in c) values middle rest
  scoped : IsCalculation (scope_in c) value
  all_scoped : AllByRecursion (IsCalculation (scope_in c)) values
  few : c.calculations + suc (length values) ≤ 4
  later : Passed more (calm c) rest
  shorter : length rest < length ts

-- what reads the rest of a tuple, of at most so many tokens
abbrev FurtherWithin : ℕ → Type 0
FurtherWithin k = (more : List Part) (c : Context) (ts : List Token) → length ts ≤ k → c.calculations ≤ 4 → Passed (parts.Further ∷ more) c ts → FurtherPassed more c ts

-- a calculation of one operand
one_passed : (k : ℕ) → FurtherWithin k → (more : List Part) (c : Context) (ts : List Token) (x : Primitive) (after_it : List Token) → length after_it ≤ k → c.calculations < 4
    → spells_primitive true (names_in c) x ts after_it → IsPrimitive (scope_in c) x → length after_it < length ts → Passed (parts.Further ∷ more) (begun true c) after_it → CalculationsPassed more c ts
one_passed k f more c ts x after_it short low spelled scoped less h =
    let g = f more (begun true c) after_it short (omega (arith, low)) h in
    record {
      value = one x;
      values = g.values;
      rest = g.rest;
      middle = after_it;
      spelled = spelled;
      spelled_further = g.spelled;
      scoped = scoped;
      all_scoped = g.scoped;
      few = omega (arith, g.few);
      later = g.later;
      shorter = omega (arith, less, g.shorter);
    }

-- a calculation of two operands
both_passed : (k : ℕ) → FurtherWithin k → (more : List Part) (c : Context) (ts : List Token) (x : Primitive) (o : Arith)
    (after_it rest : List Token) → after_it ≡ sign (arith_sign o) ∷ rest → length after_it ≤ k → c.calculations < 4
    → spells_primitive true (names_in c) x ts after_it → IsPrimitive (scope_in c) x → length after_it < length ts
    → Passed (parts.Operand ∷ parts.Further ∷ more) (begun true c) rest → CalculationsPassed more c ts
both_passed k f more c ts x o after_it rest is short low spelled scoped less h =
    let y = operand_passed (parts.Further ∷ more) (begun true c) rest h in
    let long = ap length is in
    let g = f more (begun true c) y.rest (omega (arith, short, long, y.shorter)) (omega (arith, low)) y.later in
    record {
      value = both o x y.value;
      values = g.values;
      rest = g.rest;
      middle = y.rest;
      spelled = (after_it, spelled, (rest, is, y.spelled));
      spelled_further = g.spelled;
      scoped = (scoped, y.scoped);
      all_scoped = g.scoped;
      few = omega (arith, g.few);
      later = g.later;
      shorter = omega (arith, less, long, y.shorter, g.shorter);
    }

-- behind the first operand of a calculation
behind_passed : (k : ℕ) → FurtherWithin k → (more : List Part) (c : Context) (ts : List Token) (x : Primitive) (after_it : List Token) → length after_it ≤ k → c.calculations < 4
    → spells_primitive true (names_in c) x ts after_it → IsPrimitive (scope_in c) x → length after_it < length ts → Passed (parts.Behind ∷ more) (begun true c) after_it → CalculationsPassed more c ts
unfolding run pick pick_plain
behind_passed k f more c ts x [] short low spelled scoped less h = absurd cc
behind_passed k f more c ts x (sign signs.Plus ∷ rest) short low spelled scoped less h = both_passed k f more c ts x ariths.Add (sign signs.Plus ∷ rest) rest refl short low spelled scoped less h
behind_passed k f more c ts x (sign signs.Minus ∷ rest) short low spelled scoped less h = both_passed k f more c ts x ariths.Sub (sign signs.Minus ∷ rest) rest refl short low spelled scoped less h
behind_passed k f more c ts x (sign signs.Star ∷ rest) short low spelled scoped less h = both_passed k f more c ts x ariths.Mul (sign signs.Star ∷ rest) rest refl short low spelled scoped less h
behind_passed k f more c ts x (sign signs.Comma ∷ rest) short low spelled scoped less h = one_passed k f more c ts x (sign signs.Comma ∷ rest) short low spelled scoped less h
behind_passed k f more c ts x (sign signs.Close ∷ rest) short low spelled scoped less h = one_passed k f more c ts x (sign signs.Close ∷ rest) short low spelled scoped less h
behind_passed k f more c ts x (sign signs.Arrow ∷ rest) short low spelled scoped less h = absurd cc
behind_passed k f more c ts x (sign signs.Less ∷ rest) short low spelled scoped less h = absurd cc
behind_passed k f more c ts x (sign signs.OpenBrace ∷ rest) short low spelled scoped less h = absurd cc
behind_passed k f more c ts x (sign signs.CloseBrace ∷ rest) short low spelled scoped less h = absurd cc
behind_passed k f more c ts x (sign signs.Open ∷ rest) short low spelled scoped less h = absurd cc
behind_passed k f more c ts x (sign signs.Semicolon ∷ rest) short low spelled scoped less h = absurd cc
behind_passed k f more c ts x (sign signs.Dot ∷ rest) short low spelled scoped less h = absurd cc
behind_passed k f more c ts x (sign signs.Equal ∷ rest) short low spelled scoped less h = absurd cc
behind_passed k f more c ts x (sign signs.Bar ∷ rest) short low spelled scoped less h = absurd cc
behind_passed k f more c ts x (word w ∷ rest) short low spelled scoped less h = absurd cc
behind_passed k f more c ts x (tokens.name n ∷ rest) short low spelled scoped less h = absurd cc
behind_passed k f more c ts x (tokens.inner n ∷ rest) short low spelled scoped less h = absurd cc
behind_passed k f more c ts x (tokens.integer n ∷ rest) short low spelled scoped less h = absurd cc

-- a calculation from its first operand on, and what stands behind it
calculations_from : (k : ℕ) → FurtherWithin k → (more : List Part) (c : Context) (ts : List Token) → length ts ≤ suc k → OperandPassed true (parts.Behind ∷ more) c ts → CalculationsPassed more c ts
calculations_from k f more c ts short x =
    let low : c.calculations < 4 = grind (arith, nat_tests, x.few) in
    behind_passed k f more c ts x.value x.rest (omega (arith, short, x.shorter)) low x.spelled x.scoped x.shorter x.later

calculation_passed : (k : ℕ) → FurtherWithin k → (more : List Part) (c : Context) (ts : List Token) → length ts ≤ suc k → Passed (parts.Calculation ∷ more) c ts → CalculationsPassed more c ts
unfolding run pick pick_plain
calculation_passed k f more c [] short h = absurd cc
calculation_passed k f more c (t ∷ ts) short h = calculations_from k f more c (t ∷ ts) short (operand_at true (parts.Behind ∷ []) more c t ts (dotted ts) refl h)

further_within : (k : ℕ) → FurtherWithin k
unfolding run pick pick_plain
further_within k more c [] short low h = absurd cc
further_within zero more c (t ∷ ts) short low h = absurd (omega (arith, short))
further_within (suc k) more c (sign signs.Close ∷ rest) short low h =
    let u = went roles.TupleEnd [] more c (sign signs.Close) rest (dotted rest) h in
    record { values = []; rest = rest; spelled = refl; scoped = tt; few = omega (arith, low); later = u.1; shorter = omega arith }
further_within (suc k) more c (sign signs.Comma ∷ rest) short low h =
    let u = went (roles.Sign signs.Comma) (parts.Calculation ∷ []) more c (sign signs.Comma) rest (dotted rest) h in
    let g = calculation_passed k (further_within k) more c rest (omega (arith, short)) u.1 in
    record {
      values = g.value ∷ g.values;
      rest = g.rest;
      spelled = (rest, refl, (g.middle, g.spelled, g.spelled_further));
      scoped = (g.scoped, g.all_scoped);
      few = g.few;
      later = g.later;
      shorter = omega (arith, g.shorter);
    }
further_within (suc k) more c (t ∷ ts) short low h = absurd cc

-- the inside of a tuple
record InsidePassed (more : List Part) (c : Context) (ts : List Token) : Type 0 where
  values : List Calculation
  rest : List Token
  spelled : spells_inside true (names_in c) values ts rest
  scoped : AllByRecursion (IsCalculation (scope_in c)) values
  few : length values ≤ 4
  later : Passed more (calm c) rest
  shorter : length rest < length ts

inside_from : (more : List Part) (c : Context) (ts : List Token) → CalculationsPassed more c ts → InsidePassed more c ts
inside_from more c ts g = record {
  values = g.value ∷ g.values;
  rest = g.rest;
  spelled = (g.middle, g.spelled, g.spelled_further);
  scoped = (g.scoped, g.all_scoped);
  few = omega (arith, g.few);
  later = g.later;
  shorter = g.shorter;
}

inside_passed : (more : List Part) (c : Context) (ts : List Token) → Passed (parts.Inside ∷ more) c ts → InsidePassed more c ts
unfolding run pick pick_plain
inside_passed more c [] h = absurd cc
inside_passed more c (sign signs.Close ∷ rest) h =
    let u = went roles.TupleEnd [] more c (sign signs.Close) rest (dotted rest) h in
    record { values = []; rest = rest; spelled = refl; scoped = tt; few = omega arith; later = u.1; shorter = omega arith }
inside_passed more c (tokens.integer n ∷ ts) h =
    inside_from more c (tokens.integer n ∷ ts) (calculations_from (length ts) (further_within (length ts)) more c
    (tokens.integer n ∷ ts) (omega arith) (operand_at true (parts.Behind ∷ []) more c (tokens.integer n) ts
    (dotted ts) refl h))
inside_passed more c (tokens.name n ∷ ts) h =
    inside_from more c (tokens.name n ∷ ts) (calculations_from (length ts) (further_within (length ts)) more c
    (tokens.name n ∷ ts) (omega arith) (operand_at true (parts.Behind ∷ []) more c (tokens.name n) ts
    (dotted ts) refl h))
inside_passed more c (tokens.inner n ∷ ts) h =
    inside_from more c (tokens.inner n ∷ ts) (calculations_from (length ts) (further_within (length ts)) more c
    (tokens.inner n ∷ ts) (omega arith) (operand_at true (parts.Behind ∷ []) more c (tokens.inner n) ts
    (dotted ts) refl h))
inside_passed more c (t ∷ ts) h = absurd cc

-- an expression, and what follows it
pub record ExpressionPassed (more : List Part) (c : Context) (ts : List Token) : Type 0 where
  pub value : Expression
  pub rest : List Token
  pub spelled : spells_expression true (names_in c) value ts rest
  pub scoped : IsExpression (scope_in c) value
  pub later : Passed more c rest
  pub shorter : length rest < length ts

pub expression_passed : (more : List Part) (c : Context) (ts : List Token) → c.calculations ≡ 0 → Passed (parts.Expression ∷ more) c ts → ExpressionPassed more c ts
unfolding run pick pick_plain
expression_passed more c [] none h = absurd cc
expression_passed more c (tokens.name n ∷ ts) none h =
    let u = went roles.Whole [] more c (tokens.name n) ts (dotted ts) h in
    let k = kept_first (not (is_variable c (token (tokens.name n)))) causes.Unbound [] u.0 in
    let v = named_variable c n ts k.0 in
    record { value = whole v.0; rest = ts; spelled = v.1; scoped = v.2; later = u.1; shorter = omega arith }
expression_passed more c (tokens.inner n ∷ ts) none h =
    let u = went roles.Whole [] more c (tokens.inner n) ts (dotted ts) h in
    let k = kept_first (not (is_variable c (token (tokens.inner n)))) causes.Unbound [] u.0 in
    let v = inner_variable c n ts k.0 in
    record { value = whole v.0; rest = ts; spelled = v.1; scoped = v.2; later = u.1; shorter = omega arith }
expression_passed more c (sign signs.Open ∷ ts) none h =
    let u = went (roles.Sign signs.Open) (parts.Inside ∷ []) more c (sign signs.Open) ts (dotted ts) h in
    let g = inside_passed more c ts u.1 in
    record {
      value = tuple g.values;
      rest = g.rest;
      spelled = (ts, refl, g.spelled);
      scoped = (g.scoped, g.few);
      later = ap (λ k. run more (record c { calculations = k }) (spots_of g.rest)) none ∙ g.later;
      shorter = omega (arith, g.shorter);
    }
expression_passed more c (t ∷ ts) none h = absurd cc
