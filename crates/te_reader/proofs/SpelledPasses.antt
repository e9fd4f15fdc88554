-- What is spelled by some tokens is gone through without a fault: expressions.
use Rattle.std.proofs.Common.{◌≡◌, ℕ, ◌+◌, ◌≤◌, Bool, true, false, not, nat_le, List, [], ◌∷◌, ◌++◌, length, refl, sym, ◌∙◌, ap, inl, inr, arith}
use Rattle.std.specs.Prelude.{Some, ◌⊎◌, ◌&&◌, pos, ℤ}
use Rattle.std.proofs.lemmas.Bool.Decides.{nat_tests}
use Rattle.te_terms.specs.declared.expr.Arith.{Arith}
use Rattle.te_terms.specs.declared.expr.Arith.TheVariants as ariths
use Rattle.te_terms.specs.Expressions.{Variable, register, name, known, Primitive, int, chan, part, Calculation, one, both, Expression, whole, tuple}
use Rattle.te_reader.specs.declared.token.Sign.TheVariants as signs
use Rattle.te_reader.specs.declared.part.Role.TheVariants as roles
use Rattle.te_reader.specs.declared.part.Part.{Part}
use Rattle.te_reader.specs.declared.part.Part.TheVariants as parts
use Rattle.te_reader.specs.Tokens as tokens
use Rattle.te_reader.specs.Tokens.{Token, word, sign}
use Rattle.te_reader.specs.Grammar.{spells_variable, spells_primitive, arith_sign, spells_calculation, spells_further, spells_inside, spells_expression}
use Rattle.te_reader.specs.Spots.{token}
use Rattle.te_reader.specs.Forms.{Form, form, place_of_it}
use Rattle.te_reader.specs.Rules.{Context, is_among, is_variable, begun}
use Rattle.te_reader.specs.Runs.{pick, pick_plain, operand_form, expression_form, is_small, run}
use Rattle.te_reader.proofs.Passing.{spots_of, dotted, Goes, goes, goes_alone, names_in, calm, among_or}
use Rattle.te_reader.proofs.NameSetLemmas.{among_at}
use Rattle.te_reader.proofs.PickedForms.{small_true}

-- ---- names and operands

-- a token that names a variable in scope
abbrev pub NamesVariable : Context → List Token → List Token → Type 0
NamesVariable c ts rest =
    (t : Token) × (ts ≡ t ∷ rest) × (not (is_variable c (token t)) ≡ false) × (((n : List ℕ) × (t ≡ tokens.name n)) ⊎ ((n : List ℕ) × (t ≡ tokens.inner n)))

not_true : (b : Bool) → b ≡ true → not b ≡ false
not_true b e = rw e refl

variable_named : (c : Context) (x : Variable) (ts rest : List Token) → spells_variable true (names_in c) x ts rest → NamesVariable c ts rest
variable_named c (register r) ts rest h = (tokens.name h.0, h.1.1, among_or (is_among h.0 c.registers) (is_among h.0 c.inners) (inl (among_at c.registers r h.0 h.1.0)), inl (h.0, refl))
variable_named c (name l) ts rest h = by h.1.1 where
  by : (ts ≡ tokens.name h.0 ∷ rest) ⊎ (ts ≡ tokens.inner h.0 ∷ rest) → NamesVariable c ts rest
  by (inl e) = (tokens.name h.0, e, among_or (is_among h.0 c.registers) (is_among h.0 c.inners) (inr (among_at c.inners l h.0 h.1.0)), inl (h.0, refl))
  by (inr e) = (tokens.inner h.0, e, not_true (is_among h.0 c.inners) (among_at c.inners l h.0 h.1.0), inr (h.0, refl))
variable_named c (known v) ts rest h = absurd h

-- a part that begins with an operand
abbrev pub IsOperand : Part → Bool → List Part → Type 0
IsOperand p first more = (t : Token) (d : Bool) (f : Form) → operand_form first more (token t) d ≡ Some f → pick p (token t) d ≡ Some f

pub operand_is : IsOperand parts.Operand false []
unfolding pick pick_plain
operand_is t d f e = e

pub calculation_is : IsOperand parts.Calculation true (parts.Behind ∷ [])
unfolding pick pick_plain
calculation_is t d f e = e

pub inside_is : IsOperand parts.Inside true (parts.Behind ∷ [])
unfolding pick pick_plain
inside_is (tokens.word w) d f e = e
inside_is (tokens.name n) d f e = e
inside_is (tokens.inner n) d f e = e
inside_is (tokens.integer n) d f e = e
inside_is (tokens.sign g) d f e = absurd cc

-- a variable before its place
variable_first : (first : Bool) (more : List Part) (t : Token) (d : Bool) → d ≡ true
    → (((n : List ℕ) × (t ≡ tokens.name n)) ⊎ ((n : List ℕ) × (t ≡ tokens.inner n)))
    → operand_form first more (token t) d ≡ Some (form (roles.Variable first) (place_of_it more))
variable_first first more t d e (inl h) = rw (h.1, e) refl
variable_first first more t d e (inr h) = rw h.1 refl

pub primitive_goes : (p : Part) (first : Bool) (more : List Part) → IsOperand p first more
    → (q : Primitive) (wanted : List Part) (c : Context) (ts rest : List Token)
    → spells_primitive true (names_in c) q ts rest
    → (first && nat_le 4 c.calculations) ≡ false → dotted rest ≡ false → Goes (p ∷ wanted) c ts (more ++ wanted) (begun first c) rest
primitive_goes p first more is (int z) wanted c ts rest h few plain =
    goes p (form (roles.Integer first) more) wanted c (tokens.integer h.1.0) ts rest h.1.2 (is _ _ _ refl) (rw (h.1.1, h.0, few) refl)
primitive_goes p first more is (chan k) wanted c ts rest h few plain =
    goes p (form (roles.Channel first) more) wanted c (tokens.name h.0) ts rest h.1.1 (is _ _ _ (rw plain refl)) (rw (among_at c.channels k h.0 h.1.0, few) refl)
primitive_goes p first more is (part x d) wanted c ts rest h few plain =
    let v = variable_named c x ts h.1.0 h.1.1 in
    let dot = h.1.2 in
    let follows : dotted h.1.0 ≡ true = rw dot.1 refl in
    let next = begun first c in
    goes p (form (roles.Variable first) (place_of_it more)) wanted c v.0 ts h.1.0 v.1 (is _ _ _ (variable_first first more v.0 (dotted h.1.0) follows v.3)) (rw (v.2, few) refl)
    ∙ goes_alone (roles.Sign signs.Dot) (parts.Only roles.Place ∷ (more ++ wanted)) next (tokens.sign signs.Dot) h.1.0 dot.0 dot.1 refl refl
    ∙ goes_alone roles.Place (more ++ wanted) next (tokens.integer dot.2.0) dot.0 rest dot.2.2 (small_true _ d dot.2.1 h.0) refl

-- ---- tuples

-- what stands behind a calculation doesn't begin with a `.`, and may stand behind a first operand
further_plain : (c : Context) (cs : List Calculation) (ts rest : List Token) → spells_further true (names_in c) cs ts rest → dotted ts ≡ false
further_plain c [] ts rest h = rw h refl
further_plain c (q ∷ qs) ts rest h = rw h.1 refl

further_behind : (c : Context) (cs : List Calculation) (wanted : List Part) (ts rest : List Token)
    → spells_further true (names_in c) cs ts rest → run (parts.Behind ∷ wanted) c (spots_of ts) ≡ run
    (parts.Further ∷ wanted) c (spots_of ts)
unfolding run pick pick_plain
further_behind c [] wanted ts rest h = rw h refl
further_behind c (q ∷ qs) wanted ts rest h = rw h.1 refl

-- the tuple's end from here on
abbrev Ends : Context → List Calculation → List Part → List Token → List Token → Type 0
Ends c cs wanted ts rest = spells_further true (names_in c) cs ts rest → c.calculations + length cs ≤ 4 → Goes (parts.Further ∷ wanted) c ts wanted (calm c) rest

arith_goes : (o : Arith) (wanted : List Part) (c : Context) (ts rest : List Token) → ts ≡ sign (arith_sign o) ∷ rest → Goes (parts.Behind ∷ wanted) c ts (parts.Operand ∷ parts.Further ∷ wanted) c rest
unfolding pick pick_plain
arith_goes ariths.Add wanted c ts rest e = goes parts.Behind (form (roles.Sign signs.Plus) (parts.Operand ∷ parts.Further ∷ [])) wanted c (sign signs.Plus) ts rest e refl refl
arith_goes ariths.Sub wanted c ts rest e = goes parts.Behind (form (roles.Sign signs.Minus) (parts.Operand ∷ parts.Further ∷ [])) wanted c (sign signs.Minus) ts rest e refl refl
arith_goes ariths.Mul wanted c ts rest e = goes parts.Behind (form (roles.Sign signs.Star) (parts.Operand ∷ parts.Further ∷ [])) wanted c (sign signs.Star) ts rest e refl refl

calculation_goes : (p : Part) → IsOperand p true (parts.Behind ∷ [])
    → (q : Calculation) (qs : List Calculation) (wanted : List Part) (c : Context) (ts middle rest : List Token)
    → spells_calculation true (names_in c) q ts middle
    → spells_further true (names_in c) qs middle rest → c.calculations + length (q ∷ qs) ≤ 4 → Ends (begun true c) qs wanted middle rest → Goes (p ∷ wanted) c ts wanted (calm c) rest
calculation_goes p is (one x) qs wanted c ts middle rest h further few later =
    let under : (true && nat_le 4 c.calculations) ≡ false = grind (arith, nat_tests, few) in
    primitive_goes p true (parts.Behind ∷ []) is x wanted c ts middle h under (further_plain c qs middle rest further)
    ∙ further_behind (begun true c) qs wanted middle rest further
    ∙ later further (omega (arith, few))
calculation_goes p is (both o x y) qs wanted c ts middle rest h further few later =
    let under : (true && nat_le 4 c.calculations) ≡ false = grind (arith, nat_tests, few) in
    let second = h.2 in
    primitive_goes p true (parts.Behind ∷ []) is x wanted c ts h.0 h.1 under (rw second.1 (sign_plain o second.0))
    ∙ arith_goes o wanted (begun true c) h.0 second.0 second.1
    ∙ primitive_goes parts.Operand false [] operand_is y (parts.Further ∷ wanted) (begun true c) second.0 middle second.2 refl (further_plain c qs middle rest further)
    ∙ later further (omega (arith, few)) where
      sign_plain : (o : Arith) (ts : List Token) → dotted (sign (arith_sign o) ∷ ts) ≡ false
      sign_plain ariths.Add ts = refl
      sign_plain ariths.Sub ts = refl
      sign_plain ariths.Mul ts = refl

further_goes : (cs : List Calculation) (wanted : List Part) (c : Context) (ts rest : List Token) → Ends c cs wanted ts rest
unfolding pick pick_plain
further_goes [] wanted c ts rest h few = goes parts.Further (form roles.TupleEnd []) wanted c (sign signs.Close) ts rest h refl refl
further_goes (q ∷ qs) wanted c ts rest h few =
    goes parts.Further (form (roles.Sign signs.Comma) (parts.Calculation ∷ [])) wanted c (sign signs.Comma) ts h.0 h.1 refl refl
    ∙ calculation_goes parts.Calculation calculation_is q qs wanted c h.0 h.2.0 rest h.2.1 h.2.2 few (further_goes qs wanted (begun true c) h.2.0 rest)

inside_goes : (cs : List Calculation) (wanted : List Part) (c : Context) (ts rest : List Token)
    → spells_inside true (names_in c) cs ts rest → c.calculations + length cs ≤ 4
    → Goes (parts.Inside ∷ wanted) c ts wanted (calm c) rest
unfolding pick pick_plain
inside_goes [] wanted c ts rest h few = goes parts.Inside (form roles.TupleEnd []) wanted c (sign signs.Close) ts rest h refl refl
inside_goes (q ∷ qs) wanted c ts rest h few = calculation_goes parts.Inside inside_is q qs wanted c ts h.0 rest h.1 h.2 few (further_goes qs wanted (begun true c) h.0 rest)

-- at most four calculations
abbrev pub IsFew : Expression → Type 0
IsFew (whole x) = Unit {0}
IsFew (tuple cs) = length cs ≤ 4

pub expression_goes : (e : Expression) (wanted : List Part) (c : Context) (ts rest : List Token)
    → spells_expression true (names_in c) e ts rest → IsFew e → c.calculations ≡ 0
    → Goes (parts.Expression ∷ wanted) c ts wanted c rest
unfolding pick pick_plain
expression_goes (whole x) wanted c ts rest h few none =
    let v = variable_named c x ts rest h in
    goes parts.Expression (form roles.Whole []) wanted c v.0 ts rest v.1 (whole_first v.0 v.3) (rw v.2 refl) where
      whole_first : (t : Token) → (((n : List ℕ) × (t ≡ tokens.name n)) ⊎ ((n : List ℕ) × (t ≡ tokens.inner n))) → expression_form (token t) ≡ Some (form roles.Whole [])
      whole_first t (inl k) = rw k.1 refl
      whole_first t (inr k) = rw k.1 refl
expression_goes (tuple cs) wanted c ts rest h few none =
    goes parts.Expression (form (roles.Sign signs.Open) (parts.Inside ∷ [])) wanted c (sign signs.Open) ts h.0 h.1 refl refl
    ∙ inside_goes cs wanted c h.0 rest h.2 (rw none (omega (arith, few)))
    ∙ ap (λ k. run wanted (record c { calculations = k }) (spots_of rest)) (sym none)

-- an expression doesn't begin with a `.`
pub expression_plain : (c : Context) (e : Expression) (ts rest : List Token) → spells_expression true (names_in c) e ts rest → dotted ts ≡ false
expression_plain c (whole x) ts rest h = by (variable_named c x ts rest h) where
  by : NamesVariable c ts rest → dotted ts ≡ false
  by v = rw v.1 (plain v.0 v.3) where
    plain : (t : Token) → (((n : List ℕ) × (t ≡ tokens.name n)) ⊎ ((n : List ℕ) × (t ≡ tokens.inner n))) → dotted (t ∷ rest) ≡ false
    plain t (inl k) = rw k.1 refl
    plain t (inr k) = rw k.1 refl
expression_plain c (tuple cs) ts rest h = rw h.1 refl
