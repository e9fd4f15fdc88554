-- What was read of expressions is spelled by the tokens, and has its names in scope.
use Rattle.std.proofs.Common.{◌≡◌, ℕ, zero, suc, ◌<◌, ◌≤◌, inl, inr, Bool, true, false, List, [], ◌∷◌, length, refl, sym, ◌∙◌, ap, subst, arith}
use Rattle.std.specs.Prelude.{Option, Some, None, ℤ, pos, negsuc, nat_le, if◌then◌else◌}
use Rattle.std.specs.List.{AllByRecursion}
use Rattle.std.proofs.lemmas.Bool.Decides.{nat_tests}
use Rattle.te_terms.specs.declared.expr.Arith.{Arith}
use Rattle.te_terms.specs.declared.expr.Arith.TheVariants as ariths
use Rattle.te_terms.specs.Values.{fits_i64}
use Rattle.te_terms.specs.Expressions.{Variable, register, name, Primitive, int, chan, part, Calculation, one, both, Expression, whole, tuple}
use Rattle.te_script.specs.Scripts.{Scope, IsVariable, IsPrimitive, IsCalculation, IsExpression}
use Rattle.te_reader.specs.declared.token.Sign.TheVariants as signs
use Rattle.te_reader.specs.Tokens as tokens
use Rattle.te_reader.specs.Tokens.{Token, sign}
use Rattle.te_reader.specs.Heads.{sign_first, name_first, inner_first, integer_first}
use Rattle.te_reader.specs.Integers.{integer_value}
use Rattle.te_reader.specs.Grammar.{Names, spells_variable, spells_integer, arith_sign, spells_primitive, spells_calculation, spells_inside, spells_further, spells_expression}
use Rattle.te_reader.specs.NameReads.{Read, first_place_of, fitting, integer_read, or_inner, variable_named}
use Rattle.te_reader.specs.ExpressionReads.{place_read, read_place, read_inner_part, part_or_channel, read_named}
use Rattle.te_reader.specs.ExpressionReads.{named_or_inner, integer_or_name, read_primitive, or_star, or_minus, or_plus}
use Rattle.te_reader.specs.ExpressionReads.{arith_first, one_or_both, read_calculation, end_or_more, read_calculations}
use Rattle.te_reader.specs.ExpressionReads.{empty_or_calculations, read_tuple, inner_or_tuple, variable_or_tuple}
use Rattle.te_reader.specs.ExpressionReads.{read_expression}
use Rattle.te_reader.proofs.NameLemmas.{bind_some, place_is}
use Rattle.te_reader.proofs.HeadLemmas.{carried, name_is, inner_is, integer_is, sign_is}

abbrev pub scope_of : ℕ → Names → Scope
scope_of m s = record { written = length s.registers; level = length s.inners; channels = m }

pub fitting_some : (z y : ℤ) → fitting z ≡ Some y → (z ≡ y) × (fits_i64 y ≡ true)
fitting_some z y = by (fits_i64 z) refl where
  by : (b : Bool) → fits_i64 z ≡ b → (if b then Some z else None) ≡ Some y → (z ≡ y) × (fits_i64 y ≡ true)
  by true f e = let same : z ≡ y = cc in (same, ap fits_i64 (sym same) ∙ f)
  by false f e = absurd cc

place_some : (z : ℤ) (d : ℕ) → place_read z ≡ Some d → (z ≡ pos d) × (d ≤ 3)
place_some (pos n) d e = by (nat_le n 3) refl e where
  by : (b : Bool) → nat_le n 3 ≡ b → (if b then Some n else None) ≡ Some d → (pos n ≡ pos d) × (d ≤ 3)
  by true f e = let same : n ≡ d = cc in (ap pos same, subst (λ (x : ℕ). x ≤ 3) same (grind (arith, nat_tests, f)))
  by false f e = absurd cc
place_some (negsuc n) d e = absurd cc

pub place_is_read : (d : ℕ) (ts rest : List Token) → read_place ts ≡ Some (d, rest) → spells_integer (pos d) ts rest × (d ≤ 3)
unfolding read_place
place_is_read d ts rest e =
    let a = bind_some (integer_first ts) _ _ e in
    let b = bind_some (place_read (integer_value a.0.0)) _ _ a.2 in
    let at = place_some (integer_value a.0.0) b.0 b.1 in
    carried (λ x last. spells_integer (pos x) ts last × (x ≤ 3)) b.0 d a.0.1 rest b.2 ((a.0.0, at.0, integer_is ts a.0.0 a.0.1 a.1), at.1)

pub arith_read : (o : Arith) (ts rest : List Token) → arith_first ts ≡ Some (o, rest) → ts ≡ sign (arith_sign o) ∷ rest
unfolding arith_first
arith_read o ts rest e = by_plus (sign_first signs.Plus ts) refl e where
  by_star : (r : Option (List Token)) → sign_first signs.Star ts ≡ r → or_star ts r ≡ Some (o, rest) → ts ≡ sign (arith_sign o) ∷ rest
  by_star (Some last) f e = carried (λ x l. ts ≡ sign (arith_sign x) ∷ l) ariths.Mul o last rest e (sign_is signs.Star ts last f)
  by_star None f e = absurd cc

  by_minus : (r : Option (List Token)) → sign_first signs.Minus ts ≡ r → or_minus ts r ≡ Some (o, rest) → ts ≡ sign (arith_sign o) ∷ rest
  by_minus (Some last) f e = carried (λ x l. ts ≡ sign (arith_sign x) ∷ l) ariths.Sub o last rest e (sign_is signs.Minus ts last f)
  by_minus None f e = by_star (sign_first signs.Star ts) refl e

  by_plus : (r : Option (List Token)) → sign_first signs.Plus ts ≡ r → or_plus ts r ≡ Some (o, rest) → ts ≡ sign (arith_sign o) ∷ rest
  by_plus (Some last) f e = carried (λ x l. ts ≡ sign (arith_sign x) ∷ l) ariths.Add o last rest e (sign_is signs.Plus ts last f)
  by_plus None f e = by_minus (sign_first signs.Minus ts) refl e

module _ (m : ℕ) (s : Names) (many : length s.channels ≤ m) where
  -- a variable whose NAME was read
  pub record ReadVariable (n : List ℕ) (x : Variable) : Type 0 where
    pub spelled : (ts rest : List Token) → ts ≡ tokens.name n ∷ rest → spells_variable true s x ts rest
    pub scoped : IsVariable (scope_of m s) x

  pub variable_read : (n : List ℕ) (x : Variable) → variable_named s n ≡ Some x → ReadVariable n x
  unfolding variable_named
  variable_read n x e = by (first_place_of s.registers n) refl e where
    by : (o : Option ℕ) → first_place_of s.registers n ≡ o → or_inner s n o ≡ Some x → ReadVariable n x
    by (Some r) f e =
        let at = place_is s.registers n r f in
        let good : ReadVariable n (register r) = record { spelled = λ ts rest h. (n, (at.0, h)); scoped = at.1 } in
        let same : register r ≡ x = cc in
        subst (λ (y : Variable). ReadVariable n y) same good
    by None f e =
        let a = bind_some (first_place_of s.inners n) _ _ e in
        let at = place_is s.inners n a.0 a.1 in
        let good : ReadVariable n (name a.0) = record { spelled = λ ts rest h. (n, (at.0, inl h)); scoped = at.1 } in
        let same : name a.0 ≡ x = let f = a.2 in cc in
        subst (λ (y : Variable). ReadVariable n y) same good

  -- a primitive that was read
  pub record ReadPrimitive (p : Primitive) (ts rest : List Token) : Type 0 where
    pub spelled : spells_primitive true s p ts rest
    pub scoped : IsPrimitive (scope_of m s) p

  -- a place of a variable
  part_is : (x : Variable) (d : ℕ) (ts middle behind rest : List Token) → spells_variable true s x ts middle
      → IsVariable (scope_of m s) x → sign_first signs.Dot middle ≡ Some behind → read_place behind ≡ Some (d, rest)
      → ReadPrimitive (part x d) ts rest
  part_is x d ts middle behind rest h scoped dot e =
      let place = place_is_read d behind rest e in
      record { spelled = (place.1, (middle, h, (behind, sign_is signs.Dot middle behind dot, place.0))); scoped = (scoped, omega (arith, place.1)) }

  inner_part_read : (p : Primitive) (ts rest : List Token) → read_inner_part s ts ≡ Some (p, rest) → ReadPrimitive p ts rest
  unfolding read_inner_part
  inner_part_read p ts rest e =
      let a = bind_some (inner_first ts) _ _ e in
      let b = bind_some (first_place_of s.inners a.0.0) _ _ a.2 in
      let c = bind_some (sign_first signs.Dot a.0.1) _ _ b.2 in
      let d = bind_some (read_place c.0) _ _ c.2 in
      let at = place_is s.inners a.0.0 b.0 b.1 in
      carried (λ x last. ReadPrimitive x ts last) (part (name b.0) d.0.0) p d.0.1 rest d.2
      (part_is (name b.0) d.0.0 ts a.0.1 c.0 d.0.1 (a.0.0, (at.0, inr (inner_is ts a.0.0 a.0.1 a.1))) at.1 c.1 d.1)

  named_read : (n : List ℕ) (p : Primitive) (ts behind rest : List Token) → ts ≡ tokens.name n ∷ behind → read_named s n behind ≡ Some (p, rest) → ReadPrimitive p ts rest
  unfolding read_named
  named_read n p ts behind rest begins e = by (sign_first signs.Dot behind) refl e where
    by : (o : Option (List Token)) → sign_first signs.Dot behind ≡ o → part_or_channel s n behind o ≡ Some (p, rest) → ReadPrimitive p ts rest
    by (Some after) f e =
        let a = bind_some (variable_named s n) _ _ e in
        let b = bind_some (read_place after) _ _ a.2 in
        let v = variable_read n a.0 a.1 in
        carried (λ x last. ReadPrimitive x ts last) (part a.0 b.0.0) p b.0.1 rest b.2 (part_is a.0 b.0.0 ts behind after b.0.1 (v.spelled ts behind begins) v.scoped f b.1)
    by None f e =
        let a = bind_some (first_place_of s.channels n) _ _ e in
        let at = place_is s.channels n a.0 a.1 in
        carried (λ x last. ReadPrimitive x ts last) (chan a.0) p behind rest a.2 (record { spelled = (n, (at.0, begins)); scoped = omega (arith, at.1) })

  pub primitive_read : (p : Primitive) (ts rest : List Token) → read_primitive s ts ≡ Some (p, rest) → ReadPrimitive p ts rest
  unfolding read_primitive integer_read
  primitive_read p ts rest e = by (integer_first ts) refl e where
    by_name : (o : Read (List ℕ)) → name_first ts ≡ o → named_or_inner s ts o ≡ Some (p, rest) → ReadPrimitive p ts rest
    by_name (Some n) f e = named_read n.0 p ts n.1 rest (name_is ts n.0 n.1 f) e
    by_name None f e = inner_part_read p ts rest e

    by : (o : Read (List ℕ)) → integer_first ts ≡ o → integer_or_name s ts o ≡ Some (p, rest) → ReadPrimitive p ts rest
    by None f e = by_name (name_first ts) refl e
    by (Some d) f e =
        let a = bind_some (fitting (integer_value d.0)) _ _ e in
        let fit = fitting_some (integer_value d.0) a.0 a.1 in
        carried (λ x last. ReadPrimitive x ts last) (int a.0) p d.1 rest a.2 (record { spelled = (fit.1, (d.0, fit.0, integer_is ts d.0 d.1 f)); scoped = fit.1 })

  -- a calculation that was read
  pub record ReadCalculation (c : Calculation) (ts rest : List Token) : Type 0 where
    pub spelled : spells_calculation true s c ts rest
    pub scoped : IsCalculation (scope_of m s) c

  pub calculation_read : (c : Calculation) (ts rest : List Token) → read_calculation s ts ≡ Some (c, rest) → ReadCalculation c ts rest
  unfolding read_calculation
  calculation_read c ts rest e =
      let a = bind_some (read_primitive s ts) _ _ e in
      by a.0.0 a.0.1 (primitive_read a.0.0 ts a.0.1 a.1) (arith_first a.0.1) refl a.2 where
        by : (p : Primitive) (after : List Token) → ReadPrimitive p ts after → (o : Read Arith) → arith_first after ≡ o → one_or_both s p after o ≡ Some (c, rest) → ReadCalculation c ts rest
        by p after good None f e = carried (λ x last. ReadCalculation x ts last) (one p) c after rest e (record { spelled = good.spelled; scoped = good.scoped })
        by p after good (Some o) f e =
            let b = bind_some (read_primitive s o.1) _ _ e in
            let other = primitive_read b.0.0 o.1 b.0.1 b.1 in
            carried (λ x last. ReadCalculation x ts last) (both o.0 p b.0.0) c b.0.1 rest b.2
            (record { spelled = (after, good.spelled, (o.1, arith_read o.0 after o.1 f, other.spelled)); scoped = (good.scoped, other.scoped) })

  -- calculations that were read, up to the end of their tuple
  pub record ReadCalculations (left : ℕ) (cs : List Calculation) (ts rest : List Token) : Type 0 where
    pub inside : spells_inside true s cs ts rest
    pub scoped : AllByRecursion (IsCalculation (scope_of m s)) cs
    pub most : length cs ≤ left

  -- calculations that are there at all go on from a comma as they would from a parenthesis
  further : (cs : List Calculation) (ts behind rest : List Token) → 0 < length cs → ts ≡ sign signs.Comma ∷ behind → spells_inside true s cs behind rest → spells_further true s cs ts rest
  further [] ts behind rest some comma h = absurd (omega arith)
  further (c ∷ cs) ts behind rest some comma h = (behind, comma, h)

  pub calculations_read : (left : ℕ) (cs : List Calculation) (ts rest : List Token) → read_calculations left s ts ≡ Some (cs, rest) → ReadCalculations left cs ts rest × (0 < length cs)
  unfolding read_calculations
  calculations_read zero cs ts rest e = absurd cc
  calculations_read (suc left) cs ts rest e =
      let a = bind_some (read_calculation s ts) _ _ e in
      by a.0.0 a.0.1 (calculation_read a.0.0 ts a.0.1 a.1) (calculations_read left) (sign_first signs.Close a.0.1) refl a.2 where
        by : (c : Calculation) (after : List Token) → ReadCalculation c ts after
            → ((ds : List Calculation) (us last : List Token) → read_calculations left s us ≡ Some (ds, last)
            → ReadCalculations left ds us last × (0 < length ds))
            → (o : Option (List Token)) → sign_first signs.Close after ≡ o
            → end_or_more c after (read_calculations left s) o ≡ Some (cs, rest)
            → ReadCalculations (suc left) cs ts rest × (0 < length cs)
        by c after good later (Some last) f e =
            carried (λ xs end. ReadCalculations (suc left) xs ts end × (0 < length xs)) (c ∷ []) cs last rest e
            (record { inside = (after, good.spelled, sign_is signs.Close after last f); scoped = (good.scoped, tt); most = omega arith }, omega arith)
        by c after good later None f e =
            let a = bind_some (sign_first signs.Comma after) _ _ e in
            let b = bind_some (read_calculations left s a.0) _ _ a.2 in
            let l = later b.0.0 a.0 b.0.1 b.1 in
            carried (λ xs end. ReadCalculations (suc left) xs ts end × (0 < length xs)) (c ∷ b.0.0) cs b.0.1 rest b.2 (
              record {
                inside = (after, good.spelled, further b.0.0 after a.0 b.0.1 l.1 (sign_is signs.Comma after a.0 a.1) l.0.inside);
                scoped = (good.scoped, l.0.scoped);
                most = omega (arith, l.0.most);
              },
              omega arith,
            )

  pub tuple_read : (cs : List Calculation) (ts rest : List Token) → read_tuple s ts ≡ Some (cs, rest) → ReadCalculations 4 cs ts rest
  unfolding read_tuple
  tuple_read cs ts rest e = by (sign_first signs.Close ts) refl e where
    by : (o : Option (List Token)) → sign_first signs.Close ts ≡ o → empty_or_calculations s ts o ≡ Some (cs, rest) → ReadCalculations 4 cs ts rest
    by None f e = (calculations_read 4 cs ts rest e).0
    by (Some last) f e = carried (λ xs end. ReadCalculations 4 xs ts end) [] cs last rest e (record { inside = sign_is signs.Close ts last f; scoped = tt; most = omega arith })

  -- an expression that was read
  pub record ReadExpression (x : Expression) (ts rest : List Token) : Type 0 where
    pub spelled : spells_expression true s x ts rest
    pub scoped : IsExpression (scope_of m s) x

  pub expression_read : (x : Expression) (ts rest : List Token) → read_expression s ts ≡ Some (x, rest) → ReadExpression x ts rest
  unfolding read_expression
  expression_read x ts rest e = by (name_first ts) refl e where
    by_inner : (o : Read (List ℕ)) → inner_first ts ≡ o → inner_or_tuple s ts o ≡ Some (x, rest) → ReadExpression x ts rest
    by_inner (Some n) f e =
        let a = bind_some (first_place_of s.inners n.0) _ _ e in
        let at = place_is s.inners n.0 a.0 a.1 in
        carried (λ y last. ReadExpression y ts last) (whole (name a.0)) x n.1 rest a.2 (record { spelled = (n.0, (at.0, inr (inner_is ts n.0 n.1 f))); scoped = at.1 })
    by_inner None f e =
        let a = bind_some (sign_first signs.Open ts) _ _ e in
        let b = bind_some (read_tuple s a.0) _ _ a.2 in
        let t = tuple_read b.0.0 a.0 b.0.1 b.1 in
        carried (λ y last. ReadExpression y ts last) (tuple b.0.0) x b.0.1 rest b.2 (record { spelled = (a.0, sign_is signs.Open ts a.0 a.1, t.inside); scoped = (t.scoped, t.most) })

    by : (o : Read (List ℕ)) → name_first ts ≡ o → variable_or_tuple s ts o ≡ Some (x, rest) → ReadExpression x ts rest
    by (Some n) f e =
        let a = bind_some (variable_named s n.0) _ _ e in
        let v = variable_read n.0 a.0 a.1 in
        carried (λ y last. ReadExpression y ts last) (whole a.0) x n.1 rest a.2 (record { spelled = v.spelled ts n.1 (name_is ts n.0 n.1 f); scoped = v.scoped })
    by None f e = by_inner (inner_first ts) refl e
