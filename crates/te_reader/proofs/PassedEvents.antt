-- What is gone through without a fault is spelled: events.
use Rattle.std.proofs.Common.{◌≡◌, ℕ, zero, suc, ◌+◌, ◌-◌, ◌<◌, ◌≤◌, Bool, true, false, nat_lt, nat_le, max, List, [], ◌∷◌, ◌++◌, length, refl, sym, ◌∙◌, ap, subst, inl, inr, arith, length-append}
use Rattle.std.specs.Prelude.{None, ◌||◌}
use Rattle.std.specs.Str.{bytes_eq}
use Rattle.std.proofs.lemmas.Slice.Eq.{bytes_eq-Decides}
use Rattle.std.proofs.lemmas.Bool.Decides.{nat_tests}
use Rattle.te_terms.specs.declared.expr.Test.{Test}
use Rattle.te_terms.specs.declared.expr.Test.TheVariants as tests
use Rattle.te_terms.specs.Terms.{Term, always, never, fresh, throw, send, recv, and_then, choose, catch, when}
use Rattle.te_terms.specs.Measures.{height, fresh_count}
use Rattle.te_script.specs.Scripts.{one_deeper, IsEvent}
use Rattle.te_reader.specs.declared.brace.Brace.{Brace}
use Rattle.te_reader.specs.declared.token.Word.TheVariants as words
use Rattle.te_reader.specs.declared.token.Sign.TheVariants as signs
use Rattle.te_reader.specs.declared.cause.Which.TheVariants as limits
use Rattle.te_reader.specs.declared.cause.Cause.TheVariants as causes
use Rattle.te_reader.specs.declared.part.Role.TheVariants as roles
use Rattle.te_reader.specs.declared.part.Part.{Part}
use Rattle.te_reader.specs.declared.part.Part.TheVariants as parts
use Rattle.te_reader.specs.Tokens as tokens
use Rattle.te_reader.specs.Tokens.{Token, word, sign}
use Rattle.te_reader.specs.Grammar.{Names, EventPlace, with_inner, is, ◌⨟◌, IsNew, IsFreeName, bound_name, alone, in_do, in_choose, in_braces, test_sign, spells_event}
use Rattle.te_reader.specs.Forms.{bound_event}
use Rattle.te_reader.specs.Rules.{Context, is_among, may_not_be_bound, too_long, check, first_broken, reaching, behind_bar, behind_name, depth_within}
use Rattle.te_reader.specs.Runs.{pick, pick_plain, run}
use Rattle.te_reader.specs.Tallies.{Tally, one_node, one_channel, tally_with_event}
use Rattle.te_reader.proofs.TallyLemmas.{tally_same}
use Rattle.te_reader.proofs.Passing.{spots_of, dotted, names_in, at, at_same, reaching_same}
use Rattle.te_reader.proofs.EventPasses.{reached, cut, settled_deeper, fresh_bar, opened_at, with_inners, take_front, PartAndMore, EventAndMore, ClosedEvent, parts_as_event}
use Rattle.te_terms.proofs.Lists.{whole_taken, deeper}
use Rattle.te_reader.proofs.EventIsRead.{some_height}
use Rattle.te_reader.proofs.PassedExpressions.{Passed, went, kept_first, took_sign, took_word, scope_in, operand_passed, expression_passed}

-- ---- names that may be bound

or_false : (a b : Bool) → (a || b) ≡ false → (a ≡ false) × (b ≡ false)
or_false true b e = absurd cc
or_false false b e = (refl, e)

pub new_name : (names : List (List ℕ)) (n : List ℕ) → is_among n names ≡ false → IsNew n names
unfolding is_among
new_name [] n e = tt
new_name (x ∷ xs) n e =
    let o = or_false (bytes_eq x n) (is_among n xs) e in
    (λ same. absurd (let yes : bytes_eq x n ≡ true = (bytes_eq-Decides x n).1 same in let no : bytes_eq x n ≡ false = o.0 in let both : true ≡ false = sym yes ∙ no in cc), new_name xs n o.1)

free_name : (c : Context) (x : List ℕ) → first_broken (check (may_not_be_bound c x) causes.Shadow ∷ too_long x ∷ []) ≡ None → IsFreeName (names_in c) x
free_name c x e =
    let k = kept_first (may_not_be_bound c x) causes.Shadow (too_long x ∷ []) e in
    let l = kept_first (nat_lt 32 (length x)) (causes.Limit limits.Name) [] k.1 in
    let o = or_false (is_among x c.channels || is_among x c.registers) (is_among x c.inners) k.0 in
    let q = or_false (is_among x c.channels) (is_among x c.registers) o.0 in
    record { short = grind (arith, nat_tests, l.0); no_channel = new_name c.channels x q.0; no_register = new_name c.registers x q.1; no_inner = new_name c.inners x o.1 }

-- ---- the promises

pub record EventPassed (stands : EventPlace) (more : List Part) (n : Tally) (behind : Term → Context) (c : Context) (ts : List Token) : Type 0 where
  pub value : Term
  pub few : n.fresh ≤ 16 → n.fresh + fresh_count value ≤ 16
  pub rest : List Token
  pub spelled : spells_event true stands (names_in c) value ts rest
  pub scoped : IsEvent (scope_in c) value
  pub later : Passed more (behind value) rest
  pub shorter : length rest < length ts

abbrev pub behind_alone : Context → Brace → List Brace → Tally → Term → Context
behind_alone c b bs n t = at c (reached b t) bs (tally_with_event n t)

abbrev behind_closed : Context → Brace → Brace → List Brace → Tally → Term → Context
behind_closed c b b0 bs n t = at (cut b c) (reaching (depth_within (reached b t)) b0) bs (tally_with_event n t)

abbrev AloneWithin : ℕ → Type 0
AloneWithin k =
    (c : Context) (b : Brace) (bs : List Brace) (n : Tally) (more : List Part) (ts : List Token) → length ts ≤ k → c.calculations ≡ 0 → Passed (parts.Event ∷ more) (at c b bs n) ts
    → EventPassed alone more n (behind_alone c b bs n) c ts

abbrev InDoWithin : ℕ → Type 0
InDoWithin k =
    (c : Context) (b b0 : Brace) (bs : List Brace) (n : Tally) (more : List Part) (ts : List Token) → length ts ≤ k
    → c.calculations ≡ 0 → b.outer ≤ length c.inners → Passed (parts.Parts ∷ more) (at c b (b0 ∷ bs) n) ts
    → EventPassed in_do more n (behind_closed c b b0 bs n) c ts

abbrev InChooseWithin : ℕ → Type 0
InChooseWithin k =
    (c : Context) (b b0 : Brace) (bs : List Brace) (n : Tally) (more : List Part) (ts : List Token) → length ts ≤ k → c.calculations ≡ 0 → b.outer ≤ length c.inners
    → Passed (parts.Event ∷ parts.Bars ∷ more) (at c (fresh_bar b) (b0 ∷ bs) n) ts → EventPassed in_choose more n (behind_closed c (fresh_bar b) b0 bs n) c ts

-- events of at most so many tokens
record Within (k : ℕ) : Type 0 where
  by_itself : AloneWithin k
  after_part : InDoWithin k
  after_bar : InChooseWithin k

-- ---- an event and its closing brace

closed_is_in_do : (t : Term) (s : Names) (ts rest : List Token) → ClosedEvent s t ts rest → spells_event true in_do s t ts rest
closed_is_in_do (always e) s ts rest h = h
closed_is_in_do never s ts rest h = h
closed_is_in_do fresh s ts rest h = h
closed_is_in_do (throw e) s ts rest h = h
closed_is_in_do (send p e) s ts rest h = h
closed_is_in_do (recv p) s ts rest h = h
closed_is_in_do (and_then e n f) s ts rest h = inl h
closed_is_in_do (choose e f) s ts rest h = h
closed_is_in_do (catch e n f) s ts rest h = h
closed_is_in_do (when o p q e f) s ts rest h = h

closed_is_in_choose : (t : Term) (s : Names) (ts rest : List Token) → ClosedEvent s t ts rest → spells_event true in_choose s t ts rest
closed_is_in_choose (always e) s ts rest h = h
closed_is_in_choose never s ts rest h = h
closed_is_in_choose fresh s ts rest h = h
closed_is_in_choose (throw e) s ts rest h = h
closed_is_in_choose (send p e) s ts rest h = h
closed_is_in_choose (recv p) s ts rest h = h
closed_is_in_choose (and_then e n f) s ts rest h = h
closed_is_in_choose (choose e f) s ts rest h = inl h
closed_is_in_choose (catch e n f) s ts rest h = h
closed_is_in_choose (when o p q e f) s ts rest h = h

-- the names in scope behind one that is bound
scope_more : (c : Context) (x : List ℕ) (t : Term) → IsEvent (scope_in (with_inners c (c.inners ++ x ∷ []))) t → IsEvent (one_deeper (scope_in c)) t
scope_more c x t h =
    let long : length (c.inners ++ x ∷ []) ≡ suc (length c.inners) = omega (arith, length-append c.inners (x ∷ [])) in
    subst (λ (l : ℕ). IsEvent (record (scope_in c) { level = l }) t) long h

-- ---- events in braces

record BracedPassed (more : List Part) (c : Context) (b : Brace) (bs : List Brace) (n : Tally) (ts : List Token) : Type 0 where
  value : Term
  few : n.fresh ≤ 16 → n.fresh + fresh_count value ≤ 16
  rest : List Token
  spelled : in_braces (spells_event true alone (names_in c) value) ts rest
  scoped : IsEvent (scope_in c) value
  later : Passed more (at c (reaching (suc b.level + height value - 1) b) bs (tally_with_event n value)) rest
  shorter : length rest < length ts

braced_passed : (k : ℕ) → AloneWithin k → (c : Context) (b : Brace) (bs : List Brace) (n : Tally) (more : List Part) (ts : List Token) → length ts ≤ suc k → c.calculations ≡ 0
    → Passed (parts.Only roles.OpenBranch ∷ parts.Event ∷ parts.Only roles.Close ∷ more) (at c b bs n) ts → BracedPassed more c b bs n ts
braced_passed k a c b bs n more ts short none h =
    let i = opened_at (suc b.level) c in
    let first = took_sign signs.OpenBrace roles.OpenBranch (parts.Event ∷ parts.Only roles.Close ∷ more) (at c b bs n) ts (λ h d. refl) h in
    let e = a c i (b ∷ bs) n (parts.Only roles.Close ∷ more) first.rest (omega (arith, short, ap length first.is)) none first.later in
    let last = took_sign signs.CloseBrace roles.Close more (at c (reached i e.value) (b ∷ bs) (tally_with_event n e.value)) e.rest (λ h d. refl) e.later in
    record {
      value = e.value;
      few = e.few;
      rest = last.rest;
      spelled = (first.rest, first.is, (e.rest, e.spelled, last.is));
      scoped = e.scoped;
      later = sym (ap (λ x. run more (at (with_inners c x) (reaching (depth_within (reached i e.value)) b) bs (tally_with_event n e.value)) (spots_of last.rest)) (whole_taken c.inners)
          ∙ ap (λ x. run more x (spots_of last.rest)) (at_same c _ _ bs _ _ (reaching_same b _ _ (omega arith)) refl)) ∙ last.later;
      shorter = omega (arith, ap length first.is, e.shorter, ap length last.is);
    }

-- ---- parts of a `do`

record PartPassed (more : List Part) (c : Context) (b b0 : Brace) (bs : List Brace) (n : Tally) (ts : List Token) : Type 0 where
  first : Term
  second : Term
  few : n.fresh ≤ 16 → n.fresh + (fresh_count first + fresh_count second) ≤ 16
  rest : List Token
  spelled : PartAndMore (names_in c) first second ts rest
  scoped_first : IsEvent (scope_in c) first
  scoped_second : IsEvent (one_deeper (scope_in c)) second
  later : Passed more (behind_closed c b b0 bs n (and_then first (length c.inners) second)) rest
  shorter : length rest < length ts

part_passed : (k : ℕ) → Within k → (x : List ℕ) (c : Context) (b b0 : Brace) (bs : List Brace) (n : Tally)
    (more : List Part) (ts m : List Token) → length m ≤ k → length m < length ts → c.calculations ≡ 0
    → b.outer ≤ length c.inners → bound_name x ts m
    → first_broken (check (may_not_be_bound c x) causes.Shadow ∷ too_long x ∷ []) ≡ None
    → Passed (bound_event (parts.Parts ∷ more)) (at (record c { bound = x ∷ c.bound }) (behind_name b) (b0 ∷ bs)
    (one_node n)) m → PartPassed more c b b0 bs n ts
part_passed k w x c b b0 bs n more ts m short less none room named kept h =
    let inside = record c { bound = x ∷ c.bound } in
    let outside = with_inners c (c.inners ++ x ∷ []) in
    let b1 = behind_name b in
    let arrow = took_sign signs.Arrow (roles.Sign signs.Arrow) (parts.Event ∷ parts.Only roles.PartEnd ∷ parts.Parts ∷ more) (at inside b1 (b0 ∷ bs) (one_node n)) m (λ h d. refl) h in
    let e = w.by_itself inside b1 (b0 ∷ bs) (one_node n) (parts.Only roles.PartEnd ∷ parts.Parts ∷ more) arrow.rest (omega (arith, short, ap length arrow.is)) none arrow.later in
    let b2 = reached b1 e.value in
    let last = took_sign signs.Semicolon roles.PartEnd (parts.Parts ∷ more) (at inside b2 (b0 ∷ bs) (tally_with_event (one_node n) e.value)) e.rest (λ h d. refl) e.later in
    let f = w.after_part outside b2 b0 bs (tally_with_event (one_node n) e.value) more last.rest
    (omega (arith, short, ap length arrow.is, e.shorter, ap length last.is)) none
    (omega (arith, room, length-append c.inners (x ∷ []))) last.later in
    record {
      first = e.value;
      second = f.value;
      few = λ h. omega (arith, f.few (e.few h));
      rest = f.rest;
      spelled = (x, (free_name c x kept, (m, named, (arrow.rest, arrow.is, (e.rest, e.spelled, (last.rest, last.is, f.spelled))))));
      scoped_first = e.scoped;
      scoped_second = scope_more c x f.value f.scoped;
      later = sym (ap (λ y. run more (at (with_inners c y) (reaching (depth_within (reached b2 f.value)) b0) bs
          (tally_with_event (tally_with_event (one_node n) e.value) f.value)) (spots_of f.rest))
          (take_front b.outer c.inners (x ∷ []) room)
          ∙ ap (λ y. run more y (spots_of f.rest))
          (at_same (cut b c) _ _ bs _ _ (reaching_same b0 _ _
          (ap (λ k. max b0.deepest (max b.settled k)) (deeper b.deepest b.level (height e.value) (height f.value)
          (some_height e.value) (some_height f.value)))) (tally_same _ _ (omega arith) (omega arith)))) ∙ f.later;
      shorter = omega (arith, less, ap length arrow.is, e.shorter, ap length last.is, f.shorter);
    }

-- the first part of a `do`, behind its brace
first_part : (k : ℕ) → Within k → (c : Context) (b b0 : Brace) (bs : List Brace) (n : Tally) (more : List Part) (ts : List Token) → length ts ≤ k → c.calculations ≡ 0 → b.outer ≤ length c.inners
    → Passed (parts.Only roles.PartName ∷ bound_event (parts.Parts ∷ more)) (at c b (b0 ∷ bs) n) ts → PartPassed more c b b0 bs n ts
unfolding run pick pick_plain
first_part k w c b b0 bs n more [] short none room h = absurd cc
first_part k w c b b0 bs n more (tokens.name x ∷ ts) short none room h =
    let u = went roles.PartName [] (bound_event (parts.Parts ∷ more)) (at c b (b0 ∷ bs) n) (tokens.name x) ts (dotted ts) h in
    part_passed k w x c b b0 bs n more (tokens.name x ∷ ts) ts (omega (arith, short)) (omega arith) none room (inl refl) u.0 u.1
first_part k w c b b0 bs n more (tokens.inner x ∷ ts) short none room h =
    let u = went roles.PartName [] (bound_event (parts.Parts ∷ more)) (at c b (b0 ∷ bs) n) (tokens.inner x) ts (dotted ts) h in
    part_passed k w x c b b0 bs n more (tokens.inner x ∷ ts) ts (omega (arith, short)) (omega arith) none room (inr refl) u.0 u.1
first_part k w c b b0 bs n more (t ∷ ts) short none room h = absurd cc

-- ---- events of a `choose`

record ChoicePassed (more : List Part) (c : Context) (b b0 : Brace) (bs : List Brace) (n : Tally) (ts : List Token) : Type 0 where
  first : Term
  second : Term
  few : n.fresh ≤ 16 → n.fresh + (fresh_count first + fresh_count second) ≤ 16
  rest : List Token
  spelled : EventAndMore (names_in c) first second ts rest
  scoped_first : IsEvent (scope_in c) first
  scoped_second : IsEvent (scope_in c) second
  later : Passed more (behind_closed c (fresh_bar b) b0 bs n (choose first second)) rest
  shorter : length rest < length ts

choice_passed : (k : ℕ) → Within k → (c : Context) (b b0 : Brace) (bs : List Brace) (n : Tally) (more tail : List Part)
    (ts m : List Token) → length m ≤ k → c.calculations ≡ 0 → b.outer ≤ length c.inners
    → (e : EventPassed alone tail n (behind_alone c (fresh_bar b) (b0 ∷ bs) n) c ts) → e.rest ≡ sign signs.Bar ∷ m
    → Passed (parts.Event ∷ parts.Bars ∷ more) (at c (behind_bar (reached (fresh_bar b) e.value)) (b0 ∷ bs) (one_node (tally_with_event n e.value))) m → ChoicePassed more c b b0 bs n ts
choice_passed k w c b b0 bs n more tail ts m short none room e is h =
    let b2 = behind_bar (reached (fresh_bar b) e.value) in
    let f = w.after_bar c b2 b0 bs (one_node (tally_with_event n e.value)) more m short none room h in
    record {
      first = e.value;
      second = f.value;
      few = λ h. omega (arith, f.few (e.few h));
      rest = f.rest;
      spelled = (e.rest, e.spelled, (m, is, f.spelled));
      scoped_first = e.scoped;
      scoped_second = f.scoped;
      later = sym (ap (λ y. run more y (spots_of f.rest))
          (at_same (cut b c) _ _ bs _ _ (reaching_same b0 _ _
          (ap (λ x. max b0.deepest x) (settled_deeper b.settled b.level (height e.value) (height f.value)
          (some_height e.value) (some_height f.value)))) (tally_same _ _ (omega arith) (omega arith)))) ∙ f.later;
      shorter = omega (arith, e.shorter, ap length is, f.shorter);
    }

-- ---- the event of a `catch`

record CatchPassed (more : List Part) (c : Context) (b : Brace) (bs : List Brace) (n : Tally) (ts : List Token) : Type 0 where
  name : List ℕ
  value : Term
  few : n.fresh ≤ 16 → n.fresh + fresh_count value ≤ 16
  rest : List Token
  free : IsFreeName (names_in c) name
  spelled : (bound_name name ⨟ in_braces (spells_event true alone (with_inner (names_in c) name) value)) ts rest
  scoped : IsEvent (one_deeper (scope_in c)) value
  later : Passed more (at c (reaching (suc b.level + height value - 1) b) bs (tally_with_event n value)) rest
  shorter : length rest < length ts

caught : (k : ℕ) → AloneWithin k → (x : List ℕ) (c : Context) (b : Brace) (bs : List Brace) (n : Tally)
    (more : List Part) (ts m : List Token) → length m ≤ k → length m < length ts → c.calculations ≡ 0
    → bound_name x ts m → IsFreeName (names_in c) x
    → Passed (parts.Only (roles.Sign signs.OpenBrace) ∷ parts.Event ∷ parts.Only roles.Close ∷ more)
    (at (with_inners c (c.inners ++ x ∷ [])) (opened_at (suc b.level) c) (b ∷ bs) n) m → CatchPassed more c b bs n ts
caught k a x c b bs n more ts m short less none named free h =
    let i = opened_at (suc b.level) c in
    let inside = with_inners c (c.inners ++ x ∷ []) in
    let first = took_sign signs.OpenBrace (roles.Sign signs.OpenBrace) (parts.Event ∷ parts.Only roles.Close ∷ more) (at inside i (b ∷ bs) n) m (λ h d. refl) h in
    let e = a inside i (b ∷ bs) n (parts.Only roles.Close ∷ more) first.rest (omega (arith, short, ap length first.is)) none first.later in
    let last = took_sign signs.CloseBrace roles.Close more (at inside (reached i e.value) (b ∷ bs) (tally_with_event n e.value)) e.rest (λ h d. refl) e.later in
    record {
      name = x;
      value = e.value;
      few = e.few;
      rest = last.rest;
      free = free;
      spelled = (m, named, (first.rest, first.is, (e.rest, e.spelled, last.is)));
      scoped = scope_more c x e.value e.scoped;
      later = sym (ap (λ y. run more (at (with_inners c y) (reaching (depth_within (reached i e.value)) b) bs
          (tally_with_event n e.value)) (spots_of last.rest)) (take_front (length c.inners) c.inners (x ∷ [])
          (omega arith) ∙ whole_taken c.inners)
          ∙ ap (λ y. run more y (spots_of last.rest)) (at_same c _ _ bs _ _ (reaching_same b _ _ (omega arith)) refl)) ∙ last.later;
      shorter = omega (arith, less, ap length first.is, e.shorter, ap length last.is);
    }

catch_passed : (k : ℕ) → AloneWithin k → (c : Context) (b : Brace) (bs : List Brace) (n : Tally) (more : List Part) (ts : List Token) → length ts ≤ suc k → c.calculations ≡ 0
    → Passed (parts.Only roles.CatchName ∷ parts.Only (roles.Sign signs.OpenBrace) ∷ parts.Event ∷ parts.Only roles.Close ∷ more) (at c b bs n) ts → CatchPassed more c b bs n ts
unfolding run pick pick_plain
catch_passed k a c b bs n more [] short none h = absurd cc
catch_passed k a c b bs n more (tokens.name x ∷ ts) short none h =
    let u = went roles.CatchName [] (parts.Only (roles.Sign signs.OpenBrace) ∷ parts.Event ∷ parts.Only roles.Close ∷ more) (at c b bs n) (tokens.name x) ts (dotted ts) h in
    caught k a x c b bs n more (tokens.name x ∷ ts) ts (omega (arith, short)) (omega arith) none (inl refl) (free_name (at c b bs n) x u.0) u.1
catch_passed k a c b bs n more (tokens.inner x ∷ ts) short none h =
    let u = went roles.CatchName [] (parts.Only (roles.Sign signs.OpenBrace) ∷ parts.Event ∷ parts.Only roles.Close ∷ more) (at c b bs n) (tokens.inner x) ts (dotted ts) h in
    caught k a x c b bs n more (tokens.inner x ∷ ts) ts (omega (arith, short)) (omega arith) none (inr refl) (free_name (at c b bs n) x u.0) u.1
catch_passed k a c b bs n more (t ∷ ts) short none h = absurd cc

-- ---- tests

test_passed : (more : List Part) (c : Context) (ts : List Token) → Passed (parts.Test ∷ more) c ts → (o : Test) × (rest : List Token) × (ts ≡ sign (test_sign o) ∷ rest) × Passed more c rest
unfolding run pick pick_plain
test_passed more c [] h = absurd cc
test_passed more c (sign signs.Equal ∷ ts) h = (tests.Equal, ts, refl, h)
test_passed more c (sign signs.Less ∷ ts) h = (tests.Less, ts, refl, h)
test_passed more c (t ∷ ts) h = absurd cc

-- ---- an event by itself

leaf_later : (c : Context) (b : Brace) (bs : List Brace) (n after : Tally) (h k m : ℕ) (more : List Part)
    (rest : List Token) → h ≡ 1 → after.nodes ≡ n.nodes + k → after.fresh ≡ n.fresh + m
    → Passed more (at c (reaching b.level b) bs after) rest
    → Passed more (at c (reaching (b.level + h - 1) b) bs (record { nodes = n.nodes + k; fresh = n.fresh + m })) rest
leaf_later c b bs n after h k m more rest e f g p = sym (ap (λ x. run more x (spots_of rest)) (at_same c _ _ bs _ _ (ap (λ d. reaching d b) (omega (arith, e))) (tally_same _ _ f g))) ∙ p

alone_step : (k : ℕ) → Within k → AloneWithin (suc k)
unfolding run pick pick_plain
alone_step k w c b bs n more [] short none h = absurd cc
alone_step k w c b bs n more (word words.Always ∷ ts) short none h =
    let d = at c (reaching b.level b) bs (one_node n) in
    let u = went (roles.Leaf words.Always) (parts.Expression ∷ []) more (at c b bs n) (word words.Always) ts (dotted ts) h in
    let e = expression_passed more d ts none u.1 in
    record {
      value = always e.value;
      few = λ h. omega (arith, h);
      rest = e.rest;
      spelled = (ts, refl, e.spelled);
      scoped = e.scoped;
      later = leaf_later c b bs n (one_node n) 1 1 0 more e.rest refl (omega arith)
          (omega arith) e.later;
      shorter = omega (arith, e.shorter);
    }
alone_step k w c b bs n more (word words.Never ∷ ts) short none h =
    let u = went (roles.Leaf words.Never) [] more (at c b bs n) (word words.Never) ts (dotted ts) h in
    record {
      value = never;
      few = λ h. omega (arith, h);
      rest = ts;
      spelled = refl;
      scoped = tt;
      later =
          leaf_later c b bs n (one_node n) 1 1 0 more ts refl (omega arith) (omega arith) u.1;
      shorter = omega arith;
    }
alone_step k w c b bs n more (word words.Fresh ∷ ts) short none h =
    let u = went roles.Fresh [] more (at c b bs n) (word words.Fresh) ts (dotted ts) h in
    let a = kept_first (nat_lt 32 (length (b ∷ bs))) (causes.Limit limits.Depth) (check (nat_le 16 n.fresh) (causes.Limit limits.Fresh) ∷ []) u.0 in
    let d = kept_first (nat_le 16 n.fresh) (causes.Limit limits.Fresh) [] a.1 in
    let room : n.fresh < 16 = grind (arith, nat_tests, d.0) in
    record {
      value = fresh;
      few = λ h. omega (arith, room);
      rest = ts;
      spelled = refl;
      scoped = tt;
      later =
          leaf_later c b bs n (one_channel n) 1 1 1 more ts refl (omega arith) (omega arith) u.1;
      shorter = omega arith;
    }
alone_step k w c b bs n more (word words.Throw ∷ ts) short none h =
    let d = at c (reaching b.level b) bs (one_node n) in
    let u = went (roles.Leaf words.Throw) (parts.Expression ∷ []) more (at c b bs n) (word words.Throw) ts (dotted ts) h in
    let e = expression_passed more d ts none u.1 in
    record {
      value = throw e.value;
      few = λ h. omega (arith, h);
      rest = e.rest;
      spelled = (ts, refl, e.spelled);
      scoped = e.scoped;
      later = leaf_later c b bs n (one_node n) 1 1 0 more e.rest refl (omega arith)
          (omega arith) e.later;
      shorter = omega (arith, e.shorter);
    }
alone_step k w c b bs n more (word words.Send ∷ ts) short none h =
    let d = at c (reaching b.level b) bs (one_node n) in
    let u = went (roles.Leaf words.Send) (parts.Operand ∷ parts.Expression ∷ []) more (at c b bs n) (word words.Send) ts (dotted ts) h in
    let p = operand_passed (parts.Expression ∷ more) d ts u.1 in
    let e = expression_passed more d p.rest none p.later in
    record {
      value = send p.value e.value;
      few = λ h. omega (arith, h);
      rest = e.rest;
      spelled = (ts, refl, (p.rest, p.spelled, e.spelled));
      scoped = (p.scoped, e.scoped);
      later = leaf_later c b bs n (one_node n) 1 1 0 more e.rest refl (omega arith) (omega arith) e.later;
      shorter = omega (arith, p.shorter, e.shorter);
    }
alone_step k w c b bs n more (word words.Recv ∷ ts) short none h =
    let d = at c (reaching b.level b) bs (one_node n) in
    let u = went (roles.Leaf words.Recv) (parts.Operand ∷ []) more (at c b bs n) (word words.Recv) ts (dotted ts) h in
    let p = operand_passed more d ts u.1 in
    record {
      value = recv p.value;
      few = λ h. omega (arith, h);
      rest = p.rest;
      spelled = (ts, refl, p.spelled);
      scoped =
          p.scoped;
      later = leaf_later c b bs n (one_node n) 1 1 0 more p.rest refl (omega arith) (omega arith) p.later;
      shorter = omega (arith, p.shorter);
    }
alone_step k w c b bs n more (word words.Do ∷ ts) short none h =
    let i = opened_at b.level c in
    let u = went (roles.Chain words.Do) (parts.Only roles.OpenChain ∷ parts.Only roles.PartName ∷ bound_event (parts.Parts ∷ [])) more (at c b bs n) (word words.Do) ts (dotted ts) h in
    let first = took_sign signs.OpenBrace roles.OpenChain (parts.Only roles.PartName ∷ bound_event (parts.Parts ∷ more)) (at c b bs n) ts (λ h d. refl) u.1 in
    let p = first_part k w c i b bs n more first.rest (omega (arith, short, ap length first.is)) none (omega arith) first.later in
    let t = and_then p.first (length c.inners) p.second in
    record {
      value = t;
      few = λ h. omega (arith, p.few h);
      rest = p.rest;
      spelled = (ts, refl, (first.rest, first.is, p.spelled));
      scoped = (refl, p.scoped_first, p.scoped_second);
      later = sym (ap (λ y. run more (at (with_inners c y) (reaching (depth_within (reached i t)) b) bs (tally_with_event n t)) (spots_of p.rest)) (whole_taken c.inners)
          ∙ ap (λ y. run more y (spots_of p.rest)) (at_same c _ _ bs _ _ (reaching_same b _ _ (omega arith)) refl)) ∙ p.later;
      shorter = omega (arith, ap length first.is, p.shorter);
    }
alone_step k w c b bs n more (word words.Choose ∷ ts) short none h =
    let i = opened_at b.level c in
    let u = went (roles.Chain words.Choose) (parts.Only roles.OpenChain ∷ parts.Event ∷ parts.Only roles.Bar ∷ parts.Event ∷ parts.Bars ∷ []) more (at c b bs n) (word words.Choose) ts (dotted ts) h in
    let first = took_sign signs.OpenBrace roles.OpenChain (parts.Event ∷ parts.Only roles.Bar ∷ parts.Event ∷ parts.Bars ∷ more) (at c b bs n) ts (λ h d. refl) u.1 in
    let e = w.by_itself c i (b ∷ bs) n (parts.Only roles.Bar ∷ parts.Event ∷ parts.Bars ∷ more) first.rest (omega (arith, short, ap length first.is)) none first.later in
    let bar = took_sign signs.Bar roles.Bar (parts.Event ∷ parts.Bars ∷ more) (at c (reached i e.value) (b ∷ bs) (tally_with_event n e.value)) e.rest (λ h d. refl) e.later in
    let p = choice_passed k w c i b bs n more (parts.Only roles.Bar ∷ parts.Event ∷ parts.Bars ∷ more) first.rest
    bar.rest (omega (arith, short, ap length first.is, e.shorter, ap length bar.is)) none
    (omega arith) e bar.is bar.later in
    let t = choose p.first p.second in
    record {
      value = t;
      few = λ h. omega (arith, p.few h);
      rest = p.rest;
      spelled = (ts, refl, (first.rest, first.is, p.spelled));
      scoped = (p.scoped_first, p.scoped_second);
      later = sym (ap (λ y. run more (at (with_inners c y) (reaching (depth_within (reached i t)) b) bs (tally_with_event n t)) (spots_of p.rest)) (whole_taken c.inners)
          ∙ ap (λ y. run more y (spots_of p.rest)) (at_same c _ _ bs _ _ (reaching_same b _ _ (omega arith)) refl)) ∙ p.later;
      shorter = omega (arith, ap length first.is, p.shorter);
    }
alone_step k w c b bs n more (word words.Try ∷ ts) short none h =
    let handler = parts.Only roles.CatchName ∷ parts.Only (roles.Sign signs.OpenBrace) ∷ parts.Event ∷ parts.Only roles.Close ∷ more in
    let u = went (roles.Branch words.Try)
    (parts.Only roles.OpenBranch ∷ parts.Event ∷ parts.Only roles.Close ∷ parts.Only (roles.Word words.Catch)
    ∷ parts.Only roles.CatchName ∷ parts.Only (roles.Sign signs.OpenBrace) ∷ parts.Event ∷ parts.Only roles.Close ∷ []) more (at c b bs n) (word words.Try) ts (dotted ts) h in
    let e = braced_passed k w.by_itself c b bs (one_node n) (parts.Only (roles.Word words.Catch) ∷ handler) ts (omega (arith, short)) none u.1 in
    let b1 = reaching (suc b.level + height e.value - 1) b in
    let m = took_word words.Catch (roles.Word words.Catch) handler (at c b1 bs (tally_with_event (one_node n) e.value)) e.rest (λ h d. refl) e.later in
    let f = catch_passed k w.by_itself c b1 bs (tally_with_event (one_node n) e.value) more m.rest (omega (arith, short, e.shorter, ap length m.is)) none m.later in
    record {
      value = catch e.value (length c.inners) f.value;
      few = λ h. omega (arith, f.few (e.few h));
      rest = f.rest;
      spelled = (ts, refl, (e.rest, e.spelled, (m.rest, m.is, (f.name, (f.free, f.spelled)))));
      scoped = (refl, e.scoped, f.scoped);
      later = sym (ap (λ y. run more y (spots_of f.rest))
          (at_same c _ _ bs _ _ (ap (λ x. record b { deepest = x })
          (deeper b.deepest b.level (height e.value) (height f.value) (some_height e.value) (some_height f.value)))
          (tally_same _ _ (omega arith) (omega arith)))) ∙ f.later;
      shorter = omega (arith, e.shorter, ap length m.is, f.shorter);
    }
alone_step k w c b bs n more (word words.If ∷ ts) short none h =
    let here = at c b bs (one_node n) in
    let second = parts.Only roles.OpenBranch ∷ parts.Event ∷ parts.Only roles.Close ∷ more in
    let both = parts.Only roles.OpenBranch ∷ parts.Event ∷ parts.Only roles.Close ∷ parts.Only (roles.Word words.Else) ∷ second in
    let u = went (roles.Branch words.If)
    (parts.Operand ∷ parts.Test ∷ parts.Operand ∷ parts.Only roles.OpenBranch ∷ parts.Event ∷ parts.Only roles.Close
    ∷ parts.Only (roles.Word words.Else) ∷ parts.Only roles.OpenBranch ∷ parts.Event ∷ parts.Only roles.Close ∷ []) more (at c b bs n) (word words.If) ts (dotted ts) h in
    let p = operand_passed (parts.Test ∷ parts.Operand ∷ both) here ts u.1 in
    let o = test_passed (parts.Operand ∷ both) here p.rest p.later in
    let q = operand_passed both here o.1 o.3 in
    let long = ap length o.2 in
    let e = braced_passed k w.by_itself c b bs (one_node n) (parts.Only (roles.Word words.Else) ∷ second) q.rest (omega (arith, short, p.shorter, long, q.shorter)) none q.later in
    let b1 = reaching (suc b.level + height e.value - 1) b in
    let m = took_word words.Else (roles.Word words.Else) second (at c b1 bs (tally_with_event (one_node n) e.value)) e.rest (λ h d. refl) e.later in
    let f = braced_passed k w.by_itself c b1 bs (tally_with_event (one_node n) e.value) more m.rest (omega (arith, short, p.shorter, long, q.shorter, e.shorter, ap length m.is)) none m.later in
    record {
      value = when o.0 p.value q.value e.value f.value;
      few = λ h. omega (arith, f.few (e.few h));
      rest = f.rest;
      spelled = (ts, refl, (p.rest, p.spelled, (o.1, o.2, (q.rest, q.spelled, (e.rest, e.spelled, (m.rest, m.is, f.spelled))))));
      scoped = (p.scoped, q.scoped, e.scoped, f.scoped);
      later = sym (ap (λ y. run more y (spots_of f.rest))
          (at_same c _ _ bs _ _ (ap (λ x. record b { deepest = x })
          (deeper b.deepest b.level (height e.value) (height f.value) (some_height e.value) (some_height f.value)))
          (tally_same _ _ (omega arith) (omega arith)))) ∙ f.later;
      shorter = omega (arith, p.shorter, long, q.shorter, e.shorter, ap length m.is, f.shorter);
    }
alone_step k w c b bs n more (t ∷ ts) short none h = absurd cc

-- ---- an event wherever it stands

in_do_step : (k : ℕ) → Within k → AloneWithin (suc k) → InDoWithin (suc k)
unfolding run pick pick_plain
in_do_step k w a c b b0 bs n more [] short none room h = absurd cc
in_do_step k w a c b b0 bs n more (tokens.name x ∷ ts) short none room h =
    let u = went roles.PartName (bound_event (parts.Parts ∷ [])) more (at c b (b0 ∷ bs) n) (tokens.name x) ts (dotted ts) h in
    let p = part_passed k w x c b b0 bs n more (tokens.name x ∷ ts) ts (omega (arith, short)) (omega arith) none room (inl refl) u.0 u.1 in
    record {
      value = and_then p.first (length c.inners) p.second;
      few = λ h. omega (arith, p.few h);
      rest = p.rest;
      spelled = inr p.spelled;
      scoped = (refl, p.scoped_first, p.scoped_second);
      later = p.later;
      shorter = p.shorter;
    }
in_do_step k w a c b b0 bs n more (tokens.inner x ∷ ts) short none room h =
    let u = went roles.PartName (bound_event (parts.Parts ∷ [])) more (at c b (b0 ∷ bs) n) (tokens.inner x) ts (dotted ts) h in
    let p = part_passed k w x c b b0 bs n more (tokens.inner x ∷ ts) ts (omega (arith, short)) (omega arith) none room (inr refl) u.0 u.1 in
    record {
      value = and_then p.first (length c.inners) p.second;
      few = λ h. omega (arith, p.few h);
      rest = p.rest;
      spelled = inr p.spelled;
      scoped = (refl, p.scoped_first, p.scoped_second);
      later = p.later;
      shorter = p.shorter;
    }
in_do_step k w a c b b0 bs n more (word v ∷ ts) short none room h =
    let e = a c b (b0 ∷ bs) n (parts.Only roles.Close ∷ more) (word v ∷ ts) short none (sym (parts_as_event (at c b (b0 ∷ bs) n) more v (word v ∷ ts) ts refl) ∙ h) in
    let last = took_sign signs.CloseBrace roles.Close more (at c (reached b e.value) (b0 ∷ bs) (tally_with_event n e.value)) e.rest (λ h d. refl) e.later in
    record {
      value = e.value;
      few = e.few;
      rest = last.rest;
      spelled = closed_is_in_do e.value (names_in c) (word v ∷ ts) last.rest (e.rest, e.spelled, last.is);
      scoped = e.scoped;
      later = last.later;
      shorter = omega (arith, e.shorter, ap length last.is);
    }
in_do_step k w a c b b0 bs n more (tokens.integer x ∷ ts) short none room h = absurd cc
in_do_step k w a c b b0 bs n more (sign g ∷ ts) short none room h = absurd cc

-- behind the event of a `choose`
after_it : (k : ℕ) → Within k → (c : Context) (b b0 : Brace) (bs : List Brace) (n : Tally) (more : List Part) (ts : List Token) → length ts ≤ suc k → c.calculations ≡ 0 → b.outer ≤ length c.inners
    → (e : EventPassed alone (parts.Bars ∷ more) n (behind_alone c (fresh_bar b) (b0 ∷ bs) n) c ts) (m : List Token)
    → e.rest ≡ m → Passed (parts.Bars ∷ more) (behind_alone c (fresh_bar b) (b0 ∷ bs) n e.value) m
    → EventPassed in_choose more n (behind_closed c (fresh_bar b) b0 bs n) c ts
unfolding run pick pick_plain
after_it k w c b b0 bs n more ts short none room e [] is h = absurd cc
after_it k w c b b0 bs n more ts short none room e (sign signs.Bar ∷ m) is h =
    let d = behind_alone c (fresh_bar b) (b0 ∷ bs) n e.value in
    let u = went roles.Bar (parts.Event ∷ parts.Bars ∷ []) more d (sign signs.Bar) m (dotted m) h in
    let p = choice_passed k w c b b0 bs n more (parts.Bars ∷ more) ts m (omega (arith, short, e.shorter, ap length is)) none room e is u.1 in
    record {
      value = choose p.first p.second;
      few = λ h. omega (arith, p.few h);
      rest = p.rest;
      spelled = inr p.spelled;
      scoped = (p.scoped_first, p.scoped_second);
      later = p.later;
      shorter = p.shorter;
    }
after_it k w c b b0 bs n more ts short none room e (sign signs.CloseBrace ∷ m) is h =
    let d = behind_alone c (fresh_bar b) (b0 ∷ bs) n e.value in
    let u = went roles.Close [] more d (sign signs.CloseBrace) m (dotted m) h in
    record {
      value = e.value;
      few = e.few;
      rest = m;
      spelled = closed_is_in_choose e.value (names_in c) ts m (e.rest, e.spelled, is);
      scoped = e.scoped;
      later = u.1;
      shorter = omega (arith, e.shorter, ap length is);
    }
after_it k w c b b0 bs n more ts short none room e (t ∷ m) is h = absurd cc

-- no event has no token
none_alone : (c : Context) (b : Brace) (bs : List Brace) (n : Tally) (more : List Part) (ts : List Token) → length ts ≤ 0 → Passed (parts.Event ∷ more) (at c b bs n) ts → ⊥
unfolding run pick pick_plain
none_alone c b bs n more [] short h = cc
none_alone c b bs n more (t ∷ ts) short h = omega (arith, short)

none_parts : (c : Context) (b b0 : Brace) (bs : List Brace) (n : Tally) (more : List Part) (ts : List Token) → length ts ≤ 0 → Passed (parts.Parts ∷ more) (at c b (b0 ∷ bs) n) ts → ⊥
unfolding run pick pick_plain
none_parts c b b0 bs n more [] short h = cc
none_parts c b b0 bs n more (t ∷ ts) short h = omega (arith, short)

in_choose_step : (k : ℕ) → Within k → AloneWithin (suc k) → InChooseWithin (suc k)
in_choose_step k w a c b b0 bs n more ts short none room h =
    let e = a c (fresh_bar b) (b0 ∷ bs) n (parts.Bars ∷ more) ts short none h in
    after_it k w c b b0 bs n more ts short none room e e.rest refl e.later

events : (k : ℕ) → Within k
unfolding run pick pick_plain
events zero = record {
  by_itself = λ c b bs n more ts short none h. absurd (none_alone c b bs n more ts short h);
  after_part = λ c b b0 bs n more ts short none room h. absurd (none_parts c b b0 bs n more ts short h);
  after_bar = λ c b b0 bs n more ts short none room h. absurd (none_alone c (fresh_bar b) (b0 ∷ bs) n (parts.Bars ∷ more) ts short h);
}
events (suc k) =
    let w = events k in
    let a = alone_step k w in
    record { by_itself = a; after_part = in_do_step k w a; after_bar = in_choose_step k w a }

pub event_passed : (c : Context) (b : Brace) (bs : List Brace) (n : Tally) (more : List Part) (ts : List Token)
    → c.calculations ≡ 0 → Passed (parts.Event ∷ more) (at c b bs n) ts
    → EventPassed alone more n (behind_alone c b bs n) c ts
event_passed c b bs n more ts none h = (events (length ts)).by_itself c b bs n more ts (omega arith) none h
