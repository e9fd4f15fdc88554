-- What was read of an event is spelled by the tokens, has its names in scope, and keeps the limits.
use Rattle.std.proofs.Common.{◌≡◌, ℕ, zero, suc, ◌+◌, ◌≤◌, inl, inr, Bool, true, false, List, [], ◌∷◌, ◌++◌, length, refl, sym, ◌∙◌, subst, arith, length-append}
use Rattle.std.specs.Prelude.{Option, Some, None, nat_le, ◌&&◌}
use Rattle.std.proofs.lemmas.Bool.Decides.{nat_tests}
use Rattle.te_terms.specs.declared.expr.Test.{Test}
use Rattle.te_terms.specs.declared.expr.Test.TheVariants as tests
use Rattle.te_terms.specs.Expressions.{Primitive}
use Rattle.te_terms.specs.Terms.{Term, always, never, fresh, throw, send, recv, and_then, choose, catch, when}
use Rattle.te_terms.specs.Measures.{height, node_count, fresh_count}
use Rattle.te_script.specs.Scripts.{Scope, IsPrimitive, IsEvent, one_deeper}
use Rattle.te_reader.specs.declared.token.Word.TheVariants as words
use Rattle.te_reader.specs.declared.token.Sign.TheVariants as signs
use Rattle.te_reader.specs.Tokens.{Token, word, sign}
use Rattle.te_reader.specs.Heads.{word_first, sign_first, bound_first}
use Rattle.te_reader.specs.Grammar.{Names, is, ◌⨟◌, bound_name, with_inner, IsFreeName, EventPlace, alone, in_do, in_choose, in_braces, test_sign, spells_primitive, spells_event}
use Rattle.te_reader.specs.NameReads.{Read, checked, bound_in}
use Rattle.te_reader.specs.ExpressionReads.{read_primitive, read_expression}
use Rattle.te_reader.specs.Tallies.{Tally, HasRoom, tally_with_event}
use Rattle.te_reader.specs.EventReads.{or_recv, or_fresh, or_throw, or_never, or_send, or_always, read_leaf, is_within}
use Rattle.te_reader.specs.EventReads.{made, Parts, read_braced, read_part, read_do, read_second, read_choose, read_try}
use Rattle.te_reader.specs.EventReads.{or_less, or_equal, test_first, read_condition, read_if, read_one, if_or_one}
use Rattle.te_reader.specs.EventReads.{try_or_other, choose_or_other, do_or_other, read_alone, part_or_last, read_in_do}
use Rattle.te_reader.specs.EventReads.{bar_or_end, read_in_choose, read_standing, read_event}
use Rattle.te_reader.proofs.NameLemmas.{bind_some, checked_some, bound_is}
use Rattle.te_reader.proofs.HeadLemmas.{carried, word_is, sign_is, bound_name_is}
use Rattle.te_reader.proofs.ReadIsSpelled.{scope_of, primitive_read, expression_read}
use Rattle.te_terms.proofs.Lists.{both_true}

-- ---- limits

pub made_some : (used : Tally) (t u : Term) (ts rest : List Token) → made used t ts ≡ Some (u, rest) → (◌≡◌ {A = Read Term} (Some (t, ts)) (Some (u, rest))) × HasRoom used t × (height t ≤ 32)
unfolding made
made_some used t u ts rest e =
    let a = bind_some (checked (is_within used t)) (λ _. Some (t, ts)) (u, rest) e in
    let fits = checked_some _ _ a.1 in
    let one = both_true (nat_le (used.nodes + node_count t) 4096 && nat_le (used.fresh + fresh_count t) 16) (nat_le (height t) 32) fits in
    let two = both_true (nat_le (used.nodes + node_count t) 4096) (nat_le (used.fresh + fresh_count t) 16) one.0 in
    (a.2, (grind (arith, nat_tests, two.0), grind (arith, nat_tests, two.1)), grind (arith, nat_tests, one.1))

-- ---- an event by itself, and the closing brace

closed_in_do : (s : Names) (t : Term) (ts middle rest : List Token) → spells_event true alone s t ts middle → middle ≡ sign signs.CloseBrace ∷ rest → spells_event true in_do s t ts rest
closed_in_do s (always e) ts middle rest h close = (middle, h, close)
closed_in_do s never ts middle rest h close = (middle, h, close)
closed_in_do s fresh ts middle rest h close = (middle, h, close)
closed_in_do s (throw e) ts middle rest h close = (middle, h, close)
closed_in_do s (send p e) ts middle rest h close = (middle, h, close)
closed_in_do s (recv p) ts middle rest h close = (middle, h, close)
closed_in_do s (and_then e n f) ts middle rest h close = inl (middle, h, close)
closed_in_do s (choose e f) ts middle rest h close = (middle, h, close)
closed_in_do s (catch e n f) ts middle rest h close = (middle, h, close)
closed_in_do s (when test p q e f) ts middle rest h close = (middle, h, close)

closed_in_choose : (s : Names) (t : Term) (ts middle rest : List Token) → spells_event true alone s t ts middle → middle ≡ sign signs.CloseBrace ∷ rest → spells_event true in_choose s t ts rest
closed_in_choose s (always e) ts middle rest h close = (middle, h, close)
closed_in_choose s never ts middle rest h close = (middle, h, close)
closed_in_choose s fresh ts middle rest h close = (middle, h, close)
closed_in_choose s (throw e) ts middle rest h close = (middle, h, close)
closed_in_choose s (send p e) ts middle rest h close = (middle, h, close)
closed_in_choose s (recv p) ts middle rest h close = (middle, h, close)
closed_in_choose s (and_then e n f) ts middle rest h close = (middle, h, close)
closed_in_choose s (choose e f) ts middle rest h close = inl (middle, h, close)
closed_in_choose s (catch e n f) ts middle rest h close = (middle, h, close)
closed_in_choose s (when test p q e f) ts middle rest h close = (middle, h, close)

test_read : (o : Test) (ts rest : List Token) → test_first ts ≡ Some (o, rest) → ts ≡ sign (test_sign o) ∷ rest
unfolding test_first
test_read o ts rest e = by (sign_first signs.Equal ts) refl e where
  by_less : (r : Option (List Token)) → sign_first signs.Less ts ≡ r → or_less ts r ≡ Some (o, rest) → ts ≡ sign (test_sign o) ∷ rest
  by_less (Some last) f e = carried (λ x l. ts ≡ sign (test_sign x) ∷ l) tests.Less o last rest e (sign_is signs.Less ts last f)
  by_less None f e = absurd cc

  by : (r : Option (List Token)) → sign_first signs.Equal ts ≡ r → or_equal ts r ≡ Some (o, rest) → ts ≡ sign (test_sign o) ∷ rest
  by (Some last) f e = carried (λ x l. ts ≡ sign (test_sign x) ∷ l) tests.Equal o last rest e (sign_is signs.Equal ts last f)
  by None f e = by_less (sign_first signs.Less ts) refl e

-- the scope with one more inner name
pub inner_scope : (m : ℕ) (s : Names) (n : List ℕ) → scope_of m (with_inner s n) ≡ one_deeper (scope_of m s)
inner_scope m s n = let long : length (s.inners ++ n ∷ []) ≡ suc (length s.inners) = length-append s.inners (n ∷ []) ∙ omega arith in rw long refl

module _ (m : ℕ) where
  -- an event that was read
  pub record ReadEvent (at : EventPlace) (s : Names) (used : Tally) (t : Term) (ts rest : List Token) : Type 0 where
    pub spelled : spells_event true at s t ts rest
    pub scoped : IsEvent (scope_of m s) t
    pub few : HasRoom used t
    pub low : height t ≤ 32

  -- ---- events of one node

  -- an event of one node that was read
  record ReadLeaf (s : Names) (t : Term) (ts rest : List Token) : Type 0 where
    spelled : spells_event true alone s t ts rest
    scoped : IsEvent (scope_of m s) t

  leaf_read : (s : Names) (t : Term) (ts rest : List Token) → length s.channels ≤ m → read_leaf s ts ≡ Some (t, rest) → ReadLeaf s t ts rest
  unfolding read_leaf
  leaf_read s t ts rest many e = by_always (word_first words.Always ts) refl e where
    by_recv : (o : Option (List Token)) → word_first words.Recv ts ≡ o → or_recv s ts o ≡ Some (t, rest) → ReadLeaf s t ts rest
    by_recv None f e = absurd cc
    by_recv (Some behind) f e =
        let a = bind_some (read_primitive s behind) _ _ e in
        let p = primitive_read m s many a.0.0 behind a.0.1 a.1 in
        carried (λ x last. ReadLeaf s x ts last) (recv a.0.0) t a.0.1 rest a.2 (record { spelled = (behind, word_is words.Recv ts behind f, p.spelled); scoped = p.scoped })

    by_fresh : (o : Option (List Token)) → word_first words.Fresh ts ≡ o → or_fresh s ts o ≡ Some (t, rest) → ReadLeaf s t ts rest
    by_fresh None f e = by_recv (word_first words.Recv ts) refl e
    by_fresh (Some behind) f e = carried (λ y last. ReadLeaf s y ts last) fresh t behind rest e (record { spelled = word_is words.Fresh ts behind f; scoped = tt })

    by_throw : (o : Option (List Token)) → word_first words.Throw ts ≡ o → or_throw s ts o ≡ Some (t, rest) → ReadLeaf s t ts rest
    by_throw None f e = by_fresh (word_first words.Fresh ts) refl e
    by_throw (Some behind) f e =
        let a = bind_some (read_expression s behind) _ _ e in
        let x = expression_read m s many a.0.0 behind a.0.1 a.1 in
        carried (λ y last. ReadLeaf s y ts last) (throw a.0.0) t a.0.1 rest a.2 (record { spelled = (behind, word_is words.Throw ts behind f, x.spelled); scoped = x.scoped })

    by_never : (o : Option (List Token)) → word_first words.Never ts ≡ o → or_never s ts o ≡ Some (t, rest) → ReadLeaf s t ts rest
    by_never None f e = by_throw (word_first words.Throw ts) refl e
    by_never (Some behind) f e = carried (λ y last. ReadLeaf s y ts last) never t behind rest e (record { spelled = word_is words.Never ts behind f; scoped = tt })

    by_send : (o : Option (List Token)) → word_first words.Send ts ≡ o → or_send s ts o ≡ Some (t, rest) → ReadLeaf s t ts rest
    by_send None f e = by_never (word_first words.Never ts) refl e
    by_send (Some behind) f e =
        let a = bind_some (read_primitive s behind) _ _ e in
        let b = bind_some (read_expression s a.0.1) _ _ a.2 in
        let p = primitive_read m s many a.0.0 behind a.0.1 a.1 in
        let x = expression_read m s many b.0.0 a.0.1 b.0.1 b.1 in
        carried (λ y last. ReadLeaf s y ts last) (send a.0.0 b.0.0) t b.0.1 rest b.2
        (record {
          spelled = (behind, word_is words.Send ts behind f, (a.0.1, p.spelled, x.spelled));
          scoped =
              (p.scoped, x.scoped);
        })

    by_always : (o : Option (List Token)) → word_first words.Always ts ≡ o → or_always s ts o ≡ Some (t, rest) → ReadLeaf s t ts rest
    by_always None f e = by_send (word_first words.Send ts) refl e
    by_always (Some behind) f e =
        let a = bind_some (read_expression s behind) _ _ e in
        let x = expression_read m s many a.0.0 behind a.0.1 a.1 in
        carried (λ y last. ReadLeaf s y ts last) (always a.0.0) t a.0.1 rest a.2 (record { spelled = (behind, word_is words.Always ts behind f, x.spelled); scoped = x.scoped })

  -- ---- events with parts

  -- what this reads is spelled, in scope and within the limits
  abbrev pub IsSound : Parts → Type 0
  IsSound next = (at : EventPlace) (s : Names) (used : Tally) (t : Term) (ts rest : List Token) → length s.channels ≤ m → next at s used ts ≡ Some (t, rest) → ReadEvent at s used t ts rest

  module _ (next : Parts) (sound : IsSound next) where
    -- an event in braces that was read
    record ReadBraced (s : Names) (used : Tally) (t : Term) (ts rest : List Token) : Type 0 where
      spelled : in_braces (spells_event true alone s t) ts rest
      scoped : IsEvent (scope_of m s) t

    braced_read : (s : Names) (used : Tally) (t : Term) (ts rest : List Token) → length s.channels ≤ m → read_braced next s used ts ≡ Some (t, rest) → ReadBraced s used t ts rest
    unfolding read_braced
    braced_read s used t ts rest many e =
        let a = bind_some (sign_first signs.OpenBrace ts) _ _ e in
        let b = bind_some (next alone s used a.0) _ _ a.2 in
        let c = bind_some (sign_first signs.CloseBrace b.0.1) _ _ b.2 in
        let inside = sound alone s used b.0.0 a.0 b.0.1 many b.1 in
        carried (λ x last. ReadBraced s used x ts last) b.0.0 t c.0 rest c.2
        (record { spelled = (a.0, sign_is signs.OpenBrace ts a.0 a.1, (b.0.1, inside.spelled, sign_is signs.CloseBrace b.0.1 c.0 c.1)); scoped = inside.scoped })

    -- parts of a `do` that were read, behind the name of the first
    record ReadPart (s : Names) (used : Tally) (n : List ℕ) (t : Term) (ts rest : List Token) : Type 0 where
      in_parts : (all : List Token) → bound_name n all ts → spells_event true in_do s t all rest
      by_itself : (front inside all : List Token) → front ≡ word words.Do ∷ inside → inside ≡ sign signs.OpenBrace ∷ all → bound_name n all ts → spells_event true alone s t front rest
      scoped : IsEvent (scope_of m s) t
      few : HasRoom used t
      low : height t ≤ 32

    -- with one more inner name there are the same channels
    still_many : (s more : Names) (n : List ℕ) → more ≡ with_inner s n → length s.channels ≤ m → length more.channels ≤ m
    still_many s more n e many = subst (λ (x : Names). length x.channels ≤ m) (sym e) many

    part_of : (s : Names) (used later_used : Tally) (n : List ℕ) (e f : Term) (ts a b c rest : List Token)
        → ts ≡ sign signs.Arrow ∷ a → ReadEvent alone s used e a b → b ≡ sign signs.Semicolon ∷ c → IsFreeName s n
        → ReadEvent in_do (with_inner s n) later_used f c rest
        → HasRoom used (and_then e (length s.inners) f) → height (and_then e (length s.inners) f) ≤ 32 → ReadPart s used n (and_then e (length s.inners) f) ts rest
    part_of s used later_used n e f ts a b c rest arrow first semicolon free later few low = record {
      in_parts = λ all name. inr (n, (free, (ts, name, (a, arrow, (b, first.spelled, (c, semicolon, later.spelled))))));
      by_itself = λ front inside all begins opened name. (inside, begins, (all, opened, (n, (free, (ts, name, (a, arrow, (b, first.spelled, (c, semicolon, later.spelled))))))));
      scoped = (refl, first.scoped, subst (λ (x : Scope). IsEvent x f) (inner_scope m s n) later.scoped);
      few = few;
      low = low;
    }

    part_read : (s : Names) (used : Tally) (n : List ℕ) (t : Term) (ts rest : List Token) → length s.channels ≤ m → read_part next s used n ts ≡ Some (t, rest) → ReadPart s used n t ts rest
    unfolding read_part
    part_read s used n t ts rest many h =
        let a = bind_some (sign_first signs.Arrow ts) _ _ h in
        let b = bind_some (next alone s used a.0) _ _ a.2 in
        let c = bind_some (sign_first signs.Semicolon b.0.1) _ _ b.2 in
        let d = bind_some (bound_in s n) _ _ c.2 in
        let f = bind_some (next in_do d.0 (tally_with_event used b.0.0) c.0) _ _ d.2 in
        by b.0.0 f.0.0 a.0 b.0.1 c.0 f.0.1 d.0 (a.1) (b.1) (c.1) (bound_is s n d.0 d.1) (f.1) (made_some used (and_then b.0.0 (length s.inners) f.0.0) t f.0.1 rest f.2) where
          by : (e f : Term) (a b c last : List Token) (more : Names) → sign_first signs.Arrow ts ≡ Some a
              → next alone s used a ≡ Some (e, b) → sign_first signs.Semicolon b ≡ Some c
              → IsFreeName s n × (more ≡ with_inner s n) → next in_do more (tally_with_event used e) c ≡ Some (f, last)
              → (◌≡◌ {A = Read Term} (Some (and_then e (length s.inners) f, last)) (Some (t, rest)))
              × (HasRoom used (and_then e (length s.inners) f)) × (height (and_then e (length s.inners) f) ≤ 32)
              → ReadPart s used n t ts rest
          by e f a b c last more arrow first semicolon free second limits =
              let later = sound in_do more (tally_with_event used e) f c last (still_many s more n free.1 many) second in
              carried (λ x end. ReadPart s used n x ts end) (and_then e (length s.inners) f) t last rest limits.0
              (part_of s used (tally_with_event used e) n e f ts a b c last (sign_is signs.Arrow ts a arrow) (sound alone s used e a b many first) (sign_is signs.Semicolon b c semicolon) free.0
              (subst (λ (x : Names). ReadEvent in_do x (tally_with_event used e) f c last) free.1 later) limits.1 limits.2)

    do_read : (s : Names) (used : Tally) (t : Term) (ts behind rest : List Token) → length s.channels ≤ m
        → ts ≡ word words.Do ∷ behind → read_do next s used behind ≡ Some (t, rest) → ReadEvent alone s used t ts rest
    unfolding read_do
    do_read s used t ts behind rest many begins e =
        let a = bind_some (sign_first signs.OpenBrace behind) _ _ e in
        let b = bind_some (bound_first a.0) _ _ a.2 in
        let p = part_read s used b.0.0 t b.0.1 rest many b.2 in
        record { spelled = p.by_itself ts behind a.0 begins (sign_is signs.OpenBrace behind a.0 a.1) (bound_name_is a.0 b.0.0 b.0.1 b.1); scoped = p.scoped; few = p.few; low = p.low }

    -- what was read behind a bar, whose first event is e
    record ReadSecond (s : Names) (used : Tally) (e t : Term) (ts rest : List Token) : Type 0 where
      in_bars : (all bar : List Token) → spells_event true alone s e all bar → bar ≡ sign signs.Bar ∷ ts → spells_event true in_choose s t all rest
      by_itself : (front inside all bar : List Token) → front ≡ word words.Choose ∷ inside
          → inside ≡ sign signs.OpenBrace ∷ all → spells_event true alone s e all bar → bar ≡ sign signs.Bar ∷ ts
          → spells_event true alone s t front rest
      scoped : IsEvent (scope_of m s) e → IsEvent (scope_of m s) t
      few : HasRoom used t
      low : height t ≤ 32

    second_read : (s : Names) (used : Tally) (e t : Term) (ts rest : List Token) → length s.channels ≤ m → read_second next s used e ts ≡ Some (t, rest) → ReadSecond s used e t ts rest
    unfolding read_second
    second_read s used e t ts rest many h =
        let a = bind_some (next in_choose s (tally_with_event used e) ts) _ _ h in
        let limits = made_some used (choose e a.0.0) t a.0.1 rest a.2 in
        let later = sound in_choose s (tally_with_event used e) a.0.0 ts a.0.1 many a.1 in
        carried (λ x last. ReadSecond s used e x ts last) (choose e a.0.0) t a.0.1 rest limits.0
        (record {
          in_bars = λ all bar first barred. inr (bar, first, (ts, barred, later.spelled));
          by_itself = λ front inside all bar begins opened first barred. (inside, begins, (all, opened, (bar, first, (ts, barred, later.spelled))));
          scoped = λ first. (first, later.scoped);
          few = limits.1;
          low = limits.2;
        })

    choose_read : (s : Names) (used : Tally) (t : Term) (ts behind rest : List Token) → length s.channels ≤ m
        → ts ≡ word words.Choose ∷ behind → read_choose next s used behind ≡ Some (t, rest)
        → ReadEvent alone s used t ts rest
    unfolding read_choose
    choose_read s used t ts behind rest many begins e =
        let a = bind_some (sign_first signs.OpenBrace behind) _ _ e in
        let b = bind_some (next alone s used a.0) _ _ a.2 in
        let c = bind_some (sign_first signs.Bar b.0.1) _ _ b.2 in
        let first = sound alone s used b.0.0 a.0 b.0.1 many b.1 in
        let second = second_read s used b.0.0 t c.0 rest many c.2 in
        record {
          spelled = second.by_itself ts behind a.0 b.0.1 begins (sign_is signs.OpenBrace behind a.0 a.1) first.spelled (sign_is signs.Bar b.0.1 c.0 c.1);
          scoped = second.scoped first.scoped;
          few = second.few;
          low = second.low;
        }

    try_read : (s : Names) (used : Tally) (t : Term) (ts behind rest : List Token) → length s.channels ≤ m
        → ts ≡ word words.Try ∷ behind → read_try next s used behind ≡ Some (t, rest) → ReadEvent alone s used t ts rest
    unfolding read_try
    try_read s used t ts behind rest many begins h =
        let a = bind_some (read_braced next s used behind) _ _ h in
        let b = bind_some (word_first words.Catch a.0.1) _ _ a.2 in
        let c = bind_some (bound_first b.0) _ _ b.2 in
        let d = bind_some (bound_in s c.0.0) _ _ c.2 in
        let f = bind_some (read_braced next d.0 (tally_with_event used a.0.0) c.0.1) _ _ d.2 in
        by a.0.0 f.0.0 c.0.0 a.0.1 b.0 c.0.1 f.0.1 d.0 a.1 b.1 c.1 (bound_is s c.0.0 d.0 d.1) f.1 (made_some used (catch a.0.0 (length s.inners) f.0.0) t f.0.1 rest f.2) where
          by : (e f : Term) (n : List ℕ) (a b c last : List Token) (more : Names)
              → read_braced next s used behind ≡ Some (e, a) → word_first words.Catch a ≡ Some b
              → bound_first b ≡ Some (n, c) → IsFreeName s n × (more ≡ with_inner s n)
              → read_braced next more (tally_with_event used e) c ≡ Some (f, last)
              → (◌≡◌ {A = Read Term} (Some (catch e (length s.inners) f, last)) (Some (t, rest)))
              × (HasRoom used (catch e (length s.inners) f)) × (height (catch e (length s.inners) f) ≤ 32)
              → ReadEvent alone s used t ts rest
          by e f n a b c last more braced caught name free second limits =
              let first = braced_read s used e behind a many braced in
              let later : ReadBraced (with_inner s n) (tally_with_event used e) f c last =
              subst (λ (x : Names). ReadBraced x (tally_with_event used e) f c last) free.1 (braced_read more (tally_with_event used e) f c last (still_many s more n free.1 many) second) in
              carried (λ x end. ReadEvent alone s used x ts end) (catch e (length s.inners) f) t last rest limits.0
              (record {
                spelled = (behind, begins, (a, first.spelled, (b, word_is words.Catch a b caught, (n, (free.0, (c, bound_name_is b n c name, later.spelled))))));
                scoped = (refl, first.scoped, subst (λ (x : Scope). IsEvent x f) (inner_scope m s n) later.scoped);
                few = limits.1;
                low = limits.2;
              })

    -- what an `if` asks, as it was read
    record ReadCondition (s : Names) (c : Test × Primitive × Primitive) (ts rest : List Token) : Type 0 where
      spelled : (spells_primitive true s c.1 ⨟ is (sign (test_sign c.0)) ⨟ spells_primitive true s c.2) ts rest
      left : IsPrimitive (scope_of m s) c.1
      right : IsPrimitive (scope_of m s) c.2

    condition_read : (s : Names) (c : Test × Primitive × Primitive) (ts rest : List Token) → length s.channels ≤ m → read_condition s ts ≡ Some (c, rest) → ReadCondition s c ts rest
    unfolding read_condition
    condition_read s c ts rest many h =
        let p = bind_some (read_primitive s ts) _ _ h in
        let test = bind_some (test_first p.0.1) _ _ p.2 in
        let q = bind_some (read_primitive s test.0.1) _ _ test.2 in
        let left = primitive_read m s many p.0.0 ts p.0.1 p.1 in
        let right = primitive_read m s many q.0.0 test.0.1 q.0.1 q.1 in
        carried (λ x end. ReadCondition s x ts end) (test.0.0, p.0.0, q.0.0) c q.0.1 rest q.2
        (record { spelled = (p.0.1, left.spelled, (test.0.1, test_read test.0.0 p.0.1 test.0.1 test.1, right.spelled)); left = left.scoped; right = right.scoped })

    if_read : (s : Names) (used : Tally) (t : Term) (ts behind rest : List Token) → length s.channels ≤ m
        → ts ≡ word words.If ∷ behind → read_if next s used behind ≡ Some (t, rest) → ReadEvent alone s used t ts rest
    unfolding read_if
    if_read s used t ts behind rest many begins h =
        let a = bind_some (read_condition s behind) _ _ h in
        let b = bind_some (read_braced next s used a.0.1) _ _ a.2 in
        let c = bind_some (word_first words.Else b.0.1) _ _ b.2 in
        let d = bind_some (read_braced next s (tally_with_event used b.0.0) c.0) _ _ c.2 in
        by a.0.0.0 a.0.0.1 a.0.0.2 b.0.0 d.0.0 a.0.1 b.0.1 c.0 d.0.1
        (condition_read s a.0.0 behind a.0.1 many a.1) b.1 c.1 d.1
        (made_some used (when a.0.0.0 a.0.0.1 a.0.0.2 b.0.0 d.0.0) t d.0.1 rest d.2) where
          by : (test : Test) (p q : Primitive) (e f : Term) (a b c last : List Token)
              → ReadCondition s (test, p, q) behind a → read_braced next s used a ≡ Some (e, b)
              → word_first words.Else b ≡ Some c → read_braced next s (tally_with_event used e) c ≡ Some (f, last)
              → (◌≡◌ {A = Read Term} (Some (when test p q e f, last)) (Some (t, rest))) × (HasRoom used (when test p q e f)) × (height (when test p q e f) ≤ 32) → ReadEvent alone s used t ts rest
          by test p q e f a b c last asks braced other second limits =
              let first = braced_read s used e a b many braced in
              let later = braced_read s (tally_with_event used e) f c last many second in
              let condition = asks.spelled in
              let signed = condition.2 in
              carried (λ x end. ReadEvent alone s used x ts end) (when test p q e f) t last rest limits.0
              (record {
                spelled = (behind, begins, (condition.0, condition.1, (signed.0, signed.1, (a, signed.2, (b, first.spelled, (c, word_is words.Else b c other, later.spelled))))));
                scoped = (asks.left, asks.right, first.scoped, later.scoped);
                few = limits.1;
                low = limits.2;
              })

    one_read : (s : Names) (used : Tally) (t : Term) (ts rest : List Token) → length s.channels ≤ m → read_one s used ts ≡ Some (t, rest) → ReadEvent alone s used t ts rest
    unfolding read_one
    one_read s used t ts rest many e =
        let a = bind_some (read_leaf s ts) _ _ e in
        let limits = made_some used a.0.0 t a.0.1 rest a.2 in
        let leaf = leaf_read s a.0.0 ts a.0.1 many a.1 in
        carried (λ x last. ReadEvent alone s used x ts last) a.0.0 t a.0.1 rest limits.0 (record { spelled = leaf.spelled; scoped = leaf.scoped; few = limits.1; low = limits.2 })

    alone_read : (s : Names) (used : Tally) (t : Term) (ts rest : List Token) → length s.channels ≤ m → read_alone next s used ts ≡ Some (t, rest) → ReadEvent alone s used t ts rest
    unfolding read_alone
    alone_read s used t ts rest many e = by_do (word_first words.Do ts) refl e where
      by_if : (o : Option (List Token)) → word_first words.If ts ≡ o → if_or_one next s used ts o ≡ Some (t, rest) → ReadEvent alone s used t ts rest
      by_if (Some behind) f e = if_read s used t ts behind rest many (word_is words.If ts behind f) e
      by_if None f e = one_read s used t ts rest many e

      by_try : (o : Option (List Token)) → word_first words.Try ts ≡ o → try_or_other next s used ts o ≡ Some (t, rest) → ReadEvent alone s used t ts rest
      by_try (Some behind) f e = try_read s used t ts behind rest many (word_is words.Try ts behind f) e
      by_try None f e = by_if (word_first words.If ts) refl e

      by_choose : (o : Option (List Token)) → word_first words.Choose ts ≡ o → choose_or_other next s used ts o ≡ Some (t, rest) → ReadEvent alone s used t ts rest
      by_choose (Some behind) f e = choose_read s used t ts behind rest many (word_is words.Choose ts behind f) e
      by_choose None f e = by_try (word_first words.Try ts) refl e

      by_do : (o : Option (List Token)) → word_first words.Do ts ≡ o → do_or_other next s used ts o ≡ Some (t, rest) → ReadEvent alone s used t ts rest
      by_do (Some behind) f e = do_read s used t ts behind rest many (word_is words.Do ts behind f) e
      by_do None f e = by_choose (word_first words.Choose ts) refl e

    in_do_read : (s : Names) (used : Tally) (t : Term) (ts rest : List Token) → length s.channels ≤ m → read_in_do next s used ts ≡ Some (t, rest) → ReadEvent in_do s used t ts rest
    unfolding read_in_do
    in_do_read s used t ts rest many e = by (bound_first ts) refl e where
      by : (o : Read (List ℕ)) → bound_first ts ≡ o → part_or_last next s used ts o ≡ Some (t, rest) → ReadEvent in_do s used t ts rest
      by (Some n) f e =
          let p = part_read s used n.0 t n.1 rest many e in
          record { spelled = p.in_parts ts (bound_name_is ts n.0 n.1 f); scoped = p.scoped; few = p.few; low = p.low }
      by None f e =
          let a = bind_some (read_alone next s used ts) _ _ e in
          let b = bind_some (sign_first signs.CloseBrace a.0.1) _ _ a.2 in
          let last = alone_read s used a.0.0 ts a.0.1 many a.1 in
          carried (λ x end. ReadEvent in_do s used x ts end) a.0.0 t b.0 rest b.2
          (record { spelled = closed_in_do s a.0.0 ts a.0.1 b.0 last.spelled (sign_is signs.CloseBrace a.0.1 b.0 b.1); scoped = last.scoped; few = last.few; low = last.low })

    in_choose_read : (s : Names) (used : Tally) (t : Term) (ts rest : List Token) → length s.channels ≤ m → read_in_choose next s used ts ≡ Some (t, rest) → ReadEvent in_choose s used t ts rest
    unfolding read_in_choose
    in_choose_read s used t ts rest many e =
        let a = bind_some (read_alone next s used ts) _ _ e in
        by a.0.0 a.0.1 (alone_read s used a.0.0 ts a.0.1 many a.1) (sign_first signs.Bar a.0.1) refl a.2 where
          by : (e : Term) (after : List Token) → ReadEvent alone s used e ts after → (o : Option (List Token))
              → sign_first signs.Bar after ≡ o → bar_or_end next s used e after o ≡ Some (t, rest)
              → ReadEvent in_choose s used t ts rest
          by e after first (Some behind) f h =
              let second = second_read s used e t behind rest many h in
              record { spelled = second.in_bars ts after first.spelled (sign_is signs.Bar after behind f); scoped = second.scoped first.scoped; few = second.few; low = second.low }
          by e after first None f h =
              let b = bind_some (sign_first signs.CloseBrace after) _ _ h in
              carried (λ x end. ReadEvent in_choose s used x ts end) e t b.0 rest b.2
              (record { spelled = closed_in_choose s e ts after b.0 first.spelled (sign_is signs.CloseBrace after b.0 b.1); scoped = first.scoped; few = first.few; low = first.low })

    standing_read : (at : EventPlace) (s : Names) (used : Tally) (t : Term) (ts rest : List Token)
        → length s.channels ≤ m → read_standing next at s used ts ≡ Some (t, rest) → ReadEvent at s used t ts rest
    standing_read alone s used t ts rest many e = alone_read s used t ts rest many e
    standing_read in_do s used t ts rest many e = in_do_read s used t ts rest many e
    standing_read in_choose s used t ts rest many e = in_choose_read s used t ts rest many e

  pub event_read : (layers : ℕ) → IsSound (read_event layers)
  unfolding read_event
  event_read zero at s used t ts rest many e = absurd cc
  event_read (suc layers) at s used t ts rest many e = standing_read (read_event layers) (event_read layers) at s used t ts rest many e
