-- What is spelled of an event, has its names in scope and keeps the limits is read.
use Rattle.std.proofs.Common.{◌≡◌, ℕ, zero, suc, ◌≤◌, inl, inr, true, List, ◌∷◌, length, refl, sym, subst, arith}
use Rattle.std.specs.Prelude.{Some, None}
use Rattle.te_terms.specs.declared.expr.Test.{Test}
use Rattle.te_terms.specs.declared.expr.Test.TheVariants as tests
use Rattle.te_terms.specs.Expressions.{Primitive, Expression}
use Rattle.te_terms.specs.Terms.{Term, always, never, fresh, throw, send, recv, and_then, choose, catch, when}
use Rattle.te_terms.specs.Measures.{height}
use Rattle.te_script.specs.Scripts.{Scope, IsEvent}
use Rattle.te_reader.specs.declared.token.Word.{Word}
use Rattle.te_reader.specs.declared.token.Word.TheVariants as words
use Rattle.te_reader.specs.declared.token.Sign.TheVariants as signs
use Rattle.te_reader.specs.Tokens.{Token, word, sign}
use Rattle.te_reader.specs.Heads.{word_first, sign_first}
use Rattle.te_reader.specs.Grammar.{Names, bound_name, with_inner, IsFreeName, EventPlace, alone, in_do, in_choose, closed_span, test_sign, spells_primitive, spells_event}
use Rattle.te_reader.specs.ExpressionReads.{read_primitive, read_expression}
use Rattle.te_reader.specs.Tallies.{Tally, HasRoom, tally_with_event}
use Rattle.te_reader.specs.EventReads.{read_leaf, Parts, read_braced, read_part, read_do, read_second, read_choose}
use Rattle.te_reader.specs.EventReads.{read_try, test_first, read_condition, read_if, read_one, read_alone, read_in_do}
use Rattle.te_reader.specs.EventReads.{read_in_choose, read_standing, read_event}
use Rattle.te_reader.proofs.BuiltLemmas.{made_within}
use Rattle.te_reader.proofs.ReadIsSpelled.{scope_of}
use Rattle.te_reader.proofs.EventIsSpelled.{inner_scope}
use Rattle.te_reader.proofs.SpelledIsRead.{takes_sign, other_sign, takes_word, other_word, takes_bound, no_bound}
use Rattle.te_reader.proofs.SpelledIsRead.{InScope, one_more_in_scope, binds, no_dot_at_expression, primitive_is_read}
use Rattle.te_reader.proofs.SpelledIsRead.{expression_is_read}

-- an event that would stand behind so many nodes is within the limits, and in at most so many layers
pub record Fits (layers : ℕ) (used : Tally) (t : Term) : Type 0 where
  pub few : HasRoom used t
  pub low : height t ≤ 32
  pub layered : height t ≤ layers

pub some_height : (t : Term) → 1 ≤ height t
some_height (always e) = omega arith
some_height never = omega arith
some_height fresh = omega arith
some_height (throw e) = omega arith
some_height (send p e) = omega arith
some_height (recv p) = omega arith
some_height (and_then e n f) = omega arith
some_height (choose e f) = omega arith
some_height (catch e n f) = omega arith
some_height (when test p q e f) = omega arith

-- an event by itself begins with a word
begins_with_word : (s : Names) (t : Term) (ts rest : List Token) → spells_event true alone s t ts rest → (w : Word) × (behind : List Token) × (ts ≡ word w ∷ behind)
begins_with_word s (always e) ts rest h = (words.Always, h.0, h.1)
begins_with_word s never ts rest h = (words.Never, rest, h)
begins_with_word s fresh ts rest h = (words.Fresh, rest, h)
begins_with_word s (throw e) ts rest h = (words.Throw, h.0, h.1)
begins_with_word s (send p e) ts rest h = (words.Send, h.0, h.1)
begins_with_word s (recv p) ts rest h = (words.Recv, h.0, h.1)
begins_with_word s (and_then e n f) ts rest h = (words.Do, h.0, h.1)
begins_with_word s (choose e f) ts rest h = (words.Choose, h.0, h.1)
begins_with_word s (catch e n f) ts rest h = (words.Try, h.0, h.1)
begins_with_word s (when test p q e f) ts rest h = (words.If, h.0, h.1)

takes_test : (o : Test) (ts rest : List Token) → ts ≡ sign (test_sign o) ∷ rest → (test_first ts ≡ Some (o, rest)) × (sign_first signs.Dot ts ≡ None)
unfolding test_first sign_first
takes_test tests.Equal ts rest e = rw e (refl, refl)
takes_test tests.Less ts rest e = rw e (refl, refl)

-- ---- events of one node

module _ (next : Parts) (s : Names) (used : Tally) (ts : List Token) where
  -- none of the words of an event with parts
  one_is_read : (t : Term) (w : Word) (behind rest : List Token) → ts ≡ word w ∷ behind → word_first words.Do ts ≡ None
      → word_first words.Choose ts ≡ None → word_first words.Try ts ≡ None → word_first words.If ts ≡ None
      → read_leaf s ts ≡ Some (t, rest)
      → HasRoom used t → height t ≤ 32 → read_alone next s used ts ≡ Some (t, rest)
  unfolding read_alone read_one
  one_is_read t w behind rest begins no_do no_choose no_try no_if read few low = rw (no_do, no_choose, no_try, no_if, read) (made_within used t rest few low)

  do_is_read : (t : Term) (n : List ℕ) (behind inside within rest : List Token) → ts ≡ word words.Do ∷ behind
      → behind ≡ sign signs.OpenBrace ∷ inside → bound_name n inside within
      → read_part next s used n within ≡ Some (t, rest) → read_alone next s used ts ≡ Some (t, rest)
  unfolding read_alone read_do
  do_is_read t n behind inside within rest begins opened name read = rw (takes_word words.Do ts behind begins, takes_sign signs.OpenBrace behind inside opened, takes_bound n inside within name) read

  choose_is_read : (e t : Term) (behind inside bar second rest : List Token) → ts ≡ word words.Choose ∷ behind
      → behind ≡ sign signs.OpenBrace ∷ inside → next alone s used inside ≡ Some (e, bar) → bar ≡ sign signs.Bar ∷ second
      → read_second next s used e second ≡ Some (t, rest)
      → read_alone next s used ts ≡ Some (t, rest)
  unfolding read_alone read_choose
  choose_is_read e t behind inside bar second rest begins opened first barred read =
      rw (
        other_word words.Do words.Choose ts behind begins refl,
        takes_word words.Choose ts behind begins,
        takes_sign signs.OpenBrace behind inside opened,
        first,
        takes_sign signs.Bar bar second barred,
      ) read

  try_is_read : (t : Term) (behind rest : List Token) → ts ≡ word words.Try ∷ behind → read_try next s used behind ≡ Some (t, rest) → read_alone next s used ts ≡ Some (t, rest)
  unfolding read_alone
  try_is_read t behind rest begins read = rw (other_word words.Do words.Try ts behind begins refl, other_word words.Choose words.Try ts behind begins refl, takes_word words.Try ts behind begins) read

  if_is_read : (t : Term) (behind rest : List Token) → ts ≡ word words.If ∷ behind → read_if next s used behind ≡ Some (t, rest) → read_alone next s used ts ≡ Some (t, rest)
  unfolding read_alone
  if_is_read t behind rest begins read =
      rw (
        other_word words.Do words.If ts behind begins refl,
        other_word words.Choose words.If ts behind begins refl,
        other_word words.Try words.If ts behind begins refl,
        takes_word words.If ts behind begins,
      ) read

  -- ---- parts

  part_is_read : (e f : Term) (n : List ℕ) (a b c rest : List Token) → ts ≡ sign signs.Arrow ∷ a
      → next alone s used a ≡ Some (e, b) → b ≡ sign signs.Semicolon ∷ c → IsFreeName s n
      → next in_do (with_inner s n) (tally_with_event used e) c ≡ Some (f, rest)
      → HasRoom used (and_then e (length s.inners) f) → height (and_then e (length s.inners) f) ≤ 32 → read_part next s used n ts ≡ Some (and_then e (length s.inners) f, rest)
  unfolding read_part
  part_is_read e f n a b c rest arrow first semicolon free second few low =
      rw (takes_sign signs.Arrow ts a arrow, first, takes_sign signs.Semicolon b c semicolon, binds s n free, second) (made_within used (and_then e (length s.inners) f) rest few low)

  second_is_read : (e f : Term) (rest : List Token) → next in_choose s (tally_with_event used e) ts ≡ Some (f, rest)
      → HasRoom used (choose e f) → height (choose e f) ≤ 32 → read_second next s used e ts ≡ Some (choose e f, rest)
  unfolding read_second
  second_is_read e f rest second few low = rw second (made_within used (choose e f) rest few low)

  braced_is_read : (e : Term) (a b rest : List Token) → ts ≡ sign signs.OpenBrace ∷ a
      → next alone s used a ≡ Some (e, b) → b ≡ sign signs.CloseBrace ∷ rest → read_braced next s used ts ≡ Some (e, rest)
  unfolding read_braced
  braced_is_read e a b rest opened inside close = rw (takes_sign signs.OpenBrace ts a opened, inside, takes_sign signs.CloseBrace b rest close) refl

  catch_is_read : (e h : Term) (n : List ℕ) (a b c rest : List Token) → read_braced next s used ts ≡ Some (e, a)
      → a ≡ word words.Catch ∷ b → bound_name n b c → IsFreeName s n
      → read_braced next (with_inner s n) (tally_with_event used e) c ≡ Some (h, rest)
      → HasRoom used (catch e (length s.inners) h) → height (catch e (length s.inners) h) ≤ 32 → read_try next s used ts ≡ Some (catch e (length s.inners) h, rest)
  unfolding read_try
  catch_is_read e h n a b c rest first caught name free second few low =
      rw (first, takes_word words.Catch a b caught, takes_bound n b c name, binds s n free, second) (made_within used (catch e (length s.inners) h) rest few low)

  when_is_read : (test : Test) (p q : Primitive) (e f : Term) (a b c rest : List Token)
      → read_condition s ts ≡ Some ((test, p, q), a) → read_braced next s used a ≡ Some (e, b) → b ≡ word words.Else ∷ c
      → read_braced next s (tally_with_event used e) c ≡ Some (f, rest)
      → HasRoom used (when test p q e f) → height (when test p q e f) ≤ 32 → read_if next s used ts ≡ Some (when test p q e f, rest)
  unfolding read_if
  when_is_read test p q e f a b c rest condition first other second few low =
      rw (condition, first, takes_word words.Else b c other, second) (made_within used (when test p q e f) rest few low)

  -- ---- standings

  last_in_do : (t : Term) (w : Word) (behind middle rest : List Token) → ts ≡ word w ∷ behind
      → read_alone next s used ts ≡ Some (t, middle) → middle ≡ sign signs.CloseBrace ∷ rest
      → read_in_do next s used ts ≡ Some (t, rest)
  unfolding read_in_do
  last_in_do t w behind middle rest begins read close = rw (no_bound w ts behind begins, read, takes_sign signs.CloseBrace middle rest close) refl

  more_in_do : (t : Term) (n : List ℕ) (behind rest : List Token) → bound_name n ts behind → read_part next s used n behind ≡ Some (t, rest) → read_in_do next s used ts ≡ Some (t, rest)
  unfolding read_in_do
  more_in_do t n behind rest name read = rw (takes_bound n ts behind name) read

  last_in_choose : (t : Term) (middle rest : List Token) → read_alone next s used ts ≡ Some (t, middle) → middle ≡ sign signs.CloseBrace ∷ rest → read_in_choose next s used ts ≡ Some (t, rest)
  unfolding read_in_choose
  last_in_choose t middle rest read close = rw (read, other_sign signs.Bar signs.CloseBrace middle rest close refl, takes_sign signs.CloseBrace middle rest close) refl

  more_in_choose : (e t : Term) (bar second rest : List Token) → read_alone next s used ts ≡ Some (e, bar)
      → bar ≡ sign signs.Bar ∷ second → read_second next s used e second ≡ Some (t, rest)
      → read_in_choose next s used ts ≡ Some (t, rest)
  unfolding read_in_choose
  more_in_choose e t bar second rest first barred read = rw (first, takes_sign signs.Bar bar second barred) read

  -- an event that stands by itself, or before a closing brace
  closed_is_read : (t : Term) (at : EventPlace) (rest : List Token)
      → ((last : List Token) → sign_first signs.Dot last ≡ None → spells_event true alone s t ts last
      → read_alone next s used ts ≡ Some (t, last)) → sign_first signs.Dot rest ≡ None
      → closed_span at (spells_event true alone s t) ts rest → read_standing next at s used ts ≡ Some (t, rest)
  closed_is_read t alone rest read no_dot h = read rest no_dot h
  closed_is_read t in_do rest read no_dot h =
      let begins = begins_with_word s t ts h.0 h.1 in
      last_in_do t begins.0 begins.1 h.0 rest begins.2 (read h.0 (other_sign signs.Dot signs.CloseBrace h.0 rest h.2 refl) h.1) h.2
  closed_is_read t in_choose rest read no_dot h = last_in_choose t h.0 rest (read h.0 (other_sign signs.Dot signs.CloseBrace h.0 rest h.2 refl) h.1) h.2

condition_is_read : (s : Names) → InScope s → (test : Test) (p q : Primitive) (ts a b rest : List Token)
    → spells_primitive true s p ts a → a ≡ sign (test_sign test) ∷ b → spells_primitive true s q b rest
    → sign_first signs.Dot rest ≡ None → read_condition s ts ≡ Some ((test, p, q), rest)
unfolding read_condition
condition_is_read s keeps test p q ts a b rest left signed right no_dot =
    let tested = takes_test test a b signed in
    rw (primitive_is_read s keeps p ts a left tested.1, tested.0, primitive_is_read s keeps q b rest right no_dot) refl

-- ---- the words of events of one node

module _ (s : Names) (keeps : InScope s) (ts behind rest : List Token) where
  always_is_read : (scope : Scope) (e : Expression) → IsEvent scope (always e) → ts ≡ word words.Always ∷ behind → read_expression s behind ≡ Some (e, rest) → read_leaf s ts ≡ Some (always e, rest)
  unfolding read_leaf
  always_is_read scope e scoped begins read = rw (takes_word words.Always ts behind begins, read) refl

  never_is_read : ts ≡ word words.Never ∷ behind → read_leaf s ts ≡ Some (never, behind)
  unfolding read_leaf
  never_is_read begins = rw (other_word words.Always words.Never ts behind begins refl, other_word words.Send words.Never ts behind begins refl, takes_word words.Never ts behind begins) refl

  throw_is_read : (e : Expression) → ts ≡ word words.Throw ∷ behind → read_expression s behind ≡ Some (e, rest) → read_leaf s ts ≡ Some (throw e, rest)
  unfolding read_leaf
  throw_is_read e begins read =
      rw (
        other_word words.Always words.Throw ts behind begins refl,
        other_word words.Send words.Throw ts behind begins refl,
        other_word words.Never words.Throw ts behind begins refl,
        takes_word words.Throw ts behind begins,
        read,
      ) refl

  send_is_read : (p : Primitive) (e : Expression) (middle : List Token) → ts ≡ word words.Send ∷ behind
      → read_primitive s behind ≡ Some (p, middle) → read_expression s middle ≡ Some (e, rest)
      → read_leaf s ts ≡ Some (send p e, rest)
  unfolding read_leaf
  send_is_read p e middle begins channel read = rw (other_word words.Always words.Send ts behind begins refl, takes_word words.Send ts behind begins, channel, read) refl

  fresh_is_read : ts ≡ word words.Fresh ∷ behind → read_leaf s ts ≡ Some (fresh, behind)
  unfolding read_leaf
  fresh_is_read begins =
      rw (
        other_word words.Always words.Fresh ts behind begins refl,
        other_word words.Send words.Fresh ts behind begins refl,
        other_word words.Never words.Fresh ts behind begins refl,
        other_word words.Throw words.Fresh ts behind begins refl,
        takes_word words.Fresh ts behind begins,
      ) refl

  recv_is_read : (p : Primitive) → ts ≡ word words.Recv ∷ behind → read_primitive s behind ≡ Some (p, rest) → read_leaf s ts ≡ Some (recv p, rest)
  unfolding read_leaf
  recv_is_read p begins read =
      rw (
        other_word words.Always words.Recv ts behind begins refl,
        other_word words.Send words.Recv ts behind begins refl,
        other_word words.Never words.Recv ts behind begins refl,
        other_word words.Throw words.Recv ts behind begins refl,
        other_word words.Fresh words.Recv ts behind begins refl,
        takes_word words.Recv ts behind begins,
        read,
      ) refl

-- a word that begins no event with parts
module _ (next : Parts) (s : Names) (used : Tally) (ts behind rest : List Token) (t : Term) (few : HasRoom used t) (low : height t ≤ 32) where
  by_always : ts ≡ word words.Always ∷ behind → read_leaf s ts ≡ Some (t, rest) → read_alone next s used ts ≡ Some (t, rest)
  by_always e read = one_is_read next s used ts t words.Always behind rest e
      (other_word words.Do words.Always ts behind e refl) (other_word words.Choose words.Always ts behind e refl)
      (other_word words.Try words.Always ts behind e refl) (other_word words.If words.Always ts behind e refl) read few
      low

  by_never : ts ≡ word words.Never ∷ behind → read_leaf s ts ≡ Some (t, rest) → read_alone next s used ts ≡ Some (t, rest)
  by_never e read = one_is_read next s used ts t words.Never behind rest e
      (other_word words.Do words.Never ts behind e refl) (other_word words.Choose words.Never ts behind e refl)
      (other_word words.Try words.Never ts behind e refl) (other_word words.If words.Never ts behind e refl) read few low

  by_throw : ts ≡ word words.Throw ∷ behind → read_leaf s ts ≡ Some (t, rest) → read_alone next s used ts ≡ Some (t, rest)
  by_throw e read = one_is_read next s used ts t words.Throw behind rest e
      (other_word words.Do words.Throw ts behind e refl) (other_word words.Choose words.Throw ts behind e refl)
      (other_word words.Try words.Throw ts behind e refl) (other_word words.If words.Throw ts behind e refl) read few low

  by_send : ts ≡ word words.Send ∷ behind → read_leaf s ts ≡ Some (t, rest) → read_alone next s used ts ≡ Some (t, rest)
  by_send e read = one_is_read next s used ts t words.Send behind rest e
      (other_word words.Do words.Send ts behind e refl) (other_word words.Choose words.Send ts behind e refl)
      (other_word words.Try words.Send ts behind e refl) (other_word words.If words.Send ts behind e refl) read few low

  by_fresh : ts ≡ word words.Fresh ∷ behind → read_leaf s ts ≡ Some (t, rest) → read_alone next s used ts ≡ Some (t, rest)
  by_fresh e read = one_is_read next s used ts t words.Fresh behind rest e
      (other_word words.Do words.Fresh ts behind e refl) (other_word words.Choose words.Fresh ts behind e refl)
      (other_word words.Try words.Fresh ts behind e refl) (other_word words.If words.Fresh ts behind e refl) read few low

  by_recv : ts ≡ word words.Recv ∷ behind → read_leaf s ts ≡ Some (t, rest) → read_alone next s used ts ≡ Some (t, rest)
  by_recv e read = one_is_read next s used ts t words.Recv behind rest e
      (other_word words.Do words.Recv ts behind e refl) (other_word words.Choose words.Recv ts behind e refl)
      (other_word words.Try words.Recv ts behind e refl) (other_word words.If words.Recv ts behind e refl) read few low

-- ---- all events

module _ (m : ℕ) where
  -- the events of a part, one level up
  in_inner_scope : (s : Names) (n : List ℕ) (f : Term) → IsEvent (record (scope_of m s) { level = suc (length s.inners) }) f → IsEvent (scope_of m (with_inner s n)) f
  in_inner_scope s n f h = subst (λ (x : Scope). IsEvent x f) (sym (inner_scope m s n)) h

  -- what is spelled of this event, in scope and within the limits, is read
  abbrev pub IsRead : Term → Type 0
  IsRead t = (layers : ℕ) (used : Tally) (at : EventPlace) (s : Names) (ts rest : List Token) → InScope s
      → IsEvent (scope_of m s) t → Fits layers used t → sign_first signs.Dot rest ≡ None
      → spells_event true at s t ts rest → read_event layers at s used ts ≡ Some (t, rest)

  then_is_read : (e f : Term) (n : ℕ) → IsRead e → IsRead f → (layers : ℕ) (used : Tally) (at : EventPlace) (s : Names)
      (ts rest : List Token) → InScope s → IsEvent (scope_of m s) (and_then e n f)
      → Fits (suc layers) used (and_then e n f) → sign_first signs.Dot rest ≡ None
      → spells_event true at s (and_then e n f) ts rest
      → read_event (suc layers) at s used ts ≡ Some (and_then e n f, rest)
  unfolding read_event
  then_is_read e f n read_e read_f layers used at s ts rest keeps scoped fits no_dot h = by at no_dot h where
    parts : (n' : List ℕ) (all within last : List Token) → sign_first signs.Dot last ≡ None → IsFreeName s n'
        → ((a : List Token) × (within ≡ sign signs.Arrow ∷ a) × ((b : List Token) × spells_event true alone s e a b
        × ((c : List Token) × (b ≡ sign signs.Semicolon ∷ c) × spells_event true in_do (with_inner s n') f c last)))
        → read_part (read_event layers) s used n' within ≡ Some (and_then e n f, last)
    parts n' all within last dot free k =
        let i = k.2 in
        let j = i.2 in
        let first = read_e layers used alone s k.0 i.0 keeps scoped.1
        (record {
          few = (omega (arith, fits.few.0), omega (arith, fits.few.1));
          low = omega (arith, fits.low);
          layered = omega (arith, fits.layered);
        }) (other_sign signs.Dot signs.Semicolon i.0 j.0 j.1 refl) i.1 in
        let second = read_f layers (tally_with_event used e) in_do (with_inner s n') j.0 last
        (one_more_in_scope s n' keeps free) (in_inner_scope s n' f scoped.2)
        (record {
          few = (omega (arith, fits.few.0), omega (arith, fits.few.1));
          low = omega (arith, fits.low);
          layered = omega (arith, fits.layered);
        }) dot j.2 in
        let level : length s.inners ≡ n = sym scoped.0 in
        subst (λ (x : ℕ). read_part (read_event layers) s used n' within ≡ Some (and_then e x f, last)) level
        (part_is_read (read_event layers) s used within e f n' k.0 i.0 j.0 last k.1 first j.1 free second fits.few fits.low)

    whole : (last : List Token) → sign_first signs.Dot last ≡ None → spells_event true alone s (and_then e n f) ts last → read_alone (read_event layers) s used ts ≡ Some (and_then e n f, last)
    whole last dot k =
        let i = k.2 in
        let b = i.2 in
        let c = b.1.1 in
        do_is_read (read_event layers) s used ts (and_then e n f) b.0 k.0 i.0 c.0 last k.1 i.1 c.1 (parts b.0 i.0 c.0 last dot b.1.0 c.2)

    by : (at : EventPlace) → sign_first signs.Dot rest ≡ None → spells_event true at s (and_then e n f) ts rest → read_standing (read_event layers) at s used ts ≡ Some (and_then e n f, rest)
    by alone dot k = whole rest dot k
    by in_choose dot k = closed_is_read (read_event layers) s used ts (and_then e n f) in_choose rest whole dot k
    by in_do dot (inl k) = closed_is_read (read_event layers) s used ts (and_then e n f) in_do rest whole dot k
    by in_do dot (inr k) =
        let c = k.1.1 in
        more_in_do (read_event layers) s used ts (and_then e n f) k.0 c.0 rest c.1 (parts k.0 ts c.0 rest dot k.1.0 c.2)

  choice_is_read : (e f : Term) → IsRead e → IsRead f → (layers : ℕ) (used : Tally) (at : EventPlace) (s : Names)
      (ts rest : List Token) → InScope s → IsEvent (scope_of m s) (choose e f) → Fits (suc layers) used (choose e f)
      → sign_first signs.Dot rest ≡ None → spells_event true at s (choose e f) ts rest
      → read_event (suc layers) at s used ts ≡ Some (choose e f, rest)
  unfolding read_event
  choice_is_read e f read_e read_f layers used at s ts rest keeps scoped fits no_dot h = by at no_dot h where
    second : (within last : List Token) → sign_first signs.Dot last ≡ None → spells_event true in_choose s f within last → read_second (read_event layers) s used e within ≡ Some (choose e f, last)
    second within last dot k =
        let later = read_f layers (tally_with_event used e) in_choose s within last keeps scoped.1
        (record {
          few = (omega (arith, fits.few.0), omega (arith, fits.few.1));
          low = omega (arith, fits.low);
          layered = omega (arith, fits.layered);
        }) dot k in
        second_is_read (read_event layers) s used within e f last later fits.few fits.low

    whole : (last : List Token) → sign_first signs.Dot last ≡ None → spells_event true alone s (choose e f) ts last → read_alone (read_event layers) s used ts ≡ Some (choose e f, last)
    whole last dot k =
        let i = k.2 in
        let j = i.2 in
        let b = j.2 in
        let first = read_e layers used alone s i.0 j.0 keeps scoped.0
        (record {
          few = (omega (arith, fits.few.0), omega (arith, fits.few.1));
          low = omega (arith, fits.low);
          layered = omega (arith, fits.layered);
        }) (other_sign signs.Dot signs.Bar j.0 b.0 b.1 refl) j.1 in
        choose_is_read (read_event layers) s used ts e (choose e f) k.0 i.0 j.0 b.0 last k.1 i.1 first b.1 (second b.0 last dot b.2)

    by : (at : EventPlace) → sign_first signs.Dot rest ≡ None → spells_event true at s (choose e f) ts rest → read_standing (read_event layers) at s used ts ≡ Some (choose e f, rest)
    by alone dot k = whole rest dot k
    by in_do dot k = closed_is_read (read_event layers) s used ts (choose e f) in_do rest whole dot k
    by in_choose dot (inl k) = closed_is_read (read_event layers) s used ts (choose e f) in_choose rest whole dot k
    by in_choose dot (inr k) =
        let b = k.2 in
        let first = read_e (suc layers) used alone s ts k.0 keeps scoped.0
        (record {
          few = (omega (arith, fits.few.0), omega (arith, fits.few.1));
          low = omega (arith, fits.low);
          layered = omega (arith, fits.layered);
        }) (other_sign signs.Dot signs.Bar k.0 b.0 b.1 refl) k.1 in
        more_in_choose (read_event layers) s used ts e (choose e f) k.0 b.0 rest first b.1 (second b.0 rest dot b.2)

  caught_is_read : (e f : Term) (n : ℕ) → IsRead e → IsRead f
      → (layers : ℕ) (used : Tally) (at : EventPlace) (s : Names) (ts rest : List Token) → InScope s
      → IsEvent (scope_of m s) (catch e n f) → Fits (suc layers) used (catch e n f) → sign_first signs.Dot rest ≡ None
      → spells_event true at s (catch e n f) ts rest
      → read_event (suc layers) at s used ts ≡ Some (catch e n f, rest)
  unfolding read_event
  caught_is_read e f n read_e read_f layers used at s ts rest keeps scoped fits no_dot h = closed_is_read (read_event layers) s used ts (catch e n f) at rest whole no_dot h where
    whole : (last : List Token) → sign_first signs.Dot last ≡ None → spells_event true alone s (catch e n f) ts last → read_alone (read_event layers) s used ts ≡ Some (catch e n f, last)
    whole last dot k =
        let i = k.2 in
        let x = i.1 in
        let y = x.2 in
        let j = i.2 in
        let b = j.2 in
        let free = b.1.0 in
        let c = b.1.1 in
        let d = c.2 in
        let g = d.2 in
        let first = read_e layers used alone s x.0 y.0 keeps scoped.1
        (record {
          few = (omega (arith, fits.few.0), omega (arith, fits.few.1));
          low = omega (arith, fits.low);
          layered = omega (arith, fits.layered);
        }) (other_sign signs.Dot signs.CloseBrace y.0 i.0 y.2 refl) y.1 in
        let second = read_f layers (tally_with_event used e) alone (with_inner s b.0) d.0 g.0
        (one_more_in_scope s b.0 keeps free) (in_inner_scope s b.0 f scoped.2)
        (record {
          few = (omega (arith, fits.few.0), omega (arith, fits.few.1));
          low = omega (arith, fits.low);
          layered = omega (arith, fits.layered);
        }) (other_sign signs.Dot signs.CloseBrace g.0 last g.2 refl) g.1 in
        let level : length s.inners ≡ n = sym scoped.0 in
        try_is_read (read_event layers) s used ts (catch e n f) k.0 last k.1
        (subst (λ (z : ℕ). read_try (read_event layers) s used k.0 ≡ Some (catch e z f, last)) level
        (catch_is_read (read_event layers) s used k.0 e f b.0 i.0 j.0 c.0 last (braced_is_read (read_event layers) s used k.0 e x.0 y.0 i.0 x.1 first y.2) j.1 c.1 free
        (braced_is_read (read_event layers) (with_inner s b.0) (tally_with_event used e) c.0 f d.0 g.0 last d.1 second g.2) fits.few fits.low))

  tested_is_read : (test : Test) (p q : Primitive) (e f : Term) → IsRead e → IsRead f
      → (layers : ℕ) (used : Tally) (at : EventPlace) (s : Names) (ts rest : List Token) → InScope s
      → IsEvent (scope_of m s) (when test p q e f) → Fits (suc layers) used (when test p q e f)
      → sign_first signs.Dot rest ≡ None → spells_event true at s (when test p q e f) ts rest
      → read_event (suc layers) at s used ts ≡ Some (when test p q e f, rest)
  unfolding read_event
  tested_is_read test p q e f read_e read_f layers used at s ts rest keeps scoped fits no_dot h = closed_is_read (read_event layers) s used ts (when test p q e f) at rest whole no_dot h where
    whole : (last : List Token) → sign_first signs.Dot last ≡ None → spells_event true alone s (when test p q e f) ts last → read_alone (read_event layers) s used ts ≡ Some (when test p q e f, last)
    whole last dot k =
        let a = k.2 in
        let b = a.2 in
        let c = b.2 in
        let d = c.2 in
        let x = d.1 in
        let y = x.2 in
        let g = d.2 in
        let u = g.2 in
        let v = u.2 in
        let condition = condition_is_read s keeps test p q k.0 a.0 b.0 c.0 a.1 b.1 c.1 (other_sign signs.Dot signs.OpenBrace c.0 x.0 x.1 refl) in
        let first = read_e layers used alone s x.0 y.0 keeps scoped.2
        (record {
          few = (omega (arith, fits.few.0), omega (arith, fits.few.1));
          low = omega (arith, fits.low);
          layered = omega (arith, fits.layered);
        }) (other_sign signs.Dot signs.CloseBrace y.0 d.0 y.2 refl) y.1 in
        let second = read_f layers (tally_with_event used e) alone s u.0 v.0 keeps scoped.3
        (record {
          few = (omega (arith, fits.few.0), omega (arith, fits.few.1));
          low = omega (arith, fits.low);
          layered = omega (arith, fits.layered);
        }) (other_sign signs.Dot signs.CloseBrace v.0 last v.2 refl) v.1 in
        if_is_read (read_event layers) s used ts (when test p q e f) k.0 last k.1
        (when_is_read (read_event layers) s used k.0 test p q e f c.0 d.0 g.0 last condition (braced_is_read (read_event layers) s used c.0 e x.0 y.0 d.0 x.1 first y.2) g.1
        (braced_is_read (read_event layers) s (tally_with_event used e) g.0 f u.0 v.0 last u.1 second v.2) fits.few fits.low)

  pub event_is_read : (t : Term) → IsRead t
  unfolding read_event
  event_is_read t zero used at s ts rest keeps scoped fits no_dot h = absurd (omega (arith, some_height t, fits.layered))
  event_is_read (always e) (suc layers) used at s ts rest keeps scoped fits no_dot h =
      closed_is_read (read_event layers) s used ts (always e) at rest
      (λ last dot k. by_always (read_event layers) s used ts k.0 last (always e) fits.few fits.low k.1
      (always_is_read s keeps ts k.0 last (scope_of m s) e scoped k.1
      (expression_is_read s keeps (scope_of m s) e k.0 last scoped k.2))) no_dot h
  event_is_read fresh (suc layers) used at s ts rest keeps scoped fits no_dot h =
      closed_is_read (read_event layers) s used ts fresh at rest
      (λ last dot k. by_fresh (read_event layers) s used ts last last fresh fits.few fits.low k
      (fresh_is_read s keeps ts last last k)) no_dot h
  event_is_read never (suc layers) used at s ts rest keeps scoped fits no_dot h =
      closed_is_read (read_event layers) s used ts never at rest
      (λ last dot k. by_never (read_event layers) s used ts last last never fits.few fits.low k
      (never_is_read s keeps ts last last k)) no_dot h
  event_is_read (throw e) (suc layers) used at s ts rest keeps scoped fits no_dot h =
      closed_is_read (read_event layers) s used ts (throw e) at rest
      (λ last dot k. by_throw (read_event layers) s used ts k.0 last (throw e) fits.few fits.low k.1
      (throw_is_read s keeps ts k.0 last e k.1 (expression_is_read s keeps (scope_of m s) e k.0 last scoped k.2)))
      no_dot h
  event_is_read (send p e) (suc layers) used at s ts rest keeps scoped fits no_dot h =
      closed_is_read (read_event layers) s used ts (send p e) at rest
      (λ last dot k.
      let i = k.2 in
      by_send (read_event layers) s used ts k.0 last (send p e) fits.few fits.low k.1
      (send_is_read s keeps ts k.0 last p e i.0 k.1 (primitive_is_read s keeps p k.0 i.0 i.1
      (no_dot_at_expression s e i.0 last i.2)) (expression_is_read s keeps (scope_of m s) e i.0 last scoped.1 i.2)))
      no_dot h
  event_is_read (recv p) (suc layers) used at s ts rest keeps scoped fits no_dot h =
      closed_is_read (read_event layers) s used ts (recv p) at rest
      (λ last dot k. by_recv (read_event layers) s used ts k.0 last (recv p) fits.few fits.low k.1 (recv_is_read s keeps ts k.0 last p k.1 (primitive_is_read s keeps p k.0 last k.2 dot))) no_dot h
  event_is_read (and_then e n f) (suc layers) used at s ts rest keeps scoped fits no_dot h = then_is_read e f n (event_is_read e) (event_is_read f) layers used at s ts rest keeps scoped fits no_dot h
  event_is_read (choose e f) (suc layers) used at s ts rest keeps scoped fits no_dot h = choice_is_read e f (event_is_read e) (event_is_read f) layers used at s ts rest keeps scoped fits no_dot h
  event_is_read (catch e n f) (suc layers) used at s ts rest keeps scoped fits no_dot h = caught_is_read e f n (event_is_read e) (event_is_read f) layers used at s ts rest keeps scoped fits no_dot h
  event_is_read (when test p q e f) (suc layers) used at s ts rest keeps scoped fits no_dot h =
      tested_is_read test p q e f (event_is_read e) (event_is_read f) layers used at s ts rest keeps scoped fits no_dot h
