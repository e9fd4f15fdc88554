-- What is spelled by tokens has names: its channels, threads and registers are NAME tokens.
use Rattle.std.proofs.Common.{◌≡◌, ℕ, zero, suc, ◌≤◌, Bool, true, false, nat_lt, List, [], ◌∷◌, length, take, pos, refl, sym, subst, inl, inr, arith}
use Rattle.std.specs.Prelude.{ℤ, if◌then◌else◌}
use Rattle.std.specs.List.{AllByRecursion}
use Rattle.std.proofs.lemmas.Bool.Decides.{nat_tests}
use Rattle.te_terms.specs.Values.{fits_i64}
use Rattle.te_terms.specs.Expressions.{Variable, register, name, known, Primitive, int, chan, part, Calculation, one, both, Expression, whole, tuple}
use Rattle.te_terms.specs.Terms.{Term, always, never, fresh, throw, send, recv, and_then, choose, catch, when}
use Rattle.te_script.specs.Names.{IsName}
use Rattle.te_script.specs.Scripts.{Statement, sync, emit, repeat, Thread, Program, with_register, AreStatements, IsThread, IsProgram, HasNames, IsScript}
use Rattle.te_terms.proofs.Lists.{AllByRecursion-append, whole_taken}
use Rattle.te_reader.specs.declared.token.Word.TheVariants as words
use Rattle.te_reader.specs.declared.token.Sign.TheVariants as signs
use Rattle.te_reader.specs.Tokens as tokens
use Rattle.te_reader.specs.Tokens.{Token, word, sign, AreTokens}
use Rattle.te_reader.specs.Grammar.{Span, is, ◌⨟◌, either, some_name, span_under, Names, IsAt, IsFreeName, with_inner}
use Rattle.te_reader.specs.Grammar.{bound_name, binds, spells_variable, spells_integer, spells_primitive}
use Rattle.te_reader.specs.Grammar.{spells_calculation, spells_further, spells_inside, spells_expression, EventPlace}
use Rattle.te_reader.specs.Grammar.{alone, in_do, in_choose, closed_span, closed_do, closed_choose, in_braces, do_parts}
use Rattle.te_reader.specs.Grammar.{test_sign, arith_sign, spells_event, written_names, spells_sync, spells_statements}
use Rattle.te_reader.specs.Grammar.{spells_thread, spells_threads, spells_names, spells_channels, spells_program}
use Rattle.te_reader.proofs.KeptIsRead.{next_taken}

-- ---- behind a span tokens are left

abbrev pub Leaves : Span → Type 0
Leaves span = (ts rest : List Token) → span ts rest → AreTokens ts → AreTokens rest

leaves_is : (t : Token) → Leaves (is t)
leaves_is t ts rest h k = (subst AreTokens h k).1

leaves_both : (first second : Span) → Leaves first → Leaves second → Leaves (first ⨟ second)
leaves_both first second f g ts rest h k = g h.0 rest h.2 (f ts h.0 h.1 k)

leaves_either : (first second : Span) → Leaves first → Leaves second → Leaves (either first second)
leaves_either first second f g ts rest (inl h) k = f ts rest h k
leaves_either first second f g ts rest (inr h) k = g ts rest h k

leaves_named : (span : List ℕ → Span) → ((n : List ℕ) → Leaves (span n)) → Leaves (some_name span)
leaves_named span f ts rest h k = f h.0 ts rest h.1 k

leaves_under : (rules : Bool) (fact : Type 0) (span : Span) → Leaves span → Leaves (span_under rules fact span)
leaves_under rules fact span f ts rest h k = f ts rest h.1 k

leaves_bound : (n : List ℕ) → Leaves (bound_name n)
leaves_bound n = leaves_either (is (tokens.name n)) (is (tokens.inner n)) (leaves_is (tokens.name n)) (leaves_is (tokens.inner n))

leaves_binds : (rules : Bool) (s : Names) (next : List ℕ → Span) → ((n : List ℕ) → Leaves (next n)) → Leaves (binds rules s next)
leaves_binds rules s next f = leaves_named _ (λ n. leaves_under rules (IsFreeName s n) (bound_name n ⨟ next n) (leaves_both (bound_name n) (next n) (leaves_bound n) (f n)))

leaves_integer : (z : ℤ) → Leaves (spells_integer z)
leaves_integer z ts rest h k = leaves_is (tokens.integer h.0) ts rest h.2 k

-- ---- expressions

module _ (rules : Bool) (s : Names) where
  leaves_variable : (x : Variable) → Leaves (spells_variable rules s x)
  leaves_variable (register r) = leaves_named _ (λ n. leaves_under rules (IsAt s.registers r n) (is (tokens.name n)) (leaves_is (tokens.name n)))
  leaves_variable (name l) = leaves_named _ (λ n. leaves_under rules (IsAt s.inners l n) (bound_name n) (leaves_bound n))
  leaves_variable (known v) = λ ts rest h k. absurd h

  leaves_primitive : (p : Primitive) → Leaves (spells_primitive rules s p)
  leaves_primitive (int z) = leaves_under rules (fits_i64 z ≡ true) (spells_integer z) (leaves_integer z)
  leaves_primitive (chan c) = leaves_named _ (λ n. leaves_under rules (IsAt s.channels c n) (is (tokens.name n)) (leaves_is (tokens.name n)))
  leaves_primitive (part x d) =
      leaves_under true (d ≤ 3) (spells_variable rules s x ⨟ is (sign signs.Dot) ⨟ spells_integer (pos d))
      (leaves_both (spells_variable rules s x) (is (sign signs.Dot) ⨟ spells_integer (pos d)) (leaves_variable x)
      (leaves_both (is (sign signs.Dot)) (spells_integer (pos d)) (leaves_is (sign signs.Dot))
      (leaves_integer (pos d))))

  leaves_calculation : (c : Calculation) → Leaves (spells_calculation rules s c)
  leaves_calculation (one p) = leaves_primitive p
  leaves_calculation (both o p q) = leaves_both (spells_primitive rules s p) _ (leaves_primitive p) (leaves_both (is (sign (arith_sign o))) _ (leaves_is (sign (arith_sign o))) (leaves_primitive q))

  leaves_further : (cs : List Calculation) → Leaves (spells_further rules s cs)
  leaves_further [] = leaves_is (sign signs.Close)
  leaves_further (c ∷ cs) = leaves_both (is (sign signs.Comma)) _ (leaves_is (sign signs.Comma)) (leaves_both (spells_calculation rules s c) _ (leaves_calculation c) (leaves_further cs))

  leaves_inside : (cs : List Calculation) → Leaves (spells_inside rules s cs)
  leaves_inside [] = leaves_is (sign signs.Close)
  leaves_inside (c ∷ cs) = leaves_both (spells_calculation rules s c) _ (leaves_calculation c) (leaves_further cs)

  leaves_expression : (e : Expression) → Leaves (spells_expression rules s e)
  leaves_expression (whole x) = leaves_variable x
  leaves_expression (tuple cs) = leaves_both (is (sign signs.Open)) _ (leaves_is (sign signs.Open)) (leaves_inside cs)

-- ---- events

leaves_close : (event : Span) → Leaves event → Leaves (event ⨟ is (sign signs.CloseBrace))
leaves_close event f = leaves_both event (is (sign signs.CloseBrace)) f (leaves_is (sign signs.CloseBrace))

leaves_closed : (at : EventPlace) (event : Span) → Leaves event → Leaves (closed_span at event)
leaves_closed alone event f = f
leaves_closed in_do event f = leaves_close event f
leaves_closed in_choose event f = leaves_close event f

leaves_closed_do : (at : EventPlace) (event parts : Span) → Leaves event → Leaves parts → Leaves (closed_do at event parts)
leaves_closed_do in_do event parts f g = leaves_either _ parts (leaves_close event f) g
leaves_closed_do alone event parts f g = f
leaves_closed_do in_choose event parts f g = leaves_close event f

leaves_closed_choose : (at : EventPlace) (event events : Span) → Leaves event → Leaves events → Leaves (closed_choose at event events)
leaves_closed_choose in_choose event events f g = leaves_either _ events (leaves_close event f) g
leaves_closed_choose alone event events f g = f
leaves_closed_choose in_do event events f g = leaves_close event f

leaves_braces : (event : Span) → Leaves event → Leaves (in_braces event)
leaves_braces event f = leaves_both (is (sign signs.OpenBrace)) _ (leaves_is (sign signs.OpenBrace)) (leaves_close event f)

leaves_event : (rules : Bool) (at : EventPlace) (s : Names) (t : Term) → Leaves (spells_event rules at s t)
leaves_event rules at s (always e) = leaves_closed at _ (leaves_both (is (word words.Always)) _ (leaves_is (word words.Always)) (leaves_expression rules s e))
leaves_event rules at s never = leaves_closed at _ (leaves_is (word words.Never))
leaves_event rules at s fresh = leaves_closed at _ (leaves_is (word words.Fresh))
leaves_event rules at s (throw e) = leaves_closed at _ (leaves_both (is (word words.Throw)) _ (leaves_is (word words.Throw)) (leaves_expression rules s e))
leaves_event rules at s (send p e) =
    leaves_closed at _ (leaves_both (is (word words.Send)) _ (leaves_is (word words.Send)) (leaves_both (spells_primitive rules s p) _ (leaves_primitive rules s p) (leaves_expression rules s e)))
leaves_event rules at s (recv p) = leaves_closed at _ (leaves_both (is (word words.Recv)) _ (leaves_is (word words.Recv)) (leaves_primitive rules s p))
leaves_event rules at s (and_then e n f) =
    let parts : Leaves (binds rules s (λ x. do_parts (spells_event rules alone s e) (spells_event rules in_do (with_inner s x) f))) =
    leaves_binds rules s _ (λ x. leaves_both (is (sign signs.Arrow)) _ (leaves_is (sign signs.Arrow))
    (leaves_both (spells_event rules alone s e) _ (leaves_event rules alone s e)
    (leaves_both (is (sign signs.Semicolon)) _ (leaves_is (sign signs.Semicolon))
    (leaves_event rules in_do (with_inner s x) f)))) in
    leaves_closed_do at _ _ (leaves_both (is (word words.Do)) _ (leaves_is (word words.Do)) (leaves_both (is (sign signs.OpenBrace)) _ (leaves_is (sign signs.OpenBrace)) parts)) parts
leaves_event rules at s (choose e f) =
    let events : Leaves (spells_event rules alone s e ⨟ is (sign signs.Bar) ⨟ spells_event rules in_choose s f) =
    leaves_both (spells_event rules alone s e) _ (leaves_event rules alone s e) (leaves_both (is (sign signs.Bar)) _ (leaves_is (sign signs.Bar)) (leaves_event rules in_choose s f)) in
    leaves_closed_choose at _ _ (leaves_both (is (word words.Choose)) _ (leaves_is (word words.Choose)) (leaves_both (is (sign signs.OpenBrace)) _ (leaves_is (sign signs.OpenBrace)) events)) events
leaves_event rules at s (catch e n h) =
    leaves_closed at _
    (leaves_both (is (word words.Try)) _ (leaves_is (word words.Try)) (leaves_both (in_braces (spells_event rules alone s e)) _ (leaves_braces _ (leaves_event rules alone s e))
    (leaves_both (is (word words.Catch)) _ (leaves_is (word words.Catch)) (leaves_binds rules s _ (λ x. leaves_braces _ (leaves_event rules alone (with_inner s x) h))))))
leaves_event rules at s (when test p q e f) =
    leaves_closed at _
    (leaves_both (is (word words.If)) _ (leaves_is (word words.If))
    (leaves_both (spells_primitive rules s p) _ (leaves_primitive rules s p)
    (leaves_both (is (sign (test_sign test))) _ (leaves_is (sign (test_sign test)))
    (leaves_both (spells_primitive rules s q) _ (leaves_primitive rules s q) (leaves_both (in_braces (spells_event rules alone s e)) _ (leaves_braces _ (leaves_event rules alone s e))
    (leaves_both (is (word words.Else)) _ (leaves_is (word words.Else)) (leaves_braces _ (leaves_event rules alone s f))))))))

-- ---- registers

-- the first registers are names, and so is the one that is written then
with_one : (registers : List (List ℕ)) (w r : ℕ) (n : List ℕ) → AllByRecursion IsName (take w registers) → r ≤ w
    → IsAt registers r n → IsName n → AllByRecursion IsName (take (with_register w r) registers)
with_one registers w r n all most at h = by (nat_lt r w) refl where
  by : (b : Bool) → nat_lt r w ≡ b → AllByRecursion IsName (take (if b then w else suc r) registers)
  by true e = all
  by false e =
      let same : r ≡ w = grind (arith, nat_tests, most, e) in
      let at_w : IsAt registers w n = subst (λ (x : ℕ). IsAt registers x n) same at in
      subst (λ (x : ℕ). AllByRecursion IsName (take (suc x) registers)) (sym same)
      (subst (λ xs. AllByRecursion IsName xs) (next_taken registers w n at_w)
      (AllByRecursion-append IsName (take w registers) n all h))

-- a NAME at the front, which is short
first_name : (n : List ℕ) (ts rest : List Token) → length n ≤ 32 → ts ≡ tokens.name n ∷ rest → AreTokens ts → IsName n × AreTokens rest
first_name n ts rest short e k = let both = subst AreTokens e k in (record { identifier = both.0; short = short }, both.1)

-- a sync, and the name of its register
sync_named : (channels registers : List (List ℕ)) (w r : ℕ) (t : Term) (more : Span) (ts rest : List Token) → spells_sync true channels registers w r t more ts rest → AreTokens ts
    → (n : List ℕ) × IsAt registers r n × IsName n × (middle : List Token) × more middle rest × AreTokens middle
sync_named channels registers w r t more ts rest h k =
    let first = first_name h.0 ts h.1.1.0 h.1.0.1 h.1.1.1 k in
    let a = h.1.1.2 in
    let b = leaves_is (sign signs.Arrow) _ _ a.1 first.1 in
    let c = leaves_is (word words.Sync) _ _ a.2.1 b in
    let d = leaves_event true alone (written_names channels registers w) t _ _ a.2.2.1 c in
    let e = leaves_is (sign signs.Semicolon) _ _ a.2.2.2.1 d in
    (h.0, h.1.0.0, first.0, a.2.2.2.0, a.2.2.2.2, e)

registers_named : (m : ℕ) (channels registers : List (List ℕ)) (w left : ℕ) (ss : List Statement) (ts rest : List Token)
    → AreStatements m (length registers) w ss → AllByRecursion IsName (take w registers)
    → spells_statements true channels registers w left ss ts rest → AreTokens ts → AllByRecursion IsName registers × AreTokens rest
registers_named m channels registers w zero [] ts rest order all h k = (
  subst (λ xs. AllByRecursion IsName xs) (whole_taken registers)
      (subst (λ (x : ℕ). AllByRecursion IsName (take x registers)) order all),
  subst AreTokens h k,
)
registers_named m channels registers w (suc left) [] ts rest order all h k = absurd h
registers_named m channels registers w zero (sync r t ∷ ss) ts rest order all h k =
    let s = sync_named channels registers w r t (spells_statements true channels registers (with_register w r) zero ss) ts rest h k in
    registers_named m channels registers (with_register w r) zero ss s.3 rest order.3 (with_one registers w r s.0 all order.0 s.1 s.2) s.4 s.5
registers_named m channels registers w (suc zero) (sync r t ∷ ss) ts rest order all h k =
    let s = sync_named channels registers w r t (is (sign signs.CloseBrace) ⨟ spells_statements true channels registers (with_register w r) zero ss) ts rest h k in
    registers_named m channels registers (with_register w r) zero ss s.4.0 rest order.3 (with_one registers w r s.0 all order.0 s.1 s.2) s.4.2 (leaves_is (sign signs.CloseBrace) _ _ s.4.1 s.5)
registers_named m channels registers w (suc (suc left)) (sync r t ∷ ss) ts rest order all h k =
    let s = sync_named channels registers w r t (spells_statements true channels registers (with_register w r) (suc left) ss) ts rest h k in
    registers_named m channels registers (with_register w r) (suc left) ss s.3 rest order.3 (with_one registers w r s.0 all order.0 s.1 s.2) s.4 s.5
registers_named m channels registers w zero (emit x ∷ ss) ts rest order all h k =
    let b = leaves_is (word words.Emit) _ _ h.1 k in
    let c = leaves_expression true (written_names channels registers w) x _ _ h.2.1 b in
    let d = leaves_is (sign signs.Semicolon) _ _ h.2.2.1 c in
    registers_named m channels registers w zero ss _ rest order.1 all h.2.2.2 d
registers_named m channels registers w (suc left) (emit x ∷ ss) ts rest order all h k = absurd h
registers_named m channels registers w zero (repeat times count ∷ ss) ts rest order all h k =
    let b = leaves_is (word words.Repeat) _ _ h.1.1 k in
    let c = leaves_integer (pos times) _ _ h.1.2.1 b in
    let d = leaves_is (sign signs.OpenBrace) _ _ h.1.2.2.1 c in
    registers_named m channels registers w count ss _ rest order.1 all h.1.2.2.2 d
registers_named m channels registers w (suc left) (repeat times count ∷ ss) ts rest order all h k = absurd h

none_taken : (registers : List (List ℕ)) → AllByRecursion IsName (take 0 registers)
none_taken [] = tt
none_taken (r ∷ rs) = tt

-- the registers of a thread, behind its open brace
pub body_named : (m : ℕ) (channels registers : List (List ℕ)) (ss : List Statement) (ts rest : List Token) → AreStatements m (length registers) 0 ss
    → (spells_statements true channels registers 0 0 ss ⨟ is (sign signs.CloseBrace)) ts rest → AreTokens ts → AllByRecursion IsName registers × AreTokens rest
body_named m channels registers ss ts rest order h k =
    let body = registers_named m channels registers 0 0 ss ts h.0 order (none_taken registers) h.1 k in
    (body.0, leaves_is (sign signs.CloseBrace) _ _ h.2 body.1)

-- ---- threads and programs

thread_named : (m : ℕ) (channels : List (List ℕ)) (t : Thread) (ts rest : List Token) → IsThread m t → spells_thread true channels t ts rest → AreTokens ts → HasNames t × AreTokens rest
thread_named m channels t ts rest kept h k =
    let a = leaves_is (word words.Thread) _ _ h.1.1 k in
    let b = first_name t.name _ _ h.0 h.1.2.1 a in
    let c = leaves_is (sign signs.OpenBrace) _ _ h.1.2.2.1 b.1 in
    let body = body_named m channels t.registers t.statements _ rest kept.in_order h.1.2.2.2 c in
    (record { name = b.0; registers = body.0 }, body.1)

threads_named : (m : ℕ) (channels : List (List ℕ)) (threads : List Thread) (ts rest : List Token)
    → AllByRecursion (IsThread m) threads → spells_threads true channels threads ts rest → AreTokens ts
    → AllByRecursion HasNames threads
threads_named m channels [] ts rest kept h k = tt
threads_named m channels (t ∷ threads) ts rest kept h k =
    let first = thread_named m channels t ts h.0 kept.0 h.1 k in
    (first.0, threads_named m channels threads h.0 rest kept.1 h.2 first.1)

names_named : (names : List (List ℕ)) (ts rest : List Token) → spells_names true names ts rest → AreTokens ts → AllByRecursion IsName names × AreTokens rest
names_named [] ts rest h k = (tt, subst AreTokens h k)
names_named (n ∷ names) ts rest h k =
    let first = first_name n ts h.1.0 h.0 h.1.1 k in
    let later = names_named names h.1.0 rest h.1.2 first.1 in
    ((first.0, later.0), later.1)

channels_named : (channels : List (List ℕ)) (ts rest : List Token) → spells_channels true channels ts rest → AreTokens ts → AllByRecursion IsName channels × AreTokens rest
channels_named [] ts rest h k = (tt, subst AreTokens h k)
channels_named (n ∷ channels) ts rest h k =
    let a = leaves_is (word words.Channels) _ _ h.1 k in
    let names = names_named (n ∷ channels) _ _ h.2.1 a in
    (names.0, leaves_is (sign signs.Semicolon) _ _ h.2.2 names.1)

-- a program that keeps the limits and the rules on names is a script, where tokens spell it
pub spelled_is_script : (p : Program) (ts rest : List Token) → IsProgram p → spells_program true p ts rest → AreTokens ts → IsScript p
spelled_is_script p ts rest kept h k =
    let channels = channels_named p.channels ts h.0 h.1 k in
    record { program = kept; channels = channels.0; threads = threads_named (length p.channels) p.channels p.threads h.0 rest kept.each h.2 channels.1 }
