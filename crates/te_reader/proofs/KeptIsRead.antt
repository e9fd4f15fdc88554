-- What is spelled and keeps the limits and the rules on names is read: statements, threads and programs.
use Rattle.std.proofs.Common.{◌≡◌, ◌≢◌, ℕ, zero, suc, ◌<◌, ◌≤◌, Bool, true, false, nat_lt, List, [], ◌∷◌, ◌++◌, length, take, refl, sym, ◌∙◌, ap, subst, append_assoc, length-append, arith}
use Rattle.std.specs.Prelude.{Some, None, nat_le, pos, if◌then◌else◌}
use Rattle.std.specs.List.{AllByRecursion}
use Rattle.std.proofs.lemmas.List.{append-nil}
use Rattle.std.proofs.lemmas.Bool.Decides.{nat_tests}
use Rattle.te_terms.specs.Expressions.{Expression}
use Rattle.te_terms.specs.Terms.{Term}
use Rattle.te_terms.specs.Limits.{IsWithinLimits}
use Rattle.te_script.specs.Scripts.{Scope, IsExpression, IsEvent, Statement, sync, emit, repeat, Thread, Program}
use Rattle.te_script.specs.Scripts.{with_register, AreStatements, AreDistinct, AreApart, IsThread, thread_names}
use Rattle.te_script.specs.Scripts.{IsProgram}
use Rattle.te_reader.specs.declared.token.Word.TheVariants as words
use Rattle.te_reader.specs.declared.token.Sign.TheVariants as signs
use Rattle.te_reader.specs.Tokens as tokens
use Rattle.te_reader.specs.Tokens.{Token, word, sign}
use Rattle.te_reader.specs.Heads.{word_first, sign_first, name_first, integer_first}
use Rattle.te_reader.specs.Grammar.{Span, is, ◌⨟◌, IsAt, IsNew, IsShortName, alone, spells_expression, spells_event}
use Rattle.te_reader.specs.Grammar.{spells_integer, spells_sync, spells_statements, spells_thread, spells_threads}
use Rattle.te_reader.specs.Grammar.{spells_names, spells_channels, spells_program}
use Rattle.te_reader.specs.NameReads.{Read, names_of, first_place_of, declared_in}
use Rattle.te_reader.specs.Tallies.{no_node}
use Rattle.te_reader.specs.Reads.{register_of, read_sync, read_written, read_emit, emit_or_sync, read_statement}
use Rattle.te_reader.specs.Reads.{read_times, Body, before_body, before_repeat, before_inside, before_brace, more_body}
use Rattle.te_reader.specs.Reads.{inside_body, read_body, read_thread, read_new_thread, read_threads, read_names}
use Rattle.te_reader.specs.Reads.{read_channels, read_program}
use Rattle.te_reader.proofs.ListsKept.{all_weaker, all_at}
use Rattle.te_reader.proofs.ReadIsSpelled.{scope_of}
use Rattle.te_reader.proofs.SpelledIsRead.{place_found, place_absent, declares, other_sign, InScope, expression_is_read}
use Rattle.te_reader.proofs.EventIsRead.{Fits, event_is_read}
use Rattle.te_terms.proofs.Lists.{whole_taken}

-- ---- the first registers

pub at_inside : (xs : List (List ℕ)) (r : ℕ) (n : List ℕ) → IsAt xs r n → r < length xs
at_inside [] r n at = absurd cc
at_inside (x ∷ xs) zero n at = omega arith
at_inside (x ∷ xs) (suc r) n at = omega (arith, at_inside xs r n at)

-- a name before place w is among the first w
pub at_taken : (xs : List (List ℕ)) (w r : ℕ) (n : List ℕ) → r < w → IsAt xs r n → IsAt (take w xs) r n
at_taken [] w r n h at = absurd cc
at_taken (x ∷ xs) zero r n h at = absurd (omega arith)
at_taken (x ∷ xs) (suc w) zero n h at = at
at_taken (x ∷ xs) (suc w) (suc r) n h at = at_taken xs w r n (omega arith) at

pub all_taken : {A : Type 0} (P : A → Type 0) (xs : List A) (w : ℕ) → AllByRecursion P xs → AllByRecursion P (take w xs)
all_taken P [] zero h = tt
all_taken P [] (suc w) h = tt
all_taken P (x ∷ xs) zero h = tt
all_taken P (x ∷ xs) (suc w) h = (h.0, all_taken P xs w h.1)

distinct_taken : (xs : List (List ℕ)) (w : ℕ) → AreDistinct xs → AreDistinct (take w xs)
distinct_taken [] zero d = tt
distinct_taken [] (suc w) d = tt
distinct_taken (x ∷ xs) zero d = tt
distinct_taken (x ∷ xs) (suc w) d = (all_taken (λ y. x ≢ y) xs w d.0, distinct_taken xs w d.1)

-- the name at place w is not among the first w, and comes next
pub new_behind : (xs : List (List ℕ)) (w : ℕ) (n : List ℕ) → AreDistinct xs → IsAt xs w n → IsNew n (take w xs)
new_behind [] w n d at = absurd cc
new_behind (x ∷ xs) zero n d at = tt
new_behind (x ∷ xs) (suc w) n d at = (unlike xs w d.0 at, new_behind xs w n d.1 at) where
  unlike : (ys : List (List ℕ)) (j : ℕ) → AllByRecursion (λ y. x ≢ y) ys → IsAt ys j n → x ≢ n
  unlike [] j h at = absurd cc
  unlike (y ∷ ys) zero h at = λ same. h.0 (let y_is : y ≡ n = cc in same ∙ sym y_is)
  unlike (y ∷ ys) (suc j) h at = unlike ys j h.1 at

pub next_taken : (xs : List (List ℕ)) (w : ℕ) (n : List ℕ) → IsAt xs w n → take w xs ++ n ∷ [] ≡ take (suc w) xs
next_taken [] w n at = absurd cc
next_taken (x ∷ xs) zero n at = let same : x ≡ n = cc in ap (λ y. y ∷ []) (sym same)
next_taken (x ∷ xs) (suc w) n at = ap (λ ys. x ∷ ys) (next_taken xs w n at)

pub length_taken : (xs : List (List ℕ)) (w : ℕ) → w ≤ length xs → length (take w xs) ≡ w
length_taken [] zero h = refl
length_taken [] (suc w) h = absurd (omega arith)
length_taken (x ∷ xs) zero h = refl
length_taken (x ∷ xs) (suc w) h = ap suc (length_taken xs w (omega arith))

-- a name that is apart from all channels is no channel
pub no_channel : (n : List ℕ) (channels : List (List ℕ)) → AllByRecursion (λ y. n ≢ y) channels → IsNew n channels
no_channel n channels h = all_weaker (λ y. n ≢ y) (λ y. y ≢ n) (λ y ne same. ne (sym same)) channels h

-- ---- statements

-- what a thread's registers keep
pub record Registers (channels registers : List (List ℕ)) : Type 0 where
  pub channels_distinct : AreDistinct channels
  pub distinct : AreDistinct registers
  pub few : length registers ≤ 8
  pub apart : AreApart registers channels

module _ (m : ℕ) (channels registers : List (List ℕ)) (keeps : Registers channels registers) where
  -- the register of a name is read as an old or the next one
  register_is_read : (w r : ℕ) (n : List ℕ) → r ≤ w → IsShortName n → IsAt registers r n → register_of channels (take w registers) n ≡ Some (r, take (with_register w r) registers)
  unfolding register_of
  register_is_read w r n most short at =
      let absent : first_place_of channels n ≡ None = place_absent channels n (no_channel n channels (all_at (λ x. AllByRecursion (λ y. x ≢ y) channels) registers r n keeps.apart at)) in
      by absent (nat_lt r w) refl where
        by : first_place_of channels n ≡ None → (b : Bool) → nat_lt r w ≡ b → register_of channels (take w registers) n ≡ Some (r, take (if b then w else suc r) registers)
        by absent true e =
            let before : r < w = grind (arith, nat_tests) in
            let there = place_found (take w registers) r n (distinct_taken registers w keeps.distinct) (at_taken registers w r n before at) in
            rw (absent, there) refl
        by absent false e =
            let same : r ≡ w = grind (arith, nat_tests) in
            let at_w : IsAt registers w n = subst (λ (x : ℕ). IsAt registers x n) same at in
            let new = new_behind registers w n keeps.distinct at_w in
            let inside = at_inside registers w n at_w in
            let long = length_taken registers w (omega (arith, inside)) in
            let more = declares 8 (take w registers) n (omega (arith, long, inside, keeps.few)) short new ∙ ap Some (next_taken registers w n at_w) in
            rw (absent, place_absent (take w registers) n new, more, long) (ap (λ x. Some (x, take (suc x) registers)) (sym same))

  in_scope : (w : ℕ) → InScope (names_of channels (take w registers))
  in_scope w = record { channels = keeps.channels_distinct; registers = distinct_taken registers w keeps.distinct; inners = tt; apart = tt }

  emit_is_read : (w : ℕ) (s : Scope) (x : Expression) (ts rest : List Token) → IsExpression s x
      → (spells_expression true (names_of channels (take w registers)) x ⨟ is (sign signs.Semicolon)) ts rest
      → read_emit channels (take w registers) ts ≡ Some (x, rest)
  unfolding read_emit sign_first
  emit_is_read w s x ts rest scoped h = rw (expression_is_read (names_of channels (take w registers)) (in_scope w) s x ts h.0 scoped h.1, h.2) refl

  sync_is_read : (w : ℕ) (t : Term) (ts rest : List Token) → IsEvent (scope_of m (names_of channels (take w registers))) t → IsWithinLimits t
      → (is (sign signs.Arrow) ⨟ is (word words.Sync) ⨟ spells_event true alone
      (names_of channels (take w registers)) t ⨟ is (sign signs.Semicolon)) ts rest
      → read_sync channels (take w registers) ts ≡ Some (t, rest)
  unfolding read_sync sign_first word_first
  sync_is_read w t ts rest scoped within h =
      let a = h.2 in
      let b = a.2 in
      let fits : Fits 32 no_node t = record { few = (omega (arith, within.few), omega (arith, within.few_fresh)); low = within.low; layered = within.low } in
      rw (h.1, a.1, event_is_read m t 32 no_node alone (names_of channels (take w registers)) a.0 b.0 (in_scope w) scoped fits (other_sign signs.Dot signs.Semicolon b.0 rest b.2 refl) b.1, b.2) refl

  -- the closing brace ends the statements
  body_ended : (w left : ℕ) (ts rest : List Token) → w ≡ length registers → ts ≡ sign signs.CloseBrace ∷ rest
      → read_body left channels false (take w registers) ts ≡ Some
      (record { statements = []; leading = 0; registers = registers }, rest)
  unfolding read_body sign_first
  body_ended w zero ts rest e f = rw (f, e, whole_taken registers) refl
  body_ended w (suc left) ts rest e f = rw (f, e, whole_taken registers) refl

  statement_then_body : (left w v : ℕ) (s : Statement) (body : Body) (ts after rest : List Token)
      → sign_first signs.CloseBrace ts ≡ None → word_first words.Repeat ts ≡ None
      → read_statement channels (take w registers) ts ≡ Some ((s, take v registers), after)
      → read_body left channels false (take v registers) after ≡ Some (body, rest) → read_body (suc left) channels false (take w registers) ts ≡ Some (before_body s body, rest)
  unfolding read_body more_body
  statement_then_body left w v s body ts after rest open_yet no_repeat e f = rw (open_yet, no_repeat, e, f) refl

  repeat_then_body : (left w times : ℕ) (body : Body) (ts behind inside rest : List Token)
      → ts ≡ word words.Repeat ∷ behind → read_times behind ≡ Some (times, inside)
      → read_body left channels true (take w registers) inside ≡ Some (body, rest)
      → read_body (suc left) channels false (take w registers) ts ≡ Some (before_repeat times body, rest)
  unfolding read_body more_body sign_first word_first
  repeat_then_body left w times body ts behind inside rest begins e f = rw (begins, e, f) refl

  last_then_body : (left w v : ℕ) (s : Statement) (body : Body) (ts after last rest : List Token)
      → read_written channels (take w registers) ts ≡ Some ((s, take v registers), after)
      → after ≡ sign signs.CloseBrace ∷ last
      → read_body left channels false (take v registers) last ≡ Some (body, rest) → read_body (suc left) channels true (take w registers) ts ≡ Some (before_brace s body, rest)
  unfolding read_body inside_body sign_first
  last_then_body left w v s body ts after last rest e close f = rw (e, close, f) refl

  sync_then_syncs : (left w v : ℕ) (s : Statement) (body : Body) (ts after rest : List Token)
      → read_written channels (take w registers) ts ≡ Some ((s, take v registers), after)
      → sign_first signs.CloseBrace after ≡ None
      → read_body left channels true (take v registers) after ≡ Some (body, rest) → read_body (suc left) channels true (take w registers) ts ≡ Some (before_inside s body, rest)
  unfolding read_body inside_body
  sync_then_syncs left w v s body ts after rest e open_yet f = rw (e, open_yet, f) refl

  emit_statement : (w : ℕ) (x : Expression) (ts inside after : List Token) → ts ≡ word words.Emit ∷ inside
      → read_emit channels (take w registers) inside ≡ Some (x, after)
      → read_statement channels (take w registers) ts ≡ Some ((emit x, take w registers), after)
  unfolding read_statement word_first
  emit_statement w x ts inside after begins e = rw (begins, e) refl

  sync_is_written : (w r : ℕ) (n : List ℕ) (t : Term) (ts inside after : List Token) → ts ≡ tokens.name n ∷ inside → read_sync channels (take w registers) inside ≡ Some (t, after)
      → register_of channels (take w registers) n ≡ Some (r, take (with_register w r) registers)
      → read_written channels (take w registers) ts ≡ Some ((sync r t, take (with_register w r) registers), after)
  unfolding read_written name_first
  sync_is_written w r n t ts inside after begins e f = rw (begins, e, f) refl

  sync_statement : (w v : ℕ) (s : Statement) (n : List ℕ) (ts inside after : List Token) → ts ≡ tokens.name n ∷ inside
      → read_written channels (take w registers) ts ≡ Some ((s, take v registers), after)
      → read_statement channels (take w registers) ts ≡ Some ((s, take v registers), after)
  unfolding read_statement word_first
  sync_statement w v s n ts inside after begins e = ap (λ o. emit_or_sync channels (take w registers) ts o) (no_word ts begins) ∙ e where
    no_word : (us : List Token) → us ≡ tokens.name n ∷ inside → word_first words.Emit us ≡ None
    no_word us f = rw f refl

  nothing_at_emit : (ts inside : List Token) → ts ≡ word words.Emit ∷ inside → (sign_first signs.CloseBrace ts ≡ None) × (word_first words.Repeat ts ≡ None)
  unfolding sign_first word_first
  nothing_at_emit ts inside e = rw e (refl, refl)

  nothing_at_name : (n : List ℕ) (ts inside : List Token) → ts ≡ tokens.name n ∷ inside → (sign_first signs.CloseBrace ts ≡ None) × (word_first words.Repeat ts ≡ None)
  unfolding sign_first word_first
  nothing_at_name n ts inside e = rw e (refl, refl)

  -- a register that is written is among all
  next_within : (w r : ℕ) → r < length registers → w ≤ length registers → with_register w r ≤ length registers
  next_within w r h k = by (nat_lt r w) where
    by : (b : Bool) → (if b then w else suc r) ≤ length registers
    by true = k
    by false = omega (arith, h)

  -- whether so many syncs of a repeat are still to come
  abbrev pub is_open : ℕ → Bool
  is_open zero = false
  is_open (suc left) = true

  some_open : (count : ℕ) → 0 < count → is_open count ≡ true
  some_open zero h = absurd (omega (arith, h))
  some_open (suc count) h = refl

  -- those begin with a name
  syncs_begin : (stmts : List Statement) (w left : ℕ) (ts middle : List Token) → spells_statements true channels registers w (suc left) stmts ts middle → sign_first signs.CloseBrace ts ≡ None
  syncs_begin [] w left ts middle h = absurd h
  syncs_begin (emit x ∷ stmts) w left ts middle h = absurd h
  syncs_begin (repeat times count ∷ stmts) w left ts middle h = absurd h
  syncs_begin (sync r t ∷ stmts) w left ts middle h = (nothing_at_name h.0 ts h.1.1.0 h.1.1.1).0

  times_is_read : (times : ℕ) (ts middle rest : List Token) → spells_integer (pos times) ts middle
      → middle ≡ sign signs.OpenBrace ∷ rest → 0 < times → times ≤ 10000 → read_times ts ≡ Some (times, rest)
  unfolding read_times integer_first sign_first
  times_is_read times ts middle rest h opened some most =
      let a : nat_le 1 times ≡ true = grind (arith, nat_tests, some) in
      let b : nat_le times 10000 ≡ true = grind (arith, nat_tests, most) in
      rw (h.2, h.1, a, b, opened) refl

  -- a sync, at the name that it begins with
  written_is_read : (w r : ℕ) (t : Term) (span : Span) (ts middle : List Token) → w ≤ length registers → r ≤ w
      → IsEvent (record { written = w; level = 0; channels = m }) t → IsWithinLimits t
      → (h : spells_sync true channels registers w r t span ts middle)
      → read_written channels (take w registers) ts ≡ Some ((sync r t, take (with_register w r) registers), h.1.1.2.2.2.2.0)
  written_is_read w r t span ts middle written most scope within h =
      let fits = h.1.0 in
      let k = h.1.1 in
      let a = k.2 in
      let b = a.2 in
      let c = b.2 in
      let d = c.2 in
      let long : length (take w registers) ≡ w = length_taken registers w written in
      let scoped : IsEvent (scope_of m (names_of channels (take w registers))) t = subst (λ (x : ℕ). IsEvent (record { written = x; level = 0; channels = m }) t) (sym long) scope in
      sync_is_written w r h.0 t ts k.0 d.0 k.1 (sync_is_read w t k.0 d.0 scoped within (a.0, a.1, (b.0, b.1, (c.0, c.1, d.1)))) (register_is_read w r h.0 most fits.1 fits.0)

  pub body_is_read : (stmts : List Statement) (w left open_left : ℕ) (ts middle rest : List Token)
      → w ≤ length registers → length stmts ≤ left → AreStatements m (length registers) w stmts
      → spells_statements true channels registers w open_left stmts ts middle
      → middle ≡ sign signs.CloseBrace ∷ rest → read_body left channels (is_open open_left) (take w registers) ts ≡ Some
      (record { statements = stmts; leading = open_left; registers = registers }, rest)
  body_is_read [] w left zero ts middle rest written most order h close = body_ended w left ts rest order (h ∙ close)
  body_is_read [] w left (suc open_left) ts middle rest written most order h close = absurd h
  body_is_read (s ∷ stmts) w zero open_left ts middle rest written most order h close = absurd (omega arith)
  body_is_read (repeat times count ∷ stmts) w (suc left) (suc open_left) ts middle rest written most order h close = absurd h
  body_is_read (repeat times count ∷ stmts) w (suc left) zero ts middle rest written most order h close =
      let k = h.1 in
      let number = k.2 in
      let brace = number.2 in
      let later = body_is_read stmts w left count brace.0 middle rest written (omega arith) order.1 brace.2 close in
      let inside : read_body left channels true (take w registers) brace.0 ≡ Some
      (record { statements = stmts; leading = count; registers = registers }, rest) =
      ap (λ b. read_body left channels b (take w registers) brace.0) (sym (some_open count h.0)) ∙ later in
      repeat_then_body left w times _ ts k.0 brace.0 rest k.1 (times_is_read times k.0 number.0 brace.0 number.1 brace.1 order.0.some_times order.0.most) inside
  body_is_read (emit x ∷ stmts) w (suc left) (suc open_left) ts middle rest written most order h close = absurd h
  body_is_read (emit x ∷ stmts) w (suc left) zero ts middle rest written most order h close =
      let inside = h.0 in
      let a = h.2 in
      let b = a.2 in
      let one = emit_is_read w (record { written = w; level = 0; channels = m }) x inside b.0 order.0 (a.0, a.1, b.1) in
      let later = body_is_read stmts w left zero b.0 middle rest written (omega arith) order.1 b.2 close in
      let none = nothing_at_emit ts inside h.1 in
      statement_then_body left w w (emit x) _ ts b.0 rest none.0 none.1 (emit_statement w x ts inside b.0 h.1 one) later
  body_is_read (sync r t ∷ stmts) w (suc left) zero ts middle rest written most order h close =
      let k = h.1.1 in
      let behind = k.2.2.2.2 in
      let one = written_is_read w r t (spells_statements true channels registers (with_register w r) 0 stmts) ts middle written order.0 order.1 order.2 h in
      let later = body_is_read stmts (with_register w r) left zero behind.0 middle rest (next_within w r (at_inside registers r h.0 h.1.0.0) written) (omega arith) order.3 behind.2 close in
      let none = nothing_at_name h.0 ts k.0 k.1 in
      statement_then_body left w (with_register w r) (sync r t) _ ts behind.0 rest none.0 none.1 (sync_statement w (with_register w r) (sync r t) h.0 ts k.0 behind.0 k.1 one) later
  body_is_read (sync r t ∷ stmts) w (suc left) (suc zero) ts middle rest written most order h close =
      let behind = h.1.1.2.2.2.2 in
      let last = behind.2 in
      let one = written_is_read w r t (is (sign signs.CloseBrace) ⨟ spells_statements true channels registers (with_register w r) 0 stmts) ts middle written order.0 order.1 order.2 h in
      let later = body_is_read stmts (with_register w r) left zero last.0 middle rest (next_within w r (at_inside registers r h.0 h.1.0.0) written) (omega arith) order.3 last.2 close in
      last_then_body left w (with_register w r) (sync r t) _ ts behind.0 last.0 rest one last.1 later
  body_is_read (sync r t ∷ stmts) w (suc left) (suc (suc open_left)) ts middle rest written most order h close =
      let behind = h.1.1.2.2.2.2 in
      let one = written_is_read w r t (spells_statements true channels registers (with_register w r) (suc open_left) stmts) ts middle written order.0 order.1 order.2 h in
      let later = body_is_read stmts (with_register w r) left (suc open_left) behind.0 middle rest (next_within w r (at_inside registers r h.0 h.1.0.0) written) (omega arith) order.3 behind.2 close in
      sync_then_syncs left w (with_register w r) (sync r t) _ ts behind.0 rest one (syncs_begin stmts (with_register w r) open_left behind.0 middle behind.2) later

-- ---- threads

-- no register is written at first
from_none : (channels registers : List (List ℕ)) (left : ℕ) (ts : List Token) (o : Read Body) → read_body left channels false (take 0 registers) ts ≡ o → read_body left channels false [] ts ≡ o
from_none channels [] left ts o e = e
from_none channels (r ∷ rs) left ts o e = e

pub thread_is_read : (m : ℕ) (channels : List (List ℕ)) (t : Thread) (ts behind rest : List Token) → AreDistinct channels → IsThread m t → AreApart t.registers channels
    → ts ≡ word words.Thread ∷ behind → spells_thread true channels t ts rest → read_thread channels behind ≡ Some (t, rest)
unfolding read_thread name_first sign_first
thread_is_read m channels t ts behind rest distinct kept apart begins h =
    let a = h.1 in
    let b = a.2 in
    let c = b.2 in
    let d = c.2 in
    let same : behind ≡ a.0 = let two : word words.Thread ∷ behind ≡ word words.Thread ∷ a.0 = sym begins ∙ a.1 in cc in
    let keeps : Registers channels t.registers = record { channels_distinct = distinct; distinct = kept.distinct; few = kept.registers; apart = apart } in
    let body = body_is_read m channels t.registers keeps t.statements 0 1024 0 c.0 d.0 rest (omega arith) kept.statements kept.in_order d.1 d.2 in
    let short : nat_le (length t.name) 32 ≡ true = grind (arith, nat_tests, h.0) in
    rw (same, b.1, short, c.1, from_none channels t.registers 1024 c.0 _ body) refl

-- every two of a list are apart, so a name in it is new to those before
new_before : (xs ys : List (List ℕ)) (n : List ℕ) → AreDistinct (xs ++ n ∷ ys) → IsNew n xs
new_before [] ys n d = tt
new_before (x ∷ xs) ys n d = (first xs d.0, new_before xs ys n d.1) where
  first : (zs : List (List ℕ)) → AllByRecursion (λ y. x ≢ y) (zs ++ n ∷ ys) → x ≢ n
  first [] h = h.0
  first (z ∷ zs) h = first zs h.1

no_more_threads : (left : ℕ) (channels names : List (List ℕ)) → read_threads left channels names [] ≡ Some ([], [])
unfolding read_threads word_first
no_more_threads zero channels names = refl
no_more_threads (suc left) channels names = refl

new_thread_is_read : (channels names : List (List ℕ)) (t : Thread) (behind rest : List Token)
    → read_thread channels behind ≡ Some (t, rest) → IsNew t.name names
    → read_new_thread channels names behind ≡ Some ((t, names ++ t.name ∷ []), rest)
unfolding read_new_thread
new_thread_is_read channels names t behind rest e new = rw (e, place_absent names t.name new) refl

thread_then_more : (left : ℕ) (channels names more : List (List ℕ)) (t : Thread) (threads : List Thread)
    (ts behind after rest : List Token) → ts ≡ word words.Thread ∷ behind
    → read_new_thread channels names behind ≡ Some ((t, more), after)
    → read_threads left channels more after ≡ Some (threads, rest) → read_threads (suc left) channels names ts ≡ Some (t ∷ threads, rest)
unfolding read_threads word_first
thread_then_more left channels names more t threads ts behind after rest begins e f = rw (begins, e, f) refl

pub threads_are_read : (m : ℕ) (channels : List (List ℕ)) (threads : List Thread) (left : ℕ) (names : List (List ℕ))
    (ts : List Token) → AreDistinct channels → length threads ≤ left → AreDistinct (names ++ thread_names threads)
    → AllByRecursion (IsThread m) threads → AllByRecursion (λ t. AreApart t.registers channels) threads → spells_threads true channels threads ts []
    → read_threads left channels names ts ≡ Some (threads, [])
threads_are_read m channels [] left names ts distinct most apart kept regs h = rw h (no_more_threads left channels names)
threads_are_read m channels (t ∷ threads) zero names ts distinct most apart kept regs h = absurd (omega arith)
threads_are_read m channels (t ∷ threads) (suc left) names ts distinct most apart kept regs h =
    let begins = h.1.1 in
    let one = thread_is_read m channels t ts begins.0 h.0 distinct kept.0 regs.0 begins.1 h.1 in
    let new = new_thread_is_read channels names t begins.0 h.0 one (new_before names (thread_names threads) t.name apart) in
    let all : AreDistinct ((names ++ t.name ∷ []) ++ thread_names threads) = subst (λ (xs : List (List ℕ)). AreDistinct xs) (sym (append_assoc names (t.name ∷ []) (thread_names threads))) apart in
    let later = threads_are_read m channels threads left (names ++ t.name ∷ []) h.0 distinct (omega arith) all kept.1 regs.1 h.2 in
    thread_then_more left channels names (names ++ t.name ∷ []) t threads ts begins.0 h.0 [] begins.1 new later

-- ---- channels

names_ended : (left : ℕ) (names : List (List ℕ)) (ts rest : List Token) → ts ≡ sign signs.Semicolon ∷ rest → read_names left names ts ≡ Some (names, rest)
unfolding read_names name_first sign_first
names_ended zero names ts rest e = rw e refl
names_ended (suc left) names ts rest e = rw e refl

name_then_more : (left : ℕ) (names more all : List (List ℕ)) (n : List ℕ) (ts behind rest : List Token)
    → ts ≡ tokens.name n ∷ behind → declared_in 256 names n ≡ Some more → read_names left more behind ≡ Some (all, rest)
    → read_names (suc left) names ts ≡ Some (all, rest)
unfolding read_names name_first
name_then_more left names more all n ts behind rest begins e f = rw (begins, e, f) refl

names_are_read : (added : List (List ℕ)) (left : ℕ) (names : List (List ℕ)) (ts middle rest : List Token)
    → length added ≤ left → length (names ++ added) ≤ 256 → AreDistinct (names ++ added)
    → spells_names true added ts middle → middle ≡ sign signs.Semicolon ∷ rest
    → read_names left names ts ≡ Some (names ++ added, rest)
names_are_read [] left names ts middle rest most few distinct h close = rw (append-nil names) (names_ended left names ts rest (h ∙ close))
names_are_read (n ∷ added) zero names ts middle rest most few distinct h close = absurd (omega arith)
names_are_read (n ∷ added) (suc left) names ts middle rest most few distinct h close =
    let a = h.1 in
    let joined = append_assoc names (n ∷ []) added in
    let one = declares 256 names n (omega (arith, few, length-append names (n ∷ added))) h.0 (new_before names added n distinct) in
    let later = names_are_read added left (names ++ n ∷ []) a.0 middle rest (omega arith) (rw joined few) (subst (λ (xs : List (List ℕ)). AreDistinct xs) (sym joined) distinct) a.2 close in
    name_then_more left names (names ++ n ∷ []) (names ++ n ∷ added) n ts a.0 rest a.1 one (later ∙ ap (λ xs. Some (xs, rest)) joined)

pub channels_are_read : (channels : List (List ℕ)) (ts behind middle : List Token) → length channels ≤ 256
    → AreDistinct channels → spells_channels true channels ts middle → middle ≡ word words.Thread ∷ behind
    → read_channels ts ≡ Some (channels, middle)
unfolding read_channels word_first
channels_are_read [] ts behind middle few distinct h begins = rw (h, begins) refl
channels_are_read (n ∷ ns) ts behind middle few distinct h begins =
    let a = h.2 in
    let names = names_are_read (n ∷ ns) 256 [] h.0 a.0 middle few few distinct a.1 a.2 in
    rw (h.1, names) refl

-- ---- programs

pub threads_begin : (channels : List (List ℕ)) (threads : List Thread) (ts rest : List Token) → 0 < length threads
    → spells_threads true channels threads ts rest → (behind : List Token) × (ts ≡ word words.Thread ∷ behind)
threads_begin channels [] ts rest some h = absurd (omega arith)
threads_begin channels (t ∷ threads) ts rest some h = (h.1.1.0, h.1.1.1)

pub program_is_read : (p : Program) (ts : List Token) → IsProgram p → spells_program true p ts [] → read_program ts ≡ Some (p, [])
unfolding read_program
program_is_read p ts kept h =
    let begins = threads_begin p.channels p.threads h.0 [] kept.some_thread h.2 in
    let channels = channels_are_read p.channels ts begins.0 h.0 kept.channels kept.channel_names h.1 begins.1 in
    let threads = threads_are_read (length p.channels) p.channels p.threads 64 [] h.0 kept.channel_names kept.threads kept.names kept.each kept.apart h.2 in
    let some : nat_lt 0 (length p.threads) ≡ true = grind (arith, nat_tests, kept.some_thread) in
    rw (channels, threads, some) refl
