-- What is gone through without a fault is spelled, and keeps the limits and the rules on names: statements, threads and scripts.
use Rattle.std.proofs.Common.{◌≡◌, ℕ, zero, suc, ◌+◌, ◌-◌, ◌<◌, ◌≤◌, Bool, true, false, not, nat_lt, nat_le, max, List}
use Rattle.std.proofs.Common.{[], ◌∷◌, ◌++◌, length, take, refl, sym, ◌∙◌, ap, subst, arith, append_assoc}
use Rattle.std.proofs.Common.{length-append}
use Rattle.std.specs.Prelude.{None, ◌&&◌, ℤ, pos, negsuc}
use Rattle.std.specs.List.{AllByRecursion}
use Rattle.std.proofs.lemmas.List.{append-nil}
use Rattle.std.proofs.lemmas.Bool.Decides.{nat_tests}
use Rattle.te_terms.specs.Terms.{Term}
use Rattle.te_terms.specs.Measures.{height, node_count}
use Rattle.te_terms.specs.Limits.{IsWithinLimits}
use Rattle.te_script.specs.Scripts.{IsEvent, Statement, sync, emit, repeat, AreSyncs, Thread, Program, with_register, AreStatements, AreDistinct, AreApart, IsThread, thread_names, IsProgram}
use Rattle.te_reader.specs.declared.token.Word.TheVariants as words
use Rattle.te_reader.specs.declared.token.Sign.TheVariants as signs
use Rattle.te_reader.specs.declared.cause.Which.TheVariants as limits
use Rattle.te_reader.specs.declared.cause.Cause.TheVariants as causes
use Rattle.te_reader.specs.declared.part.Role.TheVariants as roles
use Rattle.te_reader.specs.declared.part.Part.{Part}
use Rattle.te_reader.specs.declared.part.Part.TheVariants as parts
use Rattle.te_reader.specs.Tokens as tokens
use Rattle.te_reader.specs.Tokens.{Token, word, sign}
use Rattle.te_reader.specs.Grammar.{Span, is, ◌⨟◌, IsAt, IsNew, IsShortName, alone, spells_expression, spells_event}
use Rattle.te_reader.specs.Grammar.{spells_sync, behind_sync, spells_statements, spells_threads, spells_names}
use Rattle.te_reader.specs.Grammar.{spells_channels, spells_program}
use Rattle.te_reader.specs.Integers.{integer_value}
use Rattle.te_terms.specs.Values.{fits_i64}
use Rattle.te_reader.specs.Forms.{sync_behind}
use Rattle.te_reader.specs.Spots.{token, over}
use Rattle.te_reader.specs.Rules as rules
use Rattle.te_reader.specs.Rules.{Context, nothing_before, is_count, is_among, whole_event, first_broken, check, too_long, too_many_statements}
use Rattle.te_reader.specs.Tallies.{no_node, tally_with_event}
use Rattle.te_reader.specs.Runs.{pick, pick_plain, run}
use Rattle.te_reader.proofs.ListsKept.{distinct_push, at_more, at_last, taken, Grows, stays, goes_on, grows_one}
use Rattle.te_reader.proofs.NameSetLemmas.{among_is}
use Rattle.te_reader.proofs.KeptIsRead.{at_inside}
use Rattle.te_reader.proofs.PickedForms.{name_fits, integer_fits}
use Rattle.te_reader.proofs.Passing.{spots_of, dotted, at}
use Rattle.te_reader.proofs.EventPasses.{reached}
use Rattle.te_reader.proofs.ScriptPasses.{Rest, stand}
use Rattle.te_reader.proofs.PassedExpressions.{Passed, unbroken, went, kept_first, took_alone, took_sign, took_word, one_token, expression_passed}
use Rattle.te_reader.proofs.PassedEvents.{new_name, event_passed}
use Rattle.te_terms.proofs.Lists.{both_true, not_false}

-- ---- statements

-- behind a sync of a repeat, of which so many are still to come, or outside of repeats
abbrev spelled_in : Bool → List (List ℕ) → List (List ℕ) → ℕ → ℕ → List Statement → Span
spelled_in true channels all w left ss = behind_sync left (spells_statements true channels all w left ss)
spelled_in false channels all w left ss = spells_statements true channels all w 0 ss

record StatementsPassed (inside : Bool) (channels threads registers : List (List ℕ)) (st : ℕ) (more : List Part) (ts : List Token) : Type 0 where
  statements : List Statement
  leading : ℕ
  all : List (List ℕ)
  rest : List Token
  st_then : ℕ
  j_then : Rest
  grows : Grows channels registers all
  few : st + length statements ≤ 1024
  syncs : AreSyncs leading statements
  in_order : AreStatements (length channels) (length all) (length registers) statements
  spelled : (spelled_in inside channels all (length registers) leading statements ⨟ is (sign signs.CloseBrace)) ts rest
  later : Passed more (stand channels threads all st_then j_then) rest
  shorter : length rest < length ts

-- the registers in scope at a statement are the first of all
in_scope : (channels registers all : List (List ℕ)) → Grows channels registers all → take (length registers) all ≡ registers
in_scope channels registers all g = rw g.appended (taken registers g.added)

-- what a register's rules say
record RegisterKept (channels registers : List (List ℕ)) (st : ℕ) (n : List ℕ) : Type 0 where
  no_channel : IsNew n channels
  short : IsShortName n
  room : st < 1024
  few : (not (is_among n registers) && nat_le 8 (length registers)) ≡ false

register_kept : (channels threads registers : List (List ℕ)) (st : ℕ) (j : Rest) (n : List ℕ)
    → first_broken (rules.rules roles.Register (stand channels threads registers st j) (token (tokens.name n))) ≡ None
    → RegisterKept channels registers st n
register_kept channels threads registers st j n e =
    let last = check (not (is_among n registers) && nat_le 8 (length registers)) (causes.Limit limits.Registers) ∷ [] in
    let c = stand channels threads registers st j in
    let a = kept_first (is_among n channels) causes.Shadow (too_long n ∷ too_many_statements c ∷ last) e in
    let b = kept_first (nat_lt 32 (length n)) (causes.Limit limits.Name) (too_many_statements c ∷ last) a.1 in
    let d = kept_first (nat_le 1024 st) (causes.Limit limits.Statements) last b.1 in
    let f = kept_first (not (is_among n registers) && nat_le 8 (length registers)) (causes.Limit limits.Registers) [] d.1 in
    record { no_channel = new_name channels n a.0; short = grind (arith, nat_tests, b.0); room = grind (arith, nat_tests, d.0); few = f.0 }

-- the register that a sync writes
record RegisterIs (channels registers : List (List ℕ)) (n : List ℕ) : Type 0 where
  number : ℕ
  more : List (List ℕ)
  is : rules.with_named_register registers n ≡ more
  grows : Grows channels registers more
  at : IsAt more number n
  known : number ≤ length registers
  written : with_register (length registers) number ≡ length more

register_is : (channels registers : List (List ℕ)) (st : ℕ) (n : List ℕ) → RegisterKept channels registers st n → RegisterIs channels registers n
register_is channels registers st n k = by (is_among n registers) refl k.few where
  by : (b : Bool) → is_among n registers ≡ b → (not b && nat_le 8 (length registers)) ≡ false → RegisterIs channels registers n
  by true e f =
      let i = among_is registers n e in
      let below = at_inside registers i.0 n i.1 in
      let before : nat_lt i.0 (length registers) ≡ true = grind (arith, nat_tests, below) in
      record { number = i.0; more = registers; is = rw e refl; grows = stays channels registers; at = i.1; known = omega (arith, below); written = rw before refl }
  by false e f =
      let room : length registers < 8 = grind (arith, nat_tests, f) in
      let not_before : nat_lt (length registers) (length registers) ≡ false = grind (arith, nat_tests) in
      record {
        number = length registers;
        more = registers ++ n ∷ [];
        is = rw e refl;
        grows = grows_one channels registers n room k.short (new_name registers n e) k.no_channel;
        at = at_last registers n;
        known = omega arith;
        written = rw not_before (omega (arith, length-append registers (n ∷ [])));
      }

-- what is wanted behind a sync of a repeat, or outside of repeats
abbrev wanted_in : Bool → List Part → List Part
wanted_in true more = parts.Syncs ∷ parts.Statements ∷ more
wanted_in false more = parts.Statements ∷ more

abbrev StatementsWithin : ℕ → Type 0
StatementsWithin k =
    (inside : Bool) (channels threads registers : List (List ℕ)) (st : ℕ) (j : Rest) (more : List Part)
    (ts : List Token) → length ts ≤ k → st ≤ 1024 → Passed (wanted_in inside more)
    (stand channels threads registers st j) ts
    → StatementsPassed inside channels threads registers st more ts

emit_step : (k : ℕ) → StatementsWithin k → (channels threads registers : List (List ℕ)) (st : ℕ) (j : Rest) (more : List Part) (ts : List Token) → length ts ≤ k → st < 1024
    → Passed (parts.Expression ∷ parts.Only (roles.Sign signs.Semicolon) ∷ parts.Statements ∷ more)
    (stand channels threads registers (suc st) j) ts → StatementsPassed false channels threads registers st more
    (word words.Emit ∷ ts)
emit_step k f channels threads registers st j more ts short room h =
    let c = stand channels threads registers (suc st) j in
    let e = expression_passed (parts.Only (roles.Sign signs.Semicolon) ∷ parts.Statements ∷ more) c ts refl h in
    let last = took_sign signs.Semicolon (roles.Sign signs.Semicolon) (parts.Statements ∷ more) c e.rest (λ h d. refl) e.later in
    let g = f false channels threads registers (suc st) j more last.rest (omega (arith, short, e.shorter, ap length last.is)) (omega (arith, room)) last.later in
    let names = in_scope channels registers g.all g.grows in
    record {
      statements = emit e.value ∷ g.statements;
      leading = 0;
      all = g.all;
      rest = g.rest;
      st_then = g.st_then;
      j_then = g.j_then;
      grows = g.grows;
      few = omega (arith, g.few);
      syncs = tt;
      in_order = (e.scoped, g.in_order);
      spelled = (
        g.spelled.0,
        (
          ts,
          refl,
          (
            e.rest,
            subst (λ (rs : List (List ℕ)). spells_expression true
                (record { channels = channels; registers = rs; inners = [] }) e.value ts e.rest) (sym names) e.spelled,
            (last.rest, last.is, g.spelled.1),
          ),
        ),
        g.spelled.2,
      );
      later = g.later;
      shorter = omega (arith, e.shorter, ap length last.is, g.shorter);
    }

-- a sync that was passed, before what is spelled behind it
record SyncPassed (channels threads registers : List (List ℕ)) (st : ℕ) (n : List ℕ) (tail : List Part) (ts : List Token) : Type 1 where
  number : ℕ
  event : Term
  more : List (List ℕ)
  rest : List Token
  j_then : Rest
  grows : Grows channels registers more
  known : number ≤ length registers
  written : with_register (length registers) number ≡ length more
  scoped : IsEvent (record { written = length registers; level = 0; channels = length channels }) event
  within : IsWithinLimits event
  later : Passed tail (stand channels threads more (suc st) j_then) rest
  spelled : (all : List (List ℕ)) → Grows channels more all → (span : Span) (last : List Token) → span rest last
      → spells_sync true channels all (length registers) number event span (tokens.name n ∷ ts) last
  shorter : length rest < length ts

sync_passed : (channels threads registers : List (List ℕ)) (st : ℕ) (j : Rest) (n : List ℕ) (tail : List Part)
    (ts : List Token) → RegisterKept channels registers st n
    → Passed (sync_behind tail) (record (stand channels threads registers (suc st) j) { written = n }) ts
    → SyncPassed channels threads registers st n tail ts
sync_passed channels threads registers st j n tail ts kept h =
    let d = record (stand channels threads registers (suc st) j) { written = n } in
    let arrow = took_sign signs.Arrow (roles.Sign signs.Arrow) (parts.Only roles.SyncWord ∷ parts.Event ∷ parts.Only roles.SyncEnd ∷ tail) d ts (λ h d. refl) h in
    let the_sync = took_word words.Sync roles.SyncWord (parts.Event ∷ parts.Only roles.SyncEnd ∷ tail) d arrow.rest (λ h d. refl) arrow.later in
    let e = event_passed d whole_event [] no_node (parts.Only roles.SyncEnd ∷ tail) the_sync.rest refl the_sync.later in
    let last = took_sign signs.Semicolon roles.SyncEnd tail (at d (reached whole_event e.value) [] (tally_with_event no_node e.value)) e.rest (λ h d. refl) e.later in
    let low = kept_first (nat_lt 32 (max 0 (max 0 (1 + height e.value - 1)))) (causes.Limit limits.Depth) (check (nat_lt 4096 (0 + node_count e.value)) (causes.Limit limits.Nodes) ∷ []) last.kept in
    let small = kept_first (nat_lt 4096 (0 + node_count e.value)) (causes.Limit limits.Nodes) [] low.1 in
    let r = register_is channels registers st n kept in
    let j_next : Rest = record { written = n; bound = j.bound; braces = []; counted = tally_with_event no_node e.value } in
    record {
      number = r.number;
      event = e.value;
      more = r.more;
      rest = last.rest;
      j_then = j_next;
      grows = r.grows;
      known = r.known;
      written = r.written;
      scoped = e.scoped;
      within = record { low = grind (arith, nat_tests, low.0); few = grind (arith, nat_tests, small.0); few_fresh = omega (arith, e.few (omega arith)) };
      later = sym (ap (λ x. run tail (stand channels threads x (suc st) j_next) (spots_of last.rest)) r.is) ∙ last.later;
      spelled = λ all grown span end h.
          let names = in_scope channels registers all (goes_on channels registers r.more all r.grows grown) in
          let here : IsAt all r.number n = rw grown.appended (at_more r.more grown.added r.number n r.at) in (
            n,
            (
              (here, kept.short),
              (
                ts,
                refl,
                (
                  arrow.rest,
                  arrow.is,
                  (
                    the_sync.rest,
                    the_sync.is,
                    (
                      e.rest,
                      subst (λ (rs : List (List ℕ)). spells_event true alone (record { channels = channels; registers = rs; inners = [] }) e.value the_sync.rest e.rest) (sym names) e.spelled,
                      (last.rest, last.is, h),
                    ),
                  ),
                ),
              ),
            ),
          );
      shorter = omega (arith, ap length arrow.is, ap length the_sync.is, e.shorter, ap length last.is);
    }

sync_step : (k : ℕ) → StatementsWithin k → (channels threads registers : List (List ℕ)) (st : ℕ) (j : Rest)
    (more : List Part) (n : List ℕ) (ts : List Token) → length ts ≤ k → RegisterKept channels registers st n
    → Passed (sync_behind (parts.Statements ∷ more)) (record
    (stand channels threads registers (suc st) j) { written = n }) ts
    → StatementsPassed false channels threads registers st more (tokens.name n ∷ ts)
sync_step k f channels threads registers st j more n ts short kept h =
    let s = sync_passed channels threads registers st j n (parts.Statements ∷ more) ts kept h in
    let g = f false channels threads s.more (suc st) s.j_then more s.rest (omega (arith, short, s.shorter)) (omega (arith, kept.room)) s.later in
    let tail : spells_statements true channels g.all (with_register (length registers) s.number) 0 g.statements s.rest g.spelled.0 = rw s.written g.spelled.1 in
    record {
      statements = sync s.number s.event ∷ g.statements;
      leading = 0;
      all = g.all;
      rest = g.rest;
      st_then = g.st_then;
      j_then = g.j_then;
      grows = goes_on channels registers s.more g.all s.grows g.grows;
      few = omega (arith, g.few);
      syncs = tt;
      in_order = (s.known, s.scoped, s.within, rw s.written g.in_order);
      spelled = (g.spelled.0, s.spelled g.all g.grows (spells_statements true channels g.all (with_register (length registers) s.number) 0 g.statements) g.spelled.0 tail, g.spelled.2);
      later = g.later;
      shorter = omega (arith, s.shorter, g.shorter);
    }

-- a sync of a repeat, before others of it or its brace
record InsidePassed (channels threads registers : List (List ℕ)) (st : ℕ) (more : List Part) (ts : List Token) : Type 0 where
  statements : List Statement
  leading : ℕ
  all : List (List ℕ)
  rest : List Token
  st_then : ℕ
  j_then : Rest
  grows : Grows channels registers all
  few : st + length statements ≤ 1024
  syncs : AreSyncs (suc leading) statements
  in_order : AreStatements (length channels) (length all) (length registers) statements
  spelled : (spells_statements true channels all (length registers) (suc leading) statements ⨟ is (sign signs.CloseBrace)) ts rest
  later : Passed more (stand channels threads all st_then j_then) rest
  shorter : length rest < length ts

inside_step : (k : ℕ) → StatementsWithin k → (channels threads registers : List (List ℕ)) (st : ℕ) (j : Rest)
    (more : List Part) (n : List ℕ) (ts : List Token) → length ts ≤ k → RegisterKept channels registers st n
    → Passed (sync_behind (parts.Syncs ∷ parts.Statements ∷ more))
    (record (stand channels threads registers (suc st) j) { written = n }) ts
    → InsidePassed channels threads registers st more (tokens.name n ∷ ts)
inside_step k f channels threads registers st j more n ts short kept h =
    let s = sync_passed channels threads registers st j n (parts.Syncs ∷ parts.Statements ∷ more) ts kept h in
    let g = f true channels threads s.more (suc st) s.j_then more s.rest (omega (arith, short, s.shorter)) (omega (arith, kept.room)) s.later in
    let span : Span = behind_sync g.leading (spells_statements true channels g.all (with_register (length registers) s.number) g.leading g.statements) in
    let tail : behind_sync g.leading (spells_statements true channels g.all (with_register (length registers) s.number) g.leading g.statements) s.rest g.spelled.0 = rw s.written g.spelled.1 in
    record {
      statements = sync s.number s.event ∷ g.statements;
      leading = g.leading;
      all = g.all;
      rest = g.rest;
      st_then = g.st_then;
      j_then = g.j_then;
      grows = goes_on channels registers s.more g.all s.grows g.grows;
      few = omega (arith, g.few);
      syncs = g.syncs;
      in_order = (s.known, s.scoped, s.within, rw s.written g.in_order);
      spelled = (g.spelled.0, s.spelled g.all g.grows span g.spelled.0 tail, g.spelled.2);
      later = g.later;
      shorter = omega (arith, s.shorter, g.shorter);
    }

-- the first sync of a repeat stands where a name does
first_inside : (k : ℕ) → StatementsWithin k → (channels threads registers : List (List ℕ)) (st : ℕ) (j : Rest) (more : List Part) (ts : List Token) → length ts ≤ suc k → st ≤ 1024
    → Passed (parts.Sync ∷ parts.Syncs ∷ parts.Statements ∷ more) (stand channels threads registers st j) ts → InsidePassed channels threads registers st more ts
unfolding run pick pick_plain
first_inside k f channels threads registers st j more [] short few h = absurd cc
first_inside k f channels threads registers st j more (tokens.name n ∷ ts) short few h =
    let u = went roles.Register (sync_behind []) (parts.Syncs ∷ parts.Statements ∷ more) (stand channels threads registers st j) (tokens.name n) ts (dotted ts) h in
    inside_step k f channels threads registers st j more n ts (omega (arith, short)) (register_kept channels threads registers st j n u.0) u.1
first_inside k f channels threads registers st j more (t ∷ ts) short few h = absurd cc

-- how often a repeat is done
record TimesKept (digits : List ℕ) : Type 0 where
  times : ℕ
  value : integer_value digits ≡ pos times
  some : 0 < times
  most : times ≤ 10000

times_kept : (digits : List ℕ) → is_count (integer_value digits) ≡ true → TimesKept digits
times_kept digits e = by (integer_value digits) refl e where
  by : (z : ℤ) → integer_value digits ≡ z → is_count z ≡ true → TimesKept digits
  by (negsuc n) is e = absurd cc
  by (pos n) is e =
      let both = both_true (nat_le 1 n) (nat_le n 10000) e in
      record { times = n; value = is; some = grind (arith, nat_tests, both.0); most = grind (arith, nat_tests, both.1) }

repeat_step : (k : ℕ) → StatementsWithin k → (channels threads registers : List (List ℕ)) (st : ℕ) (j : Rest) (more : List Part) (ts : List Token) → length ts ≤ suc k → st < 1024
    → Passed (parts.Only roles.Times ∷ parts.Only (roles.Sign signs.OpenBrace) ∷ parts.Sync ∷ parts.Syncs
    ∷ parts.Statements ∷ more) (stand channels threads registers (suc st) j) ts
    → StatementsPassed false channels threads registers st more (word words.Repeat ∷ ts)
repeat_step k f channels threads registers st j more ts short room h =
    let d = stand channels threads registers (suc st) j in
    let inside = parts.Sync ∷ parts.Syncs ∷ parts.Statements ∷ more in
    let t = took_alone roles.Times (parts.Only (roles.Sign signs.OpenBrace) ∷ inside) d ts refl h in
    let number = integer_fits (token t.first) t.fit in
    let digits = number.0 in
    let same : t.first ≡ tokens.integer digits = one_token t.first (tokens.integer digits) number.1 in
    let is : ts ≡ tokens.integer digits ∷ t.rest = t.is ∙ ap (λ x. x ∷ t.rest) same in
    let kept : first_broken (check (not (fits_i64 (integer_value digits))) causes.Integer ∷ check
    (not (is_count (integer_value digits))) (causes.Limit limits.Repeat) ∷ []) ≡ None =
    subst (λ (x : Token). first_broken (rules.rules roles.Times d (token x)) ≡ None) same t.kept in
    let a = kept_first (not (fits_i64 (integer_value digits))) causes.Integer (check (not (is_count (integer_value digits))) (causes.Limit limits.Repeat) ∷ []) kept in
    let b = kept_first (not (is_count (integer_value digits))) (causes.Limit limits.Repeat) [] a.1 in
    let times = times_kept digits (not_false (is_count (integer_value digits)) b.0) in
    let later : Passed (parts.Only (roles.Sign signs.OpenBrace) ∷ inside) d t.rest =
    subst (λ (x : Token). Passed (parts.Only (roles.Sign signs.OpenBrace) ∷ inside)
    (rules.context_after roles.Times d (token x)) t.rest) same t.later in
    let brace = took_sign signs.OpenBrace (roles.Sign signs.OpenBrace) inside d t.rest (λ h d. refl) later in
    let g = first_inside k f channels threads registers (suc st) j more brace.rest (omega (arith, short, ap length is, ap length brace.is)) (omega (arith, room)) brace.later in
    record {
      statements = repeat times.times (suc g.leading) ∷ g.statements;
      leading = 0;
      all = g.all;
      rest = g.rest;
      st_then = g.st_then;
      j_then = g.j_then;
      grows = g.grows;
      few = omega (arith, g.few);
      syncs = tt;
      in_order = (record { some_times = times.some; most = times.most; some = omega arith; body = g.syncs }, g.in_order);
      spelled = (g.spelled.0, (omega arith, (ts, refl, (t.rest, (digits, times.value, is), (brace.rest, brace.is, g.spelled.1)))), g.spelled.2);
      later = g.later;
      shorter = omega (arith, ap length is, ap length brace.is, g.shorter);
    }

statements_within : (k : ℕ) → StatementsWithin k
unfolding run pick pick_plain
statements_within k false channels threads registers st j more [] short few h = absurd cc
statements_within k true channels threads registers st j more [] short few h = absurd cc
statements_within zero inside channels threads registers st j more (t ∷ ts) short few h = absurd (omega (arith, short))
statements_within (suc k) false channels threads registers st j more (sign signs.CloseBrace ∷ ts) short few h =
    let u = went (roles.Sign signs.CloseBrace) [] more (stand channels threads registers st j) (sign signs.CloseBrace) ts (dotted ts) h in
    record {
      statements = [];
      leading = 0;
      all = registers;
      rest = ts;
      st_then = st;
      j_then = j;
      grows = stays channels registers;
      few = omega (arith, few);
      syncs = tt;
      in_order = refl;
      spelled = (sign signs.CloseBrace ∷ ts, refl, refl);
      later = u.1;
      shorter = omega arith;
    }
statements_within (suc k) false channels threads registers st j more (word words.Emit ∷ ts) short few h =
    let c = stand channels threads registers st j in
    let u = went roles.EmitWord (parts.Expression ∷ parts.Only (roles.Sign signs.Semicolon) ∷ parts.Statements ∷ []) more c (word words.Emit) ts (dotted ts) h in
    let room = kept_first (nat_le 1024 st) (causes.Limit limits.Statements) [] u.0 in
    emit_step k (statements_within k) channels threads registers st j more ts (omega (arith, short)) (grind (arith, nat_tests, room.0)) u.1
statements_within (suc k) false channels threads registers st j more (word words.Repeat ∷ ts) short few h =
    let c = stand channels threads registers st j in
    let u = went roles.RepeatWord (parts.Only roles.Times ∷ parts.Only (roles.Sign signs.OpenBrace) ∷ parts.Sync ∷ parts.Syncs ∷ parts.Statements ∷ []) more c (word words.Repeat) ts (dotted ts) h in
    let room = kept_first (nat_le 1024 st) (causes.Limit limits.Statements) [] u.0 in
    repeat_step k (statements_within k) channels threads registers st j more ts (omega (arith, short)) (grind (arith, nat_tests, room.0)) u.1
statements_within (suc k) false channels threads registers st j more (tokens.name n ∷ ts) short few h =
    let c = stand channels threads registers st j in
    let u = went roles.Register (sync_behind (parts.Statements ∷ [])) more c (tokens.name n) ts (dotted ts) h in
    sync_step k (statements_within k) channels threads registers st j more n ts (omega (arith, short)) (register_kept channels threads registers st j n u.0) u.1
statements_within (suc k) false channels threads registers st j more (t ∷ ts) short few h = absurd cc
statements_within (suc k) true channels threads registers st j more (sign signs.CloseBrace ∷ ts) short few h =
    let u = went (roles.Sign signs.CloseBrace) [] (parts.Statements ∷ more) (stand channels threads registers st j) (sign signs.CloseBrace) ts (dotted ts) h in
    let g = statements_within k false channels threads registers st j more ts (omega (arith, short)) few u.1 in
    record {
      statements = g.statements;
      leading = 0;
      all = g.all;
      rest = g.rest;
      st_then = g.st_then;
      j_then = g.j_then;
      grows = g.grows;
      few = g.few;
      syncs = tt;
      in_order = g.in_order;
      spelled = (g.spelled.0, (ts, refl, g.spelled.1), g.spelled.2);
      later = g.later;
      shorter = omega (arith, g.shorter);
    }
statements_within (suc k) true channels threads registers st j more (tokens.name n ∷ ts) short few h =
    let c = stand channels threads registers st j in
    let u = went roles.Register (sync_behind (parts.Syncs ∷ [])) (parts.Statements ∷ more) c (tokens.name n) ts (dotted ts) h in
    let g = inside_step k (statements_within k) channels threads registers st j more n ts (omega (arith, short)) (register_kept channels threads registers st j n u.0) u.1 in
    record {
      statements = g.statements;
      leading = suc g.leading;
      all = g.all;
      rest = g.rest;
      st_then = g.st_then;
      j_then = g.j_then;
      grows = g.grows;
      few = g.few;
      syncs = g.syncs;
      in_order = g.in_order;
      spelled = g.spelled;
      later = g.later;
      shorter = g.shorter;
    }
statements_within (suc k) true channels threads registers st j more (t ∷ ts) short few h = absurd cc

-- ---- threads

record ThreadsPassed (channels threads : List (List ℕ)) (ts : List Token) : Type 0 where
  all : List Thread
  spelled : spells_threads true channels all ts []
  few : length threads + length all ≤ 64
  some : 0 < length threads + length all
  names : AreDistinct threads → AreDistinct (threads ++ thread_names all)
  each : AllByRecursion (IsThread (length channels)) all
  apart : AllByRecursion (λ t. AreApart t.registers channels) all

abbrev ThreadsWithin : ℕ → Type 0
ThreadsWithin k =
    (channels threads registers : List (List ℕ)) (st : ℕ) (j : Rest) (ts : List Token) → length ts ≤ k
    → length threads ≤ 64 → AreDistinct channels → Passed (parts.Threads ∷ [])
    (stand channels threads registers st j) ts → ThreadsPassed channels threads ts

thread_step : (k : ℕ) → ThreadsWithin k → (channels threads : List (List ℕ)) (j : Rest) (ts : List Token) → length ts ≤ k → length threads < 64 → AreDistinct channels
    → Passed (parts.Only roles.ThreadName ∷ parts.Only (roles.Sign signs.OpenBrace) ∷ parts.Statements ∷ parts.Threads
    ∷ []) (stand channels threads [] 0 j) ts → ThreadsPassed channels threads (word words.Thread ∷ ts)
thread_step k f channels threads j ts short room distinct h =
    let c = stand channels threads [] 0 j in
    let tail = parts.Statements ∷ parts.Threads ∷ [] in
    let t = took_alone roles.ThreadName (parts.Only (roles.Sign signs.OpenBrace) ∷ tail) c ts refl h in
    let name = name_fits (token t.first) t.fit in
    let n = name.0 in
    let same : t.first ≡ tokens.name n = one_token t.first (tokens.name n) name.1 in
    let is : ts ≡ tokens.name n ∷ t.rest = t.is ∙ ap (λ x. x ∷ t.rest) same in
    let kept : first_broken (check (is_among n threads) causes.Twice ∷ too_long n ∷ []) ≡ None = subst (λ (x : Token). first_broken (rules.rules roles.ThreadName c (token x)) ≡ None) same t.kept in
    let more = threads ++ n ∷ [] in
    let later : Passed (parts.Only (roles.Sign signs.OpenBrace) ∷ tail) (stand channels more [] 0 j) t.rest =
    subst (λ (x : Token). Passed (parts.Only (roles.Sign signs.OpenBrace) ∷ tail) (rules.context_after roles.ThreadName c (token x)) t.rest) same t.later in
    let a = kept_first (is_among n threads) causes.Twice (too_long n ∷ []) kept in
    let b = kept_first (nat_lt 32 (length n)) (causes.Limit limits.Name) [] a.1 in
    let brace = took_sign signs.OpenBrace (roles.Sign signs.OpenBrace) tail (stand channels more [] 0 j) t.rest (λ h d. refl) later in
    let s = statements_within k false channels more [] 0 j (parts.Threads ∷ []) brace.rest (omega (arith, short, ap length is, ap length brace.is)) (omega arith) brace.later in
    let g = f channels more s.all s.st_then s.j_then s.rest (omega
    (arith, short, ap length is, ap length brace.is, s.shorter))
    (omega (arith, room, length-append threads (n ∷ []))) distinct s.later in
    let thread : Thread = record { name = n; registers = s.all; statements = s.statements } in
    record {
      all = thread ∷ g.all;
      spelled = (s.rest, (grind (arith, nat_tests, b.0), (ts, refl, (t.rest, is, (brace.rest, brace.is, s.spelled)))), g.spelled);
      few = omega (arith, g.few, length-append threads (n ∷ []));
      some = omega arith;
      names = λ d. subst (λ (x : List (List ℕ)). AreDistinct x) (append_assoc threads (n ∷ []) (thread_names g.all)) (g.names (distinct_push threads n d (new_name threads n a.0)));
      each = (record { registers = s.grows.few (omega arith); distinct = s.grows.distinct tt; statements = omega (arith, s.few); in_order = s.in_order }, g.each);
      apart = (s.grows.apart tt, g.apart);
    }

threads_within : (k : ℕ) → ThreadsWithin k
unfolding run pick pick_plain
threads_within k channels threads registers st j [] short few distinct h =
    let u = unbroken (run [] (stand channels threads registers st j) []) 0 (first_broken (rules.rules roles.End (stand channels threads registers st j) over)) h in
    let some = kept_first (nat_le (length threads) 0) causes.NoThread [] u.0 in
    record { all = []; spelled = refl; few = omega (arith, few); some = grind (arith, nat_tests, some.0); names = λ d. rw (append-nil threads) d; each = tt; apart = tt }
threads_within zero channels threads registers st j (t ∷ ts) short few distinct h = absurd (omega (arith, short))
threads_within (suc k) channels threads registers st j (word words.Thread ∷ ts) short few distinct h =
    let c = stand channels threads registers st j in
    let u = went roles.ThreadWord (parts.Only roles.ThreadName ∷ parts.Only (roles.Sign signs.OpenBrace) ∷ parts.Statements ∷ parts.Threads ∷ []) [] c (word words.Thread) ts (dotted ts) h in
    let room = kept_first (nat_le 64 (length threads)) (causes.Limit limits.Threads) [] u.0 in
    thread_step k (threads_within k) channels threads j ts (omega (arith, short)) (grind (arith, nat_tests, room.0)) distinct u.1
threads_within (suc k) channels threads registers st j (t ∷ ts) short few distinct h = absurd cc

-- ---- channels

record NamesPassed (before : List (List ℕ)) (j : Rest) (more : List Part) (ts : List Token) : Type 0 where
  all : List (List ℕ)
  rest : List Token
  spelled : (spells_names true all ⨟ is (sign signs.Semicolon)) ts rest
  few : length before + length all ≤ 256
  names : AreDistinct before → AreDistinct (before ++ all)
  later : Passed more (stand (before ++ all) [] [] 0 j) rest

-- what a channel's rules say
record ChannelKept (channels : List (List ℕ)) (n : List ℕ) : Type 0 where
  new : IsNew n channels
  short : IsShortName n
  room : length channels < 256

channel_kept : (channels : List (List ℕ)) (j : Rest) (n : List ℕ) → first_broken (rules.rules roles.ChannelName (stand channels [] [] 0 j) (token (tokens.name n))) ≡ None → ChannelKept channels n
channel_kept channels j n e =
    let last = check (nat_le 256 (length channels)) (causes.Limit limits.Channels) ∷ [] in
    let a = kept_first (is_among n channels) causes.Twice (too_long n ∷ last) e in
    let b = kept_first (nat_lt 32 (length n)) (causes.Limit limits.Name) last a.1 in
    let d = kept_first (nat_le 256 (length channels)) (causes.Limit limits.Channels) [] b.1 in
    record { new = new_name channels n a.0; short = grind (arith, nat_tests, b.0); room = grind (arith, nat_tests, d.0) }

-- one name before more
name_before : (before : List (List ℕ)) (j : Rest) (more : List Part) (n : List ℕ) (ts : List Token)
    → ChannelKept before n → NamesPassed (before ++ n ∷ []) j more ts → NamesPassed before j more (tokens.name n ∷ ts)
name_before before j more n ts k g = record {
  all = n ∷ g.all;
  rest = g.rest;
  spelled = (g.spelled.0, (k.short, (ts, refl, g.spelled.1)), g.spelled.2);
  few = omega (arith, g.few, length-append before (n ∷ []));
  names = λ d. subst (λ (x : List (List ℕ)). AreDistinct x) (append_assoc before (n ∷ []) g.all) (g.names (distinct_push before n d k.new));
  later = sym (ap (λ x. run more (stand x [] [] 0 j) (spots_of g.rest)) (append_assoc before (n ∷ []) g.all)) ∙ g.later;
}

names_passed : (ts : List Token) (before : List (List ℕ)) (j : Rest) (more : List Part) → length before ≤ 256
    → Passed (parts.Channels ∷ more) (stand before [] [] 0 j) ts → NamesPassed before j more ts
unfolding run pick pick_plain
names_passed [] before j more few h = absurd cc
names_passed (sign signs.Semicolon ∷ ts) before j more few h =
    let u = went (roles.Sign signs.Semicolon) [] more (stand before [] [] 0 j) (sign signs.Semicolon) ts (dotted ts) h in
    record {
      all = [];
      rest = ts;
      spelled = (sign signs.Semicolon ∷ ts, refl, refl);
      few = omega (arith, few);
      names = λ d. rw (append-nil before) d;
      later = ap (λ x. run more (stand x [] [] 0 j) (spots_of ts)) (append-nil before) ∙ u.1;
    }
names_passed (tokens.name n ∷ ts) before j more few h =
    let u = went roles.ChannelName (parts.Channels ∷ []) more (stand before [] [] 0 j) (tokens.name n) ts (dotted ts) h in
    let k = channel_kept before j n u.0 in
    name_before before j more n ts k (names_passed ts (before ++ n ∷ []) j more (omega (arith, k.room, length-append before (n ∷ []))) u.1)
names_passed (t ∷ ts) before j more few h = absurd cc

-- ---- scripts

-- a program that some tokens spell
pub record ProgramPassed (ts : List Token) : Type 0 where
  pub program : Program
  pub spelled : spells_program true program ts []
  pub kept : IsProgram program

program_of : (channels : List (List ℕ)) (ts m : List Token) → spells_channels true channels ts m → length channels ≤ 256 → AreDistinct channels → ThreadsPassed channels [] m → ProgramPassed ts
program_of channels ts m spelled few distinct g = record {
  program = record { channels = channels; threads = g.all };
  spelled = (m, spelled, g.spelled);
  kept = record {
    channels = few;
    channel_names = distinct;
    some_thread = omega (arith, g.some);
    threads = omega (arith, g.few);
    names = g.names tt;
    each = g.each;
    apart = g.apart;
  };
}

channels_step : (j : Rest) (ts : List Token) → Passed (parts.Only roles.ChannelName ∷ parts.Channels ∷ parts.Threads ∷ []) (stand [] [] [] 0 j) ts → ProgramPassed (word words.Channels ∷ ts)
channels_step j ts h =
    let c = stand [] [] [] 0 j in
    let t = took_alone roles.ChannelName (parts.Channels ∷ parts.Threads ∷ []) c ts refl h in
    let name = name_fits (token t.first) t.fit in
    let n = name.0 in
    let same : t.first ≡ tokens.name n = one_token t.first (tokens.name n) name.1 in
    let is : ts ≡ tokens.name n ∷ t.rest = t.is ∙ ap (λ x. x ∷ t.rest) same in
    let k = channel_kept [] j n (subst (λ (x : Token). first_broken (rules.rules roles.ChannelName c (token x)) ≡ None) same t.kept) in
    let later : Passed (parts.Channels ∷ parts.Threads ∷ []) (stand (n ∷ []) [] [] 0 j) t.rest =
    subst (λ (x : Token). Passed (parts.Channels ∷ parts.Threads ∷ [])
    (rules.context_after roles.ChannelName c (token x)) t.rest) same t.later in
    let g = names_passed t.rest (n ∷ []) j (parts.Threads ∷ []) (omega arith) later in
    let distinct : AreDistinct (n ∷ g.all) = g.names (tt, tt) in
    let threads = threads_within (length g.rest) (n ∷ g.all) [] [] 0 j g.rest (omega arith) (omega arith) distinct g.later in
    program_of (n ∷ g.all) (word words.Channels ∷ ts) g.rest (ts, refl, (g.spelled.0, (k.short, (t.rest, is, g.spelled.1)), g.spelled.2)) (omega (arith, g.few)) distinct threads

pub program_passed : (ts : List Token) → Passed (parts.Script ∷ []) nothing_before ts → ProgramPassed ts
unfolding run pick pick_plain
program_passed [] h = absurd cc
program_passed (word words.Channels ∷ ts) h =
    let j : Rest = record { written = []; bound = []; braces = []; counted = no_node } in
    let u = went (roles.Word words.Channels) (parts.Only roles.ChannelName ∷ parts.Channels ∷ parts.Threads ∷ []) [] (stand [] [] [] 0 j) (word words.Channels) ts (dotted ts) h in
    channels_step j ts u.1
program_passed (word words.Thread ∷ ts) h =
    let j : Rest = record { written = []; bound = []; braces = []; counted = no_node } in
    let threads = threads_within (length (word words.Thread ∷ ts)) [] [] [] 0 j (word words.Thread ∷ ts) (omega arith) (omega arith) tt h in
    program_of [] (word words.Thread ∷ ts) (word words.Thread ∷ ts) refl (omega arith) tt threads
program_passed (t ∷ ts) h = absurd cc
