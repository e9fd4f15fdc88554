-- What is spelled and keeps the limits and the rules on names is gone through without a fault: statements, threads and scripts.
use Rattle.std.proofs.Common.{◌≡◌, ◌≢◌, ℕ, zero, suc, ◌+◌, ◌-◌, ◌<◌, ◌≤◌, Bool, true, false, not, nat_lt, nat_le, max}
use Rattle.std.proofs.Common.{List, [], ◌∷◌, ◌++◌, length, take, refl, sym, ◌∙◌, ap, subst, arith, append_assoc}
use Rattle.std.proofs.Common.{length-append}
use Rattle.std.specs.Prelude.{Some, None, ◌&&◌, if◌then◌else◌, pos}
use Rattle.std.specs.List.{AllByRecursion}
use Rattle.std.proofs.lemmas.List.{append-nil}
use Rattle.std.proofs.lemmas.Bool.Decides.{nat_tests}
use Rattle.te_terms.specs.Expressions.{Expression, whole, tuple}
use Rattle.te_terms.specs.Terms.{Term, always, never, fresh, throw, send, recv, and_then, choose, catch, when}
use Rattle.te_terms.specs.Measures.{height, node_count}
use Rattle.te_terms.specs.Limits.{IsWithinLimits}
use Rattle.te_script.specs.Scripts.{Scope, one_deeper, IsExpression, IsEvent, Statement, sync, emit, repeat, Thread}
use Rattle.te_script.specs.Scripts.{Program, with_register, AreStatements, AreDistinct, AreApart, IsThread}
use Rattle.te_script.specs.Scripts.{thread_names, IsProgram}
use Rattle.te_reader.specs.declared.brace.Brace.{Brace}
use Rattle.te_reader.specs.declared.token.Word.TheVariants as words
use Rattle.te_reader.specs.declared.token.Sign.TheVariants as signs
use Rattle.te_reader.specs.declared.part.Role.TheVariants as roles
use Rattle.te_reader.specs.declared.part.Part.{Part}
use Rattle.te_reader.specs.declared.part.Part.TheVariants as parts
use Rattle.te_reader.specs.Tokens as tokens
use Rattle.te_reader.specs.Tokens.{Token, word, sign}
use Rattle.te_reader.specs.Grammar.{Span, is, ◌⨟◌, IsAt, IsNew, IsShortName, spells_expression, spells_sync}
use Rattle.te_reader.specs.Grammar.{spells_statements, spells_thread, spells_threads, spells_names, spells_channels}
use Rattle.te_reader.specs.Grammar.{spells_program}
use Rattle.te_reader.specs.Integers.{integer_value}
use Rattle.te_terms.specs.Values.{fits_i64}
use Rattle.te_reader.specs.Spots.{token}
use Rattle.te_reader.specs.Forms.{form, sync_behind}
use Rattle.te_reader.specs.Rules as rules
use Rattle.te_reader.specs.Rules.{Context, nothing_before, is_among, whole_event, first_broken}
use Rattle.te_reader.specs.Tallies.{Tally, no_node, tally_with_event}
use Rattle.te_reader.specs.Runs.{pick, pick_plain, run}
use Rattle.te_terms.proofs.Lists.{AllByRecursion-append, whole_taken}
use Rattle.te_reader.proofs.ListsKept.{all_at}
use Rattle.te_reader.proofs.KeptIsRead.{at_inside, at_taken, new_behind, next_taken, length_taken, no_channel, Registers}
use Rattle.te_reader.proofs.NameSetLemmas.{among_at}
use Rattle.te_reader.proofs.Passing.{spots_of, dotted, Goes, goes, goes_alone, names_in, at, not_among}
use Rattle.te_reader.proofs.SpelledPasses.{IsFew, expression_goes}
use Rattle.te_reader.proofs.EventPasses.{AreFew, reached, event_goes}
use Rattle.te_reader.proofs.KeptIsRead.{threads_begin}

-- ---- few calculations

few_expression : (s : Scope) (e : Expression) → IsExpression s e → IsFew e
few_expression s (whole x) h = tt
few_expression s (tuple cs) h = h.1

few_event : (s : Scope) (t : Term) → IsEvent s t → AreFew t
few_event s (always e) h = few_expression s e h
few_event s never h = tt
few_event s fresh h = tt
few_event s (throw e) h = few_expression s e h
few_event s (send p e) h = few_expression s e h.1
few_event s (recv p) h = tt
few_event s (and_then e n f) h = (few_event s e h.1, few_event (one_deeper s) f h.2)
few_event s (choose e f) h = (few_event s e h.0, few_event s f h.1)
few_event s (catch e n f) h = (few_event s e h.1, few_event (one_deeper s) f h.2)
few_event s (when o p q e f) h = (few_event s e h.2, few_event s f h.3)

-- ---- between two statements

-- what earlier statements leave that is not looked at any more
pub record Rest : Type 0 where
  pub written : List ℕ
  pub bound : List (List ℕ)
  pub braces : List Brace
  pub counted : Tally

abbrev pub stand : List (List ℕ) → List (List ℕ) → List (List ℕ) → ℕ → Rest → Context
stand channels threads registers statements r = record {
  channels = channels;
  threads = threads;
  registers = registers;
  statements = statements;
  written = r.written;
  inners = [];
  bound = r.bound;
  braces = r.braces;
  nodes = r.counted.nodes;
  fresh = r.counted.fresh;
  calculations = 0;
}

module _ (channels threads registers : List (List ℕ)) (keeps : Registers channels registers) where
  -- the first token of a sync
  register_kept : (w r k : ℕ) (n : List ℕ) (rest : Rest) → r ≤ w → IsShortName n → IsAt registers r n → k < 1024
      → first_broken (rules.rules roles.Register (stand channels threads (take w registers) k rest) (token (tokens.name n))) ≡ None
  register_kept w r k n rest most short at few =
      let apart : is_among n channels ≡ false = not_among channels n (no_channel n channels (all_at (λ x. AllByRecursion (λ y. x ≢ y) channels) registers r n keeps.apart at)) in
      let long : nat_lt 32 (length n) ≡ false = grind (arith, nat_tests, short) in
      let room : nat_le 1024 k ≡ false = grind (arith, nat_tests, few) in
      rw (apart, long, room, enough (nat_lt r w) refl) refl where
        enough : (b : Bool) → nat_lt r w ≡ b → (not (is_among n (take w registers)) && nat_le 8 (length (take w registers))) ≡ false
        enough true e =
            let before : r < w = grind (arith, nat_tests) in
            rw (among_at (take w registers) r n (at_taken registers w r n before at)) refl
        enough false e =
            let same : r ≡ w = grind (arith, nat_tests) in
            let inside = at_inside registers r n at in
            let left : nat_le 8 (length (take w registers)) ≡ false = rw (length_taken registers w (omega (arith, inside, same))) (grind (arith, nat_tests, inside, same, keeps.few)) in
            rw left (by (not (is_among n (take w registers)))) where
              by : (b : Bool) → (b && false) ≡ false
              by true = refl
              by false = refl

  -- the registers behind a sync
  registers_then : (w r : ℕ) (n : List ℕ) → r ≤ w → IsAt registers r n → rules.with_named_register (take w registers) n ≡ take (with_register w r) registers
  registers_then w r n most at = by (nat_lt r w) refl where
    by : (b : Bool) → nat_lt r w ≡ b → rules.with_named_register (take w registers) n ≡ take (if b then w else suc r) registers
    by true e =
        let before : r < w = grind (arith, nat_tests) in
        rw (among_at (take w registers) r n (at_taken registers w r n before at)) refl
    by false e =
        let same : r ≡ w = grind (arith, nat_tests) in
        let at_w : IsAt registers w n = subst (λ (x : ℕ). IsAt registers x n) same at in
        rw (not_among (take w registers) n (new_behind registers w n keeps.distinct at_w)) (next_taken registers w n at_w ∙ ap (λ x. take (suc x) registers) (sym same))

  -- a part that a sync may begin, and what is wanted behind the sync
  abbrev BeginsSync : Part → List Part → Type 0
  BeginsSync p tail = (n : List ℕ) (d : Bool) → pick p (token (tokens.name n)) d ≡ Some (form roles.Register (sync_behind tail))

  statement_begins : BeginsSync parts.Statements (parts.Statements ∷ [])
  unfolding pick pick_plain
  statement_begins n d = refl

  syncs_begin : BeginsSync parts.Syncs (parts.Syncs ∷ [])
  unfolding pick pick_plain
  syncs_begin n d = refl

  sync_goes : (p : Part) (tail : List Part) → BeginsSync p tail
      → (w r k : ℕ) (t : Term) (j : Rest) (wanted : List Part) (span : Span) (ts last : List Token) → r ≤ w → k < 1024
      → AreFew t → IsWithinLimits t → (h : spells_sync true channels registers w r t span ts last)
      → (j_then : Rest) × Goes (p ∷ wanted) (stand channels threads (take w registers) k j) ts (tail ++ wanted)
      (stand channels threads (take (with_register w r) registers) (suc k) j_then) h.1.1.2.2.2.2.0
  unfolding pick pick_plain
  sync_goes p tail begins w r k t j wanted span ts last most few calm within h =
      let n = h.0 in
      let short = h.1.0.1 in
      let is = h.1.0.0 in
      let first = h.1.1 in
      let arrow = first.2 in
      let the_sync = arrow.2 in
      let event = the_sync.2 in
      let ends = event.2 in
      let c = stand channels threads (take w registers) k j in
      let d = record c { statements = suc k; written = n } in
      let b = reached whole_event t in
      let low : nat_lt 32 (max 0 (max 0 (1 + height t - 1))) ≡ false = grind (arith, nat_tests, within.low) in
      let small : nat_lt 4096 (0 + node_count t) ≡ false = grind (arith, nat_tests, within.few) in
      let behind : Rest = record { written = n; bound = j.bound; braces = []; counted = tally_with_event no_node t } in (
        behind,
        goes p (form roles.Register (sync_behind tail)) wanted c (tokens.name n) ts first.0 first.1 (begins n (dotted first.0)) (register_kept w r k n j most short is few)
            ∙ goes_alone (roles.Sign signs.Arrow) (parts.Only roles.SyncWord ∷ parts.Event ∷ parts.Only roles.SyncEnd ∷ (tail ++ wanted)) d (sign signs.Arrow) first.0 arrow.0 arrow.1 refl refl
            ∙ goes_alone roles.SyncWord (parts.Event ∷ parts.Only roles.SyncEnd ∷ (tail ++ wanted)) d (word words.Sync) arrow.0 the_sync.0 the_sync.1 refl refl
            ∙ event_goes t d whole_event [] no_node (parts.Only roles.SyncEnd ∷ (tail ++ wanted)) the_sync.0 event.0
            event.1 calm (omega (arith, within.low), omega (arith, within.few_fresh)) refl (rw ends.1 refl)
            ∙ goes_alone roles.SyncEnd (tail ++ wanted) (at d b [] (tally_with_event no_node t)) (sign signs.Semicolon) event.0 ends.0 ends.1 refl (rw (low, small) refl)
            ∙ ap (λ x. run (tail ++ wanted) (stand channels threads x (suc k) behind) (spots_of ends.0)) (registers_then w r n most is),
      )

  emit_goes : (w k : ℕ) (x : Expression) (j : Rest) (wanted : List Part) (ts m1 m2 rest : List Token) → k < 1024
      → IsFew x → ts ≡ word words.Emit ∷ m1 → spells_expression true
      (names_in (stand channels threads (take w registers) k j)) x m1 m2 → m2 ≡ sign signs.Semicolon ∷ rest
      → Goes (parts.Statements ∷ wanted) (stand channels threads (take w registers) k j) ts (parts.Statements ∷ wanted) (stand channels threads (take w registers) (suc k) j) rest
  unfolding pick pick_plain
  emit_goes w k x j wanted ts m1 m2 rest few calm e1 value e3 =
      let c = stand channels threads (take w registers) k j in
      let d = stand channels threads (take w registers) (suc k) j in
      let room : nat_le 1024 k ≡ false = grind (arith, nat_tests, few) in
      goes parts.Statements (form roles.EmitWord (parts.Expression ∷ parts.Only (roles.Sign signs.Semicolon) ∷ parts.Statements ∷ [])) wanted c (word words.Emit) ts m1 e1 refl (rw room refl)
      ∙ expression_goes x (parts.Only (roles.Sign signs.Semicolon) ∷ parts.Statements ∷ wanted) d m1 m2 value calm refl
      ∙ goes_alone (roles.Sign signs.Semicolon) (parts.Statements ∷ wanted) d (sign signs.Semicolon) m2 rest e3 refl refl

  -- the first sync of a repeat is wanted as a further one is
  first_sync : (c : Context) (wanted : List Part) (n : List ℕ) (ts m : List Token) → ts ≡ tokens.name n ∷ m
      → run (parts.Sync ∷ parts.Syncs ∷ wanted) c (spots_of ts) ≡ run (parts.Syncs ∷ wanted) c (spots_of ts)
  unfolding run pick pick_plain
  first_sync c wanted n ts m e = rw e refl

  -- syncs of a repeat begin with a name
  syncs_named : (ss : List Statement) (w left : ℕ) (ts last : List Token)
      → spells_statements true channels registers w (suc left) ss ts last
      → (n : List ℕ) × (m : List Token) × (ts ≡ tokens.name n ∷ m)
  syncs_named [] w left ts last h = absurd h
  syncs_named (emit x ∷ ss) w left ts last h = absurd h
  syncs_named (repeat times count ∷ ss) w left ts last h = absurd h
  syncs_named (sync r t ∷ ss) w left ts last h = (h.0, h.1.1.0, h.1.1.1)

  -- how often a repeat is done
  times_kept : (times : ℕ) (digits : List ℕ) (c : Context) → 0 < times → times ≤ 10000
      → integer_value digits ≡ pos times → first_broken (rules.rules roles.Times c (token (tokens.integer digits))) ≡ None
  times_kept times digits c some most value =
      let fits : fits_i64 (pos times) ≡ true = grind (arith, nat_tests, most) in
      let a : nat_le 1 times ≡ true = grind (arith, nat_tests, some) in
      let b : nat_le times 10000 ≡ true = grind (arith, nat_tests, most) in
      rw (value, fits, a, b) refl

  -- what is wanted where so many syncs of a repeat are still to come
  abbrev wanted_at : ℕ → List Part → List Part
  wanted_at zero wanted = parts.Statements ∷ wanted
  wanted_at (suc left) wanted = parts.Syncs ∷ parts.Statements ∷ wanted

  repeat_goes : (count w k times : ℕ) (ss : List Statement) (j : Rest) (wanted : List Part) (ts last : List Token)
      → k < 1024 → 0 < times → times ≤ 10000 → (h : spells_statements true channels registers w zero
      (repeat times count ∷ ss) ts last)
      → Goes (parts.Statements ∷ wanted) (stand channels threads (take w registers) k j) ts (wanted_at count wanted) (stand channels threads (take w registers) (suc k) j) h.1.2.2.0
  unfolding pick pick_plain
  repeat_goes zero w k times ss j wanted ts last few some most h = absurd (omega (arith, h.0))
  repeat_goes (suc count) w k times ss j wanted ts last few some most h =
      let c = stand channels threads (take w registers) k j in
      let d = stand channels threads (take w registers) (suc k) j in
      let first = h.1 in
      let number = first.2 in
      let brace = number.2 in
      let digits = number.1.0 in
      let room : nat_le 1024 k ≡ false = grind (arith, nat_tests, few) in
      let begins = syncs_named ss w count brace.0 last brace.2 in
      let inside = parts.Sync ∷ parts.Syncs ∷ parts.Statements ∷ wanted in
      goes parts.Statements (form roles.RepeatWord (parts.Only roles.Times ∷ parts.Only (roles.Sign signs.OpenBrace)
      ∷ parts.Sync ∷ parts.Syncs ∷ parts.Statements ∷ [])) wanted c (word words.Repeat) ts first.0 first.1 refl
      (rw room refl)
      ∙ goes_alone roles.Times (parts.Only (roles.Sign signs.OpenBrace) ∷ inside) d (tokens.integer digits) first.0 number.0 number.1.2 refl (times_kept times digits d some most number.1.1)
      ∙ goes_alone (roles.Sign signs.OpenBrace) inside d (sign signs.OpenBrace) number.0 brace.0 brace.1 refl refl
      ∙ first_sync d (parts.Statements ∷ wanted) begins.0 brace.0 begins.1 begins.2

  -- behind all statements
  abbrev StatementsGo : ℕ → ℕ → Rest → List Part → List Part → List Token → List Token → Type 0
  StatementsGo w k j now wanted ts rest =
      (k_then : ℕ) × (r_then : Rest) × Goes now (stand channels threads (take w registers) k j) ts wanted (stand channels threads registers k_then r_then) rest

  statements_go : (ss : List Statement) (m w k left : ℕ) (j : Rest) (wanted : List Part) (ts last rest : List Token)
      → spells_statements true channels registers w left ss ts last → last ≡ sign signs.CloseBrace ∷ rest
      → AreStatements m (length registers) w ss
      → k + length ss ≤ 1024 → StatementsGo w k j (wanted_at left wanted) wanted ts rest
  unfolding pick pick_plain
  statements_go [] m w k zero j wanted ts last rest h e kept few =
      let all : take w registers ≡ registers = ap (λ x. take x registers) kept ∙ whole_taken registers in (
        k,
        j,
        goes parts.Statements (form (roles.Sign signs.CloseBrace) []) wanted (stand channels threads (take w registers) k j) (sign signs.CloseBrace) ts rest (h ∙ e) refl refl
            ∙ ap (λ x. run wanted (stand channels threads x k j) (spots_of rest)) all,
      )
  statements_go [] m w k (suc left) j wanted ts last rest h e kept few = absurd h
  statements_go (sync r t ∷ ss) m w k zero j wanted ts last rest h e kept few =
      let ends = h.1.1.2.2.2.2 in
      let one = sync_goes parts.Statements (parts.Statements ∷ []) statement_begins w r k t j wanted
      (spells_statements true channels registers (with_register w r) 0 ss) ts last kept.0 (omega (arith, few))
      (few_event _ t kept.1) kept.2 h in
      let more = statements_go ss m (with_register w r) (suc k) zero one.0 wanted ends.0 last rest ends.2 e kept.3 (omega (arith, few)) in
      (more.0, more.1, one.1 ∙ more.2)
  statements_go (sync r t ∷ ss) m w k (suc zero) j wanted ts last rest h e kept few =
      let ends = h.1.1.2.2.2.2 in
      let brace = ends.2 in
      let one = sync_goes parts.Syncs (parts.Syncs ∷ []) syncs_begin w r k t j (parts.Statements ∷ wanted)
      (is (sign signs.CloseBrace) ⨟ spells_statements true channels registers (with_register w r) 0 ss) ts last
      kept.0 (omega (arith, few)) (few_event _ t kept.1) kept.2 h in
      let more = statements_go ss m (with_register w r) (suc k) zero one.0 wanted brace.0 last rest brace.2 e kept.3 (omega (arith, few)) in
      let d = stand channels threads (take (with_register w r) registers) (suc k) one.0 in
      (more.0, more.1, one.1 ∙ goes parts.Syncs (form (roles.Sign signs.CloseBrace) []) (parts.Statements ∷ wanted) d (sign signs.CloseBrace) ends.0 brace.0 brace.1 refl refl ∙ more.2)
  statements_go (sync r t ∷ ss) m w k (suc (suc left)) j wanted ts last rest h e kept few =
      let ends = h.1.1.2.2.2.2 in
      let one = sync_goes parts.Syncs (parts.Syncs ∷ []) syncs_begin w r k t j (parts.Statements ∷ wanted)
      (spells_statements true channels registers (with_register w r) (suc left) ss) ts last kept.0
      (omega (arith, few)) (few_event _ t kept.1) kept.2 h in
      let more = statements_go ss m (with_register w r) (suc k) (suc left) one.0 wanted ends.0 last rest ends.2 e kept.3 (omega (arith, few)) in
      (more.0, more.1, one.1 ∙ more.2)
  statements_go (emit x ∷ ss) m w k zero j wanted ts last rest h e kept few =
      let value = h.2 in
      let ends = value.2 in
      let one = emit_goes w k x j wanted ts h.0 value.0 ends.0 (omega (arith, few)) (few_expression _ x kept.0) h.1 value.1 ends.1 in
      let more = statements_go ss m w (suc k) zero j wanted ends.0 last rest ends.2 e kept.1 (omega (arith, few)) in
      (more.0, more.1, one ∙ more.2)
  statements_go (emit x ∷ ss) m w k (suc left) j wanted ts last rest h e kept few = absurd h
  statements_go (repeat times count ∷ ss) m w k zero j wanted ts last rest h e kept few =
      let ends = h.1.2.2 in
      let one = repeat_goes count w k times ss j wanted ts last (omega (arith, few)) kept.0.some_times kept.0.most h in
      let more = statements_go ss m w (suc k) count j wanted ends.0 last rest ends.2 e kept.1 (omega (arith, few)) in
      (more.0, more.1, one ∙ more.2)
  statements_go (repeat times count ∷ ss) m w k (suc left) j wanted ts last rest h e kept few = absurd h

-- ---- threads

-- a thread keeps to itself, with so many channels
record ThreadKeeps (channels : List (List ℕ)) (t : Thread) : Type 0 where
  thread : IsThread (length channels) t
  registers : Registers channels t.registers

-- one thread
thread_goes : (channels threads registers : List (List ℕ)) (k : ℕ) (j : Rest) (t : Thread) (wanted : List Part)
    (ts rest : List Token) → ThreadKeeps channels t → spells_thread true channels t ts rest → length threads < 64
    → IsNew t.name threads
    → (last : List (List ℕ)) × (k_then : ℕ) × (j_then : Rest) × Goes (parts.Threads ∷ wanted)
    (stand channels threads registers k j) ts (parts.Threads ∷ wanted)
    (stand channels (threads ++ t.name ∷ []) last k_then j_then) rest
unfolding pick pick_plain
thread_goes channels threads registers k j t wanted ts rest keeps h few new =
    let word_part = h.1 in
    let named = word_part.2 in
    let inside = named.2 in
    let body = inside.2 in
    let name = t.name in
    let c = stand channels threads registers k j in
    let d = stand channels threads [] 0 j in
    let more = threads ++ name ∷ [] in
    let f = stand channels more [] 0 j in
    let room : nat_le 64 (length threads) ≡ false = grind (arith, nat_tests, few) in
    let long : nat_lt 32 (length name) ≡ false = grind (arith, nat_tests, h.0) in
    let tail = parts.Statements ∷ parts.Threads ∷ wanted in
    let s = statements_go channels more t.registers keeps.registers t.statements (length channels) 0 0 0 j
    (parts.Threads ∷ wanted) inside.0 body.0 rest body.1 body.2 keeps.thread.in_order
    (omega (arith, keeps.thread.statements)) in (
      t.registers,
      s.0,
      s.1,
      goes parts.Threads (form roles.ThreadWord (parts.Only roles.ThreadName ∷ parts.Only (roles.Sign signs.OpenBrace)
          ∷ parts.Statements ∷ parts.Threads ∷ [])) wanted c (word words.Thread) ts word_part.0 word_part.1 refl
          (rw room refl)
          ∙ goes_alone roles.ThreadName (parts.Only (roles.Sign signs.OpenBrace) ∷ tail) d (tokens.name name) word_part.0 named.0 named.1 refl (rw (not_among threads name new, long) refl)
          ∙ goes_alone (roles.Sign signs.OpenBrace) tail f (sign signs.OpenBrace) named.0 inside.0 inside.1 refl refl
          ∙ s.2,
    )

-- a list of which each name is new to those before
abbrev AreNew : List (List ℕ) → List (List ℕ) → Type 0
AreNew before [] = Unit {0}
AreNew before (n ∷ ns) = IsNew n before × AreNew (before ++ n ∷ []) ns

all_new : (before ns : List (List ℕ)) → AreDistinct ns → AllByRecursion (λ m. IsNew m before) ns → AreNew before ns
all_new before [] d h = tt
all_new before (n ∷ ns) d h = (h.0, all_new (before ++ n ∷ []) ns d.1 (with_one ns d.0 h.1)) where
  with_one : (ms : List (List ℕ)) → AllByRecursion (λ y. n ≢ y) ms → AllByRecursion (λ m. IsNew m before) ms → AllByRecursion (λ m. IsNew m (before ++ n ∷ [])) ms
  with_one [] a b = tt
  with_one (m ∷ ms) a b = (AllByRecursion-append (λ x. x ≢ m) before n b.0 a.0, with_one ms a.1 b.1)

all_new_first : (ns : List (List ℕ)) → AreDistinct ns → AreNew [] ns
all_new_first ns d = all_new [] ns d (none ns) where
  none : (ms : List (List ℕ)) → AllByRecursion (λ m. IsNew m []) ms
  none [] = tt
  none (m ∷ ms) = (tt, none ms)

threads_go : (channels threads registers : List (List ℕ)) (k : ℕ) (j : Rest) (all : List Thread) (ts : List Token)
    → AllByRecursion (ThreadKeeps channels) all → spells_threads true channels all ts []
    → length threads + length all ≤ 64 → 0 < length threads + length all
    → AreNew threads (thread_names all) → run (parts.Threads ∷ []) (stand channels threads registers k j) (spots_of ts) ≡ None
unfolding run pick pick_plain
threads_go channels threads registers k j [] ts keeps h few some new =
    let one : nat_le (length threads) 0 ≡ false = grind (arith, nat_tests, some) in
    rw (h, one) refl
threads_go channels threads registers k j (t ∷ all) ts keeps h few some new =
    let one = thread_goes channels threads registers k j t [] ts h.0 keeps.0 h.1 (omega (arith, few)) new.0 in
    let more = length-append threads (t.name ∷ []) in
    one.3 ∙ threads_go channels (threads ++ t.name ∷ []) one.0 one.1 one.2 all h.0 keeps.1 h.2 (omega (arith, few, more)) (omega (arith, some, more)) new.1

-- ---- channels and scripts

-- names behind those before
names_go : (before ns : List (List ℕ)) (wanted : List Part) (j : Rest) (ts m rest : List Token)
    → spells_names true ns ts m → m ≡ sign signs.Semicolon ∷ rest → length before + length ns ≤ 256 → AreNew before ns
    → Goes (parts.Channels ∷ wanted) (stand before [] [] 0 j) ts wanted (stand (before ++ ns) [] [] 0 j) rest
unfolding pick pick_plain
names_go before [] wanted j ts m rest h e few new =
    goes parts.Channels (form (roles.Sign signs.Semicolon) []) wanted (stand before [] [] 0 j) (sign signs.Semicolon) ts rest (h ∙ e) refl refl
    ∙ ap (λ x. run wanted (stand x [] [] 0 j) (spots_of rest)) (sym (append-nil before))
names_go before (n ∷ ns) wanted j ts m rest h e few new =
    let k = h.1 in
    goes parts.Channels (form roles.ChannelName (parts.Channels ∷ [])) wanted (stand before [] [] 0 j) (tokens.name n) ts k.0 k.1 refl (name_kept before n h.0 new.0 (omega (arith, few)))
    ∙ names_go (before ++ n ∷ []) ns wanted j k.0 m rest k.2 e (omega (arith, few, length-append before (n ∷ []))) new.1
    ∙ ap (λ x. run wanted (stand x [] [] 0 j) (spots_of rest)) (append_assoc before (n ∷ []) ns) where
      name_kept : (before : List (List ℕ)) (n : List ℕ) → IsShortName n → IsNew n before → length before < 256
          → first_broken (rules.rules roles.ChannelName (stand before [] [] 0 j) (token (tokens.name n))) ≡ None
      name_kept before n short new few =
          let long : nat_lt 32 (length n) ≡ false = grind (arith, nat_tests, short) in
          let room : nat_le 256 (length before) ≡ false = grind (arith, nat_tests, few) in
          rw (not_among before n new, long, room) refl

thread_kept : (channels : List (List ℕ)) → AreDistinct channels → (ts : List Thread)
    → AllByRecursion (IsThread (length channels)) ts → AllByRecursion (λ t. AreApart t.registers channels) ts
    → AllByRecursion (ThreadKeeps channels) ts
thread_kept channels d [] a b = tt
thread_kept channels d (t ∷ ts) a b = (
  record { thread = a.0; registers = record { channels_distinct = d; distinct = a.0.distinct; few = a.0.registers; apart = b.0 } },
  thread_kept channels d ts a.1 b.1,
)

script_as_threads : (c : Context) (ts m : List Token) → ts ≡ word words.Thread ∷ m → run (parts.Script ∷ []) c (spots_of ts) ≡ run (parts.Threads ∷ []) c (spots_of ts)
unfolding run pick pick_plain
script_as_threads c ts m e = rw e refl

nothing : Rest
nothing = record { written = []; bound = []; braces = []; counted = no_node }

-- the threads of a script
module _ (p : Program) (kept : IsProgram p) where
  all_threads_go : (j : Rest) (ts : List Token) → spells_threads true p.channels p.threads ts [] → run (parts.Threads ∷ []) (stand p.channels [] [] 0 j) (spots_of ts) ≡ None
  all_threads_go j ts h =
      threads_go p.channels [] [] 0 j p.threads ts (thread_kept p.channels kept.channel_names p.threads kept.each
      kept.apart) h (omega (arith, kept.threads)) (omega (arith, kept.some_thread))
      (all_new_first (thread_names p.threads) kept.names)

  pub program_goes : (ts : List Token) → spells_program true p ts [] → run (parts.Script ∷ []) nothing_before (spots_of ts) ≡ None
  unfolding pick pick_plain
  program_goes ts h = by p.channels refl h.1 where
    j : Rest
    j = record { written = []; bound = []; braces = []; counted = no_node }

    by : (cs : List (List ℕ)) → p.channels ≡ cs → spells_channels true cs ts h.0 → run (parts.Script ∷ []) nothing_before (spots_of ts) ≡ None
    by [] e k =
        let f = threads_begin p.channels p.threads h.0 [] kept.some_thread h.2 in
        script_as_threads nothing_before ts f.0 (k ∙ f.1)
        ∙ ap (λ x. run (parts.Threads ∷ []) nothing_before (spots_of x)) k
        ∙ ap (λ x. run (parts.Threads ∷ []) (stand x [] [] 0 j) (spots_of h.0)) (sym e)
        ∙ all_threads_go j h.0 h.2
    by (n ∷ ns) e k =
        let names = k.2.1 in
        let after = names.1 in
        let distinct : AreDistinct (n ∷ ns) = subst (λ (x : List (List ℕ)). AreDistinct x) e kept.channel_names in
        let few : length (n ∷ ns) ≤ 256 = subst (λ (x : List (List ℕ)). length x ≤ 256) e kept.channels in
        let long : nat_lt 32 (length n) ≡ false = grind (arith, nat_tests, names.0) in
        goes parts.Script (form (roles.Word words.Channels) (parts.Only roles.ChannelName ∷ parts.Channels ∷ parts.Threads ∷ [])) [] nothing_before (word words.Channels) ts k.0 k.1 refl refl
        ∙ goes_alone roles.ChannelName (parts.Channels ∷ parts.Threads ∷ []) nothing_before (tokens.name n) k.0 after.0 after.1 refl (rw (not_among [] n tt, long) refl)
        ∙ names_go (n ∷ []) ns (parts.Threads ∷ []) j after.0 k.2.0 h.0 after.2 k.2.2 (omega (arith, few)) (all_new_first (n ∷ ns) distinct).1
        ∙ ap (λ x. run (parts.Threads ∷ []) (stand x [] [] 0 j) (spots_of h.0)) (sym e)
        ∙ all_threads_go j h.0 h.2
