-- What was read of statements, threads and channels is spelled by the tokens, and keeps the limits and the rules on names.
use Rattle.std.proofs.Common.{◌≡◌, ℕ, zero, suc, ◌<◌, ◌≤◌, Bool, true, false, nat_lt, List, [], ◌∷◌, ◌++◌, length, take, refl, sym, ◌∙◌, ap, subst, append_assoc, length-append, arith}
use Rattle.std.specs.Prelude.{Option, Some, None, nat_le, ◌&&◌, ℤ, pos, negsuc, if◌then◌else◌}
use Rattle.std.specs.List.{AllByRecursion}
use Rattle.std.proofs.lemmas.List.{append-nil}
use Rattle.std.proofs.lemmas.Bool.Decides.{nat_tests}
use Rattle.te_terms.specs.Expressions.{Expression}
use Rattle.te_terms.specs.Terms.{Term}
use Rattle.te_script.specs.Scripts.{Statement, sync, emit, Thread, Program, with_register, AreSyncs, IsEvent, AreStatements, AreDistinct, AreApart, IsThread, thread_names, IsProgram}
use Rattle.te_reader.specs.declared.token.Word.TheVariants as words
use Rattle.te_reader.specs.declared.token.Sign.TheVariants as signs
use Rattle.te_reader.specs.Tokens as tokens
use Rattle.te_reader.specs.Tokens.{Token, word, sign}
use Rattle.te_reader.specs.Heads.{word_first, sign_first, name_first, integer_first}
use Rattle.te_reader.specs.Integers.{integer_value}
use Rattle.te_terms.specs.Limits.{IsWithinLimits}
use Rattle.te_reader.specs.Grammar.{Span, is, ◌⨟◌, IsAt, IsNew, IsShortName, alone, spells_expression, spells_event}
use Rattle.te_reader.specs.Grammar.{spells_integer, spells_sync, behind_sync, spells_statements, spells_thread}
use Rattle.te_reader.specs.Grammar.{spells_threads, spells_names, spells_channels, spells_program}
use Rattle.te_reader.specs.NameReads.{Read, ◌>>=◌, checked, if_absent, first_place_of, names_of, declared_in}
use Rattle.te_reader.specs.ExpressionReads.{read_expression}
use Rattle.te_reader.specs.Tallies.{no_node}
use Rattle.te_reader.specs.EventReads.{read_event}
use Rattle.te_reader.specs.Reads.{old_or_new, register_of, read_sync, read_written, read_emit, emit_or_sync}
use Rattle.te_reader.specs.Reads.{read_statement, repeats_in, read_times, Body, read_changed, before_body}
use Rattle.te_reader.specs.Reads.{before_repeat, before_inside, before_brace, repeat_or_statement, more_body}
use Rattle.te_reader.specs.Reads.{brace_or_sync, inside_body, brace_or_more, read_body, named_body, read_thread}
use Rattle.te_reader.specs.Reads.{read_new_thread, end_or_thread, read_threads, semicolon_or_name, read_names, if_some}
use Rattle.te_reader.specs.Reads.{none_or_channels, read_channels, read_program}
use Rattle.te_reader.proofs.NameLemmas.{bind_some, checked_some, absent_some, place_is, place_none, declared}
use Rattle.te_reader.proofs.HeadLemmas.{both_same, name_is, word_is, sign_is, integer_is}
use Rattle.te_reader.proofs.ListsKept.{distinct_push, at_more, at_last, short_at, taken, Grows, stays, goes_on, grows_one}
use Rattle.te_reader.proofs.ReadIsSpelled.{scope_of, ReadExpression, expression_read}
use Rattle.te_reader.proofs.EventIsSpelled.{ReadEvent, event_read}

-- ---- registers

-- the register that was read of a name
pub record ReadRegister (channels registers : List (List ℕ)) (n : List ℕ) (r : ℕ) (more : List (List ℕ)) : Type 0 where
  pub grows : Grows channels registers more
  pub at : IsAt more r n
  pub known : r ≤ length registers
  pub written : with_register (length registers) r ≡ length more

pub register_read : (channels registers : List (List ℕ)) (n : List ℕ) (r : ℕ) (more : List (List ℕ)) → register_of channels registers n ≡ Some (r, more) → ReadRegister channels registers n r more
unfolding register_of
register_read channels registers n r more e =
    let a = bind_some (if_absent (first_place_of channels n)) _ _ e in
    by (place_none channels n (absent_some _ _ a.1)) (first_place_of registers n) refl a.2 where
      by : IsNew n channels → (o : Option ℕ) → first_place_of registers n ≡ o → old_or_new registers n o ≡ Some (r, more) → ReadRegister channels registers n r more
      by no_channel (Some old) f e =
          let same = both_same _ _ e in
          let at = place_is registers n old f in
          let before : nat_lt old (length registers) ≡ true = grind (arith, nat_tests, at.1) in
          let good : ReadRegister channels registers n old registers = record { grows = stays channels registers; at = at.0; known = omega (arith, at.1); written = rw before refl } in
          subst (λ (x : List (List ℕ)). ReadRegister channels registers n r x) same.1 (subst (λ (x : ℕ). ReadRegister channels registers n x registers) same.0 good)
      by no_channel None f e =
          let a = bind_some (declared_in 8 registers n) _ _ e in
          let same = both_same _ _ a.2 in
          let d = declared 8 registers n a.0 a.1 in
          let not_before : nat_lt (length registers) (length registers) ≡ false = grind (arith, nat_tests) in
          let good : ReadRegister channels registers n (length registers) (registers ++ n ∷ []) = record {
            grows = grows_one channels registers n d.room d.short d.new no_channel;
            at = at_last registers n;
            known = omega arith;
            written = rw not_before (omega (arith, length-append registers (n ∷ [])));
          } in
          subst (λ (x : List (List ℕ)). ReadRegister channels registers n r x) (sym d.appended ∙ same.1) (subst (λ (x : ℕ). ReadRegister channels registers n x (registers ++ n ∷ [])) same.0 good)

-- ---- statements

module _ (m : ℕ) (channels : List (List ℕ)) (many : length channels ≤ m) where
  -- in the braces of a repeat there is a statement yet
  abbrev IsLeading : Bool → ℕ → Type 0
  IsLeading true n = 0 < n
  IsLeading false n = n ≡ 0

  -- a body that was read, inside the braces of a repeat or not
  pub record ReadBody (left : ℕ) (inside : Bool) (registers : List (List ℕ)) (body : Body) (ts rest : List Token) : Type 0 where
    pub grows : Grows channels registers body.registers
    pub most : length body.statements ≤ left
    pub leads : IsLeading inside body.leading
    pub syncs : AreSyncs body.leading body.statements
    pub in_order : AreStatements m (length body.registers) (length registers) body.statements
    pub spelled : AllByRecursion IsShortName registers → (spells_statements true channels body.registers (length registers) body.leading body.statements ⨟ is (sign signs.CloseBrace)) ts rest

  -- outside of repeats
  pub spelled_outside : (left : ℕ) (registers : List (List ℕ)) (body : Body) (ts rest : List Token) → ReadBody left false registers body ts rest → AllByRecursion IsShortName registers
      → (spells_statements true channels body.registers (length registers) 0 body.statements ⨟ is (sign signs.CloseBrace)) ts rest
  spelled_outside left registers body ts rest b short =
      let l = b.spelled short in
      (l.0, subst (λ (k : ℕ). spells_statements true channels body.registers (length registers) k body.statements ts l.0) b.leads l.1, l.2)

  -- the registers in scope at a statement are the first of all
  in_scope : (registers all : List (List ℕ)) → Grows channels registers all → take (length registers) all ≡ registers
  in_scope registers all g = rw g.appended (taken registers g.added)

  -- an `emit` before a body
  emit_before : (left : ℕ) (registers : List (List ℕ)) (x : Expression) (body : Body)
      (ts inside after rest : List Token) → ts ≡ word words.Emit ∷ inside
      → read_emit channels registers inside ≡ Some (x, after)
      → ReadBody left false registers body after rest → ReadBody (suc left) false registers (before_body (emit x) body) ts rest
  unfolding read_emit
  emit_before left registers x body ts inside after rest begins e later =
      let a = bind_some (read_expression (names_of channels registers) inside) _ _ e in
      let b = bind_some (sign_first signs.Semicolon a.0.1) _ _ a.2 in
      let same = both_same _ _ b.2 in
      let value : ReadExpression m (names_of channels registers) many x inside a.0.1 =
      subst (λ (y : Expression). ReadExpression m (names_of channels registers) many y inside a.0.1) same.0
      (expression_read m (names_of channels registers) many a.0.0 inside a.0.1 a.1) in
      let names = in_scope registers body.registers later.grows in
      record {
        grows = later.grows;
        most = omega (arith, later.most);
        leads = refl;
        syncs = tt;
        in_order = (value.scoped, later.in_order);
        spelled = λ short. let l = spelled_outside left registers body after rest later short in (
          l.0,
          (
            inside,
            begins,
            (
              a.0.1,
              subst (λ (rs : List (List ℕ)).
                  spells_expression true (names_of channels rs) x inside a.0.1) (sym names) value.spelled,
              (after, sign_is signs.Semicolon a.0.1 after (b.1 ∙ ap Some same.1), l.1),
            ),
          ),
          l.2,
        );
      }

  -- a sync that was read, before what is spelled behind it
  record ReadSync (registers more all : List (List ℕ)) (r : ℕ) (t : Term) (ts after : List Token) : Type 1 where
    grows : Grows channels registers all
    known : r ≤ length registers
    written : with_register (length registers) r ≡ length more
    scoped : IsEvent (scope_of m (names_of channels registers)) t
    within : IsWithinLimits t
    still : AllByRecursion IsShortName registers → AllByRecursion IsShortName more
    spelled : AllByRecursion IsShortName registers → (tail : Span) (rest : List Token) → tail after rest → spells_sync true channels all (length registers) r t tail ts rest

  sync_read : (registers more all : List (List ℕ)) (n : List ℕ) (r : ℕ) (t : Term) (ts inside after : List Token) → ts ≡ tokens.name n ∷ inside → read_sync channels registers inside ≡ Some (t, after)
      → register_of channels registers n ≡ Some (r, more) → Grows channels more all → ReadSync registers more all r t ts after
  unfolding read_sync
  sync_read registers more all n r t ts inside after begins e of grown =
      let a = bind_some (sign_first signs.Arrow inside) _ _ e in
      let b = bind_some (word_first words.Sync a.0) _ _ a.2 in
      let c = bind_some (read_event 32 alone (names_of channels registers) no_node b.0) _ _ b.2 in
      let d = bind_some (sign_first signs.Semicolon c.0.1) _ _ c.2 in
      let same = both_same _ _ d.2 in
      let event : ReadEvent m alone (names_of channels registers) no_node t b.0 c.0.1 =
      subst (λ (u : Term). ReadEvent m alone (names_of channels registers) no_node u b.0 c.0.1) same.0
      (event_read m 32 alone (names_of channels registers) no_node c.0.0 b.0 c.0.1 many c.1) in
      let reg = register_read channels registers n r more of in
      let whole = goes_on channels registers more all reg.grows grown in
      let names = in_scope registers all whole in
      let at : IsAt all r n = rw grown.appended (at_more more grown.added r n reg.at) in
      record {
        grows = whole;
        known = reg.known;
        written = reg.written;
        scoped = event.scoped;
        within = record { low = event.low; few = omega (arith, event.few.0); few_fresh = omega (arith, event.few.1) };
        still = reg.grows.short;
        spelled = λ short tail rest l. (
          n,
          (
            (at, short_at more r n (reg.grows.short short) reg.at),
            (
              inside,
              begins,
              (
                a.0,
                sign_is signs.Arrow inside a.0 a.1,
                (
                  b.0,
                  word_is words.Sync a.0 b.0 b.1,
                  (
                    c.0.1,
                    subst (λ (rs : List (List ℕ)). spells_event true alone (names_of channels rs) t b.0 c.0.1) (sym names) event.spelled,
                    (after, sign_is signs.Semicolon c.0.1 after (d.1 ∙ ap Some same.1), l),
                  ),
                ),
              ),
            ),
          ),
        );
      }

  -- a statement that was read as a sync
  record WasWritten (registers more : List (List ℕ)) (s : Statement) (ts after : List Token) : Type 0 where
    name : List ℕ
    number : ℕ
    event : Term
    inside : List Token
    is_sync : sync number event ≡ s
    begins : ts ≡ tokens.name name ∷ inside
    read : read_sync channels registers inside ≡ Some (event, after)
    of : register_of channels registers name ≡ Some (number, more)

  was_written : (registers more : List (List ℕ)) (s : Statement) (ts after : List Token) → read_written channels registers ts ≡ Some ((s, more), after) → WasWritten registers more s ts after
  unfolding read_written
  was_written registers more s ts after e =
      let a = bind_some (name_first ts) _ _ e in
      let b = bind_some (read_sync channels registers a.0.1) _ _ a.2 in
      let c = bind_some (register_of channels registers a.0.0) _ _ b.2 in
      let same = both_same _ _ c.2 in
      record {
        name = a.0.0;
        number = c.0.0;
        event = b.0.0;
        inside = a.0.1;
        is_sync = ap (λ p. p.0) same.0;
        begins = name_is ts a.0.0 a.0.1 a.1;
        read = b.1 ∙ ap (λ t. Some (b.0.0, t)) same.1;
        of = c.1 ∙ ap (λ x. Some (c.0.0, x)) (ap (λ p. p.1) same.0);
      }

  -- a sync before a body, before the brace of a repeat, and before more of its syncs
  sync_before : (left : ℕ) (registers more : List (List ℕ)) (r : ℕ) (t : Term) (body : Body)
      (ts after rest : List Token) → ReadSync registers more body.registers r t ts after
      → ReadBody left false more body after rest
      → ReadBody (suc left) false registers (before_body (sync r t) body) ts rest
  sync_before left registers more r t body ts after rest s later = record {
    grows = s.grows;
    most = omega (arith, later.most);
    leads = refl;
    syncs = tt;
    in_order = (s.known, s.scoped, s.within, rw s.written later.in_order);
    spelled = λ short.
        let l = spelled_outside left more body after rest later (s.still short) in
        let tail : spells_statements true channels body.registers (with_register (length registers) r) 0 body.statements after l.0 = rw s.written l.1 in
        (l.0, s.spelled short (spells_statements true channels body.registers (with_register (length registers) r) 0 body.statements) l.0 tail, l.2);
  }

  sync_before_brace : (left : ℕ) (registers more : List (List ℕ)) (r : ℕ) (t : Term) (body : Body)
      (ts after last rest : List Token) → ReadSync registers more body.registers r t ts after
      → after ≡ sign signs.CloseBrace ∷ last → ReadBody left false more body last rest
      → ReadBody (suc left) true registers (before_brace (sync r t) body) ts rest
  sync_before_brace left registers more r t body ts after last rest s close later = record {
    grows = s.grows;
    most = omega (arith, later.most);
    leads = omega arith;
    syncs = tt;
    in_order = (s.known, s.scoped, s.within, rw s.written later.in_order);
    spelled = λ short.
        let l = spelled_outside left more body last rest later (s.still short) in
        let tail : spells_statements true channels body.registers (with_register (length registers) r) 0 body.statements last l.0 = rw s.written l.1 in
        (l.0, s.spelled short (is (sign signs.CloseBrace) ⨟ spells_statements true channels body.registers (with_register (length registers) r) 0 body.statements) l.0 (last, close, tail), l.2);
  }

  behind_some : (k : ℕ) (tail : Span) (ts rest : List Token) → 0 < k → tail ts rest → behind_sync k tail ts rest
  behind_some zero tail ts rest some h = absurd (omega (arith, some))
  behind_some (suc k) tail ts rest some h = h

  sync_before_more : (left : ℕ) (registers more : List (List ℕ)) (r : ℕ) (t : Term) (body : Body)
      (ts after rest : List Token) → ReadSync registers more body.registers r t ts after
      → ReadBody left true more body after rest
      → ReadBody (suc left) true registers (before_inside (sync r t) body) ts rest
  sync_before_more left registers more r t body ts after rest s later = record {
    grows = s.grows;
    most = omega (arith, later.most);
    leads = omega arith;
    syncs = later.syncs;
    in_order = (s.known, s.scoped, s.within, rw s.written later.in_order);
    spelled = λ short.
        let l = later.spelled (s.still short) in
        let span : Span = spells_statements true channels body.registers (with_register (length registers) r) body.leading body.statements in
        let tail : spells_statements true channels body.registers (with_register (length registers) r) body.leading body.statements after l.0 = rw s.written l.1 in
        (l.0, s.spelled short (behind_sync body.leading span) l.0 (behind_some body.leading span after l.0 later.leads tail), l.2);
  }

  -- how often a repeat is done, as it was read
  record ReadTimes (times : ℕ) (ts rest : List Token) : Type 0 where
    some : 0 < times
    most : times ≤ 10000
    middle : List Token
    spelled : spells_integer (pos times) ts middle
    opened : middle ≡ sign signs.OpenBrace ∷ rest

  both_true : (a b : Bool) → (a && b) ≡ true → (a ≡ true) × (b ≡ true)
  both_true true b e = (refl, e)
  both_true false b e = absurd cc

  count_is : (z : ℤ) (n : ℕ) → repeats_in z ≡ Some n → (z ≡ pos n) × (0 < n) × (n ≤ 10000)
  count_is (negsuc k) n e = absurd cc
  count_is (pos k) n e = by (nat_le 1 k && nat_le k 10000) refl e where
    by : (b : Bool) → (nat_le 1 k && nat_le k 10000) ≡ b → (if b then Some k else None) ≡ Some n → (pos k ≡ pos n) × (0 < n) × (n ≤ 10000)
    by true f e =
        let same : k ≡ n = cc in
        let both = both_true (nat_le 1 k) (nat_le k 10000) f in
        let some : 0 < k = grind (arith, nat_tests, both.0) in
        let most : k ≤ 10000 = grind (arith, nat_tests, both.1) in
        (ap pos same, subst (λ (x : ℕ). 0 < x) same some, subst (λ (x : ℕ). x ≤ 10000) same most)
    by false f e = absurd cc

  times_read : (times : ℕ) (ts rest : List Token) → read_times ts ≡ Some (times, rest) → ReadTimes times ts rest
  unfolding read_times
  times_read times ts rest e =
      let a = bind_some (integer_first ts) _ _ e in
      let b = bind_some (repeats_in (integer_value a.0.0)) _ _ a.2 in
      let c = bind_some (sign_first signs.OpenBrace a.0.1) _ _ b.2 in
      let same = both_same _ _ c.2 in
      let count = count_is (integer_value a.0.0) times (b.1 ∙ ap Some same.0) in
      record {
        some = count.1;
        most = count.2;
        middle = a.0.1;
        spelled = (a.0.0, count.0, integer_is ts a.0.0 a.0.1 a.1);
        opened = sign_is signs.OpenBrace a.0.1 rest (c.1 ∙ ap Some same.1);
      }

  repeat_before : (left : ℕ) (registers : List (List ℕ)) (times : ℕ) (body : Body) (ts behind inside rest : List Token)
      → ts ≡ word words.Repeat ∷ behind → ReadTimes times behind inside → ReadBody left true registers body inside rest
      → ReadBody (suc left) false registers (before_repeat times body) ts rest
  repeat_before left registers times body ts behind inside rest begins h later = record {
    grows = later.grows;
    most = omega (arith, later.most);
    leads = refl;
    syncs = tt;
    in_order = (record { some_times = h.some; most = h.most; some = later.leads; body = later.syncs }, later.in_order);
    spelled = λ short. let l = later.spelled short in (l.0, (later.leads, (behind, begins, (h.middle, h.spelled, (inside, h.opened, l.1)))), l.2);
  }

  -- no statement before the closing brace
  ended : (left : ℕ) (registers : List (List ℕ)) (body : Body) (ts rest last : List Token)
      → sign_first signs.CloseBrace ts ≡ Some last → brace_or_more registers None (Some last) ≡ Some (body, rest)
      → ReadBody left false registers body ts rest
  ended left registers body ts rest last f e =
      let same = both_same _ _ e in
      let none : ReadBody left false registers (record { statements = []; leading = 0; registers = registers }) ts rest = record {
        grows = stays channels registers;
        most = omega arith;
        leads = refl;
        syncs = tt;
        in_order = refl;
        spelled = λ short. (ts, refl, sign_is signs.CloseBrace ts rest (f ∙ ap Some same.1));
      } in
      subst (λ (b : Body). ReadBody left false registers b ts rest) same.0 none

  -- one statement before a body
  statement_before : (left : ℕ) (registers more : List (List ℕ)) (s : Statement) (body : Body)
      (ts after rest : List Token) → read_statement channels registers ts ≡ Some ((s, more), after)
      → ReadBody left false more body after rest
      → ReadBody (suc left) false registers (before_body s body) ts rest
  unfolding read_statement
  statement_before left registers more s body ts after rest e later = by (word_first words.Emit ts) refl e where
    put : (s' : Statement) → s' ≡ s → ReadBody (suc left) false registers (before_body s' body) ts rest → ReadBody (suc left) false registers (before_body s body) ts rest
    put s' same h = subst (λ (x : Statement). ReadBody (suc left) false registers (before_body x body) ts rest) same h

    by : (o : Option (List Token)) → word_first words.Emit ts ≡ o → emit_or_sync channels registers ts o ≡ Some ((s, more), after) → ReadBody (suc left) false registers (before_body s body) ts rest
    by (Some inside) f e =
        let a = bind_some (read_emit channels registers inside) _ _ e in
        let same = both_same _ _ a.2 in
        let regs : registers ≡ more = ap (λ p. p.1) same.0 in
        let read : read_emit channels registers inside ≡ Some (a.0.0, after) = a.1 ∙ ap (λ t. Some (a.0.0, t)) same.1 in
        put (emit a.0.0) (ap (λ p. p.0) same.0) (emit_before left registers a.0.0 body ts inside after rest
        (word_is words.Emit ts inside f) read (subst (λ (rs : List (List ℕ)). ReadBody left false rs body after rest)
        (sym regs) later))
    by None f e =
        let w = was_written registers more s ts after e in
        put (sync w.number w.event) w.is_sync (sync_before left registers more w.number w.event body ts after rest
        (sync_read registers more body.registers w.name w.number w.event ts w.inside after w.begins w.read w.of
        later.grows) later)

  changed_some : (f : Body → Body) (o : Read Body) (b : Body) (rest : List Token) → read_changed f o ≡ Some (b, rest) → (c : Body) × (o ≡ Some (c, rest)) × (f c ≡ b)
  changed_some f None b rest e = absurd cc
  changed_some f (Some x) b rest e =
      let same = both_same _ _ e in
      (x.0, ap (λ l. Some (x.0, l)) same.1, same.0)

  pub body_read : (left : ℕ) (inside : Bool) (registers : List (List ℕ)) (body : Body) (ts rest : List Token)
      → read_body left channels inside registers ts ≡ Some (body, rest) → ReadBody left inside registers body ts rest
  unfolding read_body more_body inside_body
  body_read zero true registers body ts rest e = absurd cc
  body_read zero false registers body ts rest e = by (sign_first signs.CloseBrace ts) refl e where
    by : (o : Option (List Token)) → sign_first signs.CloseBrace ts ≡ o → brace_or_more registers None o ≡ Some (body, rest) → ReadBody zero false registers body ts rest
    by (Some last) f e = ended zero registers body ts rest last f e
    by None f e = absurd cc
  body_read (suc left) false registers body ts rest e = by (body_read left) (sign_first signs.CloseBrace ts) refl e where
    Later : Type 0
    Later = (inside : Bool) (more : List (List ℕ)) (b : Body) (us last : List Token) → read_body left channels inside more us ≡ Some (b, last) → ReadBody left inside more b us last

    more : Later → (o : Option (List Token)) → word_first words.Repeat ts ≡ o
        → repeat_or_statement (read_body left channels) channels registers ts o ≡ Some (body, rest)
        → ReadBody (suc left) false registers body ts rest
    more later (Some behind) f e =
        let a = bind_some (read_times behind) _ _ e in
        let c = changed_some (before_repeat a.0.0) (read_body left channels true registers a.0.1) body rest a.2 in
        let whole = repeat_before left registers a.0.0 c.0 ts behind a.0.1 rest (word_is words.Repeat ts behind f) (times_read a.0.0 behind a.0.1 a.1) (later true registers c.0 a.0.1 rest c.1) in
        subst (λ (b : Body). ReadBody (suc left) false registers b ts rest) c.2 whole
    more later None f e =
        let a = bind_some (read_statement channels registers ts) _ _ e in
        let c = changed_some (before_body a.0.0.0) (read_body left channels false a.0.0.1 a.0.1) body rest a.2 in
        let whole = statement_before left registers a.0.0.1 a.0.0.0 c.0 ts a.0.1 rest a.1 (later false a.0.0.1 c.0 a.0.1 rest c.1) in
        subst (λ (b : Body). ReadBody (suc left) false registers b ts rest) c.2 whole

    by : Later → (o : Option (List Token)) → sign_first signs.CloseBrace ts ≡ o
        → brace_or_more registers (Some (repeat_or_statement (read_body left channels) channels registers ts
        (word_first words.Repeat ts))) o ≡ Some (body, rest) → ReadBody (suc left) false registers body ts rest
    by later (Some last) f e = ended (suc left) registers body ts rest last f e
    by later None f e = more later (word_first words.Repeat ts) refl e
  body_read (suc left) true registers body ts rest e =
      let a = bind_some (read_written channels registers ts) _ _ e in
      by (body_read left) a.0.0.0 a.0.0.1 a.0.1 (was_written registers a.0.0.1 a.0.0.0 ts a.0.1 a.1) (sign_first signs.CloseBrace a.0.1) refl a.2 where
        by : ((inside : Bool) (more : List (List ℕ)) (b : Body) (us last : List Token) → read_body left channels inside more us ≡ Some (b, last) → ReadBody left inside more b us last)
            → (s : Statement) (more : List (List ℕ)) (after : List Token) → WasWritten registers more s ts after
            → (o : Option (List Token)) → sign_first signs.CloseBrace after ≡ o
            → brace_or_sync (read_body left channels) s more after o ≡ Some (body, rest)
            → ReadBody (suc left) true registers body ts rest
        by later s more after w (Some last) f e =
            let c = changed_some (before_brace s) (read_body left channels false more last) body rest e in
            let l = later false more c.0 last rest c.1 in
            let whole = sync_before_brace left registers more w.number w.event c.0 ts after last rest
            (sync_read registers more c.0.registers w.name w.number w.event ts w.inside after w.begins w.read w.of
            l.grows) (sign_is signs.CloseBrace after last f) l in
            subst (λ (b : Body). ReadBody (suc left) true registers b ts rest) (ap (λ x. before_brace x c.0) w.is_sync ∙ c.2) whole
        by later s more after w None f e =
            let c = changed_some (before_inside s) (read_body left channels true more after) body rest e in
            let l = later true more c.0 after rest c.1 in
            let whole = sync_before_more left registers more w.number w.event c.0 ts after rest
            (sync_read registers more c.0.registers w.name w.number w.event ts w.inside after w.begins w.read w.of
            l.grows) l in
            subst (λ (b : Body). ReadBody (suc left) true registers b ts rest) (ap (λ x. before_inside x c.0) w.is_sync ∙ c.2) whole

  -- what such a body keeps, as a list of statements and one of registers
  pub kept_lists : (body : Body) (statements : List Statement) (registers : List (List ℕ)) (ts rest : List Token)
      → body.statements ≡ statements → body.registers ≡ registers → ReadBody 1024 false [] body ts rest
      → AreDistinct registers × (length statements ≤ 1024) × AreStatements m (length registers) 0 statements
  kept_lists body statements registers ts rest e f b = (
    subst (λ (x : List (List ℕ)). AreDistinct x) f (b.grows.distinct tt),
    omega (arith, b.most, ap length e),
    subst (λ (x : List Statement). AreStatements m (length registers) 0 x) e (subst (λ (x : List (List ℕ)). AreStatements m (length x) 0 body.statements) f b.in_order),
  )

  -- ---- threads

  -- a thread that was read behind its first word
  pub record ReadThread (t : Thread) (ts rest : List Token) : Type 0 where
    pub kept : IsThread m t
    pub apart : AreApart t.registers channels
    pub spelled : (all : List Token) → all ≡ word words.Thread ∷ ts → spells_thread true channels t all rest

  pub thread_of_body : (n : List ℕ) (body : Body) (ts inside within rest : List Token) → IsShortName n
      → ts ≡ tokens.name n ∷ inside → inside ≡ sign signs.OpenBrace ∷ within → ReadBody 1024 false [] body within rest
      → ReadThread (record { name = n; registers = body.registers; statements = body.statements }) ts rest
  thread_of_body n body ts inside within rest short named opened b = record {
    kept = record { registers = b.grows.few (omega arith); distinct = b.grows.distinct tt; statements = b.most; in_order = b.in_order };
    apart = b.grows.apart tt;
    spelled = λ all begins. (short, (ts, begins, (inside, named, (within, opened, spelled_outside 1024 [] body within rest b tt))));
  }

  pub thread_read : (t : Thread) (ts rest : List Token) → read_thread channels ts ≡ Some (t, rest) → ReadThread t ts rest
  unfolding read_thread
  thread_read t ts rest e =
      let a = bind_some (name_first ts) _ _ e in
      let b = bind_some (checked (nat_le (length a.0.0) 32)) _ _ a.2 in
      let c = bind_some (sign_first signs.OpenBrace a.0.1) _ _ b.2 in
      let fits = checked_some _ _ b.1 in
      by a.0.0 (grind (arith, nat_tests, fits)) a.0.1 (name_is ts a.0.0 a.0.1 a.1) c.0 (sign_is signs.OpenBrace a.0.1 c.0 c.1) (read_body 1024 channels false [] c.0) refl c.2 where
        by : (n : List ℕ) → IsShortName n → (inside : List Token) → ts ≡ tokens.name n ∷ inside → (within : List Token)
            → inside ≡ sign signs.OpenBrace ∷ within → (o : Read Body) → read_body 1024 channels false [] within ≡ o
            → named_body n o ≡ Some (t, rest) → ReadThread t ts rest
        by n short inside named within opened None f e = absurd cc
        by n short inside named within opened (Some b) f e =
            let same = both_same _ _ e in
            let body = body_read 1024 false [] b.0 within b.1 f in
            let whole = thread_of_body n b.0 ts inside within b.1 short named opened body in
            subst (λ (last : List Token). ReadThread t ts last) same.1 (subst (λ (x : Thread). ReadThread x ts b.1) same.0 whole)

  -- threads that were read
  pub record ReadThreads (left : ℕ) (names : List (List ℕ)) (threads : List Thread) (ts rest : List Token) : Type 0 where
    pub most : length threads ≤ left
    pub distinct : AreDistinct names → AreDistinct (names ++ thread_names threads)
    pub kept : AllByRecursion (IsThread m) threads
    pub apart : AllByRecursion (λ t. AreApart t.registers channels) threads
    pub spelled : spells_threads true channels threads ts rest

  no_threads : (left : ℕ) (names : List (List ℕ)) (threads : List Thread) (ts rest : List Token) → end_or_thread ts (λ _. None) None ≡ Some (threads, rest) → ReadThreads left names threads ts rest
  no_threads left names threads ts rest e =
      let same = both_same _ _ e in
      let none : ReadThreads left names [] ts ts = record { most = omega arith; distinct = λ d. rw (append-nil names) d; kept = tt; apart = tt; spelled = refl } in
      subst (λ (last : List Token). ReadThreads left names threads ts last) same.1 (subst (λ (x : List Thread). ReadThreads left names x ts ts) same.0 none)

  thread_before : (left : ℕ) (names more : List (List ℕ)) (t : Thread) (threads : List Thread)
      (ts behind after rest : List Token) → ts ≡ word words.Thread ∷ behind
      → read_new_thread channels names behind ≡ Some ((t, more), after)
      → ReadThreads left more threads after rest → ReadThreads (suc left) names (t ∷ threads) ts rest
  unfolding read_new_thread
  thread_before left names more t threads ts behind after rest begins e later =
      let a = bind_some (read_thread channels behind) _ _ e in
      let b = bind_some (if_absent (first_place_of names a.0.0.name)) _ _ a.2 in
      let same = both_same _ _ b.2 in
      let t_is : a.0.0 ≡ t = ap (λ p. p.0) same.0 in
      let read : ReadThread t behind after = subst (λ (last : List Token). ReadThread t behind last) same.1
      (subst (λ (x : Thread). ReadThread x behind a.0.1) t_is (thread_read a.0.0 behind a.0.1 a.1)) in
      let more_is : more ≡ names ++ t.name ∷ [] = sym (ap (λ p. p.1) same.0) ∙ ap (λ x. names ++ x.name ∷ []) t_is in
      let new : IsNew t.name names = subst (λ (x : Thread). IsNew x.name names) t_is (place_none names a.0.0.name (absent_some _ _ b.1)) in
      record {
        most = omega (arith, later.most);
        distinct = λ d. subst (λ (xs : List (List ℕ)). AreDistinct xs)
            (ap (λ x. x ++ thread_names threads) more_is ∙ append_assoc names (t.name ∷ []) (thread_names threads))
            (later.distinct (rw more_is (distinct_push names t.name d new)));
        kept = (read.kept, later.kept);
        apart = (read.apart, later.apart);
        spelled = (after, read.spelled ts begins, later.spelled);
      }

  pub threads_read : (left : ℕ) (names : List (List ℕ)) (threads : List Thread) (ts rest : List Token)
      → read_threads left channels names ts ≡ Some (threads, rest) → ReadThreads left names threads ts rest
  unfolding read_threads
  threads_read zero names threads ts rest e = by (word_first words.Thread ts) e where
    by : (o : Option (List Token)) → end_or_thread ts (λ _. None) o ≡ Some (threads, rest) → ReadThreads zero names threads ts rest
    by None e = no_threads zero names threads ts rest e
    by (Some behind) e = absurd cc
  threads_read (suc left) names threads ts rest e = by (threads_read left) (word_first words.Thread ts) refl e where
    by : ((more : List (List ℕ)) (us : List Thread) (vs last : List Token)
        → read_threads left channels more vs ≡ Some (us, last) → ReadThreads left more us vs last)
        → (o : Option (List Token)) → word_first words.Thread ts ≡ o
        → end_or_thread ts (λ behind. read_new_thread channels names behind >>= λ t.
        read_threads left channels t.0.1 t.1 >>= λ more. Some (t.0.0 ∷ more.0, more.1)) o ≡ Some (threads, rest)
        → ReadThreads (suc left) names threads ts rest
    by later None f e = no_threads (suc left) names threads ts rest e
    by later (Some behind) f e =
        let a = bind_some (read_new_thread channels names behind) _ _ e in
        let b = bind_some (read_threads left channels a.0.0.1 a.0.1) _ _ a.2 in
        let same = both_same _ _ b.2 in
        let whole = thread_before left names a.0.0.1 a.0.0.0 b.0.0 ts behind a.0.1 b.0.1 (word_is words.Thread ts behind f) a.1 (later a.0.0.1 b.0.0 a.0.1 b.0.1 b.1) in
        subst (λ (last : List Token). ReadThreads (suc left) names threads ts last) same.1 (subst (λ (x : List Thread). ReadThreads (suc left) names x ts b.0.1) same.0 whole)

-- ---- channels

-- names that were read, behind those that were known
pub record ReadNames (names all : List (List ℕ)) (ts rest : List Token) : Type 0 where
  pub added : List (List ℕ)
  pub appended : all ≡ names ++ added
  pub few : length names ≤ 256 → length all ≤ 256
  pub distinct : AreDistinct names → AreDistinct all
  pub spelled : (spells_names true added ⨟ is (sign signs.Semicolon)) ts rest

names_end : (names all : List (List ℕ)) (ts rest : List Token) → semicolon_or_name names ts (λ _. None) None ≡ Some (all, rest) → ReadNames names all ts rest
names_end names all ts rest e =
    let a = bind_some (sign_first signs.Semicolon ts) _ _ e in
    let same = both_same _ _ a.2 in
    let none : ReadNames names names ts rest = record {
      added = [];
      appended = sym (append-nil names);
      few = λ h. h;
      distinct = λ d. d;
      spelled = (ts, refl, sign_is signs.Semicolon ts rest (a.1 ∙ ap Some same.1));
    } in
    subst (λ (x : List (List ℕ)). ReadNames names x ts rest) same.0 none

name_before : (names more all : List (List ℕ)) (n : List ℕ) (ts behind rest : List Token) → ts ≡ tokens.name n ∷ behind
    → declared_in 256 names n ≡ Some more → ReadNames more all behind rest → ReadNames names all ts rest
name_before names more all n ts behind rest begins e later =
    let d = declared 256 names n more e in
    record {
      added = n ∷ later.added;
      appended = later.appended ∙ ap (λ x. x ++ later.added) d.appended ∙ append_assoc names (n ∷ []) later.added;
      few = λ h. later.few (omega (arith, d.room, ap length d.appended, length-append names (n ∷ [])));
      distinct = λ h. later.distinct (rw d.appended (distinct_push names n h d.new));
      spelled = (later.spelled.0, (d.short, (behind, begins, later.spelled.1)), later.spelled.2);
    }

pub names_read : (left : ℕ) (names all : List (List ℕ)) (ts rest : List Token) → read_names left names ts ≡ Some (all, rest) → ReadNames names all ts rest
unfolding read_names
names_read zero names all ts rest e = by (name_first ts) e where
  by : (o : Read (List ℕ)) → semicolon_or_name names ts (λ _. None) o ≡ Some (all, rest) → ReadNames names all ts rest
  by None e = names_end names all ts rest e
  by (Some n) e = absurd cc
names_read (suc left) names all ts rest e = by (names_read left) (name_first ts) refl e where
  by : ((more xs : List (List ℕ)) (us last : List Token) → read_names left more us ≡ Some (xs, last) → ReadNames more xs us last) → (o : Read (List ℕ)) → name_first ts ≡ o
      → semicolon_or_name names ts (λ n. declared_in 256 names n.0 >>= λ more. read_names left more n.1) o ≡ Some (all, rest) → ReadNames names all ts rest
  by later None f e = names_end names all ts rest e
  by later (Some n) f e =
      let a = bind_some (declared_in 256 names n.0) _ _ e in
      name_before names a.0 all n.0 ts n.1 rest (name_is ts n.0 n.1 f) a.1 (later a.0 all n.1 rest a.2)

-- channels that were read
pub record ReadChannels (channels : List (List ℕ)) (ts rest : List Token) : Type 0 where
  pub few : length channels ≤ 256
  pub distinct : AreDistinct channels
  pub spelled : spells_channels true channels ts rest

channels_begin : (names : List (List ℕ)) (u : Unit {0}) (ts behind rest : List Token) → if_some names ≡ Some u
    → ts ≡ word words.Channels ∷ behind → (spells_names true names ⨟ is (sign signs.Semicolon)) behind rest
    → spells_channels true names ts rest
channels_begin [] u ts behind rest some begins h = absurd cc
channels_begin (n ∷ ns) u ts behind rest some begins h = (behind, begins, h)

pub channels_read : (channels : List (List ℕ)) (ts rest : List Token) → read_channels ts ≡ Some (channels, rest) → ReadChannels channels ts rest
unfolding read_channels
channels_read channels ts rest e = by (word_first words.Channels ts) refl e where
  by : (o : Option (List Token)) → word_first words.Channels ts ≡ o → none_or_channels ts o ≡ Some (channels, rest) → ReadChannels channels ts rest
  by None f e =
      let same = both_same _ _ e in
      let none : ReadChannels [] ts ts = record { few = omega arith; distinct = tt; spelled = refl } in
      subst (λ (last : List Token). ReadChannels channels ts last) same.1 (subst (λ (x : List (List ℕ)). ReadChannels x ts ts) same.0 none)
  by (Some behind) f e =
      let a = bind_some (read_names 256 [] behind) _ _ e in
      let b = bind_some (if_some a.0.0) _ _ a.2 in
      let same = both_same _ _ b.2 in
      let names = names_read 256 [] a.0.0 behind a.0.1 a.1 in
      let whole : ReadChannels a.0.0 ts a.0.1 = record {
        few = names.few (omega arith);
        distinct = names.distinct tt;
        spelled = channels_begin a.0.0 b.0 ts behind a.0.1 b.1 (word_is words.Channels ts behind f) (rw names.appended names.spelled);
      } in
      subst (λ (last : List Token). ReadChannels channels ts last) same.1 (subst (λ (x : List (List ℕ)). ReadChannels x ts a.0.1) same.0 whole)

-- ---- programs

-- a program that was read
pub record ReadProgram (p : Program) (ts rest : List Token) : Type 0 where
  pub kept : IsProgram p
  pub spelled : spells_program true p ts rest

pub program_of : (channels : List (List ℕ)) (threads : List Thread) (ts middle rest : List Token)
    → ReadChannels channels ts middle → 0 < length threads → read_threads 64 channels [] middle ≡ Some (threads, rest)
    → ReadProgram (record { channels = channels; threads = threads }) ts rest
program_of channels threads ts middle rest c some e =
    let t = threads_read (length channels) channels (omega arith) 64 [] threads middle rest e in
    record {
      kept = record { channels = c.few; channel_names = c.distinct; some_thread = some; threads = t.most; names = t.distinct tt; each = t.kept; apart = t.apart };
      spelled = (middle, c.spelled, t.spelled);
    }

pub program_read : (p : Program) (ts rest : List Token) → read_program ts ≡ Some (p, rest) → ReadProgram p ts rest
unfolding read_program
program_read p ts rest e =
    let a = bind_some (read_channels ts) _ _ e in
    let b = bind_some (read_threads 64 a.0.0 [] a.0.1) _ _ a.2 in
    let c = bind_some (checked (nat_lt 0 (length b.0.0))) _ _ b.2 in
    let same = both_same _ _ c.2 in
    let fits = checked_some _ _ c.1 in
    let whole = program_of a.0.0 b.0.0 ts a.0.1 b.0.1 (channels_read a.0.0 ts a.0.1 a.1) (grind (arith, nat_tests, fits)) b.1 in
    subst (λ (last : List Token). ReadProgram p ts last) same.1 (subst (λ (x : Program). ReadProgram x ts b.0.1) same.0 whole)
