-- One turn of the loops over channels, statements and threads.
use Rattle.std.proofs.Common.{◌≡◌, ℕ, zero, suc, ◌+◌, ◌-◌, ◌<◌, ◌≤◌, true, false, List, [], ◌∷◌, ◌++◌, length, map, refl, sym, ◌∙◌, ap, append_assoc, arith, length-append}
use Rattle.std.specs.Prelude.{Some, None}
use Rattle.std.proofs.lemmas.List.{append-nil, map-append}
use Rattle.te_script.specs.Scripts.{Statement, repeat, Thread}
use Rattle.te_reader.specs.declared.token.Word.TheVariants as words
use Rattle.te_reader.specs.declared.token.Sign.TheVariants as signs
use Rattle.te_reader.specs.Tokens.{Token}
use Rattle.te_reader.specs.Heads.{word_first, sign_first, name_first}
use Rattle.te_reader.specs.NameReads.{Read, ◌>>=◌, declared_in}
use Rattle.te_reader.specs.Reads.{Body, read_changed, before_body, before_inside, before_brace, before_repeat}
use Rattle.te_reader.specs.Reads.{read_names, read_written, read_statement, read_times, named_body, more_body}
use Rattle.te_reader.specs.Reads.{inside_body, read_body, read_new_thread, read_threads}
use Rattle.te_reader.specs.Behind.{behind, behind_body, behind_syncs, behind_repeat}
use Rattle.te_script.specs.declared.script.Stmt.{Stmt}
use Rattle.te_script.specs.declared.script.Stmt.TheVariants as stmts
use Rattle.te_script.specs.Texts.{statement_of}
use Rattle.te_reader.specs.Bodies.{repeat_behind, more_behind}
use Rattle.te_reader.proofs.HeadLemmas.{both_same}
use Rattle.te_reader.proofs.NameLemmas.{declared}

-- a turn is one of those that are left
pub one_turn : (most i : ℕ) → i < most → most - i ≡ suc (most - (i + 1))
one_turn most i h = omega arith

-- ---- channels

pub names_end : (left : ℕ) (names : List (List ℕ)) (ts rest : List Token) → name_first ts ≡ None → sign_first signs.Semicolon ts ≡ Some rest → read_names left names ts ≡ Some (names, rest)
unfolding read_names
names_end zero names ts rest e f = rw (e, f) refl
names_end (suc left) names ts rest e f = rw (e, f) refl

pub names_no_end : (left : ℕ) (names : List (List ℕ)) (ts : List Token) → name_first ts ≡ None → sign_first signs.Semicolon ts ≡ None → read_names left names ts ≡ None
unfolding read_names
names_no_end zero names ts e f = rw (e, f) refl
names_no_end (suc left) names ts e f = rw (e, f) refl

pub names_refused : (left : ℕ) (names : List (List ℕ)) (ts rest : List Token) (n : List ℕ) → name_first ts ≡ Some (n, rest) → declared_in 256 names n ≡ None → read_names left names ts ≡ None
unfolding read_names
names_refused zero names ts rest n e f = rw e refl
names_refused (suc left) names ts rest n e f = rw (e, f) refl

pub names_more : (names more : List (List ℕ)) (ts rest : List Token) (n : List ℕ) → name_first ts ≡ Some (n, rest)
    → declared_in 256 names n ≡ Some more → read_names (256 - length names) names ts ≡ read_names
    (256 - length more) more rest
unfolding read_names
names_more names more ts rest n e f =
    let d = declared 256 names n more f in
    let long : length more ≡ length names + 1 = ap length d.appended ∙ length-append names (n ∷ []) in
    rw (one_turn 256 (length names) d.room, e, f, long) refl

-- ---- statements

body_opened : (most i : ℕ) (done : List Statement) (channels registers : List (List ℕ)) (ts : List Token)
    (all : Read Body) → i < most → behind_body done (read_body (most - i) channels false registers ts) ≡ all
    → behind_body done (read_body (suc (most - (i + 1))) channels false registers ts) ≡ all
body_opened most i done channels registers ts all h e = rw (← one_turn most i h) e

module _ (most i : ℕ) (done : List Statement) (channels registers : List (List ℕ)) (ts : List Token) (all : Read Body)
    (kept : behind_body done (read_body (most - i) channels false registers ts) ≡ all) where
  pub body_ended : (rest : List Token) → sign_first signs.CloseBrace ts ≡ Some rest → all ≡ Some (record { statements = done; leading = 0; registers = registers }, rest)
  unfolding read_body
  body_ended rest e = sym kept ∙ by (most - i) where
    by : (left : ℕ) → behind_body done (read_body left channels false registers ts) ≡ Some (record { statements = done; leading = 0; registers = registers }, rest)
    by zero = rw (e, append-nil done) refl
    by (suc left) = rw (e, append-nil done) refl

  module _ (open_yet : sign_first signs.CloseBrace ts ≡ None) where
    pub body_full : most ≤ i → all ≡ None
    unfolding read_body
    body_full h = sym kept ∙ by (most - i) (omega arith) where
      by : (left : ℕ) → left ≡ 0 → behind_body done (read_body left channels false registers ts) ≡ None
      by left z = rw (z, open_yet) refl

    module _ (lt : i < most) where
      pub none_more : more_body (read_body (most - (i + 1)) channels) channels registers ts ≡ None → all ≡ None
      unfolding read_body
      none_more e = sym (body_opened most i done channels registers ts all lt kept) ∙ (rw (open_yet, e) refl)

      pub more_read : (added : List Statement) (left : ℕ) (more : List (List ℕ)) (rest : List Token)
          → more_body (read_body (most - (i + 1)) channels) channels registers ts ≡ behind_body added
          (read_body left channels false more rest)
          → behind_body (done ++ added) (read_body left channels false more rest) ≡ all
      unfolding read_body
      more_read added left more rest e =
          let start : behind_body done (read_body (suc (most - (i + 1))) channels false registers ts) ≡ behind_body
          (done ++ added) (read_body left channels false more rest) =
          rw (open_yet, e) (by (read_body left channels false more rest)) in
          sym start ∙ body_opened most i done channels registers ts all lt kept where
            by : (o : Read Body) → behind_body done (behind_body added o) ≡ behind_body (done ++ added) o
            by None = refl
            by (Some b) = ap (λ xs. Some (record { statements = xs; leading = 0; registers = b.0.registers }, b.1)) (sym (append_assoc done added b.0.statements))

-- ---- the syncs of a repeat

module _ (room i : ℕ) (done : List Statement) (channels registers : List (List ℕ)) (ts : List Token) (all : Read Body)
    (kept : behind_syncs done (read_body (room - i) channels true registers ts) ≡ all) where
  pub syncs_full : room ≤ i → all ≡ None
  unfolding read_body
  syncs_full h = sym kept ∙ by (room - i) (omega arith) where
    by : (left : ℕ) → left ≡ 0 → behind_syncs done (read_body left channels true registers ts) ≡ None
    by left z = rw z refl

  module _ (lt : i < room) where
    opened : behind_syncs done (read_body (suc (room - (i + 1))) channels true registers ts) ≡ all
    opened = rw (← one_turn room i lt) kept

    pub no_sync : read_written channels registers ts ≡ None → all ≡ None
    unfolding read_body inside_body
    no_sync e = sym opened ∙ (rw e refl)

    module _ (s : Statement) (more : List (List ℕ)) (after : List Token) (read : read_written channels registers ts ≡ Some ((s, more), after)) where
      pub more_syncs : sign_first signs.CloseBrace after ≡ None → behind_syncs (done ++ s ∷ []) (read_body (room - (i + 1)) channels true more after) ≡ all
      unfolding read_body inside_body
      more_syncs open_yet =
          let start : behind_syncs done (read_body (suc (room - (i + 1))) channels true registers ts) ≡ behind_syncs
          (done ++ s ∷ []) (read_body (room - (i + 1)) channels true more after) =
          rw (read, open_yet) (by (read_body (room - (i + 1)) channels true more after)) in
          sym start ∙ opened where
            by : (o : Read Body) → behind_syncs done (read_changed (before_inside s) o) ≡ behind_syncs (done ++ s ∷ []) o
            by None = refl
            by (Some b) =
                ap (λ xs. Some (record { statements = xs; leading = length done + suc b.0.leading; registers = b.0.registers }, b.1)) (sym (append_assoc done (s ∷ []) b.0.statements))
                ∙ ap (λ n. Some (record { statements = (done ++ s ∷ []) ++ b.0.statements; leading = n; registers = b.0.registers }, b.1)) (omega (arith, length-append done (s ∷ [])))

      pub last_sync : (rest : List Token) → sign_first signs.CloseBrace after ≡ Some rest → all ≡ behind_repeat (done ++ s ∷ []) (read_body (room - (i + 1)) channels false more rest)
      unfolding read_body inside_body
      last_sync rest close =
          let start : behind_syncs done (read_body (suc (room - (i + 1))) channels true registers ts) ≡ behind_repeat
          (done ++ s ∷ []) (read_body (room - (i + 1)) channels false more rest) =
          rw (read, close) (by (read_body (room - (i + 1)) channels false more rest)) in
          sym opened ∙ start where
            by : (o : Read Body) → behind_syncs done (read_changed (before_brace s) o) ≡ behind_repeat (done ++ s ∷ []) o
            by None = refl
            by (Some b) =
                ap (λ xs. Some (record { statements = xs; leading = length done + 1; registers = b.0.registers }, b.1)) (sym (append_assoc done (s ∷ []) b.0.statements))
                ∙ ap (λ n. Some (record { statements = (done ++ s ∷ []) ++ b.0.statements; leading = n; registers = b.0.registers }, b.1)) (omega (arith, length-append done (s ∷ [])))

-- where no sync was read before
minus_none : (n : ℕ) → n ≡ n - 0
minus_none n = omega arith

module _ (room : ℕ) (channels registers : List (List ℕ)) (ts : List Token) where
  pub first_none : behind_syncs [] (read_body (room - 0) channels true registers ts) ≡ None → read_body room channels true registers ts ≡ None
  first_none e = by (read_body room channels true registers ts) (ap (λ k. behind_syncs [] (read_body k channels true registers ts)) (minus_none room) ∙ e) where
    by : (o : Read Body) → behind_syncs [] o ≡ None → o ≡ None
    by None e = refl
    by (Some b) e = absurd cc

  pub first_all : (done : List Statement) (o : Read Body) → behind_syncs []
      (read_body (room - 0) channels true registers ts) ≡ behind_repeat done o
      → read_body room channels true registers ts ≡ behind_repeat done o
  first_all done o e = by (read_body room channels true registers ts) (ap (λ k. behind_syncs [] (read_body k channels true registers ts)) (minus_none room) ∙ e) where
    by : (p : Read Body) → behind_syncs [] p ≡ behind_repeat done o → p ≡ behind_repeat done o
    by None e = e
    by (Some b) e = ap (λ n. Some (record { statements = b.0.statements; leading = n; registers = b.0.registers }, b.1)) (omega arith) ∙ e

-- a repeat with its syncs, and what is read behind it
repeat_read : (times : ℕ) (syncs : List Statement) (o : Read Body) → read_changed (before_repeat times) (behind_repeat syncs o) ≡ behind_body (repeat times (length syncs) ∷ syncs) o
repeat_read times syncs None = refl
repeat_read times syncs (Some b) = refl

pub repeat_is_read : (channels registers more : List (List ℕ)) (before room left taken times : ℕ)
    (ts inside after : List Token) (syncs : List Statement) → read_times ts ≡ Some (times, inside)
    → room ≡ 1024 - (before + 1) → left ≡ room - taken
    → read_body room channels true registers inside ≡ behind_repeat syncs (read_body (room - taken) channels false more after)
    → repeat_behind before channels registers ts ≡ behind_body (repeat times (length syncs) ∷ syncs) (read_body left channels false more after)
repeat_is_read channels registers more before room left taken times ts inside after syncs e size rest read =
    let start : repeat_behind before channels registers ts ≡ read_changed (before_repeat times) (read_body (1024 - (before + 1)) channels true registers inside) = rw e refl in
    let step : read_body (1024 - (before + 1)) channels true registers inside ≡ behind_repeat syncs
    (read_body (room - taken) channels false more after) =
    ap (λ k. read_body k channels true registers inside) (sym size) ∙ read in
    start ∙ ap (read_changed (before_repeat times)) step ∙ repeat_read times syncs (read_body (room - taken) channels false more after)
    ∙ ap (λ k. behind_body (repeat times (length syncs) ∷ syncs) (read_body k channels false more after)) (sym rest)

-- one statement, and what is read behind it
pub statement_is_read : (channels registers more : List (List ℕ)) (before left : ℕ) (s : Statement)
    (ts after : List Token) → word_first words.Repeat ts ≡ None
    → read_statement channels registers ts ≡ Some ((s, more), after) → left ≡ 1024 - (before + 1)
    → more_behind before channels registers ts ≡ behind_body (s ∷ []) (read_body left channels false more after)
unfolding more_body
statement_is_read channels registers more before left s ts after none read size =
    let start : more_behind before channels registers ts ≡ behind_body (s ∷ [])
    (read_body (1024 - (before + 1)) channels false more after) =
    rw (none, read) (by (read_body (1024 - (before + 1)) channels false more after)) in
    start ∙ ap (λ k. behind_body (s ∷ []) (read_body k channels false more after)) (sym size) where
      by : (o : Read Body) → read_changed (before_body s) o ≡ behind_body (s ∷ []) o
      by None = refl
      by (Some b) = refl

-- the statements of a repeat, as they are listed
pub map_length : (k : List Stmt) → length (map statement_of k) ≡ length k
map_length [] = refl
map_length (x ∷ xs) = omega (arith, map_length xs)

pub repeat_listed : (old k new : List Stmt) (times count : ℕ) → new ≡ (old ++ stmts.Repeat times count ∷ []) ++ k
    → count ≡ length k → map statement_of new ≡ map statement_of old ++ repeat times (length (map statement_of k))
    ∷ map statement_of k
repeat_listed old k new times count e size =
    ap (map statement_of) e
    ∙ map-append statement_of (old ++ stmts.Repeat times count ∷ []) k
    ∙ ap (λ x. x ++ map statement_of k) (map-append statement_of old (stmts.Repeat times count ∷ []))
    ∙ append_assoc (map statement_of old) (repeat times count ∷ []) (map statement_of k)
    ∙ ap (λ n. map statement_of old ++ repeat times n ∷ map statement_of k) (size ∙ sym (map_length k))

pub repeat_longer : (old k new : List Stmt) (x : Stmt) → new ≡ (old ++ x ∷ []) ++ k → length new ≡ length old + 1 + length (map statement_of k)
repeat_longer old k new x e = omega (arith, ap length e, length-append (old ++ x ∷ []) k, length-append old (x ∷ []), map_length k)

-- where no statement was read before
pub named_refused : (n : List ℕ) (o : Read Body) → behind_body [] o ≡ None → named_body n o ≡ None
named_refused n None e = refl
named_refused n (Some b) e = absurd cc

pub named_read : (n : List ℕ) (o : Read Body) (statements : List Statement) (registers : List (List ℕ))
    (rest : List Token) → behind_body [] o ≡ Some (
      record {
        statements = statements;
        leading = 0;
        registers =
            registers;
      },
      rest,
    )
    → named_body n o ≡ Some (record { name = n; registers = registers; statements = statements }, rest)
named_read n None statements registers rest e = absurd cc
named_read n (Some b) statements registers rest e =
    let same = both_same _ _ e in
    ap (λ x. Some (record { name = n; registers = x.registers; statements = x.statements }, b.1)) same.0
    ∙ ap (λ l. Some (record { name = n; registers = registers; statements = statements }, l)) same.1

-- the body that was read
pub record WasRead (o : Read Body) (statements : List Statement) (registers : List (List ℕ)) (rest : List Token) : Type 0 where
  pub body : Body
  pub read : o ≡ Some (body, rest)
  pub statements_are : body.statements ≡ statements
  pub registers_are : body.registers ≡ registers

pub was_read : (o : Read Body) (statements : List Statement) (registers : List (List ℕ)) (rest : List Token)
    → behind_body [] o ≡ Some (record { statements = statements; leading = 0; registers = registers }, rest)
    → WasRead o statements registers rest
was_read None statements registers rest e = absurd cc
was_read (Some b) statements registers rest e =
    let same = both_same _ _ e in
    record { body = b.0; read = ap (λ l. Some (b.0, l)) same.1; statements_are = ap (λ x. x.statements) same.0; registers_are = ap (λ x. x.registers) same.0 }

-- ---- threads

threads_opened : (most i : ℕ) (done : List Thread) (channels names : List (List ℕ)) (ts : List Token)
    (all : Read (List Thread)) → i < most → behind done (read_threads (most - i) channels names ts) ≡ all
    → behind done (read_threads (suc (most - (i + 1))) channels names ts) ≡ all
threads_opened most i done channels names ts all h e = rw (← one_turn most i h) e

module _ (most i : ℕ) (done : List Thread) (channels names : List (List ℕ)) (ts : List Token) (all : Read (List Thread)) (kept : behind done (read_threads (most - i) channels names ts) ≡ all) where
  pub threads_ended : word_first words.Thread ts ≡ None → all ≡ Some (done, ts)
  unfolding read_threads
  threads_ended e = sym kept ∙ by (most - i) where
    by : (left : ℕ) → behind done (read_threads left channels names ts) ≡ Some (done, ts)
    by zero = rw (e, append-nil done) refl
    by (suc left) = rw (e, append-nil done) refl

  module _ (inside : List Token) (begins : word_first words.Thread ts ≡ Some inside) where
    pub threads_full : most ≤ i → all ≡ None
    unfolding read_threads
    threads_full h = sym kept ∙ by (most - i) (omega arith) where
      by : (left : ℕ) → left ≡ 0 → behind done (read_threads left channels names ts) ≡ None
      by left z = rw (z, begins) refl

    module _ (lt : i < most) where
      pub no_thread : read_new_thread channels names inside ≡ None → all ≡ None
      unfolding read_threads
      no_thread e = sym (threads_opened most i done channels names ts all lt kept) ∙ (rw (begins, e) refl)

      pub more_threads : (t : Thread) (more : List (List ℕ)) (rest : List Token)
          → read_new_thread channels names inside ≡ Some ((t, more), rest)
          → behind (done ++ t ∷ []) (read_threads (most - (i + 1)) channels more rest) ≡ all
      unfolding read_threads
      more_threads t more rest e =
          let start : behind done (read_threads (suc (most - (i + 1))) channels names ts) ≡ behind (done ++ t ∷ [])
          (read_threads (most - (i + 1)) channels more rest) =
          rw (begins, e) (by (read_threads (most - (i + 1)) channels more rest)) in
          sym start ∙ threads_opened most i done channels names ts all lt kept where
            by : (o : Read (List Thread)) → behind done (o >>= λ later. Some (t ∷ later.0, later.1)) ≡ behind (done ++ t ∷ []) o
            by None = refl
            by (Some r) = ap (λ xs. Some (xs, r.1)) (sym (append_assoc done (t ∷ []) r.0))
