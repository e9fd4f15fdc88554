-- Syncs that are read one behind another, as statements of a body and as those of a repeat.
use Rattle.std.proofs.Common.{◌≡◌, ℕ, zero, suc, ◌+◌, ◌-◌, ◌≤◌, true, false, List, [], ◌∷◌, ◌++◌, length, refl, sym, ◌∙◌, ap, append_assoc, length-append, arith}
use Rattle.std.specs.Prelude.{map, Some, None, Result, Ok, Err}
use Rattle.te_terms.specs.Expressions.{Expression}
use Rattle.te_script.specs.declared.script.Stmt.{Stmt}
use Rattle.te_script.specs.Scripts.{Statement, emit}
use Rattle.te_script.specs.Texts.{statement_of}
use Rattle.te_reader.specs.declared.refusal.Refusal.{Refusal}
use Rattle.te_reader.specs.declared.refusal.Refusal.TheVariants as faults
use Rattle.te_reader.specs.declared.token.Word.TheVariants as words
use Rattle.te_reader.specs.declared.token.Sign.TheVariants as signs
use Rattle.te_reader.specs.Tokens as tokens
use Rattle.te_reader.specs.Tokens.{Token}
use Rattle.te_reader.specs.Heads.{word_first, sign_first, name_first}
use Rattle.te_reader.specs.NameReads.{Read}
use Rattle.te_reader.specs.Reads.{Body, Bodies, read_changed, before_body, read_emit, read_written, read_statement, more_body, read_body}
use Rattle.te_reader.specs.Behind.{behind_body, behind_syncs, behind_repeat}
use Rattle.te_reader.specs.Bodies.{OnRead, AreAppended, more_behind}
use Rattle.te_reader.specs.Written.{AreWritten, AreSyncsRead}
use Rattle.te_reader.proofs.LoopSteps.{map_length, more_syncs, last_sync, statement_is_read}

-- what stands before a sync that is read: no closing brace, no repeat and no emit
pub record IsAtSync (ts : List Token) : Type 0 where
  pub no_brace : sign_first signs.CloseBrace ts ≡ None
  pub no_repeat : word_first words.Repeat ts ≡ None
  pub no_emit : word_first words.Emit ts ≡ None

module _ (channels : List (List ℕ)) where
  pub at_sync : (registers : List (List ℕ)) (ts : List Token) (x : _) → read_written channels registers ts ≡ Some x → IsAtSync ts
  unfolding read_written name_first sign_first word_first
  at_sync registers [] x e = absurd cc
  at_sync registers (tokens.word w ∷ ts) x e = absurd cc
  at_sync registers (tokens.name n ∷ ts) x e = record { no_brace = refl; no_repeat = refl; no_emit = refl }
  at_sync registers (tokens.inner n ∷ ts) x e = absurd cc
  at_sync registers (tokens.integer n ∷ ts) x e = absurd cc
  at_sync registers (tokens.sign g ∷ ts) x e = absurd cc

  pub written_push : (registers more last : List (List ℕ)) (ts behind rest : List Token) (ss : List Statement) (s : Statement)
      → AreWritten channels registers ts ss more behind
      → read_written channels more behind ≡ Some ((s, last), rest) → AreWritten channels registers ts (ss ++ s ∷ []) last rest
  written_push registers more last ts behind rest [] s h e = (last, rest, rw (h.0, h.1) e, (refl, refl))
  written_push registers more last ts behind rest (x ∷ xs) s h e = (h.0, h.1, h.2, written_push h.0 more last h.1 behind rest xs s h.3 e)

  -- the first of them is read, and with it all where it is the only one
  only_one : (registers last : List (List ℕ)) (ts rest : List Token) (s : Statement) → AreWritten channels registers ts (s ∷ []) last rest
      → read_written channels registers ts ≡ Some ((s, last), rest)
  only_one registers last ts rest s h = rw (h.3.0, h.3.1) at h.2

  -- ---- statements of a body

  more_first : (next : Bodies) (registers more : List (List ℕ)) (ts behind : List Token) (s : Statement)
      → read_written channels registers ts ≡ Some ((s, more), behind)
      → more_body next channels registers ts ≡ read_changed (before_body s) (next false more behind)
  unfolding more_body read_statement
  more_first next registers more ts behind s e =
      let at = at_sync registers ts ((s, more), behind) e in
      rw (at.no_repeat, at.no_emit, e) refl

  body_first : (left : ℕ) (registers more : List (List ℕ)) (ts behind : List Token) (s : Statement)
      → read_written channels registers ts ≡ Some ((s, more), behind)
      → read_body (suc left) channels false registers ts ≡ read_changed (before_body s) (read_body left channels false more behind)
  unfolding read_body
  body_first left registers more ts behind s e = rw ((at_sync registers ts ((s, more), behind) e).no_brace, more_first (read_body left channels) registers more ts behind s e) refl

  before_one : (s : Statement) (o : Read Body) → read_changed (before_body s) o ≡ behind_body (s ∷ []) o
  before_one s None = refl
  before_one s (Some b) = refl

  before_more : (s x : Statement) (ss : List Statement) (o : Read Body)
      → read_changed (before_body s) (behind_body (x ∷ ss) o) ≡ behind_body (s ∷ x ∷ ss) o
  before_more s x ss None = refl
  before_more s x ss (Some b) = refl

  -- behind one sync, the others
  others_behind : (left : ℕ) (last : List (List ℕ)) (rest : List Token) (s : Statement) (ss : List Statement) (more : List (List ℕ)) (behind : List Token)
      → AreWritten channels more behind ss last rest → length ss ≤ left
      → read_changed (before_body s) (read_body left channels false more behind) ≡ behind_body (s ∷ ss) (read_body (left - length ss) channels false last rest)
  others_behind left last rest s [] more behind h most =
      let less : left ≡ left - 0 = omega arith in
      ap (λ r. read_changed (before_body s) (read_body left channels false r behind)) h.0
      ∙ ap (λ ts. read_changed (before_body s) (read_body left channels false last ts)) h.1
      ∙ before_one s (read_body left channels false last rest)
      ∙ ap (λ k. behind_body (s ∷ []) (read_body k channels false last rest)) less
  others_behind zero last rest s (x ∷ ss) more behind h most = absurd (omega arith)
  others_behind (suc left) last rest s (x ∷ ss) more behind h most =
      let less : left - length ss ≡ suc left - suc (length ss) = omega arith in
      ap (read_changed (before_body s)) (body_first left more h.0 behind h.1 x h.2 ∙ others_behind left last rest x ss h.0 h.1 h.3 (omega arith))
      ∙ before_more s x ss (read_body (left - length ss) channels false last rest)
      ∙ ap (λ k. behind_body (s ∷ x ∷ ss) (read_body k channels false last rest)) less

  pub syncs_are_read : (before left : ℕ) (registers last : List (List ℕ)) (ts rest : List Token) (s : Statement) (ss : List Statement)
      → AreWritten channels registers ts (s ∷ ss) last rest → before + suc (length ss) ≤ 1024
      → left ≡ 1024 - (before + suc (length ss)) → more_behind before channels registers ts ≡ behind_body (s ∷ ss) (read_body left channels false last rest)
  syncs_are_read before left registers last ts rest s ss h most size =
      let less : (1024 - (before + 1)) - length ss ≡ left = omega (arith, most, size) in
      more_first (read_body (1024 - (before + 1)) channels) registers h.0 ts h.1 s h.2
      ∙ others_behind (1024 - (before + 1)) last rest s ss h.0 h.1 h.3 (omega (arith, most))
      ∙ ap (λ k. behind_body (s ∷ ss) (read_body k channels false last rest)) less

  pub no_sync_read : (before : ℕ) (registers : List (List ℕ)) (ts : List Token) → word_first words.Repeat ts ≡ None → word_first words.Emit ts ≡ None
      → read_written channels registers ts ≡ None
      → more_behind before channels registers ts ≡ None
  unfolding more_body read_statement
  no_sync_read before registers ts a b e = rw (a, b, e) refl

  -- so many syncs more
  pub syncs_longer : (most : ℕ) (registers last : List (List ℕ)) (ts rest : List Token) (old new : List Stmt) (read : AreSyncsRead most channels registers ts old new last rest)
      → length new ≡ length old + suc (length read.others)
  syncs_longer most registers last ts rest old new read =
      omega (arith, ap length read.appended, length-append (map statement_of old) (read.first ∷ read.others), map_length new, map_length old)

  pub syncs_appended : {U : Type 0} (r : Result U Refusal) (registers last : List (List ℕ)) (ts rest : List Token) (old new : List Stmt)
      → word_first words.Repeat ts ≡ None → word_first words.Emit ts ≡ None
      → OnRead r (λ u. AreSyncsRead 1024 channels registers ts old new last rest) (read_written channels registers ts)
      → OnRead r (λ u. AreAppended channels old new last rest (more_behind (length old) channels registers ts)) (more_behind (length old) channels registers ts)
  syncs_appended (Ok u) registers last ts rest old new a b read =
      let long = syncs_longer 1024 registers last ts rest old new read in
      record {
        within = read.within;
        more = omega (arith, long);
        added = read.first ∷ read.others;
        appended = read.appended;
        read = syncs_are_read (length old) (1024 - length new) registers last ts rest read.first read.others read.written (omega (arith, long, read.within)) (omega (arith, long));
      }
  syncs_appended (Err faults.Refused) registers last ts rest old new a b none = no_sync_read (length old) registers ts a b none
  syncs_appended (Err faults.Memory) registers last ts rest old new a b h = tt

  emit_read : (registers : List (List ℕ)) (ts behind rest : List Token) (e : Expression) → word_first words.Emit ts ≡ Some behind
      → read_emit channels registers behind ≡ Some (e, rest)
      → read_statement channels registers ts ≡ Some ((emit e, registers), rest)
  unfolding read_statement
  emit_read registers ts behind rest e f g = rw (f, g) refl

  pub emit_is_read : (before left : ℕ) (registers : List (List ℕ)) (ts behind rest : List Token) (e : Expression) → word_first words.Repeat ts ≡ None
      → word_first words.Emit ts ≡ Some behind
      → read_emit channels registers behind ≡ Some (e, rest) → left ≡ 1024 - (before + 1)
      → more_behind before channels registers ts ≡ behind_body (emit e ∷ [])
      (read_body left channels false registers rest)
  emit_is_read before left registers ts behind rest e a f g size = statement_is_read channels registers registers before left (emit e) ts rest a (emit_read registers ts behind rest e f g) size

  pub no_emit_read : (before : ℕ) (registers : List (List ℕ)) (ts behind : List Token) → word_first words.Repeat ts ≡ None
      → word_first words.Emit ts ≡ Some behind → read_emit channels registers behind ≡ None
      → more_behind before channels registers ts ≡ None
  unfolding more_body read_statement
  no_emit_read before registers ts behind a f g = rw (a, f, g) refl

  -- ---- syncs of a repeat

  module _ (room : ℕ) (last : List (List ℕ)) (rest : List Token) (all : Read Body) where
    pub more_of_them : (i : ℕ) (done : List Statement) (registers : List (List ℕ)) (ts : List Token) (s : Statement) (ss : List Statement)
        → behind_syncs done (read_body (room - i) channels true registers ts) ≡ all
        → AreWritten channels registers ts (s ∷ ss) last rest → i + suc (length ss) ≤ room → sign_first signs.CloseBrace rest ≡ None
        → behind_syncs (done ++ s ∷ ss) (read_body (room - (i + suc (length ss))) channels true last rest) ≡ all
    more_of_them i done registers ts s [] kept h most no_brace =
        more_syncs room i done channels registers ts all kept (omega (arith, most)) s last rest (only_one registers last ts rest s h) no_brace
    more_of_them i done registers ts s (x ∷ ss) kept h most no_brace =
        let next = at_sync h.0 h.1 _ h.3.2 in
        let one = more_syncs room i done channels registers ts all kept (omega (arith, most)) s h.0 h.1 h.2 next.no_brace in
        let less : room - (i + suc (suc (length ss))) ≡ room - ((i + 1) + suc (length ss)) = omega arith in
        ap (λ xs. behind_syncs xs (read_body (room - (i + suc (suc (length ss)))) channels true last rest)) (sym (append_assoc done (s ∷ []) (x ∷ ss)))
        ∙ ap (λ k. behind_syncs ((done ++ s ∷ []) ++ x ∷ ss) (read_body k channels true last rest)) less
        ∙ more_of_them (i + 1) (done ++ s ∷ []) h.0 h.1 x ss one h.3 (omega (arith, most)) no_brace

    pub last_of_them : (i : ℕ) (done : List Statement) (registers : List (List ℕ)) (ts : List Token) (s : Statement) (ss : List Statement) (after : List Token)
        → behind_syncs done (read_body (room - i) channels true registers ts) ≡ all
        → AreWritten channels registers ts (s ∷ ss) last rest → i + suc (length ss) ≤ room → sign_first signs.CloseBrace rest ≡ Some after
        → all ≡ behind_repeat (done ++ s ∷ ss) (read_body (room - (i + suc (length ss))) channels false last after)
    last_of_them i done registers ts s [] after kept h most brace =
        last_sync room i done channels registers ts all kept (omega (arith, most)) s last rest (only_one registers last ts rest s h) after brace
    last_of_them i done registers ts s (x ∷ ss) after kept h most brace =
        let next = at_sync h.0 h.1 _ h.3.2 in
        let one = more_syncs room i done channels registers ts all kept (omega (arith, most)) s h.0 h.1 h.2 next.no_brace in
        let less : room - ((i + 1) + suc (length ss)) ≡ room - (i + suc (suc (length ss))) = omega arith in
        last_of_them (i + 1) (done ++ s ∷ []) h.0 h.1 x ss after one h.3 (omega (arith, most)) brace
        ∙ ap (λ xs. behind_repeat xs (read_body (room - ((i + 1) + suc (length ss))) channels false last after)) (append_assoc done (s ∷ []) (x ∷ ss))
        ∙ ap (λ k. behind_repeat (done ++ s ∷ x ∷ ss) (read_body k channels false last after)) less
