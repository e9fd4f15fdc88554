-- The canonical text of statements spells them, those of a repeat up to its closing brace.
use Rattle.std.proofs.Common.{◌≡◌, ℕ, zero, suc, ◌-◌, ◌<◌, ◌≤◌, pos, Bool, true, false, nat_lt, List, [], ◌∷◌, ◌++◌, length, refl, sym, ◌∙◌, ap, subst, append_assoc, arith}
use Rattle.std.specs.Prelude.{codes, ◌==◌, if◌then◌else◌}
use Rattle.std.specs.List.{AllByRecursion}
use Rattle.std.specs.Fmt.{decimal}
use Rattle.std.proofs.lemmas.Bool.Decides.{nat_tests}
use Rattle.std.proofs.lemmas.Bool.{ne_eqb}
use Rattle.std.proofs.lemmas.List.{append-nil}
use Rattle.te_terms.specs.Expressions.{Expression}
use Rattle.te_terms.specs.Terms.{Term}
use Rattle.te_terms.specs.Limits.{IsWithinLimits}
use Rattle.te_script.specs.Names.{IsName}
use Rattle.te_script.specs.Scripts.{IsEvent, IsExpression, Statement, sync, emit, repeat, with_register, AreSyncs, AreStatements}
use Rattle.te_reader.specs.declared.token.Word.TheVariants as words
use Rattle.te_reader.specs.declared.token.Sign.TheVariants as signs
use Rattle.te_reader.specs.Tokens as tokens
use Rattle.te_reader.specs.Tokens.{Token, word, sign}
use Rattle.te_reader.specs.Grammar.{Span, is, ◌⨟◌, IsAt, IsShortName, alone, spells_integer, spells_expression, spells_event, written_names, spells_sync, behind_sync, spells_statements}
use Rattle.te_reader.specs.Canonical.{Spelling, name_at, expression_text, event_text, indent, closing, sync_text, emit_text, lines_text}
use Rattle.te_reader.proofs.ListsKept.{all_at}
use Rattle.te_reader.proofs.Regrouped.{four, five}
use Rattle.te_reader.proofs.TokensWritten.{Writes, StandsApart, brace_opens, brace_closes, semicolon_is, then_writes}
use Rattle.te_reader.proofs.TokensWritten.{word_writes, name_writes, nothing_writes, sign_before, sign_and_blank}
use Rattle.te_reader.proofs.TokensWritten.{blank_writes, named_writes, under_writes}
use Rattle.te_reader.proofs.IntegersWritten.{decimal_writes}
use Rattle.te_reader.proofs.ExpressionsWritten.{scope_at, at_each, expression_writes}
use Rattle.te_reader.proofs.EventsWritten.{event_writes}
use Rattle.te_script.proofs.CoreMoves.{written_within}

-- ---- registers

register_within : (n w r : ℕ) → with_register w r ≤ n → r < n
register_within n w r = by (nat_lt r w) refl where
  by : (b : Bool) → nat_lt r w ≡ b → (if b then w else suc r) ≤ n → r < n
  by true e le = grind (arith, nat_tests, e, le)
  by false e le = omega (arith, le)

-- ---- lines

indent_writes : (left : ℕ) (text : List ℕ) (span : Span) → Writes text span → Writes (indent left ++ text) span
indent_writes left text span f = by (left == 0) where
  two : Writes (32 ∷ 32 ∷ text) span
  two = blank_writes 32 (32 ∷ text) span refl (blank_writes 32 text span refl f)

  by : (b : Bool) → Writes ((if b then codes "  " else codes "    ") ++ text) span
  by true = two
  by false = blank_writes 32 _ _ refl (blank_writes 32 _ _ refl two)

indent_apart : (left : ℕ) (text : List ℕ) → StandsApart (indent left ++ text)
indent_apart left text = by (left == 0) where
  by : (b : Bool) → StandsApart ((if b then codes "  " else codes "    ") ++ text)
  by true behind apart = refl
  by false behind apart = refl

-- behind the last statement of a repeat stands its brace
closing_writes : (left : ℕ) (text : List ℕ) (span : Span) → Writes text span → Writes (closing (suc left) ++ text) (behind_sync left span)
closing_writes zero text span f =
    blank_writes 32 _ _ refl (blank_writes 32 _ _ refl (sign_before signs.CloseBrace 125 (10 ∷ text) span brace_closes (blank_writes 10 text span refl f)))
closing_writes (suc left) text span f = let more : (suc (suc left) == 1) ≡ false = ne_eqb (suc (suc left)) 1 (λ e. omega (arith, e)) in rw more f

module _ (channels registers : List (List ℕ)) (named_channels : AllByRecursion IsName channels) (named_registers : AllByRecursion IsName registers) where
  abbrev spelling : Spelling
  spelling = record { channels = channels; registers = registers }

  sync_writes : (w r : ℕ) (t : Term) (more : List ℕ) (rest : Span) → w ≤ length registers → r < length registers → IsEvent (scope_at channels w 0) t → IsWithinLimits t → Writes more rest
      → Writes (sync_text spelling r t ++ more) (spells_sync true channels registers w r t rest)
  sync_writes w r t more rest written inside scoped within f =
      let n : List ℕ = name_at registers r in
      let e : List ℕ = event_text spelling alone t in
      let at = at_each registers r inside in
      let is_name = all_at IsName registers r n named_registers at in
      let event = subst (λ (xs : List ℕ). Writes xs (spells_event true alone (written_names channels registers w) t))
      (append-nil e) (event_writes channels registers named_channels named_registers w written t alone 0 scoped
      (omega (arith, within.low))) in
      let ended : Writes (codes ";\n" ++ more) (is (sign signs.Semicolon) ⨟ rest) = sign_before signs.Semicolon 59 (10 ∷ more) rest semicolon_is (blank_writes 10 more rest refl f) in
      let behind_word = then_writes e (codes ";\n" ++ more) _ _ event ended (λ b a. refl) in
      let behind_arrow = then_writes (codes "sync") (32 ∷ (e ++ (codes ";\n" ++ more))) (is (word words.Sync)) _ (word_writes words.Sync) (blank_writes 32 _ _ refl behind_word) (λ b a. refl) in
      let behind_name = blank_writes 32 _ _ refl (sign_and_blank signs.Arrow 60 (45 ∷ []) (codes "sync " ++ (e ++ (codes ";\n" ++ more))) _ refl (λ ys. refl) behind_arrow) in
      let whole = then_writes n (codes " <- sync " ++ (e ++ (codes ";\n" ++ more))) (is (tokens.name n)) _ (name_writes n is_name.identifier) behind_name (λ b a. refl) in
      let text : n ++ (codes " <- sync " ++ (e ++ (codes ";\n" ++ more))) ≡ sync_text spelling r t ++ more =
      sym (five n (codes " <- sync ") e (codes ";\n") more) in
      named_writes (sync_text spelling r t ++ more) n (λ m. IsAt registers r m × IsShortName m)
      (λ m. is (tokens.name m) ⨟ is (sign signs.Arrow) ⨟ is (word words.Sync) ⨟ spells_event true alone (written_names channels registers w) t ⨟ is (sign signs.Semicolon) ⨟ rest)
      (at, is_name.short)
      (subst (λ (xs : List ℕ). Writes xs (is (tokens.name n) ⨟ is (sign signs.Arrow) ⨟ is
      (word words.Sync) ⨟ spells_event true alone (written_names channels registers w) t ⨟ is
      (sign signs.Semicolon) ⨟ rest)) text whole)

  emit_writes : (w : ℕ) (x : Expression) (more : List ℕ) (rest : Span) → w ≤ length registers → IsExpression (scope_at channels w 0) x → Writes more rest
      → Writes (emit_text spelling x ++ more) (is (word words.Emit) ⨟ spells_expression true (written_names channels registers w) x ⨟ is (sign signs.Semicolon) ⨟ rest)
  emit_writes w x more rest written scoped f =
      let e : List ℕ = expression_text spelling x in
      let ended : Writes (codes ";\n" ++ more) (is (sign signs.Semicolon) ⨟ rest) = sign_before signs.Semicolon 59 (10 ∷ more) rest semicolon_is (blank_writes 10 more rest refl f) in
      let value = then_writes e (codes ";\n" ++ more) _ _ (expression_writes channels registers named_channels named_registers w 0 written (omega arith) x scoped) ended (λ b a. refl) in
      let whole = then_writes (codes "emit") (32 ∷ (e ++ (codes ";\n" ++ more))) (is (word words.Emit)) _ (word_writes words.Emit) (blank_writes 32 _ _ refl value) (λ b a. refl) in
      subst (λ (xs : List ℕ). Writes xs (is (word words.Emit) ⨟ spells_expression true
      (written_names channels registers w) x ⨟ is (sign signs.Semicolon) ⨟ rest))
      (ap (λ xs. codes "emit " ++ xs) (sym (append_assoc e (codes ";\n") more))) whole

  repeat_writes : (times : ℕ) (more : List ℕ) (rest : Span) → times ≤ 10000 → Writes more rest
      → Writes ((codes "  repeat " ++ decimal times ++ codes " {\n") ++ more) (is (word words.Repeat) ⨟ spells_integer (pos times) ⨟ is (sign signs.OpenBrace) ⨟ rest)
  repeat_writes times more rest most f =
      let opened : Writes (codes " {\n" ++ more) (is (sign signs.OpenBrace) ⨟ rest) =
      blank_writes 32 _ _ refl (sign_before signs.OpenBrace 123 (10 ∷ more) rest brace_opens
      (blank_writes 10 more rest refl f)) in
      let number = then_writes (decimal times) (codes " {\n" ++ more) _ _ (decimal_writes times (omega (arith, most))) opened (λ b a. refl) in
      let whole = then_writes (codes "repeat") (32 ∷ (decimal times ++ (codes " {\n" ++ more))) (is (word words.Repeat)) _ (word_writes words.Repeat) (blank_writes 32 _ _ refl number) (λ b a. refl) in
      subst (λ (xs : List ℕ). Writes xs (is (word words.Repeat) ⨟ spells_integer (pos times) ⨟ is
      (sign signs.OpenBrace) ⨟ rest)) (ap (λ xs. codes "  repeat " ++ xs)
      (sym (append_assoc (decimal times) (codes " {\n") more)))
      (blank_writes 32 _ _ refl (blank_writes 32 _ _ refl whole))

  line_is : (left : ℕ) (text more : List ℕ) → ((indent left ++ text) ++ closing left) ++ more ≡ indent left ++ (text ++ (closing left ++ more))
  line_is left text more = four (indent left) text (closing left) more

  pub lines_apart : (left : ℕ) (ss : List Statement) → StandsApart (lines_text spelling left ss)
  lines_apart left [] = λ behind apart. apart
  lines_apart left (sync r t ∷ ss) = let more = lines_text spelling (left - 1) ss in
      subst (λ (xs : List ℕ). StandsApart xs) (sym (line_is left (sync_text spelling r t) more))
      (indent_apart left (sync_text spelling r t ++ (closing left ++ more)))
  lines_apart left (emit e ∷ ss) = let more = lines_text spelling (left - 1) ss in
      subst (λ (xs : List ℕ). StandsApart xs) (sym (line_is left (emit_text spelling e) more))
      (indent_apart left (emit_text spelling e ++ (closing left ++ more)))
  lines_apart left (repeat times count ∷ ss) = λ behind apart. refl

  pub lines_write : (m : ℕ) (w left : ℕ) (ss : List Statement) → m ≡ length channels
      → AreStatements m (length registers) w ss → AreSyncs left ss
      → Writes (lines_text spelling left ss) (spells_statements true channels registers w left ss)
  lines_write m w zero [] count order inside = nothing_writes
  lines_write m w (suc left) [] count order inside = absurd inside
  lines_write m w zero (sync r t ∷ ss) count order inside =
      let later = lines_write m (with_register w r) zero ss count order.3 tt in
      let within = written_within m (length registers) (with_register w r) ss order.3 in
      let scoped = subst (λ (c : ℕ). IsEvent (record { written = w; level = 0; channels = c }) t) count order.1 in
      let line = sync_writes w r t (lines_text spelling zero ss) _ (written_within m (length registers) w (sync r t ∷ ss) order) (register_within (length registers) w r within) scoped order.2 later in
      subst (λ (xs : List ℕ). Writes xs (spells_statements true channels registers w zero (sync r t ∷ ss)))
      (sym (line_is zero (sync_text spelling r t) (lines_text spelling zero ss))) (indent_writes zero _ _ line)
  lines_write m w (suc left) (sync r t ∷ ss) count order inside =
      let later = lines_write m (with_register w r) left ss count order.3 inside in
      let within = written_within m (length registers) (with_register w r) ss order.3 in
      let scoped = subst (λ (c : ℕ). IsEvent (record { written = w; level = 0; channels = c }) t) count order.1 in
      let line = sync_writes w r t (closing (suc left) ++ lines_text spelling left ss) _
      (written_within m (length registers) w (sync r t ∷ ss) order)
      (register_within (length registers) w r within) scoped order.2 (closing_writes left _ _ later) in
      let less : suc left - 1 ≡ left = omega arith in
      subst (λ (xs : List ℕ). Writes xs (spells_statements true channels registers w (suc left) (sync r t ∷ ss)))
      (sym (ap (λ (n : ℕ). ((indent (suc left) ++ sync_text spelling r t) ++ closing (suc left))
      ++ lines_text spelling n ss) less ∙ line_is (suc left) (sync_text spelling r t) (lines_text spelling left ss)))
      (indent_writes (suc left) _ _ line)
  lines_write m w zero (emit e ∷ ss) count order inside =
      let later = lines_write m w zero ss count order.1 tt in
      let scoped = subst (λ (c : ℕ). IsExpression (record { written = w; level = 0; channels = c }) e) count order.0 in
      let line = emit_writes w e (lines_text spelling zero ss) _ (written_within m (length registers) w (emit e ∷ ss) order) scoped later in
      subst (λ (xs : List ℕ). Writes xs (spells_statements true channels registers w zero (emit e ∷ ss)))
      (sym (line_is zero (emit_text spelling e) (lines_text spelling zero ss))) (indent_writes zero _ _ line)
  lines_write m w (suc left) (emit e ∷ ss) count order inside = absurd inside
  lines_write m w zero (repeat times more ∷ ss) count order inside =
      let later = lines_write m w more ss count order.1 order.0.body in
      under_writes (lines_text spelling zero (repeat times more ∷ ss)) (0 < more) _ order.0.some (repeat_writes times (lines_text spelling more ss) _ order.0.most later)
  lines_write m w (suc left) (repeat times more ∷ ss) count order inside = absurd inside
