-- The canonical text of an event spells it, wherever the event stands.
use Rattle.std.proofs.Common.{◌≡◌, ℕ, suc, ◌+◌, ◌≤◌, true, List, [], ◌∷◌, ◌++◌, length, refl, sym, ◌∙◌, ap, subst, append_assoc, arith}
use Rattle.std.specs.Prelude.{codes}
use Rattle.std.specs.List.{AllByRecursion}
use Rattle.std.proofs.lemmas.List.{append-nil}
use Rattle.te_terms.specs.declared.expr.Test.{Test}
use Rattle.te_terms.specs.declared.expr.Test.TheVariants as tests
use Rattle.te_terms.specs.Expressions.{Primitive}
use Rattle.te_terms.specs.Terms.{Term, always, never, fresh, throw, send, recv, and_then, choose, catch, when}
use Rattle.te_terms.specs.Measures.{height}
use Rattle.te_script.specs.Names.{IsName}
use Rattle.te_script.specs.Scripts.{IsPrimitive, IsEvent}
use Rattle.te_reader.specs.declared.token.Word.TheVariants as words
use Rattle.te_reader.specs.declared.token.Sign.TheVariants as signs
use Rattle.te_reader.specs.Tokens as tokens
use Rattle.te_reader.specs.Tokens.{Token, word, sign}
use Rattle.te_reader.specs.Grammar.{Span, is, ◌⨟◌, Names, IsFreeName, with_inner, bound_name, binds, EventPlace, alone}
use Rattle.te_reader.specs.Grammar.{in_do, in_choose, closed_span, closed_do, closed_choose, in_braces, do_event}
use Rattle.te_reader.specs.Grammar.{choose_event, do_parts, test_sign, spells_primitive, spells_expression}
use Rattle.te_reader.specs.Grammar.{spells_event}
use Rattle.te_reader.specs.Canonical.{inner_text, Spelling, primitive_text, expression_text, test_text, do_open, do_close, choose_open, choose_close, event_text}
use Rattle.te_reader.proofs.Regrouped.{three, six, eight}
use Rattle.te_reader.proofs.TokensWritten.{Writes, StandsApart, IsOneByte, brace_opens, brace_closes, semicolon_is}
use Rattle.te_reader.proofs.TokensWritten.{then_writes, word_writes, sign_before, sign_writes, sign_and_blank}
use Rattle.te_reader.proofs.TokensWritten.{blank_writes, named_writes, second_writes}
use Rattle.te_reader.proofs.ExpressionsWritten.{names_at, scope_at, inner_writes, inner_is_free, primitive_writes, expression_writes}

bar_is : IsOneByte signs.Bar 124
bar_is = (refl, λ ys. refl)

equal_is : IsOneByte signs.Equal 61
equal_is = (refl, λ ys. refl)

-- ---- standings

-- what closes an event where it goes on to the closing brace
abbrev pub ending : EventPlace → List ℕ
ending alone = []
ending in_do = codes " }"
ending in_choose = codes " }"

brace_writes : Writes (codes " }") (is (sign signs.CloseBrace))
brace_writes = blank_writes 32 (125 ∷ []) (is (sign signs.CloseBrace)) refl (sign_writes signs.CloseBrace 125 brace_closes)

with_brace : (text : List ℕ) (event : Span) → Writes text event → Writes (text ++ codes " }") (event ⨟ is (sign signs.CloseBrace))
with_brace text event f = then_writes text (codes " }") event (is (sign signs.CloseBrace)) f brace_writes (λ b a. refl)

with_nothing : (text : List ℕ) (event : Span) → Writes text event → Writes (text ++ []) event
with_nothing text event f = subst (λ (xs : List ℕ). Writes xs event) (sym (append-nil text)) f

closed_writes : (at : EventPlace) (text : List ℕ) (event : Span) → Writes text event → Writes (text ++ ending at) (closed_span at event)
closed_writes alone text event f = with_nothing text event f
closed_writes in_do text event f = with_brace text event f
closed_writes in_choose text event f = with_brace text event f

-- an event in braces, behind a blank
braces_write : (text : List ℕ) (event : Span) → Writes text event → Writes (codes " { " ++ text ++ codes " }") (in_braces event)
braces_write text event f = blank_writes 32 _ _ refl (sign_before signs.OpenBrace 123 (32 ∷ (text ++ codes " }")) _ brace_opens (blank_writes 32 _ _ refl (with_brace text event f)))

-- ---- `do`

-- what comes last of four pieces
last_of : (a b c d more : List ℕ) → (a ++ (codes " <- " ++ (b ++ (codes "; " ++ (c ++ d))))) ++ more ≡ a ++ (codes " <- " ++ (b ++ (codes "; " ++ (c ++ (d ++ more)))))
last_of a b c d more =
    append_assoc a (codes " <- " ++ (b ++ (codes "; " ++ (c ++ d)))) more
    ∙ ap (λ xs. a ++ (codes " <- " ++ xs)) (append_assoc b (codes "; " ++ (c ++ d)) more ∙ ap (λ xs. b ++ (codes "; " ++ xs)) (append_assoc c d more))

abbrev parts_text : List ℕ → List ℕ → List ℕ → List ℕ
parts_text n e f = n ++ (codes " <- " ++ (e ++ (codes "; " ++ (f ++ codes " }"))))

do_writes : (at : EventPlace) (n e f : List ℕ) (parts : Span) → Writes (parts_text n e f) parts
    → Writes ((do_open at ++ n ++ codes " <- " ++ e ++ codes "; " ++ f ++ do_close at) ++ ending at) (closed_do at (do_event parts) parts)
do_writes at n e f parts h = subst (λ (xs : List ℕ). Writes xs (closed_do at (do_event parts) parts))
    (sym (eight (do_open at) n (codes " <- ") e (codes "; ") f (do_close at) (ending at))) (by at) where
      whole_do : Writes (codes "do { " ++ parts_text n e f) (do_event parts)
      whole_do =
          then_writes (codes "do") (codes " { " ++ parts_text n e f) (is (word words.Do)) (is (sign signs.OpenBrace) ⨟ parts) (word_writes words.Do)
          (blank_writes 32 (codes "{ " ++ parts_text n e f) (is (sign signs.OpenBrace) ⨟ parts) refl
          (sign_before signs.OpenBrace 123 (32 ∷ parts_text n e f) parts brace_opens
          (blank_writes 32 (parts_text n e f) parts refl h))) (λ b a. refl)

      by : (at : EventPlace) → Writes (do_open at ++ (n ++ (codes " <- " ++ (e ++ (codes "; " ++ (f ++ (do_close at ++ ending at))))))) (closed_do at (do_event parts) parts)
      by alone = whole_do
      by in_do = second_writes (parts_text n e f) (do_event parts ⨟ is (sign signs.CloseBrace)) parts h
      by in_choose = subst (λ (xs : List ℕ). Writes xs (do_event parts ⨟ is (sign signs.CloseBrace)))
          (ap (λ xs. codes "do { " ++ xs) (last_of n e f (codes " }") (codes " }")))
          (with_brace (codes "do { " ++ parts_text n e f) (do_event parts) whole_do)

-- ---- `choose`

abbrev events_text : List ℕ → List ℕ → List ℕ
events_text e f = e ++ (codes " | " ++ (f ++ codes " }"))

last_event : (a b c more : List ℕ) → (a ++ (codes " | " ++ (b ++ c))) ++ more ≡ a ++ (codes " | " ++ (b ++ (c ++ more)))
last_event a b c more = append_assoc a (codes " | " ++ (b ++ c)) more ∙ ap (λ xs. a ++ (codes " | " ++ xs)) (append_assoc b c more)

choose_writes : (at : EventPlace) (e f : List ℕ) (events : Span) → Writes (events_text e f) events
    → Writes ((choose_open at ++ e ++ codes " | " ++ f ++ choose_close at) ++ ending at) (closed_choose at (choose_event events) events)
choose_writes at e f events h = subst (λ (xs : List ℕ). Writes xs (closed_choose at (choose_event events) events))
    (sym (six (choose_open at) e (codes " | ") f (choose_close at) (ending at))) (by at) where
      whole_choose : Writes (codes "choose { " ++ events_text e f) (choose_event events)
      whole_choose =
          then_writes (codes "choose") (codes " { " ++ events_text e f) (is (word words.Choose)) (is (sign signs.OpenBrace) ⨟ events) (word_writes words.Choose)
          (blank_writes 32 (codes "{ " ++ events_text e f) (is (sign signs.OpenBrace) ⨟ events) refl
          (sign_before signs.OpenBrace 123 (32 ∷ events_text e f) events brace_opens
          (blank_writes 32 (events_text e f) events refl h))) (λ b a. refl)

      by : (at : EventPlace) → Writes (choose_open at ++ (e ++ (codes " | " ++ (f ++ (choose_close at ++ ending at))))) (closed_choose at (choose_event events) events)
      by alone = whole_choose
      by in_choose = second_writes (events_text e f) (choose_event events ⨟ is (sign signs.CloseBrace)) events h
      by in_do = subst (λ (xs : List ℕ). Writes xs (choose_event events ⨟ is (sign signs.CloseBrace)))
          (ap (λ xs. codes "choose { " ++ xs) (last_event e f (codes " }") (codes " }")))
          (with_brace (codes "choose { " ++ events_text e f) (choose_event events) whole_choose)

-- ---- events

module _ (channels registers : List (List ℕ)) (named_channels : AllByRecursion IsName channels) (named_registers : AllByRecursion IsName registers) (w : ℕ) (written : w ≤ length registers) where
  abbrev spelling : Spelling
  spelling = record { channels = channels; registers = registers }

  abbrev names : ℕ → Names
  names l = names_at channels registers w l

  -- behind a word that a blank follows
  word_then : (v : List ℕ) (u : Token) (text : List ℕ) (span : Span) → Writes v (is u) → Writes text span → Writes (v ++ (32 ∷ text)) (is u ⨟ span)
  word_then v u text span f g = then_writes v (32 ∷ text) (is u) span f (blank_writes 32 text span refl g) (λ b a. refl)

  -- binds the inner name of a level
  binds_write : (l : ℕ) (text : List ℕ) (next : List ℕ → Span) → l ≤ 64 → StandsApart text → Writes text (next (inner_text l)) → Writes (inner_text l ++ text) (binds true (names l) next)
  binds_write l text next low apart f =
      named_writes (inner_text l ++ text) (inner_text l) (λ n. IsFreeName (names l) n) (λ n. bound_name n ⨟ next n) (inner_is_free channels registers w l named_channels named_registers low)
      (then_writes (inner_text l) text (bound_name (inner_text l)) (next (inner_text l))
      (second_writes (inner_text l) (is (tokens.name (inner_text l))) (is (tokens.inner (inner_text l)))
      (inner_writes l low)) f apart)

  -- `<-`, an event, `;` and what is behind them
  parts_write : (e f : List ℕ) (event rest : Span) → Writes e event → Writes f rest → Writes (codes " <- " ++ (e ++ (codes "; " ++ f))) (do_parts event rest)
  parts_write e f event rest g h =
      blank_writes 32 _ _ refl (sign_and_blank signs.Arrow 60 (45 ∷ []) (e ++ (codes "; " ++ f)) _ refl (λ ys. refl)
      (then_writes e (codes "; " ++ f) event _ g (sign_before signs.Semicolon 59 (32 ∷ f) _ semicolon_is (blank_writes 32 f rest refl h)) (λ b a. refl)))

  test_write : (test : Test) (text : List ℕ) (span : Span) → Writes text span → Writes (test_text test ++ text) (is (sign (test_sign test)) ⨟ span)
  test_write tests.Equal text span f = blank_writes 32 _ _ refl (sign_before signs.Equal 61 (32 ∷ text) span equal_is (blank_writes 32 text span refl f))
  test_write tests.Less text span f = blank_writes 32 _ _ refl (sign_and_blank signs.Less 60 [] text span refl (λ ys. refl) f)

  test_apart : (test : Test) (text : List ℕ) → StandsApart (test_text test ++ text)
  test_apart tests.Equal text behind apart = refl
  test_apart tests.Less text behind apart = refl

  abbrev OfLevel : ℕ → Term → Type 0
  OfLevel l t = IsEvent (scope_at channels w l) t × (l + height t ≤ 64)

  -- what an `if` compares, with what is behind it
  condition_writes : (l : ℕ) (test : Test) (p q : Primitive) (text : List ℕ) (span : Span) → l ≤ 64
      → IsPrimitive (scope_at channels w l) p → IsPrimitive (scope_at channels w l) q → StandsApart text
      → Writes text span
      → Writes (primitive_text spelling p ++ (test_text test ++ (primitive_text spelling q ++ text)))
      (spells_primitive true (names l) p ⨟ is (sign (test_sign test)) ⨟ spells_primitive true (names l) q ⨟ span)
  condition_writes l test p q text span low left right apart f =
      let second = then_writes (primitive_text spelling q) text (spells_primitive true (names l) q) span
      (primitive_writes channels registers named_channels named_registers w l written low q right) f apart in
      then_writes (primitive_text spelling p) _ (spells_primitive true (names l) p) _ (primitive_writes channels registers named_channels named_registers w l written low p left)
      (test_write test _ _ second) (test_apart test (primitive_text spelling q ++ text))

  pub event_writes : (t : Term) (at : EventPlace) (l : ℕ) → IsEvent (scope_at channels w l) t → l + height t ≤ 64 → Writes (event_text spelling at t ++ ending at) (spells_event true at (names l) t)
  event_writes (always e) at l h low =
      closed_writes at _ _ (word_then (codes "always") (word words.Always) (expression_text spelling e) _
      (word_writes words.Always) (expression_writes channels registers named_channels named_registers w l written
      (omega (arith, low)) e h))
  event_writes never at l h low = closed_writes at _ _ (word_writes words.Never)
  event_writes fresh at l h low = closed_writes at _ _ (word_writes words.Fresh)
  event_writes (throw e) at l h low =
      closed_writes at _ _ (word_then (codes "throw") (word words.Throw) (expression_text spelling e) _
      (word_writes words.Throw) (expression_writes channels registers named_channels named_registers w l written
      (omega (arith, low)) e h))
  event_writes (send p e) at l h low =
      closed_writes at _ _ (word_then (codes "send") (word words.Send) _ _ (word_writes words.Send)
      (subst (λ (xs : List ℕ). Writes xs (spells_primitive true (names l) p ⨟ spells_expression true (names l) e)) (sym (three (primitive_text spelling p) (codes " ") (expression_text spelling e)))
      (then_writes (primitive_text spelling p) (32 ∷ expression_text spelling e) _ _ (primitive_writes channels registers named_channels named_registers w l written (omega (arith, low)) p h.0)
      (blank_writes 32 _ _ refl (expression_writes channels registers named_channels named_registers w l written (omega (arith, low)) e h.1)) (λ b a. refl))))
  event_writes (recv p) at l h low =
      closed_writes at _ _ (word_then (codes "recv") (word words.Recv) _ _ (word_writes words.Recv)
      (primitive_writes channels registers named_channels named_registers w l written (omega (arith, low)) p h))
  event_writes (and_then e n f) at l h low =
      subst (λ (k : ℕ). Writes (event_text spelling at (and_then e k f) ++ ending at) (spells_event true at (names l) (and_then e k f))) (sym h.0) (
      do_writes at (inner_text l) (event_text spelling alone e) (event_text spelling in_do f) _
      (binds_write l _ _ (omega (arith, low)) (λ b a. refl)
      (parts_write (event_text spelling alone e) (event_text spelling in_do f ++ codes " }") _ _
      (by_itself (event_writes e alone l h.1 (omega (arith, low))))
      (event_writes f in_do (suc l) h.2 (omega (arith, low)))))) where
        by_itself : Writes (event_text spelling alone e ++ []) (spells_event true alone (names l) e) → Writes (event_text spelling alone e) (spells_event true alone (names l) e)
        by_itself g = subst (λ (xs : List ℕ). Writes xs (spells_event true alone (names l) e)) (append-nil (event_text spelling alone e)) g
  event_writes (choose e f) at l h low =
      choose_writes at (event_text spelling alone e) (event_text spelling in_choose f) _
      (then_writes (event_text spelling alone e) (codes " | " ++ (event_text spelling in_choose f ++ codes " }")) _ _ (by_itself (event_writes e alone l h.0 (omega (arith, low))))
      (blank_writes 32 _ _ refl (sign_before signs.Bar 124 (32 ∷ (event_text spelling in_choose f ++ codes " }")) _
      bar_is (blank_writes 32 _ _ refl (event_writes f in_choose l h.1 (omega (arith, low)))))) (λ b a. refl)) where
        by_itself : Writes (event_text spelling alone e ++ []) (spells_event true alone (names l) e) → Writes (event_text spelling alone e) (spells_event true alone (names l) e)
        by_itself g = subst (λ (xs : List ℕ). Writes xs (spells_event true alone (names l) e)) (append-nil (event_text spelling alone e)) g
  event_writes (catch e n f) at l h low =
      subst (λ (k : ℕ). Writes (event_text spelling at (catch e k f) ++ ending at) (spells_event true at (names l) (catch e k f))) (sym h.0)
      (closed_writes at _ _ (tried (event_text spelling alone e) (event_text spelling alone f)
      (by_itself e l (event_writes e alone l h.1 (omega (arith, low))))
      (by_itself f (suc l) (event_writes f alone (suc l) h.2 (omega (arith, low)))))) where
        by_itself : (t : Term) (k : ℕ) → Writes (event_text spelling alone t ++ []) (spells_event true alone (names k) t) → Writes (event_text spelling alone t) (spells_event true alone (names k) t)
        by_itself t k g = subst (λ (xs : List ℕ). Writes xs (spells_event true alone (names k) t)) (append-nil (event_text spelling alone t)) g

        pieces : (a b : List ℕ) → codes "try" ++ ((codes " { " ++ (a ++ codes " }"))
            ++ (codes " catch " ++ (inner_text l ++ (codes " { " ++ (b ++ codes " }"))))) ≡ codes "try { " ++ a
            ++ codes " } catch " ++ inner_text l ++ codes " { " ++ b ++ codes " }"
        pieces a b =
            let more : List ℕ = codes " catch " ++ (inner_text l ++ (codes " { " ++ (b ++ codes " }"))) in
            let tail : (a ++ codes " }") ++ more ≡ ((((a ++ codes " } catch ") ++ inner_text l) ++ codes " { ") ++ b)
            ++ codes " }" = three a (codes " }") more ∙ sym
            (six a (codes " } catch ") (inner_text l) (codes " { ") b (codes " }")) in
            ap (λ xs. codes "try { " ++ xs) tail

        tried : (a b : List ℕ) → Writes a (spells_event true alone (names l) e) → Writes b (spells_event true alone (with_inner (names l) (inner_text l)) f)
            → Writes (codes "try { " ++ a ++ codes " } catch " ++ inner_text l ++ codes " { " ++ b ++ codes " }")
            (is (word words.Try) ⨟ in_braces (spells_event true alone (names l) e) ⨟ is (word words.Catch) ⨟ binds true (names l) (λ x. in_braces (spells_event true alone (with_inner (names l) x) f)))
        tried a b first second =
            let bound_then = binds_write l (codes " { " ++ (b ++ codes " }"))
            (λ x. in_braces (spells_event true alone (with_inner (names l) x) f)) (omega (arith, low))
            (λ c d. refl) (braces_write b (spells_event true alone (with_inner (names l) (inner_text l)) f)
            second) in
            let caught = then_writes (codes " catch") (32 ∷ (inner_text l ++ (codes " { " ++ (b ++ codes " }"))))
            (is (word words.Catch)) (binds true (names l)
            (λ x. in_braces (spells_event true alone (with_inner (names l) x) f)))
            (blank_writes 32 (codes "catch") (is (word words.Catch)) refl (word_writes words.Catch))
            (blank_writes 32 (inner_text l ++ (codes " { " ++ (b ++ codes " }")))
            (binds true (names l) (λ x. in_braces (spells_event true alone (with_inner (names l) x) f))) refl
            bound_then) (λ c d. refl) in
            let event : Span = spells_event true alone (names l) e in
            let handler : Span = binds true (names l) (λ x. in_braces (spells_event true alone (with_inner (names l) x) f)) in
            let tail : List ℕ = codes " catch " ++ (inner_text l ++ (codes " { " ++ (b ++ codes " }"))) in
            let both = then_writes (codes " { " ++ (a ++ codes " }")) tail (in_braces event) (is (word words.Catch) ⨟ handler) (braces_write a event first) caught (λ c d. refl) in
            subst (λ (xs : List ℕ). Writes xs (is (word words.Try) ⨟ in_braces event ⨟ is (word words.Catch) ⨟ handler)) (pieces a b)
            (then_writes (codes "try") ((codes " { " ++ (a ++ codes " }")) ++ tail) (is (word words.Try))
            (in_braces event ⨟ is (word words.Catch) ⨟ handler) (word_writes words.Try) both (λ c d. refl))
  event_writes (when test p q e f) at l h low =
      closed_writes at _ _ (
      word_then (codes "if") (word words.If) _ _ (word_writes words.If)
      (subst
      (λ (xs : List ℕ). Writes xs (spells_primitive true (names l) p ⨟ is
      (sign (test_sign test)) ⨟ spells_primitive true (names l) q ⨟ in_braces
      (spells_event true alone (names l) e) ⨟ is (word words.Else) ⨟ in_braces (spells_event true alone (names l) f)))
      (sym (eight (primitive_text spelling p) (test_text test) (primitive_text spelling q) (codes " { ") (event_text spelling alone e) (codes " } else { ") (event_text spelling alone f) (codes " }")))
      (condition_writes l test p q _ _ (omega (arith, low)) h.0 h.1 (λ b a. refl)
      (branches (event_text spelling alone e) (event_text spelling alone f)
      (by_itself e (event_writes e alone l h.2 (omega (arith, low))))
      (by_itself f (event_writes f alone l h.3 (omega (arith, low)))))))) where
        by_itself : (t : Term) → Writes (event_text spelling alone t ++ []) (spells_event true alone (names l) t) → Writes (event_text spelling alone t) (spells_event true alone (names l) t)
        by_itself t g = subst (λ (xs : List ℕ). Writes xs (spells_event true alone (names l) t)) (append-nil (event_text spelling alone t)) g

        branches : (a b : List ℕ) → Writes a (spells_event true alone (names l) e) → Writes b (spells_event true alone (names l) f)
            → Writes (codes " { " ++ (a ++ (codes " } else { " ++ (b ++ codes " }"))))
            (in_braces (spells_event true alone (names l) e) ⨟ is (word words.Else) ⨟ in_braces
            (spells_event true alone (names l) f))
        branches a b first second =
            let event : Span = spells_event true alone (names l) e in
            let or_else : Span = spells_event true alone (names l) f in
            let tail : List ℕ = codes " else" ++ (codes " { " ++ (b ++ codes " }")) in
            let other = then_writes (codes " else") (codes " { " ++ (b ++ codes " }")) (is (word words.Else))
            (in_braces or_else) (blank_writes 32 (codes "else") (is (word words.Else)) refl
            (word_writes words.Else)) (braces_write b or_else second) (λ c d. refl) in
            subst (λ (xs : List ℕ). Writes xs (in_braces event ⨟ is (word words.Else) ⨟ in_braces or_else)) (ap (λ xs. codes " { " ++ xs) (append_assoc a (codes " }") tail))
            (then_writes (codes " { " ++ (a ++ codes " }")) tail (in_braces event) (is (word words.Else) ⨟ in_braces or_else) (braces_write a event first) other (λ c d. refl))
