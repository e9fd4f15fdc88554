-- The canonical text of a script is a text of it, where it isn't too long.
use Rattle.std.proofs.Common.{◌≡◌, ℕ, ◌≤◌, true, List, [], ◌∷◌, ◌++◌, length, refl, sym, ◌∙◌, ap, subst, append_assoc, inl}
use Rattle.std.specs.Prelude.{codes}
use Rattle.std.specs.List.{AllByRecursion, flat_map}
use Rattle.std.proofs.lemmas.List.{append-nil}
use Rattle.te_script.specs.Names.{IsName}
use Rattle.te_script.specs.Scripts.{Thread, Program, IsThread, HasNames, IsScript}
use Rattle.te_reader.specs.declared.token.Word.TheVariants as words
use Rattle.te_reader.specs.declared.token.Sign.TheVariants as signs
use Rattle.te_reader.specs.Tokens as tokens
use Rattle.te_reader.specs.Tokens.{Token, word, sign, Spells}
use Rattle.te_reader.specs.Grammar.{Span, is, ◌⨟◌, IsShortName, spells_statements, spells_thread, spells_threads, spells_names, spells_channels, spells_program}
use Rattle.te_reader.specs.Canonical.{lines_text, thread_text, spaced, channels_text, canonical_text}
use Rattle.te_reader.specs.Text.{Text}
use Rattle.te_reader.specs.Limits.{most_bytes}
use Rattle.te_reader.proofs.Regrouped.{five}
use Rattle.te_reader.proofs.TokensWritten.{Writes, StandsApart, brace_opens, brace_closes, semicolon_is, then_writes}
use Rattle.te_reader.proofs.TokensWritten.{nothing_writes, word_writes, name_writes, sign_before, sign_writes}
use Rattle.te_reader.proofs.TokensWritten.{blank_writes, under_writes}
use Rattle.te_reader.proofs.StatementsWritten.{lines_write}

-- ---- threads

abbrev lines_of : List (List ℕ) → Thread → List ℕ
lines_of channels t = lines_text (record { channels = channels; registers = t.registers }) 0 t.statements

-- a thread up to its brace
abbrev up_to_brace : List (List ℕ) → Thread → List ℕ
up_to_brace channels t = codes "thread " ++ (t.name ++ (codes " {\n" ++ (lines_of channels t ++ codes "}")))

thread_writes : (channels : List (List ℕ)) (t : Thread) → AllByRecursion IsName channels → HasNames t → IsThread (length channels) t → Writes (up_to_brace channels t) (spells_thread true channels t)
thread_writes channels t named_channels names kept =
    let statements = lines_write channels t.registers named_channels names.registers (length channels) 0 0 t.statements refl kept.in_order tt in
    let ended = then_writes (lines_of channels t) (codes "}")
    (spells_statements true channels t.registers 0 0 t.statements) (is (sign signs.CloseBrace)) statements
    (sign_writes signs.CloseBrace 125 brace_closes) (λ b a. refl) in
    let body = blank_writes 32 _ _ refl (sign_before signs.OpenBrace 123 (10 ∷ (lines_of channels t ++ codes "}")) _ brace_opens (blank_writes 10 _ _ refl ended)) in
    let named = then_writes t.name (codes " {\n" ++ (lines_of channels t ++ codes "}")) (is (tokens.name t.name)) _ (name_writes t.name names.name.identifier) body (λ b a. refl) in
    let whole = then_writes (codes "thread") (32 ∷ (t.name ++ (codes " {\n" ++ (lines_of channels t ++ codes "}"))))
    (is (word words.Thread)) _ (word_writes words.Thread) (blank_writes 32 _ _ refl named) (λ b a. refl) in
    under_writes (up_to_brace channels t) (IsShortName t.name) _ names.name.short whole

-- what comes last in it
last_of : (name lines last more : List ℕ) → (name ++ (codes " {\n" ++ (lines ++ last))) ++ more ≡ name ++ (codes " {\n" ++ (lines ++ (last ++ more)))
last_of name lines last more = append_assoc name (codes " {\n" ++ (lines ++ last)) more ∙ ap (λ xs. name ++ (codes " {\n" ++ xs)) (append_assoc lines last more)

-- the line feed behind it begins what is behind it
thread_line : (channels : List (List ℕ)) (t : Thread) (more : List ℕ) → up_to_brace channels t ++ (10 ∷ more) ≡ thread_text channels t ++ more
thread_line channels t more =
    let tail : (t.name ++ (codes " {\n" ++ (lines_of channels t ++ codes "}"))) ++ (10 ∷ more) ≡ (((t.name ++ codes " {\n") ++ lines_of channels t) ++ codes "}\n") ++ more =
    last_of t.name (lines_of channels t) (codes "}") (10 ∷ more) ∙ sym (five t.name (codes " {\n") (lines_of channels t) (codes "}\n") more) in
    ap (λ xs. codes "thread " ++ xs) tail

threads_write : (channels : List (List ℕ)) (threads : List Thread) → AllByRecursion IsName channels → AllByRecursion HasNames threads → AllByRecursion (IsThread (length channels)) threads
    → Writes (flat_map (thread_text channels) threads) (spells_threads true channels threads)
threads_write channels [] named_channels names kept = nothing_writes
threads_write channels (t ∷ threads) named_channels names kept =
    let later = threads_write channels threads named_channels names.1 kept.1 in
    let more : List ℕ = flat_map (thread_text channels) threads in
    subst (λ (xs : List ℕ). Writes xs (spells_threads true channels (t ∷ threads))) (thread_line channels t more)
    (then_writes (up_to_brace channels t) (10 ∷ more) (spells_thread true channels t)
    (spells_threads true channels threads) (thread_writes channels t named_channels names.0 kept.0)
    (blank_writes 10 more _ refl later) (λ b a. refl))

-- ---- channels

spaced_apart : (names : List (List ℕ)) → StandsApart (flat_map spaced names)
spaced_apart [] behind apart = apart
spaced_apart (n ∷ names) behind apart = refl

names_write : (names : List (List ℕ)) → AllByRecursion IsName names → Writes (flat_map spaced names) (spells_names true names)
names_write [] named = nothing_writes
names_write (n ∷ names) named =
    let first = then_writes n (flat_map spaced names) (is (tokens.name n)) (spells_names true names) (name_writes n named.0.identifier) (names_write names named.1) (spaced_apart names) in
    under_writes (flat_map spaced (n ∷ names)) (IsShortName n) _ named.0.short (blank_writes 32 (n ++ flat_map spaced names) _ refl first)

-- the channels, up to their `;`, and what is behind them
channels_write : (n : List ℕ) (names : List (List ℕ)) (more : List ℕ) (span : Span) → AllByRecursion IsName (n ∷ names)
    → Writes more span → Writes (channels_text (n ∷ names) ++ more) (spells_channels true (n ∷ names) ⨟ span)
channels_write n names more span named f =
    let listed = names_write (n ∷ names) named in
    let all : List ℕ = flat_map spaced (n ∷ names) in
    let ended = then_writes all (codes ";") _ _ listed (sign_writes signs.Semicolon 59 semicolon_is) (λ b a. refl) in
    let line = then_writes (codes "channels") (all ++ codes ";") (is (word words.Channels)) _ (word_writes words.Channels) ended (λ b a. refl) in
    let text : (codes "channels" ++ (all ++ codes ";")) ++ (10 ∷ more) ≡ channels_text (n ∷ names) ++ more =
    ap (λ xs. codes "channels" ++ xs) (append_assoc all (codes ";") (10 ∷ more) ∙ sym (append_assoc all (codes ";\n") more)) in
    subst (λ (xs : List ℕ). Writes xs (spells_channels true (n ∷ names) ⨟ span)) text
    (then_writes (codes "channels" ++ (all ++ codes ";")) (10 ∷ more) _ span line (blank_writes 10 more span refl f)
    (λ b a. refl))

-- ---- programs

program_writes : (channels : List (List ℕ)) (threads : List Thread) → AllByRecursion IsName channels → AllByRecursion HasNames threads → AllByRecursion (IsThread (length channels)) threads
    → Writes (canonical_text (record { channels = channels; threads = threads })) (spells_program true (record { channels = channels; threads = threads }))
program_writes [] threads named names kept = record { before = λ rest behind h k. let w = (threads_write [] threads named names kept).before rest behind h k in (w.0, (w.0, refl, w.1), w.2) }
program_writes (n ∷ channels) threads named names kept = channels_write n channels (flat_map (thread_text (n ∷ channels)) threads) _ named (threads_write (n ∷ channels) threads named names kept)

pub canonical_is_text : (p : Program) → IsScript p → length (canonical_text p) ≤ most_bytes → Text (canonical_text p) p
canonical_is_text p kept size =
    let v = (program_writes p.channels p.threads kept.channels kept.threads kept.program.each).before [] [] tt (inl (refl, tt)) in
    record { size = size; tokens = v.0; spelled = subst (λ (text : List ℕ). Spells v.0 text) (append-nil (canonical_text p)) v.2; grammar = v.1; kept = kept.program }
