-- What scripts are read as, as functions of the tokens. Contracts inside this crate cite it.
use Rattle.std.specs.Prelude.{ℕ, zero, suc, Bool, true, false, List, [], ◌∷◌, ◌++◌, length, nat_lt, nat_le, ◌&&◌, ℤ, pos, negsuc, Option, Some, None, if◌then◌else◌}
use Rattle.te_terms.specs.Expressions.{Expression}
use Rattle.te_terms.specs.Terms.{Term}
use Rattle.te_script.specs.Scripts.{Statement, sync, emit, repeat, Thread, Program}
use Rattle.te_reader.specs.declared.token.Word.TheVariants as words
use Rattle.te_reader.specs.declared.token.Sign.TheVariants as signs
use Rattle.te_reader.specs.Tokens.{Token}
use Rattle.te_reader.specs.Lexed.{lexed}
use Rattle.te_reader.specs.Heads.{word_first, sign_first, name_first, integer_first}
use Rattle.te_reader.specs.Integers.{integer_value}
use Rattle.te_reader.specs.Grammar.{alone}
use Rattle.te_reader.specs.NameReads.{◌>>=◌, Read, checked, first_place_of, if_absent, declared_in, names_of}
use Rattle.te_reader.specs.ExpressionReads.{read_expression}
use Rattle.te_reader.specs.Tallies.{no_node}
use Rattle.te_reader.specs.EventReads.{read_event}
use Rattle.te_terms.specs.Limits.{most_threads, greatest_height, most_registers, longest_name}
use Rattle.te_script.specs.Limits.{most_channels, most_statements, most_times}
use Rattle.te_reader.specs.Limits.{most_bytes}

-- ---- statements

-- `<- sync`, the event and `;`
unfoldable pub read_sync : List (List ℕ) → List (List ℕ) → List Token → Read Term
read_sync channels registers ts = do
  a ← sign_first signs.Arrow ts
  b ← word_first words.Sync a
  t ← read_event greatest_height alone (names_of channels registers) no_node b
  rest ← sign_first signs.Semicolon t.1
  Some (t.0, rest)

abbrev pub old_or_new : List (List ℕ) → List ℕ → Option ℕ → Option (ℕ × List (List ℕ))
old_or_new registers n (Some r) = Some (r, registers)
old_or_new registers n None = do
  more ← declared_in most_registers registers n
  Some (length registers, more)

-- the register of a name, and all registers with it
unfoldable pub register_of : List (List ℕ) → List (List ℕ) → List ℕ → Option (ℕ × List (List ℕ))
register_of channels registers n = do
  _ ← if_absent (first_place_of channels n)
  old_or_new registers n (first_place_of registers n)

unfoldable pub read_emit : List (List ℕ) → List (List ℕ) → List Token → Read Expression
read_emit channels registers ts = do
  e ← read_expression (names_of channels registers) ts
  rest ← sign_first signs.Semicolon e.1
  Some (e.0, rest)

-- a sync, and the registers written by its end
unfoldable pub read_written : List (List ℕ) → List (List ℕ) → List Token → Read (Statement × List (List ℕ))
read_written channels registers ts = do
  n ← name_first ts
  t ← read_sync channels registers n.1
  r ← register_of channels registers n.0
  Some ((sync r.0 t.0, r.1), t.1)

abbrev pub emit_or_sync : List (List ℕ) → List (List ℕ) → List Token → Option (List Token) → Read (Statement × List (List ℕ))
emit_or_sync channels registers ts (Some behind) = do
  e ← read_emit channels registers behind
  Some ((emit e.0, registers), e.1)
emit_or_sync channels registers ts None = read_written channels registers ts

-- one statement, and the registers written by its end
unfoldable pub read_statement : List (List ℕ) → List (List ℕ) → List Token → Read (Statement × List (List ℕ))
read_statement channels registers ts = emit_or_sync channels registers ts (word_first words.Emit ts)

-- how often a repeat may be done
abbrev pub repeats_in : ℤ → Option ℕ
repeats_in (pos n) = if nat_le 1 n && nat_le n most_times then Some n else None
repeats_in (negsuc n) = None

-- how often a repeat is done, and its brace
unfoldable pub read_times : List Token → Read ℕ
read_times ts = do
  d ← integer_first ts
  n ← repeats_in (integer_value d.0)
  rest ← sign_first signs.OpenBrace d.1
  Some (n, rest)

-- what a thread's body has come to: its statements, of which the first so many stand in the braces of a repeat, and its registers
pub record Body : Type 0 where
  pub statements : List Statement
  pub leading : ℕ
  pub registers : List (List ℕ)

abbrev pub read_changed : (Body → Body) → Read Body → Read Body
read_changed f None = None
read_changed f (Some b) = Some (f b.0, b.1)

abbrev pub before_body : Statement → Body → Body
before_body s b = record { statements = s ∷ b.statements; leading = 0; registers = b.registers }

abbrev pub before_repeat : ℕ → Body → Body
before_repeat times b = record { statements = repeat times b.leading ∷ b.statements; leading = 0; registers = b.registers }

-- a sync of a repeat, before another one or before the brace
abbrev pub before_inside : Statement → Body → Body
before_inside s b = record { statements = s ∷ b.statements; leading = suc b.leading; registers = b.registers }

abbrev pub before_brace : Statement → Body → Body
before_brace s b = record { statements = s ∷ b.statements; leading = 1; registers = b.registers }

-- what is read from here on, inside the braces of a repeat or not
abbrev pub Bodies : Type 0
Bodies = Bool → List (List ℕ) → List Token → Read Body

abbrev pub repeat_or_statement : Bodies → List (List ℕ) → List (List ℕ) → List Token → Option (List Token) → Read Body
repeat_or_statement next channels registers ts (Some behind) = read_times behind >>= λ h. read_changed (before_repeat h.0) (next true registers h.1)
repeat_or_statement next channels registers ts None = read_statement channels registers ts >>= λ s. read_changed (before_body s.0.0) (next false s.0.1 s.1)

unfoldable pub more_body : Bodies → List (List ℕ) → List (List ℕ) → List Token → Read Body
more_body next channels registers ts = repeat_or_statement next channels registers ts (word_first words.Repeat ts)

abbrev pub brace_or_sync : Bodies → Statement → List (List ℕ) → List Token → Option (List Token) → Read Body
brace_or_sync next s registers ts (Some rest) = read_changed (before_brace s) (next false registers rest)
brace_or_sync next s registers ts None = read_changed (before_inside s) (next true registers ts)

unfoldable pub inside_body : Bodies → List (List ℕ) → List (List ℕ) → List Token → Read Body
inside_body next channels registers ts = read_written channels registers ts >>= λ s. brace_or_sync next s.0.0 s.0.1 s.1 (sign_first signs.CloseBrace s.1)

-- the closing brace, or a statement and more
abbrev pub brace_or_more : List (List ℕ) → Option (Read Body) → Option (List Token) → Read Body
brace_or_more registers more (Some rest) = Some (record { statements = []; leading = 0; registers = registers }, rest)
brace_or_more registers None None = None
brace_or_more registers (Some more) None = more

-- at most so many statements, up to the thread's closing brace
unfoldable pub read_body : ℕ → List (List ℕ) → Bodies
read_body zero channels false registers ts = brace_or_more registers None (sign_first signs.CloseBrace ts)
read_body zero channels true registers ts = None
read_body (suc left) channels false registers ts = brace_or_more registers (Some (more_body (read_body left channels) channels registers ts)) (sign_first signs.CloseBrace ts)
read_body (suc left) channels true registers ts = inside_body (read_body left channels) channels registers ts

-- ---- threads and programs

abbrev pub named_body : List ℕ → Read Body → Read Thread
named_body n None = None
named_body n (Some body) = Some (record { name = n; registers = body.0.registers; statements = body.0.statements }, body.1)

-- a thread behind its first word
unfoldable pub read_thread : List (List ℕ) → List Token → Read Thread
read_thread channels ts = do
  n ← name_first ts
  _ ← checked (nat_le (length n.0) longest_name)
  inside ← sign_first signs.OpenBrace n.1
  named_body n.0 (read_body most_statements channels false [] inside)

-- a thread with a new name, and all names with it
unfoldable pub read_new_thread : List (List ℕ) → List (List ℕ) → List Token → Read (Thread × List (List ℕ))
read_new_thread channels names ts = do
  t ← read_thread channels ts
  _ ← if_absent (first_place_of names t.0.name)
  Some ((t.0, names ++ t.0.name ∷ []), t.1)

-- no word `thread` stands there, or a thread and more
abbrev pub end_or_thread : List Token → (List Token → Read (List Thread)) → Option (List Token) → Read (List Thread)
end_or_thread ts more None = Some ([], ts)
end_or_thread ts more (Some behind) = more behind

unfoldable pub read_threads : ℕ → List (List ℕ) → List (List ℕ) → List Token → Read (List Thread)
read_threads zero channels names ts = end_or_thread ts (λ _. None) (word_first words.Thread ts)
read_threads (suc left) channels names ts =
    end_or_thread ts
    (λ behind. read_new_thread channels names behind >>= λ t. read_threads left channels t.0.1 t.1 >>= λ more. Some (t.0.0 ∷ more.0, more.1))
    (word_first words.Thread ts)

abbrev pub semicolon_or_name : List (List ℕ) → List Token → (List ℕ × List Token → Read (List (List ℕ))) → Read (List ℕ) → Read (List (List ℕ))
semicolon_or_name names ts more None = do
  rest ← sign_first signs.Semicolon ts
  Some (names, rest)
semicolon_or_name names ts more (Some n) = more n

-- names up to a `;`, behind those that are known
unfoldable pub read_names : ℕ → List (List ℕ) → List Token → Read (List (List ℕ))
read_names zero names ts = semicolon_or_name names ts (λ _. None) (name_first ts)
read_names (suc left) names ts = semicolon_or_name names ts (λ n. declared_in 256 names n.0 >>= λ more. read_names left more n.1) (name_first ts)

abbrev pub if_some : List (List ℕ) → Option (Unit {0})
if_some [] = None
if_some (n ∷ ns) = Some tt

abbrev pub none_or_channels : List Token → Option (List Token) → Read (List (List ℕ))
none_or_channels ts None = Some ([], ts)
none_or_channels ts (Some behind) = do
  names ← read_names most_channels [] behind
  _ ← if_some names.0
  Some names

unfoldable pub read_channels : List Token → Read (List (List ℕ))
read_channels ts = none_or_channels ts (word_first words.Channels ts)

unfoldable pub read_program : List Token → Read Program
read_program ts = do
  channels ← read_channels ts
  threads ← read_threads most_threads channels.0 [] channels.1
  _ ← checked (nat_lt 0 (length threads.0))
  Some (record { channels = channels.0; threads = threads.0 }, threads.1)

abbrev pub if_end : Bool → List Token → Option (Unit {0})
if_end true [] = Some tt
if_end true (t ∷ ts) = None
if_end false ts = None

-- the program that a text is read as
unfoldable pub read_text : List ℕ → Option Program
read_text bytes = do
  _ ← checked (nat_le (length bytes) most_bytes)
  p ← read_program (lexed bytes).tokens
  _ ← if_end (lexed bytes).whole p.1
  Some p.0
