-- The grammar: which tokens spell which part of a program. It is this project's own.
-- A span says of two lists of tokens that the first is the second with something before it.
-- `rules` tells whether the rules on names and on the size of integers are asked for: without them the grammar alone is left.
use Rattle.std.specs.Prelude.{◌≡◌, ◌≢◌, ℕ, zero, suc, ◌<◌, ◌≤◌, Bool, true, false, ◌⊎◌, List, [], ◌∷◌, ◌++◌, length, take, ℤ, pos, Some, slice_get}
use Rattle.std.specs.List.{AllByRecursion}
use Rattle.te_terms.specs.declared.expr.Arith.{Arith}
use Rattle.te_terms.specs.declared.expr.Arith.TheVariants as ariths
use Rattle.te_terms.specs.declared.expr.Test.{Test}
use Rattle.te_terms.specs.declared.expr.Test.TheVariants as tests
use Rattle.te_terms.specs.Values.{fits_i64}
use Rattle.te_terms.specs.Expressions.{Variable, register, name, known, Primitive, int, chan, part, Calculation, one, both, Expression, whole, tuple}
use Rattle.te_terms.specs.Terms.{Term, always, never, fresh, throw, send, recv, and_then, choose, catch, when}
use Rattle.te_script.specs.Scripts.{Statement, sync, emit, repeat, Thread, Program, with_register}
use Rattle.te_reader.specs.declared.token.Word.TheVariants as words
use Rattle.te_reader.specs.declared.token.Sign.{Sign}
use Rattle.te_reader.specs.declared.token.Sign.TheVariants as signs
use Rattle.te_reader.specs.Tokens as tokens
use Rattle.te_reader.specs.Tokens.{Token, word, sign}
use Rattle.te_reader.specs.Integers.{integer_value}
use Rattle.te_terms.specs.Limits.{longest_name}

-- ---- spans

abbrev pub Span : Type 1
Span = List Token → List Token → Type 0

-- this token
abbrev pub is : Token → Span
is t ts rest = ts ≡ t ∷ rest

-- the one, then the other
infixr 30 ◌⨟◌
abbrev pub ◌⨟◌ : Span → Span → Span
(first ⨟ second) ts rest = (middle : List Token) × first ts middle × second middle rest

abbrev pub nothing : Span
nothing ts rest = ts ≡ rest

abbrev pub either : Span → Span → Span
either first second ts rest = first ts rest ⊎ second ts rest

-- for some name
abbrev pub some_name : (List ℕ → Span) → Span
some_name span ts rest = (n : List ℕ) × span n ts rest

-- a fact, where rules are asked for
abbrev pub Rule : Bool → Type 0 → Type 0
Rule true fact = fact
Rule false fact = Unit {0}

abbrev pub span_under : Bool → Type 0 → Span → Span
span_under rules fact span ts rest = Rule rules fact × span ts rest

-- ---- names

-- the channels by number, the registers in scope by number, and the inner names in scope by level
pub record Names : Type 0 where
  pub channels : List (List ℕ)
  pub registers : List (List ℕ)
  pub inners : List (List ℕ)

-- the name at a place of a list
abbrev pub IsAt : List (List ℕ) → ℕ → List ℕ → Type 0
IsAt names place n = slice_get names place ≡ Some n

abbrev pub IsNew : List ℕ → List (List ℕ) → Type 0
IsNew n names = AllByRecursion (λ x. x ≢ n) names

abbrev pub IsShortName : List ℕ → Type 0
IsShortName n = length n ≤ longest_name

-- an inner name differs from every channel and from what is in scope
pub record IsFreeName (s : Names) (n : List ℕ) : Type 0 where
  pub short : IsShortName n
  pub no_channel : IsNew n s.channels
  pub no_register : IsNew n s.registers
  pub no_inner : IsNew n s.inners

-- a NAME or an INNER
abbrev pub bound_name : List ℕ → Span
bound_name n = either (is (tokens.name n)) (is (tokens.inner n))

-- one name more is in scope
abbrev pub with_inner : Names → List ℕ → Names
with_inner s n = record s { inners = s.inners ++ n ∷ [] }

-- binds some inner name, with which the rest goes on
abbrev pub binds : Bool → Names → (List ℕ → Span) → Span
binds rules s next = some_name (λ n. span_under rules (IsFreeName s n) (bound_name n ⨟ next n))

-- ---- expressions

abbrev pub spells_variable : Bool → Names → Variable → Span
spells_variable rules s (register r) = some_name (λ n. span_under rules (IsAt s.registers r n) (is (tokens.name n)))
spells_variable rules s (name l) = some_name (λ n. span_under rules (IsAt s.inners l n) (bound_name n))
spells_variable rules s (known v) = λ ts rest. ⊥

-- an INT that denotes this integer
abbrev pub spells_integer : ℤ → Span
spells_integer z ts rest = (digits : List ℕ) × (integer_value digits ≡ z) × is (tokens.integer digits) ts rest

abbrev pub spells_primitive : Bool → Names → Primitive → Span
spells_primitive rules s (int z) = span_under rules (fits_i64 z ≡ true) (spells_integer z)
spells_primitive rules s (chan c) = some_name (λ n. span_under rules (IsAt s.channels c n) (is (tokens.name n)))
spells_primitive rules s (part x d) = span_under true (d ≤ 3) (spells_variable rules s x ⨟ is (sign signs.Dot) ⨟ spells_integer (pos d))

abbrev pub arith_sign : Arith → Sign
arith_sign ariths.Add = signs.Plus
arith_sign ariths.Sub = signs.Minus
arith_sign ariths.Mul = signs.Star

abbrev pub spells_calculation : Bool → Names → Calculation → Span
spells_calculation rules s (one p) = spells_primitive rules s p
spells_calculation rules s (both o p q) = spells_primitive rules s p ⨟ is (sign (arith_sign o)) ⨟ spells_primitive rules s q

-- the further calculations of a tuple, up to its end
abbrev pub spells_further : Bool → Names → List Calculation → Span
spells_further rules s [] = is (sign signs.Close)
spells_further rules s (c ∷ cs) = is (sign signs.Comma) ⨟ spells_calculation rules s c ⨟ spells_further rules s cs

abbrev pub spells_inside : Bool → Names → List Calculation → Span
spells_inside rules s [] = is (sign signs.Close)
spells_inside rules s (c ∷ cs) = spells_calculation rules s c ⨟ spells_further rules s cs

abbrev pub spells_expression : Bool → Names → Expression → Span
spells_expression rules s (whole x) = spells_variable rules s x
spells_expression rules s (tuple cs) = is (sign signs.Open) ⨟ spells_inside rules s cs

-- ---- events

-- an event stands by itself, or behind a part of a `do`, or behind a bar of a `choose`; the latter two go on to the closing brace
pub data EventPlace : Type 0 where
  alone : EventPlace
  in_do : EventPlace
  in_choose : EventPlace

abbrev pub closed_span : EventPlace → Span → Span
closed_span alone event = event
closed_span in_do event = event ⨟ is (sign signs.CloseBrace)
closed_span in_choose event = event ⨟ is (sign signs.CloseBrace)

-- behind a part of a `do` the parts of a further one may stand without its braces
abbrev pub closed_do : EventPlace → Span → Span → Span
closed_do in_do event parts = either (event ⨟ is (sign signs.CloseBrace)) parts
closed_do alone event parts = event
closed_do in_choose event parts = event ⨟ is (sign signs.CloseBrace)

-- behind a bar of a `choose` the events of a further one may
abbrev pub closed_choose : EventPlace → Span → Span → Span
closed_choose in_choose event events = either (event ⨟ is (sign signs.CloseBrace)) events
closed_choose alone event events = event
closed_choose in_do event events = event ⨟ is (sign signs.CloseBrace)

abbrev pub in_braces : Span → Span
in_braces event = is (sign signs.OpenBrace) ⨟ event ⨟ is (sign signs.CloseBrace)

abbrev pub test_sign : Test → Sign
test_sign tests.Equal = signs.Equal
test_sign tests.Less = signs.Less

-- `do`, `choose`, `try` and `if` around what their parts spell
abbrev pub do_event : Span → Span
do_event parts = is (word words.Do) ⨟ is (sign signs.OpenBrace) ⨟ parts

abbrev pub choose_event : Span → Span
choose_event events = is (word words.Choose) ⨟ is (sign signs.OpenBrace) ⨟ events

abbrev pub do_parts : Span → Span → Span
do_parts event rest = is (sign signs.Arrow) ⨟ event ⨟ is (sign signs.Semicolon) ⨟ rest

abbrev pub spells_event : Bool → EventPlace → Names → Term → Span
spells_event rules at s (always e) = closed_span at (is (word words.Always) ⨟ spells_expression rules s e)
spells_event rules at s never = closed_span at (is (word words.Never))
spells_event rules at s fresh = closed_span at (is (word words.Fresh))
spells_event rules at s (throw e) = closed_span at (is (word words.Throw) ⨟ spells_expression rules s e)
spells_event rules at s (send p e) = closed_span at (is (word words.Send) ⨟ spells_primitive rules s p ⨟ spells_expression rules s e)
spells_event rules at s (recv p) = closed_span at (is (word words.Recv) ⨟ spells_primitive rules s p)
spells_event rules at s (and_then e n f) =
    closed_do at (do_event (binds rules s (λ x. do_parts (spells_event rules alone s e) (spells_event rules in_do (with_inner s x) f))))
    (binds rules s (λ x. do_parts (spells_event rules alone s e) (spells_event rules in_do (with_inner s x) f)))
spells_event rules at s (choose e f) =
    closed_choose at (choose_event (spells_event rules alone s e ⨟ is (sign signs.Bar) ⨟ spells_event rules in_choose s f))
    (spells_event rules alone s e ⨟ is (sign signs.Bar) ⨟ spells_event rules in_choose s f)
spells_event rules at s (catch e n h) =
    closed_span at (is (word words.Try) ⨟ in_braces (spells_event rules alone s e) ⨟ is (word words.Catch) ⨟ binds rules s (λ x. in_braces (spells_event rules alone (with_inner s x) h)))
spells_event rules at s (when test p q e f) =
    closed_span at
    (is (word words.If) ⨟ spells_primitive rules s p ⨟ is (sign (test_sign test)) ⨟ spells_primitive rules s q ⨟ in_braces (spells_event rules alone s e) ⨟ is (word words.Else)
    ⨟ in_braces (spells_event rules alone s f))

-- ---- statements, threads and programs

-- the names in scope once so many registers of a thread have been written
abbrev pub written_names : List (List ℕ) → List (List ℕ) → ℕ → Names
written_names channels registers written = record { channels = channels; registers = take written registers; inners = [] }

-- a sync, and what stands behind it
abbrev pub spells_sync : Bool → List (List ℕ) → List (List ℕ) → ℕ → ℕ → Term → Span → Span
spells_sync rules channels registers written r t rest =
    some_name
    (λ n. span_under rules (IsAt registers r n × IsShortName n)
    (is (tokens.name n) ⨟ is (sign signs.Arrow) ⨟ is (word words.Sync) ⨟ spells_event rules alone (written_names channels registers written) t ⨟ is (sign signs.Semicolon) ⨟ rest))

-- behind a statement of a repeat of which so many are still to come; behind the last one stands its brace
abbrev pub behind_sync : ℕ → Span → Span
behind_sync zero rest = is (sign signs.CloseBrace) ⨟ rest
behind_sync (suc left) rest = rest

-- statements of which so many more stand in the braces of a repeat
abbrev pub spells_statements : Bool → List (List ℕ) → List (List ℕ) → ℕ → ℕ → List Statement → Span
spells_statements rules channels registers written zero [] = nothing
spells_statements rules channels registers written (suc left) [] = λ ts rest. ⊥
spells_statements rules channels registers written zero (sync r t ∷ more) =
    spells_sync rules channels registers written r t (spells_statements rules channels registers (with_register written r) zero more)
spells_statements rules channels registers written (suc left) (sync r t ∷ more) =
    spells_sync rules channels registers written r t (behind_sync left (spells_statements rules channels registers (with_register written r) left more))
spells_statements rules channels registers written zero (emit e ∷ more) =
    is (word words.Emit) ⨟ spells_expression rules (written_names channels registers written) e ⨟ is (sign signs.Semicolon) ⨟ spells_statements rules channels registers written zero more
spells_statements rules channels registers written (suc left) (emit e ∷ more) = λ ts rest. ⊥
spells_statements rules channels registers written zero (repeat times count ∷ more) =
    span_under true (0 < count)
    (is (word words.Repeat) ⨟ spells_integer (pos times) ⨟ is (sign signs.OpenBrace) ⨟ spells_statements rules channels registers written count more)
spells_statements rules channels registers written (suc left) (repeat times count ∷ more) = λ ts rest. ⊥

abbrev pub spells_thread : Bool → List (List ℕ) → Thread → Span
spells_thread rules channels t =
    span_under rules (IsShortName t.name) (is (word words.Thread) ⨟ is (tokens.name t.name) ⨟ in_braces (spells_statements rules channels t.registers 0 0 t.statements))

abbrev pub spells_threads : Bool → List (List ℕ) → List Thread → Span
spells_threads rules channels [] = nothing
spells_threads rules channels (t ∷ more) = spells_thread rules channels t ⨟ spells_threads rules channels more

abbrev pub spells_names : Bool → List (List ℕ) → Span
spells_names rules [] = nothing
spells_names rules (n ∷ more) = span_under rules (IsShortName n) (is (tokens.name n) ⨟ spells_names rules more)

-- a script without channels has no word for them
abbrev pub spells_channels : Bool → List (List ℕ) → Span
spells_channels rules [] = nothing
spells_channels rules (n ∷ more) = is (word words.Channels) ⨟ spells_names rules (n ∷ more) ⨟ is (sign signs.Semicolon)

abbrev pub spells_program : Bool → Program → Span
spells_program rules p = spells_channels rules p.channels ⨟ spells_threads rules p.channels p.threads
