-- What events are read as, as functions of the tokens. Contracts inside this crate cite it.
use Rattle.std.specs.Prelude.{ℕ, zero, suc, ◌+◌, Bool, List, length, nat_le, ◌&&◌, Option, Some, None}
use Rattle.te_terms.specs.declared.expr.Test.{Test}
use Rattle.te_terms.specs.declared.expr.Test.TheVariants as tests
use Rattle.te_terms.specs.Expressions.{Primitive}
use Rattle.te_terms.specs.Terms.{Term, always, never, fresh, throw, send, recv, and_then, choose, catch, when}
use Rattle.te_terms.specs.Measures.{height, node_count, fresh_count}
use Rattle.te_reader.specs.declared.token.Word.TheVariants as words
use Rattle.te_reader.specs.declared.token.Sign.TheVariants as signs
use Rattle.te_reader.specs.Tokens.{Token}
use Rattle.te_reader.specs.Heads.{word_first, sign_first, bound_first}
use Rattle.te_reader.specs.Grammar.{Names, EventPlace, alone, in_do, in_choose}
use Rattle.te_reader.specs.NameReads.{◌>>=◌, Read, checked, bound_in}
use Rattle.te_reader.specs.ExpressionReads.{read_primitive, read_expression}
use Rattle.te_terms.specs.Limits.{most_nodes, most_fresh, greatest_height}
use Rattle.te_reader.specs.Tallies.{Tally, tally_with_event}

-- ---- events of one node

abbrev pub or_recv : Names → List Token → Option (List Token) → Read Term
or_recv s ts (Some behind) = do
  p ← read_primitive s behind
  Some (recv p.0, p.1)
or_recv s ts None = None

abbrev pub or_fresh : Names → List Token → Option (List Token) → Read Term
or_fresh s ts (Some behind) = Some (fresh, behind)
or_fresh s ts None = or_recv s ts (word_first words.Recv ts)

abbrev pub or_throw : Names → List Token → Option (List Token) → Read Term
or_throw s ts (Some behind) = do
  e ← read_expression s behind
  Some (throw e.0, e.1)
or_throw s ts None = or_fresh s ts (word_first words.Fresh ts)

abbrev pub or_never : Names → List Token → Option (List Token) → Read Term
or_never s ts (Some behind) = Some (never, behind)
or_never s ts None = or_throw s ts (word_first words.Throw ts)

abbrev pub or_send : Names → List Token → Option (List Token) → Read Term
or_send s ts (Some behind) = do
  p ← read_primitive s behind
  e ← read_expression s p.1
  Some (send p.0 e.0, e.1)
or_send s ts None = or_never s ts (word_first words.Never ts)

abbrev pub or_always : Names → List Token → Option (List Token) → Read Term
or_always s ts (Some behind) = do
  e ← read_expression s behind
  Some (always e.0, e.1)
or_always s ts None = or_send s ts (word_first words.Send ts)

unfoldable pub read_leaf : Names → List Token → Read Term
read_leaf s ts = or_always s ts (word_first words.Always ts)

-- ---- events with parts

-- an event that would stand behind so many nodes keeps the limits
abbrev pub is_within : Tally → Term → Bool
is_within used t =
    nat_le (used.nodes + node_count t) most_nodes && nat_le (used.fresh + fresh_count t) most_fresh && nat_le (height t) greatest_height

unfoldable pub made : Tally → Term → List Token → Read Term
made used t ts = do
  _ ← checked (is_within used t)
  Some (t, ts)

-- what reads the parts of an event, behind so many nodes
abbrev pub Parts : Type 0
Parts = EventPlace → Names → Tally → List Token → Read Term

-- an event in braces
unfoldable pub read_braced : Parts → Names → Tally → List Token → Read Term
read_braced next s used ts = do
  inside ← sign_first signs.OpenBrace ts
  e ← next alone s used inside
  rest ← sign_first signs.CloseBrace e.1
  Some (e.0, rest)

-- a part of a `do` behind its name, and what goes on behind it
unfoldable pub read_part : Parts → Names → Tally → List ℕ → List Token → Read Term
read_part next s used n ts = do
  a ← sign_first signs.Arrow ts
  e ← next alone s used a
  b ← sign_first signs.Semicolon e.1
  more ← bound_in s n
  f ← next in_do more (tally_with_event used e.0) b
  made used (and_then e.0 (length s.inners) f.0) f.1

-- the parts of a `do` behind its word
unfoldable pub read_do : Parts → Names → Tally → List Token → Read Term
read_do next s used ts = do
  inside ← sign_first signs.OpenBrace ts
  n ← bound_first inside
  read_part next s used n.0 n.1

-- behind a bar of a `choose`, whose first event is e
unfoldable pub read_second : Parts → Names → Tally → Term → List Token → Read Term
read_second next s used e ts = do
  f ← next in_choose s (tally_with_event used e) ts
  made used (choose e f.0) f.1

unfoldable pub read_choose : Parts → Names → Tally → List Token → Read Term
read_choose next s used ts = do
  inside ← sign_first signs.OpenBrace ts
  e ← next alone s used inside
  behind ← sign_first signs.Bar e.1
  read_second next s used e.0 behind

unfoldable pub read_try : Parts → Names → Tally → List Token → Read Term
read_try next s used ts = do
  e ← read_braced next s used ts
  a ← word_first words.Catch e.1
  n ← bound_first a
  more ← bound_in s n.0
  h ← read_braced next more (tally_with_event used e.0) n.1
  made used (catch e.0 (length s.inners) h.0) h.1

abbrev pub or_less : List Token → Option (List Token) → Read Test
or_less ts (Some rest) = Some (tests.Less, rest)
or_less ts None = None

abbrev pub or_equal : List Token → Option (List Token) → Read Test
or_equal ts (Some rest) = Some (tests.Equal, rest)
or_equal ts None = or_less ts (sign_first signs.Less ts)

unfoldable pub test_first : List Token → Read Test
test_first ts = or_equal ts (sign_first signs.Equal ts)

-- the test of an `if`, and what it compares
unfoldable pub read_condition : Names → List Token → Read (Test × Primitive × Primitive)
read_condition s ts = do
  p ← read_primitive s ts
  test ← test_first p.1
  q ← read_primitive s test.1
  Some ((test.0, p.0, q.0), q.1)

unfoldable pub read_if : Parts → Names → Tally → List Token → Read Term
read_if next s used ts = do
  c ← read_condition s ts
  e ← read_braced next s used c.1
  a ← word_first words.Else e.1
  f ← read_braced next s (tally_with_event used e.0) a
  made used (when c.0.0 c.0.1 c.0.2 e.0 f.0) f.1

unfoldable pub read_one : Names → Tally → List Token → Read Term
read_one s used ts = do
  t ← read_leaf s ts
  made used t.0 t.1

abbrev pub if_or_one : Parts → Names → Tally → List Token → Option (List Token) → Read Term
if_or_one next s used ts (Some behind) = read_if next s used behind
if_or_one next s used ts None = read_one s used ts

abbrev pub try_or_other : Parts → Names → Tally → List Token → Option (List Token) → Read Term
try_or_other next s used ts (Some behind) = read_try next s used behind
try_or_other next s used ts None = if_or_one next s used ts (word_first words.If ts)

abbrev pub choose_or_other : Parts → Names → Tally → List Token → Option (List Token) → Read Term
choose_or_other next s used ts (Some behind) = read_choose next s used behind
choose_or_other next s used ts None = try_or_other next s used ts (word_first words.Try ts)

abbrev pub do_or_other : Parts → Names → Tally → List Token → Option (List Token) → Read Term
do_or_other next s used ts (Some behind) = read_do next s used behind
do_or_other next s used ts None = choose_or_other next s used ts (word_first words.Choose ts)

-- an event by itself
unfoldable pub read_alone : Parts → Names → Tally → List Token → Read Term
read_alone next s used ts = do_or_other next s used ts (word_first words.Do ts)

abbrev pub closed_off : Read Term → Read Term
closed_off o = do
  e ← o
  rest ← sign_first signs.CloseBrace e.1
  Some (e.0, rest)

-- behind a part of a `do`: one more, or the last event
abbrev pub part_or_last : Parts → Names → Tally → List Token → Read (List ℕ) → Read Term
part_or_last next s used ts (Some n) = read_part next s used n.0 n.1
part_or_last next s used ts None = closed_off (read_alone next s used ts)

unfoldable pub read_in_do : Parts → Names → Tally → List Token → Read Term
read_in_do next s used ts = part_or_last next s used ts (bound_first ts)

-- behind an event of a `choose`: a bar and more, or its end
abbrev pub bar_or_end : Parts → Names → Tally → Term → List Token → Option (List Token) → Read Term
bar_or_end next s used e ts (Some behind) = read_second next s used e behind
bar_or_end next s used e ts None = do
  rest ← sign_first signs.CloseBrace ts
  Some (e, rest)

unfoldable pub read_in_choose : Parts → Names → Tally → List Token → Read Term
read_in_choose next s used ts = do
  e ← read_alone next s used ts
  bar_or_end next s used e.0 e.1 (sign_first signs.Bar e.1)

abbrev pub read_standing : Parts → EventPlace → Names → Tally → List Token → Read Term
read_standing next alone s used ts = read_alone next s used ts
read_standing next in_do s used ts = read_in_do next s used ts
read_standing next in_choose s used ts = read_in_choose next s used ts

-- an event in at most so many layers
unfoldable pub read_event : ℕ → EventPlace → Names → Tally → List Token → Read Term
read_event zero at s used ts = None
read_event (suc layers) at s used ts = read_standing (read_event layers) at s used ts
