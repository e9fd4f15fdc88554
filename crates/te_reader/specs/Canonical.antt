-- The canonical text of a program. This is the project's own.
use Rattle.std.specs.Prelude.{ℕ, ◌-◌, ◌==◌, List, [], ◌∷◌, ◌++◌, codes, Option, Some, None, slice_get, if◌then◌else◌}
use Rattle.std.specs.List.{flat_map}
use Rattle.std.specs.Fmt.{decimal, signed_decimal}
use Rattle.te_terms.specs.declared.expr.Arith.{Arith}
use Rattle.te_terms.specs.declared.expr.Arith.TheVariants as ariths
use Rattle.te_terms.specs.declared.expr.Test.{Test}
use Rattle.te_terms.specs.declared.expr.Test.TheVariants as tests
use Rattle.te_terms.specs.Expressions.{Variable, register, name, known, Primitive, int, chan, part, Calculation, one, both, Expression, whole, tuple}
use Rattle.te_terms.specs.Terms.{Term, always, never, fresh, throw, send, recv, and_then, choose, catch, when}
use Rattle.te_script.specs.Scripts.{Statement, sync, emit, repeat, Thread, Program}
use Rattle.te_reader.specs.Grammar.{EventPlace, alone, in_do, in_choose}

-- ---- names

-- a name by its number; nothing where there is none, which no script has
abbrev pub name_or_nothing : Option (List ℕ) → List ℕ
name_or_nothing (Some n) = n
name_or_nothing None = []

abbrev pub name_at : List (List ℕ) → ℕ → List ℕ
name_at names place = name_or_nothing (slice_get names place)

-- the inner name of a level is `_` and the level in decimal
abbrev pub inner_text : ℕ → List ℕ
inner_text level = codes "_" ++ decimal level

-- the channels and the registers by number
pub record Spelling : Type 0 where
  pub channels : List (List ℕ)
  pub registers : List (List ℕ)

-- ---- expressions

abbrev pub variable_text : Spelling → Variable → List ℕ
variable_text s (register r) = name_at s.registers r
variable_text s (name level) = inner_text level
variable_text s (known v) = []

abbrev pub primitive_text : Spelling → Primitive → List ℕ
primitive_text s (int z) = signed_decimal z
primitive_text s (chan c) = name_at s.channels c
primitive_text s (part x d) = variable_text s x ++ codes "." ++ decimal d

abbrev pub arith_text : Arith → List ℕ
arith_text ariths.Add = codes " + "
arith_text ariths.Sub = codes " - "
arith_text ariths.Mul = codes " * "

abbrev pub calculation_text : Spelling → Calculation → List ℕ
calculation_text s (one p) = primitive_text s p
calculation_text s (both o p q) = primitive_text s p ++ arith_text o ++ primitive_text s q

abbrev pub further_text : Spelling → List Calculation → List ℕ
further_text s [] = []
further_text s (c ∷ cs) = codes ", " ++ calculation_text s c ++ further_text s cs

abbrev pub inside_text : Spelling → List Calculation → List ℕ
inside_text s [] = []
inside_text s (c ∷ cs) = calculation_text s c ++ further_text s cs

abbrev pub expression_text : Spelling → Expression → List ℕ
expression_text s (whole x) = variable_text s x
expression_text s (tuple cs) = codes "(" ++ inside_text s cs ++ codes ")"

-- ---- events

abbrev pub test_text : Test → List ℕ
test_text tests.Equal = codes " = "
test_text tests.Less = codes " < "

-- behind a part of a `do` further parts stand without braces of their own
abbrev pub do_open : EventPlace → List ℕ
do_open in_do = []
do_open alone = codes "do { "
do_open in_choose = codes "do { "

abbrev pub do_close : EventPlace → List ℕ
do_close in_do = []
do_close alone = codes " }"
do_close in_choose = codes " }"

-- behind a bar of a `choose` further events do
abbrev pub choose_open : EventPlace → List ℕ
choose_open in_choose = []
choose_open alone = codes "choose { "
choose_open in_do = codes "choose { "

abbrev pub choose_close : EventPlace → List ℕ
choose_close in_choose = []
choose_close alone = codes " }"
choose_close in_do = codes " }"

abbrev pub event_text : Spelling → EventPlace → Term → List ℕ
event_text s at (always e) = codes "always " ++ expression_text s e
event_text s at never = codes "never"
event_text s at fresh = codes "fresh"
event_text s at (throw e) = codes "throw " ++ expression_text s e
event_text s at (send p e) = codes "send " ++ primitive_text s p ++ codes " " ++ expression_text s e
event_text s at (recv p) = codes "recv " ++ primitive_text s p
event_text s at (and_then e level f) = do_open at ++ inner_text level ++ codes " <- " ++ event_text s alone e ++ codes "; " ++ event_text s in_do f ++ do_close at
event_text s at (choose e f) = choose_open at ++ event_text s alone e ++ codes " | " ++ event_text s in_choose f ++ choose_close at
event_text s at (catch e level h) = codes "try { " ++ event_text s alone e ++ codes " } catch " ++ inner_text level ++ codes " { " ++ event_text s alone h ++ codes " }"
event_text s at (when test p q e f) =
    codes "if " ++ primitive_text s p ++ test_text test ++ primitive_text s q ++ codes " { " ++ event_text s alone e ++ codes " } else { " ++ event_text s alone f ++ codes " }"

-- ---- statements, threads and programs

-- a line in the braces of a thread; where so many statements are still to come in those of a repeat, it stands two further in
abbrev pub indent : ℕ → List ℕ
indent left = if left == 0 then codes "  " else codes "    "

-- behind the last statement of a repeat its braces close
abbrev pub closing : ℕ → List ℕ
closing left = if left == 1 then codes "  }\n" else []

abbrev pub sync_text : Spelling → ℕ → Term → List ℕ
sync_text s r t = name_at s.registers r ++ codes " <- sync " ++ event_text s alone t ++ codes ";\n"

abbrev pub emit_text : Spelling → Expression → List ℕ
emit_text s e = codes "emit " ++ expression_text s e ++ codes ";\n"

abbrev pub line_text : Spelling → ℕ → Statement → List ℕ
line_text s left (sync r t) = indent left ++ sync_text s r t ++ closing left
line_text s left (emit e) = indent left ++ emit_text s e ++ closing left
line_text s left (repeat times count) = codes "  repeat " ++ decimal times ++ codes " {\n"

-- how many statements are still to come in the braces of a repeat
abbrev pub left_behind : ℕ → Statement → ℕ
left_behind left (sync r t) = left - 1
left_behind left (emit e) = left - 1
left_behind left (repeat times count) = count

abbrev pub lines_text : Spelling → ℕ → List Statement → List ℕ
lines_text s left [] = []
lines_text s left (x ∷ ss) = line_text s left x ++ lines_text s (left_behind left x) ss

abbrev pub thread_text : List (List ℕ) → Thread → List ℕ
thread_text channels t = codes "thread " ++ t.name ++ codes " {\n" ++ lines_text (record { channels = channels; registers = t.registers }) 0 t.statements ++ codes "}\n"

abbrev pub spaced : List ℕ → List ℕ
spaced n = codes " " ++ n

-- a program without channels has no line for them
abbrev pub channels_text : List (List ℕ) → List ℕ
channels_text [] = []
channels_text (n ∷ ns) = codes "channels" ++ flat_map spaced (n ∷ ns) ++ codes ";\n"

abbrev pub canonical_text : Program → List ℕ
canonical_text p = channels_text p.channels ++ flat_map (thread_text p.channels) p.threads
