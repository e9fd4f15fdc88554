-- Scripts as values: statements over terms whose registers are not yet replaced.
-- All of it is this project's own.
use Rattle.std.specs.Prelude.{◌≡◌, ◌≢◌, ℕ, zero, suc, ◌<◌, ◌≤◌, true, List, [], ◌∷◌, length, map, nat_lt, if◌then◌else◌}
use Rattle.std.specs.List.{AllByRecursion}
use Rattle.te_terms.specs.Values.{fits_i64}
use Rattle.te_terms.specs.Expressions.{Variable, register, name, known, Primitive, int, chan, part, Calculation, one, both, Expression, whole, tuple}
use Rattle.te_terms.specs.Terms.{Term, always, never, fresh, throw, send, recv, and_then, choose, catch, when}
use Rattle.te_terms.specs.Limits.{IsWithinLimits, most_registers, most_threads, most_atoms}
use Rattle.te_script.specs.Limits.{most_channels, most_statements, most_times}
use Rattle.te_script.specs.Names.{IsName}

-- `sync r t` writes what the event t gives to register r; `emit e` adds the value of e; `repeat times count` does the next count statements so many times
pub data Statement : Type 0 where
  sync : ℕ → Term → Statement
  emit : Expression → Statement
  repeat : ℕ → ℕ → Statement

-- a thread's name, the names of its registers by number, and its statements
pub record Thread : Type 0 where
  pub name : List ℕ
  pub registers : List (List ℕ)
  pub statements : List Statement

-- the names of the channels by number, and the threads
pub record Program : Type 0 where
  pub channels : List (List ℕ)
  pub threads : List Thread

-- ---- what can be spelled: integers of 64 bits, names in scope, places 0 to 3, channels declared, at most 4 calculations

-- how many registers have been written, how many inner names are in scope, and how many channels there are
pub record Scope : Type 0 where
  pub written : ℕ
  pub level : ℕ
  pub channels : ℕ

abbrev pub one_deeper : Scope → Scope
one_deeper s = record s { level = suc s.level }

abbrev pub IsVariable : Scope → Variable → Type 0
IsVariable s (register r) = r < s.written
IsVariable s (name n) = n < s.level
IsVariable s (known v) = ⊥

abbrev pub IsPrimitive : Scope → Primitive → Type 0
IsPrimitive s (int z) = fits_i64 z ≡ true
IsPrimitive s (chan c) = c < s.channels
IsPrimitive s (part x d) = IsVariable s x × (d < most_atoms)

abbrev pub IsCalculation : Scope → Calculation → Type 0
IsCalculation s (one p) = IsPrimitive s p
IsCalculation s (both o p q) = IsPrimitive s p × IsPrimitive s q

abbrev pub IsExpression : Scope → Expression → Type 0
IsExpression s (whole x) = IsVariable s x
IsExpression s (tuple cs) = AllByRecursion (IsCalculation s) cs × (length cs ≤ most_atoms)

abbrev pub IsEvent : Scope → Term → Type 0
IsEvent s (always e) = IsExpression s e
IsEvent s never = Unit {0}
IsEvent s fresh = Unit {0}
IsEvent s (throw e) = IsExpression s e
IsEvent s (send p e) = IsPrimitive s p × IsExpression s e
IsEvent s (recv p) = IsPrimitive s p
IsEvent s (and_then e n f) = (n ≡ s.level) × IsEvent s e × IsEvent (one_deeper s) f
IsEvent s (choose e f) = IsEvent s e × IsEvent s f
IsEvent s (catch e n h) = (n ≡ s.level) × IsEvent s e × IsEvent (one_deeper s) h
IsEvent s (when test p q e f) = IsPrimitive s p × IsPrimitive s q × IsEvent s e × IsEvent s f

-- ---- threads and programs

-- how many registers have been written once register r is
abbrev pub with_register : ℕ → ℕ → ℕ
with_register written r = if nat_lt r written then written else suc r

-- the first so many statements are there, and are syncs
abbrev pub AreSyncs : ℕ → List Statement → Type 0
AreSyncs zero ss = Unit {0}
AreSyncs (suc count) [] = ⊥
AreSyncs (suc count) (sync r t ∷ ss) = AreSyncs count ss
AreSyncs (suc count) (emit e ∷ ss) = ⊥
AreSyncs (suc count) (repeat times more ∷ ss) = ⊥

-- a repeat of the statements behind it, which are syncs
pub record IsRepeat (times count : ℕ) (behind : List Statement) : Type 0 where
  pub some_times : 0 < times
  pub most : times ≤ most_times
  pub some : 0 < count
  pub body : AreSyncs count behind

-- registers are numbered in the order of their first writing, and each is read only after it was written
abbrev pub AreStatements : ℕ → ℕ → ℕ → List Statement → Type 0
AreStatements channels registers written [] = written ≡ registers
AreStatements channels registers written (sync r t ∷ rest) =
    (r ≤ written) × IsEvent (record { written = written; level = 0; channels = channels }) t × IsWithinLimits t
    × AreStatements channels registers (with_register written r) rest
AreStatements channels registers written (emit e ∷ rest) =
    IsExpression (record { written = written; level = 0; channels = channels }) e × AreStatements channels registers written rest
AreStatements channels registers written (repeat times count ∷ rest) = IsRepeat times count rest × AreStatements channels registers written rest

-- no two are equal
abbrev pub AreDistinct : List (List ℕ) → Type 0
AreDistinct [] = Unit {0}
AreDistinct (x ∷ xs) = AllByRecursion (λ y. x ≢ y) xs × AreDistinct xs

-- what a thread keeps by itself, with this many channels
pub record IsThread (channels : ℕ) (t : Thread) : Type 0 where
  pub registers : length t.registers ≤ most_registers
  pub distinct : AreDistinct t.registers
  pub statements : length t.statements ≤ most_statements
  pub in_order : AreStatements channels (length t.registers) 0 t.statements

abbrev pub thread_names : List Thread → List (List ℕ)
thread_names ts = map (λ t. t.name) ts

-- a register has no channel's name
abbrev pub AreApart : List (List ℕ) → List (List ℕ) → Type 0
AreApart xs ys = AllByRecursion (λ x. AllByRecursion (λ y. x ≢ y) ys) xs

pub record IsProgram (p : Program) : Type 0 where
  pub channels : length p.channels ≤ most_channels
  pub channel_names : AreDistinct p.channels
  pub some_thread : 0 < length p.threads
  pub threads : length p.threads ≤ most_threads
  pub names : AreDistinct (thread_names p.threads)
  pub each : AllByRecursion (IsThread (length p.channels)) p.threads
  pub apart : AllByRecursion (λ t. AreApart t.registers p.channels) p.threads

-- ---- what a script keeps

pub record HasNames (t : Thread) : Type 0 where
  pub name : IsName t.name
  pub registers : AllByRecursion IsName t.registers

-- a program that can be spelled
pub record IsScript (p : Program) : Type 0 where
  pub program : IsProgram p
  pub channels : AllByRecursion IsName p.channels
  pub threads : AllByRecursion HasNames p.threads
