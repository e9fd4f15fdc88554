-- The rules of a script: what is asked of a token by its role and by what stands before it, and what the token changes for
-- those behind it. It is this project's own.
use Rattle.std.specs.Prelude.{ℕ, suc, Bool, true, false, not, nat_lt, nat_le, ◌&&◌, ◌||◌, List, [], ◌∷◌, ◌++◌, length, take, max, ℤ, pos, negsuc, Option, Some, None, if◌then◌else◌}
use Rattle.std.specs.Str.{bytes_eq}
use Rattle.te_terms.specs.Values.{fits_i64}
use Rattle.te_reader.specs.declared.cause.Which.TheVariants as limits
use Rattle.te_reader.specs.declared.cause.Cause.{Cause}
use Rattle.te_reader.specs.declared.cause.Cause.TheVariants as causes
use Rattle.te_reader.specs.declared.brace.Brace.{Brace}
use Rattle.te_reader.specs.declared.part.Role.{Role}
use Rattle.te_reader.specs.declared.part.Role.TheVariants as roles
use Rattle.te_reader.specs.Tokens as tokens
use Rattle.te_reader.specs.Integers.{integer_value}
use Rattle.te_reader.specs.Spots.{Head, token}

-- ---- what stands before a token

-- the names declared so far; of the thread at hand its registers, its number of statements and the register that the sync at
-- hand writes; of the event at hand the inner names in scope, the names that parts of a `do` at hand bind, the innermost first,
-- the open braces of events, the innermost first, the number of nodes and that of fresh channels; and how many calculations of
-- the tuple at hand have begun
pub record Context : Type 0 where
  pub channels : List (List ℕ)
  pub threads : List (List ℕ)
  pub registers : List (List ℕ)
  pub statements : ℕ
  pub written : List ℕ
  pub inners : List (List ℕ)
  pub bound : List (List ℕ)
  pub braces : List Brace
  pub nodes : ℕ
  pub fresh : ℕ
  pub calculations : ℕ

abbrev pub nothing_before : Context
nothing_before =
    record { channels = []; threads = []; registers = []; statements = 0; written = []; inners = []; bound = []; braces = []; nodes = 0; fresh = 0; calculations = 0 }

-- the text depth of an event that begins here
abbrev pub text_depth : Context → ℕ
text_depth c = length c.braces

-- the sync's event itself stands in no brace of the text
abbrev pub whole_event : Brace
whole_event = record { outer = 0; level = 1; deepest = 0; settled = 0 }

abbrev pub innermost : List Brace → Brace
innermost [] = whole_event
innermost (b ∷ bs) = b

abbrev pub change_innermost : (Brace → Brace) → List Brace → List Brace
change_innermost f [] = []
change_innermost f (b ∷ bs) = f b ∷ bs

abbrev pub in_innermost : (Brace → Brace) → Context → Context
in_innermost f c = record c { braces = change_innermost f c.braces }

-- how deep the deepest event in a brace stands
abbrev pub depth_within : Brace → ℕ
depth_within b = max b.settled b.deepest

-- ---- rules

unfoldable pub is_among : List ℕ → List (List ℕ) → Bool
is_among n [] = false
is_among n (x ∷ xs) = bytes_eq x n || is_among n xs

-- the bytes of a name or an integer
abbrev pub head_spelled : Head → List ℕ
head_spelled (token (tokens.name n)) = n
head_spelled (token (tokens.inner n)) = n
head_spelled (token (tokens.integer n)) = n
head_spelled _ = []

-- whether a rule is broken, and what the fault is then
pub record Check : Type 0 where
  pub broken : Bool
  pub cause : Cause

abbrev pub check : Bool → Cause → Check
check b k = record { broken = b; cause = k }

abbrev pub too_long : List ℕ → Check
too_long n = check (nat_lt 32 (length n)) (causes.Limit limits.Name)

abbrev pub too_many_statements : Context → Check
too_many_statements c = check (nat_le 1024 c.statements) (causes.Limit limits.Statements)

-- a register or an inner name in scope; a spelling that begins with `_` is never a register's
abbrev pub is_variable : Context → Head → Bool
is_variable c (token (tokens.name n)) = is_among n c.registers || is_among n c.inners
is_variable c (token (tokens.inner n)) = is_among n c.inners
is_variable c _ = false

-- an inner name differs from every channel and from what is in scope
abbrev pub may_not_be_bound : Context → List ℕ → Bool
may_not_be_bound c n = is_among n c.channels || is_among n c.registers || is_among n c.inners

-- the first token of the fifth calculation of a tuple
abbrev pub fifth : Bool → Context → Check
fifth first c = check (first && nat_le 4 c.calculations) (causes.Limit limits.Atoms)

-- how often a repeat may be done
abbrev pub is_count : ℤ → Bool
is_count (pos n) = nat_le 1 n && nat_le n 10000
is_count (negsuc n) = false

-- an event that begins too deep
abbrev pub too_deep : Context → Check
too_deep c = check (nat_lt 32 (text_depth c)) (causes.Limit limits.Depth)

-- the rules that are asked of a token, those of a lower number first, and limits in the order of their names, but the depth of an event before its nodes
abbrev pub rules : Role → Context → Head → List Check
rules roles.ChannelName c h =
    check (is_among (head_spelled h) c.channels) causes.Twice
    ∷ too_long (head_spelled h)
    ∷ check (nat_le 256 (length c.channels)) (causes.Limit limits.Channels) ∷ []
rules roles.ThreadWord c h = check (nat_le 64 (length c.threads)) (causes.Limit limits.Threads) ∷ []
rules roles.ThreadName c h = check (is_among (head_spelled h) c.threads) causes.Twice ∷ too_long (head_spelled h) ∷ []
rules roles.Register c h =
    check (is_among (head_spelled h) c.channels) causes.Shadow
    ∷ too_long (head_spelled h)
    ∷ too_many_statements c
    ∷ check (not (is_among (head_spelled h) c.registers) && nat_le 8 (length c.registers)) (causes.Limit limits.Registers) ∷ []
rules roles.EmitWord c h = too_many_statements c ∷ []
rules roles.RepeatWord c h = too_many_statements c ∷ []
rules roles.Times c h =
    check (not (fits_i64 (integer_value (head_spelled h)))) causes.Integer ∷ check (not (is_count (integer_value (head_spelled h)))) (causes.Limit limits.Repeat) ∷ []
rules (roles.Leaf w) c h = too_deep c ∷ []
rules roles.Fresh c h = too_deep c ∷ check (nat_le 16 c.fresh) (causes.Limit limits.Fresh) ∷ []
rules (roles.Chain w) c h = too_deep c ∷ []
rules (roles.Branch w) c h = too_deep c ∷ []
rules roles.SyncEnd c h =
    check (nat_lt 32 (depth_within (innermost c.braces))) (causes.Limit limits.Depth)
    ∷ check (nat_lt 4096 c.nodes) (causes.Limit limits.Nodes) ∷ []
rules roles.PartName c h = check (may_not_be_bound c (head_spelled h)) causes.Shadow ∷ too_long (head_spelled h) ∷ []
rules roles.CatchName c h = check (may_not_be_bound c (head_spelled h)) causes.Shadow ∷ too_long (head_spelled h) ∷ []
rules roles.Whole c h = check (not (is_variable c h)) causes.Unbound ∷ []
rules (roles.Integer first) c h = check (not (fits_i64 (integer_value (head_spelled h)))) causes.Integer ∷ fifth first c ∷ []
rules (roles.Channel first) c h = check (not (is_among (head_spelled h) c.channels)) causes.Unbound ∷ fifth first c ∷ []
rules (roles.Variable first) c h = check (not (is_variable c h)) causes.Unbound ∷ fifth first c ∷ []
rules roles.End c h = check (nat_le (length c.threads) 0) causes.NoThread ∷ []
rules _ c h = []

-- the first rule that is broken
abbrev pub first_broken : List Check → Option Cause
first_broken [] = None
first_broken (k ∷ ks) = if k.broken then Some k.cause else first_broken ks

-- ---- what a token changes

abbrev pub with_node : Context → Context
with_node c = record c { nodes = suc c.nodes }

abbrev pub with_channel : Context → Context
with_channel c = record c { nodes = suc c.nodes; fresh = suc c.fresh }

abbrev pub with_statement : Context → Context
with_statement c = record c { statements = suc c.statements }

-- a brace in which events stand so deep
abbrev pub opened : ℕ → Context → Context
opened level c =
    record c { braces = record { outer = length c.inners; level = level; deepest = 0; settled = 0 } ∷ c.braces }

abbrev pub this_level : Context → ℕ
this_level c = (innermost c.braces).level

abbrev pub with_named_register : List (List ℕ) → List ℕ → List (List ℕ)
with_named_register registers n = if is_among n registers then registers else registers ++ n ∷ []

-- an event reaches so deep
abbrev pub reaching : ℕ → Brace → Brace
reaching depth b = record b { deepest = max b.deepest depth }

-- behind a bar an event stands one deeper than it would without, and so do those before it, since the bar before
abbrev pub behind_bar : Brace → Brace
behind_bar b = record b { level = suc b.level; deepest = 0; settled = max b.settled (suc b.deepest) }

-- behind a name that a part binds, too
abbrev pub behind_name : Brace → Brace
behind_name b = record b { level = suc b.level }

-- the name that the innermost part binds comes in scope
abbrev pub in_scope : List (List ℕ) → Context → Context
in_scope [] c = c
in_scope (n ∷ ns) c = record c { inners = c.inners ++ n ∷ []; bound = ns }

abbrev pub closed_brace : List Brace → Context → Context
closed_brace [] c = c
closed_brace (b ∷ bs) c = record c { inners = take b.outer c.inners; braces = change_innermost (reaching (depth_within b)) bs }

abbrev pub begun : Bool → Context → Context
begun true c = record c { calculations = suc c.calculations }
begun false c = c

-- behind a token in its role
abbrev pub context_after : Role → Context → Head → Context
context_after roles.ChannelName c h = record c { channels = c.channels ++ head_spelled h ∷ [] }
context_after roles.ThreadWord c h = record c { registers = []; statements = 0 }
context_after roles.ThreadName c h = record c { threads = c.threads ++ head_spelled h ∷ [] }
context_after roles.Register c h = with_statement (record c { written = head_spelled h })
context_after roles.EmitWord c h = with_statement c
context_after roles.RepeatWord c h = with_statement c
context_after roles.SyncWord c h = record c { braces = whole_event ∷ []; nodes = 0; fresh = 0 }
context_after roles.SyncEnd c h = record c { braces = []; registers = with_named_register c.registers c.written }
context_after (roles.Leaf w) c h = with_node (in_innermost (reaching (this_level c)) c)
context_after roles.Fresh c h = with_channel (in_innermost (reaching (this_level c)) c)
context_after (roles.Branch w) c h = with_node c
context_after roles.OpenChain c h = opened (this_level c) c
context_after roles.OpenBranch c h = opened (suc (this_level c)) c
context_after roles.Close c h = closed_brace c.braces c
context_after roles.Bar c h = with_node (in_innermost behind_bar c)
context_after roles.PartName c h = with_node (in_innermost behind_name (record c { bound = head_spelled h ∷ c.bound }))
context_after roles.PartEnd c h = in_scope c.bound c
context_after roles.CatchName c h = record (opened (suc (this_level c)) c) { inners = c.inners ++ head_spelled h ∷ [] }
context_after (roles.Integer first) c h = begun first c
context_after (roles.Channel first) c h = begun first c
context_after (roles.Variable first) c h = begun first c
context_after roles.TupleEnd c h = record c { calculations = 0 }
context_after _ c h = c
