-- The fault of a text, as a function that goes on token by token. Contracts inside this crate cite it.
use Rattle.std.specs.Prelude.{ℕ, Bool, true, false, nat_le, List, [], ◌∷◌, ◌++◌, length, ℤ, pos, negsuc, Option, Some, None}
use Rattle.std.specs.Option.{option_map}
use Rattle.te_reader.specs.declared.token.Word.{Word}
use Rattle.te_reader.specs.declared.token.Word.TheVariants as words
use Rattle.te_reader.specs.declared.token.Sign.{Sign}
use Rattle.te_reader.specs.declared.token.Sign.TheVariants as signs
use Rattle.te_reader.specs.declared.cause.Which.TheVariants as limits
use Rattle.te_reader.specs.declared.cause.Cause.{Cause}
use Rattle.te_reader.specs.declared.cause.Cause.TheVariants as causes
use Rattle.te_reader.specs.declared.part.Role.{Role}
use Rattle.te_reader.specs.declared.part.Role.TheVariants as roles
use Rattle.te_reader.specs.declared.part.Part.{Part}
use Rattle.te_reader.specs.declared.part.Part.TheVariants as parts
use Rattle.te_reader.specs.Tokens.{word, name, inner, integer, sign}
use Rattle.te_reader.specs.Integers.{integer_value}
use Rattle.te_reader.specs.Heads.{word_number, sign_number}
use Rattle.te_reader.specs.Spots.{Spot, Head, token, over, spots}
use Rattle.te_reader.specs.Forms.{Form, form, then_also, bound_event, sync_behind, place_of_it}
use Rattle.te_reader.specs.Rules.{Context, nothing_before, rules, first_broken, context_after}
use Rattle.te_reader.specs.Faults.{misfit}
use Rattle.std.specs.Prelude.{◌==◌}

-- ---- the form of a part that a token begins

abbrev pub threads_form : Head → Option Form
threads_form (token (word words.Thread)) = Some (form roles.ThreadWord (parts.Only roles.ThreadName ∷ parts.Only (roles.Sign signs.OpenBrace) ∷ parts.Statements ∷ parts.Threads ∷ []))
threads_form over = Some (form roles.End [])
threads_form _ = None

abbrev pub script_form : Head → Option Form
script_form (token (word words.Channels)) = Some (form (roles.Word words.Channels) (parts.Only roles.ChannelName ∷ parts.Channels ∷ parts.Threads ∷ []))
script_form h = threads_form h

abbrev pub channels_form : Head → Option Form
channels_form (token (name n)) = Some (form roles.ChannelName (parts.Channels ∷ []))
channels_form (token (sign signs.Semicolon)) = Some (form (roles.Sign signs.Semicolon) [])
channels_form _ = None

abbrev pub statements_form : Head → Option Form
statements_form (token (name n)) = Some (form roles.Register (sync_behind (parts.Statements ∷ [])))
statements_form (token (word words.Emit)) = Some (form roles.EmitWord (parts.Expression ∷ parts.Only (roles.Sign signs.Semicolon) ∷ parts.Statements ∷ []))
statements_form (token (word words.Repeat)) = Some (form roles.RepeatWord (parts.Only roles.Times ∷ parts.Only (roles.Sign signs.OpenBrace) ∷ parts.Sync ∷ parts.Syncs ∷ parts.Statements ∷ []))
statements_form (token (sign signs.CloseBrace)) = Some (form (roles.Sign signs.CloseBrace) [])
statements_form _ = None

-- a sync of a repeat
abbrev pub sync_form : Head → Option Form
sync_form (token (name n)) = Some (form roles.Register (sync_behind []))
sync_form _ = None

-- a further one, or the brace of the repeat
abbrev pub syncs_form : Head → Option Form
syncs_form (token (name n)) = Some (form roles.Register (sync_behind (parts.Syncs ∷ [])))
syncs_form (token (sign signs.CloseBrace)) = Some (form (roles.Sign signs.CloseBrace) [])
syncs_form _ = None

abbrev pub event_form : Head → Option Form
event_form (token (word words.Always)) = Some (form (roles.Leaf words.Always) (parts.Expression ∷ []))
event_form (token (word words.Never)) = Some (form (roles.Leaf words.Never) [])
event_form (token (word words.Throw)) = Some (form (roles.Leaf words.Throw) (parts.Expression ∷ []))
event_form (token (word words.Send)) = Some (form (roles.Leaf words.Send) (parts.Operand ∷ parts.Expression ∷ []))
event_form (token (word words.Recv)) = Some (form (roles.Leaf words.Recv) (parts.Operand ∷ []))
event_form (token (word words.Do)) = Some (form (roles.Chain words.Do) (parts.Only roles.OpenChain ∷ parts.Only roles.PartName ∷ bound_event (parts.Parts ∷ [])))
event_form (token (word words.Choose)) = Some (form (roles.Chain words.Choose) (parts.Only roles.OpenChain ∷ parts.Event ∷ parts.Only roles.Bar ∷ parts.Event ∷ parts.Bars ∷ []))
event_form (token (word words.Fresh)) = Some (form roles.Fresh [])
event_form (token (word words.Try)) =
    Some
    (form (roles.Branch words.Try)
    (parts.Only roles.OpenBranch ∷ parts.Event ∷ parts.Only roles.Close ∷ parts.Only (roles.Word words.Catch)
    ∷ parts.Only roles.CatchName ∷ parts.Only (roles.Sign signs.OpenBrace) ∷ parts.Event ∷ parts.Only roles.Close ∷ []))
event_form (token (word words.If)) =
    Some
    (form (roles.Branch words.If)
    (parts.Operand ∷ parts.Test ∷ parts.Operand ∷ parts.Only roles.OpenBranch ∷ parts.Event ∷ parts.Only roles.Close
    ∷ parts.Only (roles.Word words.Else) ∷ parts.Only roles.OpenBranch ∷ parts.Event ∷ parts.Only roles.Close ∷ []))
event_form _ = None

-- a part of a `do`
abbrev pub part_form : Head → Option Form
part_form (token (name n)) = Some (form roles.PartName (bound_event (parts.Parts ∷ [])))
part_form (token (inner n)) = Some (form roles.PartName (bound_event (parts.Parts ∷ [])))
part_form _ = None

-- a part, or the last event and the closing brace
abbrev pub parts_form : Head → Option Form
parts_form (token (name n)) = Some (form roles.PartName (bound_event (parts.Parts ∷ [])))
parts_form (token (inner n)) = Some (form roles.PartName (bound_event (parts.Parts ∷ [])))
parts_form h = option_map (then_also (parts.Only roles.Close)) (event_form h)

abbrev pub bars_form : Head → Option Form
bars_form (token (sign signs.Bar)) = Some (form roles.Bar (parts.Event ∷ parts.Bars ∷ []))
bars_form (token (sign signs.CloseBrace)) = Some (form roles.Close [])
bars_form _ = None

abbrev pub expression_form : Head → Option Form
expression_form (token (name n)) = Some (form roles.Whole [])
expression_form (token (inner n)) = Some (form roles.Whole [])
expression_form (token (sign signs.Open)) = Some (form (roles.Sign signs.Open) (parts.Inside ∷ []))
expression_form _ = None

-- a name in the place of an operand, with a `.` behind it or not
abbrev pub named_form : Bool → Bool → List Part → Form
named_form first true more = form (roles.Variable first) (place_of_it more)
named_form first false more = form (roles.Channel first) more

abbrev pub operand_form : Bool → List Part → Head → Bool → Option Form
operand_form first more (token (integer n)) dotted = Some (form (roles.Integer first) more)
operand_form first more (token (name n)) dotted = Some (named_form first dotted more)
operand_form first more (token (inner n)) dotted = Some (form (roles.Variable first) (place_of_it more))
operand_form first more _ dotted = None

abbrev pub further_form : Head → Option Form
further_form (token (sign signs.Comma)) = Some (form (roles.Sign signs.Comma) (parts.Calculation ∷ []))
further_form (token (sign signs.Close)) = Some (form roles.TupleEnd [])
further_form _ = None

abbrev pub behind_form : Head → Option Form
behind_form (token (sign signs.Plus)) = Some (form (roles.Sign signs.Plus) (parts.Operand ∷ parts.Further ∷ []))
behind_form (token (sign signs.Minus)) = Some (form (roles.Sign signs.Minus) (parts.Operand ∷ parts.Further ∷ []))
behind_form (token (sign signs.Star)) = Some (form (roles.Sign signs.Star) (parts.Operand ∷ parts.Further ∷ []))
behind_form h = further_form h

abbrev pub inside_form : Head → Bool → Option Form
inside_form (token (sign signs.Close)) dotted = Some (form roles.TupleEnd [])
inside_form h dotted = operand_form true (parts.Behind ∷ []) h dotted

abbrev pub test_form : Head → Option Form
test_form (token (sign signs.Equal)) = Some (form (roles.Sign signs.Equal) [])
test_form (token (sign signs.Less)) = Some (form (roles.Sign signs.Less) [])
test_form _ = None

-- ---- tokens that stand alone

abbrev pub is_word : Word → Head → Bool
is_word w (token (word v)) = word_number w == word_number v
is_word w _ = false

abbrev pub is_sign : Sign → Head → Bool
is_sign g (token (sign v)) = sign_number g == sign_number v
is_sign g _ = false

abbrev pub is_name : Head → Bool
is_name (token (name n)) = true
is_name _ = false

abbrev pub is_bound : Head → Bool
is_bound (token (name n)) = true
is_bound (token (inner n)) = true
is_bound _ = false

abbrev pub is_integer : Head → Bool
is_integer (token (integer n)) = true
is_integer _ = false

abbrev pub is_small : ℤ → Bool
is_small (pos d) = nat_le d 3
is_small (negsuc n) = false

abbrev pub is_place : Head → Bool
is_place (token (integer n)) = is_small (integer_value n)
is_place _ = false

abbrev pub is_variable_first : Head → Bool → Bool
is_variable_first (token (name n)) dotted = dotted
is_variable_first (token (inner n)) dotted = true
is_variable_first _ dotted = false

abbrev pub is_channel_first : Head → Bool → Bool
is_channel_first (token (name n)) true = false
is_channel_first (token (name n)) false = true
is_channel_first _ dotted = false

abbrev pub is_over : Head → Bool
is_over over = true
is_over _ = false

-- whether a token may have a role
abbrev pub fits : Role → Head → Bool → Bool
fits (roles.Word w) h dotted = is_word w h
fits (roles.Sign g) h dotted = is_sign g h
fits roles.ChannelName h dotted = is_name h
fits roles.ThreadWord h dotted = is_word words.Thread h
fits roles.ThreadName h dotted = is_name h
fits roles.Register h dotted = is_name h
fits roles.EmitWord h dotted = is_word words.Emit h
fits roles.RepeatWord h dotted = is_word words.Repeat h
fits roles.Times h dotted = is_integer h
fits roles.SyncWord h dotted = is_word words.Sync h
fits roles.SyncEnd h dotted = is_sign signs.Semicolon h
fits (roles.Leaf w) h dotted = is_word w h
fits roles.Fresh h dotted = is_word words.Fresh h
fits (roles.Chain w) h dotted = is_word w h
fits (roles.Branch w) h dotted = is_word w h
fits roles.OpenChain h dotted = is_sign signs.OpenBrace h
fits roles.OpenBranch h dotted = is_sign signs.OpenBrace h
fits roles.Close h dotted = is_sign signs.CloseBrace h
fits roles.Bar h dotted = is_sign signs.Bar h
fits roles.PartName h dotted = is_bound h
fits roles.PartEnd h dotted = is_sign signs.Semicolon h
fits roles.CatchName h dotted = is_bound h
fits roles.Whole h dotted = is_bound h
fits (roles.Integer first) h dotted = is_integer h
fits (roles.Channel first) h dotted = is_channel_first h dotted
fits (roles.Variable first) h dotted = is_variable_first h dotted
fits roles.Place h dotted = is_place h
fits roles.TupleEnd h dotted = is_sign signs.Close h
fits roles.End h dotted = is_over h

abbrev pub alone_form : Role → Bool → Option Form
alone_form r true = Some (form r [])
alone_form r false = None

-- but for the last event behind the parts of a `do`
unfoldable pub pick_plain : Part → Head → Bool → Option Form
pick_plain parts.Script h dotted = script_form h
pick_plain parts.Channels h dotted = channels_form h
pick_plain parts.Threads h dotted = threads_form h
pick_plain parts.Statements h dotted = statements_form h
pick_plain parts.Sync h dotted = sync_form h
pick_plain parts.Syncs h dotted = syncs_form h
pick_plain parts.Event h dotted = event_form h
pick_plain parts.Parts h dotted = part_form h
pick_plain parts.Bars h dotted = bars_form h
pick_plain parts.Expression h dotted = expression_form h
pick_plain parts.Inside h dotted = inside_form h dotted
pick_plain parts.Calculation h dotted = operand_form true (parts.Behind ∷ []) h dotted
pick_plain parts.Behind h dotted = behind_form h
pick_plain parts.Further h dotted = further_form h
pick_plain parts.Operand h dotted = operand_form false [] h dotted
pick_plain parts.Test h dotted = test_form h
pick_plain (parts.Only r) h dotted = alone_form r (fits r h dotted)

unfoldable pub pick : Part → Head → Bool → Option Form
pick parts.Parts h dotted = parts_form h
pick p h dotted = pick_plain p h dotted

-- ---- from token to token

-- a fault, and how many bytes are left from there on
pub record Found : Type 0 where
  pub cause : Cause
  pub left : ℕ

abbrev pub found : Cause → ℕ → Found
found k at = record { cause = k; left = at }

abbrev pub broken_or : Option Found → ℕ → Option Cause → Option Found
broken_or later at None = later
broken_or later at (Some k) = Some (found k at)

-- the fault at a token that has a form, or what is found behind it
abbrev pub next_found : (List Part → Context → Option Found) → List Part → Context → Spot → Option Form → Option Found
next_found later more c s None = Some (found (misfit s.head) s.left)
next_found later more c s (Some f) = broken_or (later (f.wanted ++ more) (context_after f.role c s.head)) s.left (first_broken (rules f.role c s.head))

-- the fault of these spots where these parts are wanted, or none
unfoldable pub run : List Part → Context → List Spot → Option Found
run [] c [] = None
run [] c (s ∷ ss) = Some (found (misfit s.head) s.left)
run (p ∷ more) c [] = None
run (p ∷ more) c (s ∷ ss) = next_found (λ wanted next. run wanted next ss) more c s (pick p s.head s.dotted)

-- a script has at most 1,048,576 bytes
abbrev pub found_if : Bool → ℕ → Option Found → Option Found
found_if true size later = later
found_if false size later = Some (found (causes.Limit limits.Bytes) size)

-- the fault of a text, or none
unfoldable pub fault_of : List ℕ → Option Found
fault_of bytes = found_if (nat_le (length bytes) 1048576) (length bytes) (run (parts.Script ∷ []) nothing_before (spots bytes))
