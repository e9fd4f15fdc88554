-- What a form is read by, and the last posts of a history. No public clause cites this module.
use Rattle.std.specs.Prelude.{ℕ, zero, suc, Bool, true, false, ◌==◌, ◌&&◌, List, [], ◌∷◌, length, Option, Some, None, is_some, map, slice_get, slice_index, if◌then◌else◌}
use Rattle.std.specs.Option.{option_map, option_and_then}
use Rattle.te_terms.specs.declared.value.Atom.{Atom}
use Rattle.te_terms.specs.declared.code.Node.{Node}
use Rattle.te_terms.specs.Expressions.{name, known, Primitive, chan, Expression, whole}
use Rattle.te_terms.specs.Terms.{Term, always, send, recv, and_then, replaced, registers_to}
use Rattle.te_terms.specs.Codes.{term_at}
use Rattle.te_cert.specs.declared.cert.Member.{Member}
use Rattle.te_cert.specs.declared.cert.Meeting.{Meeting}
use Rattle.te_history.specs.declared.entry.Entry.{Entry}
use Rattle.te_history.specs.declared.entry.Entry.TheVariants.{Post}
use Rattle.te_forms.specs.declared.form.Form.{Form}
use Rattle.te_forms.specs.declared.form.Form.TheVariants.{Swap, Barrier}
use Rattle.te_forms.specs.declared.reading.Sent.{Sent}
use Rattle.te_forms.specs.declared.pair.Handed.{Handed}
use Rattle.te_forms.specs.Rings.{role_before}
use Rattle.te_forms.specs.Privacy.{FitsRing}

-- ---- nodes

-- the term under a node, which stands at this level, with its registers replaced
abbrev pub replaced_under : List Node → List (List Atom) → ℕ → ℕ → Term
replaced_under code regs level i = replaced (registers_to regs) (term_at code level i)

abbrev pub both_under : List Node → List (List Atom) → ℕ → ℕ × ℕ → Term × Term
both_under code regs level p = (replaced_under code regs level p.0, replaced_under code regs (suc level) p.1)

-- ---- parts of terms

-- the parts of a `then` that stands at this level
abbrev pub parts_at : ℕ → Term → Option (Term × Term)
parts_at level (and_then e n f) = if n == level then Some (e, f) else None
parts_at level _ = None

abbrev pub channel_named : Primitive → Option ℕ
channel_named (chan c) = Some c
channel_named _ = None

abbrev pub constant : Expression → Option (List Atom)
constant (whole (known v)) = Some v
constant _ = None

abbrev pub sent_so : Option ℕ → Option (List Atom) → Option Sent
sent_so (Some c) (Some v) = Some (record { channel = c; value = v })
sent_so _ _ = None

-- what is sent, where channel and value are constants
abbrev pub sent_by : Term → Option Sent
sent_by (send p e) = sent_so (channel_named p) (constant e)
sent_by _ = None

abbrev pub received_by : Term → Option ℕ
received_by (recv p) = channel_named p
received_by _ = None

-- a form ends with the inner name 0, or with ()
abbrev pub gives_name : Term → Bool
gives_name (always (whole (name n))) = n == 0
gives_name _ = false

abbrev pub is_unit : Option (List Atom) → Bool
is_unit (Some v) = length v == 0
is_unit None = false

abbrev pub gives_unit : Term → Bool
gives_unit (always e) = is_unit (constant e)
gives_unit _ = false

-- ---- forms

abbrev pub form_if : Bool → Form → Option Form
form_if true f = Some f
form_if false f = None

abbrev pub is_on : Option ℕ → ℕ → Bool
is_on None c = false
is_on (Some d) c = d == c

-- the role that sends on the channel
abbrev pub role_on : List ℕ → ℕ → Option ℕ
role_on [] c = None
role_on (d ∷ ds) c = if d == c then Some 0 else option_map suc (role_on ds c)

abbrev pub last_channel : List ℕ → ℕ
last_channel ring = slice_index ring (role_before (length ring) zero)

-- role 0, which has sent first: in a barrier, and in either
abbrev pub waits_first : List ℕ → Sent → Option (Term × Term) → Option Form
waits_first ring s None = None
waits_first ring s (Some p) = form_if (is_on (received_by p.0) (last_channel ring) && ((length s.value == 0) && gives_unit p.1)) (Barrier 0)

abbrev pub form_after_sending : List ℕ → Sent → Option ℕ → Option (Term × Term) → Option Form
form_after_sending ring s (Some c) rest = form_if (c == last_channel ring) (Swap 0 s.value)
form_after_sending ring s None rest = waits_first ring s rest

abbrev pub sends_first : List ℕ → Term → Sent → Option Form
sends_first ring rest s = if s.channel == slice_index ring 0 then form_after_sending ring s (received_by rest) (parts_at 1 rest) else None

-- another role, which has received on a channel first
abbrev pub by_end : ℕ → List Atom → Term → Option Form
by_end role v end = if gives_name end then Some (Swap role v) else form_if ((length v == 0) && gives_unit end) (Barrier role)

abbrev pub by_role : List ℕ → ℕ → List Atom → Term → Option ℕ → Option Form
by_role ring c v end None = None
by_role ring c v end (Some zero) = None
by_role ring c v end (Some (suc i)) = if slice_index ring i == c then by_end (suc i) v end else None

abbrev pub by_sent : List ℕ → ℕ → Term → Option Sent → Option Form
by_sent ring c end None = None
by_sent ring c end (Some s) = by_role ring c s.value end (role_on ring s.channel)

abbrev pub receives_first : List ℕ → ℕ → Option (Term × Term) → Option Form
receives_first ring c None = None
receives_first ring c (Some p) = by_sent ring c p.1 (sent_by p.0)

abbrev pub by_first : List ℕ → Term → Option Sent → Option ℕ → Option Form
by_first ring rest (Some s) c = sends_first ring rest s
by_first ring rest None (Some c) = receives_first ring c (parts_at 1 rest)
by_first ring rest None None = None

abbrev pub by_parts : List ℕ → Option (Term × Term) → Option Form
by_parts ring None = None
by_parts ring (Some p) = by_first ring p.1 (sent_by p.0) (received_by p.0)

-- the form over the ring whose term this is, where there is one
abbrev pub form_in : List ℕ → Term → Option Form
form_in ring t = by_parts ring (parts_at 0 t)

-- ---- last posts

abbrev pub posted_by : ℕ → Entry → Option Term
posted_by t (Post by ticket event) = if by == t then Some event else None
posted_by t _ = None

abbrev pub or_else : Option Term → Option Term → Option Term
or_else (Some e) o = Some e
or_else None o = o

-- the event of a thread's last post
abbrev pub last_posted : ℕ → List Entry → Option Term
last_posted t [] = None
last_posted t (e ∷ es) = or_else (last_posted t es) (posted_by t e)

-- ---- pairs

-- the form of the event of a thread's last post, where it is a form's
abbrev pub form_at : List ℕ → List Entry → ℕ → Option Form
form_at ring history t = option_and_then (form_in ring) (last_posted t history)

-- whether the event of each member's last post is a form's
abbrev pub marks_of : List ℕ → List Entry → List Member → List Bool
marks_of ring history members = map (λ m. is_some (form_at ring history m.thread)) members

abbrev pub pair_if : Option Bool → Option Bool → Option Member → Option Member → Option Handed
pair_if (Some true) (Some true) (Some giver) (Some taker) = Some (record { giver = giver.thread; taker = taker.thread })
pair_if _ _ _ _ = None

-- the pair of a meeting between two members that are marked
abbrev pub pair_in : List Member → List Bool → Meeting → Option Handed
pair_in members marks m = pair_if (slice_get marks m.sender) (slice_get marks m.receiver) (slice_get members m.sender) (slice_get members m.receiver)

-- ---- private histories

-- what the entry posts, where it posts, fits
abbrev pub EntryFits : List ℕ → Entry → Type 0
EntryFits ring (Post by ticket event) = FitsRing ring event
EntryFits ring _ = Unit {0}
