-- The text of a report in its two versions, line by line. This project's own.
use Rattle.std.specs.Prelude.{◌≡◌, ℕ, suc, ◌-◌, ◌/◌, ◌%◌, ◌^◌, ◌≤◌, nat_lt, Bool, true, false, List, [], ◌∷◌, ◌++◌, length, codes, Option, Some, None, slice_get, if◌then◌else◌}
use Rattle.std.specs.List.{flat_map}
use Rattle.std.specs.Fmt.{decimal, signed_decimal}
use Rattle.te_terms.specs.declared.value.Atom.{Atom}
use Rattle.te_terms.specs.declared.value.Atom.TheVariants.{Int, Chan}
use Rattle.te_terms.specs.declared.event.Outcome.TheVariants.{Gives, Raises}
use Rattle.te_cert.specs.declared.cert.Member.{Member}
use Rattle.te_cert.specs.declared.cert.Meeting.{Meeting}
use Rattle.te_cert.specs.declared.cert.Cert.{Cert}
use Rattle.te_script.specs.declared.wish.Site.{Site}
use Rattle.te_script.specs.Scripts.{Thread, Program}
use Rattle.te_script.specs.Wishes.{site}
use Rattle.te_terms.specs.declared.event.Outcome.{Outcome}
use Rattle.te_history.specs.declared.status.How.{How}
use Rattle.te_history.specs.declared.status.How.TheVariants as ways
use Rattle.te_history.specs.declared.entry.Entry.{Entry}
use Rattle.te_history.specs.declared.entry.Entry.TheVariants as entries
use Rattle.te_report.specs.declared.ending.Ending.{Ending}
use Rattle.te_report.specs.declared.ending.Ending.TheVariants as endings
use Rattle.te_report.specs.OfScript.{taken}

-- reports that are written are of the second version, and either is read
pub data Version : Type 0 where
  first : Version
  second : Version

-- the greatest number of entries of which there is a report
abbrev pub most_reported_entries : ℕ
most_reported_entries = 200000

-- ---- names and values

abbrev pub thread_name : Option Thread → List ℕ
thread_name (Some t) = t.name
thread_name None = []

abbrev pub name_of : Program → ℕ → List ℕ
name_of script t = thread_name (slice_get script.threads t)

abbrev pub or_nothing : Option (List ℕ) → List ℕ
or_nothing (Some bytes) = bytes
or_nothing None = []

-- the name of a channel of the script
abbrev pub channel_name : Program → ℕ → List ℕ
channel_name script c = or_nothing (slice_get script.channels c)

-- a fresh channel tells the thread that made it, the ticket below 2^18, and the count below 16
abbrev pub fresh_name : Program → ℕ → List ℕ
fresh_name script number =
    name_of script (number / 2 ^ 22) ++ codes "." ++ decimal (number / 16 % 2 ^ 18) ++ codes "." ++ decimal (number % 16)

-- fresh channels are numbered from 2^30 on
abbrev pub channel_text : Program → ℕ → List ℕ
channel_text script c = if nat_lt c (2 ^ 30) then channel_name script c else fresh_name script (c - 2 ^ 30)

-- an integer in decimal, a channel as @ and its text
abbrev pub atom_text : Program → Atom → List ℕ
atom_text script (Int z) = signed_decimal z
atom_text script (Chan c) = codes "@" ++ channel_text script c

abbrev pub other_atoms : Program → List Atom → List ℕ
other_atoms script [] = []
other_atoms script (a ∷ as') = codes "," ++ atom_text script a ++ other_atoms script as'

abbrev pub atoms_text : Program → List Atom → List ℕ
atoms_text script [] = []
atoms_text script (a ∷ as') = atom_text script a ++ other_atoms script as'

abbrev pub value_text : Program → List Atom → List ℕ
value_text script v = codes "(" ++ atoms_text script v ++ codes ")"

-- = marks a value that is given, ! one that is raised
abbrev pub outcome_text : Program → Outcome → List ℕ
outcome_text script (Gives v) = codes "=" ++ value_text script v
outcome_text script (Raises v) = codes "!" ++ value_text script v

-- ---- a commit

abbrev pub letter : Bool → List ℕ
letter true = codes "L"
letter false = codes "R"

abbrev pub member_text : Program → Member → Outcome → List ℕ
member_text script m o = name_of script m.thread ++ codes "." ++ decimal m.ticket ++ codes "[" ++ flat_map letter m.choices ++ codes "]" ++ outcome_text script o

abbrev pub other_members : Program → List Member → List Outcome → List ℕ
other_members script (m ∷ ms) (o ∷ os) = codes " " ++ member_text script m o ++ other_members script ms os
other_members script _ _ = []

-- the members separated by single spaces
abbrev pub members_text : Program → List Member → List Outcome → List ℕ
members_text script (m ∷ ms) (o ∷ os) = member_text script m o ++ other_members script ms os
members_text script _ _ = []

abbrev pub member_thread : Option Member → ℕ
member_thread (Some m) = m.thread
member_thread None = 0

-- the name of the member at a place
abbrev pub member_name : Program → List Member → ℕ → List ℕ
member_name script members i = name_of script (member_thread (slice_get members i))

-- a space, the sender, > and the receiver
abbrev pub meeting_text : Program → List Member → Meeting → List ℕ
meeting_text script members m = codes " " ++ member_name script members m.sender ++ codes ">" ++ member_name script members m.receiver

-- the group, and how its members met
abbrev pub commit_text : Program → Cert → List Outcome → List ℕ
commit_text script cert outcomes = members_text script cert.members outcomes ++ codes ";" ++ flat_map (meeting_text script cert.members) cert.meets

-- ---- lines

abbrev pub spaced_value : Program → List Atom → List ℕ
spaced_value script v = codes " " ++ value_text script v

abbrev pub end_text : Program → How → List ℕ
end_text script (ways.Done values) = codes "done" ++ flat_map (spaced_value script) values
end_text script (ways.Raised value) = codes "raised " ++ value_text script value
end_text script ways.Stuck = codes "stuck"

-- the place in the text of the wish that a post posts: the number of its statement and the pass of its repeat
abbrev pub site_text : Version → Option Site → List ℕ
site_text second (Some at) = codes " at " ++ decimal at.statement ++ codes "." ++ decimal at.pass
site_text _ _ = []

-- an entry without its number; of a post with the site of its wish
abbrev pub entry_text : Version → Program → Option Site → Entry → List ℕ
entry_text version script at (entries.Post by ticket event) = codes "post " ++ name_of script by ++ codes " " ++ decimal ticket ++ site_text version at
entry_text version script at (entries.Commit by cert outcomes) = codes "commit " ++ name_of script by ++ codes ": " ++ commit_text script cert outcomes
entry_text version script at (entries.Withdraw by ticket) = codes "withdraw " ++ name_of script by ++ codes " " ++ decimal ticket
entry_text version script at (entries.Take by ticket outcome) = codes "take " ++ name_of script by ++ codes " " ++ decimal ticket ++ codes " " ++ outcome_text script outcome
entry_text version script at (entries.Rest by) = codes "rest " ++ name_of script by
entry_text version script at (entries.Stuck by) = codes "stuck " ++ name_of script by
entry_text version script at (entries.End by how) = codes "end " ++ name_of script by ++ codes " " ++ end_text script how

abbrev pub site_by : Option Thread → List Outcome → Option Site
site_by (Some t) outs = site t outs
site_by None outs = None

-- the site of the wish that an entry posts, after the entries before it
abbrev pub posted_site : Program → List Entry → Entry → Option Site
posted_site script before (entries.Post by ticket event) = site_by (slice_get script.threads by) (taken by before)
posted_site script before _ = None

abbrev pub numbered : ℕ → List ℕ → List ℕ
numbered number text = decimal number ++ codes " " ++ text ++ codes "\n"

-- the line of an entry that stands behind these; lines are numbered from 1
abbrev pub entry_line : Version → Program → List Entry → Entry → List ℕ
entry_line version script before e = numbered (suc (length before)) (entry_text version script (posted_site script before e) e)

-- one line an entry, in order
abbrev pub entry_lines : Version → Program → List Entry → List Entry → List ℕ
entry_lines version script before [] = []
entry_lines version script before (e ∷ es) = entry_line version script before e ++ entry_lines version script (before ++ e ∷ []) es

-- the last line, by the number of entries
abbrev pub last_line : ℕ → Ending → List ℕ
last_line count endings.Closed = codes "closed " ++ decimal count ++ codes "\n"
last_line count (endings.Spent front paths groups) =
    codes "spent " ++ decimal count ++ codes " front " ++ decimal front ++ codes " paths " ++ decimal paths ++ codes " groups " ++ decimal groups ++ codes "\n"
last_line count endings.Full = codes "full " ++ decimal count ++ codes "\n"

abbrev pub head_line : Version → List ℕ
head_line first = codes "tevents report 1\n"
head_line second = codes "tevents report 2\n"

abbrev pub report_text : Version → Program → List Entry → Ending → List ℕ
report_text version script history ending = head_line version ++ entry_lines version script [] history ++ last_line (length history) ending

-- the report of a history of at most 200,000 entries in a version; a longer history has none
pub record IsReport (version : Version) (script : Program) (history : List Entry) (ending : Ending) (bytes : List ℕ) : Type 0 where
  pub within : length history ≤ most_reported_entries
  pub text : bytes ≡ report_text version script history ending
