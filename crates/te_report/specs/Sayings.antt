-- What the line of a report says, read without regard to whether it is spelled so: each line says something, and it is the line of an entry
-- exactly where the text of what it says is the line. No public clause cites this module.
use Rattle.std.specs.Prelude.{ℕ, zero, suc, ◌+◌, ◌-◌, ◌*◌, ◌%◌, ◌^◌, ◌==◌, nat_lt, nat_le, Bool, true, false, List, [], ◌∷◌, length, map, ℤ, pos, ◌-ℤ◌, Option, Some, None, if◌then◌else◌}
use Rattle.std.specs.List.{position}
use Rattle.te_terms.specs.declared.value.Atom.{Atom}
use Rattle.te_terms.specs.declared.value.Atom.TheVariants.{Int, Chan}
use Rattle.te_terms.specs.declared.event.Outcome.{Outcome}
use Rattle.te_terms.specs.declared.event.Outcome.TheVariants.{Gives, Raises}
use Rattle.te_terms.specs.Values.{fits_i64, fresh_channel}
use Rattle.te_terms.specs.Limits.{most_atoms}
use Rattle.te_cert.specs.declared.cert.Member.{Member}
use Rattle.te_cert.specs.declared.cert.Meeting.{Meeting}
use Rattle.te_script.specs.declared.wish.Site.{Site}
use Rattle.te_history.specs.declared.status.How.{How}
use Rattle.te_history.specs.declared.status.How.TheVariants as ways
use Rattle.te_history.specs.declared.entry.Entry.{Entry}
use Rattle.te_history.specs.declared.entry.Entry.TheVariants as entries
use Rattle.te_terms.specs.Terms.{never}
use Rattle.te_script.specs.Scripts.{Program, thread_names}
use Rattle.te_report.specs.Report.{Version, first, second, entry_text}
use Rattle.te_report.specs.declared.ending.Ending.{Ending}
use Rattle.te_report.specs.declared.ending.Ending.TheVariants as endings
use Rattle.te_report.specs.FirstPlaces.{place_of_name}
use Rattle.te_report.specs.declared.names.Called.{Called}
use Rattle.te_report.specs.declared.saying.Said.{Said}
use Rattle.te_report.specs.declared.saying.Said.TheVariants as says

-- ---- parts of a text

-- what stands before the first byte c, or the whole where there is none
abbrev pub up_to : ℕ → List ℕ → List ℕ
up_to c [] = []
up_to c (b ∷ bs) = if b == c then [] else b ∷ up_to c bs

-- what stands behind the first byte c, or nothing
abbrev pub cut_behind : ℕ → List ℕ → List ℕ
cut_behind c [] = []
cut_behind c (b ∷ bs) = if b == c then bs else cut_behind c bs

-- the first so many of the words that a byte separates
abbrev pub words_by : ℕ → ℕ → List ℕ → List (List ℕ)
words_by zero c bytes = []
words_by (suc n) c [] = []
words_by (suc n) c (b ∷ bs) = up_to c (b ∷ bs) ∷ words_by n c (cut_behind c (b ∷ bs))

-- the words that a byte separates
unfoldable pub words : ℕ → List ℕ → List (List ℕ)
words c bytes = words_by (length bytes) c bytes

-- ---- numbers

-- the number of these digits, behind digits that have come to `so_far`
abbrev pub decimal_value : ℕ → List ℕ → ℕ
decimal_value so_far [] = so_far
decimal_value so_far (d ∷ ds) = decimal_value (so_far * 10 + (d - 48)) ds

-- a number below a bound; 0 where it isn't
abbrev pub below : ℕ → ℕ → ℕ
below bound n = if nat_lt n bound then n else 0

-- a number of 64 bits
unfoldable pub said_number : List ℕ → ℕ
said_number ds = below (2 ^ 64) (decimal_value 0 ds)

-- a number of 32 bits
abbrev pub said_ticket : List ℕ → ℕ
said_ticket ds = below (2 ^ 32) (said_number ds)

abbrev pub fitting_number : ℤ → Option ℤ
fitting_number z = if fits_i64 z then Some z else None

abbrev pub or_zero : Option ℤ → ℤ
or_zero (Some z) = z
or_zero None = pos 0

-- an integer of 64 bits
unfoldable pub said_integer : List ℕ → ℤ
said_integer [] = pos 0
said_integer (b ∷ bs) = or_zero (fitting_number (if b == 45 then pos 0 -ℤ pos (decimal_value 0 bs) else pos (decimal_value 0 (b ∷ bs))))

-- ---- names

abbrev pub or_first : Option ℕ → ℕ
or_first (Some i) = i
or_first None = 0

-- the thread of a name; the first where there is none
abbrev pub said_thread : List (List ℕ) → List ℕ → ℕ
said_thread names n = or_first (place_of_name names n)

-- the names of a script
abbrev pub called_of : Program → Called
called_of script = record { threads = thread_names script.threads; channels = script.channels }

-- ---- values

-- a channel by its name, or a fresh one by its thread, its ticket and its count
abbrev pub said_channel : Called → List ℕ → List ℕ → Option ℕ
said_channel called name [] = place_of_name called.channels name
said_channel called name (b ∷ bs) =
    Some (fresh_channel (said_thread called.threads (up_to 46 name)) (said_ticket (up_to 46 (b ∷ bs))) (said_number (cut_behind 46 (b ∷ bs)) % 16))

abbrev pub atom_of : Option ℕ → Atom
atom_of (Some c) = Chan c
atom_of None = Int (pos 0)

abbrev pub said_atom : Called → List ℕ → Atom
said_atom called [] = Int (pos 0)
said_atom called (b ∷ bs) = if b == 64 then atom_of (said_channel called bs (cut_behind 46 bs)) else Int (said_integer (b ∷ bs))

-- atoms of which there are few enough for a value
abbrev pub few_atoms : List Atom → List Atom
few_atoms v = if nat_le (length v) most_atoms then v else []

unfoldable pub said_value : Called → List ℕ → List Atom
said_value called bytes = few_atoms (map (said_atom called) (words 44 (up_to 41 (cut_behind 40 bytes))))

abbrev pub said_outcome : Called → List ℕ → Outcome
said_outcome called [] = Gives []
said_outcome called (b ∷ bs) = if b == 33 then Raises (said_value called bs) else Gives (said_value called bs)

-- ---- a commit

abbrev pub said_choices : List ℕ → List Bool
said_choices bytes = map (λ b. b == 76) bytes

abbrev pub said_member : Called → List ℕ → Member
said_member called bytes = record {
  thread = said_thread called.threads (up_to 46 bytes);
  ticket = said_ticket (up_to 91 (cut_behind 46 bytes));
  choices = said_choices (up_to 93 (cut_behind 91 (cut_behind 46 bytes)));
}

-- what the member gets
abbrev pub said_gets : Called → List ℕ → Outcome
said_gets called bytes = said_outcome called (cut_behind 93 (cut_behind 91 (cut_behind 46 bytes)))

-- the first place of a thread among the members
unfoldable pub said_place : List Member → ℕ → ℕ
said_place members t = or_first (position (λ m. m.thread == t) members)

abbrev pub said_meeting : Called → List Member → List ℕ → Meeting
said_meeting called members bytes = record {
  sender = said_place members (said_thread called.threads (up_to 62 bytes));
  receiver = said_place members (said_thread called.threads (cut_behind 62 bytes));
}

abbrev pub said_members : Called → List ℕ → List Member
said_members called bytes = map (said_member called) (words 32 bytes)

abbrev pub said_outcomes : Called → List ℕ → List Outcome
said_outcomes called bytes = map (said_gets called) (words 32 bytes)

-- where nobody is a member, nobody meets
abbrev pub said_meets : Called → List Member → List ℕ → List Meeting
said_meets called [] bytes = []
said_meets called (m ∷ ms) bytes = map (said_meeting called (m ∷ ms)) (words 32 bytes)

abbrev pub said_commit : Called → ℕ → List ℕ → List ℕ → Said
said_commit called by members meets = says.Entry (entries.Commit by
    (record { members = said_members called members; meets = said_meets called (said_members called members) meets })
    (said_outcomes called members))

-- ---- entries

abbrev pub said_values : Called → List ℕ → List (List Atom)
said_values called bytes = map (said_value called) (words 32 bytes)

abbrev pub said_how : Called → List ℕ → How
said_how called [] = ways.Stuck
said_how called (b ∷ bs) =
    if b == 100 then ways.Done (said_values called (cut_behind 32 (b ∷ bs)))
    else (if b == 114 then ways.Raised (said_value called (cut_behind 32 (b ∷ bs))) else ways.Stuck)

-- in a version that tells sites
abbrev pub said_site : Bool → List ℕ → Option Site
said_site false bytes = None
said_site true bytes = Some (record { statement = said_ticket (up_to 46 bytes); pass = said_ticket (cut_behind 46 bytes) })

-- by the first letter of the word for the entry, who it is by, and what stands behind
abbrev pub said_entry : Called → Bool → ℕ → ℕ → List ℕ → Said
said_entry called sites letter by tail =
    if letter == 112 then says.Post by (said_ticket (up_to 32 tail)) (said_site sites (cut_behind 32 (cut_behind 32 tail)))
    else (if letter == 99 then said_commit called by (up_to 59 tail) (cut_behind 32 (cut_behind 59 tail))
    else (if letter == 119 then says.Entry (entries.Withdraw by (said_ticket tail))
    else (if letter == 116 then says.Entry (entries.Take by (said_ticket (up_to 32 tail)) (said_outcome called (cut_behind 32 tail)))
    else (if letter == 114 then says.Entry (entries.Rest by)
    else (if letter == 115 then says.Entry (entries.Stuck by)
    else says.Entry (entries.End by (said_how called tail)))))))

abbrev pub first_byte : List ℕ → ℕ
first_byte [] = 0
first_byte (b ∷ bs) = b

-- behind the number and a space: the word, a space, who it is by, a space, and the rest
abbrev pub said_words : Called → Bool → List ℕ → Said
said_words called sites bytes =
    said_entry called sites (first_byte bytes) (said_thread called.threads (up_to 58 (up_to 32 (cut_behind 32 bytes)))) (cut_behind 32 (cut_behind 32 bytes))

unfoldable pub said : Called → Bool → List ℕ → Said
said called sites line = said_words called sites (cut_behind 32 line)

-- ---- the text of what is said

-- a post, of an event that the line doesn't tell
abbrev pub entry_in : Said → Entry
entry_in (says.Post by ticket site) = entries.Post by ticket never
entry_in (says.Entry e) = e

abbrev pub site_in : Said → Option Site
site_in (says.Post by ticket site) = site
site_in (says.Entry e) = None

-- a post that tells no site is spelled as in the first version
abbrev pub said_text : Program → Said → List ℕ
said_text script s = entry_text second script (site_in s) (entry_in s)

abbrev pub version_of : Bool → Version
version_of true = second
version_of false = first

-- ---- the last line

-- the numbers behind `front`, `paths` and `groups`
abbrev pub said_spent : List ℕ → Ending
said_spent bytes = endings.Spent
    (said_number (up_to 32 (cut_behind 32 bytes)))
    (said_number (up_to 32 (cut_behind 32 (cut_behind 32 (cut_behind 32 bytes)))))
    (said_number (cut_behind 32 (cut_behind 32 (cut_behind 32 (cut_behind 32 (cut_behind 32 bytes))))))

-- by its first letter, behind the word and the number
unfoldable pub said_ending : List ℕ → Ending
said_ending line =
    if first_byte line == 115 then said_spent (cut_behind 32 (cut_behind 32 line)) else (if first_byte line == 102 then endings.Full else endings.Closed)
