-- What a board is seen as, the law of its history, and what its calls do to it. This project's own.
use Rattle.std.specs.Prelude.{◌≡◌, ℕ, ◌+◌, ◌≤◌, List, [], ◌∷◌, ◌++◌, length}
use Rattle.te_terms.specs.declared.event.Outcome.{Outcome}
use Rattle.te_cert.specs.declared.cert.Cert.{Cert}
use Rattle.te_history.specs.declared.entry.Entry.{Entry}
use Rattle.te_history.specs.declared.entry.Entry.TheVariants as entries
use Rattle.te_history.specs.declared.status.Status.TheVariants as statuses
use Rattle.te_history.specs.State.{State, state}
use Rattle.te_history.specs.Follows.{Commits, IsLegal}
use Rattle.te_history.specs.Histories.{History, HasStatus}
use Rattle.te_history.specs.Room.{room}

-- most entries that a board may need in all
abbrev pub most_entries : ℕ
most_entries = 200000

-- a board is seen as its history: the number of its callers, and the entries
pub record BoardLog : Type 0 where
  pub callers : ℕ
  pub entries : List Entry

-- the state after the history
abbrev pub state_of : BoardLog → State
state_of b = state b.callers b.entries

-- the reserved room after the history
abbrev pub room_of_board : BoardLog → ℕ
room_of_board b = room (state_of b)

-- the law of the histories of boards with so many callers: legal, and within the limit
pub record IsLawful (callers : ℕ) (entries : List Entry) : Type 0 where
  pub legal : IsLegal callers entries
  pub few : length entries ≤ most_entries

-- the history with one entry more
pub record Appends (before after : BoardLog) (e : Entry) : Type 0 where
  pub callers : after.callers ≡ before.callers
  pub entries : after.entries ≡ before.entries ++ e ∷ []

-- the caller takes the outcome that it was given, under its ticket
pub record HasTaken (before after : BoardLog) (by : ℕ) (outcome : Outcome) : Type 0 where
  pub ticket : ℕ
  pub was_given : HasStatus (state_of before) by (statuses.Given ticket outcome)
  pub appends : Appends before after (entries.Take by ticket outcome)

-- the caller commits the members of the certificate to the outcomes of its play
pub record HasCommitted (before after : BoardLog) (by : ℕ) (cert : Cert) : Type 0 where
  pub outcomes : List Outcome
  pub commits : Commits (state_of before) cert outcomes
  pub appends : Appends before after (entries.Commit by cert outcomes)

-- what a board keeps of its history, and of the room that it has reserved in it
pub record IsReserved (h : History) (reserved : ℕ) : Type 0 where
  pub legal : IsLegal h.callers h.entries
  pub reserved_is : reserved ≡ room (state h.callers h.entries)
  pub few : length h.entries + reserved ≤ most_entries
  pub spare : most_entries ≤ length h.entries + h.spare
