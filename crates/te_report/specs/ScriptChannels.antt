-- The channels that a history of a script may have. This project's own.
use Rattle.std.specs.Prelude.{◌≡◌, ◌⊎◌, ℕ, ◌<◌, length}
use Rattle.te_terms.specs.Values.{fresh_channel}
use Rattle.te_terms.specs.Limits.{most_fresh}
use Rattle.te_script.specs.Scripts.{Program}
use Rattle.te_history.specs.declared.entry.Entry.{Entry}
use Rattle.te_report.specs.Channels.{EntryHas}

-- a fresh channel of one of the threads
pub record IsFreshOf (script : Program) (c : ℕ) : Type 0 where
  pub thread : ℕ
  pub ticket : ℕ
  pub count : ℕ
  pub is_thread : thread < length script.threads
  pub few : count < most_fresh
  pub number : c ≡ fresh_channel thread ticket count

-- a channel of the script, or a fresh one of one of its threads
abbrev pub IsChannelOf : Program → ℕ → Type 0
IsChannelOf script c = (c < length script.channels) ⊎ IsFreshOf script c

-- each channel in the entry is so
abbrev pub HasChannelsOf : Program → Entry → Type 0
HasChannelsOf script e = EntryHas (IsChannelOf script) e
