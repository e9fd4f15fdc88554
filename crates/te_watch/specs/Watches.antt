-- What contracts see of a publisher, a note and an observer. This project's own.
use Rattle.std.specs.Prelude.{◌≡◌, ◌⊎◌, ℕ, Bool, List, []}
use mathlib.Core.List.{IsPrefix}
use Rattle.logbook.specs.Pages.{Book}
use Rattle.te_history.specs.declared.entry.Entry.{Entry}

-- which watch it is, and the number of its callers
pub record Watch : Type 0 where
  pub book : Book
  pub callers : ℕ

-- a watch, and a list of entries that was published in it
pub record Published : Type 0 where
  pub watch : Watch
  pub list : List Entry

-- what an observer has seen, and the longest list that it knows: each list that it has seen or learnt begins that one;
-- and whether the last read was given a reading of what is shown
pub record Observed : Type 0 where
  pub watch : Watch
  pub seen : List Entry
  pub known : List Entry
  pub had_reading : Bool

-- an observer of this watch that has seen nothing and knows of nothing
pub record IsNewObserver (w : Watch) (o : Observed) : Type 0 where
  pub watch : o.watch ≡ w
  pub seen : o.seen ≡ []
  pub known : o.known ≡ []

-- the longer of two lists, which begins with both
pub record IsJoined (one other both : List Entry) : Type 0 where
  pub which : (both ≡ one) ⊎ (both ≡ other)
  pub begins : IsPrefix one both
  pub begins_other : IsPrefix other both
