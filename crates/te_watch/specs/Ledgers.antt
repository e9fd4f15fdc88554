-- The rule of the record of what was published, and what its one step tells. No public clause cites this module.
use Rattle.std.specs.Prelude.{ℕ, ◌≡◌, true, List, [], ◌∷◌, ◌++◌, length}
use Rattle.std.specs.List.{flat_map}
use Rattle.logbook.specs.Pages.{Cell, Step, View, Book, Named}
use Rattle.te_history.specs.declared.entry.Entry.{Entry}
use Rattle.te_watch.specs.declared.ledger.Batch.{Batch}

abbrev pub items_of : Batch → List Entry
items_of b = b.items

-- all entries that were published
abbrev pub all_of : List Batch → List Entry
all_of log = flat_map items_of log

-- the first word tells how many they are; the second, which every book has, stays 0
abbrev pub CountsAll : List Cell → List Batch → Type 0
CountsAll cells log = cells ≡ (length (all_of log), true) ∷ (0, true) ∷ []

-- the word that tells it
abbrev pub counter_of : Book → Named
counter_of b = record { tracked = true; key = 0; book = b }

-- where the number found is the one expected, the batch has come behind all that was published
abbrev pub AddsBatch : Step Batch → View Batch ℕ → ℕ → View Batch ℕ → Type 0
AddsBatch s before found after = found ≡ s.old → all_of after.0 ≡ all_of before.0 ++ s.ask.items
