-- The rule of what is shown: who knows its watch knows that of what is shown. No public clause cites this module.
use Rattle.std.specs.Prelude.{ℕ, ◌≡◌, true, false, List}
use mathlib.Core.Option.{some}
use lib.ListN.{get_elem?}
use Rattle.te_watch.specs.declared.shown.Name.{Name}
use Rattle.te_watch.specs.Watches.{Watch, Published}

-- the watch of a name, and the name of a watch
abbrev pub watch_of : Name → Watch
watch_of v = record { book = record { number = v.number; log_name = v.log_name; cells_name = v.cells_name }; callers = v.callers }

abbrev pub nameless : Name
nameless = record { known = false; number = 0; log_name = 0; cells_name = 0; callers = 0 }

abbrev pub watch_name : Watch → Name
watch_name w = record {
  known = true;
  number = w.book.number;
  log_name = w.book.log_name;
  cells_name = w.book.cells_name;
  callers = w.callers;
}

-- the name, where there is one, is that of the watch of what is shown
abbrev pub NamesWatch : Published → Name → Type 0
NamesWatch shown v = v.known ≡ true → watch_of v ≡ shown.watch

abbrev pub AllName : Published → List Name → Type 0
AllName shown views = (seat : ℕ) (v : Name) → get_elem? views seat ≡ some v → NamesWatch shown v

-- the name stays, and it is that of the watch of what was shown
abbrev pub KeepsName : Name → Published → Published → Name → Type 0
KeepsName v before after w = (w ≡ v) × NamesWatch before v

-- the name is that of the watch of what is shown from now on
abbrev pub TakesName : Name → Published → Published → Name → Type 0
TakesName v before after w = w ≡ watch_name after.watch
