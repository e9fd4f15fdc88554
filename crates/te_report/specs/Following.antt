-- The cores that the writer moves along a history. No public clause cites this module.
use Rattle.std.specs.Prelude.{◌≡◌, ℕ, suc, List, [], ◌∷◌, length, Option, Some, None, slice_get, slice_set}
use Rattle.te_terms.specs.declared.event.Outcome.{Outcome}
use Rattle.te_script.specs.declared.wish.Site.{Site}
use Rattle.te_script.specs.Scripts.{Thread, Program}
use Rattle.te_script.specs.Wishes.{site_of}
use Rattle.te_script.specs.Cores.{At, core_after, moved, doing_of, IsWaiting}
use Rattle.te_history.specs.declared.entry.Entry.{Entry}
use Rattle.te_history.specs.declared.entry.Entry.TheVariants as entries
use Rattle.te_history.specs.Histories.{History}
use Rattle.te_report.specs.OfScript.{taken, IsOfScript}

-- where a history leaves each thread, from thread t on
abbrev pub cores_from : List Entry → ℕ → List Thread → List At
cores_from history t [] = []
cores_from history t (x ∷ xs) = core_after x (taken t history) ∷ cores_from history (suc t) xs

-- the core of a thread waits for an outcome
pub record Waits (cores : List At) (t : ℕ) : Type 0 where
  pub core : At
  pub found : slice_get cores t ≡ Some core
  pub waits : IsWaiting core.stand.next

-- who posts or takes waits for an outcome
abbrev pub HasCore : List At → Entry → Type 0
HasCore cores (entries.Post by ticket event) = Waits cores by
HasCore cores (entries.Take by ticket outcome) = Waits cores by
HasCore cores _ = Unit {0}

abbrev pub core_site : Option At → Option Site
core_site (Some c) = site_of (doing_of c.stand.next)
core_site None = None

-- the site of a post, as the core of its thread tells
abbrev pub shown_site : List At → Entry → Option Site
shown_site cores (entries.Post by ticket event) = core_site (slice_get cores by)
shown_site cores _ = None

abbrev pub with_moved : List At → ℕ → Outcome → Option At → List At
with_moved cores t outcome (Some c) = slice_set cores t (record c { stand = moved c.stand.emitted c.stand.next outcome })
with_moved cores t outcome None = cores

-- the core of a thread that takes moves on
abbrev pub followed : List At → Entry → List At
followed cores (entries.Take by ticket outcome) = with_moved cores by outcome (slice_get cores by)
followed cores _ = cores

-- a history of the script's threads, and where it leaves each of them
pub record AreFollowed (script : Program) (hist : History) (cores : List At) : Type 0 where
  pub callers : hist.callers ≡ length script.threads
  pub of_script : IsOfScript script hist.entries
  pub cores_are : cores ≡ cores_from hist.entries 0 script.threads

-- an entry that is neither a post nor an end
abbrev pub IsUnwished : Entry → Type 0
IsUnwished (entries.Post by ticket event) = ⊥
IsUnwished (entries.End by how) = ⊥
IsUnwished _ = Unit {0}
