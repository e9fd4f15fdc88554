-- Histories of a script: each post is the wish of its thread, and so is each end. This project's own.
use Rattle.std.specs.Prelude.{◌≡◌, ℕ, List, [], ◌∷◌, ◌++◌, ◌==◌, Option, Some, None, slice_get, if◌then◌else◌}
use Rattle.te_terms.specs.declared.event.Outcome.{Outcome}
use Rattle.te_script.specs.Scripts.{Thread, Program}
use Rattle.te_script.specs.Wishes.{Wish, syncs, done, raised, wish}
use Rattle.te_history.specs.declared.status.How.{How}
use Rattle.te_history.specs.declared.status.How.TheVariants as ways
use Rattle.te_history.specs.declared.entry.Entry.{Entry}
use Rattle.te_history.specs.declared.entry.Entry.TheVariants as entries
use Rattle.te_history.specs.Follows.{caller_of}

abbrev pub taken_from : ℕ → Entry → List Outcome → List Outcome
taken_from t (entries.Take by ticket outcome) rest = if by == t then outcome ∷ rest else rest
taken_from t _ rest = rest

-- the outcomes that a thread has taken, in order
abbrev pub taken : ℕ → List Entry → List Outcome
taken t [] = []
taken t (e ∷ es) = taken_from t e (taken t es)

abbrev pub EndsSo : Wish → How → Type 0
EndsSo w (ways.Done values) = w ≡ done values
EndsSo w (ways.Raised value) = w ≡ raised value
EndsSo w ways.Stuck = Unit {0}

-- a post has the event of the wish, and an end its values or its value
abbrev pub IsWished : Wish → Entry → Type 0
IsWished w (entries.Post by ticket event) = w ≡ syncs event
IsWished w (entries.End by how) = EndsSo w how
IsWished w _ = Unit {0}

-- an entry of the thread with this text, where it has one
abbrev pub WishedBy : Option Thread → List Outcome → Entry → Type 0
WishedBy (Some t) outs e = IsWished (wish t outs) e
WishedBy None outs e = ⊥

abbrev pub WishedFrom : List Thread → List Entry → List Entry → Type 0
WishedFrom threads before [] = Unit {0}
WishedFrom threads before (e ∷ es) =
    WishedBy (slice_get threads (caller_of e)) (taken (caller_of e) before) e × WishedFrom threads (before ++ e ∷ []) es

-- the callers are the threads by number, and each entry is what its thread wished
abbrev pub IsOfScript : Program → List Entry → Type 0
IsOfScript script history = WishedFrom script.threads [] history
