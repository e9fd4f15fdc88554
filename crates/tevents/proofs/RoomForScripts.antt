-- A board of a script without repeats is never full where a thread still wishes to synchronise, while each caller has taken
-- back one event at most.
use Rattle.std.proofs.Common.{◌≡◌, ◌≢◌, ◌<◌, ◌≤◌, ◌*◌, ℕ, zero, suc, List, ◌∷◌, [], length, Some, subst, arith}
use Rattle.std.specs.Prelude.{slice_get}
use Rattle.te_script.specs.Scripts.{Thread, Program, IsProgram, IsThread}
use Rattle.te_script.specs.Wishes.{flat}
use Rattle.te_history.specs.declared.entry.Entry.{Entry}
use Rattle.te_history.specs.State.{idle, posts_by}
use Rattle.te_history.proofs.Growing.{legal_is_loose}
use Rattle.te_report.specs.OfScript.{taken}
use Rattle.te_report.proofs.Followed.{some_thread}
use Rattle.te_report.specs.declared.ending.Ending.{Ending}
use Rattle.te_report.specs.declared.ending.Ending.TheVariants as endings
use Rattle.te_serial.specs.Finishing.{LacksRoom}
use Rattle.te_terms.proofs.Lists.{all_at}
use Rattle.tevents.specs.Runs.{Way, IsRunOf, RunEndsSo}
use Rattle.tevents.specs.Repeats.{HasNoRepeat, HasNoRepeats}
use Rattle.tevents.proofs.PostsCounted.{syncs_in, wish_within, syncs_within, sum_posts, sum_fewer}
use Rattle.tevents.proofs.SyncsCounted.{IsCounted, counted_all}

pub never_full : (p : Program) → IsProgram p → HasNoRepeats p → (history : List Entry) → IsRunOf p history → LacksRoom (record { callers = length p.threads; entries = history }) p.threads → ⊥
never_full p is plain history run lacks = omega (arith, lacks.full, c.room, sum, is.threads)
  where
    n : ℕ
    n = length p.threads

    c : IsCounted n p.threads history
    c = counted_all n p.threads history (legal_is_loose n history run.legal) run.of_script

    few_syncs : (t : ℕ) (text : Thread) → slice_get p.threads t ≡ Some text → syncs_in (flat text) ≤ 1024
    few_syncs t text at =
        let limits = (all_at (IsThread (length p.channels)) p.threads t text is.each at).statements in
        let within = syncs_within 1 text.statements (all_at HasNoRepeat p.threads t text plain at) in
        omega (arith, limits, within)

    few_posts : (t : ℕ) → t < n → posts_by t history ≤ 1025
    few_posts t lt =
        let text : (x : Thread) × (slice_get p.threads t ≡ Some x) = some_thread p.threads t lt in
        let posts = c.few t text.0 text.1 in
        let some = few_syncs t text.0 text.1 in
        let once = run.once t in
        omega (arith, posts, some, once)

    by_within : lacks.by < n
    by_within = within p.threads lacks.by lacks.text lacks.has_text
      where
        within : (ts : List Thread) (i : ℕ) (x : Thread) → slice_get ts i ≡ Some x → i < length ts
        within [] i x q = cc
        within (y ∷ ys) zero x q = omega arith
        within (y ∷ ys) (suc i) x q = let later = within ys i x q in omega (arith, later)

    less : posts_by lacks.by history < 1025
    less =
        let posts = c.each lacks.by idle lacks.stands in
        let takes = wish_within lacks.text (taken lacks.by history) lacks.event lacks.wishes in
        let some = few_syncs lacks.by lacks.text lacks.has_text in
        let once = run.once lacks.by in
        omega (arith, posts, takes, some, once)

    sum : sum_posts n history < n * 1025
    sum = sum_fewer 1025 n lacks.by history by_within few_posts less

-- a run without repeats doesn't end so
pub has_room : (way : Way) (budget : ℕ) (p : Program) → IsProgram p → (history : List Entry) (ending : Ending) → RunEndsSo way budget p history ending → HasNoRepeats p → ending ≢ endings.Full
has_room way budget p is history ending run plain full = let stopped = subst (λ (e : Ending). RunEndsSo way budget p history e) full run in never_full p is plain history stopped.0.run stopped.1
