-- Generated scripts have no repeats, so their runs are never short of room.
use Rattle.std.proofs.Common.{◌≡◌, ℕ, zero, suc, ◌*◌, List, length, sym, subst}
use Rattle.std.specs.List.{AllByRecursion}
use Rattle.te_script.specs.Scripts.{sync, Program, IsProgram}
use Rattle.te_script.specs.Generated.{each, generated_thread, generated, event_of, rings_of, rounds_of}
use Rattle.te_history.specs.declared.entry.Entry.{Entry}
use Rattle.te_report.specs.declared.ending.Ending.{Ending}
use Rattle.te_report.specs.declared.ending.Ending.TheVariants as endings
use Rattle.tevents.specs.Runs.{in_rounds, RunEndsSo}
use Rattle.tevents.specs.Summaries.{HasSummary, IsSummary, summary_text, summary_status}
use Rattle.tevents.proofs.RoomForScripts.{never_full}
use Rattle.tevents.specs.Repeats.{IsNoRepeat, HasNoRepeat, HasNoRepeats}
use Rattle.te_terms.proofs.Lists.{AllByRecursion-append}

all_each : {A : Type 0} (P : A → Type 0) (f : ℕ → A) (n : ℕ) → ((i : ℕ) → P (f i)) → AllByRecursion P (each f n)
all_each P f zero p = tt
all_each P f (suc n) p = AllByRecursion-append P (each f n) (f n) (all_each P f n p) (p n)

pub none_generated : (number : ℕ) → HasNoRepeats (generated number)
none_generated number = all_each HasNoRepeat (generated_thread (rounds_of number)) (3 * rings_of number)
    (λ t. AllByRecursion-append IsNoRepeat (each (λ round. sync 0 (event_of t round)) (rounds_of number)) _
    (all_each IsNoRepeat (λ round. sync 0 (event_of t round)) (rounds_of number) (λ round. tt)) tt)

-- ---- the summary of a run

has_summary : (number budget : ℕ) (p : Program) (history : List Entry) (ending : Ending) → IsProgram p → p ≡ generated number
    → RunEndsSo in_rounds budget p history ending → HasSummary ending
has_summary number budget p history endings.Closed is same run = tt
has_summary number budget p history endings.Full is same run = never_full p is (subst HasNoRepeats (sym same) (none_generated number)) history run.0.run run.1
has_summary number budget p history (endings.Spent front paths groups) is same run = tt

pub summarised : (number budget : ℕ) (p : Program) (history : List Entry) (ending : Ending) (written : List ℕ) (status : ℕ) → IsProgram p
    → p ≡ generated number → RunEndsSo in_rounds budget p history ending
    → written ≡ summary_text number (length p.threads) history ending → status ≡ summary_status ending → IsSummary number budget written status
summarised number budget p history ending written status is same run text told = record {
  history = history;
  ending = ending;
  run = subst (λ (q : Program). RunEndsSo in_rounds budget q history ending) same run;
  text = subst (λ (q : Program). written ≡ summary_text number (length q.threads) history ending) same text;
  ends = has_summary number budget p history ending is same run;
  status_is = told;
}
