-- From the jobs that were begun to the house that is left.
use Rattle.std.proofs.Common.{◌≡◌, ◌≤◌, ◌<◌, false, ℕ, List, [], length, map, All, Contains, get_or, Some, sym, ap, ◌∙◌, subst}
use Rattle.std.specs.List.{slice_get}
use mathlib.Core.List.{IsPrefix}
use Rattle.te_script.specs.Scripts.{Thread}
use Rattle.te_script.specs.Cores.{At}
use Rattle.te_lock.specs.Lock.{Knowledge, Lock}
use Rattle.te_lock.specs.Entries.{entries_by}
use Rattle.te_history.specs.declared.entry.Entry.{Entry}
use Rattle.te_history.specs.Follows.{caller_of}
use Rattle.te_report.specs.OfScript.{WishedFrom}
use Rattle.te_report.specs.Whole.{IsWhole}
use Rattle.te_board.specs.Boards.{BoardLog, IsLawful}
use Rattle.te_serial.specs.Houses.{texts_of}
use Rattle.te_runtime.specs.declared.working.Job.{Job}
use Rattle.te_runtime.specs.Refusals.{HasStuck, HasRest}
use Rattle.te_runtime.specs.Households.{IsHousehold}
use Rattle.te_runtime.specs.Working.{IsJobReady, AreJobsOf}
use Rattle.te_runtime.specs.Started.{AreLeft}
use Rattle.te_terms.proofs.Lists.{get_at}
use Rattle.te_runtime.proofs.HousesLeft.{AreDone, are_done, passes_of, passes_here, passes_idle, everyone, texts_are, household, all_ended}

pub all_ready : (threads : List Thread) (lock : Lock) (jobs : List Job) → AreJobsOf threads lock jobs → All (IsJobReady lock) jobs
all_ready threads lock jobs are k d low = (are.each k (get_or jobs k d) (get_at jobs k d low)).0

module _ (threads : List Thread) (lock : Lock) (jobs : List Job) (passes : List (Knowledge Entry)) (cores : List At) (are : AreJobsOf threads lock jobs)
    (left : AreLeft jobs passes cores) where
  done : AreDone threads lock left.done
  done = are_done threads lock jobs left.done are left.worked

  pub left_here : All (λ (p : Knowledge Entry). p.lock ≡ lock) passes
  left_here = subst (λ (l : List (Knowledge Entry)). All (λ (p : Knowledge Entry). p.lock ≡ lock) l) (sym left.passes_are) (passes_here threads lock left.done done)

  pub left_idle : All (λ (p : Knowledge Entry). p.has_turn ≡ false) passes
  left_idle =
      subst (λ (l : List (Knowledge Entry)). All (λ (p : Knowledge Entry). p.has_turn ≡ false) l) (sym left.passes_are) (passes_idle threads lock left.done done)

  pub left_everyone : lock.callers ≡ length threads → (k : ℕ) → k < lock.callers → Contains (map (λ (p : Knowledge Entry). p.caller) passes) k
  left_everyone count k low =
      subst (λ (l : List (Knowledge Entry)). Contains (map (λ (p : Knowledge Entry). p.caller) l) k) (sym left.passes_are)
      (everyone threads lock left.done done count k low)

  pub left_texts : texts_of cores ≡ threads
  left_texts = ap texts_of left.cores_are ∙ texts_are threads lock left.done done

  module _ (board : BoardLog) (count : lock.callers ≡ length threads) (callers : board.callers ≡ lock.callers) (law : IsLawful lock.callers board.entries)
      (unmade : (k : ℕ) → lock.callers ≤ k → entries_by caller_of k board.entries ≡ [])
      (own : All (λ (p : Knowledge Entry). entries_by caller_of p.caller board.entries ≡ p.own) passes)
      (begins : All (λ (p : Knowledge Entry). IsPrefix p.read board.entries) passes) where
    own_done : All (λ (p : Knowledge Entry). entries_by caller_of p.caller board.entries ≡ p.own) (passes_of left.done)
    own_done =
        subst (λ (l : List (Knowledge Entry)). All (λ (p : Knowledge Entry). entries_by caller_of p.caller board.entries ≡ p.own) l) left.passes_are own

    begins_done : All (λ (p : Knowledge Entry). IsPrefix p.read board.entries) (passes_of left.done)
    begins_done = subst (λ (l : List (Knowledge Entry)). All (λ (p : Knowledge Entry). IsPrefix p.read board.entries) l) left.passes_are begins

    pub left_house : IsHousehold board cores
    left_house = subst (IsHousehold board) (sym left.cores_are) (household threads lock left.done done board count callers law unmade own_done begins_done)

    pub left_ended : ¬ HasRest board → ¬ HasStuck board → IsWhole board.callers board.entries
    left_ended = all_ended threads lock left.done done board count callers law unmade own_done begins_done

    pub left_of_script : WishedFrom threads [] board.entries
    left_of_script = subst (λ (ts : List Thread). WishedFrom ts [] board.entries) left_texts left_house.house.of_texts
