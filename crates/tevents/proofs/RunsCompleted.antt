-- What is left of a script's threads where serial rounds go on from a house of them.
use Rattle.std.proofs.Common.{◌≡◌, ◌∙◌, ◌≤◌, ℕ, List, [], ◌∷◌, ◌++◌, length, Result, Ok, Err, ap, sym, subst, arith}
use Rattle.std.specs.Prelude.{IfOk}
use Rattle.std.specs.List.{AllByRecursion}
use Rattle.te_terms.proofs.Lists.{all_both}
use Rattle.te_script.specs.Scripts.{Thread, Program}
use Rattle.te_script.specs.Cores.{At}
use Rattle.te_history.specs.declared.entry.Entry.{Entry}
use Rattle.te_history.specs.declared.entry.Entry.TheVariants as entries
use Rattle.te_history.specs.Follows.{IsLegal}
use Rattle.te_history.specs.State.{state, parked_list}
use Rattle.te_board.specs.Boards.{BoardLog}
use Rattle.te_report.specs.OfScript.{WishedFrom}
use Rattle.te_report.specs.Whole.{IsWhole}
use Rattle.te_report.specs.declared.ending.Ending.{Ending}
use Rattle.te_report.specs.declared.ending.Ending.TheVariants as endings
use Rattle.te_search.specs.Findings.{IsUsedUp}
use Rattle.te_serial.specs.Rounds.{IsInRounds}
use Rattle.te_serial.specs.Finishing.{LacksRoom}
use Rattle.te_serial.specs.Houses.{texts_of, MayAppend, CommitsTightly}
use Rattle.te_runtime.specs.Households.{withdrawals_by}
use Rattle.tevents.specs.Runs.{Way, in_rounds, in_threads, IsRunOf, GoesBy, StopsBy, IsStopped, RunEndsSo}
use Rattle.tevents.specs.Completing.{CompletesSo, IsCompleted}
use Rattle.tevents.proofs.WithdrawalsCounted.{withdrawals_stay}

-- serial rounds begin with nothing done
abbrev pub BeginsBy : Way → List Entry → Type 0
BeginsBy in_rounds history = history ≡ []
BeginsBy in_threads history = Unit {0}

-- a board and cores of a script's threads, from which serial rounds go on
pub record IsBegun (way : Way) (script : Program) (board : BoardLog) (cores : List At) : Type 0 where
  pub callers : board.callers ≡ length script.threads
  pub texts : texts_of cores ≡ script.threads
  pub tight : AllByRecursion CommitsTightly board.entries
  pub once : (t : ℕ) → withdrawals_by t board.entries ≤ 1
  pub begins : BeginsBy way board.entries

-- the certificate of each commit is tight
tight_of : (es : List Entry) → AllByRecursion MayAppend es → AllByRecursion CommitsTightly es
tight_of [] h = tt
tight_of (entries.Post by ticket event ∷ es) h = (tt, tight_of es h.1)
tight_of (entries.Commit by cert outcomes ∷ es) h = (h.0, tight_of es h.1)
tight_of (entries.Withdraw by ticket ∷ es) h = absurd h.0
tight_of (entries.Take by ticket outcome ∷ es) h = (tt, tight_of es h.1)
tight_of (entries.Rest by ∷ es) h = absurd h.0
tight_of (entries.Stuck by ∷ es) h = (tt, tight_of es h.1)
tight_of (entries.End by how ∷ es) h = (tt, tight_of es h.1)

module _ (way : Way) (budget : ℕ) (script : Program) (old : BoardLog) (cores : List At) (new : BoardLog) (ending : Ending)
    (begun : IsBegun way script old cores) (done : IsCompleted budget old cores new ending) where
  abbrev n : ℕ
  n = length script.threads

  pub callers_are : new.callers ≡ n
  callers_are = ap (λ b. b.callers) done.continues.grows ∙ begun.callers

  texts_are : texts_of done.after ≡ script.threads
  texts_are = done.continues.texts ∙ begun.texts

  entries_are : new.entries ≡ old.entries ++ done.continues.entries
  entries_are = ap (λ b. b.entries) done.continues.grows

  once : (t : ℕ) → withdrawals_by t new.entries ≤ 1
  once t =
      let was = begun.once t in
      let same : withdrawals_by t new.entries ≡ withdrawals_by t old.entries =
      ap (withdrawals_by t) entries_are ∙ withdrawals_stay t old.entries done.continues.entries done.continues.each in
      omega (arith, was, same)

  run : IsRunOf script new.entries
  run = record {
    legal = subst (λ (k : ℕ). IsLegal k new.entries) callers_are done.legal;
    of_script = subst (λ (ts : List Thread). WishedFrom ts [] new.entries) texts_are done.continues.house.of_texts;
    tight =
        subst (λ (es : List Entry). AllByRecursion CommitsTightly es) (sym entries_are)
        (all_both CommitsTightly old.entries done.continues.entries begun.tight (tight_of done.continues.entries done.continues.each));
    once = once;
    few = done.few;
  }

  stops : (w : Way) → BeginsBy w old.entries → StopsBy w new.entries
  stops in_rounds first =
      subst (λ (es : List Entry). AllByRecursion MayAppend es)
      (sym (entries_are ∙ ap (λ (es : List Entry). es ++ done.continues.entries) first)) done.continues.each
  stops in_threads first = tt

  goes : (w : Way) → BeginsBy w old.entries → (old.entries ≡ [] → IsInRounds new.callers new.entries) → GoesBy w n new.entries
  goes in_rounds first rounds = subst (λ (k : ℕ). IsInRounds k new.entries) callers_are (rounds first)
  goes in_threads first rounds = tt

  stopped : IsStopped way script new.entries
  stopped = record { run = run; stops = stops way begun.begins }

  ends : (e : Ending) → CompletesSo budget old new done.after e → RunEndsSo way budget script new.entries e
  ends endings.Closed so = record {
    run = run;
    whole = subst (λ (k : ℕ). IsWhole k new.entries) callers_are so.0;
    goes = goes way begun.begins so.1;
  }
  ends endings.Full so = (
    stopped,
    subst (λ (ts : List Thread). LacksRoom (record { callers = n; entries = new.entries }) ts) texts_are
        (subst (λ (k : ℕ). LacksRoom (record { callers = k; entries = new.entries }) (texts_of done.after)) callers_are so),
  )
  ends (endings.Spent front paths groups) so =
      (stopped, so.0, subst (λ (k : ℕ). IsUsedUp (parked_list (state k new.entries)) budget paths groups) callers_are so.1)

  pub ends_so : RunEndsSo way budget script new.entries ending
  ends_so = ends ending done.ends

-- where it ends at all
pub ends_where_ok : {A E : Type 0} (way : Way) (budget : ℕ) (script : Program) (old : BoardLog) (cores : List At) (board : A → BoardLog) (ending : A → Ending)
    (left : Result A E) → IsBegun way script old cores → IfOk left (λ run. IsCompleted budget old cores (board run) (ending run))
    → IfOk left (λ run. RunEndsSo way budget script (board run).entries (ending run))
ends_where_ok way budget script old cores board ending (Ok run) begun done = ends_so way budget script old cores (board run) (ending run) begun done
ends_where_ok way budget script old cores board ending (Err e) begun done = done

-- however it ends, it is a run of the script
pub run_of : (way : Way) (budget : ℕ) (script : Program) (history : List Entry) (ending : Ending) → RunEndsSo way budget script history ending → IsRunOf script history
run_of way budget script history endings.Closed ends = ends.run
run_of way budget script history endings.Full ends = ends.0.run
run_of way budget script history (endings.Spent front paths groups) ends = ends.0.run
