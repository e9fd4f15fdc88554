-- What a worker has of its caller's thread, and what it leaves. No clause of a public call cites this module.
use Rattle.std.specs.Prelude.{◌≡◌, ◌⊎◌, ℕ, ◌≤◌, false, List, [], ◌∷◌, ◌++◌, length, Some, slice_get}
use Rattle.std.specs.List.{AllByRecursion}
use Rattle.te_script.specs.Scripts.{Thread}
use Rattle.te_script.specs.Wishes.{wish}
use Rattle.te_script.specs.Cores.{At, core_after}
use Rattle.te_lock.specs.Lock.{Knowledge, Lock}
use Rattle.te_history.specs.declared.entry.Entry.{Entry}
use Rattle.te_history.specs.State.{posts_by}
use Rattle.te_report.specs.OfScript.{taken, IsWished}
use Rattle.te_serial.specs.Houses.{CommitsTightly}
use Rattle.te_runtime.specs.declared.working.Job.{Job}
use Rattle.te_runtime.specs.Calls.{board_of}
use Rattle.te_runtime.specs.Refusals.{HasStuck, HasRest}
use Rattle.te_runtime.specs.Syncs.{HasEnded}
use Rattle.te_runtime.specs.Households.{withdrawals_by}

-- each of these entries of the thread is what it wished after the outcomes that it had taken by then
abbrev pub WishedAlone : Thread → ℕ → List Entry → List Entry → Type 0
WishedAlone text t before [] = Unit {0}
WishedAlone text t before (e ∷ es) = IsWished (wish text (taken t before)) e × WishedAlone text t (before ++ e ∷ []) es

-- the caller's own entries are what its thread wished, its commits are tight, and the core is where its takes leave it
pub record IsRun (t : ℕ) (own : List Entry) (core : At) : Type 0 where
  pub wished : WishedAlone core.thread t [] own
  pub stands : core ≡ core_after core.thread (taken t own)
  pub tight : AllByRecursion CommitsTightly own

-- a pass of this lock, without the turn, and the core of its caller's thread; the caller took back one event at most
pub record IsJobHeld (lock : Lock) (j : Job) : Type 0 where
  pub here : j.pass.lock ≡ lock
  pub idle : j.pass.has_turn ≡ false
  pub run : IsRun j.pass.caller j.pass.own j.core
  pub once : withdrawals_by j.pass.caller j.pass.own ≤ 1

-- so, and it took back none, and its next ticket is known
pub record IsJobReady (lock : Lock) (j : Job) : Type 0 where
  pub held : IsJobHeld lock j
  pub none : withdrawals_by j.pass.caller j.pass.own ≡ 0
  pub ticket : j.ticket ≡ posts_by j.pass.caller j.pass.own

-- the same caller's job later on
pub record WorkGoesOn (i j : Job) : Type 0 where
  pub caller : j.pass.caller ≡ i.pass.caller
  pub text : j.core.thread ≡ i.core.thread
  pub held : IsJobHeld i.pass.lock j

-- the caller has ended, or was told to come back, or the board is stuck
abbrev pub WorkHasStopped : Knowledge Entry → Type 0
WorkHasStopped p = HasEnded p ⊎ (HasStuck (board_of p) ⊎ HasRest (board_of p))

pub record Worked (i j : Job) : Type 0 where
  pub goes : WorkGoesOn i j
  pub stopped : WorkHasStopped j.pass

-- the job of each caller, in order, with the core of the thread of this number
pub record AreJobsOf (threads : List Thread) (lock : Lock) (jobs : List Job) : Type 0 where
  pub count : length jobs ≡ length threads
  pub each : (k : ℕ) (j : Job) → slice_get jobs k ≡ Some j → IsJobReady lock j × (j.pass.caller ≡ k) × (slice_get threads k ≡ Some j.core.thread)

-- the job of a pass that has done nothing yet, with the core of the thread of its caller's number
pub record IsFirstJob (threads : List Thread) (p : Knowledge Entry) (j : Job) : Type 0 where
  pub pass : j.pass ≡ p
  pub text : slice_get threads p.caller ≡ Some j.core.thread
  pub core : j.core ≡ core_after j.core.thread []
  pub ticket : j.ticket ≡ 0
