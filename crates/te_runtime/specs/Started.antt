-- What is kept while jobs are started and joined. No clause of a public call cites this module.
use Rattle.std.specs.Prelude.{◌≡◌, List, [], ◌∷◌, ◌++◌, map}
use Rattle.std.specs.List.{AllZip}
use Rattle.te_script.specs.Cores.{At}
use Rattle.te_lock.specs.Lock.{Knowledge}
use Rattle.te_history.specs.declared.entry.Entry.{Entry}
use Rattle.te_runtime.specs.declared.working.Job.{Job}
use Rattle.te_runtime.specs.declared.running.Started.{Started}
use Rattle.te_runtime.specs.declared.running.Started.TheVariants.{There, Here}
use Rattle.te_runtime.specs.Working.{Worked}

-- a job was started in a thread of its own, or was done here
abbrev pub IsStarted : Job → Started → Type 0
IsStarted j (There handle) = handle.promise.0.value ≡ j
IsStarted j (Here done) = Worked j done

abbrev pub reversed : {X : Type 0} → List X → List X
reversed [] = []
reversed (x ∷ xs) = reversed xs ++ x ∷ []

-- some jobs from the end were started, the last one first
pub record AreStarted (jobs left : List Job) (started : List Started) : Type 0 where
  pub taken : List Job
  pub begun : List Started
  pub jobs_are : jobs ≡ left ++ taken
  pub started_are : started ≡ reversed begun
  pub each : AllZip IsStarted taken begun

-- the passes and the cores of jobs that came back worked, in order
pub record AreLeft (jobs : List Job) (passes : List (Knowledge Entry)) (cores : List At) : Type 0 where
  pub done : List Job
  pub worked : AllZip Worked jobs done
  pub passes_are : passes ≡ map (λ d. d.pass) done
  pub cores_are : cores ≡ map (λ d. d.core) done

-- some jobs from the front came back worked, and the others are started
pub record AreJoined (jobs : List Job) (started : List Started) (passes : List (Knowledge Entry)) (cores : List At) : Type 0 where
  pub first : List Job
  pub second : List Job
  pub begun : List Started
  pub jobs_are : jobs ≡ first ++ second
  pub started_are : started ≡ reversed begun
  pub each : AllZip IsStarted second begun
  pub left : AreLeft first passes cores
