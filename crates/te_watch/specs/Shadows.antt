-- What observers see of a history: its shadow. This project's own.
use Rattle.std.specs.Prelude.{ℕ, suc, Bool, List, [], ◌∷◌, map, take, length}
use Rattle.te_history.specs.declared.entry.Entry.{Entry}
use Rattle.te_history.specs.declared.entry.Entry.TheVariants as entries
use Rattle.te_history.specs.declared.status.Phase.{Phase}
use Rattle.te_history.specs.State.{Standing, idle, parked, given, ended, state}
use Rattle.te_history.specs.Histories.{phase_of}
use Rattle.te_watch.specs.declared.light.Light.{Light}
use Rattle.te_watch.specs.declared.light.Light.TheVariants as lights
use Rattle.te_watch.specs.declared.view.View.{View}

-- the length of a history, the number of its commits, whether it is stuck or resting, and a light for each caller
pub record Shadow : Type 0 where
  pub front : ℕ
  pub commits : ℕ
  pub phase : Phase
  pub resting : Bool
  pub lights : List Light

-- where a caller stands, without its event and its outcome
abbrev pub light_of : Standing → Light
light_of idle = lights.Idle
light_of (parked ticket event) = lights.Parked ticket
light_of (given ticket outcome) = lights.Given ticket
light_of ended = lights.Ended

-- how many entries are commits, whatever the number of their members
abbrev pub commits_of : List Entry → ℕ
commits_of [] = 0
commits_of (entries.Commit by cert outcomes ∷ es) = suc (commits_of es)
commits_of (e ∷ es) = commits_of es

-- the shadow of a history of so many callers
abbrev pub shadow : ℕ → List Entry → Shadow
shadow callers list = record {
  front = length list;
  commits = commits_of list;
  phase = phase_of (state callers list);
  resting = (state callers list).resting;
  lights = map light_of (state callers list).callers;
}

-- the shadow that a view shows
abbrev pub shadow_of : View → Shadow
shadow_of v = record { front = v.front; commits = v.commits; phase = v.phase; resting = v.resting; lights = take v.callers v.lights }
