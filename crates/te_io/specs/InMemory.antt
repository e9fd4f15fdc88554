-- What the sources and sinks over memory are and do, call by call. Calls are numbered from 1.
use Rattle.std.specs.Prelude.{◌≡◌, ◌⊎◌, ◌<◌, ◌≤◌, ◌-◌, ℕ, List, length, min, Contains}
use Rattle.te_io.specs.Causes.{counted_more}

-- a `MemSource`: the bytes it still holds, and how many a call gives at most
pub record MemSourceState : Type 0 where
  pub left : List ℕ
  pub piece : ℕ
  -- the numbers of the calls that are to fail, how many calls there were, and how many of them failed
  pub failing : List ℕ
  pub calls : ℕ
  pub faults : ℕ

-- a `MemSink`: the bytes it holds, how many it has room for, and how many a call takes at most
pub record MemSinkState : Type 0 where
  pub held : List ℕ
  pub room : ℕ
  pub piece : ℕ
  -- as of a `MemSource`
  pub failing : List ℕ
  pub calls : ℕ
  pub faults : ℕ

-- a `SteadySink`: the bytes it holds, how many it has room for, and how often it failed
pub record SteadySinkState : Type 0 where
  pub held : List ℕ
  pub room : ℕ
  pub faults : ℕ

-- the next call is one of those that are to fail
abbrev pub FailsNext : List ℕ → ℕ → Type 0
FailsNext failing calls = Contains failing (counted_more calls)

-- how many of so many bytes a call takes
abbrev pub share_of : MemSinkState → ℕ → ℕ
share_of sink offered = min sink.piece (min offered (sink.room - length sink.held))

-- the next call, with a piece of so many bytes, is to fail, or finds the room used up, or would take nothing of something
abbrev pub Refuses : MemSinkState → ℕ → Type 0
Refuses sink offered =
    FailsNext sink.failing sink.calls ⊎ ((sink.room ≤ length sink.held) ⊎ ((0 < offered) × (share_of sink offered ≡ 0)))
