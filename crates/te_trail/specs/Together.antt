-- Pasts of several paths together, and what clocks say of a past.
use Rattle.std.specs.Prelude.{◌≡◌, ◌⊎◌, ℕ, List, Some}
use Rattle.te_terms.specs.Steps.{Member}
use Rattle.te_terms.specs.Joint.{Label}
use Rattle.te_trail.specs.Paths.{Path, thread_of, IsAbove, move_of, RestsOn}
use Rattle.te_trail.specs.Clocks.{clock_of, Agree}
use Rattle.te_trail.specs.Stores.{Holds}
use Rattle.te_trail.specs.Views.{Chain, HasPast, LeavesAt}

-- one chain has the moves of these paths' pasts as its labels, in order of making; each path's thread is left at it
pub record ChainOfAll (g : List Member) (word : List Label) (ps : List Path) : Type 0 where
  pub chain : Chain g word
  pub leaves : (p : Path) → Holds ps p → LeavesAt g word chain.end p
  pub pasts : (p : Path) → Holds ps p → HasPast p word

-- each two of the paths are one path or agree
abbrev pub AllAgree : List Path → Type 0
AllAgree ps = (p q : Path) → Holds ps p → Holds ps q → (p ≡ q) ⊎ Agree p q

abbrev pub AreAmong : List Path → List Path → Type 0
AreAmong ps paths = (p : Path) → Holds ps p → Holds paths p

-- the clock names the deepest path of the thread in the past, where the past has one
pub record NamesDeepest (p : Path) : Type 0 where
  pub in_past : (t : ℕ) (c : Path) → clock_of p t ≡ Some c → (thread_of c ≡ t) × RestsOn (move_of c) p
  pub deepest : (x : Path) → RestsOn (move_of x) p → (c : Path) × (clock_of p (thread_of x) ≡ Some c) × IsAbove x c
