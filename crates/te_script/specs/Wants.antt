-- How a core tells its wish.
use Rattle.std.specs.Prelude.{◌≡◌, ℕ, List, length, Some, slice_get}
use Rattle.te_terms.specs.declared.value.Atom.{Atom}
use Rattle.te_terms.specs.Terms.{Term, closed}
use Rattle.te_script.specs.declared.wish.Want.{Want}
use Rattle.te_script.specs.declared.wish.Want.TheVariants as wants
use Rattle.te_script.specs.Scripts.{Thread, sync}
use Rattle.te_script.specs.Wishes.{Wish, syncs, done, raised}
use Rattle.te_terms.specs.Limits.{most_registers}

abbrev pub IsWant : Wish → Want → Type 0
IsWant (syncs t) (wants.Sync event) = t ≡ event
IsWant (done values) wants.Done = Unit {0}
IsWant (raised v) (wants.Raised w) = v ≡ w
IsWant _ _ = ⊥

-- the event of one of the thread's sync statements, in which each register has a value
pub record IsOfStatement (t : Thread) (event : Term) : Type 0 where
  pub place : ℕ
  pub register : ℕ
  pub term : Term
  pub regs : List (List Atom)
  pub stands : slice_get t.statements place ≡ Some (sync register term)
  pub eight : length regs ≡ most_registers
  pub closed_so : event ≡ closed regs term

abbrev pub IsOfText : Thread → Want → Type 0
IsOfText t (wants.Sync event) = IsOfStatement t event
IsOfText t wants.Done = Unit {0}
IsOfText t (wants.Raised v) = Unit {0}
