-- What is kept while the passes of a lock are joined into one.
use Rattle.std.specs.Prelude.{◌≡◌, ◌≤◌, ℕ, All, List, length}
use mathlib.Core.List.{IsPrefix}
use Rattle.te_lock.specs.declared.view.View.{View}
use Rattle.te_lock.specs.Entries.{entries_by}
use Rattle.te_lock.specs.Lock.{Knowledge}
use Rattle.te_lock.specs.Rule.{Stands, Sees}

-- what a pass knows is so of a list
pub record IsKnown {E : Type 0} (author : E → ℕ) (list : List E) (p : Knowledge E) : Type 0 where
  pub read : IsPrefix p.read list
  pub known : All (λ l. IsPrefix l list) p.known
  pub front : p.front ≤ length list
  pub own : entries_by author p.caller list ≡ p.own

-- the view has all that the pass knows: its caller number stands there, and whatever list the view sees, what the pass knows is so of it
pub record HasAllOf {E : Type 0} (author : E → ℕ) (v : View E) (p : Knowledge E) : Type 0 where
  pub stands : Stands p.caller v
  pub knows : (list : List E) → Sees author list v → IsKnown author list p
