-- What contracts see of a lock and of a pass.
use Rattle.std.specs.Prelude.{◌≡◌, ℕ, zero, suc, ◌%◌, Bool, false, All, List, [], ◌∷◌, ◌++◌}
use Rattle.atomic_table.specs.Seated.{TableId}

-- which lock it is, and its number of callers
pub record Lock : Type 0 where
  pub table : TableId
  pub callers : ℕ

-- what a pass knows: its lock and caller number; a beginning of the history that it read, and how long it saw the history;
-- its own entries; the words that its looks found while it had not the turn, in order; lists that the history is known to
-- begin with; whether it has the turn
pub record Knowledge (E : Type 0) : Type 0 where
  pub lock : Lock
  pub caller : ℕ
  pub read : List E
  pub front : ℕ
  pub own : List E
  pub looks : List ℕ
  pub known : List (List E)
  pub has_turn : Bool

-- what a note has: its lock, and what its pass had read, how long it had seen the history, and which lists it knew
pub record Noted (E : Type 0) : Type 0 where
  pub lock : Lock
  pub read : List E
  pub front : ℕ
  pub known : List (List E)

module _ {E : Type 0} where
  -- the note of a pass
  abbrev pub note_of : Knowledge E → Noted E
  note_of p = record { lock = p.lock; read = p.read; front = p.front; known = p.known }

  -- the pass of a new lock that has this caller number
  abbrev pub new_pass : Lock → ℕ → Knowledge E
  new_pass lock caller = record { lock = lock; caller = caller; read = []; front = 0; own = []; looks = []; known = []; has_turn = false }

  -- the passes of a new lock below a caller number, in order
  abbrev pub new_passes : Lock → ℕ → List (Knowledge E)
  new_passes lock zero = []
  new_passes lock (suc n) = new_passes lock n ++ new_pass lock n ∷ []

  -- the same caller's pass of the same lock
  abbrev pub IsSamePass : Knowledge E → Knowledge E → Type 0
  IsSamePass p q = (q.lock ≡ p.lock) × (q.caller ≡ p.caller)

-- the looks grew by odd words, and then by this word
abbrev pub WaitsFor : ℕ → List ℕ → List ℕ → Type 0
WaitsFor last before after = (waited : List ℕ) × All (λ word. word % 2 ≡ 1) waited × (after ≡ (before ++ waited) ++ last ∷ [])
