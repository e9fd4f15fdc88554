-- Paths: partial runs of one thread, each a tree of what it rests on. This project's own.
use Rattle.std.specs.Prelude.{◌≡◌, ◌⊎◌, ℕ, suc, List, [], ◌∷◌, ◌++◌, Bool, Option, Some, None}
use Rattle.te_terms.specs.Joint.{Label, choice, meeting}

-- the event of a thread; a path after a choice, true for the left; and the two ends of a meeting of a sender's and a receiver's path
pub data Path : Type 0 where
  planted : ℕ → Path
  branched : Path → Bool → Path
  sent : Path → Path → Path
  got : Path → Path → Path

abbrev pub thread_of : Path → ℕ
thread_of (planted t) = t
thread_of (branched p left) = thread_of p
thread_of (sent s r) = thread_of s
thread_of (got s r) = thread_of r

-- the path before the last move
abbrev pub parent_of : Path → Option Path
parent_of (planted t) = None
parent_of (branched p left) = Some p
parent_of (sent s r) = Some s
parent_of (got s r) = Some r

-- the number of the thread's own choices and meetings
abbrev pub depth_of : Path → ℕ
depth_of (planted t) = 0
depth_of (branched p left) = suc (depth_of p)
depth_of (sent s r) = suc (depth_of s)
depth_of (got s r) = suc (depth_of r)

-- the thread's own choices and meetings, in order
abbrev pub own_labels : Path → List Label
own_labels (planted t) = []
own_labels (branched p left) = own_labels p ++ (choice (thread_of p) left ∷ [])
own_labels (sent s r) = own_labels s ++ (meeting (thread_of s) (thread_of r) ∷ [])
own_labels (got s r) = own_labels r ++ (meeting (thread_of s) (thread_of r) ∷ [])

-- ---- lines

-- x is y or an ancestor of it
abbrev pub IsAbove : Path → Path → Type 0
IsAbove x (planted t) = x ≡ planted t
IsAbove x (branched p left) = (x ≡ branched p left) ⊎ IsAbove x p
IsAbove x (sent s r) = (x ≡ sent s r) ⊎ IsAbove x s
IsAbove x (got s r) = (x ≡ got s r) ⊎ IsAbove x r

-- one of the two is the other or an ancestor of it
abbrev pub OnOneLine : Path → Path → Type 0
OnOneLine x y = IsAbove x y ⊎ IsAbove y x

-- ---- pasts

-- the move that made a path: one meeting makes both of its ends
abbrev pub move_of : Path → Path
move_of (planted t) = planted t
move_of (branched p left) = branched p left
move_of (sent s r) = sent s r
move_of (got s r) = sent s r

-- the move is in the past of the path, which is all moves that it rests on
abbrev pub RestsOn : Path → Path → Type 0
RestsOn m (planted t) = m ≡ planted t
RestsOn m (branched p left) = (m ≡ branched p left) ⊎ RestsOn m p
RestsOn m (sent s r) = (m ≡ sent s r) ⊎ (RestsOn m s ⊎ RestsOn m r)
RestsOn m (got s r) = (m ≡ sent s r) ⊎ (RestsOn m s ⊎ RestsOn m r)
