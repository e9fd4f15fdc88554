-- Paths in the order of making, and their trails.
use Rattle.std.specs.Prelude.{◌≡◌, ◌⊎◌, ℕ, suc, List, [], ◌∷◌, ◌++◌, Bool, true, false, cond, ◌&&◌, ◌||◌, nat_eq, Option, Some, slice_get}
use Rattle.te_terms.specs.Steps.{Member}
use Rattle.te_terms.specs.Joint.{Label, choice, meeting}
use Rattle.te_trail.specs.Paths.{Path, planted, branched, sent, got, thread_of, move_of}
use Rattle.te_trail.specs.Clocks.{IsSound}
use Rattle.te_trail.specs.States.{HasState}

abbrev pub Holds : List Path → Path → Type 0
Holds [] x = ⊥
Holds (y ∷ ys) x = (x ≡ y) ⊎ Holds ys x

-- ---- how paths are made

-- the next path after these moves: the moves of what it is made of are there, and it is new. The receiver's end follows its move
abbrev pub IsNext : List Path → Path → Type 0
IsNext moves (planted t) = ¬ Holds moves (planted t)
IsNext moves (branched p left) = Holds moves (move_of p) × (¬ Holds moves (branched p left))
IsNext moves (sent s r) = Holds moves (move_of s) × Holds moves (move_of r) × (¬ Holds moves (sent s r))
IsNext moves (got s r) = Holds moves (sent s r)

-- the moves so far, the newest first
abbrev pub with_move : List Path → Path → List Path
with_move moves (planted t) = planted t ∷ moves
with_move moves (branched p left) = branched p left ∷ moves
with_move moves (sent s r) = sent s r ∷ moves
with_move moves (got s r) = moves

abbrev pub with_moves : List Path → List Path → List Path
with_moves moves [] = moves
with_moves moves (x ∷ rest) = with_moves (with_move moves x) rest

abbrev pub AreMade : List Path → List Path → Type 0
AreMade moves [] = Unit {0}
AreMade moves (x ∷ rest) = IsNext moves x × AreMade (with_move moves x) rest

-- paths of these events, the oldest first: each is made of earlier ones and stands at a member, each meeting is of
-- agreeing paths and makes both of its ends one after the other, and no path comes twice
pub record IsStore (g : List Member) (paths : List Path) : Type 0 where
  pub made : AreMade [] paths
  pub sound : (x : Path) → Holds paths x → IsSound x
  pub state : (x : Path) → Holds paths x → HasState g x
  pub once : (i j : ℕ) (x : Path) → slice_get paths i ≡ Some x → slice_get paths j ≡ Some x → i ≡ j
  pub pairs : (i : ℕ) (s r : Path) → slice_get paths i ≡ Some (sent s r) → slice_get paths (suc i) ≡ Some (got s r)

-- ---- trails

-- what a move is labelled with
abbrev pub labels_of_move : Path → List Label
labels_of_move (planted t) = []
labels_of_move (branched p left) = choice (thread_of p) left ∷ []
labels_of_move (sent s r) = meeting (thread_of s) (thread_of r) ∷ []
labels_of_move (got s r) = []

-- the choices and meetings of a set of moves, in order of making
abbrev pub labels_of : (Path → Bool) → List Path → List Label
labels_of has [] = []
labels_of has (x ∷ rest) = cond (has x) (labels_of_move x) [] ++ labels_of has rest

abbrev pub same_side : Bool → Bool → Bool
same_side true k = k
same_side false true = false
same_side false false = true

abbrev pub same_path : Path → Path → Bool
same_path (planted t) (planted u) = nat_eq t u
same_path (branched p left) (branched q k) = same_path p q && same_side left k
same_path (sent s r) (sent a b) = same_path s a && same_path r b
same_path (got s r) (got a b) = same_path s a && same_path r b
same_path _ _ = false

-- whether the path rests on the move
abbrev pub rests_on : Path → Path → Bool
rests_on (planted t) m = same_path m (planted t)
rests_on (branched p left) m = same_path m (branched p left) || rests_on p m
rests_on (sent s r) m = same_path m (sent s r) || (rests_on s m || rests_on r m)
rests_on (got s r) m = same_path m (sent s r) || (rests_on s m || rests_on r m)

-- whether one of the paths rests on the move
abbrev pub any_rests_on : List Path → Path → Bool
any_rests_on [] m = false
any_rests_on (p ∷ ps) m = rests_on p m || any_rests_on ps m

-- the choices and meetings of a path's past, in order of making
abbrev pub trail_of : List Path → Path → List Label
trail_of paths p = labels_of (rests_on p) paths

-- those of the pasts of some paths together
abbrev pub joint_trail : List Path → List Path → List Label
joint_trail paths ps = labels_of (any_rests_on ps) paths
