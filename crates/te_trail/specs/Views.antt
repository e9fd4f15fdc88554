-- Chains of joint steps, what a thread sees of one, and the names of paths and partial groups. No numbered path and no clock stands here.
use Rattle.std.specs.Prelude.{◌≡◌, ℕ, List, [], ◌∷◌, ◌++◌, map, Bool, cond, nat_eq, ◌||◌, Option, Some}
use Rattle.te_terms.specs.declared.event.Outcome.{Outcome}
use Rattle.te_terms.specs.Steps.{Member, outcome_of}
use Rattle.te_terms.specs.Joint.{Label, choice, meeting, Action, labels, after, member_of}
use Rattle.te_trail.specs.Paths.{Path, thread_of, own_labels, move_of, RestsOn}
use Rattle.te_trail.specs.States.{path_state}

-- a chain of joint steps with these labels
pub record Chain (g : List Member) (word : List Label) : Type 0 where
  pub actions : List Action
  pub end : List Member
  pub reaches : after actions g ≡ Some end
  pub labels_are : labels actions ≡ word

-- ---- views

-- whether the choice or meeting is one of the thread's
abbrev pub touches : ℕ → Label → Bool
touches t (choice s left) = nat_eq s t
touches t (meeting s r) = nat_eq s t || nat_eq r t

-- the thread's own choices and meetings, each meeting with partner and direction
abbrev pub view_of : ℕ → List Label → List Label
view_of t [] = []
view_of t (l ∷ ls) = cond (touches t l) (l ∷ view_of t ls) (view_of t ls)

abbrev pub Begins : List Label → List Label → Type 0
Begins a b = (more : List Label) × (b ≡ a ++ more)

-- ---- chains and pasts

-- the labels have the past of p: each path that p rests on has made its own moves, before all others of its thread
abbrev pub HasPast : Path → List Label → Type 0
HasPast p word = (z : Path) → RestsOn (move_of z) p → Begins (own_labels z) (view_of (thread_of z) word)

-- the thread of p has made the moves of p and no others, and stands at its member
pub record LeavesAt (g : List Member) (word : List Label) (end : List Member) (p : Path) : Type 0 where
  pub moves : view_of (thread_of p) word ≡ own_labels p
  pub member : member_of (thread_of p) end ≡ path_state g p

-- one chain of joint steps has both pasts, and leaves both threads at p and q
pub record ChainOfBoth (g : List Member) (p q : Path) : Type 0 where
  pub word : List Label
  pub chain : Chain g word
  pub past_first : HasPast p word
  pub past_second : HasPast q word
  pub leaves_first : LeavesAt g word chain.end p
  pub leaves_second : LeavesAt g word chain.end q

-- ---- names

-- a member by its thread, and the view of each member
pub record Name : Type 0 where
  pub thread : ℕ
  pub views : List (List Label)

abbrev pub path_name_of : List Member → ℕ → List Label → Name
path_name_of g t word = record { thread = t; views = map (λ m. view_of m.thread word) g }

-- a member, and the views of a chain from all events
pub record IsPathName (g : List Member) (name : Name) : Type 0 where
  pub word : List Label
  pub chain : Chain g word
  pub member : Member
  pub is_member : member_of name.thread g ≡ Some member
  pub views : name ≡ path_name_of g name.thread word

-- with the member final in the end
pub record IsGroupName (g : List Member) (name : Name) : Type 0 where
  pub word : List Label
  pub chain : Chain g word
  pub member : Member
  pub is_member : member_of name.thread chain.end ≡ Some member
  pub outcome : Outcome
  pub is_final : outcome_of member.term ≡ Some outcome
  pub views : name ≡ path_name_of g name.thread word
