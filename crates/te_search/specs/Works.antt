-- How a search keeps its work. No public clause cites this module.
use Rattle.std.specs.Prelude.{◌≡◌, ◌⊎◌, ◌≤◌, ◌<◌, ◌+◌, ℕ, List, [], ◌∷◌, ◌++◌, map, length, Bool, true, false, not, Option, Some, None, slice_get, MatchBool, MatchOption}
use Rattle.std.proofs.Common.{Vec, Global}
use Rattle.std.specs.List.{AllByRecursion}
use Rattle.te_terms.specs.Steps.{Member}
use Rattle.te_terms.specs.Joint.{Label, Message, sending, receiving}
use Rattle.te_trail.specs.declared.moves.Move.{Move}
use Rattle.te_trail.specs.Trails.{Trail, label_of, AreAgreeing, AreUnmet}
use Rattle.te_trail.specs.Trails as trails
use Rattle.te_trail.specs.Paths.{Path, sent, got}
use Rattle.te_trail.specs.Clocks.{Agree}
use Rattle.te_trail.specs.States.{path_state}
use Rattle.te_trail.specs.Stores.{Holds, IsStore, labels_of_move}
use Rattle.te_pair.specs.declared.end.End.{End}
use Rattle.te_pair.specs.Ends.{paths_kept, paths_at}
use Rattle.te_search.specs.declared.work.Work.{Work}
use Rattle.te_search.specs.declared.finals.Final.{Final}
use Rattle.te_search.specs.Finals.{numbers_of, TellThreads}
use Rattle.te_search.specs.Groups.{IsFinal, Partial, AreTried}
use Rattle.te_search.specs.Assemblies.{AssemblyStand, IsFound}
use Rattle.te_search.specs.Searching.{paths_by, AreUp, IsSearch}
use Rattle.te_trail.specs.Records.{path_at}

-- the numbers are those of paths
abbrev pub AreLow : List Path → List ℕ → Type 0
AreLow paths ns = (i n : ℕ) → slice_get ns i ≡ Some n → n < length paths

-- the path stands at a send or a receive on the channel
pub record WaitsOn (g : List Member) (x : Path) (channel : ℕ) (sends : Bool) : Type 0 where
  pub member : Member
  pub state : path_state g x ≡ Some member
  pub stands : MatchBool sends ((m : Message) × (sending member.term ≡ Some m) × (m.channel ≡ channel)) (receiving member.term ≡ Some channel)

abbrev pub EndsStand : List Member → List Path → List End → Type 0
EndsStand g paths ends = (i : ℕ) (e : End) (x : Path) → slice_get ends i ≡ Some e → slice_get paths e.path ≡ Some x → WaitsOn g x e.channel e.sends

-- what a move is labelled with, told once for both ends of a meeting
abbrev pub label_told : Option Move → List Label
label_told None = []
label_told (Some m) = label_of m ∷ []

-- the partial groups that were tried: so many, each of a start among the final paths
pub record IsCounted (g : List Member) (paths finals : List Path) (count : ℕ) : Type 0 where
  pub tried : List Partial
  pub count_is : length tried ≡ count
  pub are : AreTried g paths tried
  pub starts : AllByRecursion (λ q. Holds finals q.start) tried

-- the paths that are still to be worked on are these, and perhaps others in hand
pub record IsWorkOf (w : Work) (pending : List Path) : Type 0 where
  pub search : IsSearch w.store.events w.store.paths pending (paths_by w.store.paths (paths_kept w.waiting)) (paths_by w.store.paths (numbers_of w.finals))
  pub pending_low : AreLow w.store.paths w.pending.items
  pub waits_low : AreLow w.store.paths (paths_kept w.waiting)
  pub finals_low : AreLow w.store.paths (numbers_of w.finals)
  pub finals_told : TellThreads w.store.paths w.finals
  pub ends : EndsStand w.store.events w.store.paths w.waiting
  pub told_are : map label_told w.moves.items ≡ map labels_of_move w.store.paths
  pub counted : IsCounted w.store.events w.store.paths (paths_by w.store.paths (numbers_of w.finals)) w.groups

abbrev pub pending_of : Work → List Path
pending_of w = paths_by w.store.paths w.pending.items

abbrev pub IsWork : Work → Type 0
IsWork w = IsWorkOf w (pending_of w)

-- path p is in hand
abbrev pub IsWorkOn : Work → ℕ → Type 0
IsWorkOn w p = IsWorkOf w (pending_of w ++ (path_at w.store.paths p ∷ []))

-- new paths with their moves, which are still to be worked on
pub record Gains (old new : Work) (news : List Path) : Type 0 where
  pub paths : new.store.paths ≡ old.store.paths ++ news
  pub events : new.store.events ≡ old.store.events
  pub store : IsStore new.store.events new.store.paths
  pub pending : pending_of new ≡ pending_of old ++ news
  pub pending_low : AreLow new.store.paths new.pending.items
  pub moves : map label_told new.moves.items ≡ map label_told old.moves.items ++ map labels_of_move news
  pub waiting : new.waiting ≡ old.waiting
  pub finals : new.finals ≡ old.finals
  pub groups : new.groups ≡ old.groups

-- as many paths more are still to be worked on as were made
abbrev pub WorkGrows : Work → Work → Type 0
WorkGrows old new = (length new.pending.items + length old.store.paths ≡ length old.pending.items + length new.store.paths) × (length old.store.paths ≤ length new.store.paths)

-- the pair of paths that a meeting makes
abbrev pub met_paths : Bool → Path → Path → List Path
met_paths true x y = sent x y ∷ (got x y ∷ [])
met_paths false x y = sent y x ∷ (got y x ∷ [])

-- a sender's and a receiver's path can meet
pub record CanMeet (store : Trail) (p q : ℕ) : Type 0 where
  pub stand : trails.AreMeetingEnds store p q
  pub agree : AreAgreeing store p q
  pub unmet : AreUnmet store p q

-- where the two agree they can meet
abbrev pub IsReadyFor : Work → ℕ → ℕ → Bool → Type 0
IsReadyFor w p q sends = (x y : Path) → slice_get w.store.paths p ≡ Some x → slice_get w.store.paths q ≡ Some y → Agree x y → MatchBool sends (CanMeet w.store p q) (CanMeet w.store q p)

-- the two have met where they agree, and else nothing is new
abbrev pub MeetsOne : Work → Work → Path → Path → Bool → Type 0
MeetsOne old new x y sends = (Agree x y × Gains old new (met_paths sends x y)) ⊎ ((¬ Agree x y) × (new ≡ old))

-- the kept paths of the other direction on the channel
abbrev pub others_of : Work → ℕ → Bool → List ℕ
others_of w channel sends = paths_at channel (not sends) w.waiting

-- the path has met those among the first n of the others that agree, and nothing else is new
pub record IsMeeting (old new : Work) (x : Path) (sends : Bool) (others : List ℕ) (n : ℕ) : Type 0 where
  pub news : List Path
  pub gains : Gains old new news
  pub ups : AreUp new.store.paths
  pub made : (j q : ℕ) (y : Path) → j < n → slice_get others j ≡ Some q → slice_get old.store.paths q ≡ Some y → Agree x y → (z : Path) → Holds (met_paths sends x y) z → Holds news z
  pub from : (z : Path) → Holds news z → (j : ℕ) × (q : ℕ) × (y : Path) × (j < n) × (slice_get others j ≡ Some q) × (slice_get old.store.paths q ≡ Some y) × Agree x y
      × Holds (met_paths sends x y) z

-- it has met all that it can
abbrev pub HasMet : Work → Work → Path → ℕ → Bool → Type 0
HasMet old new x channel sends = IsMeeting old new x sends (others_of old channel sends) (length (others_of old channel sends))

-- paths and partial groups are at most the budget
abbrev pub IsWithinBudget : Work → ℕ → Type 0
IsWithinBudget w budget = length w.store.paths + w.groups ≤ budget

-- all of the budget is used, or all but one
abbrev pub IsNear : ℕ → ℕ → Type 0
IsNear used budget = (used ≡ budget) ⊎ (used + 1 ≡ budget)

-- paths of these events and partial groups of them, none twice, together more than the budget
pub record IsPassed (g : List Member) (budget : ℕ) : Type 0 where
  pub made : List Path
  pub store : IsStore g made
  pub tried : List Partial
  pub are : AreTried g made tried
  pub beyond : budget < length made + length tried

-- the budget is used, or all but one, and the store with these paths more would pass it
pub record RunsShort (w : Work) (budget : ℕ) : Type 0 where
  pub near : IsNear (length w.store.paths + w.groups) budget
  pub more : List Path
  pub store : IsStore w.store.events (w.store.paths ++ more)
  pub beyond : budget < length w.store.paths + length more + w.groups

-- the next step of a search of these events would pass the budget
pub record IsSpentAt (w : Work) (events : List Member) (budget : ℕ) : Type 0 where
  pub same : w.store.events ≡ events
  pub store : IsStore events w.store.paths
  pub finals : List Path
  pub counted : IsCounted events w.store.paths finals w.groups
  pub sum : IsNear (length w.store.paths + w.groups) budget
  pub passed : IsPassed events budget

-- a group was found: final paths that agree, whose joined past names only final paths
pub record IsHit (w : Work) (threads : List ℕ) (out : List (Option ℕ)) : Type 0 where
  pub stand : AssemblyStand w.store.events w.store.paths threads (numbers_of w.finals)
  pub start : Path
  pub final : IsFinal w.store.events start
  pub made : Holds w.store.paths start
  pub found : IsFound w.store.events w.store.paths threads start (start ∷ []) out
  pub told_are : map label_told w.moves.items ≡ map labels_of_move w.store.paths

-- the path in hand is done, or a group was found
abbrev pub StepEndsSo : Work → List ℕ → Option (Vec (Option ℕ) Global) → Type 0
StepEndsSo new threads found = MatchOption found (IsWork new) (λ v. IsHit new threads v.items)

abbrev pub threads_of : List Member → List ℕ
threads_of g = map (λ m. m.thread) g

-- nothing is left to do, or a group was found
abbrev pub SettlesSo : Work → List ℕ → Option (Vec (Option ℕ) Global) → Type 0
SettlesSo new threads found = MatchOption found (IsWork new × (new.pending.items ≡ [])) (λ v. IsHit new threads v.items)

-- ---- what stays

-- what there was stands where it stood: new paths, moves, waiting ends and final paths stand behind
pub record WorkKeeps (old new : Work) : Type 0 where
  pub events : new.store.events ≡ old.store.events
  pub marks : new.store.marks ≡ old.store.marks
  pub more_paths : List Path
  pub paths : new.store.paths ≡ old.store.paths ++ more_paths
  pub more_moves : List (Option Move)
  pub moves : new.moves.items ≡ old.moves.items ++ more_moves
  pub more_waiting : List End
  pub waiting : new.waiting ≡ old.waiting ++ more_waiting
  pub more_finals : List Final
  pub finals : new.finals ≡ old.finals ++ more_finals
