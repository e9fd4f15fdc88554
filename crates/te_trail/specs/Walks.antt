-- What walks along lines and clocks tell. No public clause cites this module.
use Rattle.std.specs.Prelude.{◌≡◌, ◌≢◌, ◌<◌, ℕ, List, length, Option, Some, None, slice_get, Bool, true, false, nat_eq, MatchBool, IsTrue, cond, [], ◌∷◌}
use Rattle.te_trail.specs.declared.ticks.Tick.{Tick}
use Rattle.te_trail.specs.Paths.{Path, planted, branched, sent, parent_of, IsAbove, OnOneLine, move_of, RestsOn}
use Rattle.te_trail.specs.Stores.{labels_of_move, rests_on}
use Rattle.te_trail.specs.declared.moves.Move.{Move}
use Rattle.te_terms.specs.Steps.{Member}
use Rattle.te_terms.specs.Joint.{Label}
use Rattle.te_trail.specs.Trails.{TellsWhether, label_of}
use Rattle.te_trail.specs.Ticks.{named}

-- the number of the parent, where there is one
abbrev pub TellsParent : List Path → ℕ → Option ℕ → Type 0
TellsParent paths p None = (x : Path) → slice_get paths p ≡ Some x → parent_of x ≡ None
TellsParent paths p (Some r) = (r < p) × ((x : Path) → slice_get paths p ≡ Some x → (y : Path) × (slice_get paths r ≡ Some y) × (parent_of x ≡ Some y))

-- on one line, the second not deeper where `own`, the first not deeper where `other`
abbrev pub FitAt : Bool → Bool → Path → Path → Type 0
FitAt own other a b = OnOneLine a b × (IsTrue own → IsAbove b a) × (IsTrue other → IsAbove a b)

-- the threads that both lists name fit
abbrev pub AllFit : (ℕ → ℕ → ℕ → Type 0) → List Tick → List Tick → Type 0
AllFit F ks js = (t m n : ℕ) → named t ks ≡ Some m → named t js ≡ Some n → F t m n

-- the two paths of the thread fit, for paths of the threads s and r
abbrev pub FittingFor : List Path → ℕ → ℕ → ℕ → ℕ → ℕ → Type 0
FittingFor paths s r t m n = TellsWhether paths m n (FitAt (nat_eq t s) (nat_eq t r)) true

-- a thread's two paths don't fit
pub record Misfit (paths : List Path) (s r : ℕ) (ks js : List Tick) : Type 0 where
  pub of : ℕ
  pub first : ℕ
  pub second : ℕ
  pub named_first : named of ks ≡ Some first
  pub named_second : named of js ≡ Some second
  pub tells : TellsWhether paths first second (FitAt (nat_eq of s) (nat_eq of r)) false

-- the ticks name paths of the store
abbrev pub TicksAreLow : List Path → List Tick → Type 0
TicksAreLow paths ks = (t m : ℕ) → named t ks ≡ Some m → m < length paths

abbrev pub TellsFit : List Path → ℕ → ℕ → List Tick → List Tick → Bool → Type 0
TellsFit paths s r ks js answer = MatchBool answer (AllFit (FittingFor paths s r) ks js) (Misfit paths s r ks js)

-- ---- pasts

-- the move that made y is in the past of x
abbrev pub IsInPast : Path → Path → Type 0
IsInPast x y = RestsOn (move_of y) x

abbrev pub labels_told : Option Move → List Label
labels_told None = []
labels_told (Some m) = label_of m ∷ []

abbrev pub TellsMove : List Path → ℕ → Option Move → Type 0
TellsMove paths i told = (y : Path) → slice_get paths i ≡ Some y → labels_told told ≡ labels_of_move y

abbrev pub TellsPastMove : List Path → ℕ → ℕ → Option Move → Type 0
TellsPastMove paths p i told = (x y : Path) → slice_get paths p ≡ Some x → slice_get paths i ≡ Some y → labels_told told ≡ cond (rests_on x y) (labels_of_move y) []

-- ---- what isn't there

abbrev pub NoneBefore : (ℕ → Type 0) → ℕ → Type 0
NoneBefore P i = (k : ℕ) → k < i → P k

abbrev pub IsNoPlanting : List Path → ℕ → ℕ → Type 0
IsNoPlanting paths t k = (y : Path) → slice_get paths k ≡ Some y → y ≢ planted t

abbrev pub IsNoBranch : List Path → ℕ → Bool → ℕ → Type 0
IsNoBranch paths p left k = (x y : Path) → slice_get paths p ≡ Some x → slice_get paths k ≡ Some y → y ≢ branched x left

abbrev pub IsNoMeeting : List Path → ℕ → ℕ → ℕ → Type 0
IsNoMeeting paths p q k = (x z y : Path) → slice_get paths p ≡ Some x → slice_get paths q ≡ Some z → slice_get paths k ≡ Some y → y ≢ sent x z

abbrev pub IsNoEvent : List Member → ℕ → ℕ → Type 0
IsNoEvent g t k = (m : Member) → slice_get g k ≡ Some m → m.thread ≢ t
