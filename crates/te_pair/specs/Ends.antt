-- Paths that wait, and which of them a path can meet. Sends and receives are those of Donnelly and Fluet, Transactional Events, JFP 18(5-6), 2008; kept paths are this project's own.
use Rattle.std.specs.Prelude.{◌≡◌, ◌≢◌, ℕ, List, [], ◌∷◌, ◌++◌, map, Bool, true, false, not, nat_eq, ◌&&◌, Some, slice_get}
use Rattle.std.specs.List.{All, Contains, filter}
use Rattle.te_terms.specs.Steps.{Member}
use Rattle.te_terms.specs.Joint.{Message, sending, receiving}
use Rattle.te_trail.specs.Paths.{Path}
use Rattle.te_trail.specs.States.{path_state}
use Rattle.te_trail.specs.Trails.{Trail, AreAgreeing}
use Rattle.te_pair.specs.declared.end.End.{End}

-- the member stands at a send, or else at a receive, on the channel
abbrev pub StandsOn : Bool → ℕ → Member → Type 0
StandsOn true channel m = (message : Message) × (sending m.term ≡ Some message) × (message.channel ≡ channel)
StandsOn false channel m = receiving m.term ≡ Some channel

-- the path is one of the store, and stands so in it
pub record IsEnd (store : Trail) (e : End) : Type 0 where
  pub of : Path
  pub made : slice_get store.paths e.path ≡ Some of
  pub member : Member
  pub state : path_state store.events of ≡ Some member
  pub stands : StandsOn e.sends e.channel member

abbrev pub AreEnds : Trail → List End → Type 0
AreEnds store kept = All (IsEnd store) kept

-- path p stands at a send or a receive
abbrev pub IsAtEnd : Trail → ℕ → Type 0
IsAtEnd store p = (x : Path) (m : Member) → slice_get store.paths p ≡ Some x → path_state store.events x ≡ Some m → (sends : Bool) × (channel : ℕ) × StandsOn sends channel m

-- ---- keeping

abbrev pub path_of : End → ℕ
path_of e = e.path

abbrev pub paths_kept : List End → List ℕ
paths_kept ends = map path_of ends

abbrev pub PathIsKept : List End → ℕ → Type 0
PathIsKept kept p = Contains (paths_kept kept) p

-- path p is kept behind the others, as it stands
pub record IsAdded (store : Trail) (old : List End) (p : ℕ) (new : List End) : Type 0 where
  pub end : End
  pub path : end.path ≡ p
  pub is_end : IsEnd store end
  pub added : new ≡ old ++ end ∷ []

-- ---- a direction and a channel

abbrev pub is_at : ℕ → Bool → End → Bool
is_at channel true e = nat_eq e.channel channel && e.sends
is_at channel false e = nat_eq e.channel channel && not e.sends

-- the kept paths of a direction and channel, in the order of adding
abbrev pub paths_at : ℕ → Bool → List End → List ℕ
paths_at channel sends kept = paths_kept (filter (is_at channel sends) kept)

-- ---- partners

-- q is a kept path of the other direction on the channel at which p stands, and the two agree
pub record IsPartner (store : Trail) (kept : List End) (p q : ℕ) : Type 0 where
  pub own : End
  pub own_path : own.path ≡ p
  pub own_end : IsEnd store own
  pub other : End
  pub other_path : other.path ≡ q
  pub other_kept : Contains kept other
  pub channel : other.channel ≡ own.channel
  pub direction : other.sends ≢ own.sends
  pub agree : AreAgreeing store p q
