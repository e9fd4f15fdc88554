-- The member that a path stands at.
use Rattle.std.specs.Prelude.{◌≡◌, ℕ, Bool, ◌==◌, List, [], Option, Some, None, if◌then◌else◌}
use Rattle.std.specs.Option.{option_map, option_and_then}
use Rattle.te_terms.specs.Steps.{Member, at_term, giving, with_head}
use Rattle.te_terms.specs.Joint.{Message, after_choice, sending, receiving, member_of}
use Rattle.te_terms.specs.Settling.{settled}
use Rattle.te_trail.specs.Paths.{Path, planted, branched, sent, got}

-- the member after the choice
abbrev pub chosen : Bool → Member → Option Member
chosen left m = option_map (at_term m) (after_choice left m.term)

-- both ends of a meeting, before their quiet steps
pub record MovedEnds : Type 0 where
  pub sender : Member
  pub receiver : Member

-- the sender goes on with (), the receiver with the value
abbrev pub members_met_by : Member → Member → Option Message → Option ℕ → Option MovedEnds
members_met_by s r (Some m) (Some c) = if m.channel == c then Some (record { sender = at_term s (with_head (giving []) s.term); receiver = at_term r (with_head (giving m.value) r.term) }) else None
members_met_by s r _ _ = None

abbrev pub members_met : Member → Member → Option MovedEnds
members_met s r = members_met_by s r (sending s.term) (receiving r.term)

-- the member that the path leaves of its thread, with no quiet step left
abbrev pub path_state : List Member → Path → Option Member
path_state g (planted t) = option_map settled (member_of t g)
path_state g (branched p left) = option_and_then (λ m. option_map settled (chosen left m)) (path_state g p)
path_state g (sent s r) = option_and_then (λ a. option_and_then (λ b. option_map (λ e. settled e.sender) (members_met a b)) (path_state g r)) (path_state g s)
path_state g (got s r) = option_and_then (λ a. option_and_then (λ b. option_map (λ e. settled e.receiver) (members_met a b)) (path_state g r)) (path_state g s)

-- there is such a member
abbrev pub HasState : List Member → Path → Type 0
HasState g p = (m : Member) × (path_state g p ≡ Some m)
