-- What a path state shows: where its term stands, and a step with all quiet steps after it.
use Rattle.std.specs.Prelude.{◌≡◌, ◌+◌, ◌≤◌, ℕ, List, [], Option, Some}
use Rattle.std.specs.Option.{option_map}
use Rattle.te_terms.specs.declared.value.Atom.{Atom}
use Rattle.te_terms.specs.declared.event.Outcome.TheVariants.{Gives, Raises}
use Rattle.te_terms.specs.Terms.{Term, never, choose}
use Rattle.te_terms.specs.Steps.{Member, giving, outcome_of, head, with_head, at_term}
use Rattle.te_terms.specs.Joint.{sending, receiving}
use Rattle.te_terms.specs.Settling.{settled}
use Rattle.te_terms.specs.Measures.{fresh_count}
use Rattle.te_terms.specs.Limits.{most_fresh}
use Rattle.te_path.specs.declared.spot.Stop.{Stop}
use Rattle.te_path.specs.declared.spot.Stop.TheVariants as stops

-- the head is a choice
abbrev pub IsChoice : Term → Type 0
IsChoice t = (e : Term) × ((f : Term) × (head t ≡ choose e f))

-- what a settled term is seen to stand at
abbrev pub StandsAt : Term → Stop → Type 0
StandsAt t (stops.Done v) = outcome_of t ≡ Some (Gives v)
StandsAt t (stops.Raised v) = outcome_of t ≡ Some (Raises v)
StandsAt t (stops.Send c v) = sending t ≡ Some (record { channel = c; value = v })
StandsAt t (stops.Recv c) = receiving t ≡ Some c
StandsAt t stops.Choice = IsChoice t
StandsAt t stops.Dead = head t ≡ never

-- the sender goes on with ()
abbrev pub after_sending : Term → Option Term
after_sending t = option_map (λ m. with_head (giving []) t) (sending t)

-- the receiver goes on with the value
abbrev pub after_receiving : List Atom → Term → Option Term
after_receiving v t = option_map (λ c. with_head (giving v) t) (receiving t)

-- a step of a member's term leads to one with which the member settles as this one
pub record StepsTo (m : Member) (step : Option Term) (end : Member) : Type 0 where
  pub next : Term
  pub steps : step ≡ Some next
  pub settles : settled (at_term m next) ≡ end

-- the fresh channels that a member has made, and those that its term may still make
abbrev pub all_fresh : Member → ℕ
all_fresh m = m.count + fresh_count m.term

abbrev pub HasFewFresh : Member → Type 0
HasFewFresh m = all_fresh m ≤ most_fresh
