-- Refusals and room, worked on two callers that have posted.
use Rattle.std.proofs.Common.{◌≡◌, List, [], ◌∷◌, refl, lit<}
use Rattle.te_terms.specs.declared.event.Outcome.TheVariants.{Gives}
use Rattle.te_terms.specs.Terms.{never}
use Rattle.te_history.specs.declared.entry.Entry.{Entry}
use Rattle.te_history.specs.declared.entry.Entry.TheVariants as entries
use Rattle.te_history.specs.declared.entry.StepFault.TheVariants as faults
use Rattle.te_history.specs.declared.status.How.TheVariants as ways
use Rattle.te_history.specs.declared.status.Status.TheVariants as statuses
use Rattle.te_history.specs.State.{parked, opening, state}
use Rattle.te_history.specs.Histories.{History}
use Rattle.te_history.specs.Refusals.{IsRefused}
use Rattle.te_history.specs.Room.{room}

abbrev pub posts : List Entry
posts = entries.Post 0 0 never ∷ entries.Post 1 0 never ∷ []

abbrev pub posted : History
posted = record { callers = 2; entries = posts; spare = 0 }

-- a take before the commit
early_take : IsRefused posted (entries.Take 0 0 (Gives [])) (faults.Other (statuses.Parked 0))
early_take = (lit< tt, refl, ((parked 0 never, refl, refl), λ under due is. absurd cc))

-- a second post, and a withdrawal under a later ticket
second_post : IsRefused posted (entries.Post 1 1 never) (faults.Other (statuses.Parked 0))
second_post = (lit< tt, refl, ((parked 0 never, refl, refl), λ is. absurd cc))

later_ticket : IsRefused posted (entries.Withdraw 1 1) (faults.Ticket 0)
later_ticket = (lit< tt, refl, ((parked 0 never, refl, refl), λ is. absurd cc))

-- an end as stuck on a running board
ends_stuck : IsRefused posted (entries.End 0 ways.Stuck) faults.How
ends_stuck = (lit< tt, tt, refl)

-- two callers reserve four entries, and a post two more
room_at_first : room (opening 2) ≡ 4
room_at_first = refl

room_posted : room (state 2 posts) ≡ 8
room_posted = refl
