-- What a search of parked events finds. Groups and choices are those of Donnelly and Fluet, Transactional Events, JFP 18(5-6), 2008; budgets and their counts are this project's own.
use Rattle.std.specs.Prelude.{◌≡◌, ◌≢◌, ◌⊎◌, ◌+◌, ◌≤◌, ◌<◌, ℕ, List, [], ◌∷◌, length, cond, ltb, nat_eq}
use Rattle.std.specs.List.{AllByRecursion}
use Rattle.te_terms.specs.declared.event.Outcome.{Outcome}
use Rattle.te_terms.specs.declared.event.Parked.{Parked}
use Rattle.te_terms.specs.Terms.{Term}
use Rattle.te_terms.specs.Joint.{as_group}
use Rattle.te_cert.specs.declared.cert.Member.{Member}
use Rattle.te_cert.specs.Certificates.{Certificate}
use Rattle.te_cert.specs.Certs.{IsTight}
use Rattle.te_cert.specs.Checks.{ThreadsRise, Gives}
use Rattle.te_trail.specs.Views.{Name, IsPathName, IsGroupName}
use Rattle.te_search.specs.Bounds.{NoNameTwice, enough_for}

-- ---- a group

-- the event is parked in the list under this thread and ticket
abbrev pub IsParkedIn : List Parked → Member → Term → Type 0
IsParkedIn [] m e = ⊥
IsParkedIn (p ∷ ps) m e = ((p.thread ≡ m.thread) × (p.ticket ≡ m.ticket) × (p.event ≡ e)) ⊎ IsParkedIn ps m e

-- the events parked under the threads and tickets of the members, in their order
abbrev pub ArePlacedIn : List Parked → List Member → List Term → Type 0
ArePlacedIn parked [] [] = Unit {0}
ArePlacedIn parked (m ∷ ms) (e ∷ es) = IsParkedIn parked m e × ArePlacedIn parked ms es
ArePlacedIn parked _ _ = ⊥

-- members of the list, their threads rising, whose events give these outcomes by the certificate's play, and which can't be split into two parts with no meeting between them
pub record IsGroupOf (parked : List Parked) (cert : Certificate) (outcomes : List Outcome) : Type 0 where
  pub events : List Term
  pub some_member : cert.members ≢ []
  pub rise : ThreadsRise cert.members
  pub placed : ArePlacedIn parked cert.members events
  pub plays : Gives cert events outcomes
  pub tight : IsTight (record { members = cert.members; meets = cert.meets })

-- ---- a budget that is used up

-- there are so many path names of the list and so many group names of it, none twice
pub record CountsNames (parked : List Parked) (paths groups : ℕ) : Type 0 where
  pub path_names : List Name
  pub are_of_paths : AllByRecursion (IsPathName (as_group parked)) path_names
  pub paths_distinct : NoNameTwice path_names
  pub paths_are : length path_names ≡ paths
  pub group_names : List Name
  pub are_of_groups : AllByRecursion (IsGroupName (as_group parked)) group_names
  pub groups_distinct : NoNameTwice group_names
  pub groups_are : length group_names ≡ groups

-- so many path names and group names are together the budget or one less, the list has more than the budget, and the budget is less than what is enough for the list
pub record IsUsedUp (parked : List Parked) (budget paths groups : ℕ) : Type 0 where
  pub names : CountsNames parked paths groups
  pub sum : (paths + groups ≡ budget) ⊎ (paths + groups + 1 ≡ budget)
  pub more_paths : ℕ
  pub more_groups : ℕ
  pub more : CountsNames parked more_paths more_groups
  pub beyond : budget < more_paths + more_groups
  pub short : budget < enough_for (as_group parked)

-- a budget that a search takes
abbrev pub IsBudget : ℕ → Type 0
IsBudget budget = (1 ≤ budget) × (budget ≤ 1000000)

-- ---- a list that is kept

abbrev pub HasThread : List Parked → ℕ → Type 0
HasThread [] t = ⊥
HasThread (p ∷ ps) t = (p.thread ≡ t) ⊎ HasThread ps t

-- the list with one more event, in its thread's place
abbrev pub put_in : Parked → List Parked → List Parked
put_in new [] = new ∷ []
put_in new (p ∷ ps) = cond (ltb new.thread p.thread) (new ∷ p ∷ ps) (p ∷ put_in new ps)

-- the list without a thread's event
abbrev pub without : ℕ → List Parked → List Parked
without t [] = []
without t (p ∷ ps) = cond (nat_eq p.thread t) ps (p ∷ without t ps)
