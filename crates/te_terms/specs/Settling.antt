-- What a member is once its quiet steps are done, and what they lower. These are this project's own.
use Rattle.std.specs.Prelude.{◌≡◌, Bool, ℕ, zero, suc, ◌+◌, ◌-◌, ◌<◌, ◌⊎◌, Option, Some, None}
use Rattle.std.specs.Option.{option_map, unwrap_or}
use Rattle.te_terms.specs.declared.event.Outcome.{Outcome}
use Rattle.te_terms.specs.declared.event.Outcome.TheVariants.{Gives, Raises}
use Rattle.te_terms.specs.Terms.{Term, never, choose, bound}
use Rattle.te_terms.specs.Measures.{node_count, final_count}
use Rattle.te_terms.specs.Steps.{Member, at_term, under_then, under_catch, quiet_step, giving, raising, outcome_of, head}
use Rattle.te_terms.specs.Joint.{Message, after_choice, sending, receiving}

-- ---- what falls

-- fewer nodes, or as many nodes and one more final one
abbrev pub Falls : Term → Term → Type 0
Falls t u = (node_count u < node_count t) ⊎ ((node_count u ≡ node_count t) × (final_count u ≡ final_count t + 1))

-- twice the nodes less the final ones: each quiet step, choice and meeting lowers it
abbrev pub steps_most : Term → ℕ
steps_most t = node_count t + (node_count t - final_count t)

-- ---- settling

-- some quiet steps lead from one to the other
pub data Quietly : Member → Member → Type 0 where
  here : (m : Member) → Quietly m m
  after_one : (m n end : Member) → quiet_step m ≡ Some n → Quietly n end → Quietly m end

-- after at most so many quiet steps
abbrev pub settled_within : ℕ → Member → Member
settled_within zero m = m
settled_within (suc rounds) m = unwrap_or (option_map (settled_within rounds) (quiet_step m)) m

-- the member once its quiet steps are done
unfoldable pub settled : Member → Member
settled m = settled_within (steps_most m.term) m

-- ---- under `then` and `catch`

-- what `then` comes to when its first part has settled so
abbrev pub then_settled : Option Outcome → ℕ → Term → Member → Member
then_settled (Some (Gives v)) n f m = settled (at_term m (bound n v f))
then_settled (Some (Raises v)) n f m = at_term m (raising v)
then_settled None n f m = under_then n f m

abbrev pub catch_settled : Option Outcome → ℕ → Term → Member → Member
catch_settled (Some (Gives v)) n h m = at_term m (giving v)
catch_settled (Some (Raises v)) n h m = settled (at_term m (bound n v h))
catch_settled None n h m = under_catch n h m

-- ---- where a settled term stands

pub data TermStands : Term → Type 0 where
  at_end : (t : Term) (o : Outcome) → outcome_of t ≡ Some o → TermStands t
  at_choice : (t e f : Term) → head t ≡ choose e f → TermStands t
  at_send : (t : Term) (s : Message) → sending t ≡ Some s → TermStands t
  at_receive : (t : Term) (channel : ℕ) → receiving t ≡ Some channel → TermStands t
  at_never : (t : Term) → head t ≡ never → TermStands t

-- ---- doing one thing

abbrev pub CannotChoose : Term → Type 0
CannotChoose t = (left : Bool) → after_choice left t ≡ None

abbrev pub IsOpen : Term → Type 0
IsOpen t = outcome_of t ≡ None
