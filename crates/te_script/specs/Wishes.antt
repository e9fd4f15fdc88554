-- What a script thread wishes, from its statements and its outcomes so far. This project's own.
use Rattle.std.specs.Prelude.{ℕ, zero, suc, List, [], ◌∷◌, ◌++◌, ◌==◌, take, Option, Some, None, Result, Ok, Err, if◌then◌else◌}
use Rattle.te_terms.specs.declared.value.Atom.{Atom}
use Rattle.te_terms.specs.declared.value.Trap.{Trap}
use Rattle.te_terms.specs.declared.event.Outcome.{Outcome}
use Rattle.te_terms.specs.declared.event.Outcome.TheVariants.{Gives, Raises}
use Rattle.te_terms.specs.Values.{trap_value}
use Rattle.te_terms.specs.Expressions.{Variable, register, name, known, Expression, in_expression, value_of}
use Rattle.te_terms.specs.Terms.{Term, replaced}
use Rattle.te_script.specs.declared.wish.Site.{Site}
use Rattle.te_script.specs.Scripts.{Statement, sync, emit, repeat, Thread}

-- ---- the statements that a thread does, in order

-- a sync or an emit, with its place in the text
pub data Step : Type 0 where
  syncing : Site → ℕ → Term → Step
  emitting : Site → Expression → Step

abbrev pub site_at : ℕ → ℕ → Site
site_at number pass = record { statement = number; pass = pass }

-- a repeat is no step itself
abbrev pub steps_of : Site → Statement → List Step
steps_of at (sync r t) = syncing at r t ∷ []
steps_of at (emit e) = emitting at e ∷ []
steps_of at (repeat times count) = []

-- one pass over the body of a repeat, whose statements are numbered from here
abbrev pub pass_over : ℕ → ℕ → List Statement → List Step
pass_over number pass [] = []
pass_over number pass (s ∷ ss) = steps_of (site_at number pass) s ++ pass_over (suc number) pass ss

-- so many passes, from this one on
abbrev pub passes_over : ℕ → ℕ → ℕ → List Statement → List Step
passes_over zero number pass body = []
passes_over (suc more) number pass body = pass_over number pass body ++ passes_over more number (suc pass) body

-- the statements numbered from here, of which the first so many are a body that was done already
abbrev pub flat_from : ℕ → ℕ → List Statement → List Step
flat_from number done [] = []
flat_from number (suc done) (s ∷ ss) = flat_from (suc number) done ss
flat_from number zero (sync r t ∷ ss) = syncing (site_at number 0) r t ∷ flat_from (suc number) zero ss
flat_from number zero (emit e ∷ ss) = emitting (site_at number 0) e ∷ flat_from (suc number) zero ss
flat_from number zero (repeat times count ∷ ss) = passes_over times (suc number) 0 (take count ss) ++ flat_from (suc number) count ss

-- a thread's syncs and emits, where a repeat stands for its body so many times; statements are numbered from 1, repeats among them
abbrev pub flat : Thread → List Step
flat t = flat_from 1 0 t.statements

-- ---- wishes

-- to synchronise on a term, to end with the emitted values, or to end with a raised value
pub data Wish : Type 0 where
  syncs : Term → Wish
  done : List (List Atom) → Wish
  raised : List Atom → Wish

-- a register has a new value
abbrev pub holding : ℕ → List Atom → (Variable → Variable) → Variable → Variable
holding r v by (register s) = if s == r then known v else by (register s)
holding r v by (name n) = by (name n)
holding r v by (known w) = by (known w)

-- what a thread does where it has come to: it synchronises on a term at this place of the text, ends, or has raised
pub data Doing : Type 0 where
  synchronises : Site → Term → Doing
  ends : Doing
  has_raised : List Atom → Doing

-- the values that it has emitted by then, and what it does
pub record Reached : Type 0 where
  pub emitted : List (List Atom)
  pub does : Doing

-- goes on with one more value, or has raised what the trap raises
abbrev pub emits_or : Result (List Atom) Trap → List (List Atom) → (List (List Atom) → Reached) → Reached
emits_or (Ok v) emitted go = go (emitted ++ v ∷ [])
emits_or (Err t) emitted go = record { emitted = emitted; does = has_raised (trap_value t) }

-- the steps in order, over what the registers hold: an emit adds its value, a sync takes the next outcome, of which a value is written to its register
abbrev pub reached_by : (Variable → Variable) → List (List Atom) → List Step → List Outcome → Reached
reached_by by emitted [] outs = record { emitted = emitted; does = ends }
reached_by by emitted (emitting at e ∷ rest) outs = emits_or (value_of (in_expression by e)) emitted (λ more. reached_by by more rest outs)
reached_by by emitted (syncing at r t ∷ rest) [] = record { emitted = emitted; does = synchronises at (replaced by t) }
reached_by by emitted (syncing at r t ∷ rest) (Gives v ∷ outs) = reached_by (holding r v by) emitted rest outs
reached_by by emitted (syncing at r t ∷ rest) (Raises v ∷ outs) = record { emitted = emitted; does = has_raised v }

-- where a thread has come to after these outcomes; no register has a value at first
abbrev pub reached : Thread → List Outcome → Reached
reached t outs = reached_by (λ x. x) [] (flat t) outs

abbrev pub wish_of : List (List Atom) → Doing → Wish
wish_of emitted (synchronises at t) = syncs t
wish_of emitted ends = done emitted
wish_of emitted (has_raised v) = raised v

-- the wish of a thread after these outcomes
abbrev pub wish : Thread → List Outcome → Wish
wish t outs = wish_of (reached t outs).emitted (reached t outs).does

abbrev pub site_of : Doing → Option Site
site_of (synchronises at t) = Some at
site_of ends = None
site_of (has_raised v) = None

-- the place in the text of a wish to synchronise
abbrev pub site : Thread → List Outcome → Option Site
site t outs = site_of (reached t outs).does
