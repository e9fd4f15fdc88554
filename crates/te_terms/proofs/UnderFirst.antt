-- Steps of the first part of `then` and `catch`, and what they settle as.
use Rattle.std.proofs.Common.{◌≡◌, ℕ, List, Option, Some, None, refl, sym, ap, ◌∙◌}
use Rattle.std.specs.Option.{option_map}
use Rattle.te_terms.specs.declared.value.Atom.{Atom}
use Rattle.te_terms.specs.declared.event.Outcome.{Outcome}
use Rattle.te_terms.specs.declared.event.Outcome.TheVariants.{Gives, Raises}
use Rattle.te_terms.specs.Terms.{Term, bound}
use Rattle.te_terms.specs.Steps.{Member, at_term, IsSettled, quiet_step, outcome_of, goes_on, is_caught, under_then, under_catch, raising, giving}
use Rattle.te_terms.specs.Settling.{Quietly, here, after_one, settled, then_settled, catch_settled}
use Rattle.te_terms.proofs.Settles.{settled_is_reached, settled_is_settled, settled_already, settled_after, settled_along}
use Rattle.te_terms.proofs.OneThing.{end_is_alone}

-- a quiet step of the first part is one in its place
pub quiet_under_then : (n : ℕ) (f : Term) (m : Member) → outcome_of m.term ≡ None → quiet_step (under_then n f m) ≡ option_map (under_then n f) (quiet_step m)
quiet_under_then n f m open_end = ap (λ o. goes_on (at_term m) o (quiet_step m) n f) open_end

pub quiet_under_catch : (n : ℕ) (f : Term) (m : Member) → outcome_of m.term ≡ None → quiet_step (under_catch n f m) ≡ option_map (under_catch n f) (quiet_step m)
quiet_under_catch n f m open_end = ap (λ o. is_caught (at_term m) o (quiet_step m) n f) open_end

-- what has a quiet step isn't final
unfinished : (m q : Member) (o : Option Outcome) → outcome_of m.term ≡ o → quiet_step m ≡ Some q → o ≡ None
unfinished m q None e p = refl
unfinished m q (Some o) e p = let both : None ≡ Some q = sym (end_is_alone m m.term o e).0 ∙ p in absurd cc

pub open_step : (m q : Member) → quiet_step m ≡ Some q → outcome_of m.term ≡ None
open_step m q p = unfinished m q (outcome_of m.term) refl p

pub quietly_under_then : (n : ℕ) (f : Term) (m p : Member) → Quietly m p → Quietly (under_then n f m) (under_then n f p)
quietly_under_then n f m p (here _) = here (under_then n f m)
quietly_under_then n f m p (after_one _ q _ e more) =
    after_one (under_then n f m) (under_then n f q) (under_then n f p) (quiet_under_then n f m (open_step m q e) ∙ ap (option_map (under_then n f)) e) (quietly_under_then n f q p more)

pub quietly_under_catch : (n : ℕ) (f : Term) (m p : Member) → Quietly m p → Quietly (under_catch n f m) (under_catch n f p)
quietly_under_catch n f m p (here _) = here (under_catch n f m)
quietly_under_catch n f m p (after_one _ q _ e more) =
    after_one (under_catch n f m) (under_catch n f q) (under_catch n f p) (quiet_under_catch n f m (open_step m q e) ∙ ap (option_map (under_catch n f)) e) (quietly_under_catch n f q p more)

-- ---- what `then` settles as

raises_settled : (m : Member) (v : List Atom) → IsSettled (at_term m (raising v))
raises_settled m v = refl

gives_settled : (m : Member) (v : List Atom) → IsSettled (at_term m (giving v))
gives_settled m v = refl

then_ends : (n : ℕ) (f : Term) (s : Member) (o : Option Outcome) → IsSettled s → outcome_of s.term ≡ o → settled (under_then n f s) ≡ then_settled o n f s
then_ends n f s (Some (Gives v)) h e = sym (settled_after (under_then n f s) (at_term s (bound n v f)) (ap (λ o. goes_on (at_term s) o (quiet_step s) n f) e))
then_ends n f s (Some (Raises v)) h e =
    sym (settled_after (under_then n f s) (at_term s (raising v)) (ap (λ o. goes_on (at_term s) o (quiet_step s) n f) e))
    ∙ settled_already (at_term s (raising v)) (raises_settled s v)
then_ends n f s None h e = settled_already (under_then n f s) (quiet_under_then n f s e ∙ ap (option_map (under_then n f)) h)

pub settled_under_then : (n : ℕ) (f : Term) (m : Member) → settled (under_then n f m) ≡ then_settled (outcome_of (settled m).term) n f (settled m)
settled_under_then n f m =
    sym (settled_along (under_then n f m) (under_then n f (settled m)) (quietly_under_then n f m (settled m) (settled_is_reached m)))
    ∙ then_ends n f (settled m) (outcome_of (settled m).term) (settled_is_settled m) refl

-- ---- what `catch` settles as

catch_ends : (n : ℕ) (f : Term) (s : Member) (o : Option Outcome) → IsSettled s → outcome_of s.term ≡ o → settled (under_catch n f s) ≡ catch_settled o n f s
catch_ends n f s (Some (Raises v)) h e = sym (settled_after (under_catch n f s) (at_term s (bound n v f)) (ap (λ o. is_caught (at_term s) o (quiet_step s) n f) e))
catch_ends n f s (Some (Gives v)) h e =
    sym (settled_after (under_catch n f s) (at_term s (giving v)) (ap (λ o. is_caught (at_term s) o (quiet_step s) n f) e))
    ∙ settled_already (at_term s (giving v)) (gives_settled s v)
catch_ends n f s None h e = settled_already (under_catch n f s) (quiet_under_catch n f s e ∙ ap (option_map (under_catch n f)) h)

pub settled_under_catch : (n : ℕ) (f : Term) (m : Member) → settled (under_catch n f m) ≡ catch_settled (outcome_of (settled m).term) n f (settled m)
settled_under_catch n f m =
    sym (settled_along (under_catch n f m) (under_catch n f (settled m)) (quietly_under_catch n f m (settled m) (settled_is_reached m)))
    ∙ catch_ends n f (settled m) (outcome_of (settled m).term) (settled_is_settled m) refl
