-- A lone parked event that can do nothing by itself can't commit, nor can an empty list.
use Rattle.std.proofs.Common.{◌≡◌, refl, ap, sym, ◌∙◌}
use Rattle.std.specs.Prelude.{◌≢◌, Bool, true, false, cond, ◌==◌, List, [], ◌∷◌, Some, None, if◌then◌else◌}
use Rattle.std.specs.Option.{option_map, option_and_then}
use Rattle.te_terms.specs.declared.event.Outcome.{Outcome}
use Rattle.te_terms.specs.declared.event.Parked.{Parked}
use Rattle.te_terms.specs.Steps.{Member, quiet_step, outcome_of}
use Rattle.te_terms.specs.Joint.{Label, choice, meeting, Action, quiet, labelled, after_choice, with_term, meeting_of, joint_step, after, and_outcome, outcomes_of, Reduces, as_member, CanCommit}
use Rattle.te_terms.proofs.CannotCommit.{nobody_can_commit}

-- no quiet step, no choice, no meeting with itself, and not final
pub record IsHopeless (m : Member) : Type 0 where
  pub settled : quiet_step m ≡ None
  pub no_choice : (left : Bool) → after_choice left m.term ≡ None
  pub no_meeting : meeting_of (m ∷ []) m m ≡ None
  pub unfinished : outcome_of m.term ≡ None

quiet_lone : (m : Member) (put : Member → List Member) (found : Bool) → quiet_step m ≡ None → option_map put (option_and_then quiet_step (if found then Some m else None)) ≡ None
quiet_lone m put true e = ap (option_map put) e
quiet_lone m put false e = refl

choice_lone : (m : Member) (left found : Bool) → after_choice left m.term ≡ None →
    option_and_then (λ n. option_map (with_term (m ∷ []) n) (after_choice left n.term)) (if found then Some m else None) ≡ None
choice_lone m left true e = ap (option_map (with_term (m ∷ []) m)) e
choice_lone m left false e = refl

meeting_lone : (m : Member) (same sends receives : Bool) → meeting_of (m ∷ []) m m ≡ None →
    (if same then None else option_and_then (λ i. option_and_then (meeting_of (m ∷ []) i) (if receives then Some m else None)) (if sends then Some m else None)) ≡ None
meeting_lone m true sends receives e = refl
meeting_lone m false true true e = e
meeting_lone m false true false e = refl
meeting_lone m false false receives e = refl

lone_step : (m : Member) → IsHopeless m → (a : Action) → joint_step a (m ∷ []) ≡ None
lone_step m h (quiet t) = quiet_lone m _ (m.thread == t) h.settled
lone_step m h (labelled (choice t left)) = choice_lone m left (m.thread == t) (h.no_choice left)
lone_step m h (labelled (meeting s r)) = meeting_lone m (s == r) (m.thread == s) (m.thread == r) h.no_meeting

none_some : {A : Type 0} {x : A} → None ≡ Some x → ⊥
none_some e = cc

some_same : {A : Type 0} {x y : A} → Some x ≡ Some y → x ≡ y
some_same e = cc

lone_stays : (m : Member) → IsHopeless m → (actions : List Action) (end : List Member) (results : List Outcome) → after actions (m ∷ []) ≡ Some end → outcomes_of end ≡ Some results → ⊥
lone_stays m h [] end results e f = none_some (sym (ap (λ o. and_outcome o (Some [])) h.unfinished) ∙ ap outcomes_of (some_same e) ∙ f)
lone_stays m h (a ∷ more) end results e f = none_some (sym (ap (option_and_then (after more)) (lone_step m h a)) ∙ e)

lone_part : (m : Member) → IsHopeless m → (chosen : Bool) (word : List Label) (results : List Outcome) → cond chosen (m ∷ []) [] ≢ [] → Reduces (cond chosen (m ∷ []) []) word results → ⊥
lone_part m h true word results some r = lone_stays m h r.actions r.end results r.reaches r.ends_so
lone_part m h false word results some r = some refl

pub lone_never_commits : (p : Parked) → IsHopeless (as_member p) → ¬ CanCommit (p ∷ [])
lone_never_commits p h c = lone_part (as_member p) h (c.side p.thread) c.word c.results c.is_some c.reduces
