-- What can't commit: nobody, and one member who rests and can neither end nor choose, since nobody meets himself.
use Rattle.std.proofs.Common.{◌≡◌, ◌≢◌, Bool, true, false, cond, List, [], ◌∷◌, Some, None, refl, sym, ap, ◌∙◌}
use Rattle.std.specs.Prelude.{◌==◌, if◌then◌else◌, pos}
use Rattle.std.specs.Option.{option_map, option_and_then}
use Rattle.std.proofs.lemmas.Bool.Decides.{Decides-eqb}
use Rattle.te_terms.specs.declared.event.Outcome.{Outcome}
use Rattle.te_terms.specs.declared.event.Parked.{Parked}
use Rattle.te_terms.specs.Expressions.{int, chan, one, tuple}
use Rattle.te_terms.specs.Terms.{Term, never, send, recv, and_then}
use Rattle.te_terms.specs.Steps.{Member, IsSettled, quiet_step}
use Rattle.te_terms.specs.Joint.{Label, choice, meeting, Action, quiet, labelled, with_member, with_term, meeting_of}
use Rattle.te_terms.specs.Joint.{joint_step, after, after_choice, outcomes_of, and_outcome, as_member, Reduces}
use Rattle.te_terms.specs.Joint.{CanCommit}
use Rattle.te_terms.specs.Settling.{CannotChoose, IsOpen}

pub nobody_can_commit : ¬ CanCommit []
nobody_can_commit commits = commits.is_some refl

-- ---- one member

quiet_by : (is_own : Bool) (m : Member) (g : List Member) → IsSettled m → option_map (λ n. with_member n g) (option_and_then quiet_step (if is_own then Some m else None)) ≡ None
quiet_by true m g rest = ap (option_map (λ n. with_member n g)) rest
quiet_by false m g rest = refl

choice_by : (is_own : Bool) (left : Bool) (m : Member) (g : List Member) → CannotChoose m.term →
    option_and_then (λ n. option_map (with_term g n) (after_choice left n.term)) (if is_own then Some m else None) ≡ None
choice_by true left m g still = ap (option_map (with_term g m)) (still left)
choice_by false left m g still = refl

meeting_by : (one_thread sends receives : Bool) (m : Member) (g : List Member) → (sends ≡ true → receives ≡ true → one_thread ≡ true) →
    (if one_thread then None else option_and_then (λ i. option_and_then (meeting_of g i) (if receives then Some m else None)) (if sends then Some m else None)) ≡ None
meeting_by true sends receives m g same = refl
meeting_by false false receives m g same = refl
meeting_by false true false m g same = refl
meeting_by false true true m g same = let so : false ≡ true = same refl refl in absurd cc

-- nobody meets himself
no_step : (a : Action) (m : Member) → IsSettled m → CannotChoose m.term → joint_step a (m ∷ []) ≡ None
no_step (quiet t) m rest still = quiet_by (m.thread == t) m (m ∷ []) rest
no_step (labelled (choice t left)) m rest still = choice_by (m.thread == t) left m (m ∷ []) still
no_step (labelled (meeting s r)) m rest still =
    meeting_by (s == r) (m.thread == s) (m.thread == r) m (m ∷ [])
    (λ p q. (Decides-eqb s r).1 (sym ((Decides-eqb m.thread s).0 p) ∙ (Decides-eqb m.thread r).0 q))

no_chain : (actions : List Action) (m : Member) (end : List Member) (results : List Outcome) → IsSettled m → CannotChoose m.term → IsOpen m.term →
    after actions (m ∷ []) ≡ Some end → outcomes_of end ≡ Some results → ⊥
no_chain [] m end results rest still open_end e ends =
    let same : m ∷ [] ≡ end = cc in
    let none : outcomes_of (m ∷ []) ≡ None = ap (λ o. and_outcome o (Some [])) open_end in
    let both : None ≡ Some results = sym none ∙ ap outcomes_of same ∙ ends in
    cc
no_chain (a ∷ more) m end results rest still open_end e ends =
    let both : None ≡ Some end = sym (ap (option_and_then (after more)) (no_step a m rest still)) ∙ e in
    cc

lone_by : (is_in : Bool) (m : Member) (word : List Label) (results : List Outcome) → IsSettled m → CannotChoose m.term → IsOpen m.term →
    cond is_in (m ∷ []) [] ≢ [] → Reduces (cond is_in (m ∷ []) []) word results → ⊥
lone_by true m word results rest still open_end some r = no_chain r.actions m r.end results rest still open_end r.reaches r.ends_so
lone_by false m word results rest still open_end some r = some refl

-- one member who rests, isn't final and can't choose can't commit alone
pub lone_cannot_commit : (p : Parked) → IsSettled (as_member p) → CannotChoose p.event → IsOpen p.event → ¬ CanCommit (p ∷ [])
lone_cannot_commit p rest still open_end commits =
    lone_by (commits.side p.thread) (as_member p) commits.word commits.results rest still open_end commits.is_some commits.reduces

-- ---- cases

abbrev alone : Term → Parked
alone t = record { thread = 0; ticket = 0; event = t }

pub still_never : CannotChoose never
still_never true = refl
still_never false = refl

never_cannot_commit : ¬ CanCommit (alone never ∷ [])
never_cannot_commit = lone_cannot_commit (alone never) refl still_never refl

-- it sends, and would receive on the same channel
abbrev to_himself : Term
to_himself = and_then (send (chan 0) (tuple (one (int (pos 1)) ∷ []))) 0 (recv (chan 0))

still_to_himself : CannotChoose to_himself
still_to_himself true = refl
still_to_himself false = refl

nobody_sends_to_himself : ¬ CanCommit (alone to_himself ∷ [])
nobody_sends_to_himself = lone_cannot_commit (alone to_himself) refl still_to_himself refl
