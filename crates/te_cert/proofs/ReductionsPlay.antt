-- What reduces plays: the certificate of a chain's labels comes to the chain's outcomes.
use Rattle.std.proofs.Common.{◌≡◌, ℕ, suc, List, [], ◌∷◌, ◌++◌, map, Option, Some, Ok, refl, ap, subst, ◌∙◌}
use Rattle.std.proofs.lemmas.Option.{option_and_then_some}
use Rattle.te_terms.specs.declared.event.Outcome.{Outcome}
use Rattle.te_terms.specs.Steps.{Member, outcome_of}
use Rattle.te_terms.specs.Joint.{Label, choice, meeting, Action, quiet, labelled, IsGroup, joint_step, after, labels, and_outcome, outcomes_of, Reduces}
use Rattle.te_terms.proofs.OneThing.{end_is_alone}
use Rattle.te_cert.specs.Play.{Player, all_advanced, endings, seated, play}
use Rattle.te_cert.specs.Certs.{choices_of, meetings_of}
use Rattle.te_cert.proofs.Advancing.{advanced_is}
use Rattle.te_cert.proofs.SideBySide.{AreBeside}
use Rattle.te_cert.proofs.GoingAhead.{IsAhead, as_it_stands, ahead_as_it_stands}
use Rattle.te_cert.proofs.StepsTaken.{quiet_taken, choice_taken, meeting_taken, group_after}
use Rattle.te_cert.proofs.StepsBack.{Plays, before_quiet, before_choice, before_meeting}

-- ---- at the end of a chain

both_outcomes : (o : Option Outcome) (os : Option (List Outcome)) (results : List Outcome) → and_outcome o os ≡ Some results →
    (x : Outcome) × (xs : List Outcome) × (o ≡ Some x) × (os ≡ Some xs) × (x ∷ xs ≡ results)
both_outcomes (Some x) (Some xs) results e = (x, xs, refl, refl, cc)
both_outcomes _ _ results e = absurd cc

all_end : (i : ℕ) (g : List Member) (results : List Outcome) → outcomes_of g ≡ Some results →
    AreBeside (IsAhead []) g (map (as_it_stands []) g) × (endings i (map (as_it_stands []) g) ≡ Ok results)
all_end i [] results e = (tt, cc)
all_end i (m ∷ ms) results e =
    let both = both_outcomes (outcome_of m.term) (outcomes_of ms) results e in
    let alone = end_is_alone m m.term both.0 both.2 in
    let rest = all_end (suc i) ms both.1 both.3 in
    ((ahead_as_it_stands [] m alone.0 alone.1, rest.0), rw (both.2, rest.1) (ap Ok both.4))

final_plays : (g : List Member) (results : List Outcome) → outcomes_of g ≡ Some results → Plays [] g results
final_plays g results e =
    let ends = all_end 0 g results e in
    record { players = map (as_it_stands []) g; ahead = ends.0; finish = λ j word. (map (as_it_stands []) g, word, refl, ends.1) }

-- ---- along a chain

chain_plays : (actions : List Action) (g end : List Member) (results : List Outcome) → IsGroup g → after actions g ≡ Some end →
    outcomes_of end ≡ Some results → Plays (labels actions) g results
chain_plays [] g end results group reached ends = final_plays g results (let is : g ≡ end = cc in ap outcomes_of is ∙ ends)
chain_plays (quiet t ∷ as') g end results group reached ends =
    option_and_then_some (after as') (joint_step (quiet t) g) end reached (λ h step more.
    before_quiet (labels as') g h results group (quiet_taken t g h step) (chain_plays as' h end results (group_after (quiet t) g h step group) more ends))
chain_plays (labelled (choice t left) ∷ as') g end results group reached ends =
    option_and_then_some (after as') (joint_step (labelled (choice t left)) g) end reached (λ h step more.
    before_choice (labels as') t left g h results group (choice_taken t left g h step)
    (chain_plays as' h end results (group_after (labelled (choice t left)) g h step group) more ends))
chain_plays (labelled (meeting s r) ∷ as') g end results group reached ends =
    option_and_then_some (after as') (joint_step (labelled (meeting s r)) g) end reached (λ h step more.
    before_meeting (labels as') s r g h results group (meeting_taken s r g h step)
    (chain_plays as' h end results (group_after (labelled (meeting s r)) g h step group) more ends))

-- ---- from the start

starts : (i : ℕ) (word : List Label) (g : List Member) (ps : List Player) → AreBeside (IsAhead word) g ps →
    (played : List Label) × (all_advanced i (seated g (choices_of g word)) ≡ Ok (record { players = ps; word = played }))
starts i word [] [] ahead = ([], refl)
starts i word [] (p ∷ ps) ahead = absurd ahead
starts i word (m ∷ ms) [] ahead = absurd ahead
starts i word (m ∷ ms) (p ∷ ps) ahead =
    let rest = starts (suc i) word ms ps ahead.1 in
    (ahead.0.word ++ rest.0, rw (advanced_is i (as_it_stands word m), ahead.0.goes i, rest.1) refl)

-- a group that reduces by these labels plays by their certificate to the same outcomes
pub reductions_play : (group : List Member) (word : List Label) (results : List Outcome) → IsGroup group → Reduces group word results →
    (played : List Label) × (play group (choices_of group word) (meetings_of group word) ≡ Ok (record { outcomes = results; word = played }))
reductions_play group word results is_group reduces =
    let along = chain_plays reduces.actions group reduces.end results is_group reduces.reaches reduces.ends_so in
    let plays = subst (λ w. Plays w group results) reduces.labels_are along in
    let start = starts 0 word group plays.players plays.ahead in
    let last = plays.finish 0 start.0 in
    (last.1, rw (start.1, last.2, last.3) refl)
