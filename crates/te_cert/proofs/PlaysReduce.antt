-- A play that succeeds reduces its group, with the labels and the outcomes that it gives.
use Rattle.std.proofs.Common.{◌≡◌, ℕ, suc, Bool, List, [], ◌∷◌, Option, Some, None, Ok, refl, sym, ap, subst}
use Rattle.te_terms.specs.declared.event.Outcome.{Outcome}
use Rattle.te_terms.specs.Steps.{Member, outcome_of}
use Rattle.te_terms.specs.Joint.{IsGroup, outcomes_of, Reduces}
use Rattle.te_cert.specs.declared.cert.Meeting.{Meeting}
use Rattle.te_cert.specs.Play.{Player, all_advanced, all_meet, ending, endings, Played, seated, play}
use Rattle.te_cert.proofs.AllAdvance.{members, through, Comes, all_come}
use Rattle.te_cert.proofs.AllMeet.{HasCome, meetings_come}

-- the members take their seats in order
pub all_seated : (group : List Member) (letters : List (List Bool)) → members (seated group letters) ≡ group
all_seated [] letters = refl
all_seated (m ∷ ms) [] = ap (λ g. m ∷ g) (all_seated ms [])
all_seated (m ∷ ms) (l ∷ ls) = ap (λ g. m ∷ g) (all_seated ms ls)

pub ends_at : (i : ℕ) (o : Option Outcome) (letters : List Bool) (r : Outcome) → ending i o letters ≡ Ok r → o ≡ Some r
ends_at i (Some o) [] r e = let same : o ≡ r = cc in ap Some same
ends_at i (Some o) (l ∷ ls) r e = absurd cc
ends_at i None letters r e = absurd cc

-- the members are at the outcomes that the play gives
all_end : (i : ℕ) (ps : List Player) (os : List Outcome) → endings i ps ≡ Ok os → outcomes_of (members ps) ≡ Some os
all_end i [] os e = let same : [] ≡ os = cc in ap Some same
all_end i (p ∷ ps) os e =
    let first = through (ending i (outcome_of p.member.term) p.letters) _ os e in
    let others = through (endings (suc i) ps) _ os first.2 in
    let both : first.0 ∷ others.0 ≡ os = let so = others.2 in cc in
    let here : outcome_of p.member.term ≡ Some first.0 = ends_at i (outcome_of p.member.term) p.letters first.0 first.1 in
    rw (here, all_end (suc i) ps others.0 others.1) (ap Some both)

pub plays_reduce : (group : List Member) (letters : List (List Bool)) (meetings : List Meeting) (p : Played) → IsGroup group →
    play group letters meetings ≡ Ok p → Reduces group p.word p.outcomes
plays_reduce group letters meetings p is e =
    let start = through (all_advanced 0 (seated group letters)) _ p e in
    let last = through (all_meet 0 meetings start.0) _ p start.2 in
    let ended = through (endings 0 last.0.players) _ p last.2 in
    let so : record { outcomes = ended.0; word = last.0.word } ≡ p = let both = ended.2 in cc in
    let seats : members (seated group letters) ≡ group = all_seated group letters in
    let from_seats = all_come (seated group letters) start.0 start.1 (subst IsGroup (sym seats) is) in
    let came : HasCome group start.0 = subst (λ g. Comes g start.0.word (members start.0.players)) seats from_seats in
    let met : HasCome group last.0 = meetings_come group 0 meetings start.0 last.0 is came last.1 in
    subst (λ x. Reduces group x.word x.outcomes) so (record {
      actions = met.leads.actions;
      end = members last.0.players;
      labels_are = met.leads.labels_are;
      reaches = met.leads.reaches;
      ends_so = all_end 0 last.0.players ended.0 ended.1;
    })
