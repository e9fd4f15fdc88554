-- The places of a commit: its members, their group, the players of its play and the outcomes go side by side.
use Rattle.std.proofs.Common.{◌≡◌, ℕ, zero, suc, Bool, List, [], ◌∷◌, ◌++◌, Option, Some, None, Ok, refl, sym, ap, subst, ◌∙◌}
use Rattle.std.specs.Prelude.{slice_get}
use Rattle.te_terms.specs.declared.event.Outcome.{Outcome}
use Rattle.te_terms.specs.Terms.{Term}
use Rattle.te_terms.specs.Steps.{outcome_of}
use Rattle.te_terms.specs.Steps as steps
use Rattle.te_cert.specs.declared.cert.Member.{Member}
use Rattle.te_cert.specs.declared.cert.Meeting.{Meeting}
use Rattle.te_cert.specs.Play.{Player, Table, Advance, Played, advanced, all_advanced, all_meet, ending, endings, seated, play}
use Rattle.te_cert.proofs.AllAdvance.{through}
use Rattle.te_history.specs.State.{parked, State}
use Rattle.te_history.specs.Follows.{Stands, AreEvents}
use Rattle.te_board.proofs.ParkedLists.{one_event}
use Rattle.te_cert.proofs.PlaysReduce.{ends_at}

-- ---- the group

pub record GroupAt (s : State) (m : Member) (group : List steps.Member) (i : ℕ) : Type 0 where
  pub one : steps.Member
  pub is_there : slice_get group i ≡ Some one
  pub stands : Stands s m.thread (parked m.ticket one.term)

pub group_at : (s : State) (ms : List Member) (gs : List steps.Member) (i : ℕ) (m : Member) → AreEvents s ms gs → slice_get ms i ≡ Some m → GroupAt s m gs i
group_at s [] [] i m events at = absurd cc
group_at s (n ∷ ns) (g ∷ gs) zero m events at =
    let same : n ≡ m = cc in
    record { one = g; is_there = refl; stands = subst (λ (x : Member). Stands s x.thread (parked x.ticket g.term)) same events.1 }
group_at s (n ∷ ns) (g ∷ gs) (suc i) m events at =
    let rest = group_at s ns gs i m events.2 at in record { one = rest.one; is_there = rest.is_there; stands = rest.stands }
group_at s [] (g ∷ gs) i m events at = absurd events
group_at s (n ∷ ns) [] i m events at = absurd events

-- ---- the players

pub record PlayerAt (players : List Player) (g : steps.Member) (i : ℕ) : Type 0 where
  pub place : ℕ
  pub letters : List Bool
  pub advance : Advance
  pub goes : advanced place (record { member = g; letters = letters }) ≡ Ok advance
  pub is_there : slice_get players i ≡ Some advance.player

-- the first has advanced, and the others after it
both_at : (k : ℕ) (x : steps.Member) (l : List Bool) (rest : List Player) (t : Table) (i : ℕ) (g : steps.Member)
    → ((u : Table) (j : ℕ) → all_advanced (suc k) rest ≡ Ok u → i ≡ suc j → PlayerAt u.players g j) → (i ≡ 0 → x ≡ g)
    → all_advanced k (record { member = x; letters = l } ∷ rest) ≡ Ok t → PlayerAt t.players g i
both_at k x l rest t zero g later first e =
    let one = through (advanced k (record { member = x; letters = l })) _ t e in
    let others = through (all_advanced (suc k) rest) _ t one.2 in
    let both : record { players = one.0.player ∷ others.0.players; word = one.0.word ++ others.0.word } ≡ t = let so = others.2 in cc in
    let here : PlayerAt (one.0.player ∷ others.0.players) x 0 = record { place = k; letters = l; advance = one.0; goes = one.1; is_there = refl } in
    subst (λ (y : steps.Member). PlayerAt t.players y 0) (first refl) (subst (λ (u : Table). PlayerAt u.players x 0) both here)
both_at k x l rest t (suc i) g later first e =
    let one = through (advanced k (record { member = x; letters = l })) _ t e in
    let others = through (all_advanced (suc k) rest) _ t one.2 in
    let both : record { players = one.0.player ∷ others.0.players; word = one.0.word ++ others.0.word } ≡ t = let so = others.2 in cc in
    let there = later others.0 i others.1 refl in
    let here : PlayerAt (one.0.player ∷ others.0.players) g (suc i) = record {
      place = there.place;
      letters = there.letters;
      advance = there.advance;
      goes = there.goes;
      is_there = there.is_there;
    } in
    subst (λ (u : Table). PlayerAt u.players g (suc i)) both here

tail_at : {X : Type 0} (x : X) (xs : List X) (i j : ℕ) (y : X) → slice_get (x ∷ xs) i ≡ Some y → i ≡ suc j → slice_get xs j ≡ Some y
tail_at x xs i j y at same = subst (λ (k : ℕ). slice_get (x ∷ xs) k ≡ Some y) same at

head_at : {X : Type 0} (x : X) (xs : List X) (i : ℕ) (y : X) → slice_get (x ∷ xs) i ≡ Some y → i ≡ 0 → x ≡ y
head_at x xs i y at same = let first : Some x ≡ Some y = subst (λ (k : ℕ). slice_get (x ∷ xs) k ≡ Some y) same at in cc

pub player_at : (k : ℕ) (gs : List steps.Member) (letters : List (List Bool)) (t : Table) (i : ℕ) (g : steps.Member) → all_advanced k (seated gs letters) ≡ Ok t
    → slice_get gs i ≡ Some g → PlayerAt t.players g i
player_at k [] letters t i g e at = absurd cc
player_at k (x ∷ xs) [] t i g e at =
    both_at k x [] (seated xs []) t i g (λ u j so same. player_at (suc k) xs [] u j g so (tail_at x xs i j g at same)) (head_at x xs i g at) e
player_at k (x ∷ xs) (l ∷ ls) t i g e at =
    both_at k x l (seated xs ls) t i g (λ u j so same. player_at (suc k) xs ls u j g so (tail_at x xs i j g at same)) (head_at x xs i g at) e

-- ---- the outcomes

pub record OutcomeAt (os : List Outcome) (p : Player) (i : ℕ) : Type 0 where
  pub outcome : Outcome
  pub is_there : slice_get os i ≡ Some outcome
  pub ends : outcome_of p.member.term ≡ Some outcome

pub outcome_at : (k : ℕ) (ps : List Player) (os : List Outcome) (i : ℕ) (p : Player) → endings k ps ≡ Ok os → slice_get ps i ≡ Some p → OutcomeAt os p i
outcome_at k [] os i p e at = absurd cc
outcome_at k (q ∷ qs) os zero p e at =
    let first = through (ending k (outcome_of q.member.term) q.letters) _ os e in
    let others = through (endings (suc k) qs) _ os first.2 in
    let both : first.0 ∷ others.0 ≡ os = let so = others.2 in cc in
    let same : q ≡ p = cc in
    let ends = ends_at k (outcome_of q.member.term) q.letters first.0 first.1 in
    record {
      outcome = first.0;
      is_there = ap (λ (xs : List Outcome). slice_get xs 0) (sym both);
      ends = ap (λ (x : Player). outcome_of x.member.term) (sym same) ∙ ends;
    }
outcome_at k (q ∷ qs) os (suc i) p e at =
    let first = through (ending k (outcome_of q.member.term) q.letters) _ os e in
    let others = through (endings (suc k) qs) _ os first.2 in
    let both : first.0 ∷ others.0 ≡ os = let so = others.2 in cc in
    let rest = outcome_at (suc k) qs others.0 i p others.1 at in
    record { outcome = rest.outcome; is_there = ap (λ (xs : List Outcome). slice_get xs (suc i)) (sym both) ∙ rest.is_there; ends = rest.ends }

-- ---- a play

-- the parts of a play that gives outcomes
pub record Parts (group : List steps.Member) (letters : List (List Bool)) (meetings : List Meeting) (os : List Outcome) : Type 0 where
  pub start : Table
  pub last : Table
  pub starts : all_advanced 0 (seated group letters) ≡ Ok start
  pub meet : all_meet 0 meetings start ≡ Ok last
  pub end : endings 0 last.players ≡ Ok os

pub parts_of : (group : List steps.Member) (letters : List (List Bool)) (meetings : List Meeting) (p : Played) → play group letters meetings ≡ Ok p
    → Parts group letters meetings p.outcomes
parts_of group letters meetings p e =
    let start = through (all_advanced 0 (seated group letters)) _ p e in
    let last = through (all_meet 0 meetings (record { players = start.0.players; word = start.0.word })) _ p start.2 in
    let end = through (endings 0 last.0.players) _ p last.2 in
    let made = end.2 in
    let outcomes : end.0 ≡ p.outcomes = cc in
    record { start = start.0; last = last.0; starts = start.1; meet = last.1; end = end.1 ∙ ap Ok outcomes }
