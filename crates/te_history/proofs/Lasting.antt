-- What stays in a history: a caller that has ended, and a board that is stuck or resting, since such an entry stands there.
use Rattle.std.proofs.Common.{◌≡◌, ◌⊎◌, inl, inr, ℕ, zero, suc, true, List, [], ◌∷◌, ◌++◌, Some, refl, ap, sym, ◌∙◌, subst}
use Rattle.std.specs.List.{slice_get}
use Rattle.std.specs.Prelude.{◌↔◌}
use Rattle.te_history.specs.declared.entry.Entry.{Entry}
use Rattle.te_history.specs.declared.entry.Entry.TheVariants.{Post, Commit, Withdraw, Take, Rest, Stuck, End}
use Rattle.te_history.specs.declared.status.How.{How}
use Rattle.te_history.specs.declared.status.How.TheVariants as ways
use Rattle.te_history.specs.State.{Standing, idle, parked, ended, State, opening, with_standing, with_given, changed, state_from, state}
use Rattle.te_history.specs.Follows.{Stands, IsParkedOrEnded, MayEndAs, LooselyFollows, IsLoose}
use Rattle.te_history.proofs.AfterEntry.{state-after}
use Rattle.te_history.proofs.Commits.{same_or_other, stands_put, stands_other, Touch, untouched, touched, touch}
use Rattle.te_history.proofs.Growing.{grows, later_part}
use Rattle.te_terms.proofs.Lists.{all_at}
use Rattle.te_history.proofs.RoomNeverRises.{stuck_stays}
use Rattle.te_history.proofs.KeptAfter.{given_resting}

-- ---- an ended caller

-- an entry by a caller that hasn't ended leaves those that have
others_stay : (s : State) (by t : ℕ) (old new : Standing) → Stands s by old → (ended ≡ old → ⊥) → Stands s t ended → Stands (with_standing by new s) t ended
others_stay s by t old new at apart stands = by_caller (same_or_other by t)
  where
    by_caller : (by ≡ t) ⊎ (by ≡ t → ⊥) → Stands (with_standing by new s) t ended
    by_caller (inr other) = stands_other s by t new other ∙ stands
    by_caller (inl same) =
        let both : Some ended ≡ Some old = sym stands ∙ ap (slice_get s.callers) (sym same) ∙ at in absurd (apart cc)

ended_after : (callers t : ℕ) (h : List Entry) (e : Entry) → LooselyFollows callers h e → Stands (state callers h) t ended
    → Stands (changed (state callers h) e) t ended
ended_after callers t h (Post by ticket event) follows = others_stay (state callers h) by t idle _ follows.1 (λ is. cc)
ended_after callers t h (Withdraw by ticket) follows = others_stay (state callers h) by t _ idle follows.1.1 (λ is. cc)
ended_after callers t h (Take by ticket outcome) follows = others_stay (state callers h) by t _ idle follows.1 (λ is. cc)
ended_after callers t h (Rest by) follows = λ stands. stands
ended_after callers t h (Stuck by) follows = λ stands. stands
ended_after callers t h (End by (ways.Done values)) follows = others_stay (state callers h) by t idle ended follows.1 (λ is. cc)
ended_after callers t h (End by (ways.Raised value)) follows = others_stay (state callers h) by t idle ended follows.1 (λ is. cc)
ended_after callers t h (End by ways.Stuck) follows = others_stay (state callers h) by t _ ended follows.1.2 (λ is. cc)
ended_after callers t h (Commit by cert outcomes) follows = λ stands. by_touch stands (touch t (state callers h) cert outcomes follows.2)
  where
    by_touch : Stands (state callers h) t ended → Touch t cert.members outcomes (state callers h) (with_given cert.members outcomes (state callers h))
        → Stands (with_given cert.members outcomes (state callers h)) t ended
    by_touch stands (untouched same none) = same ∙ stands
    by_touch stands (touched ticket event due was is one none) =
        let both : Some ended ≡ Some (parked ticket event) = sym stands ∙ was in absurd cc

pub ended_stays : (callers : ℕ) (history more : List Entry) (t : ℕ) → IsLoose callers (history ++ more) → Stands (state callers history) t ended
    → Stands (state callers (history ++ more)) t ended
ended_stays callers history more t loose stands =
    grows callers (λ h. Stands (state callers h) t ended)
    (λ h e follows was. subst (λ (s : State). Stands s t ended) (sym (state-after callers h e)) (ended_after callers t h e follows was))
    history more (later_part callers history more loose) stands

-- ---- the callers of a stuck board

all_after : (callers : ℕ) (h : List Entry) (e : Entry) → LooselyFollows callers h e
    → ((state callers h).stuck ≡ true → (t : ℕ) (x : Standing) → Stands (state callers h) t x → IsParkedOrEnded x)
    → (changed (state callers h) e).stuck ≡ true → (t : ℕ) (x : Standing) → Stands (changed (state callers h) e) t x → IsParkedOrEnded x
all_after callers h (Post by ticket event) follows all stuck = let runs = follows.0 in absurd cc
all_after callers h (Commit by cert outcomes) follows all stuck =
    let runs = follows.0 in let same = stuck_stays cert.members outcomes (state callers h) in absurd cc
all_after callers h (Withdraw by ticket) follows all stuck = let runs = follows.0 in absurd cc
all_after callers h (Take by ticket outcome) follows all stuck = let runs = follows.0 in absurd cc
all_after callers h (Rest by) follows all stuck = let runs = follows.0 in absurd cc
all_after callers h (Stuck by) follows all stuck = λ t x stands. all_at IsParkedOrEnded (state callers h).callers t x follows.2 stands
all_after callers h (End by how) follows all stuck = λ t x stands. by_caller t x stands (same_or_other by t)
  where
    old : (how : How) → MayEndAs (state callers h) by how → (x : Standing) × Stands (state callers h) by x
    old (ways.Done values) ends = (idle, ends.1)
    old (ways.Raised value) ends = (idle, ends.1)
    old ways.Stuck ends = (_, ends.1.2)

    by_caller : (t : ℕ) (x : Standing) → Stands (with_standing by ended (state callers h)) t x → (by ≡ t) ⊎ (by ≡ t → ⊥) → IsParkedOrEnded x
    by_caller t x stands (inr other) = all stuck t x (sym (stands_other (state callers h) by t ended other) ∙ stands)
    by_caller t x stands (inl same) =
        let was = old how follows in
        let at : Stands (with_standing by ended (state callers h)) by x = subst (λ (k : ℕ). Stands (with_standing by ended (state callers h)) k x) (sym same) stands in
        let both : Some ended ≡ Some x = sym (stands_put (state callers h) by was.0 ended was.1) ∙ at in
        let is : ended ≡ x = cc in
        subst IsParkedOrEnded is tt

-- on a stuck board every caller is parked or has ended
pub stuck_waits : (callers : ℕ) (history : List Entry) → IsLoose callers history → (state callers history).stuck ≡ true → (t : ℕ) (x : Standing)
    → Stands (state callers history) t x → IsParkedOrEnded x
stuck_waits callers history loose =
    grows callers (λ h. (state callers h).stuck ≡ true → (t : ℕ) (x : Standing) → Stands (state callers h) t x → IsParkedOrEnded x)
    (λ h e follows all. subst (λ (s : State). s.stuck ≡ true → (t : ℕ) (x : Standing) → Stands s t x → IsParkedOrEnded x) (sym (state-after callers h e)) (all_after callers h e follows all))
    [] history loose (λ stuck. absurd cc)

-- ---- a board that is stuck or resting

-- the list has such an entry
Has : (ℕ → Entry) → List Entry → Type 0
Has kind h = (k by : ℕ) × (slice_get h k ≡ Some (kind by))

later_has : (kind : ℕ → Entry) (e : Entry) (es : List Entry) → Has kind es → Has kind (e ∷ es)
unfolding Has
later_has kind e es has = (suc has.0, has.1, has.2)

stuck_from : (s : State) (h : List Entry) → (state_from s h).stuck ≡ true → (s.stuck ≡ true) ⊎ Has Stuck h
unfolding Has
stuck_from s [] is = inl is
stuck_from s (Stuck by ∷ es) is = inr (0, by, refl)
stuck_from s (Post by ticket event ∷ es) is = elim (stuck_from (changed s (Post by ticket event)) es is) [ inl was ↦ inl was | inr has ↦ inr (later_has Stuck _ es has) ]
stuck_from s (Commit by cert outcomes ∷ es) is = elim (stuck_from (changed s (Commit by cert outcomes)) es is) [
  | inl was ↦ inl (sym (stuck_stays cert.members outcomes s) ∙ was)
  | inr has ↦ inr (later_has Stuck _ es has)
]
stuck_from s (Withdraw by ticket ∷ es) is = elim (stuck_from (changed s (Withdraw by ticket)) es is) [ inl was ↦ inl was | inr has ↦ inr (later_has Stuck _ es has) ]
stuck_from s (Take by ticket outcome ∷ es) is = elim (stuck_from (changed s (Take by ticket outcome)) es is) [ inl was ↦ inl was | inr has ↦ inr (later_has Stuck _ es has) ]
stuck_from s (Rest by ∷ es) is = elim (stuck_from (changed s (Rest by)) es is) [ inl was ↦ inl was | inr has ↦ inr (later_has Stuck _ es has) ]
stuck_from s (End by how ∷ es) is = elim (stuck_from (changed s (End by how)) es is) [ inl was ↦ inl was | inr has ↦ inr (later_has Stuck _ es has) ]

stuck_one : (s : State) (e : Entry) → s.stuck ≡ true → (changed s e).stuck ≡ true
stuck_one s (Post by ticket event) is = is
stuck_one s (Commit by cert outcomes) is = stuck_stays cert.members outcomes s ∙ is
stuck_one s (Withdraw by ticket) is = is
stuck_one s (Take by ticket outcome) is = is
stuck_one s (Rest by) is = is
stuck_one s (Stuck by) is = refl
stuck_one s (End by how) is = is

stuck_on : (s : State) (h : List Entry) → s.stuck ≡ true → (state_from s h).stuck ≡ true
stuck_on s [] is = is
stuck_on s (e ∷ es) is = stuck_on (changed s e) es (stuck_one s e is)

stuck_since : (s : State) (h : List Entry) (k by : ℕ) → slice_get h k ≡ Some (Stuck by) → (state_from s h).stuck ≡ true
stuck_since s [] k by at = absurd cc
stuck_since s (e ∷ es) zero by at =
    let is : Stuck by ≡ e = cc in stuck_on (changed s e) es (subst (λ (x : Entry). (changed s x).stuck ≡ true) is refl)
stuck_since s (e ∷ es) (suc k) by at = stuck_since (changed s e) es k by at

pub stuck_exactly : (callers : ℕ) (history : List Entry) → ((state callers history).stuck ≡ true) ↔ ((k by : ℕ) × (slice_get history k ≡ Some (Stuck by)))
unfolding Has
stuck_exactly callers history = (λ is. found (stuck_from (opening callers) history is), λ has. stuck_since (opening callers) history has.0 has.1 has.2)
  where
    found : ((opening callers).stuck ≡ true) ⊎ Has Stuck history → (k by : ℕ) × (slice_get history k ≡ Some (Stuck by))
    found (inl was) = absurd cc
    found (inr has) = has

resting_from : (s : State) (h : List Entry) → (state_from s h).resting ≡ true → (s.resting ≡ true) ⊎ Has Rest h
unfolding Has
resting_from s [] is = inl is
resting_from s (Rest by ∷ es) is = inr (0, by, refl)
resting_from s (Post by ticket event ∷ es) is = elim (resting_from (changed s (Post by ticket event)) es is) [ inl was ↦ inl was | inr has ↦ inr (later_has Rest _ es has) ]
resting_from s (Commit by cert outcomes ∷ es) is = elim (resting_from (changed s (Commit by cert outcomes)) es is) [
  | inl was ↦ inl (sym (given_resting cert.members outcomes s) ∙ was)
  | inr has ↦ inr (later_has Rest _ es has)
]
resting_from s (Withdraw by ticket ∷ es) is = elim (resting_from (changed s (Withdraw by ticket)) es is) [ inl was ↦ inl was | inr has ↦ inr (later_has Rest _ es has) ]
resting_from s (Take by ticket outcome ∷ es) is = elim (resting_from (changed s (Take by ticket outcome)) es is) [ inl was ↦ inl was | inr has ↦ inr (later_has Rest _ es has) ]
resting_from s (Stuck by ∷ es) is = elim (resting_from (changed s (Stuck by)) es is) [ inl was ↦ inl was | inr has ↦ inr (later_has Rest _ es has) ]
resting_from s (End by how ∷ es) is = elim (resting_from (changed s (End by how)) es is) [ inl was ↦ inl was | inr has ↦ inr (later_has Rest _ es has) ]

resting_one : (s : State) (e : Entry) → s.resting ≡ true → (changed s e).resting ≡ true
resting_one s (Post by ticket event) is = is
resting_one s (Commit by cert outcomes) is = given_resting cert.members outcomes s ∙ is
resting_one s (Withdraw by ticket) is = is
resting_one s (Take by ticket outcome) is = is
resting_one s (Stuck by) is = is
resting_one s (Rest by) is = refl
resting_one s (End by how) is = is

resting_on : (s : State) (h : List Entry) → s.resting ≡ true → (state_from s h).resting ≡ true
resting_on s [] is = is
resting_on s (e ∷ es) is = resting_on (changed s e) es (resting_one s e is)

resting_since : (s : State) (h : List Entry) (k by : ℕ) → slice_get h k ≡ Some (Rest by) → (state_from s h).resting ≡ true
resting_since s [] k by at = absurd cc
resting_since s (e ∷ es) zero by at =
    let is : Rest by ≡ e = cc in resting_on (changed s e) es (subst (λ (x : Entry). (changed s x).resting ≡ true) is refl)
resting_since s (e ∷ es) (suc k) by at = resting_since (changed s e) es k by at

pub resting_exactly : (callers : ℕ) (history : List Entry) → ((state callers history).resting ≡ true) ↔ ((k by : ℕ) × (slice_get history k ≡ Some (Rest by)))
unfolding Has
resting_exactly callers history = (λ is. found (resting_from (opening callers) history is), λ has. resting_since (opening callers) history has.0 has.1 has.2)
  where
    found : ((opening callers).resting ≡ true) ⊎ Has Rest history → (k by : ℕ) × (slice_get history k ≡ Some (Rest by))
    found (inl was) = absurd cc
    found (inr has) = has
