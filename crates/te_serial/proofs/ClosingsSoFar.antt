-- What the looks and the ends at the close of a round keep.
use Rattle.std.proofs.Common.{◌≡◌, ◌≢◌, inl, ℕ, zero, suc, ◌+◌, ◌≤◌, true, List, [], ◌∷◌, ◌++◌, length, take, drop, slice_set, Option, Some, None, refl, sym, ap, subst, ◌∙◌, arith, add-zero}
use Rattle.std.proofs.lemmas.List.{append-nil, length-take}
use Rattle.std.proofs.lemmas.Option.{slice_get_within}
use Rattle.std.specs.Prelude.{slice_get}
use Rattle.std.specs.List.{AllByRecursion}
use Rattle.te_terms.specs.Terms.{Term}
use Rattle.te_terms.specs.declared.event.Parked.{Parked}
use Rattle.te_script.proofs.Places.{slice_get_set_same}
use Rattle.te_terms.proofs.Lists.{AllByRecursion-append, take_all, take_next}
use Rattle.te_history.specs.declared.status.How.TheVariants as ways
use Rattle.te_history.specs.declared.entry.Entry.{Entry}
use Rattle.te_history.specs.declared.entry.Entry.TheVariants as entries
use Rattle.te_serial.specs.declared.place.Place.{Place}
use Rattle.te_serial.specs.declared.place.Place.TheVariants as places
use Rattle.te_history.specs.State.{Standing, idle, parked, given, ended, State, parked_by, parked_from, parked_list}
use Rattle.te_history.specs.Follows.{Stands, IsParkedOrEnded}
use Rattle.te_serial.specs.Rounds.{EndsOf, EndsStuck, IsStuckDue, IsLowestParked}
use Rattle.te_board.specs.Boards.{BoardLog, state_of}
use Rattle.te_serial.specs.Houses.{grown}
use Rattle.te_serial.specs.Runs.{ShowsPlace, HasEndedAll, HasClosed}
use Rattle.te_serial.proofs.Continuing.{grown_twice}
use Rattle.te_serial.proofs.BoardStates.{state_grown}
use Rattle.te_serial.proofs.RoundsSoFar.{Callers, slice_at_cut, drop_next, drop_set, take_set}

-- ---- the parked list, one caller more

pub parked_more : (u : ℕ) (cs : List Standing) (c : Standing) → parked_from u (cs ++ c ∷ []) ≡ parked_from u cs ++ parked_by (u + length cs) c []
parked_more u [] c = ap (λ k. parked_by k c []) (sym (add-zero u))
parked_more u (idle ∷ cs) c = parked_more (suc u) cs c ∙ ap (λ k. parked_from (suc u) cs ++ parked_by k c []) (let n : suc u + length cs ≡ u + suc (length cs) = omega arith in n)
parked_more u (parked ticket event ∷ cs) c =
    ap (λ (ps : List Parked). record { thread = u; ticket = ticket; event = event } ∷ ps)
    (parked_more (suc u) cs c ∙ ap (λ k. parked_from (suc u) cs ++ parked_by k c []) (let n : suc u + length cs ≡ u + suc (length cs) = omega arith in n))
parked_more u (given ticket outcome ∷ cs) c = parked_more (suc u) cs c ∙ ap (λ k. parked_from (suc u) cs ++ parked_by k c []) (let n : suc u + length cs ≡ u + suc (length cs) = omega arith in n)
parked_more u (ended ∷ cs) c = parked_more (suc u) cs c ∙ ap (λ k. parked_from (suc u) cs ++ parked_by k c []) (let n : suc u + length cs ≡ u + suc (length cs) = omega arith in n)

-- ---- the lowest parked thread

abbrev pub lowest_of : List Parked → Option ℕ
lowest_of [] = None
lowest_of (p ∷ ps) = Some p.thread

-- the threads before t are parked or ended, and this is the lowest parked one
pub record LookedSoFar (s : State) (t : ℕ) (lowest : Option ℕ) : Type 0 where
  pub settled : AllByRecursion IsParkedOrEnded (take t s.callers)
  pub lowest_is : lowest_of (parked_from 0 (take t s.callers)) ≡ lowest

pub front_length : (s : State) (t : ℕ) (x : Standing) → Stands s t x → 0 + length (take t s.callers) ≡ t
front_length s t x stood = let lt = slice_get_within s.callers t x stood in omega (arith, length-take t s.callers)

lowest_more : (ps qs : List Parked) (t : ℕ) → lowest_of ps ≡ Some t → lowest_of (ps ++ qs) ≡ Some t
lowest_more [] qs t e = absurd cc
lowest_more (p ∷ ps) qs t e = e

none_yet : (ps qs : List Parked) → lowest_of ps ≡ None → ps ++ qs ≡ qs
none_yet [] qs e = refl
none_yet (p ∷ ps) qs e = absurd cc

pub looked_first : (s : State) (t ticket : ℕ) (event : Term) → LookedSoFar s t None → Stands s t (parked ticket event) → LookedSoFar s (suc t) (Some t)
looked_first s t ticket event h stood =
    let next = take_next s.callers t (parked ticket event) stood in
    let count = front_length s t (parked ticket event) stood in
    record {
      settled = subst (λ (cs : List Standing). AllByRecursion IsParkedOrEnded cs) (sym next) (AllByRecursion-append IsParkedOrEnded (take t s.callers) (parked ticket event) h.settled tt);
      lowest_is = ap (λ (cs : List Standing). lowest_of (parked_from 0 cs)) next
          ∙ ap lowest_of (parked_more 0 (take t s.callers) (parked ticket event) ∙ none_yet (parked_from 0 (take t s.callers)) _ h.lowest_is) ∙ ap Some count;
    }

pub looked_other : (s : State) (t low ticket : ℕ) (event : Term) → LookedSoFar s t (Some low) → Stands s t (parked ticket event) → LookedSoFar s (suc t) (Some low)
looked_other s t low ticket event h stood =
    let next = take_next s.callers t (parked ticket event) stood in
    record {
      settled = subst (λ (cs : List Standing). AllByRecursion IsParkedOrEnded cs) (sym next) (AllByRecursion-append IsParkedOrEnded (take t s.callers) (parked ticket event) h.settled tt);
      lowest_is = ap (λ (cs : List Standing). lowest_of (parked_from 0 cs)) next ∙ ap lowest_of (parked_more 0 (take t s.callers) (parked ticket event))
          ∙ lowest_more (parked_from 0 (take t s.callers)) _ low h.lowest_is;
    }

pub looked_ended : (s : State) (t : ℕ) (lowest : Option ℕ) → LookedSoFar s t lowest → Stands s t ended → LookedSoFar s (suc t) lowest
looked_ended s t lowest h stood =
    let next = take_next s.callers t ended stood in
    record {
      settled = subst (λ (cs : List Standing). AllByRecursion IsParkedOrEnded cs) (sym next) (AllByRecursion-append IsParkedOrEnded (take t s.callers) ended h.settled tt);
      lowest_is = ap (λ (cs : List Standing). lowest_of (parked_from 0 cs)) next ∙ ap lowest_of (parked_more 0 (take t s.callers) ended ∙ append-nil (parked_from 0 (take t s.callers))) ∙ h.lowest_is;
    }

-- ---- what is shown of a place

pub shown_parked : (s : State) (t : ℕ) (o : Option Standing) → slice_get s.callers t ≡ o → ShowsPlace o places.Parked → (ticket : ℕ) × (event : Term) × Stands s t (parked ticket event)
shown_parked s t (Some idle) e h = absurd h
shown_parked s t (Some (parked ticket event)) e h = (ticket, event, e)
shown_parked s t (Some (given ticket outcome)) e h = absurd h
shown_parked s t (Some ended) e h = absurd h
shown_parked s t None e h = absurd h

pub shown_ended : (s : State) (t : ℕ) (o : Option Standing) → slice_get s.callers t ≡ o → ShowsPlace o places.Ended → Stands s t ended
shown_ended s t (Some idle) e h = absurd h
shown_ended s t (Some (parked ticket event)) e h = absurd h
shown_ended s t (Some (given ticket outcome)) e h = absurd h
shown_ended s t (Some ended) e h = e
shown_ended s t None e h = absurd h

all_at : (P : Standing → Type 0) (cs : List Standing) (t : ℕ) (x : Standing) → AllByRecursion P cs → slice_get cs t ≡ Some x → P x
all_at P [] t x h e = absurd cc
all_at P (c ∷ cs) zero x h e = let same : c ≡ x = cc in subst P same h.0
all_at P (c ∷ cs) (suc t) x h e = all_at P cs t x h.1 e

-- ---- the ends of parked threads

-- the parked threads before t have ended, in order; the others stand as at the start
pub record EndedSoFar (old now : BoardLog) (t : ℕ) : Type 0 where
  pub ends : List Entry
  pub are_ends : EndsOf (parked_from 0 (take t (Callers old))) ends
  pub grows : now ≡ grown old ends
  pub stuck : (state_of now).stuck ≡ true
  pub behind : AllByRecursion (λ c. c ≡ ended) (take t (Callers now))
  pub ahead : drop t (Callers now) ≡ drop t (Callers old)

pub as_before : (old now : BoardLog) (t : ℕ) (s : Standing) → EndedSoFar old now t → Stands (state_of now) t s → Stands (state_of old) t s
as_before old now t s h stood = slice_at_cut (Callers old) t ∙ ap (λ (cs : List Standing). slice_get cs 0) (sym h.ahead) ∙ sym (slice_at_cut (Callers now) t) ∙ stood

ends_more : (ps : List Parked) (es : List Entry) (p : Parked) (e : Entry) → EndsOf ps es → EndsStuck p.thread e → EndsOf (ps ++ p ∷ []) (es ++ e ∷ [])
ends_more [] [] p e h k = (k, tt)
ends_more [] (x ∷ es) p e h k = absurd h
ends_more (q ∷ ps) [] p e h k = absurd h
ends_more (q ∷ ps) (x ∷ es) p e h k = (h.0, ends_more ps es p e h.1 k)

pub ended_one : (old now new : BoardLog) (t ticket : ℕ) (event : Term) → EndedSoFar old now t → Stands (state_of now) t (parked ticket event)
    → new ≡ grown now (entries.End t ways.Stuck ∷ []) → EndedSoFar old new (suc t)
ended_one old now new t ticket event h stood k =
    let e : Entry = entries.End t ways.Stuck in
    let before = as_before old now t (parked ticket event) h stood in
    let count = front_length (state_of old) t (parked ticket event) before in
    let next = take_next (Callers old) t (parked ticket event) before in
    let shows = state_grown now new e k in
    let callers : Callers new ≡ slice_set (Callers now) t ended = ap (λ (s : State). s.callers) shows in
    let here : slice_get (Callers new) t ≡ Some ended = ap (λ (cs : List Standing). slice_get cs t) callers
    ∙ slice_get_set_same (Callers now) t ended (slice_get_within (Callers now) t (parked ticket event) stood) in
    let front : take t (Callers new) ≡ take t (Callers now) = ap (λ (cs : List Standing). take t cs) callers ∙ take_set (Callers now) t ended in
    let list : parked_from 0 (take (suc t) (Callers old)) ≡ parked_from 0
    (take t (Callers old)) ++ record { thread = 0 + length (take t (Callers old)); ticket = ticket; event = event } ∷ [] = ap (parked_from 0) next
    ∙ parked_more 0 (take t (Callers old)) (parked ticket event) in
    record {
      ends = h.ends ++ e ∷ [];
      are_ends = subst (λ (ps : List Parked). EndsOf ps (h.ends ++ e ∷ [])) (sym list) (ends_more (parked_from 0 (take t (Callers old))) h.ends _ e h.are_ends (sym count));
      grows = k ∙ ap (λ (r : BoardLog). grown r (e ∷ [])) h.grows ∙ grown_twice old h.ends (e ∷ []);
      stuck = ap (λ (s : State). s.stuck) shows ∙ h.stuck;
      behind = subst (λ (cs : List Standing). AllByRecursion (λ c. c ≡ ended) cs) (sym (take_next (Callers new) t ended here))
          (subst (λ (cs : List Standing). AllByRecursion (λ c. c ≡ ended) (cs ++ ended ∷ [])) (sym front) (AllByRecursion-append (λ c. c ≡ ended) (take t (Callers now)) ended h.behind refl));
      ahead = ap (λ (cs : List Standing). drop (suc t) cs) callers ∙ drop_set (Callers now) t ended ∙ drop_next (Callers now) t
          ∙ ap (λ (cs : List Standing). drop 1 cs) h.ahead ∙ sym (drop_next (Callers old) t);
    }

pub ended_skip : (old now : BoardLog) (t : ℕ) → EndedSoFar old now t → Stands (state_of now) t ended → EndedSoFar old now (suc t)
ended_skip old now t h stood =
    let before = as_before old now t ended h stood in
    let list : parked_from 0 (take (suc t) (Callers old)) ≡ parked_from 0 (take t (Callers old)) = ap (parked_from 0) (take_next (Callers old) t ended before)
    ∙ parked_more 0 (take t (Callers old)) ended ∙ append-nil (parked_from 0 (take t (Callers old))) in
    record {
      ends = h.ends;
      are_ends = subst (λ (ps : List Parked). EndsOf ps h.ends) (sym list) h.are_ends;
      grows = h.grows;
      stuck = h.stuck;
      behind = subst (λ (cs : List Standing). AllByRecursion (λ c. c ≡ ended) cs) (sym (take_next (Callers now) t ended stood))
          (AllByRecursion-append (λ c. c ≡ ended) (take t (Callers now)) ended h.behind refl);
      ahead = drop_next (Callers now) t ∙ ap (λ (cs : List Standing). drop 1 cs) h.ahead ∙ sym (drop_next (Callers old) t);
    }

-- where all were parked or ended, one that isn't parked has ended
pub shown_past : (old now : BoardLog) (t : ℕ) (o : Option Standing) (p : Place) → EndedSoFar old now t → AllByRecursion IsParkedOrEnded (Callers old)
    → slice_get (Callers now) t ≡ o → ShowsPlace o p → p ≢ places.Parked → Stands (state_of now) t ended
shown_past old now t (Some ended) p h settled e shows ne = e
shown_past old now t (Some idle) p h settled e shows ne = absurd (all_at IsParkedOrEnded (Callers old) t idle settled (as_before old now t idle h e))
shown_past old now t (Some (given ticket outcome)) p h settled e shows ne = absurd
    (all_at IsParkedOrEnded (Callers old) t (given ticket outcome) settled (as_before old now t (given ticket outcome) h e))
shown_past old now t (Some (parked ticket event)) places.Parked h settled e shows ne = absurd (ne refl)
shown_past old now t (Some (parked ticket event)) places.Idle h settled e shows ne = absurd shows
shown_past old now t (Some (parked ticket event)) places.Given h settled e shows ne = absurd shows
shown_past old now t (Some (parked ticket event)) places.Ended h settled e shows ne = absurd shows
shown_past old now t None places.Idle h settled e shows ne = absurd shows
shown_past old now t None places.Parked h settled e shows ne = absurd shows
shown_past old now t None places.Given h settled e shows ne = absurd shows
shown_past old now t None places.Ended h settled e shows ne = absurd shows

pub ended_all : (old now : BoardLog) (t : ℕ) → EndedSoFar old now t → length (Callers old) ≤ t → length (Callers now) ≤ t → HasEndedAll old now
ended_all old now t h le le' = record {
  ends = h.ends;
  are_ends = subst (λ (cs : List Standing). EndsOf (parked_from 0 cs) h.ends) (take_all (Callers old) t le) h.are_ends;
  grows = h.grows;
  whole = subst (λ (cs : List Standing). AllByRecursion (λ c. c ≡ ended) cs) (take_all (Callers now) t le') h.behind;
}

-- ---- the close of a round

lowest_parked : (u : ℕ) (cs : List Standing) (t : ℕ) → IsLowestParked (parked_from u cs) t → (i ticket : ℕ) × (event : Term) × (t ≡ u + i) × (slice_get cs i ≡ Some (parked ticket event))
lowest_parked u [] t h = absurd h
lowest_parked u (parked ticket event ∷ cs) t h = (0, ticket, event, h ∙ sym (add-zero u), refl)
lowest_parked u (idle ∷ cs) t h = let rest = lowest_parked (suc u) cs t h in (suc rest.0, rest.1, rest.2, (let n : suc u + rest.0 ≡ u + suc rest.0 = omega arith in rest.3 ∙ n), rest.4)
lowest_parked u (given k o ∷ cs) t h = let rest = lowest_parked (suc u) cs t h in (suc rest.0, rest.1, rest.2, (let n : suc u + rest.0 ≡ u + suc rest.0 = omega arith in rest.3 ∙ n), rest.4)
lowest_parked u (ended ∷ cs) t h = let rest = lowest_parked (suc u) cs t h in (suc rest.0, rest.1, rest.2, (let n : suc u + rest.0 ≡ u + suc rest.0 = omega arith in rest.3 ∙ n), rest.4)

pub lowest_stands : (s : State) (t : ℕ) → IsLowestParked (parked_list s) t → (ticket : ℕ) × (event : Term) × Stands s t (parked ticket event)
lowest_stands s t h =
    let found = lowest_parked 0 s.callers t h in
    let at : t ≡ found.0 = let n : 0 + found.0 ≡ found.0 = omega arith in found.3 ∙ n in
    (found.1, found.2, subst (λ i. slice_get s.callers i ≡ Some (parked found.1 found.2)) (sym at) found.4)

pub stuck_state : (old new : BoardLog) (t : ℕ) → new ≡ grown old (entries.Stuck t ∷ []) → ((state_of new).stuck ≡ true) × (Callers new ≡ Callers old)
stuck_state old new t k = let shows = state_grown old new (entries.Stuck t) k in (ap (λ (s : State). s.stuck) shows, ap (λ (s : State). s.callers) shows)

pub closed_stuck : (old mid new : BoardLog) (t : ℕ) → IsStuckDue (state_of old) → IsLowestParked (parked_list (state_of old)) t
    → mid ≡ grown old (entries.Stuck t ∷ []) → HasEndedAll mid new → HasClosed old new
closed_stuck old mid new t due low k ends =
    let shows = stuck_state old mid t k in
    record {
      closing = entries.Stuck t ∷ ends.ends;
      closes = inl (due, (low, subst (λ (cs : List Standing). EndsOf (parked_from 0 cs) ends.ends) shows.1 ends.are_ends));
      grows = ends.grows ∙ ap (λ (r : BoardLog). grown r ends.ends) k ∙ grown_twice old (entries.Stuck t ∷ []) ends.ends;
      whole_or_same = inl ends.whole;
    }
