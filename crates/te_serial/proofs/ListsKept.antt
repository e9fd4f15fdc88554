-- The list that is kept while the parked callers are gone through.
use Rattle.std.proofs.Common.{◌≡◌, ◌≢◌, ◌⊎◌, inl, inr, ℕ, suc, ◌+◌, ◌<◌, ◌≤◌, List, [], ◌∷◌, ◌++◌, length, take, Some, refl, sym, ap, subst, ◌∙◌, arith}
use Rattle.std.proofs.lemmas.List.{append-nil, length-take}
use Rattle.std.proofs.lemmas.Option.{slice_get_within}
use Rattle.std.specs.Prelude.{slice_get}
use Rattle.te_terms.specs.Terms.{Term}
use Rattle.te_terms.specs.declared.event.Parked.{Parked}
use Rattle.te_history.specs.State.{Standing, idle, parked, given, ended, State, parked_from}
use Rattle.te_history.specs.Follows.{Stands}
use Rattle.te_board.specs.Boards.{BoardLog, state_of}
use Rattle.te_search.specs.Findings.{HasThread, put_in}
use Rattle.te_serial.specs.declared.place.Place.{Place}
use Rattle.te_serial.specs.declared.place.Place.TheVariants as places
use Rattle.te_serial.specs.Runs.{ShowsPlace, IsKeptOf, IsParkedAt}
use Rattle.te_serial.proofs.ParkedChanges.{IsUnparked, entry_of, unparked_by, put_later}
use Rattle.te_terms.proofs.Lists.{take_all, take_next}
use Rattle.te_serial.proofs.ClosingsSoFar.{parked_more, shown_parked}
use Rattle.te_serial.proofs.ClosingsSoFar.{front_length}

-- the parked callers before t are kept
abbrev pub KeptSoFar : BoardLog → List Parked → ℕ → Type 0
KeptSoFar board kept t = kept ≡ parked_from 0 (take t (state_of board).callers)

-- every thread of the list is lower
abbrev AreBelow : ℕ → List Parked → Type 0
AreBelow high [] = Unit {0}
AreBelow high (p ∷ ps) = (p.thread < high) × AreBelow high ps

below_from : (high u : ℕ) (cs : List Standing) → u + length cs ≤ high → AreBelow high (parked_from u cs)
below_from high u [] le = tt
below_from high u (idle ∷ cs) le = below_from high (suc u) cs (omega arith)
below_from high u (parked ticket event ∷ cs) le = (omega arith, below_from high (suc u) cs (omega arith))
below_from high u (given ticket outcome ∷ cs) le = below_from high (suc u) cs (omega arith)
below_from high u (ended ∷ cs) le = below_from high (suc u) cs (omega arith)

put_last : (p : Parked) (ps : List Parked) → AreBelow p.thread ps → put_in p ps ≡ ps ++ p ∷ []
put_last p [] h = refl
put_last p (q ∷ qs) h = put_later p q qs (let lt = h.0 in omega arith) ∙ ap (λ (rs : List Parked). q ∷ rs) (put_last p qs h.1)

not_below : (high : ℕ) (ps : List Parked) → AreBelow high ps → HasThread ps high → ⊥
not_below high [] h has = has
not_below high (p ∷ ps) h (inl e) = let lt = h.0 in absurd (omega arith)
not_below high (p ∷ ps) h (inr rest) = not_below high ps h.1 rest

front_below : (s : State) (t : ℕ) → AreBelow t (parked_from 0 (take t s.callers))
front_below s t = below_from t 0 (take t s.callers) (let n = length-take t s.callers in grind (arith, length-take t s.callers))

pub apart_so_far : (board : BoardLog) (kept : List Parked) (t : ℕ) → KeptSoFar board kept t → ¬ HasThread kept t
apart_so_far board kept t is = subst (λ (ps : List Parked). ¬ HasThread ps t) (sym is) (λ has. not_below t (parked_from 0 (take t (state_of board).callers)) (front_below (state_of board) t) has)

pub is_parked : (board : BoardLog) (t : ℕ) (p : Place) → ShowsPlace (slice_get (state_of board).callers t) p → p ≡ places.Parked → IsParkedAt (state_of board) t
is_parked board t p shows is = shown_parked (state_of board) t (slice_get (state_of board).callers t) refl (subst (λ (q : Place). ShowsPlace (slice_get (state_of board).callers t) q) is shows)

pub kept_next : (board : BoardLog) (kept after : List Parked) (t : ℕ) → KeptSoFar board kept t → IsParkedAt (state_of board) t
    → ((ticket : ℕ) (event : Term) → Stands (state_of board) t (parked ticket event) → after ≡ put_in (entry_of t ticket event) kept) → KeptSoFar board after (t + 1)
kept_next board kept after t is at puts =
    let s = state_of board in
    let ticket = at.0 in
    let event = at.1 in
    let list = parked_from 0 (take t s.callers) in
    let more : parked_from 0 (take (suc t) s.callers) ≡ list ++ entry_of (0 + length (take t s.callers)) ticket event ∷ [] = ap (parked_from 0)
    (take_next s.callers t (parked ticket event) at.2) ∙ parked_more 0 (take t s.callers) (parked ticket event) in
    let count = front_length s t (parked ticket event) at.2 in
    let n : suc t ≡ t + 1 = omega arith in
    puts ticket event at.2 ∙ ap (put_in (entry_of t ticket event)) is ∙ put_last (entry_of t ticket event) list (front_below s t)
    ∙ ap (λ (k : ℕ). list ++ entry_of k ticket event ∷ []) (sym count) ∙ sym more ∙ ap (λ (k : ℕ). parked_from 0 (take k s.callers)) n

skipped_standing : (s : State) (t : ℕ) (p : Place) → ShowsPlace (slice_get s.callers t) p → p ≢ places.Parked → (x : Standing) × Stands s t x × IsUnparked x
skipped_standing s t p shows other = by_standing (slice_get s.callers t) refl p shows other
  where
    by_standing : (o : _) → slice_get s.callers t ≡ o → (p : Place) → ShowsPlace o p → p ≢ places.Parked → (x : Standing) × Stands s t x × IsUnparked x
    by_standing (Some idle) e p shows other = (idle, e, tt)
    by_standing (Some (given ticket outcome)) e p shows other = (given ticket outcome, e, tt)
    by_standing (Some ended) e p shows other = (ended, e, tt)
    by_standing (Some (parked ticket event)) e places.Parked shows other = absurd (other refl)
    by_standing (Some (parked ticket event)) e places.Idle shows other = absurd shows
    by_standing (Some (parked ticket event)) e places.Given shows other = absurd shows
    by_standing (Some (parked ticket event)) e places.Ended shows other = absurd shows
    by_standing _ e places.Idle shows other = absurd shows
    by_standing _ e places.Parked shows other = absurd shows
    by_standing _ e places.Given shows other = absurd shows
    by_standing _ e places.Ended shows other = absurd shows

pub not_parked : (p : Place) → (p ≡ places.Idle) ⊎ (p ≡ places.Given) ⊎ (p ≡ places.Ended) → p ≢ places.Parked
not_parked p (inl is) e = cc
not_parked p (inr (inl is)) e = cc
not_parked p (inr (inr is)) e = cc

pub kept_skip : (board : BoardLog) (kept : List Parked) (t : ℕ) (p : Place) → KeptSoFar board kept t → ShowsPlace (slice_get (state_of board).callers t) p
    → (p ≡ places.Idle) ⊎ (p ≡ places.Given) ⊎ (p ≡ places.Ended) → KeptSoFar board kept (t + 1)
kept_skip board kept t p is shows other =
    let s = state_of board in
    let found = skipped_standing s t p shows (not_parked p other) in
    let more : parked_from 0 (take (suc t) s.callers) ≡ parked_from 0 (take t s.callers) =
    ap (parked_from 0) (take_next s.callers t found.0 found.1) ∙ parked_more 0 (take t s.callers) found.0
    ∙ ap (λ (ps : List Parked). parked_from 0 (take t s.callers) ++ ps) (unparked_by (0 + length (take t s.callers)) found.0 [] found.2) ∙ append-nil (parked_from 0 (take t s.callers)) in
    let n : suc t ≡ t + 1 = omega arith in
    is ∙ sym more ∙ ap (λ (k : ℕ). parked_from 0 (take k s.callers)) n

pub kept_all : (board : BoardLog) (kept : List Parked) (t : ℕ) → KeptSoFar board kept t → length (state_of board).callers ≤ t → IsKeptOf kept board
kept_all board kept t is le = is ∙ ap (parked_from 0) (take_all (state_of board).callers t le)

pub kept_none : (board : BoardLog) (kept : List Parked) → kept ≡ [] → KeptSoFar board kept 0
kept_none board kept is = is ∙ ap (parked_from 0) (sym (take-zero (state_of board).callers))
  where
    take-zero : (xs : List Standing) → take 0 xs ≡ []
    take-zero [] = refl
    take-zero (x ∷ xs) = refl
