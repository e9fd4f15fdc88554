-- What one turn of a loop over the threads makes of what the loop keeps, and what the loop tells at its end.
use Rattle.std.proofs.Common.{◌≡◌, ◌≢◌, ◌⊎◌, inl, inr, ℕ, suc, ◌+◌, ◌≤◌, List, [], ◌∷◌, length, Option, Some, None, refl, sym, ap, subst, arith}
use Rattle.std.specs.Prelude.{slice_get, true, false}
use Rattle.std.specs.Option.{is_some}
use Rattle.std.specs.List.{AllByRecursion}
use Rattle.te_history.specs.declared.entry.Entry.{Entry}
use Rattle.te_history.specs.declared.entry.Entry.TheVariants as entries
use Rattle.te_history.specs.declared.status.How.TheVariants as ways
use Rattle.te_serial.specs.declared.place.Place.{Place}
use Rattle.te_serial.specs.declared.place.Place.TheVariants as places
use Rattle.te_script.specs.Cores.{Stand}
use Rattle.te_history.specs.State.{State}
use Rattle.te_history.specs.Follows.{IsParkedOrEnded}
use Rattle.te_board.specs.Boards.{BoardLog, state_of}
use Rattle.te_serial.specs.Houses.{grown}
use Rattle.te_serial.specs.Runs.{ShowsPlace, NoneGiven, HasOpened, HasOpenedAll, HasEndedAll}
use Rattle.te_history.proofs.AfterEntry.{length-state}
use Rattle.te_serial.proofs.RoundsSoFar.{OpenedSoFar, Callers, skipped, opened_one, shown_idle, shown_settled, none_while, all_opened}
use Rattle.te_serial.proofs.ClosingsSoFar.{LookedSoFar, looked_first, looked_other, looked_ended, EndedSoFar, ended_one, ended_skip, ended_all, shown_parked, shown_ended, shown_past}
use Rattle.te_serial.proofs.ListsKept.{not_parked}

turn_of : (t : ℕ) → suc t ≡ t + 1
turn_of t = omega arith

-- a run that has only grown has as many threads
callers_within : (old now : BoardLog) (es : List Entry) (n t : ℕ) → now ≡ grown old es → n ≡ old.callers → n ≤ t → (length (Callers old) ≤ t) × (length (Callers now) ≤ t)
callers_within old now es n t grows is le = (
  let at = length-state (old.callers) old.entries in omega (arith, at, is, le),
  let at = length-state (now.callers) now.entries in let same : now.callers ≡ old.callers = ap (λ (r : BoardLog). r.callers) grows in omega (arith, at, same, is, le),
)

-- ---- openings

pub opened_next : (old now new last : BoardLog) (t : ℕ) (stand : Stand) (p : Place) → OpenedSoFar old now t → ShowsPlace (slice_get (Callers now) t) p
    → p ≡ places.Idle → HasOpened now new t stand → last ≡ new → OpenedSoFar old last (t + 1)
opened_next old now new last t stand p h shows is opens same =
    let stood = shown_idle (state_of now) t (slice_get (Callers now) t) refl (subst (λ (q : Place). ShowsPlace (slice_get (Callers now) t) q) is shows) in
    subst (λ n. OpenedSoFar old last n) (turn_of t) (subst (λ (r : BoardLog). OpenedSoFar old r (suc t)) (sym same) (opened_one old now new t stand h stood opens))

not_idle : (p : Place) → (p ≡ places.Parked) ⊎ (p ≡ places.Given) ⊎ (p ≡ places.Ended) → p ≢ places.Idle
not_idle p (inl is) e = cc
not_idle p (inr (inl is)) e = cc
not_idle p (inr (inr is)) e = cc

pub skipped_next : (old now last : BoardLog) (t : ℕ) (p : Place) → OpenedSoFar old now t → NoneGiven (state_of old) → ShowsPlace (slice_get (Callers now) t) p
    → (p ≡ places.Parked) ⊎ (p ≡ places.Given) ⊎ (p ≡ places.Ended) → last ≡ now → OpenedSoFar old last (t + 1)
skipped_next old now last t p h none shows is same =
    let settled = shown_settled (state_of now) t (slice_get (Callers now) t) p refl shows (not_idle p is) (none_while old now t h none) in
    subst (λ n. OpenedSoFar old last n) (turn_of t) (subst (λ (r : BoardLog). OpenedSoFar old r (suc t)) (sym same) (skipped old now t settled.0 h settled.1 settled.2))

pub opened_at_end : (old now : BoardLog) (n t : ℕ) → OpenedSoFar old now t → n ≡ old.callers → n ≤ t → HasOpenedAll old now
opened_at_end old now n t h is le = let within = callers_within old now h.entries n t h.grows is le in all_opened old now t h within.0 within.1

-- ---- the ends of parked threads

pub ended_next : (old now new last : BoardLog) (t : ℕ) (p : Place) → EndedSoFar old now t → ShowsPlace (slice_get (Callers now) t) p → p ≡ places.Parked
    → new ≡ grown now (entries.End t ways.Stuck ∷ []) → last ≡ new → EndedSoFar old last (t + 1)
ended_next old now new last t p h shows is k same =
    let stood = shown_parked (state_of now) t (slice_get (Callers now) t) refl (subst (λ (q : Place). ShowsPlace (slice_get (Callers now) t) q) is shows) in
    subst (λ n. EndedSoFar old last n) (turn_of t) (subst (λ (r : BoardLog). EndedSoFar old r (suc t)) (sym same) (ended_one old now new t stood.0 stood.1 h stood.2 k))

pub ended_past : (old now last : BoardLog) (t : ℕ) (p : Place) → EndedSoFar old now t → AllByRecursion IsParkedOrEnded (Callers old)
    → ShowsPlace (slice_get (Callers now) t) p → (p ≡ places.Idle) ⊎ (p ≡ places.Given) ⊎ (p ≡ places.Ended) → last ≡ now → EndedSoFar old last (t + 1)
ended_past old now last t p h settled shows is same =
    let stood = shown_past old now t (slice_get (Callers now) t) p h settled refl shows (not_parked p is) in
    subst (λ n. EndedSoFar old last n) (turn_of t) (subst (λ (r : BoardLog). EndedSoFar old r (suc t)) (sym same) (ended_skip old now t h stood))

pub ended_at_end : (old now : BoardLog) (n t : ℕ) → EndedSoFar old now t → n ≡ old.callers → n ≤ t → HasEndedAll old now
ended_at_end old now n t h is le = let within = callers_within old now h.ends n t h.grows is le in ended_all old now t h within.0 within.1

-- ---- the look for the lowest parked thread

pub looked_first_next : (s : State) (t : ℕ) (p : Place) (lowest last : Option ℕ) → LookedSoFar s t lowest → ShowsPlace (slice_get s.callers t) p → p ≡ places.Parked
    → is_some lowest ≡ false → last ≡ Some t → LookedSoFar s (t + 1) last
looked_first_next s t p (Some low) last h shows is none same = absurd cc
looked_first_next s t p None last h shows is none same =
    let stood = shown_parked s t (slice_get s.callers t) refl (subst (λ (q : Place). ShowsPlace (slice_get s.callers t) q) is shows) in
    subst (λ n. LookedSoFar s n last) (turn_of t) (subst (λ (l : Option ℕ). LookedSoFar s (suc t) l) (sym same) (looked_first s t stood.0 stood.1 h stood.2))

pub looked_other_next : (s : State) (t : ℕ) (p : Place) (lowest last : Option ℕ) → LookedSoFar s t lowest → ShowsPlace (slice_get s.callers t) p → p ≡ places.Parked
    → is_some lowest ≡ true → last ≡ lowest → LookedSoFar s (t + 1) last
looked_other_next s t p None last h shows is some same = absurd cc
looked_other_next s t p (Some low) last h shows is some same =
    let stood = shown_parked s t (slice_get s.callers t) refl (subst (λ (q : Place). ShowsPlace (slice_get s.callers t) q) is shows) in
    subst (λ n. LookedSoFar s n last) (turn_of t) (subst (λ (l : Option ℕ). LookedSoFar s (suc t) l) (sym same) (looked_other s t low stood.0 stood.1 h stood.2))

pub looked_ended_next : (s : State) (t : ℕ) (p : Place) (lowest last : Option ℕ) → LookedSoFar s t lowest → ShowsPlace (slice_get s.callers t) p → p ≡ places.Ended
    → last ≡ lowest → LookedSoFar s (t + 1) last
looked_ended_next s t p lowest last h shows is same =
    let stood = shown_ended s t (slice_get s.callers t) refl (subst (λ (q : Place). ShowsPlace (slice_get s.callers t) q) is shows) in
    subst (λ n. LookedSoFar s n last) (turn_of t) (subst (λ (l : Option ℕ). LookedSoFar s (suc t) l) (sym same) (looked_ended s t lowest h stood))
