-- The state of a board after each step of a round.
use Rattle.std.proofs.Common.{◌≡◌, ◌≢◌, ℕ, suc, ◌+◌, ◌<◌, List, [], ◌∷◌, ◌++◌, length, slice_set, Some, refl, sym, ap, subst, ◌∙◌, arith, add-zero}
use Rattle.std.proofs.lemmas.List.{append-nil}
use Rattle.std.proofs.lemmas.List.Concat.{flat_map-append}
use Rattle.std.proofs.lemmas.Option.{slice_get_within}
use Rattle.std.specs.Prelude.{slice_get}
use Rattle.std.specs.List.{flat_map}
use Rattle.te_terms.specs.declared.event.Outcome.{Outcome}
use Rattle.te_script.specs.Cores.{Stand}
use Rattle.te_script.proofs.Places.{slice_get_set_same, slice_get_set_other}
use Rattle.te_history.specs.declared.entry.Entry.{Entry}
use Rattle.te_history.specs.declared.entry.Entry.TheVariants as entries
use Rattle.te_history.specs.State.{Standing, idle, parked, given, ended, State, changed}
use Rattle.te_history.specs.Follows.{Stands, IsParkedOrEnded}
use Rattle.te_history.proofs.AfterEntry.{state-after, length-state}
use Rattle.te_board.specs.Boards.{BoardLog, state_of}
use Rattle.te_serial.specs.Rounds.{OpensBy, OpensFrom, TakesBy}
use Rattle.te_serial.specs.Houses.{grown}
use Rattle.te_serial.specs.Runs.{IsGivenIn, HasOpened, HasTakenOne}
use Rattle.te_serial.proofs.Continuing.{grown_twice}

-- a caller that stands somewhere is one of the board's callers
pub caller_within : (board : BoardLog) (t : ℕ) (s : Standing) → Stands (state_of board) t s → t < board.callers
caller_within board t s stood = omega (arith, slice_get_within (state_of board).callers t s stood, length-state board.callers board.entries)

-- one entry more
pub state_grown : (old new : BoardLog) (e : Entry) → new ≡ grown old (e ∷ []) → state_of new ≡ changed (state_of old) e
state_grown old new e is = ap state_of is ∙ state-after old.callers old.entries e

-- ---- after an opening

pub record OpenedState (old new : State) (t : ℕ) : Type 0 where
  pub standing : Standing
  pub settled : IsParkedOrEnded standing
  pub callers : new.callers ≡ slice_set old.callers t standing
  pub stuck : new.stuck ≡ old.stuck

opened_by : (s : State) (t : ℕ) (e : Entry) → OpensBy t e → OpenedState s (changed s e) t
opened_by s t (entries.Post by ticket event) h = record { standing = parked ticket event; settled = tt; callers = ap (λ k. slice_set s.callers k (parked ticket event)) h; stuck = refl }
opened_by s t (entries.End by how) h = record { standing = ended; settled = tt; callers = ap (λ k. slice_set s.callers k ended) h; stuck = refl }
opened_by s t (entries.Commit by cert outcomes) h = absurd h
opened_by s t (entries.Withdraw by ticket) h = absurd h
opened_by s t (entries.Take by ticket outcome) h = absurd h
opened_by s t (entries.Rest by) h = absurd h
opened_by s t (entries.Stuck by) h = absurd h

pub opened_state : (old new : BoardLog) (t : ℕ) (stand : Stand) → HasOpened old new t stand → OpenedState (state_of old) (state_of new) t
opened_state old new t stand h = subst (λ (s : State). OpenedState (state_of old) s t) (sym (state_grown old new h.entry h.grows)) (opened_by (state_of old) t h.entry h.opens)

-- ---- after a take

pub record TakenState (old new : State) (t : ℕ) : Type 0 where
  pub callers : new.callers ≡ slice_set old.callers t idle
  pub stuck : new.stuck ≡ old.stuck

taken_by : (s : State) (t : ℕ) (e : Entry) → TakesBy t e → TakenState s (changed s e) t
taken_by s t (entries.Take by ticket outcome) h = record { callers = ap (λ k. slice_set s.callers k idle) h; stuck = refl }
taken_by s t (entries.Post by ticket event) h = absurd h
taken_by s t (entries.End by how) h = absurd h
taken_by s t (entries.Commit by cert outcomes) h = absurd h
taken_by s t (entries.Withdraw by ticket) h = absurd h
taken_by s t (entries.Rest by) h = absurd h
taken_by s t (entries.Stuck by) h = absurd h

pub taken_state : (old new : BoardLog) (t : ℕ) → HasTakenOne old new t → TakenState (state_of old) (state_of new) t
taken_state old new t h = subst (λ (s : State). TakenState (state_of old) s t) (sym (state_grown old new h.entry h.grows)) (taken_by (state_of old) t h.entry h.takes)

-- ---- openings, one thread more

pub opens_idle : (u : ℕ) (cs : List Standing) (es : List Entry) (e : Entry) → OpensFrom u cs es → OpensBy (u + length cs) e → OpensFrom u (cs ++ idle ∷ []) (es ++ e ∷ [])
opens_idle u [] [] e h by = (subst (λ k. OpensBy k e) (add-zero u) by, tt)
opens_idle u [] (x ∷ es) e h by = absurd h
opens_idle u (idle ∷ cs) [] e h by = absurd h
opens_idle u (idle ∷ cs) (x ∷ es) e h by = let n : u + suc (length cs) ≡ suc u + length cs = omega arith in (h.0, opens_idle (suc u) cs es e h.1 (subst (λ k. OpensBy k e) n by))
opens_idle u (parked ticket event ∷ cs) es e h by = let n : u + suc (length cs) ≡ suc u + length cs = omega arith in opens_idle (suc u) cs es e h (subst (λ k. OpensBy k e) n by)
opens_idle u (given ticket outcome ∷ cs) es e h by = let n : u + suc (length cs) ≡ suc u + length cs = omega arith in opens_idle (suc u) cs es e h (subst (λ k. OpensBy k e) n by)
opens_idle u (ended ∷ cs) es e h by = let n : u + suc (length cs) ≡ suc u + length cs = omega arith in opens_idle (suc u) cs es e h (subst (λ k. OpensBy k e) n by)

pub opens_other : (u : ℕ) (cs : List Standing) (es : List Entry) (c : Standing) → IsParkedOrEnded c → OpensFrom u cs es → OpensFrom u (cs ++ c ∷ []) es
opens_other u [] [] idle other h = absurd other
opens_other u [] [] (parked ticket event) other h = tt
opens_other u [] [] (given ticket outcome) other h = absurd other
opens_other u [] [] ended other h = tt
opens_other u [] (x ∷ es) c other h = absurd h
opens_other u (idle ∷ cs) [] c other h = absurd h
opens_other u (idle ∷ cs) (x ∷ es) c other h = (h.0, opens_other (suc u) cs es c other h.1)
opens_other u (parked ticket event ∷ cs) es c other h = opens_other (suc u) cs es c other h
opens_other u (given ticket outcome ∷ cs) es c other h = opens_other (suc u) cs es c other h
opens_other u (ended ∷ cs) es c other h = opens_other (suc u) cs es c other h

-- who stands where after a take
pub after_take : (old new : State) (t u : ℕ) (s : Standing) → TakenState old new t → u ≢ t → Stands new u s → Stands old u s
after_take old new t u s h ne stood = sym (slice_get_set_other old.callers t u idle ne) ∙ ap (λ (cs : List Standing). slice_get cs u) (sym h.callers) ∙ stood

pub not_given : (old new : State) (t u ticket : ℕ) (o : Outcome) → TakenState old new t → t < length old.callers → Stands new u (given ticket o) → u ≢ t
not_given old new t u ticket o h lt stood same =
    let here : slice_get new.callers t ≡ Some idle = ap (λ (cs : List Standing). slice_get cs t) h.callers ∙ slice_get_set_same old.callers t idle lt in
    let there : slice_get new.callers t ≡ Some (given ticket o) = subst (λ k. slice_get new.callers k ≡ Some (given ticket o)) same stood in
    differ (sym here ∙ there)
  where
    differ : Some idle ≡ Some (given ticket o) → ⊥
    differ e = cc

pub given_within : (s : State) (t : ℕ) → IsGivenIn s t → t < length s.callers
given_within s t g = slice_get_within s.callers t (given g.0 g.1) g.2

pub still_given : (old new : State) (t u : ℕ) → TakenState old new t → u ≢ t → IsGivenIn old u → IsGivenIn new u
still_given old new t u h ne g = (g.0, g.1, ap (λ (cs : List Standing). slice_get cs u) h.callers ∙ slice_get_set_other old.callers t u idle ne ∙ g.2)

-- ---- blocks, one more

pub blocks_more : (run : BoardLog) (blocks : List (List Entry)) (block : List Entry) → grown (grown run (flat_map (λ b. b) blocks)) block ≡ grown run (flat_map (λ b. b) (blocks ++ block ∷ []))
blocks_more run blocks block = grown_twice run (flat_map (λ b. b) blocks) block ∙ ap (grown run) (flat_more blocks)
  where
    flat_more : (bs : List (List Entry)) → flat_map (λ b. b) bs ++ block ≡ flat_map (λ b. b) (bs ++ block ∷ [])
    flat_more bs = sym (flat_map-append (λ b. b) bs (block ∷ []) ∙ ap (λ x. flat_map (λ b. b) bs ++ x) (append-nil block))
