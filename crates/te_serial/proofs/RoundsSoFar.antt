-- What the loops of a round keep.
use Rattle.std.proofs.Common.{◌≡◌, ◌≢◌, ℕ, zero, suc, ◌+◌, ◌<◌, ◌≤◌, List, [], ◌∷◌, ◌++◌, length, take, drop, slice_set, Option, Some, None, refl, sym, ap, subst, ◌∙◌, arith}
use Rattle.std.proofs.lemmas.List.{append-nil, length-append, length-take}
use Rattle.std.proofs.lemmas.Option.{slice_get_within}
use Rattle.std.specs.Prelude.{slice_get}
use Rattle.std.specs.List.{AllByRecursion, flat_map}
use Rattle.te_terms.specs.declared.event.Outcome.{Outcome}
use Rattle.te_terms.specs.Joint.{CanCommit}
use Rattle.te_script.specs.Cores.{Stand}
use Rattle.te_script.proofs.Places.{slice_get_set_same}
use Rattle.te_terms.proofs.Lists.{AllByRecursion-append, take_next, take_all}
use Rattle.te_history.specs.declared.entry.Entry.{Entry}
use Rattle.te_serial.specs.declared.place.Place.{Place}
use Rattle.te_serial.specs.declared.place.Place.TheVariants as places
use Rattle.te_history.specs.State.{Standing, idle, parked, given, ended, State, parked_list}
use Rattle.te_history.specs.Follows.{Stands, IsRunning, IsParkedOrEnded}
use Rattle.te_serial.specs.Rounds.{OpensBy, OpensFrom, IsBlock}
use Rattle.te_board.specs.Boards.{BoardLog, state_of}
use Rattle.te_serial.specs.Houses.{grown}
use Rattle.te_serial.specs.Runs.{ShowsPlace, NoneGiven, HasOpened, HasOpenedAll, HasCommittedBlock, HasCommittedAll}
use Rattle.te_serial.proofs.Continuing.{grown_twice}
use Rattle.te_serial.proofs.BoardStates.{opened_state, opens_idle, opens_other, blocks_more}

-- the threads before t have opened, and the others stand as at the start
pub record OpenedSoFar (old now : BoardLog) (t : ℕ) : Type 0 where
  pub entries : List Entry
  pub opens : OpensFrom 0 (take t (state_of old).callers) entries
  pub grows : now ≡ grown old entries
  pub running : IsRunning (state_of now)
  pub behind : AllByRecursion IsParkedOrEnded (take t (state_of now).callers)
  pub ahead : drop t (state_of now).callers ≡ drop t (state_of old).callers

-- some groups have committed
pub record BlocksSoFar (old now : BoardLog) : Type 0 where
  pub blocks : List (List Entry)
  pub are_blocks : AllByRecursion IsBlock blocks
  pub grows : now ≡ grown old (flat_map (λ block. block) blocks)
  pub running : IsRunning (state_of now)
  pub none : NoneGiven (state_of now)

-- ---- lists cut at a place

pub slice_at_cut : {A : Type 0} (xs : List A) (i : ℕ) → slice_get xs i ≡ slice_get (drop i xs) 0
slice_at_cut [] zero = refl
slice_at_cut [] (suc i) = refl
slice_at_cut (x ∷ xs) zero = refl
slice_at_cut (x ∷ xs) (suc i) = slice_at_cut xs i

pub drop_next : {A : Type 0} (xs : List A) (i : ℕ) → drop (suc i) xs ≡ drop 1 (drop i xs)
drop_next [] zero = refl
drop_next [] (suc i) = refl
drop_next (x ∷ xs) zero = refl
drop_next (x ∷ xs) (suc i) = drop_next xs i

pub drop_set : {A : Type 0} (xs : List A) (i : ℕ) (x : A) → drop (suc i) (slice_set xs i x) ≡ drop (suc i) xs
drop_set [] i x = refl
drop_set (y ∷ ys) zero x = refl
drop_set (y ∷ ys) (suc i) x = drop_set ys i x

pub take_set : {A : Type 0} (xs : List A) (i : ℕ) (x : A) → take i (slice_set xs i x) ≡ take i xs
take_set [] i x = refl
take_set (y ∷ ys) zero x = refl
take_set (y ∷ ys) (suc i) x = ap (λ zs. y ∷ zs) (take_set ys i x)

-- ---- one thread more

abbrev pub Callers : BoardLog → List Standing
Callers run = (state_of run).callers

pub as_at_start : (old now : BoardLog) (t : ℕ) (s : Standing) → OpenedSoFar old now t → Stands (state_of now) t s → Stands (state_of old) t s
as_at_start old now t s h stood = slice_at_cut (Callers old) t ∙ ap (λ (cs : List Standing). slice_get cs 0) (sym h.ahead) ∙ sym (slice_at_cut (Callers now) t) ∙ stood

pub skipped : (old now : BoardLog) (t : ℕ) (s : Standing) → OpenedSoFar old now t → Stands (state_of now) t s → IsParkedOrEnded s → OpenedSoFar old now (suc t)
skipped old now t s h stood settled = record {
  entries = h.entries;
  opens = subst (λ (cs : List Standing). OpensFrom 0 cs h.entries) (sym (take_next (Callers old) t s (as_at_start old now t s h stood)))
      (opens_other 0 (take t (Callers old)) h.entries s settled h.opens);
  grows = h.grows;
  running = h.running;
  behind = subst (λ (cs : List Standing). AllByRecursion IsParkedOrEnded cs) (sym (take_next (Callers now) t s stood))
      (AllByRecursion-append IsParkedOrEnded (take t (Callers now)) s h.behind settled);
  ahead = drop_next (Callers now) t ∙ ap (λ (cs : List Standing). drop 1 cs) h.ahead ∙ sym (drop_next (Callers old) t);
}

pub opened_one : (old now new : BoardLog) (t : ℕ) (stand : Stand) → OpenedSoFar old now t → Stands (state_of now) t idle → HasOpened now new t stand → OpenedSoFar old new (suc t)
opened_one old now new t stand h stood k =
    let after = opened_state now new t stand k in
    let lt = slice_get_within (Callers now) t idle stood in
    let at_start = as_at_start old now t idle h stood in
    let within = slice_get_within (Callers old) t idle at_start in
    let count : 0 + length (take t (Callers old)) ≡ t = omega (arith, length-take t (Callers old)) in
    let here : slice_get (Callers new) t ≡ Some after.standing = ap (λ (cs : List Standing). slice_get cs t) after.callers ∙ slice_get_set_same (Callers now) t after.standing lt in
    let front : take t (Callers new) ≡ take t (Callers now) = ap (λ (cs : List Standing). take t cs) after.callers ∙ take_set (Callers now) t after.standing in
    record {
      entries = h.entries ++ k.entry ∷ [];
      opens = subst (λ (cs : List Standing). OpensFrom 0 cs (h.entries ++ k.entry ∷ [])) (sym (take_next (Callers old) t idle at_start))
          (opens_idle 0 (take t (Callers old)) h.entries k.entry h.opens (subst (λ i. OpensBy i k.entry) (sym count) k.opens));
      grows = k.grows ∙ ap (λ (r : BoardLog). grown r (k.entry ∷ [])) h.grows ∙ grown_twice old h.entries (k.entry ∷ []);
      running = after.stuck ∙ h.running;
      behind = subst (λ (cs : List Standing). AllByRecursion IsParkedOrEnded cs) (sym (take_next (Callers new) t after.standing here))
          (subst (λ (cs : List Standing). AllByRecursion IsParkedOrEnded (cs ++ after.standing ∷ [])) (sym front)
          (AllByRecursion-append IsParkedOrEnded (take t (Callers now)) after.standing h.behind after.settled));
      ahead = ap (λ (cs : List Standing). drop (suc t) cs) after.callers ∙ drop_set (Callers now) t after.standing ∙ drop_next (Callers now) t
          ∙ ap (λ (cs : List Standing). drop 1 cs) h.ahead ∙ sym (drop_next (Callers old) t);
    }

pub all_opened : (old now : BoardLog) (t : ℕ) → OpenedSoFar old now t → length (Callers old) ≤ t → length (Callers now) ≤ t → HasOpenedAll old now
all_opened old now t h le le' = record {
  entries = h.entries;
  opens = subst (λ (cs : List Standing). OpensFrom 0 cs h.entries) (take_all (Callers old) t le) h.opens;
  grows = h.grows;
  running = h.running;
  settled = subst (λ (cs : List Standing). AllByRecursion IsParkedOrEnded cs) (take_all (Callers now) t le') h.behind;
}

-- where nobody holds an outcome, a thread that isn't idle is parked or ended
pub shown_settled : (s : State) (t : ℕ) (o : Option Standing) (p : Place) → slice_get s.callers t ≡ o → ShowsPlace o p → p ≢ places.Idle
    → ((ticket : ℕ) (outcome : Outcome) → Stands s t (given ticket outcome) → ⊥) → (x : Standing) × (slice_get s.callers t ≡ Some x) × IsParkedOrEnded x
shown_settled s t (Some idle) places.Idle e h ne none = absurd (ne refl)
shown_settled s t (Some idle) places.Parked e h ne none = absurd h
shown_settled s t (Some idle) places.Given e h ne none = absurd h
shown_settled s t (Some idle) places.Ended e h ne none = absurd h
shown_settled s t (Some (parked ticket event)) p e h ne none = (parked ticket event, e, tt)
shown_settled s t (Some (given ticket outcome)) p e h ne none = absurd (none ticket outcome e)
shown_settled s t (Some ended) p e h ne none = (ended, e, tt)
shown_settled s t None p e h ne none = absurd (nothing p h)
  where
    nothing : (p : Place) → ShowsPlace None p → ⊥
    nothing places.Idle h = h
    nothing places.Parked h = h
    nothing places.Given h = h
    nothing places.Ended h = h

pub shown_idle : (s : State) (t : ℕ) (o : Option Standing) → slice_get s.callers t ≡ o → ShowsPlace o places.Idle → Stands s t idle
shown_idle s t (Some idle) e h = e
shown_idle s t (Some (parked ticket event)) e h = absurd h
shown_idle s t (Some (given ticket outcome)) e h = absurd h
shown_idle s t (Some ended) e h = absurd h
shown_idle s t None e h = absurd h

-- nobody holds an outcome while the threads open
pub none_while : (old now : BoardLog) (t : ℕ) → OpenedSoFar old now t → NoneGiven (state_of old) → (ticket : ℕ) (o : Outcome) → Stands (state_of now) t (given ticket o) → ⊥
none_while old now t h none ticket o stood = none t ticket o (as_at_start old now t (given ticket o) h stood)

-- ---- one block more

pub block_more : (old now new : BoardLog) → BlocksSoFar old now → HasCommittedBlock now new → BlocksSoFar old new
block_more old now new h k = record {
  blocks = h.blocks ++ k.block ∷ [];
  are_blocks = AllByRecursion-append IsBlock h.blocks k.block h.are_blocks k.is_block;
  grows = k.grows ∙ ap (λ (r : BoardLog). grown r k.block) h.grows ∙ blocks_more old h.blocks k.block;
  running = k.running;
  none = k.none;
}

pub no_blocks : (run : BoardLog) → IsRunning (state_of run) → NoneGiven (state_of run) → BlocksSoFar run run
no_blocks run running none = record {
  blocks = [];
  are_blocks = tt;
  grows = ap (λ (es : List Entry). record { callers = run.callers; entries = es })
      (sym (append-nil run.entries));
  running = running;
  none = none;
}

pub some_of_block : (block : List Entry) → IsBlock block → 1 ≤ length block
some_of_block [] h = absurd h
some_of_block (e ∷ es) h = omega arith

pub block_longer : (now new : BoardLog) → HasCommittedBlock now new → length now.entries < length new.entries
block_longer now new k = omega (arith, ap (λ (r : BoardLog). length r.entries) k.grows, length-append now.entries k.block, some_of_block k.block k.is_block)

pub all_committed : (old now new : BoardLog) → BlocksSoFar old now → new ≡ now → (¬ CanCommit (parked_list (state_of now))) → HasCommittedAll old new
all_committed old now new h same none_left = subst (λ (r : BoardLog). HasCommittedAll old r) (sym same)
    (record { blocks = h.blocks; are_blocks = h.are_blocks; grows = h.grows; running = h.running; none = h.none; none_left = none_left })
