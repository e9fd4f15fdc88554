-- A round of openings, blocks and a close, and the rounds of a whole run.
use Rattle.std.proofs.Common.{◌≡◌, ◌⊎◌, inl, inr, ℕ, zero, suc, ◌+◌, ◌<◌, ◌≤◌, Bool, false, true, List, []}
use Rattle.std.proofs.Common.{◌∷◌, ◌++◌, length, replicate, Some, None, Result, Ok, Err, refl, sym, ap, subst, ◌∙◌, arith, append_assoc}
use Rattle.std.proofs.lemmas.List.{append-nil, length-append}
use Rattle.std.proofs.lemmas.Grind.{flat_map-append}
use Rattle.std.specs.Prelude.{slice_get, OnOk}
use Rattle.std.specs.List.{AllByRecursion, flat_map}
use Rattle.te_terms.specs.declared.event.Outcome.{Outcome}
use Rattle.te_terms.specs.declared.event.Parked.{Parked}
use Rattle.te_terms.specs.Joint.{CanCommit}
use Rattle.te_script.specs.Cores.{At}
use Rattle.te_history.specs.declared.status.How.TheVariants as ways
use Rattle.te_history.specs.declared.entry.Entry.{Entry}
use Rattle.te_history.specs.declared.entry.Entry.TheVariants as entries
use Rattle.te_history.specs.declared.status.Phase.TheVariants as phases
use Rattle.te_history.specs.Histories.{phase_by}
use Rattle.te_history.specs.State.{Standing, idle, parked, given, ended, State, state, parked_from, parked_list}
use Rattle.te_history.specs.Follows.{IsRunning, IsParkedOrEnded, IsLegal}
use Rattle.te_history.proofs.AfterEntry.{length-state}
use Rattle.te_history.proofs.Growing.{legal_is_loose}
use Rattle.te_history.proofs.Lasting.{stuck_waits}
use Rattle.te_history.proofs.Places.{all_by_places}
use Rattle.te_terms.proofs.Lists.{all_at}
use Rattle.te_report.specs.Whole.{IsWhole}
use Rattle.te_board.specs.Boards.{BoardLog, state_of}
use Rattle.te_serial.specs.Rounds.{IsBlock, IsStuckDue, IsStuckAndEnds, IsLowestParked, EndsOf, EndsStuck, ClosesSo, Round, IsRound, before_closing, entries_of, AreRounds, IsInRounds}
use Rattle.te_serial.specs.Houses.{IsHouse, grown, Continues}
use Rattle.te_serial.specs.Runs.{NoneGiven, IsKeptOf, AreReady, HasTakenGiven, HasOpenedAll, HasCommittedAll, HasEndedAll, HasClosed, HasRound, HasRounds}
use Rattle.te_serial.proofs.HousesKept.{house_free}
use Rattle.te_serial.proofs.Continuing.{grown_nothing, grown_twice, stays_as, by_one, goes_on}
use Rattle.te_serial.proofs.RoundsSoFar.{some_of_block}

-- all parked or ended, and nobody parked: all have ended
all_past : (u : ℕ) (cs : List Standing) → AllByRecursion IsParkedOrEnded cs → parked_from u cs ≡ [] → AllByRecursion (λ c. c ≡ ended) cs
all_past u [] h e = tt
all_past u (idle ∷ cs) h e = absurd h.0
all_past u (given k o ∷ cs) h e = absurd h.0
all_past u (ended ∷ cs) h e = (refl, all_past (suc u) cs h.1 e)
all_past u (parked k x ∷ cs) h e = absurd (differ e)
  where
    differ : record { thread = u; ticket = k; event = x } ∷ parked_from (suc u) cs ≡ [] → ⊥
    differ e = cc

-- ---- one round is no empty one

some_of_closing : (s : State) (closing : List Entry) → IsStuckAndEnds s closing → 1 ≤ length closing
some_of_closing s [] h = absurd h
some_of_closing s (e ∷ es) h = omega arith

is_due : (s : State) → AllByRecursion IsParkedOrEnded s.callers → AllByRecursion (λ c. c ≡ ended) s.callers ⊎ IsStuckDue s
is_due s h = at (parked_list s) refl
  where
    at : (ps : List Parked) → parked_list s ≡ ps → AllByRecursion (λ c. c ≡ ended) s.callers ⊎ IsStuckDue s
    at [] e = inl (all_past 0 s.callers h e)
    at (p ∷ ps) e = inr (record { settled = h; some_parked = λ nil. differ (sym e ∙ nil) })
      where
        differ : p ∷ ps ≡ [] → ⊥
        differ e = cc

-- a part of a round that is empty leaves the run as it was
same_run : (old new : BoardLog) (es : List Entry) → new ≡ grown old es → es ≡ [] → new ≡ old
same_run old new es is nil = is ∙ ap (grown old) nil ∙ ap (λ (h : List Entry). record { callers = old.callers; entries = h }) (append-nil old.entries)

pub some_entry : (old first second last : BoardLog) (o : HasOpenedAll old first) (c : HasCommittedAll first second) (k : HasClosed second last) → ¬ IsWhole old.callers old.entries
    → 1 ≤ length o.entries + length (flat_map (λ b. b) c.blocks) + length k.closing
some_entry old first second last o c k undone = openings o.entries refl
  where
    closings : o.entries ≡ [] → c.blocks ≡ [] → 1 ≤ length k.closing
    closings none_opened none_committed =
        let no_blocks : flat_map (λ b. b) c.blocks ≡ [] = ap (λ (bs : List (List Entry)). flat_map (λ b. b) bs) none_committed in
        let same : second ≡ old = same_run first second (flat_map (λ b. b) c.blocks) c.grows no_blocks ∙ same_run old first o.entries o.grows none_opened in
        let settled : AllByRecursion IsParkedOrEnded (state_of second).callers = subst (λ (r : BoardLog). AllByRecursion IsParkedOrEnded (state_of r).callers)
        (sym (same_run first second (flat_map (λ b. b) c.blocks) c.grows no_blocks)) o.settled in
        due (is_due (state_of second) settled) same k.closes
      where
        due : AllByRecursion (λ c. c ≡ ended) (state_of second).callers ⊎ IsStuckDue (state_of second) → second ≡ old → ClosesSo (state_of second) k.closing → 1 ≤ length k.closing
        due (inl all) same closes = absurd (undone (subst (λ (r : BoardLog). IsWhole r.callers r.entries) same all))
        due (inr stuck) same (inl closes) = some_of_closing (state_of second) k.closing closes.1
        due (inr stuck) same (inr closes) = absurd (closes.0 stuck)

    blocks : o.entries ≡ [] → (bs : List (List Entry)) → c.blocks ≡ bs → AllByRecursion IsBlock bs → 1 ≤ length (flat_map (λ b. b) bs) + length k.closing
    blocks none_opened [] e h = omega (arith, closings none_opened e)
    blocks none_opened (b ∷ bs) e h = omega (arith, some_of_block b h.0, length-append b (flat_map (λ b. b) bs))

    openings : (es : List Entry) → o.entries ≡ es → 1 ≤ length o.entries + length (flat_map (λ b. b) c.blocks) + length k.closing
    openings [] e = omega (arith, blocks e c.blocks refl c.are_blocks)
    openings (x ∷ es) e = omega (arith, ap length e)

-- ---- one round

pub round_done : (old first second last : BoardLog) → HasOpenedAll old first → HasCommittedAll first second → HasClosed second last → HasRound old last
round_done old first second last o c k =
    let r : Round = record { openings = o.entries; blocks = c.blocks; closing = k.closing } in
    let to_second : second ≡ grown old (before_closing r) = c.grows ∙ ap (λ (x : BoardLog). grown x (flat_map (λ b. b) c.blocks)) o.grows ∙ grown_twice old o.entries (flat_map (λ b. b) c.blocks) in
    let shows : state_of second ≡ state old.callers (old.entries ++ before_closing r) = ap state_of to_second in
    let grows : last ≡ grown old (entries_of r) = k.grows ∙ ap (λ (x : BoardLog). grown x k.closing) to_second ∙ grown_twice old (before_closing r) k.closing in
    record {
      round = r;
      is_round = record {
        opens = o.opens;
        blocks = c.are_blocks;
        none_left = subst (λ (s : State). ¬ CanCommit (parked_list s)) shows c.none_left;
        closes = subst (λ (s : State). ClosesSo s k.closing) shows k.closes;
      };
      grows = grows;
      longer = λ undone. omega (
        arith,
        some_entry old first second last o c k undone,
        ap (λ (x : BoardLog). length x.entries) grows,
        length-append old.entries
            (entries_of r),
        length-append (before_closing r) k.closing,
        length-append o.entries (flat_map (λ b. b) c.blocks),
      );
    }

-- after a round all have ended, or the next can be run
pub ready_after : (second last : BoardLog) (kept : List Parked) → IsRunning (state_of second) → NoneGiven (state_of second) → IsKeptOf kept second → HasClosed second last → AreReady last kept
ready_after second last kept running none is k = by_end k.whole_or_same
  where
    by_end : IsWhole last.callers last.entries ⊎ (last ≡ second) → AreReady last kept
    by_end (inl whole) = inl whole
    by_end (inr same) = inr (subst (λ (b : BoardLog). IsRunning (state_of b) × NoneGiven (state_of b) × IsKeptOf kept b) (sym same) (running, none, is))

-- ---- the house after a close

ends_below : (u n : ℕ) (cs : List Standing) → u + length cs ≤ n → AllByRecursion (λ p. p.thread < n) (parked_from u cs)
ends_below u n [] le = tt
ends_below u n (idle ∷ cs) le = ends_below (suc u) n cs (omega arith)
ends_below u n (parked ticket event ∷ cs) le = (omega arith, ends_below (suc u) n cs (omega arith))
ends_below u n (given ticket outcome ∷ cs) le = ends_below (suc u) n cs (omega arith)
ends_below u n (ended ∷ cs) le = ends_below (suc u) n cs (omega arith)

parked_below : (board : BoardLog) → AllByRecursion (λ p. p.thread < board.callers) (parked_list (state_of board))
parked_below board = ends_below 0 board.callers (state_of board).callers (omega (arith, length-state board.callers board.entries))

ends_continue : (ps : List Parked) (es : List Entry) (board : BoardLog) (cores : List At) → IsHouse board cores → AllByRecursion (λ p. p.thread < board.callers) ps
    → EndsOf ps es → Continues board cores (grown board es) cores
ends_continue [] [] board cores h low ends = stays_as board (grown board []) cores h (sym (grown_nothing board))
ends_continue [] (e ∷ es) board cores h low ends = absurd ends
ends_continue (p ∷ ps) [] board cores h low ends = absurd ends
ends_continue (p ∷ ps) (e ∷ es) board cores h low ends = by_entry e ends.0
    (λ mid house callers. ends_continue ps es mid cores house (subst (λ (n : ℕ). AllByRecursion (λ (q : Parked). q.thread < n) ps) (sym callers) low.1) ends.1)
  where
    by_entry : (e : Entry) → EndsStuck p.thread e → ((mid : BoardLog) → IsHouse mid cores → mid.callers ≡ board.callers → Continues mid cores (grown mid es) cores)
        → Continues board cores (grown board (e ∷ es)) cores
    by_entry (entries.End by ways.Stuck) is rest =
        let first : Entry = entries.End by ways.Stuck in
        let lt : by < board.callers = subst (λ (k : ℕ). k < board.callers) (sym is) low.0 in
        let mid = grown board (first ∷ []) in
        let house = house_free board cores h first (λ u. refl) lt (λ w. tt) in
        let one = by_one board mid cores cores first refl tt refl house in
        subst (λ (b : BoardLog). Continues board cores b cores) (grown_twice board (first ∷ []) es) (goes_on board mid (grown mid es) cores cores cores one (rest mid house refl))
    by_entry _ is rest = absurd is

pub ended_continues : (old new : BoardLog) (cores : List At) → IsHouse old cores → HasEndedAll old new → Continues old cores new cores
ended_continues old new cores h k = subst (λ (b : BoardLog). Continues old cores b cores) (sym k.grows) (ends_continue (parked_list (state_of old)) k.ends old cores h (parked_below old) k.are_ends)

lowest_below : (ps : List Parked) (n by : ℕ) → AllByRecursion (λ p. p.thread < n) ps → IsLowestParked ps by → by < n
lowest_below [] n by low h = absurd h
lowest_below (p ∷ ps) n by low h = subst (λ (k : ℕ). k < n) (sym h) low.0

closing_continues : (old : BoardLog) (cores : List At) (closing : List Entry) → IsHouse old cores → IsStuckAndEnds (state_of old) closing → Continues old cores (grown old closing) cores
closing_continues old cores (entries.Stuck by ∷ ends) h k =
    let first : Entry = entries.Stuck by in
    let lt = lowest_below (parked_list (state_of old)) old.callers by (parked_below old) k.0 in
    let mid = grown old (first ∷ []) in
    let house = house_free old cores h first (λ u. refl) lt (λ w. tt) in
    let one = by_one old mid cores cores first refl tt refl house in
    let rest = ends_continue (parked_list (state_of old)) ends mid cores house (parked_below old) k.1 in
    subst (λ (b : BoardLog). Continues old cores b cores) (grown_twice old (first ∷ []) ends) (goes_on old mid (grown mid ends) cores cores cores one rest)
closing_continues old cores _ h k = absurd k

pub closed_continues : (old new : BoardLog) (cores : List At) → IsHouse old cores → HasClosed old new → Continues old cores new cores
closed_continues old new cores h k = subst (λ (b : BoardLog). Continues old cores b cores) (sym k.grows) (by_close k.closing k.closes)
  where
    by_close : (closing : List Entry) → ClosesSo (state_of old) closing → Continues old cores (grown old closing) cores
    by_close closing (inl stuck) = closing_continues old cores closing h stuck.1
    by_close closing (inr not) = stays_as old (grown old closing) cores h (ap (grown old) not.1 ∙ sym (grown_nothing old))

-- ---- rounds so far

abbrev pub RoundsFrom : ℕ → List Entry → List Round → Type 0
RoundsFrom callers before [] = Unit {0}
RoundsFrom callers before (r ∷ rs) = IsRound callers before r × RoundsFrom callers (before ++ entries_of r) rs

-- whole rounds have been run
pub record RunSoFar (start now : BoardLog) : Type 0 where
  pub rounds : List Round
  pub grows : now ≡ grown start (flat_map entries_of rounds)
  pub are_rounds : RoundsFrom start.callers start.entries rounds

rounds_more : (callers : ℕ) (before : List Entry) (rs : List Round) (r : Round) → RoundsFrom callers before rs → IsRound callers (before ++ flat_map entries_of rs) r
    → RoundsFrom callers before (rs ++ r ∷ [])
rounds_more callers before [] r h k = (subst (λ (es : List Entry). IsRound callers es r) (append-nil before) k, tt)
rounds_more callers before (x ∷ rs) r h k =
    (h.0, rounds_more callers (before ++ entries_of x) rs r h.1 (subst (λ (es : List Entry). IsRound callers es r) (sym (append_assoc before (entries_of x) (flat_map entries_of rs))) k))

pub run_begins : (board : BoardLog) → RunSoFar board board
run_begins board = record { rounds = []; grows = grown_nothing board; are_rounds = tt }

pub run_more : (start old new : BoardLog) → RunSoFar start old → HasRound old new → RunSoFar start new
run_more start old new h k =
    let is_round : IsRound start.callers (start.entries ++ flat_map entries_of h.rounds) k.round = subst (λ (b : BoardLog). IsRound b.callers b.entries k.round) h.grows k.is_round in
    record {
      rounds = h.rounds ++ k.round ∷ [];
      grows = k.grows ∙ ap (λ (b : BoardLog). grown b (entries_of k.round)) h.grows ∙ grown_twice start (flat_map entries_of h.rounds) (entries_of k.round)
          ∙ ap (grown start) (sym (flat_map-append entries_of h.rounds (k.round ∷ []) ∙ ap (λ (es : List Entry). flat_map entries_of h.rounds ++ es) (append-nil (entries_of k.round))));
      are_rounds = rounds_more start.callers start.entries h.rounds k.round h.are_rounds is_round;
    }

rounds_end : (callers : ℕ) (before : List Entry) (rs : List Round) → RoundsFrom callers before rs → IsWhole callers (before ++ flat_map entries_of rs) → AreRounds callers before rs
rounds_end callers before [] h whole = subst (IsWhole callers) (append-nil before) whole
rounds_end callers before (r ∷ rs) h whole =
    (h.0, rounds_end callers (before ++ entries_of r) rs h.1 (subst (IsWhole callers) (sym (append_assoc before (entries_of r) (flat_map entries_of rs))) whole))

pub run_done : (start now : BoardLog) → RunSoFar start now → IsWhole now.callers now.entries → HasRounds start now
run_done start now h whole = record {
  rounds = h.rounds;
  grows = h.grows;
  are_rounds = rounds_end start.callers start.entries h.rounds h.are_rounds (subst (λ (b : BoardLog). IsWhole b.callers b.entries) h.grows whole);
}

-- where the first had no entry, all is in rounds
pub in_rounds : (start now : BoardLog) → HasRounds start now → start.entries ≡ [] → IsInRounds now.callers now.entries
in_rounds start now h none =
    subst (λ (b : BoardLog). IsInRounds b.callers b.entries) (sym h.grows)
    (record {
      rounds = h.rounds;
      parts = ap (λ (es : List Entry). es ++ flat_map entries_of h.rounds) (sym none);
      are_rounds = subst (λ (es : List Entry). AreRounds start.callers es h.rounds) none h.are_rounds;
    })

all_whole : (callers : ℕ) (before : List Entry) (rs : List Round) → AreRounds callers before rs → IsWhole callers (before ++ flat_map entries_of rs)
all_whole callers before [] h = subst (IsWhole callers) (sym (append-nil before)) h
all_whole callers before (r ∷ rs) h = subst (IsWhole callers) (append_assoc before (entries_of r) (flat_map entries_of rs)) (all_whole callers (before ++ entries_of r) rs h.1)

pub rounds_whole : (start now : BoardLog) → HasRounds start now → IsWhole now.callers now.entries
rounds_whole start now h = subst (λ (b : BoardLog). IsWhole b.callers b.entries) (sym h.grows) (all_whole start.callers start.entries h.rounds h.are_rounds)

-- ---- before the first round

all_idle : (n t ticket : ℕ) (o : Outcome) → slice_get (replicate n idle) t ≡ Some (given ticket o) → ⊥
all_idle zero t ticket o e = differ e
  where
    differ : None ≡ Some (given ticket o) → ⊥
    differ e = cc
all_idle (suc n) zero ticket o e = differ e
  where
    differ : Some idle ≡ Some (given ticket o) → ⊥
    differ e = cc
all_idle (suc n) (suc t) ticket o e = all_idle n t ticket o e

-- nobody holds an outcome at first
pub none_at_first : (board : BoardLog) → board.entries ≡ [] → NoneGiven (state_of board)
none_at_first board none = subst (λ (es : List Entry). NoneGiven (state board.callers es)) (sym none) (λ t ticket o stood. all_idle board.callers t ticket o stood)

-- on a stuck board all are parked or have ended
pub stuck_settled : (board : BoardLog) → IsLegal board.callers board.entries → (state_of board).stuck ≡ true → AllByRecursion IsParkedOrEnded (state_of board).callers
stuck_settled board legal stuck = all_by_places IsParkedOrEnded (state_of board).callers
    (λ t x is. stuck_waits board.callers board.entries (legal_is_loose board.callers board.entries legal) stuck t x is)

-- where all are parked or have ended nobody holds an outcome
pub settled_none : (board : BoardLog) → AllByRecursion IsParkedOrEnded (state_of board).callers → NoneGiven (state_of board)
settled_none board h = λ t ticket o stood. all_at IsParkedOrEnded (state_of board).callers t (given ticket o) h stood

-- a board that is shown stuck is so
pub shown_stuck : (b : Bool) → phases.Stuck ≡ phase_by b → b ≡ true
shown_stuck true is = refl
shown_stuck false is = absurd cc

-- ---- what is told of the whole

pub told_whole : {X E : Type 0} (r : Result X E) (start now : BoardLog) → OnOk r (HasRounds start now) → OnOk r (IsWhole now.callers now.entries)
told_whole (Ok x) start now h = rounds_whole start now h
told_whole (Err e) start now h = tt

pub told_rounds : {X E : Type 0} (r : Result X E) (old start now : BoardLog) → HasTakenGiven old start → OnOk r (HasRounds start now) → OnOk r (old.entries ≡ [] → IsInRounds now.callers now.entries)
told_rounds (Err e) old start now t h = tt
told_rounds (Ok x) old start now t h = λ none. in_rounds start now h (ap (λ (b : BoardLog). b.entries) (t.same (none_at_first old none)) ∙ none)
