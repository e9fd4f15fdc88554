-- What the loops over takes keep.
use Rattle.std.proofs.Common.{◌≡◌, ◌≢◌, ◌⊎◌, inl, inr, ℕ, zero, suc, ◌+◌, ◌<◌, ◌≤◌, List, [], ◌∷◌, ◌++◌, length, take, drop, slice_set, Option, Some, None, refl, sym, ap, subst, ◌∙◌, arith}
use Rattle.std.proofs.lemmas.Bool.{cases_lt}
use Rattle.std.proofs.lemmas.Option.{slice_get_within}
use Rattle.std.specs.Prelude.{slice_get}
use Rattle.std.specs.List.{AllByRecursion}
use Rattle.te_terms.specs.declared.event.Outcome.{Outcome}
use Rattle.te_cert.specs.declared.cert.Member.{Member}
use Rattle.te_cert.specs.declared.cert.Cert.{Cert}
use Rattle.te_cert.specs.Checks.{ThreadsRise}
use Rattle.te_script.specs.Cores.{At, IsWaiting, core_after}
use Rattle.te_history.specs.declared.entry.Entry.{Entry}
use Rattle.te_history.specs.declared.entry.Entry.TheVariants as entries
use Rattle.te_history.specs.declared.status.Status.TheVariants as statuses
use Rattle.te_history.specs.State.{Standing, idle, parked, given, ended, State, parked_from, parked_list}
use Rattle.te_history.specs.Follows.{Stands, IsLegal}
use Rattle.te_history.specs.Histories.{HasStatus, status_of}
use Rattle.te_history.proofs.Growing.{legal_is_loose}
use Rattle.te_history.proofs.RoomNeverRises.{rise_rest}
use Rattle.te_report.proofs.ThreadsWait.{all_fit}
use Rattle.te_report.specs.OfScript.{taken}
use Rattle.te_board.specs.Boards.{BoardLog, HasTaken, state_of}
use Rattle.te_serial.specs.declared.place.Place.{Place}
use Rattle.te_serial.specs.declared.place.Place.TheVariants as places
use Rattle.te_serial.specs.Rounds.{TakesBy, TakesOf}
use Rattle.te_serial.specs.Houses.{texts_of, IsHouse, grown, Continues}
use Rattle.te_serial.specs.Runs.{ShowsPlace, NoneGiven, IsGivenIn, HasTakenOne, HasTakenGiven, IsToTake, HasMember, TellsMember, TellsCount, IsCommitAt, HasTakenAll}
use Rattle.te_serial.proofs.HousesKept.{text_of_core, texts_same, house_taken}
use Rattle.te_serial.proofs.Continuing.{grown_nothing, grown_twice, by_one}
use Rattle.te_serial.proofs.BoardStates.{caller_within, TakenState, taken_state, after_take, not_given, given_within, still_given}
use Rattle.te_serial.proofs.ParkedChanges.{parked_same}
use Rattle.te_serial.proofs.GroupsGiven.{after_lower}
use Rattle.te_serial.proofs.Openings.{appends_grown}
use Rattle.te_terms.proofs.Lists.{take_all, take_next, drop_at, get_some, get-longer, AllByRecursion-append}
use Rattle.te_board.proofs.TakesFollow.{given_so}

-- ---- one take

-- the core of a caller that holds an outcome waits for it
pub core_waits : (board : BoardLog) (cores : List At) (t : ℕ) (c : At) → IsHouse board cores → IsLegal board.callers board.entries → IsGivenIn (state_of board) t
    → slice_get cores t ≡ Some c → IsWaiting c.stand.next
core_waits board cores t c h legal g is =
    let fits = all_fit board.callers (texts_of cores) board.entries (legal_is_loose board.callers board.entries legal) h.of_texts t c.thread (given g.0 g.1) (text_of_core cores t c is) g.2 in
    subst (λ (a : At). IsWaiting a.stand.next) (sym (h.stand t c is)) fits

pub core_of_given : (board : BoardLog) (cores : List At) (t : ℕ) → IsHouse board cores → IsGivenIn (state_of board) t → t < length cores
core_of_given board cores t h g = let within = caller_within board t (given g.0 g.1) g.2 in let count = h.callers in omega arith

pub taken_one : (old new : BoardLog) (t : ℕ) (o : Outcome) → HasTaken old new t o → HasTakenOne old new t
taken_one old new t o h = record { entry = entries.Take t h.ticket o; takes = refl; grows = appends_grown old new (entries.Take t h.ticket o) h.appends }

pub taken_continues : (old new : BoardLog) (cores : List At) (t : ℕ) (c c' : At) (o : Outcome) → IsHouse old cores → HasTaken old new t o → slice_get cores t ≡ Some c
    → ((so_far : List Outcome) → c ≡ core_after c.thread so_far → c' ≡ core_after c.thread (so_far ++ o ∷ [])) → Continues old cores new (slice_set cores t c')
taken_continues old new cores t c c' o h taken_so is moves =
    let e : Entry = entries.Take t taken_so.ticket o in
    let moved = moves (taken t old.entries) (h.stand t c is) in
    by_one old new cores (slice_set cores t c') e (appends_grown old new e taken_so.appends) tt (texts_same cores t c c' is (ap (λ (a : At). a.thread) moved))
    (house_taken old cores h t taken_so.ticket o c c' is (slice_get_within cores t c is) moved)

-- ---- whoever holds an outcome

-- the callers before t hold no outcome
pub record GivenSoFar (start now : BoardLog) (t : ℕ) : Type 0 where
  pub stuck : (state_of now).stuck ≡ (state_of start).stuck
  pub behind : (u ticket : ℕ) (o : Outcome) → u < t → Stands (state_of now) u (given ticket o) → ⊥
  pub same : NoneGiven (state_of start) → now ≡ start

pub none_so_far : (board : BoardLog) → GivenSoFar board board 0
none_so_far board = record { stuck = refl; behind = λ u ticket o lt stands. absurd (omega arith); same = λ none. refl }

given_next : (start now new : BoardLog) (t : ℕ) → GivenSoFar start now t → IsGivenIn (state_of now) t → HasTakenOne now new t → GivenSoFar start new (t + 1)
given_next start now new t h g k =
    let after = taken_state now new t k in
    record {
      stuck = after.stuck ∙ h.stuck;
      behind = λ u ticket o lt stands.
          let other = not_given (state_of now) (state_of new) t u ticket o after (given_within (state_of now) t g) stands in
          let lower : u < t = omega arith in
          h.behind u ticket o lower (after_take (state_of now) (state_of new) t u (given ticket o) after other stands);
      same = λ none. absurd (none t g.0 g.1 (subst (λ (b : BoardLog). Stands (state_of b) t (given g.0 g.1)) (h.same none) g.2));
    }

given_skip : (start now : BoardLog) (t : ℕ) → GivenSoFar start now t → ((ticket : ℕ) (o : Outcome) → Stands (state_of now) t (given ticket o) → ⊥) → GivenSoFar start now (t + 1)
given_skip start now t h none = record {
  stuck = h.stuck;
  behind = λ u ticket o lt stands. by_caller u ticket o lt stands (cases_lt u t);
  same = h.same;
}
  where
    by_caller : (u ticket : ℕ) (o : Outcome) → u < t + 1 → Stands (state_of now) u (given ticket o) → (u < t) ⊎ (t ≤ u) → ⊥
    by_caller u ticket o lt stands (inl low) = h.behind u ticket o low stands
    by_caller u ticket o lt stands (inr here) = let one : u ≡ t = omega arith in none ticket o (subst (λ (k : ℕ). Stands (state_of now) k (given ticket o)) one stands)

pub shown_given : (s : State) (t : ℕ) (o : Option Standing) → slice_get s.callers t ≡ o → ShowsPlace o places.Given → IsGivenIn s t
shown_given s t (Some idle) e h = absurd h
shown_given s t (Some (parked ticket event)) e h = absurd h
shown_given s t (Some (given ticket outcome)) e h = (ticket, outcome, e)
shown_given s t (Some ended) e h = absurd h
shown_given s t None e h = absurd h

shown_other : (s : State) (t : ℕ) (p : Place) → ShowsPlace (slice_get s.callers t) p → p ≢ places.Given → (ticket : ℕ) (o : Outcome) → Stands s t (given ticket o) → ⊥
shown_other s t p shows other ticket o stands = by_place p (subst (λ (x : Option Standing). ShowsPlace x p) stands shows) other
  where
    by_place : (p : Place) → ShowsPlace (Some (given ticket o)) p → p ≢ places.Given → ⊥
    by_place places.Given h other = other refl
    by_place places.Idle h other = h
    by_place places.Parked h other = h
    by_place places.Ended h other = h

pub is_given : (board : BoardLog) (t : ℕ) (p : Place) → ShowsPlace (slice_get (state_of board).callers t) p → p ≡ places.Given → IsGivenIn (state_of board) t
is_given board t p shows is = shown_given (state_of board) t (slice_get (state_of board).callers t) refl (subst (λ (q : Place). ShowsPlace (slice_get (state_of board).callers t) q) is shows)

pub given_turn : (start now new last : BoardLog) (t : ℕ) (p : Place) → GivenSoFar start now t → ShowsPlace (slice_get (state_of now).callers t) p → p ≡ places.Given
    → HasTakenOne now new t → last ≡ new → GivenSoFar start last (t + 1)
given_turn start now new last t p h shows is k same = subst (λ (b : BoardLog). GivenSoFar start b (t + 1)) (sym same) (given_next start now new t h (is_given now t p shows is) k)

not_given_place : (p : Place) → (p ≡ places.Idle) ⊎ (p ≡ places.Parked) ⊎ (p ≡ places.Ended) → p ≢ places.Given
not_given_place p (inl is) e = cc
not_given_place p (inr (inl is)) e = cc
not_given_place p (inr (inr is)) e = cc

pub skip_turn : (start now last : BoardLog) (t : ℕ) (p : Place) → GivenSoFar start now t → ShowsPlace (slice_get (state_of now).callers t) p
    → (p ≡ places.Idle) ⊎ (p ≡ places.Parked) ⊎ (p ≡ places.Ended) → last ≡ now → GivenSoFar start last (t + 1)
skip_turn start now last t p h shows is same = subst (λ (b : BoardLog). GivenSoFar start b (t + 1)) (sym same) (given_skip start now t h (shown_other (state_of now) t p shows (not_given_place p is)))

pub given_done : (start now : BoardLog) (t : ℕ) → GivenSoFar start now t → now.callers ≤ t → HasTakenGiven start now
given_done start now t h le = record {
  stuck = h.stuck;
  none = λ u ticket o stands. let within = caller_within now u (given ticket o) stands in h.behind u ticket o (omega arith) stands;
  same = h.same;
}

-- ---- the members of a commit

pub record MembersTaken (start now : BoardLog) (place i : ℕ) : Type 0 where
  pub by : ℕ
  pub cert : Cert
  pub outcomes : List Outcome
  pub is : slice_get start.entries place ≡ Some (entries.Commit by cert outcomes)
  pub rise : ThreadsRise cert.members
  pub takes : List Entry
  pub are_takes : TakesOf (take i cert.members) takes
  pub grows : now ≡ grown start takes
  pub stuck : (state_of now).stuck ≡ (state_of start).stuck
  pub parked_same : parked_list (state_of now) ≡ parked_list (state_of start)
  pub left : AllByRecursion (λ m. IsGivenIn (state_of now) m.thread) (drop i cert.members)
  pub others : (t ticket : ℕ) (outcome : Outcome) → Stands (state_of now) t (given ticket outcome)
      → Stands (state_of start) t (given ticket outcome) × AllByRecursion (λ m. t ≢ m.thread) (take i cert.members)

drop-none : {A : Type 0} (xs : List A) → drop 0 xs ≡ xs
drop-none [] = refl
drop-none (x ∷ xs) = refl

take-none : {A : Type 0} (xs : List A) → take 0 xs ≡ []
take-none [] = refl
take-none (x ∷ xs) = refl

pub none_taken : (board : BoardLog) (place : ℕ) → IsToTake board place → MembersTaken board board place 0
none_taken board place h = record {
  by = h.by;
  cert = h.cert;
  outcomes = h.outcomes;
  is = h.is;
  rise = h.rise;
  takes = [];
  are_takes = subst (λ (ms : List Member). TakesOf ms []) (sym (take-none h.cert.members)) tt;
  grows = grown_nothing board;
  stuck = refl;
  parked_same = refl;
  left = subst (λ (ms : List Member). AllByRecursion (λ (m : Member). IsGivenIn (state_of board) m.thread) ms) (sym (drop-none h.cert.members)) h.given;
  others = λ t ticket o stands. (stands, subst (λ (ms : List Member). AllByRecursion (λ (m : Member). t ≢ m.thread) ms) (sym (take-none h.cert.members)) tt);
}

pub still_there : (start now : BoardLog) (place i : ℕ) (h : MembersTaken start now place i) → slice_get now.entries place ≡ Some (entries.Commit h.by h.cert h.outcomes)
still_there start now place i h = ap (λ (b : BoardLog). slice_get b.entries place) h.grows ∙ get-longer start.entries h.takes place (entries.Commit h.by h.cert h.outcomes) h.is

pub has_member : (start now : BoardLog) (place i : ℕ) (h : MembersTaken start now place i) → i < length h.cert.members → HasMember now.entries place i
has_member start now place i h lt = record { by = h.by; cert = h.cert; outcomes = h.outcomes; is = still_there start now place i h; within = lt }

rise_part : (ms : List Member) (i : ℕ) → ThreadsRise ms → ThreadsRise (drop i ms)
rise_part [] zero rise = tt
rise_part [] (suc i) rise = tt
rise_part (m ∷ ms) zero rise = rise
rise_part (m ∷ ms) (suc i) rise = rise_part ms i (rise_rest m.thread ms rise)

takes_more : (ms : List Member) (es : List Entry) (m : Member) (e : Entry) → TakesOf ms es → TakesBy m.thread e → TakesOf (ms ++ m ∷ []) (es ++ e ∷ [])
takes_more [] [] m e h k = (k, tt)
takes_more [] (x ∷ es) m e h k = absurd h
takes_more (n ∷ ms) [] m e h k = absurd h
takes_more (n ∷ ms) (x ∷ es) m e h k = (h.0, takes_more ms es m e h.1 k)

-- the members above still hold theirs
still_all : (old new : State) (t : ℕ) (ms : List Member) → TakenState old new t → AllByRecursion (λ m. t ≢ m.thread) ms
    → AllByRecursion (λ m. IsGivenIn old m.thread) ms → AllByRecursion (λ m. IsGivenIn new m.thread) ms
still_all old new t [] after apart h = tt
still_all old new t (m ∷ ms) after apart h = (still_given old new t m.thread after (λ (e : m.thread ≡ t). apart.0 (sym e)) h.0, still_all old new t ms after apart.1 h.1)

module _ (start now : BoardLog) (place i : ℕ) (h : MembersTaken start now place i) (m : Member) (at : slice_get h.cert.members i ≡ Some m) where
  pub member_given : IsGivenIn (state_of now) m.thread
  member_given =
      let left : AllByRecursion (λ (n : Member). IsGivenIn (state_of now) n.thread) (m ∷ drop (suc i) h.cert.members) =
      subst (λ (ms : List Member). AllByRecursion (λ (n : Member). IsGivenIn (state_of now) n.thread) ms) (drop_at h.cert.members i m at) h.left in
      left.0

  pub members_next : (new : BoardLog) → HasTakenOne now new m.thread → MembersTaken start new place (suc i)
  members_next new k =
      let ms = h.cert.members in
      let after = taken_state now new m.thread k in
      let cut = drop_at ms i m at in
      let next = take_next ms i m at in
      let left : AllByRecursion (λ (n : Member). IsGivenIn (state_of now) n.thread) (m ∷ drop (suc i) ms) =
      subst (λ (ns : List Member). AllByRecursion (λ (n : Member). IsGivenIn (state_of now) n.thread) ns) cut h.left in
      let rise : ThreadsRise (m ∷ drop (suc i) ms) = subst ThreadsRise cut (rise_part ms i h.rise) in
      let apart = after_lower m.thread (drop (suc i) ms) rise in
      let within = given_within (state_of now) m.thread left.0 in
      record {
        by = h.by;
        cert = h.cert;
        outcomes = h.outcomes;
        is = h.is;
        rise = h.rise;
        takes = h.takes ++ k.entry ∷ [];
        are_takes = subst (λ (ns : List Member). TakesOf ns (h.takes ++ k.entry ∷ [])) (sym next) (takes_more (take i ms) h.takes m k.entry h.are_takes k.takes);
        grows = k.grows ∙ ap (λ (b : BoardLog). grown b (k.entry ∷ [])) h.grows ∙ grown_twice start h.takes (k.entry ∷ []);
        stuck = after.stuck ∙ h.stuck;
        parked_same = ap (parked_from 0) after.callers ∙ parked_same (state_of now) m.thread (given left.0.0 left.0.1) idle left.0.2 tt tt ∙ h.parked_same;
        left = still_all (state_of now) (state_of new) m.thread (drop (suc i) ms) after apart left.1;
        others = λ u ticket o stands.
            let other = not_given (state_of now) (state_of new) m.thread u ticket o after within stands in
            let was = h.others u ticket o (after_take (state_of now) (state_of new) m.thread u (given ticket o) after other stands) in
            (was.0, subst (λ (ns : List Member). AllByRecursion (λ (n : Member). u ≢ n.thread) ns) (sym next) (AllByRecursion-append (λ (n : Member). u ≢ n.thread) (take i ms) m was.1 other));
      }

pub members_done : (start now : BoardLog) (place i : ℕ) (h : MembersTaken start now place i) → length h.cert.members ≤ i → HasTakenAll start now place
members_done start now place i h le =
    let whole = take_all h.cert.members i le in
    record {
      by = h.by;
      cert = h.cert;
      outcomes = h.outcomes;
      is = h.is;
      takes = h.takes;
      are_takes = subst (λ (ms : List Member). TakesOf ms h.takes) whole h.are_takes;
      grows = h.grows;
      stuck = h.stuck;
      parked_same = h.parked_same;
      others = λ t ticket o stands. let was = h.others t ticket o stands in (was.0, subst (λ (ms : List Member). AllByRecursion (λ (m : Member). t ≢ m.thread) ms) whole was.1);
    }

-- a turn of the loop, by what is told of the members at the place
module _ (start now : BoardLog) (place i count : ℕ) (h : MembersTaken start now place i) (tells : TellsCount start.entries place count) where
  within : i < count → i < length h.cert.members
  within lt = let many = tells h.by h.cert h.outcomes h.is in omega arith

  member : (lt : i < count) → (m : Member) × (slice_get h.cert.members i ≡ Some m)
  member lt = get_some h.cert.members i (within lt)

  pub member_there : i < count → HasMember now.entries place i
  member_there lt = has_member start now place i h (within lt)

  pub thread_given : (thread : ℕ) → i < count → TellsMember now.entries place i thread → IsGivenIn (state_of now) thread
  thread_given thread lt shows =
      let m = member lt in
      let is : thread ≡ m.0.thread = shows h.by h.cert h.outcomes m.0 (still_there start now place i h) m.1 in
      subst (IsGivenIn (state_of now)) (sym is) (member_given start now place i h m.0 m.1)

  pub turn_taken : (new : BoardLog) (thread : ℕ) → i < count → TellsMember now.entries place i thread → HasTakenOne now new thread → MembersTaken start new place (i + 1)
  turn_taken new thread lt shows k =
      let m = member lt in
      let is : thread ≡ m.0.thread = shows h.by h.cert h.outcomes m.0 (still_there start now place i h) m.1 in
      let n : suc i ≡ i + 1 = omega arith in
      subst (MembersTaken start new place) n (members_next start now place i h m.0 m.1 new (subst (HasTakenOne now new) is k))

  pub all_taken : count ≤ i → HasTakenAll start now place
  all_taken le = members_done start now place i h (let many = tells h.by h.cert h.outcomes h.is in omega arith)

pub is_commit : (board : BoardLog) (place : ℕ) → IsToTake board place → IsCommitAt board.entries place
is_commit board place h = (h.by, h.cert, h.outcomes, h.is)
