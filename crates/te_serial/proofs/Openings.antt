-- What an opening does to the board, to the kept list and to the house.
use Rattle.std.proofs.Common.{◌≡◌, ◌⊎◌, inl, inr, ℕ, List, [], ◌∷◌, Option, Some, Result, Ok, Err, refl, sym, ap, subst, ◌∙◌}
use Rattle.std.specs.Prelude.{slice_get, OnOk, IfErr, IsErrAnd}
use Rattle.te_terms.specs.Terms.{Term}
use Rattle.te_terms.specs.declared.event.Parked.{Parked}
use Rattle.te_script.specs.declared.wish.Want.TheVariants as wants
use Rattle.te_script.specs.Wants.{IsWant}
use Rattle.te_script.specs.Scripts.{Thread}
use Rattle.te_script.specs.Wishes.{Wish, syncs, done, raised, wish}
use Rattle.te_script.specs.Cores.{At, Stand, wish_at}
use Rattle.te_script.proofs.WishReached.{wish_after}
use Rattle.te_history.specs.declared.status.How.{How}
use Rattle.te_history.specs.declared.entry.Entry.{Entry}
use Rattle.te_history.specs.declared.entry.Entry.TheVariants as entries
use Rattle.te_history.specs.State.{idle, parked, ended, State, parked_list, posts_by}
use Rattle.te_history.specs.Follows.{Stands}
use Rattle.te_history.specs.Histories.{History, now}
use Rattle.te_history.proofs.Commits.{stands_put}
use Rattle.te_report.specs.OfScript.{taken, IsWished, WishedBy}
use Rattle.te_board.specs.Boards.{BoardLog, Appends, state_of}
use Rattle.te_search.specs.Findings.{HasThread, put_in}
use Rattle.te_serial.specs.declared.fault.FinishFault.{FinishFault}
use Rattle.te_serial.specs.declared.fault.FinishFault.TheVariants as faults
use Rattle.te_serial.specs.Rounds.{OpensBy}
use Rattle.te_serial.specs.Houses.{texts_of, IsHouse, grown, Continues}
use Rattle.te_serial.specs.Finishing.{HasCause}
use Rattle.te_serial.specs.Runs.{IsKeptOf, HasOpened, MayHaveOpened, PostFails, OpenFails, posted}
use Rattle.te_serial.proofs.HousesKept.{text_of_core, house_more}
use Rattle.te_serial.proofs.Continuing.{stays_as, by_one}
use Rattle.te_serial.proofs.BoardStates.{state_grown}
use Rattle.te_serial.proofs.ParkedChanges.{entry_of, parked_put, parked_same, has_none}

-- one entry that a call of the board appends
pub appends_grown : (old new : BoardLog) (e : Entry) → Appends old new e → new ≡ grown old (e ∷ [])
appends_grown old new e h = λ i. record { callers = h.callers i; entries = h.entries i }

-- what keeping the event of a parked caller does to the list
pub keeps : {X E : Type 0} (r : Result X E) (board : BoardLog) (hist : History) (t ticket : ℕ) (event : Term) (kept after : List Parked) → hist.callers ≡ board.callers → hist.entries ≡ board.entries
    → Stands (now hist) t (parked ticket event) → OnOk r (after ≡ put_in (entry_of t ticket event) kept)
    → OnOk r ((k : ℕ) (e : Term) → Stands (state_of board) t (parked k e) → after ≡ put_in (entry_of t k e) kept)
keeps (Err x) board hist t ticket event kept after callers same stands puts = tt
keeps (Ok x) board hist t ticket event kept after callers same stands puts = λ k e there.
    let here : Stands (state_of board) t (parked ticket event) = subst (λ (b : BoardLog). Stands (state_of b) t (parked ticket event)) (λ i. record { callers = callers i; entries = same i }) stands in
    let both : Some (parked ticket event) ≡ Some (parked k e) = sym here ∙ there in
    let tickets : ticket ≡ k = cc in
    let events : event ≡ e = cc in
    puts ∙ (λ i. put_in (entry_of t (tickets i) (events i)) kept)

-- ---- a post

pub posted_by : (old new : BoardLog) (t ticket : ℕ) (event : Term) → Appends old new (entries.Post t ticket event) → ticket ≡ posts_by t old.entries → new ≡ posted old t event
posted_by old new t ticket event h is = appends_grown old new (entries.Post t ticket event) h ∙ ap (λ (k : ℕ). grown old (entries.Post t k event ∷ [])) is

pub posted_stands : (old new : BoardLog) (t : ℕ) (event : Term) → Stands (state_of old) t idle → new ≡ posted old t event → Stands (state_of new) t (parked (posts_by t old.entries) event)
posted_stands old new t event stands is =
    subst (λ (s : State). Stands s t (parked (posts_by t old.entries) event)) (sym (state_grown old new (entries.Post t (posts_by t old.entries) event) is))
    (stands_put (state_of old) t idle (parked (posts_by t old.entries) event) stands)

pub none_kept : (board : BoardLog) (kept : List Parked) (t : ℕ) → IsKeptOf kept board → Stands (state_of board) t idle → ¬ HasThread kept t
none_kept board kept t is stands = subst (λ (ps : List Parked). ¬ HasThread ps t) (sym is) (has_none (state_of board) t idle stands tt)

pub posted_kept : (old new : BoardLog) (t : ℕ) (event : Term) (kept after : List Parked) → Stands (state_of old) t idle → IsKeptOf kept old → new ≡ posted old t event
    → ((ticket : ℕ) (e : Term) → Stands (state_of new) t (parked ticket e) → after ≡ put_in (entry_of t ticket e) kept) → IsKeptOf after new
posted_kept old new t event kept after stands is grows puts =
    let ticket = posts_by t old.entries in
    puts ticket event (posted_stands old new t event stands grows) ∙ ap (put_in (entry_of t ticket event)) is
    ∙ sym (parked_put (state_of old) t ticket event idle stands tt) ∙ ap parked_list (sym (state_grown old new (entries.Post t ticket event) grows))

wished_post : (w : Wish) (by ticket : ℕ) (event : Term) → IsWant w (wants.Sync event) → w ≡ syncs event
wished_post (syncs t) by ticket event want = ap syncs want
wished_post (done values) by ticket event want = absurd want
wished_post (raised v) by ticket event want = absurd want

pub wants_sync : (stand : Stand) (event : Term) → IsWant (wish_at stand) (wants.Sync event) → wish_at stand ≡ syncs event
wants_sync stand event want = wished_post (wish_at stand) 0 0 event want

pub post_opens : (old new : BoardLog) (t : ℕ) (event : Term) (stand : Stand) → wish_at stand ≡ syncs event → new ≡ posted old t event → HasOpened old new t stand
post_opens old new t event stand wishes grows = record { entry = entries.Post t (posts_by t old.entries) event; opens = refl; wished = wishes; grows = grows }

pub post_may : (old new : BoardLog) (t : ℕ) (event : Term) (stand : Stand) → wish_at stand ≡ syncs event → (new ≡ old) ⊎ (new ≡ posted old t event) → MayHaveOpened old new t stand
post_may old new t event stand wishes (inl same) = inl same
post_may old new t event stand wishes (inr grows) = inr (post_opens old new t event stand wishes grows)

pub post_cause : (board : BoardLog) (t : ℕ) (event : Term) (stand : Stand) (fault : FinishFault) → wish_at stand ≡ syncs event → PostFails board t fault → OpenFails board t stand fault
post_cause board t event stand (faults.Spent front paths groups) wishes h = h
post_cause board t event stand faults.Full wishes h = (h.0, (event, wishes), h.1)
post_cause board t event stand faults.Memory wishes h = tt

-- ---- an end

pub ended_kept : (old new : BoardLog) (t : ℕ) (how : How) (kept : List Parked) → Stands (state_of old) t idle → IsKeptOf kept old → new ≡ grown old (entries.End t how ∷ []) → IsKeptOf kept new
ended_kept old new t how kept stands is grows =
    is ∙ sym (parked_same (state_of old) t idle ended stands tt tt) ∙ ap parked_list (sym (state_grown old new (entries.End t how) grows))

-- ---- the house

wished_core : (board : BoardLog) (cores : List At) (t : ℕ) (c : At) (e : Entry) → IsHouse board cores → slice_get cores t ≡ Some c → IsWished (wish_at c.stand) e
    → WishedBy (slice_get (texts_of cores) t) (taken t board.entries) e
wished_core board cores t c e h is w =
    let wishes : wish_at c.stand ≡ wish c.thread (taken t board.entries) = ap (λ (a : At). wish_at a.stand) (h.stand t c is) ∙ wish_after c.thread (taken t board.entries) in
    subst (λ (o : Option Thread). WishedBy o (taken t board.entries) e) (sym (text_of_core cores t c is)) (subst (λ (u : Wish). IsWished u e) wishes w)

pub opened_continues : (old new : BoardLog) (cores : List At) (t : ℕ) (c : At) → IsHouse old cores → slice_get cores t ≡ Some c → HasOpened old new t c.stand → Continues old cores new cores
opened_continues old new cores t c h is k = by_entry k.entry k.opens k.wished k.grows
  where
    by_entry : (e : Entry) → OpensBy t e → IsWished (wish_at c.stand) e → new ≡ grown old (e ∷ []) → Continues old cores new cores
    by_entry (entries.Post by ticket event) opens w grows =
        by_one old new cores cores (entries.Post by ticket event) grows tt refl
        (house_more old cores h (entries.Post by ticket event) (λ u. refl)
        (subst (λ (k : ℕ). WishedBy (slice_get (texts_of cores) k) (taken k old.entries) (entries.Post by ticket event)) (sym opens)
        (wished_core old cores t c (entries.Post by ticket event) h is w)))
    by_entry (entries.End by how) opens w grows =
        by_one old new cores cores (entries.End by how) grows tt refl
        (house_more old cores h (entries.End by how) (λ u. refl)
        (subst (λ (k : ℕ). WishedBy (slice_get (texts_of cores) k) (taken k old.entries) (entries.End by how)) (sym opens) (wished_core old cores t c (entries.End by how) h is w)))
    by_entry (entries.Commit by cert outcomes) opens w grows = absurd opens
    by_entry (entries.Withdraw by ticket) opens w grows = absurd opens
    by_entry (entries.Take by ticket outcome) opens w grows = absurd opens
    by_entry (entries.Rest by) opens w grows = absurd opens
    by_entry (entries.Stuck by) opens w grows = absurd opens

pub may_continue : (old new : BoardLog) (cores : List At) (t : ℕ) (c : At) → IsHouse old cores → slice_get cores t ≡ Some c → MayHaveOpened old new t c.stand → Continues old cores new cores
may_continue old new cores t c h is (inl same) = stays_as old new cores h same
may_continue old new cores t c h is (inr opened) = opened_continues old new cores t c h is opened

-- ---- why an opening fails

pub open_cause : (board : BoardLog) (cores : List At) (t : ℕ) (c : At) (fault : FinishFault) → IsHouse board cores → slice_get cores t ≡ Some c
    → OpenFails board t c.stand fault → (budget : ℕ) → HasCause board cores budget fault
open_cause board cores t c (faults.Spent front paths groups) h is fails budget = absurd fails
open_cause board cores t c faults.Memory h is fails budget = tt
open_cause board cores t c faults.Full h is fails budget = record {
  by = t;
  text = c.thread;
  event = fails.1.0;
  stands = fails.0;
  has_text = text_of_core cores t c is;
  wishes = sym (wish_after c.thread (taken t board.entries)) ∙ ap (λ (a : At). wish_at a.stand) (sym (h.stand t c is)) ∙ fails.1.1;
  full = fails.2;
}

-- what is told of a fault that is handed on
pub told : {X : Type 0} (r : Result X FinishFault) (fault : FinishFault) (P : FinishFault → Type 0) → IsErrAnd r (λ e. e ≡ fault) → P fault → IfErr r P
told (Ok x) fault P is h = tt
told (Err e) fault P is h = subst P (sym is) h
