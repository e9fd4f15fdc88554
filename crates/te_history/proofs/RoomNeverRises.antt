-- Every entry but a post leaves the length of a history plus its room as it was or lower; a post raises it by 3.
use Rattle.std.proofs.Common.{◌≡◌, ◌≢◌, ℕ, zero, suc, ◌+◌, ◌≤◌, true, false, List, [], ◌∷◌, length, map, Some, slice_set, refl, ap, ◌∙◌, subst, arith}
use Rattle.std.specs.List.{slice_get}
use Rattle.te_terms.specs.declared.event.Outcome.{Outcome}
use Rattle.te_terms.specs.Steps as steps
use Rattle.te_cert.specs.declared.cert.Member.{Member}
use Rattle.te_cert.specs.Certificates.{Certificate}
use Rattle.te_cert.specs.Checks.{RiseAfter, ThreadsRise}
use Rattle.te_cert.proofs.Places.{get_set_other}
use Rattle.te_history.specs.declared.entry.Entry.{Entry}
use Rattle.te_history.specs.declared.entry.Entry.TheVariants as entries
use Rattle.te_history.specs.declared.status.How.TheVariants as ways
use Rattle.te_history.specs.State.{Standing, idle, parked, given, ended, State, with_standing, with_given, changed}
use Rattle.te_history.specs.Follows.{Stands, AreEvents, Commits, Needs}
use Rattle.te_history.specs.Room.{room_of, callers_room, one_unless, room, claimed, freed}
use Rattle.te_history.proofs.PlayLengths.{length-play}
use Rattle.te_history.proofs.KeptAfter.{given_resting}

-- a caller that stands otherwise
room_set : (cs : List Standing) (t : ℕ) (old new : Standing) → slice_get cs t ≡ Some old
    → callers_room (slice_set cs t new) + room_of old ≡ callers_room cs + room_of new
room_set [] t old new is = absurd cc
room_set (c ∷ cs) zero old new is =
    let same : c ≡ old = cc in subst (λ (x : Standing). room_of new + callers_room cs + room_of x ≡ room_of c + callers_room cs + room_of new) same
    (omega arith)
room_set (c ∷ cs) (suc t) old new is = let rest = room_set cs t old new is in omega (arith, rest)

-- ---- commits

pub events_after : (s : State) (t : ℕ) (standing : Standing) (ms : List Member) (group : List steps.Member) → RiseAfter t ms → AreEvents s ms group
    → AreEvents (with_standing t standing s) ms group
events_after s t standing ms group rise events = go t ms group rise (omega arith) events
  where
    go : (low : ℕ) (ns : List Member) (gs : List steps.Member) → RiseAfter low ns → t ≤ low → AreEvents s ns gs → AreEvents (with_standing t standing s) ns gs
    go low [] [] rises under are = tt
    go low (n ∷ ns) (g ∷ gs) rises under are =
        let above = rises.0 in
        let apart : t ≢ n.thread = omega arith in
        (are.0, get_set_other s.callers t n.thread standing apart ∙ are.1, go n.thread ns gs rises.1 (omega arith) are.2)
    go low [] (g ∷ gs) rises under are = absurd are
    go low (n ∷ ns) [] rises under are = absurd are

pub rise_rest : (t : ℕ) (ms : List Member) → RiseAfter t ms → ThreadsRise ms
rise_rest t [] rise = tt
rise_rest t (m ∷ ms) rise = rise.1

-- each member that is given its outcome frees one place
room_given : (s : State) (ms : List Member) (group : List steps.Member) (os : List Outcome) → ThreadsRise ms → AreEvents s ms group → length os ≡ length ms
    → callers_room (with_given ms os s).callers + length ms ≡ callers_room s.callers
room_given s [] [] os rise events same = let none : callers_room s.callers + 0 ≡ callers_room s.callers = omega arith in none
room_given s (m ∷ ms) (g ∷ gs) [] rise events same = absurd (omega arith)
room_given s (m ∷ ms) (g ∷ gs) (o ∷ os) rise events same =
    let rest = room_given (with_standing m.thread (given m.ticket o) s) ms gs os (rise_rest m.thread ms rise)
    (events_after s m.thread (given m.ticket o) ms gs rise events.2) (omega arith) in
    let here = room_set s.callers m.thread (parked m.ticket g.term) (given m.ticket o) events.1 in
    omega (arith, rest, here)
room_given s [] (g ∷ gs) os rise events same = absurd events
room_given s (m ∷ ms) [] os rise events same = absurd events

pub as_many_events : (s : State) (ms : List Member) (group : List steps.Member) → AreEvents s ms group → length group ≡ length ms
as_many_events s [] [] events = refl
as_many_events s (m ∷ ms) (g ∷ gs) events = ap suc (as_many_events s ms gs events.2)
as_many_events s [] (g ∷ gs) events = absurd events
as_many_events s (m ∷ ms) [] events = absurd events

some_there : (ms : List Member) → ms ≢ [] → 1 ≤ length ms
some_there [] some = absurd (some refl)
some_there (m ∷ ms) some = omega arith

pub stuck_stays : (ms : List Member) (os : List Outcome) (s : State) → (with_given ms os s).stuck ≡ s.stuck
stuck_stays [] os s = refl
stuck_stays (m ∷ ms) [] s = refl
stuck_stays (m ∷ ms) (o ∷ os) s = stuck_stays ms os (with_standing m.thread (given m.ticket o) s)

-- ---- all entries

-- the room that a caller gives back when it stands otherwise
room_restand : (s : State) (by : ℕ) (old new : Standing) → Stands s by old → room (with_standing by new s) + room_of old ≡ room s + room_of new
room_restand s by old new stands = let here = room_set s.callers by old new stands in omega (arith, here)

-- an entry that takes no more of the room than the place of its own
abbrev pub KeepsRoom : State → State → Type 0
KeepsRoom old new = room new + 1 ≤ room old

room_commit : (s : State) (by : ℕ) (cert : Certificate) (outcomes : List Outcome) → Commits s cert outcomes
    → KeepsRoom s (changed s (entries.Commit by cert outcomes))
room_commit s by cert outcomes commits =
    let as_many : length outcomes ≡ length cert.members = length-play commits.group (map (λ (m : Member). m.choices) cert.members) cert.meets _ commits.plays
    ∙ as_many_events s cert.members commits.group commits.events in
    let given = room_given s cert.members commits.group outcomes commits.rise commits.events as_many in
    let some = some_there cert.members commits.some_member in
    let stuck = stuck_stays cert.members outcomes s in
    let resting = given_resting cert.members outcomes s in
    omega (arith, given, some, ap one_unless stuck, ap one_unless resting)

room_rest : (s : State) → s.resting ≡ false → KeepsRoom s (record s { resting = true })
room_rest s open_so = let one : one_unless s.resting ≡ 1 = ap one_unless open_so in omega (arith, one)

room_stuck : (s : State) → s.stuck ≡ false → KeepsRoom s (record s { stuck = true })
room_stuck s running = let one : one_unless s.stuck ≡ 1 = ap one_unless running in omega (arith, one)

-- an entry that isn't a post gives back at least the place that it takes
pub room_after : (callers : ℕ) (s : State) (posts : ℕ) (e : Entry) → Needs callers s posts e
    → ((by ticket : ℕ) (event : _) → e ≢ entries.Post by ticket event) → KeepsRoom s (changed s e)
room_after callers s posts (entries.Post by ticket event) needs other = absurd (other by ticket event refl)
room_after callers s posts (entries.Commit by cert outcomes) needs other = room_commit s by cert outcomes needs.2
room_after callers s posts (entries.Withdraw by ticket) needs other =
    let here = room_restand s by (parked ticket needs.1.0) idle needs.1.1 in omega (arith, here)
room_after callers s posts (entries.Take by ticket outcome) needs other =
    let here = room_restand s by (given ticket outcome) idle needs.1 in omega (arith, here)
room_after callers s posts (entries.Rest by) needs other = room_rest s needs.2
room_after callers s posts (entries.Stuck by) needs other = room_stuck s needs.0
room_after callers s posts (entries.End by (ways.Done values)) needs other = let here = room_restand s by idle ended needs.1 in omega (arith, here)
room_after callers s posts (entries.End by (ways.Raised value)) needs other = let here = room_restand s by idle ended needs.1 in omega (arith, here)
room_after callers s posts (entries.End by ways.Stuck) needs other =
    let here = room_restand s by (parked needs.1.0 needs.1.1) ended needs.1.2 in omega (arith, here)

-- a post takes its place, and reserves two more
pub room_posted : (callers : ℕ) (s : State) (posts by ticket : ℕ) (event : _) → Needs callers s posts (entries.Post by ticket event)
    → room (changed s (entries.Post by ticket event)) ≡ room s + 2
room_posted callers s posts by ticket event needs = let here = room_restand s by idle (parked ticket event) needs.1 in omega (arith, here)

-- exactly how the room goes by an entry
pub room_exactly : (callers : ℕ) (s : State) (posts : ℕ) (e : Entry) → Needs callers s posts e → room (changed s e) + freed e ≡ room s + claimed e
room_exactly callers s posts (entries.Post by ticket event) needs = let here = room_posted callers s posts by ticket event needs in omega (arith, here)
room_exactly callers s posts (entries.Commit by cert outcomes) needs =
    let commits = needs.2 in
    let as_many : length outcomes ≡ length cert.members = length-play commits.group (map (λ (m : Member). m.choices) cert.members) cert.meets _ commits.plays
    ∙ as_many_events s cert.members commits.group commits.events in
    let given = room_given s cert.members commits.group outcomes commits.rise commits.events as_many in
    omega (arith, given, ap one_unless (stuck_stays cert.members outcomes s), ap one_unless (given_resting cert.members outcomes s))
room_exactly callers s posts (entries.Withdraw by ticket) needs =
    let here = room_restand s by (parked ticket needs.1.0) idle needs.1.1 in omega (arith, here)
room_exactly callers s posts (entries.Take by ticket outcome) needs = let here = room_restand s by (given ticket outcome) idle needs.1 in omega (arith, here)
room_exactly callers s posts (entries.Rest by) needs = let one : one_unless s.resting ≡ 1 = ap one_unless needs.2 in omega (arith, one)
room_exactly callers s posts (entries.Stuck by) needs = let one : one_unless s.stuck ≡ 1 = ap one_unless needs.0 in omega (arith, one)
room_exactly callers s posts (entries.End by (ways.Done values)) needs = let here = room_restand s by idle ended needs.1 in omega (arith, here)
room_exactly callers s posts (entries.End by (ways.Raised value)) needs = let here = room_restand s by idle ended needs.1 in omega (arith, here)
room_exactly callers s posts (entries.End by ways.Stuck) needs =
    let here = room_restand s by (parked needs.1.0 needs.1.1) ended needs.1.2 in omega (arith, here)
