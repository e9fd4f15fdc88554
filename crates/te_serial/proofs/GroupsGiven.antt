-- A group that was found commits: its members are parked, and then each holds its outcome.
use Rattle.std.proofs.Common.{◌≡◌, ◌≢◌, ℕ, ◌<◌, ◌≤◌, true, false, List, [], ◌∷◌, ◌++◌, length, map, Some, refl, sym, ap, subst, ◌∙◌, arith}
use Rattle.std.proofs.lemmas.Option.{slice_get_within}
use Rattle.std.specs.Prelude.{slice_get, slice_index_or}
use Rattle.std.specs.List.{AllByRecursion}
use Rattle.te_terms.specs.Terms.{Term}
use Rattle.te_terms.specs.declared.event.Outcome.{Outcome}
use Rattle.te_terms.specs.declared.event.Parked.{Parked}
use Rattle.te_cert.specs.declared.cert.Member.{Member}
use Rattle.te_cert.specs.declared.cert.Cert.{Cert}
use Rattle.te_cert.specs.Checks.{RiseAfter, ThreadsRise, Gives}
use Rattle.te_script.specs.Cores.{At}
use Rattle.te_script.proofs.Places.{slice_get_set_same, slice_get_set_other}
use Rattle.te_history.specs.declared.entry.Entry.TheVariants as entries
use Rattle.te_history.specs.declared.entry.StepFault.{StepFault}
use Rattle.te_history.specs.declared.entry.StepFault.TheVariants as steps
use Rattle.te_history.specs.State.{Standing, parked, given, State, with_standing, with_given, parked_list}
use Rattle.te_history.specs.Follows.{Stands, IsRunning, Commits}
use Rattle.te_history.specs.Refusals.{AreParked, RefusesMembers}
use Rattle.te_history.proofs.AfterEntry.{length-state}
use Rattle.te_history.proofs.CanPlay.{members_refused, play_refused}
use Rattle.te_history.proofs.Events.{commits_by}
use Rattle.te_history.proofs.PlayLengths.{length-play}
use Rattle.te_history.proofs.RefusedCommits.{not_commit}
use Rattle.te_history.proofs.RoomNeverRises.{rise_rest, as_many_events, stuck_stays}
use Rattle.te_board.proofs.ParkedLists.{one_event}
use Rattle.te_board.specs.Boards.{BoardLog, state_of}
use Rattle.te_board.specs.Denials.{DeniesPlayed}
use Rattle.te_board.specs.declared.fault.BoardFault.{BoardFault}
use Rattle.te_board.specs.declared.fault.BoardFault.TheVariants as faults
use Rattle.te_search.specs.Findings.{ArePlacedIn, IsGroupOf, without}
use Rattle.te_serial.specs.Rounds.{IsLowestOf, TakesOf}
use Rattle.te_serial.specs.Houses.{IsHouse, grown, Continues}
use Rattle.te_serial.specs.Runs.{NoneGiven, IsGivenIn, IsKeptOf, without_all, AreKept, AppendsCommit, IsToTake, HasTakenAll, HasCommittedBlock}
use Rattle.te_serial.proofs.HousesKept.{house_free}
use Rattle.te_serial.proofs.Continuing.{grown_twice, by_one}
use Rattle.te_serial.proofs.BoardStates.{state_grown, caller_within}
use Rattle.te_serial.proofs.ParkedChanges.{has_parked, placed_stands, parked_without}
use Rattle.te_history.proofs.RefusalsAreOne.{one_list}
use Rattle.te_terms.proofs.Lists.{get-last}

-- ---- the members are parked

-- each member is parked under its ticket
abbrev pub ParkedAll : State → List Member → Type 0
ParkedAll s [] = Unit {0}
ParkedAll s (m ∷ ms) = ((event : Term) × Stands s m.thread (parked m.ticket event)) × ParkedAll s ms

placed_all : (s : State) (ms : List Member) (es : List Term) → ArePlacedIn (parked_list s) ms es → AreParked s ms es
placed_all s [] [] h = tt
placed_all s [] (e ∷ es) h = absurd h
placed_all s (m ∷ ms) [] h = absurd h
placed_all s (m ∷ ms) (e ∷ es) h = (placed_stands s m e h.0, placed_all s ms es h.1)

parked_all : (s : State) (ms : List Member) (es : List Term) → AreParked s ms es → ParkedAll s ms
parked_all s [] [] h = tt
parked_all s [] (e ∷ es) h = absurd h
parked_all s (m ∷ ms) [] h = absurd h
parked_all s (m ∷ ms) (e ∷ es) h = ((e, h.0), parked_all s ms es h.1)

module _ (s : State) (cert : Cert) (outcomes : List Outcome) (h : IsGroupOf (parked_list s) cert outcomes) where
  pub group_parked : AreParked s cert.members h.events
  group_parked = placed_all s cert.members h.events h.placed

  pub group_all : ParkedAll s cert.members
  group_all = parked_all s cert.members h.events group_parked

  pub group_commits : Commits s cert outcomes
  group_commits = commits_by s cert h.events outcomes (record { some_member = h.some_member; rise = h.rise }) group_parked h.plays

  pub group_plays : (events : List Term) → AreParked s cert.members events → Gives cert events outcomes
  group_plays events are = subst (λ (es : List Term). Gives cert es outcomes) (one_list s cert.members h.events events group_parked are) h.plays

  pub group_many : length outcomes ≡ length cert.members
  group_many =
      let commits = group_commits in
      length-play commits.group (map (λ m. m.choices) cert.members) cert.meets (record { outcomes = outcomes; word = commits.word }) commits.plays
      ∙ as_many_events s cert.members commits.group commits.events

-- the first member is there, and is a caller
some_length : (ms : List Member) → ms ≢ [] → 0 < length ms
some_length [] h = absurd (h refl)
some_length (m ∷ ms) h = omega arith

pub group_some : (s : State) (cert : Cert) (outcomes : List Outcome) → IsGroupOf (parked_list s) cert outcomes → 0 < length cert.members
group_some s cert outcomes h = some_length cert.members h.some_member

pub lowest_first : (xs ms : List Member) (d : Member) → xs ≡ ms → 0 < length ms → IsLowestOf ms (slice_index_or xs 0 d).thread
lowest_first xs [] d same some = absurd (omega arith)
lowest_first xs (m ∷ ms) d same some = ap (λ (ns : List Member). (slice_index_or ns 0 d).thread) same

-- the kept list is the parked list
pub as_parked : (board : BoardLog) (kept : List Parked) (cert : Cert) (outcomes : List Outcome) → IsKeptOf kept board → IsGroupOf kept cert outcomes
    → IsGroupOf (parked_list (state_of board)) cert outcomes
as_parked board kept cert outcomes is g = subst (λ (ps : List Parked). IsGroupOf ps cert outcomes) is g

lowest_caller : (board : BoardLog) (ms : List Member) (by : ℕ) → ParkedAll (state_of board) ms → IsLowestOf ms by → by < board.callers
lowest_caller board [] by h low = absurd low
lowest_caller board (m ∷ ms) by h low = subst (λ (k : ℕ). k < board.callers) (sym low) (caller_within board m.thread (parked m.ticket h.0.0) h.0.1)

pub group_caller : (board : BoardLog) (cert : Cert) (outcomes : List Outcome) (by : ℕ) → IsGroupOf (parked_list (state_of board)) cert outcomes → IsLowestOf cert.members by → by < board.callers
group_caller board cert outcomes by h low = lowest_caller board cert.members by (group_all (state_of board) cert outcomes h) low

-- ---- the commit isn't refused

pub runs : (s : State) → IsRunning s → s.stuck ≡ true → ⊥
runs s running stuck = let both : true ≡ false = sym stuck ∙ running in cc

module _ (board : BoardLog) (cert : Cert) (outcomes : List Outcome) (running : IsRunning (state_of board)) (may : Commits (state_of board) cert outcomes) where
  refused : (fault : StepFault) → fault ≢ steps.Memory → RefusesMembers board.callers (state_of board) cert fault → ⊥
  refused fault other denies =
      not_commit board.callers (state_of board) cert outcomes fault (length-state board.callers board.entries)
      (play_refused board.callers (state_of board) cert outcomes fault (members_refused board.callers (state_of board) cert fault denies)) other may

  pub not_denied : (fault : BoardFault) → DeniesPlayed board cert fault → ⊥
  not_denied faults.Closed denies = runs (state_of board) running denies
  not_denied (faults.Stranger i) denies = refused (steps.Stranger i) (λ is. cc) denies.1
  not_denied (faults.Stale i status) denies = refused (steps.Stale i status) (λ is. cc) denies.1
  not_denied (faults.Unsound found) denies = refused (steps.Unsound found) (λ is. cc) denies.1
  not_denied _ denies = denies

-- ---- the kept list without the members

-- others stay parked where a lower one is given its outcome
still_parked : (s : State) (t : ℕ) (x : Standing) (ms : List Member) → RiseAfter t ms → ParkedAll s ms → ParkedAll (with_standing t x s) ms
still_parked s t x ms rise h = go t ms rise (omega arith) h
  where
    go : (low : ℕ) (ms : List Member) → RiseAfter low ms → t ≤ low → ParkedAll s ms → ParkedAll (with_standing t x s) ms
    go low [] rise le h = tt
    go low (m ∷ ms) rise le h = ((h.0.0, slice_get_set_other s.callers t m.thread x (λ e. absurd (omega arith)) ∙ h.0.1), go m.thread ms rise.1 (omega arith) h.1)

pub kept_given : (s : State) (ms : List Member) (os : List Outcome) → ParkedAll s ms → ThreadsRise ms → length os ≡ length ms
    → AreKept ms (parked_list s) × (without_all ms (parked_list s) ≡ parked_list (with_given ms os s))
kept_given s [] os h rise many = (tt, refl)
kept_given s (m ∷ ms) [] h rise many = absurd (omega arith)
kept_given s (m ∷ ms) (o ∷ os) h rise many =
    let next = with_standing m.thread (given m.ticket o) s in
    let gone : parked_list next ≡ without m.thread (parked_list s) = parked_without s m.thread m.ticket h.0.0 (given m.ticket o) h.0.1 tt in
    let rest = kept_given next ms os (still_parked s m.thread (given m.ticket o) ms rise h.1) (rise_rest m.thread ms rise) (omega arith) in (
      (has_parked s m.thread m.ticket h.0.0 h.0.1, subst (AreKept ms) gone rest.0),
      ap (without_all ms) (sym gone) ∙ rest.1,
    )

pub group_kept : (board : BoardLog) (kept : List Parked) (cert : Cert) (outcomes : List Outcome) → IsKeptOf kept board → IsGroupOf (parked_list (state_of board)) cert outcomes
    → AreKept cert.members kept × (without_all cert.members kept ≡ parked_list (with_given cert.members outcomes (state_of board)))
group_kept board kept cert outcomes is h =
    let s = state_of board in
    let both = kept_given s cert.members outcomes (group_all s cert outcomes h) h.rise (group_many s cert outcomes h) in
    subst (λ (ps : List Parked). AreKept cert.members ps × (without_all cert.members ps ≡ parked_list (with_given cert.members outcomes s))) (sym is) both

-- ---- each member is given, the others stay

pub others_stay : (s : State) (ms : List Member) (os : List Outcome) (t : ℕ) → AllByRecursion (λ m. t ≢ m.thread) ms → slice_get (with_given ms os s).callers t ≡ slice_get s.callers t
others_stay s [] os t h = refl
others_stay s (m ∷ ms) [] t h = refl
others_stay s (m ∷ ms) (o ∷ os) t h = others_stay (with_standing m.thread (given m.ticket o) s) ms os t h.1 ∙ slice_get_set_other s.callers m.thread t (given m.ticket o) h.0

pub after_lower : (t : ℕ) (ms : List Member) → RiseAfter t ms → AllByRecursion (λ m. t ≢ m.thread) ms
after_lower t ms rise = go t ms rise (omega arith)
  where
    go : (low : ℕ) (ms : List Member) → RiseAfter low ms → t ≤ low → AllByRecursion (λ m. t ≢ m.thread) ms
    go low [] rise le = tt
    go low (m ∷ ms) rise le = ((λ e. absurd (omega arith)), go m.thread ms rise.1 (omega arith))

each_given : (s : State) (ms : List Member) (os : List Outcome) → ParkedAll s ms → ThreadsRise ms → length os ≡ length ms → AllByRecursion (λ m. IsGivenIn (with_given ms os s) m.thread) ms
each_given s [] os parked_so rise many = tt
each_given s (m ∷ ms) [] parked_so rise many = absurd (omega arith)
each_given s (m ∷ ms) (o ∷ os) parked_so rise many =
    let next = with_standing m.thread (given m.ticket o) s in
    let here = slice_get_set_same s.callers m.thread (given m.ticket o) (slice_get_within s.callers m.thread (parked m.ticket parked_so.0.0) parked_so.0.1) in
    let stays = others_stay next ms os m.thread (after_lower m.thread ms rise) in
    ((m.ticket, o, stays ∙ here), each_given next ms os (still_parked s m.thread (given m.ticket o) ms rise parked_so.1) (rise_rest m.thread ms rise) (omega arith))

-- ---- the board with the commit

module _ (old mid : BoardLog) (cert : Cert) (outcomes : List Outcome) (h : IsGroupOf (parked_list (state_of old)) cert outcomes) (k : AppendsCommit old mid cert outcomes) where
  committed_state : state_of mid ≡ with_given cert.members outcomes (state_of old)
  committed_state = state_grown old mid (entries.Commit k.by cert outcomes) k.grows

  pub commit_there : slice_get mid.entries (length old.entries) ≡ Some (entries.Commit k.by cert outcomes)
  commit_there = ap (λ (b : BoardLog). slice_get b.entries (length old.entries)) k.grows ∙ get-last old.entries (entries.Commit k.by cert outcomes)

  -- its members are to take
  pub to_take : IsToTake mid (length old.entries)
  to_take = record {
    by = k.by;
    cert = cert;
    outcomes = outcomes;
    is = commit_there;
    rise = h.rise;
    given = subst (λ (s : State). AllByRecursion (λ (m : Member). IsGivenIn s m.thread) cert.members) (sym committed_state)
        (each_given (state_of old) cert.members outcomes (group_all (state_of old) cert outcomes h) h.rise (group_many (state_of old) cert outcomes h));
  }

  -- the house goes on
  pub commit_continues : (cores : List At) → IsHouse old cores → Continues old cores mid cores
  commit_continues cores house =
      by_one old mid cores cores (entries.Commit k.by cert outcomes) k.grows h.tight refl
      (house_free old cores house (entries.Commit k.by cert outcomes) (λ u. refl) (group_caller old cert outcomes k.by h k.lowest) (λ w. tt))

  commit_same : (by : ℕ) (other : Cert) (outs : List Outcome) → slice_get mid.entries (length old.entries) ≡ Some (entries.Commit by other outs) → other ≡ cert
  commit_same by other outs is = let both : Some (entries.Commit k.by cert outcomes) ≡ Some (entries.Commit by other outs) = sym commit_there ∙ is in cc

  -- and with the takes it is a block
  pub block_done : (new : BoardLog) → IsRunning (state_of old) → NoneGiven (state_of old) → HasTakenAll mid new (length old.entries) → HasCommittedBlock old new
  block_done new running none t =
      let same : t.cert ≡ cert = commit_same t.by t.cert t.outcomes t.is in
      let takes : TakesOf cert.members t.takes = subst (λ (c : Cert). TakesOf c.members t.takes) same t.are_takes in
      record {
        block = entries.Commit k.by cert outcomes ∷ t.takes;
        is_block = (k.lowest, takes);
        grows = t.grows ∙ ap (λ (b : BoardLog). grown b t.takes) k.grows ∙ grown_twice old (entries.Commit k.by cert outcomes ∷ []) t.takes;
        running = t.stuck ∙ ap (λ (s : State). s.stuck) committed_state ∙ stuck_stays cert.members outcomes (state_of old) ∙ running;
        none = λ u ticket o stands.
            let was = t.others u ticket o stands in
            let apart : AllByRecursion (λ (m : Member). u ≢ m.thread) cert.members = subst (λ (c : Cert). AllByRecursion (λ (m : Member). u ≢ m.thread) c.members) same was.1 in
            none u ticket o (sym (others_stay (state_of old) cert.members outcomes u apart) ∙ ap (λ (s : State). slice_get s.callers u) (sym committed_state) ∙ was.0);
      }

  -- the list that is kept then
  pub block_kept : (new : BoardLog) (kept after : List Parked) → IsKeptOf kept old → after ≡ without_all cert.members kept → HasTakenAll mid new (length old.entries) → IsKeptOf after new
  block_kept new kept after is released t =
      released ∙ (group_kept old kept cert outcomes is h).1 ∙ ap parked_list (sym committed_state) ∙ sym t.parked_same
