-- A loose history of a script's threads can be spelled: threads, tickets, values and sites are in their ranges.
use Rattle.std.proofs.Common.{◌≡◌, ℕ, ◌+◌, ◌<◌, ◌≤◌, List, [], ◌∷◌, ◌++◌, length, map, Option, Some, None, refl, subst, ◌∙◌, arith, length-append}
use Rattle.std.specs.Prelude.{slice_get}
use Rattle.std.specs.List.{AllByRecursion}
use Rattle.std.proofs.lemmas.Option.{slice_get_within}
use Rattle.te_terms.specs.declared.event.Outcome.{Outcome}
use Rattle.te_terms.specs.Steps as steps
use Rattle.te_cert.specs.declared.cert.Member.{Member}
use Rattle.te_cert.specs.declared.cert.Cert.{Cert}
use Rattle.te_cert.specs.Checks.{AreBetween}
use Rattle.te_cert.proofs.MeetingsBetween.{play_between}
use Rattle.te_script.specs.Scripts.{Thread, Program, IsThread, IsProgram}
use Rattle.te_history.specs.declared.entry.Entry.{Entry}
use Rattle.te_history.specs.declared.entry.Entry.TheVariants as entries
use Rattle.te_history.specs.declared.status.How.{How}
use Rattle.te_history.specs.declared.status.How.TheVariants as ways
use Rattle.te_history.specs.State.{Standing, idle, parked, given, State, state, posts_by}
use Rattle.te_history.specs.Follows.{Stands, AreEvents, Commits, MayEndAs, caller_of, LooselyFollows, LooseFrom, IsLoose}
use Rattle.te_history.proofs.AfterEntry.{loose-after, length-state, posts_by_at_most}
use Rattle.te_terms.proofs.Lists.{all_at}
use Rattle.te_history.proofs.PlayLengths.{length-play}
use Rattle.te_history.proofs.RoomNeverRises.{as_many_events}
use Rattle.te_report.specs.OfScript.{taken, WishedBy, WishedFrom, IsOfScript}
use Rattle.te_report.specs.Fitting.{OutcomeFits, EntryIsSpelled}
use Rattle.te_report.specs.ScriptChannels.{IsChannelOf}
use Rattle.te_report.specs.Readable.{IsMemberOf, CommitIsReadable, IsEntryOf, IsSite, HasSite, AreReadable}
use Rattle.te_report.specs.Report.{Version, first, second, site_by, posted_site, most_reported_entries}
use Rattle.te_report.proofs.ChannelsOfScript.{is_group, all_fit}
use Rattle.te_report.proofs.SitesFit.{site_fits}
use Rattle.te_report.proofs.MembersNamed.{are_meetings}
use Rattle.te_report.proofs.TicketsLow.{AreLow, tickets_low}

module _ (script : Program) (is : IsProgram script) (h : List Entry) (few : length h ≤ most_reported_entries) (loose : IsLoose (length script.threads) h) where
  abbrev s : State
  s = state (length script.threads) h

  low : AreLow (length h) s
  low = tickets_low (length script.threads) h loose

  is_thread : (t : ℕ) (x : Standing) → Stands s t x → t < length script.threads
  is_thread t x stands = let within = slice_get_within s.callers t x stands in let many = length-state (length script.threads) h in omega (arith, within, many)

  are_members : (ms : List Member) (gs : List steps.Member) → AreEvents s ms gs → AllByRecursion (IsMemberOf script) ms
  are_members [] [] events = tt
  are_members [] (g ∷ gs) events = absurd events
  are_members (m ∷ ms) [] events = absurd events
  are_members (m ∷ ms) (g ∷ gs) events =
      let below = low m.thread (parked m.ticket g.term) events.1 in
      ((is_thread m.thread (parked m.ticket g.term) events.1, omega (arith, below, few)), are_members ms gs events.2)

  is_commit : (cert : Cert) (outcomes : List Outcome) → Commits s cert outcomes → AllByRecursion (OutcomeFits (IsChannelOf script)) outcomes → CommitIsReadable script cert outcomes
  is_commit cert outcomes commits fits =
      let many = as_many_events s cert.members commits.group commits.events in
      let between = play_between commits.group (map (λ (m : Member). m.choices) cert.members) cert.meets _ (is_group s cert.members commits.group commits.rise commits.events) commits.plays in
      record {
        members = are_members cert.members commits.group commits.events;
        as_many = length-play commits.group (map (λ (m : Member). m.choices) cert.members) cert.meets _ commits.plays ∙ many;
        gets = fits;
        meets = are_meetings cert.members cert.meets commits.rise (subst (λ (n : ℕ). AreBetween n cert.meets) many between);
      }

  ended_by : (by : ℕ) (how : How) → MayEndAs s by how → by < length script.threads
  ended_by by (ways.Done values) ends_so = is_thread by idle ends_so.1
  ended_by by (ways.Raised value) ends_so = is_thread by idle ends_so.1
  ended_by by ways.Stuck ends_so = is_thread by (parked ends_so.1.0 ends_so.1.1) ends_so.1.2

  entry_readable : (e : Entry) → LooselyFollows (length script.threads) h e → EntryIsSpelled (IsChannelOf script) e → IsEntryOf script e
  entry_readable (entries.Post by ticket event) follows fits =
      let posts = posts_by_at_most by h in
      let same : ticket ≡ posts_by by h = follows.2 in
      (is_thread by idle follows.1, omega (arith, posts, same, few))
  entry_readable (entries.Commit by cert outcomes) follows fits = (follows.1, is_commit cert outcomes follows.2 fits)
  entry_readable (entries.Withdraw by ticket) follows fits =
      let below = low by (parked ticket follows.1.0) follows.1.1 in
      (is_thread by (parked ticket follows.1.0) follows.1.1, omega (arith, below, few))
  entry_readable (entries.Take by ticket outcome) follows fits =
      let below = low by (given ticket outcome) follows.1 in
      (is_thread by (given ticket outcome) follows.1, omega (arith, below, few), fits)
  entry_readable (entries.Rest by) follows fits = follows.1
  entry_readable (entries.Stuck by) follows fits = is_thread by (parked follows.1.0 follows.1.1) follows.1.2
  entry_readable (entries.End by how) follows fits = (ended_by by how follows, fits)

  post_site : (o : Option Thread) (by ticket : ℕ) (event : _) → slice_get script.threads by ≡ o → WishedBy o (taken by h) (entries.Post by ticket event) → IsSite (site_by o (taken by h))
  post_site (Some x) by ticket event at w = site_fits (length script.channels) x (taken by h) event (all_at (IsThread (length script.channels)) script.threads by x is.each at) w
  post_site None by ticket event at w = absurd w

  site_readable : (version : Version) (e : Entry) → WishedBy (slice_get script.threads (caller_of e)) (taken (caller_of e) h) e → HasSite version (posted_site script h e) e
  site_readable second (entries.Post by ticket event) w = post_site (slice_get script.threads by) by ticket event refl w
  site_readable first (entries.Post by ticket event) w = tt
  site_readable first (entries.Commit by cert outcomes) w = tt
  site_readable second (entries.Commit by cert outcomes) w = tt
  site_readable first (entries.Withdraw by ticket) w = tt
  site_readable second (entries.Withdraw by ticket) w = tt
  site_readable first (entries.Take by ticket outcome) w = tt
  site_readable second (entries.Take by ticket outcome) w = tt
  site_readable first (entries.Rest by) w = tt
  site_readable second (entries.Rest by) w = tt
  site_readable first (entries.Stuck by) w = tt
  site_readable second (entries.Stuck by) w = tt
  site_readable first (entries.End by how) w = tt
  site_readable second (entries.End by how) w = tt

readable_from : (version : Version) (script : Program) (is : IsProgram script) (before rest : List Entry) → length before + length rest ≤ most_reported_entries → IsLoose (length script.threads) before
    → AllByRecursion (EntryIsSpelled (IsChannelOf script)) rest → LooseFrom (length script.threads) before rest → WishedFrom script.threads before rest → AreReadable version script before rest
readable_from version script is before [] few so fits loose wished = tt
readable_from version script is before (e ∷ es) few so fits loose wished =
    let short : length before ≤ most_reported_entries = omega (arith, few) in
    let longer = length-append before (e ∷ []) in (
      entry_readable script is before short so e loose.0 fits.0,
      site_readable script is before short so version e wished.0,
      readable_from version script is (before ++ e ∷ []) es (omega (arith, few, longer)) (loose-after (length script.threads) before e so loose.0) fits.1 loose.1 wished.1,
    )

pub readable : (version : Version) (script : Program) (history : List Entry) → IsProgram script
    → length history ≤ most_reported_entries → IsLoose (length script.threads) history → IsOfScript script history
    → AreReadable version script [] history
readable version script history is few loose wished = readable_from version script is [] history (omega (arith, few)) tt (all_fit script history is loose wished) loose wished
