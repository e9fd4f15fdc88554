-- Each channel in a loose history of a script's threads is one of the script or a fresh one of one of its threads; integers are
-- of 64 bits, and values have at most 4 atoms.
use Rattle.std.proofs.Common.{◌≡◌, ◌≢◌, ◌⊎◌, inl, inr, ℕ, zero, suc, ◌+◌, ◌<◌, ◌≤◌, Bool, true, false, cond, eqb, List}
use Rattle.std.proofs.Common.{[], ◌∷◌, ◌++◌, length, map, replicate, Option, Some, None, refl, sym, ap, subst, ◌∙◌}
use Rattle.std.proofs.Common.{arith}
use Rattle.std.specs.Prelude.{slice_get}
use Rattle.std.specs.List.{AllByRecursion}
use Rattle.std.proofs.lemmas.Option.{slice_get_within}
use Rattle.te_terms.specs.declared.event.Outcome.{Outcome}
use Rattle.te_terms.specs.Limits.{most_fresh}
use Rattle.te_terms.specs.Measures.{fresh_count}
use Rattle.te_terms.specs.Steps as steps
use Rattle.te_terms.specs.Joint.{RiseFrom, IsGroup}
use Rattle.te_cert.specs.declared.cert.Member.{Member}
use Rattle.te_cert.specs.declared.cert.Cert.{Cert}
use Rattle.te_cert.specs.Checks.{RiseAfter, ThreadsRise}
use Rattle.te_cert.proofs.PlaysReduce.{plays_reduce}
use Rattle.te_script.specs.Scripts.{Thread, Program, IsThread, IsProgram}
use Rattle.te_script.specs.Wishes.{Wish, wish}
use Rattle.te_history.specs.declared.entry.Entry.{Entry}
use Rattle.te_history.specs.declared.entry.Entry.TheVariants as entries
use Rattle.te_history.specs.declared.status.How.TheVariants as ways
use Rattle.te_history.specs.declared.status.How.{How}
use Rattle.te_history.specs.State.{Standing, idle, parked, given, ended, State, state, changed, with_standing, with_given}
use Rattle.te_history.specs.Follows.{Stands, AreEvents, Commits, MayEndAs, caller_of, LooselyFollows, IsLoose}
use Rattle.te_history.proofs.AfterEntry.{state-after, length-state}
use Rattle.te_terms.proofs.Lists.{all_at, same_item}
use Rattle.te_history.proofs.Commits.{same_or_other, stands_put, stands_other}
use Rattle.te_report.specs.OfScript.{taken, taken_from, WishedBy, IsOfScript}
use Rattle.te_report.specs.Fitting.{OutcomeFits, HowFits, EntryIsSpelled}
use Rattle.te_report.specs.ScriptChannels.{IsChannelOf, HasChannelsOf}
use Rattle.te_report.proofs.Growing.{taken_more, grows_wished}
use Rattle.te_report.proofs.FittingHas.{entries_have}
use Rattle.te_report.proofs.ChannelsStepped.{Makes, Fits, AllFit, reductions_have}
use Rattle.te_report.proofs.ChannelsWished.{EventHas, WishHas, wish_has}
use Rattle.te_history.proofs.GivenOnce.{all_idle}

group_rises : (s : State) (low : ℕ) (ms : List Member) (gs : List steps.Member) → RiseAfter low ms → AreEvents s ms gs → RiseFrom low gs
group_rises s low [] [] rise events = tt
group_rises s low [] (g ∷ gs) rise events = absurd events
group_rises s low (m ∷ ms) [] rise events = absurd events
group_rises s low (m ∷ ms) (g ∷ gs) rise events =
    let thread : m.thread ≡ g.thread = ap (λ (x : steps.Member). x.thread) (sym events.0) in
    (subst (λ (t : ℕ). low < t) thread rise.0, subst (λ (t : ℕ). RiseFrom t gs) thread (group_rises s m.thread ms gs rise.1 events.2))

pub is_group : (s : State) (ms : List Member) (gs : List steps.Member) → ThreadsRise ms → AreEvents s ms gs → IsGroup gs
is_group s [] [] rise events = tt
is_group s [] (g ∷ gs) rise events = absurd events
is_group s (m ∷ ms) [] rise events = absurd events
is_group s (m ∷ ms) (g ∷ gs) rise events =
    let thread : m.thread ≡ g.thread = ap (λ (x : steps.Member). x.thread) (sym events.0) in
    subst (λ (t : ℕ). RiseFrom t gs) thread (group_rises s m.thread ms gs rise events.2)

module _ (P : ℕ → Type 0) (channels : ℕ) (threads : List Thread) (low : (c : ℕ) → c < channels → P c) (each : AllByRecursion (IsThread channels) threads) where
  abbrev pub StandingHas : Standing → Type 0
  StandingHas idle = Unit {0}
  StandingHas (parked ticket event) = EventHas P event
  StandingHas (given ticket outcome) = OutcomeFits P outcome
  StandingHas ended = Unit {0}

  abbrev pub StateHas : State → Type 0
  StateHas s = (t : ℕ) (x : Standing) → Stands s t x → StandingHas x

  pub record SoFar (h : List Entry) : Type 0 where
    pub taken_so : (t : ℕ) → AllByRecursion (OutcomeFits P) (taken t h)
    pub state_so : StateHas (state (length threads) h)
    pub entries_so : AllByRecursion (EntryIsSpelled P) h

  -- ---- states

  put_has : (s : State) (by : ℕ) (old new : Standing) → Stands s by old → StandingHas new → StateHas s → StateHas (with_standing by new s)
  put_has s by old new stood has all = λ t x stands. at t x stands (same_or_other by t)
    where
      at : (t : ℕ) (x : Standing) → Stands (with_standing by new s) t x → (by ≡ t) ⊎ (by ≢ t) → StandingHas x
      at t x stands (inl same) =
          let put = subst (λ (k : ℕ). Stands (with_standing by new s) k new) same (stands_put s by old new stood) in
          subst StandingHas (same_item new x (slice_get (with_standing by new s).callers t) put stands) has
      at t x stands (inr other) = all t x (sym (stands_other s by t new other) ∙ stands)

  get_set : (xs : List Standing) (by t : ℕ) (new x : Standing)
      → slice_get (with_standing by new (record { callers = xs; stuck = false; resting = false })).callers t ≡ Some x → (x ≡ new)
      ⊎ (slice_get xs t ≡ Some x)
  get_set [] by t new x is = inr is
  get_set (y ∷ ys) zero zero new x is = let same : new ≡ x = cc in inl (sym same)
  get_set (y ∷ ys) zero (suc t) new x is = inr is
  get_set (y ∷ ys) (suc by) zero new x is = inr is
  get_set (y ∷ ys) (suc by) (suc t) new x is = get_set ys by t new x is

  given_has : (ms : List Member) (os : List Outcome) (s : State) → AllByRecursion (OutcomeFits P) os → StateHas s → StateHas (with_given ms os s)
  given_has [] os s ho all = all
  given_has (m ∷ ms) [] s ho all = all
  given_has (m ∷ ms) (o ∷ os) s ho all = given_has ms os (with_standing m.thread (given m.ticket o) s) ho.1 (λ t x stands. at t x (get_set s.callers m.thread t (given m.ticket o) x stands))
    where
      at : (t : ℕ) (x : Standing) → (x ≡ given m.ticket o) ⊎ (slice_get s.callers t ≡ Some x) → StandingHas x
      at t x (inl same) = subst StandingHas (sym same) ho.0
      at t x (inr was) = all t x was

  -- ---- commits

  -- the members of a commit make such channels
  abbrev pub MembersMake : Entry → Type 0
  MembersMake (entries.Commit by cert outcomes) = AllByRecursion (λ m. Makes P m.thread m.ticket) cert.members
  MembersMake _ = Unit {0}

  group_fits : (h : List Entry) (ms : List Member) (gs : List steps.Member) → StateHas (state (length threads) h) → AreEvents (state (length threads) h) ms gs
      → AllByRecursion (λ m. Makes P m.thread m.ticket) ms → AllFit P gs
  group_fits h [] [] all events makes = tt
  group_fits h [] (g ∷ gs) all events makes = absurd events
  group_fits h (m ∷ ms) [] all events makes = absurd events
  group_fits h (m ∷ ms) (g ∷ gs) all events makes =
      let has = all m.thread (parked m.ticket g.term) events.1 in
      let count : 0 + fresh_count g.term ≤ most_fresh = omega (arith, has.few) in
      let fits : Fits P (steps.come_to m.thread m.ticket 0 g.term) = record { term = has.term; few = count; makes = makes.0 } in
      (subst (Fits P) (sym events.0) fits, group_fits h ms gs all events.2 makes.1)

  commit_has : (h : List Entry) (cert : Cert) (outcomes : List Outcome) → StateHas (state (length threads) h) → Commits (state (length threads) h) cert outcomes
      → AllByRecursion (λ m. Makes P m.thread m.ticket) cert.members → AllByRecursion (OutcomeFits P) outcomes
  commit_has h cert outcomes all commits makes =
      let s = state (length threads) h in
      let reduces = plays_reduce commits.group (map (λ m. m.choices) cert.members) cert.meets _ (is_group s cert.members commits.group commits.rise commits.events) commits.plays in
      reductions_have P commits.group commits.word outcomes (group_fits h cert.members commits.group all commits.events makes) reduces

  -- ---- entries

  wish_by : (o : Option Thread) (t : ℕ) (outs : List Outcome) (e : Entry) → slice_get threads t ≡ o → AllByRecursion (OutcomeFits P) outs
      → WishedBy o outs e → (w : Wish) × WishHas P w × WishedBy o outs e
  wish_by (Some x) t outs e is ho w = (wish x outs, wish_has P channels x outs low (all_at (IsThread channels) threads t x each is) ho, w)
  wish_by None t outs e is ho w = absurd w

  post_has : (o : Option Thread) (t ticket : ℕ) (event : _) (outs : List Outcome) → slice_get threads t ≡ o → AllByRecursion (OutcomeFits P) outs
      → WishedBy o outs (entries.Post t ticket event) → EventHas P event
  post_has (Some x) t ticket event outs is ho w = subst (WishHas P) w (wish_has P channels x outs low (all_at (IsThread channels) threads t x each is) ho)
  post_has None t ticket event outs is ho w = absurd w

  end_has : (o : Option Thread) (t : ℕ) (how : How) (outs : List Outcome) → slice_get threads t ≡ o → AllByRecursion (OutcomeFits P) outs → WishedBy o outs (entries.End t how) → HowFits P how
  end_has (Some x) t (ways.Done values) outs is ho w = subst (WishHas P) w (wish_has P channels x outs low (all_at (IsThread channels) threads t x each is) ho)
  end_has (Some x) t (ways.Raised value) outs is ho w = subst (WishHas P) w (wish_has P channels x outs low (all_at (IsThread channels) threads t x each is) ho)
  end_has (Some x) t ways.Stuck outs is ho w = tt
  end_has None t how outs is ho w = absurd w

  entry_has : (h : List Entry) (e : Entry) → LooselyFollows (length threads) h e → WishedBy (slice_get threads (caller_of e)) (taken (caller_of e) h) e
      → SoFar h → MembersMake e → EntryIsSpelled P e
  entry_has h (entries.Post by ticket event) follows w so makes = (post_has (slice_get threads by) by ticket event (taken by h) refl (so.taken_so by) w).term
  entry_has h (entries.Commit by cert outcomes) follows w so makes = commit_has h cert outcomes so.state_so follows.2 makes
  entry_has h (entries.Withdraw by ticket) follows w so makes = tt
  entry_has h (entries.Take by ticket outcome) follows w so makes = so.state_so by (given ticket outcome) follows.1
  entry_has h (entries.Rest by) follows w so makes = tt
  entry_has h (entries.Stuck by) follows w so makes = tt
  entry_has h (entries.End by how) follows w so makes = end_has (slice_get threads by) by how (taken by h) refl (so.taken_so by) w

  state_has : (h : List Entry) (e : Entry) → LooselyFollows (length threads) h e → WishedBy (slice_get threads (caller_of e)) (taken (caller_of e) h)
      e → SoFar h → MembersMake e → StateHas (changed (state (length threads) h) e)
  state_has h (entries.Post by ticket event) follows w so makes =
      put_has (state (length threads) h) by idle (parked ticket event) follows.1 (post_has (slice_get threads by) by ticket event (taken by h) refl (so.taken_so by) w) so.state_so
  state_has h (entries.Commit by cert outcomes) follows w so makes = given_has cert.members outcomes (state (length threads) h) (commit_has h cert outcomes so.state_so follows.2 makes) so.state_so
  state_has h (entries.Withdraw by ticket) follows w so makes = put_has (state (length threads) h) by (parked ticket follows.1.0) idle follows.1.1 tt so.state_so
  state_has h (entries.Take by ticket outcome) follows w so makes = put_has (state (length threads) h) by (given ticket outcome) idle follows.1 tt so.state_so
  state_has h (entries.Rest by) follows w so makes = so.state_so
  state_has h (entries.Stuck by) follows w so makes = so.state_so
  state_has h (entries.End by how) follows w so makes = let was = stood how follows in put_has (state (length threads) h) by was.0 ended was.1 tt so.state_so
    where
      stood : (how : How) → MayEndAs (state (length threads) h) by how → (s : Standing) × Stands (state (length threads) h) by s
      stood (ways.Done values) ends = (idle, ends.1)
      stood (ways.Raised value) ends = (idle, ends.1)
      stood ways.Stuck ends = (_, ends.1.2)

  taken_has : (t : ℕ) (e : Entry) → EntryIsSpelled P e → AllByRecursion (OutcomeFits P) (taken_from t e [])
  taken_has t (entries.Take by ticket outcome) h = at (eqb by t)
    where
      at : (b : Bool) → AllByRecursion (OutcomeFits P) (cond b (outcome ∷ []) [])
      at true = (h, tt)
      at false = tt
  taken_has t (entries.Post by ticket event) h = tt
  taken_has t (entries.Commit by cert outcomes) h = tt
  taken_has t (entries.Withdraw by ticket) h = tt
  taken_has t (entries.Rest by) h = tt
  taken_has t (entries.Stuck by) h = tt
  taken_has t (entries.End by how) h = tt

  appended : {A : Type 0} (Q : A → Type 0) (xs ys : List A) → AllByRecursion Q xs → AllByRecursion Q ys → AllByRecursion Q (xs ++ ys)
  appended Q [] ys hx hy = hy
  appended Q (x ∷ xs) ys hx hy = (hx.0, appended Q xs ys hx.1 hy)

  pub goes_on : (h : List Entry) (e : Entry) → LooselyFollows (length threads) h e → WishedBy (slice_get threads (caller_of e)) (taken (caller_of e) h) e → SoFar h
      → MembersMake e → SoFar (h ++ e ∷ [])
  goes_on h e follows w so makes =
      let has = entry_has h e follows w so makes in
      record {
        taken_so = λ t. subst (AllByRecursion (OutcomeFits P)) (sym (taken_more t h e)) (appended (OutcomeFits P) (taken t h) (taken_from t e []) (so.taken_so t) (taken_has t e has));
        state_so = subst StateHas (sym (state-after (length threads) h e)) (state_has h e follows w so makes);
        entries_so = appended (EntryIsSpelled P) h (e ∷ []) so.entries_so (has, tt);
      }

  pub first : SoFar []
  first = record {
    taken_so = λ t. tt;
    state_so = λ t x stands. subst StandingHas (sym (all_idle (length threads) t x stands)) tt;
    entries_so = tt;
  }

-- the members of a commit are threads
members_make : (P : ℕ → Type 0) (n : ℕ) (s : State) (ms : List Member) (gs : List steps.Member) → length s.callers ≡ n → ((t k : ℕ) → t < n → Makes P t k)
    → AreEvents s ms gs → AllByRecursion (λ m. Makes P m.thread m.ticket) ms
members_make P n s [] [] many makes events = tt
members_make P n s [] (g ∷ gs) many makes events = absurd events
members_make P n s (m ∷ ms) [] many makes events = absurd events
members_make P n s (m ∷ ms) (g ∷ gs) many makes events =
    let within : m.thread < n = omega (arith, slice_get_within s.callers m.thread (parked m.ticket g.term) events.1, many) in
    (makes m.thread m.ticket within, members_make P n s ms gs many makes events.2)

entry_makes : (P : ℕ → Type 0) (channels : ℕ) (threads : List Thread) (low : (c : ℕ) → c < channels → P c) (each : AllByRecursion (IsThread channels) threads) (h : List Entry) (e : Entry)
    → ((t k : ℕ) → t < length threads → Makes P t k) → LooselyFollows (length threads) h e → MembersMake P channels threads low each e
entry_makes P channels threads low each h (entries.Commit by cert outcomes) makes follows =
    members_make P (length threads) (state (length threads) h) cert.members follows.2.group (length-state (length threads) h) makes follows.2.events
entry_makes P channels threads low each h _ makes follows = tt

-- and so do all entries
pub all_fit : (script : Program) (history : List Entry) → IsProgram script → IsLoose (length script.threads) history → IsOfScript script history
    → AllByRecursion (EntryIsSpelled (IsChannelOf script)) history
all_fit script history is loose wished =
    (grows_wished (length script.threads) script.threads
    (SoFar (IsChannelOf script) (length script.channels) script.threads (λ c few. inl few) is.each)
    (λ h e follows w so. goes_on (IsChannelOf script) (length script.channels) script.threads (λ c few. inl few) is.each h e follows w so
    (entry_makes (IsChannelOf script) (length script.channels) script.threads (λ c few. inl few) is.each h e makes follows))
    [] history loose wished (first (IsChannelOf script) (length script.channels) script.threads (λ c few. inl few) is.each)).entries_so
  where
    makes : (t k : ℕ) → t < length script.threads → Makes (IsChannelOf script) t k
    makes t k there = λ count few. inr (record { thread = t; ticket = k; count = count; is_thread = there; few = few; number = refl })

pub of_script : (script : Program) (history : List Entry) → IsProgram script → IsLoose (length script.threads) history → IsOfScript script history → AllByRecursion (HasChannelsOf script) history
of_script script history is loose wished = entries_have (IsChannelOf script) history (all_fit script history is loose wished)
