-- How often each caller has posted: once for each outcome that it has taken and each event that it has taken back, and once
-- more while it waits.
use Rattle.std.proofs.Common.{◌≡◌, ◌≢◌, ◌⊎◌, ◌∙◌, ◌<◌, ◌≤◌, ◌+◌, ◌*◌, ℕ, zero, suc, false, List, [], ◌∷◌, ◌++◌, length, Some, None, Option, refl, ap, sym, subst, inl, inr, arith}
use Rattle.std.specs.Prelude.{slice_get, slice_set}
use Rattle.std.proofs.lemmas.Bool.{cases_lt, ne_eqb}
use Rattle.std.proofs.lemmas.List.{length-append}
use Rattle.te_terms.specs.declared.event.Outcome.{Outcome}
use Rattle.te_terms.specs.Terms.{Term}
use Rattle.te_terms.specs.Steps as steps
use Rattle.te_cert.specs.declared.cert.Member.{Member}
use Rattle.te_cert.specs.declared.cert.Cert.{Cert}
use Rattle.te_cert.specs.Checks.{ThreadsRise}
use Rattle.te_cert.proofs.Places.{get_set_same, get_set_other}
use Rattle.te_script.specs.Scripts.{Thread}
use Rattle.te_script.specs.Wishes.{flat, syncs, wish}
use Rattle.te_history.specs.declared.status.How.{How}
use Rattle.te_history.specs.declared.entry.Entry.{Entry}
use Rattle.te_history.specs.declared.entry.Entry.TheVariants as entries
use Rattle.te_history.specs.State.{Standing, idle, parked, given, ended, State, with_standing, with_given, changed, state, posts_by, is_post_by}
use Rattle.te_history.specs.Follows.{Stands, AreEvents, caller_of, LooselyFollows, IsLoose}
use Rattle.te_history.specs.Room.{room}
use Rattle.te_history.proofs.AfterEntry.{state-after, posts_by-after, length-state}
use Rattle.te_history.proofs.RoomNeverRises.{events_after, rise_rest, room_after, room_posted}
use Rattle.te_report.specs.OfScript.{taken, taken_from, WishedBy, WishedFrom}
use Rattle.te_report.proofs.Growing.{not_mine, grows_wished}
use Rattle.te_runtime.specs.Households.{is_withdrawal_by, withdrawals_by}
use Rattle.tevents.proofs.PostsCounted.{syncs_in, wish_within, sum_posts, sum_other, sum_post, not_by, is_by, same_or_apart}
use Rattle.tevents.proofs.WithdrawalsCounted.{withdrawals_grow, over_same, over_taken, over_withdrawn, over_by}
use Rattle.te_board.proofs.Reserving.{idle_room}
use Rattle.te_history.proofs.GivenOnce.{all_idle}

-- how often a caller has posted, and how many of its posts are over, by where it stands
abbrev PostsAs : Standing → ℕ → ℕ → Type 0
PostsAs idle posts over = posts ≡ over
PostsAs (parked ticket event) posts over = posts ≡ suc over
PostsAs (given ticket outcome) posts over = posts ≡ suc over
PostsAs ended posts over = Unit {0}

pub record IsCounted (callers : ℕ) (threads : List Thread) (h : List Entry) : Type 0 where
  pub each : (t : ℕ) (x : Standing) → Stands (state callers h) t x → PostsAs x (posts_by t h) (over_by t h)
  pub few : (t : ℕ) (text : Thread) → slice_get threads t ≡ Some text → posts_by t h ≤ syncs_in (flat text) + withdrawals_by t h
  pub room : length h + room (state callers h) ≤ callers + 2 + 3 * sum_posts callers h

-- ---- who stands where after a commit

-- a caller stands as it did, or was parked and is given its outcome
abbrev IsSameOrGiven : State → ℕ → Standing → Type 0
IsSameOrGiven s t x = Stands s t x ⊎ ((ticket : ℕ) × (outcome : Outcome) × (k : ℕ) × (event : Term) × (x ≡ given ticket outcome) × Stands s t (parked k event))

given_stands : (s : State) (ms : List Member) (gs : List steps.Member) (os : List Outcome) (t : ℕ) (x : Standing)
    → ThreadsRise ms → AreEvents s ms gs → Stands (with_given ms os s) t x → IsSameOrGiven s t x
given_stands s [] gs os t x rise events st = inl st
given_stands s (m ∷ ms) gs [] t x rise events st = inl st
given_stands s (m ∷ ms) [] (o ∷ os) t x rise events st = absurd events
given_stands s (m ∷ ms) (g ∷ gs) (o ∷ os) t x rise events st =
    go (same_or_apart m.thread t)
    (given_stands (with_standing m.thread (given m.ticket o) s) ms gs os t x (rise_rest m.thread ms rise) (events_after s m.thread (given m.ticket o) ms gs rise events.2) st)
  where
    next : State
    next = with_standing m.thread (given m.ticket o) s

    set : Stands next m.thread (given m.ticket o)
    set = get_set_same s.callers m.thread (parked m.ticket g.term) (given m.ticket o) events.1

    go : (m.thread ≡ t) ⊎ (m.thread ≡ t → ⊥) → IsSameOrGiven next t x → IsSameOrGiven s t x
    go (inl same) (inl here) =
        let at : Stands next t (given m.ticket o) = subst (λ (u : ℕ). Stands next u (given m.ticket o)) same set in
        inr (m.ticket, o, m.ticket, g.term, some_is x (given m.ticket o) (sym here ∙ at), subst (λ (u : ℕ). Stands s u (parked m.ticket g.term)) same events.1)
      where
        some_is : (a b : Standing) → Some a ≡ Some b → a ≡ b
        some_is a b e = cc
    go (inl same) (inr was) =
        let at : Stands next t (given m.ticket o) = subst (λ (u : ℕ). Stands next u (given m.ticket o)) same set in
        let bad : Some (given m.ticket o) ≡ Some (parked was.2 was.3) = sym at ∙ was.5 in cc
    go (inr apart) (inl here) = inl (sym (get_set_other s.callers m.thread t (given m.ticket o) apart) ∙ here)
    go (inr apart) (inr was) = inr (was.0, was.1, was.2, was.3, was.4, sym (get_set_other s.callers m.thread t (given m.ticket o) apart) ∙ was.5)

-- ---- one entry more

module _ (callers : ℕ) (threads : List Thread) (h : List Entry) (c : IsCounted callers threads h) where
  abbrev s : State
  s = state callers h

  -- an entry that is no post, no take and no withdrawal of this caller
  still : (t : ℕ) (x : Standing) (e : Entry) → is_post_by t e ≡ false → taken_from t e [] ≡ [] → is_withdrawal_by t e ≡ false
      → PostsAs x (posts_by t h) (over_by t h) → PostsAs x (posts_by t (h ++ e ∷ [])) (over_by t (h ++ e ∷ []))
  still t x e a b d p =
      let posts : posts_by t (h ++ e ∷ []) ≡ posts_by t h = posts_by-after t h e ∙ rw a refl in
      let over : over_by t (h ++ e ∷ []) ≡ over_by t h = over_same t h e b d in
      subst (λ (n : ℕ). PostsAs x n (over_by t (h ++ e ∷ []))) (sym posts) (subst (λ (k : ℕ). PostsAs x (posts_by t h) k) (sym over) p)

  few_still : (e : Entry) → ((t : ℕ) → is_post_by t e ≡ false) → (t : ℕ) (text : Thread) → slice_get threads t ≡ Some text
      → posts_by t (h ++ e ∷ []) ≤ syncs_in (flat text) + withdrawals_by t (h ++ e ∷ [])
  few_still e none t text is =
      let posts : posts_by t (h ++ e ∷ []) ≡ posts_by t h = posts_by-after t h e ∙ rw (none t) refl in
      let old = c.few t text is in
      let more = withdrawals_grow t h (e ∷ []) in
      omega (arith, posts, old, more)

  room_still : (e : Entry) → LooselyFollows callers h e → ((by ticket : ℕ) (event : Term) → e ≢ entries.Post by ticket event) → ((t : ℕ) → is_post_by t e ≡ false)
      → length (h ++ e ∷ []) + room (state callers (h ++ e ∷ [])) ≤ callers + 2 + 3 * sum_posts callers (h ++ e ∷ [])
  room_still e follows other none =
      let after : room (state callers (h ++ e ∷ [])) ≡ room (changed s e) = ap room (state-after callers h e) in
      let less = room_after callers s (posts_by (caller_of e) h) e follows other in
      let sum = sum_other callers h e (λ t lt. none t) in
      let more : length (h ++ e ∷ []) ≡ length h + 1 = length-append h (e ∷ []) in
      omega (arith, after, less, sum, more, c.room)

  -- ---- a post

  module _ (by ticket : ℕ) (event : Term) (follows : LooselyFollows callers h (entries.Post by ticket event))
      (text : Thread) (has : slice_get threads by ≡ Some text) (wished : wish text (taken by h) ≡ syncs event) where
    abbrev the_post : Entry
    the_post = entries.Post by ticket event

    posts_are : posts_by by h ≡ over_by by h
    posts_are = c.each by idle follows.1

    posts_more : posts_by by (h ++ the_post ∷ []) ≡ suc (posts_by by h)
    posts_more = posts_by-after by h the_post ∙ rw (is_by by ticket event) refl

    each_posted : (t : ℕ) (x : Standing) → Stands (state callers (h ++ the_post ∷ [])) t x → PostsAs x (posts_by t (h ++ the_post ∷ [])) (over_by t (h ++ the_post ∷ []))
    each_posted t x st = go (same_or_apart by t)
      where
        here : Stands (with_standing by (parked ticket event) s) t x
        here = subst (λ (z : State). Stands z t x) (state-after callers h the_post) st

        go : (by ≡ t) ⊎ (by ≡ t → ⊥) → PostsAs x (posts_by t (h ++ the_post ∷ [])) (over_by t (h ++ the_post ∷ []))
        go (inl same) =
            let at : slice_get (slice_set s.callers by (parked ticket event)) by ≡ Some (parked ticket event) = get_set_same s.callers by idle (parked ticket event) follows.1 in
            let is : x ≡ parked ticket event = some_is x (parked ticket event)
            (sym here ∙ subst (λ (u : ℕ). slice_get (slice_set s.callers by (parked ticket event)) u ≡ Some
            (parked ticket event)) same at) in
            let over : over_by by (h ++ the_post ∷ []) ≡ over_by by h = over_same by h the_post refl refl in
            let counts : posts_by by (h ++ the_post ∷ []) ≡ suc (over_by by (h ++ the_post ∷ [])) = posts_more ∙ ap suc posts_are ∙ ap suc (sym over) in
            subst (λ (y : Standing). PostsAs y (posts_by t (h ++ the_post ∷ [])) (over_by t (h ++ the_post ∷ []))) (sym is)
            (subst (λ (u : ℕ). posts_by u (h ++ the_post ∷ []) ≡ suc (over_by u (h ++ the_post ∷ []))) same counts)
          where
            some_is : (a b : Standing) → Some a ≡ Some b → a ≡ b
            some_is a b q = cc
        go (inr apart) = still t x the_post (not_by t by ticket event apart) refl refl (c.each t x (sym (get_set_other s.callers by t (parked ticket event) apart) ∙ here))

    few_posted : (t : ℕ) (other : Thread) → slice_get threads t ≡ Some other → posts_by t (h ++ the_post ∷ []) ≤ syncs_in (flat other) + withdrawals_by t (h ++ the_post ∷ [])
    few_posted t other is = go (same_or_apart by t)
      where
        grow : withdrawals_by t h ≤ withdrawals_by t (h ++ the_post ∷ [])
        grow = withdrawals_grow t h (the_post ∷ [])

        go : (by ≡ t) ⊎ (by ≡ t → ⊥) → posts_by t (h ++ the_post ∷ []) ≤ syncs_in (flat other) + withdrawals_by t (h ++ the_post ∷ [])
        go (inl same) =
            let here : posts_by t (h ++ the_post ∷ []) ≡ suc (length (taken by h) + withdrawals_by t h) =
            subst (λ (u : ℕ). posts_by u (h ++ the_post ∷ []) ≡ suc (length (taken by h) + withdrawals_by u h)) same
            (posts_more ∙ ap suc posts_are) in
            let texts : text ≡ other = some_is text other (sym has ∙ subst (λ (u : ℕ). slice_get threads u ≡ Some other) (sym same) is) in
            let within : length (taken by h) < syncs_in (flat other) = subst (λ (y : Thread). length (taken by h) < syncs_in (flat y)) texts (wish_within text (taken by h) event wished) in
            omega (arith, here, within, grow)
          where
            some_is : (a b : Thread) → Some a ≡ Some b → a ≡ b
            some_is a b q = cc
        go (inr apart) = let posts : posts_by t (h ++ the_post ∷ []) ≡ posts_by t h =
            posts_by-after t h the_post ∙ rw (not_by t by ticket event apart) refl in let old = c.few t other is in
            omega (arith, posts, old, grow)

    by_within : by < callers
    by_within = within (cases_lt by callers)
      where
        within : (by < callers) ⊎ (callers ≤ by) → by < callers
        within (inl low) = low
        within (inr high) = absurd (past s.callers by (omega (arith, high, length-state callers h)) follows.1)
          where
            past : (xs : List Standing) (i : ℕ) → length xs ≤ i → slice_get xs i ≡ Some idle → ⊥
            past [] i le q = cc
            past (y ∷ ys) zero le q = omega (arith, le)
            past (y ∷ ys) (suc i) le q = past ys i (omega (arith, le)) q

    posted : IsCounted callers threads (h ++ the_post ∷ [])
    posted = record {
      each = each_posted;
      few = few_posted;
      room =
          let after : room (state callers (h ++ the_post ∷ [])) ≡ room (changed s the_post) = ap room (state-after callers h the_post) in
          let more = room_posted callers s (posts_by by h) by ticket event follows in
          let sum = sum_post callers by ticket event h by_within in
          let one : length (h ++ the_post ∷ []) ≡ length h + 1 = length-append h (the_post ∷ []) in
          omega (arith, after, more, sum, one, c.room);
    }

  -- ---- a caller is idle again: it has taken an outcome, or taken back its event

  module _ (by : ℕ) (e : Entry) (was : Standing) (stood_so : Stands s by was) (parks : PostsAs was (posts_by by h) (over_by by h) → posts_by by h ≡ suc (over_by by h))
      (idles : changed s e ≡ with_standing by idle s) (none : (t : ℕ) → is_post_by t e ≡ false)
      (over : over_by by (h ++ e ∷ []) ≡ suc (over_by by h)) (others : (t : ℕ) → (by ≡ t → ⊥) → (taken_from t e [] ≡ []) × (is_withdrawal_by t e ≡ false)) where
    pub each_idle : (t : ℕ) (x : Standing) → Stands (state callers (h ++ e ∷ [])) t x → PostsAs x (posts_by t (h ++ e ∷ [])) (over_by t (h ++ e ∷ []))
    each_idle t x st = go (same_or_apart by t)
      where
        here : Stands (with_standing by idle s) t x
        here = subst (λ (z : State). Stands z t x) (state-after callers h e ∙ idles) st

        go : (by ≡ t) ⊎ (by ≡ t → ⊥) → PostsAs x (posts_by t (h ++ e ∷ [])) (over_by t (h ++ e ∷ []))
        go (inl same) =
            let at : slice_get (slice_set s.callers by idle) by ≡ Some idle = get_set_same s.callers by was idle stood_so in
            let is : x ≡ idle = some_is x idle (sym here ∙ subst (λ (u : ℕ). slice_get (slice_set s.callers by idle) u ≡ Some idle) same at) in
            let posts : posts_by by (h ++ e ∷ []) ≡ posts_by by h = posts_by-after by h e ∙ rw (none by) refl in
            let counts : posts_by by (h ++ e ∷ []) ≡ over_by by (h ++ e ∷ []) = posts ∙ parks (c.each by was stood_so) ∙ sym over in
            subst (λ (y : Standing). PostsAs y (posts_by t (h ++ e ∷ [])) (over_by t (h ++ e ∷ []))) (sym is)
            (subst (λ (u : ℕ). posts_by u (h ++ e ∷ []) ≡ over_by u (h ++ e ∷ [])) same counts)
          where
            some_is : (a b : Standing) → Some a ≡ Some b → a ≡ b
            some_is a b q = cc
        go (inr apart) = let other = others t apart in still t x e (none t) other.0 other.1 (c.each t x (sym (get_set_other s.callers by t idle apart) ∙ here))

  took : (by ticket : ℕ) (outcome : Outcome) → LooselyFollows callers h (entries.Take by ticket outcome) → IsCounted callers threads (h ++ entries.Take by ticket outcome ∷ [])
  took by ticket outcome follows =
      let the_take = entries.Take by ticket outcome in record {
        each = each_idle by the_take (given ticket outcome) follows.1 (λ p. p) refl (λ t. refl) (over_taken by ticket outcome h) (λ t apart. (not_mine t by ticket outcome apart, refl));
        few = few_still the_take (λ t. refl);
        room = room_still the_take follows (λ b k v q. cc) (λ t. refl);
      }

  withdrew : (by ticket : ℕ) → LooselyFollows callers h (entries.Withdraw by ticket) → IsCounted callers threads (h ++ entries.Withdraw by ticket ∷ [])
  withdrew by ticket follows =
      let the_withdrawal = entries.Withdraw by ticket in record {
        each = each_idle by the_withdrawal (parked ticket follows.1.0) follows.1.1 (λ p. p) refl (λ t. refl) (over_withdrawn by ticket h) (λ t apart. (refl, ne_eqb by t apart));
        few = few_still the_withdrawal (λ t. refl);
        room = room_still the_withdrawal follows (λ b k v q. cc) (λ t. refl);
      }

  -- ---- an end

  module _ (by : ℕ) (how : How) (follows : LooselyFollows callers h (entries.End by how)) where
    abbrev the_end : Entry
    the_end = entries.End by how

    each_ended : (t : ℕ) (x : Standing) → Stands (state callers (h ++ the_end ∷ [])) t x → PostsAs x (posts_by t (h ++ the_end ∷ [])) (over_by t (h ++ the_end ∷ []))
    each_ended t x st = go (same_or_apart by t)
      where
        here : Stands (with_standing by ended s) t x
        here = subst (λ (z : State). Stands z t x) (state-after callers h the_end) st

        go : (by ≡ t) ⊎ (by ≡ t → ⊥) → PostsAs x (posts_by t (h ++ the_end ∷ [])) (over_by t (h ++ the_end ∷ []))
        go (inl same) = ends_so x (subst (λ (u : ℕ). slice_get (slice_set s.callers by ended) u ≡ Some x) (sym same) here) (set_either s.callers by ended)
          where
            -- a place that was set has what was set
            set_either : (xs : List Standing) (i : ℕ) (y : Standing) → (z : Standing) → slice_get (slice_set xs i y) i ≡ Some z → z ≡ y
            set_either [] i y z q = cc
            set_either (w ∷ ws) zero y z q = cc
            set_either (w ∷ ws) (suc i) y z q = set_either ws i y z q

            ends_so : (z : Standing) → slice_get (slice_set s.callers by ended) by ≡ Some z
                → ((z : Standing) → slice_get (slice_set s.callers by ended) by ≡ Some z → z ≡ ended)
                → PostsAs z (posts_by t (h ++ the_end ∷ [])) (over_by t (h ++ the_end ∷ []))
            ends_so z q f = subst (λ (y : Standing). PostsAs y (posts_by t (h ++ the_end ∷ [])) (over_by t (h ++ the_end ∷ []))) (sym (f z q)) tt
        go (inr apart) = still t x the_end refl refl refl (c.each t x (sym (get_set_other s.callers by t ended apart) ∙ here))

    ended_so : IsCounted callers threads (h ++ the_end ∷ [])
    ended_so = record { each = each_ended; few = few_still the_end (λ t. refl); room = room_still the_end follows (λ b k v q. cc) (λ t. refl) }

  -- ---- an entry after which all stand as they did

  stood : (e : Entry) → ((t : ℕ) → is_post_by t e ≡ false) → ((t : ℕ) → taken_from t e [] ≡ []) → ((t : ℕ) → is_withdrawal_by t e ≡ false)
      → ((by ticket : ℕ) (event : Term) → e ≢ entries.Post by ticket event) → (changed s e).callers ≡ s.callers
      → LooselyFollows callers h e → IsCounted callers threads (h ++ e ∷ [])
  stood e none takes no_withdrawal other same follows = record {
    each = λ t x st. still t x e (none t) (takes t) (no_withdrawal t)
        (c.each t x (subst (λ (cs : List Standing). slice_get cs t ≡ Some x) same (subst (λ (z : State). Stands z t x) (state-after callers h e) st)));
    few = few_still e none;
    room = room_still e follows other none;
  }

  -- ---- a commit

  module _ (by : ℕ) (cert : Cert) (outcomes : List Outcome) (follows : LooselyFollows callers h (entries.Commit by cert outcomes)) where
    abbrev the_commit : Entry
    the_commit = entries.Commit by cert outcomes

    each_committed : (t : ℕ) (x : Standing) → Stands (state callers (h ++ the_commit ∷ [])) t x → PostsAs x (posts_by t (h ++ the_commit ∷ [])) (over_by t (h ++ the_commit ∷ []))
    each_committed t x st = go (given_stands s cert.members follows.2.group outcomes t x follows.2.rise follows.2.events (subst (λ (z : State). Stands z t x) (state-after callers h the_commit) st))
      where
        go : IsSameOrGiven s t x → PostsAs x (posts_by t (h ++ the_commit ∷ [])) (over_by t (h ++ the_commit ∷ []))
        go (inl same) = still t x the_commit refl refl refl (c.each t x same)
        go (inr was) =
            let counts : PostsAs (given was.0 was.1) (posts_by t h) (over_by t h) = c.each t (parked was.2 was.3) was.5 in
            subst (λ (y : Standing). PostsAs y (posts_by t (h ++ the_commit ∷ [])) (over_by t (h ++ the_commit ∷ []))) (sym was.4) (still t (given was.0 was.1) the_commit refl refl refl counts)

    committed : IsCounted callers threads (h ++ the_commit ∷ [])
    committed = record { each = each_committed; few = few_still the_commit (λ t. refl); room = room_still the_commit follows (λ b k v q. cc) (λ t. refl) }

-- ---- every history

-- a post has the event of the wish of its thread's text
posts_wish : (o : Option Thread) (outs : List Outcome) (by ticket : ℕ) (event : Term)
    → WishedBy o outs (entries.Post by ticket event) → (text : Thread) × (o ≡ Some text)
    × (wish text outs ≡ syncs event)
posts_wish (Some text) outs by ticket event w = (text, refl, w)
posts_wish None outs by ticket event w = absurd w

step : (callers : ℕ) (threads : List Thread) (h : List Entry) (e : Entry) → LooselyFollows callers h e
    → WishedBy (slice_get threads (caller_of e)) (taken (caller_of e) h) e → IsCounted callers threads h
    → IsCounted callers threads (h ++ e ∷ [])
step callers threads h (entries.Post by ticket event) follows wished c =
    let w = posts_wish (slice_get threads by) (taken by h) by ticket event wished in posted callers threads h c by ticket event follows w.0 w.1 w.2
step callers threads h (entries.Commit by cert outcomes) follows wished c = committed callers threads h c by cert outcomes follows
step callers threads h (entries.Withdraw by ticket) follows wished c = withdrew callers threads h c by ticket follows
step callers threads h (entries.Take by ticket outcome) follows wished c = took callers threads h c by ticket outcome follows
step callers threads h (entries.Rest by) follows wished c = stood callers threads h c (entries.Rest by) (λ t. refl) (λ t. refl) (λ t. refl) (λ b k v q. cc) refl follows
step callers threads h (entries.Stuck by) follows wished c = stood callers threads h c (entries.Stuck by) (λ t. refl) (λ t. refl) (λ t. refl) (λ b k v q. cc) refl follows
step callers threads h (entries.End by how) follows wished c = ended_so callers threads h c by how follows

at_first : (callers : ℕ) (threads : List Thread) → IsCounted callers threads []
at_first callers threads = record {
  each = λ t x st. subst (λ (y : Standing). PostsAs y 0 0) (sym (all_idle callers t x st)) refl;
  few = λ t text is. omega arith;
  room = let all = idle_room callers in omega (arith, all);
}

pub counted_all : (callers : ℕ) (threads : List Thread) (history : List Entry) → IsLoose callers history
    → WishedFrom threads [] history → IsCounted callers threads history
counted_all callers threads history loose wished =
    grows_wished callers threads (λ h. IsCounted callers threads h)
    (λ h e follows w ih. step callers threads h e follows w ih)
    [] history loose wished (at_first callers threads)
