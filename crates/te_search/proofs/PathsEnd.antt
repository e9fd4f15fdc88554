-- What a path of a batch leaves that is final or has no step, and what a refusal leaves of any.
use Rattle.std.proofs.Common.{◌≡◌, ◌<◌, ◌≤◌, inl, inr, ℕ, zero, suc, ◌+◌, ◌-◌, List, [], ◌∷◌, length, Bool, true, false}
use Rattle.std.proofs.Common.{Option, Some, None, MatchOption, slice_get, refl, ap, sym, ◌∙◌, subst, subst₂, arith}
use Rattle.std.proofs.Common.{append-nil, length-append, eq-or-lt_of_le}
use Rattle.std.proofs.Common.{Vec, Global}
use Rattle.te_terms.specs.Terms.{never}
use Rattle.te_terms.specs.Steps.{Member, head}
use Rattle.te_terms.specs.Joint.{after_choice, sending, receiving}
use Rattle.te_terms.proofs.OneThing.{Rests, never_is_alone}
use Rattle.te_trail.specs.Paths.{Path}
use Rattle.te_trail.specs.States.{path_state, HasState}
use Rattle.te_pair.specs.declared.end.End.{End}
use Rattle.te_search.specs.declared.work.Work.{Work}
use Rattle.te_search.specs.Groups.{IsFinal}
use Rattle.te_search.specs.Works.{AreLow, IsWorkOn, IsHit, StepEndsSo, IsNear, RunsShort, IsSpentAt, Gains, WaitsOn}
use Rattle.te_search.specs.Works.{threads_of}
use Rattle.te_search.specs.Batches.{numbers_from, IsAtDeadEnd}
use Rattle.te_search.specs.Batching.{ends_below, BatchIsOpen, HasTried, IsSpentTrying}
use Rattle.te_trail.proofs.StoresHold.{held}
use Rattle.te_terms.proofs.Lists.{get_low}
use Rattle.te_search.proofs.Working.{spent_gained, spent_here}
use Rattle.te_search.proofs.Waiting.{waits_end}
use Rattle.te_terms.proofs.Lists.{never_both}
use Rattle.te_pair.proofs.EndsTold.{one_state}
use Rattle.te_search.proofs.Ending.{Ending, ending, end_done, end_ends, end_short, end_spent, nothing_more}
use Rattle.te_search.proofs.PastsToCome.{to_come_fails}
use Rattle.te_search.proofs.PartialLaws.{tries_zero}
use Rattle.te_search.proofs.Trying.{path_there}
use Rattle.te_search.specs.Assemblies.{Tries}
use Rattle.te_search.specs.Searching.{paths_by}
use Rattle.te_trail.specs.Stores.{Holds}
use Rattle.te_search.proofs.GoneOn.{AreFew, seen_from, gains_seen, in_hand, left_so, open_next, gone_elsewhere}

-- the lowest path of the batch in hand
pub hand : (w : Work) (n batched : ℕ) (x : Path) (few : AreFew w) → BatchIsOpen w n batched
    → slice_get w.store.paths n ≡ Some x → IsWorkOn (seen_from w (n + 1) (ends_below n w.waiting) few) n
hand w n batched x few o ex = in_hand w n (ends_below n w.waiting) few (get_low w.store.paths x n ex) o.work

-- what has no step doesn't stand at a send or a receive
pub dead_elsewhere : (g : List Member) (x : Path) (m : Member) → path_state g x ≡ Some m → head m.term ≡ never
    → (channel : ℕ) (sends : Bool) → ¬ WaitsOn g x channel sends
dead_elsewhere g x m st dead channel sends s = by sends (never_is_alone m m.term dead) s
  where
    by : (sends : Bool) → Rests m m.term × ((left : Bool) → after_choice left m.term ≡ None) × (sending m.term ≡ None) ×
        (receiving m.term ≡ None) → WaitsOn g x channel sends → ⊥
    by true alone s = never_both (sending m.term) s.stands.0 alone.2
        (ap (λ k. sending k.term) (one_state (path_state g x) m s.member st s.state) ∙ s.stands.1)
    by false alone s = never_both (receiving m.term) channel alone.3
        (ap (λ k. receiving k.term) (one_state (path_state g x) m s.member st s.state) ∙ s.stands)

-- ---- a final path

rest_has : (paths : List Path) (n count m : ℕ) (c : Path) → n ≤ m → m < n + count → slice_get paths m ≡ Some c
    → Holds (paths_by paths (numbers_from n count)) c
rest_has paths n zero m c low high e = absurd (omega (arith, low, high))
rest_has paths n (suc count) m c low high e = elim (eq-or-lt_of_le low) [
  | inl s ↦ inl (sym (path_there paths n c (ap (slice_get paths) s ∙ e)))
  | inr l ↦ inr (rest_has paths (suc n) count m c (omega (arith, l)) (omega (arith, high)) e)
]

pub tried_ends : (old new : Work) (n batched : ℕ) (x : Path) (threads : List ℕ) (found : Option (Vec (Option ℕ) Global))
    → BatchIsOpen old n batched → n < batched → AreFew old → slice_get old.store.paths n ≡ Some x
    → IsFinal old.store.events x → threads ≡ threads_of old.store.events → HasTried old new n threads found
    → MatchOption found (BatchIsOpen new (n + 1) batched) (λ v. IsHit new threads v.items)
tried_ends old new n batched x threads found o low few ex f th t = by found (elim t.tries [
  | inl q ↦ subst (StepEndsSo now threads) (sym q.2)
      (end_done was now n x threads t.count ex taken f end t.store (ap (λ m. m.items) t.moves) rest refl t.finals t.groups
      (subst (Tries old.store.events old.store.paths x (x ∷ [])) (sym q.1)
      (tries_zero old.store.events old.store.paths x (x ∷ [])))
      (to_come_fails was n x threads t.joined ex taken end (t.names x ex) q.0 later) t.told)
  | inr h ↦ end_ends was now n x threads t.joined t.count found ex taken f end t.store (ap (λ m. m.items) t.moves) rest refl
      t.finals t.groups (t.names x ex) h t.told
])
  where
    few_new : AreFew new
    few_new = subst (λ s. length s.paths ≤ 1000000) (sym t.store) few

    was : Work
    was = seen_from old (n + 1) (ends_below n old.waiting) few

    now : Work
    now = seen_from new (n + 1) (ends_below n old.waiting) few_new

    taken : IsWorkOn was n
    taken = hand old n batched x few o ex

    end : Ending was n x threads
    end = ending was n x threads ex taken f th

    later : (m : ℕ) (c : Path) → n < m → slice_get old.store.paths m ≡ Some c
        → Holds (paths_by old.store.paths (numbers_from (n + 1) (length old.store.paths - (n + 1)))) c
    later m c l ec = rest_has old.store.paths (n + 1) (length old.store.paths - (n + 1)) m c (omega (arith, l))
        (let k : m < length old.store.paths = get_low old.store.paths c m ec in omega (arith, l, k)) ec

    rest : now.pending.items ≡ was.pending.items
    rest = ap (λ s. numbers_from (n + 1) (length s.paths - (n + 1))) t.store

    low_rest : AreLow new.store.paths new.pending.items
    low_rest = subst₂ (λ s v. AreLow s.paths v.items) (sym t.store) (sym t.pending) o.work.pending_low

    by : (found : Option (Vec (Option ℕ) Global)) → StepEndsSo now threads found
        → MatchOption found (BatchIsOpen new (n + 1) batched) (λ v. IsHit new threads v.items)
    by None w = open_next old new n batched [] o low (ap (λ s. s.paths) t.store ∙ sym (append-nil old.store.paths))
        (ap (λ s. s.events) t.store) t.waiting
        (gone_elsewhere old new n batched x o.kept ex (λ c s k. waits_end old.store.events x c s k f) t.waiting
        (left_so new (n + 1) (ends_below n old.waiting) few_new low_rest w))
    by (Some v) h = record {
      stand = h.stand;
      start = h.start;
      final = h.final;
      made = h.made;
      found = h.found;
      told_are = h.told_are;
    }

-- ---- a path that has no step

pub dead_opened : (w : Work) (n batched : ℕ) (x : Path) → BatchIsOpen w n batched → n < batched → AreFew w
    → slice_get w.store.paths n ≡ Some x → IsAtDeadEnd w.store n → BatchIsOpen w (n + 1) batched
dead_opened w n batched x o low few ex at = open_next w w n batched [] o low (sym (append-nil w.store.paths)) refl refl
    (gone_elsewhere w w n batched x o.kept ex elsewhere refl (left_so w (n + 1)
    (ends_below n w.waiting) few o.work.pending_low
    (nothing_more (seen_from w (n + 1) (ends_below n w.waiting) few) n x ex (hand w n batched x few o ex)
    (st.0, st.1, at x st.0 ex st.1))))
  where
    st : HasState w.store.events x
    st = o.work.search.store.state x (held w.store.paths n x ex)

    elsewhere : (channel : ℕ) (sends : Bool) → ¬ WaitsOn w.store.events x channel sends
    elsewhere channel sends = dead_elsewhere w.store.events x st.0 st.1 (at x st.0 ex st.1) channel sends

-- ---- the budget

seen_spent : (w : Work) (n : ℕ) (waits : List End) (few : AreFew w) (events : List Member) (budget : ℕ)
    → IsSpentAt (seen_from w n waits few) events budget → IsSpentAt w events budget
seen_spent w n waits few events budget s = record {
  same = s.same;
  store = s.store;
  finals = s.finals;
  counted =
      s.counted;
  sum = s.sum;
  passed = s.passed;
}

seen_short : (w : Work) (n : ℕ) (waits : List End) (few : AreFew w) (budget : ℕ) → RunsShort w budget
    → RunsShort (seen_from w n waits few) budget
seen_short w n waits few budget s = record { near = s.near; more = s.more; store = s.store; beyond = s.beyond }

few_near : (w : Work) (budget : ℕ) → budget ≤ 1000000 → IsNear (length w.store.paths + w.groups) budget → AreFew w
few_near w budget b (inl e) = omega (arith, b, e)
few_near w budget b (inr e) = omega (arith, b, e)

pub spent_first : (w : Work) (n batched : ℕ) (x : Path) (budget : ℕ) → budget ≤ 1000000 → BatchIsOpen w n batched
    → slice_get w.store.paths n ≡ Some x → RunsShort w budget
    → IsSpentAt w w.store.events budget
spent_first w n batched x budget b o ex s = seen_spent w (n + 1) (ends_below n w.waiting) few w.store.events budget
    (spent_here (seen_from w (n + 1) (ends_below n w.waiting) few) n budget (hand w n batched x few o ex)
    (seen_short w (n + 1) (ends_below n w.waiting) few budget s))
  where
    few : AreFew w
    few = few_near w budget b s.near

pub spent_then : (old mid : Work) (n batched : ℕ) (x : Path) (news : List Path) (budget : ℕ) → budget ≤ 1000000
    → BatchIsOpen old n batched → slice_get old.store.paths n ≡ Some x → Gains old mid news
    → RunsShort mid budget → IsSpentAt mid old.store.events budget
spent_then old mid n batched x news budget b o ex g s = seen_spent mid (n + 1)
    (ends_below n old.waiting) few_mid old.store.events budget
    (spent_gained (seen_from old (n + 1) (ends_below n old.waiting) few_old)
    (seen_from mid (n + 1) (ends_below n old.waiting) few_mid) n news budget (hand old n batched x few_old o ex)
    (gains_seen old mid (n + 1) (ends_below n old.waiting) news few_old few_mid
    (let l : n < length old.store.paths = get_low old.store.paths x n ex in omega (arith, l)) g)
    (seen_short mid (n + 1) (ends_below n old.waiting) few_mid budget s))
  where
    few_mid : AreFew mid
    few_mid = few_near mid budget b s.near

    few_old : AreFew old
    few_old = (let l : length mid.store.paths ≡ length old.store.paths + length news = ap length g.paths
        ∙ length-append old.store.paths news in omega (arith, l, few_mid))

pub spent_trying : (old new : Work) (n batched : ℕ) (x : Path) (threads : List ℕ) (budget : ℕ) → budget ≤ 1000000
    → AreFew old → BatchIsOpen old n batched → slice_get old.store.paths n ≡ Some x
    → IsFinal old.store.events x → threads ≡ threads_of old.store.events → IsSpentTrying old new n budget
    → IsSpentAt new old.store.events budget
spent_trying old new n batched x threads budget b few o ex f th (inl (same, sum)) = subst
    (λ w. IsSpentAt w old.store.events budget) (sym same)
    (seen_spent old (n + 1) (ends_below n old.waiting) few old.store.events budget
    (end_short (seen_from old (n + 1) (ends_below n old.waiting) few) n x threads budget (hand old n batched x few o ex)
    (ending (seen_from old (n + 1) (ends_below n old.waiting) few) n x threads ex
    (hand old n batched x few o ex) f th) sum))
spent_trying old new n batched x threads budget b few o ex f th (inr t) = seen_spent new (n + 1)
    (ends_below n old.waiting) few_new old.store.events budget
    (end_spent was (seen_from new (n + 1) (ends_below n old.waiting) few_new) n x threads t.count budget
    (hand old n batched x few o ex) end t.store t.groups (t.tries x ex end.crew) t.sum)
  where
    few_new : AreFew new
    few_new = subst (λ s. length s.paths ≤ 1000000) (sym t.store) few

    was : Work
    was = seen_from old (n + 1) (ends_below n old.waiting) few

    end : Ending was n x threads
    end = ending was n x threads ex (hand old n batched x few o ex) f th
