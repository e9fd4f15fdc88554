-- What a search in batches knows between two calls.
use Rattle.std.proofs.Common.{◌≡◌, ◌≤◌, ◌<◌, inl, inr, ℕ, zero, suc, ◌+◌, ◌-◌, List, [], ◌∷◌, ◌++◌, length, map}
use Rattle.std.proofs.Common.{take, Bool, true, false, ◌||◌, nat_eq, Some, None, slice_get}
use Rattle.std.proofs.Common.{refl, ap, sym, ◌∙◌, subst, subst₂, arith, length-append, eqb-true}
use Rattle.std.proofs.Common.{eq-eqb}
use Rattle.te_terms.specs.declared.event.Parked.{Parked}
use Rattle.te_terms.specs.Steps.{Member}
use Rattle.te_terms.specs.Joint.{IsGroup, as_group, as_member, member_of, CanCommit}
use Rattle.te_trail.specs.Paths.{Path, planted, branched, sent, parent_of}
use Rattle.te_trail.specs.Stores.{Holds, IsStore, labels_of_move}
use Rattle.te_trail.specs.Trails.{unplanted, with_paths}
use Rattle.te_pair.specs.declared.end.End.{End}
use Rattle.te_pair.specs.Ends.{paths_kept}
use Rattle.te_search.specs.declared.work.Work.{Work}
use Rattle.te_search.specs.declared.finals.Final.{Final}
use Rattle.te_search.specs.Finals.{numbers_of}
use Rattle.te_search.specs.declared.batched.Batched.{Batched}
use Rattle.te_search.specs.Groups.{IsFinal}
use Rattle.te_search.specs.Searching.{paths_by, NoPathTwice, IsSearch}
use Rattle.te_search.specs.Works.{AreLow, label_told, IsCounted, IsSpentAt, threads_of}
use Rattle.te_search.specs.Findings.{IsUsedUp, IsBudget}
use Rattle.te_search.specs.Picks.{RiseAbove, NumbersRise}
use Rattle.te_search.specs.Plantings.{has_number}
use Rattle.te_search.specs.Batches.{numbers_from, IsStart, AreLeftTogether}
use Rattle.te_search.specs.Batching.{ends_below, BatchIsOpen, IsBatched, IsStarting, batches_of}
use Rattle.te_search.proofs.ListLaws.{once_by_places}
use Rattle.te_trail.proofs.StoresHold.{held}
use Rattle.te_search.proofs.NumbersListed.{take_one, group_numbers, parked_found}
use Rattle.te_search.proofs.StoresGrow.{plant_grows}
use Rattle.te_search.proofs.Trying.{listed, member_place}
use Rattle.te_terms.proofs.Lists.{get_some}
use Rattle.te_search.proofs.Working.{map_both}
use Rattle.te_search.proofs.WorkDone.{nothing_commits}
use Rattle.te_search.proofs.SearchEnds.{commits, parked_at, used_up}
use Rattle.te_search.proofs.GoneOn.{numbers_low, last_numbers}
use Rattle.te_search.proofs.LeftTogether.{none_together}
use Rattle.te_trail.proofs.RecordsRead.{take_all}

-- ---- lists cut short

none_taken : {A : Type 0} (xs : List A) → take 0 xs ≡ []
none_taken [] = refl
none_taken (x ∷ xs) = refl

holds_take : (k : ℕ) (xs : List Path) (y : Path) → Holds (take k xs) y → (i : ℕ) × (i < k) × (slice_get xs i ≡ Some y)
holds_take zero [] y h = absurd h
holds_take zero (x ∷ xs) y h = absurd h
holds_take (suc k) [] y h = absurd h
holds_take (suc k) (x ∷ xs) y (inl e) = (0, (let l : 0 < suc k = omega arith in l), ap Some (sym e))
holds_take (suc k) (x ∷ xs) y (inr h) = (let r : (i : ℕ) × (i < k) × (slice_get xs i ≡ Some y) = holds_take k xs y h in
    (suc r.0, (let l : r.0 < k = r.1 in let m : suc r.0 < suc k = omega (arith, l) in m), r.2))

numbers_above : (n count i m : ℕ) → slice_get (numbers_from n count) i ≡ Some m → n ≤ m
numbers_above n zero i m e = cc
numbers_above n (suc count) zero m e = (let one : n ≡ m = cc in omega (arith, one))
numbers_above n (suc count) (suc i) m e = (let l : suc n ≤ m = numbers_above (suc n) count i m e in omega (arith, l))

-- ---- no final paths are left together

pub none_left : (w : Work) (n batched : ℕ) (ps : List Path) (x : Path) → BatchIsOpen w n batched
    → ((y : Path) → Holds ps y → Holds (take n w.store.paths) y) → ¬ AreLeftTogether w.store.events x ps
none_left w n batched ps x o applied = none_together w.store.events w.store.paths
    (paths_by w.store.paths (numbers_of w.finals)) o.work.search.store o.work.search.failed x ps there
  where
    there : (y : Path) → Holds ps y → IsFinal w.store.events y
        → Holds w.store.paths y × Holds (paths_by w.store.paths (numbers_of w.finals)) y
    there y h f = by (holds_take n w.store.paths y (applied y h))
      where
        by : (i : ℕ) × (i < n) × (slice_get w.store.paths i ≡ Some y)
            → Holds w.store.paths y × Holds (paths_by w.store.paths (numbers_of w.finals)) y
        by (i, low, e) = (held w.store.paths i y e, o.work.search.final y (held w.store.paths i y e) shut f)
          where
            shut : ¬ Holds (paths_by w.store.paths (numbers_from n (length w.store.paths - n))) y
            shut k =
                let r : (j : ℕ) × (m : ℕ) × (slice_get (numbers_from n (length w.store.paths - n)) j ≡ Some m) ×
                (slice_get w.store.paths m ≡ Some y) = listed w.store.paths
                (numbers_from n (length w.store.paths - n)) (numbers_low w.store.paths n (length w.store.paths - n)
                (let a : n ≤ batched = o.first in let b : batched ≤ length w.store.paths = o.last in
                omega (arith, a, b))) y k in
                let same : i ≡ r.1 = o.work.search.store.once i r.1 y e r.3 in
                let above : n ≤ r.1 = numbers_above n (length w.store.paths - n) r.0 r.1 r.2 in
                omega (arith, low, same, above)

-- ---- where every path has gone on

pub nothing_left : (s : Batched) → IsBatched s → s.applied ≡ length s.work.store.paths → ¬ CanCommit s.parked
nothing_left s b all c = nothing_commits (as_group s.parked) s.work.store.paths
    (paths_by s.work.store.paths (paths_kept waits)) (paths_by s.work.store.paths (numbers_of s.work.finals))
    (subst (λ g. IsSearch g s.work.store.paths [] (paths_by s.work.store.paths (paths_kept waits))
    (paths_by s.work.store.paths (numbers_of s.work.finals))) b.events
    (subst (λ l. IsSearch s.work.store.events s.work.store.paths l (paths_by s.work.store.paths (paths_kept waits))
    (paths_by s.work.store.paths (numbers_of s.work.finals))) none b.opened.work.search)) b.planted_all
    (commits s.parked c)
  where
    waits : List End
    waits = ends_below s.applied s.work.waiting

    none : paths_by s.work.store.paths (numbers_from s.applied (length s.work.store.paths - s.applied)) ≡ []
    none = ap (λ k. paths_by s.work.store.paths (numbers_from s.applied k))
        (let e : length s.work.store.paths - s.applied ≡ 0 = omega (arith, all) in e)

-- ---- the budget

pub batched_used_up : (parked : List Parked) (w : Work) (budget : ℕ) → IsGroup (as_group parked)
    → w.store.events ≡ as_group parked → IsSpentAt w w.store.events budget
    → IsUsedUp parked budget (length w.store.paths) w.groups
batched_used_up parked w budget rise events s = used_up parked w budget rise
    (λ t e h. ap (member_of t) (sym events) ∙ h) s

-- ---- starting

no_front : {A : Type 0} (front : List A) (x : A) (rest : List A) → [] ≡ front ++ (x ∷ rest) → ⊥
no_front [] x rest e = cc
no_front (y ∷ front) x rest e = cc

-- nothing was done but planting
fresh_search : (g : List Member) (paths pending : List Path) → IsStore g paths → pending ≡ paths
    → ((x : Path) → Holds paths x → (t : ℕ) × (x ≡ planted t)) → IsSearch g paths pending [] []
fresh_search g paths pending store same plain = record {
  store = store;
  ups = λ k x y e f. absurd (no_parent x y (plain x (held paths k x e)) f);
  choices = λ p l m u h shut s c. absurd (shut (subst (λ q. Holds q p) (sym same) h));
  waiting = λ p h shut m. absurd (shut (subst (λ q. Holds q p) (sym same) h));
  meetings = λ p q a b e h k ag sa sb m. absurd h;
  final = λ p h shut f. absurd (shut (subst (λ q. Holds q p) (sym same) h));
  failed = λ front start rest e. absurd (no_front front start rest e);
  branched_from = λ p l h. absurd (no_branch p l (plain (branched p l) h));
  met_from = λ p q h. absurd (no_meeting p q (plain (sent p q) h));
  pending_made = λ p h. subst (λ q. Holds q p) same h;
  waits_made = λ p h. absurd h;
  finals_made = λ p h. absurd h;
  finals_final = λ p h. absurd h;
  pending_apart = λ p h. ((λ n. n), (λ n. n));
  pending_once = subst NoPathTwice (sym same) (once_by_places paths store.once);
  waits_once = tt;
  finals_once = tt;
}
  where
    no_parent : (x y : Path) → (t : ℕ) × (x ≡ planted t) → parent_of x ≡ Some y → ⊥
    no_parent x y (t, e) f = (let k : parent_of x ≡ None = ap parent_of e in cc)

    no_branch : (p : Path) (l : Bool) → (t : ℕ) × (branched p l ≡ planted t) → ⊥
    no_branch p l (t, e) = cc

    no_meeting : (p q : Path) → (t : ℕ) × (sent p q ≡ planted t) → ⊥
    no_meeting p q (t, e) = cc

-- only first paths
plain_in : (parked : List Parked) (x : Path) → Holds (map (λ (p : Parked). planted p.thread) parked) x
    → (t : ℕ) × (x ≡ planted t)
plain_in [] x h = absurd h
plain_in (p ∷ parked) x (inl e) = (p.thread, e)
plain_in (p ∷ parked) x (inr h) = plain_in parked x h

planted_in : (parked : List Parked) (i : ℕ) (p : Parked) → slice_get parked i ≡ Some p
    → Holds (map (λ (p : Parked). planted p.thread) parked) (planted p.thread)
planted_in [] i p e = cc
planted_in (q ∷ parked) zero p e = (let one : q ≡ p = cc in inl (ap (λ (k : Parked). planted k.thread) (sym one)))
planted_in (q ∷ parked) (suc i) p e = inr (planted_in parked i p e)

pub started : (s : Batched) → IsStarting s (length s.parked) → IsBatched s
started s k = record {
  rise = k.rise;
  events = k.events;
  threads = k.threads ∙ ap (λ n. take n (threads_of (as_group s.parked))) (sym (as_long s.parked))
      ∙ take_all (threads_of (as_group s.parked)) ∙ ap threads_of (sym k.events);
  budget = k.budget;
  within = k.within;
  idle = k.pending;
  opened = subst₂ (λ n b. BatchIsOpen s.work n b) (sym k.applied) (sym k.batched) opened;
  planted_all = λ t e h. first t (member_place t (as_group s.parked) e h);
}
  where
    as_long : (parked : List Parked) → length (threads_of (as_group parked)) ≡ length parked
    as_long [] = refl
    as_long (p ∷ parked) = ap suc (as_long parked)

    paths : s.work.store.paths ≡ map (λ (p : Parked). planted p.thread) s.parked
    paths = k.paths ∙ ap (map (λ (p : Parked). planted p.thread)) (take_all s.parked)

    first : (t : ℕ) → (i : ℕ) × (slice_get (map (λ (m : Member). m.thread) (as_group s.parked)) i ≡ Some t)
        → Holds s.work.store.paths (planted t)
    first t (i, e) = (let p : (p : Parked) × (slice_get s.parked i ≡ Some p) ×
        (p.thread ≡ t) = parked_at s.parked i t e in
        subst₂ (λ l x. Holds l (planted x)) (sym paths) p.2 (planted_in s.parked i p.0 p.1))

    no_final : (i : ℕ) (f : Final) → slice_get s.work.finals i ≡ Some f → ⊥
    no_final i f h = (let n : slice_get [] i ≡ Some f = ap (λ w. slice_get w i) (sym k.finals) ∙ h in cc)

    no_end : (i : ℕ) (e : End) → slice_get s.work.waiting i ≡ Some e → ⊥
    no_end i e h = (let n : slice_get [] i ≡ Some e = ap (λ w. slice_get w i) (sym k.waiting) ∙ h in cc)

    pending : paths_by s.work.store.paths (numbers_from 0 (length s.work.store.paths - 0)) ≡ s.work.store.paths
    pending = ap (λ c. paths_by s.work.store.paths (numbers_from 0 c))
        (let e : length s.work.store.paths - 0 ≡ length s.work.store.paths = omega arith in e)
        ∙ last_numbers [] s.work.store.paths

    none : (w : List End) → w ≡ [] → ends_below 0 w ≡ []
    none w e = ap (ends_below 0) e

    search : IsSearch s.work.store.events s.work.store.paths (paths_by s.work.store.paths
        (numbers_from 0 (length s.work.store.paths - 0))) [] []
    search = fresh_search s.work.store.events s.work.store.paths
        (paths_by s.work.store.paths (numbers_from 0 (length s.work.store.paths - 0)))
        (subst (λ g. IsStore g s.work.store.paths) (sym k.events) k.store) pending
        (λ x h. plain_in s.parked x (subst (λ l. Holds l x) paths h))

    no_low : (ns : List ℕ) → ns ≡ [] → AreLow s.work.store.paths ns
    no_low ns e i m h = (let n : slice_get [] i ≡ Some m = ap (λ l. slice_get l i) (sym e) ∙ h in cc)

    counted : IsCounted s.work.store.events s.work.store.paths [] s.work.groups
    counted = record { tried = []; count_is = sym k.groups; are = record { partial = tt; once = tt }; starts = tt }

    opened : BatchIsOpen s.work 0 0
    opened = record {
      work = record {
        search = subst₂ (λ a b. IsSearch s.work.store.events s.work.store.paths
            (paths_by s.work.store.paths (numbers_from 0 (length s.work.store.paths - 0)))
            (paths_by s.work.store.paths (paths_kept a)) (paths_by s.work.store.paths (numbers_of b)))
            (sym (none s.work.waiting k.waiting)) (sym k.finals) search;
        pending_low = no_low s.work.pending.items k.pending;
        waits_low = no_low (paths_kept (ends_below 0 s.work.waiting)) (ap paths_kept (none s.work.waiting k.waiting));
        finals_low = no_low (numbers_of s.work.finals) (ap numbers_of k.finals);
        finals_told = λ i f x ef ex. absurd (no_final i f ef);
        ends = λ i e x ei ex. absurd (let n : slice_get [] i ≡ Some e = ap (λ w. slice_get w i)
            (sym (none s.work.waiting k.waiting)) ∙ ei in cc);
        told_are = k.told_are;
        counted = subst (λ f. IsCounted s.work.store.events s.work.store.paths
            (paths_by s.work.store.paths (numbers_of f)) s.work.groups) (sym k.finals) counted;
      };
      first = (let l : 0 ≤ 0 = omega arith in l);
      last = (let l : 0 ≤ length s.work.store.paths = omega arith in l);
      kept = record {
        ends = λ i e x ei ex. absurd (no_end i e ei);
        rise = subst (λ w. NumbersRise (paths_kept w)) (sym k.waiting) tt;
        low = λ i e ei. absurd (no_end i e ei);
        all = λ n x c d low ex st. absurd (let l : n < 0 = low in omega (arith, l));
      };
    }

-- ---- planting the next

number_above : (low : ℕ) (ns : List ℕ) (i t : ℕ) → RiseAbove low ns → slice_get ns i ≡ Some t → low < t
number_above low [] i t r e = cc
number_above low (n ∷ ns) zero t r e = (let one : n ≡ t = cc in let l : low < n = r.0 in omega (arith, one, l))
number_above low (n ∷ ns) (suc i) t r e = (let a : n < t = number_above n ns i t r.1 e in let b : low < n = r.0 in
    omega (arith, a, b))

new_above : (low : ℕ) (ns : List ℕ) (i t : ℕ) → RiseAbove low ns → slice_get ns i ≡ Some t
    → has_number (take i ns) t ≡ false
new_above low [] i t r e = cc
new_above low (n ∷ ns) zero t r e = refl
new_above low (n ∷ ns) (suc i) t r e = go (nat_eq n t) refl (new_above n ns i t r.1 e)
  where
    go : (o : Bool) → nat_eq n t ≡ o → has_number (take i ns) t ≡ false → o || has_number (take i ns) t ≡ false
    go true w ih = absurd (let one : n ≡ t = eqb-true n t w in let l : n < t = number_above n ns i t r.1 e in
        omega (arith, one, l))
    go false w ih = ih

-- a thread of a group isn't among those before it
pub new_thread : (ns : List ℕ) (i t : ℕ) → NumbersRise ns → slice_get ns i ≡ Some t → has_number (take i ns) t ≡ false
new_thread [] i t r e = cc
new_thread (n ∷ ns) zero t r e = refl
new_thread (n ∷ ns) (suc i) t r e = go (nat_eq n t) refl (new_above n ns i t r e)
  where
    go : (o : Bool) → nat_eq n t ≡ o → has_number (take i ns) t ≡ false → o || has_number (take i ns) t ≡ false
    go true w ih = absurd (let one : n ≡ t = eqb-true n t w in let l : n < t = number_above n ns i t r e in
        omega (arith, one, l))
    go false w ih = ih

pub thread_at : (parked : List Parked) (i : ℕ) (p : Parked) → slice_get parked i ≡ Some p
    → slice_get (threads_of (as_group parked)) i ≡ Some p.thread
thread_at [] i p e = cc
thread_at (q ∷ parked) zero p e = (let one : q ≡ p = cc in ap (λ (k : Parked). Some k.thread) one)
thread_at (q ∷ parked) (suc i) p e = thread_at parked i p e

pub event_at : (parked : List Parked) (i : ℕ) (p : Parked) → slice_get parked i ≡ Some p
    → slice_get (as_group parked) i ≡ Some (as_member p)
event_at [] i p e = cc
event_at (q ∷ parked) zero p e = (let one : q ≡ p = cc in ap (λ (k : Parked). Some (as_member k)) one)
event_at (q ∷ parked) (suc i) p e = event_at parked i p e

planted_number : (parked : List Parked) (i t : ℕ) → Holds (map (λ (p : Parked). planted p.thread) (take i parked))
    (planted t) → has_number (take i (threads_of (as_group parked))) t ≡ true
planted_number [] zero t h = absurd h
planted_number [] (suc i) t h = absurd h
planted_number (p ∷ parked) zero t h = absurd h
planted_number (p ∷ parked) (suc i) t (inl e) = (let one : t ≡ p.thread = cc in
    ap (λ o. o || has_number (take i (threads_of (as_group parked))) t) (eq-eqb p.thread t (sym one)))
planted_number (p ∷ parked) (suc i) t (inr h) = go (nat_eq p.thread t) (planted_number parked i t h)
  where
    go : (o : Bool) → has_number (take i (threads_of (as_group parked))) t ≡ true
        → o || has_number (take i (threads_of (as_group parked))) t ≡ true
    go true ih = refl
    go false ih = ih

-- the next event isn't planted yet
pub next_new : (s : Batched) (i : ℕ) (p : Parked) → IsStarting s i → slice_get s.parked i ≡ Some p
    → has_number s.threads p.thread ≡ false
next_new s i p k e = ap (λ l. has_number l p.thread) k.threads
    ∙ new_thread (threads_of (as_group s.parked)) i p.thread (group_numbers (as_group s.parked) k.rise)
    (thread_at s.parked i p e)

pub next_unplanted : (s : Batched) (i : ℕ) (p : Parked) → IsStarting s i → slice_get s.parked i ≡ Some p
    → ¬ Holds s.work.store.paths (planted p.thread)
next_unplanted s i p k e h = (let yes : has_number (take i (threads_of
    (as_group s.parked))) p.thread ≡ true = planted_number s.parked i p.thread
    (subst (λ l. Holds l (planted p.thread)) k.paths h) in
    let none : has_number (take i (threads_of (as_group s.parked))) p.thread ≡ false = new_thread
    (threads_of (as_group s.parked)) i p.thread (group_numbers (as_group s.parked) k.rise)
    (thread_at s.parked i p e) in cc)

pub planted_so_far : (s : Batched) (i : ℕ) → IsStarting s i → i ≤ length s.parked → length s.work.store.paths ≡ i
planted_so_far s i k low = ap length k.paths ∙ count s.parked i low
  where
    count : (parked : List Parked) (i : ℕ) → i ≤ length parked
        → length (map (λ (p : Parked). planted p.thread) (take i parked)) ≡ i
    count [] zero l = refl
    count [] (suc i) l = absurd (omega (arith, l))
    count (p ∷ parked) zero l = refl
    count (p ∷ parked) (suc i) l = ap suc (count parked i (omega (arith, l)))

-- ---- a search that starts

pub starts_none : (s : Batched) → IsGroup (as_group s.parked) → s.work.store ≡ unplanted (as_group s.parked)
    → IsStore s.work.store.events s.work.store.paths → s.threads ≡ [] → s.work.moves.items ≡ []
    → s.work.pending.items ≡ [] → s.work.waiting ≡ [] → s.work.finals ≡ [] → s.work.groups ≡ 0 → s.batched ≡ 0
    → s.applied ≡ 0 → IsBudget s.budget → IsStarting s 0
starts_none s rise st store th mo pe wa fi gr ba apd bu = record {
  rise = rise;
  events = ap (λ t. t.events) st;
  threads = th ∙ sym (none_taken (threads_of (as_group s.parked)));
  paths = no_paths ∙ ap (map (λ (p : Parked). planted p.thread)) (sym (none_taken s.parked));
  store = subst (λ g. IsStore g s.work.store.paths) (ap (λ t. t.events) st) store;
  told_are = ap (map label_told) mo ∙ ap (map labels_of_move) (sym no_paths);
  pending = pe;
  waiting = wa;
  finals = fi;
  groups = gr;
  batched = ba;
  applied = apd;
  budget = bu;
  within = (let l : length s.work.store.paths ≡ 0 = ap length no_paths in omega (arith, l, gr));
}
  where
    no_paths : s.work.store.paths ≡ []
    no_paths = ap (λ t. t.paths) st

pub starts_more : (s t : Batched) (i : ℕ) (p : Parked) → IsStarting s i → slice_get s.parked i ≡ Some p
    → length s.work.store.paths < s.budget → t.parked ≡ s.parked → t.threads ≡ s.threads ++ (p.thread ∷ [])
    → t.work.store ≡ with_paths s.work.store (planted p.thread ∷ []) → IsStore t.work.store.events t.work.store.paths
    → t.work.moves.items ≡ s.work.moves.items ++ (None ∷ [])
    → t.work.pending.items ≡ s.work.pending.items → t.work.waiting ≡ s.work.waiting
    → t.work.finals ≡ s.work.finals → t.work.groups ≡ s.work.groups → t.batched ≡ s.batched
    → t.applied ≡ s.applied
    → t.budget ≡ s.budget → IsStarting t (i + 1)
starts_more s t i p k e room pa th st store mo pe wa fi gr ba apd bu = record {
  rise = subst (λ l. IsGroup (as_group l)) (sym pa) k.rise;
  events = events;
  threads = th ∙ ap (λ l. l ++ (p.thread ∷ [])) k.threads ∙ sym
      (take_one (threads_of (as_group s.parked)) i p.thread (thread_at s.parked i p e))
      ∙ ap (λ l. take (i + 1) (threads_of (as_group l))) (sym pa);
  paths = paths ∙ ap (λ l. l ++ (planted p.thread ∷ [])) k.paths
      ∙ sym (map_both (λ (p : Parked). planted p.thread) (take i s.parked) (p ∷ []))
      ∙ ap (map (λ (p : Parked). planted p.thread)) (sym (take_one s.parked i p e))
      ∙ ap (λ l. map (λ (p : Parked). planted p.thread) (take (i + 1) l)) (sym pa);
  store = subst (λ g. IsStore g t.work.store.paths) events store;
  told_are = ap (map label_told) mo ∙ map_both label_told s.work.moves.items (None ∷ []) ∙ ap (λ l. l ++ ([] ∷ [])) k.told_are
      ∙ sym (map_both labels_of_move s.work.store.paths (planted p.thread ∷ [])) ∙ ap (map labels_of_move) (sym paths);
  pending = pe ∙ k.pending;
  waiting = wa ∙ k.waiting;
  finals = fi ∙ k.finals;
  groups = gr ∙ k.groups;
  batched = ba ∙ k.batched;
  applied = apd ∙ k.applied;
  budget = subst IsBudget (sym bu) k.budget;
  within = (let l : length t.work.store.paths ≡ length s.work.store.paths + 1 = ap length paths
      ∙ length-append s.work.store.paths (planted p.thread ∷ []) in let n : t.work.groups ≡ 0 = gr ∙ k.groups in
      omega (arith, l, n, bu, room));
}
  where
    paths : t.work.store.paths ≡ s.work.store.paths ++ (planted p.thread ∷ [])
    paths = ap (λ q. q.paths) st

    events : t.work.store.events ≡ as_group t.parked
    events = ap (λ q. q.events) st ∙ k.events ∙ ap as_group (sym pa)

-- ---- nothing is left of the budget for the next

pub start_spent : (s : Batched) (i : ℕ) → IsStarting s i → i < length s.parked
    → length s.work.store.paths + s.work.groups ≡ s.budget → IsUsedUp s.parked s.budget
    (length s.work.store.paths) s.work.groups
start_spent s i k low sum = batched_used_up s.parked s.work s.budget k.rise k.events (record {
  same = refl;
  store = subst (λ g. IsStore g s.work.store.paths) (sym k.events) k.store;
  finals = [];
  counted = record { tried = []; count_is = sym k.groups; are = record { partial = tt; once = tt }; starts = tt };
  sum = inl sum;
  passed = record {
    made = s.work.store.paths ++ (planted p.0.thread ∷ []);
    store = subst (λ g. IsStore g (s.work.store.paths ++ (planted p.0.thread ∷ []))) (sym k.events)
        (plant_grows (as_group s.parked) s.work.store.paths p.0.thread (as_member p.0) k.store
        (parked_found s.parked i p.0 k.rise p.1) (next_unplanted s i p.0 k p.1));
    tried = [];
    are = record { partial = tt; once = tt };
    beyond = (let l : length (s.work.store.paths ++
        (planted p.0.thread ∷ [])) ≡ length s.work.store.paths + 1 = length-append s.work.store.paths
        (planted p.0.thread ∷ []) in omega (arith, sum, k.groups, l));
  };
})
  where
    p : (p : Parked) × (slice_get s.parked i ≡ Some p)
    p = get_some s.parked i low

-- ---- every event is planted

pub is_start : (s : Batched) (parked : List Parked) (budget : ℕ) → s.parked ≡ parked → s.budget ≡ budget
    → IsStarting s (length parked) → IsStart parked budget (batches_of (Some s))
is_start s parked budget pa bu k = record {
  parked_are = pa;
  budget_is = bu;
  events = k.events ∙ ap as_group pa;
  paths = k.paths ∙ ap (λ l. map (λ (p : Parked). planted p.thread) (take (length parked) l)) pa
      ∙ ap (map (λ (p : Parked). planted p.thread)) (take_all parked);
  kept = k.waiting;
  batched = k.batched;
  applied = k.applied;
  goes_on = refl;
}
