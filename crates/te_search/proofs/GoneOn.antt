-- What a path of a batch leaves that goes on.
use Rattle.std.proofs.Common.{◌≡◌, ◌≤◌, ◌<◌, ℕ, zero, suc, ◌+◌, ◌-◌, List, [], ◌∷◌, ◌++◌, length, Bool, true}
use Rattle.std.proofs.Common.{false, cond, ltb, Some}
use Rattle.std.proofs.Common.{inl, inr, Vec, Global, Result, Ok, Err, OnOk, slice_get, refl, ap, ap₂, sym, ◌∙◌, subst, arith}
use Rattle.std.proofs.Common.{append_assoc, length-append}
use Rattle.std.proofs.lemmas.Bool.{lt-ltb, ltb-true, ltb-false}
use Rattle.std.specs.Option.{option_map}
use Rattle.te_terms.specs.Steps.{Member, at_term, with_head}
use Rattle.te_terms.specs.Joint.{after_choice, chosen_from}
use Rattle.te_path.specs.Paths.{IsChoice}
use Rattle.te_trail.specs.Paths.{Path, branched}
use Rattle.te_trail.specs.States.{HasState}
use Rattle.te_trail.specs.Stores.{Holds}
use Rattle.te_trail.specs.Trails.{IsAtChoice, IsUnmade}
use Rattle.te_pair.specs.declared.end.End.{End}
use Rattle.te_pair.specs.Ends.{paths_kept}
use Rattle.te_search.specs.declared.work.Work.{Work}
use Rattle.te_search.specs.Finals.{numbers_of}
use Rattle.te_search.specs.Searching.{paths_by, IsSearch}
use Rattle.te_trail.specs.Records.{path_at}
use Rattle.te_search.specs.Works.{AreLow, IsWork, IsWorkOn, Gains, WaitsOn}
use Rattle.te_search.specs.Picks.{RiseAbove, NumbersRise}
use Rattle.te_search.specs.Batches.{numbers_from}
use Rattle.te_search.specs.Batching.{ends_below, IsLeftFrom, HasGoneOn, EndsAreKept, BatchIsOpen}
use Rattle.te_search.proofs.ListLaws.{holds_left, holds_right, holds_which, holds_one, once_both}
use Rattle.te_trail.proofs.StoresHold.{held}
use Rattle.te_terms.proofs.Lists.{get_low}
use Rattle.te_terms.proofs.Lists.{get_some}
use Rattle.te_search.proofs.Working.{map_both, by_more, at_end, branch_done, branch_unmade, branch_left}
use Rattle.te_terms.proofs.Lists.{get-longer}
use Rattle.te_search.proofs.Waiting.{waits_choose}

-- ---- numbers from n on

pub numbers_add : (n a b : ℕ) → numbers_from n (a + b) ≡ numbers_from n a ++ numbers_from (n + a) b
numbers_add n zero b = ap₂ numbers_from (let e : n ≡ n + 0 = omega arith in e) (let e : 0 + b ≡ b = omega arith in e)
numbers_add n (suc a) b = ap (numbers_from n) (let e : suc a + b ≡ suc (a + b) = omega arith in e)
    ∙ ap (λ r. n ∷ r) (numbers_add (suc n) a b ∙ ap (λ m. numbers_from (suc n) a ++ numbers_from m b)
    (let e : suc n + a ≡ n + suc a = omega arith in e))

pub numbers_low : (paths : List Path) (n count : ℕ) → n + count ≤ length paths → AreLow paths (numbers_from n count)
numbers_low paths n zero h i m e = cc
numbers_low paths n (suc count) h zero m e = (let one : n ≡ m = cc in omega (arith, one, h))
numbers_low paths n (suc count) h (suc i) m e = numbers_low paths (suc n) count (omega (arith, h)) i m e

pub last_numbers : (paths more : List Path) → paths_by (paths ++ more)
    (numbers_from (length paths) (length more)) ≡ more
last_numbers paths [] = refl
last_numbers paths (x ∷ more) = ap₂ (λ a b. a ∷ b) (at_end paths x more)
    (ap₂ (λ l n. paths_by l (numbers_from n (length more))) (sym (append_assoc paths (x ∷ []) more)) one
    ∙ last_numbers (paths ++ (x ∷ [])) more)
  where
    one : suc (length paths) ≡ length (paths ++ (x ∷ []))
    one = let l : length (paths ++ (x ∷ [])) ≡ length paths + 1 = length-append paths (x ∷ []) in omega (arith, l)

-- with more paths, the rest from n on is the old rest and these
pub rest_more : (paths more : List Path) (n : ℕ) → n ≤ length paths
    → paths_by (paths ++ more) (numbers_from n (length (paths ++ more) - n)) ≡ paths_by paths
    (numbers_from n (length paths - n)) ++ more
rest_more paths more n h = ap (λ k. paths_by (paths ++ more) (numbers_from n k)) count
    ∙ ap (paths_by (paths ++ more)) (numbers_add n (length paths - n) (length more))
    ∙ map_both (path_at (paths ++ more)) (numbers_from n (length paths - n))
    (numbers_from (n + (length paths - n)) (length more))
    ∙ ap₂ (λ a b. a ++ b) (by_more paths more (numbers_from n (length paths - n))
    (numbers_low paths n (length paths - n) (omega (arith, h))))
    (ap (λ m. paths_by (paths ++ more) (numbers_from m (length more)))
    (let e : n + (length paths - n) ≡ length paths = omega (arith, h) in e) ∙ last_numbers paths more)
  where
    count : length (paths ++ more) - n ≡ (length paths - n) + length more
    count = let l : length (paths ++ more) ≡ length paths + length more = length-append paths more in
        omega (arith, l, h)

-- ---- the work as a search sees it

pub low_self : (n : ℕ) → n ≤ n
low_self n = omega arith

pub count_numbers : (n count : ℕ) → length (numbers_from n count) ≡ count
count_numbers n zero = refl
count_numbers n (suc count) = ap suc (count_numbers (suc n) count)

pub few_numbers : (n count : ℕ) → count ≤ 1000000 → length (numbers_from n count) < 9223372036854775808
few_numbers n count h = let e : length (numbers_from n count) ≡ count = count_numbers n count in omega (arith, e, h)

abbrev pub AreFew : Work → Type 0
AreFew w = length w.store.paths ≤ 1000000

-- the paths from n on, in a list as a search keeps it
abbrev rest_list : (w : Work) → ℕ → AreFew w → Vec ℕ Global
rest_list w n few = record w.pending {
  items = numbers_from n (length w.store.paths - n);
  len = length (numbers_from n (length w.store.paths - n));
  cap = length (numbers_from n (length w.store.paths - n));
  ok = (refl, low_self (length (numbers_from n (length w.store.paths - n))));
  small = few_numbers n (length w.store.paths - n) (omega (arith, few));
}

abbrev pub seen_from : (w : Work) → ℕ → List End → AreFew w → Work
seen_from w n waits few = record w { pending = rest_list w n few; waiting = waits }

pub gains_seen : (old new : Work) (n : ℕ) (waits : List End) (news : List Path) (fo : AreFew old) (fn : AreFew new)
    → n ≤ length old.store.paths → Gains old new news
    → Gains (seen_from old n waits fo) (seen_from new n waits fn) news
gains_seen old new n waits news fo fn h g = record {
  paths = g.paths;
  events = g.events;
  store = g.store;
  pending = ap (λ l. paths_by l (numbers_from n (length l - n))) g.paths ∙ rest_more old.store.paths news n h;
  pending_low = numbers_low new.store.paths n (length new.store.paths - n)
      (let l : length new.store.paths ≡ length old.store.paths + length news = ap length g.paths
      ∙ length-append old.store.paths news in omega (arith, l, h));
  moves = g.moves;
  waiting = refl;
  finals = g.finals;
  groups = g.groups;
}

to_last : (x : Path) (rest : List Path) (p : Path) → Holds (x ∷ rest) p → Holds (rest ++ (x ∷ [])) p
to_last x rest p (inl e) = holds_right rest (x ∷ []) p (inl e)
to_last x rest p (inr h) = holds_left rest (x ∷ []) p h

from_last : (x : Path) (rest : List Path) (p : Path) → Holds (rest ++ (x ∷ [])) p → Holds (x ∷ rest) p
from_last x rest p h = elim (holds_which rest (x ∷ []) p h) [ inl a ↦ inr a | inr b ↦ inl (holds_one p x b) ]

-- the order in which paths are still to be worked on says nothing
first_last : (g : List Member) (paths : List Path) (x : Path) (rest waits finals : List Path)
    → IsSearch g paths (x ∷ rest) waits finals → IsSearch g paths (rest ++ (x ∷ [])) waits finals
first_last g paths x rest waits finals w = record {
  store = w.store;
  ups = w.ups;
  choices = λ p l m u h shut s c. w.choices p l m u h (λ k. shut (to_last x rest p k)) s c;
  waiting = λ p h shut m. w.waiting p h (λ k. shut (to_last x rest p k)) m;
  meetings = w.meetings;
  final = λ p h shut f. w.final p h (λ k. shut (to_last x rest p k)) f;
  failed = w.failed;
  branched_from = λ p l h k. w.branched_from p l h (from_last x rest p k);
  met_from = w.met_from;
  pending_made = λ p k. w.pending_made p (from_last x rest p k);
  waits_made = w.waits_made;
  finals_made = w.finals_made;
  finals_final = w.finals_final;
  pending_apart = λ p k. w.pending_apart p (from_last x rest p k);
  pending_once = once_both rest (x ∷ []) w.pending_once.1 ((λ n. n), tt)
      (λ y h k. w.pending_once.0 (subst (Holds rest) (holds_one y x k) h));
  waits_once = w.waits_once;
  finals_once = w.finals_once;
}

-- the lowest of the rest is taken in hand
pub in_hand : (w : Work) (p : ℕ) (waits : List End) (few : AreFew w) → p < length w.store.paths → IsLeftFrom w p waits
    → IsWorkOn (seen_from w (p + 1) waits few) p
in_hand w p waits few low k = record {
  search = first_last w.store.events w.store.paths (path_at w.store.paths p)
      (paths_by w.store.paths (numbers_from (p + 1) (length w.store.paths - (p + 1))))
      (paths_by w.store.paths (paths_kept waits))
      (paths_by w.store.paths (numbers_of w.finals))
      (subst (λ l. IsSearch w.store.events w.store.paths l (paths_by w.store.paths (paths_kept waits))
      (paths_by w.store.paths (numbers_of w.finals))) one k.search);
  pending_low = numbers_low w.store.paths (p + 1) (length w.store.paths - (p + 1)) (omega (arith, low));
  waits_low = k.waits_low;
  finals_low = k.finals_low;
  finals_told = k.finals_told;
  ends = k.ends;
  told_are = k.told_are;
  counted = k.counted;
}
  where
    one : paths_by w.store.paths (numbers_from p
        (length w.store.paths - p)) ≡ path_at w.store.paths p ∷ paths_by w.store.paths
        (numbers_from (p + 1) (length w.store.paths - (p + 1)))
    one = ap (λ c. paths_by w.store.paths (numbers_from p c))
        (let e : length w.store.paths - p ≡ suc (length w.store.paths - (p + 1)) = omega (arith, low) in e)
        ∙ ap (λ m. path_at w.store.paths p ∷ paths_by w.store.paths (numbers_from m (length w.store.paths - (p + 1))))
        (let e : suc p ≡ p + 1 = omega arith in e)

pub left_so : (w : Work) (n : ℕ) (waits : List End) (few : AreFew w) → AreLow w.store.paths w.pending.items
    → IsWork (seen_from w n waits few) → IsLeftFrom w n waits
left_so w n waits few low k = record {
  search = k.search;
  pending_low = low;
  waits_low = k.waits_low;
  finals_low = k.finals_low;
  finals_told = k.finals_told;
  ends = k.ends;
  told_are = k.told_are;
  counted = k.counted;
}

-- ---- the ends below a path

none_below : (low : ℕ) (es : List End) (n : ℕ) → RiseAbove low (paths_kept es) → n ≤ low + 1 → ends_below n es ≡ []
none_below low [] n r h = refl
none_below low (e ∷ es) n r h = go (ltb e.path n) refl (λ k. none_below e.path es n r.1 k)
  where
    go : (o : Bool) → ltb e.path n ≡ o → (n ≤ e.path + 1 → ends_below n es ≡ [])
        → cond o (e ∷ ends_below n es) (ends_below n es) ≡ []
    go true w ih = absurd (let k : e.path < n = ltb-true e.path n w in let l : low < e.path = r.0 in
        omega (arith, k, l, h))
    go false w ih = ih (let l : low < e.path = r.0 in omega (arith, l, h))

later_above : (low : ℕ) (es : List End) (i : ℕ) (e : End) → RiseAbove low (paths_kept es) → slice_get es i ≡ Some e
    → low < e.path
later_above low [] i e r h = cc
later_above low (d ∷ es) zero e r h = (let one : d ≡ e = cc in subst (λ q. low < q.path) one r.0)
later_above low (d ∷ es) (suc i) e r h = (let a : d.path < e.path = later_above d.path es i e r.1 h in
    let b : low < d.path = r.0 in omega (arith, a, b))

rise_rest : (low : ℕ) (ns : List ℕ) → RiseAbove low ns → NumbersRise ns
rise_rest low [] r = tt
rise_rest low (n ∷ ns) r = r.1

-- a kept end comes next
pub below_next : (es : List End) (i : ℕ) (e : End) → NumbersRise (paths_kept es) → slice_get es i ≡ Some e
    → ends_below (e.path + 1) es ≡ ends_below e.path es ++ (e ∷ [])
below_next [] i e r h = cc
below_next (d ∷ es) zero e r h = subst (λ q. ends_below (q.path + 1) (d ∷ es) ≡ ends_below q.path (d ∷ es) ++ (q ∷ []))
    (let one : d ≡ e = cc in one)
    (ap (λ o. cond o (d ∷ ends_below (d.path + 1) es) (ends_below (d.path + 1) es))
    (lt-ltb d.path (d.path + 1) (omega arith)) ∙ ap (λ l. d ∷ l) (none_below d.path es (d.path + 1) r (omega arith))
    ∙ ap (λ l. l ++ (d ∷ [])) (sym (not_self (ltb d.path d.path) refl)))
  where
    not_self : (o : Bool) → ltb d.path d.path ≡ o → cond o (d ∷ ends_below d.path es) (ends_below d.path es) ≡ []
    not_self true w = absurd (let k : d.path < d.path = ltb-true d.path d.path w in omega (arith, k))
    not_self false w = none_below d.path es d.path r (omega arith)
below_next (d ∷ es) (suc i) e r h = ap (λ o. cond o (d ∷ ends_below (e.path + 1) es) (ends_below (e.path + 1) es))
    (lt-ltb d.path (e.path + 1) (omega (arith, up)))
    ∙ ap (λ l. d ∷ l) (below_next es i e (rise_rest d.path (paths_kept es) r) h)
    ∙ ap (λ o. cond o (d ∷ ends_below e.path es) (ends_below e.path es) ++ (e ∷ [])) (sym (lt-ltb d.path e.path up))
  where
    up : d.path < e.path
    up = later_above d.path es i e r h

-- no kept end comes next
pub below_same : (es : List End) (n : ℕ) → ((i : ℕ) (e : End) → slice_get es i ≡ Some e → e.path ≡ n → ⊥)
    → ends_below (n + 1) es ≡ ends_below n es
below_same [] n h = refl
below_same (e ∷ es) n h = go (ltb e.path n) refl (below_same es n (λ i d k. h (suc i) d k))
  where
    go : (o : Bool) → ltb e.path n ≡ o → ends_below (n + 1) es ≡ ends_below n es
        → cond (ltb e.path (n + 1)) (e ∷ ends_below (n + 1) es) (ends_below (n + 1) es) ≡ cond o (e ∷ ends_below n es)
        (ends_below n es)
    go true w ih = ap (λ o. cond o (e ∷ ends_below (n + 1) es) (ends_below (n + 1) es))
        (lt-ltb e.path (n + 1) (let k : e.path < n = ltb-true e.path n w in omega (arith, k))) ∙ ap (λ l. e ∷ l) ih
    go false w ih = off (ltb e.path (n + 1)) refl
      where
        off : (o : Bool) → ltb e.path (n + 1) ≡ o → cond o (e ∷ ends_below (n + 1) es)
            (ends_below (n + 1) es) ≡ ends_below n es
        off true v = absurd (h 0 e refl (let a : e.path < n + 1 = ltb-true e.path (n + 1) v in
            let b : n ≤ e.path = ltb-false e.path n w in omega (arith, a, b)))
        off false v = ih

-- ends that are kept later
pub below_more : (es more : List End) (n : ℕ) → ((i : ℕ) (e : End) → slice_get more i ≡ Some e → n ≤ e.path)
    → ends_below n (es ++ more) ≡ ends_below n es
below_more [] [] n h = refl
below_more [] (e ∷ more) n h = go (ltb e.path n) refl (below_more [] more n (λ i d k. h (suc i) d k))
  where
    go : (o : Bool) → ltb e.path n ≡ o → ends_below n more ≡ []
        → cond o (e ∷ ends_below n more) (ends_below n more) ≡ []
    go true w ih = absurd (let a : e.path < n = ltb-true e.path n w in let b : n ≤ e.path = h 0 e refl in
        omega (arith, a, b))
    go false w ih = ih
below_more (e ∷ es) more n h = ap (λ l. cond (ltb e.path n) (e ∷ l) l) (below_more es more n h)

-- ---- what is kept stays so

pub kept_stays : (old new : Work) (batched : ℕ) (news : List Path) → EndsAreKept old batched
    → batched ≤ length old.store.paths → new.store.paths ≡ old.store.paths ++ news
    → new.store.events ≡ old.store.events → new.waiting ≡ old.waiting → EndsAreKept new batched
kept_stays old new batched news k last paths events waiting = record {
  ends = λ i e x ei ex. subst (λ g. WaitsOn g x e.channel e.sends) (sym events) (k.ends i e x (old_end i e ei)
      (before e.path x (let l : e.path < batched = k.low i e (old_end i e ei) in omega (arith, l, last)) ex));
  rise = subst (λ w. NumbersRise (paths_kept w)) (sym waiting) k.rise;
  low = λ i e ei. k.low i e (old_end i e ei);
  all = λ n x channel sends low ex s. (let r : (i : ℕ) × (slice_get old.waiting i ≡ Some
      (record { path = n; channel = channel; sends = sends })) = k.all n x channel sends low
      (before n x (omega (arith, low, last)) ex) (subst (λ g. WaitsOn g x channel sends) events s) in
      (r.0, ap (λ w. slice_get w r.0) waiting ∙ r.1));
}
  where
    old_end : (i : ℕ) (e : End) → slice_get new.waiting i ≡ Some e → slice_get old.waiting i ≡ Some e
    old_end i e ei = ap (λ w. slice_get w i) (sym waiting) ∙ ei

    before : (n : ℕ) (x : Path) → n < length old.store.paths → slice_get new.store.paths n ≡ Some x
        → slice_get old.store.paths n ≡ Some x
    before n x low ex =
        let y : (y : Path) × (slice_get old.store.paths n ≡ Some y) = get_some old.store.paths n low in
        let there : slice_get new.store.paths n ≡ Some y.0 = ap (λ l. slice_get l n) paths
        ∙ get-longer old.store.paths news n y.0 y.1 in
        y.1 ∙ sym there ∙ ex

pub open_next : (old new : Work) (n batched : ℕ) (news : List Path) → BatchIsOpen old n batched → n < batched
    → new.store.paths ≡ old.store.paths ++ news
    → new.store.events ≡ old.store.events → new.waiting ≡ old.waiting → HasGoneOn new (n + 1)
    → BatchIsOpen new (n + 1) batched
open_next old new n batched news o low paths events waiting gone = record {
  work = gone;
  first = omega (arith, low);
  last = (let l : length new.store.paths ≡ length old.store.paths + length news = ap length paths
      ∙ length-append old.store.paths news in let k : batched ≤ length old.store.paths = o.last in
      omega (arith, l, k));
  kept = kept_stays old new batched news o.kept o.last paths events waiting;
}

-- a path that stands elsewhere isn't kept
not_an_end : (w : Work) (n batched : ℕ) (x : Path) → EndsAreKept w batched → slice_get w.store.paths n ≡ Some x
    → ((channel : ℕ) (sends : Bool) → ¬ WaitsOn w.store.events x channel sends)
    → ends_below (n + 1) w.waiting ≡ ends_below n w.waiting
not_an_end w n batched x k ex never_stands = below_same w.waiting n
    (λ i e ei en. never_stands e.channel e.sends (k.ends i e x ei (ap (slice_get w.store.paths) en ∙ ex)))

-- and when it has gone on it has with the same ends below it
pub gone_elsewhere : (old new : Work) (n batched : ℕ) (x : Path) → EndsAreKept old batched
    → slice_get old.store.paths n ≡ Some x
    → ((channel : ℕ) (sends : Bool) → ¬ WaitsOn old.store.events x channel sends) → new.waiting ≡ old.waiting
    → IsLeftFrom new (n + 1) (ends_below n old.waiting) → HasGoneOn new (n + 1)
gone_elsewhere old new n batched x k ex stands waiting done = subst (IsLeftFrom new (n + 1))
    (sym (not_an_end old n batched x k ex stands) ∙ ap (ends_below (n + 1)) (sym waiting)) done

pub choice_elsewhere : (w : Work) (n : ℕ) (x : Path) → slice_get w.store.paths n ≡ Some x → HasState w.store.events x
    → IsAtChoice w.store n → (channel : ℕ) (sends : Bool) → ¬ WaitsOn w.store.events x channel sends
choice_elsewhere w n x ex st at channel sends s =
    let choice : IsChoice st.0.term = at x st.0 ex st.1 in
    let left : after_choice true st.0.term ≡ Some (with_head choice.0 st.0.term) = ap
    (λ h. option_map (λ u. with_head u st.0.term) (chosen_from true h)) choice.1.1 in
    waits_choose w.store.events x channel sends s true st.0 (at_term st.0 (with_head choice.0 st.0.term)) st.1
    (ap (option_map (at_term st.0)) left)

-- ---- a choice

pub fork_open : (old mid new : Work) (n batched : ℕ) (x : Path) → BatchIsOpen old n batched → n < batched
    → slice_get old.store.paths n ≡ Some x → IsAtChoice old.store n → AreFew new
    → Gains old mid (branched x true ∷ []) → Gains mid new (branched x false ∷ []) → BatchIsOpen new (n + 1) batched
fork_open old mid new n batched x o low ex at few a b = open_next old new n batched
    (branched x true ∷ (branched x false ∷ [])) o low paths (b.events ∙ a.events) (b.waiting ∙ a.waiting)
    (gone_elsewhere old new n batched x o.kept ex (choice_elsewhere old n x ex st at) (b.waiting ∙ a.waiting)
    (left_so new (n + 1) waits few b.pending_low
    (branch_done (seen_from old (n + 1) waits few_old) (seen_from mid (n + 1) waits few_mid)
    (seen_from new (n + 1) waits few) n x ex (in_hand old n waits few_old
    (get_low old.store.paths x n ex) o.work) at
    (gains_seen old mid (n + 1) waits (branched x true ∷ []) few_old few_mid in_old a)
    (gains_seen mid new (n + 1) waits (branched x false ∷ []) few_mid few in_mid b))))
  where
    waits : List End
    waits = ends_below n old.waiting

    paths : new.store.paths ≡ old.store.paths ++ (branched x true ∷ (branched x false ∷ []))
    paths = b.paths ∙ ap (λ l. l ++ (branched x false ∷ [])) a.paths
        ∙ append_assoc old.store.paths (branched x true ∷ []) (branched x false ∷ [])

    st : HasState old.store.events x
    st = o.work.search.store.state x (held old.store.paths n x ex)

    long_mid : length mid.store.paths ≡ length old.store.paths + 1
    long_mid = ap length a.paths ∙ length-append old.store.paths (branched x true ∷ [])

    few_mid : AreFew mid
    few_mid = (let l : length new.store.paths ≡ length mid.store.paths + 1 = ap length b.paths
        ∙ length-append mid.store.paths (branched x false ∷ []) in omega (arith, l, few))

    few_old : AreFew old
    few_old = omega (arith, long_mid, few_mid)

    in_old : n + 1 ≤ length old.store.paths
    in_old = (let k : n < length old.store.paths = get_low old.store.paths x n ex in omega (arith, k))

    in_mid : n + 1 ≤ length mid.store.paths
    in_mid = omega (arith, long_mid, in_old)

-- neither branch is made yet
pub fork_unmade : (w : Work) (n batched : ℕ) (left : Bool) → BatchIsOpen w n batched → AreFew w → n < length w.store.paths
    → IsUnmade w.store n left
fork_unmade w n batched left o few low = branch_unmade (seen_from w (n + 1) (ends_below n w.waiting) few) n left low
    (in_hand w n (ends_below n w.waiting) few low o.work)

-- nor the right one once the left is
pub fork_right : (old mid : Work) (n batched : ℕ) (x : Path) → BatchIsOpen old n batched → AreFew mid
    → slice_get old.store.paths n ≡ Some x → Gains old mid (branched x true ∷ []) → IsUnmade mid.store n false
fork_right old mid n batched x o few ex a = branch_left (seen_from old (n + 1) (ends_below n old.waiting) few_old)
    (seen_from mid (n + 1) (ends_below n old.waiting) few) n x ex
    (in_hand old n (ends_below n old.waiting) few_old low o.work)
    (gains_seen old mid (n + 1) (ends_below n old.waiting) (branched x true ∷ []) few_old few
    (omega (arith, low)) a)
  where
    few_old : AreFew old
    few_old = (let l : length mid.store.paths ≡ length old.store.paths + 1 = ap length a.paths
        ∙ length-append old.store.paths (branched x true ∷ []) in omega (arith, l, few))

    low : n < length old.store.paths
    low = get_low old.store.paths x n ex

pub on_both : {A E : Type 0} (P Q R : Type 0) (r : Result A E) → (P → Q → R) → OnOk r P → OnOk r Q → OnOk r R
on_both P Q R (Ok a) f h k = f h k
on_both P Q R (Err e) f h k = tt
