-- The tickets under which callers are parked or given an outcome are fewer than the entries.
use Rattle.std.proofs.Common.{◌≡◌, ◌⊎◌, inl, inr, ℕ, zero, suc, ◌<◌, List, [], ◌∷◌, ◌++◌, length, replicate, Some, refl, sym, ap, subst, arith}
use Rattle.std.specs.List.{slice_get, slice_set, AllByRecursion}
use Rattle.te_terms.specs.declared.event.Outcome.{Outcome}
use Rattle.te_terms.specs.Steps as steps
use Rattle.te_cert.specs.declared.cert.Member.{Member}
use Rattle.te_history.specs.declared.entry.Entry.{Entry}
use Rattle.te_history.specs.declared.entry.Entry.TheVariants as entries
use Rattle.te_history.specs.State.{Standing, idle, parked, given, ended, State, state, changed, with_standing, with_given, posts_by}
use Rattle.te_history.specs.Follows.{Stands, AreEvents, LooselyFollows, IsLoose}
use Rattle.te_history.proofs.AfterEntry.{state-after, posts_by_at_most}
use Rattle.te_history.proofs.Growing.{grows}

abbrev pub Low : ℕ → Standing → Type 0
Low n idle = Unit {0}
Low n (parked ticket event) = ticket < n
Low n (given ticket outcome) = ticket < n
Low n ended = Unit {0}

abbrev pub AreLow : ℕ → State → Type 0
AreLow n s = (t : ℕ) (x : Standing) → Stands s t x → Low n x

low_more : (n : ℕ) (x : Standing) → Low n x → Low (suc n) x
low_more n idle low = tt
low_more n (parked ticket event) low = omega (arith, low)
low_more n (given ticket outcome) low = omega (arith, low)
low_more n ended low = tt

get_set : (xs : List Standing) (by t : ℕ) (new x : Standing) → slice_get (slice_set xs by new) t ≡ Some x → (x ≡ new) ⊎ (slice_get xs t ≡ Some x)
get_set [] by t new x is = inr is
get_set (y ∷ ys) zero zero new x is = let same : new ≡ x = cc in inl (sym same)
get_set (y ∷ ys) zero (suc t) new x is = inr is
get_set (y ∷ ys) (suc by) zero new x is = inr is
get_set (y ∷ ys) (suc by) (suc t) new x is = get_set ys by t new x is

put_low : (n : ℕ) (s : State) (by : ℕ) (new : Standing) → Low n new → AreLow n s → AreLow n (with_standing by new s)
put_low n s by new low all = λ t x stands. at t x (get_set s.callers by t new x stands)
  where
    at : (t : ℕ) (x : Standing) → (x ≡ new) ⊎ (slice_get s.callers t ≡ Some x) → Low n x
    at t x (inl same) = subst (Low n) (sym same) low
    at t x (inr was) = all t x was

given_low : (n : ℕ) (ms : List Member) (os : List Outcome) (s : State) → AllByRecursion (λ m. m.ticket < n) ms → AreLow n s → AreLow n (with_given ms os s)
given_low n [] os s low all = all
given_low n (m ∷ ms) [] s low all = all
given_low n (m ∷ ms) (o ∷ os) s low all = given_low n ms os (with_standing m.thread (given m.ticket o) s) low.1 (put_low n s m.thread (given m.ticket o) low.0 all)

pub members_low : (n : ℕ) (s : State) (ms : List Member) (gs : List steps.Member) → AreLow n s → AreEvents s ms gs → AllByRecursion (λ m. m.ticket < n) ms
members_low n s [] [] all events = tt
members_low n s [] (g ∷ gs) all events = absurd events
members_low n s (m ∷ ms) [] all events = absurd events
members_low n s (m ∷ ms) (g ∷ gs) all events = (all m.thread (parked m.ticket g.term) events.1, members_low n s ms gs all events.2)

more_low : (n : ℕ) (s : State) → AreLow n s → AreLow (suc n) s
more_low n s all = λ t x stands. low_more n x (all t x stands)

low_next : (callers : ℕ) (h : List Entry) (e : Entry) → LooselyFollows callers h e → AreLow (length h) (state callers h) → AreLow (suc (length h)) (changed (state callers h) e)
low_next callers h (entries.Post by ticket event) follows all =
    let fewer = posts_by_at_most by h in
    let is : ticket ≡ posts_by by h = follows.2 in
    put_low (suc (length h)) (state callers h) by (parked ticket event) (omega (arith, fewer, is)) (more_low (length h) (state callers h) all)
low_next callers h (entries.Commit by cert outcomes) follows all =
    more_low (length h) (changed (state callers h) (entries.Commit by cert outcomes))
    (given_low (length h) cert.members outcomes (state callers h) (members_low (length h) (state callers h) cert.members follows.2.group all follows.2.events) all)
low_next callers h (entries.Withdraw by ticket) follows all = put_low (suc (length h)) (state callers h) by idle tt (more_low (length h) (state callers h) all)
low_next callers h (entries.Take by ticket outcome) follows all = put_low (suc (length h)) (state callers h) by idle tt (more_low (length h) (state callers h) all)
low_next callers h (entries.Rest by) follows all = more_low (length h) (state callers h) all
low_next callers h (entries.Stuck by) follows all = more_low (length h) (state callers h) all
low_next callers h (entries.End by how) follows all = put_low (suc (length h)) (state callers h) by ended tt (more_low (length h) (state callers h) all)

all_idle : (n t : ℕ) (x : Standing) → slice_get (replicate n idle) t ≡ Some x → Low 0 x
all_idle zero t x is = absurd cc
all_idle (suc n) zero x is = let same : idle ≡ x = cc in subst (Low 0) same tt
all_idle (suc n) (suc t) x is = all_idle n t x is

one_more : (h : List Entry) (e : Entry) → suc (length h) ≡ length (h ++ e ∷ [])
one_more [] e = refl
one_more (x ∷ xs) e = ap suc (one_more xs e)

pub tickets_low : (callers : ℕ) (history : List Entry) → IsLoose callers history → (t : ℕ) (x : Standing) → Stands (state callers history) t x → Low (length history) x
tickets_low callers history loose =
    grows callers (λ (h : List Entry). AreLow (length h) (state callers h))
    (λ h e follows all. subst (λ (n : ℕ). AreLow n (state callers (h ++ e ∷ []))) (one_more h e)
    (subst (AreLow (suc (length h))) (sym (state-after callers h e)) (low_next callers h e follows all)))
    [] history loose (λ t x stands. all_idle callers t x stands)
