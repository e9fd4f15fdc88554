-- A caller's own entries stand in what it has read, and its entries there are its own.
use Rattle.std.proofs.Common.{◌≡◌, ◌==◌, ℕ, zero, suc, Bool, true, false, cond, List, [], ◌∷◌, ◌++◌, length, Some, refl, sym, ap, ◌∙◌, subst, append_assoc, eq-eqb}
use Rattle.std.specs.List.{filter, slice_get}
use Rattle.te_lock.specs.Entries.{entries_by}
use Rattle.te_lock.specs.Lock.{Knowledge}
use Rattle.te_history.specs.declared.entry.Entry.{Entry}
use Rattle.te_history.specs.Follows.{caller_of}
use Rattle.te_history.specs.Givings.{givings}
use Rattle.te_history.specs.declared.entry.Entry.TheVariants.{Take}
use Rattle.te_terms.specs.declared.event.Outcome.{Outcome}
use Rattle.te_history.proofs.GivenOnce.{taken_once}
use Rattle.te_history.proofs.Growing.{legal_is_loose}
use Rattle.te_runtime.specs.Calls.{Called}
use Rattle.te_terms.proofs.Lists.{get-last}

-- ---- lists and what a test leaves of them

-- what is left stands in the list
pub in_whole : {A : Type 0} (test : A → Bool) (xs : List A) (i : ℕ) (x : A) → slice_get (filter test xs) i ≡ Some x → (k : ℕ) × (slice_get xs k ≡ Some x)
in_whole test [] i x at = absurd cc
in_whole {A} test (y ∷ ys) i x at = by_test (test y) i at (in_whole test ys)
  where
    by_test : (b : Bool) (i : ℕ) → slice_get (cond b (y ∷ filter test ys) (filter test ys)) i ≡ Some x
        → ((j : ℕ) (z : A) → slice_get (filter test ys) j ≡ Some z → (k : ℕ) × (slice_get ys k ≡ Some z)) → (k : ℕ) × (slice_get (y ∷ ys) k ≡ Some x)
    by_test true zero at' again = (0, at')
    by_test true (suc j) at' again = let there = again j x at' in (suc there.0, there.1)
    by_test false j at' again = let there = again j x at' in (suc there.0, there.1)

-- what passes the test is left
pub in_filtered : {A : Type 0} (test : A → Bool) (xs : List A) (k : ℕ) (x : A) → slice_get xs k ≡ Some x → test x ≡ true
    → (i : ℕ) × (slice_get (filter test xs) i ≡ Some x)
in_filtered test [] k x at passes = absurd cc
in_filtered test (y ∷ ys) zero x at passes =
    let same : y ≡ x = cc in
    (0, ap (λ (b : Bool). slice_get (cond b (y ∷ filter test ys) (filter test ys)) 0) (ap test same ∙ passes) ∙ at)
in_filtered {A} test (y ∷ ys) (suc k) x at passes = by_test (test y) (in_filtered test ys k x at passes)
  where
    by_test : (b : Bool) → (i : ℕ) × (slice_get (filter test ys) i ≡ Some x) → (i : ℕ) × (slice_get (cond b (y ∷ filter test ys) (filter test ys)) i ≡ Some x)
    by_test true there = (suc there.0, there.1)
    by_test false there = there

-- ---- a call's entries

-- the last entry that was appended stands in what was read
pub last_read : {p q : Knowledge Entry} (xs : List Entry) (e : Entry) → Called p q (xs ++ e ∷ []) → (k : ℕ) × (slice_get q.read k ≡ Some e)
last_read {p} {q} xs e c =
    let own : q.own ≡ (p.own ++ xs) ++ e ∷ [] = c.own ∙ sym (append_assoc p.own xs (e ∷ [])) in
    let at : slice_get q.own (length (p.own ++ xs)) ≡ Some e = ap (λ (l : List Entry). slice_get l (length (p.own ++ xs))) own ∙ get-last (p.own ++ xs) e in
    in_whole (λ x. caller_of x == q.caller) q.read (length (p.own ++ xs)) e (ap (λ (l : List Entry). slice_get l (length (p.own ++ xs))) c.whole ∙ at)

-- an entry of this caller in what was read is its own
pub own_there : {p q : Knowledge Entry} (more : List Entry) (k : ℕ) (e : Entry) → Called p q more → caller_of e ≡ q.caller → slice_get q.read k ≡ Some e
    → (i : ℕ) × (slice_get q.own i ≡ Some e)
own_there {p} {q} more k e c by at =
    let there = in_filtered (λ x. caller_of x == q.caller) q.read k e at (eq-eqb (caller_of e) q.caller by) in
    (there.0, ap (λ (l : List Entry). slice_get l there.0) (sym c.whole) ∙ there.1)

-- an outcome that was taken last was given by exactly one commit of what was read
pub given_by_one : {p q : Knowledge Entry} (xs : List Entry) (ticket : ℕ) (outcome : Outcome) → Called p q (xs ++ Take q.caller ticket outcome ∷ [])
    → givings q.caller ticket q.read ≡ Some outcome ∷ []
given_by_one {p} {q} xs ticket outcome c =
    let there = last_read xs (Take q.caller ticket outcome) c in
    taken_once q.lock.callers q.read q.caller ticket outcome there.0 (legal_is_loose q.lock.callers q.read c.law.legal) there.1
