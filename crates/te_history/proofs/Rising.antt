-- Members whose threads rise, by their places.
use Rattle.std.proofs.Common.{◌≡◌, ℕ, zero, suc, ◌+◌, ◌<◌, ◌≤◌, ◌⊎◌, inl, inr, add-one, List, [], ◌∷◌, length, Some, refl, ap, sym, ◌∙◌, subst, arith}
use Rattle.std.specs.List.{slice_get}
use Rattle.std.proofs.lemmas.Bool.{cases_lt}
use Rattle.std.proofs.lemmas.Option.{slice_get_within}
use Rattle.te_cert.specs.declared.cert.Member.{Member}
use Rattle.te_cert.specs.Checks.{RiseAfter, ThreadsRise}
use Rattle.te_history.specs.Refusals.{AreCallers}
use Rattle.te_terms.proofs.Lists.{get_some}

-- the threads of the first so many members rise from each to the next
abbrev pub RisesTo : List Member → ℕ → Type 0
RisesTo ms n = (k j : ℕ) (a b : Member) → j ≡ k + 1 → j < n → slice_get ms k ≡ Some a → slice_get ms j ≡ Some b → a.thread < b.thread

one_item : {A : Type 0} (x y : A) → Some x ≡ Some y → x ≡ y
one_item x y e = cc

pub rises_more : (ms : List Member) (i p : ℕ) (x y : Member) → i ≡ p + 1 → slice_get ms p ≡ Some x → slice_get ms i ≡ Some y → x.thread < y.thread
    → RisesTo ms i → RisesTo ms (i + 1)
rises_more ms i p x y next at_p at_i less before k j a b follows low at_k at_j = by_place (cases_lt j i)
  where
    by_place : (j < i) ⊎ (i ≤ j) → a.thread < b.thread
    by_place (inl lower) = before k j a b follows lower at_k at_j
    by_place (inr here) =
        let here_j : j ≡ i = omega arith in
        let here_k : k ≡ p = omega arith in
        let is_a : x ≡ a = one_item x a (sym at_p ∙ ap (slice_get ms) (sym here_k) ∙ at_k) in
        let is_b : y ≡ b = one_item y b (sym at_i ∙ ap (slice_get ms) (sym here_j) ∙ at_j) in
        subst (λ (m : Member). m.thread < b.thread) is_a (subst (λ (m : Member). x.thread < m.thread) is_b less)

rise_after_by : (x : Member) (ms : List Member) → ((k : ℕ) (a b : Member) → slice_get (x ∷ ms) k ≡ Some a → slice_get ms k ≡ Some b → a.thread < b.thread)
    → RiseAfter x.thread ms
rise_after_by x [] steps = tt
rise_after_by x (y ∷ ys) steps = (steps 0 x y refl refl, rise_after_by y ys (λ k. steps (suc k)))

-- where they rise at each place, they rise
pub rise_by : (ms : List Member) (n : ℕ) → length ms ≤ n → RisesTo ms n → ThreadsRise ms
rise_by [] n all rises = tt
rise_by (x ∷ xs) n all rises =
    rise_after_by x xs (λ k a b at_k at_next.
    let low = slice_get_within xs k b at_next in
    let within : k + 1 < n = omega arith in
    rises k (k + 1) a b refl within at_k (subst (λ (j : ℕ). slice_get (x ∷ xs) j ≡ Some b) (sym (add-one k)) at_next))

rise_next : (x : Member) (ms : List Member) → RiseAfter x.thread ms → (k : ℕ) (a b : Member) → slice_get (x ∷ ms) k ≡ Some a → slice_get ms k ≡ Some b
    → a.thread < b.thread
rise_next x [] rise k a b at_k at_next = absurd cc
rise_next x (y ∷ ys) rise zero a b at_k at_next =
    subst (λ (m : Member). m.thread < b.thread) (one_item x a at_k) (subst (λ (m : Member). x.thread < m.thread) (one_item y b at_next) rise.0)
rise_next x (y ∷ ys) rise (suc k) a b at_k at_next = rise_next y ys rise.1 k a b at_k at_next

-- members that don't rise at some place don't rise
pub rise_not : (ms : List Member) (i p : ℕ) (x y : Member) → i ≡ p + 1 → slice_get ms p ≡ Some x → slice_get ms i ≡ Some y → y.thread ≤ x.thread
    → ¬ ThreadsRise ms
rise_not [] i p x y next at_p at_i falls = λ rise. absurd cc
rise_not (m ∷ ms) i p x y next at_p at_i falls = λ rise.
    let less : x.thread < y.thread = rise_next m ms rise p x y at_p (subst (λ (k : ℕ). slice_get (m ∷ ms) k ≡ Some y) (next ∙ add-one p) at_i) in
    absurd (omega arith)

rise_above : (t : ℕ) (ms : List Member) → RiseAfter t ms → (k : ℕ) (m : Member) → slice_get ms k ≡ Some m → t + k < m.thread
rise_above t [] rise k m is = absurd cc
rise_above t (x ∷ xs) rise zero m is = let low = rise.0 in subst (λ (n : Member). t + 0 < n.thread) (one_item x m is) (omega arith)
rise_above t (x ∷ xs) rise (suc k) m is = let low = rise.0 in let above = rise_above x.thread xs rise.1 k m is in omega arith

-- a member's thread is no lower than its place
pub place_at_most : (ms : List Member) (k : ℕ) (m : Member) → ThreadsRise ms → slice_get ms k ≡ Some m → k ≤ m.thread
place_at_most [] k m rise is = absurd cc
place_at_most (x ∷ xs) zero m rise is = omega arith
place_at_most (x ∷ xs) (suc k) m rise is = let above = rise_above x.thread xs rise k m is in omega arith

-- where the members before a place are callers, there are no more places than callers
pub few_before : (ms : List Member) (i callers : ℕ) → ThreadsRise ms → i < length ms
    → ((k : ℕ) (m : Member) → k < i → slice_get ms k ≡ Some m → m.thread < callers) → i ≤ callers
few_before ms zero callers rise within before = omega arith
few_before ms (suc k) callers rise within before =
    let at = get_some ms k (omega arith) in
    let low = place_at_most ms k at.0 rise at.1 in
    let high = before k at.0 (omega arith) at.1 in
    omega arith

-- there are no more members than callers
pub few_members : (ms : List Member) (callers : ℕ) → ThreadsRise ms → AreCallers callers ms → length ms ≤ callers
few_members [] callers rise all = omega arith
few_members (x ∷ xs) callers rise all =
    let last = get_some (x ∷ xs) (length xs) (omega arith) in
    let low = place_at_most (x ∷ xs) (length xs) last.0 rise last.1 in
    let high = all (length xs) last.0 last.1 in
    omega arith
