-- A list of parked events has at most as many names as its nodes allow.
use Rattle.std.proofs.Common.{◌≡◌, ◌≢◌, ◌⊎◌, ◌≤◌, ◌<◌, inl, inr, ℕ, zero, suc, ◌+◌, ◌*◌, ◌^◌, List, [], ◌∷◌, ◌++◌, map}
use Rattle.std.proofs.Common.{length, replicate, Bool, true, false, cond, Option, Some, None, refl, ap, ap₂, sym, ◌∙◌}
use Rattle.std.proofs.Common.{subst, arith, nat_eq, eqb-true, true≢false, length-append, append-nil}
use Rattle.std.specs.List.{AllByRecursion}
use Rattle.std.specs.Option.{option_map}
use Rattle.std.proofs.lemmas.Nat.{pow-add}
use Rattle.te_terms.specs.declared.event.Outcome.{Outcome}
use Rattle.te_terms.specs.Terms.{Term}
use Rattle.te_terms.specs.Measures.{choice_count, send_count, receive_count}
use Rattle.te_terms.specs.Steps.{Member, outcome_of}
use Rattle.te_terms.specs.Joint.{Label, IsGroup, RiseFrom, member_of}
use Rattle.te_terms.specs.Settling.{settled}
use Rattle.te_trail.specs.Paths.{Path, planted, branched, sent, got, thread_of, own_labels}
use Rattle.te_trail.specs.States.{chosen, MovedEnds, members_met, path_state, HasState}
use Rattle.te_trail.specs.Views.{Chain, view_of, Name, path_name_of, IsPathName, IsGroupName}
use Rattle.te_terms.proofs.Lists.{eq_same, all_with, all_both}
use Rattle.te_trail.proofs.MembersMove.{found_thread}
use Rattle.te_trail.proofs.MovesChain.{state_after}
use Rattle.te_trail.proofs.PastsChain.{then_some, parts_of}
use Rattle.te_search.specs.Bounds.{NoNameTwice, over_all, views_most, paths_most}
use Rattle.te_search.proofs.EveryChainCovered.{Full, Covers, covers}
use Rattle.te_search.proofs.Trying.{state_member}
use Rattle.te_search.proofs.NodesRunOut.{moves_weigh, moves_fit}
use Rattle.te_search.proofs.DigitsTell.{letters, receives, Target, target_of, targets, Standing, AreAlike, digits_tell}
use Rattle.te_search.proofs.DigitsCounted.{product, Fit, number, number_low, number_tells, fit_both, fit_length}
use Rattle.te_search.proofs.DigitsCounted.{product_both, product_alike, both_same, padded, padded_fits, padded_tells}
use Rattle.te_search.proofs.DigitsCounted.{AreNumbered, NoneAlike, counted}

-- ---- members

not_below : (a b : ℕ) → a < b → nat_eq a b ≡ false
not_below a b h = go (nat_eq a b) refl
  where
    go : (o : Bool) → nat_eq a b ≡ o → o ≡ false
    go false e = refl
    go true e = absurd (omega (arith, h, eqb-true a b e))

-- the members of a group are found by their threads
found_from : (low : ℕ) (ms : List Member) → RiseFrom low ms → AllByRecursion (λ m. (low < m.thread) × (member_of m.thread ms ≡ Some m)) ms
found_from low [] h = tt
found_from low (m ∷ ms) h = (
  (h.0, ap (λ o. cond o (Some m) (member_of m.thread ms)) (eq_same m.thread)),
  all_with (λ n. (m.thread < n.thread) × (member_of n.thread ms ≡ Some n)) (λ n. (low < n.thread) × (member_of n.thread (m ∷ ms) ≡ Some n)) ms
      (λ n f. (
        (let z : low < n.thread = omega (arith, h.0, f.0) in z),
        ap (λ o. cond o (Some m) (member_of n.thread ms)) (not_below m.thread n.thread f.0) ∙ f.1,
      )) (found_from m.thread ms h.1),
)

pub all_found : (g : List Member) → IsGroup g → AllByRecursion (λ m. member_of m.thread g ≡ Some m) g
all_found [] h = tt
all_found (m ∷ ms) h = (
  ap (λ o. cond o (Some m) (member_of m.thread ms)) (eq_same m.thread),
  all_with (λ n. (m.thread < n.thread) × (member_of n.thread ms ≡ Some n)) (λ n. member_of n.thread (m ∷ ms) ≡ Some n) ms
      (λ n f. ap (λ o. cond o (Some m) (member_of n.thread ms)) (not_below m.thread n.thread f.0) ∙ f.1) (found_from m.thread ms h),
)

pub all_at : (P : Member → Type 0) (g : List Member) → AllByRecursion P g → (t : ℕ) (m : Member) → member_of t g ≡ Some m → P m
all_at P [] a t m e = absurd cc
all_at P (x ∷ g) a t m e = go (all_at P g a.1 t m) (nat_eq x.thread t) e
  where
    go : (member_of t g ≡ Some m → P m) → (o : Bool) → cond o (Some x) (member_of t g) ≡ Some m → P m
    go ih true f = let same : x ≡ m = cc in subst P same a.0
    go ih false f = ih f

-- ---- the digit of a thread

pub place_in : List Member → ℕ → ℕ
place_in [] t = 0
place_in (m ∷ ms) t = cond (nat_eq m.thread t) 0 (suc (place_in ms t))

pub place_low : (g : List Member) (t : ℕ) (m : Member) → member_of t g ≡ Some m → place_in g t < length g
unfolding place_in
place_low [] t m e = absurd cc
place_low (x ∷ g) t m e = go (place_low g t m) (nat_eq x.thread t) e
  where
    go : (member_of t g ≡ Some m → place_in g t < length g) → (o : Bool) → cond o (Some x) (member_of t g) ≡ Some m → cond o 0 (suc (place_in g t)) < suc (length g)
    go ih true f = omega arith
    go ih false f = omega (arith, ih f)

pub place_tells : (g : List Member) (s t : ℕ) (m n : Member) → member_of s g ≡ Some m → member_of t g ≡ Some n → place_in g s ≡ place_in g t → s ≡ t
unfolding place_in
place_tells [] s t m n e f p = absurd cc
place_tells (x ∷ g) s t m n e f p = go (place_tells g s t m n) (nat_eq x.thread s) refl (nat_eq x.thread t) refl e f p
  where
    go : (member_of s g ≡ Some m → member_of t g ≡ Some n → place_in g s ≡ place_in g t → s ≡ t) → (o : Bool)
        → nat_eq x.thread s ≡ o → (v : Bool) → nat_eq x.thread t ≡ v → cond o (Some x) (member_of s g) ≡ Some m
        → cond v (Some x) (member_of t g) ≡ Some n
        → cond o 0 (suc (place_in g s)) ≡ cond v 0 (suc (place_in g t)) → s ≡ t
    go ih true w true u e f p = sym (eqb-true x.thread s w) ∙ eqb-true x.thread t u
    go ih true w false u e f p = absurd (omega (arith, p))
    go ih false w true u e f p = absurd (omega (arith, p))
    go ih false w false u e f p = let q : place_in g s ≡ place_in g t = omega (arith, p) in ih e f q

-- ---- the digit of a target

-- the thread has a receive node more
pub record IsTarget (g : List Member) (x : Target) : Type 0 where
  pub member : Member
  pub is_member : member_of x.thread g ≡ Some member
  pub early : x.before < receive_count member.term

pub target_code : List Member → Target → ℕ
target_code [] x = 0
target_code (m ∷ ms) x = cond (nat_eq m.thread x.thread) x.before (receive_count m.term + target_code ms x)

pub target_low : (g : List Member) (x : Target) (m : Member) → member_of x.thread g ≡ Some m → x.before < receive_count m.term → target_code g x < over_all receive_count g
unfolding target_code
target_low [] x m e h = absurd cc
target_low (y ∷ g) x m e h = go (λ f. target_low g x m f h) (nat_eq y.thread x.thread) e
  where
    go : (member_of x.thread g ≡ Some m → target_code g x < over_all receive_count g) → (o : Bool)
        → cond o (Some y) (member_of x.thread g) ≡ Some m → cond o x.before
        (receive_count y.term + target_code g x) < receive_count y.term + over_all receive_count g
    go ih true f = let same : y ≡ m = cc in let more : x.before < receive_count y.term = subst (λ z. x.before < receive_count z.term) (sym same) h in omega (arith, more)
    go ih false f = omega (arith, ih f)

pub target_tells : (g : List Member) (x y : Target) (m n : Member) → member_of x.thread g ≡ Some m → x.before < receive_count m.term → member_of y.thread g ≡ Some n → y.before < receive_count n.term
    → target_code g x ≡ target_code g y → x ≡ y
unfolding target_code
target_tells [] x y m n e h f k p = absurd cc
target_tells (z ∷ g) x y m n e h f k p = go (λ e f q. target_tells g x y m n e h f k q) (nat_eq z.thread x.thread) refl (nat_eq z.thread y.thread) refl e f p
  where
    go : (member_of x.thread g ≡ Some m → member_of y.thread g ≡ Some n → target_code g x ≡ target_code g y → x ≡ y)
        → (o : Bool) → nat_eq z.thread x.thread ≡ o → (v : Bool) → nat_eq z.thread y.thread ≡ v
        → cond o (Some z) (member_of x.thread g) ≡ Some m → cond v (Some z) (member_of y.thread g) ≡ Some n
        → cond o x.before (receive_count z.term + target_code g x) ≡ cond v y.before (receive_count z.term + target_code g y) → x ≡ y
    go ih true w true u e f p = ap₂ (λ a b. record { thread = a; before = b }) (sym (eqb-true z.thread x.thread w) ∙ eqb-true z.thread y.thread u) p
    go ih true w false u e f p = let same : z ≡ m = cc in let more : x.before < receive_count z.term = subst (λ i. x.before < receive_count i.term) (sym same) h in absurd (omega (arith, more, p))
    go ih false w true u e f p = let same : z ≡ n = cc in let more : y.before < receive_count z.term = subst (λ i. y.before < receive_count i.term) (sym same) k in absurd (omega (arith, more, p))
    go ih false w false u e f p = let q : target_code g x ≡ target_code g y = omega (arith, p) in ih e f q

-- ---- what a path's digits are

pub letters_weigh : (p : Path) → length (letters p) ≡ moves_weigh 1 0 0 p
letters_weigh (planted t) = refl
letters_weigh (branched p l) = length-append (letters p) (l ∷ []) ∙ ap (λ n. n + 1) (letters_weigh p)
letters_weigh (sent s r) = omega (arith, letters_weigh s)
letters_weigh (got s r) = omega (arith, letters_weigh r)

pub targets_weigh : (p : Path) → length (targets p) ≡ moves_weigh 0 1 0 p
targets_weigh (planted t) = refl
targets_weigh (branched p l) = omega (arith, targets_weigh p)
targets_weigh (sent s r) = length-append (targets s) (target_of r ∷ []) ∙ ap (λ n. n + 1) (targets_weigh s)
targets_weigh (got s r) = omega (arith, targets_weigh r)

receives_weigh : (p : Path) → receives p ≡ moves_weigh 0 0 1 p
receives_weigh (planted t) = refl
receives_weigh (branched p l) = omega (arith, receives_weigh p)
receives_weigh (sent s r) = omega (arith, receives_weigh s)
receives_weigh (got s r) = omega (arith, receives_weigh r)

received : (g : List Member) (s r : Path) → ((a : Member) × (b : Member) × (p : MovedEnds) × (path_state g s ≡ Some a)
    × (path_state g r ≡ Some b) × (members_met a b ≡ Some p)) → IsTarget g (target_of r)
received g s r (a, b, p, sa, sb, m) =
    let e : (n : Member) × (member_of (thread_of r) g ≡ Some n) = state_member g r (b, sb) in
    let fit = moves_fit 0 0 1 g (got s r) e.0 (settled p.receiver) e.1 (state_after g s r a b p sa sb m).1 in
    record { member = e.0; is_member = e.1; early = (let z : receives r < receive_count e.0.term = omega (arith, fit, receives_weigh r) in z) }

pub are_targets : (g : List Member) (p : Path) → HasState g p → AllByRecursion (IsTarget g) (targets p)
are_targets g (planted t) h = tt
are_targets g (branched p l) h = let a = then_some (λ m. option_map settled (chosen l m)) (path_state g p) h.0 h.1 in are_targets g p (a.0, a.1)
are_targets g (sent s r) h =
    let x = parts_of g s r (λ p. settled p.sender) h.0 h.1 in
    all_both (IsTarget g) (targets s) (target_of r ∷ []) (are_targets g s (x.0, x.3)) (received g s r x, tt)
are_targets g (got s r) h = let x = parts_of g s r (λ p. settled p.receiver) h.0 h.1 in are_targets g r (x.1, x.4)
