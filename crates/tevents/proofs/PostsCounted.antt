-- A board has room for every post of a script without repeats: a thread posts at most once for each of its syncs.
use Rattle.std.proofs.Common.{◌≡◌, ◌⊎◌, ◌∙◌, ◌<◌, ◌≤◌, ◌+◌, ◌*◌, ℕ, zero, suc, true, false, List, [], ◌∷◌}
use Rattle.std.proofs.Common.{◌++◌, length, Result, Ok, Err, refl, sym, subst, inl, inr, arith}
use Rattle.std.specs.List.{AllByRecursion}
use Rattle.std.proofs.lemmas.Bool.{cases_lt, ne_eqb}
use Rattle.te_terms.specs.declared.value.Atom.{Atom}
use Rattle.te_terms.specs.declared.value.Trap.{Trap}
use Rattle.te_terms.specs.declared.event.Outcome.{Outcome}
use Rattle.te_terms.specs.declared.event.Outcome.TheVariants.{Gives, Raises}
use Rattle.te_terms.specs.Expressions.{Variable, in_expression, value_of}
use Rattle.te_terms.specs.Terms.{Term}
use Rattle.te_script.specs.Scripts.{Statement, sync, emit, repeat, Thread}
use Rattle.te_script.specs.Wishes.{Step, syncing, emitting, flat_from, flat, Doing, synchronises, ends, has_raised, holding, emits_or, reached_by, reached, syncs, wish_of, wish}
use Rattle.te_history.specs.declared.entry.Entry.{Entry}
use Rattle.te_history.specs.declared.entry.Entry.TheVariants as entries
use Rattle.te_history.specs.State.{posts_by, is_post_by}
use Rattle.te_history.proofs.AfterEntry.{counted, posts_by-after}
use Rattle.tevents.specs.Repeats.{IsNoRepeat}
use Rattle.te_terms.proofs.Lists.{eq_same}

-- ---- a thread that wishes to synchronise has taken fewer outcomes than it has syncs

abbrev pub syncs_in : List Step → ℕ
syncs_in [] = 0
syncs_in (syncing at r t ∷ ss) = suc (syncs_in ss)
syncs_in (emitting at e ∷ ss) = syncs_in ss

reached_within : (by : Variable → Variable) (emitted : List (List Atom)) (ss : List Step) (outs : List Outcome) (at : _)
    (t : Term) → (reached_by by emitted ss outs).does ≡ synchronises at t → length outs < syncs_in ss
reached_within by emitted [] outs at t e = cc
reached_within by emitted (emitting place x ∷ rest) outs at t e = go (value_of (in_expression by x)) (λ more h. reached_within by more rest outs at t h) e
  where
    go : (r : Result (List Atom) Trap) → ((more : List (List Atom)) → (reached_by by more rest outs).does ≡ synchronises at t → length outs < syncs_in rest)
        → (emits_or r emitted (λ more. reached_by by more rest outs)).does ≡ synchronises at t → length outs < syncs_in rest
    go (Ok v) later h = later (emitted ++ v ∷ []) h
    go (Err trap) later h = cc
reached_within by emitted (syncing place r x ∷ rest) [] at t e = omega arith
reached_within by emitted (syncing place r x ∷ rest) (Gives v ∷ outs) at t e = let later = reached_within (holding r v by) emitted rest outs at t e in omega (arith, later)
reached_within by emitted (syncing place r x ∷ rest) (Raises v ∷ outs) at t e = cc

pub wish_within : (text : Thread) (outs : List Outcome) (event : Term) → wish text outs ≡ syncs event → length outs < syncs_in (flat text)
wish_within text outs event e = go (reached text outs).does refl
  where
    go : (d : Doing) → (reached text outs).does ≡ d → length outs < syncs_in (flat text)
    go (synchronises at t) is = reached_within (λ x. x) [] (flat text) outs at t is
    go ends is = let bad : wish_of (reached text outs).emitted ends ≡ syncs event = subst (λ (d : Doing). wish_of (reached text outs).emitted d ≡ syncs event) is e in cc
    go (has_raised v) is = let bad : wish_of (reached text outs).emitted (has_raised v) ≡ syncs event = subst (λ (d : Doing). wish_of (reached text outs).emitted d ≡ syncs event) is e in cc

-- without repeats, each statement is done once
pub syncs_within : (number : ℕ) (ss : List Statement) → AllByRecursion IsNoRepeat ss → syncs_in (flat_from number 0 ss) ≤ length ss
syncs_within number [] h = omega arith
syncs_within number (sync r t ∷ ss) h = let later = syncs_within (suc number) ss h.1 in omega (arith, later)
syncs_within number (emit e ∷ ss) h = let later = syncs_within (suc number) ss h.1 in omega (arith, later)
syncs_within number (repeat times count ∷ ss) h = absurd h.0

-- ---- the posts of all callers

abbrev pub sum_posts : ℕ → List Entry → ℕ
sum_posts zero h = 0
sum_posts (suc n) h = sum_posts n h + posts_by n h

pub sum_other : (n : ℕ) (h : List Entry) (e : Entry) → ((t : ℕ) → t < n → is_post_by t e ≡ false) → sum_posts n (h ++ e ∷ []) ≡ sum_posts n h
sum_other zero h e none = refl
sum_other (suc n) h e none =
    let later = sum_other n h e (λ t lt. none t (omega (arith, lt))) in
    let here : posts_by n (h ++ e ∷ []) ≡ posts_by n h = posts_by-after n h e ∙ rw (none n (omega arith)) refl in
    omega (arith, later, here)

pub not_by : (t by ticket : ℕ) (event : Term) → (by ≡ t → ⊥) → is_post_by t (entries.Post by ticket event) ≡ false
not_by t by ticket event apart = ne_eqb by t apart

pub is_by : (t ticket : ℕ) (event : Term) → is_post_by t (entries.Post t ticket event) ≡ true
is_by t ticket event = eq_same t

pub sum_post : (n by ticket : ℕ) (event : Term) (h : List Entry) → by < n → sum_posts n (h ++ entries.Post by ticket event ∷ []) ≡ suc (sum_posts n h)
sum_post zero by ticket event h lt = absurd (omega (arith, lt))
sum_post (suc n) by ticket event h lt = go (cases_lt by n) (λ low. sum_post n by ticket event h low)
  where
    go : (by < n) ⊎ (n ≤ by) → (by < n → sum_posts n (h ++ entries.Post by ticket event ∷ []) ≡ suc (sum_posts n h))
        → sum_posts n (h ++ entries.Post by ticket event ∷ []) + posts_by n (h ++ entries.Post by ticket event ∷ []) ≡ suc
        (sum_posts n h + posts_by n h)
    go (inl low) below =
        let later = below low in
        let here : posts_by n (h ++ entries.Post by ticket event ∷ []) ≡ posts_by n h =
        posts_by-after n h (entries.Post by ticket event)
        ∙ rw (not_by n by ticket event (λ e. omega (arith, e, low))) refl in
        omega (arith, later, here)
    go (inr high) below =
        let same : by ≡ n = omega (arith, lt, high) in
        let later = sum_other n h (entries.Post by ticket event) (λ t low. not_by t by ticket event (λ e. omega (arith, e, low, same))) in
        let here : posts_by n (h ++ entries.Post by ticket event ∷ []) ≡ suc (posts_by n h) =
        posts_by-after n h (entries.Post by ticket event) ∙ subst
        (λ (b : ℕ). counted (is_post_by n (entries.Post b ticket event)) (posts_by n h) ≡ suc (posts_by n h))
        (sym same) (rw (is_by n ticket event) refl) in
        omega (arith, later, here)

sum_few : (most n : ℕ) (h : List Entry) → ((t : ℕ) → t < n → posts_by t h ≤ most) → sum_posts n h ≤ n * most
sum_few most zero h few = omega arith
sum_few most (suc n) h few =
    let later = sum_few most n h (λ t lt. few t (omega (arith, lt))) in
    let here = few n (omega arith) in
    omega (arith, later, here)

-- with one that may post once more
pub sum_fewer : (most n by : ℕ) (h : List Entry) → by < n → ((t : ℕ) → t < n → posts_by t h ≤ most) → posts_by by h < most → sum_posts n h < n * most
sum_fewer most zero by h lt few less = absurd (omega (arith, lt))
sum_fewer most (suc n) by h lt few less = go (cases_lt by n) (λ low. sum_fewer most n by h low (λ t l. few t (omega (arith, l))) less)
  where
    go : (by < n) ⊎ (n ≤ by) → (by < n → sum_posts n h < n * most) → sum_posts n h + posts_by n h < suc n * most
    go (inl low) below = let later = below low in let here = few n (omega arith) in omega (arith, later, here)
    go (inr high) below =
        let same : by ≡ n = omega (arith, lt, high) in
        let here : posts_by n h < most = subst (λ (b : ℕ). posts_by b h < most) same less in
        let later = sum_few most n h (λ t l. few t (omega (arith, l))) in
        omega (arith, later, here)

pub same_or_apart : (a b : ℕ) → (a ≡ b) ⊎ (a ≡ b → ⊥)
same_or_apart a b = go (cases_lt a b) (cases_lt b a)
  where
    go : (a < b) ⊎ (b ≤ a) → (b < a) ⊎ (a ≤ b) → (a ≡ b) ⊎ (a ≡ b → ⊥)
    go (inl low) _ = inr (λ e. omega (arith, e, low))
    go (inr high) (inl low) = inr (λ e. omega (arith, e, low))
    go (inr high) (inr low) = inl (omega (arith, high, low))
