-- A loose history is legal where the board was declared stuck on a list that can't commit, or never.
use Rattle.std.proofs.Common.{◌≡◌, ◌≤◌, ◌<◌, ◌⊎◌, ℕ, zero, suc, true, List, [], ◌∷◌, ◌++◌, length, Some, slice_get, refl, ap, sym, ◌∙◌, subst, inl, inr, arith, append_assoc, length-append}
use Rattle.std.proofs.lemmas.Bool.{cases_lt}
use Rattle.te_terms.specs.declared.event.Parked.{Parked}
use Rattle.te_terms.specs.Joint.{CanCommit}
use Rattle.te_history.specs.declared.entry.Entry.{Entry}
use Rattle.te_history.specs.declared.entry.Entry.TheVariants.{Post, Commit, Withdraw, Take, Rest, Stuck, End}
use Rattle.te_history.specs.State.{State, state, parked_list}
use Rattle.te_history.specs.Follows.{LastNeed, LooseFrom, LegalFrom, IsLoose, IsLegal}
use Rattle.te_history.proofs.Growing.{later_part}
use Rattle.te_history.proofs.Lasting.{stuck_exactly}
use Rattle.te_report.specs.Declarations.{IsDeclared}

-- ---- a board is declared stuck at most once

at_seam : (xs ys : List Entry) (x : Entry) → slice_get (xs ++ x ∷ ys) (length xs) ≡ Some x
at_seam [] ys x = refl
at_seam (z ∷ xs) ys x = at_seam xs ys x

in_front : (xs ys : List Entry) (k : ℕ) → k < length xs → slice_get (xs ++ ys) k ≡ slice_get xs k
in_front [] ys k low = absurd (omega (arith, low))
in_front (z ∷ xs) ys zero low = refl
in_front (z ∷ xs) ys (suc k) low = in_front xs ys k (omega (arith, low))

not_before : (n : ℕ) (h a c b d : List Entry) (x y : ℕ) → IsLoose n h → h ≡ a ++ Stuck x ∷ c → h ≡ b ++ Stuck y ∷ d → length a < length b → ⊥
not_before n h a c b d x y loose first second low =
    let after : LooseFrom n b (Stuck y ∷ d) = later_part n b (Stuck y ∷ d) (subst (IsLoose n) second loose) in
    let there : slice_get b (length a) ≡ Some (Stuck x) = sym (in_front b (Stuck y ∷ d) (length a) low)
    ∙ ap (λ (es : List Entry). slice_get es (length a)) (sym second ∙ first) ∙ at_seam a c (Stuck x) in
    let stuck : (state n b).stuck ≡ true = (stuck_exactly n b).1 (length a, x, there) in
    let runs = after.0.0 in
    absurd cc

same_front : (a c b d : List Entry) (x y : Entry) → length a ≡ length b → a ++ x ∷ c ≡ b ++ y ∷ d → a ≡ b
same_front [] c [] d x y e is = refl
same_front [] c (z ∷ b) d x y e is = absurd (omega (arith, e))
same_front (z ∷ a) c [] d x y e is = absurd (omega (arith, e))
same_front (z ∷ a) c (w ∷ b) d x y e is = (let h : z ≡ w = cc in let t : a ++ x ∷ c ≡ b ++ y ∷ d = cc in let r : a ≡ b = same_front a c b d x y (omega (arith, e)) t in cc)

pub declared_once : (n : ℕ) (h : List Entry) (i j : ℕ) (parked other : List Parked) → IsLoose n h → IsDeclared n h i parked → IsDeclared n h j other → parked ≡ other
declared_once n h i j parked other loose d e = by (cases_lt (length d.earlier) (length e.earlier)) (cases_lt (length e.earlier) (length d.earlier))
  where
    by : (length d.earlier < length e.earlier) ⊎ (length e.earlier ≤ length d.earlier) → (length e.earlier < length d.earlier) ⊎ (length d.earlier ≤ length e.earlier) → parked ≡ other
    by (inl low) _ = absurd (not_before n h d.earlier d.later e.earlier e.later d.by e.by loose d.whole e.whole low)
    by _ (inl low) = absurd (not_before n h e.earlier e.later d.earlier d.later e.by d.by loose e.whole d.whole low)
    by (inr high) (inr low) = (let same : d.earlier ≡ e.earlier =
        same_front d.earlier d.later e.earlier e.later (Stuck d.by) (Stuck e.by) (omega (arith, high, low))
        (sym d.whole ∙ e.whole) in d.are_parked ∙ ap (λ (es : List Entry). parked_list (state n es)) same
        ∙ sym e.are_parked)

-- ---- loose and declared truly

last_need : (s : State) (e : Entry) → ((by : ℕ) → e ≡ Stuck by → ¬ CanCommit (parked_list s)) → LastNeed s e
last_need s (Post by ticket event) h = tt
last_need s (Commit by cert outcomes) h = tt
last_need s (Withdraw by ticket) h = tt
last_need s (Take by ticket outcome) h = tt
last_need s (Rest by) h = tt
last_need s (Stuck by) h = h by refl
last_need s (End by how) h = tt

legal_from : (n : ℕ) (before es : List Entry) → LooseFrom n before es
    → ((earlier later : List Entry) (by : ℕ) → before ++ es ≡ earlier ++ Stuck by ∷ later
    → ¬ CanCommit (parked_list (state n earlier))) → LegalFrom n before es
legal_from n before [] loose h = tt
legal_from n before (e ∷ es) loose h = (
  (loose.0, last_need (state n before) e (λ by is. h before es by (ap (λ (x : Entry). before ++ x ∷ es) is))),
  legal_from n (before ++ e ∷ []) es loose.1 (λ earlier later by is. h earlier later by (sym (append_assoc before (e ∷ []) es) ∙ is)),
)

truly : (n : ℕ) (h : List Entry) → IsLoose n h → ((i : ℕ) (parked : List Parked) → IsDeclared n h i parked → ¬ CanCommit parked) → IsLegal n h
truly n h loose each = legal_from n [] h loose (λ earlier later by is.
    each (length earlier) (parked_list (state n earlier)) (record
    { earlier = earlier; by = by; later = later; whole = is; count = refl; are_parked = refl }))

pub legal_undeclared : (n : ℕ) (h : List Entry) → IsLoose n h → ((i : ℕ) (parked : List Parked) → ¬ IsDeclared n h i parked) → IsLegal n h
legal_undeclared n h loose none = truly n h loose (λ i parked d. absurd (none i parked d))

pub legal_declared : (n : ℕ) (h : List Entry) (i : ℕ) (parked : List Parked) → IsLoose n h → IsDeclared n h i parked → ¬ CanCommit parked → IsLegal n h
legal_declared n h i parked loose d cannot = truly n h loose (λ j other e. subst (λ (ps : List Parked). ¬ CanCommit ps) (declared_once n h i j parked other loose d e) cannot)

-- ---- legal, so declared truly

needs_of_stuck : (n : ℕ) (before es : List Entry) → LegalFrom n before es → (earlier later : List Entry) (by : ℕ)
    → before ++ es ≡ earlier ++ Stuck by ∷ later → length before ≤ length earlier
    → ¬ CanCommit (parked_list (state n earlier))
needs_of_stuck n before [] legal earlier later by is low = absurd
    (let size : length (before ++ []) ≡ length (earlier ++ Stuck by ∷ later) = ap length is in
    omega (arith, low, size, length-append before [], length-append earlier (Stuck by ∷ later)))
needs_of_stuck n before (e ∷ es) legal earlier later by is low =
    go (λ (far : length (before ++ e ∷ []) ≤ length earlier).
    needs_of_stuck n (before ++ e ∷ []) es legal.1 earlier later by (append_assoc before (e ∷ []) es ∙ is) far)
    (cases_lt (length before) (length earlier))
  where
    go : (length (before ++ e ∷ []) ≤ length earlier → ¬ CanCommit (parked_list (state n earlier)))
        → (length before < length earlier) ⊎ (length earlier ≤ length before)
        → ¬ CanCommit (parked_list (state n earlier))
    go on (inl more) = on (omega (arith, more, length-append before (e ∷ [])))
    go on (inr less) = (let same : before ≡ earlier = same_front before es earlier later e (Stuck by)
        (omega (arith, low, less)) is in let here : e ≡ Stuck by = head_of before earlier es later e (Stuck by) same is in
        subst (λ (bs : List Entry). ¬ CanCommit (parked_list (state n bs))) same
        (subst (LastNeed (state n before)) here legal.0.1))
      where
        head_of : (a b c d : List Entry) (x y : Entry) → a ≡ b → a ++ x ∷ c ≡ b ++ y ∷ d → x ≡ y
        head_of [] [] c d x y e is = cc
        head_of [] (z ∷ b) c d x y e is = absurd cc
        head_of (z ∷ a) [] c d x y e is = absurd cc
        head_of (z ∷ a) (w ∷ b) c d x y e is =
            let same : a ≡ b = cc in
            let rest : a ++ x ∷ c ≡ b ++ y ∷ d = cc in
            head_of a b c d x y same rest

pub declared_legally : (n : ℕ) (h : List Entry) (i : ℕ) (parked : List Parked) → IsLegal n h → IsDeclared n h i parked → ¬ CanCommit parked
declared_legally n h i parked legal d = subst (λ (ps : List Parked). ¬ CanCommit ps) (sym d.are_parked) (needs_of_stuck n [] h legal d.earlier d.later d.by d.whole (omega arith))
