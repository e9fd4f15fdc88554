-- Withdrawals, and posts that are over, after further entries.
use Rattle.std.proofs.Common.{◌≡◌, ◌∙◌, ◌≤◌, ◌+◌, ℕ, suc, Bool, true, false, cond, List, [], ◌∷◌, ◌++◌, length, refl, ap, arith}
use Rattle.std.specs.List.{AllByRecursion}
use Rattle.std.proofs.lemmas.List.{length-append}
use Rattle.te_terms.specs.declared.event.Outcome.{Outcome}
use Rattle.te_terms.proofs.Lists.{eq_same}
use Rattle.te_history.specs.declared.entry.Entry.{Entry}
use Rattle.te_history.specs.declared.entry.Entry.TheVariants as entries
use Rattle.te_report.specs.OfScript.{taken, taken_from}
use Rattle.te_report.proofs.Growing.{taken_more, taken_same}
use Rattle.te_serial.specs.Houses.{MayAppend}
use Rattle.te_runtime.specs.Households.{is_withdrawal_by, withdrawals_by}

-- how many posts of a caller are over: it has taken their outcome, or has taken back its event
abbrev pub over_by : ℕ → List Entry → ℕ
over_by t h = length (taken t h) + withdrawals_by t h

-- ---- withdrawals

none_more : (t : ℕ) (xs es : List Entry) → withdrawals_by t es ≡ 0 → withdrawals_by t (xs ++ es) ≡ withdrawals_by t xs
none_more t [] es none = none
none_more t (x ∷ xs) es none = ap (λ (n : ℕ). cond (is_withdrawal_by t x) (suc n) n) (none_more t xs es none)

counts_on : (b : Bool) (n m : ℕ) → n ≤ m → cond b (suc n) n ≤ cond b (suc m) m
counts_on true n m le = omega (arith, le)
counts_on false n m le = le

pub withdrawals_grow : (t : ℕ) (xs es : List Entry) → withdrawals_by t xs ≤ withdrawals_by t (xs ++ es)
withdrawals_grow t [] es = omega arith
withdrawals_grow t (x ∷ xs) es = counts_on (is_withdrawal_by t x) (withdrawals_by t xs) (withdrawals_by t (xs ++ es)) (withdrawals_grow t xs es)

counts_one : (b : Bool) (n m : ℕ) → m ≡ suc n → cond b (suc m) m ≡ suc (cond b (suc n) n)
counts_one true n m is = ap suc is
counts_one false n m is = is

one_more : (t ticket : ℕ) (xs : List Entry) → withdrawals_by t (xs ++ entries.Withdraw t ticket ∷ []) ≡ suc (withdrawals_by t xs)
one_more t ticket [] = rw (eq_same t) refl
one_more t ticket (x ∷ xs) = counts_one (is_withdrawal_by t x) (withdrawals_by t xs) (withdrawals_by t (xs ++ entries.Withdraw t ticket ∷ [])) (one_more t ticket xs)

none_among : (t : ℕ) (es : List Entry) → AllByRecursion MayAppend es → withdrawals_by t es ≡ 0
none_among t [] may = refl
none_among t (entries.Post by ticket event ∷ es) may = none_among t es may.1
none_among t (entries.Commit by cert outcomes ∷ es) may = none_among t es may.1
none_among t (entries.Withdraw by ticket ∷ es) may = absurd may.0
none_among t (entries.Take by ticket outcome ∷ es) may = none_among t es may.1
none_among t (entries.Rest by ∷ es) may = absurd may.0
none_among t (entries.Stuck by ∷ es) may = none_among t es may.1
none_among t (entries.End by how ∷ es) may = none_among t es may.1

-- entries of serial rounds add none
pub withdrawals_stay : (t : ℕ) (xs es : List Entry) → AllByRecursion MayAppend es → withdrawals_by t (xs ++ es) ≡ withdrawals_by t xs
withdrawals_stay t xs es may = none_more t xs es (none_among t es may)

-- ---- posts that are over

none_of : (t : ℕ) (e : Entry) → is_withdrawal_by t e ≡ false → withdrawals_by t (e ∷ []) ≡ 0
none_of t e none = rw none refl

pub over_same : (t : ℕ) (h : List Entry) (e : Entry) → taken_from t e [] ≡ [] → is_withdrawal_by t e ≡ false → over_by t (h ++ e ∷ []) ≡ over_by t h
over_same t h e takes none =
    let taken_so : length (taken t (h ++ e ∷ [])) ≡ length (taken t h) = ap length (taken_same t h e takes) in
    let withdrawn : withdrawals_by t (h ++ e ∷ []) ≡ withdrawals_by t h = none_more t h (e ∷ []) (none_of t e none) in
    omega (arith, taken_so, withdrawn)

pub over_taken : (by ticket : ℕ) (outcome : Outcome) (h : List Entry) → over_by by (h ++ entries.Take by ticket outcome ∷ []) ≡ suc (over_by by h)
over_taken by ticket outcome h =
    let takes : taken by (h ++ entries.Take by ticket outcome ∷ []) ≡ taken by h ++ (outcome ∷ []) =
    taken_more by h (entries.Take by ticket outcome) ∙ ap (λ (os : List Outcome). taken by h ++ os) mine in
    let more : length (taken by (h ++ entries.Take by ticket outcome ∷ [])) ≡ length (taken by h) + 1 = ap length takes ∙ length-append (taken by h) (outcome ∷ []) in
    let withdrawn : withdrawals_by by (h ++ entries.Take by ticket outcome ∷ []) ≡ withdrawals_by by h = none_more by h (entries.Take by ticket outcome ∷ []) refl in
    omega (arith, more, withdrawn)
  where
    mine : taken_from by (entries.Take by ticket outcome) [] ≡ outcome ∷ []
    mine = rw (eq_same by) refl

pub over_withdrawn : (by ticket : ℕ) (h : List Entry) → over_by by (h ++ entries.Withdraw by ticket ∷ []) ≡ suc (over_by by h)
over_withdrawn by ticket h =
    let taken_so : length (taken by (h ++ entries.Withdraw by ticket ∷ [])) ≡ length (taken by h) = ap length (taken_same by h (entries.Withdraw by ticket) refl) in
    let withdrawn = one_more by ticket h in
    omega (arith, taken_so, withdrawn)
