-- News that are told at a turn are those of the call.
use Rattle.std.proofs.Common.{◌≡◌, ℕ, zero, suc, ◌+◌, ◌≤◌, List, [], ◌∷◌, ◌++◌, length, take, drop, None, Some, Result, Ok, Err, refl, sym, ap, ◌∙◌, subst, arith}
use Rattle.std.specs.List.{slice_get}
use Rattle.std.proofs.lemmas.List.{append-nil}
use Rattle.std.specs.Result.{IfOk, IfErr}
use Rattle.te_lock.specs.Lock.{Knowledge}
use Rattle.te_history.specs.declared.entry.Entry.{Entry}
use Rattle.te_board.specs.Boards.{BoardLog}
use Rattle.te_runtime.specs.declared.fault.SyncFault.{SyncFault}
use Rattle.te_runtime.specs.Refusals.{RefusesNews}
use Rattle.te_runtime.specs.Calls.{Called, Refused}
use Rattle.te_runtime.specs.Turns.{Entered, Left}
use Rattle.te_runtime.proofs.Calling.{called_same}
use Rattle.te_runtime.proofs.Refusing.{refused}

module _ {p q r : Knowledge Entry} {b : BoardLog} (e : Entered p q b) (l : Left q r b.entries) where
  pub news_called : (answer : Result (List Entry) SyncFault) → IfOk answer (λ news. Called p r [])
  news_called (Ok news) = called_same e refl l
  news_called (Err f) = tt

  pub news_read : (from : ℕ) (answer : Result (List Entry) SyncFault) → IfOk answer (λ news. news ≡ drop from b.entries)
      → IfOk answer (λ news. news ≡ drop from r.read)
  news_read from (Ok news) is = is ∙ ap (drop from) (sym l.read)
  news_read from (Err f) is = tt

  pub news_refused : (answer : Result (List Entry) SyncFault) → IfErr answer RefusesNews → IfErr answer (Refused (λ _ _ fault. RefusesNews fault) p r)
  news_refused (Ok news) cause = tt
  news_refused (Err f) cause = refused (λ _ _ fault. RefusesNews fault) (λ b by word is. is) p.caller f e refl l refl cause

  pub news_own : r.own ≡ p.own
  news_own = (called_same e refl l).own ∙ append-nil p.own

-- ---- a list, read on by one place

taken_on : {E : Type 0} (n : ℕ) (xs : List E) (x : E) → slice_get xs n ≡ Some x → take (suc n) xs ≡ take n xs ++ x ∷ []
taken_on n [] x is = absurd cc
taken_on zero (y ∷ ys) x is = cc
taken_on (suc n) (y ∷ ys) x is = ap (λ (zs : List _). y ∷ zs) (taken_on n ys x is)

read_on_suc : {E : Type 0} (from n : ℕ) (xs : List E) (x : E) → from ≤ n → slice_get xs n ≡ Some x
    → drop from (take (suc n) xs) ≡ drop from (take n xs) ++ x ∷ []
read_on_suc zero n xs x le is = taken_on n xs x is
read_on_suc (suc from) zero xs x le is = absurd (omega arith)
read_on_suc (suc from) (suc n) [] x le is = absurd cc
read_on_suc (suc from) (suc n) (y ∷ ys) x le is = read_on_suc from n ys x (omega (arith, le)) is

pub read_on : {E : Type 0} (from n : ℕ) (xs : List E) (x : E) → from ≤ n → slice_get xs n ≡ Some x
    → drop from (take (n + 1) xs) ≡ drop from (take n xs) ++ x ∷ []
read_on from n xs x le is =
    let more : suc n ≡ n + 1 = omega arith in
    subst (λ (k : ℕ). drop from (take k xs) ≡ drop from (take n xs) ++ x ∷ []) more (read_on_suc from n xs x le is)

pub there_is : {E : Type 0} (n : ℕ) (xs : List E) (x : E) → slice_get xs n ≡ Some x → n + 1 ≤ length xs
there_is n [] x is = absurd cc
there_is zero (y ∷ ys) x is = omega arith
there_is (suc n) (y ∷ ys) x is = omega (arith, there_is n ys x is)

pub all_read : {E : Type 0} (n : ℕ) (xs : List E) → slice_get xs n ≡ None → take n xs ≡ xs
all_read zero [] is = refl
all_read (suc n) [] is = refl
all_read zero (y ∷ ys) is = absurd cc
all_read (suc n) (y ∷ ys) is = ap (λ (zs : List _). y ∷ zs) (all_read n ys is)
