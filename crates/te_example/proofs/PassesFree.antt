-- The passes of a new runtime are free, all and the last of them apart.
use Rattle.std.proofs.Common.{◌≡◌, ◌≤◌, ℕ, zero, suc, List, [], ◌∷◌, ◌++◌, length, All, refl, subst, arith, length-append}
use Rattle.std.proofs.lemmas.List.Elements.{All-append, All-contains, Contains-append_right}
use Rattle.std.proofs.Math.ListN.{get_or-append}
use Rattle.te_lock.specs.Lock.{Knowledge, Lock, new_pass, new_passes}
use Rattle.te_history.specs.declared.entry.Entry.{Entry}
use Rattle.te_example.specs.Passes.{IsFreePass}

abbrev passes_to : Lock → ℕ → List (Knowledge Entry)
passes_to lock n = new_passes lock n

abbrev pass_to : Lock → ℕ → Knowledge Entry
pass_to lock n = new_pass lock n

pub all_free : (lock : Lock) (n : ℕ) → All (IsFreePass lock) (passes_to lock n)
all_free lock zero = λ k d low. absurd (omega (arith, low))
all_free lock (suc n) = All-append (IsFreePass lock) (passes_to lock n) (pass_to lock n ∷ []) (all_free lock n) one
  where
    one : All (IsFreePass lock) (pass_to lock n ∷ [])
    one zero d low = (refl, refl)
    one (suc k) d low = absurd (omega (arith, low))

pub passes_many : (lock : Lock) (n : ℕ) → length (passes_to lock n) ≡ n
passes_many lock zero = refl
passes_many lock (suc n) =
    let before = passes_many lock n in
    let one = length-append (passes_to lock n) (pass_to lock n ∷ []) in
    omega (arith, before, one)

module _ (P : Knowledge Entry → Type 0) (xs : List (Knowledge Entry)) (x : Knowledge Entry) (all : All P (xs ++ x ∷ [])) where
  pub others_too : All P xs
  others_too k d low = subst P (get_or-append xs (x ∷ []) d k low) (all k d (omega (arith, low, length-append xs (x ∷ []))))

  pub last_too : P x
  last_too = All-contains P (xs ++ x ∷ []) x all (Contains-append_right xs (x ∷ []) x (0, omega arith, refl))
