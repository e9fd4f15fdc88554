-- The first jobs of a script's callers.
use Rattle.std.proofs.Common.{◌≡◌, inl, inr, ◌≤◌, ◌<◌, ◌+◌, ℕ, zero, suc, List, [], ◌∷◌, ◌++◌, length, map, get_or, Some, refl, sym, ap, ◌∙◌, subst, arith, length-append}
use Rattle.std.specs.List.{AllZip, slice_get}
use Rattle.std.proofs.lemmas.List.{append-nil}
use Rattle.te_script.specs.Scripts.{Thread}
use Rattle.te_script.specs.Cores.{At, core_after}
use Rattle.te_lock.specs.Lock.{Knowledge, Lock, new_pass, new_passes}
use Rattle.te_history.specs.declared.entry.Entry.{Entry}
use Rattle.te_history.specs.State.{posts_by}
use Rattle.te_runtime.specs.declared.working.Job.{Job}
use Rattle.te_runtime.specs.Households.{withdrawals_by}
use Rattle.te_runtime.specs.Working.{IsRun, IsJobHeld, IsJobReady, AreJobsOf, IsFirstJob}
use Rattle.te_runtime.proofs.JobsStarted.{zip_push}
use Rattle.te_terms.proofs.Lists.{at_or_last, found_here}

abbrev passes_to : Lock → ℕ → List (Knowledge Entry)
passes_to lock n = new_passes lock n

pub passes_many : (lock : Lock) (n : ℕ) → length (passes_to lock n) ≡ n
passes_many lock zero = refl
passes_many lock (suc n) =
    let before = passes_many lock n in
    let one = length-append (passes_to lock n) (new_pass lock n ∷ []) in
    omega (arith, before, one)

pub pass_at : (lock : Lock) (n k : ℕ) (p : Knowledge Entry) → slice_get (passes_to lock n) k ≡ Some p → p ≡ new_pass lock k
pass_at lock zero k p at = absurd cc
pass_at lock (suc n) k p at = elim (at_or_last (passes_to lock n) (new_pass lock n) k p at) [
  | inl last ↦ sym last.1 ∙ ap (λ (i : ℕ). new_pass lock i) (sym (last.0 ∙ passes_many lock n))
  | inr there ↦ pass_at lock n k p there.1
]

zip_many : {A B : Type 0} (R : A → B → Type 0) (xs : List A) (ys : List B) → AllZip R xs ys → length ys ≡ length xs
zip_many R [] [] z = refl
zip_many R [] (y ∷ ys) z = absurd z
zip_many R (x ∷ xs) [] z = absurd z
zip_many R (x ∷ xs) (y ∷ ys) z = ap suc (zip_many R xs ys z.1)

zip_one : {A B : Type 0} (R : A → B → Type 0) (xs : List A) (ys : List B) (k : ℕ) (y : B) → AllZip R xs ys → slice_get ys k ≡ Some y
    → (x : A) × (slice_get xs k ≡ Some x) × R x y
zip_one R xs [] k y z at = absurd cc
zip_one R [] (b ∷ bs) k y z at = absurd z
zip_one R (a ∷ rest) (b ∷ bs) zero y z at = let same : b ≡ y = cc in (a, refl, subst (R a) same z.0)
zip_one R (a ∷ rest) (b ∷ bs) (suc k) y z at = zip_one R rest bs k y z.1 at

first_ready : (threads : List Thread) (lock : Lock) (k : ℕ) (j : Job) → IsFirstJob threads (new_pass lock k) j → IsJobReady lock j
first_ready threads lock k j f = record {
  held = record {
    here = ap (λ (p : Knowledge Entry). p.lock) f.pass;
    idle = ap (λ (p : Knowledge Entry). p.has_turn) f.pass;
    run = subst (λ (p : Knowledge Entry). IsRun p.caller p.own j.core) (sym f.pass) (record { wished = tt; stands = f.core; tight = tt });
    once = let none : withdrawals_by j.pass.caller j.pass.own ≡ 0 = ap (λ (p : Knowledge Entry). withdrawals_by p.caller p.own) f.pass in omega (arith, none);
  };
  none = ap (λ (p : Knowledge Entry). withdrawals_by p.caller p.own) f.pass;
  ticket = f.ticket ∙ sym (ap (λ (p : Knowledge Entry). posts_by p.caller p.own) f.pass);
}

pub jobs_are : (threads : List Thread) (lock : Lock) (jobs : List Job) → AllZip (IsFirstJob threads) (passes_to lock (length threads)) jobs
    → AreJobsOf threads lock jobs
jobs_are threads lock jobs z = record {
  count = zip_many (IsFirstJob threads) (passes_to lock (length threads)) jobs z ∙ passes_many lock (length threads);
  each = λ k j at.
      let from = zip_one (IsFirstJob threads) (passes_to lock (length threads)) jobs k j z at in
      let is = pass_at lock (length threads) k from.0 from.1 in
      let first : IsFirstJob threads (new_pass lock k) j = subst (λ (p : Knowledge Entry). IsFirstJob threads p j) is from.2 in
      (first_ready threads lock k j first, ap (λ (p : Knowledge Entry). p.caller) first.pass, first.text);
}

-- the next pass of the lock is that of a thread
pub next_within : (lock : Lock) (n : ℕ) (before after : List (Knowledge Entry)) (p : Knowledge Entry) → before ++ p ∷ after ≡ passes_to lock n → p.caller < n
next_within lock n before after p is =
    let at : slice_get (passes_to lock n) (length before) ≡ Some p = subst (λ (l : List (Knowledge Entry)). slice_get l (length before) ≡ Some p) is (here before) in
    let caller : p.caller ≡ length before = ap (λ (q : Knowledge Entry). q.caller) (pass_at lock n (length before) p at) in
    let many = passes_many lock n in
    let long = ap length is in
    let sum = length-append before (p ∷ after) in
    omega (arith, caller, many, long, sum)
  where
    here : (xs : List (Knowledge Entry)) → slice_get (xs ++ p ∷ after) (length xs) ≡ Some p
    here [] = refl
    here (x ∷ xs) = here xs

-- ---- the thread of a caller

pub threads_many : {A : Type 0} (text : A → Thread) (xs : List A) (threads : List Thread) → map text xs ≡ threads → length xs ≡ length threads
threads_many {A} text xs threads is = sym (many xs) ∙ ap length is
  where
    many : (ys : List A) → length (map text ys) ≡ length ys
    many [] = refl
    many (y ∷ ys) = ap suc (many ys)

pub thread_there : {A : Type 0} (text : A → Thread) (xs : List A) (threads : List Thread) (k : ℕ) (x : A) → map text xs ≡ threads → k < length xs
    → x ≡ get_or xs k x → slice_get threads k ≡ Some (text x)
thread_there {A} text xs threads k x is low at = subst (λ (ts : List Thread). slice_get ts k ≡ Some (text x)) is (there xs k (found_here xs k x low at))
  where
    there : (ys : List A) (i : ℕ) → slice_get ys i ≡ Some x → slice_get (map text ys) i ≡ Some (text x)
    there [] i found = absurd cc
    there (y ∷ ys) zero found = let same : y ≡ x = cc in ap (λ z. Some (text z)) same
    there (y ∷ ys) (suc i) found = there ys i found

-- one job more
pub first_more : (threads : List Thread) (passes : List (Knowledge Entry)) (jobs after : List Job) (p : Knowledge Entry) (core : At) (text : Thread)
    → AllZip (IsFirstJob threads) passes jobs → slice_get threads p.caller ≡ Some text → core ≡ core_after text []
    → after ≡ jobs ++ record { pass = p; core = core; ticket = 0 } ∷ [] → AllZip (IsFirstJob threads) (passes ++ p ∷ []) after
first_more threads passes jobs after p core text z at is pushed =
    let same : core.thread ≡ text = ap (λ (a : At). a.thread) is in
    subst (AllZip (IsFirstJob threads) (passes ++ p ∷ [])) (sym pushed)
    (zip_push (IsFirstJob threads) passes jobs p (record { pass = p; core = core; ticket = 0 }) z (record {
      pass = refl;
      text = at ∙ ap (λ (t : Thread). Some t) (sym same);
      core = is ∙ ap (λ (t : Thread). core_after t []) (sym same);
      ticket = refl;
    }))

-- none is left
pub ended : (xs ys zs : List (Knowledge Entry)) → length ys ≡ 0 → xs ++ ys ≡ zs → xs ≡ zs
ended xs [] zs none is = sym (append-nil xs) ∙ is
ended xs (y ∷ ys) zs none is = absurd (omega (arith, none))
