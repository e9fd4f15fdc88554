-- What stays of lists of names as they grow.
use Rattle.std.proofs.Common.{◌≡◌, ◌≢◌, ℕ, zero, suc, ◌<◌, ◌≤◌, List, [], ◌∷◌, ◌++◌, length, take, refl, sym, ◌∙◌, ap, subst, append_assoc, length-append, arith}
use Rattle.std.proofs.lemmas.List.{append-nil}
use Rattle.std.specs.List.{AllByRecursion}
use Rattle.te_script.specs.declared.script.Stmt.{Stmt}
use Rattle.te_script.specs.Texts.{RootIsNode}
use Rattle.te_script.specs.Scripts.{AreDistinct, AreApart}
use Rattle.te_terms.proofs.Lists.{AllByRecursion-append}
use Rattle.te_reader.specs.Grammar.{IsAt, IsNew, IsShortName}

pub all_weaker : {A : Type 0} (P Q : A → Type 0) → ((x : A) → P x → Q x) → (xs : List A) → AllByRecursion P xs → AllByRecursion Q xs
all_weaker P Q w [] h = tt
all_weaker P Q w (x ∷ xs) h = (w x h.0, all_weaker P Q w xs h.1)

pub distinct_push : (xs : List (List ℕ)) (n : List ℕ) → AreDistinct xs → IsNew n xs → AreDistinct (xs ++ n ∷ [])
distinct_push [] n d new = (tt, tt)
distinct_push (x ∷ xs) n d new = (AllByRecursion-append (λ y. x ≢ y) xs n d.0 new.0, distinct_push xs n d.1 new.1)

-- a name that is no channel is apart from each
pub new_apart : (n : List ℕ) (channels : List (List ℕ)) → IsNew n channels → AllByRecursion (λ y. n ≢ y) channels
new_apart n channels new = all_weaker (λ x. x ≢ n) (λ y. n ≢ y) (λ x ne same. ne (sym same)) channels new

pub at_more : (xs ys : List (List ℕ)) (r : ℕ) (n : List ℕ) → IsAt xs r n → IsAt (xs ++ ys) r n
at_more [] ys r n h = absurd cc
at_more (x ∷ xs) ys zero n h = h
at_more (x ∷ xs) ys (suc r) n h = at_more xs ys r n h

pub at_last : (xs : List (List ℕ)) (n : List ℕ) → IsAt (xs ++ n ∷ []) (length xs) n
at_last [] n = refl
at_last (x ∷ xs) n = at_last xs n

pub short_at : (xs : List (List ℕ)) (r : ℕ) (n : List ℕ) → AllByRecursion IsShortName xs → IsAt xs r n → IsShortName n
short_at [] r n h at = absurd cc
short_at (x ∷ xs) zero n h at = let same : x ≡ n = cc in let P : List ℕ → Type 0 = λ y. length y ≤ 32 in subst P same h.0
short_at (x ∷ xs) (suc r) n h at = short_at xs r n h.1 at

-- the first part of two
pub taken : (xs ys : List (List ℕ)) → take (length xs) (xs ++ ys) ≡ xs
taken [] ys = refl
taken (x ∷ xs) ys = ap (λ t. x ∷ t) (taken xs ys)

-- ---- registers

-- registers, and what they have become
pub record Grows (channels registers more : List (List ℕ)) : Type 0 where
  pub added : List (List ℕ)
  pub appended : more ≡ registers ++ added
  pub few : length registers ≤ 8 → length more ≤ 8
  pub distinct : AreDistinct registers → AreDistinct more
  pub short : AllByRecursion IsShortName registers → AllByRecursion IsShortName more
  pub apart : AreApart registers channels → AreApart more channels

pub stays : (channels registers : List (List ℕ)) → Grows channels registers registers
stays channels registers = record { added = []; appended = sym (append-nil registers); few = λ h. h; distinct = λ h. h; short = λ h. h; apart = λ h. h }

pub goes_on : (channels a b c : List (List ℕ)) → Grows channels a b → Grows channels b c → Grows channels a c
goes_on channels a b c f g = record {
  added = f.added ++ g.added;
  appended = g.appended ∙ ap (λ x. x ++ g.added) f.appended ∙ append_assoc a f.added g.added;
  few = λ h. g.few (f.few h);
  distinct = λ h. g.distinct (f.distinct h);
  short = λ h. g.short (f.short h);
  apart = λ h. g.apart (f.apart h);
}

pub grows_one : (channels registers : List (List ℕ)) (n : List ℕ) → length registers < 8 → IsShortName n → IsNew n registers → IsNew n channels → Grows channels registers (registers ++ n ∷ [])
grows_one channels registers n room short new no_channel = record {
  added = n ∷ [];
  appended = refl;
  few = λ h. omega (arith, length-append registers (n ∷ []));
  distinct = λ h. distinct_push registers n h new;
  short = λ h. AllByRecursion-append IsShortName registers n h short;
  apart = λ h. AllByRecursion-append (λ x. AllByRecursion (λ y. x ≢ y) channels) registers n h (new_apart n channels no_channel);
}

-- what holds of all names holds of the one at a place
pub all_at : (P : List ℕ → Type 0) (xs : List (List ℕ)) (r : ℕ) (n : List ℕ) → AllByRecursion P xs → IsAt xs r n → P n
all_at P [] r n h at = absurd cc
all_at P (x ∷ xs) zero n h at = let same : x ≡ n = cc in subst P same h.0
all_at P (x ∷ xs) (suc r) n h at = all_at P xs r n h.1 at

-- one statement more has a root
pub all_roots : (xs : List Stmt) (x : Stmt) → AllByRecursion RootIsNode xs → RootIsNode x → AllByRecursion RootIsNode (xs ++ x ∷ [])
all_roots [] x h r = (r, tt)
all_roots (y ∷ ys) x h r = (h.0, all_roots ys x h.1 r)
