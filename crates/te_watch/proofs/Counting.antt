-- A batch that is added keeps the rule of the record, and what one publication had seen begins what a later one has.
use Rattle.std.proofs.Common.{◌≡◌, ℕ, ◌+◌, ◌<◌, ◌≤◌, ◌==◌, Bool, true, false, List, [], ◌∷◌, ◌++◌, length, refl, ap, sym, subst, ◌∙◌, arith, inl, inr, length-append, None}
use Rattle.std.proofs.lemmas.List.{append-nil}
use Rattle.std.proofs.lemmas.List.Concat.{flat_map-append}
use Rattle.std.proofs.lemmas.Bool.Decides.{nat_tests}
use mathlib.Core.List.{IsPrefix}
use prog.Atomic.{either}
use Rattle.logbook.specs.Pages.{Cell, cell, keeps, no_nib, step, Moves, Goes}
use Rattle.te_lock.proofs.Beginnings.{prefix_self}
use Rattle.te_history.specs.declared.entry.Entry.{Entry}
use Rattle.te_watch.specs.declared.ledger.Batch.{Batch}
use Rattle.te_watch.specs.Watches.{IsJoined}
use Rattle.te_watch.specs.Ledgers.{CountsAll, AddsBatch, all_of, items_of}

-- ---- lists that begin one list

-- the shorter begins the longer
pub shorter_begins : {E : Type 0} (xs ys zs : List E) → IsPrefix xs zs → IsPrefix ys zs → length xs ≤ length ys → IsPrefix xs ys
shorter_begins [] ys zs p q le = (ys, refl)
shorter_begins (x ∷ xs) [] zs p q le = absurd (omega arith)
shorter_begins (x ∷ xs) (y ∷ ys) [] p q le = absurd (cc (p.1))
shorter_begins (x ∷ xs) (y ∷ ys) (z ∷ zs) p q le =
    let rest = shorter_begins xs ys zs (p.0, cc (p.1)) (q.0, cc (q.1)) (omega arith) in
    let heads : x ≡ y = cc (p.1, q.1) in
    (rest.0, cc (heads, rest.1))

-- one that is no shorter than the whole is the whole
whole : {E : Type 0} (xs ys : List E) → IsPrefix xs ys → length ys ≤ length xs → xs ≡ ys
whole xs ys ([], is) le = sym (append-nil xs) ∙ is
whole xs ys (z ∷ zs, is) le = absurd (omega (arith, le, sym (ap length is) ∙ length-append xs (z ∷ zs)))

-- ---- what was published

pub all_of-snoc : (log : List Batch) (b : Batch) → all_of (log ++ b ∷ []) ≡ all_of log ++ b.items
all_of-snoc log b = flat_map-append items_of log (b ∷ []) ∙ ap (λ (es : List Entry). all_of log ++ es) (append-nil b.items)

pub all_of-begins : (seen log : List Batch) → IsPrefix seen log → IsPrefix (all_of seen) (all_of log)
all_of-begins seen log p = (all_of p.0, sym (flat_map-append items_of seen p.0) ∙ ap all_of p.1)

-- ---- the step

abbrev pub hidden : List Batch → List Batch
hidden _ = []

abbrev pub moved : List Batch → List Batch → ℕ → Type 0
moved _ _ _ = Unit {0}

goes_by : (log seen : List Batch) (b : Batch) (old new : ℕ) → length (all_of seen) ≡ old → old + length b.items ≡ new → IsPrefix seen log
    → (test : Bool) → (length (all_of log) == old) ≡ test
    → Goes CountsAll hidden moved 0 (seen, (no_nib, None)) (λ n. either (n == old) new n) (AddsBatch (step 0 old new b) (seen, (no_nib, None)))
    ((length (all_of log), true) ∷ (0, true) ∷ []) log
goes_by log seen b old new at sum begins true is =
    let here : length (all_of log) ≡ old = grind (arith, nat_tests) in
    let same : all_of seen ≡ all_of log = whole (all_of seen) (all_of log) (all_of-begins seen log begins) (omega (arith, here, at)) in
    let all : all_of (log ++ b ∷ []) ≡ all_of seen ++ b.items = all_of-snoc log b ∙ ap (λ (es : List Entry). es ++ b.items) (sym same) in
    let count : either (length (all_of log) == old) new (length (all_of log)) ≡ length (all_of (log ++ b ∷ [])) =
    rw (is, all) (omega (arith, at, sum, length-append (all_of seen) b.items)) in
    (keeps, b ∷ [], None, tt, ap (λ (n : ℕ). (n, true) ∷ (0, true) ∷ []) count, inl (refl, refl), λ _. all)
goes_by log seen b old new at sum begins false is =
    let all : log ++ [] ≡ log = append-nil log in
    let count : either (length (all_of log) == old) new (length (all_of log)) ≡ length (all_of (log ++ [])) =
    rw is (ap (λ (l : List Batch). length (all_of l)) (sym all)) in
    (keeps, [], None, tt, ap (λ (n : ℕ). (n, true) ∷ (0, true) ∷ []) count, inl (refl, refl), λ found. absurd (grind (arith, nat_tests)))

-- whatever the record is by then
pub adding_moves : (seen : List Batch) (b : Batch) (old new : ℕ) → length (all_of seen) ≡ old → old + length b.items ≡ new
    → Moves CountsAll hidden moved 0 (seen, (no_nib, None)) (λ n. either (n == old) new n) (AddsBatch (step 0 old new b) (seen, (no_nib, None)))
adding_moves seen b old new at sum cells log counted begins away =
    let P : List Cell → Type 0 = λ cs. (0 < length cs) × ((cell cs 0).1 ≡ true)
    × Goes CountsAll hidden moved 0 (seen, (no_nib, None)) (λ n. either (n == old) new n) (AddsBatch (step 0 old new b) (seen, (no_nib, None))) cs log in
    subst P (sym counted) (omega arith, refl, goes_by log seen b old new at sum begins (length (all_of log) == old) refl)

-- ---- the longer of two

-- the first, where it is no shorter
pub joined_first : (one other both : List Batch) → IsPrefix one both → IsPrefix other both → length (all_of other) ≤ length (all_of one)
    → IsJoined (all_of one) (all_of other) (all_of one)
joined_first one other both p q le = record {
  which = inl refl;
  begins = prefix_self (all_of one);
  begins_other = shorter_begins (all_of other) (all_of one) (all_of both) (all_of-begins other both q) (all_of-begins one both p) le;
}

-- the second, where it is longer
pub joined_second : (one other both : List Batch) → IsPrefix one both → IsPrefix other both → length (all_of one) ≤ length (all_of other)
    → IsJoined (all_of one) (all_of other) (all_of other)
joined_second one other both p q le = record {
  which = inr refl;
  begins = shorter_begins (all_of one) (all_of other) (all_of both) (all_of-begins one both p) (all_of-begins other both q) le;
  begins_other = prefix_self (all_of other);
}

-- of equal lists
pub joined_as : {one other both this that whole : List Entry} → one ≡ this → other ≡ that → both ≡ whole → IsJoined one other both
    → IsJoined this that whole
joined_as {one} {other} {both} {this} {that} {whole} first second third joined =
    subst (IsJoined this that) third
    (subst (λ (l : List Entry). IsJoined this l both) second (subst (λ (l : List Entry). IsJoined l other both) first joined))
