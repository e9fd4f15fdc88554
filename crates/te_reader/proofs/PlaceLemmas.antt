-- Counting lines and columns byte by byte.
use Rattle.std.proofs.Common.{◌≡◌, ℕ, suc, ◌+◌, ◌<◌, ◌≤◌, false, nat_eq, List, [], ◌∷◌, ◌++◌, length, take, get_or, refl, sym, ◌∙◌, ap, arith, add-one}
use Rattle.std.specs.Prelude.{if◌then◌else◌, ◌==◌}
use Rattle.std.proofs.Math.Seq.{take-suc}
use Rattle.std.proofs.lemmas.Bool.{ne_eqb}
use Rattle.te_reader.specs.Places.{feeds, since_feed}

abbrev feed : ℕ → ℕ
feed b = if b == 10 then 1 else 0

abbrev next_column : ℕ → ℕ → ℕ
next_column b k = if b == 10 then 0 else suc k

feeds_push : (bs : List ℕ) (b : ℕ) → feeds (bs ++ b ∷ []) ≡ feeds bs + feed b
feeds_push [] b = omega arith
feeds_push (x ∷ xs) b = omega (arith, feeds_push xs b)

since_push : (k : ℕ) (bs : List ℕ) (b : ℕ) → since_feed k (bs ++ b ∷ []) ≡ next_column b (since_feed k bs)
since_push k [] b = refl
since_push k (x ∷ xs) b = since_push (if x == 10 then 0 else suc k) xs b

-- line and column behind so many bytes
pub record IsPlaceBehind (i : ℕ) (bs : List ℕ) (line column : ℕ) : Type 0 where
  pub line_is : line ≡ suc (feeds (take i bs))
  pub column_is : column ≡ suc (since_feed 0 (take i bs))
  pub few_lines : line ≤ suc i
  pub few_columns : column ≤ suc i

pub at_front : (bs : List ℕ) → IsPlaceBehind 0 bs 1 1
at_front bs = record { line_is = refl; column_is = refl; few_lines = omega arith; few_columns = omega arith }

module _ (i : ℕ) (bs : List ℕ) (line column : ℕ) (inside : i < length bs) (at : IsPlaceBehind i bs line column) where
  next_take : take (i + 1) bs ≡ take i bs ++ get_or bs i 0 ∷ []
  next_take = ap (λ k. take k bs) (add-one i) ∙ take-suc bs i 0 inside

  next_feeds : feeds (take (i + 1) bs) ≡ feeds (take i bs) + feed (get_or bs i 0)
  next_feeds = ap feeds next_take ∙ feeds_push (take i bs) (get_or bs i 0)

  next_since : since_feed 0 (take (i + 1) bs) ≡ next_column (get_or bs i 0) (since_feed 0 (take i bs))
  next_since = ap (since_feed 0) next_take ∙ since_push 0 (take i bs) (get_or bs i 0)

  pub behind_feed : get_or bs i 0 ≡ 10 → IsPlaceBehind (i + 1) bs (line + 1) 1
  behind_feed e =
      let one : feed (get_or bs i 0) ≡ 1 = rw e refl in
      let none : next_column (get_or bs i 0) (since_feed 0 (take i bs)) ≡ 0 = rw e refl in
      record {
        line_is = omega (arith, at.line_is, next_feeds, one);
        column_is = ap suc (sym (next_since ∙ none));
        few_lines = omega (arith, at.few_lines);
        few_columns = omega arith;
      }

  pub behind_other : nat_eq (get_or bs i 0) 10 ≡ false → IsPlaceBehind (i + 1) bs line (column + 1)
  behind_other e =
      let one : feed (get_or bs i 0) ≡ 0 = rw e refl in
      let more : next_column (get_or bs i 0) (since_feed 0 (take i bs)) ≡ suc (since_feed 0 (take i bs)) = rw e refl in
      record {
        line_is = omega (arith, at.line_is, next_feeds, one);
        column_is = omega (arith, at.column_is, next_since, more);
        few_lines = omega (arith, at.few_lines);
        few_columns = omega (arith, at.few_columns);
      }

pub other_byte : (b : ℕ) → (b ≡ 10 → ⊥) → nat_eq b 10 ≡ false
other_byte b h = ne_eqb b 10 h
