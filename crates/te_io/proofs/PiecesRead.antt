-- Pieces that were read one after another are the front of what the source held.
use Rattle.std.proofs.Common.{◌≡◌, ◌+◌, ◌<◌, ◌≤◌, ℕ, List, ◌++◌, [], length, take, drop, Some, sym, ◌∙◌, ap, arith, length-append}
use Rattle.std.specs.Prelude.{Option}
use Rattle.std.proofs.Math.Seq.{take-add}
use Rattle.std.proofs.lemmas.List.{append-nil, drop-drop, take-append-drop, length-take-le, take_all, drop_all}
use Rattle.te_io.specs.Stream.{GaveAll, GaveFirst, HoldsNothing, HoldsRest}

-- what was read is the front of what was held, and is no more than was asked for
pub record IsRead (before now : Option (List ℕ)) (read : List ℕ) (most : ℕ) : Type 0 where
  pub front : GaveFirst (length read) before now read
  pub bound : length read ≤ most + 1

-- a further piece
pub piece_read : {before now after : Option (List ℕ)} {read : List ℕ} {most : ℕ} (n : ℕ) (piece : List ℕ)
    → IsRead before now read most → n ≤ length piece → length read + n ≤ most + 1 → GaveFirst n now after (take n piece)
    → IsRead before after (read ++ take n piece) most
piece_read {before} {now} {after} {read} {most} n piece r fits room gave =
    let longer : length (read ++ take n piece) ≡ length read + n =
    length-append read (take n piece) ∙ ap (λ k. length read + k) (length-take-le n piece fits) in
    record {
      front = λ bytes was.
          let rest : List ℕ = drop (length read) bytes in
          let old = r.front bytes was in
          let new = gave rest old.1 in
          let joined : read ++ take n piece ≡ take (length read + n) bytes =
          ap (λ xs. xs ++ take n piece) old.0 ∙ ap (λ xs. take (length read) bytes ++ xs) new.0 ∙ sym (take-add (length read) n bytes) in
          rw longer (joined, new.1 ∙ ap Some (drop-drop n (length read) bytes));
      bound = rw longer room;
    }

-- all that was asked for
pub read_full : {before now : Option (List ℕ)} {read : List ℕ} {most : ℕ} → IsRead before now read most → most < length read
    → GaveFirst (most + 1) before now read
read_full {before} {now} {read} {most} r full =
    let bound : length read ≤ most + 1 = r.bound in
    let all : length read ≡ most + 1 = omega arith in
    rw all at r.front

-- at the end of the source all was given
pub read_all : {before now after : Option (List ℕ)} {read given : List ℕ} {most n : ℕ} → IsRead before now read most
    → n ≡ 0 → GaveFirst n now after given → HoldsNothing after → GaveAll before after read
read_all {before} {now} {after} {read} {given} {most} {n} r none_given gave nothing bytes was =
    let old = r.front bytes was in
    let rest : List ℕ = drop (length read) bytes in
    let left : after ≡ Some rest = (gave rest old.1).1 ∙ ap (λ k. Some (drop k rest)) none_given in
    let none : drop (length read) bytes ≡ [] = nothing (drop (length read) bytes) left in
    let joined : take (length read) bytes ++ [] ≡ bytes =
    rw (← none) (take-append-drop (length read) bytes) in
    (old.0 ∙ sym (append-nil (take (length read) bytes)) ∙ joined, left ∙ ap Some none)

-- what is all is the front too
pub all_is_first : {before now : Option (List ℕ)} {read : List ℕ} (n : ℕ) → length read ≤ n → GaveAll before now read
    → GaveFirst n before now read
all_is_first {before} {now} {read} n fits gave bytes was =
    let all = gave bytes was in
    let short : length bytes ≤ n = rw all.0 at fits in
    (all.0 ∙ sym (take_all n bytes short), all.1 ∙ ap Some (sym (drop_all n bytes short)))

-- what was not read is left, where a last piece was read that is lost
pub rest_left_after : {before now after : Option (List ℕ)} {read given : List ℕ} {most : ℕ} (n : ℕ) → IsRead before now read most
    → length read + n ≤ most + 1 → GaveFirst n now after given → HoldsRest (most + 1) before after
rest_left_after {before} {now} {after} {read} {given} {most} n r room gave bytes was =
    let rest : List ℕ = drop (length read) bytes in
    (length read + n, room, (gave rest (r.front bytes was).1).1 ∙ ap Some (drop-drop n (length read) bytes))
