-- One more item in a padded array.
use Rattle.std.proofs.Common.{◌≡◌, ℕ, suc, ◌+◌, ◌-◌, ◌<◌, ◌≤◌, List, [], ◌∷◌, ◌++◌, length, take, drop, set, replicate, sym, ap, ◌∙◌, append_assoc, arith}
use Rattle.std.proofs.lemmas.List.{length-append, length-replicate, drop-replicate, take_more_set}
use Rattle.std.proofs.Math.Seq.{set-append_seam, take-append_seam}
use Rattle.te_terms.specs.Padding.{padded, IsPadded, length_back}

seam : {A : Type 0} (room left : ℕ) (filler x : A) (front : List A) → room - length front ≡ suc left → room - length (front ++ x ∷ []) ≡ left →
    set (padded room filler front) (length front) x ≡ padded room filler (front ++ x ∷ [])
seam room left filler x front e e' = rw (e, e') (set-append_seam front filler (replicate left filler) x ∙ sym (append_assoc front (x ∷ []) (replicate left filler)))

pub padded_set : {A : Type 0} (room : ℕ) (filler x : A) (front : List A) → length front < room →
    set (padded room filler front) (length front) x ≡ padded room filler (front ++ x ∷ [])
padded_set room filler x front h =
    seam room (room - length front - 1) filler x front (omega arith) (omega (arith, length-append front (x ∷ [])))

-- the array stays padded where an item is written behind the others
pub IsPadded_more : {A : Type 0} {room : ℕ} {filler : A} {len : ℕ} {items : List A} (x : A) → IsPadded room filler len items → len < room → len < length items →
    IsPadded room filler (len + 1) (set items len x)
IsPadded_more {room = room} {filler = filler} {len = len} {items = items} x p h i =
    let more : take (len + 1) (set items len x) ≡ take len items ++ x ∷ [] = take_more_set items len x i in
    let at_len : length (take len items) ≡ len = length_back p in
    record {
      within = omega arith;
      padded_so = rw more (sym (padded_set room filler x (take len items) (omega arith)) ∙ ap (λ k. set (padded room filler (take len items)) k x) at_len ∙ ap (λ xs. set xs len x) p.padded_so);
    }

-- a padded array has the room's length
pub length_padded : {A : Type 0} {room : ℕ} {filler : A} {len : ℕ} {items : List A} → IsPadded room filler len items → length items ≡ room
length_padded {room = room} {filler = filler} {len = len} {items = items} p =
    omega (
      arith,
      p.within,
      length_back p,
      ap length p.padded_so,
      length-append (take len items) (replicate (room - length (take len items)) filler),
      length-replicate (room - length (take len items)) filler,
    )

-- a list copied over the fillers
pub IsPadded-copied : {A : Type 0} (room : ℕ) (filler : A) (xs ys : List A) → ys ≡ xs → length xs ≤ room →
    IsPadded room filler (length xs) (ys ++ drop (length xs) (replicate room filler))
IsPadded-copied room filler xs ys e h = rw (e, drop-replicate (length xs) room filler) record {
  within = h;
  padded_so = ap (padded room filler) (take-append_seam xs (replicate (room - length xs) filler));
}
