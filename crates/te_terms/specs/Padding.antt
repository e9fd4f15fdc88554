-- A short list in an array of fixed length, with one filler behind it.
use Rattle.std.specs.Prelude.{◌≡◌, ℕ, ◌-◌, ◌≤◌, List, ◌++◌, length, take, replicate}
use Rattle.std.proofs.Common.{arith, ap}
use Rattle.std.proofs.lemmas.List.{length-append, length-take, length-replicate}

abbrev pub padded : {A : Type 0} → ℕ → A → List A → List A
padded room filler xs = xs ++ replicate (room - length xs) filler

-- the first places hold the list, the others the filler
pub record IsPadded {A : Type 0} (room : ℕ) (filler : A) (len : ℕ) (items : List A) : Type 0 where
  pub within : len ≤ room
  pub padded_so : padded room filler (take len items) ≡ items

-- the list is as long as it says
pub length_back : {A : Type 0} {room : ℕ} {filler : A} {len : ℕ} {items : List A} → IsPadded room filler len items → length (take len items) ≡ len
length_back {room = room} {filler = filler} {len = len} {items = items} p =
    omega (
      arith,
      p.within,
      length-take len items,
      length-append (take len items) (replicate (room - length (take len items)) filler),
      length-replicate (room - length (take len items)) filler,
      ap length p.padded_so,
    )
