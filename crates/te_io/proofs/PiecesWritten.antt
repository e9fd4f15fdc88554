-- Pieces that were written one after another are one piece.
use Rattle.std.proofs.Common.{◌≡◌, ◌+◌, ◌-◌, ◌≤◌, ℕ, List, ◌++◌, length, take, drop, append_assoc, arith, length-drop}
use Rattle.std.specs.Prelude.{Option}
use Rattle.std.proofs.Math.Seq.{take-add}
use Rattle.std.proofs.lemmas.List.{drop-drop, take_rest}
use Rattle.te_io.specs.Stream.{GrewBy, GrewByPrefix}

-- the sink took the bytes before the rest, and no others
pub record IsWritten (before now : Option (List ℕ)) (bytes rest : List ℕ) : Type 0 where
  pub count : ℕ
  pub fits : count ≤ length bytes
  pub rest_is : rest ≡ drop count bytes
  pub grew : GrewBy before now (take count bytes)

-- the rest is as long as what the others leave
pub rest_length : {before now : Option (List ℕ)} {bytes rest : List ℕ} (w : IsWritten before now bytes rest)
    → length rest + w.count ≡ length bytes
rest_length {before} {now} {bytes} {rest} w =
    let same : length rest ≡ length bytes - w.count = rw w.rest_is (length-drop w.count bytes) in
    let fits : w.count ≤ length bytes = w.fits in
    omega arith

-- growing by the first n bytes and then by a piece of the rest is growing by the longer front
grew_on : {before now after : Option (List ℕ)} {bytes rest : List ℕ} (n : ℕ) → (w : IsWritten before now bytes rest)
    → GrewBy now after (take n rest) → GrewBy before after (take (w.count + n) bytes)
grew_on {before} {now} {after} {bytes} {rest} n w grew held was =
    let joined : take (w.count + n) bytes ≡ take w.count bytes ++ take n rest =
    rw w.rest_is (take-add w.count n bytes) in
    rw (joined, ← append_assoc) (grew (held ++ take w.count bytes) (w.grew held was))

-- the first bytes of the rest are written too
pub piece_written : {before now after : Option (List ℕ)} {bytes rest : List ℕ} (n : ℕ) → IsWritten before now bytes rest
    → n ≤ length rest → GrewBy now after (take n rest) → IsWritten before after bytes (take (length rest - n) (drop n rest))
piece_written {before} {now} {after} {bytes} {rest} n w fits grew =
    let whole : length rest + w.count ≡ length bytes = rest_length w in
    record {
      count = w.count + n;
      fits = omega arith;
      rest_is = rw (take_rest, w.rest_is, drop-drop);
      grew = grew_on n w grew;
    }

-- a prefix of the rest makes a longer prefix
pub prefix_written : {before now after : Option (List ℕ)} {bytes rest : List ℕ} → IsWritten before now bytes rest
    → GrewByPrefix now after rest → GrewByPrefix before after bytes
prefix_written {before} {now} {after} {bytes} {rest} w (n, fits, grew) =
    let whole : length rest + w.count ≡ length bytes = rest_length w in
    (w.count + n, omega arith, grew_on n w grew)
