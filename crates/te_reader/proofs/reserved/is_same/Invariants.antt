use Rattle.std.proofs.Common.{◌≡◌, drop, length}
use Rattle.std.specs.Str.{bytes_eq}
use Rattle.te_reader.proofs.reserved.is_same.Given as goal

abbrev pub invariant-bytes : goal.invariant-bytes
invariant-bytes l = (bytes_eq (drop l.i l.bytes) (drop l.i l.word) ≡ bytes_eq l.bytes l.word) × (length l.bytes ≡ length l.word)
