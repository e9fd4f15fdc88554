use Rattle.std.proofs.Common.{◌≡◌, map, take}
use Rattle.te_cert.specs.Certs.{letters_of}
use Rattle.te_trail.specs.Trails.{label_of}
use Rattle.te_search.proofs.certifying.letters.Given as goal

abbrev pub invariant-moves : goal.invariant-moves
invariant-moves l = l.letters ≡ letters_of l.thread (map label_of (take l.i l.word))
