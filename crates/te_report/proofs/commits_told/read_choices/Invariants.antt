use Rattle.std.proofs.Common.{◌≡◌, take}
use Rattle.te_report.specs.Sayings.{said_choices}
use Rattle.te_report.proofs.commits_told.read_choices.Given as goal

-- the letters so far
abbrev pub invariant-loop-letter : goal.invariant-loop-letter
invariant-loop-letter l = l.choices ≡ said_choices (take l.letter-index l.letters)
