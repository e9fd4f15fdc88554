use Rattle.std.proofs.Common.{◌≡◌, ◌≤◌, take}
use Rattle.tevents.specs.Summaries.{posts_in, commits_in}
use Rattle.tevents.proofs.generating.counts_of.Given as goal

-- the counts of the entries so far
abbrev pub invariant-loop-at : goal.invariant-loop-at
invariant-loop-at l = (l.posts ≡ posts_in (take l.at l.hist.entries)) × (l.commits ≡ commits_in (take l.at l.hist.entries)) × (l.posts ≤ l.at) × (l.commits ≤ l.at)
