use Rattle.std.proofs.Common.{◌≡◌, ◌≤◌, take}
use Rattle.te_forms.specs.Reading.{last_posted}
use Rattle.te_forms.proofs.handing.last_post.Given as goal

-- none of the later entries posts for the thread
abbrev pub invariant-loop-k : goal.invariant-loop-k
invariant-loop-k l = record {
  within : l.k ≤ l.n;
  none_later : last_posted l.thread (take l.n l.hist.entries) ≡ last_posted l.thread (take l.k l.hist.entries);
}

abbrev pub decreases-loop-k : goal.decreases-loop-k
decreases-loop-k l = l.k
