use Rattle.std.proofs.Common.{◌≡◌, ◌+◌, ◌≤◌, take}
use Rattle.te_watch.specs.Shadows.{shadow_of}
use Rattle.te_watch.specs.Views.{shadow_from}
use Rattle.te_watch.proofs.view.View.after.Given as goal

abbrev pub invariant-loop-entry : goal.invariant-loop-entry
invariant-loop-entry l =
    (shadow_of l.view ≡ shadow_from (shadow_of l.self) (take l.entry-index l.news))
    × (l.view.callers ≡ l.self.callers) × (l.view.front ≡ l.self.front + l.entry-index) × (l.view.commits ≤ l.view.front)
