use Rattle.std.proofs.Common.{◌≡◌, length, All}
use Rattle.left_right.specs.Sides.{view}
use Rattle.te_watch.specs.Watches.{IsNewObserver}
use Rattle.te_watch.proofs.watching.observers_of.Given as goal

abbrev pub invariant-loop : goal.invariant-loop
invariant-loop l =
    (length l.made.items ≡ l.counter) × All (IsNewObserver l.notice.watch) l.made.items
    × (l.writer.desk.shown ≡ l.fn.writer.desk.shown) × (l.writer.log ≡ l.fn.writer.log) × (l.writer.behind ≡ l.fn.writer.behind)
    × (view l.writer.desk.place ≡ view l.fn.writer.desk.place)
