use Rattle.std.proofs.Common.{List, sym, ap, subst}
use mathlib.Core.List.{IsPrefix}
use Rattle.te_lock.proofs.Beginnings.{prefix_nil}
use Rattle.te_history.specs.declared.entry.Entry.{Entry}
use Rattle.te_runtime.proofs.Calling.{prefix_then}
use Rattle.te_watch.specs.Watches.{Published}
use Rattle.te_tests_watch.proofs.rows.exchange.Goals as goal

pub publish-requires-clause-goes_on : goal.publish-requires-clause-goes_on
publish-requires-clause-goes_on g c =
    let read = c.offer-2.new.pass.read in
    subst (λ (list : List Entry). IsPrefix list read) (sym c.requires.nothing) (prefix_nil read)

pub publish-requires-2-clause-goes_on : goal.publish-requires-2-clause-goes_on
publish-requires-2-clause-goes_on g c =
    let read = c.publish.new.pass.read in
    let told : IsPrefix c.tell.new.self.list read =
    subst (λ (p : Published). IsPrefix p.list read) (sym c.tell.ensures.kept) c.publish.ensures.again in
    prefix_then c.tell.new.self.list read c.drive.new.pass.read told
    (prefix_then read c.news.new.pass.read c.drive.new.pass.read c.news.ensures.grows c.drive.ensures.grows)
