use Rattle.std.proofs.Common.{◌∙◌, subst}
use Rattle.te_search.specs.Assemblies.{joint, Numbers}
use Rattle.te_search.proofs.PastsJoined.{had_none, had_later, had_line, late}
use Rattle.te_search.proofs.certifying.has_move.Goals as goal

pub returns-then-k-deepest : goal.returns-then-k-deepest
returns-then-k-deepest c ps x p ex = had_line c.args.store.now.events c.args.store.now.paths c.args.threads.now c.args.joined.now ps x c.thread.result c.args.k c.in-Some.deepest
    c.on_line.result p ex (c.thread.ensures x ex) (subst (Numbers c.args.store.now.paths (joint ps c.thread.result)) c.in-Some.is
    (c.named.ensures.told c.args.store.now.paths ps p.names p.listed)) c.if-k-deepest.true c.on_line.ensures

pub returns-else-k-deepest : goal.returns-else-k-deepest
returns-else-k-deepest c ps x p ex = late c.args.k c.in-Some.deepest c.if-k-deepest.false
    ∙ had_later c.args.store.now.events c.args.store.now.paths c.args.threads.now c.args.joined.now ps x c.thread.result c.args.k c.in-Some.deepest p ex (c.thread.ensures x ex)
    (subst (Numbers c.args.store.now.paths (joint ps c.thread.result)) c.in-Some.is (c.named.ensures.told c.args.store.now.paths ps p.names p.listed)) c.if-k-deepest.false

pub returns-in-None : goal.returns-in-None
returns-in-None c ps x p ex = had_none c.args.store.now.events c.args.store.now.paths c.args.threads.now c.args.joined.now ps x c.thread.result p (c.thread.ensures x ex)
    (subst (Numbers c.args.store.now.paths (joint ps c.thread.result)) c.in-None.is (c.named.ensures.told c.args.store.now.paths ps p.names p.listed))
