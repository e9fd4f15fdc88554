use Rattle.std.proofs.Common.{◌++◌, [], ◌∷◌, ap, ◌∙◌}
use Rattle.std.specs.Prelude.{List}
use Rattle.te_history.specs.Histories.{History}
use Rattle.te_history.specs.declared.entry.Entry.{Entry}
use Rattle.te_report.proofs.Followed.{ready, one_more}
use Rattle.te_report.proofs.reading.append.Goals as goal

pub follow-requires : goal.follow-requires
follow-requires c =
    ready c.args.script.now c.args.hist.now c.args.cores.now.items c.args.entry c.requires.so_far c.requires.wished c.len.ensures.loose c.requires.follows

pub returns-clause-so_far : goal.returns-clause-so_far
returns-clause-so_far c =
    one_more c.args.script.now c.args.hist.now c.args.cores.now.items c.args.entry c.requires.so_far c.requires.wished c.push.new.self c.follow.new.cores.items
    (ap (λ (h : History). h.callers) c.push.ensures ∙ c.in_ok-reserve.ensures.callers)
    (ap (λ (h : History). h.entries) c.push.ensures ∙ ap (λ (es : List Entry). es ++ c.args.entry ∷ []) c.in_ok-reserve.ensures.entries)
    c.follow.ensures
