use Rattle.std.proofs.Common.{◌≡◌, ◌<◌, true, length, refl, sym, subst}
use Rattle.std.specs.Prelude.{◌↔◌, IfOk}
use Rattle.std.proofs.lemmas.Option.{slice_get_read}
use Rattle.te_history.specs.Follows.{caller_of}
use Rattle.te_report.specs.OfScript.{taken}
use Rattle.te_report.specs.Judging.{IsWishedAt}
use Rattle.te_report.proofs.Judged.{core_of}
use Rattle.te_report.proofs.Verdicts.{ok_map, end_wished, other_wished}
use Rattle.te_report.proofs.judging.is_wished.Goals as goal

pub returns-in-End : goal.returns-in-End
returns-in-End c =
    let low = subst (λ e. caller_of e < length c.args.cores.now.items) c.in-End.is c.requires.caller in
    let found = slice_get_read c.args.cores.now.items _ c.in-End.by c.index.result.now refl low c.index.ensures in
    let own = (core_of c.args.script.now c.args.hist.now c.args.cores.now.items c.in-End.by c.index.result.now c.requires.so_far found).own in
    subst (λ e. IfOk c.ends_so.result (λ wished. (wished ≡ true) ↔ IsWishedAt c.args.script.now c.args.hist.now.entries e)) (sym c.in-End.is)
    (ok_map c.ends_so.result (λ b h. end_wished c.args.script.now c.args.hist.now c.args.cores.now.items c.requires.so_far c.in-End.by c.in-End.how c.index.result.now b found h)
    (c.ends_so.ensures (taken c.in-End.by c.args.hist.now.entries) own))

pub returns-in_default : goal.returns-in_default
returns-in_default c = other_wished c.args.script.now c.args.hist.now c.args.cores.now.items c.requires.so_far c.args.entry.now c.requires.caller c.requires.unposted c.in_default.not-End
