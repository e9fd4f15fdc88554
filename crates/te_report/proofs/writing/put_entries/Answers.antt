use Rattle.std.proofs.Common.{sym, ◌∙◌, subst, List}
use Rattle.te_script.specs.Cores.{At}
use Rattle.te_report.specs.Following.{HasCore}
use Rattle.te_report.proofs.PutLines.{ready, goes_on}
use Rattle.te_report.proofs.writing.put_entries.Goals as goal

pub site_of-site-requires : goal.site_of-site-requires
site_of-site-requires c =
    let has = ready c.args.hist.now.callers c.args.script.now c.args.hist.now.entries c.loop-at.at c.in-Some.entry.now c.requires.callers
    c.len-at-end.ensures.loose c.requires.of_script (sym c.in-Some.ensures) in
    subst (λ (cores : List At). HasCore cores c.in-Some.entry.now) (sym (c.deref.ensures.value ∙ c.loop-at.invariant.0)) has

pub follow-requires : goal.follow-requires
follow-requires c =
    let has = ready c.args.hist.now.callers c.args.script.now c.args.hist.now.entries c.loop-at.at c.in-Some.entry.now c.requires.callers
    c.len-at-end.ensures.loose c.requires.of_script (sym c.in-Some.ensures) in
    subst (λ (cores : List At). HasCore cores c.in-Some.entry.now) (sym c.loop-at.invariant.0) has

pub loop-at-preserved : goal.loop-at-preserved
loop-at-preserved c =
    goes_on c.args.script.now c.args.hist.now.callers c.args.hist.now.entries c.loop-at.at c.in-Some.entry.now c.args.out.now.items c.loop-at.out.items c.put_line.new.out.items
    c.loop-at.cores.items c.deref.result.now c.follow.new.cores.items c.site_of-site.result
    c.requires.callers c.len-at-end.ensures.loose c.requires.of_script (sym c.in-Some.ensures) c.loop-at.invariant.0 c.loop-at.invariant.1
    c.deref.ensures.value c.site_of-site.ensures c.in_ok-put_line.ensures c.follow.ensures
