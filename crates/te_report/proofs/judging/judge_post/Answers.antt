use Rattle.std.proofs.Common.{refl, sym, subst}
use Rattle.std.proofs.lemmas.Option.{slice_get_read}
use Rattle.te_report.specs.declared.fault.Cause.TheVariants as causes
use Rattle.te_report.specs.declared.saying.Said.TheVariants as says
use Rattle.te_report.specs.OfScript.{taken}
use Rattle.te_report.specs.Judging.{IsFailing}
use Rattle.te_report.proofs.Judged.{core_of}
use Rattle.te_report.proofs.Verdicts.{post_refused, post_stands, post_elsewhere, post_fails}
use Rattle.te_report.proofs.judging.judge_post.Goals as goal
use Rattle.te_report.proofs.judging.judge_post.Goals.{else-sites-via-then-sites+else-not-is_site, else-sites-via-else-sites}

pub returns-in-Some : goal.returns-in-Some
returns-in-Some c =
    let refused = rw c.in-Some.is at c.in_ok-fault-in-Sync.ensures.refused in
    post_refused c.args.script.now c.args.hist.now c.args.cores.now.items c.requires.so_far c.args.sites c.args.by c.args.ticket c.args.site c.in-Sync.event c.in-Some.fault refused

pub returns-then-not-is_site : goal.returns-then-not-is_site
returns-then-not-is_site c =
    let found = slice_get_read c.args.cores.now.items _ c.args.by c.index-core.result.now refl c.requires.caller c.index-core.ensures in
    let own = (core_of c.args.script.now c.args.hist.now c.args.cores.now.items c.args.by c.index-core.result.now c.requires.so_far found).own in
    let outs = taken c.args.by c.args.hist.now.entries in
    let follows = rw c.in_default-2.is at c.in_ok-fault-in-Sync.ensures.follows in
    subst (λ s. IsFailing s c.args.script.now c.args.hist.now (says.Post c.args.by c.args.ticket c.args.site) causes.Script) (sym c.if-sites.true)
    (post_elsewhere c.args.script.now c.args.hist.now c.args.cores.now.items c.requires.so_far c.args.by c.index-core.result.now found c.in_ok-event.field-0 (c.in_ok-event.ensures.after outs own)
    c.args.ticket c.args.site c.in-Sync.event c.site.result follows (c.site.ensures.after outs own) (λ e. let t = c.is_site.ensures.1 e in absurd cc))

pub returns-else-sites : goal.returns-else-sites
returns-else-sites c =
    let found = slice_get_read c.args.cores.now.items _ c.args.by c.index-core.result.now refl c.requires.caller c.index-core.ensures in
    let own = (core_of c.args.script.now c.args.hist.now c.args.cores.now.items c.args.by c.index-core.result.now c.requires.so_far found).own in
    let outs = taken c.args.by c.args.hist.now.entries in
    let follows = rw c.in_default-2.is at c.in_ok-fault-in-Sync.ensures.follows in
    post_stands c.args.script.now c.args.hist.now c.args.cores.now.items c.requires.so_far c.args.by c.index-core.result.now found c.in_ok-event.field-0 (c.in_ok-event.ensures.after outs own)
    c.args.sites c.args.ticket c.args.site c.in-Sync.event c.in-Sync.is follows
    (elim c.else-sites.branch [
      | else-sites-via-then-sites+else-not-is_site w ↦ λ on. (w.site.result, w.site.ensures.after outs own, w.is_site.ensures.0 w.if-not-is_site.false)
      | else-sites-via-else-sites w ↦ λ on. absurd (let off = w.if-sites.false in cc)
    ])

pub returns-in_ok-unwished_post-in_default : goal.returns-in_ok-unwished_post-in_default
returns-in_ok-unwished_post-in_default c =
    let found = slice_get_read c.args.cores.now.items _ c.args.by c.index-core.result.now refl c.requires.caller c.index-core.ensures in
    let own = (core_of c.args.script.now c.args.hist.now c.args.cores.now.items c.args.by c.index-core.result.now c.requires.so_far found).own in
    post_fails c.args.script.now c.args.hist.now c.args.cores.now.items c.requires.so_far c.args.by c.index-core.result.now found c.in_ok-event.field-0
    (c.in_ok-event.ensures.after (taken c.args.by c.args.hist.now.entries) own) c.args.sites c.args.ticket c.args.site (c.in_ok-unwished_post-in_default.field-0) c.in_default.not-Sync
    (c.in_ok-unwished_post-in_default.ensures)
