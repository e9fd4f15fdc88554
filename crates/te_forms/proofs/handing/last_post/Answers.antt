use Rattle.std.proofs.Common.{◌∙◌, sym, arith}
use Rattle.te_forms.proofs.LastPosts.{found_there, not_there}
use Rattle.te_forms.proofs.handing.last_post.Goals as goal

pub returns-in-Some : goal.returns-in-Some
returns-in-Some c =
    found_there c.args.thread c.args.hist.now.entries c.loop-k.k c.entry_at.result.now c.in-Some.event.now c.loop-k-test.true c.entry_at.ensures c.in-Some.ensures
    ∙ sym c.loop-k.invariant.none_later

pub loop-k-preserved : goal.loop-k-preserved
loop-k-preserved c = record {
  within = omega (arith, c.loop-k.invariant.within);
  none_later = c.loop-k.invariant.none_later
      ∙ not_there c.args.thread c.args.hist.now.entries c.loop-k.k c.entry_at.result.now c.loop-k-test.true c.entry_at.ensures c.in-None.ensures;
}
