use Rattle.std.proofs.Common.{◌+◌, take, ap, ◌∙◌}
use Rattle.te_watch.proofs.Shadowing.{first_after}
use Rattle.te_watch.proofs.view.View.add.Goals as goal

pub returns-clause-shadow : goal.returns-clause-shadow
returns-clause-shadow c =
    let v = c.args.self.now in
    let lights = ap (take v.callers) c.change.ensures ∙ first_after v.callers v.lights c.args.entry.now in
    λ i. record {
      front = v.front + 1;
      commits = c.count-self.ensures.value i;
      phase = c.declared-self.ensures i;
      resting = c.rested-self.ensures i;
      lights = lights i;
    }
