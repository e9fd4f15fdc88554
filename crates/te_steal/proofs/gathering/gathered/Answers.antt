use Rattle.std.proofs.Common.{◌++◌, drop, length, take, ap, sym, ◌∙◌, subst}
use Rattle.std.proofs.Math.Seq.{take-append_seam}
use Rattle.te_steal.specs.Stolen.{IsLookedAt}
use Rattle.te_steal.proofs.gathering.gathered.Goals as goal

pub returns-then-whole-clause-whole : goal.returns-then-whole-clause-whole
returns-then-whole-clause-whole c =
    let looks = c.wind_up.new.looks in
    let rest = drop (length looks) c.args.boss.looks.items in
    let long = c.args.boss.looks.ok.0 ∙ ap length (sym c.deref_mut.ensures.value) ∙ sym c.wind_up.ensures.count in
    let same = ap (λ n. take n (looks ++ rest)) long ∙ take-append_seam looks rest in
    subst (IsLookedAt c.args.batch.now) (sym same) (c.in_ok-wind_up.ensures.whole c.if-whole.true)
