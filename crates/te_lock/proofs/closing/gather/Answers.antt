use Rattle.std.proofs.Common.{◌≡◌, false, ◌∷◌, ◌∙◌}
use Rattle.std.proofs.lemmas.List.Elements.{All-cons, All-weaker}
use Rattle.te_lock.specs.Gathered.{HasAllOf}
use Rattle.te_lock.proofs.Gathering.{last_of_all, moved_over}
use Rattle.te_lock.proofs.closing.gather.Goals as goal

pub take_in-requires-clause-pass : goal.take_in-requires-clause-pass
take_in-requires-clause-pass g c =
    let taken = c.loop-pass.invariant.taken in
    let last = last_of_all c.args.passes.items c.loop-pass.passes.items c.pop-in-loop-pass.new.self.items taken.0 c.in-Some-pop.pass taken.1 c.in-Some-pop.ensures.items in
    (last (λ p. p.lock.table ≡ c.args.table.now.table_id) c.requires.here, last (λ p. p.has_turn ≡ false) c.requires.idle)

pub loop-pass-preserved : goal.loop-pass-preserved
loop-pass-preserved g c =
    let taken = c.loop-pass.invariant.taken in
    let author = g.V.Kept.author in
    let pass = c.in-Some-pop.pass in
    let t = c.take_in.ensures in
    let before = c.loop-pass.seat.me.0 in
    let after = c.take_in.new.seat.me.0 in record {
      here = t.here ∙ c.loop-pass.invariant.here;
      caller = (c.loop-pass.invariant.caller.0, t.caller ∙ c.loop-pass.invariant.caller.1);
      idle = t.idle;
      taken = (
        pass ∷ taken.0,
        moved_over c.args.passes.items c.loop-pass.passes.items c.pop-in-loop-pass.new.self.items taken.0 pass taken.1 c.in-Some-pop.ensures.items,
        All-cons (λ p. HasAllOf author after p) pass taken.0 t.has (All-weaker (λ p. HasAllOf author before p) (λ p. HasAllOf author after p) t.keeps taken.0 taken.2),
      );
    }
