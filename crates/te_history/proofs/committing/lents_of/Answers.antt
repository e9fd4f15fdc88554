use Rattle.std.proofs.Common.{◌≡◌, ℕ, ◌+◌, List, [], ◌∷◌, ◌++◌, take, map, get_or, sym, ap, subst, ◌∙◌, add-one}
use Rattle.std.proofs.Math.Seq.{take-suc}
use Rattle.std.proofs.lemmas.List.{map-append}
use Rattle.te_terms.specs.Terms.{Term}
use Rattle.te_cert.specs.declared.cert.Member.{Member}
use Rattle.te_cert.specs.Lending.{lent_term, lent_terms}
use Rattle.te_cert.proofs.EventsLent.{lent_more}
use Rattle.te_history.specs.Histories.{now}
use Rattle.te_history.specs.Refusals.{AreParked}
use Rattle.te_terms.proofs.Lists.{get_at}
use Rattle.te_history.proofs.Events.{parked_more}
use Rattle.te_history.proofs.committing.lents_of.Goals as goal

pub parked_event-requires : goal.parked_event-requires
parked_event-requires c =
    let m : Member = get_or c.args.members.now c.loop-i.i c.index-members-i.result in
    (m.ticket, c.requires c.loop-i.i m (get_at c.args.members.now c.loop-i.i c.index-members-i.result c.loop-i-test.true))

pub loop-i-preserved : goal.loop-i-preserved
loop-i-preserved c =
    let m : Member = get_or c.args.members.now c.loop-i.i c.index-members-i.result in
    let stands = c.parked_event.ensures m.ticket (c.requires c.loop-i.i m (get_at c.args.members.now c.loop-i.i c.index-members-i.result c.loop-i-test.true)) in
    let longer : take (c.loop-i.i + 1) c.args.members.now ≡ take c.loop-i.i c.args.members.now ++ m ∷ [] =
    ap (λ (n : ℕ). take n c.args.members.now) (add-one c.loop-i.i) ∙ take-suc c.args.members.now c.loop-i.i c.index-members-i.result c.loop-i-test.true in
    let pushed : lent_terms c.push.new.self.items ≡ lent_terms c.loop-i.lents.items ++ c.parked_event.result.now ∷ [] =
    ap lent_terms c.in_ok-push.ensures.items ∙ map-append lent_term c.loop-i.lents.items (c.of.result ∷ []) ∙ ap (λ (e : Term). lent_terms c.loop-i.lents.items ++ e ∷ []) c.of.ensures.term in
    record {
      parked = subst (λ (ms : List Member). AreParked (now c.args.hist.now) ms (lent_terms c.push.new.self.items)) (sym longer)
          (subst (AreParked (now c.args.hist.now) (take c.loop-i.i c.args.members.now ++ m ∷ [])) (sym pushed)
          (parked_more (now c.args.hist.now) (take c.loop-i.i c.args.members.now) (lent_terms c.loop-i.lents.items) m c.parked_event.result.now c.loop-i.invariant.parked stands));
      lent = rw c.in_ok-push.ensures.items (lent_more c.loop-i.lents.items c.of.result c.loop-i.invariant.lent c.of.ensures.lent);
    }
