use Rattle.std.proofs.Common.{◌≡◌, ◌≤◌, ap, ap₂, ◌∙◌, sym, subst, length, take, Some, None, slice_get, arith, rules, ◌++◌, ◌∷◌, [], List}
use Rattle.te_terms.specs.declared.event.Parked.{Parked}
use Rattle.te_terms.specs.Joint.{member_of, as_group, as_member}
use Rattle.te_trail.specs.Trails.{Trail, unplanted, with_event}
use Rattle.te_terms.proofs.Lists.{found_here}
use Rattle.te_trail.proofs.EventsFound.{not_before, one_more, all_taken}
use Rattle.te_trail.proofs.store.TrailStore.new.Goals as goal

pub put-requires : goal.put-requires
put-requires c =
    let at : slice_get c.args.parked.now c.events.i ≡ Some c.index-parked-i.result = found_here c.args.parked.now c.events.i c.index-parked-i.result c.events-test.true c.index-parked-i.is in
    record { new = ap (member_of c.index-parked-i.result.thread) c.events.invariant.0 ∙ not_before c.args.parked.now c.events.i c.index-parked-i.result c.requires.rising at }

pub events-preserved : goal.events-preserved
events-preserved c =
    let at : slice_get c.args.parked.now c.events.i ≡ Some c.index-parked-i.result = found_here c.args.parked.now c.events.i c.index-parked-i.result c.events-test.true c.index-parked-i.is in (
      ap (λ (t : Trail). t.events) c.in_ok-put.ensures.ok ∙ ap (λ es. es ++ (as_member c.index-parked-i.result ∷ []))
          c.events.invariant.0 ∙ one_more c.args.parked.now c.events.i c.index-parked-i.result at,
      ap (λ (t : Trail). t.paths) c.in_ok-put.ensures.ok ∙ c.events.invariant.1,
      ap (λ (t : Trail). t.marks) c.in_ok-put.ensures.ok ∙ c.events.invariant.2,
    )

pub returns : goal.returns
returns c = all_taken c.events.store c.args.parked.now c.events.i c.events.invariant.0 c.events.invariant.1 c.events.invariant.2 (omega (arith, c.events-test.false))
