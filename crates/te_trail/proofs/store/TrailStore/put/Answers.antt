use Rattle.std.proofs.Common.{◌≡◌, ap, ap₂, ◌∙◌, sym, subst, ◌<◌, length, None, ◌++◌, ◌∷◌, [], arith}
use Rattle.te_terms.specs.Terms.{closed}
use Rattle.te_terms.specs.Codes.{term_under}
use Rattle.te_terms.specs.Steps.{come_to}
use Rattle.te_terms.specs.Joint.{member_of}
use Rattle.te_trail.specs.declared.planned.Planned.{Planned}
use Rattle.te_trail.specs.Trails.{Trail, with_event}
use Rattle.te_trail.specs.Records.{members_of, StoreIsWhole}
use Rattle.te_trail.proofs.StoresKeep.{whole_put}
use Rattle.te_trail.proofs.CallsLeave.{viewed, put_view}
use Rattle.te_trail.proofs.store.TrailStore.put.Goals as goal

pub invariant_of-self-2 : goal.invariant_of-self-2
invariant_of-self-2 c =
    let new : Planned = record { code = c.in-Ok.code; root = c.parts-root.result.1; regs = c.parts-root.result.2.now; thread = c.args.parked.now.thread; ticket = c.args.parked.now.ticket } in
    subst (λ es. StoreIsWhole es c.self.inside.cells c.self.inside.records.items c.self.inside.ticks.items
    c.self.inside.marks.items) (sym (c.push_reserved.ensures.items
    ∙ ap (λ es. es ++ (new ∷ [])) c.reserve.ensures.items))
    (whole_put c.self.inside.events.items new c.self.inside.cells c.self.inside.records.items c.self.inside.ticks.items
    c.self.inside.marks.items (omega (arith, c.parts-root.ensures.within, ap length c.in-Ok.ensures))
    (subst (λ (t : Trail). member_of c.args.parked.now.thread t.events ≡ None) (sym c.self.view_is) c.requires.new)
    c.self.invariant)

pub returns-clause-ok : goal.returns-clause-ok
returns-clause-ok c =
    let new : Planned = record { code = c.in-Ok.code; root = c.parts-root.result.1; regs = c.parts-root.result.2.now; thread = c.args.parked.now.thread; ticket = c.args.parked.now.ticket } in
    ap (λ es. viewed es c.self.inside.records.items c.self.inside.marks.items) (c.push_reserved.ensures.items ∙ ap (λ es. es ++ (new ∷ [])) c.reserve.ensures.items)
    ∙ put_view c.self.inside.events.items new c.self.inside.records.items c.self.inside.marks.items c.args.self.now c.self.view_is
    ∙ ap (λ t. with_event c.args.self.now (come_to c.args.parked.now.thread c.args.parked.now.ticket 0 t))
    (ap (λ code. closed c.parts-root.result.2.now (term_under code c.parts-root.result.1)) c.in-Ok.ensures
    ∙ sym c.parts-root.ensures.term_is)
