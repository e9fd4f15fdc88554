use Rattle.std.proofs.Common.{ap, arith, ◌≡◌, ◌∙◌, sym, subst, ◌+◌, ◌-◌, List, ℕ, false}
use Rattle.te_trail.specs.declared.store.PathRecord.{PathRecord}
use Rattle.te_trail.specs.Ticks.{AreRising, between, ticks_of}
use Rattle.te_trail.specs.Walks.{TicksAreLow, TellsFit}
use Rattle.te_trail.specs.Clocks.{Agree}
use Rattle.te_trail.specs.Stores.{IsStore}
use Rattle.te_trail.specs.Trails.{TellsWhether, Trail}
use Rattle.te_trail.proofs.ClockLaws.{Agrees}
use Rattle.te_trail.proofs.StoresHold.{is_store, tells_agree, tells_chain}
use Rattle.te_trail.proofs.ClocksWalk.{IsKnown, known, agree_same, agree_told}
use Rattle.te_trail.proofs.store.TrailStore.agree.Goals as goal

pub returns-then-a-b-clause-clocks : goal.returns-then-a-b-clause-clocks
returns-then-a-b-clause-clocks c = tells_agree c.args.self.now.events c.args.self.now.paths
    (subst (λ (t : Trail). IsStore t.events t.paths) c.self.view_is
    (is_store c.self.inside.events.items c.self.inside.cells c.self.inside.records.items c.self.inside.ticks.items
    c.self.invariant.kept)) c.args.p c.args.q false (agree_same c.args.self.now.paths c.args.p c.args.q
    c.index-a.result.now.thread c.index-b.result.now.thread
    (known c.self.inside.records.items c.self.inside.ticks.items c.args.self.now.paths c.self.invariant.kept.fit
    (ap (λ t. t.paths) c.self.view_is) c.args.p c.index-a.result.now c.requires.p_within c.index-a.ensures).thread
    (known c.self.inside.records.items c.self.inside.ticks.items c.args.self.now.paths c.self.invariant.kept.fit
    (ap (λ t. t.paths) c.self.view_is) c.args.q c.index-b.result.now c.requires.q_within c.index-b.ensures).thread
    c.if-a-b.true)

pub returns-then-a-b-clause-chain : goal.returns-then-a-b-clause-chain
returns-then-a-b-clause-chain c = tells_chain c.args.self.now.events c.args.self.now.paths
    (subst (λ (t : Trail). IsStore t.events t.paths) c.self.view_is
    (is_store c.self.inside.events.items c.self.inside.cells c.self.inside.records.items c.self.inside.ticks.items
    c.self.invariant.kept)) c.args.p c.args.q false (agree_same c.args.self.now.paths c.args.p c.args.q
    c.index-a.result.now.thread c.index-b.result.now.thread
    (known c.self.inside.records.items c.self.inside.ticks.items c.args.self.now.paths c.self.invariant.kept.fit
    (ap (λ t. t.paths) c.self.view_is) c.args.p c.index-a.result.now c.requires.p_within c.index-a.ensures).thread
    (known c.self.inside.records.items c.self.inside.ticks.items c.args.self.now.paths c.self.invariant.kept.fit
    (ap (λ t. t.paths) c.self.view_is) c.args.q c.index-b.result.now c.requires.q_within c.index-b.ensures).thread
    c.if-a-b.true)

pub slice_bounds-all_fit-end : goal.slice_bounds-all_fit-end
slice_bounds-all_fit-end c = let w = (known c.self.inside.records.items c.self.inside.ticks.items c.args.self.now.paths
    c.self.invariant.kept.fit (ap (λ t. t.paths) c.self.view_is) c.args.p c.index-a.result.now c.requires.p_within
    c.index-a.ensures).within in omega (arith, w, c.deref.ensures.len)

pub slice_bounds-all_fit-end-2 : goal.slice_bounds-all_fit-end-2
slice_bounds-all_fit-end-2 c = let w = (known c.self.inside.records.items c.self.inside.ticks.items
    c.args.self.now.paths c.self.invariant.kept.fit (ap (λ t. t.paths) c.self.view_is) c.args.q c.index-b.result.now
    c.requires.q_within c.index-b.ensures).within in omega (arith, w, c.deref-2.ensures.len)

pub all_fit-requires-clause-firsts_rise : goal.all_fit-requires-clause-firsts_rise
all_fit-requires-clause-firsts_rise c = subst (λ ts. AreRising (ticks_of ts c.index-a.result.now.clock))
    (sym c.deref.ensures.value) (known c.self.inside.records.items c.self.inside.ticks.items c.args.self.now.paths
    c.self.invariant.kept.fit (ap (λ t. t.paths) c.self.view_is) c.args.p c.index-a.result.now c.requires.p_within
    c.index-a.ensures).rising

pub all_fit-requires-clause-seconds_rise : goal.all_fit-requires-clause-seconds_rise
all_fit-requires-clause-seconds_rise c = subst (λ ts. AreRising (ticks_of ts c.index-b.result.now.clock))
    (sym c.deref-2.ensures.value) (known c.self.inside.records.items c.self.inside.ticks.items c.args.self.now.paths
    c.self.invariant.kept.fit (ap (λ t. t.paths) c.self.view_is) c.args.q c.index-b.result.now c.requires.q_within
    c.index-b.ensures).rising

pub all_fit-requires-clause-firsts_low : goal.all_fit-requires-clause-firsts_low
all_fit-requires-clause-firsts_low c = subst (λ ts. TicksAreLow c.args.self.now.paths
    (ticks_of ts c.index-a.result.now.clock)) (sym c.deref.ensures.value)
    (known c.self.inside.records.items c.self.inside.ticks.items c.args.self.now.paths c.self.invariant.kept.fit
    (ap (λ t. t.paths) c.self.view_is) c.args.p c.index-a.result.now c.requires.p_within c.index-a.ensures).named_low

pub all_fit-requires-clause-seconds_low : goal.all_fit-requires-clause-seconds_low
all_fit-requires-clause-seconds_low c = subst (λ ts. TicksAreLow c.args.self.now.paths
    (ticks_of ts c.index-b.result.now.clock)) (sym c.deref-2.ensures.value)
    (known c.self.inside.records.items c.self.inside.ticks.items c.args.self.now.paths c.self.invariant.kept.fit
    (ap (λ t. t.paths) c.self.view_is) c.args.q c.index-b.result.now c.requires.q_within c.index-b.ensures).named_low

pub returns-clause-clocks : goal.returns-clause-clocks
returns-clause-clocks c = tells_agree c.args.self.now.events c.args.self.now.paths
    (subst (λ (t : Trail). IsStore t.events t.paths) c.self.view_is
    (is_store c.self.inside.events.items c.self.inside.cells c.self.inside.records.items c.self.inside.ticks.items
    c.self.invariant.kept)) c.args.p c.args.q c.all_fit.result
    (agree_told c.self.inside.records.items c.self.inside.ticks.items c.args.self.now.paths c.args.p c.args.q
    c.index-a.result.now c.index-b.result.now
    (known c.self.inside.records.items c.self.inside.ticks.items c.args.self.now.paths c.self.invariant.kept.fit
    (ap (λ t. t.paths) c.self.view_is) c.args.p c.index-a.result.now c.requires.p_within c.index-a.ensures)
    (known c.self.inside.records.items c.self.inside.ticks.items c.args.self.now.paths c.self.invariant.kept.fit
    (ap (λ t. t.paths) c.self.view_is) c.args.q c.index-b.result.now c.requires.q_within c.index-b.ensures)
    c.if-a-b.false c.all_fit.result (subst (λ ts. TellsFit c.args.self.now.paths c.index-a.result.now.thread
    c.index-b.result.now.thread (ticks_of ts c.index-a.result.now.clock)
    (ticks_of c.self.inside.ticks.items c.index-b.result.now.clock) c.all_fit.result) c.deref.ensures.value
    (subst (λ ts. TellsFit c.args.self.now.paths c.index-a.result.now.thread c.index-b.result.now.thread
    (ticks_of c.deref.result.now c.index-a.result.now.clock)
    (ticks_of ts c.index-b.result.now.clock) c.all_fit.result) c.deref-2.ensures.value c.all_fit.ensures)))

pub returns-clause-chain : goal.returns-clause-chain
returns-clause-chain c = tells_chain c.args.self.now.events c.args.self.now.paths
    (subst (λ (t : Trail). IsStore t.events t.paths) c.self.view_is
    (is_store c.self.inside.events.items c.self.inside.cells c.self.inside.records.items c.self.inside.ticks.items
    c.self.invariant.kept)) c.args.p c.args.q c.all_fit.result
    (agree_told c.self.inside.records.items c.self.inside.ticks.items c.args.self.now.paths c.args.p c.args.q
    c.index-a.result.now c.index-b.result.now
    (known c.self.inside.records.items c.self.inside.ticks.items c.args.self.now.paths c.self.invariant.kept.fit
    (ap (λ t. t.paths) c.self.view_is) c.args.p c.index-a.result.now c.requires.p_within c.index-a.ensures)
    (known c.self.inside.records.items c.self.inside.ticks.items c.args.self.now.paths c.self.invariant.kept.fit
    (ap (λ t. t.paths) c.self.view_is) c.args.q c.index-b.result.now c.requires.q_within c.index-b.ensures)
    c.if-a-b.false c.all_fit.result (subst (λ ts. TellsFit c.args.self.now.paths c.index-a.result.now.thread
    c.index-b.result.now.thread (ticks_of ts c.index-a.result.now.clock)
    (ticks_of c.self.inside.ticks.items c.index-b.result.now.clock) c.all_fit.result) c.deref.ensures.value
    (subst (λ ts. TellsFit c.args.self.now.paths c.index-a.result.now.thread c.index-b.result.now.thread
    (ticks_of c.deref.result.now c.index-a.result.now.clock)
    (ticks_of ts c.index-b.result.now.clock) c.all_fit.result) c.deref-2.ensures.value c.all_fit.ensures)))
