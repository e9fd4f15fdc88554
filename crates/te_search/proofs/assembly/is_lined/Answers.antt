use Rattle.std.proofs.Common.{arith, ◌≡◌, ◌∙◌, ap, subst, Some, None, length}
use Rattle.te_trail.specs.Paths.{OnOneLine}
use Rattle.te_trail.specs.Trails.{IsClock, TellsWhether}
use Rattle.te_search.proofs.Trying.{none_there, lines_without, lines_beyond, lines_on, lines_off, lines_all, LinesTo}
use Rattle.te_trail.proofs.PastsTold.{clock_low}
use Rattle.te_terms.proofs.Lists.{get_at}
use Rattle.te_search.proofs.assembly.is_lined.Goals as goal

pub places-preserved-in_default : goal.places-preserved-in_default
places-preserved-in_default c = lines_without c.args.store.now.paths c.args.threads.now c.args.p c.args.joined.now c.places.i _
    (get_at c.args.threads.now c.places.i 0 c.places-test.true)
    (none_there c.args.joined.now c.places.i (omega (arith, c.places-test.true, c.requires.wide)) (λ x e. c.in_default.not-Some x e)) c.places.invariant

pub places-preserved-in_default-clock : goal.places-preserved-in_default-clock
places-preserved-in_default-clock c = lines_beyond c.args.store.now.paths c.args.threads.now c.args.p c.args.joined.now c.places.i _
    (get_at c.args.threads.now c.places.i 0 c.places-test.true) (subst (IsClock c.args.store.now.paths c.args.p _) c.in_default-clock.is c.clock.ensures) c.places.invariant

pub on_line-requires-clause-p_within : goal.on_line-requires-clause-p_within
on_line-requires-clause-p_within c = clock_low c.args.store.now.paths c.args.p _ c.in-Some-clock.own c.requires.path
    (subst (IsClock c.args.store.now.paths c.args.p _) c.in-Some-clock.is c.clock.ensures)

pub on_line-requires-clause-q_within : goal.on_line-requires-clause-q_within
on_line-requires-clause-q_within c = c.requires.numbers c.places.i c.in-Some.there
    (get_at c.args.joined.now c.places.i None (omega (arith, c.places-test.true, c.requires.wide)) ∙ ap Some c.in-Some.is)

pub returns-then-not-on_line : goal.returns-then-not-on_line
returns-then-not-on_line c = lines_off c.args.store.now.paths c.args.threads.now c.args.p c.args.joined.now c.places.i _ c.in-Some-clock.own c.in-Some.there
    (get_at c.args.threads.now c.places.i 0 c.places-test.true)
    (get_at c.args.joined.now c.places.i None (omega (arith, c.places-test.true, c.requires.wide)) ∙ ap Some c.in-Some.is)
    (subst (IsClock c.args.store.now.paths c.args.p _) c.in-Some-clock.is c.clock.ensures)
    (subst (TellsWhether c.args.store.now.paths c.in-Some-clock.own c.in-Some.there OnOneLine) c.if-not-on_line.true c.on_line.ensures)

pub places-preserved : goal.places-preserved
places-preserved c = lines_on c.args.store.now.paths c.args.threads.now c.args.p c.args.joined.now c.places.i _ c.in-Some-clock.own c.in-Some.there
    (get_at c.args.threads.now c.places.i 0 c.places-test.true)
    (get_at c.args.joined.now c.places.i None (omega (arith, c.places-test.true, c.requires.wide)) ∙ ap Some c.in-Some.is)
    (subst (IsClock c.args.store.now.paths c.args.p _) c.in-Some-clock.is c.clock.ensures)
    (subst (TellsWhether c.args.store.now.paths c.in-Some-clock.own c.in-Some.there OnOneLine) c.if-not-on_line.false c.on_line.ensures) c.places.invariant

pub returns : goal.returns
returns c = lines_all c.args.store.now.paths c.args.threads.now c.args.p c.args.joined.now
    (subst (LinesTo c.args.store.now.paths c.args.threads.now c.args.p c.args.joined.now)
    (let e : c.places.i ≡ length c.args.threads.now = omega (arith, c.places.auto.i-end, c.places-test.false) in e) c.places.invariant)
