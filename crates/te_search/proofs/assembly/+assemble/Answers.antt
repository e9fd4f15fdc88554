use Rattle.std.proofs.Common.{arith, ◌≡◌, ◌<◌, ◌+◌, ◌-◌, suc, refl, subst, Some, None, length, min, get_or, le_refl}
use Rattle.te_trail.specs.Trails.{IsPathThread}
use Rattle.te_search.specs.Assemblies.{TellsLined, Assembles, TriesOnly}
use Rattle.te_search.specs.Finals.{numbers_of}
use Rattle.te_search.proofs.FinalsTold.{stand_in, bucket_has}
use Rattle.te_search.proofs.Trying.{TriedTo, open_low, tried_none, tried_thread, tried_off, tried_fails, tried_all, tried_spent, tried_beyond, tried_found}
use Rattle.te_terms.proofs.Lists.{get_at}
use Rattle.te_search.proofs.assembly.+assemble.Goals as goal

pub tries-init : goal.tries-init
tries-init t c = (
  le_refl c.args.left.now,
  subst (TriedTo c.args.store.now.events c.args.store.now.paths c.args.threads.now (numbers_of c.args.finals.now) c.bucket-there.result.now c.args.joined.now
      (get_or c.args.threads.now c.in-Some.place 0) 0)
      (let e : 0 ≡ c.args.left.now - c.args.left.now = omega arith in e)
      (tried_none c.args.store.now.events c.args.store.now.paths c.args.threads.now (numbers_of c.args.finals.now) c.bucket-there.result.now c.args.joined.now
      (get_or c.args.threads.now c.in-Some.place 0)),
  stand_in c.args.store.now.events c.args.store.now.paths c.args.threads.now c.args.finals.now
      (min (get_or c.args.threads.now c.in-Some.place 0) 64) c.bucket-there.result.now c.requires.stand
      c.bucket-there.ensures,
)

pub tries-preserved-then-thread : goal.tries-preserved-then-thread
tries-preserved-then-thread t c = (
  c.tries.invariant.0,
  tried_thread c.args.store.now.events c.args.store.now.paths c.args.threads.now (numbers_of c.args.finals.now)
      c.bucket-there.result.now c.args.joined.now _ c.tries.f-index _ c.thread.result (c.args.left.now - c.tries.left)
      (get_at c.bucket-there.result.now c.tries.f-index 0 c.tries-test.true) c.thread.ensures c.if-thread.true c.tries.invariant.1,
  c.tries.invariant.2,
)

pub is_lined-requires-clause-path : goal.is_lined-requires-clause-path
is_lined-requires-clause-path t c = c.tries.invariant.2.finals_low c.tries.f-index _ (get_at c.bucket-there.result.now c.tries.f-index 0 c.tries-test.true)

pub tries-preserved-then-not-is_lined : goal.tries-preserved-then-not-is_lined
tries-preserved-then-not-is_lined t c = (
  c.tries.invariant.0,
  tried_off c.args.store.now.events c.args.store.now.paths c.args.threads.now (numbers_of c.args.finals.now)
      c.bucket-there.result.now c.args.joined.now _ c.tries.f-index _ (c.args.left.now - c.tries.left)
      c.tries.invariant.2
      (get_at c.bucket-there.result.now c.tries.f-index 0 c.tries-test.true)
      (subst (TellsLined c.args.store.now.paths c.args.threads.now _ c.args.joined.now) c.if-not-is_lined.true c.is_lined.ensures) c.tries.invariant.1,
  c.tries.invariant.2,
)

pub take_in-requires-clause-path : goal.take_in-requires-clause-path
take_in-requires-clause-path t c = c.tries.invariant.2.finals_low c.tries.f-index _ (get_at c.bucket-there.result.now c.tries.f-index 0 c.tries-test.true)

pub returns-then-left-eq0-clause-tried : goal.returns-then-left-eq0-clause-tried
returns-then-left-eq0-clause-tried t c h =
    tried_spent c.args.store.now.events c.args.store.now.paths c.args.threads.now (numbers_of c.args.finals.now)
    c.bucket-there.result.now c.args.joined.now c.in-Some.place _
    c.tries.f-index _ (c.args.left.now - c.tries.left) (c.args.left.now - c.tries.left + 1) c.tries.invariant.2
    (get_at c.args.threads.now c.in-Some.place 0 (open_low c.args.store.now.events c.args.store.now.paths c.args.threads.now c.args.joined.now c.in-Some.place c.requires.wide
    c.in-Some.ensures)) c.in-Some.ensures
    (get_at c.bucket-there.result.now c.tries.f-index 0 c.tries-test.true) (subst (IsPathThread c.args.store.now.paths _) c.if-thread.false c.thread.ensures)
    (subst (TellsLined c.args.store.now.paths c.args.threads.now _ c.args.joined.now) c.if-not-is_lined.false c.is_lined.ensures) refl c.tries.invariant.1

pub returns-in-Err-assemble-clause-tried : goal.returns-in-Err-assemble-clause-tried
returns-in-Err-assemble-clause-tried t c h =
    let low : 0 < c.tries.left = omega (arith, c.if-left-eq0.false) in
    let is : c.args.left.now - c.assemble.new.left + 1 ≡ (c.args.left.now - c.tries.left) + suc ((c.tries.left - 1) - c.assemble.new.left + 1) = omega
    (arith, low, c.tries.invariant.0, c.in-Err-assemble.ensures.falls) in
    tried_beyond c.args.store.now.events c.args.store.now.paths c.args.threads.now (numbers_of c.args.finals.now)
    c.bucket-there.result.now c.args.joined.now c.in-Ok-take_in.more.items c.in-Some.place _
    c.tries.f-index _ (c.args.left.now - c.tries.left) ((c.tries.left - 1) - c.assemble.new.left + 1) (c.args.left.now - c.assemble.new.left + 1) c.tries.invariant.2
    (get_at c.args.threads.now c.in-Some.place 0 (open_low c.args.store.now.events c.args.store.now.paths c.args.threads.now c.args.joined.now c.in-Some.place c.requires.wide
    c.in-Some.ensures)) c.in-Some.ensures
    (get_at c.bucket-there.result.now c.tries.f-index 0 c.tries-test.true) (subst (IsPathThread c.args.store.now.paths _) c.if-thread.false c.thread.ensures)
    (subst (TellsLined c.args.store.now.paths c.args.threads.now _ c.args.joined.now) c.if-not-is_lined.false c.is_lined.ensures)
    c.in-Ok-take_in.ensures.taken (subst (λ l. TriesOnly c.args.store.now.events c.args.store.now.paths c.args.threads.now l
    ((c.tries.left - 1) - c.assemble.new.left + 1)) c.deref.ensures.value (c.in-Err-assemble.ensures.tried h)) is c.tries.invariant.1

pub returns-in-Ok-Some-clause-ok : goal.returns-in-Ok-Some-clause-ok
returns-in-Ok-Some-clause-ok t c =
    let low : 0 < c.tries.left = omega (arith, c.if-left-eq0.false) in
    let is : c.args.left.now - c.assemble.new.left ≡ (c.args.left.now - c.tries.left) + suc ((c.tries.left - 1) - c.assemble.new.left) = omega
    (arith, low, c.tries.invariant.0, c.in-Ok-Some.ensures.falls) in
    tried_found c.args.store.now.events c.args.store.now.paths c.args.threads.now (numbers_of c.args.finals.now)
    c.bucket-there.result.now c.args.joined.now c.in-Ok-take_in.more.items c.in-Some.place _
    c.tries.f-index _ (c.args.left.now - c.tries.left) ((c.tries.left - 1) - c.assemble.new.left)
    (c.args.left.now - c.assemble.new.left) c.in-Ok-Some.group c.tries.invariant.2
    (get_at c.args.threads.now c.in-Some.place 0 (open_low c.args.store.now.events c.args.store.now.paths c.args.threads.now c.args.joined.now c.in-Some.place c.requires.wide
    c.in-Some.ensures)) c.in-Some.ensures
    (get_at c.bucket-there.result.now c.tries.f-index 0 c.tries-test.true) (subst (IsPathThread c.args.store.now.paths _) c.if-thread.false c.thread.ensures)
    (subst (TellsLined c.args.store.now.paths c.args.threads.now _ c.args.joined.now) c.if-not-is_lined.false c.is_lined.ensures)
    c.in-Ok-take_in.ensures.taken (subst (λ l. Assembles c.args.store.now.events c.args.store.now.paths c.args.threads.now (numbers_of c.args.finals.now) l
    ((c.tries.left - 1) - c.assemble.new.left) (Some c.in-Ok-Some.group)) c.deref.ensures.value (rw c.in-Ok-Some.field-0-is at c.in-Ok-Some.ensures.ok)) is c.tries.invariant.1

pub tries-preserved : goal.tries-preserved
tries-preserved t c =
    let low : 0 < c.tries.left = omega (arith, c.if-left-eq0.false) in
    let is : c.args.left.now - c.assemble.new.left ≡ (c.args.left.now - c.tries.left) + suc ((c.tries.left - 1) - c.assemble.new.left) = omega
    (arith, low, c.tries.invariant.0, c.in-Ok-None.ensures.falls) in (
      omega (arith, c.tries.invariant.0, c.in-Ok-None.ensures.falls),
      tried_fails c.args.store.now.events c.args.store.now.paths c.args.threads.now (numbers_of c.args.finals.now)
          c.bucket-there.result.now c.args.joined.now c.in-Ok-take_in.more.items c.in-Some.place _
          c.tries.f-index _ (c.args.left.now - c.tries.left) ((c.tries.left - 1) - c.assemble.new.left) (c.args.left.now - c.assemble.new.left) c.tries.invariant.2
          (get_at c.args.threads.now c.in-Some.place 0 (open_low c.args.store.now.events c.args.store.now.paths c.args.threads.now c.args.joined.now c.in-Some.place
          c.requires.wide c.in-Some.ensures)) c.in-Some.ensures
          (get_at c.bucket-there.result.now c.tries.f-index 0 c.tries-test.true) (subst (IsPathThread c.args.store.now.paths _) c.if-thread.false c.thread.ensures)
          (subst (TellsLined c.args.store.now.paths c.args.threads.now _ c.args.joined.now) c.if-not-is_lined.false c.is_lined.ensures)
          c.in-Ok-take_in.ensures.taken (subst (λ l. Assembles c.args.store.now.events c.args.store.now.paths c.args.threads.now (numbers_of c.args.finals.now) l
          ((c.tries.left - 1) - c.assemble.new.left) None) c.deref.ensures.value (rw c.in-Ok-None.field-0-is at c.in-Ok-None.ensures.ok)) is c.tries.invariant.1,
      c.tries.invariant.2,
    )

pub returns-clause-ok : goal.returns-clause-ok
returns-clause-ok t c = tried_all c.args.store.now.events c.args.store.now.paths c.args.threads.now
    (numbers_of c.args.finals.now) c.bucket-there.result.now c.args.joined.now c.in-Some.place
    (get_or c.args.threads.now c.in-Some.place 0) (c.args.left.now - c.tries.left) c.requires.stand
    (get_at c.args.threads.now c.in-Some.place 0 (open_low c.args.store.now.events c.args.store.now.paths c.args.threads.now c.args.joined.now c.in-Some.place c.requires.wide
    c.in-Some.ensures)) c.in-Some.ensures
    (bucket_has c.args.store.now.paths c.args.finals.now (get_or c.args.threads.now c.in-Some.place 0) c.bucket-there.result.now c.requires.told c.bucket-there.ensures)
    (subst (λ n. TriedTo c.args.store.now.events c.args.store.now.paths c.args.threads.now
    (numbers_of c.args.finals.now) c.bucket-there.result.now c.args.joined.now
    (get_or c.args.threads.now c.in-Some.place 0) n
    (c.args.left.now - c.tries.left)) (let e : c.tries.f-index ≡ length c.bucket-there.result.now = omega
    (arith, c.tries.auto.f-index-end, c.tries-test.false) in e) c.tries.invariant.1)
