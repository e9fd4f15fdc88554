-- A thread emits as many values as it has emits: no repeat has one.
use Rattle.std.proofs.Common.{◌≡◌, ℕ, zero, suc, ◌+◌, List, [], ◌∷◌, ◌++◌, take, drop, refl, sym, ap, ◌∙◌, arith}
use Rattle.te_script.specs.Scripts.{Statement, sync, emit, repeat, AreSyncs, AreStatements, with_register, Thread, IsThread}
use Rattle.te_script.specs.Wishes.{Step, syncing, emitting, pass_over, passes_over, flat_from}
use Rattle.te_script.specs.Cores.{emits_left, emits_in, HasBodies}

emits_both : (ss more : List Step) → emits_left (ss ++ more) ≡ emits_left ss + emits_left more
emits_both [] more = omega arith
emits_both (syncing at r t ∷ ss) more = emits_both ss more
emits_both (emitting at e ∷ ss) more = omega (arith, emits_both ss more)

pass_silent : (count number pass : ℕ) (ss : List Statement) → AreSyncs count ss → emits_left (pass_over number pass (take count ss)) ≡ 0
pass_silent zero number pass ss h = refl
pass_silent (suc count) number pass [] h = absurd h
pass_silent (suc count) number pass (sync r t ∷ ss) h = pass_silent count (suc number) pass ss h
pass_silent (suc count) number pass (emit e ∷ ss) h = absurd h
pass_silent (suc count) number pass (repeat times more ∷ ss) h = absurd h

passes_silent : (times count number pass : ℕ) (ss : List Statement) → AreSyncs count ss → emits_left (passes_over times number pass (take count ss)) ≡ 0
passes_silent zero count number pass ss h = refl
passes_silent (suc times) count number pass ss h =
    omega (
      arith,
      emits_both (pass_over number pass (take count ss)) (passes_over times number (suc pass) (take count ss)),
      pass_silent count number
          pass ss h,
      passes_silent times count number (suc pass) ss h,
    )

body_silent : (count : ℕ) (ss : List Statement) → AreSyncs count ss → emits_in (drop count ss) ≡ emits_in ss
body_silent zero ss h = refl
body_silent (suc count) [] h = absurd h
body_silent (suc count) (sync r t ∷ ss) h = body_silent count ss h
body_silent (suc count) (emit e ∷ ss) h = absurd h
body_silent (suc count) (repeat times more ∷ ss) h = absurd h

emits_from : (number count : ℕ) (ss : List Statement) → HasBodies ss → emits_left (flat_from number count ss) ≡ emits_in (drop count ss)
emits_from number zero [] h = refl
emits_from number (suc count) [] h = refl
emits_from number (suc count) (sync r t ∷ ss) h = emits_from (suc number) count ss h
emits_from number (suc count) (emit e ∷ ss) h = emits_from (suc number) count ss h
emits_from number (suc count) (repeat times more ∷ ss) h = emits_from (suc number) count ss h.1
emits_from number zero (sync r t ∷ ss) h = emits_from (suc number) 0 ss h
emits_from number zero (emit e ∷ ss) h = ap suc (emits_from (suc number) 0 ss h)
emits_from number zero (repeat times count ∷ ss) h =
    omega (
      arith,
      emits_both (passes_over times (suc number) 0 (take count ss)) (flat_from (suc number) count ss),
      passes_silent times count
          (suc number) 0 ss h.0.body,
      emits_from (suc number) count ss h.1,
      body_silent count ss h.0.body,
    )

pub emits_whole : (ss : List Statement) → HasBodies ss → emits_left (flat_from 1 0 ss) ≡ emits_in ss
emits_whole ss h = emits_from 1 0 ss h

bodies_in : (channels registers w : ℕ) (ss : List Statement) → AreStatements channels registers w ss → HasBodies ss
bodies_in channels registers w [] h = tt
bodies_in channels registers w (sync r t ∷ ss) h = bodies_in channels registers (with_register w r) ss h.3
bodies_in channels registers w (emit e ∷ ss) h = bodies_in channels registers w ss h.1
bodies_in channels registers w (repeat times count ∷ ss) h = (h.0, bodies_in channels registers w ss h.1)

-- each repeat of a thread has its body
pub thread_bodies : (channels : ℕ) (t : Thread) → IsThread channels t → HasBodies t.statements
thread_bodies channels t h = bodies_in channels _ 0 t.statements h.in_order
