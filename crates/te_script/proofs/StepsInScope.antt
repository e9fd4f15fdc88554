-- The steps of a thread read only registers that earlier steps wrote, also in later passes of a repeat.
use Rattle.std.proofs.Common.{◌≡◌, ℕ, zero, suc, ◌+◌, ◌≤◌, ◌<◌, Bool, true, false, cond, ltb, List, [], ◌∷◌, ◌++◌, take, drop, refl, sym, ap, subst, arith}
use Rattle.std.proofs.lemmas.Bool.{ltb-true, ltb-false}
use Rattle.te_script.specs.Scripts.{Statement, sync, emit, repeat, AreSyncs, AreStatements, with_register, IsExpression, IsEvent, Thread, IsThread}
use Rattle.te_script.specs.Wishes.{Step, syncing, emitting, pass_over, passes_over, flat_from, flat}
use Rattle.te_script.proofs.MoreChannels.{expression, event}

-- each step reads only what was written before it
abbrev pub AreSteps : ℕ → ℕ → List Step → Type 0
AreSteps channels w [] = Unit {0}
AreSteps channels w (emitting at e ∷ ss) = IsExpression (record { written = w; level = 0; channels = channels }) e × AreSteps channels w ss
AreSteps channels w (syncing at r t ∷ ss) = (r ≤ w) × IsEvent (record { written = w; level = 0; channels = channels }) t × AreSteps channels (with_register w r) ss

-- how many registers have been written by then
abbrev written_by : ℕ → List Step → ℕ
written_by w [] = w
written_by w (emitting at e ∷ ss) = written_by w ss
written_by w (syncing at r t ∷ ss) = written_by (with_register w r) ss

grows : (w r : ℕ) (b : Bool) → ltb r w ≡ b → w ≤ cond b w (suc r)
grows w r true e = omega arith
grows w r false e = omega (arith, ltb-false r w e)

-- one register more, however many were written
later : (w u r : ℕ) (b c : Bool) → ltb r w ≡ b → ltb r u ≡ c → w ≤ u → cond b w (suc r) ≤ cond c u (suc r)
later w u r true true e f le = le
later w u r true false e f le = absurd (omega (arith, ltb-true r w e, ltb-false r u f, le))
later w u r false true e f le = ltb-true r u f
later w u r false false e f le = omega arith

written_grows : (w : ℕ) (ss : List Step) → w ≤ written_by w ss
written_grows w [] = omega arith
written_grows w (emitting at e ∷ ss) = written_grows w ss
written_grows w (syncing at r t ∷ ss) = omega (arith, grows w r (ltb r w) refl, written_grows (with_register w r) ss)

AreSteps-later : (channels w u : ℕ) (ss : List Step) → w ≤ u → AreSteps channels w ss → AreSteps channels u ss
AreSteps-later channels w u [] le h = tt
AreSteps-later channels w u (emitting at e ∷ ss) le h = (expression channels channels w u (omega arith) le 0 e h.0, AreSteps-later channels w u ss le h.1)
AreSteps-later channels w u (syncing at r t ∷ ss) le h = (
  omega (arith, h.0, le),
  event channels channels w u (omega arith) le 0 t h.1,
  AreSteps-later channels (with_register w r) (with_register u r) ss (later w u r (ltb r w) (ltb r u) refl refl le) h.2,
)

AreSteps-append : (channels w u : ℕ) (ss more : List Step) → AreSteps channels w ss → u ≤ written_by w ss → AreSteps channels u more → AreSteps channels w (ss ++ more)
AreSteps-append channels w u [] more h le go = AreSteps-later channels u w more le go
AreSteps-append channels w u (emitting at e ∷ ss) more h le go = (h.0, AreSteps-append channels w u ss more h.1 le go)
AreSteps-append channels w u (syncing at r t ∷ ss) more h le go = (h.0, h.1, AreSteps-append channels (with_register w r) u ss more h.2 le go)

written_append : (w : ℕ) (ss more : List Step) → written_by w ss ≤ written_by w (ss ++ more)
written_append w [] more = written_grows w more
written_append w (emitting at e ∷ ss) more = written_append w ss more
written_append w (syncing at r t ∷ ss) more = written_append (with_register w r) ss more

-- how many registers have been written behind a body, in the order of the text
abbrev written_behind : ℕ → ℕ → List Statement → ℕ
written_behind zero w ss = w
written_behind (suc count) w [] = w
written_behind (suc count) w (sync r t ∷ ss) = written_behind count (with_register w r) ss
written_behind (suc count) w (emit e ∷ ss) = written_behind count w ss
written_behind (suc count) w (repeat times more ∷ ss) = written_behind count w ss

one_pass : (channels registers w count number pass : ℕ) (ss : List Statement) → AreStatements channels registers w ss → AreSyncs count ss
    → AreSteps channels w (pass_over number pass (take count ss)) × (written_by w (pass_over number pass (take count ss)) ≡ written_behind count w ss)
one_pass channels registers w zero number pass ss h body = (tt, refl)
one_pass channels registers w (suc count) number pass [] h body = absurd body
one_pass channels registers w (suc count) number pass (sync r t ∷ ss) h body =
    let rest = one_pass channels registers (with_register w r) count (suc number) pass ss h.3 body in
    ((h.0, h.1, rest.0), rest.1)
one_pass channels registers w (suc count) number pass (emit e ∷ ss) h body = absurd body
one_pass channels registers w (suc count) number pass (repeat times more ∷ ss) h body = absurd body

all_passes : (channels registers w count times number pass : ℕ) (ss : List Statement) → AreStatements channels registers w ss → AreSyncs count ss
    → AreSteps channels w (passes_over times number pass (take count ss))
all_passes channels registers w count zero number pass ss h body = tt
all_passes channels registers w count (suc times) number pass ss h body =
    AreSteps-append channels w w (pass_over number pass (take count ss)) (passes_over times number (suc pass) (take count ss)) (one_pass channels registers w count number pass ss h body).0
    (written_grows w (pass_over number pass (take count ss))) (all_passes channels registers w count times number (suc pass) ss h body)

passes_write : (channels registers w count times number : ℕ) (ss : List Statement) → AreStatements channels registers w ss → AreSyncs count ss → 0 < times
    → written_behind count w ss ≤ written_by w (passes_over times number 0 (take count ss))
passes_write channels registers w count zero number ss h body lt = absurd (omega arith)
passes_write channels registers w count (suc times) number ss h body lt =
    omega (arith, written_append w (pass_over number 0 (take count ss)) (passes_over times number 1 (take count ss)), (one_pass channels registers w count number 0 ss h body).1)

all_steps : (channels registers w number count : ℕ) (ss : List Statement) → AreStatements channels registers w ss → AreSyncs count ss
    → AreSteps channels (written_behind count w ss) (flat_from number count ss)
all_steps channels registers w number zero [] h body = tt
all_steps channels registers w number (suc count) [] h body = absurd body
all_steps channels registers w number (suc count) (sync r t ∷ ss) h body = all_steps channels registers (with_register w r) (suc number) count ss h.3 body
all_steps channels registers w number (suc count) (emit e ∷ ss) h body = absurd body
all_steps channels registers w number (suc count) (repeat times more ∷ ss) h body = absurd body
all_steps channels registers w number zero (sync r t ∷ ss) h body = (h.0, h.1, all_steps channels registers (with_register w r) (suc number) 0 ss h.3 tt)
all_steps channels registers w number zero (emit e ∷ ss) h body = (h.0, all_steps channels registers w (suc number) 0 ss h.1 tt)
all_steps channels registers w number zero (repeat times count ∷ ss) h body =
    AreSteps-append channels w (written_behind count w ss) (passes_over times (suc number) 0 (take count ss)) (flat_from (suc number) count ss)
    (all_passes channels registers w count times (suc number) 0 ss h.1 h.0.body)
    (passes_write channels registers w count times (suc number) ss h.1 h.0.body h.0.some_times)
    (all_steps channels registers w (suc number) count ss h.1 h.0.body)

pub thread_steps : (channels : ℕ) (t : Thread) → IsThread channels t → AreSteps channels 0 (flat t)
thread_steps channels t h = all_steps channels _ 0 1 0 t.statements h.in_order tt
