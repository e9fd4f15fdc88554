-- The site of a thread's wish has numbers of 32 bits.
use Rattle.std.proofs.Common.{◌≡◌, ℕ, zero, suc, ◌+◌, ◌^◌, ◌<◌, ◌≤◌, List, [], ◌∷◌, ◌++◌, length, take, Some, Result, Ok, Err, arith}
use Rattle.std.specs.List.{AllByRecursion}
use Rattle.te_terms.specs.declared.value.Atom.{Atom}
use Rattle.te_terms.specs.declared.value.Trap.{Trap}
use Rattle.te_terms.specs.declared.event.Outcome.{Outcome}
use Rattle.te_terms.specs.declared.event.Outcome.TheVariants.{Gives, Raises}
use Rattle.te_terms.specs.Expressions.{Variable, in_expression, value_of}
use Rattle.te_terms.specs.Terms.{Term}
use Rattle.te_script.specs.Limits.{most_times}
use Rattle.te_script.specs.Scripts.{Statement, sync, emit, repeat, with_register, AreStatements, Thread, IsThread}
use Rattle.te_script.specs.Wishes.{Step, syncing, emitting, site_at, steps_of, pass_over, passes_over, flat_from, flat}
use Rattle.te_script.specs.Wishes.{syncs, holding, Doing, synchronises, ends, has_raised, Reached, emits_or, reached_by}
use Rattle.te_script.specs.Wishes.{reached, wish_of, wish, site_of, site}
use Rattle.te_report.specs.Readable.{IsSite}

-- ---- steps

abbrev IsSited : Step → Type 0
IsSited (syncing at r t) = IsSite (Some at)
IsSited (emitting at e) = Unit {0}

both_sited : (xs ys : List Step) → AllByRecursion IsSited xs → AllByRecursion IsSited ys → AllByRecursion IsSited (xs ++ ys)
both_sited [] ys hx hy = hy
both_sited (x ∷ xs) ys hx hy = (hx.0, both_sited xs ys hx.1 hy)

step_sited : (s : Statement) (number pass : ℕ) → number < 2 ^ 32 → pass < 2 ^ 32 → AllByRecursion IsSited (steps_of (site_at number pass) s)
step_sited (sync r t) number pass n p = ((n, p), tt)
step_sited (emit e) number pass n p = (tt, tt)
step_sited (repeat times count) number pass n p = tt

pass_sited : (number pass : ℕ) (ss : List Statement) → number + length ss < 2 ^ 32 → pass < 2 ^ 32 → AllByRecursion IsSited (pass_over number pass ss)
pass_sited number pass [] n p = tt
pass_sited number pass (s ∷ ss) n p =
    both_sited (steps_of (site_at number pass) s) (pass_over (suc number) pass ss) (step_sited s number pass (omega (arith, n)) p) (pass_sited (suc number) pass ss (omega (arith, n)) p)

passes_sited : (more number pass : ℕ) (body : List Statement) → number + length body < 2 ^ 32 → pass + more < 2 ^ 32 → AllByRecursion IsSited (passes_over more number pass body)
passes_sited zero number pass body n p = tt
passes_sited (suc more) number pass body n p =
    both_sited (pass_over number pass body) (passes_over more number (suc pass) body) (pass_sited number pass body n (omega (arith, p))) (passes_sited more number (suc pass) body n (omega (arith, p)))

-- ---- the statements of a thread

abbrev IsLow : Statement → Type 0
IsLow (sync r t) = Unit {0}
IsLow (emit e) = Unit {0}
IsLow (repeat times count) = times ≤ most_times

all_low : (channels registers written : ℕ) (ss : List Statement) → AreStatements channels registers written ss → AllByRecursion IsLow ss
all_low channels registers written [] h = tt
all_low channels registers written (sync r t ∷ ss) h = (tt, all_low channels registers (with_register written r) ss h.3)
all_low channels registers written (emit e ∷ ss) h = (tt, all_low channels registers written ss h.1)
all_low channels registers written (repeat times count ∷ ss) h = (h.0.most, all_low channels registers written ss h.1)

take_short : (n : ℕ) (ss : List Statement) → length (take n ss) ≤ length ss
take_short zero [] = omega arith
take_short (suc n) [] = omega arith
take_short zero (s ∷ ss) = omega arith
take_short (suc n) (s ∷ ss) = let rest = take_short n ss in omega (arith, rest)

flat_sited : (number done : ℕ) (ss : List Statement) → number + length ss < 2 ^ 32 → AllByRecursion IsLow ss → AllByRecursion IsSited (flat_from number done ss)
flat_sited number done [] n h = tt
flat_sited number (suc done) (s ∷ ss) n h = flat_sited (suc number) done ss (omega (arith, n)) h.1
flat_sited number zero (sync r t ∷ ss) n h = ((omega (arith, n), omega arith), flat_sited (suc number) zero ss (omega (arith, n)) h.1)
flat_sited number zero (emit e ∷ ss) n h = (tt, flat_sited (suc number) zero ss (omega (arith, n)) h.1)
flat_sited number zero (repeat times count ∷ ss) n h =
    let short = take_short count ss in
    let low = h.0 in
    both_sited (passes_over times (suc number) 0 (take count ss)) (flat_from (suc number) count ss)
    (passes_sited times (suc number) 0 (take count ss) (omega (arith, n, short)) (omega (arith, low))) (flat_sited (suc number) count ss (omega (arith, n)) h.1)

-- ---- where a thread has come to

abbrev DoesSited : Doing → Type 0
DoesSited (synchronises at t) = IsSite (Some at)
DoesSited ends = Unit {0}
DoesSited (has_raised v) = Unit {0}

emits_sited : (r : Result (List Atom) Trap) (emitted : List (List Atom)) (go : List (List Atom) → Reached)
    → ((more : List (List Atom)) → DoesSited (go more).does) → DoesSited (emits_or r emitted go).does
emits_sited (Ok v) emitted go rest = rest (emitted ++ v ∷ [])
emits_sited (Err t) emitted go rest = tt

reached_sited : (by : Variable → Variable) (emitted : List (List Atom)) (steps : List Step) (outs : List Outcome) → AllByRecursion IsSited steps → DoesSited (reached_by by emitted steps outs).does
reached_sited by emitted [] outs h = tt
reached_sited by emitted (emitting at e ∷ rest) outs h =
    emits_sited (value_of (in_expression by e)) emitted (λ more. reached_by by more rest outs) (λ more. reached_sited by more rest outs h.1)
reached_sited by emitted (syncing at r t ∷ rest) [] h = h.0
reached_sited by emitted (syncing at r t ∷ rest) (Gives v ∷ outs) h = reached_sited (holding r v by) emitted rest outs h.1
reached_sited by emitted (syncing at r t ∷ rest) (Raises v ∷ outs) h = tt

site_so : (emitted : List (List Atom)) (does : Doing) (event : Term) → DoesSited does → wish_of emitted does ≡ syncs event → IsSite (site_of does)
site_so emitted (synchronises at t) event h w = h
site_so emitted ends event h w = absurd cc
site_so emitted (has_raised v) event h w = absurd cc

pub site_fits : (channels : ℕ) (t : Thread) (outs : List Outcome) (event : Term) → IsThread channels t → wish t outs ≡ syncs event → IsSite (site t outs)
site_fits channels t outs event is w =
    let few = is.statements in
    let sited = flat_sited 1 0 t.statements (omega (arith, few)) (all_low channels _ 0 t.statements is.in_order) in
    site_so (reached t outs).emitted (reached t outs).does event (reached_sited (λ x. x) [] (flat t) outs sited) w
