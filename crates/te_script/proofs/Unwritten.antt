-- Before any outcome no register is read that isn't written, so the registers' values at the start don't matter.
use Rattle.std.proofs.Common.{◌≡◌, ◌≢◌, ℕ, zero, suc, ◌<◌, ◌≤◌, Bool, true, false, cond, eqb, ltb, Option, List, [], ◌∷◌, length, map, drop, refl, sym, ap, subst, ◌∙◌, arith}
use Rattle.std.proofs.lemmas.Bool.{eqb-false}
use Rattle.te_terms.specs.declared.value.Atom.{Atom}
use Rattle.te_terms.specs.Expressions.{Variable, register}
use Rattle.te_terms.specs.Terms.{registers_to}
use Rattle.te_script.specs.Scripts.{Statement, with_register, Thread, IsThread}
use Rattle.te_script.specs.declared.script.Stmt.{Stmt}
use Rattle.te_script.specs.declared.wish.Spot.{Spot}
use Rattle.te_script.specs.Wishes.{Step, syncing, emitting, flat}
use Rattle.te_script.specs.Texts.{statement_of}
use Rattle.te_script.specs.Cores.{stand_at, without_register, under, next_at, steps_behind, steps_left_at, Settles}
use Rattle.te_script.proofs.Replacing.{Keeps, expression_kept, event_kept}
use Rattle.te_script.proofs.Rebinding.{without_at}
use Rattle.te_script.proofs.StepsInScope.{AreSteps, thread_steps}

below : (b : Bool) (q r k : ℕ) → ltb r k ≡ b → r ≤ k → q < cond b k (suc r) → q ≢ r → q < k
below true q r k e le lt ne = lt
below false q r k e le lt ne = omega (arith, ne)

Keeps-without : (f : Variable → Variable) (r k : ℕ) → r ≤ k → Keeps f k → Keeps (without_register r f) (with_register k r)
Keeps-without f r k le kept = record { registers = λ q lt. at q lt (eqb q r) refl; names = kept.names }
  where
    at : (q : ℕ) → q < with_register k r → (b : Bool) → eqb q r ≡ b → without_register r f (register q) ≡ register q
    at q lt true e = without_at r q f true e
    at q lt false e = without_at r q f false e ∙ kept.registers q (below (ltb r k) q r k refl le lt (eqb-false q r e))

under_kept : (channels k : ℕ) (ss : List Step) (f : Variable → Variable) → Keeps f k → AreSteps channels k ss → under f ss ≡ ss
under_kept channels k [] f kept h = refl
under_kept channels k (emitting at e ∷ ss) f kept h =
    λ i. emitting at (expression_kept f (record { written = k; level = 0; channels = channels }) e kept h.0 i) ∷ under_kept channels k ss f kept h.1 i
under_kept channels k (syncing at r t ∷ ss) f kept h =
    λ i. syncing at r (event_kept f (record { written = k; level = 0; channels = channels }) t kept h.1 i) ∷ under_kept channels (with_register k r)
    ss (without_register r f) (Keeps-without f r k h.0 kept) h.2 i

nothing_written : (channels : ℕ) (t : Thread) (regs : List (List Atom)) → IsThread channels t → under (registers_to regs) (flat t) ≡ flat t
nothing_written channels t regs h = under_kept channels 0 (flat t) (registers_to regs) (record { registers = λ r lt. absurd (omega arith); names = λ n. refl }) (thread_steps channels t h)

-- where a thread stands at its start
pub first_stand : (t : Thread) (stmts : List Stmt) (spot : Spot) {regs now : List (List Atom)} {raised : Option (List Atom)} → map statement_of stmts ≡ t.statements → IsThread 256 t
    → Settles regs (steps_behind 0 (map statement_of stmts)) [] raised (steps_left_at spot (map statement_of stmts)) now
    → record { emitted = now; next = next_at raised regs (steps_left_at spot t.statements) } ≡ stand_at (flat t) []
first_stand t stmts spot {regs = regs} {now = now} {raised = raised} is h settles =
    let stands = subst (λ (ss : List Statement). stand_at (under (registers_to regs) (steps_behind 0 ss)) []
    ≡ record { emitted = now; next = next_at raised regs (steps_left_at spot ss) }) is settles.stands in
    sym stands ∙ ap (λ (ss : List Step). stand_at ss []) (nothing_written 256 t regs h)
