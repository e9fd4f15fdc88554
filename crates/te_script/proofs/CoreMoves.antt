-- How an outcome moves a core on: the register is written, and each sync writes one of the thread's registers.
use Rattle.std.proofs.Common.{◌≡◌, ℕ, zero, suc, ◌+◌, ◌≤◌, ◌<◌, Bool, true, false, ◌⊎◌, Option, Some, None, List, []}
use Rattle.std.proofs.Common.{◌∷◌, length, map, drop, slice_set, cond, ltb, eqb, eq-eqb, refl, sym, ap, subst, ◌∙◌}
use Rattle.std.proofs.Common.{arith, inl, inr}
use Rattle.std.specs.Prelude.{slice_get}
use Rattle.te_terms.specs.declared.value.Atom.{Atom}
use Rattle.std.proofs.Math.Seq.{drop-nil}
use Rattle.std.proofs.lemmas.List.{length-map}
use Rattle.std.proofs.lemmas.Bool.{cases_lt, ltb-false, ltb-true, eqb-true, eqb-false}
use Rattle.te_terms.specs.declared.event.Outcome.TheVariants.{Gives}
use Rattle.te_terms.specs.Expressions.{register, name, known}
use Rattle.te_terms.specs.Terms.{Term, registers_to, or_register}
use Rattle.te_script.specs.declared.script.Stmt.{Stmt}
use Rattle.te_script.specs.declared.wish.Spot.{Spot}
use Rattle.te_script.specs.Scripts.{Statement, sync, emit, repeat, AreStatements, with_register, Thread, IsThread}
use Rattle.te_script.specs.Wishes.{Step, syncing, emitting}
use Rattle.te_script.specs.Cores.{register_to, written, stand_at, moved, without_register, under, next_of, next_at}
use Rattle.te_script.specs.Cores.{IsWaiting, WritesTo, emits_left, Settles, IsCore, IsSyncSpot, steps_left_at}
use Rattle.te_script.specs.Cores.{steps_behind_first}
use Rattle.te_script.specs.Texts.{statement_of}
use Rattle.te_script.proofs.Places.{slice_get_set_same, slice_get_set_other}
use Rattle.te_script.proofs.EmitsDone.{nothing_from}
use Rattle.te_script.proofs.Rebinding.{IsPartial, IsPartial-without, IsWith, without_at, rebound}
use Rattle.te_script.proofs.StepsLeft.{left_sync, waits_at}

chosen : (b : Bool) (r k registers : ℕ) → ltb r k ≡ b → cond b k (suc r) ≤ registers → (k ≤ registers) × (r < registers)
chosen true r k registers e le = (le, omega (arith, ltb-true r k e))
chosen false r k registers e le = (omega (arith, ltb-false r k e), omega arith)

-- no more registers are written than there are
pub written_within : (channels registers k : ℕ) (ss : List Statement) → AreStatements channels registers k ss → k ≤ registers
written_within channels registers k [] h = omega arith
written_within channels registers k (emit e ∷ ss) h = written_within channels registers k ss h.1
written_within channels registers k (repeat times count ∷ ss) h = written_within channels registers k ss h.1
written_within channels registers k (sync r t ∷ ss) h = (chosen (ltb r k) r k registers refl (written_within channels registers (with_register k r) ss h.3)).0

-- each sync writes one of the thread's registers
pub writes_within : (channels registers k : ℕ) (ss rest : List Statement) (i r : ℕ) (t : Term) → AreStatements channels registers k ss → drop i ss ≡ sync r t ∷ rest → r < registers
writes_within channels registers k [] rest i r t h e = absurd (let nil : [] ≡ sync r t ∷ rest = sym (drop-nil i) ∙ e in cc)
writes_within channels registers k (emit x ∷ ss) rest zero r t h e = absurd cc
writes_within channels registers k (emit x ∷ ss) rest (suc i) r t h e = writes_within channels registers k ss rest i r t h.1 e
writes_within channels registers k (repeat times count ∷ ss) rest zero r t h e = absurd cc
writes_within channels registers k (repeat times count ∷ ss) rest (suc i) r t h e = writes_within channels registers k ss rest i r t h.1 e
writes_within channels registers k (sync s u ∷ ss) rest zero r t h e =
    let same : s ≡ r = cc in
    subst (λ q. q < registers) same (chosen (ltb s k) s k registers refl (written_within channels registers (with_register k s) ss h.3)).1
writes_within channels registers k (sync s u ∷ ss) rest (suc i) r t h e = writes_within channels registers (with_register k s) ss rest i r t h.3 e

registers_partial : (regs : List (List Atom)) → IsPartial (registers_to regs)
registers_partial regs = record { registers = λ r. found (slice_get regs r) r; names = λ n. refl; values = λ v. refl }
  where
    found : (o : Option (List Atom)) (r : ℕ) → (or_register o r ≡ register r) ⊎ ((v : List Atom) × (or_register o r ≡ known v))
    found None r = inl refl
    found (Some v) r = inr (v, refl)

-- register r holds the new value
set_register : (regs : List (List Atom)) (r : ℕ) (v : List Atom) → r < length regs → IsWith r v (without_register r (registers_to regs)) (registers_to (slice_set regs r v))
set_register regs r v lt (name n) = refl
set_register regs r v lt (known u) = refl
set_register regs r v lt (register q) = at (eqb q r) refl
  where
    at : (b : Bool) → eqb q r ≡ b → register_to r v (without_register r (registers_to regs) (register q)) ≡ registers_to (slice_set regs r v) (register q)
    at true e =
        ap (register_to r v) (without_at r q (registers_to regs) true e) ∙ subst (λ k. register_to r v (register k) ≡ or_register (slice_get (slice_set regs r v) k) k) (sym (eqb-true q r e)) here
      where
        here : register_to r v (register r) ≡ or_register (slice_get (slice_set regs r v) r) r
        here = rw (eq-eqb r r refl, slice_get_set_same regs r v lt) refl
    at false e = ap (register_to r v) (without_at r q (registers_to regs) false e) ∙ stays (slice_get regs q) ∙ ap (λ o. or_register o q) (sym (slice_get_set_other regs r q v (eqb-false q r e)))
      where
        stays : (o : Option (List Atom)) → register_to r v (or_register o q) ≡ or_register o q
        stays None = rw e refl
        stays (Some w) = refl

-- what waits under the registers waits
pub waits_itself : (raised : Option (List Atom)) (regs : List (List Atom)) (left : List Step) → IsWaiting (next_at raised regs left) → IsWaiting (next_of left)
waits_itself (Some v) regs left h = absurd h
waits_itself None regs [] h = absurd h
waits_itself None regs (syncing at r t ∷ left) h = tt
waits_itself None regs (emitting at e ∷ left) h = absurd h

-- the step that waits, the value that it is given, and where the thread then stands
given_on : (regs : List (List Atom)) (left : List Step) (r : ℕ) (raised : Option (List Atom)) (emitted : List (List Atom)) (v : List Atom)
    → r < length regs → IsWaiting (next_at raised regs left) → WritesTo left r
    → moved emitted (next_at raised regs left) (Gives v) ≡ stand_at (under (registers_to (slice_set regs r v)) (steps_behind_first left)) emitted
given_on regs left r (Some u) emitted v lt h w = absurd h
given_on regs [] r None emitted v lt h w = absurd w
given_on regs (emitting at e ∷ rest) r None emitted v lt h w = absurd w
given_on regs (syncing at s t ∷ rest) r None emitted v lt h w =
    let set = rebound r v rest (without_register r (registers_to regs)) (registers_to (slice_set regs r v))
    (IsPartial-without r (registers_to regs) (registers_partial regs)) (set_register regs r v lt) in
    ap (λ ss'. stand_at ss' emitted) (subst (λ k. written k v (under (without_register k (registers_to regs)) rest) ≡ under (registers_to (slice_set regs r v)) rest) w set)

-- a sync emits nothing
emits_behind : (left : List Step) (r : ℕ) → WritesTo left r → emits_left (steps_behind_first left) ≡ emits_left left
emits_behind [] r w = absurd w
emits_behind (syncing at s t ∷ rest) r w = refl
emits_behind (emitting at e ∷ rest) r w = absurd w

-- ---- a core that is given a value, over what its calls told

module _ (t : Thread) (first second : List Stmt) (spot : Spot) (r : ℕ) (first_is : map statement_of first ≡ t.statements) (second_is : map statement_of second ≡ t.statements)
    (writes : WritesTo (steps_left_at spot (map statement_of first)) r) where
  writes_it : WritesTo (steps_left_at spot t.statements) r
  writes_it = subst (λ ss. WritesTo (steps_left_at spot ss) r) first_is writes

  -- the register that is written is one of eight
  pub one_of_eight : IsThread 256 t → IsSyncSpot spot t.statements → IsWaiting (next_of (steps_left_at spot t.statements)) → r < 8
  one_of_eight h at w =
      let here = waits_at spot t.statements at w in
      let same : r ≡ here.0 = subst (λ left. WritesTo left r) (left_sync spot t.statements _ here.0 here.1 at here.2) writes_it in
      omega (arith, same, writes_within 256 (length t.registers) 0 t.statements _ spot.place here.0 here.1 h.in_order here.2, h.registers)

  pub stands_given : (regs : List (List Atom)) (raised raised' : Option (List Atom)) (emitted now : List (List Atom)) (v : List Atom) (spot' : Spot)
      → r < length regs → IsWaiting (next_at raised regs (steps_left_at spot t.statements))
      → Settles (slice_set regs r v) (steps_behind_first (steps_left_at spot (map statement_of second))) emitted raised' (steps_left_at spot' (map statement_of second)) now
      → record { emitted = now; next = next_at raised' (slice_set regs r v) (steps_left_at spot' t.statements) } ≡ moved emitted (next_at raised regs (steps_left_at spot t.statements)) (Gives v)
  stands_given regs raised raised' emitted now v spot' lt waiting settles =
      let stands = subst (λ (ss : List Statement). stand_at (under (registers_to (slice_set regs r v)) (steps_behind_first (steps_left_at spot ss))) emitted ≡ record
      { emitted = now; next = next_at raised' (slice_set regs r v) (steps_left_at spot' ss) }) second_is settles.stands in
      sym (given_on regs (steps_left_at spot t.statements) r raised emitted v lt waiting writes_it ∙ stands)

  pub core_given : (regs : List (List Atom)) (raised' : Option (List Atom)) (emitted now : List (List Atom)) (v : List Atom) (spot' : Spot) (room : ℕ)
      → IsCore t spot (length emitted) room → IsSyncSpot spot' (map statement_of second)
      → Settles (slice_set regs r v) (steps_behind_first (steps_left_at spot (map statement_of second))) emitted raised'
      (steps_left_at spot' (map statement_of second)) now → IsCore t spot' (length now) room
  core_given regs raised' emitted now v spot' room old at settles =
      let fits = subst (λ (ss : List Statement). length now + emits_left (steps_left_at spot' ss) ≤ length emitted + emits_left (steps_behind_first (steps_left_at spot ss))) second_is settles.fits in
      record {
        short = old.short;
        at = subst (IsSyncSpot spot') second_is at;
        fits = omega (arith, fits, old.fits, emits_behind (steps_left_at spot t.statements) r writes_it);
      }
