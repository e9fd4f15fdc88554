-- Each quiet step leaves fewer nodes, or as many nodes and one more final one; it keeps the thread and its ticket.
use Rattle.std.proofs.Common.{◌≡◌, ℕ, ◌+◌, ◌<◌, inl, inr, Bool, true, false, Some, Result, Ok, Err, refl, arith}
use Rattle.te_terms.specs.declared.value.Trap.{Trap}
use Rattle.te_terms.specs.Expressions.{Variable}
use Rattle.te_terms.specs.Terms.{Term, and_then, catch, replaced, name_to}
use Rattle.te_terms.specs.Measures.{node_count, one_each}
use Rattle.te_terms.specs.Steps.{Member, quiet_step, decided}
use Rattle.te_terms.specs.Settling.{Falls}
use Rattle.te_terms.proofs.Measured.{each_sees, counted-replaced, some_nodes}
use Rattle.te_terms.proofs.QuietSteps.{OfEachStep, of_every_step}

pub node_count-replaced : (by : Variable → Variable) (t : Term) → node_count (replaced by t) ≡ node_count t
node_count-replaced by t = counted-replaced one_each (λ a b. a + b) each_sees by t

-- a step in the first part's place
first_of_then : (e d : Term) (n : ℕ) (f : Term) → Falls e d → Falls (and_then e n f) (and_then d n f)
first_of_then e d n f (inl fewer) = inl (omega (arith, fewer))
first_of_then e d n f (inr more) = inr (omega (arith, more.0), omega (arith, more.1))

first_of_catch : (e d : Term) (n : ℕ) (h : Term) → Falls e d → Falls (catch e n h) (catch d n h)
first_of_catch e d n h (inl fewer) = inl (omega (arith, fewer))
first_of_catch e d n h (inr more) = inr (omega (arith, more.0), omega (arith, more.1))

decided_falls : (r : Result Bool Trap) (e f : Term) → node_count (decided r e f) < 1 + (node_count e + node_count f)
decided_falls (Ok true) e f = omega (arith, some_nodes f)
decided_falls (Ok false) e f = omega (arith, some_nodes e)
decided_falls (Err t) e f = omega (arith, some_nodes e, some_nodes f)

each_falls : OfEachStep (λ m p. Falls m.term p.term)
each_falls = record {
  traps = λ t k c e v leaf. inr (omega (arith, leaf.one_node), omega (arith, leaf.not_final));
  makes = λ t k c v. inr (refl, refl);
  then_gives = λ t k c e n f v. inl (omega (arith, node_count-replaced (name_to n v) f, some_nodes e));
  then_raises = λ t k c e n f v. inl (omega (arith, some_nodes e, some_nodes f));
  then_steps = λ m p n f falls. first_of_then m.term p.term n f falls;
  catch_gives = λ t k c e n h v. inl (omega (arith, some_nodes e, some_nodes h));
  catch_raises = λ t k c e n h v. inl (omega (arith, node_count-replaced (name_to n v) h, some_nodes e));
  catch_steps = λ m p n h falls. first_of_catch m.term p.term n h falls;
  decides = λ t k c test p q e f r. inl (decided_falls r e f);
}

pub step_falls : (m p : Member) → quiet_step m ≡ Some p → Falls m.term p.term
step_falls m p h = of_every_step (λ m p. Falls m.term p.term) each_falls m p h

-- ---- whose steps they are

each_stays : OfEachStep (λ m p. (p.thread ≡ m.thread) × (p.ticket ≡ m.ticket))
each_stays = record {
  traps = λ t k c e v leaf. (refl, refl);
  makes = λ t k c v. (refl, refl);
  then_gives = λ t k c e n f v. (refl, refl);
  then_raises = λ t k c e n f v. (refl, refl);
  then_steps = λ m p n f same. same;
  catch_gives = λ t k c e n h v. (refl, refl);
  catch_raises = λ t k c e n h v. (refl, refl);
  catch_steps = λ m p n h same. same;
  decides = λ t k c test p q e f r. (refl, refl);
}

pub step_stays : (m p : Member) → quiet_step m ≡ Some p → (p.thread ≡ m.thread) × (p.ticket ≡ m.ticket)
step_stays m p h = of_every_step (λ m p. (p.thread ≡ m.thread) × (p.ticket ≡ m.ticket)) each_stays m p h
