-- Where a core stands tells what its thread wishes: going on from stand to stand comes to where the whole text and all outcomes lead.
use Rattle.std.proofs.Common.{◌≡◌, ℕ, suc, ◌⊎◌, inl, inr, Bool, true, false, cond, eqb, Some, Option, List, [], ◌∷◌, ◌++◌, map, Result, Ok, Err, refl, sym, ap, subst, ◌∙◌}
use Rattle.te_terms.specs.declared.value.Atom.{Atom}
use Rattle.te_terms.specs.declared.value.Trap.{Trap}
use Rattle.te_terms.specs.declared.event.Outcome.{Outcome}
use Rattle.te_terms.specs.declared.event.Outcome.TheVariants.{Gives, Raises}
use Rattle.te_terms.specs.Values.{trap_value}
use Rattle.te_terms.specs.Expressions.{Variable, register, name, known, Primitive, int, chan, part, Calculation, one}
use Rattle.te_terms.specs.Expressions.{both, Expression, whole, tuple, in_primitive, in_calculation, in_expression}
use Rattle.te_terms.specs.Expressions.{value_of}
use Rattle.te_terms.specs.Terms.{Term, always, never, fresh, throw, send, recv, and_then, choose, catch, when, replaced}
use Rattle.te_script.specs.Scripts.{Thread}
use Rattle.te_script.specs.declared.wish.Site.{Site}
use Rattle.te_script.specs.Wishes.{Step, syncing, emitting, flat, holding, Doing, synchronises, ends, has_raised, Reached, emits_or, reached_by, reached, wish_of, wish, site_of, site}
use Rattle.te_script.specs.Cores.{register_to, written, Next, waits, ended, failed, Stand, emits, stand_at, moved, goes_by, stand_after, doing_of, wish_at, without_register, under, At, core_after}
use Rattle.te_script.proofs.Rebinding.{IsPartial, IsWith, IsPartial-without, without_at, rebound, other_stays}

-- what is told of a stand
abbrev told : Stand → Reached
told s = record { emitted = s.emitted; does = doing_of s.next }

stays_ended : (emitted : List (List Atom)) (outs : List Outcome) → told (goes_by (record { emitted = emitted; next = ended }) outs) ≡ record { emitted = emitted; does = ends }
stays_ended emitted [] = refl
stays_ended emitted (o ∷ outs) = stays_ended emitted outs

stays_failed : (emitted : List (List Atom)) (v : List Atom) (outs : List Outcome)
    → told (goes_by (record { emitted = emitted; next = failed v }) outs) ≡ record { emitted = emitted; does = has_raised v }
stays_failed emitted v [] = refl
stays_failed emitted v (o ∷ outs) = stays_failed emitted v outs

-- a register that is written holds its value
holds_so : (r : ℕ) (v : List Atom) (by : Variable → Variable) → IsPartial by → IsWith r v (without_register r by) (holding r v by)
holds_so r v by p (name n) = ap (register_to r v) (p.names n) ∙ sym (p.names n)
holds_so r v by p (known u) = ap (register_to r v) (p.values u) ∙ sym (p.values u)
holds_so r v by p (register q) = at (eqb q r) refl
  where
    at : (b : Bool) → eqb q r ≡ b → register_to r v (without_register r by (register q)) ≡ cond (eqb q r) (known v) (by (register q))
    at true e = ap (register_to r v) (without_at r q by true e) ∙ (rw e refl)
    at false e = ap (register_to r v) (without_at r q by false e) ∙ other_stays r v q (by (register q)) e (p.registers q) ∙ (rw e refl)

IsPartial-holding : (r : ℕ) (v : List Atom) (by : Variable → Variable) → IsPartial by → IsPartial (holding r v by)
IsPartial-holding r v by p = record { registers = λ q. at q (eqb q r) refl; names = p.names; values = p.values }
  where
    at : (q : ℕ) (b : Bool) → eqb q r ≡ b → (holding r v by (register q) ≡ register q) ⊎ ((w : List Atom) × (holding r v by (register q) ≡ known w))
    at q true e = inr (v, rw e refl)
    at q false e = rw e (p.registers q)

comes_to : (by : Variable → Variable) (ss : List Step) (emitted : List (List Atom)) (outs : List Outcome) → IsPartial by
    → told (goes_by (stand_at (under by ss) emitted) outs) ≡ reached_by by emitted ss outs
comes_to by [] emitted outs p = stays_ended emitted outs
comes_to by (emitting at e ∷ ss) emitted outs p = on (value_of (in_expression by e)) (λ more. comes_to by ss more outs p)
  where
    on : (r : Result (List Atom) Trap) → ((more : List (List Atom)) → told (goes_by (stand_at (under by ss) more) outs) ≡ reached_by by more ss outs)
        → told (goes_by (emits r emitted (stand_at (under by ss))) outs) ≡ emits_or r emitted (λ more. reached_by by more ss outs)
    on (Ok v) go = go (emitted ++ v ∷ [])
    on (Err t) go = stays_failed emitted (trap_value t) outs
comes_to by (syncing at r t ∷ ss) emitted [] p = refl
comes_to by (syncing at r t ∷ ss) emitted (Gives v ∷ outs) p =
    let set = rebound r v ss (without_register r by) (holding r v by) (IsPartial-without r by p) (holds_so r v by p) in
    ap (λ (xs : List Step). told (goes_by (stand_at xs emitted) outs)) set ∙ comes_to (holding r v by) ss emitted outs (IsPartial-holding r v by p)
comes_to by (syncing at r t ∷ ss) emitted (Raises v ∷ outs) p = stays_failed emitted v outs

-- ---- with no value in any register nothing is replaced

kept_primitive : (p : Primitive) → in_primitive (λ x. x) p ≡ p
kept_primitive (int z) = refl
kept_primitive (chan c) = refl
kept_primitive (part x d) = refl

kept_calculation : (c : Calculation) → in_calculation (λ x. x) c ≡ c
kept_calculation (one p) = ap one (kept_primitive p)
kept_calculation (both o p q) = λ i. both o (kept_primitive p i) (kept_primitive q i)

kept_calculations : (cs : List Calculation) → map (in_calculation (λ x. x)) cs ≡ cs
kept_calculations [] = refl
kept_calculations (c ∷ cs) = λ i. kept_calculation c i ∷ kept_calculations cs i

kept_expression : (e : Expression) → in_expression (λ x. x) e ≡ e
kept_expression (whole x) = refl
kept_expression (tuple cs) = ap tuple (kept_calculations cs)

kept_event : (t : Term) → replaced (λ x. x) t ≡ t
kept_event (always e) = ap always (kept_expression e)
kept_event never = refl
kept_event fresh = refl
kept_event (throw e) = ap throw (kept_expression e)
kept_event (send p e) = λ i. send (kept_primitive p i) (kept_expression e i)
kept_event (recv p) = ap recv (kept_primitive p)
kept_event (and_then e n f) = λ i. and_then (kept_event e i) n (kept_event f i)
kept_event (choose e f) = λ i. choose (kept_event e i) (kept_event f i)
kept_event (catch e n h) = λ i. catch (kept_event e i) n (kept_event h i)
kept_event (when test p q e f) = λ i. when test (kept_primitive p i) (kept_primitive q i) (kept_event e i) (kept_event f i)

without_none : (r : ℕ) → without_register r (λ x. x) ≡ (λ x. x)
without_none r = λ i x. at x i
  where
    chosen : (q : ℕ) (b : Bool) → cond b (register q) (register q) ≡ register q
    chosen q true = refl
    chosen q false = refl

    at : (x : Variable) → without_register r (λ y. y) x ≡ x
    at (register q) = chosen q (eqb q r)
    at (name n) = refl
    at (known v) = refl

kept_steps : (ss : List Step) → under (λ x. x) ss ≡ ss
kept_steps [] = refl
kept_steps (emitting at e ∷ ss) = λ i. emitting at (kept_expression e i) ∷ kept_steps ss i
kept_steps (syncing at r t ∷ ss) =
    let rest = ap (λ (by : Variable → Variable). under by ss) (without_none r) ∙ kept_steps ss in
    λ i. syncing at r (kept_event t i) ∷ rest i

none_held : IsPartial (λ x. x)
none_held = record { registers = λ r. inl refl; names = λ n. refl; values = λ v. refl }

-- ---- a thread

told_after : (t : Thread) (outs : List Outcome) → told (stand_after t outs) ≡ reached t outs
told_after t outs = ap (λ (xs : List Step). told (goes_by (stand_at xs []) outs)) (sym (kept_steps (flat t))) ∙ comes_to (λ x. x) (flat t) [] outs none_held

pub wish_after : (t : Thread) (outs : List Outcome) → wish_at (stand_after t outs) ≡ wish t outs
wish_after t outs = ap (λ (r : Reached). wish_of r.emitted r.does) (told_after t outs)

pub site_after : (t : Thread) (outs : List Outcome) → site_of (doing_of (stand_after t outs).next) ≡ site t outs
site_after t outs = ap (λ (r : Reached). site_of r.does) (told_after t outs)

pub emitted_after : (t : Thread) (outs : List Outcome) → (stand_after t outs).emitted ≡ (reached t outs).emitted
emitted_after t outs = ap (λ (r : Reached). r.emitted) (told_after t outs)
