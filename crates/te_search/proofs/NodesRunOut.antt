-- A path has made at most as many choices, sends and receives as its thread's event has nodes for them.
use Rattle.std.proofs.Common.{◌≡◌, ℕ, zero, suc, ◌+◌, ◌≤◌, Bool, true, false, List, Option, Some, None, Result, Ok, Err, refl, ap, sym, ◌∙◌, subst, arith}
use Rattle.std.specs.Option.{option_map, option_and_then}
use Rattle.te_terms.specs.declared.value.Atom.{Atom}
use Rattle.te_terms.specs.declared.value.Trap.{Trap}
use Rattle.te_terms.specs.Terms.{Term, send, recv, choose, bound, name_to}
use Rattle.te_terms.specs.Measures.{weighing, total}
use Rattle.te_terms.specs.Steps.{Member, at_term, quiet_step, giving, decided, head, with_head}
use Rattle.te_terms.specs.Joint.{Message, chosen_from, after_choice, sending, receiving, member_of}
use Rattle.te_terms.specs.Settling.{Quietly, here, after_one, settled}
use Rattle.te_terms.proofs.Measured.{weighing_sees, counted-replaced, SeesNoFirst, total-with_head}
use Rattle.te_terms.proofs.QuietSteps.{OfEachStep, of_every_step}
use Rattle.te_terms.proofs.OneThing.{send_is, receive_is}
use Rattle.te_terms.proofs.Settles.{settled_is_reached}
use Rattle.te_trail.specs.Paths.{Path, planted, branched, sent, got, thread_of}
use Rattle.te_trail.specs.States.{chosen, MovedEnds, members_met, path_state}
use Rattle.te_trail.proofs.MembersMove.{Handing, handing}
use Rattle.te_trail.proofs.MovesChain.{state_branched}
use Rattle.te_terms.proofs.Lists.{some_map}
use Rattle.te_trail.proofs.PastsChain.{then_some, parts_of}

-- ---- terms

decided_no_more : (c s r : ℕ) (d : Result Bool Trap) (e f : Term) → total (weighing c s r) (decided d e f) ≤ total (weighing c s r) e + total (weighing c s r) f
decided_no_more c s r (Ok true) e f = omega arith
decided_no_more c s r (Ok false) e f = omega arith
decided_no_more c s r (Err t) e f = omega arith

bound_as_many : (c s r n : ℕ) (v : List Atom) (f : Term) → total (weighing c s r) (bound n v f) ≡ total (weighing c s r) f
bound_as_many c s r n v f = counted-replaced (weighing c s r) (λ a b. a + b) (weighing_sees c s r) (name_to n v) f

no_more : (c s r : ℕ) → OfEachStep (λ m p. total (weighing c s r) p.term ≤ total (weighing c s r) m.term)
no_more c s r = record {
  traps = λ t k d e v leaf. omega arith;
  makes = λ t k d v. omega arith;
  then_gives = λ t k d e n f v. omega (arith, bound_as_many c s r n v f);
  then_raises = λ t k d e n f v. omega arith;
  then_steps = λ m p n f less. omega (arith, less);
  catch_gives = λ t k d e n h v. omega arith;
  catch_raises = λ t k d e n h v. omega (arith, bound_as_many c s r n v h);
  catch_steps = λ m p n h less. omega (arith, less);
  decides = λ t k d test p q e f w. omega (arith, decided_no_more c s r w e f);
}

quietly_no_more : (c s r : ℕ) (m n : Member) → Quietly m n → total (weighing c s r) n.term ≤ total (weighing c s r) m.term
quietly_no_more c s r m n (here p) = omega arith
quietly_no_more c s r m n (after_one p q end step rest) = omega (arith, of_every_step _ (no_more c s r) p q step, quietly_no_more c s r q end rest)

settled_no_more : (c s r : ℕ) (m : Member) → total (weighing c s r) (settled m).term ≤ total (weighing c s r) m.term
settled_no_more c s r m = quietly_no_more c s r m (settled m) (settled_is_reached m)

apart : (c s r : ℕ) → SeesNoFirst (weighing c s r)
apart c s r = record { then_too = λ e g n f. refl; catch_too = λ e g n h. refl }

-- another head counts what it has less
head_counts : (c s r k : ℕ) (u t : Term) → total (weighing c s r) u + k ≤ total (weighing c s r) (head t) → total (weighing c s r) (with_head u t) + k ≤ total (weighing c s r) t
head_counts c s r k u t less = omega (arith, less, total-with_head (weighing c s r) (apart c s r) u t)

chosen_less : (c s r : ℕ) (left : Bool) (h u : Term) → chosen_from left h ≡ Some u → total (weighing c s r) u + c ≤ total (weighing c s r) h
chosen_less c s r true (choose e f) u p = let is : e ≡ u = cc in subst (λ x. total (weighing c s r) x + c ≤ total (weighing c s r) (choose e f)) is (omega arith)
chosen_less c s r false (choose e f) u p = let is : f ≡ u = cc in subst (λ x. total (weighing c s r) x + c ≤ total (weighing c s r) (choose e f)) is (omega arith)
chosen_less c s r true _ u p = absurd cc
chosen_less c s r false _ u p = absurd cc

choice_less : (c s r : ℕ) (left : Bool) (m u : Member) → chosen left m ≡ Some u → total (weighing c s r) u.term + c ≤ total (weighing c s r) m.term
choice_less c s r left m u e =
    let a : (t : Term) × (after_choice left m.term ≡ Some t) × (at_term m t ≡ u) = some_map (at_term m) (after_choice left m.term) u e in
    let b : (x : Term) × (chosen_from left (head m.term) ≡ Some x) × (with_head x m.term ≡ a.0) = some_map (λ x. with_head x m.term) (chosen_from left (head m.term)) a.0 a.1 in
    let one : with_head b.0 m.term ≡ u.term = b.2 ∙ ap (λ n. n.term) a.2 in
    subst (λ t. total (weighing c s r) t + c ≤ total (weighing c s r) m.term) one (head_counts c s r c b.0 m.term (chosen_less c s r left (head m.term) b.0 b.1))

send_less : (c s r : ℕ) (t : Term) (m : Message) (v : List Atom) → sending t ≡ Some m → total (weighing c s r) (with_head (giving v) t) + s ≤ total (weighing c s r) t
send_less c s r t m v e = let is = send_is (head t) m e in head_counts c s r s (giving v) t (rw is.1.1.0 (omega arith))

receive_less : (c s r : ℕ) (t : Term) (channel : ℕ) (v : List Atom) → receiving t ≡ Some channel → total (weighing c s r) (with_head (giving v) t) + r ≤ total (weighing c s r) t
receive_less c s r t channel v e = let is = receive_is (head t) channel e in head_counts c s r r (giving v) t (rw is.1.0 (omega arith))

-- ---- paths

-- what a path's own moves count
abbrev pub moves_weigh : ℕ → ℕ → ℕ → Path → ℕ
moves_weigh c s r (planted t) = 0
moves_weigh c s r (branched p left) = moves_weigh c s r p + c
moves_weigh c s r (sent a b) = moves_weigh c s r a + s
moves_weigh c s r (got a b) = moves_weigh c s r b + r

ends_as : (f : MovedEnds → Member) (g : List Member) (a b : Path) (x y : Member) (p : MovedEnds) (n : Member) → path_state g a ≡ Some x → path_state g b ≡ Some y → members_met x y ≡ Some p
    → option_and_then (λ i. option_and_then (λ j. option_map f (members_met i j)) (path_state g b)) (path_state g a) ≡ Some n → f p ≡ n
ends_as f g a b x y p n ea eb m e =
    let is : Some (f p) ≡ Some n = subst (λ z. option_map f z ≡ Some n) m
    (subst (λ z. option_and_then (λ j. option_map f (members_met x j)) z ≡ Some n) eb
    (subst (λ z. option_and_then (λ i. option_and_then (λ j. option_map f (members_met i j)) (path_state g b)) z
    ≡ Some n) ea e)) in
    cc

-- and the nodes that are left count at most what the event has
pub moves_fit : (c s r : ℕ) (g : List Member) (p : Path) (m n : Member) → member_of (thread_of p) g ≡ Some m → path_state g p ≡ Some n
    → total (weighing c s r) n.term + moves_weigh c s r p ≤ total (weighing c s r) m.term
moves_fit c s r g (planted t) m n at e =
    let f : settled m ≡ n = (let h : Some (settled m) ≡ Some n = subst (λ z. option_map settled z ≡ Some n) at e in cc) in
    subst (λ x. total (weighing c s r) x.term + 0 ≤ total (weighing c s r) m.term) f (omega (arith, settled_no_more c s r m))
moves_fit c s r g (branched p l) m n at e =
    let b : (x : Member) × (path_state g p ≡ Some x) × (option_map settled (chosen l x) ≡ Some n) = then_some (λ m. option_map settled (chosen l m)) (path_state g p) n e in
    let u : (u : Member) × (chosen l b.0 ≡ Some u) × (settled u ≡ n) = state_branched g p l b.0 n b.1 e in
    let less : total (weighing c s r) b.0.term + moves_weigh c s r p ≤ total (weighing c s r) m.term = moves_fit c s r g p m b.0 at b.1 in
    subst (λ x. total (weighing c s r) x.term + (moves_weigh c s r p + c) ≤ total (weighing c s r) m.term) u.2
    (omega (arith, settled_no_more c s r u.0, choice_less c s r l b.0 u.0 u.1, less))
moves_fit c s r g (sent a b) m n at e =
    let x : (i : Member) × (j : Member) × (p : MovedEnds) × (path_state g a ≡ Some i) × (path_state g b ≡ Some j) × (members_met i j ≡ Some p) = parts_of g a b (λ p. settled p.sender) n e in
    let h : Handing x.0 x.1 x.2 = handing x.0 x.1 x.2 x.5 in
    let less : total (weighing c s r) x.0.term + moves_weigh c s r a ≤ total (weighing c s r) m.term = moves_fit c s r g a m x.0 at x.3 in
    let sends : total (weighing c s r) x.2.sender.term + s ≤ total (weighing c s r) x.0.term =
    subst (λ y. total (weighing c s r) y.term + s ≤ total (weighing c s r) x.0.term) (sym h.sender) (send_less c s r x.0.term h.message _ h.sends) in
    subst (λ y. total (weighing c s r) y.term + (moves_weigh c s r a + s) ≤ total (weighing c s r) m.term) (ends_as (λ p. settled p.sender) g a b x.0 x.1 x.2 n x.3 x.4 x.5 e)
    (omega (arith, settled_no_more c s r x.2.sender, sends, less))
moves_fit c s r g (got a b) m n at e =
    let x : (i : Member) × (j : Member) × (p : MovedEnds) × (path_state g a ≡ Some i) × (path_state g b ≡ Some j) × (members_met i j ≡ Some p) = parts_of g a b (λ p. settled p.receiver) n e in
    let h : Handing x.0 x.1 x.2 = handing x.0 x.1 x.2 x.5 in
    let less : total (weighing c s r) x.1.term + moves_weigh c s r b ≤ total (weighing c s r) m.term = moves_fit c s r g b m x.1 at x.4 in
    let gets : total (weighing c s r) x.2.receiver.term + r ≤ total (weighing c s r) x.1.term =
    subst (λ y. total (weighing c s r) y.term + r ≤ total (weighing c s r) x.1.term) (sym h.receiver) (receive_less c s r x.1.term h.channel _ h.receives) in
    subst (λ y. total (weighing c s r) y.term + (moves_weigh c s r b + r) ≤ total (weighing c s r) m.term) (ends_as (λ p. settled p.receiver) g a b x.0 x.1 x.2 n x.3 x.4 x.5 e)
    (omega (arith, settled_no_more c s r x.2.receiver, gets, less))
