-- The letters of the choices, and for each send the receiver and how much it had received, tell where all threads stand.
use Rattle.std.proofs.Common.{◌≡◌, ◌⊎◌, ◌≤◌, ◌<◌, inl, inr, ℕ, zero, suc, ◌+◌, List, [], ◌∷◌, ◌++◌, length, Bool, true}
use Rattle.std.proofs.Common.{false, Option, Some, None, refl, ap, sym, ◌∙◌, subst, arith, nat_eq, eqb-true}
use Rattle.std.proofs.Common.{append_assoc, append-nil}
use Rattle.std.specs.Option.{option_map}
use Rattle.te_terms.specs.Steps.{Member, at_term}
use Rattle.te_terms.specs.Joint.{after_choice, receiving}
use Rattle.te_terms.specs.Settling.{settled}
use Rattle.te_terms.proofs.OneThing.{choice_rests, send_is_alone}
use Rattle.te_trail.specs.Paths.{Path, planted, branched, sent, got, thread_of, IsAbove, move_of, RestsOn}
use Rattle.te_trail.specs.Clocks.{clock_of, IsSound}
use Rattle.te_trail.specs.States.{chosen, members_met, MovedEnds, path_state, HasState}
use Rattle.te_trail.proofs.Lines.{above_self, above_trans, above_both, above_line, rests_move, above_rests}
use Rattle.te_trail.proofs.ClockLaws.{clock_self, clock_top, Agrees, made_planted}
use Rattle.te_trail.proofs.MembersMove.{Handing, handing}
use Rattle.te_terms.proofs.Lists.{some_map, never_both}
use Rattle.te_trail.proofs.PastsChain.{then_some, parts_of, fits_past}
use Rattle.te_pair.proofs.EndsTold.{one_state}

-- ---- the digits

abbrev pub letters : Path → List Bool
letters (planted t) = []
letters (branched p left) = letters p ++ (left ∷ [])
letters (sent s r) = letters s
letters (got s r) = letters r

abbrev pub receives : Path → ℕ
receives (planted t) = 0
receives (branched p left) = receives p
receives (sent s r) = receives s
receives (got s r) = suc (receives r)

-- a receiver's thread, and how often it had received
pub record Target : Type 0 where
  pub thread : ℕ
  pub before : ℕ

abbrev pub target_of : Path → Target
target_of r = record { thread = thread_of r; before = receives r }

abbrev pub targets : Path → List Target
targets (planted t) = []
targets (branched p left) = targets p
targets (sent s r) = targets s ++ (target_of r ∷ [])
targets (got s r) = targets r

-- ---- what goes on from a path

pub record Chooses (g : List Member) (p : Path) : Type 0 where
  pub member : Member
  pub left : Bool
  pub next : Member
  pub state : path_state g p ≡ Some member
  pub chooses : chosen left member ≡ Some next

pub record Sends (g : List Member) (p : Path) : Type 0 where
  pub member : Member
  pub other : Member
  pub ends : MovedEnds
  pub state : path_state g p ≡ Some member
  pub meets : members_met member other ≡ Some ends

pub record Receives (g : List Member) (p : Path) : Type 0 where
  pub member : Member
  pub other : Member
  pub ends : MovedEnds
  pub state : path_state g p ≡ Some member
  pub meets : members_met other member ≡ Some ends

pub no_choice_at_send : (g : List Member) (p : Path) → Chooses g p → Sends g p → ⊥
no_choice_at_send g p c s =
    let same : c.member ≡ s.member = one_state (path_state g p) c.member s.member c.state s.state in
    let h : Handing s.member s.other s.ends = handing s.member s.other s.ends s.meets in
    let ch : chosen c.left s.member ≡ Some c.next = subst (λ m. chosen c.left m ≡ Some c.next) same c.chooses in
    let t = some_map (at_term s.member) (after_choice c.left s.member.term) c.next ch in
    never_both _ h.message (choice_rests s.member c.left s.member.term t.0 t.1).1 h.sends

pub no_choice_at_receive : (g : List Member) (p : Path) → Chooses g p → Receives g p → ⊥
no_choice_at_receive g p c r =
    let same : c.member ≡ r.member = one_state (path_state g p) c.member r.member c.state r.state in
    let h : Handing r.other r.member r.ends = handing r.other r.member r.ends r.meets in
    let ch : chosen c.left r.member ≡ Some c.next = subst (λ m. chosen c.left m ≡ Some c.next) same c.chooses in
    let t = some_map (at_term r.member) (after_choice c.left r.member.term) c.next ch in
    never_both _ h.channel (choice_rests r.member c.left r.member.term t.0 t.1).2 h.receives

pub no_send_at_receive : (g : List Member) (p : Path) → Sends g p → Receives g p → ⊥
no_send_at_receive g p s r =
    let same : r.member ≡ s.member = one_state (path_state g p) r.member s.member r.state s.state in
    let h : Handing s.member s.other s.ends = handing s.member s.other s.ends s.meets in
    let k : Handing r.other r.member r.ends = handing r.other r.member r.ends r.meets in
    let gets = subst (λ m. receiving m.term ≡ Some k.channel) same k.receives in
    never_both _ k.channel (send_is_alone s.member s.member.term h.message h.sends).2 gets

branched_from : (g : List Member) (p : Path) (l : Bool) → HasState g (branched p l) → Chooses g p
branched_from g p l f =
    let a : (m : Member) × (path_state g p ≡ Some m) × (option_map settled (chosen l m) ≡ Some f.0) = then_some (λ m. option_map settled (chosen l m)) (path_state g p) f.0 f.1 in
    let b : (u : Member) × (chosen l a.0 ≡ Some u) × (settled u ≡ f.0) = some_map settled (chosen l a.0) f.0 a.2 in
    record { member = a.0; left = l; next = b.0; state = a.1; chooses = b.1 }

-- both ends of a meeting
abbrev Meets : List Member → Path → Path → Type 0
Meets g s r = Sends g s × Receives g r

met_from : (g : List Member) (s r : Path) → ((a : Member) × (b : Member) × (p : MovedEnds) × (path_state g s ≡ Some a) × (path_state g r ≡ Some b) × (members_met a b ≡ Some p)) → Meets g s r
met_from g s r (a, b, p, sa, sb, m) = (record { member = a; other = b; ends = p; state = sa; meets = m }, record { member = b; other = a; ends = p; state = sb; meets = m })

sent_from : (g : List Member) (s r : Path) → HasState g (sent s r) → Meets g s r
sent_from g s r f = met_from g s r (parts_of g s r (λ p. settled p.sender) f.0 f.1)

got_from : (g : List Member) (s r : Path) → HasState g (got s r) → Meets g s r
got_from g s r f = met_from g s r (parts_of g s r (λ p. settled p.receiver) f.0 f.1)

-- ---- lines

-- the next path on a line
data Onto (p : Path) (y : Path) : Type 0 where
  there : p ≡ y → Onto p y
  by_choice : (l : Bool) → IsAbove (branched p l) y → Onto p y
  by_send : (r : Path) → IsAbove (sent p r) y → Onto p y
  by_receive : (s : Path) → IsAbove (got s p) y → Onto p y

wider : (p q y : Path) → ((x : Path) → IsAbove x q → IsAbove x y) → (p ≡ q → Onto p y) → Onto p q → Onto p y
wider p q y w e (there h) = e h
wider p q y w e (by_choice l h) = by_choice l (w _ h)
wider p q y w e (by_send r h) = by_send r (w _ h)
wider p q y w e (by_receive s h) = by_receive s (w _ h)

onto : (p y : Path) → IsAbove p y → Onto p y
onto p (planted t) e = there e
onto p (branched q l) (inl e) = there e
onto p (branched q l) (inr a) = wider p q (branched q l) (λ x h. inr h) (λ e. by_choice l (subst (λ z. IsAbove (branched z l) (branched q l)) (sym e) (inl refl))) (onto p q a)
onto p (sent s r) (inl e) = there e
onto p (sent s r) (inr a) = wider p s (sent s r) (λ x h. inr h) (λ e. by_send r (subst (λ z. IsAbove (sent z r) (sent s r)) (sym e) (inl refl))) (onto p s a)
onto p (got s r) (inl e) = there e
onto p (got s r) (inr a) = wider p r (got s r) (λ x h. inr h) (λ e. by_receive s (subst (λ z. IsAbove (got s z) (got s r)) (sym e) (inl refl))) (onto p r a)

-- what grows along a line
abbrev GrowsTo : {A : Type 0} → List A → List A → Type 0
GrowsTo {A} xs ys = (more : List A) × (ys ≡ xs ++ more)

as_it_is : {A : Type 0} (f : Path → List A) (x y : Path) → x ≡ y → GrowsTo (f x) (f y)
as_it_is f x y e = ([], ap f (sym e) ∙ sym (append-nil (f x)))

by_one : {A : Type 0} (xs ys : List A) (a : A) → GrowsTo xs ys → GrowsTo xs (ys ++ (a ∷ []))
by_one xs ys a g = (g.0 ++ (a ∷ []), ap (λ q. q ++ (a ∷ [])) g.1 ∙ append_assoc xs g.0 (a ∷ []))

letters_grow : (x y : Path) → IsAbove x y → GrowsTo (letters x) (letters y)
letters_grow x (planted t) e = as_it_is letters x (planted t) e
letters_grow x (branched p l) (inl e) = as_it_is letters x (branched p l) e
letters_grow x (branched p l) (inr a) = by_one (letters x) (letters p) l (letters_grow x p a)
letters_grow x (sent s r) (inl e) = as_it_is letters x (sent s r) e
letters_grow x (sent s r) (inr a) = letters_grow x s a
letters_grow x (got s r) (inl e) = as_it_is letters x (got s r) e
letters_grow x (got s r) (inr a) = letters_grow x r a

targets_grow : (x y : Path) → IsAbove x y → GrowsTo (targets x) (targets y)
targets_grow x (planted t) e = as_it_is targets x (planted t) e
targets_grow x (branched p l) (inl e) = as_it_is targets x (branched p l) e
targets_grow x (branched p l) (inr a) = targets_grow x p a
targets_grow x (sent s r) (inl e) = as_it_is targets x (sent s r) e
targets_grow x (sent s r) (inr a) = by_one (targets x) (targets s) (target_of r) (targets_grow x s a)
targets_grow x (got s r) (inl e) = as_it_is targets x (got s r) e
targets_grow x (got s r) (inr a) = targets_grow x r a

no_fewer : (x y : Path) → x ≡ y → receives x ≤ receives y
no_fewer x y e = omega (arith, ap receives e)

receives_grow : (x y : Path) → IsAbove x y → receives x ≤ receives y
receives_grow x (planted t) e = no_fewer x (planted t) e
receives_grow x (branched p l) (inl e) = no_fewer x (branched p l) e
receives_grow x (branched p l) (inr a) = receives_grow x p a
receives_grow x (sent s r) (inl e) = no_fewer x (sent s r) e
receives_grow x (sent s r) (inr a) = receives_grow x s a
receives_grow x (got s r) (inl e) = no_fewer x (got s r) e
receives_grow x (got s r) (inr a) = omega (arith, receives_grow x r a)

next_same : {A : Type 0} (a : List A) (x y : A) (c d : List A) → a ++ (x ∷ c) ≡ a ++ (y ∷ d) → x ≡ y
next_same [] x y c d e = cc
next_same (z ∷ a) x y c d e = let more : a ++ (x ∷ c) ≡ a ++ (y ∷ d) = cc in next_same a x y c d more

no_longer : {A : Type 0} (a : List A) (x : A) (c : List A) → a ≡ a ++ (x ∷ c) → ⊥
no_longer [] x c e = cc
no_longer (z ∷ a) x c e = let more : a ≡ a ++ (x ∷ c) = cc in no_longer a x c more

-- ---- where all threads stand

-- a path of each thread, which agree, and each is planted or has a state
pub record Standing (g : List Member) : Type 0 where
  pub path : ℕ → Path
  pub threads : (t : ℕ) → thread_of (path t) ≡ t
  pub sounds : (t : ℕ) → IsSound (path t)
  pub agrees : (s t : ℕ) → nat_eq s t ≡ false → Agrees (path s) (path t)
  pub kept : (t : ℕ) → (path t ≡ planted t) ⊎ HasState g (path t)

module _ (g : List Member) (c : Standing g) where
  -- what one thread's past holds of another thread is above that thread's path
  top : (t : ℕ) (x : Path) → RestsOn (move_of x) (c.path t) → IsAbove x (c.path (thread_of x))
  top t x r = go (clock_top (c.path t) (c.sounds t) x r) (nat_eq t (thread_of x)) refl
    where
      go : (d : Path) × (clock_of (c.path t) (thread_of x) ≡ Some d) × IsAbove x d → (o : Bool) → nat_eq t (thread_of x) ≡ o → IsAbove x (c.path (thread_of x))
      go (d, e, up) true n =
          let one : t ≡ thread_of x = eqb-true t (thread_of x) n in
          let self : clock_of (c.path t) (thread_of x) ≡ Some (c.path t) = subst (λ k. clock_of (c.path t) k ≡ Some (c.path t)) (c.threads t ∙ one) (clock_self (c.path t) (c.sounds t)) in
          let same : d ≡ c.path t = cc in
          subst (λ k. IsAbove x (c.path k)) one (subst (λ z. IsAbove x z) same up)
      go (d, e, up) false n =
          let at : clock_of (c.path t) (thread_of (c.path (thread_of x))) ≡ Some d = subst (λ k. clock_of (c.path t) k ≡ Some d) (sym (c.threads (thread_of x))) e in
          above_trans x d (c.path (thread_of x)) up ((c.agrees t (thread_of x) n).second d at)

  fits : (t : ℕ) (x : Path) → RestsOn (move_of x) (c.path t) → (x ≡ planted t) ⊎ HasState g x
  fits t x r = elim (c.kept t) [ inl e ↦ inl (made_planted x t (subst (λ p. RestsOn (move_of x) p) e r)) | inr f ↦ inr (fits_past g (c.path t) x f r) ]

  chooses_at : (t : ℕ) (p : Path) (l : Bool) → RestsOn (move_of (branched p l)) (c.path t) → Chooses g p
  chooses_at t p l r = go (fits t (branched p l) r)
    where
      go : (branched p l ≡ planted t) ⊎ HasState g (branched p l) → Chooses g p
      go (inl e) = absurd cc
      go (inr f) = branched_from g p l f

  sends_at : (t : ℕ) (s r : Path) → RestsOn (sent s r) (c.path t) → Meets g s r
  sends_at t s r h = go (fits t (sent s r) h)
    where
      go : (sent s r ≡ planted t) ⊎ HasState g (sent s r) → Meets g s r
      go (inl e) = absurd cc
      go (inr f) = sent_from g s r f

pub root_above : (y : Path) → IsAbove (planted (thread_of y)) y
root_above (planted t) = refl
root_above (branched p l) = inr (root_above p)
root_above (sent s r) = inr (root_above s)
root_above (got s r) = inr (root_above r)

-- the same digits for each thread
pub record AreAlike (g : List Member) (c d : Standing g) : Type 0 where
  pub letters_are : (t : ℕ) → letters (c.path t) ≡ letters (d.path t)
  pub targets_are : (t : ℕ) → targets (c.path t) ≡ targets (d.path t)

module _ (g : List Member) (c d : Standing g) (like : AreAlike g c d) where
  -- a choice is made in the other too
  by_letter : (p : Path) (l : Bool) → IsAbove (branched p l) (c.path (thread_of p)) → IsAbove p (d.path (thread_of p)) → IsAbove (branched p l) (d.path (thread_of p))
  by_letter p l up low = go (onto p (d.path (thread_of p)) low)
    where
      mine : GrowsTo (letters (branched p l)) (letters (c.path (thread_of p)))
      mine = letters_grow (branched p l) (c.path (thread_of p)) up

      theirs : letters (d.path (thread_of p)) ≡ letters p ++ (l ∷ mine.0)
      theirs = sym (like.letters_are (thread_of p)) ∙ mine.1 ∙ append_assoc (letters p) (l ∷ []) mine.0

      here : Chooses g p
      here = chooses_at g c (thread_of p) p l (above_rests (branched p l) (c.path (thread_of p)) (branched p l) up (rests_move (branched p l)))

      go : Onto p (d.path (thread_of p)) → IsAbove (branched p l) (d.path (thread_of p))
      go (there e) = absurd (no_longer (letters p) l mine.0 (ap letters e ∙ theirs))
      go (by_choice m h) =
          let other : GrowsTo (letters (branched p m)) (letters (d.path (thread_of p))) = letters_grow (branched p m) (d.path (thread_of p)) h in
          let both : letters p ++ (m ∷ other.0) ≡ letters p ++ (l ∷ mine.0) = sym (append_assoc (letters p) (m ∷ []) other.0) ∙ sym other.1 ∙ theirs in
          subst (λ k. IsAbove (branched p k) (d.path (thread_of p))) (next_same (letters p) m l other.0 mine.0 both) h
      go (by_send r h) = absurd (no_choice_at_send g p here (sends_at g d (thread_of p) p r (above_rests (sent p r) (d.path (thread_of p)) (sent p r) h (rests_move (sent p r)))).0)
      go (by_receive s h) = absurd (no_choice_at_receive g p here (sends_at g d (thread_of p) s p (above_rests (got s p) (d.path (thread_of p)) (sent s p) h (rests_move (got s p)))).1)

  -- two paths of one line at receives, with as many receives before them
  one_receive : (t : ℕ) (r q : Path) → Receives g r → IsAbove q (d.path t) → IsAbove r q → receives r ≡ receives q → r ≡ q
  one_receive t r q kr uq up n = go (onto r q up)
    where
      below : (x m : Path) → IsAbove x q → RestsOn m x → RestsOn m (d.path t)
      below x m h rm = above_rests x (d.path t) m (above_trans x q (d.path t) h uq) rm

      go : Onto r q → r ≡ q
      go (there e) = e
      go (by_choice l h) = absurd (no_choice_at_receive g r (chooses_at g d t r l (below (branched r l) (branched r l) h (rests_move (branched r l)))) kr)
      go (by_send x h) = absurd (no_send_at_receive g r (sends_at g d t r x (below (sent r x) (sent r x) h (rests_move (sent r x)))).0 kr)
      go (by_receive s h) = absurd (omega (arith, receives_grow (got s r) q h, n))

  -- and so is a meeting
  by_target : (s r : Path) → IsAbove (sent s r) (c.path (thread_of s)) → IsAbove s (d.path (thread_of s)) → IsAbove r (d.path (thread_of r)) → IsAbove (sent s r) (d.path (thread_of s))
  by_target s r up ls lr = go (onto s (d.path (thread_of s)) ls)
    where
      mine : GrowsTo (targets (sent s r)) (targets (c.path (thread_of s)))
      mine = targets_grow (sent s r) (c.path (thread_of s)) up

      theirs : targets (d.path (thread_of s)) ≡ targets s ++ (target_of r ∷ mine.0)
      theirs = sym (like.targets_are (thread_of s)) ∙ mine.1 ∙ append_assoc (targets s) (target_of r ∷ []) mine.0

      here : Meets g s r
      here = sends_at g c (thread_of s) s r (above_rests (sent s r) (c.path (thread_of s)) (sent s r) up (rests_move (sent s r)))

      rests : (x : Path) (h : IsAbove x (d.path (thread_of s))) → RestsOn (move_of x) (d.path (thread_of s))
      rests x h = above_rests x (d.path (thread_of s)) (move_of x) h (rests_move x)

      go : Onto s (d.path (thread_of s)) → IsAbove (sent s r) (d.path (thread_of s))
      go (there e) = absurd (no_longer (targets s) (target_of r) mine.0 (ap targets e ∙ theirs))
      go (by_choice l h) = absurd (no_choice_at_send g s (chooses_at g d (thread_of s) s l (rests (branched s l) h)) here.0)
      go (by_receive x h) = absurd (no_send_at_receive g s here.0 (sends_at g d (thread_of s) x s (rests (got x s) h)).1)
      go (by_send q h) =
          let other : GrowsTo (targets (sent s q)) (targets (d.path (thread_of s))) = targets_grow (sent s q) (d.path (thread_of s)) h in
          let both : targets s ++ (target_of q ∷ other.0) ≡ targets s ++ (target_of r ∷ mine.0) = sym (append_assoc (targets s) (target_of q ∷ []) other.0) ∙ sym other.1 ∙ theirs in
          let pair : target_of q ≡ target_of r = next_same (targets s) (target_of q) (target_of r) other.0 mine.0 both in
          let tq : thread_of q ≡ thread_of r = ap (λ z. z.thread) pair in
          let nq : receives q ≡ receives r = ap (λ z. z.before) pair in
          let kq : Receives g q = (sends_at g d (thread_of s) s q (rests (sent s q) h)).1 in
          let uq : IsAbove q (d.path (thread_of r)) = subst (λ k. IsAbove q (d.path k)) tq
          (top g d (thread_of s) q (above_rests (sent s q) (d.path (thread_of s)) (move_of q) h (inr (inr (rests_move q))))) in
          let one : q ≡ r = elim (above_line q r (d.path (thread_of r)) uq lr) [
            | inl a ↦ one_receive (thread_of r) q r kq lr a nq
            | inr a ↦
                sym (one_receive (thread_of r) r q here.1 uq a (sym nq))
          ] in
          subst (λ z. IsAbove (sent s z) (d.path (thread_of s))) one h

  -- so all of one is in the other
  follows : (x : Path) → IsAbove x (c.path (thread_of x)) → IsAbove x (d.path (thread_of x))
  follows (planted t) up = subst (λ k. IsAbove (planted k) (d.path t)) (d.threads t) (root_above (d.path t))
  follows (branched p l) up = by_letter p l up (follows p (above_trans p (branched p l) (c.path (thread_of p)) (inr (above_self p)) up))
  follows (sent s r) up =
      by_target s r up (follows s (above_trans s (sent s r) (c.path (thread_of s)) (inr (above_self s)) up))
      (follows r (top g c (thread_of s) r (above_rests (sent s r) (c.path (thread_of s)) (move_of r) up (inr (inr (rests_move r))))))
  follows (got s r) up =
      let first : IsAbove (sent s r) (c.path (thread_of s)) = top g c (thread_of r) (sent s r) (above_rests (got s r) (c.path (thread_of r)) (sent s r) up (inl refl)) in
      let then_too : IsAbove (sent s r) (d.path (thread_of s)) = by_target s r first (follows s (above_trans s (sent s r) (c.path (thread_of s)) (inr (above_self s)) first))
      (follows r (top g c (thread_of s) r (above_rests (sent s r) (c.path (thread_of s)) (move_of r) first (inr (inr (rests_move r)))))) in
      top g d (thread_of s) (got s r) (above_rests (sent s r) (d.path (thread_of s)) (sent s r) then_too (inl refl))

  stands_in : (t : ℕ) → IsAbove (c.path t) (d.path t)
  stands_in t = subst (λ k. IsAbove (c.path t) (d.path k)) (c.threads t) (follows (c.path t) (subst (λ k. IsAbove (c.path t) (c.path k)) (sym (c.threads t)) (above_self (c.path t))))

pub digits_tell : (g : List Member) (c d : Standing g) → AreAlike g c d → (t : ℕ) → c.path t ≡ d.path t
digits_tell g c d like t = above_both (c.path t) (d.path t) (stands_in g c d like t)
    (stands_in g d c (record { letters_are = λ n. sym (like.letters_are n); targets_are = λ n. sym (like.targets_are n) }) t)
