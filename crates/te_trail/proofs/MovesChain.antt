-- The moves of a set of agreeing paths, in order of making, are one chain.
use Rattle.std.proofs.Common.{◌≡◌, ◌⊎◌, ◌≤◌, ◌<◌, inl, inr, ℕ, zero, suc, ◌+◌, List, [], ◌∷◌, ◌++◌, length, Bool, true}
use Rattle.std.proofs.Common.{false, cond, ltb, ◌||◌, ◌&&◌, Option, Some, None, option_map, IsTrue, refl, ap, ap₂, sym}
use Rattle.std.proofs.Common.{◌∙◌, subst, arith, rules, nat_eq, le_refl, le_of_lt, eq-or-lt_of_le, eqb-true, eq-eqb}
use Rattle.std.proofs.Common.{ltb-true, ltb-false, append_assoc, append-nil, length-append, true≢false}
use Rattle.std.specs.Option.{option_and_then}
use Rattle.te_terms.specs.Steps.{Member}
use Rattle.te_terms.specs.Settling.{settled}
use Rattle.te_terms.specs.Joint.{Label, choice, meeting, labels, member_of}
use Rattle.te_trail.specs.Paths.{Path, planted, branched, sent, got, thread_of, depth_of, own_labels, IsAbove, OnOneLine, move_of, RestsOn}
use Rattle.te_trail.specs.Clocks.{deeper, clock_of, Passes, Agree, IsSound}
use Rattle.te_trail.specs.States.{chosen, members_met, MovedEnds, path_state, HasState}
use Rattle.te_trail.specs.Stores.{Holds, IsNext, with_move, with_moves, AreMade, IsStore, labels_of_move, labels_of, same_side, same_path, rests_on, any_rests_on, trail_of, joint_trail}
use Rattle.te_trail.specs.Views.{Chain, touches, view_of, Begins, HasPast, LeavesAt, ChainOfBoth}
use Rattle.te_trail.proofs.Lines.{above_self, above_depth, above_thread, above_trans, above_same, above_both}
use Rattle.te_trail.proofs.Lines.{above_line, line_flip, line_depth, ancestor, rests_move, rests_trans, above_rests}
use Rattle.te_trail.proofs.Lines.{rests_made}
use Rattle.te_trail.proofs.ClockLaws.{eq_apart, differ, deeper_left, deeper_right, deeper_either, clock_thread}
use Rattle.te_trail.proofs.ClockLaws.{clock_in, clock_self, Agrees, agrees_by, agree_by, made_planted, made_branched}
use Rattle.te_trail.proofs.ClockLaws.{made_met, clock_top, past_line, agree_line}
use Rattle.te_terms.proofs.Lists.{eq_same, some_map}
use Rattle.te_trail.proofs.MembersMove.{found_thread, found_new, found_other, chain_append, labels_append, view_append}
use Rattle.te_trail.proofs.MembersMove.{no_chain, chain_on, Moves, quiets, settles_there, chooses, Meets, Handing}
use Rattle.te_trail.proofs.MembersMove.{handing, meets}

-- a set of moves that is closed, and whose paths of one thread stand on one line
pub record Together (g : List Member) : Type 0 where
  pub has : Path → Bool
  pub closed : (m k : Path) → IsTrue (has m) → RestsOn k m → IsTrue (has k)
  pub lines : (x y : Path) → IsTrue (has (move_of x)) → IsTrue (has (move_of y)) → thread_of x ≡ thread_of y → OnOneLine x y
  pub fits : (x : Path) → IsTrue (has (move_of x)) → (e : Member) × (path_state g x ≡ Some e)
  pub sound : (m : Path) → IsTrue (has m) → IsSound m

abbrev pub stands_at : (List Member) → ℕ → Option Path → Option Member
stands_at g t None = member_of t g
stands_at g t (Some z) = path_state g z

abbrev pub owned_by : Option Path → List Label
owned_by None = []
owned_by (Some z) = own_labels z

-- where a thread stands after the moves done
pub record PlaceAt (g : List Member) (s : Together g) (done : List Path) (h : List Member) (w : List Label) (t : ℕ) : Type 0 where
  pub place : Option Path
  pub sits : (z : Path) → place ≡ Some z → (thread_of z ≡ t) × IsTrue (s.has (move_of z)) × Holds done (move_of z)
  pub top : (x : Path) → thread_of x ≡ t → IsTrue (s.has (move_of x)) → Holds done (move_of x) → (z : Path) × (place ≡ Some z) × IsAbove x z
  pub stands : member_of t h ≡ stands_at g t place
  pub told : view_of t w ≡ owned_by place

abbrev pub AreClosed : List Path → Type 0
AreClosed done = (m k : Path) → Holds done m → RestsOn k m → Holds done k

abbrev pub AllPlaced : (g : List Member) → Together g → List Path → List Member → List Label → Type 0
AllPlaced g s done h w = (t : ℕ) → PlaceAt g s done h w t

-- a move that is new is in no past of a place
fresh : (g : List Member) (s : Together g) (done : List Path) (h : List Member) (w : List Label) (t : ℕ)
    (at : PlaceAt g s done h w t) → AreClosed done → (m z : Path) → at.place ≡ Some z → (Holds done m → ⊥) → RestsOn m z
    → ⊥
fresh g s done h w t at shut m z e new r = (new (shut (move_of z) m (at.sits z e).2 (rests_made m z r)))

-- a path that is new stands right below the thread's place
place_is : (g : List Member) (s : Together g) (done : List Path) (h : List Member) (w : List Label) (t : ℕ) (at : PlaceAt g s done h w t) → AreClosed done
    → (n p m : Path) → move_of n ≡ m → thread_of n ≡ t → thread_of p ≡ t → ((z : Path) → IsAbove z n → (z ≡ n) ⊎ IsAbove z p)
    → IsTrue (s.has m) → IsTrue (s.has (move_of p)) → Holds done (move_of p) → (Holds done m → ⊥) → at.place ≡ Some p
place_is g s done h w t at shut n p m nm tn tp under sm sp dp new = go (at.top p tp sp dp)
  where
    go : (z : Path) × (at.place ≡ Some z) × IsAbove p z → at.place ≡ Some p
    go (z, e, up) = on (s.lines z n (at.sits z e).1 (subst (λ q. IsTrue (s.has q)) (sym nm) sm) ((at.sits z e).0 ∙ sym tn))
      where
        on : OnOneLine z n → at.place ≡ Some p
        on (inl b) = elim (under z b) [
          | inl same ↦ absurd ((new
              (subst (λ q. Holds done q) (ap move_of same ∙ nm) (at.sits z e).2)))
          | inr c ↦
              (let one : z ≡ p = above_both z p c up in e ∙ ap Some one)
        ]
        on (inr b) = absurd (fresh g s done h w t at shut m z e new (above_rests n z m b (subst (λ q. RestsOn q n) nm (rests_move n))))

place_none : (g : List Member) (s : Together g) (done : List Path) (h : List Member) (w : List Label) (t : ℕ) (at : PlaceAt g s done h w t) → AreClosed done
    → IsTrue (s.has (planted t)) → (Holds done (planted t) → ⊥) → at.place ≡ None
place_none g s done h w t at shut sm new = go at.place refl
  where
    go : (o : Option Path) → at.place ≡ o → o ≡ None
    go None e = refl
    go (Some z) e = on (s.lines z (planted t) (at.sits z e).1 sm (at.sits z e).0)
      where
        on : OnOneLine z (planted t) → Some z ≡ None
        on (inl same) = absurd ((new (subst (λ q. Holds done q) (ap move_of same) (at.sits z e).2)))
        on (inr b) = absurd (fresh g s done h w t at shut (planted t) z e new (above_rests (planted t) z (planted t) b refl))

-- a thread that the move doesn't touch, or a move that isn't in the set
at_still : (g : List Member) (s : Together g) (done : List Path) (h : List Member) (w : List Label) (t : ℕ) (at : PlaceAt g s done h w t) (m : Path) (k : List Member) (l : List Label)
    → ((x : Path) → move_of x ≡ m → thread_of x ≡ t → IsTrue (s.has m) → ⊥) → member_of t k ≡ member_of t h → view_of t l ≡ [] → PlaceAt g s (m ∷ done) k (w ++ l) t
at_still g s done h w t at m k l none same quiet = record {
  place = at.place;
  sits = λ z e. ((at.sits z e).0, (at.sits z e).1, inr (at.sits z e).2);
  top = λ x tx sx dx. top x tx sx dx;
  stands = same ∙ at.stands;
  told = view_append t w l ∙ rw quiet (append-nil (view_of t w)) ∙ at.told;
}
  where
    top : (x : Path) → thread_of x ≡ t → IsTrue (s.has (move_of x)) → (move_of x ≡ m) ⊎ Holds done (move_of x) → (z : Path) × (at.place ≡ Some z) × IsAbove x z
    top x tx sx (inl e) = absurd ((none x e tx (subst (λ q. IsTrue (s.has q)) e sx)))
    top x tx sx (inr d) = at.top x tx sx d

-- a thread whose path the move makes
at_moved : (g : List Member) (s : Together g) (done : List Path) (h : List Member) (w : List Label) (t : ℕ) (at : PlaceAt g s done h w t) (n m : Path) (k : List Member) (l : List Label)
    → move_of n ≡ m → thread_of n ≡ t → IsTrue (s.has m) → ((x : Path) → move_of x ≡ m → thread_of x ≡ t → x ≡ n) → ((z : Path) → at.place ≡ Some z → IsAbove z n)
    → member_of t k ≡ path_state g n → owned_by at.place ++ view_of t l ≡ own_labels n → PlaceAt g s (m ∷ done) k (w ++ l) t
at_moved g s done h w t at n m k l nm tn sm one below stand told = record {
  place = Some n;
  sits = λ z e. (let same : n ≡ z = cc in subst (λ q. (thread_of q ≡ t) × IsTrue (s.has (move_of q)) × Holds (m ∷ done) (move_of q)) same (tn, subst (λ q. IsTrue (s.has q)) (sym nm) sm, inl nm));
  top = λ x tx sx dx. (n, refl, top x tx sx dx);
  stands = stand;
  told = view_append t w l ∙ rw at.told told;
}
  where
    top : (x : Path) → thread_of x ≡ t → IsTrue (s.has (move_of x)) → (move_of x ≡ m) ⊎ Holds done (move_of x) → IsAbove x n
    top x tx sx (inl e) = subst (λ q. IsAbove x q) (one x e tx) (above_self x)
    top x tx sx (inr d) = let a : (z : Path) × (at.place ≡ Some z) × IsAbove x z = at.top x tx sx d in above_trans x a.0 n a.2 (below a.0 a.1)

-- what the state of a path says of its parents'
pub state_branched : (g : List Member) (p : Path) (l : Bool) (e v : Member) → path_state g p ≡ Some e → path_state g (branched p l) ≡ Some v → (u : Member) × (chosen l e ≡ Some u) × (settled u ≡ v)
state_branched g p l e v at h =
    let there : option_map settled (chosen l e) ≡ Some v = subst (λ o. option_and_then (λ m. option_map settled (chosen l m)) o ≡ Some v) at h in
    some_map settled (chosen l e) v there

pub state_after : (g : List Member) (s r : Path) (a b : Member) (p : MovedEnds) → path_state g s ≡ Some a
    → path_state g r ≡ Some b → members_met a b ≡ Some p → (path_state g (sent s r) ≡ Some (settled p.sender))
    × (path_state g (got s r) ≡ Some (settled p.receiver))
state_after g s r a b p sa sb m = (rw (sa, sb, m) refl, rw (sa, sb, m) refl)

pub state_met : (g : List Member) (s r : Path) (a b v : Member) → path_state g s ≡ Some a → path_state g r ≡ Some b
    → path_state g (sent s r) ≡ Some v → (p : MovedEnds) × (members_met a b ≡ Some p)
    × (path_state g (sent s r) ≡ Some (settled p.sender)) × (path_state g (got s r) ≡ Some (settled p.receiver))
state_met g s r a b v sa sb h =
    let one : option_and_then (λ y. option_map (λ p. settled p.sender) (members_met a y)) (path_state g r) ≡ Some v =
    subst (λ o. option_and_then (λ x. option_and_then (λ y. option_map (λ p. settled p.sender) (members_met x y))
    (path_state g r)) o ≡ Some v) sa h in
    let there : option_map (λ p. settled p.sender) (members_met a b) ≡ Some v = subst (λ o. option_and_then (λ y. option_map (λ p. settled p.sender) (members_met a y)) o ≡ Some v) sb one in
    let m : (p : MovedEnds) × (members_met a b ≡ Some p) × (settled p.sender ≡ v) = some_map (λ p. settled p.sender) (members_met a b) v there in
    let next : (path_state g (sent s r) ≡ Some (settled m.0.sender)) × (path_state g (got s r) ≡ Some (settled m.0.receiver)) = state_after g s r a b m.0 sa sb m.1 in
    (m.0, m.1, next.0, next.1)

pub view_choice : (i : ℕ) (l : Bool) → view_of i (choice i l ∷ []) ≡ choice i l ∷ []
view_choice i l = rw (eq_same i) refl

pub view_choice_other : (t i : ℕ) (l : Bool) → nat_eq t i ≡ false → view_of t (choice i l ∷ []) ≡ []
view_choice_other t i l ne = rw (eq_apart t i ne) refl

pub view_sender : (i j : ℕ) → view_of i (meeting i j ∷ []) ≡ meeting i j ∷ []
view_sender i j = rw (eq_same i) refl

pub view_receiver : (i j : ℕ) → nat_eq i j ≡ false → view_of j (meeting i j ∷ []) ≡ meeting i j ∷ []
view_receiver i j ne = rw (ne, eq_same j) refl

pub view_other : (t i j : ℕ) → nat_eq t i ≡ false → nat_eq t j ≡ false → view_of t (meeting i j ∷ []) ≡ []
view_other t i j ni nj = rw (eq_apart t i ni, eq_apart t j nj) refl

-- the set's move is made, or the move is left out
pub record Goes_on (g : List Member) (s : Together g) (after : List Path) (h : List Member) (w l : List Label) : Type 0 where
  pub chain : Chain h l
  pub ats : AllPlaced g s after chain.end (w ++ l)

unsame : (a b : ℕ) → a ≡ b → nat_eq a b ≡ false → ⊥
unsame a b e ne = let z : nat_eq a b ≡ true = eq-eqb a b e in cc

left_out : (g : List Member) (s : Together g) (done : List Path) (h : List Member) (w : List Label) → AllPlaced g s done h w → (m : Path) → s.has m ≡ false → Goes_on g s (m ∷ done) h w []
left_out g s done h w ats m out = record { chain = no_chain h; ats = λ t. at_still g s done h w t (ats t) m h [] (λ x e tx inside. cc) refl refl }

plants : (g : List Member) (s : Together g) (done : List Path) (h : List Member) (w : List Label)
    → AllPlaced g s done h w → AreClosed done → (t : ℕ) → s.has (planted t) ≡ true → (Holds done (planted t) → ⊥)
    → Goes_on g s (planted t ∷ done) h w []
plants g s done h w ats shut t inside new =
    let free : (ats t).place ≡ None = place_none g s done h w t (ats t) shut inside new in
    let fit : (e : Member) × (path_state g (planted t) ≡ Some e) = s.fits (planted t) inside in
    let ev : (x : Member) × (member_of t g ≡ Some x) × (settled x ≡ fit.0) = some_map settled (member_of t g) fit.0 fit.1 in
    let now : member_of t h ≡ Some ev.0 = (ats t).stands ∙ ap (stands_at g t) free ∙ ev.1 in
    let mv : Moves h [] t (settled ev.0) = settles_there h t ev.0 now in
    record {
      chain = mv.chain;
      ats = λ u. go u mv (nat_eq u t) refl free (mv.here ∙ ap Some ev.2 ∙ sym fit.1);
    }
  where
    go : (u : ℕ) {x : Member} (mv : Moves h [] t x) (o : Bool) → nat_eq u t ≡ o → (ats t).place ≡ None
        → member_of t mv.chain.end ≡ path_state g (planted t) → PlaceAt g s (planted t ∷ done) mv.chain.end (w ++ []) u
    go u mv true e free here = subst (λ n. PlaceAt g s (planted t ∷ done) mv.chain.end (w ++ []) n) (sym (eqb-true u t e))
        (at_moved g s done h w t (ats t) (planted t) (planted t) mv.chain.end [] refl refl inside (λ x e tx. made_planted x t e) (λ z e. cc) here (rw free refl))
    go u mv false e free here = at_still g s done h w u (ats u) (planted t) mv.chain.end [] (λ x m tx y. unsame u t (sym tx ∙ ap thread_of (made_planted x t m)) e) (mv.others u e) refl

branches : (g : List Member) (s : Together g) (done : List Path) (h : List Member) (w : List Label)
    → AllPlaced g s done h w → AreClosed done → (p : Path) (l : Bool) → s.has (branched p l) ≡ true
    → Holds done (move_of p) → (Holds done (branched p l) → ⊥)
    → Goes_on g s (branched p l ∷ done) h w (choice (thread_of p) l ∷ [])
branches g s done h w ats shut p l inside dp new =
    let i : ℕ = thread_of p in
    let n : Path = branched p l in
    let sp : IsTrue (s.has (move_of p)) = s.closed n (move_of p) inside (inr (rests_move p)) in
    let at : (ats (thread_of p)).place ≡ Some p = place_is g s done h w (thread_of p) (ats (thread_of p)) shut n p n refl refl refl (λ z a. a) inside sp dp new in
    let fp : (e : Member) × (path_state g p ≡ Some e) = s.fits p sp in
    let fn : (e : Member) × (path_state g n ≡ Some e) = s.fits n inside in
    let ch : (u : Member) × (chosen l fp.0 ≡ Some u) × (settled u ≡ fn.0) = state_branched g p l fp.0 fn.0 fp.1 fn.1 in
    let now : member_of (thread_of p) h ≡ Some fp.0 = (ats (thread_of p)).stands ∙ ap (stands_at g (thread_of p)) at ∙ fp.1 in
    let mv : Moves h (choice (thread_of p) l ∷ []) (thread_of p) (settled ch.0) = chooses h (thread_of p) l fp.0 ch.0 now ch.1 in
    record {
      chain = mv.chain;
      ats = λ u. go u mv (nat_eq u (thread_of p)) refl at (mv.here ∙ ap Some ch.2 ∙ sym fn.1);
    }
  where
    go : (u : ℕ) {x : Member} (mv : Moves h (choice (thread_of p) l ∷ []) (thread_of p) x) (o : Bool)
        → nat_eq u (thread_of p) ≡ o → (ats (thread_of p)).place ≡ Some p
        → member_of (thread_of p) mv.chain.end ≡ path_state g (branched p l)
        → PlaceAt g s (branched p l ∷ done) mv.chain.end (w ++ (choice (thread_of p) l ∷ [])) u
    go u mv true e at here = subst (λ n. PlaceAt g s (branched p l ∷ done) mv.chain.end (w ++ (choice (thread_of p) l ∷ [])) n) (sym (eqb-true u (thread_of p) e))
        (at_moved g s done h w (thread_of p) (ats (thread_of p)) (branched p l) (branched p l) mv.chain.end (choice (thread_of p) l ∷ []) refl refl inside (λ x e tx. made_branched x p l e)
        (λ z e. (let one : p ≡ z = cc in inr (subst (λ q. IsAbove q p) one (above_self p)))) here (rw (at, view_choice (thread_of p) l) refl))
    go u mv false e at here = at_still g s done h w u (ats u) (branched p l) mv.chain.end (choice (thread_of p) l ∷ [])
        (λ x m tx y. unsame u (thread_of p) (sym tx ∙ ap thread_of (made_branched x p l m)) e) (mv.others u e)
        (view_choice_other u (thread_of p) l e)

joins : (g : List Member) (s : Together g) (done : List Path) (h : List Member) (w : List Label)
    → AllPlaced g s done h w → AreClosed done → (a b : Path) → s.has (sent a b) ≡ true → Holds done (move_of a)
    → Holds done (move_of b) → (Holds done (sent a b) → ⊥) → Goes_on g s (sent a b ∷ done) h w
    (meeting (thread_of a) (thread_of b) ∷ [])
joins g s done h w ats shut a b inside da db new =
    let n : Path = sent a b in
    let sa : IsTrue (s.has (move_of a)) = s.closed n (move_of a) inside (inr (inl (rests_move a))) in
    let sb : IsTrue (s.has (move_of b)) = s.closed n (move_of b) inside (inr (inr (rests_move b))) in
    let ne : nat_eq (thread_of a) (thread_of b) ≡ false = differ (s.sound n inside).2 in
    let ata : (ats (thread_of a)).place ≡ Some a = place_is g s done h w (thread_of a) (ats (thread_of a)) shut n a n refl refl refl (λ z x. x) inside sa da new in
    let atb : (ats (thread_of b)).place ≡ Some b = place_is g s done h w (thread_of b) (ats (thread_of b)) shut (got a b) b n refl refl refl (λ z x. x) inside sb db new in
    let fa : (e : Member) × (path_state g a ≡ Some e) = s.fits a sa in
    let fb : (e : Member) × (path_state g b ≡ Some e) = s.fits b sb in
    let fn : (e : Member) × (path_state g n ≡ Some e) = s.fits n inside in
    let m : (p : MovedEnds) × (members_met fa.0 fb.0 ≡ Some p) × (path_state g (sent a b) ≡ Some (settled p.sender))
    × (path_state g (got a b) ≡ Some (settled p.receiver)) = state_met g a b fa.0 fb.0 fn.0 fa.1 fb.1 fn.1 in
    let nowa : member_of (thread_of a) h ≡ Some fa.0 = (ats (thread_of a)).stands ∙ ap (stands_at g (thread_of a)) ata ∙ fa.1 in
    let nowb : member_of (thread_of b) h ≡ Some fb.0 = (ats (thread_of b)).stands ∙ ap (stands_at g (thread_of b)) atb ∙ fb.1 in
    let mv : Meets h (thread_of a) (thread_of b) (settled m.0.sender) (settled m.0.receiver) = meets h (thread_of a) (thread_of b) fa.0 fb.0 m.0 ne nowa nowb m.1 in
    record {
      chain = mv.chain;
      ats = λ u. go u mv (nat_eq u (thread_of a)) refl (nat_eq u (thread_of b)) refl ne ata atb (mv.sender ∙ sym m.2) (mv.receiver ∙ sym m.3);
    }
  where
    go : (u : ℕ) {x y : Member} (mv : Meets h (thread_of a) (thread_of b) x y) (o : Bool) → nat_eq u (thread_of a) ≡ o
        → (v : Bool) → nat_eq u (thread_of b) ≡ v → nat_eq (thread_of a) (thread_of b) ≡ false
        → (ats (thread_of a)).place ≡ Some a → (ats (thread_of b)).place ≡ Some b
        → member_of (thread_of a) mv.chain.end ≡ path_state g (sent a b)
        → member_of (thread_of b) mv.chain.end ≡ path_state g (got a b)
        → PlaceAt g s (sent a b ∷ done) mv.chain.end (w ++ (meeting (thread_of a) (thread_of b) ∷ [])) u
    go u mv true e v f ne ata atb ha hb = subst (λ n. PlaceAt g s (sent a b ∷ done) mv.chain.end (w ++ (meeting (thread_of a) (thread_of b) ∷ [])) n) (sym (eqb-true u (thread_of a) e))
        (at_moved g s done h w (thread_of a) (ats (thread_of a)) (sent a b) (sent a b) mv.chain.end (meeting (thread_of a) (thread_of b) ∷ []) refl refl inside
        (λ x m tx. elim (made_met x a b m) [ inl same ↦ same | inr same ↦ absurd ((unsame (thread_of a) (thread_of b) (sym tx ∙ ap thread_of same) ne)) ])
        (λ z e. (let one : a ≡ z = cc in inr (subst (λ q. IsAbove q a) one (above_self a)))) ha (rw (ata, view_sender (thread_of a) (thread_of b)) refl))
    go u mv false e true f ne ata atb ha hb = subst (λ n. PlaceAt g s (sent a b ∷ done) mv.chain.end (w ++ (meeting (thread_of a) (thread_of b) ∷ [])) n) (sym (eqb-true u (thread_of b) f))
        (at_moved g s done h w (thread_of b) (ats (thread_of b)) (got a b) (sent a b) mv.chain.end (meeting (thread_of a) (thread_of b) ∷ []) refl refl inside
        (λ x m tx. elim (made_met x a b m) [ inl same ↦ absurd ((unsame (thread_of a) (thread_of b) (sym (ap thread_of same) ∙ tx) ne)) | inr same ↦ same ])
        (λ z e. (let one : b ≡ z = cc in inr (subst (λ q. IsAbove q b) one (above_self b)))) hb (rw (atb, view_receiver (thread_of a) (thread_of b) ne) refl))
    go u mv false e false f ne ata atb ha hb = at_still g s done h w u (ats u) (sent a b) mv.chain.end (meeting (thread_of a) (thread_of b) ∷ [])
        (λ x m tx y. elim (made_met x a b m) [ inl same ↦ unsame u (thread_of a) (sym tx ∙ ap thread_of same) e | inr same ↦ unsame u (thread_of b) (sym tx ∙ ap thread_of same) f ])
        (mv.others u e f) (view_other u (thread_of a) (thread_of b) e f)

shut_one : (done : List Path) (m : Path) → AreClosed done → ((k : Path) → RestsOn k m → (k ≡ m) ⊎ Holds done k) → AreClosed (m ∷ done)
shut_one done m shut under n k (inl e) r = under k (subst (λ q. RestsOn k q) e r)
shut_one done m shut under n k (inr d) r = inr (shut n k d r)

pub shut_grow : (done : List Path) (x : Path) → AreClosed done → IsNext done x → AreClosed (with_move done x)
shut_grow done (planted t) shut nx = shut_one done (planted t) shut (λ k r. inl r)
shut_grow done (branched p l) shut nx = shut_one done (branched p l) shut (λ k r. elim r [ inl e ↦ inl e | inr a ↦ inr (shut (move_of p) k nx.0 (rests_made k p a)) ])
shut_grow done (sent s r) shut nx = shut_one done (sent s r) shut
    (λ k x. elim x [
      | inl e ↦ inl e
      | inr y ↦ elim y [
        | inl a ↦ inr (shut (move_of s) k nx.0 (rests_made k s a))
        | inr b ↦
            inr (shut (move_of r) k nx.1 (rests_made k r b))
      ]
    ])
shut_grow done (got s r) shut nx = shut

one_more : (g : List Member) (s : Together g) (done : List Path) (h : List Member) (w : List Label)
    → AllPlaced g s done h w → AreClosed done → (x : Path) → IsNext done x → (o : Bool) → s.has x ≡ o
    → Goes_on g s (with_move done x) h w (cond o (labels_of_move x) [])
one_more g s done h w ats shut (planted t) nx true e = plants g s done h w ats shut t e nx
one_more g s done h w ats shut (planted t) nx false e = left_out g s done h w ats (planted t) e
one_more g s done h w ats shut (branched p l) nx true e = branches g s done h w ats shut p l e nx.0 nx.1
one_more g s done h w ats shut (branched p l) nx false e = left_out g s done h w ats (branched p l) e
one_more g s done h w ats shut (sent a b) nx true e = joins g s done h w ats shut a b e nx.0 nx.1 nx.2
one_more g s done h w ats shut (sent a b) nx false e = left_out g s done h w ats (sent a b) e
one_more g s done h w ats shut (got a b) nx true e = record { chain = no_chain h; ats = λ t. subst (λ v. PlaceAt g s done h v t) (sym (append-nil w)) (ats t) }
one_more g s done h w ats shut (got a b) nx false e = record { chain = no_chain h; ats = λ t. subst (λ v. PlaceAt g s done h v t) (sym (append-nil w)) (ats t) }

-- the moves of the set, in order of making, are a chain
pub runs : (g : List Member) (s : Together g) (rest done : List Path) (h : List Member) (w : List Label)
    → AreMade done rest → AreClosed done → AllPlaced g s done h w
    → Goes_on g s (with_moves done rest) h w (labels_of s.has rest)
runs g s [] done h w made shut ats = record { chain = no_chain h; ats = λ t. subst (λ v. PlaceAt g s done h v t) (sym (append-nil w)) (ats t) }
runs g s (x ∷ rest) done h w made shut ats =
    let l : List Label = cond (s.has x) (labels_of_move x) [] in
    let a : Goes_on g s (with_move done x) h w (cond (s.has x) (labels_of_move x) []) = one_more g s done h w ats shut x made.0 (s.has x) refl in
    let b : Goes_on g s (with_moves (with_move done x) rest) a.chain.end (w ++ cond (s.has x) (labels_of_move x) [])
    (labels_of s.has rest) = runs g s rest (with_move done x) a.chain.end
    (w ++ cond (s.has x) (labels_of_move x) []) made.1 (shut_grow done x shut made.0) a.ats in
    record {
      chain = chain_on h (cond (s.has x) (labels_of_move x) []) (labels_of s.has rest) a.chain b.chain;
      ats = λ t. subst (λ v. PlaceAt g s (with_moves (with_move done x) rest) b.chain.end v t) (append_assoc w (cond (s.has x) (labels_of_move x) []) (labels_of s.has rest)) (b.ats t);
    }

pub shut_grown : (rest done : List Path) → AreClosed done → AreMade done rest → AreClosed (with_moves done rest)
shut_grown [] done shut made = shut
shut_grown (x ∷ rest) done shut made = shut_grown rest (with_move done x) (shut_grow done x shut made.0) made.1

pub store_shut : (store : List Path) → AreMade [] store → AreClosed (with_moves [] store)
store_shut store made = shut_grown store [] (λ m k d r. absurd (d)) made

-- statement 1: from the events on
pub runs_all : (g : List Member) (s : Together g) (store : List Path) → AreMade [] store → Goes_on g s (with_moves [] store) g [] (labels_of s.has store)
runs_all g s store made = runs g s store [] g [] made (λ m k d r. absurd (d)) (λ t. record {
  place = None;
  sits = λ z e. cc;
  top = λ x tx sx d. absurd (d);
  stands = refl;
  told = refl;
})
