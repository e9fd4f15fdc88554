-- In a store in which every path has gone on, each chain of joint steps has its paths.
use Rattle.std.proofs.Common.{◌≡◌, ◌⊎◌, inl, inr, ℕ, List, [], ◌∷◌, ◌++◌, Bool, true, false, cond}
use Rattle.std.proofs.Common.{Option, Some, None, refl, ap, ap₂, sym, ◌∙◌, subst, nat_eq, eqb-true, eq-eqb, append_assoc, append-nil}
use Rattle.std.specs.Option.{option_and_then}
use Rattle.te_terms.specs.Steps.{Member, at_term, quiet_step}
use Rattle.te_terms.specs.Joint.{Label, choice, meeting, Action, quiet, labelled, after_choice, member_of, with_member, joint_step, after, labels}
use Rattle.te_terms.specs.Settling.{settled}
use Rattle.te_terms.proofs.Settles.{settled_already, settled_after}
use Rattle.te_terms.proofs.OneThing.{choice_rests, send_is_alone, receive_is_alone}
use Rattle.te_trail.specs.Paths.{Path, planted, branched, sent, got, thread_of, own_labels, IsAbove, OnOneLine}
use Rattle.te_trail.specs.Clocks.{deeper, clock_of, Agree, IsSound}
use Rattle.te_trail.specs.States.{chosen, MovedEnds, members_met, path_state}
use Rattle.te_trail.specs.Views.{view_of}
use Rattle.te_trail.proofs.Lines.{above_self}
use Rattle.te_trail.proofs.ClockLaws.{eq_apart, deeper_either, Agrees, agree_by}
use Rattle.te_terms.proofs.Lists.{eq_same, some_map}
use Rattle.te_trail.proofs.MembersMove.{found_new, found_other, view_append, Handing, handing}
use Rattle.te_trail.proofs.MovesChain.{view_choice, view_choice_other, view_sender, view_receiver, view_other, state_after}
use Rattle.te_trail.proofs.AgreeIsExact.{agree_flip}
use Rattle.te_search.proofs.StepsTaken.{Stepping, stepped_quietly, stepped_by_choice, Joining, stepped_by_meeting}

pub put_here : (i : ℕ) (h : List Member) (m u : Member) → u.thread ≡ i → member_of i h ≡ Some m → member_of i (with_member u h) ≡ Some u
put_here i h m u at e = subst (λ k. member_of k (with_member u h) ≡ Some u) at (found_new u m h (ap (λ k. member_of k h) at ∙ e))

pub put_other : (s i : ℕ) (h : List Member) (u : Member) → u.thread ≡ i → nat_eq s i ≡ false → member_of s (with_member u h) ≡ member_of s h
put_other s i h u at ne = found_other s u h (ap (nat_eq s) at ∙ ne)

-- ---- how agreement goes on
pub agree_branch : (p q : Path) (l : Bool) → Agrees p q → Agrees (branched p l) q
agree_branch p q l ag = record {
  apart = ag.apart;
  lines = λ t a b e f. line t a b (nat_eq t (thread_of p)) refl e f;
  first = λ b e. inr (ag.first b e);
  second = λ a e. back a (nat_eq (thread_of q) (thread_of p)) refl e;
}
  where
    line : (t : ℕ) (a b : Path) (o : Bool) → nat_eq t (thread_of p) ≡ o → cond o (Some (branched p l)) (clock_of p t) ≡ Some a → clock_of q t ≡ Some b → OnOneLine a b
    line t a b true w e f = let one : branched p l ≡ a = cc in subst (λ z. OnOneLine z b) one (inr (inr (ag.first b (subst (λ n. clock_of q n ≡ Some b) (eqb-true t (thread_of p) w) f))))
    line t a b false w e f = ag.lines t a b e f

    back : (a : Path) (o : Bool) → nat_eq (thread_of q) (thread_of p) ≡ o → cond o (Some (branched p l)) (clock_of p (thread_of q)) ≡ Some a → IsAbove a q
    back a true w e = let z : nat_eq (thread_of q) (thread_of p) ≡ false = eq_apart (thread_of p) (thread_of q) ag.apart in cc
    back a false w e = ag.second a e

abbrev meet_clock : Path → Path → ℕ → Bool → Bool → Option Path
meet_clock s r t o u = cond o (Some (sent s r)) (cond u (Some (got s r)) (deeper (clock_of s t) (clock_of r t)))

meet_lines : (s r q : Path) → Agrees s q → Agrees r q → (t : ℕ) (a b : Path) → clock_of (sent s r) t ≡ Some a → clock_of q t ≡ Some b → OnOneLine a b
meet_lines s r q sq rq t a b e f = go (nat_eq t (thread_of s)) refl (nat_eq t (thread_of r)) refl e
  where
    go : (o : Bool) → nat_eq t (thread_of s) ≡ o → (u : Bool) → nat_eq t (thread_of r) ≡ u → meet_clock s r t o u ≡ Some a → OnOneLine a b
    go true w u v e = let one : sent s r ≡ a = cc in subst (λ z. OnOneLine z b) one (inr (inr (sq.first b (subst (λ n. clock_of q n ≡ Some b) (eqb-true t (thread_of s) w) f))))
    go false w true v e = let one : got s r ≡ a = cc in subst (λ z. OnOneLine z b) one (inr (inr (rq.first b (subst (λ n. clock_of q n ≡ Some b) (eqb-true t (thread_of r) v) f))))
    go false w false v e = elim (deeper_either (clock_of s t) (clock_of r t) a e) [ inl h ↦ sq.lines t a b h f | inr h ↦ rq.lines t a b h f ]

meet_back : (s r q : Path) → Agrees s q → Agrees r q → (a : Path) → clock_of (sent s r) (thread_of q) ≡ Some a → IsAbove a q
meet_back s r q sq rq a e = elim (deeper_either (clock_of s (thread_of q)) (clock_of r (thread_of q)) a
    (go (nat_eq (thread_of q) (thread_of s)) refl (nat_eq (thread_of q) (thread_of r)) refl e)) [ inl h ↦ sq.second a h | inr h ↦ rq.second a h ]
  where
    go : (o : Bool) → nat_eq (thread_of q) (thread_of s) ≡ o → (u : Bool) → nat_eq (thread_of q) (thread_of r) ≡ u → meet_clock s r (thread_of q) o u ≡ Some a
        → deeper (clock_of s (thread_of q)) (clock_of r (thread_of q)) ≡ Some a
    go true w u v e = let z : nat_eq (thread_of q) (thread_of s) ≡ false = eq_apart (thread_of s) (thread_of q) sq.apart in cc
    go false w true v e = let z : nat_eq (thread_of q) (thread_of r) ≡ false = eq_apart (thread_of r) (thread_of q) rq.apart in cc
    go false w false v e = e

pub agree_sent : (s r q : Path) → Agrees s q → Agrees r q → Agrees (sent s r) q
agree_sent s r q sq rq = record {
  apart = sq.apart;
  lines = meet_lines s r q sq rq;
  first = λ b e. inr (sq.first b e);
  second = meet_back s r q sq rq;
}

pub agree_got : (s r q : Path) → Agrees s q → Agrees r q → Agrees (got s r) q
agree_got s r q sq rq = record {
  apart = rq.apart;
  lines = λ t a b e f. meet_lines s r q sq rq t a b e f;
  first = λ b e. inr (rq.first b e);
  second = λ a e. meet_back s r q sq rq a e;
}

pub agree_ends : (s r : Path) → nat_eq (thread_of s) (thread_of r) ≡ false → Agrees (sent s r) (got s r)
agree_ends s r ne = record {
  apart = ne;
  lines = λ t a b e f. (let f2 : clock_of (sent s r) t ≡ Some b = f in let one : a ≡ b = cc in inl (subst (λ z. IsAbove a z) one (above_self a)));
  first = λ b e. (let at : clock_of (sent s r) (thread_of s) ≡ Some (sent s r) = rw (eq_same (thread_of s)) refl in let e2 : clock_of (sent s r)
      (thread_of s) ≡ Some b = e in let one : sent s r ≡ b = cc in subst (λ z. IsAbove z (sent s r)) one (inl refl));
  second = λ a e. (let at : clock_of (sent s r) (thread_of r) ≡ Some (got s r) = rw
      (eq_apart (thread_of s) (thread_of r) ne, eq_same (thread_of r)) refl in let one : got s r ≡ a = cc in subst (λ z. IsAbove z (got s r)) one (inl refl));
}

pub agree_planted : (s t : ℕ) → nat_eq s t ≡ false → Agrees (planted s) (planted t)
agree_planted s t ne = record {
  apart = ne;
  lines = λ n a b e f. two n a b (nat_eq n s) refl (nat_eq n t) refl e f;
  first = λ b e. (let e2 : cond false (Some (planted t)) None ≡ Some b = subst (λ o. cond o (Some (planted t)) None ≡ Some b) ne e in absurd (none b e2));
  second = λ a e. (let e2 : cond false (Some (planted s)) None ≡ Some a = subst (λ o. cond o (Some (planted s)) None ≡ Some a) (eq_apart s t ne) e in absurd (none a e2));
}
  where
    none : (x : Path) → None ≡ Some x → ⊥
    none x e = cc

    two : (n : ℕ) (a b : Path) (o : Bool) → nat_eq n s ≡ o → (u : Bool) → nat_eq n t ≡ u → cond o (Some (planted s)) None ≡ Some a → cond u (Some (planted t)) None ≡ Some b → OnOneLine a b
    two n a b false w u v e f = absurd (none a e)
    two n a b true w false v e f = absurd (none b f)
    two n a b true w true v e f = let z : nat_eq s t ≡ true = eq-eqb s t (sym (eqb-true n s w) ∙ eqb-true n t v) in cc

-- ---- every path has gone on
pub record Full (g : List Member) (made : Path → Type 0) : Type 0 where
  pub plants : (t : ℕ) (e : Member) → member_of t g ≡ Some e → made (planted t)
  pub branches : (p : Path) (l : Bool) (e u : Member) → made p → path_state g p ≡ Some e → chosen l e ≡ Some u → made (branched p l)
  pub joins : (p q : Path) (a b : Member) (r : MovedEnds) → made p → made q → Agrees p q → path_state g p ≡ Some a
      → path_state g q ≡ Some b → members_met a b ≡ Some r → made (sent p q) × made (got p q)

-- one made path for each member, where a after with the labels w has come to h
pub record Covers (g : List Member) (made : Path → Type 0) (h : List Member) (w : List Label) : Type 0 where
  pub path : ℕ → Path
  pub threads : (t : ℕ) → thread_of (path t) ≡ t
  pub sounds : (t : ℕ) → IsSound (path t)
  pub agrees : (s t : ℕ) → nat_eq s t ≡ false → Agrees (path s) (path t)
  pub told : (t : ℕ) → own_labels (path t) ≡ view_of t w
  pub stands : (t : ℕ) (e : Member) → member_of t h ≡ Some e → made (path t) × (path_state g (path t) ≡ Some (settled e))
  pub kept : (t : ℕ) → (path t ≡ planted t) ⊎ ((e : Member) × (path_state g (path t) ≡ Some e))

pub covers_start : (g : List Member) (made : Path → Type 0) → Full g made → Covers g made g []
covers_start g made full = record {
  path = planted;
  threads = λ t. refl;
  sounds = λ t. record {};
  agrees = agree_planted;
  told = λ t. refl;
  stands = λ t e at. (full.plants t e at, rw at refl);
  kept = λ t. inl refl;
}

chosen_waits : (l : Bool) (m u : Member) → chosen l m ≡ Some u → settled m ≡ m
chosen_waits l m u e = settled_already m (choice_rests m l m.term (some_map (at_term m) (after_choice l m.term) u e).0 (some_map (at_term m) (after_choice l m.term) u e).1).0.0

met_waits : (s r : Member) (p : MovedEnds) → members_met s r ≡ Some p → (settled s ≡ s) × (settled r ≡ r)
met_waits s r p e =
    let h : Handing s r p = handing s r p e in
    (settled_already s (send_is_alone s s.term h.message h.sends).0.0, settled_already r (receive_is_alone r r.term h.channel h.receives).0.0)

pub covers_quiet : (g : List Member) (made : Path → Type 0) (h : List Member) (w : List Label) → Covers g made h w → (i : ℕ) (t u : Member) → u.thread ≡ i → member_of i h ≡ Some t
    → quiet_step t ≡ Some u → Covers g made (with_member u h) w
covers_quiet g made h w c i t u tu at q = record {
  path = c.path;
  threads = c.threads;
  sounds = c.sounds;
  agrees = c.agrees;
  told = c.told;
  stands = λ k e now. go k e (nat_eq k i) refl now;
  kept = c.kept;
}
  where
    go : (k : ℕ) (e : Member) (o : Bool) → nat_eq k i ≡ o → member_of k (with_member u h) ≡ Some e → made (c.path k) × (path_state g (c.path k) ≡ Some (settled e))
    go k e true n now =
        let one : k ≡ i = eqb-true k i n in
        let here : member_of i (with_member u h) ≡ Some u = put_here i h t u tu at in
        let here2 : member_of i (with_member u h) ≡ Some e = subst (λ m. member_of m (with_member u h) ≡ Some e) one now in
        let same : u ≡ e = cc in
        let was : made (c.path i) × (path_state g (c.path i) ≡ Some (settled t)) = c.stands i t at in
        subst (λ m. made (c.path m) × (path_state g (c.path m) ≡ Some (settled e))) (sym one) (was.0, was.1 ∙ ap Some (sym (settled_after t u q) ∙ ap settled same))
    go k e false n now = c.stands k e (sym (put_other k i h u tu n) ∙ now)

covers_choice : (g : List Member) (made : Path → Type 0) → Full g made → (h : List Member) (w : List Label) → Covers g made h w → (i : ℕ) (l : Bool) (t u : Member) → u.thread ≡ i
    → member_of i h ≡ Some t → chosen l t ≡ Some u → Covers g made (with_member u h) (w ++ (choice i l ∷ []))
covers_choice g made full h w c i l t u tu at ch =
    let was : made (c.path i) × (path_state g (c.path i) ≡ Some (settled t)) = c.stands i t at in
    let here : path_state g (c.path i) ≡ Some t = was.1 ∙ ap Some (chosen_waits l t u ch) in
    let fresh : made (branched (c.path i) l) = full.branches (c.path i) l t u was.0 here ch in
    let now : path_state g (branched (c.path i) l) ≡ Some (settled u) = rw (here, ch) refl in
    record {
      path = λ k. cond (nat_eq k i) (branched (c.path i) l) (c.path k);
      threads = λ k. thr k (nat_eq k i) refl;
      sounds = λ k. snd k (nat_eq k i);
      agrees = λ a b ne. agr a b ne (nat_eq a i) refl (nat_eq b i) refl;
      told = λ k. tld k (nat_eq k i) refl;
      stands = λ k e e2. stn fresh now k e (nat_eq k i) refl e2;
      kept = λ k. kpt (settled u, now) k (nat_eq k i) refl;
    }
  where
    kpt : ((e : Member) × (path_state g (branched (c.path i) l) ≡ Some e)) → (k : ℕ) (o : Bool) → nat_eq k i ≡ o → (cond o (branched (c.path i) l) (c.path k) ≡ planted k) ⊎
        ((e : Member) × (path_state g (cond o (branched (c.path i) l) (c.path k)) ≡ Some e))
    kpt f k true w = inr f
    kpt f k false w = c.kept k

    thr : (k : ℕ) (o : Bool) → nat_eq k i ≡ o → thread_of (cond o (branched (c.path i) l) (c.path k)) ≡ k
    thr k true w = c.threads i ∙ sym (eqb-true k i w)
    thr k false w = c.threads k

    snd : (k : ℕ) (o : Bool) → IsSound (cond o (branched (c.path i) l) (c.path k))
    snd k true = c.sounds i
    snd k false = c.sounds k

    agr : (a b : ℕ) → nat_eq a b ≡ false → (o : Bool) → nat_eq a i ≡ o → (v : Bool) → nat_eq b i ≡ v → Agrees (cond o (branched (c.path i) l) (c.path a)) (cond v (branched (c.path i) l) (c.path b))
    agr a b ne true f true k = let z : nat_eq a b ≡ true = eq-eqb a b (eqb-true a i f ∙ sym (eqb-true b i k)) in cc
    agr a b ne true f false k = agree_branch (c.path i) (c.path b) l (c.agrees i b (eq_apart b i k))
    agr a b ne false f true k = agree_flip (branched (c.path i) l) (c.path a) (agree_branch (c.path i) (c.path a) l (c.agrees i a (eq_apart a i f)))
    agr a b ne false f false k = c.agrees a b ne

    tld : (k : ℕ) (o : Bool) → nat_eq k i ≡ o → own_labels (cond o (branched (c.path i) l) (c.path k)) ≡ view_of k (w ++ (choice i l ∷ []))
    tld k true f = subst (λ m. own_labels (branched (c.path i) l) ≡ view_of m (w ++ (choice i l ∷ []))) (sym (eqb-true k i f))
        (ap₂ (λ a j. a ++ (choice j l ∷ [])) (c.told i) (c.threads i) ∙ ap (λ x. view_of i w ++ x) (sym (view_choice i l)) ∙ sym (view_append i w (choice i l ∷ [])))
    tld k false f = c.told k ∙ sym (append-nil (view_of k w)) ∙ ap (λ x. view_of k w ++ x) (sym (view_choice_other k i l f)) ∙ sym (view_append k w (choice i l ∷ []))

    stn : made (branched (c.path i) l) → path_state g (branched (c.path i) l) ≡ Some (settled u) → (k : ℕ) (e : Member) (o : Bool) → nat_eq k i ≡ o
        → member_of k (with_member u h) ≡ Some e → made (cond o (branched (c.path i) l) (c.path k)) × (path_state g (cond o (branched (c.path i) l) (c.path k)) ≡ Some (settled e))
    stn fresh st k e true f now =
        let here : member_of i (with_member u h) ≡ Some u = put_here i h t u tu at in
        let here2 : member_of i (with_member u h) ≡ Some e = subst (λ m. member_of m (with_member u h) ≡ Some e) (eqb-true k i f) now in
        let same : u ≡ e = cc in
        (fresh, st ∙ ap (λ x. Some (settled x)) same)
    stn fresh st k e false f now = c.stands k e (sym (put_other k i h u tu f) ∙ now)

-- the paths after a meeting of the threads i and j
abbrev paired : Path → Path → Bool → Bool → Path → Path
paired s r o v x = cond o (sent s r) (cond v (got s r) x)

covers_meet : (g : List Member) (made : Path → Type 0) → Full g made → (h : List Member) (w : List Label) → Covers g made h w → (i j : ℕ) (a b : Member) (p : MovedEnds)
    → nat_eq i j ≡ false → p.sender.thread ≡ i → p.receiver.thread ≡ j → member_of i h ≡ Some a → member_of j h ≡ Some b → members_met a b ≡ Some p
    → Covers g made (with_member p.receiver (with_member p.sender h)) (w ++ (meeting i j ∷ []))
covers_meet g made full h w c i j a b p ne ti tj ata atb m =
    let wa : made (c.path i) × (path_state g (c.path i) ≡ Some (settled a)) = c.stands i a ata in
    let wb : made (c.path j) × (path_state g (c.path j) ≡ Some (settled b)) = c.stands j b atb in
    let still : (settled a ≡ a) × (settled b ≡ b) = met_waits a b p m in
    let ha : path_state g (c.path i) ≡ Some a = wa.1 ∙ ap Some still.0 in
    let hb : path_state g (c.path j) ≡ Some b = wb.1 ∙ ap Some still.1 in
    let fresh : made (sent (c.path i) (c.path j)) × made (got (c.path i) (c.path j)) = full.joins (c.path i) (c.path j) a b p wa.0 wb.0 (c.agrees i j ne) ha hb m in
    let now : (path_state g (sent (c.path i) (c.path j)) ≡ Some (settled p.sender)) × (path_state g (got (c.path i) (c.path j)) ≡ Some (settled p.receiver)) = state_after g (c.path i)
    (c.path j) a b p ha hb m in
    record {
      path = λ k. paired (c.path i) (c.path j) (nat_eq k i) (nat_eq k j) (c.path k);
      threads = λ k. thr k (nat_eq k i) refl (nat_eq k j) refl;
      sounds = λ k. snd k (nat_eq k i) (nat_eq k j);
      agrees = λ x y n. agr x y n (nat_eq x i) refl (nat_eq x j) refl (nat_eq y i) refl (nat_eq y j) refl;
      told = λ k. tld k (nat_eq k i) refl (nat_eq k j) refl;
      stands = λ k e e2. stn fresh now k e (nat_eq k i) refl (nat_eq k j) refl e2;
      kept = λ k. kpt (settled p.sender, now.0) (settled p.receiver, now.1) k (nat_eq k i) (nat_eq k j);
    }
  where
    kpt : ((e : Member) × (path_state g (sent (c.path i) (c.path j)) ≡ Some e)) → ((e : Member) × (path_state g (got (c.path i) (c.path j)) ≡ Some e)) → (k : ℕ) (o v : Bool)
        → (paired (c.path i) (c.path j) o v (c.path k) ≡ planted k) ⊎ ((e : Member) × (path_state g (paired (c.path i) (c.path j) o v (c.path k)) ≡ Some e))
    kpt f h k true v = inr f
    kpt f h k false true = inr h
    kpt f h k false false = c.kept k

    both_sound : IsSound (c.path i) × IsSound (c.path j) × Agree (c.path i) (c.path j)
    both_sound = (c.sounds i, c.sounds j, agree_by (c.path i) (c.path j) (c.agrees i j ne))

    apart : nat_eq (thread_of (c.path i)) (thread_of (c.path j)) ≡ false
    apart = (c.agrees i j ne).apart

    sent_other : (k : ℕ) → nat_eq k i ≡ false → nat_eq k j ≡ false → Agrees (sent (c.path i) (c.path j)) (c.path k)
    sent_other k ni nj = agree_sent (c.path i) (c.path j) (c.path k) (c.agrees i k (eq_apart k i ni)) (c.agrees j k (eq_apart k j nj))

    got_other : (k : ℕ) → nat_eq k i ≡ false → nat_eq k j ≡ false → Agrees (got (c.path i) (c.path j)) (c.path k)
    got_other k ni nj = agree_got (c.path i) (c.path j) (c.path k) (c.agrees i k (eq_apart k i ni)) (c.agrees j k (eq_apart k j nj))

    thr : (k : ℕ) (o : Bool) → nat_eq k i ≡ o → (v : Bool) → nat_eq k j ≡ v → thread_of (paired (c.path i) (c.path j) o v (c.path k)) ≡ k
    thr k true e v f = c.threads i ∙ sym (eqb-true k i e)
    thr k false e true f = c.threads j ∙ sym (eqb-true k j f)
    thr k false e false f = c.threads k

    snd : (k : ℕ) (o v : Bool) → IsSound (paired (c.path i) (c.path j) o v (c.path k))
    snd k true v = both_sound
    snd k false true = both_sound
    snd k false false = c.sounds k

    clash : (x y k : ℕ) → nat_eq x k ≡ true → nat_eq y k ≡ true → nat_eq x y ≡ false → ⊥
    clash x y k e f n = let z : nat_eq x y ≡ true = eq-eqb x y (eqb-true x k e ∙ sym (eqb-true y k f)) in cc

    agr : (x y : ℕ) → nat_eq x y ≡ false → (o : Bool) → nat_eq x i ≡ o → (v : Bool) → nat_eq x j ≡ v → (o2 : Bool) → nat_eq y i ≡ o2 → (v2 : Bool) → nat_eq y j ≡ v2
        → Agrees (paired (c.path i) (c.path j) o v (c.path x)) (paired (c.path i) (c.path j) o2 v2 (c.path y))
    agr x y n true e v f true e2 v2 f2 = absurd (clash x y i e e2 n)
    agr x y n true e v f false e2 true f2 = agree_ends (c.path i) (c.path j) apart
    agr x y n true e v f false e2 false f2 = sent_other y e2 f2
    agr x y n false e true f true e2 v2 f2 = agree_flip (sent (c.path i) (c.path j)) (got (c.path i) (c.path j)) (agree_ends (c.path i) (c.path j) apart)
    agr x y n false e true f false e2 true f2 = absurd (clash x y j f f2 n)
    agr x y n false e true f false e2 false f2 = got_other y e2 f2
    agr x y n false e false f true e2 v2 f2 = agree_flip (sent (c.path i) (c.path j)) (c.path x) (sent_other x e f)
    agr x y n false e false f false e2 true f2 = agree_flip (got (c.path i) (c.path j)) (c.path x) (got_other x e f)
    agr x y n false e false f false e2 false f2 = c.agrees x y n

    label : meeting (thread_of (c.path i)) (thread_of (c.path j)) ≡ meeting i j
    label = ap₂ meeting (c.threads i) (c.threads j)

    tld : (k : ℕ) (o : Bool) → nat_eq k i ≡ o → (v : Bool) → nat_eq k j ≡ v → own_labels (paired (c.path i) (c.path j) o v (c.path k)) ≡ view_of k (w ++ (meeting i j ∷ []))
    tld k true e v f = subst (λ n. own_labels (sent (c.path i) (c.path j)) ≡ view_of n (w ++ (meeting i j ∷ []))) (sym (eqb-true k i e))
        (ap₂ (λ x l. x ++ (l ∷ [])) (c.told i) label ∙ ap (λ x. view_of i w ++ x) (sym (view_sender i j)) ∙ sym (view_append i w (meeting i j ∷ [])))
    tld k false e true f = subst (λ n. own_labels (got (c.path i) (c.path j)) ≡ view_of n (w ++ (meeting i j ∷ []))) (sym (eqb-true k j f))
        (ap₂ (λ x l. x ++ (l ∷ [])) (c.told j) label ∙ ap (λ x. view_of j w ++ x) (sym (view_receiver i j ne)) ∙ sym (view_append j w (meeting i j ∷ [])))
    tld k false e false f = c.told k ∙ sym (append-nil (view_of k w)) ∙ ap (λ x. view_of k w ++ x) (sym (view_other k i j e f)) ∙ sym (view_append k w (meeting i j ∷ []))

    at_i : member_of i (with_member p.receiver (with_member p.sender h)) ≡ Some p.sender
    at_i = put_other i j (with_member p.sender h) p.receiver tj ne ∙ put_here i h a p.sender ti ata

    at_j : member_of j (with_member p.receiver (with_member p.sender h)) ≡ Some p.receiver
    at_j = put_here j (with_member p.sender h) b p.receiver tj (put_other j i h p.sender ti (eq_apart i j ne) ∙ atb)

    stn : made (sent (c.path i) (c.path j)) × made (got (c.path i) (c.path j)) → (path_state g (sent (c.path i) (c.path j)) ≡ Some (settled p.sender)) ×
        (path_state g (got (c.path i) (c.path j)) ≡ Some (settled p.receiver))
        → (k : ℕ) (e : Member) (o : Bool) → nat_eq k i ≡ o → (v : Bool) → nat_eq k j ≡ v → member_of k (with_member p.receiver (with_member p.sender h)) ≡ Some e
        → made (paired (c.path i) (c.path j) o v (c.path k)) × (path_state g (paired (c.path i) (c.path j) o v (c.path k)) ≡ Some (settled e))
    stn fresh now k e true n v f at =
        let there : member_of i (with_member p.receiver (with_member p.sender h)) ≡ Some e = subst (λ q. member_of q (with_member p.receiver (with_member p.sender h)) ≡ Some e) (eqb-true k i n) at in
        let here : member_of i (with_member p.receiver (with_member p.sender h)) ≡ Some p.sender = at_i in
        let same : p.sender ≡ e = cc in
        (fresh.0, now.0 ∙ ap (λ x. Some (settled x)) same)
    stn fresh now k e false n true f at =
        let there : member_of j (with_member p.receiver (with_member p.sender h)) ≡ Some e = subst (λ q. member_of q (with_member p.receiver (with_member p.sender h)) ≡ Some e) (eqb-true k j f) at in
        let here : member_of j (with_member p.receiver (with_member p.sender h)) ≡ Some p.receiver = at_j in
        let same : p.receiver ≡ e = cc in
        (fresh.1, now.1 ∙ ap (λ x. Some (settled x)) same)
    stn fresh now k e false n false f at = c.stands k e (sym (put_other k j (with_member p.sender h) p.receiver tj f ∙ put_other k i h p.sender ti n) ∙ at)

-- by induction on the chain: a quiet step changes nothing, a choice replaces one path by its branch, and a meeting replaces two agreeing paths by the two that they make
pub covers_chain : (g : List Member) (made : Path → Type 0) → Full g made → (actions : List Action) (h k : List Member) (w : List Label) → Covers g made h w
    → after actions h ≡ Some k → Covers g made k (w ++ labels actions)
covers_chain g made full [] h k w c e = let same : h ≡ k = cc in subst (λ v. Covers g made k v) (sym (append-nil w)) (subst (λ x. Covers g made x w) same c)
covers_chain g made full (quiet i ∷ rest) h k w c e = go (λ x d f. covers_chain g made full rest x k w d f) (joint_step (quiet i) h) refl e
  where
    go : ((x : List Member) → Covers g made x w → after rest x ≡ Some k → Covers g made k (w ++ labels rest)) → (o : Option (List Member)) → joint_step (quiet i) h ≡ o
        → option_and_then (after rest) o ≡ Some k → Covers g made k (w ++ labels rest)
    go ih None s e = cc
    go ih (Some x) s e =
        let a : Stepping quiet_step i h x = stepped_quietly i h x s in
        ih x (subst (λ y. Covers g made y w) a.is (covers_quiet g made h w c i a.before a.next a.thread a.at a.steps)) e
covers_chain g made full (labelled (choice i l) ∷ rest) h k w c e = go (λ x d f. covers_chain g made full rest x k (w ++ (choice i l ∷ [])) d f) (joint_step (labelled (choice i l)) h) refl e
  where
    go : ((x : List Member) → Covers g made x (w ++ (choice i l ∷ [])) → after rest x ≡ Some k → Covers g made k ((w ++ (choice i l ∷ [])) ++ labels rest))
        → (o : Option (List Member)) → joint_step (labelled (choice i l)) h ≡ o → option_and_then (after rest) o ≡ Some k → Covers g made k (w ++ (choice i l ∷ labels rest))
    go ih None s e = cc
    go ih (Some x) s e =
        let a : Stepping (chosen l) i h x = stepped_by_choice i l h x s in
        subst (λ v. Covers g made k v) (append_assoc w (choice i l ∷ []) (labels rest))
        (ih x (subst (λ y. Covers g made y (w ++ (choice i l ∷ []))) a.is (covers_choice g made full h w c i l a.before a.next a.thread a.at a.steps)) e)
covers_chain g made full (labelled (meeting i j) ∷ rest) h k w c e = go (λ x d f. covers_chain g made full rest x k (w ++ (meeting i j ∷ [])) d f) (joint_step (labelled (meeting i j)) h) refl e
  where
    go : ((x : List Member) → Covers g made x (w ++ (meeting i j ∷ [])) → after rest x ≡ Some k → Covers g made k ((w ++ (meeting i j ∷ [])) ++ labels rest))
        → (o : Option (List Member)) → joint_step (labelled (meeting i j)) h ≡ o → option_and_then (after rest) o ≡ Some k → Covers g made k (w ++ (meeting i j ∷ labels rest))
    go ih None s e = cc
    go ih (Some x) s e =
        let a : Joining i j h x = stepped_by_meeting i j h x s in
        subst (λ v. Covers g made k v) (append_assoc w (meeting i j ∷ []) (labels rest))
        (ih x (subst (λ y. Covers g made y (w ++ (meeting i j ∷ []))) a.is
        (covers_meet g made full h w c i j a.sender a.receiver a.ends a.apart a.sender_thread a.receiver_thread a.at_i a.at_j a.meet)) e)

pub covers : (g : List Member) (made : Path → Type 0) → Full g made → (actions : List Action) (k : List Member) → after actions g ≡ Some k → Covers g made k (labels actions)
covers g made full actions k e = covers_chain g made full actions g k [] (covers_start g made full) e
