-- What each step of a search leaves.
use Rattle.std.proofs.Common.{◌≡◌, ◌⊎◌, ◌<◌, inl, inr, ℕ, List, [], ◌∷◌, ◌++◌, Bool, true, false, Some, None, slice_get, refl, ap, sym, ◌∙◌, subst, true≢false}
use Rattle.std.specs.Option.{option_map}
use Rattle.te_terms.specs.Steps.{Member, at_term, outcome_of}
use Rattle.te_terms.specs.Settling.{settled}
use Rattle.te_terms.specs.Joint.{after_choice, sending, receiving, member_of}
use Rattle.te_terms.proofs.OneThing.{end_is_alone}
use Rattle.te_trail.specs.Paths.{Path, planted, branched, sent, got, parent_of, IsAbove}
use Rattle.te_trail.specs.Clocks.{Agree}
use Rattle.te_trail.specs.States.{chosen, MovedEnds, members_met, path_state, HasState}
use Rattle.te_trail.specs.Stores.{Holds, IsStore, same_path}
use Rattle.te_trail.proofs.ClockLaws.{agree_by}
use Rattle.te_terms.proofs.Lists.{some_map}
use Rattle.te_trail.proofs.PastsChain.{then_some, parts_of, same_true, same_self}
use Rattle.te_trail.proofs.MembersMove.{Handing, handing}
use Rattle.te_search.specs.Groups.{IsFinal}
use Rattle.te_search.specs.Searching.{NoPathTwice, AreUp, AllFail, MayMeet, IsSearch}
use Rattle.te_search.proofs.EveryChainCovered.{Full}
use Rattle.te_search.proofs.AssemblyFinds.{Commits, complete}
use Rattle.te_search.proofs.ListLaws.{holds_left, holds_right, holds_which, holds_one, once_both, once_left, once_right, once_apart}
use Rattle.te_trail.proofs.StoresHold.{place_held}
use Rattle.te_trail.proofs.StoresHold.{held}

-- ---- when nothing is left to do

pub nothing_commits : (g : List Member) (paths waits finals : List Path) → IsSearch g paths [] waits finals → ((t : ℕ) (e : Member) → member_of t g ≡ Some e → Holds paths (planted t)) → ¬ Commits g
nothing_commits g paths waits finals w plants = complete g paths finals full (λ x h f. w.final x h (λ n. n) f) w.failed
  where
    full : Full g (Holds paths)
    full = record {
      plants = plants;
      branches = λ p l e u h s c. w.choices p l e u h (λ n. n) s c;
      joins = λ p q a b r hp hq ag sa sb m. w.meetings p q a b r (w.waiting p hp (λ n. n) (record { own = a; other = b; ends = r; state = sa; meets = inl m }))
          (w.waiting q hq (λ n. n) (record { own = b; other = a; ends = r; state = sb; meets = inr m })) (agree_by p q ag) sa sb m;
    }

-- ---- new paths, and one that is done

pub parent_made : (paths : List Path) → AreUp paths → (x y : Path) → Holds paths x → parent_of x ≡ Some y → Holds paths y
parent_made paths ups x y h e = let n : (n : ℕ) × (slice_get paths n ≡ Some x) = place_held paths x h in let r : (r : ℕ) × (r < n.0) ×
    (slice_get paths r ≡ Some y) = ups n.0 x y n.1 e in held paths r.0 y r.2

same_or_not : (x y : Path) → (x ≡ y) ⊎ (¬ (x ≡ y))
same_or_not x y = go (same_path x y) refl
  where
    go : (o : Bool) → same_path x y ≡ o → (x ≡ y) ⊎ (¬ (x ≡ y))
    go true e = inl (same_true x y e)
    go false e = inr (λ s. (let z : same_path x y ≡ true = subst (λ q. same_path x q ≡ true) s (same_self x) in true≢false (sym z ∙ e)))

-- what is known of a path once it is done
pub record IsDone (g : List Member) (paths waits finals : List Path) (p : Path) : Type 0 where
  pub chooses : (l : Bool) (m u : Member) → path_state g p ≡ Some m → chosen l m ≡ Some u → Holds paths (branched p l)
  pub waits_there : MayMeet g p → Holds waits p
  pub final_there : IsFinal g p → Holds finals p

-- the path in hand is done, with these new paths, none of which is made of a pending one
pub record IsStep (g : List Member) (paths pending waits finals : List Path) (p : Path) (news kept ended : List Path) : Type 0 where
  pub store : IsStore g (paths ++ news)
  pub ups : AreUp (paths ++ news)
  pub news_once : NoPathTwice (paths ++ news)
  pub done : IsDone g (paths ++ news) (waits ++ kept) (finals ++ ended) p
  pub kept_is : (x : Path) → Holds kept x → x ≡ p
  pub ended_is : (x : Path) → Holds ended x → (x ≡ p) × IsFinal g x
  pub kept_once : NoPathTwice kept
  pub ended_once : NoPathTwice ended
  pub branched_of : (q : Path) (l : Bool) → Holds news (branched q l) → q ≡ p
  pub met_of : (q r : Path) → Holds news (sent q r) → Holds (waits ++ kept) q × Holds (waits ++ kept) r
  pub meetings : (q r : Path) (a b : Member) (e : MovedEnds) → Holds (waits ++ kept) q → Holds (waits ++ kept) r → Agree q r → path_state g q ≡ Some a → path_state g r ≡ Some b
      → members_met a b ≡ Some e → Holds (paths ++ news) (sent q r) × Holds (paths ++ news) (got q r)
  pub failed : AllFail g (finals ++ ended)

pub step_done : (g : List Member) (paths pending waits finals : List Path) (p : Path) (news kept ended : List Path) → IsSearch g paths (pending ++ (p ∷ [])) waits finals
    → IsStep g paths pending waits finals p news kept ended
    → IsSearch g (paths ++ news) (pending ++ news) (waits ++ kept) (finals ++ ended)
step_done g paths pending waits finals p news kept ended w s = record {
  store = s.store;
  ups = s.ups;
  choices = λ q l m u h shut st c. choose q l m u st c (which q h shut);
  waiting = λ q h shut m. wait q m (which q h shut);
  meetings = s.meetings;
  final = λ q h shut f. end q f (which q h shut);
  failed = s.failed;
  branched_from = λ q l h. elim (holds_which paths news (branched q l) h) [
    | inl old ↦ (λ k. elim (holds_which pending news q k) [ inl a ↦ w.branched_from q l old (holds_left pending (p ∷ []) q a) | inr b ↦ (fresh q (from_old_branch q l old)) b ])
    | inr new ↦ (λ k. (let one : q ≡ p = s.branched_of q l new in elim
        (holds_which pending news q k) [ inl a ↦ apart_pending (subst (Holds pending) one a) | inr b ↦ fresh p p_made (subst (Holds news) one b) ]))
  ];
  met_from = λ q r h. elim (holds_which paths news (sent q r) h) [
    | inl old ↦ (holds_left waits kept q (w.met_from q r old).0, holds_left waits kept r (w.met_from q r old).1)
    | inr new ↦ s.met_of q r new
  ];
  pending_made = λ q h. elim (holds_which pending news q h) [ inl a ↦ holds_left paths news q (w.pending_made q (holds_left pending (p ∷ []) q a)) | inr b ↦ holds_right paths news q b ];
  waits_made = λ q h. elim (holds_which waits kept q h) [ inl a ↦ holds_left paths news q (w.waits_made q a) | inr b ↦ holds_left paths news q (subst (Holds paths) (sym (s.kept_is q b)) p_made) ];
  finals_made = λ q h. elim (holds_which finals ended q h) [
    | inl a ↦ holds_left paths news q (w.finals_made q a)
    | inr b ↦ holds_left paths news q
        (subst (Holds paths) (sym (s.ended_is q b).0) p_made)
  ];
  finals_final = λ q h. elim (holds_which finals ended q h) [ inl a ↦ w.finals_final q a | inr b ↦ (s.ended_is q b).1 ];
  pending_apart = λ q h. (not_kept q (holds_which pending news q h), not_ended q (holds_which pending news q h));
  pending_once = once_both pending news (once_left pending (p ∷ []) w.pending_once) (once_right paths news s.news_once) (λ x h. fresh x (w.pending_made x (holds_left pending (p ∷ []) x h)));
  waits_once = once_both waits kept w.waits_once s.kept_once (λ x h k. p_waits (subst (Holds waits) (s.kept_is x k) h));
  finals_once = once_both finals ended w.finals_once s.ended_once (λ x h k. p_finals (subst (Holds finals) (s.ended_is x k).0 h));
}
  where
    p_pending : Holds (pending ++ (p ∷ [])) p
    p_pending = holds_right pending (p ∷ []) p (inl refl)

    p_made : Holds paths p
    p_made = w.pending_made p p_pending

    p_waits : ¬ Holds waits p
    p_waits = (w.pending_apart p p_pending).0

    p_finals : ¬ Holds finals p
    p_finals = (w.pending_apart p p_pending).1

    apart_pending : ¬ Holds pending p
    apart_pending h = once_apart pending (p ∷ []) w.pending_once p h (inl refl)

    fresh : (x : Path) → Holds paths x → ¬ Holds news x
    fresh x h = once_apart paths news s.news_once x h

    -- a path that isn't pending now is the one in hand, or wasn't pending
    which : (q : Path) → Holds (paths ++ news) q → (¬ Holds (pending ++ news) q) → (q ≡ p) ⊎ (Holds paths q × (¬ Holds (pending ++ (p ∷ [])) q))
    which q h shut = elim (holds_which paths news q h) [
      | inl old ↦ is_p q old (λ k. shut (holds_left pending news q k))
      | inr new ↦ absurd (shut (holds_right pending news q new))
    ]
      where
        is_p : (q : Path) → Holds paths q → (¬ Holds pending q) → (q ≡ p) ⊎ (Holds paths q × (¬ Holds (pending ++ (p ∷ [])) q))
        is_p q old free = by (same_or_not q p)
          where
            by : (q ≡ p) ⊎ (¬ (q ≡ p)) → (q ≡ p) ⊎ (Holds paths q × (¬ Holds (pending ++ (p ∷ [])) q))
            by (inl e) = inl e
            by (inr ne) = inr (old, λ k. elim (holds_which pending (p ∷ []) q k) [ inl a ↦ free a | inr b ↦ ne (holds_one q p b) ])

    choose : (q : Path) (l : Bool) (m u : Member) → path_state g q ≡ Some m → chosen l m ≡ Some u → (q ≡ p) ⊎ (Holds paths q × (¬ Holds (pending ++ (p ∷ [])) q)) → Holds (paths ++ news) (branched q l)
    choose q l m u st c (inl e) = subst (λ z. Holds (paths ++ news) (branched z l)) (sym e) (s.done.chooses l m u (ap (path_state g) (sym e) ∙ st) c)
    choose q l m u st c (inr (h, shut)) = holds_left paths news (branched q l) (w.choices q l m u h shut st c)

    wait : (q : Path) → MayMeet g q → (q ≡ p) ⊎ (Holds paths q × (¬ Holds (pending ++ (p ∷ [])) q)) → Holds (waits ++ kept) q
    wait q m (inl e) = subst (Holds (waits ++ kept)) (sym e) (s.done.waits_there (subst (MayMeet g) e m))
    wait q m (inr (h, shut)) = holds_left waits kept q (w.waiting q h shut m)

    end : (q : Path) → IsFinal g q → (q ≡ p) ⊎ (Holds paths q × (¬ Holds (pending ++ (p ∷ [])) q)) → Holds (finals ++ ended) q
    end q f (inl e) = subst (Holds (finals ++ ended)) (sym e) (s.done.final_there (subst (IsFinal g) e f))
    end q f (inr (h, shut)) = holds_left finals ended q (w.final q h shut f)

    not_kept : (q : Path) → Holds pending q ⊎ Holds news q → ¬ Holds (waits ++ kept) q
    not_kept q (inl a) k = elim (holds_which waits kept q k) [ inl x ↦ (w.pending_apart q (holds_left pending (p ∷ []) q a)).0 x | inr y ↦ apart_pending (subst (Holds pending) (s.kept_is q y) a) ]
    not_kept q (inr b) k = elim (holds_which waits kept q k) [ inl x ↦ fresh q (w.waits_made q x) b | inr y ↦ fresh q (subst (Holds paths) (sym (s.kept_is q y)) p_made) b ]

    not_ended : (q : Path) → Holds pending q ⊎ Holds news q → ¬ Holds (finals ++ ended) q
    not_ended q (inl a) k = elim (holds_which finals ended q k) [
      | inl x ↦ (w.pending_apart q (holds_left pending (p ∷ []) q a)).1 x
      | inr y ↦ apart_pending
          (subst (Holds pending) (s.ended_is q y).0 a)
    ]
    not_ended q (inr b) k = elim (holds_which finals ended q k) [ inl x ↦ fresh q (w.finals_made q x) b | inr y ↦ fresh q (subst (Holds paths) (sym (s.ended_is q y).0) p_made) b ]

    from_old_branch : (q : Path) (l : Bool) → Holds paths (branched q l) → Holds paths q
    from_old_branch q l h = parent_made paths w.ups (branched q l) q h refl

-- ---- what stands at an end does nothing more

no_choice : (g : List Member) (x : Path) (m u : Member) (l : Bool) → IsFinal g x → path_state g x ≡ Some m → chosen l m ≡ Some u → ⊥
no_choice g x m u l f st c =
    let one : f.member ≡ m = (let e : Some f.member ≡ Some m = sym f.state ∙ st in cc) in
    let a : (t : _) × (after_choice l m.term ≡ Some t) × (at_term m t ≡ u) = some_map (at_term m) (after_choice l m.term) u c in
    let none : after_choice l m.term ≡ None = (end_is_alone m m.term f.outcome (ap (λ k. outcome_of k.term) (sym one) ∙ f.ends)).1 l in
    cc

no_send : (g : List Member) (x : Path) (a b : Member) (e : MovedEnds) → IsFinal g x → path_state g x ≡ Some a → members_met a b ≡ Some e → ⊥
no_send g x a b e f st m =
    let one : f.member ≡ a = (let k : Some f.member ≡ Some a = sym f.state ∙ st in cc) in
    let h : Handing a b e = handing a b e m in
    let none : sending a.term ≡ None = (end_is_alone a a.term f.outcome (ap (λ k. outcome_of k.term) (sym one) ∙ f.ends)).2 in
    let some : sending a.term ≡ Some h.message = h.sends in
    cc

no_receive : (g : List Member) (x : Path) (a b : Member) (e : MovedEnds) → IsFinal g x → path_state g x ≡ Some b → members_met a b ≡ Some e → ⊥
no_receive g x a b e f st m =
    let one : f.member ≡ b = (let k : Some f.member ≡ Some b = sym f.state ∙ st in cc) in
    let h : Handing a b e = handing a b e m in
    let none : receiving b.term ≡ None = (end_is_alone b b.term f.outcome (ap (λ k. outcome_of k.term) (sym one) ∙ f.ends)).3 in
    let some : receiving b.term ≡ Some h.channel = h.receives in
    cc

pub final_cannot_meet : (g : List Member) (x : Path) → IsFinal g x → ¬ MayMeet g x
final_cannot_meet g x f m = elim m.meets [ inl a ↦ no_send g x m.own m.other m.ends f m.state a | inr b ↦ no_receive g x m.other m.own m.ends f m.state b ]

pub final_cannot_choose : (g : List Member) (x : Path) (l : Bool) (m u : Member) → IsFinal g x → path_state g x ≡ Some m → chosen l m ≡ Some u → ⊥
final_cannot_choose g x l m u f st c = no_choice g x m u l f st c

-- nothing is made of a final path
pub final_is_last : (g : List Member) (x z : Path) → IsFinal g x → HasState g z → IsAbove x z → z ≡ x
final_is_last g x (planted t) f h e = sym e
final_is_last g x (branched p l) f h (inl e) = sym e
final_is_last g x (branched p l) f h (inr up) =
    let b : (m : Member) × (path_state g p ≡ Some m) × (option_map settled (chosen l m) ≡ Some h.0) = then_some (λ m. option_map settled (chosen l m)) (path_state g p) h.0 h.1 in
    let u : (u : Member) × (chosen l b.0 ≡ Some u) × (settled u ≡ h.0) = some_map settled (chosen l b.0) h.0 b.2 in
    let one : p ≡ x = final_is_last g x p f (b.0, b.1) up in
    absurd (no_choice g x b.0 u.0 l f (ap (path_state g) (sym one) ∙ b.1) u.1)
final_is_last g x (sent s r) f h (inl e) = sym e
final_is_last g x (sent s r) f h (inr up) =
    let m : (a : Member) × (b : Member) × (p : MovedEnds) × (path_state g s ≡ Some a) × (path_state g r ≡ Some b) × (members_met a b ≡ Some p) = parts_of g s r (λ p. settled p.sender) h.0 h.1 in
    let one : s ≡ x = final_is_last g x s f (m.0, m.3) up in
    absurd (no_send g x m.0 m.1 m.2 f (ap (path_state g) (sym one) ∙ m.3) m.5)
final_is_last g x (got s r) f h (inl e) = sym e
final_is_last g x (got s r) f h (inr up) =
    let m : (a : Member) × (b : Member) × (p : MovedEnds) × (path_state g s ≡ Some a) × (path_state g r ≡ Some b) × (members_met a b ≡ Some p) = parts_of g s r (λ p. settled p.receiver) h.0 h.1 in
    let one : r ≡ x = final_is_last g x r f (m.1, m.4) up in
    absurd (no_receive g x m.0 m.1 m.2 f (ap (path_state g) (sym one) ∙ m.4) m.5)
