-- The joined past of final paths, by thread.
use Rattle.std.proofs.Common.{◌≡◌, ◌⊎◌, inl, inr, ℕ, List, [], ◌∷◌, Bool, true, false, Some, refl, ap, sym, ◌∙◌, subst, nat_eq, eqb-true}
use Rattle.te_terms.specs.Steps.{Member}
use Rattle.te_trail.specs.Paths.{Path, thread_of, IsAbove, OnOneLine, move_of, RestsOn}
use Rattle.te_trail.specs.Clocks.{deeper, clock_of, Agree, IsSound}
use Rattle.te_trail.specs.States.{HasState}
use Rattle.te_trail.specs.Stores.{Holds, any_rests_on}
use Rattle.te_trail.proofs.Lines.{above_self, above_trans, above_line, rests_move}
use Rattle.te_trail.proofs.ClockLaws.{deeper_left, deeper_right, deeper_either, clock_thread, clock_in, Agrees, clock_self}
use Rattle.te_trail.proofs.PastsChain.{pasts_true, true_pasts, Agreeing, team_line}
use Rattle.te_trail.proofs.AgreeIsExact.{agree_flip}
use Rattle.te_search.specs.Assemblies.{joint, IsTop, Crew, IsLined}
use Rattle.te_search.specs.Searching.{Fails, wanting}

pub joint_in : (ps : List Path) (t : ℕ) (x : Path) → joint ps t ≡ Some x → (y : Path) × Holds ps y × (clock_of y t ≡ Some x)
joint_in [] t x e = cc
joint_in (p ∷ ps) t x e = go (λ f. joint_in ps t x f) (deeper_either (clock_of p t) (joint ps t) x e)
  where
    go : (joint ps t ≡ Some x → (y : Path) × Holds ps y × (clock_of y t ≡ Some x)) → (clock_of p t ≡ Some x) ⊎ (joint ps t ≡ Some x) → (y : Path) × Holds (p ∷ ps) y × (clock_of y t ≡ Some x)
    go ih (inl h) = (p, inl refl, h)
    go ih (inr h) = let r : (y : Path) × Holds ps y × (clock_of y t ≡ Some x) = ih h in (r.0, inr r.1, r.2)

team_rest : (g : List Member) (p : Path) (ps : List Path) → Agreeing g (p ∷ ps) → Agreeing g ps
team_rest g p ps team = record { sounds = λ x h. team.sounds x (inr h); states = λ x h. team.states x (inr h); agrees = λ x y h k. team.agrees x y (inr h) (inr k) }

clock_past : (g : List Member) (ps : List Path) → Agreeing g ps → (y x : Path) (t : ℕ) → Holds ps y → clock_of y t ≡ Some x → (any_rests_on ps (move_of x) ≡ true) × (thread_of x ≡ t)
clock_past g ps team y x t h e = (true_pasts ps y (move_of x) h (clock_in y t x (move_of x) e (rests_move x)), clock_thread y t x e)

pub joint_past : (g : List Member) (ps : List Path) → Agreeing g ps → (t : ℕ) (x : Path) → joint ps t ≡ Some x → (any_rests_on ps (move_of x) ≡ true) × (thread_of x ≡ t)
joint_past g ps team t x e = let y : (y : Path) × Holds ps y × (clock_of y t ≡ Some x) = joint_in ps t x e in clock_past g ps team y.0 x t y.1 y.2

-- all that a team's past has of a thread is above the path that is named
pub joint_deep : (g : List Member) (ps : List Path) → Agreeing g ps → (y : Path) (t : ℕ) (c : Path) → Holds ps y → clock_of y t ≡ Some c → (x : Path) × (joint ps t ≡ Some x) × IsAbove c x
joint_deep g [] team y t c h e = absurd h
joint_deep g (p ∷ ps) team y t c (inl same) e =
    deeper_left (clock_of p t) (joint ps t) c (ap (λ q. clock_of q t) (sym same) ∙ e)
    (λ b f. (let z : (any_rests_on ps (move_of b) ≡ true) × (thread_of b ≡ t) = joint_past g ps (team_rest g p ps team) t b f in let m : (q : Path) × Holds ps q × RestsOn
    (move_of b) q = pasts_true ps (move_of b) z.0 in let w : (any_rests_on (p ∷ ps) (move_of c) ≡ true) × (thread_of c ≡ t) = clock_past g (p ∷ ps) team y c t (inl same) e in
    team_line g (p ∷ ps) team c b w.0 (true_pasts (p ∷ ps) m.0 (move_of b) (inr m.1) m.2) (w.1 ∙ sym z.1)))
joint_deep g (p ∷ ps) team y t c (inr k) e = go (joint_deep g ps (team_rest g p ps team) y t c k e)
  where
    go : (x : Path) × (joint ps t ≡ Some x) × IsAbove c x → (x : Path) × (joint (p ∷ ps) t ≡ Some x) × IsAbove c x
    go (x, ex, up) =
        let r : (d : Path) × (deeper (clock_of p t) (joint ps t) ≡ Some d) × IsAbove x d = deeper_right (clock_of p t) (joint ps t) x ex
        (λ a f. (let w : (any_rests_on (p ∷ ps) (move_of a) ≡ true) × (thread_of a ≡ t) = clock_past g (p ∷ ps) team p a t (inl refl) f in let z :
        (any_rests_on ps (move_of x) ≡ true) × (thread_of x ≡ t) = joint_past g ps (team_rest g p ps team) t x ex in let m : (q : Path) × Holds ps q × RestsOn
        (move_of x) q = pasts_true ps (move_of x) z.0 in
        team_line g (p ∷ ps) team a x w.0 (true_pasts (p ∷ ps) m.0 (move_of x) (inr m.1) m.2) (w.1 ∙ sym z.1))) in
        (r.0, r.1, above_trans c x r.0 up r.2)

-- a taken path is the one that is named for its thread
pub crew_named : (g : List Member) (made fin : Path → Type 0) (ps : List Path) → Crew g made fin ps → (y : Path) → Holds ps y → joint ps (thread_of y) ≡ Some y
crew_named g made fin ps crew y h = go (joint_deep g ps crew.team y (thread_of y) y h (clock_self y (crew.team.sounds y h)))
  where
    go : (x : Path) × (joint ps (thread_of y) ≡ Some x) × IsAbove y x → joint ps (thread_of y) ≡ Some y
    go (x, ex, up) = let m : (z : Path) × Holds ps z × (clock_of z (thread_of y) ≡ Some x) = joint_in ps (thread_of y) x ex in ex
        ∙ ap Some (crew.tops y h x (crew.makes m.0 (thread_of y) x (crew.made_all m.0 m.1) m.2) up)

-- lines with the named paths are agreement with all
pub lined_agree : (g : List Member) (made fin : Path → Type 0) (ps : List Path) → Crew g made fin ps → (f : Path) → made f → IsSound f → IsTop made f → IsLined f (joint ps)
    → (y : Path) → Holds ps y → nat_eq (thread_of f) (thread_of y) ≡ false → Agrees f y
lined_agree g made fin ps crew f mf sf tf line y hy ne = record {
  apart = ne;
  lines = λ s a b e k. at s a b e k (joint_deep g ps crew.team y s b hy k);
  first = λ b k. one b k (joint_deep g ps crew.team y (thread_of f) b hy k);
  second = λ a e. two a e (line (thread_of y) a y e (crew_named g made fin ps crew y hy));
}
  where
    at : (s : ℕ) (a b : Path) → clock_of f s ≡ Some a → clock_of y s ≡ Some b → (x : Path) × (joint ps s ≡ Some x) × IsAbove b x → OnOneLine a b
    at s a b e k (x, ex, up) = elim (line s a x e ex) [ inl u ↦ above_line a b x u up | inr d ↦ inr (above_trans b x a up d) ]

    one : (b : Path) → clock_of y (thread_of f) ≡ Some b → (x : Path) × (joint ps (thread_of f) ≡ Some x) × IsAbove b x → IsAbove b f
    one b k (x, ex, up) = elim (line (thread_of f) f x (clock_self f sf) ex) [
      | inl u ↦
          (let m : (z : Path) × Holds ps z × (clock_of z (thread_of f) ≡ Some x) = joint_in ps (thread_of f) x ex in let s : x ≡ f = tf x
          (crew.makes m.0 (thread_of f) x (crew.made_all m.0 m.1) m.2) u in subst (IsAbove b) s up)
      | inr d ↦ above_trans b x f up d
    ]

    two : (a : Path) → clock_of f (thread_of y) ≡ Some a → OnOneLine a y → IsAbove a y
    two a e (inl u) = u
    two a e (inr d) = let s : a ≡ y = crew.tops y hy a (crew.makes f (thread_of y) a mf e) d in subst (λ q. IsAbove q y) (sym s) (above_self y)

pub agree_lined : (g : List Member) (ps : List Path) → Agreeing g ps → (f : Path) → ((y : Path) → Holds ps y → Agree f y) → IsLined f (joint ps)
agree_lined g ps team f ag t a x e k = let y : (y : Path) × Holds ps y × (clock_of y t ≡ Some x) = joint_in ps t x k in (ag y.0 y.1).lines t a x e y.2

-- an open thread: its named path isn't final, so none of it is taken
pub crew_open : (g : List Member) (made fin : Path → Type 0) (ps : List Path) → Crew g made fin ps → (t : ℕ) (x : Path) → joint ps t ≡ Some x → (fin x → ⊥) → (y : Path)
    → Holds ps y → thread_of y ≡ t → ⊥
crew_open g made fin ps crew t x e open_ y hy ty = let n : joint ps t ≡ Some y = subst (λ k. joint ps k ≡ Some y) ty
    (crew_named g made fin ps crew y hy) in let s : y ≡ x = cc in absurd (open_ (subst fin s (crew.fins y hy)))

-- ---- one more
pub crew_more : (g : List Member) (made fin : Path → Type 0) (ps : List Path) → Crew g made fin ps → (f : Path) → fin f → made f → IsSound f → IsTop made f → HasState g f
    → IsLined f (joint ps) → ((y : Path) → Holds ps y → thread_of y ≡ thread_of f → ⊥) → Crew g made fin (f ∷ ps)
crew_more g made fin ps crew f ff mf sf tf st line free = record {
  fins = fns;
  team = record { sounds = snd; states = sta; agrees = agr };
  makes = crew.makes;
  made_all = mad;
  tops = top;
}
  where
    snd : (x : Path) → Holds (f ∷ ps) x → IsSound x
    snd x (inl e) = subst IsSound (sym e) sf
    snd x (inr h) = crew.team.sounds x h

    sta : (x : Path) → Holds (f ∷ ps) x → HasState g x
    sta x (inl e) = subst (HasState g) (sym e) st
    sta x (inr h) = crew.team.states x h

    fns : (x : Path) → Holds (f ∷ ps) x → fin x
    fns x (inl e) = subst fin (sym e) ff
    fns x (inr h) = crew.fins x h

    mad : (x : Path) → Holds (f ∷ ps) x → made x
    mad x (inl e) = subst made (sym e) mf
    mad x (inr h) = crew.made_all x h

    top : (x : Path) → Holds (f ∷ ps) x → IsTop made x
    top x (inl e) = subst (IsTop made) (sym e) tf
    top x (inr h) = crew.tops x h

    ne : (y : Path) → Holds ps y → nat_eq (thread_of f) (thread_of y) ≡ false
    ne y hy = go (nat_eq (thread_of f) (thread_of y)) refl
      where
        go : (o : Bool) → nat_eq (thread_of f) (thread_of y) ≡ o → nat_eq (thread_of f) (thread_of y) ≡ false
        go true e = absurd (free y hy (sym (eqb-true (thread_of f) (thread_of y) e)))
        go false e = e

    with_f : (y : Path) → Holds ps y → Agrees f y
    with_f y hy = lined_agree g made fin ps crew f mf sf tf line y hy (ne y hy)

    agr : (x y : Path) → Holds (f ∷ ps) x → Holds (f ∷ ps) y → (x ≡ y) ⊎ Agrees x y
    agr x y (inl a) (inl b) = inl (a ∙ sym b)
    agr x y (inl a) (inr b) = inr (subst (λ q. Agrees q y) (sym a) (with_f y b))
    agr x y (inr a) (inl b) = inr (subst (λ q. Agrees x q) (sym b) (agree_flip f x (with_f x a)))
    agr x y (inr a) (inr b) = crew.team.agrees x y a b

-- ---- what a loop over the final paths of an open thread shows
pub fails_open : (g : List Member) (made fin available : Path → Type 0) (ps : List Path) → Crew g made fin ps → (t : ℕ) (x : Path) → joint ps t ≡ Some x → (fin x → ⊥)
    → ((f : Path) → available f → thread_of f ≡ t → IsLined f (joint ps) → Fails available (f ∷ ps)) → Fails available ps
fails_open g made fin available ps crew t x e open_ each = let p : (any_rests_on ps (move_of x) ≡ true) × (thread_of x ≡ t) = joint_past g ps crew.team t x e in
    wanting ps t x p.1 p.0 (crew_open g made fin ps crew t x e open_) (λ f av tf ag. each f av tf (agree_lined g ps crew.team f ag))

-- a named path is lined up with all named paths
pub named_lined : (g : List Member) (ps : List Path) → Agreeing g ps → (t : ℕ) (x : Path) → joint ps t ≡ Some x → IsSound x → IsLined x (joint ps)
named_lined g ps team t x e sx s a z f k =
    let y : (y : Path) × Holds ps y × (clock_of y t ≡ Some x) = joint_in ps t x e in
    let w : (any_rests_on ps (move_of z) ≡ true) × (thread_of z ≡ s) = joint_past g ps team s z k in
    let r : RestsOn (move_of a) y.0 = clock_in y.0 t x (move_of a) y.2 (clock_in x s a (move_of a) f (rests_move a)) in
    team_line g ps team a z (true_pasts ps y.0 (move_of a) y.1 r) w.0 (clock_thread x s a f ∙ sym w.1)
