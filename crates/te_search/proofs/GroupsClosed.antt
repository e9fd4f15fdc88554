-- From agreeing final paths, each thread of whose joined past comes to a final path, to all members of a group.
use Rattle.std.proofs.Common.{◌≡◌, ◌⊎◌, inl, inr, ℕ, List, [], ◌∷◌, Bool, true, false, cond, ltb, ◌||◌, Option, Some, None, refl, ap, ap₂, sym, ◌∙◌, subst, nat_eq, eq-eqb, eq-or-lt_of_le, true≢false}
use Rattle.te_terms.specs.Steps.{Member}
use Rattle.te_trail.specs.Paths.{Path, thread_of, depth_of, IsAbove, move_of, RestsOn}
use Rattle.te_trail.specs.Clocks.{deeper, clock_of, IsSound}
use Rattle.te_trail.specs.States.{HasState}
use Rattle.te_trail.specs.Stores.{Holds, any_rests_on}
use Rattle.te_trail.proofs.Lines.{above_depth, above_same, above_trans, rests_move}
use Rattle.te_trail.proofs.ClockLaws.{clock_thread, clock_in, clock_top}
use Rattle.te_trail.proofs.PastsChain.{pasts_true, true_pasts}
use Rattle.std.proofs.lemmas.Bool.{lt-ltb}
use Rattle.te_search.specs.Assemblies.{joint, IsTop, Crew, Reaches, takes}
use Rattle.te_search.proofs.JoinedPasts.{joint_in, joint_past, joint_deep, crew_more, named_lined}
use Rattle.te_search.proofs.GroupsSound.{taken}

abbrev pub HoldsThread : List ℕ → ℕ → Type 0
HoldsThread [] t = ⊥
HoldsThread (s ∷ ss) t = (t ≡ s) ⊎ HoldsThread ss t

-- all that the joined past has of a thread is above the named path
pub past_named : (g : List Member) (made fin : Path → Type 0) (ps : List Path) → Crew g made fin ps → (x : Path) → any_rests_on ps (move_of x) ≡ true
    → (z : Path) × (joint ps (thread_of x) ≡ Some z) × IsAbove x z
past_named g made fin ps crew x h = go (pasts_true ps (move_of x) h)
  where
    go : (y : Path) × Holds ps y × RestsOn (move_of x) y → (z : Path) × (joint ps (thread_of x) ≡ Some z) × IsAbove x z
    go (y, hy, r) =
        let c : (c : Path) × (clock_of y (thread_of x) ≡ Some c) × IsAbove x c = clock_top y (crew.team.sounds y hy) x r in
        let z : (z : Path) × (joint ps (thread_of x) ≡ Some z) × IsAbove c.0 z = joint_deep g ps crew.team y (thread_of x) c.0 hy c.1 in
        (z.0, z.1, above_trans x c.0 z.0 c.2 z.2)

-- a named path adds nothing
pub joint_same : (g : List Member) (made fin : Path → Type 0) (ps : List Path) → Crew g made fin ps → (t : ℕ) (x : Path) → joint ps t ≡ Some x → (u : ℕ) → joint (x ∷ ps) u ≡ joint ps u
joint_same g made fin ps crew t x e u = go (clock_of x u) refl
  where
    under : (a : Path) → clock_of x u ≡ Some a → (z : Path) × (joint ps u ≡ Some z) × IsAbove a z
    under a f =
        let y : (y : Path) × Holds ps y × (clock_of y t ≡ Some x) = joint_in ps t x e in
        let r : any_rests_on ps (move_of a) ≡ true = (let p : RestsOn (move_of a) x = clock_in x u a (move_of a) f (rests_move a) in in_past y.0 y.1 (clock_in y.0 t x (move_of a) y.2 p)) in
        subst (λ k. (z : Path) × (joint ps k ≡ Some z) × IsAbove a z) (clock_thread x u a f) (past_named g made fin ps crew a r)
      where
        in_past : (y : Path) → Holds ps y → RestsOn (move_of a) y → any_rests_on ps (move_of a) ≡ true
        in_past y h r = true_pasts ps y (move_of a) h r

    pick : (a z : Path) → IsAbove a z → (o : Bool) → ltb (depth_of a) (depth_of z) ≡ o → Some (cond o z a) ≡ Some z
    pick a z up true o = refl
    pick a z up false o = ap Some (elim (eq-or-lt_of_le (above_depth a z up)) [ inl s ↦ above_same a z up s | inr l ↦ absurd (true≢false (sym (lt-ltb (depth_of a) (depth_of z) l) ∙ o)) ])

    go : (o : Option Path) → clock_of x u ≡ o → deeper (clock_of x u) (joint ps u) ≡ joint ps u
    go None f = ap (λ o. deeper o (joint ps u)) f
    go (Some a) f = let z : (z : Path) × (joint ps u ≡ Some z) × IsAbove a z = under a f in ap₂ deeper f z.1 ∙ pick a z.0 z.2 (ltb (depth_of a) (depth_of z.0)) refl ∙ sym z.1

pub record Closed (g : List Member) (made fin : Path → Type 0) (start : Path) (ps : List Path) (threads : List ℕ) : Type 0 where
  pub members : List Path
  pub crew : Crew g made fin members
  pub reached : Reaches start members
  pub same : (u : ℕ) → joint members u ≡ joint ps u
  pub keeps : (t : ℕ) → taken ps t ≡ true → taken members t ≡ true
  pub takes : (t : ℕ) (x : Path) → HoldsThread threads t → joint ps t ≡ Some x → taken members t ≡ true

not_taken : (ps : List Path) (t : ℕ) → taken ps t ≡ false → (y : Path) → Holds ps y → thread_of y ≡ t → ⊥
not_taken [] t e y h ty = h
not_taken (p ∷ ps) t e y h ty = go (nat_eq (thread_of p) t) refl e h (λ f k. not_taken ps t f y k ty)
  where
    go : (o : Bool) → nat_eq (thread_of p) t ≡ o → o || taken ps t ≡ false → (y ≡ p) ⊎ Holds ps y → (taken ps t ≡ false → Holds ps y → ⊥) → ⊥
    go true w f h ih = true≢false f
    go false w f (inl s) ih = true≢false (sym (eq-eqb (thread_of p) t (ap thread_of (sym s) ∙ ty)) ∙ w)
    go false w f (inr k) ih = ih f k

pub close : (g : List Member) (made fin : Path → Type 0) (start : Path) → ((y : Path) → made y → IsSound y) → ((y : Path) → made y → HasState g y)
    → ((y : Path) → made y → fin y → IsTop made y) → (threads : List ℕ) (ps : List Path) → Crew g made fin ps → Reaches start ps
    → ((t : ℕ) (x : Path) → joint ps t ≡ Some x → fin x) → Closed g made fin start ps threads
close g made fin start snd sta top [] ps crew reach all = record { members = ps; crew = crew; reached = reach; same = λ u. refl; keeps = λ t h. h; takes = λ t x n e. absurd n }
close g made fin start snd sta top (t ∷ ts) ps crew reach all = go (λ qs c r a. close g made fin start snd sta top ts qs c r a) (taken ps t) refl (joint ps t) refl
  where
    go : ((qs : List Path) → Crew g made fin qs → Reaches start qs → ((t : ℕ) (x : Path) → joint qs t ≡ Some x → fin x) → Closed g made fin start qs ts) → (o : Bool)
        → taken ps t ≡ o → (v : Option Path) → joint ps t ≡ v → Closed g made fin start ps (t ∷ ts)
    go ih true w v e = let c : Closed g made fin start ps ts = ih ps crew reach all in record {
      members = c.members;
      crew = c.crew;
      reached = c.reached;
      same = c.same;
      keeps = c.keeps;
      takes = λ u x n f. elim n [ inl s ↦ c.keeps u (ap (taken ps) s ∙ w) | inr k ↦ c.takes u x k f ];
    }
    go ih false w None e = let c : Closed g made fin start ps ts = ih ps crew reach all in record {
      members = c.members;
      crew = c.crew;
      reached = c.reached;
      same = c.same;
      keeps = c.keeps;
      takes = λ u x n f. elim n [ inl s ↦ absurd (none x (sym e ∙ ap (joint ps) (sym s) ∙ f)) | inr k ↦ c.takes u x k f ];
    }
      where
        none : (x : Path) → None ≡ Some x → ⊥
        none x e = cc
    go ih false w (Some x) e = record {
      members = c.members;
      crew = c.crew;
      reached = c.reached;
      same = λ u. c.same u
          ∙ js u;
      keeps = λ u h. c.keeps u (wider u h);
      takes = λ u z n f. elim n [ inl s ↦ c.keeps u (ap (taken (x ∷ ps)) s ∙ here) | inr k ↦ c.takes u z k (js u ∙ f) ];
    }
      where
        m : (y : Path) × Holds ps y × (clock_of y t ≡ Some x)
        m = joint_in ps t x e

        mx : made x
        mx = crew.makes m.0 t x (crew.made_all m.0 m.1) m.2

        tx : thread_of x ≡ t
        tx = (joint_past g ps crew.team t x e).1

        js : (u : ℕ) → joint (x ∷ ps) u ≡ joint ps u
        js = joint_same g made fin ps crew t x e

        more : Crew g made fin (x ∷ ps)
        more = crew_more g made fin ps crew x (all t x e) mx (snd x mx) (top x mx (all t x e)) (sta x mx) (named_lined g ps crew.team t x e (snd x mx)) (λ y hy ty. not_taken ps t w y hy (ty ∙ tx))

        c : Closed g made fin start (x ∷ ps) ts
        c = ih (x ∷ ps) more (takes start ps x x reach refl (joint_past g ps crew.team t x e).0) (λ u z f. all u z (sym (js u) ∙ f))

        here : taken (x ∷ ps) t ≡ true
        here = ap (λ o. o || taken ps t) (eq-eqb (thread_of x) t tx)

        wider : (u : ℕ) → taken ps u ≡ true → taken (x ∷ ps) u ≡ true
        wider u h = on (nat_eq (thread_of x) u)
          where
            on : (o : Bool) → o || taken ps u ≡ true
            on true = refl
            on false = h

-- what `sound` asks for
pub closed_all : (g : List Member) (made fin : Path → Type 0) (start : Path) (ps : List Path) (threads : List ℕ) (c : Closed g made fin start ps threads)
    → ((t : ℕ) (x : Path) → joint ps t ≡ Some x → HoldsThread threads t) → (x : Path) → any_rests_on c.members (move_of x) ≡ true → taken c.members (thread_of x) ≡ true
closed_all g made fin start ps threads c listed x h =
    let z : (z : Path) × (joint c.members (thread_of x) ≡ Some z) × IsAbove x z = past_named g made fin c.members c.crew x h in
    let e : joint ps (thread_of x) ≡ Some z.0 = sym (c.same (thread_of x)) ∙ z.1 in
    c.takes (thread_of x) z.0 (listed (thread_of x) z.0 e) e
