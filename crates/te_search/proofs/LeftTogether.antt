-- Where assembly fails from each final path, no final paths are left together by one chain of just their threads.
use Rattle.std.proofs.Common.{◌≡◌, ◌⊎◌, inl, inr, ℕ, List, [], ◌∷◌, ◌++◌, Bool, true, false, ◌||◌, refl, ap, sym, ◌∙◌}
use Rattle.std.proofs.Common.{subst, nat_eq, eqb-true, eq-eqb, append_assoc}
use Rattle.te_terms.specs.Steps.{Member}
use Rattle.te_terms.specs.Joint.{Label, meeting}
use Rattle.te_trail.specs.Paths.{Path, sent, thread_of, own_labels, move_of, RestsOn}
use Rattle.te_trail.specs.Clocks.{Agree}
use Rattle.te_trail.specs.Stores.{Holds, IsStore, same_path}
use Rattle.te_trail.specs.Views.{view_of}
use Rattle.te_trail.proofs.ClockLaws.{agree_by}
use Rattle.te_trail.proofs.PastsChain.{pasts_true, same_true, same_self, grown_has}
use Rattle.te_trail.proofs.AgreeIsExact.{share, known_in}
use Rattle.te_search.specs.Groups.{IsFinal}
use Rattle.te_search.specs.Searching.{Fails, wanting, AllFail}
use Rattle.te_search.specs.Batches.{has_thread, AreLeftTogether}
use Rattle.te_search.proofs.AssemblyFinds.{Up, up_chain, past_side, view_found, Last, last_of, has_split}

-- ---- assembly comes to each set that is closed

-- each path that one of these rests on has its thread among theirs
abbrev IsClosed : List Path → Type 0
IsClosed ps = (y x : Path) → Holds ps y → RestsOn (move_of x) y → (z : Path) × Holds ps z × (thread_of z ≡ thread_of x)

both_in : (ps qs : List Path) (z : Path) → Holds ps z → ((y : Path) → Holds qs y → Holds ps y) → (y : Path) → Holds (z ∷ qs) y → Holds ps y
both_in ps qs z hz within y (inl e) = subst (Holds ps) (sym e) hz
both_in ps qs z hz within y (inr h) = within y h

closed_never_fails : (ps : List Path) (available : Path → Type 0) → ((y : Path) → Holds ps y → available y)
    → ((y z : Path) → Holds ps y → Holds ps z → (thread_of y ≡ thread_of z) ⊎ Agree y z)
    → IsClosed ps → (qs : List Path) → ((y : Path) → Holds qs y → Holds ps y) → Fails available qs → ⊥
closed_never_fails ps available there agree closed qs within (wanting qs2 t x tx hx free next) = by
    (λ z hz tz agreeing. closed_never_fails ps available there agree closed (z ∷ qs) (both_in ps qs z hz within)
    (next z (there z hz) (tz ∙ tx) agreeing)) (pasts_true qs (move_of x) hx)
  where
    by : ((z : Path) → Holds ps z → thread_of z ≡ thread_of x → ((y : Path) → Holds qs y → Agree z y) → ⊥)
        → (p : Path) × Holds qs p × RestsOn (move_of x) p → ⊥
    by on (p, hp, rp) = with (closed p x (within p hp) rp)
      where
        with : (z : Path) × Holds ps z × (thread_of z ≡ thread_of x) → ⊥
        with (z, hz, tz) = on z hz tz agreeing
          where
            agreeing : (y : Path) → Holds qs y → Agree z y
            agreeing y hy = elim (agree z y hz (within y hy)) [
              | inl e ↦ absurd
                  (free y hy (sym e ∙ tz ∙ tx))
              | inr a ↦ a
            ]

-- ---- the last of a set that assembly started from

or_left : (a b : Bool) → a ≡ true → a || b ≡ true
or_left true b e = refl
or_left false b e = cc

or_right : (a b : Bool) → b ≡ true → a || b ≡ true
or_right true b e = refl
or_right false b e = e

or_which : (a b : Bool) → a || b ≡ true → (a ≡ true) ⊎ (b ≡ true)
or_which true b e = inl refl
or_which false b e = inr e

abbrev among : List Path → Path → Bool
among [] y = false
among (p ∷ ps) y = same_path y p || among ps y

holds_among : (ps : List Path) (y : Path) → Holds ps y → among ps y ≡ true
holds_among [] y h = absurd h
holds_among (p ∷ ps) y (inl e) = or_left (same_path y p) (among ps y)
    (subst (λ q. same_path y q ≡ true) e (same_self y))
holds_among (p ∷ ps) y (inr h) = or_right (same_path y p) (among ps y) (holds_among ps y h)

among_holds : (ps : List Path) (y : Path) → among ps y ≡ true → Holds ps y
among_holds [] y e = cc
among_holds (p ∷ ps) y e = elim (or_which (same_path y p) (among ps y) e) [
  | inl a ↦ inl (same_true y p a)
  | inr b ↦ inr
      (among_holds ps y b)
]

none_closed : (g : List Member) (finals ps : List Path) → AllFail g finals
    → ((y : Path) → Holds ps y → Holds finals y × IsFinal g y)
    → ((y z : Path) → Holds ps y → Holds ps z → (thread_of y ≡ thread_of z) ⊎ Agree y z) → IsClosed ps → (x : Path)
    → ¬ Holds ps x
none_closed g finals ps fails there agree closed x hx = by (last_of (among ps) finals x (there x hx).0
    (holds_among ps x hx))
  where
    by : Last (among ps) finals → ⊥
    by last = closed_never_fails ps (λ f. IsFinal g f × Holds (last.front ++ (last.start ∷ [])) f) early agree closed
        (last.start ∷ [])
        (λ y h. elim h [ inl e ↦ subst (Holds ps) (sym e) (among_holds ps last.start last.passes) | inr n ↦ absurd n ])
        (fails last.front last.start last.rest last.is)
      where
        early : (y : Path) → Holds ps y → IsFinal g y × Holds (last.front ++ (last.start ∷ [])) y
        early y hy = (
          (there y hy).1,
          elim (has_split last.front last.rest last.start y (subst (λ q. Holds q y) last.is (there y hy).0)) [
            | inl a ↦ a
            | inr b ↦ absurd (last.none y b (holds_among ps y hy))
          ],
        )

-- ---- paths that one chain leaves

thread_there : (ps : List Path) (y : Path) → Holds ps y → has_thread ps (thread_of y) ≡ true
thread_there [] y h = absurd h
thread_there (p ∷ ps) y (inl e) = or_left (nat_eq (thread_of p) (thread_of y)) (has_thread ps (thread_of y))
    (eq-eqb (thread_of p) (thread_of y) (ap thread_of (sym e)))
thread_there (p ∷ ps) y (inr h) = or_right (nat_eq (thread_of p) (thread_of y)) (has_thread ps (thread_of y))
    (thread_there ps y h)

there_thread : (ps : List Path) (t : ℕ) → has_thread ps t ≡ true → (z : Path) × Holds ps z × (thread_of z ≡ t)
there_thread [] t e = cc
there_thread (p ∷ ps) t e = elim (or_which (nat_eq (thread_of p) t) (has_thread ps t) e) [
  | inl a ↦ (p, inl refl, eqb-true (thread_of p) t a)
  | inr b ↦ (let r : (z : Path) × Holds ps z × (thread_of z ≡ t) = there_thread ps t b in (r.0, inr r.1, r.2))
]

same_or_apart : (a b : ℕ) → (a ≡ b) ⊎ (nat_eq a b ≡ false)
same_or_apart a b = go (nat_eq a b) refl
  where
    go : (o : Bool) → nat_eq a b ≡ o → (a ≡ b) ⊎ (nat_eq a b ≡ false)
    go true e = inl (eqb-true a b e)
    go false e = inr e

-- applied final paths of a store of which all that are final were started from are never left together
pub none_together : (g : List Member) (paths finals : List Path) → IsStore g paths → AllFail g finals
    → (x : Path) (ps : List Path)
    → ((y : Path) → Holds ps y → IsFinal g y → Holds paths y × Holds finals y) → ¬ AreLeftTogether g x ps
none_together g paths finals store fails x ps there l = none_closed g finals ps fails
    (λ y h. ((there y h (l.finals y h)).1, l.finals y h)) agree closed x l.has
  where
    made : (y : Path) → Holds ps y → Holds paths y
    made y h = (there y h (l.finals y h)).0

    agree : (y z : Path) → Holds ps y → Holds ps z → (thread_of y ≡ thread_of z) ⊎ Agree y z
    agree y z hy hz = by (same_or_apart (thread_of y) (thread_of z))
      where
        by : (thread_of y ≡ thread_of z) ⊎ (nat_eq (thread_of y) (thread_of z) ≡ false)
            → (thread_of y ≡ thread_of z) ⊎ Agree y z
        by (inl e) = inl e
        by (inr ne) = inr (agree_by y z (share l.word y z (store.sound y (made y hy)) (store.sound z (made z hz))
            (known_in g paths store.made y (store.sound y (made y hy)) (store.state y (made y hy))
            (grown_has paths [] y store.made (made y hy)))
            (known_in g paths store.made z (store.sound z (made z hz)) (store.state z (made z hz))
            (grown_has paths [] z store.made (made z hz)))
            (l.chain.pasts y hy) (l.chain.pasts z hz) ne (l.chain.leaves y hy).moves (l.chain.leaves z hz).moves))

    side : ℕ → Bool
    side = has_thread ps

    up : Up side l.chain.chain.actions g l.chain.chain.end
    up = up_chain side l.chain.chain.actions g l.chain.chain.end l.chain.chain.reaches

    crossed : (y s r : Path) → Holds ps y → RestsOn (sent s r) y → side (thread_of s) ≡ side (thread_of r)
    crossed y s r hy k =
        let b : (more : List Label) × (view_of (thread_of s) l.word ≡ own_labels
        (sent s r) ++ more) = l.chain.pasts y hy (sent s r) k in
        let e : view_of (thread_of s) l.word ≡ own_labels s ++ (meeting (thread_of s) (thread_of r) ∷ b.0) = b.1
        ∙ append_assoc (own_labels s) (meeting (thread_of s) (thread_of r) ∷ []) b.0 in
        let f : (u : List Label) × (v : List Label) × (l.word ≡ u ++
        (meeting (thread_of s) (thread_of r) ∷ v)) = view_found (thread_of s) (thread_of s) (thread_of r) l.word
        (own_labels s) b.0 e in
        let q = up.inside (thread_of s) (thread_of r) f.0 f.1 (l.chain.chain.labels_are ∙ f.2) in
        q.0 ∙ sym q.1

    closed : IsClosed ps
    closed y z hy r = there_thread ps (thread_of z) (past_side side y (λ s q k. crossed y s q hy k) z r
        ∙ thread_there ps y hy)
