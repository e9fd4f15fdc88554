-- A store with the paths of the next step is a store.
use Rattle.std.proofs.Common.{◌≡◌, ◌≢◌, ◌⊎◌, ◌<◌, inl, inr, ℕ, zero, suc, ◌+◌, List, [], ◌∷◌, ◌++◌, length, Bool, true, false, Option, Some, slice_get, refl, ap, sym, ◌∙◌, subst, arith, append_assoc}
use Rattle.std.specs.Option.{option_map, option_and_then}
use Rattle.te_terms.specs.Terms.{Term}
use Rattle.te_terms.specs.Steps.{Member, at_term, giving, with_head}
use Rattle.te_terms.specs.Joint.{after_choice, chosen_from, member_of}
use Rattle.te_terms.specs.Settling.{settled}
use Rattle.te_path.specs.Paths.{IsChoice}
use Rattle.te_trail.specs.Paths.{Path, planted, branched, sent, got, move_of}
use Rattle.te_trail.specs.Clocks.{Agree, IsSound}
use Rattle.te_trail.specs.States.{chosen, MovedEnds, members_met, path_state, HasState}
use Rattle.te_trail.specs.Stores.{Holds, IsNext, with_move, with_moves, AreMade, IsStore}
use Rattle.te_trail.specs.Trails.{FaceEachOther}
use Rattle.te_terms.proofs.Lists.{eq_same, at_or_last, get-longer}
use Rattle.te_trail.proofs.MovesChain.{state_after}
use Rattle.te_trail.proofs.PastsChain.{grown_has}
use Rattle.te_search.proofs.ListLaws.{holds_which, holds_one}
use Rattle.te_trail.proofs.StoresHold.{held}
use Rattle.te_trail.proofs.CallsLeave.{moves_held}
use Rattle.te_search.proofs.Ending.{sent_made}

-- ---- one path more, and two

made_more : (paths moves news : List Path) → AreMade moves paths → AreMade (with_moves moves paths) news → AreMade moves (paths ++ news)
made_more [] moves news a b = b
made_more (x ∷ paths) moves news a b = (a.0, made_more paths (with_move moves x) news a.1 b)

made_before : (paths : List Path) (m : Path) → Holds (with_moves [] paths) m → Holds paths m
made_before paths m h = elim (moves_held paths [] m h) [ inl n ↦ absurd n | inr k ↦ k ]

abbrev HaveOnePlace : List Path → Type 0
HaveOnePlace paths = (i j : ℕ) (x : Path) → slice_get paths i ≡ Some x → slice_get paths j ≡ Some x → i ≡ j

once_more : (paths : List Path) (y : Path) → HaveOnePlace paths → (¬ Holds paths y) → HaveOnePlace (paths ++ (y ∷ []))
once_more paths y once new i j x ei ej = go (at_or_last paths y i x ei) (at_or_last paths y j x ej)
  where
    go : ((i ≡ length paths) × (y ≡ x)) ⊎ ((i < length paths) × (slice_get paths i ≡ Some x)) → ((j ≡ length paths) × (y ≡ x)) ⊎ ((j < length paths) × (slice_get paths j ≡ Some x)) → i ≡ j
    go (inl a) (inl b) = a.0 ∙ sym b.0
    go (inl a) (inr b) = absurd (new (subst (Holds paths) (sym a.1) (held paths j x b.1)))
    go (inr a) (inl b) = absurd (new (subst (Holds paths) (sym b.1) (held paths i x a.1)))
    go (inr a) (inr b) = once i j x a.1 b.1

one_more : (g : List Member) (paths : List Path) (y : Path) → IsStore g paths → IsNext (with_moves [] paths) y → (¬ Holds paths y) → IsSound y → HasState g y
    → ((s r : Path) → ¬ (y ≡ sent s r)) → IsStore g (paths ++ (y ∷ []))
one_more g paths y store next new sound state no_meeting = record {
  made = made_more paths [] (y ∷ []) store.made (next, tt);
  sound = λ x h. elim (holds_which paths (y ∷ []) x h) [ inl a ↦ store.sound x a | inr b ↦ subst IsSound (sym (holds_one x y b)) sound ];
  state = λ x h. elim (holds_which paths (y ∷ []) x h) [ inl a ↦ store.state x a | inr b ↦ subst (HasState g) (sym (holds_one x y b)) state ];
  once = once_more paths y store.once new;
  pairs = λ i s r e. elim (at_or_last paths y i (sent s r) e) [
    | inl a ↦ absurd (no_meeting s r a.1)
    | inr b ↦ get-longer paths (y ∷ []) (suc i) (got s r) (store.pairs i s r b.1)
  ];
}

last_at : (paths : List Path) (y : Path) (n : ℕ) → n ≡ length paths → slice_get (paths ++ (y ∷ [])) n ≡ Some y
last_at [] y n e = ap (slice_get (y ∷ [])) e
last_at (x ∷ paths) y zero e = absurd (omega (arith, e))
last_at (x ∷ paths) y (suc n) e = last_at paths y n (omega (arith, e))

two_more : (g : List Member) (paths : List Path) (s r : Path) → IsStore g paths → Holds paths s → Holds paths r → (¬ Holds paths (sent s r)) → Agree s r → HasState g (sent s r)
    → HasState g (got s r) → IsStore g (paths ++ (sent s r ∷ (got s r ∷ [])))
two_more g paths s r store hs hr new agree at_sender at_receiver = record {
  made = made_more paths [] (sent s r ∷ (got s r ∷ [])) store.made
      ((grown_has paths [] s store.made hs, grown_has paths [] r store.made hr, (λ h. new (made_before paths (sent s r) h))), (inl refl, tt));
  sound = λ x h. elim (which x h) [ inl a ↦ store.sound x a | inr b ↦ elim b [ inl e ↦ subst IsSound (sym e) sound | inr e ↦ subst IsSound (sym e) sound ] ];
  state = λ x h. elim (which x h) [
    | inl a ↦ store.state x a
    | inr b ↦ elim b [ inl e ↦ subst (HasState g) (sym e) at_sender | inr e ↦ subst (HasState g) (sym e) at_receiver ]
  ];
  once = subst HaveOnePlace joined
      (once_more (paths ++ (sent s r ∷ [])) (got s r) (once_more paths (sent s r) store.once new) (λ h. elim (holds_which paths (sent s r ∷ []) (got s r) h) [
        | inl a ↦ new (sent_made g paths store s r a)
        | inr b ↦ apart (holds_one (got s r) (sent s r) b)
      ]));
  pairs = λ i a b e. subst (λ l. slice_get l (suc i) ≡ Some (got a b)) joined
      (pair i a b (at_or_last (paths ++ (sent s r ∷ [])) (got s r) i (sent a b) (ap (λ l. slice_get l i) joined ∙ e)));
}
  where
    joined : (paths ++ (sent s r ∷ [])) ++ (got s r ∷ []) ≡ paths ++ (sent s r ∷ (got s r ∷ []))
    joined = append_assoc paths (sent s r ∷ []) (got s r ∷ [])

    sound : IsSound s × IsSound r × Agree s r
    sound = (store.sound s hs, store.sound r hr, agree)

    apart : got s r ≡ sent s r → ⊥
    apart e = cc

    which : (x : Path) → Holds (paths ++ (sent s r ∷ (got s r ∷ []))) x → Holds paths x ⊎ ((x ≡ sent s r) ⊎ (x ≡ got s r))
    which x h = elim (holds_which paths (sent s r ∷ (got s r ∷ [])) x h) [ inl a ↦ inl a | inr b ↦ inr (elim b [ inl e ↦ inl e | inr k ↦ inr (holds_one x (got s r) k) ]) ]

    pair : (i : ℕ) (a b : Path) → ((i ≡ length (paths ++ (sent s r ∷ []))) × (got s r ≡ sent a b))
        ⊎ ((i < length (paths ++ (sent s r ∷ []))) × (slice_get (paths ++ (sent s r ∷ [])) i ≡ Some (sent a b)))
        → slice_get ((paths ++ (sent s r ∷ [])) ++ (got s r ∷ [])) (suc i) ≡ Some (got a b)
    pair i a b (inl k) = (let e : got s r ≡ sent a b = k.1 in cc)
    pair i a b (inr k) = elim (at_or_last paths (sent s r) i (sent a b) k.1) [
      | inl l ↦ last_at (paths ++ (sent s r ∷ [])) (got s r) (suc i) (ap suc l.0 ∙ sym (longer paths)) ∙ ap Some (other_end l.1)
      | inr m ↦ get-longer (paths ++ (sent s r ∷ [])) (got s r ∷ []) (suc i) (got a b) (get-longer paths (sent s r ∷ []) (suc i) (got a b) (store.pairs i a b m.1))
    ]
      where
        longer : (xs : List Path) → length (xs ++ (sent s r ∷ [])) ≡ suc (length xs)
        longer [] = refl
        longer (x ∷ xs) = ap suc (longer xs)

        other_end : sent s r ≡ sent a b → got s r ≡ got a b
        other_end e = cc

-- ---- the next step

pub plant_grows : (g : List Member) (paths : List Path) (t : ℕ) (m : Member) → IsStore g paths → member_of t g ≡ Some m → (¬ Holds paths (planted t)) → IsStore g (paths ++ (planted t ∷ []))
plant_grows g paths t m store at new = one_more g paths (planted t) store (λ h. new (made_before paths (planted t) h)) new tt (settled m, ap (option_map settled) at) no_meeting
  where
    no_meeting : (s r : Path) → ¬ (planted t ≡ sent s r)
    no_meeting s r e = cc

pub branch_grows : (g : List Member) (paths : List Path) (x : Path) (left : Bool) → IsStore g paths → Holds paths x → (¬ Holds paths (branched x left))
    → ((m : Member) → path_state g x ≡ Some m → IsChoice m.term) → IsStore g (paths ++ (branched x left ∷ []))
branch_grows g paths x left store hx new at = one_more g paths (branched x left) store
    (grown_has paths [] x store.made hx, (λ h. new (made_before paths (branched x left) h))) new (store.sound x hx) there no_meeting
  where
    no_meeting : (s r : Path) → ¬ (branched x left ≡ sent s r)
    no_meeting s r e = cc

    stands : HasState g x
    stands = store.state x hx

    choice : IsChoice stands.0.term
    choice = at stands.0 stands.1

    after : (l : Bool) → (u : Term) × (after_choice l stands.0.term ≡ Some u)
    after true = (with_head choice.0 stands.0.term, ap (λ h. option_map (λ u. with_head u stands.0.term) (chosen_from true h)) choice.1.1)
    after false = (with_head choice.1.0 stands.0.term, ap (λ h. option_map (λ u. with_head u stands.0.term) (chosen_from false h)) choice.1.1)

    there : HasState g (branched x left)
    there = (
      settled (at_term stands.0 (after left).0),
      ap (option_and_then (λ m. option_map settled (chosen left m))) stands.1 ∙ ap (λ o. option_map settled (option_map (at_term stands.0) o)) (after left).1,
    )

pub meet_grows : (g : List Member) (paths : List Path) (s r : Path) → IsStore g paths → Holds paths s → Holds paths r → (¬ Holds paths (sent s r)) → Agree s r
    → ((a b : Member) → path_state g s ≡ Some a → path_state g r ≡ Some b → FaceEachOther a b) → IsStore g (paths ++ (sent s r ∷ (got s r ∷ [])))
meet_grows g paths s r store hs hr new agree stand = two_more g paths s r store hs hr new agree (settled ends.sender, both.0) (settled ends.receiver, both.1)
  where
    a : HasState g s
    a = store.state s hs

    b : HasState g r
    b = store.state r hr

    face : FaceEachOther a.0 b.0
    face = stand a.0 b.0 a.1 b.1

    ends : MovedEnds
    ends = record { sender = at_term a.0 (with_head (giving []) a.0.term); receiver = at_term b.0 (with_head (giving face.message.value) b.0.term) }

    meeting_is : members_met a.0 b.0 ≡ Some ends
    meeting_is = rw (face.sends, face.receives, eq_same face.message.channel) refl

    both : (path_state g (sent s r) ≡ Some (settled ends.sender)) × (path_state g (got s r) ≡ Some (settled ends.receiver))
    both = state_after g s r a.0 b.0 ends a.1 b.1 meeting_is
