-- No way leads to a group yet from a final path that rests on a path that hasn't gone on.
use Rattle.std.proofs.Common.{◌≡◌, ◌≢◌, ◌<◌, inl, inr, ℕ, ◌+◌, List, [], ◌∷◌, ◌++◌, length, true, Option, Some, None}
use Rattle.std.proofs.Common.{slice_get, refl, ap, sym, ◌∙◌, subst, arith}
use Rattle.te_terms.specs.Steps.{Member}
use Rattle.te_trail.specs.Paths.{Path, planted, branched, sent, got, thread_of, move_of, IsAbove, OnOneLine}
use Rattle.te_trail.specs.Clocks.{Agree, IsSound, clock_of}
use Rattle.te_trail.specs.Stores.{Holds, any_rests_on}
use Rattle.te_trail.proofs.Lines.{rests_move}
use Rattle.te_trail.proofs.ClockLaws.{clock_in, clock_self, clock_thread, deeper_either}
use Rattle.te_trail.proofs.PastsChain.{true_pasts}
use Rattle.te_trail.proofs.StoresHold.{held}
use Rattle.te_pair.specs.Ends.{paths_kept}
use Rattle.te_search.specs.declared.work.Work.{Work}
use Rattle.te_search.specs.Finals.{numbers_of}
use Rattle.te_search.specs.Searching.{Fails, wanting, paths_by, IsSearch}
use Rattle.te_search.specs.Assemblies.{NamesPaths, joint}
use Rattle.te_search.specs.Works.{pending_of, IsWorkOn}
use Rattle.te_search.specs.Batching.{HasLater}
use Rattle.te_search.proofs.ListLaws.{holds_left, holds_which, holds_one}
use Rattle.te_search.proofs.WorkDone.{parent_made, final_is_last}
use Rattle.te_search.proofs.Ending.{Ending, past_made}
use Rattle.te_terms.proofs.Lists.{get_low}
use Rattle.te_terms.proofs.Lists.{get_some}
use Rattle.te_trail.specs.Records.{path_at}

-- nothing that is made stands below a path that hasn't gone on
pub pending_last : (g : List Member) (paths pending waits finals : List Path) → IsSearch g paths pending waits finals
    → (c : Path) → Holds pending c → (z : Path) → Holds paths z → IsAbove c z → z ≡ c
pending_last g paths pending waits finals w c hc (planted t) hz a = sym a
pending_last g paths pending waits finals w c hc (branched p l) hz (inl e) = sym e
pending_last g paths pending waits finals w c hc (branched p l) hz (inr a) = absurd (w.branched_from p l hz
    (subst (Holds pending) (sym (pending_last g paths pending waits finals w c hc p
    (parent_made paths w.ups (branched p l) p hz refl) a)) hc))
pending_last g paths pending waits finals w c hc (sent s r) hz (inl e) = sym e
pending_last g paths pending waits finals w c hc (sent s r) hz (inr a) = absurd ((w.pending_apart c hc).0
    (subst (Holds waits) (pending_last g paths pending waits finals w c hc s
    (parent_made paths w.ups (sent s r) s hz refl) a) (w.met_from s r hz).0))
pending_last g paths pending waits finals w c hc (got s r) hz (inl e) = sym e
pending_last g paths pending waits finals w c hc (got s r) hz (inr a) = absurd ((w.pending_apart c hc).0
    (subst (Holds waits) (pending_last g paths pending waits finals w c hc r
    (parent_made paths w.ups (got s r) r hz refl) a)
    (w.met_from s r (past_made g paths pending waits finals w (got s r) (sent s r) hz (inl refl))).1))

-- a final path needs the thread of another path in its past that hasn't gone on, and no final path of that thread agrees
fails_yet : (g : List Member) (paths pending waits finals : List Path) → IsSearch g paths pending waits finals
    → (x c : Path) (t : ℕ) (available : Path → Type 0) → Holds paths x → clock_of x t ≡ Some c → c ≢ x
    → Holds pending c → ((f : Path) → available f → Holds (finals ++ (x ∷ [])) f) → Fails available (x ∷ [])
fails_yet g paths pending waits finals w x c t available hx e apart hc there = wanting (x ∷ []) t c
    (clock_thread x t c e) (true_pasts (x ∷ []) x (move_of c) (inl refl) (clock_in x t c (move_of c) e (rests_move c)))
    free next
  where
    own : thread_of x ≡ t → ⊥
    own h = apart (let s : Some x ≡ Some c = sym (clock_self x (w.store.sound x hx)) ∙ ap (clock_of x) h ∙ e in
        let one : c ≡ x = cc in one)

    free : (y : Path) → Holds (x ∷ []) y → thread_of y ≡ t → ⊥
    free y h th = own (ap thread_of (sym (holds_one y x h)) ∙ th)

    early : (f : Path) → Holds finals f → thread_of f ≡ t → Agree f x → ⊥
    early f h th a = (w.pending_apart c hc).1 (subst (Holds finals) (by (a.lines t f c named e)) h)
      where
        named : clock_of f t ≡ Some f
        named = ap (clock_of f) (sym th) ∙ clock_self f (w.store.sound f (w.finals_made f h))

        by : OnOneLine f c → f ≡ c
        by (inl up) = sym (final_is_last g f c (w.finals_final f h) (w.store.state c (w.pending_made c hc)) up)
        by (inr down) = pending_last g paths pending waits finals w c hc f (w.finals_made f h) down

    next : (f : Path) → available f → thread_of f ≡ t → ((y : Path) → Holds (x ∷ []) y → Agree f y)
        → Fails available (f ∷ (x ∷ []))
    next f av th agree = absurd (elim (holds_which finals (x ∷ []) f (there f av)) [
      | inl h ↦ early f h th (agree x (inl refl))
      | inr k ↦ own (ap thread_of (sym (holds_one f x k)) ∙ th)
    ])

-- the same, of a path in hand whose joined past has a later path, where all later paths are still to be worked on
pub to_come_fails : (w : Work) (p : ℕ) (x : Path) (threads : List ℕ) (joined : List (Option ℕ))
    → slice_get w.store.paths p ≡ Some x → IsWorkOn w p → Ending w p x threads
    → NamesPaths w.store.paths threads (joint (x ∷ [])) joined → HasLater joined p
    → ((m : ℕ) (c : Path) → p < m → slice_get w.store.paths m ≡ Some c → Holds (pending_of w) c)
    → Fails (Holds (paths_by w.store.paths (numbers_of w.finals ++ (p ∷ [])))) (x ∷ [])
to_come_fails w p x threads joined ex k e names (i, m, ji, late) pending =
    by (get_some threads i (let l : i < length joined = get_low joined (Some m) i ji in omega (arith, l, names.wide)))
  where
    by : (t : ℕ) × (slice_get threads i ≡ Some t)
        → Fails (Holds (paths_by w.store.paths (numbers_of w.finals ++ (p ∷ [])))) (x ∷ [])
    by (t, et) = on (names.each i t (Some m) et ji)
      where
        on : (c : Path) × (slice_get w.store.paths m ≡ Some c) × (joint (x ∷ []) t ≡ Some c)
            → Fails (Holds (paths_by w.store.paths (numbers_of w.finals ++ (p ∷ [])))) (x ∷ [])
        on (c, ec, jc) = fails_yet w.store.events w.store.paths (pending_of w ++ (path_at w.store.paths p ∷ []))
            (paths_by w.store.paths (paths_kept w.waiting)) (paths_by w.store.paths (numbers_of w.finals)) k.search x c t
            (Holds (paths_by w.store.paths (numbers_of w.finals ++ (p ∷ [])))) (held w.store.paths p x ex) clock apart
            (holds_left (pending_of w) (path_at w.store.paths p ∷ []) c (pending m c late ec))
            (λ f h. subst (λ l. Holds l f) e.finals_are h)
          where
            clock : clock_of x t ≡ Some c
            clock = elim (deeper_either (clock_of x t) None c jc) [ inl a ↦ a | inr b ↦ cc ]

            apart : c ≢ x
            apart s = absurd (let one : m ≡ p = k.search.store.once m p x (ec ∙ ap Some s) ex in omega (arith, one, late))
