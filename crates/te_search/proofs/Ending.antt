-- A path in hand that is final ends.
use Rattle.std.proofs.Common.{◌≡◌, ◌⊎◌, ◌<◌, inl, inr, ℕ, zero, suc, ◌+◌, List, [], ◌∷◌, ◌++◌, length, map, Bool, Option, Some}
use Rattle.std.proofs.Common.{None, MatchBool, slice_get, refl, ap}
use Rattle.std.proofs.Common.{ap₂, sym, ◌∙◌, subst, arith, append-nil, length-append}
use Rattle.std.specs.List.{AllByRecursion}
use Rattle.te_terms.specs.Terms.{Term}
use Rattle.te_terms.specs.Steps.{Member, at_term, outcome_of}
use Rattle.te_terms.proofs.OneThing.{Rests}
use Rattle.te_terms.specs.Settling.{settled}
use Rattle.te_trail.proofs.Lines.{rests_move}
use Rattle.te_trail.proofs.ClockLaws.{clock_in}
use Rattle.te_pair.specs.Ends.{paths_kept}
use Rattle.te_search.specs.Assemblies.{IsMore}
use Rattle.te_path.specs.Paths.{IsChoice}
use Rattle.te_terms.specs.Joint.{Message, after_choice, sending, receiving}
use Rattle.te_trail.specs.Paths.{Path, planted, branched, sent, got}
use Rattle.te_trail.specs.Stores.{Holds, IsStore, labels_of_move}
use Rattle.te_trail.specs.Trails.{IsAtChoice, IsPathThread}
use Rattle.te_trail.specs.States.{chosen, MovedEnds, members_met, path_state}
use Rattle.te_terms.proofs.Lists.{some_map, all_with, get_low, get-longer, all_both, at_last}
use Rattle.te_trail.proofs.MembersMove.{Handing, handing}
use Rattle.te_search.specs.declared.work.Work.{Work}
use Rattle.te_search.specs.declared.finals.Final.{Final}
use Rattle.te_search.specs.Finals.{number_of, numbers_of, TellThreads}
use Rattle.te_search.proofs.FinalsTold.{told_one}
use Rattle.te_search.specs.Groups.{IsFinal, Partial, IsPartial}
use Rattle.te_search.specs.Searching.{paths_by, AreUp, NoPathTwice, AllFail, MayMeet, IsSearch}
use Rattle.te_trail.specs.Records.{path_at}
use Rattle.te_search.specs.Works.{AreLow, EndsStand, label_told, pending_of, IsCounted, IsWork, IsWorkOn}
use Rattle.te_search.specs.Works.{Gains, IsPassed, IsSpentAt, WaitsOn}
use Rattle.te_search.proofs.ListLaws.{once_both, holds_left, holds_right, holds_which, holds_one, once_by_places}
use Rattle.te_trail.proofs.StoresHold.{held}
use Rattle.te_search.proofs.WorkDone.{IsStep, step_done, final_cannot_choose}
use Rattle.te_search.proofs.Trying.{path_there}
use Rattle.te_search.proofs.Working.{map_both, low_both, work_gained}
use Rattle.te_terms.specs.declared.event.Outcome.{Outcome}
use Rattle.te_terms.specs.Terms.{never}
use Rattle.te_terms.specs.Steps.{head}
use Rattle.te_terms.proofs.OneThing.{never_is_alone}
use Rattle.te_path.specs.declared.spot.Stop.{Stop}
use Rattle.te_path.specs.Paths.{StandsAt}
use Rattle.te_trail.specs.Trails.{IsStop}
use Rattle.te_search.specs.Works.{WorkGrows}
use Rattle.te_trail.specs.Paths.{move_of, RestsOn}
use Rattle.te_trail.proofs.ClockLaws.{made_planted, made_branched, made_met}
use Rattle.te_trail.proofs.PastsChain.{parts_of, grown_has}
use Rattle.te_search.specs.Searching.{Fails, wanting}
use Rattle.te_search.specs.Assemblies.{AssemblyStand, Crew, NamesPaths, Tries, Assembles, IsFound, joint}
use Rattle.std.proofs.Common.{Vec, Global}
use Rattle.te_search.specs.Works.{IsHit, StepEndsSo, threads_of}
use Rattle.te_trail.proofs.CallsLeave.{moves_held}
use Rattle.te_search.proofs.WorkDone.{parent_made, final_cannot_meet, final_is_last}
use Rattle.te_search.proofs.PartialLaws.{tries_zero, tries_less, tried_more}

-- ---- a store is closed

both_made : (g : List Member) (paths pending waits finals : List Path) → IsSearch g paths pending waits finals → (s r : Path) → Holds paths (sent s r) → Holds paths (got s r)
both_made g paths pending waits finals w s r h =
    let t = w.store.state (sent s r) h in
    let m : (a : Member) × (b : Member) × (p : MovedEnds) × (path_state g s ≡ Some a) × (path_state g r ≡ Some b) × (members_met a b ≡ Some p) = parts_of g s r (λ p. settled p.sender) t.0 t.1 in
    let k = w.met_from s r h in
    (w.meetings s r m.0 m.1 m.2 k.0 k.1 (w.store.sound (sent s r) h).2 m.3 m.4 m.5).1

pub sent_made : (g : List Member) (paths : List Path) → IsStore g paths → (s r : Path) → Holds paths (got s r) → Holds paths (sent s r)
sent_made g paths store s r h = elim (moves_held paths [] (sent s r) (grown_has paths [] (got s r) store.made h)) [ inl n ↦ absurd n | inr k ↦ k ]

pub past_made : (g : List Member) (paths pending waits finals : List Path) → IsSearch g paths pending waits finals → (y z : Path) → Holds paths y → RestsOn (move_of z) y → Holds paths z
past_made g paths pending waits finals w (planted t) z h r = subst (Holds paths) (sym (made_planted z t r)) h
past_made g paths pending waits finals w (branched p l) z h (inl e) = subst (Holds paths) (sym (made_branched z p l e)) h
past_made g paths pending waits finals w (branched p l) z h (inr a) = past_made g paths pending waits finals w p z (parent_made paths w.ups (branched p l) p h refl) a
past_made g paths pending waits finals w (sent s r) z h (inl e) = elim
    (made_met z s r e) [ inl o ↦ subst (Holds paths) (sym o) h | inr o ↦ subst (Holds paths) (sym o) (both_made g paths pending waits finals w s r h) ]
past_made g paths pending waits finals w (sent s r) z h (inr (inl a)) = past_made g paths pending waits finals w s z (parent_made paths w.ups (sent s r) s h refl) a
past_made g paths pending waits finals w (sent s r) z h (inr (inr b)) = past_made g paths pending waits finals w r z
    (parent_made paths w.ups (got s r) r (both_made g paths pending waits finals w s r h) refl) b
past_made g paths pending waits finals w (got s r) z h (inl e) = elim
    (made_met z s r e) [ inl o ↦ subst (Holds paths) (sym o) (sent_made g paths w.store s r h) | inr o ↦ subst (Holds paths) (sym o) h ]
past_made g paths pending waits finals w (got s r) z h (inr (inl a)) = past_made g paths pending waits finals w s z (parent_made paths w.ups (sent s r) s (sent_made g paths w.store s r h) refl) a
past_made g paths pending waits finals w (got s r) z h (inr (inr b)) = past_made g paths pending waits finals w r z (parent_made paths w.ups (got s r) r h refl) b

-- ---- the order of final paths

pub fails_fewer : (av few : Path → Type 0) → ((f : Path) → few f → av f) → (ps : List Path) → Fails av ps → Fails few ps
fails_fewer av few less ps (wanting qs t x tx hx free next) = wanting qs t x tx hx free (λ f a tf ag. fails_fewer av few less (f ∷ qs) (next f (less f a) tf ag))

last_case : (xs : List Path) (p : Path) (front : List Path) (start : Path) (rest : List Path) → xs ++ (p ∷ []) ≡ front ++ (start ∷ rest)
    → ((more : List Path) × (xs ≡ front ++ (start ∷ more))) ⊎ ((xs ≡ front) × (p ≡ start))
last_case [] p [] start rest e = inr (refl, cc)
last_case [] p (b ∷ []) start rest e = cc
last_case [] p (b ∷ c ∷ front) start rest e = cc
last_case (x ∷ xs) p [] start rest e = let one : x ≡ start = cc in inl (xs, ap (λ q. q ∷ xs) one)
last_case (x ∷ xs) p (b ∷ front) start rest e = let one : x ≡ b = cc in let more : xs ++ (p ∷ []) ≡ front ++ (start ∷ rest) = cc in
    elim (last_case xs p front start rest more) [ inl r ↦ inl (r.0, ap (λ q. q ∷ xs) one ∙ ap (λ q. b ∷ q) r.1) | inr r ↦ inr (ap (λ q. q ∷ xs) one ∙ ap (λ q. b ∷ q) r.0, r.1) ]

all_fail_more : (g : List Member) (finals : List Path) (x : Path) → AllFail g finals → Fails (λ f. IsFinal g f × Holds (finals ++ (x ∷ [])) f) (x ∷ []) → AllFail g (finals ++ (x ∷ []))
all_fail_more g finals x before fails front start rest e = elim (last_case finals x front start rest e) [
  | inl r ↦ before front start r.0 r.1
  | inr r ↦ subst (λ s. Fails (λ f. IsFinal g f × Holds (front ++ (s ∷ [])) f) (s ∷ [])) r.1 (subst (λ b. Fails (λ f. IsFinal g f × Holds (b ++ (x ∷ [])) f) (x ∷ [])) r.0 fails)
]

-- ---- the path in hand is final

pub numbers_one : (old new : List Final) (p t : ℕ) → new ≡ old ++ (record { path = p; thread = t } ∷ []) → numbers_of new ≡ numbers_of old ++ (p ∷ [])
numbers_one old new p t is = ap numbers_of is ∙ map_both number_of old (record { path = p; thread = t } ∷ [])

pub told_after : (old : Work) (new : List Final) (p t : ℕ) → IsWorkOn old p → new ≡ old.finals ++ (record { path = p; thread = t } ∷ []) → IsPathThread old.store.paths p t
    → TellThreads old.store.paths new
told_after old new p t w is th = subst (TellThreads old.store.paths) (sym is) (told_one old.store.paths old.finals p t w.finals_told th)

-- final paths with the one in hand
pub record Ending (old : Work) (p : ℕ) (x : Path) (threads : List ℕ) : Type 0 where
  pub stand : AssemblyStand old.store.events old.store.paths threads (numbers_of old.finals ++ (p ∷ []))
  pub crew : Crew old.store.events (Holds old.store.paths) (IsFinal old.store.events) (x ∷ [])
  pub partial : IsPartial old.store.events old.store.paths (record { start = x; members = x ∷ [] })
  pub new : ¬ Holds (paths_by old.store.paths (numbers_of old.finals)) x
  pub finals_are : paths_by old.store.paths (numbers_of old.finals ++ (p ∷ [])) ≡ paths_by old.store.paths (numbers_of old.finals) ++ (x ∷ [])

pub ending : (old : Work) (p : ℕ) (x : Path) (threads : List ℕ) → slice_get old.store.paths p ≡ Some x → IsWorkOn old p → IsFinal old.store.events x
    → threads ≡ threads_of old.store.events → Ending old p x threads
ending old p x threads ex w f th = record {
  stand = record {
    store = before.store;
    ups = before.ups;
    closed = past_made old.store.events old.store.paths (pending_of old ++ (x ∷ [])) waits finals before;
    finals_low = low_both old.store.paths (numbers_of old.finals) (p ∷ []) w.finals_low p_low;
    finals_final = λ y h. elim (holds_which finals (x ∷ []) y (subst (λ l. Holds l y) finals_are h)) [
      | inl a ↦ before.finals_final y a
      | inr b ↦ subst (IsFinal old.store.events)
          (sym (holds_one y x b)) f
    ];
    finals_once = subst NoPathTwice (sym finals_are) (once_both finals (x ∷ []) before.finals_once ((λ n. n), tt) (λ y h k. new (subst (Holds finals) (holds_one y x k) h)));
    threads_are = th;
  };
  crew = record {
    fins = λ y h. subst (IsFinal old.store.events) (sym (holds_one y x h)) f;
    team = record { sounds = λ y h. before.store.sound y (made y h); states = λ y h. before.store.state y (made y h); agrees = λ y z h k. inl (holds_one y x h ∙ sym (holds_one z x k)) };
    makes = λ y t c hy e. past_made old.store.events old.store.paths (pending_of old ++ (x ∷ [])) waits finals before y c hy (clock_in y t c (move_of c) e (rests_move c));
    made_all = made;
    tops = λ y h z hz up. final_is_last old.store.events y z (subst (IsFinal old.store.events) (sym (holds_one y x h)) f) (before.store.state z hz) up;
  };
  partial = record { starts = inl refl; made = made; finals = λ y h. subst (IsFinal old.store.events) (sym (holds_one y x h)) f; agree = λ y z h k. inl (holds_one y x h ∙ sym (holds_one z x k)) };
  new = new;
  finals_are = finals_are;
}
  where
    waits : List Path
    waits = paths_by old.store.paths (paths_kept old.waiting)

    finals : List Path
    finals = paths_by old.store.paths (numbers_of old.finals)

    before : IsSearch old.store.events old.store.paths (pending_of old ++ (x ∷ [])) waits finals
    before = subst (λ y. IsSearch old.store.events old.store.paths (pending_of old ++ (y ∷ [])) waits finals) (path_there old.store.paths p x ex) w.search

    made : (y : Path) → Holds (x ∷ []) y → Holds old.store.paths y
    made y h = subst (Holds old.store.paths) (sym (holds_one y x h)) (held old.store.paths p x ex)

    new : ¬ Holds finals x
    new = (before.pending_apart x (holds_right (pending_of old) (x ∷ []) x (inl refl))).1

    finals_are : paths_by old.store.paths (numbers_of old.finals ++ (p ∷ [])) ≡ finals ++ (x ∷ [])
    finals_are = map_both (path_at old.store.paths) (numbers_of old.finals) (p ∷ []) ∙ ap (λ b. finals ++ (b ∷ [])) (path_there old.store.paths p x ex)

    p_low : AreLow old.store.paths (p ∷ [])
    p_low zero n e = (let one : p ≡ n = cc in let h : p < length old.store.paths = get_low old.store.paths x p ex in omega (arith, one, h))
    p_low (suc i) n e = cc

-- what was tried by then
pub ending_counted : (old : Work) (p : ℕ) (x : Path) (threads : List ℕ) (count groups : ℕ) → IsWorkOn old p → Ending old p x threads
    → Tries old.store.events old.store.paths x (x ∷ []) count → groups ≡ old.groups + suc count
    → IsCounted old.store.events old.store.paths (paths_by old.store.paths (numbers_of old.finals ++ (p ∷ []))) groups
ending_counted old p x threads count groups w e t is = record {
  tried = w.counted.tried ++ (own ∷ t.more);
  count_is = length-append w.counted.tried (own ∷ t.more) ∙ ap₂ (λ a b. a + suc b) w.counted.count_is t.count_is ∙ sym is;
  are = tried_more old.store.events old.store.paths finals x w.counted.tried count w.counted.are w.counted.starts e.new e.partial t;
  starts = subst (λ l. AllByRecursion (λ q. Holds l q.start) (w.counted.tried ++ (own ∷ t.more))) (sym e.finals_are)
      (all_both (λ q. Holds (finals ++ (x ∷ [])) q.start) w.counted.tried (own ∷ t.more)
      (all_with (λ q. Holds finals q.start) (λ q. Holds (finals ++ (x ∷ [])) q.start) w.counted.tried (λ q h. holds_left finals (x ∷ []) q.start h) w.counted.starts) (
        holds_right finals (x ∷ []) x (inl refl),
        all_with (IsMore old.store.events old.store.paths x (x ∷ [])) (λ q. Holds (finals ++ (x ∷ [])) q.start) t.more
            (λ q h. holds_right finals (x ∷ []) q.start (inl h.start_is)) t.are,
      ));
}
  where
    own : Partial
    own = record { start = x; members = x ∷ [] }

    finals : List Path
    finals = paths_by old.store.paths (numbers_of old.finals)

-- nothing was found from it
pub end_done : (old new : Work) (p : ℕ) (x : Path) (threads : List ℕ) (count : ℕ) → slice_get old.store.paths p ≡ Some x → IsWorkOn old p → IsFinal old.store.events x
    → Ending old p x threads → new.store ≡ old.store → new.moves.items ≡ old.moves.items → new.pending.items ≡ old.pending.items → new.waiting ≡ old.waiting
    → numbers_of new.finals ≡ numbers_of old.finals ++ (p ∷ []) → new.groups ≡ old.groups + suc count → Tries old.store.events old.store.paths x (x ∷ []) count
    → Fails (Holds (paths_by old.store.paths (numbers_of old.finals ++ (p ∷ [])))) (x ∷ []) → TellThreads old.store.paths new.finals → IsWork new
end_done old new p x threads count ex w f e st mo pe wa fi gr tries fails told_so = record {
  search = subst (λ t. IsSearch t.events t.paths (paths_by t.paths new.pending.items)
      (paths_by t.paths (paths_kept new.waiting)) (paths_by t.paths (numbers_of new.finals))) (sym st)
      (subst (λ k. IsSearch old.store.events old.store.paths (paths_by old.store.paths k) (paths_by old.store.paths (paths_kept new.waiting))
      (paths_by old.store.paths (numbers_of new.finals))) (sym pe)
      (subst (λ k. IsSearch old.store.events old.store.paths (pending_of old) (paths_by old.store.paths (paths_kept k))
      (paths_by old.store.paths (numbers_of new.finals))) (sym wa)
      (subst (λ k. IsSearch old.store.events old.store.paths (pending_of old) waits (paths_by old.store.paths k)) (sym fi)
      (subst (IsSearch old.store.events old.store.paths (pending_of old) waits) (sym e.finals_are)
      (subst (λ q. IsSearch old.store.events q (pending_of old) waits (finals ++ (x ∷ []))) (append-nil old.store.paths)
      (subst (λ q. IsSearch old.store.events (old.store.paths ++ []) q waits (finals ++ (x ∷ []))) (append-nil (pending_of old))
      (subst (λ q. IsSearch old.store.events (old.store.paths ++ []) (pending_of old ++ []) q (finals ++ (x ∷ []))) (append-nil waits)
      (step_done old.store.events old.store.paths (pending_of old) waits finals x [] [] (x ∷ []) before step))))))));
  pending_low = subst (λ t. AreLow t.paths new.pending.items) (sym st) (subst (AreLow old.store.paths) (sym pe) w.pending_low);
  waits_low = subst (λ t. AreLow t.paths (paths_kept new.waiting)) (sym st) (subst (λ k. AreLow old.store.paths (paths_kept k)) (sym wa) w.waits_low);
  finals_low = subst (λ t. AreLow t.paths (numbers_of new.finals)) (sym st) (subst (AreLow old.store.paths) (sym fi) e.stand.finals_low);
  finals_told = subst (λ t. TellThreads t.paths new.finals) (sym st) told_so;
  ends = subst (λ t. EndsStand t.events t.paths new.waiting) (sym st) (subst (EndsStand old.store.events old.store.paths) (sym wa) w.ends);
  told_are = ap (map label_told) mo ∙ w.told_are ∙ ap (λ t. map labels_of_move t.paths) (sym st);
  counted = subst (λ t. IsCounted t.events t.paths (paths_by t.paths (numbers_of new.finals)) new.groups) (sym st)
      (subst (λ k. IsCounted old.store.events old.store.paths (paths_by old.store.paths k) new.groups) (sym fi) (ending_counted old p x threads count new.groups w e tries gr));
}
  where
    waits : List Path
    waits = paths_by old.store.paths (paths_kept old.waiting)

    finals : List Path
    finals = paths_by old.store.paths (numbers_of old.finals)

    before : IsSearch old.store.events old.store.paths (pending_of old ++ (x ∷ [])) waits finals
    before = subst (λ y. IsSearch old.store.events old.store.paths (pending_of old ++ (y ∷ [])) waits finals) (path_there old.store.paths p x ex) w.search

    plain : old.store.paths ++ [] ≡ old.store.paths
    plain = append-nil old.store.paths

    step : IsStep old.store.events old.store.paths (pending_of old) waits finals x [] [] (x ∷ [])
    step = record {
      store = subst (IsStore old.store.events) (sym plain) before.store;
      ups = subst AreUp (sym plain) before.ups;
      news_once = subst NoPathTwice (sym plain) (once_by_places old.store.paths before.store.once);
      done = record {
        chooses = λ l m u s c. absurd (final_cannot_choose old.store.events x l m u f s c);
        waits_there = λ m. absurd (final_cannot_meet old.store.events x f m);
        final_there = λ k. holds_right finals (x ∷ []) x (inl refl);
      };
      kept_is = λ z h. absurd h;
      ended_is = λ z h. (holds_one z x h, subst (IsFinal old.store.events) (sym (holds_one z x h)) f);
      kept_once = tt;
      ended_once = ((λ n. n), tt);
      branched_of = λ q l h. absurd h;
      met_of = λ q r h. absurd h;
      meetings = λ q r a b k hq hr ag sa sb mt. (let m : Holds old.store.paths (sent q r) × Holds old.store.paths (got q r) = before.meetings q r a b k
          (subst (λ l. Holds l q) (append-nil waits) hq) (subst (λ l. Holds l r) (append-nil waits) hr) ag sa sb mt in
          (holds_left old.store.paths [] (sent q r) m.0, holds_left old.store.paths [] (got q r) m.1));
      failed = all_fail_more old.store.events finals x before.failed
          (fails_fewer (Holds (paths_by old.store.paths (numbers_of old.finals ++ (p ∷ [])))) (λ y. IsFinal old.store.events y × Holds (finals ++ (x ∷ [])) y)
          (λ y h. subst (λ l. Holds l y) (sym e.finals_are) h.1) (x ∷ []) fails);
    }

-- a group was found
pub end_found : (old new : Work) (p : ℕ) (x : Path) (threads : List ℕ) (out : List (Option ℕ)) → slice_get old.store.paths p ≡ Some x → IsWorkOn old p → IsFinal old.store.events x
    → Ending old p x threads → new.store ≡ old.store → new.moves.items ≡ old.moves.items → numbers_of new.finals ≡ numbers_of old.finals ++ (p ∷ [])
    → IsFound old.store.events old.store.paths threads x (x ∷ []) out → IsHit new threads out
end_found old new p x threads out ex w f e st mo fi found = record {
  stand = subst (λ t. AssemblyStand t.events t.paths threads (numbers_of new.finals)) (sym st) (subst (AssemblyStand old.store.events old.store.paths threads) (sym fi) e.stand);
  start = x;
  final = subst (λ t. IsFinal t.events x) (sym st) f;
  made = subst (λ t. Holds t.paths x) (sym st) (held old.store.paths p x ex);
  found = subst (λ t. IsFound t.events t.paths threads x (x ∷ []) out) (sym st) found;
  told_are = ap (map label_told) mo ∙ w.told_are ∙ ap (λ t. map labels_of_move t.paths) (sym st);
}

-- so many partial groups of the paths pass the budget
passed_by : (g : List Member) (paths finals : List Path) (groups budget : ℕ) → IsStore g paths → IsCounted g paths finals groups → budget < length paths + groups → IsPassed g budget
passed_by g paths finals groups budget store c more = record { made = paths; store = store; tried = c.tried; are = c.are; beyond = omega (arith, more, c.count_is) }

-- spent before a final path is assembled from
pub end_short : (old : Work) (p : ℕ) (x : Path) (threads : List ℕ) (budget : ℕ) → IsWorkOn old p → Ending old p x threads → length old.store.paths + old.groups ≡ budget
    → IsSpentAt old old.store.events budget
end_short old p x threads budget w e sum = record {
  same = refl;
  store = w.search.store;
  finals = paths_by old.store.paths (numbers_of old.finals);
  counted = w.counted;
  sum = inl sum;
  passed = passed_by old.store.events old.store.paths (paths_by old.store.paths (numbers_of old.finals ++ (p ∷ []))) (old.groups + 1) budget w.search.store
      (ending_counted old p x threads 0 (old.groups + 1) w e (tries_zero old.store.events old.store.paths x (x ∷ [])) refl) (omega (arith, sum));
}

-- spent in assembling
pub end_spent : (old new : Work) (p : ℕ) (x : Path) (threads : List ℕ) (count budget : ℕ) → IsWorkOn old p → Ending old p x threads → new.store ≡ old.store
    → new.groups ≡ old.groups + suc count → Tries old.store.events old.store.paths x (x ∷ []) (count + 1) → length old.store.paths + new.groups ≡ budget
    → IsSpentAt new old.store.events budget
end_spent old new p x threads count budget w e st gr tries sum = record {
  same = ap (λ t. t.events) st;
  store = subst (λ t. IsStore old.store.events t.paths) (sym st) w.search.store;
  finals = paths_by old.store.paths (numbers_of old.finals ++ (p ∷ []));
  counted = subst (λ t. IsCounted old.store.events t.paths (paths_by old.store.paths (numbers_of old.finals ++ (p ∷ []))) new.groups) (sym st)
      (ending_counted old p x threads count new.groups w e (tries_less old.store.events old.store.paths x (x ∷ []) count tries) gr);
  sum = inl (ap (λ t. length t.paths + new.groups) st ∙ sum);
  passed = passed_by old.store.events old.store.paths (paths_by old.store.paths (numbers_of old.finals ++ (p ∷ []))) (old.groups + suc (count + 1)) budget w.search.store
      (ending_counted old p x threads (count + 1) (old.groups + suc (count + 1)) w e tries refl) (omega (arith, sum, gr));
}

pub end_ends : (old new : Work) (p : ℕ) (x : Path) (threads : List ℕ) (joined : List (Option ℕ)) (count : ℕ) (found : Option (Vec (Option ℕ) Global))
    → slice_get old.store.paths p ≡ Some x → IsWorkOn old p → IsFinal old.store.events x → Ending old p x threads → new.store ≡ old.store → new.moves.items ≡ old.moves.items
    → new.pending.items ≡ old.pending.items → new.waiting ≡ old.waiting
    → numbers_of new.finals ≡ numbers_of old.finals ++ (p ∷ []) → new.groups ≡ old.groups + suc count → NamesPaths old.store.paths threads (joint (x ∷ [])) joined
    → Assembles old.store.events old.store.paths threads (numbers_of old.finals ++ (p ∷ [])) joined count found
    → TellThreads old.store.paths new.finals → StepEndsSo new threads found
end_ends old new p x threads joined count None ex w f e st mo pe wa fi gr names h told_so =
    (let r = h x (x ∷ []) e.crew (inl refl) names in end_done old new p x threads count ex w f e st mo pe wa fi gr r.0 r.1 told_so)
end_ends old new p x threads joined count (Some v) ex w f e st mo pe wa fi gr names h told_so =
    (let r = h x (x ∷ []) e.crew (inl refl) names in end_found old new p x threads v.items ex w f e st mo fi r.1)

-- ---- where a path stands

abbrev at_stop : Work → ℕ → Stop → Type 0
at_stop w p stop = IsStop w.store p stop

pub stop_final : (w : Work) (p : ℕ) (stop : Stop) → IsStop w.store p stop → ((t : Term) → StandsAt t stop → (o : Outcome) × (outcome_of t ≡ Some o)) → (x : Path)
    → slice_get w.store.paths p ≡ Some x → IsFinal w.store.events x
stop_final w p stop h by x ex = (let a = h x ex in let o = by a.0.term a.2 in record { member = a.0; outcome = o.0; state = a.1.state; ends = o.1 })

pub stop_waits : (w : Work) (p : ℕ) (stop : Stop) (channel : ℕ) (sends : Bool) → IsStop w.store p stop
    → ((t : Term) → StandsAt t stop → MatchBool sends ((m : Message) × (sending t ≡ Some m) × (m.channel ≡ channel)) (receiving t ≡ Some channel)) → (x : Path)
    → slice_get w.store.paths p ≡ Some x → WaitsOn w.store.events x channel sends
stop_waits w p stop channel sends h by x ex = (let a = h x ex in record { member = a.0; state = a.1.state; stands = by a.0.term a.2 })

pub stop_chooses : (w : Work) (p : ℕ) (stop : Stop) → IsStop w.store p stop → ((t : Term) → StandsAt t stop → IsChoice t) → IsAtChoice w.store p
stop_chooses w p stop h by x m ex st = (let a = h x ex in let one : a.0 ≡ m = (let k : Some a.0 ≡ Some m = sym a.1.state ∙ st in cc) in subst (λ k. IsChoice k.term) one (by a.0.term a.2))

-- a path that does nothing more
pub nothing_more : (old : Work) (p : ℕ) (x : Path) → slice_get old.store.paths p ≡ Some x → IsWorkOn old p
    → (m : Member) × (path_state old.store.events x ≡ Some m) × (head m.term ≡ never) → IsWork old
nothing_more old p x ex w st0 = work_gained old old p x [] ex w gains w.search.ups (λ l m u st c. absurd (no_choice l m u st c)) meets_not final_not (λ q l n. absurd n) (λ q r n. n)
  where
    gains : Gains old old []
    gains = record {
      paths = sym (append-nil old.store.paths);
      events = refl;
      store = w.search.store;
      pending = sym (append-nil (pending_of old));
      pending_low = w.pending_low;
      moves = sym (append-nil (map label_told old.moves.items));
      waiting = refl;
      finals = refl;
      groups = refl;
    }

    alone : Rests st0.0 st0.0.term × ((left : Bool) → after_choice left st0.0.term ≡ None) × (sending st0.0.term ≡ None) × (receiving st0.0.term ≡ None)
    alone = never_is_alone st0.0 st0.0.term st0.2

    the_one : (m : Member) → path_state old.store.events x ≡ Some m → st0.0 ≡ m
    the_one m st = (let k : Some st0.0 ≡ Some m = sym st0.1 ∙ st in cc)

    none_at : {A : Type 0} (o : Option A) (a : A) → o ≡ None → o ≡ Some a → ⊥
    none_at o a e f = cc

    no_choice : (l : Bool) (m u : Member) → path_state old.store.events x ≡ Some m → chosen l m ≡ Some u → ⊥
    no_choice l m u st c = (let a : (t : Term) × (after_choice l m.term ≡ Some t) × (at_term m t ≡ u) = some_map (at_term m) (after_choice l m.term) u c in none_at
        (after_choice l m.term) a.0 (ap (λ k. after_choice l k.term) (sym (the_one m st)) ∙ alone.1 l) a.1)

    meets_not : ¬ MayMeet old.store.events x
    meets_not m = elim m.meets [
      | inl e ↦ (let k : Handing m.own m.other m.ends = handing m.own m.other m.ends e in none_at (sending m.own.term) k.message
          (ap (λ z. sending z.term) (sym (the_one m.own m.state)) ∙ alone.2) k.sends)
      | inr e ↦ (let k : Handing m.other m.own m.ends = handing m.other m.own m.ends e in none_at (receiving m.own.term) k.channel
          (ap (λ z. receiving z.term) (sym (the_one m.own m.state)) ∙ alone.3) k.receives)
    ]

    final_not : ¬ IsFinal old.store.events x
    final_not f = none_at (outcome_of f.member.term) f.outcome (ap (λ z. outcome_of z.term) (sym (the_one f.member f.state)) ∙ alone.0.1) f.ends

pub dead_done : (old new : Work) (p : ℕ) (x : Path) (stop : Stop) → slice_get old.store.paths p ≡ Some x → IsWorkOn old p → IsStop old.store p stop
    → ((t : Term) → StandsAt t stop → head t ≡ never) → new ≡ old → IsWork new
dead_done old new p x stop ex w h by same = subst IsWork (sym same) (nothing_more old p x ex w (let a = h x ex in (a.0, a.1.state, by a.0.term a.2)))

-- ---- how much work is left

by_length : (paths : List Path) (ns : List ℕ) → length (paths_by paths ns) ≡ length ns
by_length paths [] = refl
by_length paths (n ∷ ns) = ap suc (by_length paths ns)

pub gains_grow : (old new : Work) (news : List Path) → Gains old new news → WorkGrows old new
gains_grow old new news g =
    let a : length new.pending.items ≡ length old.pending.items + length news = sym (by_length new.store.paths new.pending.items) ∙ ap length g.pending
    ∙ length-append (pending_of old) news ∙ ap (λ k. k + length news) (by_length old.store.paths old.pending.items) in
    let b : length new.store.paths ≡ length old.store.paths + length news = ap length g.paths ∙ length-append old.store.paths news in
    (omega (arith, a, b), omega (arith, b))

-- ---- the last path that is still to be worked on is taken in hand

pub taken_in_hand : (old new : Work) (p : ℕ) → IsWork old → new.store ≡ old.store → new.moves.items ≡ old.moves.items → new.waiting ≡ old.waiting
    → new.finals ≡ old.finals → new.groups ≡ old.groups → old.pending.items ≡ new.pending.items ++ (p ∷ []) → IsWorkOn new p
taken_in_hand old new p w st mo wa fi gr pe = record {
  search = subst (λ t. IsSearch t.events t.paths (paths_by t.paths new.pending.items ++ (path_at t.paths p ∷ [])) (paths_by t.paths (paths_kept new.waiting))
      (paths_by t.paths (numbers_of new.finals))) (sym st)
      (subst (λ k. IsSearch old.store.events old.store.paths (paths_by old.store.paths new.pending.items ++ (path_at old.store.paths p ∷ []))
      (paths_by old.store.paths (paths_kept k)) (paths_by old.store.paths (numbers_of new.finals))) (sym wa)
      (subst (λ k. IsSearch old.store.events old.store.paths (paths_by old.store.paths new.pending.items ++ (path_at old.store.paths p ∷ []))
      (paths_by old.store.paths (paths_kept old.waiting)) (paths_by old.store.paths (numbers_of k))) (sym fi)
      (subst (λ k. IsSearch old.store.events old.store.paths k (paths_by old.store.paths (paths_kept old.waiting)) (paths_by old.store.paths (numbers_of old.finals)))
      (ap (paths_by old.store.paths) pe ∙ map_both (path_at old.store.paths) new.pending.items (p ∷ [])) w.search)));
  pending_low = subst (λ t. AreLow t.paths new.pending.items) (sym st) (λ i n e. w.pending_low i n (ap (λ k. slice_get k i) pe ∙ get-longer new.pending.items (p ∷ []) i n e));
  waits_low = subst (λ t. AreLow t.paths (paths_kept new.waiting)) (sym st) (subst (λ k. AreLow old.store.paths (paths_kept k)) (sym wa) w.waits_low);
  finals_low = subst (λ t. AreLow t.paths (numbers_of new.finals)) (sym st) (subst (λ k. AreLow old.store.paths (numbers_of k)) (sym fi) w.finals_low);
  finals_told = subst (λ t. TellThreads t.paths new.finals) (sym st) (subst (TellThreads old.store.paths) (sym fi) w.finals_told);
  ends = subst (λ t. EndsStand t.events t.paths new.waiting) (sym st) (subst (EndsStand old.store.events old.store.paths) (sym wa) w.ends);
  told_are = ap (map label_told) mo ∙ w.told_are ∙ ap (λ t. map labels_of_move t.paths) (sym st);
  counted = subst (λ t. IsCounted t.events t.paths (paths_by t.paths (numbers_of new.finals)) new.groups) (sym st)
      (subst (λ k. IsCounted old.store.events old.store.paths (paths_by old.store.paths (numbers_of k)) new.groups) (sym fi)
      (subst (IsCounted old.store.events old.store.paths (paths_by old.store.paths (numbers_of old.finals))) (sym gr) w.counted));
}

pub last_low : (old : Work) (rest : List ℕ) (p : ℕ) → IsWork old → old.pending.items ≡ rest ++ (p ∷ []) → p < length old.store.paths
last_low old rest p w pe = w.pending_low (length rest) p (ap (λ k. slice_get k (length rest)) pe ∙ at_last rest p)
