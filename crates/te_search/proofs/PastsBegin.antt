-- Where the moves of a joined past begin: no path below those of its first event has one.
use Rattle.std.proofs.Common.{◌≡◌, ◌<◌, ◌≤◌, inl, inr, ℕ, zero, suc, ◌+◌, List, [], ◌∷◌, ◌++◌, take, length, Bool, true, false, cond}
use Rattle.std.proofs.Common.{Option, Some, None, slice_get, refl, ap, ap₂, sym, ◌∙◌, subst, arith}
use Rattle.te_terms.specs.Steps.{Member}
use Rattle.te_terms.specs.Joint.{Label, member_of}
use Rattle.te_terms.proofs.Lists.{get_some, get_low}
use Rattle.te_trail.specs.Trails.{Mark}
use Rattle.te_trail.specs.Paths.{Path, planted, branched, sent, got, thread_of, move_of}
use Rattle.te_trail.specs.Stores.{Holds, labels_of_move, labels_of, any_rests_on}
use Rattle.te_trail.specs.States.{HasState}
use Rattle.te_search.specs.declared.stack.Level.{Level}
use Rattle.te_search.specs.declared.stack.Stack.{Stack}
use Rattle.te_search.specs.Assemblies.{joint, Numbers, AreNone}
use Rattle.te_search.specs.Works.{threads_of}
use Rattle.te_search.specs.Stacks.{HasLevels, IsLevel, lists_of}
use Rattle.te_search.specs.Picks.{HasNoneBelow}
use Rattle.te_search.proofs.NumbersListed.{take_one}
use Rattle.te_search.proofs.PastsJoined.{as_long, had_none}
use Rattle.te_search.proofs.StackLevels.{length_taken}
use Rattle.te_search.proofs.Trying.{member_place, state_member, none_more}

-- ---- places

pub none_next : (joined : List (Option ℕ)) (i : ℕ) → slice_get joined i ≡ Some None → AreNone (take i joined) → AreNone (take (i + 1) joined)
none_next joined i e none = subst AreNone (sym (take_one joined i None e)) (none_more (take i joined) none)

get_early : {A : Type 0} (xs : List A) (n i : ℕ) (x : A) → i < n → slice_get xs i ≡ Some x → slice_get (take n xs) i ≡ Some x
get_early xs zero i x l e = absurd (omega (arith, l))
get_early [] (suc n) i x l e = cc
get_early (y ∷ xs) (suc n) zero x l e = e
get_early (y ∷ xs) (suc n) (suc i) x l e = get_early xs n i x (omega (arith, l)) e

thread_there : (g : List Member) (n j t : ℕ) → slice_get (threads_of (take n g)) j ≡ Some t → (j < n) × (slice_get (threads_of g) j ≡ Some t)
thread_there g zero j t e = cc
thread_there [] (suc n) j t e = cc
thread_there (m ∷ g) (suc n) zero t e = (omega arith, e)
thread_there (m ∷ g) (suc n) (suc j) t e = (let r : (j < n) × (slice_get (threads_of g) j ≡ Some t) = thread_there g n j t e in (omega (arith, r.0), r.1))

-- ---- moves

abbrev no_label : List Label
no_label = []

nothing_either : (o : Bool) → cond o no_label no_label ≡ no_label
nothing_either true = refl
nothing_either false = refl

adds_nothing : (has : Path → Bool) (x : Path) → false ≡ has (move_of x) → cond (has x) (labels_of_move x) [] ≡ []
adds_nothing has (planted t) e = nothing_either (has (planted t))
adds_nothing has (branched p l) e = ap (λ o. cond o (labels_of_move (branched p l)) []) (sym e)
adds_nothing has (sent s r) e = ap (λ o. cond o (labels_of_move (sent s r)) []) (sym e)
adds_nothing has (got s r) e = nothing_either (has (got s r))

all_nothing : (has : Path → Bool) (xs : List Path) → ((x : Path) → Holds xs x → false ≡ has (move_of x)) → labels_of has xs ≡ []
all_nothing has [] f = refl
all_nothing has (x ∷ xs) f = ap₂ (λ a b. a ++ b) (adds_nothing has x (f x (inl refl))) (all_nothing has xs (λ y h. f y (inr h)))

-- ---- levels

-- a level, with how many paths there were when it began
pub record Begun (s : Stack) (i : ℕ) (l : Level) : Type 0 where
  pub mark : Mark
  pub level : IsLevel (lists_of s.work) i l mark
  pub same : l.moves ≡ mark.paths
  pub low : l.moves ≤ length s.work.store.paths

pub begun : (s : Stack) (i : ℕ) (l : Level) → HasLevels s → slice_get s.levels.items i ≡ Some l → Begun s i l
begun s i l h e = record { mark = m.0; level = k; same = same; low = omega (arith, same, k.before.paths) }
  where
    m : (m : Mark) × (slice_get s.work.store.marks i ≡ Some m)
    m = get_some s.work.store.marks i (let a : i < length s.levels.items = get_low s.levels.items l i e in
        let b : length s.levels.items ≡ length s.work.store.marks = h.levels.as_long in omega (arith, a, b))

    k : IsLevel (lists_of s.work) i l m.0
    k = h.levels.each i l m.0 e m.1

    same : l.moves ≡ m.0.paths
    same = sym (length_taken s.work.moves.items l.moves k.before.moves)
        ∙ as_long (take l.moves s.work.moves.items) (take m.0.paths s.work.store.paths) k.whole.told_are ∙ length_taken s.work.store.paths m.0.paths k.before.paths

-- the events before the first of a joined past have no path of it
pub none_below : (s : Stack) (joined : List (Option ℕ)) (i : ℕ) (l : Level) → HasLevels s → slice_get s.levels.items i ≡ Some l → AreNone (take i joined)
    → HasNoneBelow s.work.store.events s.work.store.paths s.threads joined l.moves
none_below s joined i l h e none ps p = all_nothing (any_rests_on ps) (take l.moves s.work.store.paths)
    (λ x hx. lacks x (subst (λ n. Holds (take n s.work.store.paths) x) b.same hx))
  where
    b : Begun s i l
    b = begun s i l h e

    lacks : (x : Path) → Holds (take b.mark.paths s.work.store.paths) x → false ≡ any_rests_on ps (move_of x)
    lacks x hx =
        let st : HasState (take b.mark.events s.work.store.events) x = b.level.whole.search.store.state x hx in
        let m : (m : Member) × (member_of (thread_of x) (take b.mark.events s.work.store.events) ≡ Some m) = state_member (take b.mark.events s.work.store.events) x st in
        let j : (j : ℕ) × (slice_get (threads_of (take b.mark.events s.work.store.events)) j ≡ Some (thread_of x)) = member_place (thread_of x)
        (take b.mark.events s.work.store.events) m.0 m.1 in
        let r : (j.0 < b.mark.events) × (slice_get (threads_of s.work.store.events) j.0 ≡ Some (thread_of x)) = thread_there s.work.store.events b.mark.events j.0 (thread_of x) j.1 in
        let et : slice_get s.threads j.0 ≡ Some (thread_of x) = ap (λ k. slice_get k j.0) h.threads_are ∙ r.1 in
        let low : j.0 < i = (let q : b.mark.events ≡ i = b.level.events_are in let z : j.0 < b.mark.events = r.0 in omega (arith, z, q)) in
        let o : (o : Option ℕ) × (slice_get joined j.0 ≡ Some o) = get_some joined j.0
        (let a : j.0 < length s.threads = get_low s.threads (thread_of x) j.0 et in let w : length joined ≡ length s.threads = p.names.wide in omega (arith, a, w)) in
        let is_none : o.0 ≡ None = none j.0 o.0 (get_early joined i j.0 o.0 low o.1) in
        had_none s.work.store.events s.work.store.paths s.threads joined ps x (thread_of x) p refl
        (subst (Numbers s.work.store.paths (joint ps (thread_of x))) is_none (p.names.each j.0 (thread_of x) o.0 et o.1))
