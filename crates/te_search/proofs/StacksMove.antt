-- What each call leaves of a stack.
use Rattle.std.proofs.Common.{◌≡◌, ◌<◌, ◌≤◌, inl, inr, ℕ, suc, ◌+◌, List, [], ◌∷◌, ◌++◌, map, length}
use Rattle.std.proofs.Common.{false, Option, Some, None, Result, Ok, Err, OnErr, slice_get, refl, ap, ap₂, sym, ◌∙◌, subst, subst₂, arith, length-append, append-nil}
use Rattle.std.specs.List.{AllByRecursion}
use Rattle.te_terms.specs.declared.event.Parked.{Parked}
use Rattle.te_terms.specs.Steps.{Member}
use Rattle.te_terms.specs.Joint.{IsGroup, member_of, as_member, as_group}
use Rattle.te_trail.specs.declared.moves.Move.{Move}
use Rattle.te_trail.specs.Paths.{Path, planted, thread_of}
use Rattle.te_trail.specs.Stores.{Holds, IsStore}
use Rattle.te_trail.specs.Trails.{Mark, with_mark, unplanted}
use Rattle.te_pair.specs.declared.end.End.{End}
use Rattle.te_pair.specs.Ends.{paths_kept}
use Rattle.te_search.specs.declared.work.Work.{Work}
use Rattle.te_search.specs.declared.finals.Final.{Final}
use Rattle.te_search.specs.declared.stack.Level.{Level}
use Rattle.te_search.specs.declared.stack.Stack.{Stack}
use Rattle.te_search.specs.Groups.{Partial, IsPartial}
use Rattle.te_search.specs.Searching.{paths_by, IsSearch}
use Rattle.te_search.specs.Finals.{numbers_of}
use Rattle.te_search.specs.Works.{label_told, threads_of, IsWork, WorkKeeps}
use Rattle.te_search.specs.Findings.{HasThread, put_in, without}
use Rattle.te_search.specs.Stacks.{Lists, lists_of, SearchIsWhole, Extent, extent_of, extent_at, AreLevels}
use Rattle.te_search.specs.Stacks.{EventsAreAmong, HasLevels, IsStack, IsReady, IsBegun, IsExploring, IsOpened, count_left}
use Rattle.te_search.specs.Plantings.{has_number}
use Rattle.te_search.proofs.Working.{map_both}
use Rattle.te_search.proofs.Trying.{state_member}
use Rattle.te_search.proofs.StackLevels.{levels_more, levels_begin}
use Rattle.te_search.proofs.EventsPlanted.{last_found, planted_work, all_planted, left_fewer}
use Rattle.te_search.proofs.ListsParked.{put_group, put_among, without_group, without_found}
use Rattle.te_search.proofs.NumbersListed.{absent, present, parked_found}
use Rattle.te_search.proofs.ListLaws.{holds_left}

pub on_err : {A E : Type 0} (P : Type 0) (r : Result A E) → P → OnErr r P
on_err P (Ok a) h = tt
on_err P (Err e) h = h

pub by_length : (g : List Member) → length (threads_of g) ≡ length g
by_length [] = refl
by_length (x ∷ g) = ap suc (by_length g)

same_lists : (a b : Work) → a.store.events ≡ b.store.events → a.store.paths ≡ b.store.paths → a.moves.items ≡ b.moves.items → a.waiting ≡ b.waiting
    → a.finals ≡ b.finals → lists_of a ≡ lists_of b
same_lists a b e p m w f = go a.store.events b.store.events a.store.paths b.store.paths a.moves.items b.moves.items a.waiting b.waiting a.finals b.finals e p m w f
  where
    as_lists : List Member → List Path → List (Option Move) → List End → List Final → Lists
    as_lists e p m w f = record { events = e; paths = p; moves = m; waiting = w; finals = f }

    go : (e e2 : List Member) (p p2 : List Path) (m m2 : List (Option Move)) (w w2 : List End) (f f2 : List Final) → e ≡ e2 → p ≡ p2 → m ≡ m2 → w ≡ w2 → f ≡ f2
        → as_lists e p m w f ≡ as_lists e2 p2 m2 w2 f2
    go e e2 p p2 m m2 w w2 f f2 a b c d k = cc

-- ---- a level begins

pub begin_stack : (s t : Stack) (l : Level) → IsStack s → t.parked ≡ s.parked → t.threads ≡ s.threads → t.levels.items ≡ s.levels.items ++ (l ∷ [])
    → t.work.store ≡ with_mark s.work.store → t.work.moves.items ≡ s.work.moves.items → t.work.waiting ≡ s.work.waiting → t.work.finals ≡ s.work.finals
    → t.work.pending.items ≡ s.work.pending.items → t.work.groups ≡ s.work.groups
    → l.moves ≡ length s.work.moves.items → l.waiting ≡ length s.work.waiting → l.finals ≡ length s.work.finals → l.groups ≡ s.work.groups → IsBegun s t
begin_stack s t l k pa th le st mo wa fi pe gr lm lw lf lg = record {
  ready = record {
    levels = record {
      rise = subst (λ q. IsGroup (as_group q)) (sym pa) k.levels.rise;
      threads_are = th ∙ k.levels.threads_are ∙ ap threads_of (sym events);
      among = subst (λ q. EventsAreAmong t.work.store.events (as_group q)) (sym pa) (subst (λ q. EventsAreAmong q (as_group s.parked)) (sym events) k.levels.among);
      levels = subst₂ (λ a b. AreLevels a b t.work.store.marks) (sym lists) (sym le)
          (subst (AreLevels (lists_of s.work) (s.levels.items ++ (l ∷ []))) (sym (ap (λ q. q.marks) st))
          (levels_begin (lists_of s.work) s.levels.items s.work.store.marks l mark k.levels.levels (subst (SearchIsWhole (lists_of s.work)) (sym lg) k.whole) here long
          (let a : length s.levels.items ≡ length s.threads = k.as_many in let b : length s.threads ≤ length s.work.store.paths = k.fewer in omega (arith, a, b))));
    };
    one_more = ap length le ∙ length-append s.levels.items (l ∷ []) ∙ ap (λ n. n + 1) (k.as_many ∙ ap length (sym th));
    fewer = subst₂ (λ a b. length a ≤ length b) (sym th) (sym paths) k.fewer;
    whole = subst₂ SearchIsWhole (sym lists) (sym gr) k.whole;
    idle = pe ∙ k.idle;
  };
  threads = th;
  paths = paths;
  groups = gr;
}
  where
    mark : Mark
    mark = record { events = length s.work.store.events; paths = length s.work.store.paths }

    events : t.work.store.events ≡ s.work.store.events
    events = ap (λ q. q.events) st

    paths : t.work.store.paths ≡ s.work.store.paths
    paths = ap (λ q. q.paths) st

    lists : lists_of t.work ≡ lists_of s.work
    lists = same_lists t.work s.work events paths mo wa fi

    long : length s.work.store.events ≡ length s.levels.items
    long = sym (by_length s.work.store.events) ∙ ap length (sym k.levels.threads_are) ∙ sym k.as_many

    here : extent_at l mark ≡ extent_of (lists_of s.work)
    here = extents l.moves (length s.work.moves.items) l.waiting (length s.work.waiting) l.finals (length s.work.finals) lm lw lf
      where
        as_extent : ℕ → ℕ → ℕ → Extent
        as_extent m w f = record { events = length s.work.store.events; paths = length s.work.store.paths; moves = m; waiting = w; finals = f }

        extents : (m n w v f h : ℕ) → m ≡ n → w ≡ v → f ≡ h → as_extent m w f ≡ as_extent n v h
        extents m n w v f h a b c = cc

-- ---- an event is put, and planted

-- the one stack goes on from the other, with one more event
pub record PutsOne (s t : Stack) (p : Parked) : Type 0 where
  pub parked : t.parked ≡ s.parked
  pub levels : t.levels.items ≡ s.levels.items
  pub place : ℕ
  pub is : slice_get s.parked place ≡ Some p
  pub new : has_number s.threads p.thread ≡ false
  pub threads : t.threads ≡ s.threads ++ (p.thread ∷ [])
  pub events : t.work.store.events ≡ s.work.store.events ++ (as_member p ∷ [])
  pub marks : t.work.store.marks ≡ s.work.store.marks
  pub more_paths : List Path
  pub paths : t.work.store.paths ≡ s.work.store.paths ++ more_paths
  pub more_moves : List (Option Move)
  pub moves : t.work.moves.items ≡ s.work.moves.items ++ more_moves
  pub waiting : t.work.waiting ≡ s.work.waiting
  pub finals : t.work.finals ≡ s.work.finals

pub put_levels : (s t : Stack) (p : Parked) → HasLevels s → PutsOne s t p → HasLevels t
put_levels s t p h k = record {
  rise = subst (λ q. IsGroup (as_group q)) (sym k.parked) h.rise;
  threads_are = k.threads ∙ ap (λ l. l ++ (p.thread ∷ [])) h.threads_are ∙ sym (map_both (λ m. m.thread) s.work.store.events (as_member p ∷ [])) ∙ ap threads_of (sym k.events);
  among = subst (λ q. EventsAreAmong t.work.store.events (as_group q)) (sym k.parked)
      (subst (λ q. EventsAreAmong q (as_group s.parked)) (sym k.events) (λ t e f. elim (last_found s.work.store.events (as_member p) t e f) [
        | inl a ↦ h.among t e a
        | inr b ↦ subst₂ (λ u v. member_of u (as_group s.parked) ≡ Some v) b.0 b.1 (parked_found s.parked k.place p h.rise k.is)
      ]));
  levels = subst₂ (λ a b. AreLevels (lists_of t.work) a b) (sym k.levels) (sym k.marks) (levels_more (lists_of s.work) (lists_of t.work) s.levels.items s.work.store.marks (record {
    more_events = as_member p ∷ [];
    events = k.events;
    more_paths = k.more_paths;
    paths = k.paths;
    more_moves = k.more_moves;
    moves = k.moves;
    more_waiting = [];
    waiting = k.waiting ∙ sym (append-nil s.work.waiting);
    more_finals = [];
    finals = k.finals ∙ sym (append-nil s.work.finals);
  }) h.levels);
}

pub opened_stack : (s t : Stack) (p : Parked) → IsReady s → (k : PutsOne s t p) → k.more_paths ≡ planted p.thread ∷ [] → k.more_moves ≡ None ∷ []
    → IsStore t.work.store.events t.work.store.paths → t.work.pending.items ≡ length s.work.store.paths ∷ [] → t.work.groups ≡ s.work.groups → IsOpened s t
opened_stack s t p r k one_path one_move store pe gr = record {
  exploring = record {
    levels = put_levels s t p r.levels k;
    as_many = ap length k.levels ∙ r.one_more ∙ sym longer;
    some_level = (let a : length t.levels.items ≡ length s.threads + 1 = ap length k.levels ∙ r.one_more in omega (arith, a));
    fewer = (let a : length s.threads ≤ length s.work.store.paths = r.fewer in let b : length t.threads ≡ length s.threads + 1 = longer in let c : length
        t.work.store.paths ≡ length s.work.store.paths + 1 = paths_long in omega (arith, a, b, c));
    work = planted_work s.work t.work (as_member p) r.whole k.events none paths store moves pe k.waiting k.finals gr;
    planted_all = all_planted s.work.store.events t.work.store.events s.work.store.paths t.work.store.paths (as_member p) r.whole.planted_all k.events paths;
  };
  paths = paths_long;
  groups = gr;
  left = subst₂ (λ a b. count_left a b < count_left s.threads s.parked) (sym k.threads) (sym k.parked) (left_fewer s.threads s.parked k.place p k.is k.new);
}
  where
    none : member_of p.thread s.work.store.events ≡ None
    none = absent s.work.store.events p.thread (subst (λ l. has_number l p.thread ≡ false) r.levels.threads_are k.new)

    paths : t.work.store.paths ≡ s.work.store.paths ++ (planted p.thread ∷ [])
    paths = k.paths ∙ ap (λ l. s.work.store.paths ++ l) one_path

    paths_long : length t.work.store.paths ≡ length s.work.store.paths + 1
    paths_long = ap length paths ∙ length-append s.work.store.paths (planted p.thread ∷ [])

    longer : length t.threads ≡ length s.threads + 1
    longer = ap length k.threads ∙ length-append s.threads (p.thread ∷ [])

    moves : map label_told t.work.moves.items ≡ map label_told s.work.moves.items ++ ([] ∷ [])
    moves = ap (map label_told) (k.moves ∙ ap (λ l. s.work.moves.items ++ l) one_move) ∙ map_both label_told s.work.moves.items (None ∷ [])

-- the event isn't put yet
pub not_put : (s : Stack) (t : ℕ) → HasLevels s → has_number s.threads t ≡ false → member_of t s.work.store.events ≡ None
not_put s t h new = absent s.work.store.events t (subst (λ l. has_number l t ≡ false) h.threads_are new)

-- ---- all work is done

pub keeps_levels : (s t : Stack) → HasLevels s → t.parked ≡ s.parked → t.threads ≡ s.threads → t.levels.items ≡ s.levels.items → WorkKeeps s.work t.work → HasLevels t
keeps_levels s t h pa th le k = record {
  rise = subst (λ q. IsGroup (as_group q)) (sym pa) h.rise;
  threads_are = th ∙ h.threads_are ∙ ap threads_of (sym k.events);
  among = subst (λ q. EventsAreAmong t.work.store.events (as_group q)) (sym pa) (subst (λ q. EventsAreAmong q (as_group s.parked)) (sym k.events) h.among);
  levels = subst₂ (λ a b. AreLevels (lists_of t.work) a b) (sym le) (sym k.marks) (levels_more (lists_of s.work) (lists_of t.work) s.levels.items s.work.store.marks (record {
    more_events = [];
    events = k.events ∙ sym (append-nil s.work.store.events);
    more_paths = k.more_paths;
    paths = k.paths;
    more_moves = k.more_moves;
    moves = k.moves;
    more_waiting = k.more_waiting;
    waiting = k.waiting;
    more_finals = k.more_finals;
    finals = k.finals;
  }) h.levels);
}

pub settled_stack : (s t : Stack) → IsExploring s → t.parked ≡ s.parked → t.threads ≡ s.threads → t.levels.items ≡ s.levels.items → WorkKeeps s.work t.work → IsWork t.work
    → t.work.pending.items ≡ [] → IsStack t
settled_stack s t x pa th le k w idle = record {
  levels = keeps_levels s t x.levels pa th le k;
  as_many = ap length le ∙ x.as_many ∙ ap length (sym th);
  fewer = (let a : length s.threads ≤ length s.work.store.paths = x.fewer in let b : length t.threads ≡ length s.threads = ap length th in let c : length
      t.work.store.paths ≡ length s.work.store.paths + length k.more_paths = ap length k.paths ∙ length-append s.work.store.paths k.more_paths in omega (arith, a, b, c));
  whole = record {
    search = subst (λ l. IsSearch t.work.store.events t.work.store.paths (paths_by t.work.store.paths l) (paths_by t.work.store.paths (paths_kept t.work.waiting))
        (paths_by t.work.store.paths (numbers_of t.work.finals))) idle w.search;
    waits_low = w.waits_low;
    finals_low = w.finals_low;
    finals_told = w.finals_told;
    ends = w.ends;
    told_are = w.told_are;
    counted = w.counted;
    planted_all = λ t2 e h. subst (λ l. Holds l (planted t2)) (sym k.paths) (holds_left s.work.store.paths k.more_paths (planted t2) (x.planted_all t2 e (ap (member_of t2) (sym k.events) ∙ h)));
  };
  idle = idle;
}

-- ---- the list changes

pub post_stack : (s t : Stack) (p : Parked) → IsStack s → (¬ HasThread s.parked p.thread) → t.parked ≡ put_in p s.parked → t.threads ≡ s.threads
    → t.levels ≡ s.levels → t.work ≡ s.work → IsStack t
post_stack s t p k none pa th le wo = record {
  levels = record {
    rise = subst (λ q. IsGroup (as_group q)) (sym pa) (put_group p s.parked k.levels.rise none);
    threads_are = subst₂ (λ a b. a ≡ threads_of b.store.events) (sym th) (sym wo) k.levels.threads_are;
    among = λ u e h. subst (λ q. member_of u (as_group q) ≡ Some e) (sym pa) (put_among p s.parked none u e (k.levels.among u e (ap (λ b. member_of u b.store.events) (sym wo) ∙ h)));
    levels = subst₂ (λ a b. AreLevels (lists_of b) a.items b.store.marks) (sym le) (sym wo) k.levels.levels;
  };
  as_many = ap₂ (λ a b. length a.items) le th ∙ k.as_many ∙ ap (λ a. length a) (sym th);
  fewer = subst₂ (λ a b. length a ≤ length b.store.paths) (sym th) (sym wo) k.fewer;
  whole = subst (λ b. SearchIsWhole (lists_of b) b.groups) (sym wo) k.whole;
  idle = subst (λ b. b.pending.items ≡ []) (sym wo) k.idle;
}

pub remove_stack : (s t : Stack) (u : ℕ) → IsStack s → has_number s.threads u ≡ false → t.parked ≡ without u s.parked → t.threads ≡ s.threads
    → t.levels ≡ s.levels → t.work ≡ s.work → IsStack t
remove_stack s t u k gone pa th le wo = record {
  levels = record {
    rise = subst (λ q. IsGroup (as_group q)) (sym pa) (without_group u s.parked k.levels.rise);
    threads_are = subst₂ (λ a b. a ≡ threads_of b.store.events) (sym th) (sym wo) k.levels.threads_are;
    among = λ v e h. (let f : member_of v s.work.store.events ≡ Some e = ap (λ b. member_of v b.store.events) (sym wo) ∙ h in subst (λ q. member_of v (as_group q) ≡ Some e)
        (sym pa) (without_found u s.parked v e (λ same. present s.work.store.events v e
        (subst (λ w. has_number (threads_of s.work.store.events) w ≡ false) same (subst (λ l. has_number l u ≡ false) k.levels.threads_are gone)) f) (k.levels.among v e f)));
    levels = subst₂ (λ a b. AreLevels (lists_of b) a.items b.store.marks) (sym le) (sym wo) k.levels.levels;
  };
  as_many = ap₂ (λ a b. length a.items) le th ∙ k.as_many ∙ ap (λ a. length a) (sym th);
  fewer = subst₂ (λ a b. length a ≤ length b.store.paths) (sym th) (sym wo) k.fewer;
  whole = subst (λ b. SearchIsWhole (lists_of b) b.groups) (sym wo) k.whole;
  idle = subst (λ b. b.pending.items ≡ []) (sym wo) k.idle;
}

-- ---- no event is planted

none_held : (x : Path) → ¬ Holds [] x
none_held x h = h

empty_search : IsSearch [] [] [] [] []
empty_search = record {
  store = record { made = tt; sound = λ x h. absurd h; state = λ x h. absurd h; once = λ i j x e f. cc; pairs = λ i s r e. cc };
  ups = λ k x y e f. cc;
  choices = λ p l m u h n s c. absurd h;
  waiting = λ p h n m. absurd h;
  meetings = λ p q a b e h k ag sa sb m. absurd h;
  final = λ p h n f. absurd h;
  failed = λ front start rest e. absurd (nothing front start rest e);
  branched_from = λ p l h. absurd h;
  met_from = λ p q h. absurd h;
  pending_made = λ p h. absurd h;
  waits_made = λ p h. absurd h;
  finals_made = λ p h. absurd h;
  finals_final = λ p h. absurd h;
  pending_apart = λ p h. absurd h;
  pending_once = tt;
  waits_once = tt;
  finals_once = tt;
}
  where
    nothing : (front : List Path) (start : Path) (rest : List Path) → [] ≡ front ++ (start ∷ rest) → ⊥
    nothing [] start rest e = cc
    nothing (x ∷ front) start rest e = cc

empty_whole : SearchIsWhole (record { events = []; paths = []; moves = []; waiting = []; finals = [] }) 0
empty_whole = record {
  search = empty_search;
  waits_low = λ i n e. cc;
  finals_low = λ i n e. cc;
  finals_told = λ i f x ef ex. cc;
  ends = λ i e x ee ex. cc;
  told_are = refl;
  counted = record { tried = []; count_is = refl; are = record { partial = tt; once = tt }; starts = tt };
  planted_all = λ t e h. cc;
}

pub empty_stack : (t : Stack) → IsGroup (as_group t.parked) → t.threads ≡ [] → t.levels.items ≡ [] → t.work.store ≡ unplanted [] → t.work.moves.items ≡ []
    → t.work.pending.items ≡ [] → t.work.waiting ≡ [] → t.work.finals ≡ [] → t.work.groups ≡ 0 → IsStack t
empty_stack t rise th le st mo pe wa fi gr = record {
  levels = record {
    rise = rise;
    threads_are = th ∙ ap threads_of (sym events);
    among = subst (λ q. EventsAreAmong q (as_group t.parked)) (sym events) (λ u e h. cc);
    levels = subst₂ (AreLevels (lists_of t.work)) (sym le) (sym (ap (λ q. q.marks) st)) (record { as_long = refl; each = λ i l m e f. cc; rising = λ i j l k m n h e f g o. cc });
  };
  as_many = ap length le ∙ ap length (sym th);
  fewer = (let a : length t.threads ≡ 0 = ap length th in omega (arith, a));
  whole = subst₂ SearchIsWhole (sym lists) (sym gr) empty_whole;
  idle = pe;
}
  where
    events : t.work.store.events ≡ []
    events = ap (λ q. q.events) st

    lists : lists_of t.work ≡ record { events = []; paths = []; moves = []; waiting = []; finals = [] }
    lists = go t.work.store.events t.work.store.paths t.work.moves.items t.work.waiting t.work.finals events (ap (λ q. q.paths) st) mo wa fi
      where
        as_lists : List Member → List Path → List (Option Move) → List End → List Final → Lists
        as_lists e p m w f = record { events = e; paths = p; moves = m; waiting = w; finals = f }

        go : (e : List Member) (p : List Path) (m : List (Option Move)) (w : List End) (f : List Final) → e ≡ []
            → p ≡ [] → m ≡ [] → w ≡ [] → f ≡ [] → as_lists e p m w f ≡ as_lists [] [] [] [] []
        go e p m w f a b c d k = cc

-- where none is planted nothing is used
pub nothing_used : (s : Stack) → IsStack s → length s.levels.items ≡ 0 → length s.work.store.paths + s.work.groups ≡ 0
nothing_used s k none = ap₂ (λ a b. a + b) no_paths (sym k.whole.counted.count_is ∙ no_groups k.whole.counted.tried k.whole.counted.are.partial)
  where
    no_events : s.work.store.events ≡ []
    no_events = empty s.work.store.events (sym (by_length s.work.store.events) ∙ ap length (sym k.levels.threads_are) ∙ sym k.as_many ∙ none)
      where
        empty : (g : List Member) → length g ≡ 0 → g ≡ []
        empty [] e = refl
        empty (x ∷ g) e = cc

    no_path : (x : Path) → Holds s.work.store.paths x → ⊥
    no_path x h = (let m : (m : Member) × (member_of (thread_of x) s.work.store.events ≡ Some m) = state_member s.work.store.events x
        (k.whole.search.store.state x h) in let e : member_of (thread_of x) [] ≡ Some m.0 = ap (member_of (thread_of x)) (sym no_events) ∙ m.1 in clash m.0 e)
      where
        clash : (m : Member) → None ≡ Some m → ⊥
        clash m e = cc

    no_paths : length s.work.store.paths ≡ 0
    no_paths = empty s.work.store.paths no_path
      where
        empty : (xs : List Path) → ((x : Path) → Holds xs x → ⊥) → length xs ≡ 0
        empty [] h = refl
        empty (x ∷ xs) h = absurd (h x (inl refl))

    no_groups : (tried : List Partial) → AllByRecursion (IsPartial s.work.store.events s.work.store.paths) tried → length tried ≡ 0
    no_groups [] a = refl
    no_groups (q ∷ qs) a = absurd (no_path q.start (a.0.made q.start a.0.starts))

-- ---- events at places

pub same_parked : (parked : List Parked) (i : ℕ) (p q : Parked) → slice_get parked i ≡ Some p → slice_get parked i ≡ Some q → p ≡ q
same_parked parked i p q e f = cc

pub at_last : (g : List Member) (m : Member) → slice_get (g ++ (m ∷ [])) (length g) ≡ Some m
at_last [] m = refl
at_last (x ∷ g) m = at_last g m

pub last_event : (g h : List Member) (m : Member) (i : ℕ) (n : Member) → h ≡ g ++ (m ∷ []) → i ≡ length g → slice_get h i ≡ Some n → m ≡ n
last_event g h m i n e f k = (let a : slice_get (g ++ (m ∷ [])) (length g) ≡ Some n = ap₂ slice_get (sym e) (sym f) ∙ k in let b : Some m ≡ Some n = sym (at_last g m) ∙ a in cc)
