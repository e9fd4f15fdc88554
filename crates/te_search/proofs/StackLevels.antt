-- What cutting, a new level and more work leave of the levels of a stack.
use Rattle.std.proofs.Common.{◌≡◌, ◌⊎◌, ◌<◌, ◌≤◌, inl, inr, ℕ, zero, suc, ◌+◌, List, [], ◌∷◌, ◌++◌, map, take, length}
use Rattle.std.proofs.Common.{Bool, true, false, cond, Option, Some, slice_get, refl, ap, ap₂, sym, ◌∙◌, subst, subst₂, arith, nat_eq, length-append}
use Rattle.te_terms.specs.Steps.{Member}
use Rattle.te_terms.specs.Joint.{IsGroup, member_of, as_group}
use Rattle.te_trail.specs.declared.moves.Move.{Move}
use Rattle.te_trail.specs.Paths.{Path}
use Rattle.te_trail.specs.Trails.{Mark, back_at}
use Rattle.te_trail.proofs.RecordsRead.{take_low, take_all}
use Rattle.te_terms.proofs.Lists.{get_taken, get_low, take_more, at_or_last}
use Rattle.te_pair.specs.declared.end.End.{End}
use Rattle.te_search.specs.declared.finals.Final.{Final}
use Rattle.te_search.specs.declared.stack.Level.{Level}
use Rattle.te_search.specs.declared.stack.Stack.{Stack}
use Rattle.te_search.specs.Works.{threads_of}
use Rattle.te_search.specs.Stacks.{Lists, lists_of, SearchIsWhole, Extent, extent_of, back_to, IsBefore, extent_at, IsLevel, AreLevels, EventsAreAmong, HasLevels, IsStack}

-- ---- parts of lists

pub length_taken : {A : Type 0} (xs : List A) (n : ℕ) → n ≤ length xs → length (take n xs) ≡ n
length_taken xs zero h = refl
length_taken [] (suc n) h = absurd (omega (arith, h))
length_taken (x ∷ xs) (suc n) h = ap suc (length_taken xs n (omega (arith, h)))

map_taken : {A B : Type 0} (f : A → B) (xs : List A) (n : ℕ) → map f (take n xs) ≡ take n (map f xs)
map_taken f xs zero = refl
map_taken f [] (suc n) = refl
map_taken f (x ∷ xs) (suc n) = ap (λ r. f x ∷ r) (map_taken f xs n)

-- the member of a thread among the first is that among all
pub taken_among : (g : List Member) (n : ℕ) → EventsAreAmong (take n g) g
taken_among g zero t e h = cc
taken_among [] (suc n) t e h = cc
taken_among (m ∷ ms) (suc n) t e h = go (taken_among ms n t e) (nat_eq m.thread t) h
  where
    go : (member_of t (take n ms) ≡ Some e → member_of t ms ≡ Some e) → (o : Bool) → cond o (Some m) (member_of t (take n ms)) ≡ Some e → cond o (Some m) (member_of t ms) ≡ Some e
    go ih true h = h
    go ih false h = ih h

-- ---- going back

abbrev as_lists : List Member → List Path → List (Option Move) → List End → List Final → Lists
as_lists e p m w a = record { events = e; paths = p; moves = m; waiting = w; finals = a }

abbrev as_extent : ℕ → ℕ → ℕ → ℕ → ℕ → Extent
as_extent e p m w a = record { events = e; paths = p; moves = m; waiting = w; finals = a }

lists_same : (e f : List Member) (p q : List Path) (m n : List (Option Move)) (w v : List End) (a b : List Final) → e ≡ f → p ≡ q → m ≡ n → w ≡ v → a ≡ b
    → as_lists e p m w a ≡ as_lists f q n v b
lists_same e f p q m n w v a b r s t u o = cc

back_twice : (x y : Extent) (l : Lists) → IsBefore x y → back_to x (back_to y l) ≡ back_to x l
back_twice x y l b = lists_same (take x.events (take y.events l.events)) (take x.events l.events) (take x.paths (take y.paths l.paths)) (take x.paths l.paths)
    (take x.moves (take y.moves l.moves)) (take x.moves l.moves) (take x.waiting (take y.waiting l.waiting)) (take x.waiting l.waiting) (take x.finals (take y.finals l.finals))
    (take x.finals l.finals)
    (take_low l.events x.events y.events b.events) (take_low l.paths x.paths y.paths b.paths) (take_low l.moves x.moves y.moves b.moves)
    (take_low l.waiting x.waiting y.waiting b.waiting) (take_low l.finals x.finals y.finals b.finals)

back_extent : (y : Extent) (l : Lists) → IsBefore y (extent_of l) → extent_of (back_to y l) ≡ y
back_extent y l b = extents_same (length (take y.events l.events)) y.events (length (take y.paths l.paths)) y.paths (length (take y.moves l.moves)) y.moves
    (length (take y.waiting l.waiting)) y.waiting (length (take y.finals l.finals)) y.finals
    (length_taken l.events y.events b.events) (length_taken l.paths y.paths b.paths) (length_taken l.moves y.moves b.moves) (length_taken l.waiting y.waiting b.waiting)
    (length_taken l.finals y.finals b.finals)
  where
    extents_same : (e f p q m n w v a b : ℕ) → e ≡ f → p ≡ q → m ≡ n → w ≡ v → a ≡ b → as_extent e p m w a ≡ as_extent f q n v b
    extents_same e f p q m n w v a b r s t u o = cc

-- ---- longer lists

-- each list goes on
pub record Extends (old new : Lists) : Type 0 where
  pub more_events : List Member
  pub events : new.events ≡ old.events ++ more_events
  pub more_paths : List Path
  pub paths : new.paths ≡ old.paths ++ more_paths
  pub more_moves : List (Option Move)
  pub moves : new.moves ≡ old.moves ++ more_moves
  pub more_waiting : List End
  pub waiting : new.waiting ≡ old.waiting ++ more_waiting
  pub more_finals : List Final
  pub finals : new.finals ≡ old.finals ++ more_finals

back_more : (x : Extent) (old new : Lists) → Extends old new → IsBefore x (extent_of old) → back_to x new ≡ back_to x old
back_more x old new m b = lists_same (take x.events new.events) (take x.events old.events) (take x.paths new.paths) (take x.paths old.paths) (take x.moves new.moves)
    (take x.moves old.moves) (take x.waiting new.waiting) (take x.waiting old.waiting) (take x.finals new.finals) (take x.finals old.finals)
    (ap (take x.events) m.events ∙ take_more old.events m.more_events x.events b.events) (ap (take x.paths) m.paths ∙ take_more old.paths m.more_paths x.paths b.paths)
    (ap (take x.moves) m.moves ∙ take_more old.moves m.more_moves x.moves b.moves)
    (ap (take x.waiting) m.waiting ∙ take_more old.waiting m.more_waiting x.waiting b.waiting) (ap (take x.finals) m.finals ∙ take_more old.finals m.more_finals x.finals b.finals)

longer : {A : Type 0} (new old more : List A) (n : ℕ) → new ≡ old ++ more → n ≤ length old → n ≤ length new
longer new old more n e h = let l : length new ≡ length old + length more = ap length e ∙ length-append old more in omega (arith, l, h)

before_more : (x : Extent) (old new : Lists) → Extends old new → IsBefore x (extent_of old) → IsBefore x (extent_of new)
before_more x old new m b = record {
  events = longer new.events old.events m.more_events x.events m.events b.events;
  paths = longer new.paths old.paths m.more_paths x.paths m.paths b.paths;
  moves = longer new.moves old.moves m.more_moves x.moves m.moves b.moves;
  waiting = longer new.waiting old.waiting m.more_waiting x.waiting m.waiting b.waiting;
  finals = longer new.finals old.finals m.more_finals x.finals m.finals b.finals;
}

pub levels_more : (old new : Lists) (levels : List Level) (marks : List Mark) → Extends old new → AreLevels old levels marks → AreLevels new levels marks
levels_more old new levels marks more a = record {
  as_long = a.as_long;
  each = λ i l m el em. (let k : IsLevel old i l m = a.each i l m el em in record {
    events_are = k.events_are;
    before = before_more (extent_at l m) old new more k.before;
    fewer = k.fewer;
    whole = subst (λ q. SearchIsWhole q l.groups) (sym (back_more (extent_at l m) old new more k.before)) k.whole;
  });
  rising = a.rising;
}

-- ---- back to a level

pub levels_back : (now : Lists) (levels : List Level) (marks : List Mark) (i : ℕ) (l : Level) (m : Mark) → AreLevels now levels marks → slice_get levels i ≡ Some l
    → slice_get marks i ≡ Some m → AreLevels (back_to (extent_at l m) now) (take i levels) (take i marks)
levels_back now levels marks i l m a el em = record {
  as_long = length_taken levels i (let h : i < length levels = get_low levels l i el in omega (arith, h))
      ∙ sym (length_taken marks i (let h : i < length marks = get_low marks m i em in omega (arith, h)));
  each = λ j k n ek en. (let tk : (j < i) × (slice_get levels j ≡ Some k) = get_taken levels i j k ek in let tn : (j < i) ×
      (slice_get marks j ≡ Some n) = get_taken marks i j n en in let v : IsLevel now j k n = a.each j k n tk.1 tn.1 in let b : IsBefore (extent_at k n)
      (extent_at l m) = a.rising j i k l n m (let h : j < i = tk.0 in omega (arith, h)) tk.1 el tn.1 em in record {
        events_are = v.events_are;
        before = subst (IsBefore (extent_at k n)) (sym (back_extent (extent_at l m) now (a.each i l m el em).before)) b;
        fewer = v.fewer;
        whole = subst (λ q. SearchIsWhole q k.groups) (sym (back_twice (extent_at k n) (extent_at l m) now b)) v.whole;
      });
  rising = λ j k p q r s h ep eq er es. a.rising j k p q r s h (get_taken levels i j p ep).1 (get_taken levels i k q eq).1 (get_taken marks i j r er).1 (get_taken marks i k s es).1;
}

pub cut_stack : (s t : Stack) (i : ℕ) (l : Level) (m : Mark) → HasLevels s → slice_get s.levels.items i ≡ Some l → slice_get s.work.store.marks i ≡ Some m → t.parked ≡ s.parked
    → t.threads ≡ take i s.threads → t.levels.items ≡ take i s.levels.items → t.work.store ≡ back_at s.work.store i m
    → t.work.moves.items ≡ take l.moves s.work.moves.items → t.work.waiting ≡ take l.waiting s.work.waiting → t.work.finals ≡ take l.finals s.work.finals
    → t.work.pending.items ≡ [] → t.work.groups ≡ l.groups → IsStack t
cut_stack s t i l m h el em pa th le st mo wa fi pe gr = record {
  levels = record {
    rise = subst (λ q. IsGroup (as_group q)) (sym pa) h.rise;
    threads_are = th ∙ ap (take i) h.threads_are ∙ sym (map_taken (λ k. k.thread) s.work.store.events i) ∙ ap threads_of (sym events);
    among = subst (λ q. EventsAreAmong t.work.store.events (as_group q)) (sym pa)
        (subst (λ q. EventsAreAmong q (as_group s.parked)) (sym events) (λ k e f. h.among k e (taken_among s.work.store.events i k e f)));
    levels = subst₂ (λ a b. AreLevels a b t.work.store.marks) (sym lists) (sym le)
        (subst (AreLevels (back_to (extent_at l m) (lists_of s.work)) (take i s.levels.items)) (sym marks)
        (levels_back (lists_of s.work) s.levels.items s.work.store.marks i l m h.levels el em));
  };
  as_many = ap length le ∙ length_taken s.levels.items i (let z : i < length s.levels.items = get_low s.levels.items l i el in omega (arith, z)) ∙ sym long;
  fewer = (let a : length t.work.store.paths ≡ m.paths = ap length paths
      ∙ length_taken s.work.store.paths m.paths v.before.paths in let b : i ≤ m.paths = v.fewer in let c : length t.threads ≡ i = long in omega (arith, a, b, c));
  whole = subst₂ SearchIsWhole (sym lists) (sym gr) v.whole;
  idle = pe;
}
  where
    v : IsLevel (lists_of s.work) i l m
    v = h.levels.each i l m el em

    events : t.work.store.events ≡ take i s.work.store.events
    events = ap (λ q. q.events) st ∙ ap (λ n. take n s.work.store.events) v.events_are

    paths : t.work.store.paths ≡ take m.paths s.work.store.paths
    paths = ap (λ q. q.paths) st

    marks : t.work.store.marks ≡ take i s.work.store.marks
    marks = ap (λ q. q.marks) st

    lists : lists_of t.work ≡ back_to (extent_at l m) (lists_of s.work)
    lists = lists_same t.work.store.events (take m.events s.work.store.events) t.work.store.paths (take m.paths s.work.store.paths) t.work.moves.items
        (take l.moves s.work.moves.items) t.work.waiting (take l.waiting s.work.waiting) t.work.finals (take l.finals s.work.finals)
        (ap (λ q. q.events) st) paths mo wa fi

    low : i ≤ length s.threads
    low = (let a : m.events ≤ length s.work.store.events = v.before.events in let b : m.events ≡ i = v.events_are in let c : length s.threads ≡ length
        s.work.store.events = ap length h.threads_are ∙ by_length s.work.store.events in omega (arith, a, b, c))
      where
        by_length : (g : List Member) → length (threads_of g) ≡ length g
        by_length [] = refl
        by_length (x ∷ g) = ap suc (by_length g)

    long : length t.threads ≡ i
    long = ap length th ∙ length_taken s.threads i low

-- ---- a new level

before_self : (x : Extent) → IsBefore x x
before_self x = record { events = omega arith; paths = omega arith; moves = omega arith; waiting = omega arith; finals = omega arith }

back_all : (l : Lists) → back_to (extent_of l) l ≡ l
back_all l = lists_same (take (length l.events) l.events) l.events (take (length l.paths) l.paths) l.paths (take (length l.moves) l.moves) l.moves
    (take (length l.waiting) l.waiting) l.waiting (take (length l.finals) l.finals) l.finals (take_all l.events) (take_all l.paths) (take_all l.moves) (take_all l.waiting)
    (take_all l.finals)

pub levels_begin : (now : Lists) (levels : List Level) (marks : List Mark) (l : Level) (m : Mark) → AreLevels now levels marks → SearchIsWhole now l.groups
    → extent_at l m ≡ extent_of now → m.events ≡ length levels → length levels ≤ m.paths → AreLevels now (levels ++ (l ∷ [])) (marks ++ (m ∷ []))
levels_begin now levels marks l m a w here events fewer = record {
  as_long = length-append levels (l ∷ []) ∙ ap (λ n. n + 1) a.as_long ∙ sym (length-append marks (m ∷ []));
  each = λ i k n ek en. elim (at_or_last levels l i k ek) [
    | inl p ↦ elim (at_or_last marks m i n en) [
      | inl q ↦ (let one : l ≡ k = p.1 in let two : m ≡ n = q.1 in subst₂ (IsLevel now i) one two
          (record {
            events_are = events ∙ sym p.0;
            before = subst (IsBefore (extent_at l m)) here (before_self (extent_at l m));
            fewer =
                (let z : i ≡ length levels = p.0 in omega (arith, z, fewer));
            whole = subst (λ q. SearchIsWhole q l.groups) (sym (ap (λ x. back_to x now) here ∙ back_all now)) w;
          }))
      | inr q ↦ absurd (let x : i ≡ length levels = p.0 in let y : i < length marks = q.0 in let z : length levels ≡ length marks = a.as_long in omega (arith, x, y, z))
    ]
    | inr p ↦ elim (at_or_last marks m i n en) [
      | inl q ↦ absurd (let x : i < length levels = p.0 in let y : i ≡ length marks = q.0 in let z : length levels ≡ length marks = a.as_long in omega (arith, x, y, z))
      | inr q ↦ a.each i k n p.1 q.1
    ]
  ];
  rising = λ i j k p n q h ek ep en eq. go i j k p n q h (at_or_last levels l i k ek) (at_or_last levels l j p ep) (at_or_last marks m i n en) (at_or_last marks m j q eq);
}
  where
    late : (i : ℕ) → i ≡ length levels → i < length marks → ⊥
    late i x y = (let z : length levels ≡ length marks = a.as_long in omega (arith, x, y, z))

    late2 : (i : ℕ) → i < length levels → i ≡ length marks → ⊥
    late2 i x y = (let z : length levels ≡ length marks = a.as_long in omega (arith, x, y, z))

    go : (i j : ℕ) (k p : Level) (n q : Mark) → i ≤ j → ((i ≡ length levels) × (l ≡ k)) ⊎ ((i < length levels) × (slice_get levels i ≡ Some k))
        → ((j ≡ length levels) × (l ≡ p)) ⊎ ((j < length levels) × (slice_get levels j ≡ Some p))
        → ((i ≡ length marks) × (m ≡ n)) ⊎ ((i < length marks) × (slice_get marks i ≡ Some n))
        → ((j ≡ length marks) × (m ≡ q)) ⊎ ((j < length marks) × (slice_get marks j ≡ Some q)) → IsBefore (extent_at k n) (extent_at p q)
    go i j k p n q h (inr a1) (inr a2) (inr a3) (inr a4) = a.rising i j k p n q h a1.1 a2.1 a3.1 a4.1
    go i j k p n q h (inr a1) (inl a2) (inr a3) (inl a4) = subst (IsBefore (extent_at k n)) (sym here ∙ ap₂ extent_at a2.1 a4.1) (a.each i k n a1.1 a3.1).before
    go i j k p n q h (inl a1) (inl a2) (inl a3) (inl a4) = subst₂ IsBefore (ap₂ extent_at a1.1 a3.1) (ap₂ extent_at a2.1 a4.1) (before_self (extent_at l m))
    go i j k p n q h (inl a1) (inr a2) b3 b4 = absurd (let x : i ≡ length levels = a1.0 in let y : j < length levels = a2.0 in omega (arith, h, x, y))
    go i j k p n q h (inl a1) (inl a2) (inr a3) b4 = absurd (late i a1.0 a3.0)
    go i j k p n q h (inl a1) (inl a2) (inl a3) (inr a4) = absurd (late j a2.0 a4.0)
    go i j k p n q h (inr a1) b2 (inl a3) b4 = absurd (late2 i a1.0 a3.0)
    go i j k p n q h (inr a1) (inl a2) (inr a3) (inr a4) = absurd (late j a2.0 a4.0)
    go i j k p n q h (inr a1) (inr a2) (inr a3) (inl a4) = absurd (late2 j a2.0 a4.0)
