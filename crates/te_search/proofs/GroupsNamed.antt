-- Paths of a store and partial groups of it have names, none twice.
use Rattle.std.proofs.Common.{◌≡◌, ◌≢◌, ◌⊎◌, ◌≤◌, ◌<◌, inl, inr, ℕ, zero, suc, ◌+◌, List, [], ◌∷◌, ◌++◌, map, length}
use Rattle.std.proofs.Common.{Bool, true, false, Option, Some, None, refl, ap, sym, ◌∙◌, subst, arith, length-append}
use Rattle.std.specs.List.{AllByRecursion}
use Rattle.std.proofs.lemmas.List.{length-map}
use Rattle.te_terms.specs.declared.event.Parked.{Parked}
use Rattle.te_terms.specs.Steps.{Member}
use Rattle.te_terms.specs.Joint.{Label, as_group, member_of}
use Rattle.te_trail.specs.Paths.{Path, planted, branched, sent, got, thread_of, parent_of, depth_of, own_labels, move_of, RestsOn, IsAbove}
use Rattle.te_trail.specs.Clocks.{IsSound}
use Rattle.te_trail.specs.States.{HasState}
use Rattle.te_trail.specs.Stores.{Holds, with_moves, IsStore, any_rests_on, trail_of, joint_trail}
use Rattle.te_trail.specs.Views.{view_of, Begins, HasPast, Name, path_name_of, IsPathName, IsGroupName}
use Rattle.te_trail.specs.Together.{ChainOfAll}
use Rattle.te_trail.proofs.Lines.{rests_move, rests_trans, above_rests, rests_made}
use Rattle.te_trail.proofs.MembersMove.{found_thread}
use Rattle.te_trail.proofs.MovesChain.{store_shut}
use Rattle.te_trail.proofs.PastsChain.{pasts_true, true_pasts, fits_past, sound_past, grown_has, PastsAre, one_chain}
use Rattle.te_trail.proofs.OwnMoves.{own_depth, HasEvenMeetings}
use Rattle.te_trail.proofs.AgreeIsExact.{known_in, near}
use Rattle.te_trail.proofs.NamesApart.{pasts_together, known_by_own, has_name, apart_by_name}
use Rattle.te_search.specs.Groups.{Partial, IsPartial, AreOne, NoneIsAnother, AreTried}
use Rattle.te_search.specs.Bounds.{NoNameTwice}
use Rattle.te_search.specs.Searching.{NoPathTwice}
use Rattle.te_search.specs.Findings.{CountsNames}
use Rattle.te_search.proofs.ListLaws.{once_by_places}
use Rattle.te_search.proofs.PartialLaws.{partial_team}
use Rattle.te_search.proofs.Trying.{state_member}
use Rattle.te_search.proofs.NamesCounted.{all_at}
use Rattle.te_search.proofs.NamesAreFew.{all_two}

abbrev path_name : List Member → List Path → Path → Name
path_name g paths p = path_name_of g (thread_of p) (trail_of paths p)

-- the start's thread, and what each member has done in the joined past
abbrev group_name : List Member → List Path → Partial → Name
group_name g paths q = path_name_of g (thread_of q.start) (joint_trail paths q.members)

-- what is known of a path whose move the joined past has
record Known (paths : List Path) (q : Partial) (x : Path) : Type 0 where
  sound : IsSound x
  even : HasEvenMeetings x
  past : HasPast x (joint_trail paths q.members)

-- ---- a partial group's chain

module _ (g : List Member) (paths : List Path) (store : IsStore g paths) where
  together : (q : Partial) → IsPartial g paths q → ChainOfAll g (joint_trail paths q.members) q.members
  together q part = pasts_together g paths q.members store part.made part.agree

  pasts_are : (q : Partial) → IsPartial g paths q → PastsAre g paths q.members
  pasts_are q part = one_chain g paths q.members store.made (partial_team g paths q store part) (λ x h. grown_has paths [] x store.made (part.made x h))

  group_named : (q : Partial) → IsPartial g paths q → IsGroupName g (group_name g paths q)
  group_named q part = record {
    word = joint_trail paths q.members;
    chain = (together q part).chain;
    member = (part.finals q.start part.starts).member;
    is_member = ((together q part).leaves q.start part.starts).member ∙ (part.finals q.start part.starts).state;
    outcome = (part.finals q.start part.starts).outcome;
    is_final = (part.finals q.start part.starts).ends;
    views = refl;
  }

  -- ---- equal names are of equal views

  -- a thread without an event has done nothing
  still : (q : Partial) → IsPartial g paths q → (t : ℕ) → member_of t g ≡ None → view_of t (joint_trail paths q.members) ≡ []
  still q part t none = elim ((pasts_are q part).shape t) [ inl e ↦ e | inr z ↦ absurd (moved z) ]
    where
      clash : (o : Option Member) (m : Member) → o ≡ None → o ≡ Some m → ⊥
      clash o m e f = cc

      moved : (z : Path) × (thread_of z ≡ t) × (any_rests_on q.members (move_of z) ≡ true) × (view_of t (joint_trail paths q.members) ≡ own_labels z) → ⊥
      moved (z, tz, hz, v) =
          let p : (p : Path) × Holds q.members p × RestsOn (move_of z) p = pasts_true q.members (move_of z) hz in
          let m : (m : Member) × (member_of (thread_of z) g ≡ Some m) = state_member g z (fits_past g p.0 z (store.state p.0 (part.made p.0 p.1)) p.2) in
          clash (member_of t g) m.0 none (subst (λ k. member_of k g ≡ Some m.0) tz m.1)

  views_all : (v w : List Label) (h : List Member) → map (λ m. view_of m.thread v) h ≡ map (λ m. view_of m.thread w) h → AllByRecursion (λ m. view_of m.thread v ≡ view_of m.thread w) h
  views_all v w [] e = tt
  views_all v w (m ∷ h) e = (cc, views_all v w h cc)

  views_alike : (q r : Partial) → IsPartial g paths q → IsPartial g paths r → group_name g paths q ≡ group_name g paths r → (t : ℕ)
      → view_of t (joint_trail paths q.members) ≡ view_of t (joint_trail paths r.members)
  views_alike q r a b e t = go (member_of t g) refl
    where
      all : AllByRecursion (λ m. view_of m.thread (joint_trail paths q.members) ≡ view_of m.thread (joint_trail paths r.members)) g
      all = views_all (joint_trail paths q.members) (joint_trail paths r.members) g (ap (λ n. n.views) e)

      go : (o : Option Member) → member_of t g ≡ o → view_of t (joint_trail paths q.members) ≡ view_of t (joint_trail paths r.members)
      go None f = still q a t f ∙ sym (still r b t f)
      go (Some m) f = subst (λ k. view_of k (joint_trail paths q.members) ≡ view_of k (joint_trail paths r.members)) (found_thread t g m f)
          (all_at (λ m. view_of m.thread (joint_trail paths q.members) ≡ view_of m.thread (joint_trail paths r.members)) g all t m f)

  -- ---- and views tell the joined past

  known : (q : Partial) → IsPartial g paths q → (x : Path) → any_rests_on q.members (move_of x) ≡ true → Known paths q x
  known q part x hx = record {
    sound = sound;
    even = known_in g paths store.made x sound (fits_past g p.0 x (store.state p.0 hp) p.2)
        (store_shut paths store.made (move_of p.0) (move_of x) (grown_has paths [] p.0 store.made hp) (rests_made (move_of x) p.0 p.2));
    past = λ z h. (together q part).pasts p.0 p.1 z (rests_trans (move_of z) (move_of x) p.0 (rests_made (move_of z) x h) p.2);
  }
    where
      p : (p : Path) × Holds q.members p × RestsOn (move_of x) p
      p = pasts_true q.members (move_of x) hx

      hp : Holds paths p.0
      hp = part.made p.0 p.1

      by_move : (x : Path) → IsSound (move_of x) → IsSound x
      by_move (planted t) h = h
      by_move (branched y l) h = h
      by_move (sent s r) h = h
      by_move (got s r) h = h

      sound : IsSound x
      sound = by_move x (sound_past p.0 (move_of x) (store.sound p.0 hp) p.2)

  deep : (x y : Path) → parent_of x ≡ Some y → 0 < depth_of x
  deep (planted t) y e = cc
  deep (branched p l) y e = omega arith
  deep (sent s r) y e = omega arith
  deep (got s r) y e = omega arith

  longer : (x : Path) (views : List Label) → Begins (own_labels x) views → depth_of x ≤ length views
  longer x views (more, e) = omega (arith, ap length e, length-append (own_labels x) more, own_depth x)

  past_in : (q r : Partial) → IsPartial g paths q → IsPartial g paths r → group_name g paths q ≡ group_name g paths r → (x y : Path) → parent_of x ≡ Some y
      → any_rests_on q.members (move_of x) ≡ true → any_rests_on r.members (move_of x) ≡ true
  past_in q r a b e x y up hx = elim ((pasts_are r b).shape (thread_of x)) [ inl none ↦ absurd (omega (arith, long, ap length none, deep x y up)) | inr z ↦ below z ]
    where
      own : Known paths q x
      own = known q a x hx

      past : HasPast x (joint_trail paths r.members)
      past z h = subst (Begins (own_labels z)) (views_alike q r a b e (thread_of z)) (own.past z h)

      long : depth_of x ≤ length (view_of (thread_of x) (joint_trail paths r.members))
      long = longer x (view_of (thread_of x) (joint_trail paths r.members)) (past x (rests_move x))

      below : (z : Path) × (thread_of z ≡ thread_of x) × (any_rests_on r.members (move_of z) ≡ true) × (view_of (thread_of x) (joint_trail paths r.members) ≡ own_labels z)
          → any_rests_on r.members (move_of x) ≡ true
      below (z, tz, hz, v) =
          let k : Known paths r z = known r b z hz in
          let low : depth_of x ≤ depth_of z = omega (arith, long, ap length v, own_depth z) in
          let above : IsAbove x z = near (joint_trail paths r.members) x z own.sound k.sound own.even k.even past k.past (sym tz) low in
          let p : (p : Path) × Holds r.members p × RestsOn (move_of z) p = pasts_true r.members (move_of z) hz in
          true_pasts r.members p.0 (move_of x) p.1 (rests_trans (move_of x) (move_of z) p.0 (rests_made (move_of x) z (above_rests x z (move_of x) above (rests_move x))) p.2)

  alike : (a b : Bool) → (a ≡ true → b ≡ true) → (b ≡ true → a ≡ true) → a ≡ b
  alike true b f h = sym (f refl)
  alike false true f h = h refl
  alike false false f h = refl

  -- equal names are of one partial group
  one_by_name : (q r : Partial) → IsPartial g paths q → IsPartial g paths r → group_name g paths q ≡ group_name g paths r → AreOne q r
  one_by_name q r a b e = record {
    start = known_by_own g paths q.start r.start (joint_trail paths r.members) store (a.made q.start a.starts) (b.made r.start b.starts)
        (λ z h. subst (Begins (own_labels z)) (views_alike q r a b e (thread_of z)) ((together q a).pasts q.start a.starts z h)) ((together r b).pasts r.start b.starts) thread
        (sym ((together q a).leaves q.start a.starts).moves ∙ views_alike q r a b e (thread_of q.start) ∙ ap (λ t. view_of t (joint_trail paths r.members)) thread
        ∙ ((together r b).leaves r.start b.starts).moves);
    past = λ x y up. alike (any_rests_on q.members (move_of x)) (any_rests_on r.members (move_of x)) (past_in q r a b e x y up) (past_in r q b a (sym e) x y up);
  }
    where
      thread : thread_of q.start ≡ thread_of r.start
      thread = ap (λ n. n.thread) e

  -- ---- lists of names

  paths_named : (xs : List Path) → ((x : Path) → Holds xs x → Holds paths x) → AllByRecursion (IsPathName g) (map (path_name g paths) xs)
  paths_named [] made = tt
  paths_named (x ∷ xs) made =
      let m : (m : Member) × (member_of (thread_of x) g ≡ Some m) = state_member g x (store.state x (made x (inl refl))) in
      (has_name g paths x m.0 store (made x (inl refl)) m.1, paths_named xs (λ y h. made y (inr h)))

  other_path : (x : Path) → Holds paths x → (ys : List Path) → ((y : Path) → Holds ys y → Holds paths y) → (¬ Holds ys x) → AllByRecursion (λ n. path_name g paths x ≢ n) (map (path_name g paths) ys)
  other_path x hx [] made none = tt
  other_path x hx (y ∷ ys) made none =
      ((λ e. none (inl (apart_by_name g paths x y store hx (made y (inl refl)) e))), other_path x hx ys (λ z h. made z (inr h)) (λ h. none (inr h)))

  paths_distinct : (xs : List Path) → ((x : Path) → Holds xs x → Holds paths x) → NoPathTwice xs → NoNameTwice (map (path_name g paths) xs)
  paths_distinct [] made once = tt
  paths_distinct (x ∷ xs) made once = (other_path x (made x (inl refl)) xs (λ y h. made y (inr h)) once.0, paths_distinct xs (λ y h. made y (inr h)) once.1)

  all_mapped : (P : Name → Type 0) (f : Partial → Name) (qs : List Partial) → AllByRecursion (λ q. P (f q)) qs → AllByRecursion P (map f qs)
  all_mapped P f [] a = tt
  all_mapped P f (q ∷ qs) a = (a.0, all_mapped P f qs a.1)

  groups_named : (tried : List Partial) → AllByRecursion (IsPartial g paths) tried → AllByRecursion (IsGroupName g) (map (group_name g paths) tried)
  groups_named [] a = tt
  groups_named (q ∷ qs) a = (group_named q a.0, groups_named qs a.1)

  groups_distinct : (tried : List Partial) → AllByRecursion (IsPartial g paths) tried → NoneIsAnother tried → NoNameTwice (map (group_name g paths) tried)
  groups_distinct [] a once = tt
  groups_distinct (q ∷ qs) a once = (
    all_mapped (λ n. group_name g paths q ≢ n) (group_name g paths) qs
        (all_two (IsPartial g paths) (λ r. ¬ AreOne q r) (λ r. group_name g paths q ≢ group_name g paths r) qs (λ r part apart e. apart (one_by_name q r a.0 part e)) a.1 once.0),
    groups_distinct qs a.1 once.1,
  )

pub have_names : (parked : List Parked) (made : List Path) (tried : List Partial) → IsStore (as_group parked) made → AreTried (as_group parked) made tried
    → CountsNames parked (length made) (length tried)
have_names parked made tried store are = record {
  path_names = map (path_name (as_group parked) made) made;
  are_of_paths = paths_named (as_group parked) made store made (λ x h. h);
  paths_distinct = paths_distinct (as_group parked) made store made (λ x h. h) (once_by_places made store.once);
  paths_are = length-map made (path_name (as_group parked) made);
  group_names = map (group_name (as_group parked) made) tried;
  are_of_groups = groups_named (as_group parked) made store tried are.partial;
  groups_distinct = groups_distinct (as_group parked) made store tried are.partial are.once;
  groups_are = length-map tried (group_name (as_group parked) made);
}
