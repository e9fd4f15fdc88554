-- The steps that are left from a spot on.
use Rattle.std.proofs.Common.{◌≡◌, ℕ, zero, suc, ◌+◌, ◌-◌, ◌≤◌, ◌<◌, Option, Some, None, List, [], ◌∷◌, ◌++◌, length, take, drop, refl, sym, ap, subst, ◌∙◌, arith, append_assoc}
use Rattle.std.proofs.Math.Seq.{drop-nil}
use Rattle.te_terms.specs.Terms.{Term}
use Rattle.te_script.specs.declared.wish.Spot.{Spot}
use Rattle.te_script.specs.declared.wish.Round.{Round}
use Rattle.te_script.specs.Scripts.{Statement, sync, emit, repeat, AreSyncs, IsRepeat}
use Rattle.te_script.specs.Wishes.{Step, syncing, emitting, site_at, steps_of, pass_over, passes_over, flat_from}
use Rattle.te_script.specs.Cores.{next_of, IsWaiting, IsPastEmitting, steps_behind, left_in, steps_left_at, IsInRepeat}
use Rattle.te_script.specs.Cores.{FitsRound, IsAtSync, IsSyncSpot, HasBodies, steps_behind_first, SpotGoesOn}
use Rattle.te_script.specs.Cores.{IsPastEmits, pass_of}

-- what is behind a statement
pub tail_of : (ss : List Statement) (i : ℕ) (s : Statement) (rest : List Statement) → drop i ss ≡ s ∷ rest → drop (suc i) ss ≡ rest
tail_of [] i s rest e = absurd (let nil : [] ≡ s ∷ rest = sym (drop-nil i) ∙ e in cc)
tail_of (s' ∷ ss) zero s rest e = cc
tail_of (s' ∷ ss) (suc i) s rest e = tail_of ss i s rest e

-- a body that was done is passed over
pub flat_skips : (number k : ℕ) (ss : List Statement) → flat_from number k ss ≡ flat_from (number + k) 0 (drop k ss)
flat_skips number zero ss = let n : number + 0 ≡ number = omega arith in rw n refl
flat_skips number (suc k) [] = refl
flat_skips number (suc k) (s ∷ ss) = let n : number + suc k ≡ suc number + k = omega arith in rw n (flat_skips (suc number) k ss)

pub behind_sync : (place : ℕ) (ss rest : List Statement) (r : ℕ) (t : Term) → drop place ss ≡ sync r t ∷ rest
    → steps_behind place ss ≡ syncing (site_at (suc place) 0) r t ∷ steps_behind (suc place) ss
behind_sync place ss rest r t e =
    ap (flat_from (suc place) 0) e ∙ (λ i. syncing (site_at (suc place) 0) r t ∷ flat_from (suc (suc place)) 0 (sym (tail_of ss place (sync r t) rest e) i))

-- the sync at a place of a body
pub syncs_at : (n i : ℕ) (ss : List Statement) → AreSyncs n ss → i < n → (r : ℕ) × (t : Term) × (drop i ss ≡ sync r t ∷ drop (suc i) ss)
syncs_at zero i ss h lt = absurd (omega arith)
syncs_at (suc n) i [] h lt = absurd h
syncs_at (suc n) zero (sync r t ∷ ss) h lt = (r, t, refl)
syncs_at (suc n) (suc i) (sync r t ∷ ss) h lt = syncs_at n i ss h (omega arith)
syncs_at (suc n) i (emit e ∷ ss) h lt = absurd h
syncs_at (suc n) i (repeat times count ∷ ss) h lt = absurd h

pub syncs_within : (n : ℕ) (ss : List Statement) → AreSyncs n ss → n ≤ length ss
syncs_within zero ss h = omega arith
syncs_within (suc n) [] h = absurd h
syncs_within (suc n) (sync r t ∷ ss) h = omega (arith, syncs_within n ss h)
syncs_within (suc n) (emit e ∷ ss) h = absurd h
syncs_within (suc n) (repeat times count ∷ ss) h = absurd h

drop_past : (i : ℕ) (ss : List Statement) → drop i ss ≡ [] → drop (suc i) ss ≡ []
drop_past i [] e = refl
drop_past zero (s ∷ ss) e = absurd cc
drop_past (suc i) (s ∷ ss) e = drop_past i ss e

pub first_within : (i : ℕ) (ss rest : List Statement) (s : Statement) → drop i ss ≡ s ∷ rest → i < length ss
first_within i [] rest s e = absurd (let nil : [] ≡ s ∷ rest = sym (drop-nil i) ∙ e in cc)
first_within zero (s' ∷ ss) rest s e = omega arith
first_within (suc i) (s' ∷ ss) rest s e = omega (arith, first_within i ss rest s e)

drop_both : (i j : ℕ) (ss : List Statement) → drop i (drop j ss) ≡ drop (j + i) ss
drop_both i zero ss = let n : 0 + i ≡ i = omega arith in rw n refl
drop_both i (suc j) [] = drop-nil i ∙ sym (drop-nil (suc j + i))
drop_both i (suc j) (s ∷ ss) = let n : suc j + i ≡ suc (j + i) = omega arith in rw n (drop_both i j ss)

pub sync_in_round : (place : ℕ) (r : Round) (ss : List Statement) → IsInRepeat place r ss → (reg : ℕ) × (t : Term) × (drop place ss ≡ sync reg t ∷ drop (suc place) ss)
sync_in_round place r ss h =
    let at = syncs_at (r.end - r.first) (place - r.first) (drop r.first ss) h.body (omega (arith, h.begun, h.inside)) in
    let here : r.first + (place - r.first) ≡ place = omega (arith, h.begun) in
    let next : r.first + suc (place - r.first) ≡ suc place = omega (arith, h.begun) in
    (at.0, at.1, sym (rw here at (drop_both (place - r.first) r.first ss)) ∙ at.2 ∙ ap (λ (xs : List Statement). sync at.0 at.1 ∷ xs) (rw next at (drop_both (suc (place - r.first)) r.first ss)))

-- what is left behind the sync at a place of a body
abbrev pub left_behind : ℕ → Round → List Statement → List Step
left_behind place r ss =
    pass_over (suc (suc place)) r.pass (take (r.end - suc place) (drop (suc place) ss))
    ++ (passes_over (r.times - suc r.pass) (suc r.first) (suc r.pass) (take (r.end - r.first) (drop r.first ss)) ++ steps_behind r.end ss)

in_round : (place reg : ℕ) (t : Term) (r : Round) (ss : List Statement) → place < r.end → drop place ss ≡ sync reg t ∷ drop (suc place) ss
    → left_in place (Some r) ss ≡ syncing (site_at (suc place) r.pass) reg t ∷ left_behind place r ss
in_round place reg t r ss lt e =
    let more : r.end - place ≡ suc (r.end - suc place) = omega (arith, lt) in
    rw (more, e) refl

-- the pass goes on
goes_on : (place reg : ℕ) (t : Term) (r : Round) (ss : List Statement) → suc place < r.end → drop place ss ≡ sync reg t ∷ drop (suc place) ss
    → left_in (suc place) (Some r) ss ≡ steps_behind_first (left_in place (Some r) ss)
goes_on place reg t r ss lt e = sym (ap steps_behind_first (in_round place reg t r ss (omega (arith, lt)) e))

-- the pass is done
pass_done : (place : ℕ) (r : Round) (ss : List Statement) → r.end ≤ suc place
    → left_behind place r ss ≡ passes_over (r.times - suc r.pass) (suc r.first) (suc r.pass) (take (r.end - r.first) (drop r.first ss)) ++ steps_behind r.end ss
pass_done place r ss le =
    let none : r.end - suc place ≡ 0 = omega (arith, le) in
    rw none refl

abbrev pub next_pass : Round → Round
next_pass r = record r { pass = suc r.pass }

goes_again : (place reg : ℕ) (t : Term) (r : Round) (ss : List Statement) → place < r.end → r.end ≤ suc place → suc r.pass < r.times → drop place ss ≡ sync reg t ∷ drop (suc place) ss
    → left_in r.first (Some (next_pass r)) ss ≡ steps_behind_first (left_in place (Some r) ss)
goes_again place reg t r ss lt le more e =
    let body = take (r.end - r.first) (drop r.first ss) in
    let left : r.times - suc r.pass ≡ suc (r.times - suc (suc r.pass)) = omega (arith, more) in
    let assoc = append_assoc (pass_over (suc r.first) (suc r.pass) body) (passes_over (r.times - suc (suc r.pass)) (suc r.first) (suc (suc r.pass)) body) (steps_behind r.end ss) in
    let again : passes_over (r.times - suc r.pass) (suc r.first) (suc r.pass) body ++ steps_behind r.end ss ≡ left_in r.first (Some (next_pass r)) ss = rw left assoc in
    sym (ap steps_behind_first (in_round place reg t r ss lt e) ∙ pass_done place r ss le ∙ again)

goes_out : (place reg : ℕ) (t : Term) (r : Round) (ss : List Statement) → place < r.end → r.end ≤ suc place → r.times ≤ suc r.pass → drop place ss ≡ sync reg t ∷ drop (suc place) ss
    → steps_behind (suc place) ss ≡ steps_behind_first (left_in place (Some r) ss)
goes_out place reg t r ss lt le last e =
    let none : r.times - suc r.pass ≡ 0 = omega (arith, last) in
    let at_end : r.end ≡ suc place = omega (arith, lt, le) in
    let out : passes_over (r.times - suc r.pass) (suc r.first) (suc r.pass) (take (r.end - r.first) (drop r.first ss))
    ++ steps_behind r.end ss ≡ steps_behind (suc place) ss = rw (none, at_end) refl in
    sym (ap steps_behind_first (in_round place reg t r ss lt e) ∙ pass_done place r ss le ∙ out)

-- ---- where a spot goes on

pub on_outside : (place : ℕ) (ss : List Statement) → IsAtSync (drop place ss) → steps_behind (suc place) ss ≡ steps_behind_first (steps_behind place ss)
on_outside place ss h = at (drop place ss) refl h
  where
    at : (rest : List Statement) → drop place ss ≡ rest → IsAtSync rest → steps_behind (suc place) ss ≡ steps_behind_first (steps_behind place ss)
    at [] e h = ap (flat_from (suc (suc place)) 0) (drop_past place ss e) ∙ sym (ap (λ (xs : List Statement). steps_behind_first (flat_from (suc place) 0 xs)) e)
    at (sync r t ∷ rest) e h = sym (ap steps_behind_first (behind_sync place ss rest r t e))
    at (emit x ∷ rest) e h = absurd h
    at (repeat times count ∷ rest) e h = absurd h

pub on_same_pass : (place : ℕ) (r : Round) (ss : List Statement) → IsInRepeat place r ss → suc place < r.end
    → IsSyncSpot (record { place = suc place; round = Some r }) ss × (left_in (suc place) (Some r) ss ≡ steps_behind_first (left_in place (Some r) ss))
on_same_pass place r ss h lt =
    let at = sync_in_round place r ss h in (
      record {
        within = omega (arith, h.within, lt);
        round = record { begun = omega (arith, h.begun); inside = lt; within = h.within; more = h.more; most = h.most; body = h.body };
      },
      goes_on place at.0 at.1 r ss lt at.2,
    )

pub on_next_pass : (place : ℕ) (r : Round) (ss : List Statement) → IsInRepeat place r ss → r.end ≤ suc place → suc r.pass < r.times
    → IsSyncSpot (record { place = r.first; round = Some (next_pass r) }) ss × (left_in r.first (Some (next_pass r)) ss ≡ steps_behind_first (left_in place (Some r) ss))
on_next_pass place r ss h le more =
    let at = sync_in_round place r ss h in (
      record {
        within = omega (arith, h.within, h.begun, h.inside);
        round = record { begun = omega arith; inside = omega (arith, h.begun, h.inside); within = h.within; more = more; most = h.most; body = h.body };
      },
      goes_again place at.0 at.1 r ss h.inside le more at.2,
    )

pub on_behind : (place : ℕ) (r : Round) (ss : List Statement) → IsInRepeat place r ss → r.end ≤ suc place
    → r.times ≤ suc r.pass → steps_behind (suc place) ss ≡ steps_behind_first (left_in place (Some r) ss)
on_behind place r ss h le last = let at = sync_in_round place r ss h in goes_out place at.0 at.1 r ss h.inside le last at.2

-- ---- what stands at a spot

-- a spot at a sync
pub left_sync : (spot : Spot) (ss rest : List Statement) (r : ℕ) (t : Term) → IsSyncSpot spot ss → drop spot.place ss ≡ sync r t ∷ rest
    → steps_left_at spot ss ≡ syncing (site_at (suc spot.place) (pass_of spot.round)) r t ∷ steps_behind_first (steps_left_at spot ss)
left_sync spot ss rest r t h e = at spot.place spot.round h.round e
  where
    at : (place : ℕ) (o : Option Round) → FitsRound place o ss → drop place ss ≡ sync r t ∷ rest
        → left_in place o ss ≡ syncing (site_at (suc place) (pass_of o)) r t ∷ steps_behind_first (left_in place o ss)
    at place None h e = let is = behind_sync place ss rest r t e in is ∙ ap (λ (xs : List Step). syncing (site_at (suc place) 0) r t ∷ xs) (sym (ap steps_behind_first is))
    at place (Some q) h e =
        let tail = tail_of ss place (sync r t) rest e in
        let is = in_round place r t q ss h.inside (e ∙ ap (λ (xs : List Statement). sync r t ∷ xs) (sym tail)) in
        is ∙ ap (λ (xs : List Step). syncing (site_at (suc place) q.pass) r t ∷ xs) (sym (ap steps_behind_first is))

-- a spot where something waits is at a sync
pub waits_at : (spot : Spot) (ss : List Statement) → IsSyncSpot spot ss → IsWaiting (next_of (steps_left_at spot ss))
    → (r : ℕ) × (t : Term) × (drop spot.place ss ≡ sync r t ∷ drop (suc spot.place) ss)
waits_at spot ss h w = at spot.place spot.round h.round w
  where
    outside : (place : ℕ) (rest : List Statement) → drop place ss ≡ rest → IsAtSync rest → IsWaiting (next_of (flat_from (suc place) 0 rest))
        → (r : ℕ) × (t : Term) × (drop place ss ≡ sync r t ∷ drop (suc place) ss)
    outside place [] e h w = absurd w
    outside place (sync r t ∷ rest) e h w = (r, t, e ∙ ap (λ (xs : List Statement). sync r t ∷ xs) (sym (tail_of ss place (sync r t) rest e)))
    outside place (emit x ∷ rest) e h w = absurd h
    outside place (repeat times count ∷ rest) e h w = absurd h

    at : (place : ℕ) (o : Option Round) → FitsRound place o ss → IsWaiting (next_of (left_in place o ss)) → (r : ℕ) × (t : Term) × (drop place ss ≡ sync r t ∷ drop (suc place) ss)
    at place None h w = outside place (drop place ss) refl h w
    at place (Some q) h w = sync_in_round place q ss h

pub waits_within : (spot : Spot) (ss : List Statement) → IsSyncSpot spot ss → IsWaiting (next_of (steps_left_at spot ss)) → spot.place < length ss
waits_within spot ss h w = let at = waits_at spot ss h w in first_within spot.place ss _ _ at.2

-- a spot is at no emit and at no repeat
pub at_sync : (spot : Spot) (ss : List Statement) → IsSyncSpot spot ss → IsAtSync (drop spot.place ss)
at_sync spot ss h = at spot.place spot.round h.round
  where
    at : (place : ℕ) (o : Option Round) → FitsRound place o ss → IsAtSync (drop place ss)
    at place None h = h
    at place (Some q) h = subst IsAtSync (sym (sync_in_round place q ss h).2) tt

-- past the end nothing is left
pub none_left : (spot : Spot) (ss : List Statement) → IsSyncSpot spot ss → drop spot.place ss ≡ [] → steps_left_at spot ss ≡ []
none_left spot ss h e = at spot.place spot.round h.round e
  where
    at : (place : ℕ) (o : Option Round) → FitsRound place o ss → drop place ss ≡ [] → left_in place o ss ≡ []
    at place None h e = ap (flat_from (suc place) 0) e
    at place (Some q) h e = absurd (let both : [] ≡ sync _ _ ∷ _ = sym e ∙ (sync_in_round place q ss h).2 in cc)

pub spot_settled : (spot : Spot) (ss : List Statement) → IsSyncSpot spot ss → IsPastEmitting (steps_left_at spot ss)
spot_settled spot ss h = at (drop spot.place ss) refl (at_sync spot ss h)
  where
    ended : (place : ℕ) (o : Option Round) → FitsRound place o ss → drop place ss ≡ [] → IsPastEmitting (left_in place o ss)
    ended place None h e = subst (λ (xs : List Statement). IsPastEmitting (flat_from (suc place) 0 xs)) (sym e) tt
    ended place (Some q) h e = absurd (let both : [] ≡ sync _ _ ∷ _ = sym e ∙ (sync_in_round place q ss h).2 in cc)

    at : (rest : List Statement) → drop spot.place ss ≡ rest → IsAtSync rest → IsPastEmitting (steps_left_at spot ss)
    at [] e a = ended spot.place spot.round h.round e
    at (sync r t ∷ rest) e a = subst IsPastEmitting (sym (left_sync spot ss rest r t h e)) tt
    at (emit x ∷ rest) e a = absurd a
    at (repeat times count ∷ rest) e a = absurd a

-- ---- a place outside of every repeat

pub outside_spot : (place : ℕ) (ss : List Statement) → place ≤ length ss → IsAtSync (drop place ss) → IsSyncSpot (record { place = place; round = None }) ss
outside_spot place ss le h = record { within = le; round = h }

-- the first statement of a repeat, in the first pass
abbrev pub first_round : ℕ → ℕ → ℕ → Round
first_round place times count = record { first = suc place; end = suc place + count; pass = 0; times = times }

pub entered : (place times count : ℕ) (ss rest : List Statement) → drop place ss ≡ repeat times count ∷ rest → IsRepeat times count rest → suc place + count ≤ length ss
    → IsSyncSpot (record { place = suc place; round = Some (first_round place times count) }) ss × (left_in (suc place) (Some (first_round place times count)) ss ≡ steps_behind place ss)
entered place times count ss rest e h le =
    let tail = tail_of ss place (repeat times count) rest e in
    let all : suc place + count - suc place ≡ count = omega arith in
    let body = take count rest in
    let least : times ≡ suc (times - 1) = omega (arith, h.some_times) in
    let assoc = append_assoc (pass_over (suc (suc place)) 0 body) (passes_over (times - 1) (suc (suc place)) 1 body) (flat_from (suc (suc place)) count rest) in
    let number : suc (suc place) + count ≡ suc (suc place + count) = omega arith in
    let behind_body : drop count rest ≡ drop (suc place + count) ss = ap (drop count) (sym tail) ∙ drop_both count (suc place) ss in
    let skips : flat_from (suc (suc place)) count rest ≡ steps_behind (suc place + count) ss =
    flat_skips (suc (suc place)) count rest ∙ (λ i. flat_from (number i) 0 (behind_body i)) in
    let whole : steps_behind place ss ≡ passes_over times (suc (suc place)) 0 body ++ flat_from (suc (suc place)) count rest = ap (flat_from (suc place) 0) e in
    let first : passes_over times (suc (suc place)) 0 body ≡ pass_over (suc (suc place)) 0 body ++ passes_over (times - 1) (suc (suc place)) 1 body =
    ap (λ n. passes_over n (suc (suc place)) 0 body) least in
    let left : left_in (suc place) (Some (first_round place times count)) ss ≡ pass_over (suc (suc place)) 0 body ++ (passes_over (times - 1)
    (suc (suc place)) 1 body ++ steps_behind (suc place + count) ss) = rw (all, tail) refl in (
      record {
        within = omega (arith, le);
        round = record {
          begun = omega arith;
          inside = omega (arith, h.some);
          within = le;
          more = h.some_times;
          most = h.most;
          body = subst (λ n. AreSyncs n (drop (suc place) ss)) (sym all) (subst (AreSyncs count) (sym tail) h.body);
        };
      },
      left ∙ ap (λ (xs : List Step). pass_over (suc (suc place)) 0 body ++ (passes_over (times - 1) (suc (suc place)) 1 body ++ xs)) (sym skips) ∙ sym
          assoc ∙ ap (λ (xs : List Step). xs ++ flat_from (suc (suc place)) count rest) (sym first) ∙ sym whole,
    )

-- the repeat at a place has its body
pub repeat_at : (place times count : ℕ) (ss rest : List Statement) → HasBodies ss → drop place ss ≡ repeat times count ∷ rest → IsRepeat times count rest × (suc place + count ≤ length ss)
repeat_at place times count [] rest h e = absurd (let nil : [] ≡ repeat times count ∷ rest = sym (drop-nil place) ∙ e in cc)
repeat_at zero times count (sync r t ∷ ss) rest h e = absurd cc
repeat_at zero times count (emit x ∷ ss) rest h e = absurd cc
repeat_at zero times count (repeat n k ∷ ss) rest h e =
    let times_are : n ≡ times = cc in
    let count_is : k ≡ count = cc in
    let behind_is : ss ≡ rest = cc in
    let at : IsRepeat times count rest = subst (λ m. IsRepeat m count rest) times_are (subst (λ m. IsRepeat n m rest) count_is (subst (IsRepeat n k) behind_is h.0)) in
    (at, omega (arith, syncs_within count rest at.body, ap length behind_is))
repeat_at (suc place) times count (sync r t ∷ ss) rest h e = let at = repeat_at place times count ss rest h e in (at.0, omega (arith, at.1))
repeat_at (suc place) times count (emit x ∷ ss) rest h e = let at = repeat_at place times count ss rest h e in (at.0, omega (arith, at.1))
repeat_at (suc place) times count (repeat n k ∷ ss) rest h e = let at = repeat_at place times count ss rest h.1 e in (at.0, omega (arith, at.1))
