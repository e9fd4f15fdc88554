-- Lists, and the paths of a list of records.
use Rattle.std.proofs.Common.{◌≡◌, ◌⊎◌, ◌≤◌, ◌<◌, ◌↔◌, inl, inr, ℕ, zero, suc, ◌+◌, ◌-◌, Bool, true, false, ◌&&◌, not}
use Rattle.std.proofs.Common.{MatchBool, List, [], ◌∷◌, ◌++◌, length, map, get_or, take, drop, slice_get, Option, Some}
use Rattle.std.proofs.Common.{None, cond, ltb, nat_eq, IsTrue, refl, ap, ap₂, sym, ◌∙◌, subst, arith, append_assoc}
use Rattle.std.proofs.Common.{append-nil, length-append, eqb-true, eq-eqb, true≢false, eq-or-lt_of_le}
use Rattle.te_path.specs.declared.spot.Spot.{Spot}
use Rattle.te_trail.specs.declared.ticks.Tick.{Tick}
use Rattle.te_trail.specs.declared.ticks.Stretch.{Stretch}
use Rattle.te_trail.specs.declared.store.PathRecord.{PathRecord}
use Rattle.te_trail.specs.declared.store.StoreMark.{StoreMark}
use Rattle.te_trail.specs.declared.store.Last.{Last}
use Rattle.te_trail.specs.declared.store.Last.TheVariants.{Root, Left, Right, Sender, Receiver}
use Rattle.te_trail.specs.Paths.{Path, planted, branched, sent, got, thread_of, depth_of, parent_of, IsAbove, OnOneLine}
use Rattle.te_trail.specs.Clocks.{deeper, clock_of, Agree, IsSound}
use Rattle.te_trail.specs.Ticks.{named, between, ticks_of, StretchIsWithin, AreBeyond, AreRising, later, beside, merged, marked, Joins, Raises}
use Rattle.te_trail.specs.Trails.{TellsWhether, IsPathThread, ClockAt, IsClock}
use Rattle.te_trail.specs.Walks.{TellsParent, FitAt, AllFit, FittingFor, Misfit, TicksAreLow, TellsFit}
use Rattle.te_trail.specs.Records.{path_at, last_of, other_end, path_by, mate_of, paths_from, paths_of, is_sender, EndsAfter, EndsWhole, parent_number, HasParent, Fits, FitsAll}
use Rattle.te_trail.proofs.Lines.{above_self, above_depth, above_thread, above_trans, above_same, above_both}
use Rattle.te_trail.proofs.Lines.{above_line, line_flip, line_depth, ancestor, rests_move, rests_trans, above_rests}
use Rattle.te_trail.proofs.Lines.{rests_made}
use Rattle.te_trail.proofs.ClockLaws.{eq_apart, differ, deeper_left, deeper_right, deeper_either, clock_thread}
use Rattle.te_trail.proofs.ClockLaws.{clock_in, clock_self, Agrees, agrees_by, agree_by, made_planted, made_branched}
use Rattle.te_trail.proofs.ClockLaws.{made_met, clock_top, past_line, agree_line}
use Rattle.te_terms.proofs.Lists.{eq_same, get_some, found_here, get_low, get_taken}
use Rattle.te_trail.proofs.TicksMerge.{between_step, between_done, between_more, length_between, merged_nil, next_right}
use Rattle.te_trail.proofs.TicksMerge.{next_left, next_lower, next_higher, next_both, IsJoining, joining_start}
use Rattle.te_trail.proofs.TicksMerge.{joining_step, joining_end, IsRaising, raising_start, raising_step, raising_room}
use Rattle.te_trail.proofs.TicksMerge.{raising_end, named_skip, named_here}

pub get_old : {A : Type 0} (xs ys : List A) (y : A) (k : ℕ) → slice_get xs k ≡ Some y → slice_get (xs ++ ys) k ≡ Some y
get_old [] ys y k e = cc
get_old (z ∷ xs) ys y zero e = e
get_old (z ∷ xs) ys y (suc k) e = get_old xs ys y k e

pub get_new : {A : Type 0} (xs ys : List A) (k : ℕ) → slice_get (xs ++ ys) (length xs + k) ≡ slice_get ys k
get_new [] ys k = ap (slice_get ys) (let e : 0 + k ≡ k = omega arith in e)
get_new (z ∷ xs) ys k = ap (slice_get (z ∷ (xs ++ ys))) (let e : suc (length xs) + k ≡ suc (length xs + k) = omega arith in e) ∙ get_new xs ys k

pub got_or : {A : Type 0} (xs : List A) (i : ℕ) (x d : A) → slice_get xs i ≡ Some x → get_or xs i d ≡ x
got_or [] i x d e = cc
got_or (y ∷ xs) zero x d e = cc
got_or (y ∷ xs) (suc i) x d e = got_or xs i x d e

pub get_which : {A : Type 0} (xs ys : List A) (y : A) (k : ℕ) → slice_get (xs ++ ys) k ≡ Some y → (slice_get xs k ≡ Some y) ⊎ ((j : ℕ) × (k ≡ length xs + j) × (slice_get ys j ≡ Some y))
get_which [] ys y k e = inr (k, omega arith, e)
get_which (z ∷ xs) ys y zero e = inl e
get_which (z ∷ xs) ys y (suc k) e = elim (get_which xs ys y k e) [ inl h ↦ inl h | inr h ↦ inr (h.0, omega (arith, h.1), h.2) ]

pub take_low : {A : Type 0} (xs : List A) (n m : ℕ) → n ≤ m → take n (take m xs) ≡ take n xs
take_low xs zero m h = refl
take_low xs (suc n) zero h = absurd (omega (arith, h))
take_low [] (suc n) (suc m) h = refl
take_low (x ∷ xs) (suc n) (suc m) h = ap (λ r. x ∷ r) (take_low xs n m (omega (arith, h)))

pub take_all : {A : Type 0} (xs : List A) → take (length xs) xs ≡ xs
take_all [] = refl
take_all (x ∷ xs) = ap (λ r. x ∷ r) (take_all xs)

-- ---- trees
pub length_from : (acc : List Path) (ns : List PathRecord) → length (paths_from acc ns) ≡ length acc + length ns
length_from acc [] = omega arith
length_from acc (n ∷ ns) = omega (arith, length_from (acc ++ (path_by acc n.thread n.parent (mate_of ns) n.last ∷ [])) ns, length-append acc (path_by acc n.thread n.parent (mate_of ns) n.last ∷ []))

pub length_paths : (ns : List PathRecord) → length (paths_of ns) ≡ length ns
length_paths ns = omega (arith, length_from [] ns)

same_mate : (acc : List Path) (t p m k : ℕ) (l : Last) → is_sender l ≡ false → path_by acc t p m l ≡ path_by acc t p k l
same_mate acc t p m k Root e = refl
same_mate acc t p m k Left e = refl
same_mate acc t p m k Right e = refl
same_mate acc t p m k Sender e = absurd (true≢false e)
same_mate acc t p m k Receiver e = refl

trees_on : (acc : List Path) (n : PathRecord) (ns ms : List PathRecord) → EndsAfter n ns → paths_from acc ((n ∷ ns) ++ ms) ≡ paths_from (paths_from acc (n ∷ ns)) ms
trees_on acc n [] ms s = ap (λ x. paths_from (acc ++ (x ∷ [])) ms) (same_mate acc n.thread n.parent (mate_of ms) 0 n.last s)
trees_on acc n (m ∷ ns) ms s = trees_on (acc ++ (path_by acc n.thread n.parent m.parent n.last ∷ [])) m ns ms s

pub trees_append : (ns ms : List PathRecord) → EndsWhole ns → paths_of (ns ++ ms) ≡ paths_from (paths_of ns) ms
trees_append [] ms s = refl
trees_append (n ∷ ns) ms s = trees_on [] n ns ms s

shut_on : (n : PathRecord) (ns : List PathRecord) (m : PathRecord) (ms : List PathRecord) → EndsAfter m ms → EndsAfter n (ns ++ (m ∷ ms))
shut_on n [] m ms s = s
shut_on n (k ∷ ns) m ms s = shut_on k ns m ms s

pub shut_append : (ns : List PathRecord) (m : PathRecord) (ms : List PathRecord) → EndsAfter m ms → EndsWhole (ns ++ (m ∷ ms))
shut_append [] m ms s = s
shut_append (n ∷ ns) m ms s = shut_on n ns m ms s

pub end_append : (acc : List Path) (x : Path) → last_of (acc ++ (x ∷ [])) ≡ x
end_append [] x = refl
end_append (y ∷ []) x = refl
end_append (y ∷ z ∷ acc) x = end_append (z ∷ acc) x

-- the record of a path
pub record_there : (records : List PathRecord) (paths : List Path) (p : ℕ) (n : PathRecord) → paths_of records ≡ paths → p < length paths → n ≡ get_or records p n → slice_get records p ≡ Some n
record_there records paths p n view h e = found_here records p n (omega (arith, h, length_paths records, ap length view)) e
