-- Which moves are in a past, and the trail that they make.
use Rattle.std.proofs.Common.{◌≡◌, ◌⊎◌, ◌<◌, ◌≤◌, ◌↔◌, ◌+◌, inl, inr, ℕ, zero, suc, List, [], ◌∷◌, ◌++◌, Bool, true}
use Rattle.std.proofs.Common.{false, cond, map, Option, Some, None, IsTrue, slice_get, take, length, get_or, refl, ap}
use Rattle.std.proofs.Common.{ap₂, sym, ◌∙◌, subst, arith, append-nil, append_assoc}
use Rattle.std.proofs.lemmas.List.{map-append}
use Rattle.te_terms.specs.Steps.{Member}
use Rattle.te_terms.specs.Joint.{Label, choice, meeting}
use Rattle.te_trail.specs.declared.moves.Move.{Move}
use Rattle.te_trail.specs.declared.moves.Move.TheVariants as moves
use Rattle.te_trail.specs.declared.store.PathRecord.{PathRecord}
use Rattle.te_trail.specs.declared.store.Last.{Last}
use Rattle.te_trail.specs.declared.store.Last.TheVariants.{Root, Left, Right, Sender, Receiver}
use Rattle.te_trail.specs.declared.ticks.Tick.{Tick}
use Rattle.te_trail.specs.Paths.{Path, planted, branched, sent, got, thread_of, IsAbove, move_of, RestsOn}
use Rattle.te_trail.specs.Clocks.{clock_of, IsSound}
use Rattle.te_trail.specs.Stores.{labels_of_move, labels_of, rests_on, trail_of, IsStore}
use Rattle.te_trail.specs.Trails.{TellsWhether, IsPathThread, ClockAt, IsClock, label_of, IsTrail}
use Rattle.te_trail.specs.Walks.{IsInPast, labels_told, TellsMove, TellsPastMove}
use Rattle.te_trail.specs.Records.{paths_of, IsMadeBy, Fits, FitsAll}
use Rattle.te_trail.proofs.Lines.{rests_move, above_rests}
use Rattle.te_trail.proofs.ClockLaws.{clock_in, clock_top}
use Rattle.te_trail.proofs.PastsChain.{rests_true, true_rests}
use Rattle.te_trail.proofs.RecordsRead.{length_paths}
use Rattle.te_terms.proofs.Lists.{get_low, found_here, get_some, one_item}
use Rattle.te_trail.proofs.StoresHold.{held}

-- ---- whether a path rests on a move

pub clock_low : (paths : List Path) (p t c : ℕ) → p < length paths → IsClock paths p t (Some c) → c < length paths
clock_low paths p t c h is = go (get_some paths p h)
  where
    go : (x : Path) × (slice_get paths p ≡ Some x) → c < length paths
    go (x, e) = let at : (z : Path) × (slice_get paths c ≡ Some z) × (clock_of x t ≡ Some z) = is x e in get_low paths at.0 c at.1

pub rests_by_clock : (paths : List Path) → ((k : ℕ) (x : Path) → slice_get paths k ≡ Some x → IsSound x)
    → (p i t c : ℕ) (answer : Bool) → IsPathThread paths i t → IsClock paths p t (Some c)
    → TellsWhether paths i c IsAbove answer → TellsWhether paths p i IsInPast answer
rests_by_clock paths sound p i t c answer thread is tells x y ex ey = go (is x ex)
  where
    go : (z : Path) × (slice_get paths c ≡ Some z) × (clock_of x t ≡ Some z) → IsTrue answer ↔ IsInPast x y
    go (z, ez, k) = ((λ a. clock_in x t z (move_of y) k (above_rests y z (move_of y) ((tells y z ey ez).0 a) (rests_move y))), (λ r. (tells y z ey ez).1 (back (clock_top x (sound p x ex) y r))))
      where
        back : (d : Path) × (clock_of x (thread_of y) ≡ Some d) × IsAbove y d → IsAbove y z
        back (d, kd, up) = subst (IsAbove y) (one_item (clock_of x t) d z (ap (clock_of x) (sym (thread y ey)) ∙ kd) k) up

pub rests_not : (paths : List Path) → ((k : ℕ) (x : Path) → slice_get paths k ≡ Some x → IsSound x) → (p i t : ℕ)
    → IsPathThread paths i t → IsClock paths p t None → TellsWhether paths p i IsInPast false
rests_not paths sound p i t thread is x y ex ey = ((λ a. absurd (not_true a)), (λ r. absurd (none (clock_top x (sound p x ex) y r))))
  where
    not_true : IsTrue false → ⊥
    not_true a = cc

    none : (d : Path) × (clock_of x (thread_of y) ≡ Some d) × IsAbove y d → ⊥
    none (d, kd, up) = let a : clock_of x t ≡ None = is x ex in let b : clock_of x t ≡ Some d = ap (clock_of x) (sym (thread y ey)) ∙ kd in cc

-- ---- what a move is labelled with

pub move_told : (records : List PathRecord) (ticks : List Tick) (paths : List Path) → FitsAll records ticks
    → paths_of records ≡ paths → (i : ℕ) (n : PathRecord) → slice_get records i ≡ Some n → (told : Option Move)
    → ((y : Path) → slice_get (paths_of records) i ≡ Some y → IsMadeBy n.last y → thread_of y ≡ n.thread
    → labels_told told ≡ labels_of_move y) → TellsMove paths i told
move_told records ticks paths fit view i n en told by y ey =
    let there : slice_get (paths_of records) i ≡ Some y = ap (λ ps. slice_get ps i) view ∙ ey in
    let f : Fits (paths_of records) ticks i n y = fit.fits i n y en there in
    by y there f.kind f.thread

pub no_label_root : (l : Last) (y : Path) → l ≡ Root → IsMadeBy l y → [] ≡ labels_of_move y
no_label_root l y e made = by (subst (λ k. IsMadeBy k y) e made)
  where
    by : (t : ℕ) × (y ≡ planted t) → [] ≡ labels_of_move y
    by (t, is) = sym (ap labels_of_move is)

pub no_label_receiver : (l : Last) (y : Path) → l ≡ Receiver → IsMadeBy l y → [] ≡ labels_of_move y
no_label_receiver l y e made = by (subst (λ k. IsMadeBy k y) e made)
  where
    by : (s : Path) × (r : Path) × (y ≡ got s r) → [] ≡ labels_of_move y
    by (s, r, is) = sym (ap labels_of_move is)

pub label_left : (l : Last) (y : Path) (t : ℕ) → l ≡ Left → IsMadeBy l y → thread_of y ≡ t → choice t true ∷ [] ≡ labels_of_move y
label_left l y t e made same = by (subst (λ k. IsMadeBy k y) e made)
  where
    by : (p : Path) × (y ≡ branched p true) → choice t true ∷ [] ≡ labels_of_move y
    by (p, is) = ap (λ k. choice k true ∷ []) (sym same ∙ ap thread_of is) ∙ sym (ap labels_of_move is)

pub label_right : (l : Last) (y : Path) (t : ℕ) → l ≡ Right → IsMadeBy l y → thread_of y ≡ t → choice t false ∷ [] ≡ labels_of_move y
label_right l y t e made same = by (subst (λ k. IsMadeBy k y) e made)
  where
    by : (p : Path) × (y ≡ branched p false) → choice t false ∷ [] ≡ labels_of_move y
    by (p, is) = ap (λ k. choice k false ∷ []) (sym same ∙ ap thread_of is) ∙ sym (ap labels_of_move is)

-- a sender's record has its mate behind it
pub record Mate (records : List PathRecord) (i : ℕ) : Type 0 where
  pub low : suc i < length records
  pub tells : (y : Path) (m : PathRecord) (t : ℕ) → slice_get (paths_of records) i ≡ Some y → slice_get records (suc i) ≡ Some m → thread_of y ≡ t → meeting t m.thread ∷ [] ≡ labels_of_move y

pub mate_there : (records : List PathRecord) (ticks : List Tick) → FitsAll records ticks
    → ((i : ℕ) (s r : Path) → slice_get (paths_of records) i ≡ Some (sent s r)
    → slice_get (paths_of records) (suc i) ≡ Some (got s r)) → (i : ℕ) (n : PathRecord) → slice_get records i ≡ Some n
    → n.last ≡ Sender → Mate records i
mate_there records ticks fit pairs i n en e = go (get_some (paths_of records) i (omega (arith, get_low records n i en, length_paths records)))
  where
    kind : (y : Path) → slice_get (paths_of records) i ≡ Some y → (s : Path) × (r : Path) × (y ≡ sent s r)
    kind y ey = subst (λ k. IsMadeBy k y) e (fit.fits i n y en ey).kind

    go : (y : Path) × (slice_get (paths_of records) i ≡ Some y) → Mate records i
    go (y, ey) = record { low = low (kind y ey); tells = λ z m t ez em same. told z m t (kind z ez) ez em same }
      where
        low : (s : Path) × (r : Path) × (y ≡ sent s r) → suc i < length records
        low (s, r, is) = omega (arith, get_low (paths_of records) (got s r) (suc i) (pairs i s r (ey ∙ ap Some is)), length_paths records)

        told : (z : Path) (m : PathRecord) (t : ℕ) → (s : Path) × (r : Path) × (z ≡ sent s r)
            → slice_get (paths_of records) i ≡ Some z → slice_get records (suc i) ≡ Some m → thread_of z ≡ t
            → meeting t m.thread ∷ [] ≡ labels_of_move z
        told z m t (s, r, is) ez em same =
            let other : Fits (paths_of records) ticks (suc i) m (got s r) = fit.fits (suc i) m (got s r) em (pairs i s r (ez ∙ ap Some is)) in
            ap₂ (λ a b. meeting a b ∷ []) (sym same ∙ ap thread_of is) (sym other.thread) ∙ sym (ap labels_of_move is)

-- ---- where the path rests on it

either_way : (a b : Bool) (ls : List Label) → cond a ls ls ≡ cond b ls ls
either_way true true ls = refl
either_way true false ls = refl
either_way false true ls = refl
either_way false false ls = refl

by_answer : (x y : Path) (answer : Bool) → (IsTrue answer ↔ IsInPast x y) → cond answer (labels_of_move y) [] ≡ cond (rests_on x y) (labels_of_move y) []
by_answer x (planted t) answer tells = either_way answer (rests_on x (planted t)) []
by_answer x (got s r) answer tells = either_way answer (rests_on x (got s r)) []
by_answer x (branched p left) answer tells = ap (λ o. cond o (choice (thread_of p) left ∷ []) []) (one answer (rests_on x (branched p left)) refl tells)
  where
    one : (a b : Bool) → rests_on x (branched p left) ≡ b → (IsTrue a ↔ RestsOn (branched p left) x) → a ≡ b
    one true true e t = refl
    one false false e t = refl
    one true false e t = let z : rests_on x (branched p left) ≡ true = true_rests x (branched p left) (t.0 refl) in cc
    one false true e t = let z : false ≡ true = t.1 (rests_true x (branched p left) e) in cc
by_answer x (sent s r) answer tells = ap (λ o. cond o (meeting (thread_of s) (thread_of r) ∷ []) []) (one answer (rests_on x (sent s r)) refl tells)
  where
    one : (a b : Bool) → rests_on x (sent s r) ≡ b → (IsTrue a ↔ RestsOn (sent s r) x) → a ≡ b
    one true true e t = refl
    one false false e t = refl
    one true false e t = let z : rests_on x (sent s r) ≡ true = true_rests x (sent s r) (t.0 refl) in cc
    one false true e t = let z : false ≡ true = t.1 (rests_true x (sent s r) e) in cc

pub past_told : (paths : List Path) (p i : ℕ) (answer : Bool) (told : Option Move) → answer ≡ true → TellsWhether paths p i IsInPast answer → TellsMove paths i told → TellsPastMove paths p i told
past_told paths p i answer told e tells move x y ex ey = move y ey ∙ sym (ap (λ o. cond o (labels_of_move y) []) e) ∙ by_answer x y answer (tells x y ex ey)

pub past_not : (paths : List Path) (p i : ℕ) (answer : Bool) → answer ≡ false → TellsWhether paths p i IsInPast answer → TellsPastMove paths p i None
past_not paths p i answer e tells x y ex ey = sym (ap (λ o. cond o (labels_of_move y) []) e) ∙ by_answer x y answer (tells x y ex ey)

-- ---- the trail

abbrev pub TrailSo : List Path → ℕ → ℕ → List Move → Type 0
TrailSo paths p i made = (x : Path) → slice_get paths p ≡ Some x → map label_of made ≡ labels_of (rests_on x) (take i paths)

pub labels_append : (has : Path → Bool) (xs ys : List Path) → labels_of has (xs ++ ys) ≡ labels_of has xs ++ labels_of has ys
labels_append has [] ys = refl
labels_append has (x ∷ xs) ys = ap (λ r. cond (has x) (labels_of_move x) [] ++ r) (labels_append has xs ys) ∙ sym
    (append_assoc (cond (has x) (labels_of_move x) []) (labels_of has xs) (labels_of has ys))

take_next : (paths : List Path) (i : ℕ) (y : Path) → slice_get paths i ≡ Some y → take (i + 1) paths ≡ take i paths ++ (y ∷ [])
take_next paths i y e = ap (λ n. take n paths) (let n : i + 1 ≡ suc i = omega arith in n) ∙ go paths i e
  where
    go : (paths : List Path) (i : ℕ) → slice_get paths i ≡ Some y → take (suc i) paths ≡ take i paths ++ (y ∷ [])
    go [] i e = cc
    go (x ∷ xs) zero e = let one : x ≡ y = cc in ap (λ z. z ∷ []) one
    go (x ∷ xs) (suc i) e = ap (λ r. x ∷ r) (go xs i e)

pub trail_step : (paths : List Path) (p i : ℕ) (made more : List Move) (told : Option Move) → i < length paths
    → TrailSo paths p i made → TellsPastMove paths p i told → map label_of more ≡ map label_of made ++ labels_told told
    → TrailSo paths p (i + 1) more
trail_step paths p i made more told h so tells e x ex = go (get_some paths i h)
  where
    go : (y : Path) × (slice_get paths i ≡ Some y) → map label_of more ≡ labels_of (rests_on x) (take (i + 1) paths)
    go (y, ey) = e ∙ ap₂ (λ a b. a ++ b) (so x ex) (tells x y ex ey ∙ sym
        (append-nil (cond (rests_on x y) (labels_of_move y) []))) ∙ sym
        (labels_append (rests_on x) (take i paths) (y ∷ [])) ∙ sym (ap (labels_of (rests_on x)) (take_next paths i y ey))

pub trail_end : (paths : List Path) (p i : ℕ) (made : List Move) → take i paths ≡ paths → TrailSo paths p i made → IsTrail paths p made
trail_end paths p i made e so x ex = so x ex ∙ ap (labels_of (rests_on x)) e
