-- Where the member of a thread stands, and what stays where another takes its place.
use Rattle.std.proofs.Common.{◌≡◌, ℕ, zero, suc, ◌<◌, Bool, true, false, cond, ◌==◌, List, [], ◌∷◌, Some, slice_get, slice_set}
use Rattle.std.proofs.Common.{refl, sym, ap, subst, ◌∙◌, eqb-true, ne_eqb}
use Rattle.std.proofs.lemmas.Bool.{eqb-false}
use Rattle.te_terms.specs.Steps.{Member}
use Rattle.te_terms.specs.Joint.{Label, choice, meeting, RiseFrom, IsGroup, member_of, with_member}
use Rattle.te_cert.specs.Certs.{place_of, meetings_of}

-- ---- lists

pub get_set_same : {X : Type 0} (xs : List X) (i : ℕ) (x y : X) → slice_get xs i ≡ Some x → slice_get (slice_set xs i y) i ≡ Some y
get_set_same [] i x y e = absurd cc
get_set_same (z ∷ xs) zero x y e = refl
get_set_same (z ∷ xs) (suc i) x y e = get_set_same xs i x y e

pub get_set_other : {X : Type 0} (xs : List X) (i j : ℕ) (y : X) → (i ≡ j → ⊥) → slice_get (slice_set xs i y) j ≡ slice_get xs j
get_set_other [] i j y h = refl
get_set_other (z ∷ xs) zero zero y h = absurd (h refl)
get_set_other (z ∷ xs) zero (suc j) y h = refl
get_set_other (z ∷ xs) (suc i) zero y h = refl
get_set_other (z ∷ xs) (suc i) (suc j) y h = get_set_other xs i j y (λ e. h (ap suc e))

-- what stands there already
pub set_own : {X : Type 0} (xs : List X) (i : ℕ) (x : X) → slice_get xs i ≡ Some x → slice_set xs i x ≡ xs
set_own [] i x e = absurd cc
set_own (z ∷ xs) zero x e = let is : z ≡ x = cc in ap (λ y. y ∷ xs) (sym is)
set_own (z ∷ xs) (suc i) x e = ap (λ ys. z ∷ ys) (set_own xs i x e)

-- ---- two threads, the same or apart

pub by_threads : (a b : ℕ) (P : Bool → Type 0) → (a ≡ b → P true) → ((a ≡ b → ⊥) → P false) → P (a == b)
by_threads a b P same apart = at (a == b) refl
  where
    at : (c : Bool) → (a == b) ≡ c → P c
    at true q = same (eqb-true a b q)
    at false q = apart (eqb-false a b q)

-- ---- the member of a thread

pub member_thread : (t : ℕ) (g : List Member) (m : Member) → member_of t g ≡ Some m → m.thread ≡ t
member_thread t [] m e = absurd cc
member_thread t (o ∷ g) m e = by_threads o.thread t (λ b. cond b (Some o) (member_of t g) ≡ Some m → m.thread ≡ t)
    (λ same p. let is : o ≡ m = cc in ap (λ x. x.thread) (sym is) ∙ same)
    (λ apart p. member_thread t g m p)
    e

-- stands at the thread's place
pub member_stands : (t : ℕ) (g : List Member) (m : Member) → member_of t g ≡ Some m → slice_get g (place_of t g) ≡ Some m
member_stands t [] m e = absurd cc
member_stands t (o ∷ g) m e = by_threads o.thread t (λ b. cond b (Some o) (member_of t g) ≡ Some m → slice_get (o ∷ g) (cond b 0 (suc (place_of t g))) ≡ Some m)
    (λ same p. p)
    (λ apart p. member_stands t g m p)
    e

-- so that two threads have two places
pub places_apart : (s r : ℕ) (g : List Member) (m n : Member) → member_of s g ≡ Some m → member_of r g ≡ Some n → (s ≡ r → ⊥) → place_of s g ≡ place_of r g → ⊥
places_apart s r g m n p q apart same =
    let both : Some m ≡ Some n = sym (member_stands s g m p) ∙ ap (slice_get g) same ∙ member_stands r g n q in
    let one : m ≡ n = cc in
    apart (sym (member_thread s g m p) ∙ ap (λ x. x.thread) one ∙ member_thread r g n q)

-- ---- where another member of the thread takes its place

pub place_stays : (t : ℕ) (n : Member) (g : List Member) → place_of t (with_member n g) ≡ place_of t g
place_stays t n [] = refl
place_stays t n (o ∷ g) = by_threads o.thread n.thread (λ b. place_of t (cond b (n ∷ g) (o ∷ with_member n g)) ≡ place_of t (o ∷ g))
    (λ same. ap (λ u. cond (u == t) 0 (suc (place_of t g))) (sym same))
    (λ apart. ap (λ i. cond (o.thread == t) 0 (suc i)) (place_stays t n g))

pub member_stays : (t : ℕ) (n : Member) (g : List Member) → (n.thread ≡ t → ⊥) → member_of t (with_member n g) ≡ member_of t g
member_stays t n [] h = refl
member_stays t n (o ∷ g) h = by_threads o.thread n.thread (λ b. member_of t (cond b (n ∷ g) (o ∷ with_member n g)) ≡ member_of t (o ∷ g))
    (λ same.
    ap (λ b. cond b (Some n) (member_of t g)) (ne_eqb n.thread t h)
    ∙ ap (λ b. cond b (Some o) (member_of t g)) (sym (ne_eqb o.thread t (λ e. h (sym same ∙ e)))))
    (λ apart. ap (cond (o.thread == t) (Some o)) (member_stays t n g h))

rise_stays : (low : ℕ) (n : Member) (g : List Member) → RiseFrom low g → RiseFrom low (with_member n g)
rise_stays low n [] h = h
rise_stays low n (o ∷ g) h = by_threads o.thread n.thread (λ b. RiseFrom low (cond b (n ∷ g) (o ∷ with_member n g)))
    (λ same. subst (λ u. (low < u) × RiseFrom u g) same h)
    (λ apart. (h.0, rise_stays o.thread n g h.1))

pub group_stays : (n : Member) (g : List Member) → IsGroup g → IsGroup (with_member n g)
group_stays n [] h = h
group_stays n (o ∷ g) h = by_threads o.thread n.thread (λ b. IsGroup (cond b (n ∷ g) (o ∷ with_member n g)))
    (λ same. subst (λ u. RiseFrom u g) same h)
    (λ apart. rise_stays o.thread n g h)

pub meetings_stay : (n : Member) (g : List Member) (word : List Label) → meetings_of (with_member n g) word ≡ meetings_of g word
meetings_stay n g [] = refl
meetings_stay n g (choice t left ∷ word) = meetings_stay n g word
meetings_stay n g (meeting s r ∷ word) = rw (place_stays s n g, place_stays r n g, meetings_stay n g word) refl
