-- What is found in a group where another member stands in its thread's place.
use Rattle.std.proofs.Common.{◌≡◌, ℕ, ◌<◌, List, [], ◌∷◌, map, Some, refl, sym, ap, subst, ◌∙◌, inl, inr}
use Rattle.std.specs.Prelude.{◌==◌, false}
use Rattle.std.proofs.lemmas.Bool.{cases_eq}
use Rattle.std.proofs.lemmas.Bool.Decides.{eqb_tells, Decides-eqb}
use Rattle.te_terms.specs.Steps.{Member}
use Rattle.te_terms.specs.Joint.{RiseFrom, IsGroup, member_of, with_member}

abbrev pub threads : List Member → List ℕ
threads g = map (λ m. m.thread) g

-- ---- the first member

pub other_test : (s t : ℕ) → ¬ (s ≡ t) → (s == t) ≡ false
other_test s t apart = elim (eqb_tells s t) [
  | inl same ↦ absurd (apart same.1)
  | inr not_so ↦ not_so.0
]

pub own_found : (t : ℕ) (m : Member) (g : List Member) → m.thread ≡ t → member_of t (m ∷ g) ≡ Some m
own_found t m g same = rw ((Decides-eqb m.thread t).1 same) refl

pub other_found : (t : ℕ) (m : Member) (g : List Member) → ¬ (m.thread ≡ t) → member_of t (m ∷ g) ≡ member_of t g
other_found t m g apart = rw (other_test m.thread t apart) refl

pub own_replaced : (n m : Member) (g : List Member) → m.thread ≡ n.thread → with_member n (m ∷ g) ≡ n ∷ g
own_replaced n m g same = rw ((Decides-eqb m.thread n.thread).1 same) refl

pub other_replaced : (n m : Member) (g : List Member) → ¬ (m.thread ≡ n.thread) → with_member n (m ∷ g) ≡ m ∷ with_member n g
other_replaced n m g apart = rw (other_test m.thread n.thread apart) refl

-- ---- finding

pub found_thread : (t : ℕ) (g : List Member) (m : Member) → member_of t g ≡ Some m → m.thread ≡ t
found_thread t [] m e = absurd cc
found_thread t (x ∷ g) m e = elim (cases_eq x.thread t) [
  | inl same ↦ let is : x ≡ m = let both : Some x ≡ Some m = sym (own_found t x g same) ∙ e in cc in ap (λ y. y.thread) (sym is) ∙ same
  | inr apart ↦ found_thread t g m (sym (other_found t x g apart) ∙ e)
]

-- the new member is found
pub found_new : (n m : Member) (g : List Member) → member_of n.thread g ≡ Some m → member_of n.thread (with_member n g) ≡ Some n
found_new n m [] e = absurd cc
found_new n m (x ∷ g) e = elim (cases_eq x.thread n.thread) [
  | inl same ↦ ap (member_of n.thread) (own_replaced n x g same) ∙ own_found n.thread n g refl
  | inr apart ↦
      ap (member_of n.thread) (other_replaced n x g apart)
      ∙ other_found n.thread x (with_member n g) apart
      ∙ found_new n m g (sym (other_found n.thread x g apart) ∙ e)
]

-- who has another thread is found as before
pub found_other : (t : ℕ) (n : Member) (g : List Member) → ¬ (n.thread ≡ t) → member_of t (with_member n g) ≡ member_of t g
found_other t n [] differ = refl
found_other t n (x ∷ g) differ = elim (cases_eq x.thread n.thread) [
  | inl same ↦
      ap (member_of t) (own_replaced n x g same)
      ∙ other_found t n g differ
      ∙ sym (other_found t x g (λ so. differ (sym same ∙ so)))
  | inr apart ↦ ap (member_of t) (other_replaced n x g apart) ∙ elim (cases_eq x.thread t) [
    | inl so ↦ own_found t x (with_member n g) so ∙ sym (own_found t x g so)
    | inr not_so ↦ other_found t x (with_member n g) not_so ∙ found_other t n g differ ∙ sym (other_found t x g not_so)
  ]
]

-- ---- replacing

-- who stands there already
pub replaced_by_itself : (m : Member) (g : List Member) → member_of m.thread g ≡ Some m → with_member m g ≡ g
replaced_by_itself m [] e = refl
replaced_by_itself m (x ∷ g) e = elim (cases_eq x.thread m.thread) [
  | inl same ↦
      let is : x ≡ m = let both : Some x ≡ Some m = sym (own_found m.thread x g same) ∙ e in cc in
      own_replaced m x g same ∙ ap (λ y. y ∷ g) (sym is)
  | inr apart ↦ other_replaced m x g apart ∙ ap (λ h. x ∷ h) (replaced_by_itself m g (sym (other_found m.thread x g apart) ∙ e))
]

-- twice in one thread's place
pub replaced_again : (n m : Member) (g : List Member) → m.thread ≡ n.thread → with_member n (with_member m g) ≡ with_member n g
replaced_again n m [] one_thread = refl
replaced_again n m (x ∷ g) one_thread = elim (cases_eq x.thread m.thread) [
  | inl same ↦
      ap (with_member n) (own_replaced m x g same)
      ∙ own_replaced n m g one_thread
      ∙ sym (own_replaced n x g (same ∙ one_thread))
  | inr apart ↦
      let not_so : ¬ (x.thread ≡ n.thread) = λ so. apart (so ∙ sym one_thread) in
      ap (with_member n) (other_replaced m x g apart)
      ∙ other_replaced n x (with_member m g) not_so
      ∙ ap (λ h. x ∷ h) (replaced_again n m g one_thread)
      ∙ sym (other_replaced n x g not_so)
]

-- in the places of two threads
pub replaced_apart : (n m : Member) (g : List Member) → ¬ (m.thread ≡ n.thread) → with_member n (with_member m g) ≡ with_member m (with_member n g)
replaced_apart n m [] differ = refl
replaced_apart n m (x ∷ g) differ = elim (cases_eq x.thread m.thread) [
  | inl same ↦
      let not_so : ¬ (x.thread ≡ n.thread) = λ so. differ (sym same ∙ so) in
      ap (with_member n) (own_replaced m x g same)
      ∙ other_replaced n m g differ
      ∙ sym (own_replaced m x (with_member n g) same)
      ∙ ap (with_member m) (sym (other_replaced n x g not_so))
  | inr apart ↦ ap (with_member n) (other_replaced m x g apart) ∙ elim (cases_eq x.thread n.thread) [
    | inl so ↦
        own_replaced n x (with_member m g) so
        ∙ sym (other_replaced m n g (λ one. differ (sym one)))
        ∙ ap (with_member m) (sym (own_replaced n x g so))
    | inr not_so ↦
        other_replaced n x (with_member m g) not_so
        ∙ ap (λ h. x ∷ h) (replaced_apart n m g differ)
        ∙ sym (other_replaced m x (with_member n g) apart)
        ∙ ap (with_member m) (sym (other_replaced n x g not_so))
  ]
]

-- ---- threads stay

pub threads_stay : (n : Member) (g : List Member) → threads (with_member n g) ≡ threads g
threads_stay n [] = refl
threads_stay n (x ∷ g) = elim (cases_eq x.thread n.thread) [
  | inl same ↦ ap threads (own_replaced n x g same) ∙ ap (λ t. t ∷ threads g) (sym same)
  | inr apart ↦ ap threads (other_replaced n x g apart) ∙ ap (λ ts. x.thread ∷ ts) (threads_stay n g)
]

rise_stays : (low : ℕ) (g h : List Member) → threads h ≡ threads g → RiseFrom low g → RiseFrom low h
rise_stays low [] [] same rise = tt
rise_stays low [] (y ∷ h) same rise = absurd cc
rise_stays low (x ∷ g) [] same rise = absurd cc
rise_stays low (x ∷ g) (y ∷ h) same rise =
    let first : y.thread ≡ x.thread = cc in
    let more : threads h ≡ threads g = cc in
    (subst (λ t. low < t) (sym first) rise.0, subst (λ t. RiseFrom t h) (sym first) (rise_stays x.thread g h more rise.1))

-- a list with a group's threads is a group
pub group_stays : (g h : List Member) → threads h ≡ threads g → IsGroup g → IsGroup h
group_stays [] [] same is = tt
group_stays [] (y ∷ h) same is = absurd cc
group_stays (x ∷ g) [] same is = absurd cc
group_stays (x ∷ g) (y ∷ h) same is =
    let first : y.thread ≡ x.thread = cc in
    let more : threads h ≡ threads g = cc in
    subst (λ t. RiseFrom t h) (sym first) (rise_stays x.thread g h more is)
