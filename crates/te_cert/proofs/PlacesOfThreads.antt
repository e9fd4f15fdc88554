-- In a group, whose threads rise strictly, a member's place is its thread's.
use Rattle.std.proofs.Common.{◌≡◌, ℕ, zero, suc, ◌<◌, List, [], ◌∷◌, ◌++◌, length, refl, Some, sym, ap, subst, ◌∙◌, arith}
use Rattle.std.specs.Prelude.{slice_get, slice_set}
use Rattle.std.specs.Option.{option_map}
use Rattle.std.proofs.lemmas.Option.{slice_get-map}
use Rattle.std.proofs.lemmas.List.{set_at}
use Rattle.te_terms.proofs.TermLemmas.{slice_get_seam}
use Rattle.te_terms.specs.Steps.{Member}
use Rattle.te_terms.specs.Joint.{RiseFrom, IsGroup, member_of, with_member}
use Rattle.te_cert.proofs.MembersReplaced.{threads, own_found, other_found, own_replaced, other_replaced}

pub rest_is_group : (low : ℕ) (g : List Member) → RiseFrom low g → IsGroup g
rest_is_group low [] rise = tt
rest_is_group low (x ∷ g) rise = rise.1

-- the threads that follow are higher
higher : (low : ℕ) (g : List Member) (i t : ℕ) → RiseFrom low g → slice_get (threads g) i ≡ Some t → low < t
higher low [] i t rise e = absurd cc
higher low (x ∷ g) zero t rise e = let is : x.thread ≡ t = cc in subst (λ y. low < y) is rise.0
higher low (x ∷ g) (suc i) t rise e = let more : x.thread < t = higher x.thread g i t rise.1 e in omega (arith, rise.0)

pub thread_at : (g : List Member) (i : ℕ) (m : Member) → slice_get g i ≡ Some m → slice_get (threads g) i ≡ Some m.thread
thread_at g i m e = slice_get-map (λ x. x.thread) g i ∙ ap (option_map (λ x. x.thread)) e

-- the member at a place is found by its thread
pub found_at : (g : List Member) (i : ℕ) (m : Member) → IsGroup g → slice_get g i ≡ Some m → member_of m.thread g ≡ Some m
found_at [] i m is e = absurd cc
found_at (x ∷ g) zero m is e = let same : x ≡ m = cc in own_found m.thread x g (ap (λ y. y.thread) same) ∙ ap Some same
found_at (x ∷ g) (suc i) m is e =
    let above : x.thread < m.thread = higher x.thread g i m.thread is (thread_at g i m e) in
    other_found m.thread x g (λ so. omega arith) ∙ found_at g i m (rest_is_group x.thread g is) e

-- another member with that thread is set there
pub set_at_thread : (g : List Member) (i : ℕ) (n : Member) → IsGroup g → slice_get (threads g) i ≡ Some n.thread → slice_set g i n ≡ with_member n g
set_at_thread [] i n is e = absurd cc
set_at_thread (x ∷ g) zero n is e = let same : x.thread ≡ n.thread = cc in sym (own_replaced n x g same)
set_at_thread (x ∷ g) (suc i) n is e =
    let above : x.thread < n.thread = higher x.thread g i n.thread is e in
    ap (λ h. x ∷ h) (set_at_thread g i n (rest_is_group x.thread g is) e) ∙ sym (other_replaced n x g (λ so. omega arith))

-- behind others, where it stands
pub replaced_behind : (front rest : List Member) (m n : Member) → IsGroup (front ++ m ∷ rest) → n.thread ≡ m.thread →
    with_member n (front ++ m ∷ rest) ≡ front ++ n ∷ rest
replaced_behind front rest m n is same =
    let its_thread = thread_at (front ++ m ∷ rest) (length front) m (slice_get_seam front m rest) in
    sym (set_at_thread (front ++ m ∷ rest) (length front) n is (its_thread ∙ ap Some (sym same))) ∙ set_at front m rest n (length front) refl
