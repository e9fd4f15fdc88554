-- Values and their packed form.
use Rattle.std.proofs.Common.{◌≡◌, ℕ, zero, suc, ◌+◌, ◌<◌, ◌≤◌, ℤ, pos, Bool, true, false, List, [], ◌∷◌}
use Rattle.std.proofs.Common.{◌++◌, map, length, set, get_or, Some, slice_get, refl, sym, ap, ◌∙◌, Decides, not, arith, length-append}
use Rattle.std.proofs.lemmas.List.{map-append, length-map}
use Rattle.te_terms.specs.declared.value.Atom.{Atom}
use Rattle.te_terms.specs.declared.value.Atom.TheVariants.{Int, Chan}
use Rattle.te_terms.specs.Limits.{most_atoms}
use Rattle.te_terms.specs.Padding.{padded}
use Rattle.te_terms.specs.Packed.{word_of, is_channel, atom_in, atoms_in, words_of, kinds_of, IsNarrow, AreNarrow, IsPacked}
use Rattle.te_terms.proofs.PaddingLemmas.{padded_set}
use Rattle.te_terms.proofs.Lists.{not_false}

-- ---- back from the packed form

pub atom_back : (a : Atom) → atom_in (word_of a) (is_channel a) ≡ a
atom_back (Int z) = refl
atom_back (Chan c) = refl

pub atoms_back : (v : List Atom) (ws : List ℤ) (ks : List Bool) → atoms_in (length v) (map word_of v ++ ws) (map is_channel v ++ ks) ≡ v
atoms_back [] ws ks = refl
atoms_back (Int z ∷ v) ws ks = ap (λ u. Int z ∷ u) (atoms_back v ws ks)
atoms_back (Chan c ∷ v) ws ks = ap (λ u. Chan c ∷ u) (atoms_back v ws ks)

-- ---- one atom

-- the atom at a place
pub atom_at : (n d : ℕ) (ws : List ℤ) (ks : List Bool) → d < n → length ws ≡ length ks → n ≤ length ws →
    slice_get (atoms_in n ws ks) d ≡ Some (atom_in (get_or ws d (pos 0)) (get_or ks d false))
atom_at (suc n) zero (w ∷ ws) (k ∷ ks) h e i = refl
atom_at (suc n) (suc d) (w ∷ ws) (k ∷ ks) h e i = atom_at n d ws ks (omega arith) (omega arith) (omega arith)
atom_at zero d ws ks h e i = absurd (omega arith)
atom_at (suc n) d [] ks h e i = absurd (omega arith)
atom_at (suc n) d (w ∷ ws) [] h e i = absurd (omega arith)

pub narrow_at : (d : ℕ) (ws : List ℤ) (ks : List Bool) → AreNarrow ws ks → IsNarrow (get_or ws d (pos 0)) (get_or ks d false)
narrow_at zero (w ∷ ws) (k ∷ ks) a = a.0
narrow_at (suc d) (w ∷ ws) (k ∷ ks) a = narrow_at d ws ks a.1
narrow_at d [] ks a = elim (get_or ks d false) as (λ k. IsNarrow (pos 0) k) [ true ↦ omega arith | false ↦ tt ]
narrow_at d (w ∷ ws) [] a = tt

-- ---- one atom more

pub narrow_set : (i : ℕ) (ws : List ℤ) (ks : List Bool) (w : ℤ) (k : Bool) → AreNarrow ws ks → IsNarrow w k → AreNarrow (set ws i w) (set ks i k)
narrow_set zero (v ∷ ws) (j ∷ ks) w k a n = (n, a.1)
narrow_set (suc i) (v ∷ ws) (j ∷ ks) w k a n = (a.0, narrow_set i ws ks w k a.1 n)
narrow_set i [] ks w k a n = tt
narrow_set zero (v ∷ ws) [] w k a n = tt
narrow_set (suc i) (v ∷ ws) [] w k a n = tt

words_set : (v : List Atom) (a : Atom) → length v < most_atoms → set (words_of v) (length v) (word_of a) ≡ words_of (v ++ a ∷ [])
words_set v a h =
    ap (λ n. set (words_of v) n (word_of a)) (sym (length-map v word_of)) ∙ padded_set most_atoms (pos 0) (word_of a) (map word_of v) (omega (arith, length-map v word_of)) ∙
    ap (padded most_atoms (pos 0)) (sym (map-append word_of v (a ∷ [])))

kinds_set : (v : List Atom) (a : Atom) → length v < most_atoms → set (kinds_of v) (length v) (is_channel a) ≡ kinds_of (v ++ a ∷ [])
kinds_set v a h =
    ap (λ n. set (kinds_of v) n (is_channel a)) (sym (length-map v is_channel)) ∙
    padded_set most_atoms false (is_channel a) (map is_channel v) (omega (arith, length-map v is_channel)) ∙ ap (padded most_atoms false) (sym (map-append is_channel v (a ∷ [])))

-- the fields where an atom is written behind the others
pub record Pushed (len : ℕ) (ws : List ℤ) (ks : List Bool) (a : Atom) : Type 0 where
  pub packed : IsPacked (len + 1) (set ws len (word_of a)) (set ks len (is_channel a))
  pub atoms : atoms_in (len + 1) (set ws len (word_of a)) (set ks len (is_channel a)) ≡ atoms_in len ws ks ++ a ∷ []

pub pushed : (len : ℕ) (ws : List ℤ) (ks : List Bool) (a : Atom) → IsPacked len ws ks → len < most_atoms → IsNarrow (word_of a) (is_channel a) → Pushed len ws ks a
pushed len ws ks a p h n =
    let v : List Atom = atoms_in len ws ks in
    let room : length v < most_atoms = omega (arith, p.as_long) in
    let words : set ws len (word_of a) ≡ words_of (v ++ a ∷ []) =
    ap (λ xs. set xs len (word_of a)) (sym p.words_are) ∙ ap (λ k. set (words_of v) k (word_of a)) (sym p.as_long) ∙ words_set v a room in
    let kinds : set ks len (is_channel a) ≡ kinds_of (v ++ a ∷ []) =
    ap (λ xs. set xs len (is_channel a)) (sym p.kinds_are) ∙ ap (λ k. set (kinds_of v) k (is_channel a)) (sym p.as_long) ∙ kinds_set v a room in
    let long : length (v ++ a ∷ []) ≡ len + 1 = length-append v (a ∷ []) ∙ ap (λ k. k + 1) p.as_long in
    let atoms : atoms_in (len + 1) (set ws len (word_of a)) (set ks len (is_channel a)) ≡ v ++ a ∷ [] =
    ap (λ k. atoms_in k (set ws len (word_of a)) (set ks len (is_channel a))) (sym long) ∙ ap (λ xs. atoms_in (length (v ++ a ∷ [])) xs (set ks len (is_channel a))) words ∙
    ap (λ xs. atoms_in (length (v ++ a ∷ [])) (words_of (v ++ a ∷ [])) xs) kinds ∙ atoms_back (v ++ a ∷ []) _ _ in
    record {
      packed = record {
        within = omega arith;
        as_long = ap length atoms ∙ long;
        words_are = ap words_of atoms ∙ sym words;
        kinds_are = ap kinds_of atoms ∙ sym kinds;
        narrow = narrow_set len ws ks (word_of a) (is_channel a) p.narrow n;
      };
      atoms = atoms;
    }

-- ---- equal values

-- the fields are those of the value
pub record Same (len len' : ℕ) (ws ws' : List ℤ) (ks ks' : List Bool) : Type 0 where
  pub lens : len ≡ len'
  pub words : ws ≡ ws'
  pub kinds : ks ≡ ks'

pub fields_same : {len len' : ℕ} {ws ws' : List ℤ} {ks ks' : List Bool} → IsPacked len ws ks → IsPacked len' ws' ks' → atoms_in len ws ks ≡ atoms_in len' ws' ks' → Same len len' ws ws' ks ks'
fields_same p p' e = record {
  lens = sym p.as_long ∙ ap length e ∙ p'.as_long;
  words = sym p.words_are ∙ ap words_of e ∙ p'.words_are;
  kinds = sym p.kinds_are ∙ ap kinds_of e ∙ p'.kinds_are;
}

pub fields_tell : {len len' : ℕ} {ws ws' : List ℤ} {ks ks' : List Bool} → len ≡ len' → ws ≡ ws' → ks ≡ ks' → atoms_in len ws ks ≡ atoms_in len' ws' ks'
fields_tell {len' = len'} {ws = ws} {ws' = ws'} {ks = ks} e f g = ap (λ n. atoms_in n ws ks) e ∙ ap (λ xs. atoms_in len' xs ks) f ∙ ap (λ xs. atoms_in len' ws' xs) g

-- two tests of one fact
pub tests_agree : {P Q : Type 0} (a b : Bool) → Decides a P → Decides b Q → (P → Q) → (Q → P) → a ≡ b
tests_agree true true d e f g = refl
tests_agree true false d e f g = let bad : false ≡ true = e.1 (f (d.0 refl)) in absurd cc
tests_agree false true d e f g = let bad : false ≡ true = d.1 (g (e.0 refl)) in absurd cc
tests_agree false false d e f g = refl

pub test_fails : {P : Type 0} (b : Bool) → Decides b P → ¬ P → false ≡ b
test_fails true d differ = absurd (differ (d.0 refl))
test_fails false d differ = refl
