-- How a value is kept: a word and a kind for each atom, and fillers behind them. No public clause cites this module.
use Rattle.std.specs.Prelude.{◌≡◌, ℕ, zero, suc, ◌^◌, ◌<◌, ◌≤◌, ℤ, pos, negsuc, Bool, true, false, List, [], ◌∷◌, length, map}
use Rattle.te_terms.specs.declared.value.Atom.{Atom}
use Rattle.te_terms.specs.declared.value.Atom.TheVariants.{Int, Chan}
use Rattle.te_terms.specs.Limits.{most_atoms}
use Rattle.te_terms.specs.Padding.{padded}

-- the word that stands for an atom, and whether the atom is a channel
abbrev pub word_of : Atom → ℤ
word_of (Int z) = z
word_of (Chan c) = pos c

abbrev pub is_channel : Atom → Bool
is_channel (Int z) = false
is_channel (Chan c) = true

-- the atom that a word of a kind stands for; no channel has a word below 0
abbrev pub channel_in : ℤ → ℕ
channel_in (pos n) = n
channel_in (negsuc n) = zero

abbrev pub atom_in : ℤ → Bool → Atom
atom_in w false = Int w
atom_in w true = Chan (channel_in w)

-- the atoms that the first words stand for
abbrev pub atoms_in : ℕ → List ℤ → List Bool → List Atom
atoms_in zero ws ks = []
atoms_in (suc n) (w ∷ ws) (k ∷ ks) = atom_in w k ∷ atoms_in n ws ks
atoms_in (suc n) _ _ = []

-- the words and the kinds of a list of atoms, with fillers behind them
abbrev pub words_of : List Atom → List ℤ
words_of v = padded most_atoms (pos 0) (map word_of v)

abbrev pub kinds_of : List Atom → List Bool
kinds_of v = padded most_atoms false (map is_channel v)

-- the word of a channel has 32 bits, and no sign
abbrev pub IsNarrow : ℤ → Bool → Type 0
IsNarrow w false = Unit {0}
IsNarrow (pos c) true = c < 2 ^ 32
IsNarrow (negsuc c) true = ⊥

abbrev pub AreNarrow : List ℤ → List Bool → Type 0
AreNarrow (w ∷ ws) (k ∷ ks) = IsNarrow w k × AreNarrow ws ks
AreNarrow _ _ = Unit {0}

-- the fields are those of the atoms that they stand for
pub record IsPacked (len : ℕ) (words : List ℤ) (kinds : List Bool) : Type 0 where
  pub within : len ≤ most_atoms
  pub as_long : length (atoms_in len words kinds) ≡ len
  pub words_are : words_of (atoms_in len words kinds) ≡ words
  pub kinds_are : kinds_of (atoms_in len words kinds) ≡ kinds
  pub narrow : AreNarrow words kinds
