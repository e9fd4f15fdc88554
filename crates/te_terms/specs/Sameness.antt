-- Atoms and values are the same exactly where the tests of them say so.
use Rattle.std.specs.Prelude.{◌≡◌, List}
use Rattle.std.proofs.Common.{ap}
use Rattle.std.specs.Bool.{Decides}
use Rattle.std.specs.Cmp.{IsEquivalence, decided}
use Rattle.std.proofs.lemmas.Bool.Decides.{Decides-eqb, Decides-int_eq}
use lib.Pointwise.{pointwise_decides}
use Rattle.te_terms.specs.declared.value.Atom.{Atom}
use Rattle.te_terms.specs.declared.value.Atom.TheVariants.{Int, Chan}
use Rattle.te_terms.specs.Values.{same_atom, same_value}

pub Decides-same_atom : (a b : Atom) → Decides (same_atom a b) (a ≡ b)
Decides-same_atom (Int x) (Int y) = (λ e. ap Int ((Decides-int_eq x y).0 e), λ e. (Decides-int_eq x y).1 cc)
Decides-same_atom (Chan c) (Chan d) = (λ e. ap Chan ((Decides-eqb c d).0 e), λ e. (Decides-eqb c d).1 cc)
Decides-same_atom (Int x) (Chan d) = (λ e. absurd cc, λ e. absurd cc)
Decides-same_atom (Chan c) (Int y) = (λ e. absurd cc, λ e. absurd cc)

pub Decides-same_value : (v w : List Atom) → Decides (same_value v w) (v ≡ w)
Decides-same_value = pointwise_decides Decides-same_atom

pub same_value_equiv : IsEquivalence same_value
same_value_equiv = decided same_value Decides-same_value
