-- A sum outside 64 bits is caught as the value that it raises: the event and what it gives.
use Rattle.std.specs.Prelude.{List, [], ◌∷◌, pos, negsuc}
use Rattle.te_terms.specs.declared.value.Atom.{Atom}
use Rattle.te_terms.specs.declared.value.Atom.TheVariants.{Int}
use Rattle.te_terms.specs.declared.expr.Arith.TheVariants.{Add}
use Rattle.te_terms.specs.Expressions.{Primitive, int, one, both, tuple}
use Rattle.te_terms.specs.Terms.{Term, always, catch}
use Rattle.te_cert.proofs.RowsTerms.{first_of}

abbrev pub largest : Primitive
largest = int (pos 9223372036854775807)

abbrev pub overflows : Term
overflows =
    catch (always (tuple (both Add largest (int (pos 1)) ∷ []))) 0
    (always (tuple (one (first_of 0) ∷ both Add largest (int (pos 0)) ∷ [])))

abbrev pub caught : List Atom
caught = Int (negsuc 0) ∷ Int (pos 9223372036854775807) ∷ []
