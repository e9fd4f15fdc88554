-- What is left of a list from a place on.
use Rattle.std.proofs.Common.{◌≡◌, ℕ, ◌+◌, List, [], ◌∷◌, drop, refl, arith, append_assoc, append-nil}
use Rattle.std.specs.Prelude.{Some, None, slice_get}
use Rattle.std.proofs.Math.Seq.{drop-cons}
use Rattle.std.proofs.lemmas.List.{drop_all}
use Rattle.std.proofs.lemmas.Option.{slice_get_within, get_or_from_slice_get, slice_get_cases}
use Rattle.te_cert.specs.declared.cert.Member.{Member}
use Rattle.te_script.specs.Scripts.{Program}
use Rattle.te_report.specs.Report.{other_members}

-- at a place that is there: the item, and what is left behind it
pub rest_found : {A : Type 0} (xs : List A) (i : ℕ) (x : A) → slice_get xs i ≡ Some x → drop i xs ≡ x ∷ drop (i + 1) xs
rest_found xs i x e = grind (arith, drop-cons xs i x (slice_get_within xs i x e), get_or_from_slice_get xs i x x e)

-- at a place that isn't there, nothing
pub rest_none : {A : Type 0} (xs : List A) (i : ℕ) → slice_get xs i ≡ None → drop i xs ≡ []
rest_none xs i e = grind (arith, drop_all i xs, slice_get_cases xs i)

-- members without outcomes have no text
pub no_other_members : (script : Program) (ms : List Member) → other_members script ms [] ≡ []
no_other_members script [] = refl
no_other_members script (m ∷ ms) = refl

pub ruleset rests = (rest_found, rest_none, no_other_members, append_assoc, append-nil)
