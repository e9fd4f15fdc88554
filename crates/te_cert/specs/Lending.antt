-- Events whose parts are lent to a play: the term that they make.
use Rattle.std.specs.Prelude.{◌≡◌, ℕ, ◌<◌, List, length, map, Some, slice_get}
use Rattle.te_terms.specs.Terms.{Term, closed}
use Rattle.te_terms.specs.Codes.{term_under}
use Rattle.te_cert.specs.declared.lent.Lent.{Lent}

abbrev pub lent_term : Lent → Term
lent_term l = closed l.regs.now (term_under l.code.now l.root)

-- the root is a node of the code
abbrev pub IsLent : Lent → Type 0
IsLent l = l.root < length l.code.now

abbrev pub AreLent : List Lent → Type 0
AreLent ls = (i : ℕ) (l : Lent) → slice_get ls i ≡ Some l → IsLent l

abbrev pub lent_terms : List Lent → List Term
lent_terms ls = map lent_term ls
