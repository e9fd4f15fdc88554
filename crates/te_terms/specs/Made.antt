-- What an event was made of.
use Rattle.std.specs.Prelude.{◌≡◌, ℕ, ◌<◌, List, length}
use Rattle.te_terms.specs.declared.value.Atom.{Atom}
use Rattle.te_terms.specs.declared.code.Node.{Node}
use Rattle.te_terms.specs.Terms.{Term, closed}
use Rattle.te_terms.specs.Codes.{term_under}

-- the term under a node of a code, with these values of the registers
pub record IsMadeOf (code : List Node) (root : ℕ) (regs : List (List Atom)) (t : Term) : Type 0 where
  pub within : root < length code
  pub term_is : t ≡ closed regs (term_under code root)

-- some root and registers make the term with the code
abbrev pub HasCode : List Node → Term → Type 0
HasCode code t = (root : ℕ) × ((regs : List (List Atom)) × IsMadeOf code root regs t)

abbrev pub HasRoot : ℕ → Term → Type 0
HasRoot root t = (code : List Node) × ((regs : List (List Atom)) × IsMadeOf code root regs t)

abbrev pub HasRegisters : List (List Atom) → Term → Type 0
HasRegisters regs t = (code : List Node) × ((root : ℕ) × IsMadeOf code root regs t)
