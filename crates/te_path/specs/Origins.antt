-- What the moves of a path read of its event, and the members of it.
use Rattle.std.specs.Prelude.{ℕ, List}
use Rattle.te_terms.specs.declared.value.Atom.{Atom}
use Rattle.te_terms.specs.declared.code.Node.{Node}
use Rattle.te_terms.specs.Terms.{Term}
use Rattle.te_terms.specs.Steps.{Member, come_to}
use Rattle.te_path.specs.declared.posted.Posted.{Posted}

-- a code and registers, with the thread and the ticket under which they were posted
pub record Origin : Type 0 where
  pub code : List Node
  pub regs : List (List Atom)
  pub thread : ℕ
  pub ticket : ℕ

abbrev pub origin_of : Posted → Origin
origin_of p = record { code = p.code.now; regs = p.regs.now; thread = p.thread; ticket = p.ticket }

-- the member that has come to a term and has made so many fresh channels
abbrev pub member_at : Origin → ℕ → Term → Member
member_at o count t = come_to o.thread o.ticket count t
