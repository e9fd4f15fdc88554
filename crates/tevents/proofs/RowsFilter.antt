-- A thread receives only a number above 3; of two senders one is left over and stuck.
use Rattle.std.specs.Prelude.{ℕ, List, [], ◌∷◌, ◌++◌, codes, pos}
use Rattle.te_terms.specs.declared.event.Outcome.TheVariants.{Gives}
use Rattle.te_terms.specs.declared.expr.Test.TheVariants.{Less}
use Rattle.te_terms.specs.Expressions.{register, int, chan, whole}
use Rattle.te_terms.specs.Terms.{Term, always, never, send, recv, and_then, when}
use Rattle.te_cert.specs.declared.cert.Member.{Member}
use Rattle.te_cert.specs.declared.cert.Cert.{Cert}
use Rattle.te_cert.proofs.RowsTerms.{single, single_value, the_name, first_of}
use Rattle.te_script.specs.Scripts.{sync, emit, Program}
use Rattle.te_history.specs.declared.status.How.TheVariants as ways
use Rattle.te_history.specs.declared.entry.Entry.{Entry}
use Rattle.te_history.specs.declared.entry.Entry.TheVariants as entries

abbrev pub filters : Term
filters = and_then (recv (chan 0)) 0 (when Less (int (pos 3)) (first_of 0) (always (the_name 0)) never)

abbrev pub sends : ℕ → Term
sends n = send (chan 0) (single n)

abbrev pub script : Program
script = record {
  channels = codes "c" ∷ [];
  threads =
      record { name = codes "r"; registers = codes "x" ∷ []; statements = sync 0 filters ∷ emit (whole (register 0)) ∷ [] }
      ∷ record { name = codes "s"; registers = codes "x" ∷ []; statements = sync 0 (sends 2) ∷ [] }
      ∷ record { name = codes "t"; registers = codes "x" ∷ []; statements = sync 0 (sends 5) ∷ [] }
      ∷ [];
}

abbrev pub members : List Member
members = record { thread = 0; ticket = 0; choices = [] } ∷ record { thread = 2; ticket = 0; choices = [] } ∷ []

abbrev pub cert : Cert
cert = record { members = members; meets = record { sender = 1; receiver = 0 } ∷ [] }

abbrev pub posts : List Entry
posts = entries.Post 0 0 filters ∷ entries.Post 1 0 (sends 2) ∷ entries.Post 2 0 (sends 5) ∷ []

abbrev pub block : List Entry
block =
    entries.Commit 0 cert (Gives (single_value 5) ∷ Gives [] ∷ []) ∷ entries.Take 0 0 (Gives (single_value 5)) ∷ entries.Take 2 0 (Gives []) ∷ []

abbrev pub ends : List Entry
ends = entries.End 0 (ways.Done (single_value 5 ∷ [])) ∷ entries.End 2 (ways.Done []) ∷ []

abbrev pub closing : List Entry
closing = entries.Stuck 1 ∷ entries.End 1 ways.Stuck ∷ []

abbrev pub history : List Entry
history = posts ++ block ++ ends ++ closing
