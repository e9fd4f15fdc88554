-- A sum outside 64 bits is caught as the value that it raises.
use Rattle.std.specs.Prelude.{List, [], ◌∷◌, codes}
use Rattle.te_terms.specs.declared.event.Outcome.TheVariants.{Gives}
use Rattle.te_terms.specs.Expressions.{register, whole}
use Rattle.te_cert.specs.declared.cert.Member.{Member}
use Rattle.te_cert.specs.declared.cert.Cert.{Cert}
use Rattle.te_cert.proofs.RowsTrap.{overflows, caught}
use Rattle.te_script.specs.Scripts.{sync, emit, Program}
use Rattle.te_history.specs.declared.status.How.TheVariants as ways
use Rattle.te_history.specs.declared.entry.Entry.{Entry}
use Rattle.te_history.specs.declared.entry.Entry.TheVariants as entries

abbrev pub script : Program
script = record {
  channels = [];
  threads = record { name = codes "a"; registers = codes "x" ∷ []; statements = sync 0 overflows ∷ emit (whole (register 0)) ∷ [] } ∷ [];
}

abbrev pub members : List Member
members = record { thread = 0; ticket = 0; choices = [] } ∷ []

abbrev pub cert : Cert
cert = record { members = members; meets = [] }

abbrev pub history : List Entry
history =
    entries.Post 0 0 overflows
    ∷ entries.Commit 0 cert (Gives caught ∷ [])
    ∷ entries.Take 0 0 (Gives caught)
    ∷ entries.End 0 (ways.Done (caught ∷ []))
    ∷ []
