-- One thread sends 7 on a channel and another receives it: the script. Its history is worked in te_history.
use Rattle.std.specs.Prelude.{[], ◌∷◌, codes}
use Rattle.te_terms.specs.Expressions.{register, whole}
use Rattle.te_script.specs.Scripts.{sync, emit, Program}
use Rattle.te_history.proofs.RowsExchange.{sends, receives}

abbrev pub script : Program
script = record {
  channels = codes "c" ∷ [];
  threads =
      record { name = codes "a"; registers = codes "x" ∷ []; statements = sync 0 sends ∷ [] }
      ∷ record { name = codes "b"; registers = codes "y" ∷ []; statements = sync 0 receives ∷ emit (whole (register 0)) ∷ [] }
      ∷ [];
}
