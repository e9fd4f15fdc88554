use Rattle.std.proofs.Common.{◌≡◌, ℕ, List, [], ◌∷◌, ◌++◌, map, sym, ap, ◌∙◌, subst}
use Rattle.te_script.specs.declared.script.Stmt.{Stmt}
use Rattle.te_script.specs.Scripts.{AreStatements}
use Rattle.te_script.specs.Texts.{statement_of}
use Rattle.te_script.proofs.Appending.{AreStatements-append}
use Rattle.te_tests_threads.proofs.threads.statements.Goals as goal

both : (channels : ℕ) (s t : Stmt) → AreStatements channels 1 0 (statement_of s ∷ []) → AreStatements channels 1 1 (statement_of t ∷ [])
    → AreStatements channels 1 0 (map statement_of (s ∷ t ∷ []))
both channels s t first later = AreStatements-append channels 1 0 (statement_of s ∷ []) (statement_of t) first later
