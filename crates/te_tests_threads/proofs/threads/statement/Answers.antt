use Rattle.std.proofs.Common.{◌≡◌, ◌≤◌, ℕ, List, [], ◌∷◌, refl, sym, arith, subst}
use Rattle.te_terms.specs.declared.expr.Expr.{Expr}
use Rattle.te_terms.specs.declared.code.Node.{Node}
use Rattle.te_terms.specs.declared.code.Node.TheVariants as nodes
use Rattle.te_terms.specs.Terms.{always}
use Rattle.te_terms.specs.Codes.{expression_of, term_under}
use Rattle.te_script.specs.Scripts.{sync, IsEvent, AreStatements}
use Rattle.te_tests_threads.proofs.threads.statement.Goals as goal

-- always (Z) reads nothing and names no channel
abbrev IsPlain : Expr → Type 0
IsPlain e = (written channels : ℕ) → IsEvent (record { written = written; level = 0; channels = channels }) (always (expression_of e))

first_of : (channels : ℕ) (code : List Node) (e : Expr) → code ≡ nodes.Always e ∷ [] → IsPlain e → AreStatements channels 1 0 (sync 0 (term_under code 0) ∷ [])
first_of channels code e is plain =
    subst (λ (ns : List Node). AreStatements channels 1 0 (sync 0 (term_under ns 0) ∷ [])) (sym is)
    (omega arith, plain 0 channels, record { low = omega arith; few = omega arith; few_fresh = omega arith }, refl)

later_of : (channels : ℕ) (code : List Node) (e : Expr) → code ≡ nodes.Always e ∷ [] → IsPlain e → AreStatements channels 1 1 (sync 0 (term_under code 0) ∷ [])
later_of channels code e is plain =
    subst (λ (ns : List Node). AreStatements channels 1 1 (sync 0 (term_under ns 0) ∷ [])) (sym is)
    (omega arith, plain 1 channels, record { low = omega arith; few = omega arith; few_fresh = omega arith }, refl)

pub returns-in_ok-code-in-Some-clause-first : goal.returns-in_ok-code-in-Some-clause-first
returns-in_ok-code-in-Some-clause-first c = λ channels. first_of channels c.in_ok-code-in-Some.code.value c.integer.result c.in_ok-code-in-Some.ensures c.integer.ensures

pub returns-in_ok-code-in-Some-clause-later : goal.returns-in_ok-code-in-Some-clause-later
returns-in_ok-code-in-Some-clause-later c = λ channels. later_of channels c.in_ok-code-in-Some.code.value c.integer.result c.in_ok-code-in-Some.ensures c.integer.ensures
