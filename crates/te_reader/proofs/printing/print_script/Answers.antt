use Rattle.std.proofs.Common.{rules, ◌≡◌, ◌≤◌, List, ℕ, length, sym, subst}
use Rattle.te_script.specs.Scripts.{Program, IsScript}
use Rattle.te_reader.specs.Canonical.{canonical_text}
use Rattle.te_reader.specs.Text.{Text}
use Rattle.te_reader.specs.Limits.{most_bytes}
use Rattle.te_reader.proofs.CanonicalIsText.{canonical_is_text}
use Rattle.te_reader.proofs.printing.print_script.Goals as goal

-- the script keeps what its type says
kept : (p q : Program) (text : List ℕ) → p ≡ q → IsScript p → text ≡ canonical_text q → length text ≤ most_bytes → Text text q
kept p q text same script is size =
    subst (λ (t : List ℕ). Text t q) (sym is) (canonical_is_text q (subst IsScript same script) (subst (λ (t : List ℕ). length t ≤ most_bytes) is size))

pub returns-clause-read_again : goal.returns-clause-read_again
returns-clause-read_again c = λ size.
    let is : c.from.result ≡ canonical_text c.args.script.now = search rules in
    kept _ c.args.script.now c.from.result c.script.view_is c.script.invariant is size
