-- The event that is made of a list of nodes.
use Rattle.std.proofs.Common.{◌≡◌, ℕ, zero, suc, ◌-◌, ◌≤◌, List, [], ◌∷◌, length, take, refl, ap, ◌∙◌, arith}
use Rattle.te_terms.specs.declared.value.Atom.{Atom}
use Rattle.te_terms.specs.declared.code.Node.{Node}
use Rattle.te_terms.specs.Terms.{Term, closed}
use Rattle.te_terms.specs.Codes.{term_under}

take_all : (xs : List Node) (i : ℕ) → length xs ≤ i → take i xs ≡ xs
take_all [] zero past = refl
take_all [] (suc i) past = refl
take_all (x ∷ xs) zero past = absurd (omega (arith, past))
take_all (x ∷ xs) (suc i) past = ap (λ (ys : List Node). x ∷ ys) (take_all xs i (omega (arith, past)))

-- register 0 has the value, the others this
abbrev pub registers : List Atom → List Atom → List (List Atom)
registers value unit = value ∷ unit ∷ unit ∷ unit ∷ unit ∷ unit ∷ unit ∷ unit ∷ []

pub made : (nodes code kept : List Node) (i len : ℕ) (value unit : List Atom) (event : Term) → kept ≡ code → code ≡ take i nodes → length nodes ≤ i → len ≡ length code → unit ≡ []
    → event ≡ closed (registers value unit) (term_under kept (len - 1)) → event ≡ closed (registers value []) (term_under nodes (length nodes - 1))
made nodes code kept i len value unit event same so_far past long nothing is =
    let whole : code ≡ nodes = so_far ∙ take_all nodes i past in
    is
    ∙ ap (λ (u : List Atom). closed (registers value u) (term_under kept (len - 1))) nothing
    ∙ ap (λ (ns : List Node). closed (registers value []) (term_under ns (len - 1))) (same ∙ whole)
    ∙ ap (λ (n : ℕ). closed (registers value []) (term_under nodes (n - 1))) (long ∙ ap length whole)
