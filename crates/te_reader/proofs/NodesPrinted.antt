-- The term under a node that is printed.
use Rattle.std.proofs.Common.{◌≡◌, ℕ, ◌<◌, List, [], ◌∷◌, Some, refl, ap, subst, ◌∙◌}
use Rattle.std.specs.Prelude.{slice_get}
use Rattle.std.specs.List.{AllByRecursion}
use Rattle.te_terms.specs.declared.code.Node.{Node}
use Rattle.te_terms.specs.declared.lent.NodeView.{NodeView}
use Rattle.te_terms.specs.declared.lent.NodeView.TheVariants as views
use Rattle.te_terms.specs.declared.expr.Cond.{Cond}
use Rattle.te_terms.specs.Codes.{over, term_at}
use Rattle.te_terms.specs.Views.{node_seen}
use Rattle.te_terms.specs.Shape.{IsForest, children}
use Rattle.te_terms.proofs.TermLemmas.{term_at_is}
use Rattle.te_reader.specs.Answering.{leaf}
use Rattle.te_reader.proofs.BuiltLemmas.{leaf_over}

pub term_is : (code : List Node) (level i : ℕ) (m : Node) → IsForest code → slice_get code i ≡ Some m → term_at code level i ≡ over (term_at code) level (Some m)
term_is code level i m forest e = term_at_is code forest.earlier level i ∙ ap (over (term_at code) level) e

-- a node without parts
pub no_parts_seen : (n : NodeView) → ((a b : ℕ) → n ≡ views.Then a b → ⊥) → ((a b : ℕ) → n ≡ views.Choose a b → ⊥) → ((a b : ℕ) → n ≡ views.Catch a b → ⊥)
    → ((c : Cond) (a b : ℕ) → n ≡ views.If c a b → ⊥) → children (node_seen n) ≡ []
no_parts_seen (views.Always e) t c h i = refl
no_parts_seen views.Never t c h i = refl
no_parts_seen views.Fresh t c h i = refl
no_parts_seen (views.Throw e) t c h i = refl
no_parts_seen (views.Send p e) t c h i = refl
no_parts_seen (views.Recv p) t c h i = refl
no_parts_seen (views.Then a b) t c h i = absurd (t a b refl)
no_parts_seen (views.Choose a b) t c h i = absurd (c a b refl)
no_parts_seen (views.Catch a b) t c h i = absurd (h a b refl)
no_parts_seen (views.If q a b) t c h i = absurd (i q a b refl)

pub leaf_is : (code : List Node) (level i : ℕ) (m : Node) → IsForest code → children m ≡ [] → slice_get code i ≡ Some m → term_at code level i ≡ leaf m
leaf_is code level i m forest none e = term_is code level i m forest e ∙ leaf_over (term_at code) level m none

-- the parts of a node are earlier
pub parts_earlier : (code : List Node) (i a b : ℕ) (m : Node) → IsForest code → children m ≡ a ∷ b ∷ [] → slice_get code i ≡ Some m → (a < i) × (b < i)
parts_earlier code i a b m forest two e =
    let earlier = subst (λ (cs : List ℕ). AllByRecursion (λ c. c < i) cs) two (forest.earlier i m e) in
    (earlier.0, earlier.1.0)
