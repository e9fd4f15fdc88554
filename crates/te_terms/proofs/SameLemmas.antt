-- When two nodes are the same over their registers, part by part.
use Rattle.std.proofs.Common.{◌≡◌, ◌↔◌, ℕ, Bool, List, [], ◌∷◌, IsTrue, Some, refl, sym, ap, ◌∙◌}
use Rattle.te_terms.specs.declared.value.Atom.{Atom}
use Rattle.te_terms.specs.Values.{same_value}
use Rattle.te_terms.specs.Sameness.{Decides-same_value}
use Rattle.te_terms.specs.Expressions.{Variable, known}
use Rattle.te_terms.specs.declared.code.Node.{Node}
use Rattle.te_terms.specs.declared.code.Node.TheVariants as nodes
use Rattle.te_terms.specs.Terms.{Term, never, replaced}
use Rattle.te_terms.specs.Codes.{over}
use Rattle.te_terms.specs.Shape.{children}
use Rattle.te_terms.specs.Kept.{formed, second_level}

pub both_known : (b : Bool) (v w : List Atom) (x y : Variable) → b ≡ same_value v w → x ≡ known v → y ≡ known w → IsTrue b ↔ (x ≡ y)
both_known b v w x y e p q =
    (λ t. p ∙ ap known ((Decides-same_value v w).0 (sym e ∙ t)) ∙ sym q, λ same. e ∙ (Decides-same_value v w).1 (let k : known v ≡ known w = sym p ∙ same ∙ q in cc))

-- ---- a node over its parts

abbrev pub first_part : (ℕ → Term) → List ℕ → Term
first_part g [] = never
first_part g (a ∷ more) = g a

abbrev pub second_part : (ℕ → Term) → List ℕ → Term
second_part g (a ∷ b ∷ more) = g b
second_part g _ = never

pub over_formed : (g : ℕ → ℕ → Term) (level : ℕ) (m : Node) → over g level (Some m) ≡ formed m level (first_part (g level) (children m)) (second_part (g (second_level m level)) (children m))
over_formed g level (nodes.Always v) = refl
over_formed g level nodes.Never = refl
over_formed g level nodes.Fresh = refl
over_formed g level (nodes.Throw v) = refl
over_formed g level (nodes.Send o v) = refl
over_formed g level (nodes.Recv o) = refl
over_formed g level (nodes.Then a b) = refl
over_formed g level (nodes.Choose a b) = refl
over_formed g level (nodes.Catch a b) = refl
over_formed g level (nodes.If t a b) = refl

-- the same heads and the same parts make the same term
pub joined : (A B : Variable → Variable) (m n : Node) (l : ℕ) (e f e' f' : Term)
    → replaced A (formed m l never never) ≡ replaced B (formed n l never never) → replaced A e ≡ replaced B e' → replaced A f ≡ replaced B f'
    → replaced A (formed m l e f) ≡ replaced B (formed n l e' f')
joined A B (nodes.Always v) (nodes.Always v') l e f e' f' p q r = p
joined A B nodes.Never nodes.Never l e f e' f' p q r = p
joined A B nodes.Fresh nodes.Fresh l e f e' f' p q r = p
joined A B (nodes.Throw v) (nodes.Throw v') l e f e' f' p q r = p
joined A B (nodes.Send o v) (nodes.Send o' v') l e f e' f' p q r = p
joined A B (nodes.Recv o) (nodes.Recv o') l e f e' f' p q r = p
joined A B (nodes.Then a b) (nodes.Then a' b') l e f e' f' p q r = cc
joined A B (nodes.Choose a b) (nodes.Choose a' b') l e f e' f' p q r = cc
joined A B (nodes.Catch a b) (nodes.Catch a' b') l e f e' f' p q r = cc
joined A B (nodes.If t a b) (nodes.If t' a' b') l e f e' f' p q r = cc
joined A B _ _ l e f e' f' p q r = absurd cc

pub heads_of : (A B : Variable → Variable) (m n : Node) (l : ℕ) (e f e' f' : Term) → replaced A (formed m l e f) ≡ replaced B (formed n l e' f')
    → replaced A (formed m l never never) ≡ replaced B (formed n l never never)
heads_of A B (nodes.Always v) (nodes.Always v') l e f e' f' p = p
heads_of A B nodes.Never nodes.Never l e f e' f' p = p
heads_of A B nodes.Fresh nodes.Fresh l e f e' f' p = p
heads_of A B (nodes.Throw v) (nodes.Throw v') l e f e' f' p = p
heads_of A B (nodes.Send o v) (nodes.Send o' v') l e f e' f' p = p
heads_of A B (nodes.Recv o) (nodes.Recv o') l e f e' f' p = p
heads_of A B (nodes.Then a b) (nodes.Then a' b') l e f e' f' p = refl
heads_of A B (nodes.Choose a b) (nodes.Choose a' b') l e f e' f' p = refl
heads_of A B (nodes.Catch a b) (nodes.Catch a' b') l e f e' f' p = refl
heads_of A B (nodes.If t a b) (nodes.If t' a' b') l e f e' f' p = cc
heads_of A B _ _ l e f e' f' p = absurd cc

pub first_of : (A B : Variable → Variable) (m n : Node) (l x y : ℕ) (e f e' f' : Term) → children m ≡ x ∷ y ∷ []
    → replaced A (formed m l e f) ≡ replaced B (formed n l e' f') → replaced A e ≡ replaced B e'
first_of A B (nodes.Always v) (nodes.Always v') l x y e f e' f' two p = absurd cc
first_of A B nodes.Never nodes.Never l x y e f e' f' two p = absurd cc
first_of A B nodes.Fresh nodes.Fresh l x y e f e' f' two p = absurd cc
first_of A B (nodes.Throw v) (nodes.Throw v') l x y e f e' f' two p = absurd cc
first_of A B (nodes.Send o v) (nodes.Send o' v') l x y e f e' f' two p = absurd cc
first_of A B (nodes.Recv o) (nodes.Recv o') l x y e f e' f' two p = absurd cc
first_of A B (nodes.Then a b) (nodes.Then a' b') l x y e f e' f' two p = cc
first_of A B (nodes.Choose a b) (nodes.Choose a' b') l x y e f e' f' two p = cc
first_of A B (nodes.Catch a b) (nodes.Catch a' b') l x y e f e' f' two p = cc
first_of A B (nodes.If t a b) (nodes.If t' a' b') l x y e f e' f' two p = cc
first_of A B _ _ l x y e f e' f' two p = absurd cc

pub second_of : (A B : Variable → Variable) (m n : Node) (l x y : ℕ) (e f e' f' : Term) → children m ≡ x ∷ y ∷ []
    → replaced A (formed m l e f) ≡ replaced B (formed n l e' f') → replaced A f ≡ replaced B f'
second_of A B (nodes.Always v) (nodes.Always v') l x y e f e' f' two p = absurd cc
second_of A B nodes.Never nodes.Never l x y e f e' f' two p = absurd cc
second_of A B nodes.Fresh nodes.Fresh l x y e f e' f' two p = absurd cc
second_of A B (nodes.Throw v) (nodes.Throw v') l x y e f e' f' two p = absurd cc
second_of A B (nodes.Send o v) (nodes.Send o' v') l x y e f e' f' two p = absurd cc
second_of A B (nodes.Recv o) (nodes.Recv o') l x y e f e' f' two p = absurd cc
second_of A B (nodes.Then a b) (nodes.Then a' b') l x y e f e' f' two p = cc
second_of A B (nodes.Choose a b) (nodes.Choose a' b') l x y e f e' f' two p = cc
second_of A B (nodes.Catch a b) (nodes.Catch a' b') l x y e f e' f' two p = cc
second_of A B (nodes.If t a b) (nodes.If t' a' b') l x y e f e' f' two p = cc
second_of A B _ _ l x y e f e' f' two p = absurd cc

pub levels_same : (A B : Variable → Variable) (m n : Node) (l : ℕ) → replaced A (formed m l never never) ≡ replaced B (formed n l never never) → second_level m l ≡ second_level n l
levels_same A B (nodes.Always v) (nodes.Always v') l p = refl
levels_same A B nodes.Never nodes.Never l p = refl
levels_same A B nodes.Fresh nodes.Fresh l p = refl
levels_same A B (nodes.Throw v) (nodes.Throw v') l p = refl
levels_same A B (nodes.Send o v) (nodes.Send o' v') l p = refl
levels_same A B (nodes.Recv o) (nodes.Recv o') l p = refl
levels_same A B (nodes.Then a b) (nodes.Then a' b') l p = refl
levels_same A B (nodes.Choose a b) (nodes.Choose a' b') l p = refl
levels_same A B (nodes.Catch a b) (nodes.Catch a' b') l p = refl
levels_same A B (nodes.If t a b) (nodes.If t' a' b') l p = refl
levels_same A B _ _ l p = absurd cc

pub leaf_too : (A B : Variable → Variable) (m n : Node) (l : ℕ) → replaced A (formed m l never never) ≡ replaced B (formed n l never never) → children m ≡ [] → children n ≡ []
leaf_too A B (nodes.Always v) (nodes.Always v') l p none = refl
leaf_too A B nodes.Never nodes.Never l p none = refl
leaf_too A B nodes.Fresh nodes.Fresh l p none = refl
leaf_too A B (nodes.Throw v) (nodes.Throw v') l p none = refl
leaf_too A B (nodes.Send o v) (nodes.Send o' v') l p none = refl
leaf_too A B (nodes.Recv o) (nodes.Recv o') l p none = refl
leaf_too A B (nodes.Then a b) (nodes.Then a' b') l p none = absurd cc
leaf_too A B (nodes.Choose a b) (nodes.Choose a' b') l p none = absurd cc
leaf_too A B (nodes.Catch a b) (nodes.Catch a' b') l p none = absurd cc
leaf_too A B (nodes.If t a b) (nodes.If t' a' b') l p none = absurd cc
leaf_too A B _ _ l p none = absurd cc
