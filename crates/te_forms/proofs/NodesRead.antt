-- What stands under a node that is read, and when it names no channel of a ring.
use Rattle.std.proofs.Common.{◌≡◌, ◌↔◌, ℕ, Bool, true, false, List, [], ◌∷◌, IsTrue, Option, Some, refl, sym, ap, subst, ◌∙◌}
use Rattle.std.specs.Prelude.{slice_get}
use Rattle.te_terms.specs.declared.value.Atom.{Atom}
use Rattle.te_terms.specs.declared.code.Node.{Node}
use Rattle.te_terms.specs.declared.code.Node.TheVariants as nodes
use Rattle.te_terms.specs.Terms.{Term, never, replaced, registers_to}
use Rattle.te_terms.specs.Codes.{over, term_at}
use Rattle.te_terms.specs.Shape.{children, IsForest}
use Rattle.te_terms.specs.Kept.{formed, second_level}
use Rattle.te_terms.proofs.TermLemmas.{term_at_is}
use Rattle.te_forms.specs.Privacy.{TermAvoids}
use Rattle.te_forms.specs.Reading.{replaced_under}

-- ---- the term of a node

-- node i of the code is this one, or there is none
pub node_at : (code : List Node) (i : ℕ) (o : Option Node) → IsForest code → o ≡ slice_get code i → (level : ℕ) → term_at code level i ≡ over (term_at code) level o
node_at code i o forest at level = term_at_is code forest.earlier level i ∙ ap (over (term_at code) level) (sym at)

pub under_node : (code : List Node) (regs : List (List Atom)) (i : ℕ) (o : Option Node) → IsForest code → o ≡ slice_get code i → (level : ℕ)
    → replaced_under code regs level i ≡ replaced (registers_to regs) (over (term_at code) level o)
under_node code regs i o forest at level = ap (replaced (registers_to regs)) (node_at code i o forest at level)

leaf_formed : (f : ℕ → ℕ → Term) (level : ℕ) (m : Node) → children m ≡ [] → over f level (Some m) ≡ formed m level never never
leaf_formed f level (nodes.Always e) none = refl
leaf_formed f level nodes.Never none = refl
leaf_formed f level nodes.Fresh none = refl
leaf_formed f level (nodes.Throw e) none = refl
leaf_formed f level (nodes.Send p e) none = refl
leaf_formed f level (nodes.Recv p) none = refl
leaf_formed f level (nodes.Then a b) none = absurd cc
leaf_formed f level (nodes.Choose a b) none = absurd cc
leaf_formed f level (nodes.Catch a b) none = absurd cc
leaf_formed f level (nodes.If c a b) none = absurd cc

two_formed : (f : ℕ → ℕ → Term) (level : ℕ) (m : Node) (a b : ℕ) → children m ≡ a ∷ b ∷ [] → over f level (Some m) ≡ formed m level (f level a) (f (second_level m level) b)
two_formed f level (nodes.Always e) a b two = absurd cc
two_formed f level nodes.Never a b two = absurd cc
two_formed f level nodes.Fresh a b two = absurd cc
two_formed f level (nodes.Throw e) a b two = absurd cc
two_formed f level (nodes.Send p e) a b two = absurd cc
two_formed f level (nodes.Recv p) a b two = absurd cc
two_formed f level (nodes.Then c d) a b two = let first : c ≡ a = cc in let second : d ≡ b = cc in rw (first, second) refl
two_formed f level (nodes.Choose c d) a b two = let first : c ≡ a = cc in let second : d ≡ b = cc in rw (first, second) refl
two_formed f level (nodes.Catch c d) a b two = let first : c ≡ a = cc in let second : d ≡ b = cc in rw (first, second) refl
two_formed f level (nodes.If t c d) a b two = let first : c ≡ a = cc in let second : d ≡ b = cc in rw (first, second) refl

-- ---- what it names

module _ (ring : List ℕ) (regs : List (List Atom)) where
  abbrev Avoids : Term → Type 0
  Avoids t = TermAvoids ring (replaced (registers_to regs) t)

  -- a node with its parts names no channel where itself and both parts name none
  parts_avoid : (level : ℕ) (m : Node) (a b : ℕ) (e f : Term) → children m ≡ a ∷ b ∷ [] → Avoids (formed m level never never) → Avoids e → Avoids f → Avoids (formed m level e f)
  parts_avoid level (nodes.Always x) a b e f two own first second = absurd cc
  parts_avoid level nodes.Never a b e f two own first second = absurd cc
  parts_avoid level nodes.Fresh a b e f two own first second = absurd cc
  parts_avoid level (nodes.Throw x) a b e f two own first second = absurd cc
  parts_avoid level (nodes.Send p x) a b e f two own first second = absurd cc
  parts_avoid level (nodes.Recv p) a b e f two own first second = absurd cc
  parts_avoid level (nodes.Then c d) a b e f two own first second = (first, second)
  parts_avoid level (nodes.Choose c d) a b e f two own first second = (first, second)
  parts_avoid level (nodes.Catch c d) a b e f two own first second = (first, second)
  parts_avoid level (nodes.If t c d) a b e f two own first second = (own.0, own.1, first, second)

  over_avoids : (f : ℕ → ℕ → Term) (level : ℕ) (m : Node) → Avoids (over f level (Some m)) → Avoids (formed m level never never)
  over_avoids f level (nodes.Always x) all = all
  over_avoids f level nodes.Never all = all
  over_avoids f level nodes.Fresh all = all
  over_avoids f level (nodes.Throw x) all = all
  over_avoids f level (nodes.Send p x) all = all
  over_avoids f level (nodes.Recv p) all = all
  over_avoids f level (nodes.Then c d) all = (tt, tt)
  over_avoids f level (nodes.Choose c d) all = (tt, tt)
  over_avoids f level (nodes.Catch c d) all = (tt, tt)
  over_avoids f level (nodes.If t c d) all = (all.0, all.1, tt, tt)

  both_avoid : (level : ℕ) (m : Node) (a b : ℕ) (e f : Term) → children m ≡ a ∷ b ∷ [] → Avoids (formed m level e f) → Avoids e × Avoids f
  both_avoid level (nodes.Always x) a b e f two all = absurd cc
  both_avoid level nodes.Never a b e f two all = absurd cc
  both_avoid level nodes.Fresh a b e f two all = absurd cc
  both_avoid level (nodes.Throw x) a b e f two all = absurd cc
  both_avoid level (nodes.Send p x) a b e f two all = absurd cc
  both_avoid level (nodes.Recv p) a b e f two all = absurd cc
  both_avoid level (nodes.Then c d) a b e f two all = all
  both_avoid level (nodes.Choose c d) a b e f two all = all
  both_avoid level (nodes.Catch c d) a b e f two all = all
  both_avoid level (nodes.If t c d) a b e f two all = (all.2, all.3)

  -- the test of a node that is there
  module _ (code : List Node) (i : ℕ) (m : Node) (forest : IsForest code) (at : Some m ≡ slice_get code i) where
    whole : (level : ℕ) → term_at code level i ≡ over (term_at code) level (Some m)
    whole level = node_at code i (Some m) forest at level

    pub leaf_tells : (test : Bool) → children m ≡ [] → ((level : ℕ) → IsTrue test ↔ Avoids (formed m level never never))
        → (level : ℕ) → IsTrue test ↔ TermAvoids ring (replaced_under code regs level i)
    leaf_tells test none tells level =
        subst (λ (t : Term). IsTrue test ↔ Avoids t) (sym (whole level ∙ leaf_formed (term_at code) level m none)) (tells level)

    -- where the node itself names one
    pub node_names : ((level : ℕ) → IsTrue false ↔ Avoids (formed m level never never)) → (level : ℕ) → IsTrue false ↔ TermAvoids ring (replaced_under code regs level i)
    node_names tells level = (λ t. absurd cc, λ all. (tells level).1 (over_avoids (term_at code) level m (subst Avoids (whole level) all)))

    inner : (a b : ℕ) → children m ≡ a ∷ b ∷ [] → (level : ℕ) → term_at code level i ≡ formed m level (term_at code level a) (term_at code (second_level m level) b)
    inner a b two level = whole level ∙ two_formed (term_at code) level m a b two

    -- where its first part does
    pub first_names : (a b : ℕ) → children m ≡ a ∷ b ∷ [] → ((level : ℕ) → IsTrue false ↔ TermAvoids ring (replaced_under code regs level a))
        → (level : ℕ) → IsTrue false ↔ TermAvoids ring (replaced_under code regs level i)
    first_names a b two tells level = (
      λ t. absurd cc,
      λ all. (tells level).1 (both_avoid level m a b (term_at code level a) (term_at code (second_level m level) b) two (subst Avoids (inner a b two level) all)).0,
    )

    -- and where only its second part may
    pub second_tells : (test : Bool) (a b : ℕ) → children m ≡ a ∷ b ∷ [] → ((level : ℕ) → IsTrue true ↔ Avoids (formed m level never never))
        → ((level : ℕ) → IsTrue true ↔ TermAvoids ring (replaced_under code regs level a)) → ((level : ℕ) → IsTrue test ↔ TermAvoids ring (replaced_under code regs level b))
        → (level : ℕ) → IsTrue test ↔ TermAvoids ring (replaced_under code regs level i)
    second_tells test a b two own first second level = (
      λ t. subst Avoids (sym (inner a b two level))
          (parts_avoid level m a b (term_at code level a) (term_at code (second_level m level) b) two ((own level).0 refl) ((first level).0 refl) ((second (second_level m level)).0 t)),
      λ all. (second (second_level m level)).1
          (both_avoid level m a b (term_at code level a) (term_at code (second_level m level) b) two (subst Avoids (inner a b two level) all)).1,
    )
