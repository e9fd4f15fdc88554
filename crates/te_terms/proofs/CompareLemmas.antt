-- The comparison of two terms, from that of their nodes and of the terms under their children.
use Rattle.std.proofs.Common.{◌≡◌, ◌↔◌, ℕ, Bool, true, false, List, [], ◌∷◌, IsTrue, Some, refl, sym, ap, ◌∙◌}
use Rattle.std.specs.Prelude.{slice_get}
use Rattle.te_terms.specs.declared.value.Atom.{Atom}
use Rattle.te_terms.specs.declared.code.Node.{Node}
use Rattle.te_terms.specs.Terms.{never, replaced, registers_to}
use Rattle.te_terms.specs.Codes.{over, term_at}
use Rattle.te_terms.specs.Shape.{children, IsForest}
use Rattle.te_terms.specs.Kept.{formed, second_level, Compares}
use Rattle.te_terms.proofs.TermLemmas.{term_at_is}
use Rattle.te_terms.proofs.SameLemmas.{first_part, second_part, over_formed, joined, heads_of, first_of, second_of, levels_same, leaf_too}

-- node i of the code is this one
abbrev pub IsAt : List Node → ℕ → Node → Type 0
IsAt code i m = IsForest code × (slice_get code i ≡ Some m)

whole : (code : List Node) (i : ℕ) (m : Node) → IsAt code i m → (l : ℕ) →
    term_at code l i ≡ formed m l (first_part (term_at code l) (children m)) (second_part (term_at code (second_level m l)) (children m))
whole code i m h l = term_at_is code h.0.earlier l i ∙ ap (over (term_at code) l) h.1 ∙ over_formed (term_at code) l m

leaf : (code : List Node) (i : ℕ) (m : Node) → IsAt code i m → children m ≡ [] → (l : ℕ) → term_at code l i ≡ formed m l never never
leaf code i m h none l =
    whole code i m h l ∙ ap (λ cs. formed m l (first_part (term_at code l) cs) (second_part (term_at code (second_level m l)) cs)) none

inner : (code : List Node) (i : ℕ) (m : Node) → IsAt code i m → (a b : ℕ) → children m ≡ a ∷ b ∷ [] → (l : ℕ) →
    term_at code l i ≡ formed m l (term_at code l a) (term_at code (second_level m l) b)
inner code i m h a b two l =
    whole code i m h l ∙ ap (λ cs. formed m l (first_part (term_at code l) cs) (second_part (term_at code (second_level m l)) cs)) two

-- what the comparison of the nodes tells, at a level
abbrev pub Heads : List (List Atom) → Node → List (List Atom) → Node → ℕ → Type 0
Heads regs m others n l = replaced (registers_to regs) (formed m l never never) ≡ replaced (registers_to others) (formed n l never never)

pub nodes_differ : (code : List Node) (i : ℕ) (m : Node) (regs : List (List Atom)) (other : List Node) (j : ℕ) (n : Node) (others : List (List Atom)) → IsAt code i m → IsAt other j n →
    ((l : ℕ) → IsTrue false ↔ Heads regs m others n l) → Compares false code i regs other j others
nodes_differ code i m regs other j n others h k test = record {
  at = λ l. (
    λ t. absurd cc,
    λ e. (test l).1 (heads_of (registers_to regs) (registers_to others) m n l (first_part (term_at code l) (children m))
        (second_part (term_at code (second_level m l)) (children m)) (first_part (term_at other l) (children n))
        (second_part (term_at other (second_level n l)) (children n))
        (sym (ap (replaced (registers_to regs)) (whole code i m h l)) ∙ e ∙ ap (replaced (registers_to others)) (whole other j n k l))),
  );
}

pub leaves_same : (code : List Node) (i : ℕ) (m : Node) (regs : List (List Atom)) (other : List Node) (j : ℕ) (n : Node) (others : List (List Atom)) → IsAt code i m → IsAt other j n →
    children m ≡ [] → ((l : ℕ) → Heads regs m others n l) → Compares true code i regs other j others
leaves_same code i m regs other j n others h k none same = record {
  at = λ l. (
    λ t. ap (replaced (registers_to regs)) (leaf code i m h none l) ∙ same l ∙
        sym (ap (replaced (registers_to others)) (leaf other j n k (leaf_too (registers_to regs) (registers_to others) m n l (same l) none) l)),
    λ e. refl,
  );
}

pub leaves_same' : (code : List Node) (i : ℕ) (m : Node) (regs : List (List Atom)) (other : List Node) (j : ℕ) (n : Node) (others : List (List Atom)) → IsAt code i m → IsAt other j n →
    children n ≡ [] → ((l : ℕ) → Heads regs m others n l) → Compares true code i regs other j others
leaves_same' code i m regs other j n others h k none same =
    leaves_same code i m regs other j n others h k (leaf_too (registers_to others) (registers_to regs) n m 0 (sym (same 0)) none) same

pub firsts_differ : (code : List Node) (i : ℕ) (m : Node) (regs : List (List Atom)) (other : List Node) (j : ℕ) (n : Node) (others : List (List Atom)) → IsAt code i m → IsAt other j n →
    (a b c d : ℕ) → children m ≡ a ∷ b ∷ [] → children n ≡ c ∷ d ∷ [] → Compares false code a regs other c others → Compares false code i regs other j others
firsts_differ code i m regs other j n others h k a b c d two two' first = record {
  at = λ l. (
    λ t. absurd cc,
    λ e. (first.at l).1 (first_of (registers_to regs) (registers_to others) m n l a b (term_at code l a) (term_at code (second_level m l) b)
        (term_at other l c) (term_at other (second_level n l) d) two
        (sym (ap (replaced (registers_to regs)) (inner code i m h a b two l)) ∙ e ∙ ap (replaced (registers_to others)) (inner other j n k c d two' l))),
  );
}

pub seconds_tell : (code : List Node) (i : ℕ) (m : Node) (regs : List (List Atom)) (other : List Node) (j : ℕ) (n : Node) (others : List (List Atom)) → IsAt code i m → IsAt other j n →
    (a b c d : ℕ) (test : Bool) → children m ≡ a ∷ b ∷ [] → children n ≡ c ∷ d ∷ [] → ((l : ℕ) → Heads regs m others n l)
    → Compares true code a regs other c others → Compares test code b regs other d others →
    Compares test code i regs other j others
seconds_tell code i m regs other j n others h k a b c d test two two' same first second = record {
  at = λ l.
      let levels = levels_same (registers_to regs) (registers_to others) m n l (same l) in
      let left = ap (replaced (registers_to regs)) (inner code i m h a b two l) in
      let right = ap (replaced (registers_to others)) (inner other j n k c d two' l) in (
        λ t. left ∙ joined (registers_to regs) (registers_to others) m n l (term_at code l a) (term_at code (second_level m l) b) (term_at other l c)
            (term_at other (second_level n l) d) (same l) ((first.at l).0 refl)
            ((second.at (second_level m l)).0 t ∙ ap (λ x. replaced (registers_to others) (term_at other x d)) levels) ∙ sym right,
        λ e. (second.at (second_level m l)).1
            (second_of (registers_to regs) (registers_to others) m n l a b (term_at code l a) (term_at code (second_level m l) b) (term_at other l c)
            (term_at other (second_level n l) d) two (sym left ∙ e ∙ right)
            ∙ sym (ap (λ x. replaced (registers_to others) (term_at other x d)) levels)),
      );
}
