-- The term under a node: how it unfolds, and what later nodes and the level leave of it.
use Rattle.std.proofs.Common.{◌≡◌, ℕ, zero, suc, ◌<◌, List, [], ◌∷◌, ◌++◌, length, Option, Some, None, refl, ◌∙◌, arith}
use Rattle.std.specs.Prelude.{slice_get}
use Rattle.te_terms.specs.declared.code.Node.{Node}
use Rattle.te_terms.specs.declared.code.Node.TheVariants as nodes
use Rattle.te_terms.specs.Terms.{Term}
use Rattle.te_terms.specs.Codes.{over, term_within, term_at}
use Rattle.te_terms.specs.Shape.{NamesEarlier}
use Rattle.te_terms.proofs.Lists.{get_front}

-- each node names earlier ones
abbrev pub IsEarlier : List Node → Type 0
IsEarlier code = (i : ℕ) (node : Node) → slice_get code i ≡ Some node → NamesEarlier i node

-- the term of a node depends on those under its children alone
over_same : (f g : ℕ → ℕ → Term) (level i : ℕ) (node : Node) → NamesEarlier i node → ((l c : ℕ) → c < i → f l c ≡ g l c) → over f level (Some node) ≡ over g level (Some node)
over_same f g level i (nodes.Always e) h same = refl
over_same f g level i nodes.Never h same = refl
over_same f g level i nodes.Fresh h same = refl
over_same f g level i (nodes.Throw e) h same = refl
over_same f g level i (nodes.Send p e) h same = refl
over_same f g level i (nodes.Recv p) h same = refl
over_same f g level i (nodes.Then a b) h same = rw (same level a h.0, same (suc level) b h.1.0) refl
over_same f g level i (nodes.Choose a b) h same = rw (same level a h.0, same level b h.1.0) refl
over_same f g level i (nodes.Catch a b) h same = rw (same level a h.0, same (suc level) b h.1.0) refl
over_same f g level i (nodes.If c a b) h same = rw (same level a h.0, same level b h.1.0) refl

over_option : (f g : ℕ → ℕ → Term) (level i : ℕ) (o : Option Node) → ((node : Node) → o ≡ Some node → NamesEarlier i node) → ((l c : ℕ) → c < i → f l c ≡ g l c) → over f level o ≡ over g level o
over_option f g level i None h same = refl
over_option f g level i (Some node) h same = over_same f g level i node (h node refl) same

-- the rounds don't matter where there are enough of them
within_same : (code : List Node) → IsEarlier code → (n m level i : ℕ) → i < n → i < m → term_within n code level i ≡ term_within m code level i
within_same code earlier zero m level i h k = absurd (omega arith)
within_same code earlier (suc n) zero level i h k = absurd (omega arith)
within_same code earlier (suc n) (suc m) level i h k =
    over_option (term_within n code) (term_within m code) level i (slice_get code i) (earlier i)
    (λ l c less. within_same code earlier n m l c (omega arith) (omega arith))

-- a node's term is over those under its children
pub term_at_is : (code : List Node) → IsEarlier code → (level i : ℕ) → term_at code level i ≡ over (term_at code) level (slice_get code i)
term_at_is code earlier level i =
    over_option (term_within i code) (term_at code) level i (slice_get code i) (earlier i)
    (λ l c less. within_same code earlier i (suc c) l c less (omega arith))

pub slice_get_seam : {A : Type 0} (xs : List A) (y : A) (ys : List A) → slice_get (xs ++ y ∷ ys) (length xs) ≡ Some y
slice_get_seam [] y ys = refl
slice_get_seam (x ∷ xs) y ys = slice_get_seam xs y ys

-- nodes that are appended leave the terms as they are
within_append : (code more : List Node) → IsEarlier code → (n level i : ℕ) → i < length code → term_within n (code ++ more) level i ≡ term_within n code level i
within_append code more earlier zero level i h = refl
within_append code more earlier (suc n) level i h =
    rw (get_front code more i h) (over_option (term_within n (code ++ more)) (term_within n code) level i (slice_get code i) (earlier i)
    (λ l c less. within_append code more earlier n l c (omega arith)))

pub term_at-append : (code more : List Node) → IsEarlier code → (level i : ℕ) → i < length code → term_at (code ++ more) level i ≡ term_at code level i
term_at-append code more earlier level i h = within_append code more earlier (suc i) level i h

-- the term of an appended node
pub term_at_new : (code : List Node) (node : Node) → IsEarlier code → NamesEarlier (length code) node → (level : ℕ) →
    term_at (code ++ node ∷ []) level (length code) ≡ over (term_at code) level (Some node)
term_at_new code node earlier names level =
    rw (slice_get_seam code node []) (over_same (term_within (length code) (code ++ node ∷ [])) (term_at code) level (length code) node names
    (λ l c less. within_append code (node ∷ []) earlier (length code) l c less ∙ within_same code earlier (length code) (suc c) l c less (omega arith)))
