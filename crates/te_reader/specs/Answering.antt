-- What calls answer of what is read. Contracts inside this crate cite it.
use Rattle.std.specs.Prelude.{◌≡◌, ℕ, suc, ◌+◌, ◌<◌, ◌≤◌, ◌⊎◌, List, [], ◌∷◌, ◌++◌, length, Option, Some, None, Result, Ok, Err}
use Rattle.te_terms.specs.declared.code.Node.{Node}
use Rattle.te_terms.specs.declared.code.Node.TheVariants as nodes
use Rattle.te_terms.specs.Codes.{term_at, term_under}
use Rattle.te_terms.specs.Terms.{Term}
use Rattle.te_terms.specs.Shape.{times_named, fresh_nodes, IsForest, term_over}
use Rattle.te_terms.specs.Measures.{height, node_count, fresh_count}
use Rattle.te_script.specs.Scripts.{Program}
use Rattle.te_reader.specs.declared.refusal.Refusal.{Refusal}
use Rattle.te_reader.specs.declared.refusal.Refusal.TheVariants as faults
use Rattle.te_reader.specs.Lexed.{Stream}
use Rattle.te_reader.specs.Grammar.{Names}
use Rattle.te_reader.specs.NameReads.{Read}
use Rattle.te_terms.specs.Limits.{most_nodes, most_fresh, greatest_height}

-- what is read must be what a call answers, with the tokens behind it; want of memory tells nothing
abbrev pub AnswersRead : {R X : Type 0} → Result R Refusal → (R → X) → Stream → Stream → Read X → Type 0
AnswersRead (Ok r) seen old new o = (o ≡ Some (seen r, new.tokens)) × (new.whole ≡ old.whole)
AnswersRead (Err faults.Refused) seen old new o = o ≡ None
AnswersRead (Err faults.Memory) seen old new o = Unit {0}

-- the first node of a code, as a term
abbrev pub leaf : Node → Term
leaf node = term_under (node ∷ []) 0

-- a code that grew
pub record CodeExtends (before after : List Node) : Type 0 where
  pub added : List Node
  pub appended : after ≡ before ++ added

-- a code that grew by the nodes of one event, of which the last is the root; nothing names the root yet, and what is new names nothing old
pub record IsBuilt (level : ℕ) (before after : List Node) (root : ℕ) : Type 0 where
  pub forest : IsForest after
  pub added : List Node
  pub appended : after ≡ before ++ added
  pub last : length after ≡ suc root
  pub nodes : length after ≡ length before + node_count (term_at after level root)
  pub fresh : fresh_nodes after ≡ fresh_nodes before + fresh_count (term_at after level root)
  pub free : times_named root after ≡ 0
  pub others : (c : ℕ) → c < length before → times_named c after ≡ times_named c before

-- the event that is read must be the one under the root that a call answers, all of whose nodes are new
abbrev pub AnswersEvent : Result ℕ Refusal → ℕ → List Node → List Node → Stream → Stream → Read Term → Type 0
AnswersEvent (Ok root) level before after old new o =
    (o ≡ Some (term_at after level root, new.tokens))
    × (new.whole ≡ old.whole) × IsBuilt level before after root
AnswersEvent (Err faults.Refused) level before after old new o = o ≡ None
AnswersEvent (Err faults.Memory) level before after old new o = Unit {0}

-- the event of a sync was read behind some nodes; where none stood before, a refusal says that none is read there
abbrev pub AnswersSync : Result ℕ Refusal → List Node → List Node → Stream → Stream → Read Term → Type 0
AnswersSync (Ok root) before after old new o = (o ≡ Some (term_under after root, new.tokens)) × (new.whole ≡ old.whole) × (root < length after)
AnswersSync (Err faults.Refused) before after old new o = before ≡ [] → o ≡ None
AnswersSync (Err faults.Memory) before after old new o = Unit {0}

-- a node was put behind the others, or the limits refuse it
abbrev pub Puts : Result ℕ Refusal → List Node → List Node → Node → Type 0
Puts (Ok root) before after node =
    (root ≡ length before) × (after ≡ before ++ node ∷ []) × (length before < most_nodes) × (height (term_over before node) ≤ greatest_height)
    × IsForest before × IsForest after
Puts (Err faults.Refused) before after node =
    (most_nodes ≤ length before) ⊎ (((node ≡ nodes.Fresh) × (most_fresh ≤ fresh_nodes before)) ⊎ (greatest_height < height (term_over before node)))
Puts (Err faults.Memory) before after node = Unit {0}

-- what stands at the front, where it is of the kind that is wanted, is taken; else nothing is
abbrev pub TakesSome : {A : Type 0} → Option A → Stream → Stream → Read A → Type 0
TakesSome (Some a) old new o = (o ≡ Some (a, new.tokens)) × (new.whole ≡ old.whole)
TakesSome None old new o = (o ≡ None) × (new ≡ old)

-- names with one more inner name, or what refused it
abbrev pub Binds : Result (Unit {0}) Refusal → Names → Option Names → Type 0
Binds (Ok u) new o = o ≡ Some new
Binds (Err faults.Refused) new o = o ≡ None
Binds (Err faults.Memory) new o = Unit {0}

-- names with one more, or what refused it
abbrev pub Declares : Result (Unit {0}) Refusal → List (List ℕ) → Option (List (List ℕ)) → Type 0
Declares (Ok u) new o = o ≡ Some new
Declares (Err faults.Refused) new o = o ≡ None
Declares (Err faults.Memory) new o = Unit {0}

abbrev pub DeclaresChannel : Result (List (List ℕ)) Refusal → Option (List (List ℕ)) → Type 0
DeclaresChannel (Ok more) o = o ≡ Some more
DeclaresChannel (Err faults.Refused) o = o ≡ None
DeclaresChannel (Err faults.Memory) o = Unit {0}

abbrev pub DeclaresRegister : Result ℕ Refusal → List (List ℕ) → Option (ℕ × List (List ℕ)) → Type 0
DeclaresRegister (Ok r) new o = o ≡ Some (r, new)
DeclaresRegister (Err faults.Refused) new o = o ≡ None
DeclaresRegister (Err faults.Memory) new o = Unit {0}

-- the program of a script, or none where it is refused
abbrev pub AnswersText : Result Program Refusal → Option Program → Type 0
AnswersText (Ok p) o = o ≡ Some p
AnswersText (Err faults.Refused) o = o ≡ None
AnswersText (Err faults.Memory) o = Unit {0}
