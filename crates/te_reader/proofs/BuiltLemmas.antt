-- A code that grew by the nodes of one event: by a node without parts, and by a node over two events.
use Rattle.std.proofs.Common.{◌≡◌, ℕ, zero, suc, ◌+◌, ◌<◌, ◌≤◌, ◌⊎◌, inl, inr, Bool, true, false, cond, eqb, zero-add}
use Rattle.std.proofs.Common.{List, [], ◌∷◌, ◌++◌, length, refl, sym, ◌∙◌, ap, append_assoc, length-append, arith}
use Rattle.std.specs.Prelude.{Option, Some, None, Result, Ok, Err, ◌==◌, ◌&&◌, nat_le, slice_get}
use Rattle.std.specs.List.{count_by}
use Rattle.std.proofs.lemmas.List.Sums.{sum_by_push}
use Rattle.std.proofs.lemmas.Bool.Decides.{nat_tests}
use Rattle.te_terms.specs.declared.code.Node.{Node}
use Rattle.te_terms.specs.declared.code.Node.TheVariants as nodes
use Rattle.te_terms.specs.Terms.{Term, always, never, fresh, throw, send, recv, and_then, choose, catch, when}
use Rattle.te_terms.specs.Codes.{over, term_within, term_at}
use Rattle.te_terms.specs.Shape.{children, times_in, one_if_fresh, fresh_nodes, HasFreeChildren, term_over}
use Rattle.te_terms.specs.Measures.{height, node_count, fresh_count}
use Rattle.te_terms.specs.Kept.{second_level, formed}
use Rattle.te_terms.proofs.TermLemmas.{term_at-append, term_at_new}
use Rattle.te_terms.proofs.ChildLemmas.{times_named_push, leaf_is_free, two_free}
use Rattle.te_terms.proofs.KeptLemmas.{free_earlier}
use Rattle.te_terms.proofs.KeptLemmas.{none_named}
use Rattle.te_reader.proofs.TallyLemmas.{tally_same}
use Rattle.te_reader.specs.declared.refusal.Refusal.{Refusal}
use Rattle.te_reader.specs.declared.refusal.Refusal.TheVariants as faults
use Rattle.te_reader.specs.Lexed.{Stream}
use Rattle.te_reader.specs.Grammar.{Names}
use Rattle.te_reader.specs.NameReads.{Read}
use Rattle.te_reader.specs.Tallies.{Tally, HasRoom, tally, tally_with_event}
use Rattle.te_reader.specs.EventReads.{is_within, made, read_leaf, read_one}
use Rattle.te_reader.specs.Answering.{leaf, IsBuilt, AnswersEvent, Puts}
use Rattle.te_terms.proofs.ChildLemmas.{times_none}
use Rattle.te_terms.proofs.Measured.{some_nodes}

-- ---- limits

second_false : (a c : Bool) → (a && false && c) ≡ false
second_false true c = refl
second_false false c = refl

third_false : (a b : Bool) → (a && b && false) ≡ false
third_false true true = refl
third_false true false = refl
third_false false b = refl

pub made_within : (used : Tally) (t : Term) (ts : List _) → HasRoom used t → height t ≤ 32 → made used t ts ≡ Some (t, ts)
unfolding made
made_within used t ts few low =
    let a : nat_le (used.nodes + node_count t) 4096 ≡ true = grind (arith, nat_tests, few.0) in
    let b : nat_le (used.fresh + fresh_count t) 16 ≡ true = grind (arith, nat_tests, few.1) in
    let c : nat_le (height t) 32 ≡ true = grind (arith, nat_tests, low) in
    rw (a, b, c) refl

pub made_beyond : (used : Tally) (t : Term) (ts : List _) → (4096 < used.nodes + node_count t) ⊎ ((16 < used.fresh + fresh_count t) ⊎ (32 < height t)) → made used t ts ≡ None
unfolding made
made_beyond used t ts (inl many) = let a : nat_le (used.nodes + node_count t) 4096 ≡ false = grind (arith, nat_tests, many) in rw a refl
made_beyond used t ts (inr (inl many)) =
    let b : nat_le (used.fresh + fresh_count t) 16 ≡ false = grind (arith, nat_tests, many) in
    let over : is_within used t ≡ false = rw b (second_false (nat_le (used.nodes + node_count t) 4096) (nat_le (height t) 32)) in
    rw over refl
made_beyond used t ts (inr (inr high)) =
    let c : nat_le (height t) 32 ≡ false = grind (arith, nat_tests, high) in
    let over : is_within used t ≡ false = rw c (third_false (nat_le (used.nodes + node_count t) 4096) (nat_le (used.fresh + fresh_count t) 16)) in
    rw over refl

-- ---- a node without parts

leaf_size : (node : Node) → children node ≡ [] → (node_count (leaf node) ≡ 1) × (height (leaf node) ≡ 1) × (fresh_count (leaf node) ≡ one_if_fresh node)
leaf_size (nodes.Always e) h = (refl, refl, refl)
leaf_size nodes.Never h = (refl, refl, refl)
leaf_size nodes.Fresh h = (refl, refl, refl)
leaf_size (nodes.Throw e) h = (refl, refl, refl)
leaf_size (nodes.Send p e) h = (refl, refl, refl)
leaf_size (nodes.Recv p) h = (refl, refl, refl)
leaf_size (nodes.Then a b) h = absurd cc
leaf_size (nodes.Choose a b) h = absurd cc
leaf_size (nodes.Catch a b) h = absurd cc
leaf_size (nodes.If c a b) h = absurd cc

pub leaf_over : (under : ℕ → ℕ → Term) (level : ℕ) (node : Node) → children node ≡ [] → over under level (Some node) ≡ leaf node
leaf_over under level (nodes.Always e) h = refl
leaf_over under level nodes.Never h = refl
leaf_over under level nodes.Fresh h = refl
leaf_over under level (nodes.Throw e) h = refl
leaf_over under level (nodes.Send p e) h = refl
leaf_over under level (nodes.Recv p) h = refl
leaf_over under level (nodes.Then a b) h = absurd cc
leaf_over under level (nodes.Choose a b) h = absurd cc
leaf_over under level (nodes.Catch a b) h = absurd cc
leaf_over under level (nodes.If c a b) h = absurd cc

pub leaf_built : (r : Result ℕ Refusal) (level : ℕ) (before after : List Node) (node : Node) (s : Names)
    (old new : Stream) → children node ≡ [] → Puts r before after node
    → read_leaf s old.tokens ≡ Some (leaf node, new.tokens) → new.whole ≡ old.whole
    → AnswersEvent r level before after old new (read_one s (tally before) old.tokens)
unfolding read_one
leaf_built (Ok root) level before after node s old new none put read whole =
    let size = leaf_size node none in
    let forest = put.4 in
    let free = leaf_is_free before node none in
    let term : term_at after level root ≡ leaf node = rw (put.0, put.1) (term_at_new before node forest.earlier (free_earlier before node free) level ∙ leaf_over (term_at before) level node none) in
    let long : length after ≡ length before + 1 = rw put.1 (length-append before (node ∷ [])) in
    let channels : fresh_nodes after ≡ fresh_nodes before + one_if_fresh node = rw put.1 (sum_by_push one_if_fresh before node) in (
      (rw read (made_within (tally before) (leaf node) new.tokens
          (omega (arith, put.2, size.0), omega (arith, channels, size.2, put.5.few_fresh)) (omega (arith, size.1))))
          ∙ ap (λ t. Some (t, new.tokens)) (sym term),
      whole,
      record {
        forest = put.5;
        added = node ∷ [];
        appended = put.1;
        last = omega (arith, long, put.0);
        nodes = omega (arith, long, ap node_count term, size.0);
        fresh = omega (arith, channels, ap fresh_count term, size.2);
        free = rw put.1 (omega (arith, times_named_push root before node, none_named before root forest.earlier (omega (arith, put.0)), times_none root (children node) none));
        others = λ c h. rw put.1 (omega (arith, times_named_push c before node, times_none c (children node) none));
      },
    )
leaf_built (Err faults.Refused) level before after node s old new none put read whole =
    let size = leaf_size node none in
    rw read (made_beyond (tally before) (leaf node) new.tokens elim put [
      | inl many ↦ inl (omega (arith, many, size.0))
      | inr (inl many) ↦ inr (inl (omega (arith, many.1, size.2, ap one_if_fresh many.0)))
      | inr (inr high) ↦ absurd (omega (arith, high, ap height (leaf_over (term_at before) 0 node none), size.1))
    ])
leaf_built (Err faults.Memory) level before after node s old new none put read whole = tt

-- ---- a node over two events

-- the level of a term does not matter to its height
over_height : (f : ℕ → ℕ → Term) → ((l m c : ℕ) → height (f l c) ≡ height (f m c)) → (l m : ℕ) (o : Option Node) → height (over f l o) ≡ height (over f m o)
over_height f same l m None = refl
over_height f same l m (Some (nodes.Always e)) = refl
over_height f same l m (Some nodes.Never) = refl
over_height f same l m (Some nodes.Fresh) = refl
over_height f same l m (Some (nodes.Throw e)) = refl
over_height f same l m (Some (nodes.Send p e)) = refl
over_height f same l m (Some (nodes.Recv p)) = refl
over_height f same l m (Some (nodes.Then a b)) = rw (same l m a, same (suc l) (suc m) b) refl
over_height f same l m (Some (nodes.Choose a b)) = rw (same l m a, same l m b) refl
over_height f same l m (Some (nodes.Catch a b)) = rw (same l m a, same (suc l) (suc m) b) refl
over_height f same l m (Some (nodes.If c a b)) = rw (same l m a, same l m b) refl

within_height : (rounds : ℕ) (code : List Node) (l m i : ℕ) → height (term_within rounds code l i) ≡ height (term_within rounds code m i)
within_height zero code l m i = refl
within_height (suc rounds) code l m i = over_height (term_within rounds code) (within_height rounds code) l m (slice_get code i)

height_at : (code : List Node) (l m i : ℕ) → height (term_at code l i) ≡ height (term_at code m i)
height_at code l m i = within_height (suc i) code l m i

over_formed : (under : ℕ → ℕ → Term) (level a b : ℕ) (node : Node) → children node ≡ a ∷ b ∷ [] → over under level (Some node) ≡ formed node level (under level a) (under (second_level node level) b)
over_formed under level a b (nodes.Always e) h = absurd cc
over_formed under level a b nodes.Never h = absurd cc
over_formed under level a b nodes.Fresh h = absurd cc
over_formed under level a b (nodes.Throw e) h = absurd cc
over_formed under level a b (nodes.Send p e) h = absurd cc
over_formed under level a b (nodes.Recv p) h = absurd cc
over_formed under level a b (nodes.Then c d) h = let one : c ≡ a = cc in let two : d ≡ b = cc in rw (one, two) refl
over_formed under level a b (nodes.Choose c d) h = let one : c ≡ a = cc in let two : d ≡ b = cc in rw (one, two) refl
over_formed under level a b (nodes.Catch c d) h = let one : c ≡ a = cc in let two : d ≡ b = cc in rw (one, two) refl
over_formed under level a b (nodes.If q c d) h = let one : c ≡ a = cc in let two : d ≡ b = cc in rw (one, two) refl

formed_count : (node : Node) (a b level : ℕ) (e f : Term) → children node ≡ a ∷ b ∷ [] → node_count (formed node level e f) ≡ 1 + (node_count e + node_count f)
formed_count (nodes.Always x) a b level e f h = absurd cc
formed_count nodes.Never a b level e f h = absurd cc
formed_count nodes.Fresh a b level e f h = absurd cc
formed_count (nodes.Throw x) a b level e f h = absurd cc
formed_count (nodes.Send p x) a b level e f h = absurd cc
formed_count (nodes.Recv p) a b level e f h = absurd cc
formed_count (nodes.Then c d) a b level e f h = refl
formed_count (nodes.Choose c d) a b level e f h = refl
formed_count (nodes.Catch c d) a b level e f h = refl
formed_count (nodes.If q c d) a b level e f h = refl

formed_fresh : (node : Node) (a b level : ℕ) (e f : Term) → children node ≡ a ∷ b ∷ [] → fresh_count (formed node level e f) ≡ fresh_count e + fresh_count f
formed_fresh (nodes.Always x) a b level e f h = absurd cc
formed_fresh nodes.Never a b level e f h = absurd cc
formed_fresh nodes.Fresh a b level e f h = absurd cc
formed_fresh (nodes.Throw x) a b level e f h = absurd cc
formed_fresh (nodes.Send p x) a b level e f h = absurd cc
formed_fresh (nodes.Recv p) a b level e f h = absurd cc
formed_fresh (nodes.Then c d) a b level e f h = omega arith
formed_fresh (nodes.Choose c d) a b level e f h = omega arith
formed_fresh (nodes.Catch c d) a b level e f h = omega arith
formed_fresh (nodes.If q c d) a b level e f h = omega arith

not_fresh : (node : Node) (a b : ℕ) → children node ≡ a ∷ b ∷ [] → one_if_fresh node ≡ 0
not_fresh (nodes.Always x) a b h = refl
not_fresh nodes.Never a b h = refl
not_fresh nodes.Fresh a b h = absurd cc
not_fresh (nodes.Throw x) a b h = refl
not_fresh (nodes.Send p x) a b h = refl
not_fresh (nodes.Recv p) a b h = refl
not_fresh (nodes.Then c d) a b h = refl
not_fresh (nodes.Choose c d) a b h = refl
not_fresh (nodes.Catch c d) a b h = refl
not_fresh (nodes.If q c d) a b h = refl

-- the nodes behind an event
pub tallied : {level root : ℕ} {before after : List Node} → IsBuilt level before after root → tally after ≡ tally_with_event (tally before) (term_at after level root)
tallied b = tally_same _ _ b.nodes b.fresh

times_other : (c a b : ℕ) (cs : List ℕ) → cs ≡ a ∷ b ∷ [] → c < a → c < b → count_by (λ x. x == c) cs ≡ 0
times_other c a b cs e h k = rw (e, zero-add) (by (grind (arith, nat_tests)) (grind (arith, nat_tests))) where
  by : (a == c) ≡ false → (b == c) ≡ false → cond (eqb a c) 1 0 + cond (eqb b c) 1 0 ≡ 0
  by f g = rw (f, g) refl

module _ (node : Node) (a b level up : ℕ) (before mid last : List Node) (two : children node ≡ a ∷ b ∷ [])
    (raised : up ≡ second_level node level) (first : IsBuilt level before mid a) (second : IsBuilt up mid last b) where
  apart : a < b
  apart = omega (arith, first.last, second.last, second.nodes, some_nodes (term_at last up b))

  pub has_free_children : HasFreeChildren last node
  has_free_children =
      two_free last node a b two (omega (arith, apart)) (omega (arith, apart, second.last), second.others a (omega (arith, first.last)) ∙ first.free) (omega (arith, second.last), second.free)

  -- the first event is what it was before the second was added
  first_stays : term_at last level a ≡ term_at mid level a
  first_stays = rw second.appended (term_at-append mid second.added first.forest.earlier level a (omega (arith, first.last)))

  is_formed : over (term_at last) level (Some node) ≡ formed node level (term_at mid level a) (term_at last up b)
  is_formed =
      over_formed (term_at last) level a b node two ∙ ap (λ l. formed node level (term_at last level a) (term_at last l b)) (sym raised) ∙ ap (λ t. formed node level t (term_at last up b)) first_stays

  -- the fresh channels that the new one comes to
  channels : fresh_nodes before + fresh_count (formed node level (term_at mid level a) (term_at last up b)) ≡ fresh_nodes last
  channels = omega (arith, formed_fresh node a b level (term_at mid level a) (term_at last up b) two, first.fresh, second.fresh)

  -- the nodes that the new one comes to
  size : length before + node_count (formed node level (term_at mid level a) (term_at last up b)) ≡ length last + 1
  size = omega (arith, formed_count node a b level (term_at mid level a) (term_at last up b) two, first.nodes, second.nodes)

  height_is : height (term_over last node) ≡ height (formed node level (term_at mid level a) (term_at last up b))
  height_is = over_height (term_at last) (height_at last) 0 level (Some node) ∙ ap height is_formed

  pub joined : (r : Result ℕ Refusal) (after : List Node) (old new : Stream) (o : Read Term) → Puts r last after node
      → o ≡ made (tally before) (formed node level (term_at mid level a) (term_at last up b)) new.tokens
      → new.whole ≡ old.whole
      → AnswersEvent r level before after old new o
  joined (Ok root) after old new o put read whole =
      let forest = put.4 in
      let term : term_at after level root ≡ formed node level (term_at mid level a) (term_at last up b) =
      rw (put.0, put.1) (term_at_new last node forest.earlier (free_earlier last node has_free_children) level ∙ is_formed) in
      let long : length after ≡ length last + 1 = rw put.1 (length-append last (node ∷ [])) in
      let pushed : fresh_nodes (last ++ node ∷ []) ≡ fresh_nodes last + one_if_fresh node = sum_by_push one_if_fresh last node in
      let same : fresh_nodes after ≡ fresh_nodes last = rw put.1 (omega (arith, pushed, not_fresh node a b two)) in (
        read ∙ made_within (tally before) _ new.tokens (
          omega (arith, size, put.2),
          omega (arith, channels, same, put.5.few_fresh),
        ) (omega (arith, height_is, put.3))
            ∙ ap (λ t. Some (t, new.tokens)) (sym term),
        whole,
        record {
          forest = put.5;
          added = first.added ++ (second.added ++ node ∷ []);
          appended = put.1 ∙ ap (λ xs. xs ++ node ∷ []) (second.appended ∙ ap (λ xs. xs ++ second.added) first.appended)
              ∙ append_assoc (before ++ first.added) second.added (node ∷ []) ∙ append_assoc before first.added
              (second.added ++ node ∷ []);
          last = omega (arith, long, put.0);
          nodes = omega (arith, long, ap node_count term, size);
          fresh = omega (arith, same, ap fresh_count term, channels);
          free = rw put.1 (omega (arith, times_named_push root last node, none_named last root forest.earlier (omega (arith, put.0)), none_new root put.0));
          others = λ c h. rw put.1 (omega (arith, times_named_push c last node, other_new c h) ∙ second.others c (omega (arith, h, first.nodes)) ∙ first.others c h);
        },
      ) where
        none_new : (root : ℕ) → root ≡ length last → times_in root node ≡ 0
        none_new root e = elim (some_or_none (times_in root node)) [
          | inl some ↦ absurd (omega (arith, e, (has_free_children root some).0))
          | inr none ↦ none
        ] where
          some_or_none : (n : ℕ) → (0 < n) ⊎ (n ≡ 0)
          some_or_none zero = inr refl
          some_or_none (suc n) = inl (omega arith)

        other_new : (c : ℕ) → c < length before → times_in c node ≡ 0
        other_new c h = times_other c a b (children node) two
            (omega (arith, h, first.last, first.nodes, some_nodes (term_at mid level a)))
            (omega (arith, h, first.last, first.nodes, apart, some_nodes (term_at mid level a)))
  joined (Err faults.Refused) after old new o put read whole =
      read ∙ made_beyond (tally before) _ new.tokens elim put [
        | inl many ↦ inl (omega (arith, many, size))
        | inr (inl many) ↦ absurd (omega (arith, not_fresh node a b two, ap one_if_fresh many.0))
        | inr (inr high) ↦ inr (inr (omega (arith, high, height_is)))
      ]
  joined (Err faults.Memory) after old new o put read whole = tt
