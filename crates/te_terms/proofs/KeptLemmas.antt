-- A code of nodes stays one, and its marks tell of it, when a node is appended whose children are free.
use Rattle.std.proofs.Common.{◌≡◌, ◌↔◌, ◌⊎◌, inl, inr, ℕ, suc, ◌+◌, ◌<◌, ◌≤◌, max, true, false, cond, List, [], ◌∷◌}
use Rattle.std.proofs.Common.{◌++◌, length, get_or, Some, IsTrue, refl, sym, ap, ◌∙◌, subst, length-append, arith}
use Rattle.std.proofs.lemmas.List.{get_or_append_left}
use Rattle.std.proofs.Math.Seq.{get_or-append_seam}
use Rattle.std.specs.Prelude.{◌==◌, slice_get}
use Rattle.std.specs.List.{sum_by, count_by, AllByRecursion}
use Rattle.std.proofs.lemmas.Option.{slice_get_within}
use Rattle.std.proofs.lemmas.List.Sums.{sum_by-cons, sum_by_push}
use Rattle.std.proofs.lemmas.Bool.{cases_lt, cases_Bool}
use Rattle.std.proofs.lemmas.Bool.Decides.{nat_tests}
use Rattle.te_terms.specs.declared.code.Node.{Node}
use Rattle.te_terms.specs.declared.code.Mark.{Mark}
use Rattle.te_terms.specs.Terms.{Term}
use Rattle.te_terms.specs.Codes.{term_under}
use Rattle.te_terms.specs.Measures.{height, choice_count, send_count, receive_count, node_count, fresh_count}
use Rattle.te_terms.specs.Limits.{most_nodes, greatest_height, most_fresh}
use Rattle.te_terms.specs.Shape.{children, times_in, times_named, one_if_fresh, fresh_nodes, NamesEarlier, IsForest, HasFreeChildren, term_over}
use Rattle.te_terms.specs.Kept.{MarkTells, TellsNew, IsLow, own_weighing, IsKept, IsFree, open_count, nodes_under, fresh_of, as_child, adopted}
use Rattle.te_terms.proofs.TermLemmas.{IsEarlier, slice_get_seam, term_at-append, term_at_new}
use Rattle.te_terms.proofs.Lists.{get_front}
use Rattle.te_terms.proofs.ChildLemmas.{times_named_push, no_or_two_children, two_differ, first_free, second_free}
use Rattle.te_terms.proofs.AdoptLemmas.{length-adopted, kept-adopted, is_child-adopted, open_two_less, adopted_front}
use Rattle.te_terms.proofs.Measured.{weights_are_nodes}
use Rattle.te_terms.proofs.SizeLemmas.{leaf_sizes, two_sizes}

-- a list of numbers below n has none from n on
pub none_from : (n c : ℕ) (cs : List ℕ) → AllByRecursion (λ x. x < n) cs → n ≤ c → count_by (λ x. x == c) cs ≡ 0
none_from n c [] h le = refl
none_from n c (x ∷ cs) h le =
    let less : x < n = h.0 in
    sum_by-cons (λ y. cond (y == c) 1 0) x cs ∙ grind (arith, nat_tests, none_from n c cs h.1 le, less)

pub never_named : (c : ℕ) (code : List Node) → ((i : ℕ) (node : Node) → slice_get code i ≡ Some node → times_in c node ≡ 0) → times_named c code ≡ 0
never_named c [] h = refl
never_named c (node ∷ code) h =
    sum_by-cons (times_in c) node code ∙ omega (arith, h 0 node refl, never_named c code (λ i n e. h (suc i) n e))

-- a number from the code's length on has no parent in it
pub none_named : (code : List Node) (c : ℕ) → IsEarlier code → length code ≤ c → times_named c code ≡ 0
none_named code c earlier le =
    never_named c code (λ i node e. none_from i c (children node) (earlier i node e) (omega (arith, slice_get_within code i node e)))

below_from : (n : ℕ) (cs : List ℕ) → ((c : ℕ) → 0 < count_by (λ x. x == c) cs → c < n) → AllByRecursion (λ c. c < n) cs
below_from n [] h = tt
below_from n (x ∷ cs) h = (
  h x (grind (arith, nat_tests, sum_by-cons (λ y. cond (y == x) 1 0) x cs)),
  below_from n cs (λ c some. h c (omega (arith, sum_by-cons (λ y. cond (y == c) 1 0) x cs))),
)

-- free children are earlier
pub free_earlier : (code : List Node) (node : Node) → HasFreeChildren code node → NamesEarlier (length code) node
free_earlier code node free = below_from (length code) (children node) (λ c some. (free c some).0)

-- node i of the longer code: one of the code's, or the new one
place : (code : List Node) (node other : Node) (i : ℕ) → slice_get (code ++ node ∷ []) i ≡ Some other →
    ((i < length code) × (slice_get code i ≡ Some other)) ⊎ ((i ≡ length code) × (node ≡ other))
place code node other i e =
    let within : i < length (code ++ node ∷ []) = slice_get_within (code ++ node ∷ []) i other e in
    elim (cases_lt i (length code)) [
      | inl less ↦ inl (less, sym (get_front code (node ∷ []) i less) ∙ e)
      | inr le ↦
          let last : i ≡ length code = omega (arith, length-append code (node ∷ [])) in
          let some : Some node ≡ Some other = sym (slice_get_seam code node []) ∙ ap (slice_get (code ++ node ∷ [])) (sym last) ∙ e in
          inr (last, cc)
    ]

earlier_more : (code : List Node) (node : Node) → IsEarlier code → HasFreeChildren code node → IsEarlier (code ++ node ∷ [])
earlier_more code node earlier free i other e =
    elim (place code node other i e) [
      | inl old ↦ earlier i other old.1
      | inr new ↦ subst (λ k. NamesEarlier k other) (sym new.0) (subst (NamesEarlier (length code)) new.1 (free_earlier code node free))
    ]

-- the term under node i of the longer code
under : (code : List Node) (node : Node) → IsEarlier code → HasFreeChildren code node → (i : ℕ) → i < length (code ++ node ∷ []) →
    ((i < length code) × (term_under (code ++ node ∷ []) i ≡ term_under code i)) ⊎ ((i ≡ length code) × (term_under (code ++ node ∷ []) i ≡ term_over code node))
under code node earlier free i h =
    elim (cases_lt i (length code)) [
      | inl less ↦ inl (less, term_at-append code (node ∷ []) earlier 0 i less)
      | inr le ↦
          let last : i ≡ length code = omega (arith, length-append code (node ∷ [])) in
          inr (last, ap (term_under (code ++ node ∷ [])) last ∙ term_at_new code node earlier (free_earlier code node free) 0)
    ]

-- what the sizes of an appended node come to
pub record Fits (code : List Node) (node : Node) : Type 0 where
  pub room : length code < most_nodes
  pub low : height (term_over code node) ≤ greatest_height
  pub fresh_room : fresh_nodes code + one_if_fresh node ≤ most_fresh

pub forest_more : (code : List Node) (node : Node) → IsForest code → HasFreeChildren code node → Fits code node →
    node_count (term_over code node) ≤ length code + 1 → fresh_count (term_over code node) ≤ fresh_nodes code + one_if_fresh node → IsForest (code ++ node ∷ [])
forest_more code node forest free fits few fresh_few = record {
  few = omega (arith, fits.room, length-append code (node ∷ []));
  earlier = earlier_more code node forest.earlier free;
  one_parent = λ c. elim (cases_lt 0 (times_in c node)) [
    | inl some ↦ omega (arith, (free c some).1)
    | inr none ↦ omega (arith, times_named_push c code node, forest.one_parent c)
  ];
  low = λ i h. elim (under code node forest.earlier free i h) [
    | inl old ↦ omega (arith, ap height old.1, forest.low i old.0)
    | inr new ↦ omega (arith, ap height new.1, fits.low)
  ];
  few_under = λ i h. elim (under code node forest.earlier free i h) [
    | inl old ↦ omega (arith, ap node_count old.1, forest.few_under i old.0, length-append code (node ∷ []))
    | inr new ↦ omega (arith, ap node_count new.1, few, length-append code (node ∷ []))
  ];
  fresh_under = λ i h. elim (under code node forest.earlier free i h) [
    | inl old ↦ omega (arith, ap fresh_count old.1, forest.fresh_under i old.0, sum_by_push one_if_fresh code node)
    | inr new ↦ omega (arith, ap fresh_count new.1, fresh_few, sum_by_push one_if_fresh code node)
  ];
  few_fresh = omega (arith, fits.fresh_room, sum_by_push one_if_fresh code node);
}

-- ---- marks

-- the sizes that a mark tells are those of the term
pub record TellsSizes (t : Term) (mark : Mark) : Type 0 where
  pub nodes_are : mark.nodes ≡ node_count t
  pub choices_are : mark.choices ≡ choice_count t
  pub sends_are : mark.sends ≡ send_count t
  pub receives_are : mark.receives ≡ receive_count t
  pub height_is : mark.height ≡ height t
  pub fresh_are : mark.fresh ≡ fresh_count t

-- what the marks said of node i, before children got their parent
before : (code : List Node) (marks : List Mark) (node : Node) (mark : Mark) (fresh : ℕ) → IsKept code marks fresh → HasFreeChildren code node → TellsNew code node mark →
    (i : ℕ) (other : Mark) → i < length (code ++ node ∷ []) →
    TellsSizes (term_under (code ++ node ∷ []) i) (get_or (marks ++ mark ∷ []) i other) × (IsTrue (get_or (marks ++ mark ∷ []) i other).is_child ↔ (0 < times_named i code))
before code marks node mark fresh kept free new i other h =
    elim (under code node kept.forest.earlier free i h) [
      | inl old ↦
          let tells = kept.tells i other old.0 in
          rw (get_or_append_left marks (mark ∷ []) other i (omega (arith, old.0, kept.as_many)), old.1) (
            record {
              nodes_are = tells.nodes_are;
              choices_are = tells.choices_are;
              sends_are = tells.sends_are;
              receives_are = tells.receives_are;
              height_is = tells.height_is;
              fresh_are = tells.fresh_are;
            },
            tells.has_parent,
          )
      | inr at ↦
          let last : i ≡ length marks = omega (arith, at.0, kept.as_many) in
          let none : times_named i code ≡ 0 = none_named code i kept.forest.earlier (omega (arith, at.0)) in
          let is_mark : get_or (marks ++ mark ∷ []) i other ≡ mark = ap (λ k. get_or (marks ++ mark ∷ []) k other) last ∙ get_or-append_seam marks mark [] other in (
            record {
              nodes_are = ap (λ m. m.nodes) is_mark ∙ new.nodes_are ∙ sym (ap node_count at.1);
              choices_are = ap (λ m. m.choices) is_mark ∙ new.choices_are ∙ sym (ap choice_count at.1);
              sends_are = ap (λ m. m.sends) is_mark ∙ new.sends_are ∙ sym (ap send_count at.1);
              receives_are = ap (λ m. m.receives) is_mark ∙ new.receives_are ∙ sym (ap receive_count at.1);
              height_is = ap (λ m. m.height) is_mark ∙ new.height_is ∙ sym (ap height at.1);
              fresh_are = ap (λ m. m.fresh) is_mark ∙ new.fresh_are ∙ sym (ap fresh_count at.1);
            },
            (λ p. let same : true ≡ false = sym p ∙ ap (λ m. m.is_child) is_mark ∙ new.no_parent in absurd cc, λ p. absurd (omega (arith, none, p))),
          )
    ]

-- the mark of a free child
free_mark : (code : List Node) (marks : List Mark) (fresh : ℕ) (d : Mark) (a : ℕ) → IsKept code marks fresh → IsFree code a → (get_or marks a d).is_child ≡ false
free_mark code marks fresh d a kept free =
    elim (cases_Bool (get_or marks a d).is_child) [
      | inl child ↦ absurd (omega (arith, (kept.tells a d free.0).has_parent.0 child, free.1))
      | inr childless ↦ childless
    ]

-- the counts of the marks with one node more: its children count with it
open_more : (code : List Node) (marks : List Mark) (node : Node) (mark : Mark) (fresh : ℕ) (of : Mark → ℕ) (size : Term → ℕ) (own : ℕ) → ((m : Mark) → of (as_child m) ≡ of m) →
    IsKept code marks fresh → HasFreeChildren code node → mark.is_child ≡ false →
    ((i : ℕ) (d : Mark) → i < length code → of (get_or marks i d) ≡ size (term_under code i)) →
    (children node ≡ [] → of mark ≡ own) →
    ((a b : ℕ) → children node ≡ a ∷ b ∷ [] → of mark ≡ own + (size (term_under code a) + size (term_under code b))) →
    sum_by (open_count of) (adopted (children node) (marks ++ mark ∷ [])) ≡ sum_by (open_count of) marks + own
open_more code marks node mark fresh of size own same kept free new sized leaf two =
    let pushed = sum_by_push (open_count of) marks mark in
    let counts : open_count of mark ≡ of mark = ap (λ b. cond b 0 (of mark)) new in
    elim (no_or_two_children node) [
      | inl none ↦ ap (λ cs. sum_by (open_count of) (adopted cs (marks ++ mark ∷ []))) none ∙ omega (arith, pushed, counts, leaf none)
      | inr some ↦
          let a : ℕ = some.0 in
          let b : ℕ = some.1.0 in
          let is : children node ≡ a ∷ b ∷ [] = some.1.1 in
          let free_a = first_free code node a b is free in
          let free_b = second_free code node a b is free in
          let old_a : get_or (marks ++ mark ∷ []) a mark ≡ get_or marks a mark = get_or_append_left marks (mark ∷ []) mark a (omega (arith, free_a.0, kept.as_many)) in
          let old_b : get_or (marks ++ mark ∷ []) b mark ≡ get_or marks b mark = get_or_append_left marks (mark ∷ []) mark b (omega (arith, free_b.0, kept.as_many)) in
          let less = open_two_less of same a b (marks ++ mark ∷ []) mark (two_differ code node a b is free)
          (omega (arith, free_a.0, kept.as_many, length-append marks (mark ∷ []))) (omega (arith, free_b.0, kept.as_many, length-append marks (mark ∷ [])))
          (ap (λ m. m.is_child) old_a ∙ free_mark code marks fresh mark a kept free_a) (ap (λ m. m.is_child) old_b ∙ free_mark code marks fresh mark b kept free_b) in
          ap (λ cs. sum_by (open_count of) (adopted cs (marks ++ mark ∷ []))) is ∙
          omega (arith, less, pushed, counts, two a b is, ap of old_a, ap of old_b, sized a mark free_a.0, sized b mark free_b.0)
    ]

more_nodes : (code : List Node) (marks : List Mark) (node : Node) (mark : Mark) (fresh : ℕ) → IsKept code marks fresh → HasFreeChildren code node → TellsNew code node mark →
    sum_by (open_count nodes_under) (adopted (children node) (marks ++ mark ∷ [])) ≡ length code + 1
more_nodes code marks node mark fresh kept free new =
    omega (
      arith,
      kept.all_nodes,
      open_more code marks node mark fresh nodes_under node_count 1 (λ m. refl) kept free new.no_parent (λ i d h. (kept.tells i d h).nodes_are)
          (λ none. new.nodes_are ∙ (leaf_sizes code node none).nodes_are) (λ a b is. new.nodes_are ∙ (two_sizes code node a b is).nodes_are),
    )

more_fresh : (code : List Node) (marks : List Mark) (node : Node) (mark : Mark) (fresh : ℕ) → IsKept code marks fresh → HasFreeChildren code node → TellsNew code node mark →
    sum_by (open_count fresh_of) (adopted (children node) (marks ++ mark ∷ [])) ≡ fresh_nodes code + one_if_fresh node
more_fresh code marks node mark fresh kept free new =
    omega (
      arith,
      kept.all_fresh,
      open_more code marks node mark fresh fresh_of fresh_count (one_if_fresh node) (λ m. refl) kept free new.no_parent (λ i d h. (kept.tells i d h).fresh_are)
          (λ none. omega (arith, new.fresh_are, (leaf_sizes code node none).fresh_are)) (λ a b is. new.fresh_are ∙ (two_sizes code node a b is).fresh_are),
    )

-- a mark without a parent is counted whole
counted_whole : (of : Mark → ℕ) (cs : List ℕ) (marks : List Mark) (mark : Mark) → ((m : Mark) → of (as_child m) ≡ of m) → AllByRecursion (λ c. c < length marks) cs → mark.is_child ≡ false →
    of mark ≤ sum_by (open_count of) (adopted cs (marks ++ mark ∷ []))
counted_whole of cs marks mark same within free =
    rw (adopted_front cs marks mark within, sum_by_push (open_count of) (adopted cs marks) mark) (omega (arith, ap (λ b. cond b 0 (of mark)) free))

pub kept_more : (code : List Node) (marks : List Mark) (fresh : ℕ) (node : Node) (mark : Mark) → IsKept code marks fresh → HasFreeChildren code node → Fits code node →
    TellsNew code node mark → IsKept (code ++ node ∷ []) (adopted (children node) (marks ++ mark ∷ [])) (fresh + one_if_fresh node)
kept_more code marks fresh node mark kept free fits new =
    let nodes = more_nodes code marks node mark fresh kept free new in
    let news = more_fresh code marks node mark fresh kept free new in
    let earlier : AllByRecursion (λ c. c < length marks) (children node) = below_from (length marks) (children node) (λ c some. omega (arith, (free c some).0, kept.as_many)) in
    let few : node_count (term_over code node) ≤ length code + 1 = omega (arith, nodes, new.nodes_are, counted_whole nodes_under (children node) marks mark (λ m. refl) earlier new.no_parent) in
    let few_news : fresh_count (term_over code node) ≤ fresh_nodes code + one_if_fresh node =
    omega (arith, news, new.fresh_are, counted_whole fresh_of (children node) marks mark (λ m. refl) earlier new.no_parent) in
    record {
      forest = forest_more code node kept.forest free fits few few_news;
      as_many = omega (arith, length-adopted (children node) (marks ++ mark ∷ []), length-append marks (mark ∷ []), length-append code (node ∷ []), kept.as_many);
      tells = λ i other h.
          let was = before code marks node mark fresh kept free new i other h in
          let marked = is_child-adopted (children node) (marks ++ mark ∷ []) i other (below_from (length (marks ++ mark ∷ [])) (children node)
          (λ c some. omega (arith, (free c some).0, kept.as_many, length-append marks (mark ∷ [])))) in
          let named = times_named_push i code node in
          record {
            nodes_are = kept-adopted (λ m. m.nodes) (λ m. refl) (children node) (marks ++ mark ∷ []) i other ∙ was.0.nodes_are;
            choices_are = kept-adopted (λ m. m.choices) (λ m. refl) (children node) (marks ++ mark ∷ []) i other ∙ was.0.choices_are;
            sends_are = kept-adopted (λ m. m.sends) (λ m. refl) (children node) (marks ++ mark ∷ []) i other ∙ was.0.sends_are;
            receives_are = kept-adopted (λ m. m.receives) (λ m. refl) (children node) (marks ++ mark ∷ []) i other ∙ was.0.receives_are;
            height_is = kept-adopted (λ m. m.height) (λ m. refl) (children node) (marks ++ mark ∷ []) i other ∙ was.0.height_is;
            fresh_are = kept-adopted (λ m. m.fresh) (λ m. refl) (children node) (marks ++ mark ∷ []) i other ∙ was.0.fresh_are;
            has_parent = (
              λ p. elim (marked.0 p) [ inl q ↦ omega (arith, named, was.1.0 q) | inr q ↦ omega (arith, named, q) ],
              λ p. marked.1 elim (cases_lt 0 (times_named i code)) [ inl q ↦ inl (was.1.1 q) | inr q ↦ inr (omega (arith, named, p, q)) ],
            );
          };
      all_nodes = omega (arith, nodes, length-append code (node ∷ []));
      all_fresh = omega (arith, news, sum_by_push one_if_fresh code node);
      fresh_are = omega (arith, kept.fresh_are, sum_by_push one_if_fresh code node);
    }

-- ---- one mark

pub low_mark : (code : List Node) (i : ℕ) (mark : Mark) → IsForest code → i < length code → MarkTells code i mark → IsLow mark
low_mark code i mark forest h tells = record {
  few = omega (arith, tells.nodes_are, forest.few_under i h, forest.few);
  few_choices = omega (arith, tells.choices_are, weights_are_nodes 1 0 0 (omega arith) (omega arith) (omega arith) (term_under code i), forest.few_under i h, forest.few);
  few_sends = omega (arith, tells.sends_are, weights_are_nodes 0 1 0 (omega arith) (omega arith) (omega arith) (term_under code i), forest.few_under i h, forest.few);
  few_receives = omega (arith, tells.receives_are, weights_are_nodes 0 0 1 (omega arith) (omega arith) (omega arith) (term_under code i), forest.few_under i h, forest.few);
  low = omega (arith, tells.height_is, forest.low i h);
  few_fresh = omega (arith, tells.fresh_are, forest.fresh_under i h, forest.few_fresh);
}

pub new_over : (code : List Node) (node : Node) (a b : ℕ) (first second : Mark) (choices sends receives news top : ℕ) → children node ≡ a ∷ b ∷ [] → MarkTells code a first → MarkTells code b second →
    choices ≡ own_weighing 1 0 0 node → sends ≡ own_weighing 0 1 0 node → receives ≡ own_weighing 0 0 1 node → news ≡ one_if_fresh node → top ≡ max first.height second.height →
    TellsNew code node (record {
      nodes = 1 + (first.nodes + second.nodes);
      choices = choices + (first.choices + second.choices);
      sends = sends + (first.sends + second.sends);
      receives = receives + (first.receives + second.receives);
      height = 1 + top;
      fresh = news + (first.fresh + second.fresh);
      is_child = false;
    })
new_over code node a b first second choices sends receives news top is tells tells' choices_is sends_is receives_is news_is top_is =
    let sizes = two_sizes code node a b is in
    record {
      nodes_are = omega (arith, sizes.nodes_are, tells.nodes_are, tells'.nodes_are);
      choices_are = omega (arith, sizes.choices_are, tells.choices_are, tells'.choices_are, choices_is);
      sends_are = omega (arith, sizes.sends_are, tells.sends_are, tells'.sends_are, sends_is);
      receives_are = omega (arith, sizes.receives_are, tells.receives_are, tells'.receives_are, receives_is);
      height_is = rw (top_is, tells.height_is, tells'.height_is) (sym sizes.height_is);
      fresh_are = omega (arith, sizes.fresh_are, tells.fresh_are, tells'.fresh_are, news_is);
      no_parent = refl;
    }
