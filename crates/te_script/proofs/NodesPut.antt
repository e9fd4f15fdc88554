-- What stands under nodes that are put behind others.
use Rattle.std.proofs.Common.{◌≡◌, ℕ, zero, suc, ◌+◌, ◌<◌, ◌≤◌, List, [], ◌∷◌, ◌++◌, length, map, Some, refl, sym, ap, subst, ◌∙◌, arith, length-append}
use Rattle.std.specs.Prelude.{slice_get, Result, Ok, Err, IfOk, OnOk}
use Rattle.std.specs.List.{AllByRecursion}
use Rattle.std.proofs.lemmas.List.{map-append}
use Rattle.te_terms.specs.declared.code.Node.{Node}
use Rattle.te_terms.specs.declared.code.Node.TheVariants as nodes
use Rattle.te_terms.specs.Codes.{over, term_at, term_under}
use Rattle.te_terms.specs.Shape.{IsForest}
use Rattle.te_terms.specs.Terms.{Term, and_then}
use Rattle.te_terms.proofs.TermLemmas.{term_at_new, term_at-append, slice_get_seam}
use Rattle.te_script.specs.Nodes.{CodeGrows, HasEvents}
use Rattle.te_script.specs.Generated.{each}
use Rattle.te_terms.proofs.Lists.{AllByRecursion-append}

-- one node more
pub record Put (before after : List Node) (node : Node) : Type 0 where
  pub appended : after ≡ before ++ node ∷ []
  pub before_is : IsForest before
  pub after_is : IsForest after

pub longer : (before after : List Node) (node : Node) → Put before after node → length after ≡ suc (length before)
longer before after node p = rw p.appended (omega (arith, length-append before (node ∷ [])))

pub new_node : (before after : List Node) (node : Node) → Put before after node → (level : ℕ) → term_at after level (length before) ≡ over (term_at before) level (Some node)
new_node before after node p level =
    let seam : slice_get after (length before) ≡ Some node = rw p.appended (slice_get_seam before node []) in
    rw p.appended (term_at_new before node p.before_is.earlier (p.after_is.earlier (length before) node seam) level)

pub old_node : (before after : List Node) (node : Node) → Put before after node → (level i : ℕ) → i < length before → term_at after level i ≡ term_at before level i
old_node before after node p level i lt = rw p.appended (term_at-append before (node ∷ []) p.before_is.earlier level i lt)

pub grows_one : (before after : List Node) (node : Node) → Put before after node → CodeGrows before after
grows_one before after node p = record { longer = omega (arith, longer before after node p); stays = old_node before after node p }

pub grows_both : (a b c : List Node) → CodeGrows a b → CodeGrows b c → CodeGrows a c
grows_both a b c f g = record { longer = omega (arith, f.longer, g.longer); stays = λ level i lt. g.stays level i (omega (arith, lt, f.longer)) ∙ f.stays level i lt }

-- two nodes without parts, and a `then` over them
pub then_over : (c0 c1 c2 c3 : List Node) (a b : Node) → Put c0 c1 a → Put c1 c2 b → Put c2 c3 (nodes.Then (length c0) (length c1)) → (level : ℕ)
    → term_at c3 level (length c2) ≡ and_then (over (term_at c0) level (Some a)) level (over (term_at c1) (suc level) (Some b))
then_over c0 c1 c2 c3 a b p q r level =
    let first = old_node c1 c2 b q level (length c0) (omega (arith, longer c0 c1 a p)) ∙ new_node c0 c1 a p level in
    let second = new_node c1 c2 b q (suc level) in
    new_node c2 c3 (nodes.Then (length c0) (length c1)) r level ∙ (λ i. and_then (first i) level (second i))

-- ---- events by their roots

roots_stay : (before after : List Node) (roots : List ℕ) → CodeGrows before after → AllByRecursion (λ i. i < length before) roots
    → AllByRecursion (λ i. i < length after) roots × (map (term_under after) roots ≡ map (term_under before) roots)
roots_stay before after [] g h = (tt, refl)
roots_stay before after (r ∷ rs) g h =
    let rest = roots_stay before after rs g h.1 in
    ((omega (arith, h.0, g.longer), rest.0), (λ i. g.stays 0 r h.0 i ∷ rest.1 i))

-- one event more
pub one_event_more : (before after : List Node) (roots : List ℕ) (root : ℕ) (events : List Term) (event : Term) → CodeGrows before after
    → HasEvents before roots events → root < length after → term_under after root ≡ event
    → HasEvents after (roots ++ root ∷ []) (events ++ event ∷ [])
one_event_more before after roots root events event g h lt is =
    let stay = roots_stay before after roots g h.within in
    record {
      within = AllByRecursion-append (λ i. i < length after) roots root stay.0 lt;
      events_are = map-append (term_under after) roots (root ∷ []) ∙ (λ i. (stay.1 ∙ h.events_are) i ++ is i ∷ []);
    }

pub same_grows : (code : List Node) → CodeGrows code code
same_grows code = record { longer = omega arith; stays = λ level i lt. refl }

-- ---- what a call that puts a `then` answers

pub then_put : {E : Type 0} (r : Result ℕ E) (c0 c1 c2 c3 : List Node) (a b : Node) (x y : ℕ) → Put c0 c1 a → Put c1 c2 b → x ≡ length c0
    → y ≡ length c1 → IfOk r (λ n. n ≡ length c2) → OnOk r (c3 ≡ c2 ++ nodes.Then x y ∷ []) → IsForest c2 → IsForest c3
    → IfOk r (λ n. term_under c3 n ≡ and_then (over (term_at c0) 0 (Some a)) 0 (over (term_at c1) 1 (Some b)))
then_put (Ok n) c0 c1 c2 c3 a b x y p q xs ys number appended before after =
    let node : nodes.Then x y ≡ nodes.Then (length c0) (length c1) = λ i. nodes.Then (xs i) (ys i) in
    let put : Put c2 c3 (nodes.Then (length c0) (length c1)) = record { appended = appended ∙ ap (λ (m : Node). c2 ++ m ∷ []) node; before_is = before; after_is = after } in
    rw number (then_over c0 c1 c2 c3 a b p q put 0)
then_put (Err e) c0 c1 c2 c3 a b x y p q xs ys number appended before after = tt

pub then_grows : {E : Type 0} (r : Result ℕ E) (c0 c1 c2 c3 : List Node) (a b m : Node) → Put c0 c1 a → Put c1 c2 b → OnOk r (c3 ≡ c2 ++ m ∷ []) → IsForest c2 → IsForest c3 → OnOk r (CodeGrows c0 c3)
then_grows (Ok n) c0 c1 c2 c3 a b m p q appended before after =
    grows_both c0 c1 c3 (grows_one c0 c1 a p) (grows_both c1 c2 c3 (grows_one c1 c2 b q) (grows_one c2 c3 m (record { appended = appended; before_is = before; after_is = after })))
then_grows (Err e) c0 c1 c2 c3 a b m p q appended before after = tt

-- a node, and a `then` behind it that it is the first part of
pub nested_put : {E : Type 0} (r : Result ℕ E) (c0 c1 c2 c3 c4 c5 : List Node) (a b c : Node) (x y z v : ℕ) → Put c0 c1 a → Put c1 c2 b → Put c2 c3 c
    → Put c3 c4 (nodes.Then y z) → x ≡ length c0 → y ≡ length c1 → z ≡ length c2 → v ≡ length c3
    → IfOk r (λ n. n ≡ length c4) → OnOk r (c5 ≡ c4 ++ nodes.Then x v ∷ []) → IsForest c4 → IsForest c5
    → IfOk r (λ n. term_under c5 n ≡ and_then (over (term_at c0) 0 (Some a)) 0 (and_then (over (term_at c1) 1 (Some b)) 1 (over (term_at c2) 2 (Some c))))
nested_put (Ok n) c0 c1 c2 c3 c4 c5 a b c x y z v p q s t xs ys zs vs number appended before after =
    let inner : Put c3 c4 (nodes.Then (length c1) (length c2)) = subst (λ (m : Node). Put c3 c4 m) (λ i. nodes.Then (ys i) (zs i)) t in
    let outer : Put c4 c5 (nodes.Then (length c0) (length c3)) = record {
      appended = appended ∙ ap (λ (m : Node). c4 ++ m ∷ []) (λ i.
          nodes.Then (xs i) (vs i));
      before_is = before;
      after_is = after;
    } in
    let rest = then_over c1 c2 c3 c4 b c q s inner 1 in
    let l1 = longer c0 c1 a p in
    let l2 = longer c1 c2 b q in
    let l3 = longer c2 c3 c s in
    let first = old_node c3 c4 (nodes.Then (length c1) (length c2)) inner 0 (length c0) (omega (arith, l1, l2, l3)) ∙ old_node c2 c3 c s 0 (length c0)
    (omega (arith, l1, l2)) ∙ old_node c1 c2 b q 0 (length c0) (omega (arith, l1)) ∙ new_node c0 c1 a p 0 in
    rw number (new_node c4 c5 (nodes.Then (length c0) (length c3)) outer 0 ∙ (λ i. and_then (first i) 0 (rest i)))
nested_put (Err e) c0 c1 c2 c3 c4 c5 a b c x y z v p q s t xs ys zs vs number appended before after = tt

-- ---- one root for every round

pub same_events : (code : List Node) (root : ℕ) (event : Term) (n : ℕ) → root < length code → term_under code root ≡ event → HasEvents code (each (λ round. root) n) (each (λ round. event) n)
same_events code root event zero lt is = record { within = tt; events_are = refl }
same_events code root event (suc n) lt is = one_event_more code code (each (λ round. root) n) root (each (λ round. event) n) event (same_grows code) (same_events code root event n lt is) lt is
