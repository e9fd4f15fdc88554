use Rattle.std.proofs.Common.{◌≡◌, ℕ, suc, ◌-◌, List, [], ◌∷◌, length, refl, ◌∙◌, ap, arith, length-append}
use Rattle.std.specs.Prelude.{Some, Result, Ok, Err, OnOk}
use Rattle.te_reader.specs.declared.refusal.Refusal.{Refusal}
use Rattle.te_terms.specs.declared.code.Node.TheVariants as nodes
use Rattle.te_reader.specs.Grammar.{Names, with_inner}
use Rattle.te_reader.specs.NameReads.{bound_in}
use Rattle.te_reader.proofs.NameLemmas.{bound_is}
use Rattle.te_reader.proofs.BuiltLemmas.{joined, has_free_children, tallied}
use Rattle.te_reader.proofs.EventSteps.{part_made, second_made, choose_begun, more_begun, try_made, if_made}
use Rattle.te_reader.proofs.event.+event.Goals as goal

-- one more inner name is in scope
pub one_more : (s : Names) (n : List ℕ) (more : Names) → bound_in s n ≡ Some more → length more.inners ≡ suc (length s.inners)
one_more s n more e = ap (λ x. length x.inners) (bound_is s n more e).1 ∙ length-append s.inners (n ∷ []) ∙ omega arith

leaves_names : (r : Result ℕ Refusal) (new old : Names) → new ≡ old → OnOk r (new ≡ old)
leaves_names (Ok root) new old e = e
leaves_names (Err fault) new old e = tt

pub read_choose-returns-clause-event : goal.read_choose-returns-clause-event
read_choose-returns-clause-event t c =
    let first = c.in_ok-first.ensures.event in
    let second = rw c.in_ok-first.ensures.names at c.in_ok-second.ensures.event in
    joined (nodes.Choose c.in_ok-first.first c.in_ok-second.second) _ _ _ _ c.args.code.now c.read_event.new.code
    c.read_more.new.code refl refl first.2 second.2 c.put.result c.put.new.code c.args.cursor.now
    c.read_more.new.cursor _ c.put.ensures.puts
    (choose_begun _ c.args.names.now _ _ _ _ _ _ c.if-not-take_sign.ensures.0 first.0 c.if-not-take_sign-2.ensures.0 ∙ second_made _ c.args.names.now _ _ _ _ _ _ (tallied first.2) second.0)
    (second.1 ∙ c.if-not-take_sign-2.ensures.1 ∙ first.1 ∙ c.if-not-take_sign.ensures.1)

pub read_if-returns-clause-event : goal.read_if-returns-clause-event
read_if-returns-clause-event t c =
    let first = c.in_ok-first.ensures.event in
    let second = rw c.in_ok-first.ensures.names at c.in_ok-second.ensures.event in
    joined (nodes.If c.in_ok-condition.condition c.in_ok-first.first c.in_ok-second.second) _ _ _ _ c.args.code.now
    c.read_braced.new.code c.read_braced-2.new.code refl refl first.2 second.2 c.put.result c.put.new.code
    c.args.cursor.now c.read_braced-2.new.cursor _ c.put.ensures.puts
    (if_made _ c.args.names.now _ _ _ _ _ _ (tallied first.2) _ _ _ _ _ _ c.in_ok-condition.ensures.0 first.0 c.if-not-take_word.ensures.0 second.0)
    (second.1 ∙ c.if-not-take_word.ensures.1 ∙ first.1 ∙ c.in_ok-condition.ensures.1)

pub read_more-returns-then-take_sign-clause-event : goal.read_more-returns-then-take_sign-clause-event
read_more-returns-then-take_sign-clause-event t c =
    let first = c.in_ok-first.ensures.event in
    let second = rw c.in_ok-first.ensures.names at c.in_ok-second.ensures.event in
    let one : c.args.layers ≡ suc (c.args.layers - 1) = omega (arith, c.if-layers-eq0.false) in
    joined (nodes.Choose c.in_ok-first.first c.in_ok-second.second) _ _ _ _ c.args.code.now c.read_event.new.code
    c.read_more.new.code refl refl first.2 second.2 c.put.result c.put.new.code c.args.cursor.now
    c.read_more.new.cursor _ c.put.ensures.puts
    (more_begun c.args.layers (c.args.layers - 1) c.args.names.now _ _ _ _ _ one first.0 c.if-take_sign.ensures.0 ∙ second_made _ c.args.names.now _ _ _ _ _ _ (tallied first.2) second.0)
    (second.1 ∙ c.if-take_sign.ensures.1 ∙ first.1)

pub read_part-read_rest-requires : goal.read_part-read_rest-requires
read_part-read_rest-requires t c = (
  omega (arith, c.decreases),
  omega (
    arith,
    c.requires.room,
    one_more c.read_event.new.names _ _ c.in_ok-bind.ensures,
    ap (λ s. length s.inners) c.in_ok-first.ensures.names,
  ),
)

pub read_part-returns-clause-event : goal.read_part-returns-clause-event
read_part-returns-clause-event t c =
    let first = c.in_ok-first.ensures.event in
    let second = c.in_ok-second.ensures.event in
    let bound = rw c.in_ok-first.ensures.names at c.in_ok-bind.ensures in
    joined (nodes.Then c.in_ok-first.first c.in_ok-second.second) _ _ _ _ c.args.code.now c.read_event.new.code
    c.read_rest.new.code refl (one_more c.args.names.now _ _ bound) first.2 second.2 c.put.result c.put.new.code
    c.args.cursor.now c.read_rest.new.cursor _ c.put.ensures.puts
    (part_made _ c.args.names.now _ _ _ _ _ _ (tallied first.2) _ _ _ _ _ c.if-not-take_sign.ensures.0 first.0 c.if-not-take_sign-2.ensures.0 bound second.0)
    (second.1 ∙ c.if-not-take_sign-2.ensures.1 ∙ first.1 ∙ c.if-not-take_sign.ensures.1)

pub read_part-returns-clause-names : goal.read_part-returns-clause-names
read_part-returns-clause-names t c =
    leaves_names c.put.result _ _ (c.unbind.ensures c.args.names.now c.args.name.now
    (c.in_ok-second.ensures.names ∙ (bound_is _ _ _ c.in_ok-bind.ensures).1
    ∙ ap (λ s. with_inner s c.args.name.now) c.in_ok-first.ensures.names))

pub read_try-read_braced-requires-2 : goal.read_try-read_braced-requires-2
read_try-read_braced-requires-2 t c = (
  omega (arith, c.decreases),
  omega (
    arith,
    c.requires,
    one_more c.read_braced.new.names _ _ c.in_ok-bind.ensures,
    ap (λ s. length s.inners) c.in_ok-first.ensures.names,
  ),
)

pub read_try-returns-clause-event : goal.read_try-returns-clause-event
read_try-returns-clause-event t c =
    let first = c.in_ok-first.ensures.event in
    let second = c.in_ok-second.ensures.event in
    let bound = rw c.in_ok-first.ensures.names at c.in_ok-bind.ensures in
    joined (nodes.Catch c.in_ok-first.first c.in_ok-second.second) _ _ _ _ c.args.code.now c.read_braced.new.code
    c.read_braced-2.new.code refl (one_more c.args.names.now _ _ bound) first.2 second.2 c.put.result c.put.new.code
    c.args.cursor.now c.read_braced-2.new.cursor _ c.put.ensures.puts
    (try_made _ c.args.names.now _ _ _ _ _ _ (tallied first.2) _ _ _ _ _ first.0 c.if-not-take_word.ensures.0 c.in-Some.ensures.name.0 bound second.0)
    (second.1 ∙ c.in-Some.ensures.name.1 ∙ c.if-not-take_word.ensures.1 ∙ first.1)

pub read_try-returns-clause-names : goal.read_try-returns-clause-names
read_try-returns-clause-names t c =
    leaves_names c.put.result _ _ (c.unbind.ensures c.args.names.now c.in-Some.name.now
    (c.in_ok-second.ensures.names ∙ (bound_is _ _ _ c.in_ok-bind.ensures).1
    ∙ ap (λ s. with_inner s c.in-Some.name.now) c.in_ok-first.ensures.names))

pub read_choose-put-requires : goal.read_choose-put-requires
read_choose-put-requires t c =
    let first = c.in_ok-first.ensures.event in
    let second = rw c.in_ok-first.ensures.names at c.in_ok-second.ensures.event in
    has_free_children (nodes.Choose c.in_ok-first.first c.in_ok-second.second) _ _ _ _ c.args.code.now c.read_event.new.code c.read_more.new.code refl refl first.2 second.2

pub read_if-put-requires : goal.read_if-put-requires
read_if-put-requires t c =
    let first = c.in_ok-first.ensures.event in
    let second = rw c.in_ok-first.ensures.names at c.in_ok-second.ensures.event in
    has_free_children (nodes.If c.in_ok-condition.condition c.in_ok-first.first c.in_ok-second.second) _ _ _ _
    c.args.code.now c.read_braced.new.code c.read_braced-2.new.code refl refl first.2 second.2

pub read_more-put-requires : goal.read_more-put-requires
read_more-put-requires t c =
    let first = c.in_ok-first.ensures.event in
    let second = rw c.in_ok-first.ensures.names at c.in_ok-second.ensures.event in
    has_free_children (nodes.Choose c.in_ok-first.first c.in_ok-second.second) _ _ _ _ c.args.code.now c.read_event.new.code c.read_more.new.code refl refl first.2 second.2

pub read_part-put-requires : goal.read_part-put-requires
read_part-put-requires t c =
    let first = c.in_ok-first.ensures.event in
    let second = c.in_ok-second.ensures.event in
    let bound = rw c.in_ok-first.ensures.names at c.in_ok-bind.ensures in
    has_free_children (nodes.Then c.in_ok-first.first c.in_ok-second.second) _ _ _ _
    c.args.code.now c.read_event.new.code c.read_rest.new.code refl (one_more c.args.names.now _ _ bound) first.2 second.2

pub read_try-put-requires : goal.read_try-put-requires
read_try-put-requires t c =
    let first = c.in_ok-first.ensures.event in
    let second = c.in_ok-second.ensures.event in
    let bound = rw c.in_ok-first.ensures.names at c.in_ok-bind.ensures in
    has_free_children (nodes.Catch c.in_ok-first.first c.in_ok-second.second) _ _ _ _
    c.args.code.now c.read_braced.new.code c.read_braced-2.new.code refl (one_more c.args.names.now _ _ bound) first.2 second.2
