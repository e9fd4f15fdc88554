use Rattle.std.proofs.Common.{◌≡◌, ◌++◌, refl, sym, subst, ap, Some, ◌∙◌, arith}
use Rattle.std.specs.Prelude.{OnOk}
use Rattle.te_terms.specs.Terms.{Term}
use Rattle.te_terms.specs.declared.code.Node.TheVariants as nodes
use Rattle.te_terms.specs.Views.{node_seen}
use Rattle.te_reader.specs.Printed.{spelling_of_names, standing_of}
use Rattle.te_reader.specs.Canonical.{event_text}
use Rattle.te_reader.proofs.NodesPrinted.{term_is, parts_earlier, no_parts_seen, leaf_is}
use Rattle.te_reader.proofs.printing.+print.Goals as goal

pub put_event-put_then-requires : goal.put_event-put_then-requires
put_event-put_then-requires t c =
    let here = sym c.in-Some.ensures.value ∙ ap (λ v. Some (node_seen v)) c.in-Then.is in
    let earlier = parts_earlier c.args.code.now c.args.root c.in-Then.a c.in-Then.b (nodes.Then c.in-Then.a c.in-Then.b) c.in-Some.ensures.forest refl here in (
      omega (arith, c.decreases, earlier),
      (
        omega (arith, earlier, c.requires.root),
        (
          omega (arith, earlier, c.requires.root),
          (
            omega (arith, earlier, c.requires.low),
            omega (arith, earlier, c.requires.low),
          ),
        ),
      ),
    )

pub put_event-returns-in-Then : goal.put_event-returns-in-Then
put_event-returns-in-Then t c =
    let here = sym c.in-Some.ensures.value ∙ ap (λ v. Some (node_seen v)) c.in-Then.is in
    subst (λ (x : Term). OnOk c.put_then.result (c.put_then.new.out.items ≡ c.args.out.now.items ++ event_text (spelling_of_names c.args.names.now) (standing_of c.args.standing) x))
    (sym (term_is c.args.code.now c.args.level c.args.root (nodes.Then c.in-Then.a c.in-Then.b) c.in-Some.ensures.forest here)) c.put_then.ensures

pub put_event-put_choose-requires : goal.put_event-put_choose-requires
put_event-put_choose-requires t c =
    let here = sym c.in-Some.ensures.value ∙ ap (λ v. Some (node_seen v)) c.in-Choose.is in
    let earlier = parts_earlier c.args.code.now c.args.root c.in-Choose.a c.in-Choose.b (nodes.Choose c.in-Choose.a c.in-Choose.b) c.in-Some.ensures.forest refl here in (
      omega (arith, c.decreases, earlier),
      (
        omega (arith, earlier, c.requires.root),
        (
          omega (arith, earlier, c.requires.root),
          (
            omega (arith, earlier, c.requires.low),
            omega (arith, earlier, c.requires.low),
          ),
        ),
      ),
    )

pub put_event-returns-in-Choose : goal.put_event-returns-in-Choose
put_event-returns-in-Choose t c =
    let here = sym c.in-Some.ensures.value ∙ ap (λ v. Some (node_seen v)) c.in-Choose.is in
    subst (λ (x : Term). OnOk c.put_choose.result (c.put_choose.new.out.items ≡ c.args.out.now.items ++ event_text (spelling_of_names c.args.names.now) (standing_of c.args.standing) x))
    (sym (term_is c.args.code.now c.args.level c.args.root (nodes.Choose c.in-Choose.a c.in-Choose.b) c.in-Some.ensures.forest here)) c.put_choose.ensures

pub put_event-put_catch-requires : goal.put_event-put_catch-requires
put_event-put_catch-requires t c =
    let here = sym c.in-Some.ensures.value ∙ ap (λ v. Some (node_seen v)) c.in-Catch.is in
    let earlier = parts_earlier c.args.code.now c.args.root c.in-Catch.a c.in-Catch.b (nodes.Catch c.in-Catch.a c.in-Catch.b) c.in-Some.ensures.forest refl here in (
      omega (arith, c.decreases, earlier),
      (
        omega (arith, earlier, c.requires.root),
        (
          omega (arith, earlier, c.requires.root),
          (
            omega (arith, earlier, c.requires.low),
            omega (arith, earlier, c.requires.low),
          ),
        ),
      ),
    )

pub put_event-returns-in-Catch : goal.put_event-returns-in-Catch
put_event-returns-in-Catch t c =
    let here = sym c.in-Some.ensures.value ∙ ap (λ v. Some (node_seen v)) c.in-Catch.is in
    subst (λ (x : Term). OnOk c.put_catch.result (c.put_catch.new.out.items ≡ c.args.out.now.items ++ event_text (spelling_of_names c.args.names.now) (standing_of c.args.standing) x))
    (sym (term_is c.args.code.now c.args.level c.args.root (nodes.Catch c.in-Catch.a c.in-Catch.b) c.in-Some.ensures.forest here)) (c.put_catch.ensures (standing_of c.args.standing))

pub put_event-put_if-requires : goal.put_event-put_if-requires
put_event-put_if-requires t c =
    let here = sym c.in-Some.ensures.value ∙ ap (λ v. Some (node_seen v)) c.in-If.is in
    let earlier = parts_earlier c.args.code.now c.args.root c.in-If.a c.in-If.b (nodes.If c.in-If.c c.in-If.a c.in-If.b) c.in-Some.ensures.forest refl here in (
      omega (arith, c.decreases, earlier),
      (
        omega (arith, earlier, c.requires.root),
        (
          omega (arith, earlier, c.requires.root),
          (
            omega (arith, earlier, c.requires.low),
            omega (arith, earlier, c.requires.low),
          ),
        ),
      ),
    )

pub put_event-returns-in-If : goal.put_event-returns-in-If
put_event-returns-in-If t c =
    let here = sym c.in-Some.ensures.value ∙ ap (λ v. Some (node_seen v)) c.in-If.is in
    subst (λ (x : Term). OnOk c.put_if.result (c.put_if.new.out.items ≡ c.args.out.now.items ++ event_text (spelling_of_names c.args.names.now) (standing_of c.args.standing) x))
    (sym (term_is c.args.code.now c.args.level c.args.root (nodes.If c.in-If.c c.in-If.a c.in-If.b) c.in-Some.ensures.forest here)) (c.put_if.ensures (standing_of c.args.standing))

pub put_event-returns-in_default-node : goal.put_event-returns-in_default-node
put_event-returns-in_default-node t c =
    let here = sym c.in-Some.ensures.value in
    let none = no_parts_seen c.in-Some.node c.in_default-node.not-Then c.in_default-node.not-Choose c.in_default-node.not-Catch c.in_default-node.not-If in
    subst (λ (x : Term). OnOk c.put_leaf.result (c.put_leaf.new.out.items ≡ c.args.out.now.items ++ event_text (spelling_of_names c.args.names.now) (standing_of c.args.standing) x))
    (sym (leaf_is c.args.code.now c.args.level c.args.root (node_seen c.in-Some.node) c.in-Some.ensures.forest none here)) (c.put_leaf.ensures (standing_of c.args.standing))
