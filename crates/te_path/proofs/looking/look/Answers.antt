use Rattle.std.proofs.Common.{Some, Ok, sym, ap, ◌∙◌}
use Rattle.te_terms.specs.Views.{node_seen}
use Rattle.te_path.specs.Origins.{origin_of}
use Rattle.te_path.proofs.NodesLead.{then_enters, catch_enters, true_goes, false_goes, choice_rests_in}
use Rattle.te_path.proofs.looking.look.Goals as goal

pub returns-in-Ok-true-clause-leads : goal.returns-in-Ok-true-clause-leads
returns-in-Ok-true-clause-leads c =
    true_goes (origin_of c.args.posted.now) c.args.cells.now c.args.place c.node.ensures.forest c.requires c.in-If.cond c.in-If.a c.in-If.b
    (c.node.ensures.is ∙ ap (λ v. Some (node_seen v)) c.in-If.is)
    (sym c.holds_in.ensures ∙ c.in-Ok-true.is ∙ ap Ok c.in-Ok-true.field-0-test)

pub returns-in-Ok-false-clause-leads : goal.returns-in-Ok-false-clause-leads
returns-in-Ok-false-clause-leads c =
    false_goes (origin_of c.args.posted.now) c.args.cells.now c.args.place c.node.ensures.forest c.requires c.in-If.cond c.in-If.a c.in-If.b
    (c.node.ensures.is ∙ ap (λ v. Some (node_seen v)) c.in-If.is)
    (sym c.holds_in.ensures ∙ c.in-Ok-false.is ∙ ap Ok c.in-Ok-false.field-0-test)

pub returns-in-Then-clause-leads : goal.returns-in-Then-clause-leads
returns-in-Then-clause-leads c = then_enters (origin_of c.args.posted.now) c.args.cells.now c.args.place c.node.ensures.forest c.requires c.in-Then.a
    c.in-Then.b (c.node.ensures.is ∙ ap (λ v. Some (node_seen v)) c.in-Then.is)

pub returns-in-Catch-clause-leads : goal.returns-in-Catch-clause-leads
returns-in-Catch-clause-leads c = catch_enters (origin_of c.args.posted.now) c.args.cells.now c.args.place c.node.ensures.forest c.requires
    c.in-Catch.a c.in-Catch.b (c.node.ensures.is ∙ ap (λ v. Some (node_seen v)) c.in-Catch.is)

pub returns-in-Choose-clause-leads : goal.returns-in-Choose-clause-leads
returns-in-Choose-clause-leads c = choice_rests_in (origin_of c.args.posted.now) c.args.cells.now c.args.place c.node.ensures.forest c.requires
    c.in-Choose.field-0 c.in-Choose.field-1 (c.node.ensures.is ∙ ap (λ v. Some (node_seen v)) c.in-Choose.is)
