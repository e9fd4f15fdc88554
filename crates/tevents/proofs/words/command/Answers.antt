use Rattle.std.proofs.Common.{rules, ◌∙◌, ◌||◌, ap, ap₂, subst, List, ℕ}
use Rattle.std.proofs.lemmas.Result.{IfOk-weaker}
use Rattle.clap.specs.Words.{AddsArg}
use Rattle.clap.specs.declared.builder.command.Command.{Command}
use Rattle.tevents.specs.Words.{IsGiven}
use Rattle.tevents.proofs.CommandMade.{IsMade, command_made}
use Rattle.tevents.proofs.NumbersGiven.{number_given}
use Rattle.tevents.proofs.words.command.Goals as goal

made : (c : goal.After-arg-3) (r : Command) → AddsArg c.in_ok-with_budget.with_budget c.number_argument-2.result r → IsMade r
made c r added =
    let fields = c.no_binary_name.ensures in
    command_made c.no_binary_name.result c.in_ok-with_mode.with_mode c.in_ok-with_budget.with_budget r c.mode_argument.result c.number_argument.result c.number_argument-2.result
    (ap (λ f. f.args.items) fields ∙ c.new.ensures.empty.0) (ap (λ f. f.groups.items) fields ∙ c.new.ensures.empty.1) (search rules) (c.in_ok-with_mode.ensures) (c.in_ok-with_budget.ensures) added
    (search rules) (search rules) (search rules) (search rules) (search rules) (search rules) (search rules) (search rules) (search rules) (search rules) (search rules)

pub returns-clause-app : goal.returns-clause-app
returns-clause-app c = IfOk-weaker c.arg-3.result _ _ (λ r added. (made c r added).app) c.arg-3.ensures

pub returns-clause-budget : goal.returns-clause-budget
returns-clause-budget c = IfOk-weaker c.arg-3.result _ _ (λ r added m p. (
    let is : IsMade r = made c r added in
    let none = added.globals ∙ ap₂ (λ a b. a || b) (c.in_ok-with_budget.ensures.globals ∙ ap₂ (λ a b. a || b) (c.in_ok-with_mode.ensures.globals ∙ ap₂ (λ a b. a || b)
    (ap (λ f. f.has_globals) c.no_binary_name.ensures ∙ c.new.ensures.local) c.mode_argument.ensures.local) c.number_argument.ensures.local) c.number_argument-2.ensures.local in
    subst (λ (n : List ℕ). IsGiven m n 1 1000000) is.budget_id
    (number_given r m p (p.parsed (p.from.globals ∙ none))
    (p.from.plain is.plain).1 1 is.budget is.budget_placed 1 1000000 is.budget_is))) c.arg-3.ensures

pub returns-clause-number : goal.returns-clause-number
returns-clause-number c = IfOk-weaker c.arg-3.result _ _ (λ r added m p. (
    let is : IsMade r = made c r added in
    let none = added.globals ∙ ap₂ (λ a b. a || b) (c.in_ok-with_budget.ensures.globals ∙ ap₂ (λ a b. a || b) (c.in_ok-with_mode.ensures.globals ∙ ap₂ (λ a b. a || b)
    (ap (λ f. f.has_globals) c.no_binary_name.ensures ∙ c.new.ensures.local) c.mode_argument.ensures.local) c.number_argument.ensures.local) c.number_argument-2.ensures.local in
    subst (λ (n : List ℕ). IsGiven m n 0 999) is.number_id (number_given r m p (p.parsed (p.from.globals ∙ none))
    (p.from.plain is.plain).1 2 is.number is.number_placed 0 999 is.number_is))) c.arg-3.ensures
