use Rattle.std.proofs.Common.{◌≡◌, ◌+◌, ◌∷◌, ◌++◌, [], length, All, sym, ap, ◌∙◌, subst, arith, length-append, List}
use Rattle.te_lock.specs.Lock.{Knowledge, new_passes}
use Rattle.te_history.specs.declared.entry.Entry.{Entry}
use Rattle.te_example.specs.Passes.{IsFreePass}
use Rattle.te_example.proofs.PassesFree.{all_free, passes_many, others_too, last_too}
use Rattle.te_example.proofs.callers.open.Goals as goal

pub returns-clause-free : goal.returns-clause-free
returns-clause-free c =
    let runtime = c.in_ok-runtime.runtime in
    others_too (IsFreePass runtime) c.pop.new.self.items c.in-Some.host
    (subst (λ (l : List (Knowledge Entry)). All (IsFreePass runtime) l) (sym c.in_ok-runtime.ensures.passes ∙ c.in-Some.ensures.items) (all_free runtime (c.args.callers + 1)))

pub returns-clause-count : goal.returns-clause-count
returns-clause-count c =
    let runtime = c.in_ok-runtime.runtime in
    let many = passes_many runtime (c.args.callers + 1) in
    let split = ap length (sym c.in_ok-runtime.ensures.passes ∙ c.in-Some.ensures.items) in
    let one = length-append c.pop.new.self.items (c.in-Some.host ∷ []) in
    omega (arith, many, split, one)

pub returns-clause-host : goal.returns-clause-host
returns-clause-host c =
    let runtime = c.in_ok-runtime.runtime in
    last_too (IsFreePass runtime) c.pop.new.self.items c.in-Some.host
    (subst (λ (l : List (Knowledge Entry)). All (IsFreePass runtime) l) (sym c.in_ok-runtime.ensures.passes ∙ c.in-Some.ensures.items) (all_free runtime (c.args.callers + 1)))
