use Rattle.std.proofs.Common.{rules, ◌≡◌, ◌<◌, ℕ, ◌∷◌, [], ◌++◌, length, map, get_or, List, arith, sym, ap, ◌∙◌, subst, append_assoc}
use Rattle.std.specs.List.{AllZip}
use Rattle.std.specs.Vec.Iter.{into_iter_items}
use Rattle.te_script.specs.Scripts.{Thread, Program}
use Rattle.te_script.specs.Cores.{core_after}
use Rattle.te_lock.specs.Lock.{Knowledge, new_passes}
use Rattle.te_history.specs.declared.entry.Entry.{Entry}
use Rattle.te_runtime.specs.Working.{IsFirstJob}
use Rattle.te_runtime.proofs.JobsMade.{next_within, threads_many, thread_there, first_more, jobs_are, ended}
use Rattle.te_runtime.proofs.running.jobs_of.Goals as goal

pub bounds-as_slice-caller : goal.bounds-as_slice-caller
bounds-as_slice-caller c =
    let split : c.passes.yielded ++ c.in-Some.pass ∷ into_iter_items c.next.new.self ≡ c.args.passes.items =
    ap (λ (l : List (Knowledge Entry)). c.passes.yielded ++ l) (sym c.in-Some.ensures.steps.0) ∙ c.passes.invariant.whole in
    let low = next_within c.requires.passes.0 (length c.args.script.now.threads) c.passes.yielded (into_iter_items c.next.new.self) c.in-Some.pass
    (split ∙ c.requires.passes.1) in
    let many = threads_many (λ a. a.value) c.script.inside.threads c.args.script.now.threads (ap (λ (p : Program). p.threads) c.script.view_is) in
    let slice = ap length c.as_slice.ensures in
    omega (arith, low, many, slice, c.caller.ensures.caller)

pub passes-preserved : goal.passes-preserved
passes-preserved c = record {
  can = tt;
  ends = tt;
  whole =
      append_assoc c.passes.yielded (c.in-Some.pass ∷ []) (into_iter_items c.next.new.self)
      ∙ ap (λ (l : List (Knowledge Entry)). c.passes.yielded ++ l) (sym c.in-Some.ensures.steps.0) ∙ c.passes.invariant.whole;
  left =
      let items = ap length c.in-Some.ensures.steps.0 in
      let one = c.in-Some.ensures.steps.1 in
      let before = c.passes.invariant.left in
      omega (arith, items, one, before);
  first =
      let threads = c.args.script.now.threads in
      let arc = c.index-as_slice-caller.result in
      let texts : map (λ a. a.value) c.script.inside.threads ≡ threads = ap (λ (p : Program). p.threads) c.script.view_is in
      let split : c.passes.yielded ++ c.in-Some.pass ∷ into_iter_items c.next.new.self ≡ c.args.passes.items =
      ap (λ (l : List (Knowledge Entry)). c.passes.yielded ++ l) (sym c.in-Some.ensures.steps.0) ∙ c.passes.invariant.whole in
      let low = next_within c.requires.passes.0 (length threads) c.passes.yielded (into_iter_items c.next.new.self) c.in-Some.pass
      (split ∙ c.requires.passes.1) in
      let many = threads_many (λ a. a.value) c.script.inside.threads threads texts in
      let here : arc ≡ get_or c.script.inside.threads c.in-Some.pass.caller arc =
      c.index-as_slice-caller.is ∙ ap (λ l. get_or l c.caller.result arc) c.as_slice.ensures
      ∙ ap (λ (k : ℕ). get_or c.script.inside.threads k arc) c.caller.ensures.caller in
      let is : c.in_ok-core.core ≡ core_after arc.value [] = search rules in
      first_more threads c.passes.yielded c.passes.jobs.items c.push.new.self.items c.in-Some.pass c.in_ok-core.core arc.value c.passes.invariant.first
      (thread_there (λ a. a.value) c.script.inside.threads threads c.in-Some.pass.caller arc texts (omega (arith, low, many)) here) is
      c.in_ok-push.ensures.items;
}

pub returns : goal.returns
returns c = λ lock is.
    let none = c.in-None.ensures.steps.0 in
    let left = c.passes.invariant.left in
    let over : c.passes.yielded ≡ c.args.passes.items = ended c.passes.yielded (into_iter_items c.passes.pass-iterator) c.args.passes.items (sym left ∙ none) c.passes.invariant.whole in
    jobs_are c.args.script.now.threads lock c.passes.jobs.items
    (subst (λ (l : List (Knowledge Entry)). AllZip (IsFirstJob c.args.script.now.threads) l c.passes.jobs.items) (over ∙ is) c.passes.invariant.first)
