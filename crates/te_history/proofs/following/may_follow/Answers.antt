use Rattle.std.proofs.Common.{inl, inr, List, Result, Ok, Err, subst, arith}
use Rattle.std.specs.Result.{IfErr}
use Rattle.te_terms.specs.declared.event.Outcome.{Outcome}
use Rattle.te_history.specs.declared.entry.Entry.{Entry}
use Rattle.te_history.specs.declared.entry.Entry.TheVariants as entries
use Rattle.te_history.specs.declared.entry.StepFault.{StepFault}
use Rattle.te_history.specs.Follows.{LooselyFollows}
use Rattle.te_history.specs.Histories.{now}
use Rattle.te_history.specs.Refusals.{RefusesCommit}
use Rattle.te_history.proofs.CanPlay.{is_memory}
use Rattle.te_history.proofs.RefusedDontFollow.{not_entry, by_caller}
use Rattle.te_history.proofs.following.may_follow.Goals as goal

-- a fact of each refusal gives another
along : {A : Type 0} {P Q : StepFault → Type 0} (r : Result A StepFault) → ((fault : StepFault) → P fault → Q fault) → IfErr r P → IfErr r Q
along (Ok x) f holds = tt
along (Err e) f holds = f e holds

pub returns-then-caller-callers-clause-exact : goal.returns-then-caller-callers-clause-exact
returns-then-caller-callers-clause-exact c =
    inr (λ follows.
    let low = by_caller c.args.hist.now c.args.entry.now follows in
    let high = c.if-caller-callers.true in
    absurd (omega (arith, low, high, c.caller.ensures, c.callers.ensures.value)))

pub returns-in-Commit-clause-exact : goal.returns-in-Commit-clause-exact
returns-in-Commit-clause-exact c =
    let h = c.args.hist.now in
    along c.may_commit.result
    (λ fault refused. elim (is_memory fault) [
      | inl none ↦ inl none
      | inr found ↦
          inr (λ follows. not_entry h (entries.Commit c.in-Commit.by c.in-Commit.cert c.in-Commit.outcomes) fault
          (subst (λ (os : List Outcome). RefusesCommit h.callers (now h) c.in-Commit.cert os fault) c.as_slice.ensures refused) found
          (subst (λ (e : Entry). LooselyFollows h.callers h.entries e) c.in-Commit.is follows))
    ]) c.may_commit.ensures.refused

pub returns-in-Stuck-clause-exact : goal.returns-in-Stuck-clause-exact
returns-in-Stuck-clause-exact c =
    let h = c.args.hist.now in
    along c.may_be_stuck.result
    (λ fault refused. elim (is_memory fault) [
      | inl none ↦ inl none
      | inr found ↦
          inr (λ follows. not_entry h (entries.Stuck c.in-Stuck.by) fault refused found
          (subst (λ (e : Entry). LooselyFollows h.callers h.entries e) c.in-Stuck.is follows))
    ])
    c.may_be_stuck.ensures.refused
