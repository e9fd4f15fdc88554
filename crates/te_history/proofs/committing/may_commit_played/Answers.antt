use Rattle.std.proofs.Common.{Result, Ok, Err}
use Rattle.std.specs.Result.{IfOk}
use Rattle.te_history.specs.declared.entry.StepFault.{StepFault}
use Rattle.te_history.specs.Histories.{now}
use Rattle.te_history.proofs.CanPlay.{commits_known}
use Rattle.te_history.proofs.committing.may_commit_played.Goals as goal

-- a fact of a result that is fine gives another
along : {P Q : Unit {0} → Type 0} (r : Result (Unit {0}) StepFault) → ((x : Unit {0}) → P x → Q x) → IfOk r P → IfOk r Q
along (Ok x) f holds = f x holds
along (Err e) f holds = tt

pub returns-clause-ok : goal.returns-clause-ok
returns-clause-ok c =
    along c.can_play.result
    (λ x can. commits_known c.args.hist.now.callers (now c.args.hist.now) c.args.cert.now c.args.outcomes.now can c.requires.plays)
    c.can_play.ensures.ok
