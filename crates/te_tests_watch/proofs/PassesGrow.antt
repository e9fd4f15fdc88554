-- Whatever a call of a runtime answers, its pass has read on.
use Rattle.std.proofs.Common.{◌≡◌, ℕ, List, [], ◌∷◌, ◌++◌, Result, Ok, Err, inl, inr, sym, ◌∙◌}
use Rattle.std.proofs.lemmas.List.{append-nil}
use Rattle.std.specs.Result.{IfOk, IfErr}
use mathlib.Core.List.{IsPrefix}
use Rattle.te_lock.specs.Lock.{Knowledge}
use Rattle.te_history.specs.declared.entry.Entry.{Entry}
use Rattle.te_board.specs.Boards.{BoardLog}
use Rattle.te_runtime.specs.declared.fault.SyncFault.{SyncFault}
use Rattle.te_runtime.specs.declared.fault.SyncFault.TheVariants as faults
use Rattle.te_runtime.specs.declared.answers.Polled.{Polled}
use Rattle.te_runtime.specs.declared.answers.Polled.TheVariants as polled
use Rattle.te_runtime.specs.declared.answers.Driven.{Driven}
use Rattle.te_runtime.specs.declared.answers.Driven.TheVariants as driven
use Rattle.te_runtime.specs.Calls.{Called, FoundHeld, Refused, RefusedOnce}
use Rattle.te_runtime.specs.Answers.{IsPolled, IsDriven}
use Rattle.te_runtime.proofs.Calling.{prefix_then}

module _ (p q : Knowledge Entry) where
  held_grows : {word : ℕ} → FoundHeld p q word → IsPrefix p.read q.read
  held_grows held = ([], append-nil p.read ∙ sym held.read)

  refused_grows : (refuses : BoardLog → ℕ → SyncFault → Type 0) (f : SyncFault) → Refused refuses p q f → IsPrefix p.read q.read
  refused_grows refuses (faults.Busy word) held = held_grows held
  refused_grows refuses (faults.Other status) r = r.0.begins
  refused_grows refuses faults.Stuck r = r.0.begins
  refused_grows refuses faults.Resting r = r.0.begins
  refused_grows refuses (faults.Spent front paths groups) r = r.0.begins
  refused_grows refuses faults.Full r = r.0.begins
  refused_grows refuses faults.Memory r = r.0.begins

  pub ticket_grows : (refuses : BoardLog → ℕ → SyncFault → Type 0) (entries : ℕ → List Entry) (answer : Result ℕ SyncFault)
      → IfOk answer (λ ticket. Called p q (entries ticket)) → IfErr answer (Refused refuses p q) → IsPrefix p.read q.read
  ticket_grows refuses entries (Ok ticket) called refused = called.begins
  ticket_grows refuses entries (Err f) called refused = refused_grows refuses f refused

  polled_so : (answer : Polled) → IsPolled p q answer → IsPrefix p.read q.read
  polled_so (polled.Ready outcome) (ticket, called) = called.begins
  polled_so (polled.Waiting front) (called, front_is, waits) = called.begins

  pub polled_grows : (refuses : BoardLog → ℕ → SyncFault → Type 0) (answer : Result Polled SyncFault) → IfOk answer (IsPolled p q)
      → IfErr answer (Refused refuses p q) → IsPrefix p.read q.read
  polled_grows refuses (Ok answer) is refused = polled_so answer is
  polled_grows refuses (Err f) is refused = refused_grows refuses f refused

  driven_so : (answer : Driven) → IsDriven p q answer → IsPrefix p.read q.read
  driven_so (driven.Committed front) (is, (e, tight, called)) = called.begins
  driven_so (driven.Moved from front) moved = moved.called.begins
  driven_so (driven.Blocked front) blocked = blocked.called.begins
  driven_so driven.Stuck called = called.begins

  once_grows : (refuses : BoardLog → SyncFault → Type 0) (f : SyncFault) → RefusedOnce refuses p q f → IsPrefix p.read q.read
  once_grows refuses (faults.Busy word) (inl held) = held_grows held
  once_grows refuses (faults.Busy word) (inr (between, called, held)) =
      prefix_then p.read between.read q.read called.begins ([], append-nil between.read ∙ sym held.read)
  once_grows refuses (faults.Other status) r = r.0.begins
  once_grows refuses faults.Stuck r = r.0.begins
  once_grows refuses faults.Resting r = r.0.begins
  once_grows refuses (faults.Spent front paths groups) r = r.0.begins
  once_grows refuses faults.Full r = r.0.begins
  once_grows refuses faults.Memory r = r.0.begins

  pub driven_grows : (refuses : BoardLog → SyncFault → Type 0) (answer : Result Driven SyncFault) → IfOk answer (IsDriven p q)
      → IfErr answer (RefusedOnce refuses p q) → IsPrefix p.read q.read
  driven_grows refuses (Ok answer) is refused = driven_so answer is
  driven_grows refuses (Err f) is refused = once_grows refuses f refused

  pub news_grow : (refuses : BoardLog → ℕ → SyncFault → Type 0) (answer : Result (List Entry) SyncFault) → IfOk answer (λ news. Called p q [])
      → IfErr answer (Refused refuses p q) → IsPrefix p.read q.read
  news_grow refuses (Ok news) called refused = called.begins
  news_grow refuses (Err f) called refused = refused_grows refuses f refused
