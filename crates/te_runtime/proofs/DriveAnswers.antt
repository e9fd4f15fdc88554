-- What is done at the second turn of a drive is what the drive answers.
use Rattle.std.proofs.Common.{◌≡◌, ◌≢◌, ℕ, inl, inr, List, [], ◌∷◌, take, length, refl, sym, ap, ◌∙◌, subst, arith}
use Rattle.std.proofs.lemmas.List.{take_all}
use Rattle.te_terms.specs.declared.event.Parked.{Parked}
use Rattle.te_terms.specs.Joint.{CanCommit}
use Rattle.te_cert.specs.declared.cert.Cert.{Cert}
use Rattle.te_lock.specs.Lock.{Knowledge}
use Rattle.te_history.specs.declared.entry.Entry.{Entry}
use Rattle.te_history.specs.declared.entry.Entry.TheVariants as entries
use Rattle.te_history.specs.declared.entry.StepFault.{StepFault}
use Rattle.te_history.specs.declared.entry.StepFault.TheVariants as steps
use Rattle.te_history.specs.State.{state, parked_list}
use Rattle.te_history.specs.Follows.{caller_of}
use Rattle.te_history.specs.Refusals.{RefusesPlay}
use Rattle.te_history.proofs.AfterEntry.{length-state}
use Rattle.te_history.proofs.CanPlay.{play_refused}
use Rattle.te_history.proofs.RefusedCommits.{not_commit}
use Rattle.te_board.specs.declared.fault.BoardFault.{BoardFault}
use Rattle.te_board.specs.declared.fault.BoardFault.TheVariants as faults
use Rattle.te_board.specs.declared.snapshot.Snapshot.{Snapshot}
use Rattle.te_board.specs.Boards.{BoardLog, Appends, HasCommitted, state_of}
use Rattle.te_board.specs.Denials.{DeniesCommit, DeniesStuck}
use Rattle.te_serial.proofs.GroupsGiven.{group_commits}
use Rattle.te_runtime.specs.declared.answers.Driven.{Driven}
use Rattle.te_runtime.specs.declared.answers.Driven.TheVariants as driven
use Rattle.te_runtime.specs.Calls.{Called, board_of}
use Rattle.te_runtime.specs.Answers.{IsTightCommit, MayNotDeclare, IsDriven, parked_at}
use Rattle.te_runtime.specs.Turns.{Entered, Left}
use Rattle.te_runtime.specs.Acts.{IsGroupIn, Drives, IsSnapshotOf, IsActed}
use Rattle.te_runtime.proofs.Calling.{called, called_same, called_then, board_same, prefix_take}
use Rattle.te_runtime.proofs.PollAnswers.{appended}
use Rattle.te_lock.proofs.Beginnings.{prefix_length}

-- ---- a commit is refused only where the list isn't the one of the group any more

pub commit_moved : (b : BoardLog) (cert : Cert) (parked : List Parked) (fault : BoardFault) → IsGroupIn parked cert → fault ≢ faults.Closed
    → fault ≢ faults.Memory
    → DeniesCommit b cert fault → parked ≢ parked_list (state_of b)
commit_moved b cert parked fault group open' other denies = λ same. by_fault fault open' other denies (subst (λ (l : List Parked). IsGroupIn l cert) same group)
  where
    refused : IsGroupIn (parked_list (state_of b)) cert → (f : StepFault) → f ≢ steps.Memory → RefusesPlay b.callers (state_of b) cert f → ⊥
    refused g f other' denies' =
        not_commit b.callers (state_of b) cert g.0 f (length-state b.callers b.entries) (play_refused b.callers (state_of b) cert g.0 f denies') other'
        (group_commits (state_of b) cert g.0 g.1)

    by_fault : (f : BoardFault) → f ≢ faults.Closed → f ≢ faults.Memory → DeniesCommit b cert f → IsGroupIn (parked_list (state_of b)) cert → ⊥
    by_fault faults.Closed open'' other' denies' g = open'' refl
    by_fault faults.Memory open'' other' denies' g = other' refl
    by_fault (faults.Stranger i) open'' other' denies' g = refused g (steps.Stranger i) (λ is. cc) denies'.1
    by_fault (faults.Stale i status) open'' other' denies' g = refused g (steps.Stale i status) (λ is. cc) denies'.1
    by_fault (faults.Unsound found) open'' other' denies' g = refused g (steps.Unsound found) (λ is. cc) denies'.1
    by_fault _ open'' other' denies' g = denies'

-- ---- a commit of a group is tight

pub is_tight_commit : (before after : BoardLog) (by : ℕ) (cert : Cert) (parked : List Parked) → IsGroupIn parked cert
    → HasCommitted before after by cert → (e : Entry) × IsTightCommit by e × Appends before after e
is_tight_commit before after by cert parked group done =
    (entries.Commit by cert done.outcomes, record { cert = cert; outcomes = done.outcomes; is = refl; tight = group.1.tight }, done.appends)

commit_by : {by : ℕ} {e : Entry} → IsTightCommit by e → caller_of e ≡ by
commit_by c = ap caller_of c.is

-- ---- who may not declare the board stuck

pub may_not_declare : (b : BoardLog) (by : ℕ) (parked : List Parked) (fault : BoardFault) → fault ≢ faults.Closed → ((n : ℕ) → fault ≢ faults.Moved n)
    → DeniesStuck b by parked fault → MayNotDeclare (state_of b) by
may_not_declare b by parked faults.Closed open' other denies = absurd (open' refl)
may_not_declare b by parked (faults.Live t status) open' other denies = inl (t, status, denies.1.stands, denies.1.not_parked, denies.1.not_ended)
may_not_declare b by parked (faults.NotParked status) open' other denies = inr (status, denies.2, denies.3)
may_not_declare b by parked (faults.Moved now) open' other denies = absurd (other now refl)
may_not_declare b by parked _ open' other denies = absurd denies

-- ---- the second turn

pub is_acted : {m q r : Knowledge Entry} {b : BoardLog} (after : BoardLog) (by : ℕ) (seen : Snapshot) (d : Driven) → Entered m q b
    → Drives b after by seen d → Left q r after.entries → by ≡ m.caller
    → IsSnapshotOf m seen → IsActed m r d
is_acted {m} {q} {r} {b} after by seen (driven.Committed front) e drives l is of =
    let at : by ≡ q.caller = is ∙ sym e.same.1 in
    let x = drives.1.0 in
    (drives.0 ∙ ap length (sym l.read), (x, subst (λ (k : ℕ). IsTightCommit k x) (at ∙ sym l.same.1) drives.1.1, called e drives.1.2 (commit_by drives.1.1 ∙ at) l))
is_acted {m} {q} {r} {b} after by seen (driven.Moved from front) e drives l is of =
    let board : board_of r ≡ b = board_same e drives.same l in record {
      called = called_same e drives.same l;
      from_is = drives.from_is ∙ of.front;
      front_is = drives.front_is ∙ ap (λ (x : BoardLog). length x.entries) (sym board);
      differ = λ same. drives.differ (of.parked ∙ same ∙ ap (λ (x : BoardLog). parked_list (state_of x)) board);
    }
is_acted {m} {q} {r} {b} after by seen (driven.Blocked front) e drives l is of =
    let board : board_of r ≡ b = board_same e drives.same l in
    let at : by ≡ r.caller = is ∙ sym e.same.1 ∙ sym l.same.1 in record {
      called = called_same e drives.same l;
      front_is = drives.front_is ∙ ap (λ (x : BoardLog). length x.entries) (sym board);
      cannot = subst (λ (x : BoardLog). ¬ CanCommit (parked_list (state_of x))) (sym board) drives.cannot;
      may_not = subst (λ (x : BoardLog). MayNotDeclare (state_of x) r.caller) (sym board) (subst (MayNotDeclare (state_of b)) at drives.may_not);
    }
is_acted {m} {q} {r} {b} after by seen driven.Stuck e drives l is of = appended by entries.Stuck (λ k. refl) e drives l is

-- ---- the whole drive

-- the list at the end of what was read by then, and at the end of what is read now
at_end : (q : Knowledge Entry) (front : ℕ) → front ≡ length q.read → parked_at front q ≡ parked_list (state_of (board_of q))
at_end q front is = ap (λ (l : List Entry). parked_list (state q.lock.callers l)) (ap (λ (n : ℕ). take n q.read) is ∙ take_all (length q.read) q.read (omega arith))

at_seam : (m q : Knowledge Entry) (from : ℕ) → Called m q [] → from ≡ length m.read → parked_at from q ≡ parked_list (state_of (board_of m))
at_seam m q from c is =
    let lock : q.lock.callers ≡ m.lock.callers = ap (λ k. k.callers) c.same.0 in
    let list : take from q.read ≡ m.read = ap (λ (n : ℕ). take n q.read) is ∙ prefix_take m.read q.read c.begins in
    λ i. parked_list (state (lock i) (list i))

pub is_driven : {p m : Knowledge Entry} (q : Knowledge Entry) (d : Driven) → Called p m [] → IsActed m q d → IsDriven p q d
unfolding called_then
is_driven {p} {m} q (driven.Committed front) c (front_is, (e, commit, d)) = (front_is, (e, commit, called_then [] (e ∷ []) c d))
is_driven {p} {m} q (driven.Moved from front) c moved =
    let long = prefix_length m.read q.read moved.called.begins in record {
      called = called_then [] [] c moved.called;
      fresh = let reaches = c.looked.reaches in omega (arith, reaches, moved.from_is);
      within = omega (arith, long, moved.from_is, moved.front_is);
      front_is = moved.front_is;
      differ = λ same. moved.differ (sym (at_seam m q from moved.called moved.from_is) ∙ same ∙ at_end q front moved.front_is);
    }
is_driven {p} {m} q (driven.Blocked front) c blocked =
    record { called = called_then [] [] c blocked.called; front_is = blocked.front_is; cannot = blocked.cannot; may_not = blocked.may_not }
is_driven {p} {m} q driven.Stuck c d = called_then [] (entries.Stuck q.caller ∷ []) c d
