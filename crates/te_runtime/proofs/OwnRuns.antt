-- What the calls of a worker leave of its caller's thread.
use Rattle.std.proofs.Common.{◌≡◌, ◌≤◌, ◌<◌, ◌+◌, ◌^◌, inl, inr, ℕ, zero, suc, Bool, true, false, cond, eqb, eq-eqb}
use Rattle.std.proofs.Common.{List, [], ◌∷◌, ◌++◌, length, Some, refl, sym, ap, ◌∙◌, subst, arith, append_assoc, length-append}
use Rattle.std.specs.List.{AllByRecursion, filter, slice_get}
use Rattle.std.proofs.lemmas.List.{append-nil}
use Rattle.te_terms.specs.declared.event.Outcome.{Outcome}
use Rattle.te_terms.specs.Terms.{Term}
use Rattle.te_cert.specs.declared.cert.Cert.{Cert}
use Rattle.te_cert.specs.Certs.{IsTight}
use Rattle.te_script.specs.Scripts.{Thread}
use Rattle.te_script.specs.Wishes.{Wish, wish, syncs}
use Rattle.te_script.specs.Cores.{At, core_after}
use Rattle.te_lock.specs.Lock.{Knowledge, IsSamePass}
use Rattle.te_lock.specs.Entries.{entries_by}
use Rattle.te_history.specs.declared.entry.Entry.{Entry}
use Rattle.te_history.specs.declared.entry.Entry.TheVariants as entries
use Rattle.te_history.specs.declared.status.How.{How}
use Rattle.te_history.specs.declared.status.How.TheVariants as ways
use Rattle.te_history.specs.State.{posts_by, is_post_by}
use Rattle.te_history.specs.Follows.{caller_of}
use Rattle.te_history.proofs.AfterEntry.{posts_by_at_most}
use Rattle.te_report.specs.OfScript.{taken, taken_from, IsWished, EndsSo}
use Rattle.te_serial.specs.Houses.{CommitsTightly}
use Rattle.te_board.specs.Boards.{most_entries}
use Rattle.te_runtime.specs.declared.fault.SyncFault.{SyncFault}
use Rattle.te_runtime.specs.declared.fault.SyncFault.TheVariants as faults
use Rattle.te_runtime.specs.Answers.{IsTightCommit}
use Rattle.te_runtime.specs.Calls.{Called, RefusedAfterWait, board_of}
use Rattle.te_runtime.specs.Refusals.{HasStuck, HasRest, RefusesOffer, RefusesEnding, RefusesResting}
use Rattle.te_runtime.specs.Syncs.{CommitsBetween, IsSynced, HasWithdrawn, FailsLater, IsSyncRefused, HasEnded}
use Rattle.te_runtime.specs.Households.{is_withdrawal_by, withdrawals_by}
use Rattle.te_runtime.specs.Working.{WishedAlone, IsRun, WorkHasStopped}
use Rattle.te_runtime.proofs.OwnEntries.{last_read}
use Rattle.te_terms.proofs.Lists.{all_both, get-last}

-- ---- lists of entries, one after the other

taken_from_both : (t : ℕ) (e : Entry) (xs ys : List Outcome) → taken_from t e (xs ++ ys) ≡ taken_from t e xs ++ ys
taken_from_both t (entries.Take by ticket outcome) xs ys = at (eqb by t)
  where
    at : (b : Bool) → cond b (outcome ∷ (xs ++ ys)) (xs ++ ys) ≡ cond b (outcome ∷ xs) xs ++ ys
    at true = refl
    at false = refl
taken_from_both t (entries.Post by ticket event) xs ys = refl
taken_from_both t (entries.Commit by cert outcomes) xs ys = refl
taken_from_both t (entries.Withdraw by ticket) xs ys = refl
taken_from_both t (entries.Rest by) xs ys = refl
taken_from_both t (entries.Stuck by) xs ys = refl
taken_from_both t (entries.End by how) xs ys = refl

taken_both : (t : ℕ) (xs ys : List Entry) → taken t (xs ++ ys) ≡ taken t xs ++ taken t ys
taken_both t [] ys = refl
taken_both t (x ∷ xs) ys = ap (λ (os : List Outcome). taken_from t x os) (taken_both t xs ys) ∙ taken_from_both t x (taken t xs) (taken t ys)

one_more : (b : Bool) (m n : ℕ) → cond b (suc (m + n)) (m + n) ≡ cond b (suc m) m + n
one_more true m n = omega arith
one_more false m n = refl

withdrawals_both : (t : ℕ) (xs ys : List Entry) → withdrawals_by t (xs ++ ys) ≡ withdrawals_by t xs + withdrawals_by t ys
withdrawals_both t [] ys = omega arith
withdrawals_both t (x ∷ xs) ys =
    ap (λ (n : ℕ). cond (is_withdrawal_by t x) (suc n) n) (withdrawals_both t xs ys) ∙ one_more (is_withdrawal_by t x) (withdrawals_by t xs) (withdrawals_by t ys)

posts_both : (t : ℕ) (xs ys : List Entry) → posts_by t (xs ++ ys) ≡ posts_by t xs + posts_by t ys
posts_both t [] ys = omega arith
posts_both t (x ∷ xs) ys = ap (λ (n : ℕ). cond (is_post_by t x) (suc n) n) (posts_both t xs ys) ∙ one_more (is_post_by t x) (posts_by t xs) (posts_by t ys)

alone_both : (text : Thread) (t : ℕ) (before xs ys : List Entry) → WishedAlone text t before xs → WishedAlone text t (before ++ xs) ys
    → WishedAlone text t before (xs ++ ys)
alone_both text t before [] ys w v = subst (λ (b : List Entry). WishedAlone text t b ys) (append-nil before) v
alone_both text t before (x ∷ xs) ys w v =
    (w.0, alone_both text t (before ++ x ∷ []) xs ys w.1 (subst (λ (b : List Entry). WishedAlone text t b ys) (sym (append_assoc before (x ∷ []) xs)) v))

-- ---- entries more

-- what entries more are to the thread: its wishes, so many posts and withdrawals, tight commits alone, and these outcomes
pub record Adds (text : Thread) (t : ℕ) (before more : List Entry) (outs : List Outcome) (posts withdrawals : ℕ) : Type 0 where
  pub wished : WishedAlone text t before more
  pub takes : taken t more ≡ outs
  pub tight : AllByRecursion CommitsTightly more
  pub posts_are : posts_by t more ≡ posts
  pub withdrawals_are : withdrawals_by t more ≡ withdrawals

module _ (text : Thread) (t : ℕ) where
  pub adds_both : (before xs ys : List Entry) (os ps : List Outcome) (m n v w : ℕ) → Adds text t before xs os m v → Adds text t (before ++ xs) ys ps n w
      → Adds text t before (xs ++ ys) (os ++ ps) (m + n) (v + w)
  adds_both before xs ys os ps m n v w a b = record {
    wished = alone_both text t before xs ys a.wished b.wished;
    takes = taken_both t xs ys ∙ ap (λ (l : List Outcome). l ++ taken t ys) a.takes ∙ ap (λ (l : List Outcome). os ++ l) b.takes;
    tight = all_both CommitsTightly xs ys a.tight b.tight;
    posts_are = posts_both t xs ys ∙ ap (λ (k : ℕ). k + posts_by t ys) a.posts_are ∙ ap (λ (k : ℕ). m + k) b.posts_are;
    withdrawals_are = withdrawals_both t xs ys ∙ ap (λ (k : ℕ). k + withdrawals_by t ys) a.withdrawals_are ∙ ap (λ (k : ℕ). v + k) b.withdrawals_are;
  }

  pub adds_nothing : (before : List Entry) → Adds text t before [] [] 0 0
  adds_nothing before = record { wished = tt; takes = refl; tight = tt; posts_are = refl; withdrawals_are = refl }

  adds_post : (before : List Entry) (ticket : ℕ) (event : Term) → wish text (taken t before) ≡ syncs event
      → Adds text t before (entries.Post t ticket event ∷ []) [] 1 0
  adds_post before ticket event wished =
      record { wished = (wished, tt); takes = refl; tight = (tt, tt); posts_are = ap (λ (b : Bool). cond b 1 0) (eq-eqb t t refl); withdrawals_are = refl }

  pub adds_take : (before : List Entry) (ticket : ℕ) (outcome : Outcome) → Adds text t before (entries.Take t ticket outcome ∷ []) (outcome ∷ []) 0 0
  adds_take before ticket outcome =
      record { wished = (tt, tt); takes = ap (λ (b : Bool). cond b (outcome ∷ []) []) (eq-eqb t t refl); tight = (tt, tt); posts_are = refl; withdrawals_are = refl }

  pub adds_withdrawal : (before : List Entry) (ticket : ℕ) → Adds text t before (entries.Withdraw t ticket ∷ []) [] 0 1
  adds_withdrawal before ticket =
      record { wished = (tt, tt); takes = refl; tight = (tt, tt); posts_are = refl; withdrawals_are = ap (λ (b : Bool). cond b 1 0) (eq-eqb t t refl) }

  pub adds_rest : (before : List Entry) (by : ℕ) → Adds text t before (entries.Rest by ∷ []) [] 0 0
  adds_rest before by = record { wished = (tt, tt); takes = refl; tight = (tt, tt); posts_are = refl; withdrawals_are = refl }

  pub adds_stuck : (before : List Entry) (by : ℕ) → Adds text t before (entries.Stuck by ∷ []) [] 0 0
  adds_stuck before by = record { wished = (tt, tt); takes = refl; tight = (tt, tt); posts_are = refl; withdrawals_are = refl }

  pub adds_end : (before : List Entry) (by : ℕ) (how : How) → EndsSo (wish text (taken t before)) how → Adds text t before (entries.End by how ∷ []) [] 0 0
  adds_end before by how ends = record { wished = (ends, tt); takes = refl; tight = (tt, tt); posts_are = refl; withdrawals_are = refl }

  adds_commit : (before : List Entry) (e : Entry) (k : ℕ) → IsTightCommit k e → Adds text t before (e ∷ []) [] 0 0
  adds_commit before e k c =
      let P : Entry → Type 0 = λ x. Adds text t before (x ∷ []) [] 0 0 in
      subst P (sym c.is) (record { wished = (tt, tt); takes = refl; tight = (c.tight, tt); posts_are = refl; withdrawals_are = refl })

  adds_commits : (before cs : List Entry) (k : ℕ) → AllByRecursion (IsTightCommit k) cs → Adds text t before cs [] 0 0
  adds_commits before [] k all = adds_nothing before
  adds_commits before (c ∷ cs) k all =
      adds_both before (c ∷ []) cs [] [] 0 0 0 0 (adds_commit before c k all.0) (adds_commits (before ++ c ∷ []) cs k all.1)

  -- what a sync appends: its post, commits, and these entries
  adds_sync : (before cs last : List Entry) (k ticket : ℕ) (event : Term) (os : List Outcome) (w : ℕ) → wish text (taken t before) ≡ syncs event
      → AllByRecursion (IsTightCommit k) cs → ((b : List Entry) → Adds text t b last os 0 w)
      → Adds text t before ((entries.Post t ticket event ∷ cs) ++ last) os 1 w
  adds_sync before cs last k ticket event os w wished tight ends =
      let post = entries.Post t ticket event in
      let none : 0 + w ≡ w = omega arith in
      subst (Adds text t before ((post ∷ cs) ++ last) os 1) none
      (adds_both before (post ∷ cs) last [] os 1 0 0 w
      (adds_both before (post ∷ []) cs [] [] 1 0 0 0 (adds_post before ticket event wished) (adds_commits (before ++ post ∷ []) cs k tight))
      (ends (before ++ post ∷ cs)))

-- ---- what is left of a run

-- what a call left: the same caller's pass, whose own entries lead to this core, with so many posts and withdrawals more
pub record Leaves (p q : Knowledge Entry) (core : At) (posts withdrawals : ℕ) : Type 0 where
  pub same : IsSamePass p q
  pub idle : q.has_turn ≡ false
  pub run : IsRun q.caller q.own core
  pub posts_are : posts_by q.caller q.own ≡ posts_by p.caller p.own + posts
  pub withdrawals_are : withdrawals_by q.caller q.own ≡ withdrawals_by p.caller p.own + withdrawals

pub leaves : {p q : Knowledge Entry} (core after : At) (more : List Entry) (outs : List Outcome) (posts withdrawals : ℕ) → Called p q more
    → IsRun p.caller p.own core → Adds core.thread q.caller p.own more outs posts withdrawals
    → after ≡ core_after core.thread (taken q.caller p.own ++ outs) → Leaves p q after posts withdrawals
leaves {p} {q} core after more outs posts withdrawals c run adds moves = record {
  same = c.same;
  idle = c.idle;
  run = run_then (subst (λ (k : ℕ). IsRun k p.own core) (sym c.same.1) run);
  posts_are = ap (posts_by q.caller) c.own ∙ posts_both q.caller p.own more ∙ ap (λ (k : ℕ). posts_by k p.own + posts_by q.caller more) c.same.1
      ∙ ap (λ (k : ℕ). posts_by p.caller p.own + k) adds.posts_are;
  withdrawals_are = ap (withdrawals_by q.caller) c.own ∙ withdrawals_both q.caller p.own more
      ∙ ap (λ (k : ℕ). withdrawals_by k p.own + withdrawals_by q.caller more) c.same.1
      ∙ ap (λ (k : ℕ). withdrawals_by p.caller p.own + k) adds.withdrawals_are;
}
  where
    run_then : IsRun q.caller p.own core → IsRun q.caller q.own after
    run_then r =
        let text : after.thread ≡ core.thread = ap (λ (a : At). a.thread) moves in
        let took : taken q.caller q.own ≡ taken q.caller p.own ++ outs = ap (taken q.caller) c.own ∙ taken_both q.caller p.own more
        ∙ ap (λ (l : List Outcome). taken q.caller p.own ++ l) adds.takes in
        record {
          wished = subst (λ (x : Thread). WishedAlone x q.caller [] q.own) (sym text)
              (subst (WishedAlone core.thread q.caller []) (sym c.own) (alone_both core.thread q.caller [] p.own more r.wished adds.wished));
          stands = moves ∙ ap (core_after core.thread) (sym took) ∙ ap (λ (x : Thread). core_after x (taken q.caller q.own)) (sym text);
          tight = subst (AllByRecursion CommitsTightly) (sym c.own) (all_both CommitsTightly p.own more r.tight adds.tight);
        }

-- the core stays where it was
stays_at : (p q : Knowledge Entry) (core : At) → IsSamePass p q → IsRun p.caller p.own core → core ≡ core_after core.thread (taken q.caller p.own ++ [])
stays_at p q core same run =
    run.stands ∙ ap (λ (k : ℕ). core_after core.thread (taken k p.own)) (sym same.1) ∙ ap (core_after core.thread) (sym (append-nil (taken q.caller p.own)))

pub leaves_core : {p q : Knowledge Entry} (core : At) (more : List Entry) (posts withdrawals : ℕ) → Called p q more → IsRun p.caller p.own core
    → Adds core.thread q.caller p.own more [] posts withdrawals → Leaves p q core posts withdrawals
leaves_core {p} {q} core more posts withdrawals c run adds = leaves core core more [] posts withdrawals c run adds (stays_at p q core c.same run)

-- ---- a sync

wished_by : (p q : Knowledge Entry) (core : At) (event : Term) → IsSamePass p q → wish core.thread (taken p.caller p.own) ≡ syncs event
    → wish core.thread (taken q.caller p.own) ≡ syncs event
wished_by p q core event same wished = subst (λ (k : ℕ). wish core.thread (taken k p.own) ≡ syncs event) (sym same.1) wished

pub synced_leaves : {p q : Knowledge Entry} (core after : At) (event : Term) (outcome : Outcome) → IsRun p.caller p.own core
    → wish core.thread (taken p.caller p.own) ≡ syncs event → IsSynced p q event outcome
    → after ≡ core_after core.thread (taken p.caller p.own ++ outcome ∷ []) → Leaves p q after 1 0
synced_leaves {p} {q} core after event outcome run wished s moves =
    let g = s.appended in
    leaves core after _ (outcome ∷ []) 1 0 g.called run
    (adds_sync core.thread q.caller p.own g.commits (entries.Take q.caller s.ticket outcome ∷ []) q.caller s.ticket event (outcome ∷ []) 0
    (wished_by p q core event g.called.same wished) g.tight (λ b. adds_take core.thread q.caller b s.ticket outcome))
    (moves ∙ ap (λ (k : ℕ). core_after core.thread (taken k p.own ++ outcome ∷ [])) (sym g.called.same.1))

-- what a sync that came to nothing left
pub record LeavesSoon (p q : Knowledge Entry) (core : At) : Type 0 where
  pub same : IsSamePass p q
  pub idle : q.has_turn ≡ false
  pub run : IsRun q.caller q.own core
  pub once : withdrawals_by q.caller q.own ≤ 1

soon : {p q : Knowledge Entry} (core : At) (posts withdrawals : ℕ) → withdrawals_by p.caller p.own ≡ 0 → withdrawals ≤ 1 → Leaves p q core posts withdrawals
    → LeavesSoon p q core
soon core posts withdrawals none few l = record { same = l.same; idle = l.idle; run = l.run; once = let is = l.withdrawals_are in omega (arith, none, few, is) }

module _ {p q : Knowledge Entry} (core : At) (event : Term) (run : IsRun p.caller p.own core) (none : withdrawals_by p.caller p.own ≡ 0)
    (wished : wish core.thread (taken p.caller p.own) ≡ syncs event) where
  between_soon : (ticket w : ℕ) (last : List Entry) → w ≤ 1 → ((b : List Entry) → Adds core.thread q.caller b last [] 0 w)
      → CommitsBetween p q (entries.Post q.caller ticket event ∷ []) last → LeavesSoon p q core
  between_soon ticket w last few ends g =
      soon core 1 w none few (leaves_core core _ 1 w g.called run
      (adds_sync core.thread q.caller p.own g.commits last q.caller ticket event [] w (wished_by p q core event g.called.same wished) g.tight ends))

  withdrawn_soon : (budget ticket : ℕ) (f : SyncFault) → HasWithdrawn budget ticket p q (entries.Post q.caller ticket event ∷ []) f → LeavesSoon p q core
  withdrawn_soon budget ticket f h =
      between_soon ticket 1 (entries.Withdraw q.caller ticket ∷ []) (omega arith) (λ b. adds_withdrawal core.thread q.caller b ticket) h.0

  later_soon : (budget ticket : ℕ) (f : SyncFault) → FailsLater budget ticket p q (entries.Post q.caller ticket event ∷ []) f → LeavesSoon p q core
  later_soon budget ticket faults.Stuck left = elim left.appended [
    | inl g ↦ between_soon ticket 0 [] (omega arith) (λ b. adds_nothing core.thread q.caller b) g
    | inr g ↦ between_soon ticket 0 (entries.Stuck q.caller ∷ []) (omega arith) (λ b. adds_stuck core.thread q.caller b q.caller) g
  ]
  later_soon budget ticket (faults.Other status) h = withdrawn_soon budget ticket (faults.Other status) h
  later_soon budget ticket faults.Resting h = withdrawn_soon budget ticket faults.Resting h
  later_soon budget ticket (faults.Spent front paths groups) h = withdrawn_soon budget ticket (faults.Spent front paths groups) h
  later_soon budget ticket faults.Full h = withdrawn_soon budget ticket faults.Full h
  later_soon budget ticket (faults.Busy word) h = withdrawn_soon budget ticket (faults.Busy word) h
  later_soon budget ticket faults.Memory h = withdrawn_soon budget ticket faults.Memory h

  pub refused_soon : (budget : ℕ) (f : SyncFault) → IsSyncRefused budget p q event f → LeavesSoon p q core
  refused_soon budget f (inl (c, cause)) = soon core 0 0 none (omega arith) (leaves_core core [] 0 0 c run (adds_nothing core.thread q.caller p.own))
  refused_soon budget f (inr (ticket, later)) = later_soon budget ticket f later

-- where a sync was refused as stuck, or as resting, what was read has such an entry
pub refused_stuck : (budget : ℕ) {p q : Knowledge Entry} (event : Term) → IsSyncRefused budget p q event faults.Stuck → HasStuck (board_of q)
refused_stuck budget event (inl (c, stuck)) = stuck
refused_stuck budget event (inr (ticket, left)) = left.stuck

pub refused_resting : (budget : ℕ) {p q : Knowledge Entry} (event : Term) → IsSyncRefused budget p q event faults.Resting → HasRest (board_of q)
refused_resting budget event (inl (c, cause)) = cause.1
refused_resting budget event (inr (ticket, why)) = why.1

-- ---- an end and a rest

-- the end is the caller's own
pub ended_own : {p q : Knowledge Entry} (how : How) → Called p q (entries.End q.caller how ∷ []) → WorkHasStopped q
ended_own {p} {q} how c =
    inl (length p.own, how, ap (λ (l : List Entry). slice_get l (length p.own)) c.own ∙ get-last p.own (entries.End q.caller how))

pub rested_read : {p q : Knowledge Entry} → Called p q (entries.Rest q.caller ∷ []) → WorkHasStopped q
rested_read {p} {q} c = let there = last_read [] (entries.Rest q.caller) c in inr (inr (there.0, q.caller, there.1))

pub rest_refused : (q : Knowledge Entry) (f : SyncFault) → RefusesResting (board_of q) f → WorkHasStopped q
rest_refused q faults.Stuck r = inr (inl r)
rest_refused q faults.Resting r = inr (inr r.1)
rest_refused q (faults.Other status) r = absurd r
rest_refused q (faults.Spent front paths groups) r = absurd r
rest_refused q faults.Full r = absurd r
rest_refused q (faults.Busy word) r = absurd r
rest_refused q faults.Memory r = absurd r

pub end_refused_stuck : (how : How) (q : Knowledge Entry) → RefusesEnding how (board_of q) q.caller faults.Stuck → WorkHasStopped q
end_refused_stuck (ways.Done values) q r = inr (inl r)
end_refused_stuck (ways.Raised value) q r = inr (inl r)
end_refused_stuck ways.Stuck q r = absurd r

-- ---- how many posts there can be

filter_shorter : {A : Type 0} (test : A → Bool) (xs : List A) → length (filter test xs) ≤ length xs
filter_shorter test [] = omega arith
filter_shorter {A} test (x ∷ xs) = by_test (test x) (filter_shorter test xs)
  where
    by_test : (b : Bool) → length (filter test xs) ≤ length xs → length (cond b (x ∷ filter test xs) (filter test xs)) ≤ suc (length xs)
    by_test true less = omega (arith, less)
    by_test false less = omega (arith, less)

-- a caller has posted no more often than its history has entries
pub posts_few : {p q : Knowledge Entry} (more : List Entry) → Called p q more → posts_by p.caller p.own ≤ most_entries
posts_few {p} {q} more c =
    let own = posts_by_at_most p.caller p.own in
    let longer = ap length c.own ∙ length-append p.own more in
    let kept = ap length c.whole in
    let shorter = filter_shorter (λ (e : Entry). eqb (caller_of e) q.caller) q.read in
    let few = c.law.few in
    omega (arith, own, longer, kept, shorter, few)
