use Rattle.std.proofs.Common.{arith, ◌≡◌, ◌++◌, ◌∙◌, ap, sym, subst, refl, length, Err, get_or, slice_get}
use Rattle.std.proofs.lemmas.Result.{err_from_is_err_and}
use Rattle.te_search.specs.Searching.{paths_by}
use Rattle.te_search.specs.Works.{IsWithinBudget, RunsShort, IsSpentAt}
use Rattle.te_search.specs.Batches.{meetings_with}
use Rattle.te_terms.proofs.Lists.{get_low}
use Rattle.te_terms.proofs.Lists.{get_at}
use Rattle.te_terms.proofs.Lists.{get-longer}
use Rattle.te_search.proofs.Meeting.{old_number}
use Rattle.te_search.proofs.EndsMet.{Meets, contains_at, meets_none, meets_more, meets_all, other_ready, others_are}
use Rattle.te_search.proofs.EndsMet.{others_all}
use Rattle.te_search.proofs.PathsEnd.{spent_then}
use Rattle.te_trail.proofs.RecordsRead.{take_all}
use Rattle.te_search.proofs.BatchSteps.{lowest, is_spent}
use Rattle.te_search.proofs.batched.Batched.meet_each.Goals as goal

pub others-init : goal.others-init
others-init c = (
  c.requires.batched.within,
  (λ x ex. meets_none c.args.self.now.work c.args.self.now.applied c.args.self.now.batched x c.args.sends
      c.args.others.now c.requires.batched.opened),
  record { parked = refl; threads = refl; budget = refl; batched = refl; applied = refl },
)

pub meet_with-requires-clause-own : goal.meet_with-requires-clause-own
meet_with-requires-clause-own c =
    let x = lowest c.args.self.now c.requires.batched c.requires.some in
    old_number c.args.self.now.work c.others.self.work x.0 c.args.sends c.args.others.now c.others.i
    (c.others.invariant.1 x.0 x.1).meeting c.args.self.now.applied
    (get_low c.args.self.now.work.store.paths x.0 c.args.self.now.applied x.1)

pub meet_with-requires-clause-other : goal.meet_with-requires-clause-other
meet_with-requires-clause-other c =
    let x = lowest c.args.self.now c.requires.batched c.requires.some in
    let s = c.requires.stands x.0 x.1 in
    let en = get_at c.args.others.now c.others.i 0 c.others-test.true in
    let h = others_are c.args.self.now.work c.args.self.now.applied c.args.self.now.batched x.0 s.0 c.args.sends
    c.args.others.now c.requires.batched.opened.kept x.1 s.1 c.requires.look.2 _
    (contains_at c.args.others.now c.others.i _ en) in
    old_number c.args.self.now.work c.others.self.work x.0 c.args.sends c.args.others.now c.others.i
    (c.others.invariant.1 x.0 x.1).meeting _
    (get_low c.args.self.now.work.store.paths h.path _ h.is)

pub meet_with-requires-clause-ready : goal.meet_with-requires-clause-ready
meet_with-requires-clause-ready c =
    let x = lowest c.args.self.now c.requires.batched c.requires.some in
    let s = c.requires.stands x.0 x.1 in
    let en = get_at c.args.others.now c.others.i 0 c.others-test.true in
    let h = others_are c.args.self.now.work c.args.self.now.applied c.args.self.now.batched x.0 s.0 c.args.sends
    c.args.others.now c.requires.batched.opened.kept x.1 s.1 c.requires.look.2 _
    (contains_at c.args.others.now c.others.i _ en) in
    other_ready c.args.self.now.work c.others.self.work c.args.self.now.applied c.args.self.now.batched x.0 s.0
    c.args.sends c.args.others.now c.others.i _ c.requires.batched.opened
    (omega (arith, c.others.invariant.0, c.requires.batched.budget.1)) x.1 s.1 c.requires.look.1 en h
    (c.others.invariant.1 x.0 x.1)

pub meet_with-requires-clause-low : goal.meet_with-requires-clause-low
meet_with-requires-clause-low c =
    let x = lowest c.args.self.now c.requires.batched c.requires.some in
    (c.others.invariant.1 x.0 x.1).meeting.gains.pending_low

pub others-preserved : goal.others-preserved
others-preserved c = (
  subst (IsWithinBudget c.meet_with.new.self) c.others.invariant.2.budget c.in_ok-meet_with.ensures.within,
  (λ x ex. (
      let s = c.requires.stands x ex in
      let m = c.others.invariant.1 x ex in
      let q = get_or c.args.others.now c.others.i 0 in
      let en = get_at c.args.others.now c.others.i 0 c.others-test.true in
      let h = others_are c.args.self.now.work c.args.self.now.applied c.args.self.now.batched x s.0 c.args.sends
      c.args.others.now c.requires.batched.opened.kept ex s.1 c.requires.look.2 q
      (contains_at c.args.others.now c.others.i q en) in
      meets_more c.args.self.now.work c.others.self.work c.meet_with.new.self c.args.self.now.applied x c.args.sends
      c.args.others.now c.others.i q h.path m ex en h.is h.agree
      (c.in_ok-meet_with.ensures.ok x h.path
      (ap (λ l. slice_get l c.args.self.now.applied) m.meeting.gains.paths
      ∙ get-longer c.args.self.now.work.store.paths m.meeting.news c.args.self.now.applied x ex)
      (ap (λ l. slice_get l q) m.meeting.gains.paths
      ∙ get-longer c.args.self.now.work.store.paths m.meeting.news q h.path h.is)))),
  record {
    parked = c.others.invariant.2.parked;
    threads = c.others.invariant.2.threads;
    budget = c.others.invariant.2.budget;
    batched = c.others.invariant.2.batched;
    applied = c.others.invariant.2.applied;
  },
)

pub returns-in_err-meet_with-clause-spent : goal.returns-in_err-meet_with-clause-spent
returns-in_err-meet_with-clause-spent c h =
    let x = lowest c.args.self.now c.requires.batched c.requires.some in
    let m = c.others.invariant.1 x.0 x.1 in
    let p = err_from_is_err_and c.from_residual.result c.from_residual.ensures.1 in
    let s = c.in_err-meet_with.ensures.spent
    (ap Err (is_spent c.from_residual.result p.0 c.in_err-meet_with.field-0.0 p.1 p.2 h)) in
    subst (λ w. IsSpentAt w c.args.self.now.work.store.events c.args.self.now.budget) (sym s.0)
    (spent_then c.args.self.now.work c.others.self.work c.args.self.now.applied c.args.self.now.batched x.0
    m.meeting.news c.args.self.now.budget c.requires.batched.budget.1 c.requires.batched.opened x.1 m.meeting.gains
    (subst (RunsShort c.others.self.work) c.others.invariant.2.budget s.1))

pub returns-clause-ok : goal.returns-clause-ok
returns-clause-ok c x ex =
    let end : c.others.i ≡ length c.args.others.now = omega (arith, c.others.auto.i-end, c.others-test.false) in
    let s = c.requires.stands x ex in
    let m = subst (Meets c.args.self.now.work c.others.self.work c.args.self.now.applied x c.args.sends
    c.args.others.now) end (c.others.invariant.1 x ex) in
    record {
      opened = meets_all c.args.self.now.work c.others.self.work c.args.self.now.applied c.args.self.now.batched x s.0
          c.args.sends c.args.others.now c.requires.batched.opened c.requires.some
          (omega (arith, c.others.invariant.0, c.requires.batched.budget.1)) ex s.1
          (others_are c.args.self.now.work c.args.self.now.applied c.args.self.now.batched x s.0 c.args.sends
          c.args.others.now c.requires.batched.opened.kept ex s.1 c.requires.look.2)
          (others_all c.args.self.now.work c.args.self.now.applied c.args.self.now.batched x s.0 c.args.sends
          c.args.others.now c.requires.batched.opened.kept c.requires.some ex s.1 c.requires.look.2) m;
      paths = m.paths ∙ ap (λ l. c.args.self.now.work.store.paths ++ meetings_with c.args.sends x
          (paths_by c.args.self.now.work.store.paths l)) (take_all c.args.others.now);
      events = m.meeting.gains.events;
      waiting = m.meeting.gains.waiting;
      within = c.others.invariant.0;
    }
