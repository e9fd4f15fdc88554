use Rattle.std.proofs.Common.{arith, rules, ◌≡◌, ◌∙◌, ap, sym, subst, refl, length, slice_get, vec_len, nat_eq}
use Rattle.std.specs.List.{IsDistinct}
use Rattle.te_search.specs.Works.{IsSpentAt, IsMeeting, others_of}
use Rattle.te_trail.proofs.StoresHold.{held}
use Rattle.te_terms.proofs.Lists.{get_some, get-longer}
use Rattle.te_search.proofs.Working.{spent_gained}
use Rattle.te_search.proofs.Meeting.{meeting_starts, meeting_more, meeting_ready, other_low, listed_at, old_path, old_number}
use Rattle.te_search.proofs.WorkKept.{keeps_same, keeps_both}
use Rattle.te_search.proofs.work.Work.meet_all.Goals as goal

pub returns-in_default-clause-keeps : goal.returns-in_default-clause-keeps
returns-in_default-clause-keeps c = keeps_same _ _ refl refl refl refl

pub others-init : goal.others-init
others-init c = (
  c.requires.within,
  (λ x e. meeting_starts c.args.self.now c.args.p x c.args.sends (others_of c.args.self.now c.args.channel c.args.sends) c.requires.work),
  keeps_same _ _ refl refl refl refl,
)

pub meet_other-requires-clause-own : goal.meet_other-requires-clause-own
meet_other-requires-clause-own c =
    let x = get_some c.args.self.now.store.paths c.args.p c.requires.path in
    old_number c.args.self.now c.others.self x.0 c.args.sends (others_of c.args.self.now c.args.channel c.args.sends) c.others.i (c.others.invariant.1 x.0 x.1) c.args.p c.requires.path

pub meet_other-requires-clause-other : goal.meet_other-requires-clause-other
meet_other-requires-clause-other c =
    let x = get_some c.args.self.now.store.paths c.args.p c.requires.path in
    let one : vec_len c.in-Ok.others ≡ length c.in-Ok.others.items = search rules in
    let e = listed_at c.in-Ok.others.items c.ends.result.now (others_of c.args.self.now c.args.channel c.args.sends) c.others.i c.index-q.result.now
    (omega (arith, one, c.len-i-end.ensures, c.others-test.true)) c.index-q.ensures c.in-Ok.ensures.items c.ends.ensures.there in
    old_number c.args.self.now c.others.self x.0 c.args.sends (others_of c.args.self.now c.args.channel c.args.sends) c.others.i (c.others.invariant.1 x.0 x.1) c.index-q.result.now
    (other_low c.args.self.now _ c.args.channel c.args.sends c.requires.work c.others.i c.index-q.result.now e)

pub meet_other-requires-clause-ready : goal.meet_other-requires-clause-ready
meet_other-requires-clause-ready c u v eu ev ag =
    let x = get_some c.args.self.now.store.paths c.args.p c.requires.path in
    let m = c.others.invariant.1 x.0 x.1 in
    let one : vec_len c.in-Ok.others ≡ length c.in-Ok.others.items = search rules in
    let e = listed_at c.in-Ok.others.items c.ends.result.now (others_of c.args.self.now c.args.channel c.args.sends) c.others.i c.index-q.result.now
    (omega (arith, one, c.len-i-end.ensures, c.others-test.true)) c.index-q.ensures c.in-Ok.ensures.items c.ends.ensures.there in
    let others = others_of c.args.self.now c.args.channel c.args.sends in
    let ex = old_path c.args.self.now c.others.self x.0 c.args.sends others c.others.i m c.args.p u c.requires.path eu in
    let ey = old_path c.args.self.now c.others.self x.0 c.args.sends others c.others.i m c.index-q.result.now v
    (other_low c.args.self.now _ c.args.channel c.args.sends c.requires.work c.others.i c.index-q.result.now e) ev in
    meeting_ready c.args.self.now c.others.self c.args.p u v c.args.channel c.args.sends c.others.i c.index-q.result.now c.requires.work ex ey (c.requires.stands u ex) e
    (subst (IsDistinct nat_eq) c.ends.ensures.there c.ends.ensures.once) (c.others.invariant.1 u ex) ag

pub meet_other-requires-clause-low : goal.meet_other-requires-clause-low
meet_other-requires-clause-low c = let x = get_some c.args.self.now.store.paths c.args.p c.requires.path in (c.others.invariant.1 x.0 x.1).gains.pending_low

pub returns-in-Err-clause-spent : goal.returns-in-Err-clause-spent
returns-in-Err-clause-spent c h =
    let x = get_some c.args.self.now.store.paths c.args.p c.requires.path in
    let m = c.others.invariant.1 x.0 x.1 in
    let s = c.in-Err.ensures.spent h in
    subst (λ w. IsSpentAt w c.args.self.now.store.events c.args.budget) (sym s.0) (spent_gained c.args.self.now c.others.self c.args.p m.news c.args.budget c.requires.work m.gains s.1)

pub returns-in-Err-clause-keeps : goal.returns-in-Err-clause-keeps
returns-in-Err-clause-keeps c = keeps_both c.args.self.now c.others.self c.meet_other.new.self c.others.invariant.2 c.meet_other.ensures.keeps

pub others-preserved : goal.others-preserved
others-preserved c = (
  c.in_default-meet_other.ensures.within,
  λ x ex. (
      let m = c.others.invariant.1 x ex in
      let one : vec_len c.in-Ok.others ≡ length c.in-Ok.others.items = search rules in
      let e = listed_at c.in-Ok.others.items c.ends.result.now (others_of c.args.self.now c.args.channel c.args.sends) c.others.i c.index-q.result.now
      (omega (arith, one, c.len-i-end.ensures, c.others-test.true)) c.index-q.ensures c.in-Ok.ensures.items c.ends.ensures.there in
      let y = get_some c.args.self.now.store.paths c.index-q.result.now
      (other_low c.args.self.now _ c.args.channel c.args.sends c.requires.work c.others.i c.index-q.result.now e) in
      meeting_more c.args.self.now c.others.self c.meet_other.new.self x y.0 c.args.sends (others_of c.args.self.now c.args.channel c.args.sends) c.others.i c.index-q.result.now
      (held c.args.self.now.store.paths c.args.p x ex) e y.1 m
      (c.in_default-meet_other.ensures.ok x y.0 (ap (λ q. slice_get q c.args.p) m.gains.paths ∙ get-longer c.args.self.now.store.paths m.news c.args.p x ex)
      (ap (λ q. slice_get q c.index-q.result.now) m.gains.paths ∙ get-longer c.args.self.now.store.paths m.news c.index-q.result.now y.0 y.1))),
  keeps_both c.args.self.now c.others.self c.meet_other.new.self c.others.invariant.2 c.meet_other.ensures.keeps,
)

pub returns-clause-ok : goal.returns-clause-ok
returns-clause-ok c x ex =
    let one : vec_len c.in-Ok.others ≡ length c.in-Ok.others.items = search rules in
    let all : length c.in-Ok.others.items ≡ length (others_of c.args.self.now c.args.channel c.args.sends) = ap length (c.in-Ok.ensures.items ∙ c.ends.ensures.there) in
    let end : c.others.i ≡ length (others_of c.args.self.now c.args.channel c.args.sends) = omega (arith, one, all, c.len-i-end.ensures, c.others.auto.i-end, c.others-test.false) in
    subst (IsMeeting c.args.self.now c.others.self x c.args.sends (others_of c.args.self.now c.args.channel c.args.sends)) end (c.others.invariant.1 x ex)

pub returns-clause-keeps : goal.returns-clause-keeps
returns-clause-keeps c = c.others.invariant.2
