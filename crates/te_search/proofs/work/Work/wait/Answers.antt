use Rattle.std.proofs.Common.{refl, sym, subst}
use Rattle.te_pair.specs.Ends.{PathIsKept}
use Rattle.te_terms.proofs.Lists.{get_some}
use Rattle.te_search.proofs.Meeting.{not_kept}
use Rattle.te_search.proofs.Waiting.{wait_done}
use Rattle.te_search.proofs.Ending.{gains_grow}
use Rattle.te_search.proofs.WorkKept.{keeps_both, keeps_end}
use Rattle.te_search.proofs.work.Work.wait.Goals as goal

pub returns-clause-ok : goal.returns-clause-ok
returns-clause-ok c =
    let x = get_some c.args.self.now.store.paths c.args.p c.requires.path in
    wait_done c.args.self.now c.meet_all.new.self (record {
      store = c.meet_all.new.self.store;
      moves = c.meet_all.new.self.moves;
      pending = c.meet_all.new.self.pending;
      waiting = c.keep_at.new.self;
      finals = c.meet_all.new.self.finals;
      groups = c.meet_all.new.self.groups;
    }) c.args.p x.0 c.args.channel c.args.sends x.1
    c.requires.work (c.requires.stands x.0 x.1) (c.in_default.ensures.ok x.0 x.1) refl refl refl refl refl c.in-Ok.ensures.ok

pub returns-clause-events : goal.returns-clause-events
returns-clause-events c = let x = get_some c.args.self.now.store.paths c.args.p c.requires.path in (c.in_default.ensures.ok x.0 x.1).gains.events

pub returns-clause-grows : goal.returns-clause-grows
returns-clause-grows c = let x = get_some c.args.self.now.store.paths c.args.p c.requires.path in let m = c.in_default.ensures.ok x.0 x.1 in gains_grow c.args.self.now
    c.meet_all.new.self m.news m.gains

pub returns-clause-keeps : goal.returns-clause-keeps
returns-clause-keeps c = keeps_both c.args.self.now c.meet_all.new.self _ c.meet_all.ensures.keeps (keeps_end _ _ _ refl refl c.in-Ok.ensures.ok refl)

pub keep_at-requires : goal.keep_at-requires
keep_at-requires c =
    let x = get_some c.args.self.now.store.paths c.args.p c.requires.path in
    subst (λ w. ¬ PathIsKept w c.args.p) (sym (c.in_default.ensures.ok x.0 x.1).gains.waiting) (not_kept c.args.self.now c.args.p x.0 c.requires.work x.1)
