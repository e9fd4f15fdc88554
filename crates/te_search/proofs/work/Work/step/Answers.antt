use Rattle.std.proofs.Common.{refl}
use Rattle.te_path.specs.declared.spot.Stop.TheVariants as stops
use Rattle.te_terms.proofs.Lists.{get_some}
use Rattle.te_search.proofs.Ending.{dead_done}
use Rattle.te_search.proofs.WorkKept.{keeps_same}
use Rattle.te_search.proofs.work.Work.step.Goals as goal

pub returns-in-Dead-clause-ok : goal.returns-in-Dead-clause-ok
returns-in-Dead-clause-ok c =
    let x = get_some c.args.self.now.store.paths c.args.p c.requires.path in
    dead_done c.args.self.now (record {
      store = c.args.self.now.store;
      moves = c.args.self.now.moves;
      pending = c.args.self.now.pending;
      waiting = c.args.self.now.waiting;
      finals = c.args.self.now.finals;
      groups = c.args.self.now.groups;
    }) c.args.p x.0 stops.Dead x.1 c.requires.work c.in-Dead.ensures.told (λ t h. h) refl

pub returns-in-Dead-clause-keeps : goal.returns-in-Dead-clause-keeps
returns-in-Dead-clause-keeps c = keeps_same _ _ refl refl refl refl
