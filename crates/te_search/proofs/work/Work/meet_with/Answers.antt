use Rattle.std.proofs.Common.{◌≡◌, sym, subst, slice_get, Some}
use Rattle.te_trail.specs.Paths.{Path}
use Rattle.te_search.specs.Works.{Gains, met_paths}
use Rattle.te_search.proofs.Working.{on_ok}
use Rattle.te_search.proofs.work.Work.meet_with.Goals as goal

pub returns-then-sends-clause-ok : goal.returns-then-sends-clause-ok
returns-then-sends-clause-ok c = on_ok _ ((x y : Path) → slice_get c.args.self.now.store.paths c.args.p ≡ Some x → slice_get c.args.self.now.store.paths c.args.q ≡ Some y
    → Gains c.args.self.now c.meet_one.new.self (met_paths c.args.sends x y)) c.meet_one.result
    (λ ok x y ex ey. subst (λ s. Gains c.args.self.now c.meet_one.new.self (met_paths s x y)) (sym c.if-sends.true) (ok x y ex ey)) c.meet_one.ensures.ok

pub returns-else-sends-clause-ok : goal.returns-else-sends-clause-ok
returns-else-sends-clause-ok c = on_ok _ ((x y : Path) → slice_get c.args.self.now.store.paths c.args.p ≡ Some x → slice_get c.args.self.now.store.paths c.args.q ≡ Some y
    → Gains c.args.self.now c.meet_one-else-sends.new.self (met_paths c.args.sends x y)) c.meet_one-else-sends.result
    (λ ok x y ex ey. subst (λ s. Gains c.args.self.now c.meet_one-else-sends.new.self (met_paths s x y)) (sym c.if-sends.false) (ok y x ey ex)) c.meet_one-else-sends.ensures.ok
