-- Statements in order, and one more behind them, are in order; what holds of each element holds with one more of which it holds.
use Rattle.std.proofs.Common.{ℕ, zero, suc, List, [], ◌∷◌, ◌++◌, sym, subst}
use Rattle.std.specs.List.{AllByRecursion}
use Rattle.te_script.specs.Scripts.{Statement, sync, emit, repeat, AreSyncs, IsRepeat, AreStatements, with_register}
use Rattle.te_terms.proofs.Lists.{AllByRecursion-append}

AreSyncs-append : (count : ℕ) (ss : List Statement) (s : Statement) → AreSyncs count ss → AreSyncs count (ss ++ s ∷ [])
AreSyncs-append zero ss s h = tt
AreSyncs-append (suc count) [] s h = absurd h
AreSyncs-append (suc count) (sync r t ∷ ss) s h = AreSyncs-append count ss s h
AreSyncs-append (suc count) (emit e ∷ ss) s h = absurd h
AreSyncs-append (suc count) (repeat times more ∷ ss) s h = absurd h

pub AreStatements-append : (channels registers written : ℕ) (ss : List Statement) (s : Statement) → AreStatements channels registers written ss → AreStatements channels registers registers (s ∷ [])
    → AreStatements channels registers written (ss ++ s ∷ [])
AreStatements-append channels registers written [] s h last = subst (λ w. AreStatements channels registers w (s ∷ [])) (sym h) last
AreStatements-append channels registers written (emit e ∷ ss) s h last = (h.0, AreStatements-append channels registers written ss s h.1 last)
AreStatements-append channels registers written (sync r t ∷ ss) s h last = (h.0, h.1, h.2, AreStatements-append channels registers (with_register written r) ss s h.3 last)
AreStatements-append channels registers written (repeat times count ∷ ss) s h last = (
  record { some_times = h.0.some_times; most = h.0.most; some = h.0.some; body = AreSyncs-append count ss s h.0.body },
  AreStatements-append channels registers written ss s h.1 last,
)
