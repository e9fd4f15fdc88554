-- The exchange is in rounds: one with a block, and one in which both threads end.
use Rattle.std.proofs.Common.{refl, inr}
use Rattle.std.specs.Prelude.{[], ◌∷◌}
use Rattle.te_serial.specs.Rounds.{IsInRounds}
use Rattle.te_terms.proofs.CannotCommit.{nobody_can_commit}
use Rattle.tevents.proofs.HistoriesWorked.{exchange_whole}
use Rattle.te_history.proofs.RowsExchange as exchange

pub exchange_in_rounds : IsInRounds 2 exchange.history
exchange_in_rounds = record {
  rounds = record { openings = exchange.posts; blocks = exchange.block ∷ []; closing = [] } ∷ record { openings = exchange.ends; blocks = []; closing = [] } ∷ [];
  parts = refl;
  are_rounds = (
    record {
      opens = (refl, (refl, tt));
      blocks = ((refl, (refl, (refl, tt))), tt);
      none_left = nobody_can_commit;
      closes = inr ((λ due. due.settled.0), refl);
    },
    (
      record {
        opens = (refl, (refl, tt));
        blocks = tt;
        none_left = nobody_can_commit;
        closes = inr ((λ due. due.some_parked refl), refl);
      },
      exchange_whole,
    ),
  );
}
