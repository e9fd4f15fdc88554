-- Which worked histories are of their script, and whole.
use Rattle.std.proofs.Common.{◌≡◌, refl}
use Rattle.std.specs.Prelude.{[], ◌∷◌}
use Rattle.te_script.specs.Wishes.{syncs}
use Rattle.te_history.specs.declared.entry.Entry.TheVariants as entries
use Rattle.te_report.specs.Whole.{IsWhole}
use Rattle.te_report.specs.OfScript.{IsOfScript}
use Rattle.te_history.proofs.RowsExchange as exchange
use Rattle.tevents.proofs.RowsExchange.{script}

pub exchange_of_script : IsOfScript script exchange.history
exchange_of_script = (refl, (refl, (tt, (tt, (tt, (refl, (refl, tt)))))))

pub exchange_whole : IsWhole 2 exchange.history
exchange_whole = (refl, (refl, tt))

-- ---- a post of an event that its thread doesn't wish

other_event : syncs exchange.sends ≡ syncs exchange.receives → ⊥
other_event e = cc

pub other_event_not_of_script : ¬ IsOfScript script (entries.Post 0 0 exchange.receives ∷ [])
other_event_not_of_script wished = other_event wished.0
