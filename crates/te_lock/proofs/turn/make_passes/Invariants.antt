use Rattle.std.proofs.Common.{◌≡◌}
use Rattle.te_lock.specs.Lock.{new_passes}
use Rattle.te_lock.specs.Rule.{maker_of}
use Rattle.te_lock.proofs.turn.make_passes.Given as goal

-- the maker has counted the passes so far, which stand in order
abbrev pub invariant-loop-caller : goal.invariant-loop-caller
invariant-loop-caller g l = record {
  here : l.maker.table_id ≡ l.initial.maker.table_id;
  maker : l.maker.me.0 ≡ maker_of l.caller l.callers;
  passes : l.passes.items ≡ new_passes (record { table = l.table.table_id; callers = l.callers }) l.caller;
}
