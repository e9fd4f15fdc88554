use Rattle.std.proofs.Common.{◌≡◌, ◌+◌, ◌≤◌, ◌-◌, length, map, vec_len, vec_capacity}
use Rattle.te_terms.specs.Terms.{registers_to}
use Rattle.te_script.specs.Cores.{stand_at, under, emits_left, steps_behind}
use Rattle.te_script.specs.Texts.{statement_of}
use Rattle.te_script.proofs.wish.past_emits.Given as goal

abbrev pub invariant-loop-place : goal.invariant-loop-place
invariant-loop-place l = record {
  same :
      stand_at (under (registers_to l.regs) (steps_behind l.place (map statement_of l.stmts))) l.emitted.items
      ≡ stand_at (under (registers_to l.regs) (steps_behind l.from (map statement_of l.stmts))) l.initial.emitted.items;
  fits : vec_len l.emitted + emits_left (steps_behind l.place (map statement_of l.stmts)) ≤ vec_len l.initial.emitted + emits_left (steps_behind l.from (map statement_of l.stmts));
  room : vec_capacity l.emitted ≡ vec_capacity l.initial.emitted;
  within : l.place ≤ length l.stmts;
}

abbrev pub decreases-loop-place : goal.decreases-loop-place
decreases-loop-place l = length l.stmts - l.place
