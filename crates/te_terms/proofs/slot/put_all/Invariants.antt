use Rattle.std.proofs.Common.{◌≡◌, ◌+◌, ◌≤◌, ◌++◌, length, take, vec_len, vec_capacity}
use Rattle.te_terms.proofs.slot.put_all.Given as goal

abbrev pub invariant-loop-calc : goal.invariant-loop-calc
invariant-loop-calc l = record {
  filled : l.list.items ≡ l.fn.list.items ++ take l.calc-index l.more;
  room : vec_len l.fn.list + length l.more ≤ vec_capacity l.list;
  long : vec_len l.list ≡ vec_len l.fn.list + l.calc-index;
}
