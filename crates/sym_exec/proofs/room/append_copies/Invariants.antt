use Rattle.std.proofs.Common.{◌≡◌, ◌+◌, ◌++◌, take, vec_len, vec_capacity}
use Rattle.sym_exec.proofs.room.append_copies.Given as goal

abbrev pub invariant-loop-item : goal.invariant-loop-item
invariant-loop-item g l = record {
  items : l.list.items ≡ l.fn.list.items ++ take l.item-index l.copied;
  count : vec_len l.list ≡ vec_len l.fn.list + l.item-index;
  capacity : vec_capacity l.list ≡ vec_capacity l.fn.list;
}
