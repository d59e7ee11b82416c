use Rattle.std.proofs.Common.{◌≡◌, ℕ, ◌+◌, ◌-◌, vec_len, vec_capacity}
use Rattle.std.specs.Prelude.{slice_index}
use Rattle.mips_machine.proofs.memory.reach.Given as goal

abbrev pub invariant-loop-stack : goal.invariant-loop-stack
invariant-loop-stack l = record {
  same : (k : ℕ) → slice_index l.stack.items k ≡ slice_index l.initial.stack.items k;
  room : vec_capacity l.stack ≡ vec_capacity l.initial.stack;
}

abbrev pub decreases-loop-stack : goal.decreases-loop-stack
decreases-loop-stack l = l.place + 1 - vec_len l.stack
