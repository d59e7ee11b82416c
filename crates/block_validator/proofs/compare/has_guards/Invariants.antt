use Rattle.std.proofs.Common.{◌≡◌, ℕ, ◌<◌, slice_index_or, Contains}
use Rattle.sym_exec.specs.declared.state.Guard.{Guard}
use Rattle.block_validator.proofs.compare.has_guards.Given as goal

abbrev pub invariant-loop-k : goal.invariant-loop-k
invariant-loop-k l = (k : ℕ) (g : Guard) → k < l.k → slice_index_or l.b k g ≡ g → Contains l.a g
