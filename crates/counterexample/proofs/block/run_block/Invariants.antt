use Rattle.std.proofs.Common.{◌≡◌, map, drop}
use Rattle.mips_isa.specs.Actions.{action_of}
use Rattle.mblock.specs.BlockMeaning.{run}
use Rattle.counterexample.specs.Views.{start_of, state_of}
use Rattle.counterexample.proofs.block.run_block.Given as goal

-- what is left of the instructions gives the whole
abbrev pub invariant-loop-inst : goal.invariant-loop-inst
invariant-loop-inst l = record {
  state : run (map action_of (drop l.inst-index l.insts)) (state_of l.registers) ≡ run (map action_of l.insts) (start_of l.start);
  filling : l.registers.memory.filling ≡ l.start.filling;
}
