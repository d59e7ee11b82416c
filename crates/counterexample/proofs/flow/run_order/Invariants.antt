use Rattle.std.proofs.Common.{◌≡◌, map, drop, Some}
use Rattle.mips_isa.specs.Actions.{action_of}
use Rattle.mips_isa.specs.Steps.{words_from}
use Rattle.mips_isa.specs.Flows.{quiet}
use Rattle.counterexample.specs.Views.{start_of, flow_of}
use Rattle.counterexample.proofs.flow.run_order.Given as goal

-- what is left of the words gives the whole
abbrev pub invariant-loop-inst : goal.invariant-loop-inst
invariant-loop-inst l = record {
  flow : words_from (map action_of (drop l.inst-index l.insts)) (Some (flow_of l.flow))
      ≡ words_from (map action_of l.insts) (Some (quiet (start_of l.start)));
  filling : l.flow.registers.memory.filling ≡ l.start.filling;
}
