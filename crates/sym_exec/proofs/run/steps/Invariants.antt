use Rattle.std.proofs.Common.{◌≡◌, ◌+◌, ◌≤◌, map, take, drop, length, vec_len, vec_capacity}
use Rattle.mips_isa.specs.Actions.{action_of}
use Rattle.sym_exec.specs.Symbolic.{TreeState, all_trees}
use Rattle.sym_exec.specs.Standing.{Known}
use Rattle.sym_exec.specs.Asked.{asked_by_all, LacksOne}
use Rattle.sym_exec.specs.Growth.{growth_by_all, all_stores}
use Rattle.term_table.specs.Passes.{PassState, linked}
use Rattle.sym_exec.specs.Interners.{GoesOn}
use Rattle.sym_exec.specs.Runs.{needed}
use Rattle.sym_exec.specs.Stores.{IsChain, HasRoom, Tracks}
use Rattle.sym_exec.proofs.run.steps.Given as goal

abbrev pub invariant-loop-inst : goal.invariant-loop-inst
invariant-loop-inst l = record {
  known : Known l.terms.pass.now l.registers;
  goes : GoesOn l.fn.terms l.terms;
  grows : linked l.terms.pass.now + growth_by_all (map action_of (drop l.inst-index l.insts)) (vec_len l.lists.chain.stores)
      ≤ linked l.fn.terms.pass.now + growth_by_all (map action_of l.insts) (vec_len l.fn.lists.chain.stores);
  stores : all_stores (map action_of (drop l.inst-index l.insts)) (vec_len l.lists.chain.stores)
      ≡ all_stores (map action_of l.insts) (vec_len l.fn.lists.chain.stores);
  chain : IsChain l.terms.pass.now l.lists.chain;
  room : HasRoom l.lists;
  guards : vec_len l.lists.guards ≤ vec_len l.fn.lists.guards + length (needed (take l.inst-index l.insts));
  capacity : vec_capacity l.lists.guards ≡ vec_capacity l.fn.lists.guards;
  tracks : (t : TreeState) → Tracks l.fn.terms.pass.now l.fn.registers l.fn.lists t
      → (u : TreeState) × Tracks l.terms.pass.now l.registers l.lists u
      × (all_trees (map action_of (drop l.inst-index l.insts)) u ≡ all_trees (map action_of l.insts) t)
      × ((p : PassState) → LacksOne p (asked_by_all (map action_of (drop l.inst-index l.insts)) u)
      → LacksOne p (asked_by_all (map action_of l.insts) t));
}
