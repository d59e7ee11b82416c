use Rattle.std.proofs.Common.{◌≡◌, ◌≤◌, ◌+◌, ◌-◌, vec_len, vec_capacity}
use Rattle.term_table.specs.Passes.{linked}
use Rattle.sym_exec.specs.Interners.{GoesOn}
use Rattle.sym_exec.specs.Stores.{IsChain}
use Rattle.sym_exec.proofs.stores.StoreChain.memory_behind.Given as goal

abbrev pub invariant-loop-self : goal.invariant-loop-self
invariant-loop-self l = record {
  goes : GoesOn l.fn.terms l.terms;
  grows : linked l.terms.pass.now + (l.fn.count + 1 - vec_len l.self.memories) ≤ linked l.fn.terms.pass.now + (l.fn.count + 1 - vec_len l.fn.self.memories);
  chain : IsChain l.terms.pass.now l.self;
  stores : l.self.stores ≡ l.fn.self.stores;
  room : vec_capacity l.self.memories ≡ vec_capacity l.fn.self.memories;
}

abbrev pub decreases-loop-self : goal.decreases-loop-self
decreases-loop-self l = l.fn.count + 1 - vec_len l.self.memories
