use Rattle.std.proofs.Common.{length}
use Rattle.sym_terms.specs.Trees.{Tree}
use Rattle.sym_terms.specs.NormalForms.{address_of, store_tree}
use Rattle.term_table.specs.Passes.{PassState}
use Rattle.term_table.specs.Trees.{HasLegalHistory}
use Rattle.sym_exec.specs.Standing.{IsAddress}
use Rattle.sym_exec.specs.Stores.{LeadsTo, MakeMemory}
use Rattle.sym_exec.proofs.Chains.{Walk}
use Rattle.sym_exec.proofs.stores.stores_inside.Given as goal

abbrev pub invariant-loop-last : goal.invariant-loop-last
invariant-loop-last l = Walk (λ inner outer. (p : PassState) (m b v : Tree) → HasLegalHistory p → MakeMemory p l.fn.stores m
    → IsAddress p l.fn.at (address_of b)
    → (n : Tree) × MakeMemory p inner n × LeadsTo p (store_tree l.fn.width n b v) outer (store_tree l.fn.width m b v)) l.fn.stores l.inner

abbrev pub decreases-loop-last : goal.decreases-loop-last
decreases-loop-last l = length l.inner
