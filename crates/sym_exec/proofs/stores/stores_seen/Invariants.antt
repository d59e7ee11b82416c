use Rattle.std.proofs.Common.{◌≡◌, length}
use Rattle.sym_terms.specs.Trees.{Tree}
use Rattle.sym_terms.specs.NormalForms.{address_of, load_tree}
use Rattle.term_table.specs.Passes.{PassState}
use Rattle.term_table.specs.Trees.{HasLegalHistory}
use Rattle.sym_exec.specs.Standing.{IsAddress}
use Rattle.sym_exec.specs.Stores.{MakeMemory}
use Rattle.sym_exec.proofs.Chains.{Walk}
use Rattle.sym_exec.proofs.stores.stores_seen.Given as goal

abbrev pub invariant-loop-last : goal.invariant-loop-last
invariant-loop-last l = Walk (λ inner outer. (p : PassState) (m b : Tree) → HasLegalHistory p → MakeMemory p l.fn.stores m → IsAddress p l.fn.at (address_of b)
    → (n : Tree) × MakeMemory p inner n × (load_tree l.fn.width m b ≡ load_tree l.fn.width n b)) l.fn.stores l.inner

abbrev pub decreases-loop-last : goal.decreases-loop-last
decreases-loop-last l = length l.inner
