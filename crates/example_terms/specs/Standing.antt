-- What a pass knows of a block: tickets mean the values that its instructions make, in each environment.
use Rattle.std.specs.Prelude.{◌≡◌, ℕ, ◌<◌, List, [], ◌∷◌, length, slice_index}
use Rattle.term_table.specs.Passes.{TableState, PassState, IsOf}
use Rattle.term_table.specs.Meanings.{Means, AllMean}
use Rattle.example_terms.specs.declared.block.Instruction.{Instruction}
use Rattle.example_terms.specs.declared.block.Block.{Block}
use Rattle.example_terms.specs.declared.symbolic.Ran.{Ran}
use Rattle.example_terms.specs.Meaning.{at, values_in, op_algebra}

-- these are the tickets at these places
abbrev pub AreAt : List ℕ → List ℕ → List ℕ → Type 0
AreAt tickets [] [] = Unit {0}
AreAt tickets [] (t ∷ ts) = ⊥
AreAt tickets (k ∷ ks) [] = ⊥
AreAt tickets (k ∷ ks) (t ∷ ts) = (t ≡ slice_index tickets k) × (k < length tickets) × AreAt tickets ks ts

-- the tickets are those of the values that these instructions make
abbrev pub StandFor : PassState → List ℕ → List Instruction → Type 0
StandFor p tickets is = AllMean op_algebra p tickets (values_in is)

-- the pass is the table's, and the tickets are those of the block's value and of memory as the block leaves it
pub record HasRun (t : TableState) (b : Block) (r : Ran) : Type 0 where
  pub own : IsOf t r.pass
  pub value : Means op_algebra r.pass r.value (λ e. at (values_in b.instructions.items e) b.value)
  pub memory : Means op_algebra r.pass r.memory (λ e. at (values_in b.instructions.items e) b.memory)
