-- The stores that a run's memory is made of, by tickets, and how far a run has come.
use Rattle.std.specs.Prelude.{◌≡◌, ℕ, ◌+◌, ◌-◌, ◌<◌, ◌≤◌, ◌&&◌, ◌==◌, Bool, int_lt, List, [], ◌∷◌, take, length, slice_index, vec_len}
use Rattle.std.specs.Prelude.{vec_capacity}
use Rattle.words.specs.declared.width.Width.{Width}
use Rattle.words.specs.Words.{signed}
use Rattle.sym_terms.specs.declared.label.Label.TheVariants.{Mem0, Store}
use Rattle.sym_terms.specs.Trees.{Tree, leaf, ternary}
use Rattle.sym_terms.specs.NormalForms.{address_of, are_disjoint}
use Rattle.term_table.specs.Passes.{PassState}
use Rattle.sym_exec.specs.MipsTerms.{HasTree}
use Rattle.sym_exec.specs.declared.address.TermAddress.{TermAddress}
use Rattle.sym_exec.specs.declared.stores.Stored.{Stored}
use Rattle.sym_exec.specs.declared.stores.StoreChain.{StoreChain}
use Rattle.sym_exec.specs.declared.room.RunLists.{RunLists}
use Rattle.sym_exec.specs.declared.registers.TermRegisters.{TermRegisters}
use Rattle.sym_exec.specs.Symbolic.{TreeState}
use Rattle.sym_exec.specs.Standing.{IsAddress, Hold, GuardsStand}

-- where it stores
abbrev pub address_of_store : Stored → TermAddress
address_of_store s = record { base = s.base; offset = s.offset }

-- an access of this width at this address doesn't meet the store
abbrev pub passes : Stored → Width → TermAddress → Bool
passes s w at = (s.base == at.base) && are_disjoint s.width s.offset w at.offset

-- and the store has the greater offset
abbrev pub passes_inward : Stored → Width → TermAddress → Bool
passes_inward s w at = passes s w at && int_lt (signed at.offset) (signed s.offset)

-- the store makes memory u of memory t
pub record Makes (p : PassState) (s : Stored) (t u : Tree) : Type 0 where
  pub address : Tree
  pub value : Tree
  pub has_address : HasTree p s.address address
  pub has_value : HasTree p s.value value
  pub at : IsAddress p (address_of_store s) (address_of address)
  pub tree : u ≡ ternary (Store s.width) t address value

-- one after another, the stores make memory u of memory t
abbrev pub LeadsTo : PassState → Tree → List Stored → Tree → Type 0
LeadsTo p t [] u = t ≡ u
LeadsTo p t (s ∷ rest) u = (v : Tree) × Makes p s t v × LeadsTo p v rest u

-- they make it of the memory at the start
abbrev pub MakeMemory : PassState → List Stored → Tree → Type 0
MakeMemory p stores u = LeadsTo p (leaf Mem0) stores u

-- each ticket has the tree of the memory after as many stores as tickets stand before it
abbrev pub AreMemories : PassState → List ℕ → List Stored → Type 0
AreMemories p memories stores = (k : ℕ) → k < length memories → (t : Tree) → MakeMemory p (take k stores) t
    → HasTree p (slice_index memories k) t

-- the stores make a memory, and the terms of memory are those that they make, the one at the start among them
pub record IsChain (p : PassState) (c : StoreChain) : Type 0 where
  pub memory : Tree
  pub made : MakeMemory p c.stores.items memory
  pub memories : AreMemories p c.memories.items c.stores.items
  pub some : 0 < length c.memories.items
  pub fit : length c.memories.items ≤ length c.stores.items + 1

-- where there is memory for stores, there is for the terms before and after each
abbrev pub HasStoreRoom : StoreChain → Type 0
HasStoreRoom c = vec_capacity c.stores < vec_capacity c.memories

-- where there is memory for a guard, there is for a store; a store has its guard
pub record HasRoom (r : RunLists) : Type 0 where
  pub guards : vec_capacity r.guards ≤ vec_capacity r.chain.stores
  pub chain : HasStoreRoom r.chain
  pub few : vec_len r.chain.stores ≤ vec_len r.guards

-- how many guards there is memory for yet
abbrev pub spare : RunLists → ℕ
spare r = vec_capacity r.guards - vec_len r.guards

pub record IsEmpty (r : RunLists) : Type 0 where
  pub guards : r.guards.items ≡ []
  pub stores : r.chain.stores.items ≡ []
  pub memories : r.chain.memories.items ≡ []

-- empty lists with memory for the guards and stores of so many instructions and of a slot
pub record IsRoomFor (insts : ℕ) (r : RunLists) : Type 0 where
  pub room : HasRoom r
  pub empty : IsEmpty r
  pub few : insts < spare r

-- a run has come as far as these trees
pub record Tracks (p : PassState) (registers : TermRegisters) (r : RunLists) (t : TreeState) : Type 0 where
  pub hold : Hold p registers t
  pub memory : MakeMemory p r.chain.stores.items t.memory
  pub guards : GuardsStand p r.guards.items t.guards
