-- How many terms a run may link. Each `intern` links one at most, and none where the term is there (hash-consing: Filliâtre and Conchon,
-- ML 2006). So an action links no more terms than it makes nodes. Loads depend on the stores before them: stores are kept sorted. One
-- that goes between others changes all memories after it, so the next load may need each of them again.
use Rattle.std.specs.Prelude.{ℕ, suc, ◌+◌, ◌*◌, ◌≤◌, List, [], ◌∷◌, map, length, if◌then◌else◌}
use Rattle.words.specs.declared.operator.Operator.{Operator}
use Rattle.mips_isa.specs.declared.action.Operand.{Operand}
use Rattle.mips_isa.specs.declared.action.Operand.TheVariants.{Held, Fixed}
use Rattle.mips_isa.specs.declared.action.Action.{Action}
use Rattle.mips_isa.specs.declared.action.Action.TheVariants.{Computes, Sets, Loads, Stores, Multiplies, Divides, MovesHigh, MovesLow}
use Rattle.mips_isa.specs.Actions.{action_of}
use Rattle.mblock.specs.declared.exit.Exit.{Exit}
use Rattle.mblock.specs.Parts.{BlockParts, OrderParts}
use Rattle.mblock.specs.BlockMeaning.{Shape, exit_shape, Calls, Prints, Halts}
use Rattle.mblock.specs.Clean.{slot_actions}
use Rattle.sym_terms.specs.NormalForms.{is_addition}

-- the term in a register is there, a constant may be new
abbrev pub operand_growth : Operand → ℕ
operand_growth (Held r) = 0
operand_growth (Fixed w) = 1

-- a sum is that of a base and a constant, which may be new too
abbrev pub op_growth : Operator → ℕ
op_growth op = if is_addition op then 2 else 1

-- what an action may link, with so many stores before it: an address is a sum
abbrev pub growth_by : Action → ℕ → ℕ
growth_by (Computes d op a b) stores = operand_growth b + op_growth op
growth_by (Sets d w) stores = 1
growth_by (Loads w d base offset) stores = stores + 3
growth_by (Stores w r base offset) stores = 2
growth_by (Multiplies sign a b) stores = 2
growth_by (Divides sign a b) stores = 2
growth_by (MovesHigh d) stores = 0
growth_by (MovesLow d) stores = 0

abbrev pub stores_after : Action → ℕ → ℕ
stores_after (Stores w r base offset) stores = suc stores
stores_after _ stores = stores

abbrev pub all_stores : List Action → ℕ → ℕ
all_stores [] stores = stores
all_stores (a ∷ rest) stores = all_stores rest (stores_after a stores)

abbrev pub growth_by_all : List Action → ℕ → ℕ
growth_by_all [] stores = 0
growth_by_all (a ∷ rest) stores = growth_by a stores + growth_by_all rest (stores_after a stores)

-- what the exit itself writes
abbrev pub growth_by_shape : Shape → ℕ
growth_by_shape (Calls f n) = 1
growth_by_shape (Prints n) = 1
growth_by_shape Halts = 1
growth_by_shape _ = 0

-- what code may link that has made so many stores: at the end the memory after each store
abbrev pub growth_from : ℕ → List Action → Exit → List Action → ℕ
growth_from stores acts exit slots =
    let before = all_stores acts stores in
    growth_by_all acts stores + growth_by_shape (exit_shape exit) + growth_by_all slots before + all_stores slots before

-- at the start the terms of 32 registers, HI, LO and memory
abbrev pub code_growth : List Action → Exit → List Action → ℕ
code_growth acts exit slots = 35 + growth_from 0 acts exit slots

abbrev pub block_growth : BlockParts → ℕ
block_growth b = code_growth (map action_of b.insts) b.exit []

abbrev pub order_growth : OrderParts → ℕ
order_growth o = code_growth (map action_of o.insts) o.exit (slot_actions o.slot)

-- it is at most quadratic in the number of actions
abbrev pub GrowthHasBound : Type 0
GrowthHasBound = (acts : List Action) (exit : Exit) (slots : List Action)
    → code_growth acts exit slots ≤ 36 + (length acts + length slots) * (length acts + length slots + 4)
