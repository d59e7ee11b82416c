-- Steps of an activation through emitted code, and what they keep.
use Rattle.std.specs.Prelude.{◌≡◌, ◌≢◌, ℕ, suc, ◌<◌, List, Some}
use Rattle.runs.specs.Stores.{Places, Arrays, PlacesHoldWords, ArraysHoldWords}
use Rattle.rtl.specs.Programs.{Program}
use Rattle.rtl.specs.Meaning.{Code, Run, Surroundings, at, rtl_steps, state_at_block}
use Rattle.rtl.specs.declared.block.RBlock.{RBlock}

-- some number of steps leads from one state to another
pub record Goes (p : Program) (depth : ℕ) (s t : Run) : Type 0 where
  pub count : ℕ
  pub ends : rtl_steps p depth count s ≡ t

-- one or more steps
pub record Moves (p : Program) (depth : ℕ) (s t : Run) : Type 0 where
  pub more : ℕ
  pub ends : rtl_steps p depth (suc more) s ≡ t

-- registers below the first free one hold the locals that are set, and locals and globals hold words
pub record Holds (free : ℕ) (l r : Places) (g : Arrays) : Type 0 where
  pub by : (x v : ℕ) → l x ≡ Some v → (x < free) × (r x ≡ Some v)
  pub locals : PlacesHoldWords l
  pub globals : ArraysHoldWords g

-- the register d holds v, and those below the first free one are as they were, but for d
pub record Puts (free d v : ℕ) (old new : Places) : Type 0 where
  pub value : new d ≡ Some v
  pub kept : (x : ℕ) → x < free → x ≢ d → new x ≡ old x

-- one or more steps lead from some code to other code, and then this holds of the registers
pub record Yields (w : Surroundings) (bs : List RBlock) (r : Places) (from to : Code) (Done : Places → Type 0) : Type 0 where
  pub regs : Places
  pub moves : Moves w.program w.depth (at w bs r from) (at w bs regs to)
  pub done : Done regs

-- the same in any number of steps, as none for a local that is in its register
pub record Takes (w : Surroundings) (bs : List RBlock) (r : Places) (from to : Code) (Done : Places → Type 0) : Type 0 where
  pub regs : Places
  pub goes : Goes w.program w.depth (at w bs r from) (at w bs regs to)
  pub done : Done regs

-- one or more steps lead into a block, and keep the registers below the first free one
pub record Arrives (w : Surroundings) (bs : List RBlock) (free : ℕ) (r : Places) (from : Code) (b : ℕ) : Type 0 where
  pub regs : Places
  pub moves : Moves w.program w.depth (at w bs r from) (state_at_block w bs regs b)
  pub kept : (x : ℕ) → x < free → regs x ≡ r x
