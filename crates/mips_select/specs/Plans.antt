-- What the code of blocks is selected by.
use Rattle.std.specs.Prelude.{ℕ, Bool, List, slice_index}
use Rattle.rtl.specs.declared.block.RGlobal.{RGlobal}
use Rattle.mips_homes.specs.declared.homed.Frame.{Frame}
use Rattle.mips_select.specs.declared.heads.Head.{Head}
use Rattle.mips_select.specs.declared.plan.Linkage.{Linkage}
use Rattle.mips_select.specs.declared.plan.Plan.{Plan}
use Rattle.mips_select.specs.Heads.{heads_in}

-- what all functions share: the globals, where in the data each begins, and at which block each function begins
pub record Linking : Type 0 where
  pub globals : List RGlobal
  pub starts : ℕ → ℕ
  pub entry : ℕ → ℕ

-- whether a function makes no call, its frame, and where its blocks are
pub record Placing : Type 0 where
  pub leaf : Bool
  pub frame : Frame
  pub place : ℕ → ℕ

-- the same, with how many parameters the function has, and what its blocks begin with
pub record Planning : Type 0 where
  pub placing : Placing
  pub open placing use {leaf, frame, place}
  pub parameters : ℕ
  pub heads : ℕ → Head

abbrev pub placing_of : Bool → Frame → (place : ℕ → ℕ) → Placing
placing_of leaf f place = record { leaf = leaf; frame = f; place = place }

-- the same as the code has it
abbrev pub linking_of : Linkage → Linking
linking_of l = record { globals = l.globals.now; starts = slice_index l.starts.now; entry = slice_index l.entries.now }

abbrev pub planning_of : Plan → Planning
planning_of p = record {
  placing = placing_of p.leaf p.frame.now (slice_index p.places.now);
  parameters = p.parameters;
  heads = heads_in p.table.now;
}
