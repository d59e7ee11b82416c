-- What an image has of a unit and of the orders of its blocks, and what it then does.
use Rattle.std.specs.Prelude.{◌≡◌, ◌+◌, List, map, All}
use Rattle.mips_isa.specs.Ranges.{IsInst}
use Rattle.mips_code.specs.Words.{inst_word}
use Rattle.mblock.specs.declared.limits.TheConstants.{BLOCK_INSTS}
use Rattle.mblock.specs.Parts.{OrderParts}
use Rattle.mblock.specs.PlainOrders.{plain_order_of}
use Rattle.mblock.specs.Orders.{AreOrders}
use Rattle.mblock.specs.Units.{UnitParts}
use Rattle.mblock.specs.UnitRuns.{TellsApart}
use Rattle.image.specs.Images.{ImageParts, IsImage}
use Rattle.mips_asm.specs.Layout.{layout, links_of, address_of_place}
use Rattle.mips_asm.specs.LayoutRuns.{RunsAs}

pub record IsAssembled (u : UnitParts) (orders : List OrderParts) (i : ImageParts) : Type 0 where
  pub code : i.code ≡ map inst_word (layout orders)
  pub bytes : i.bytes ≡ u.globals
  pub entry : i.entry ≡ address_of_place 0

-- its code runs as the unit, and its calls have links of their own
pub record RunsAsUnit (u : UnitParts) (orders : List OrderParts) (i : ImageParts) : Type 0 where
  pub apart : TellsApart (links_of orders) u.blocks
  pub runs : RunsAs (BLOCK_INSTS + 1) u.blocks orders i.code
  pub plain : orders ≡ map plain_order_of u.blocks → RunsAs 1 u.blocks orders i.code

-- the words of an image say what it does
abbrev pub EachAssembledImageRuns : Type 0
EachAssembledImageRuns = (u : UnitParts) (orders : List OrderParts) (i : ImageParts) → AreOrders u.blocks orders → IsAssembled u orders i
    → IsImage i → All IsInst (layout orders) → RunsAsUnit u orders i
