-- What the reader's place stands for, and what it keeps.
use Rattle.std.specs.Prelude.{◌≡◌, ◌≤◌, Option, Some, None, length, true}
use Rattle.mblock.specs.declared.limits.TheConstants.{BLOCK_INSTS, ORDER_INSTS}
use Rattle.mblock.specs.Slots.{is_slotted}
use Rattle.block_text.specs.declared.stage.Stage.{Stage}
use Rattle.block_text.specs.declared.stage.Stage.TheVariants as stages
use Rattle.block_text.specs.StageParts.{StageParts, AtBlock, InBlock, AtOrder, InOrder, AtSlot, Done}

abbrev pub stage_parts : Stage → StageParts
stage_parts stages.AtBlock = AtBlock
stage_parts (stages.InBlock is) = InBlock is.items
stage_parts (stages.AtOrder b) = AtOrder b
stage_parts (stages.InOrder b is) = InOrder b is.items
stage_parts (stages.AtSlot b is e) = AtSlot b is.items e
stage_parts (stages.Done b o) = Done b o

-- the limits that a place keeps
abbrev pub Fits : Stage → Type 0
Fits (stages.InBlock is) = length is.items ≤ BLOCK_INSTS
Fits (stages.InOrder b is) = length is.items ≤ ORDER_INSTS
Fits (stages.AtSlot b is e) = (length is.items ≤ ORDER_INSTS) × (is_slotted e ≡ true)
Fits _ = Unit {0}

abbrev pub parts_after : Option Stage → Option StageParts
parts_after None = None
parts_after (Some p) = Some (stage_parts p)
