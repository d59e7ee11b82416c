-- The plain order of a block: its instructions in place, with Nops where a delay asks for them.
use Rattle.std.specs.Prelude.{List, [], ◌∷◌, Some, None, if◌then◌else◌}
use Rattle.std.specs.List.{flat_map}
use Rattle.mips_isa.specs.declared.inst.Plain.{Plain}
use Rattle.mips_isa.specs.Actions.{nop, action_of, is_load, is_move}
use Rattle.mblock.specs.Parts.{BlockParts, OrderParts}
use Rattle.mblock.specs.Slots.{is_slotted}

-- one Nop after a load, two after a move from HI or LO
abbrev pub padded_inst : Plain → List Plain
padded_inst i = i ∷ (if is_load (action_of i) then nop ∷ [] else (if is_move (action_of i) then nop ∷ nop ∷ [] else []))

abbrev pub plain_order_of : BlockParts → OrderParts
plain_order_of b = record {
  insts = flat_map padded_inst b.insts;
  exit = b.exit;
  slot = if is_slotted b.exit then Some nop else None;
}
