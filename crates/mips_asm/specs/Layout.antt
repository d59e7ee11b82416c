-- The words of orders, one after the other.
use Rattle.std.specs.Prelude.{ℕ, zero, suc, ◌+◌, ◌*◌, ◌/◌, ℤ, pos, ◌-ℤ◌, List, [], ◌∷◌, ◌++◌, map, length, Option, slice_get}
use Rattle.std.specs.Option.{option_map_or, option_to_list}
use Rattle.mips_isa.specs.declared.inst.Plain.{Plain}
use Rattle.mips_isa.specs.declared.inst.Plain.TheVariants.{Imm}
use Rattle.mips_isa.specs.declared.inst.ImmOp.TheVariants.{Addiu}
use Rattle.mips_isa.specs.declared.inst.JumpOp.TheVariants.{Jump, JumpAndLink}
use Rattle.mips_isa.specs.declared.inst.Control.TheVariants as controls
use Rattle.mips_isa.specs.declared.inst.Inst.{Inst}
use Rattle.mips_isa.specs.declared.inst.Inst.TheVariants as insts
use Rattle.mips_isa.specs.Actions.{nop}
use Rattle.mips_code.specs.Machines.{code_base}
use Rattle.mblock.specs.declared.exit.Exit.{Exit}
use Rattle.mblock.specs.declared.exit.Exit.TheVariants.{Goto, BranchPair, BranchZero, Call, Return, Out, Halt}
use Rattle.mblock.specs.Parts.{OrderParts}

abbrev pub exit_size : Exit → ℕ
exit_size (Goto t) = 2
exit_size Return = 2
exit_size Halt = 2
exit_size _ = 4

abbrev pub size : OrderParts → ℕ
size o = length o.insts + exit_size o.exit

-- the place of block k in the code, in words
abbrev pub place : List OrderParts → ℕ → ℕ
place [] k = 0
place (o ∷ rest) zero = 0
place (o ∷ rest) (suc k) = size o + place rest k

abbrev pub address_of_place : ℕ → ℕ
address_of_place p = code_base + 4 * p

abbrev pub slot_insts : Option Plain → List Inst
slot_insts slot = map insts.Plain (option_to_list slot)

abbrev pub jump_to : ℕ → Inst
jump_to p = insts.Control (controls.JumpTo Jump (address_of_place p / 4))

-- what stands after a slot: the way on
abbrev pub hop : ℕ → List Inst
hop p = jump_to p ∷ insts.Plain nop ∷ []

abbrev pub branch_offset : (here to : ℕ) → ℤ
branch_offset here to = pos to -ℤ pos (here + 1)

abbrev pub set_number : ℤ → Inst
set_number z = insts.Plain (Imm Addiu 2 0 z)

-- the words of an exit at a place, with the places of all blocks
abbrev pub exit_insts : (ℕ → ℕ) → ℕ → Exit → Option Plain → List Inst
exit_insts start here (Goto t) slot = jump_to (start t) ∷ slot_insts slot
exit_insts start here (BranchPair test a b t e) slot =
    insts.Control (controls.BranchPair test a b (branch_offset here (start t))) ∷ (slot_insts slot ++ hop (start e))
exit_insts start here (BranchZero test a t e) slot =
    insts.Control (controls.BranchZero test a (branch_offset here (start t))) ∷ (slot_insts slot ++ hop (start e))
exit_insts start here (Call f n) slot = insts.Control (controls.JumpTo JumpAndLink (address_of_place (start f) / 4))
    ∷ (slot_insts slot ++ hop (start n))
exit_insts start here Return slot = insts.Control (controls.JumpRegister 31) ∷ slot_insts slot
exit_insts start here (Out n) slot = set_number (pos 1) ∷ insts.Control controls.SystemCall ∷ hop (start n)
exit_insts start here Halt slot = set_number (pos 10) ∷ insts.Control controls.SystemCall ∷ []

abbrev pub order_insts : (ℕ → ℕ) → ℕ → OrderParts → List Inst
order_insts start here o = map insts.Plain o.insts ++ exit_insts start (here + length o.insts) o.exit o.slot

abbrev pub insts_of : (ℕ → ℕ) → ℕ → List OrderParts → List Inst
insts_of start here [] = []
insts_of start here (o ∷ rest) = order_insts start here o ++ insts_of start (here + size o) rest

abbrev pub layout : List OrderParts → List Inst
layout orders = insts_of (place orders) 0 orders

-- the link of a call in block k: after its jump and slot
abbrev pub links_of : List OrderParts → ℕ → ℕ
links_of orders k = address_of_place (place orders k + option_map_or (λ (o : OrderParts). length o.insts) (slice_get orders k) 0 + 2)
