-- The texts of instructions: Kane's names, registers by number, numbers in decimal, targets in hexadecimal.
use Rattle.std.specs.Prelude.{ℕ, ◌+◌, ◌/◌, ◌%◌, ◌^◌, ℤ, List, [], ◌++◌, Bool, false, ◌==◌, ◌&&◌, if◌then◌else◌, codes, decimal}
use Rattle.std.specs.Fmt.{signed_decimal, digits}
use Rattle.words.specs.Words.{wrap}
use Rattle.words.specs.declared.sign.Sign.TheVariants.{Signed, Unsigned}
use Rattle.words.specs.declared.width.Width.TheVariants.{Word, Byte}
use Rattle.mips_isa.specs.declared.inst.ShiftOp.TheVariants.{Sll, Srl, Sra}
use Rattle.mips_isa.specs.declared.inst.AluOp.TheVariants.{Addu, Subu, And, Or, Xor, Nor, Slt, Sltu}
use Rattle.mips_isa.specs.declared.inst.ImmOp.TheVariants.{Addiu, Slti, Sltiu}
use Rattle.mips_isa.specs.declared.inst.LogicOp.TheVariants.{Andi, Ori, Xori}
use Rattle.mips_isa.specs.declared.inst.HiLo.TheVariants.{Hi, Lo}
use Rattle.mips_isa.specs.declared.inst.Plain.{Plain}
use Rattle.mips_isa.specs.declared.inst.Plain.TheVariants.{Shift, ShiftBy, Alu, Imm, Logic, LoadUpper, MoveFrom, Multiply, Divide, Load}
use Rattle.mips_isa.specs.declared.inst.Plain.TheVariants.{Store}
use Rattle.mips_isa.specs.declared.inst.PairTest.TheVariants.{Equal, NotEqual}
use Rattle.mips_isa.specs.declared.inst.ZeroTest.TheVariants.{AtMostZero, AboveZero, BelowZero, AtLeastZero}
use Rattle.mips_isa.specs.declared.inst.JumpOp.TheVariants.{Jump, JumpAndLink}
use Rattle.mips_isa.specs.declared.inst.Control.{Control}
use Rattle.mips_isa.specs.declared.inst.Control.TheVariants.{BranchPair, BranchZero, JumpTo, JumpRegister, SystemCall}
use Rattle.mips_isa.specs.declared.rule.Rule.{Rule}
use Rattle.mips_isa.specs.declared.rule.Rule.TheVariants.{M1, M2, M3, M4, M5, M6, M7, M8, M9}
use Rattle.mips_isa.specs.Controls.{branch_target, jump_target}
use Rattle.mips_isa.specs.declared.text.Mnemonic.{Mnemonic}
use Rattle.mips_isa.specs.declared.text.Mnemonic.TheVariants as mnemonics
use Rattle.mips_isa.specs.declared.text.Operand.{Operand}
use Rattle.mips_isa.specs.declared.text.Operand.TheVariants as operands

abbrev pub register_text : ℕ → List ℕ
register_text r = codes "$" ++ decimal r

abbrev pub mnemonic_text : Mnemonic → List ℕ
mnemonic_text (mnemonics.Shift Sll) = codes "sll"
mnemonic_text (mnemonics.Shift Srl) = codes "srl"
mnemonic_text (mnemonics.Shift Sra) = codes "sra"
mnemonic_text (mnemonics.ShiftBy Sll) = codes "sllv"
mnemonic_text (mnemonics.ShiftBy Srl) = codes "srlv"
mnemonic_text (mnemonics.ShiftBy Sra) = codes "srav"
mnemonic_text (mnemonics.Alu Addu) = codes "addu"
mnemonic_text (mnemonics.Alu Subu) = codes "subu"
mnemonic_text (mnemonics.Alu And) = codes "and"
mnemonic_text (mnemonics.Alu Or) = codes "or"
mnemonic_text (mnemonics.Alu Xor) = codes "xor"
mnemonic_text (mnemonics.Alu Nor) = codes "nor"
mnemonic_text (mnemonics.Alu Slt) = codes "slt"
mnemonic_text (mnemonics.Alu Sltu) = codes "sltu"
mnemonic_text (mnemonics.Imm Addiu) = codes "addiu"
mnemonic_text (mnemonics.Imm Slti) = codes "slti"
mnemonic_text (mnemonics.Imm Sltiu) = codes "sltiu"
mnemonic_text (mnemonics.Logic Andi) = codes "andi"
mnemonic_text (mnemonics.Logic Ori) = codes "ori"
mnemonic_text (mnemonics.Logic Xori) = codes "xori"
mnemonic_text mnemonics.LoadUpper = codes "lui"
mnemonic_text (mnemonics.MoveFrom Hi) = codes "mfhi"
mnemonic_text (mnemonics.MoveFrom Lo) = codes "mflo"
mnemonic_text (mnemonics.Multiply Signed) = codes "mult"
mnemonic_text (mnemonics.Multiply Unsigned) = codes "multu"
mnemonic_text (mnemonics.Divide Signed) = codes "div"
mnemonic_text (mnemonics.Divide Unsigned) = codes "divu"
mnemonic_text (mnemonics.Load Word) = codes "lw"
mnemonic_text (mnemonics.Load Byte) = codes "lbu"
mnemonic_text (mnemonics.Store Word) = codes "sw"
mnemonic_text (mnemonics.Store Byte) = codes "sb"

abbrev pub mnemonic_of : Plain → Mnemonic
mnemonic_of (Shift op rd rt amount) = mnemonics.Shift op
mnemonic_of (ShiftBy op rd rt rs) = mnemonics.ShiftBy op
mnemonic_of (Alu op rd rs rt) = mnemonics.Alu op
mnemonic_of (Imm op rt rs imm) = mnemonics.Imm op
mnemonic_of (Logic op rt rs imm) = mnemonics.Logic op
mnemonic_of (LoadUpper rt imm) = mnemonics.LoadUpper
mnemonic_of (MoveFrom place rd) = mnemonics.MoveFrom place
mnemonic_of (Multiply sign rs rt) = mnemonics.Multiply sign
mnemonic_of (Divide sign rs rt) = mnemonics.Divide sign
mnemonic_of (Load w rt base offset) = mnemonics.Load w
mnemonic_of (Store w rt base offset) = mnemonics.Store w

-- `offset($base)`
abbrev pub address_text : ℕ → ℤ → List ℕ
address_text base offset = signed_decimal offset ++ (codes "(" ++ (register_text base ++ codes ")"))

abbrev pub operands_text : Plain → List ℕ
operands_text (Shift op rd rt amount) = register_text rd ++ (codes "," ++ (register_text rt ++ (codes "," ++ decimal amount)))
operands_text (ShiftBy op rd rt rs) = register_text rd ++ (codes "," ++ (register_text rt ++ (codes "," ++ register_text rs)))
operands_text (Alu op rd rs rt) = register_text rd ++ (codes "," ++ (register_text rs ++ (codes "," ++ register_text rt)))
operands_text (Imm op rt rs imm) = register_text rt ++ (codes "," ++ (register_text rs ++ (codes "," ++ signed_decimal imm)))
operands_text (Logic op rt rs imm) = register_text rt ++ (codes "," ++ (register_text rs ++ (codes "," ++ decimal imm)))
operands_text (LoadUpper rt imm) = register_text rt ++ (codes "," ++ decimal imm)
operands_text (MoveFrom place rd) = register_text rd
operands_text (Multiply sign rs rt) = register_text rs ++ (codes "," ++ register_text rt)
operands_text (Divide sign rs rt) = register_text rs ++ (codes "," ++ register_text rt)
operands_text (Load w rt base offset) = register_text rt ++ (codes "," ++ address_text base offset)
operands_text (Store w rt base offset) = register_text rt ++ (codes "," ++ address_text base offset)

-- the mnemonic, one space, and the operands
abbrev pub plain_text : Plain → List ℕ
plain_text i = mnemonic_text (mnemonic_of i) ++ (codes " " ++ operands_text i)

-- the word 0
abbrev pub is_nop : Plain → Bool
is_nop (Shift Sll rd rt amount) = (rd == 0) && ((rt == 0) && (amount == 0))
is_nop _ = false

-- as an instruction is printed
abbrev pub instruction_text : Plain → List ℕ
instruction_text i = (if is_nop i then codes "nop" else plain_text i)

-- ---- branches, jumps and calls to the system, as a listing shows them

-- the hexadecimal digit of a number that is worth n
abbrev pub hex_digit : ℕ → ℕ → List ℕ
hex_digit number n = digits 16 false (number / n % 16)

-- 16 bits in four digits
abbrev pub half_text : ℕ → List ℕ
half_text half = hex_digit half (2 ^ 12) ++ hex_digit half (2 ^ 8) ++ hex_digit half (2 ^ 4) ++ hex_digit half 1

-- an address in eight digits
abbrev pub target_text : ℕ → List ℕ
target_text address = codes "0x" ++ half_text (address / 2 ^ 16) ++ half_text (address % 2 ^ 16)

abbrev pub control_name : Control → List ℕ
control_name (BranchPair Equal rs rt offset) = codes "beq"
control_name (BranchPair NotEqual rs rt offset) = codes "bne"
control_name (BranchZero AtMostZero rs offset) = codes "blez"
control_name (BranchZero AboveZero rs offset) = codes "bgtz"
control_name (BranchZero BelowZero rs offset) = codes "bltz"
control_name (BranchZero AtLeastZero rs offset) = codes "bgez"
control_name (JumpTo Jump target) = codes "j"
control_name (JumpTo JumpAndLink target) = codes "jal"
control_name (JumpRegister rs) = codes "jr"
control_name SystemCall = codes "syscall"

-- what follows the name, with a space before it; the slot is the address of the next word
abbrev pub control_operands : Control → (slot : ℕ) → List ℕ
control_operands (BranchPair test rs rt offset) slot =
    codes " " ++ (register_text rs ++ (codes "," ++ (register_text rt ++ (codes "," ++ target_text (branch_target slot offset)))))
control_operands (BranchZero test rs offset) slot = codes " "
    ++ (register_text rs ++ (codes "," ++ target_text (branch_target slot offset)))
control_operands (JumpTo op target) slot = codes " " ++ target_text (jump_target slot target)
control_operands (JumpRegister rs) slot = codes " " ++ register_text rs
control_operands SystemCall slot = []

-- the last operand of either
abbrev pub operand_text : Operand → List ℕ
operand_text (operands.Register r) = register_text r
operand_text (operands.Signed n) = signed_decimal n
operand_text (operands.Unsigned n) = decimal n
operand_text (operands.Address base offset) = address_text base offset
operand_text (operands.Target address) = target_text address

-- the word at an address
abbrev pub control_text : Control → (address : ℕ) → List ℕ
control_text c address = control_name c ++ control_operands c (wrap (address + 4))

-- ---- rules

abbrev pub rule_text : Rule → List ℕ
rule_text M1 = codes "M1"
rule_text M2 = codes "M2"
rule_text M3 = codes "M3"
rule_text M4 = codes "M4"
rule_text M5 = codes "M5"
rule_text M6 = codes "M6"
rule_text M7 = codes "M7"
rule_text M8 = codes "M8"
rule_text M9 = codes "M9"
