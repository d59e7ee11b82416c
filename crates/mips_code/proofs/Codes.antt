-- The code of each operation fits the six bits of its field.
use Rattle.std.proofs.Common.{◌^◌, ◌<◌, arith}
use Rattle.std.specs.Prelude.{FitsSigned, ℤ}
use Rattle.std.specs.Int.{w16}
use Rattle.std.proofs.lemmas.Int.{ints}
use Rattle.words.specs.declared.sign.Sign.{Sign}
use Rattle.words.specs.declared.sign.Sign.TheVariants.{Signed, Unsigned}
use Rattle.words.specs.declared.width.Width.{Width}
use Rattle.words.specs.declared.width.Width.TheVariants.{Word, Byte}
use Rattle.mips_isa.specs.declared.inst.ShiftOp.{ShiftOp}
use Rattle.mips_isa.specs.declared.inst.ShiftOp.TheVariants.{Sll}
use Rattle.mips_isa.specs.declared.inst.AluOp.{AluOp}
use Rattle.mips_isa.specs.declared.inst.AluOp.TheVariants.{Addu}
use Rattle.mips_isa.specs.declared.inst.ImmOp.{ImmOp}
use Rattle.mips_isa.specs.declared.inst.ImmOp.TheVariants.{Addiu}
use Rattle.mips_isa.specs.declared.inst.LogicOp.{LogicOp}
use Rattle.mips_isa.specs.declared.inst.LogicOp.TheVariants.{Andi}
use Rattle.mips_isa.specs.declared.inst.HiLo.{HiLo}
use Rattle.mips_isa.specs.declared.inst.HiLo.TheVariants.{Hi, Lo}
use Rattle.mips_isa.specs.declared.inst.PairTest.{PairTest}
use Rattle.mips_isa.specs.declared.inst.PairTest.TheVariants.{Equal, NotEqual}
use Rattle.mips_isa.specs.declared.inst.ZeroTest.{ZeroTest}
use Rattle.mips_isa.specs.declared.inst.ZeroTest.TheVariants.{AtMostZero, AtLeastZero}
use Rattle.mips_isa.specs.declared.inst.JumpOp.{JumpOp}
use Rattle.mips_isa.specs.declared.inst.JumpOp.TheVariants.{Jump, JumpAndLink}
use Rattle.mips_code.specs.Words.{half, shift_code, shift_by_code, alu_code, imm_code, logic_code, move_code, multiply_code, divide_code}
use Rattle.mips_code.specs.Words.{load_code, store_code, pair_code, zero_code, zero_field, jump_code}

pub shift-fits : (o : ShiftOp) → shift_code o < 64
shift-fits Sll = omega arith
shift-fits _ = omega arith

pub shift_by-fits : (o : ShiftOp) → shift_by_code o < 64
shift_by-fits Sll = omega arith
shift_by-fits _ = omega arith

pub alu-fits : (o : AluOp) → alu_code o < 64
alu-fits Addu = omega arith
alu-fits _ = omega arith

pub imm-fits : (o : ImmOp) → imm_code o < 64
imm-fits Addiu = omega arith
imm-fits _ = omega arith

pub logic-fits : (o : LogicOp) → logic_code o < 64
logic-fits Andi = omega arith
logic-fits _ = omega arith

pub move-fits : (o : HiLo) → move_code o < 64
move-fits Hi = omega arith
move-fits Lo = omega arith

pub multiply-fits : (o : Sign) → multiply_code o < 64
multiply-fits Signed = omega arith
multiply-fits Unsigned = omega arith

pub divide-fits : (o : Sign) → divide_code o < 64
divide-fits Signed = omega arith
divide-fits Unsigned = omega arith

pub load-fits : (o : Width) → load_code o < 64
load-fits Word = omega arith
load-fits Byte = omega arith

pub store-fits : (o : Width) → store_code o < 64
store-fits Word = omega arith
store-fits Byte = omega arith

pub pair-fits : (o : PairTest) → pair_code o < 64
pair-fits Equal = omega arith
pair-fits NotEqual = omega arith

pub zero-fits : (o : ZeroTest) → zero_code o < 64
zero-fits AtMostZero = omega arith
zero-fits _ = omega arith

pub zero_field-fits : (o : ZeroTest) → zero_field o < 32
zero_field-fits AtLeastZero = omega arith
zero_field-fits _ = omega arith

pub jump-fits : (o : JumpOp) → jump_code o < 64
jump-fits Jump = omega arith
jump-fits JumpAndLink = omega arith

pub half-fits : (imm : ℤ) → FitsSigned w16 imm → half imm < 2 ^ 16
half-fits imm h = omega (arith, ints)
