-- The word of an instruction is below 2 ^ 32.
use Rattle.std.proofs.Common.{ℕ, ◌^◌, ◌<◌, List, [], ◌∷◌, map, All, arith}
use Rattle.std.specs.List.{AllByRecursion}
use Rattle.std.proofs.lemmas.List.Elements.{All-from_recursion, recursion_from_All}
use Rattle.mips_isa.specs.declared.inst.JumpOp.TheVariants.{Jump}
use Rattle.mips_isa.specs.declared.inst.Plain.{Plain}
use Rattle.mips_isa.specs.declared.inst.Plain.TheVariants.{Shift, ShiftBy, Alu, Imm, Logic, LoadUpper, MoveFrom, Multiply, Divide, Load, Store}
use Rattle.mips_isa.specs.declared.inst.Control.{Control}
use Rattle.mips_isa.specs.declared.inst.Control.TheVariants.{BranchPair, BranchZero, JumpTo, JumpRegister}
use Rattle.mips_isa.specs.declared.inst.Inst.{Inst}
use Rattle.mips_isa.specs.declared.inst.Inst.TheVariants as insts
use Rattle.mips_isa.specs.Ranges.{IsPlain, IsControl, IsInst}
use Rattle.mips_code.proofs.Codes.{shift-fits, shift_by-fits, alu-fits, imm-fits, logic-fits, move-fits, multiply-fits, divide-fits, load-fits, store-fits, pair-fits, zero-fits, zero_field-fits, half-fits}
use Rattle.mips_code.specs.Words.{register_word, immediate_word, inst_word, word_of_plain, word_of_control, half, shift_code, shift_by_code}
use Rattle.mips_code.specs.Words.{alu_code, move_code, multiply_code, divide_code, imm_code, logic_code, load_code, store_code, pair_code}
use Rattle.mips_code.specs.Words.{zero_code, zero_field}

register_below : (rs rt rd amount funct : ℕ) → rs < 32 → rt < 32 → rd < 32 → amount < 32 → funct < 64 → register_word rs rt rd amount funct < 2 ^ 32
register_below rs rt rd amount funct a b c d e = omega arith

immediate_below : (op rs rt imm : ℕ) → op < 64 → rs < 32 → rt < 32 → imm < 2 ^ 16 → immediate_word op rs rt imm < 2 ^ 32
immediate_below op rs rt imm a b c d = omega arith

plain_below : (i : Plain) → IsPlain i → word_of_plain i < 2 ^ 32
plain_below (Shift op rd rt amount) h =
    register_below 0 rt rd amount (shift_code op) (omega arith) h.1 h.0 h.2
    (shift-fits op)
plain_below (ShiftBy op rd rt rs) h =
    register_below rs rt rd 0 (shift_by_code op) h.2 h.1 h.0 (omega arith)
    (shift_by-fits op)
plain_below (Alu op rd rs rt) h =
    register_below rs rt rd 0 (alu_code op) h.1 h.2 h.0 (omega arith)
    (alu-fits op)
plain_below (Imm op rt rs imm) h =
    immediate_below (imm_code op) rs rt (half imm)
    (imm-fits op) h.1 h.0 (half-fits imm h.2)
plain_below (Logic op rt rs imm) h =
    immediate_below (logic_code op) rs rt imm (logic-fits op) h.1 h.0 h.2
plain_below (LoadUpper rt imm) h = immediate_below 15 0 rt imm (omega arith) (omega arith) h.0 h.1
plain_below (MoveFrom place rd) h =
    register_below 0 0 rd 0 (move_code place) (omega arith) (omega arith) h (omega arith)
    (move-fits place)
plain_below (Multiply sign rs rt) h =
    register_below rs rt 0 0 (multiply_code sign) h.0 h.1 (omega arith) (omega arith)
    (multiply-fits sign)
plain_below (Divide sign rs rt) h =
    register_below rs rt 0 0 (divide_code sign) h.0 h.1 (omega arith) (omega arith)
    (divide-fits sign)
plain_below (Load w rt base offset) h =
    immediate_below (load_code w) base rt (half offset) (load-fits w) h.2 h.1
    (half-fits offset h.3)
plain_below (Store w rt base offset) h =
    immediate_below (store_code w) base rt (half offset) (store-fits w) h.1 h.0
    (half-fits offset h.2)

control_below : (i : Control) → IsControl i → word_of_control i < 2 ^ 32
control_below (BranchPair test rs rt offset) h =
    immediate_below (pair_code test) rs rt (half offset)
    (pair-fits test) h.0 h.1 (half-fits offset h.2)
control_below (BranchZero test rs offset) h =
    immediate_below (zero_code test) rs (zero_field test) (half offset) (zero-fits test) h.0 (zero_field-fits test) (half-fits offset h.1)
control_below (JumpTo Jump target) h = omega arith
control_below (JumpRegister rs) h = register_below rs 0 0 0 8 h (omega arith) (omega arith) (omega arith) (omega arith)
control_below _ h = omega arith

pub word_below : (i : Inst) → IsInst i → inst_word i < 2 ^ 32
word_below (insts.Plain i) h = plain_below i h
word_below (insts.Control i) h = control_below i h

each_below : (is : List Inst) → AllByRecursion IsInst is → AllByRecursion (λ w. w < 2 ^ 32) (map inst_word is)
each_below [] h = tt
each_below (i ∷ is) h = (word_below i h.0, each_below is h.1)

pub words_below : (is : List Inst) → All IsInst is → All (λ w. w < 2 ^ 32) (map inst_word is)
words_below is h = All-from_recursion (λ w. w < 2 ^ 32) (map inst_word is) (each_below is (recursion_from_All IsInst is h))
