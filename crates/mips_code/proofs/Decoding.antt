-- The candidate for the word of an instruction is that instruction.
use Rattle.std.proofs.Common.{◌≡◌, ℕ, ◌/◌, ◌%◌, ◌^◌, ◌<◌, ◌==◌, Bool, true, false, refl, ap, sym, ◌∙◌, arith, Some, None, cond, eqb-true}
use Rattle.std.specs.Prelude.{FitsSigned, ℤ, Option, option_map}
use Rattle.std.specs.Int.{w16, cast_signed}
use Rattle.std.proofs.lemmas.Int.{to_z-of_z}
use Rattle.words.specs.declared.sign.Sign.TheVariants.{Signed, Unsigned}
use Rattle.words.specs.declared.width.Width.{Width}
use Rattle.words.specs.declared.width.Width.TheVariants.{Word, Byte}
use Rattle.mips_isa.specs.declared.inst.ShiftOp.TheVariants.{Sll, Srl, Sra}
use Rattle.mips_isa.specs.declared.inst.AluOp.TheVariants.{Addu, Subu, And, Or, Xor, Nor, Slt, Sltu}
use Rattle.mips_isa.specs.declared.inst.ImmOp.TheVariants.{Addiu, Slti, Sltiu}
use Rattle.mips_isa.specs.declared.inst.LogicOp.TheVariants.{Andi, Ori, Xori}
use Rattle.mips_isa.specs.declared.inst.HiLo.TheVariants.{Hi, Lo}
use Rattle.mips_isa.specs.declared.inst.PairTest.TheVariants.{Equal, NotEqual}
use Rattle.mips_isa.specs.declared.inst.ZeroTest.TheVariants.{AtMostZero, AboveZero, BelowZero, AtLeastZero}
use Rattle.mips_isa.specs.declared.inst.JumpOp.TheVariants.{Jump, JumpAndLink}
use Rattle.mips_isa.specs.declared.inst.Plain.{Plain}
use Rattle.mips_isa.specs.declared.inst.Plain.TheVariants.{Shift, ShiftBy, Alu, Imm, Logic, LoadUpper, MoveFrom, Multiply, Divide, Load, Store}
use Rattle.mips_isa.specs.declared.inst.Control.{Control}
use Rattle.mips_isa.specs.declared.inst.Control.TheVariants.{BranchPair, BranchZero, JumpTo, JumpRegister, SystemCall}
use Rattle.mips_isa.specs.declared.inst.Inst.{Inst}
use Rattle.mips_isa.specs.declared.inst.Inst.TheVariants as insts
use Rattle.mips_isa.specs.Ranges.{IsPlain, IsControl, IsInst}
use Rattle.mips_code.proofs.Codes.{shift-fits, shift_by-fits, alu-fits, imm-fits, logic-fits, move-fits, multiply-fits, divide-fits, load-fits, store-fits, pair-fits, zero-fits, zero_field-fits, jump-fits, half-fits}
use Rattle.mips_code.specs.Words.{register_word, immediate_word, jump_word, inst_word, word_of_plain, word_of_control, half, shift_code}
use Rattle.mips_code.specs.Words.{shift_by_code, alu_code, move_code, multiply_code, divide_code, imm_code, logic_code, pair_code}
use Rattle.mips_code.specs.Words.{load_code, store_code, zero_code, zero_field, jump_code}
use Rattle.mips_code.specs.Candidates.{Fields, fields_of, or_else, inst_of_fields, candidate_of}

-- fields of which each form names these
abbrev register_fields : Fields → (rs rt rd amount funct : ℕ) → Fields
register_fields f rs rt rd amount funct = record f { op = 0; rs = rs; rt = rt; rd = rd; amount = amount; funct = funct }

abbrev immediate_fields : Fields → (op rs rt imm : ℕ) → Fields
immediate_fields f op rs rt imm = record f { op = op; rs = rs; rt = rt; imm = imm }

abbrev jump_fields : Fields → (op target : ℕ) → Fields
jump_fields f op target = record f { op = op; target = target }

-- a register form gives the instruction that its fields give
register_gives : (rs rt rd amount funct : ℕ) → rs < 32 → rt < 32 → rd < 32 → amount < 32 → funct < 64
    → (i : Inst) → ((f : Fields) → inst_of_fields (register_fields f rs rt rd amount funct) ≡ Some i)
    → candidate_of (register_word rs rt rd amount funct) ≡ Some i
register_gives rs rt rd amount funct a b c d e i gives =
    let w : ℕ = register_word rs rt rd amount funct in
    let e0 : w / 2 ^ 26 ≡ 0 = omega arith in
    let e1 : w / 2 ^ 21 % 32 ≡ rs = omega arith in
    let e2 : w / 2 ^ 16 % 32 ≡ rt = omega arith in
    let e3 : w / 2 ^ 11 % 32 ≡ rd = omega arith in
    let e4 : w / 2 ^ 6 % 32 ≡ amount = omega arith in
    let e5 : w % 64 ≡ funct = omega arith in
    rw (e0, e1, e2, e3, e4, e5) (gives (fields_of w))

-- and so does an immediate form
immediate_gives : (op rs rt imm : ℕ) → op < 64 → rs < 32 → rt < 32 → imm < 2 ^ 16
    → (i : Inst) → ((f : Fields) → inst_of_fields (immediate_fields f op rs rt imm) ≡ Some i)
    → candidate_of (immediate_word op rs rt imm) ≡ Some i
immediate_gives op rs rt imm a b c d i gives =
    let w : ℕ = immediate_word op rs rt imm in
    let e0 : w / 2 ^ 26 ≡ op = omega arith in
    let e1 : w / 2 ^ 21 % 32 ≡ rs = omega arith in
    let e2 : w / 2 ^ 16 % 32 ≡ rt = omega arith in
    let e3 : w % 2 ^ 16 ≡ imm = omega arith in
    rw (e0, e1, e2, e3) (gives (fields_of w))

-- and a jump
jump_gives : (op target : ℕ) → op < 64 → target < 2 ^ 26 → (i : Inst)
    → ((f : Fields) → inst_of_fields (jump_fields f op target) ≡ Some i) → candidate_of (jump_word op target) ≡ Some i
jump_gives op target a b i gives =
    let w : ℕ = jump_word op target in
    let e0 : w / 2 ^ 26 ≡ op = omega arith in
    let e1 : w % 2 ^ 26 ≡ target = omega arith in
    rw (e0, e1) (gives (fields_of w))

half_back : (imm : ℤ) → FitsSigned w16 imm → cast_signed w16 (half imm) ≡ imm
half_back imm h = grind (arith, to_z-of_z)

not_zero : (n : ℕ) → 0 < n → (n == 0) ≡ false
not_zero n h = go (n == 0) refl
  where
    go : (b : Bool) → (n == 0) ≡ b → b ≡ false
    go true e = absurd (let none : n ≡ 0 = eqb-true n 0 e in omega arith)
    go false e = refl

-- one equation for each operation, by computation
pub candidate-word_of_plain : (i : Plain) → IsPlain i → candidate_of (word_of_plain i) ≡ Some (insts.Plain i)
candidate-word_of_plain (Shift op rd rt amount) h =
    register_gives 0 rt rd amount (shift_code op) (omega arith) h.1 h.0 h.2
    (shift-fits op) _
    (λ f. elim op as
    (λ o. inst_of_fields (register_fields f 0 rt rd amount (shift_code o)) ≡ Some (insts.Plain (Shift o rd rt amount))) [ Sll ↦ refl | Srl ↦ refl | Sra ↦ refl ])
candidate-word_of_plain (ShiftBy op rd rt rs) h =
    register_gives rs rt rd 0 (shift_by_code op) h.2 h.1 h.0 (omega arith)
    (shift_by-fits op) _
    (λ f. elim op as
    (λ o. inst_of_fields (register_fields f rs rt rd 0 (shift_by_code o)) ≡ Some (insts.Plain (ShiftBy o rd rt rs))) [ Sll ↦ refl | Srl ↦ refl | Sra ↦ refl ])
candidate-word_of_plain (Alu op rd rs rt) h =
    register_gives rs rt rd 0 (alu_code op) h.1 h.2 h.0 (omega arith)
    (alu-fits op) _
    (λ f. elim op as
    (λ o. inst_of_fields (register_fields f rs rt rd 0 (alu_code o)) ≡ Some (insts.Plain (Alu o rd rs rt)))
    [ Addu ↦ refl | Subu ↦ refl | And ↦ refl | Or ↦ refl | Xor ↦ refl | Nor ↦ refl | Slt ↦ refl | Sltu ↦ refl ])
candidate-word_of_plain (Imm op rt rs imm) h =
    immediate_gives (imm_code op) rs rt (half imm) (imm-fits op) h.1 h.0 (half-fits imm h.2) _
    (λ f. (elim op as
    (λ o. inst_of_fields (immediate_fields f (imm_code o) rs rt (half imm)) ≡ Some (insts.Plain (Imm o rt rs (cast_signed w16 (half imm)))))
    [ Addiu ↦ refl | Slti ↦ refl | Sltiu ↦ refl ])
    ∙ ap (λ z. Some (insts.Plain (Imm op rt rs z))) (half_back imm h.2))
candidate-word_of_plain (Logic op rt rs imm) h =
    immediate_gives (logic_code op) rs rt imm
    (logic-fits op) h.1 h.0 h.2 _
    (λ f. elim op as
    (λ o. inst_of_fields (immediate_fields f (logic_code o) rs rt imm) ≡ Some (insts.Plain (Logic o rt rs imm)))
    [ Andi ↦ refl | Ori ↦ refl | Xori ↦ refl ])
candidate-word_of_plain (LoadUpper rt imm) h = immediate_gives 15 0 rt imm (omega arith) (omega arith) h.0 h.1 _ (λ f. refl)
candidate-word_of_plain (MoveFrom place rd) h =
    register_gives 0 0 rd 0 (move_code place) (omega arith) (omega arith) h (omega arith)
    (move-fits place) _
    (λ f. elim place as (λ o. inst_of_fields (register_fields f 0 0 rd 0 (move_code o)) ≡ Some (insts.Plain (MoveFrom o rd))) [ Hi ↦ refl | Lo ↦ refl ])
candidate-word_of_plain (Multiply sign rs rt) h =
    register_gives rs rt 0 0 (multiply_code sign) h.0 h.1 (omega arith) (omega arith)
    (multiply-fits sign) _
    (λ f. elim sign as
    (λ o. inst_of_fields (register_fields f rs rt 0 0 (multiply_code o)) ≡ Some (insts.Plain (Multiply o rs rt))) [ Signed ↦ refl | Unsigned ↦ refl ])
candidate-word_of_plain (Divide sign rs rt) h =
    register_gives rs rt 0 0 (divide_code sign) h.0 h.1 (omega arith) (omega arith)
    (divide-fits sign) _
    (λ f. elim sign as
    (λ o. inst_of_fields (register_fields f rs rt 0 0 (divide_code o)) ≡ Some (insts.Plain (Divide o rs rt))) [ Signed ↦ refl | Unsigned ↦ refl ])
candidate-word_of_plain (Load w rt base offset) h =
    immediate_gives (load_code w) base rt (half offset) (load-fits w) h.2 h.1
    (half-fits offset h.3) _
    (λ f. elim w as
    (λ o. inst_of_fields (immediate_fields f (load_code o) base rt (half offset)) ≡ Some (insts.Plain (Load o rt base offset)))
    [ Word ↦ loaded Word | Byte ↦ loaded Byte ])
  where
    found : Option Plain → Option Inst
    found o = or_else (option_map insts.Plain o) None

    loaded : (o : Width) → found (cond (rt == 0) None (Some (Load o rt base (cast_signed w16 (half offset))))) ≡ Some (insts.Plain (Load o rt base offset))
    loaded o =
        ap (λ b. found (cond b None (Some (Load o rt base (cast_signed w16 (half offset)))))) (not_zero rt h.0)
        ∙ ap (λ z. Some (insts.Plain (Load o rt base z))) (half_back offset h.3)
candidate-word_of_plain (Store w rt base offset) h =
    immediate_gives (store_code w) base rt (half offset) (store-fits w) h.1 h.0 (half-fits offset h.2) _
    (λ f. (elim w as
    (λ o. inst_of_fields (immediate_fields f (store_code o) base rt (half offset))
    ≡ Some (insts.Plain (Store o rt base (cast_signed w16 (half offset)))))
    [ Word ↦ refl | Byte ↦ refl ])
    ∙ ap (λ z. Some (insts.Plain (Store w rt base z))) (half_back offset h.2))

pub candidate-word_of_control : (i : Control) → IsControl i → candidate_of (word_of_control i) ≡ Some (insts.Control i)
candidate-word_of_control (BranchPair test rs rt offset) h =
    immediate_gives (pair_code test) rs rt (half offset) (pair-fits test) h.0 h.1 (half-fits offset h.2) _
    (λ f. (elim test as
    (λ o. inst_of_fields (immediate_fields f (pair_code o) rs rt (half offset))
    ≡ Some (insts.Control (BranchPair o rs rt (cast_signed w16 (half offset)))))
    [ Equal ↦ refl | NotEqual ↦ refl ])
    ∙ ap (λ z. Some (insts.Control (BranchPair test rs rt z))) (half_back offset h.2))
candidate-word_of_control (BranchZero test rs offset) h =
    immediate_gives (zero_code test) rs (zero_field test) (half offset) (zero-fits test) h.0 (zero_field-fits test) (half-fits offset h.1) _
    (λ f. (elim test as
    (λ o. inst_of_fields (immediate_fields f (zero_code o) rs (zero_field o) (half offset))
    ≡ Some (insts.Control (BranchZero o rs (cast_signed w16 (half offset)))))
    [ AtMostZero ↦ refl | AboveZero ↦ refl | BelowZero ↦ refl | AtLeastZero ↦ refl ])
    ∙ ap (λ z. Some (insts.Control (BranchZero test rs z))) (half_back offset h.1))
candidate-word_of_control (JumpTo op target) h =
    jump_gives (jump_code op) target (jump-fits op) h _
    (λ f. elim op as
    (λ o. inst_of_fields (jump_fields f (jump_code o) target) ≡ Some (insts.Control (JumpTo o target))) [ Jump ↦ refl | JumpAndLink ↦ refl ])
candidate-word_of_control (JumpRegister rs) h = register_gives rs 0 0 0 8 h (omega arith) (omega arith) (omega arith) (omega arith) _ (λ f. refl)
candidate-word_of_control SystemCall h = register_gives 0 0 0 0 12 (omega arith) (omega arith) (omega arith) (omega arith) (omega arith) _ (λ f. refl)

pub candidate-inst_word : (i : Inst) → IsInst i → candidate_of (inst_word i) ≡ Some i
candidate-inst_word (insts.Plain i) h = candidate-word_of_plain i h
candidate-inst_word (insts.Control i) h = candidate-word_of_control i h

pub candidate_at : (w : ℕ) (i : Inst) → IsInst i → inst_word i ≡ w → candidate_of w ≡ Some i
candidate_at w i is e = ap candidate_of (sym e) ∙ candidate-inst_word i is
