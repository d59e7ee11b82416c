-- What a word is decoded to has that word, with each field in its range.
use Rattle.std.proofs.Common.{◌≡◌, ℕ, ◌^◌, ◌<◌, ◌==◌, Bool, true, false, cond, Option, Some, None, refl, ap, ◌∙◌, subst, eqb-true, eq-eqb, arith}
use Rattle.std.specs.Prelude.{IfSome, option_map, FitsSigned}
use Rattle.std.specs.Int.{w16, cast_signed}
use Rattle.std.proofs.lemmas.Int.{ints}
use Rattle.std.proofs.lemmas.Option.{same_Some, none-some}
use Rattle.words.specs.declared.width.Width.{Width}
use Rattle.words.specs.declared.width.Width.TheVariants.{Word, Byte}
use Rattle.mips_isa.specs.declared.inst.Plain.TheVariants.{LoadUpper, Load}
use Rattle.mips_isa.specs.declared.inst.Control.TheVariants.{JumpRegister, SystemCall}
use Rattle.mips_isa.specs.declared.inst.Inst.{Inst}
use Rattle.mips_isa.specs.declared.inst.Inst.TheVariants as insts
use Rattle.mips_isa.specs.Ranges.{IsPlain, IsControl, IsInst}
use Rattle.mips_code.specs.Words.{inst_word}
use Rattle.mips_code.specs.Candidates.{shift_at, shift_by_at, alu_at, move_at, multiply_at, divide_at, imm_at, logic_at, pair_at, jump_at}
use Rattle.mips_code.specs.Candidates.{zero_at, or_else, Fields, fields_of, computing_of, moving_of, special_of, arithmetic_of, loading_of}
use Rattle.mips_code.specs.Candidates.{storing_of, memory_of, branch_of, inst_of_fields, candidate_of}
use Rattle.mips_code.proofs.Decoding.{candidate-inst_word}
use Rattle.mips_code.specs.Decoding.{with_word, instruction_of, DecodingIsExact}

if_or : {A : Type 0} (P : A → Type 0) (a b : Option A) → IfSome a P → IfSome b P → IfSome (or_else a b) P
if_or P None b ha hb = hb
if_or P (Some x) b ha hb = ha

if_map : {A B : Type 0} (P : B → Type 0) (f : A → B) (o : Option A) → ((x : A) → P (f x)) → IfSome (option_map f o) P
if_map P f None h = tt
if_map P f (Some x) h = h x

if_mapped : {A B : Type 0} (Q : A → Type 0) (P : B → Type 0) (f : A → B) (o : Option A) → IfSome o Q → ((x : A) → Q x → P (f x)) → IfSome (option_map f o) P
if_mapped Q P f None q h = tt
if_mapped Q P f (Some x) q h = h x q

if_cond : {A : Type 0} (P : A → Type 0) (c : Bool) (a b : Option A) → IfSome a P → (c ≡ false → IfSome b P) → IfSome (cond c a b) P
if_cond P true a b ha hb = ha
if_cond P false a b ha hb = hb refl

half_fits : (n : ℕ) → n < 2 ^ 16 → FitsSigned w16 (cast_signed w16 n)
half_fits n lt = omega (arith, ints)

not_zero : (n : ℕ) → (n == 0) ≡ false → 0 < n
not_zero n e = grind (arith, Rattle.std.proofs.lemmas.Grind.common_steps)

-- each field of a form but the codes is in its range
record Fit (f : Fields) : Type 0 where
  rs : f.rs < 32
  rt : f.rt < 32
  rd : f.rd < 32
  amount : f.amount < 32
  imm : f.imm < 2 ^ 16
  target : f.target < 2 ^ 26

module _ (f : Fields) (fit : Fit f) where
  computing_fits : IfSome (computing_of f) IsPlain
  computing_fits =
      if_or IsPlain _ _ (if_map IsPlain _ (shift_at f.funct) (λ o. (fit.rd, fit.rt, fit.amount)))
      (if_or IsPlain _ _ (if_map IsPlain _ (shift_by_at f.funct) (λ o. (fit.rd, fit.rt, fit.rs)))
      (if_map IsPlain _ (alu_at f.funct) (λ o. (fit.rd, fit.rs, fit.rt))))

  moving_fits : IfSome (moving_of f) IsPlain
  moving_fits =
      if_or IsPlain _ _ (if_map IsPlain _ (move_at f.funct) (λ o. fit.rd))
      (if_or IsPlain _ _ (if_map IsPlain _ (multiply_at f.funct) (λ o. (fit.rs, fit.rt)))
      (if_map IsPlain _ (divide_at f.funct) (λ o. (fit.rs, fit.rt))))

  special_fits : IfSome (special_of f) IsInst
  special_fits =
      if_or IsInst _ _ (if_mapped IsPlain IsInst insts.Plain (computing_of f) computing_fits (λ x h. h))
      (if_or IsInst _ _ (if_mapped IsPlain IsInst insts.Plain (moving_of f) moving_fits (λ x h. h))
      (if_cond IsInst (f.funct == 8) (Some (insts.Control (JumpRegister f.rs))) (cond (f.funct == 12) (Some (insts.Control SystemCall)) None) fit.rs
      (λ e. if_cond IsInst (f.funct == 12) (Some (insts.Control SystemCall)) None tt (λ e'. tt))))

  arithmetic_fits : IfSome (arithmetic_of f) IsPlain
  arithmetic_fits =
      if_or IsPlain _ _ (if_map IsPlain _ (imm_at f.op) (λ o. (fit.rt, fit.rs, half_fits f.imm fit.imm)))
      (if_or IsPlain _ _ (if_map IsPlain _ (logic_at f.op) (λ o. (fit.rt, fit.rs, fit.imm)))
      (if_cond IsPlain (f.op == 15) (Some (LoadUpper f.rt f.imm)) None (fit.rt, fit.imm) (λ e. tt)))

  loading_fits : (w : Width) → IfSome (loading_of w f) IsPlain
  loading_fits w =
      if_cond IsPlain (f.rt == 0) None (Some (Load w f.rt f.rs (cast_signed w16 f.imm))) tt
      (λ e. (not_zero f.rt e, fit.rt, fit.rs, half_fits f.imm fit.imm))

  memory_fits : IfSome (memory_of f) IsPlain
  memory_fits =
      let stored : (w : Width) → IsPlain (storing_of w f) = λ w. (fit.rt, fit.rs, half_fits f.imm fit.imm) in
      if_cond IsPlain (f.op == 35) _ _ (loading_fits Word) (λ e.
      if_cond IsPlain (f.op == 36) _ _ (loading_fits Byte) (λ e.
      if_cond IsPlain (f.op == 40) (Some (storing_of Byte f)) _ (stored Byte) (λ e.
      if_cond IsPlain (f.op == 43) (Some (storing_of Word f)) None (stored Word) (λ e. tt))))

  branch_fits : IfSome (branch_of f) IsControl
  branch_fits =
      if_or IsControl _ _ (if_map IsControl _ (pair_at f.op) (λ o. (fit.rs, fit.rt, half_fits f.imm fit.imm)))
      (if_map IsControl _ (zero_at f.op f.rt) (λ o. (fit.rs, half_fits f.imm fit.imm)))

  fields_fit : IfSome (inst_of_fields f) IsInst
  fields_fit =
      if_cond IsInst (f.op == 0) (special_of f) _ special_fits (λ e.
      if_or IsInst _ _ (if_mapped IsPlain IsInst insts.Plain (arithmetic_of f) arithmetic_fits (λ x h. h))
      (if_or IsInst _ _ (if_mapped IsPlain IsInst insts.Plain (memory_of f) memory_fits (λ x h. h))
      (if_or IsInst _ _ (if_mapped IsControl IsInst insts.Control (branch_of f) branch_fits (λ x h. h))
      (if_map IsInst _ (jump_at f.op) (λ o. fit.target)))))

candidate_fits : (w : ℕ) → IfSome (candidate_of w) IsInst
candidate_fits w =
    fields_fit (fields_of w)
    (record { rs = omega arith; rt = omega arith; rd = omega arith; amount = omega arith; imm = omega arith; target = omega arith })

kept : (w : ℕ) (o : Option Inst) (i : Inst) → IfSome o IsInst → with_word w o ≡ Some i → IsInst i × (inst_word i ≡ w)
kept w None i h e = absurd (none-some i e)
kept w (Some x) i h e = go (inst_word x == w) refl e
  where
    go : (b : Bool) → (inst_word x == w) ≡ b → cond b (Some x) None ≡ Some i → IsInst i × (inst_word i ≡ w)
    go true eb r =
        let P : Inst → Type 0 = λ j. IsInst j × (inst_word j ≡ w) in
        subst P (same_Some x i r) (h, eqb-true _ _ eb)
    go false eb r = absurd (none-some i r)

pub exact : DecodingIsExact
unfolding instruction_of
exact = record {
  found = λ w i e. kept w (candidate_of w) i (candidate_fits w) e;
  only = λ i h. ap (with_word (inst_word i)) (candidate-inst_word i h) ∙ ap (λ b. cond b (Some i) None) (eq-eqb (inst_word i) (inst_word i) refl);
}

-- the three ways in which a candidate ends
pub decoded_none : (w : ℕ) → candidate_of w ≡ None → instruction_of w ≡ None
unfolding instruction_of
decoded_none w e = ap (with_word w) e

pub decoded_some : (w : ℕ) (i : Inst) → candidate_of w ≡ Some i → inst_word i ≡ w → instruction_of w ≡ Some i
unfolding instruction_of
decoded_some w i e at = ap (with_word w) e ∙ ap (λ b. cond b (Some i) None) (eq-eqb (inst_word i) w at)

pub decoded_other : (w : ℕ) (i : Inst) → candidate_of w ≡ Some i → (inst_word i ≡ w → ⊥) → instruction_of w ≡ None
unfolding instruction_of
decoded_other w i e other = ap (with_word w) e ∙ go (inst_word i == w) refl
  where
    go : (b : Bool) → (inst_word i == w) ≡ b → cond b (Some i) None ≡ None
    go true eb = absurd (other (eqb-true _ _ eb))
    go false eb = refl
