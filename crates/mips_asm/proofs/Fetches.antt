-- What is fetched from the words of instructions is these instructions.
use Rattle.std.proofs.Common.{◌≡◌, ℕ, zero, suc, ◌-◌, ◌/◌, cond, List, [], ◌∷◌, map, All, slice_get, refl, ap}
use mathlib.Core.Path.{fun_ext}
use Rattle.std.specs.List.{AllByRecursion}
use Rattle.std.proofs.lemmas.List.Elements.{recursion_from_All}
use Rattle.mips_isa.specs.declared.inst.Inst.{Inst}
use Rattle.mips_isa.specs.Ranges.{IsInst}
use Rattle.mips_code.specs.Words.{inst_word}
use Rattle.mips_code.specs.declared.steps.Fetched.TheVariants.{NoWord}
use Rattle.mips_code.specs.Machines.{Code, code_base, is_code_address, of_instruction, of_word, words_code, machine_run}
use Rattle.mips_code.proofs.Exact.{exact}
use Rattle.mips_asm.specs.Fetching.{of_inst, insts_code, WordsRunAsInstructions}

fetched : (insts : List Inst) (k : ℕ) → AllByRecursion IsInst insts → of_word (slice_get (map inst_word insts) k) ≡ of_inst (slice_get insts k)
fetched [] k h = refl
fetched (i ∷ rest) zero h = ap of_instruction (exact.only i h.0)
fetched (i ∷ rest) (suc k) h = fetched rest k h.1

pub same_code : (insts : List Inst) → All IsInst insts → words_code (map inst_word insts) ≡ insts_code insts
same_code insts h = fun_ext (λ pc. ap (λ f. cond (is_code_address pc) f NoWord) (fetched insts ((pc - code_base) / 4) (recursion_from_All IsInst insts h)))

pub runs_same : WordsRunAsInstructions
runs_same insts h n m = ap (λ (c : Code). machine_run c n m) (same_code insts h)
