-- Code of instructions, and code of their words.
use Rattle.std.specs.Prelude.{◌≡◌, ℕ, ◌-◌, ◌/◌, List, map, All, Option, slice_get, if◌then◌else◌}
use Rattle.std.specs.Option.{option_map_or}
use Rattle.mips_isa.specs.declared.inst.Inst.{Inst}
use Rattle.mips_isa.specs.Ranges.{IsInst}
use Rattle.mips_code.specs.Words.{inst_word}
use Rattle.mips_code.specs.declared.steps.Fetched.{Fetched}
use Rattle.mips_code.specs.declared.steps.Fetched.TheVariants.{NoWord, Fetches}
use Rattle.mips_code.specs.Machines.{Code, Machine, code_base, is_code_address, words_code, machine_run}

abbrev pub of_inst : Option Inst → Fetched
of_inst inst = option_map_or Fetches inst NoWord

-- the code of these instructions
abbrev pub insts_code : List Inst → Code
insts_code insts pc = if is_code_address pc then of_inst (slice_get insts ((pc - code_base) / 4)) else NoWord

abbrev pub WordsRunAsInstructions : Type 0
WordsRunAsInstructions = (insts : List Inst) → All IsInst insts → (n : ℕ) (m : Machine)
    → machine_run (words_code (map inst_word insts)) n m ≡ machine_run (insts_code insts) n m
