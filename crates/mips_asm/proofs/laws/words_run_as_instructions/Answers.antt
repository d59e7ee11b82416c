use Rattle.mips_asm.proofs.Fetches.{runs_same}
use Rattle.mips_asm.proofs.laws.words_run_as_instructions.Goals as goal

pub returns : goal.returns
returns c = runs_same
