-- Pseudo-registers that are local to blocks.
use Rattle.std.specs.Prelude.{ℕ, Bool, true, false, not, List, [], ◌∷◌, drop, if◌then◌else◌}
use Rattle.std.specs.List.{list_any}
pub use Rattle.rtl.specs.Names.{inst_reads, inst_writes, goes_to, some_go_to}
use Rattle.rtl.specs.Names.{optional, is_in}
use Rattle.rtl.specs.declared.instruction.RInst.{RInst}
use Rattle.rtl.specs.declared.instruction.RExit.{RExit}
use Rattle.rtl.specs.declared.instruction.RExit.TheVariants.{Goto, Branch, Call, Return, Out}
use Rattle.rtl.specs.declared.block.RBlock.{RBlock}

-- what an exit reads
abbrev pub exit_reads : RExit → List ℕ
exit_reads (Goto b) = []
exit_reads (Branch c t e) = c ∷ []
exit_reads (Call g xs d next) = xs.items
exit_reads (Return o) = optional o
exit_reads (Out x next) = x ∷ []

-- whether code reads a pseudo-register before it writes it
abbrev pub reads_first : List RInst → RExit → ℕ → Bool
reads_first [] e x = is_in (exit_reads e) x
reads_first (i ∷ is) e x = if is_in (inst_reads i) x then true else if is_in (inst_writes i) x then false else reads_first is e x

abbrev pub block_reads_first : RBlock → ℕ → Bool
block_reads_first b x = reads_first b.insts.items b.exit x

-- local to blocks: each block writes it before it reads it, but for block 0 if no exit goes there
abbrev pub is_local : List RBlock → ℕ → Bool
is_local bs x = not (list_any (λ b. block_reads_first b x) (if some_go_to bs 0 then bs else drop 1 bs))
