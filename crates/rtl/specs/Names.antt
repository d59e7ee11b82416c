-- The pseudo-registers that a function names, and how often.
use Rattle.std.specs.Prelude.{ℕ, suc, ◌+◌, Bool, List, [], ◌∷◌, ◌++◌, Option, Some, None, nat_eq, nat_lt, if◌then◌else◌}
use Rattle.std.specs.List.{list_any}
use Rattle.rtl.specs.declared.instruction.RInst.{RInst}
use Rattle.rtl.specs.declared.instruction.RInst.TheVariants.{Const, Move, Bin, Load, Store}
use Rattle.rtl.specs.declared.instruction.RExit.{RExit}
use Rattle.rtl.specs.declared.instruction.RExit.TheVariants.{Goto, Branch, Call, Return, Out}
use Rattle.rtl.specs.declared.block.RBlock.{RBlock}
use Rattle.rtl.specs.declared.block.RFunc.{RFunc}

-- each as often as it is mentioned
abbrev pub inst_names : RInst → List ℕ
inst_names (Const d w) = d ∷ []
inst_names (Move d a) = d ∷ a ∷ []
inst_names (Bin op d a b) = d ∷ a ∷ b ∷ []
inst_names (Load d a i) = d ∷ i ∷ []
inst_names (Store a i b) = i ∷ b ∷ []

-- which an instruction reads
abbrev pub inst_reads : RInst → List ℕ
inst_reads (Const d w) = []
inst_reads (Move d a) = a ∷ []
inst_reads (Bin op d a b) = a ∷ b ∷ []
inst_reads (Load d a i) = i ∷ []
inst_reads (Store a i b) = i ∷ b ∷ []

-- which it writes
abbrev pub inst_writes : RInst → List ℕ
inst_writes (Const d w) = d ∷ []
inst_writes (Move d a) = d ∷ []
inst_writes (Bin op d a b) = d ∷ []
inst_writes (Load d a i) = d ∷ []
inst_writes (Store a i b) = []

abbrev pub is_in : List ℕ → ℕ → Bool
is_in xs r = list_any (λ x. nat_eq r x) xs

-- of a register that may be absent
abbrev pub optional : Option ℕ → List ℕ
optional None = []
optional (Some x) = x ∷ []

abbrev pub exit_names : RExit → List ℕ
exit_names (Goto b) = []
exit_names (Branch c t e) = c ∷ []
exit_names (Call g xs d next) = xs.items ++ optional d
exit_names (Return o) = optional o
exit_names (Out x next) = x ∷ []

abbrev pub insts_names : List RInst → List ℕ
insts_names [] = []
insts_names (i ∷ is) = inst_names i ++ insts_names is

abbrev pub blocks_names : List RBlock → List ℕ
blocks_names [] = []
blocks_names (b ∷ bs) = insts_names b.insts.items ++ (exit_names b.exit ++ blocks_names bs)

abbrev pub occurrences : List ℕ → ℕ → ℕ
occurrences [] x = 0
occurrences (y ∷ ys) x = (if nat_eq y x then 1 else 0) + occurrences ys x

-- one more than the greatest name, and at least n
abbrev pub bound : ℕ → List ℕ → ℕ
bound n [] = n
bound n (x ∷ xs) = bound (if nat_lt x n then n else suc x) xs

-- as many as are numbered: up to the greatest that is a parameter or is named
abbrev pub how_many : RFunc → ℕ
how_many func = bound func.parameters (blocks_names func.blocks.items)

-- how often a function mentions each
abbrev pub uses_of : RFunc → ℕ → ℕ
uses_of func = occurrences (blocks_names func.blocks.items)

-- where an exit goes
abbrev pub goes_to : RExit → List ℕ
goes_to (Goto b) = b ∷ []
goes_to (Branch c t e) = t ∷ e ∷ []
goes_to (Call g xs d next) = next ∷ []
goes_to (Return o) = []
goes_to (Out x next) = next ∷ []

abbrev pub some_go_to : List RBlock → ℕ → Bool
some_go_to bs b = list_any (λ (k : RBlock). is_in (goes_to k.exit) b) bs
