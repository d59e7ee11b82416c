-- What a fault says of the lines, and how it prints.
use Rattle.std.specs.Prelude.{◌≡◌, ℕ, ◌+◌, ◌++◌, List, codes, decimal}
use Rattle.block_text.specs.declared.fault.PairFault.{PairFault}
use Rattle.block_text.specs.declared.fault.PairFault.TheVariants.{Line, NoMemory}
use Rattle.block_text.specs.Whole.{FailsAt}

abbrev pub IsPairFault : List (List ℕ) → PairFault → Type 0
IsPairFault ls (Line n) = (k : ℕ) × (n ≡ k + 1) × FailsAt ls k
IsPairFault ls NoMemory = Unit {0}

abbrev pub pair_fault_text : PairFault → List ℕ
pair_fault_text (Line n) = codes "fault 70 Line " ++ decimal n
pair_fault_text NoMemory = codes "fault 30 NoMemory"
