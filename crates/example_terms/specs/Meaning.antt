-- What blocks mean, and what terms mean.
use Rattle.std.specs.Prelude.{ℕ, ◌+◌, ◌*◌, ◌%◌, ◌^◌, ◌==◌, nat_lt, if◌then◌else◌, List, [], ◌∷◌, ◌++◌, map, get_or}
use Rattle.term_table.specs.Meanings.{Algebra}
use Rattle.example_terms.specs.Labels.{op_coding}
use Rattle.example_terms.specs.declared.block.Instruction.{Instruction}
use Rattle.example_terms.specs.declared.block.Block.{Block}
use Rattle.example_terms.specs.declared.label.Op.{Op}
use Rattle.example_terms.specs.declared.label.Op.TheVariants.{Constant, Variable, Add, Multiply, Less, Select, Memory, Load, Store}

-- what a block begins with: the word of each variable, and the word at each address
pub record Environment : Type 0 where
  pub variables : ℕ → ℕ
  pub memory : ℕ → ℕ

-- what an instruction makes: a word, and a memory, of which most operators make one alone
pub record Value : Type 0 where
  pub word : ℕ
  pub memory : ℕ → ℕ

-- a word, and memory as it is before the block
abbrev pub just : Environment → ℕ → Value
just e n = record { word = n; memory = e.memory }

-- a memory in which v stands at a
abbrev pub stored : ℕ → ℕ → (ℕ → ℕ) → ℕ → ℕ
stored a v memory k = if k == a then v else memory k

-- an operand that isn't there is 0
abbrev pub nothing : Value
nothing = record { word = 0; memory = λ _. 0 }

abbrev pub at : List Value → ℕ → Value
at xs k = get_or xs k nothing

-- what an operator makes of its operands
abbrev pub made : Op → Environment → List Value → Value
made (Constant n) e xs = just e n
made (Variable v) e xs = just e (e.variables v)
made Add e xs = just e (((at xs 0).word + (at xs 1).word) % 2 ^ 32)
made Multiply e xs = just e (((at xs 0).word * (at xs 1).word) % 2 ^ 32)
made Less e xs = just e (if nat_lt (at xs 0).word (at xs 1).word then 1 else 0)
made Select e xs = if (at xs 0).word == 0 then at xs 2 else at xs 1
made Memory e xs = just e 0
made Load e xs = just e ((at xs 0).memory (at xs 1).word)
made Store e xs = record { word = 0; memory = stored (at xs 1).word (at xs 2).word (at xs 0).memory }

-- the values that instructions make, after those that are there
abbrev pub values_behind : List Value → List Instruction → Environment → List Value
values_behind xs [] e = xs
values_behind xs (i ∷ is) e = values_behind (xs ++ made i.op e (map (at xs) i.operands.items) ∷ []) is e

-- the values of a block's instructions, and what the block means: its word, and memory as it leaves it
abbrev pub values_in : List Instruction → Environment → List Value
values_in = values_behind []

abbrev pub meaning : Block → Environment → Value
meaning b e = let xs = values_in b.instructions.items e in record { word = (at xs b.value).word; memory = (at xs b.memory).memory }

-- what terms mean
abbrev pub op_algebra : Algebra Op Value Environment
op_algebra = record { coding = op_coding; made = made }
