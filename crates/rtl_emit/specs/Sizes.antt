-- How many blocks the code of an expression takes, at most how many instructions, and how many pseudo-registers. Their number is one more
-- than the greatest that it takes, 0 where it takes none. A local is the register of its number; `free` is the first register that is free.
use Rattle.std.specs.Prelude.{ℕ, ◌+◌, ◌-◌, ◌^◌, ◌<◌, max, Bool, true, false, not, List, [], ◌∷◌, if◌then◌else◌}
use Rattle.c_tree.specs.declared.tree.BinaryOp.{BinaryOp}
use Rattle.c_tree.specs.declared.tree.BinaryOp.TheVariants as B
use Rattle.c_tree.specs.declared.tree.UnaryOp.TheVariants as U
use Rattle.c_typed.specs.Trees.{TypedExpression, constant, local, global, element, unary, binary, conditional}
use Rattle.rtl.specs.declared.limits.TheConstants.{MAX_REGISTERS, MAX_BLOCKS}
use Rattle.rtl_emit.specs.Blocks.{Spot, Block, Line}
use Rattle.rtl_emit.specs.declared.operation.Form.{Form}
use Rattle.rtl_emit.specs.declared.operation.Form.TheVariants as F

-- how many blocks it takes that code goes on there by a jump: none where a block begins there
abbrev pub joint : Spot → ℕ
joint (Block b) = 0
joint (Line c) = 1

abbrev pub is_logical : BinaryOp → Bool
is_logical B.LogicalAnd = true
is_logical B.LogicalOr = true
is_logical _ = false

-- `&&`, or `||`
abbrev pub logical_of : (both : Bool) → BinaryOp
logical_of true = B.LogicalAnd
logical_of false = B.LogicalOr

abbrev pub is_by_branches : Form → Bool
is_by_branches (F.Logical both) = true
is_by_branches (F.Plain op) = false

-- whether branches tell the value
abbrev pub by_branches : TypedExpression → Bool
by_branches (unary U.Not k e) = true
by_branches (binary o k l r) = is_logical o
by_branches _ = false

abbrev mutual
  -- of the value of an expression, with so many for what comes after it
  pub value_blocks : TypedExpression → ℕ → ℕ
  value_blocks (element x k i) n = value_blocks i 1
  value_blocks (unary U.Identity k e) n = value_blocks e n
  value_blocks (unary U.Not k e) n = if by_branches e then n + 2 + condition_blocks e else value_blocks e 1
  value_blocks (unary o k e) n = value_blocks e 1
  value_blocks (binary o k l r) n =
      if is_logical o then n + 2 + condition_blocks r + 1 + condition_blocks l else value_blocks r 1 + value_blocks l 1
  value_blocks (conditional k c a b) n = n + value_blocks a 0 + 1 + value_blocks b 0 + 1 + condition_blocks c
  value_blocks _ n = 0

  -- of the branches of a condition
  pub condition_blocks : TypedExpression → ℕ
  condition_blocks (element x k i) = value_blocks i 1
  condition_blocks (unary U.Identity k e) = condition_blocks e
  condition_blocks (unary U.Not k e) = condition_blocks e
  condition_blocks (unary o k e) = value_blocks e 1
  condition_blocks (binary o k l r) = if is_logical o then condition_blocks r + 1 + condition_blocks l
      else value_blocks r 1 + value_blocks l 1
  condition_blocks (conditional k c a b) = condition_blocks a + 1 + condition_blocks b + 1 + condition_blocks c
  condition_blocks _ = 0

-- at most how many instructions the value of an expression takes, and the branches of a condition
abbrev mutual
  pub value_insts : TypedExpression → ℕ
  value_insts (constant c) = 1
  value_insts (local x k) = 1
  value_insts (global x k) = 2
  value_insts (element x k i) = value_insts i + 1
  value_insts (unary U.Identity k e) = value_insts e
  value_insts (unary U.Not k e) = if by_branches e then condition_insts e + 2 else value_insts e + 2
  value_insts (unary o k e) = value_insts e + 2
  value_insts (binary o k l r) =
      if is_logical o then condition_insts r + condition_insts l + 2 else value_insts r + value_insts l + 1
  value_insts (conditional k c a b) = value_insts a + value_insts b + condition_insts c

  pub condition_insts : TypedExpression → ℕ
  condition_insts (constant c) = 0
  condition_insts (local x k) = 1 + 2
  condition_insts (global x k) = 2 + 2
  condition_insts (element x k i) = value_insts i + 1 + 2
  condition_insts (unary U.Identity k e) = condition_insts e
  condition_insts (unary U.Not k e) = condition_insts e
  condition_insts (unary o k e) = value_insts e + 2 + 2
  condition_insts (binary o k l r) =
      if is_logical o then condition_insts r + condition_insts l else value_insts r + value_insts l + 1 + 2
  condition_insts (conditional k c a b) = condition_insts a + condition_insts b + condition_insts c

-- whether branches join with the value
abbrev pub is_joined : TypedExpression → Bool
is_joined (unary U.Not k e) = by_branches e
is_joined (binary o k l r) = is_logical o
is_joined (conditional k c a b) = true
is_joined _ = false

-- a local is read in its own register. Another operand has the first of two that are free, or the second where branches join with its
-- value. So the first is seldom read by another block
abbrev pub place_registers : TypedExpression → (free : ℕ) → ℕ
place_registers (local x k) free = x + 1
place_registers e free = if is_joined e then free + 2 else free + 1

-- the first that is free while the operand is held
abbrev pub next_free : TypedExpression → (free : ℕ) → ℕ
next_free (local x k) free = free
next_free e free = free + 2

-- an operation at an operand and a constant, which has the register after it
abbrev pub combined_registers : (place next value : ℕ) → ℕ
combined_registers place next value = max (max place (next + 1)) value

-- the place of an operand and the register after it, and the places of two operands
abbrev pub spare_registers : TypedExpression → (free : ℕ) → ℕ
spare_registers e free = max (place_registers e free) (next_free e free + 1)

abbrev pub both_registers : (left right : TypedExpression) (free : ℕ) → ℕ
both_registers l r free = max (place_registers l free) (place_registers r (next_free l free))

-- a branch by a value, or by a register that the contrary test sets
abbrev pub test_registers : (likely : Bool) (free place next value : ℕ) → ℕ
test_registers true free place next value = max place value
test_registers false free place next value = max (free + 1) (combined_registers place next value)

abbrev pub tested_registers : (likely : Bool) → TypedExpression → (free : ℕ) → ℕ
tested_registers likely e free = test_registers likely free (place_registers e free) (next_free e free) 0

-- a comparison has a contrary one
abbrev pub has_contrary : BinaryOp → Bool
has_contrary B.Less = true
has_contrary B.Greater = true
has_contrary B.LessOrEqual = true
has_contrary B.GreaterOrEqual = true
has_contrary B.Equal = true
has_contrary B.NotEqual = true
has_contrary _ = false

-- a branch by an operator's value
abbrev pub choice_registers : (likely contrary : Bool) (free operands : ℕ) → ℕ
choice_registers true contrary free operands = max (free + 1) operands
choice_registers false true free operands = max (free + 1) operands
choice_registers false false free operands = test_registers false free (free + 1) (free + 2) operands

-- two operands
abbrev pub operands_registers : (first second first_value second_value : ℕ) → ℕ
operands_registers first second first_value second_value = max (max first second) (max second_value first_value)

abbrev mutual
  pub value_registers : TypedExpression → (free : ℕ) → ℕ
  value_registers (constant c) free = 0
  value_registers (local x k) free = x + 1
  value_registers (global x k) free = free + 1
  value_registers (element x k i) free = max (place_registers i free) (value_registers i free)
  value_registers (unary U.Identity k e) free = value_registers e free
  value_registers (unary U.Not k e) free =
      if by_branches e then condition_registers e true free else combined_registers (place_registers e free) (next_free e free)
      (value_registers e free)
  value_registers (unary o k e) free = combined_registers (place_registers e free) (next_free e free) (value_registers e free)
  value_registers (binary o k l r) free =
      if is_logical o then max (condition_registers r true free) (condition_registers l true free)
      else operands_registers (place_registers l free) (place_registers r (next_free l free)) (value_registers l free)
      (value_registers r (next_free l free))
  value_registers (conditional k c a b) free = max (max (value_registers a free) (value_registers b free)) (condition_registers c true free)

  pub condition_registers : TypedExpression → (likely : Bool) (free : ℕ) → ℕ
  condition_registers (constant c) likely free = 0
  condition_registers (local x k) likely free = test_registers likely free (x + 1) free (x + 1)
  condition_registers (global x k) likely free = test_registers likely free (free + 1) (free + 2) (free + 1)
  condition_registers (element x k i) likely free =
      test_registers likely free (free + 1) (free + 2) (max (place_registers i free) (value_registers i free))
  condition_registers (unary U.Identity k e) likely free = condition_registers e likely free
  condition_registers (unary U.Not k e) likely free = condition_registers e (not likely) free
  condition_registers (unary o k e) likely free =
      test_registers likely free (free + 1) (free + 2) (combined_registers (place_registers e free) (next_free e free)
      (value_registers e free))
  condition_registers (binary o k l r) likely free =
      if is_logical o then max (condition_registers r likely free) (condition_registers l likely free)
      else choice_registers likely (has_contrary o) free (operands_registers
      (place_registers l free) (place_registers r (next_free l free)) (value_registers l free) (value_registers r (next_free l free)))
  condition_registers (conditional k c a b) likely free =
      max (max (condition_registers a likely free) (condition_registers b likely free)) (condition_registers c true free)

-- an operand in its place
abbrev pub operand_registers : TypedExpression → (free : ℕ) → ℕ
operand_registers e free = max (place_registers e free) (value_registers e free)

-- operands of a list, each held while the later ones are found
abbrev pub arguments_blocks : List TypedExpression → ℕ
arguments_blocks [] = 0
arguments_blocks (e ∷ es) = arguments_blocks es + value_blocks e 1

abbrev pub arguments_insts : List TypedExpression → ℕ
arguments_insts [] = 0
arguments_insts (e ∷ es) = arguments_insts es + value_insts e

abbrev pub places_registers : List TypedExpression → (free : ℕ) → ℕ
places_registers [] free = 0
places_registers (e ∷ es) free = max (place_registers e free) (places_registers es (next_free e free))

abbrev pub values_registers : List TypedExpression → (free : ℕ) → ℕ
values_registers [] free = 0
values_registers (e ∷ es) free = max (value_registers e free) (values_registers es (next_free e free))

-- one more than the greatest number of a global that the expression names, 0 where it names none
abbrev pub globals_named : TypedExpression → ℕ
globals_named (constant c) = 0
globals_named (local x k) = 0
globals_named (global x k) = x + 1
globals_named (element x k i) = max (x + 1) (globals_named i)
globals_named (unary o k e) = globals_named e
globals_named (binary o k l r) = max (globals_named l) (globals_named r)
globals_named (conditional k c a b) = max (globals_named c) (max (globals_named a) (globals_named b))

abbrev pub globals_named_in : List TypedExpression → ℕ
globals_named_in [] = 0
globals_named_in (e ∷ es) = max (globals_named e) (globals_named_in es)

-- too many registers, blocks or numbers of globals: one of the differences isn't 0
abbrev pub Beyond : (registers blocks globals : ℕ) → Type 0
Beyond registers blocks globals = 0 < (registers - MAX_REGISTERS) + ((blocks - MAX_BLOCKS) + (globals - 2 ^ 32))
