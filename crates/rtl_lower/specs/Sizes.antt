-- How many blocks the code of a statement, a function and a program takes, at most how many instructions, and how many pseudo-registers.
-- Their number is one more than the greatest that it takes. `free` is the number of the function's locals, the first register that is free.
use Rattle.std.specs.Prelude.{◌≡◌, ℕ, ◌+◌, ◌<◌, ◌^◌, max, Bool, true, false, ◌||◌, ◌&&◌, not, ◌≤◌, All, sum_by, List, Option, Some, None}
use Rattle.std.specs.Prelude.{if◌then◌else◌}
use Rattle.c_typed.specs.declared.tree.Destination.{Destination}
use Rattle.c_typed.specs.declared.tree.Destination.TheVariants.{Local, Global as Variable}
use Rattle.c_tree.specs.declared.tree.UnaryOp.TheVariants.{Not}
use Rattle.c_tree.specs.declared.tree.BinaryOp.TheVariants.{Equal}
use Rattle.c_typed.specs.Trees.{TypedExpression, unary, binary, TypedStatement, TypedStatements, TypedFunction, empty, block, unset}
use Rattle.c_typed.specs.Trees.{assign, store, call}
use Rattle.c_typed.specs.Trees.{output, if_else, loop, break_loop, continue_loop, return_with, no_statements, more_statements}
use Rattle.rtl.specs.declared.limits.TheConstants.{MAX_REGISTERS, MAX_BLOCKS}
use Rattle.rtl_emit.specs.Sizes.{value_blocks, condition_blocks, arguments_blocks, value_registers, condition_registers, place_registers}
use Rattle.rtl_emit.specs.Sizes.{next_free, value_insts, condition_insts, arguments_insts}
use Rattle.rtl_emit.specs.Sizes.{operand_registers, operands_registers, places_registers, values_registers, globals_named, globals_named_in}

-- a test of equality, which seldom holds
abbrev pub is_equality : TypedExpression → Bool
is_equality (unary Not k e) = true
is_equality (binary Equal k l r) = true
is_equality _ = false

-- whether a `continue` of this loop stands in a statement
abbrev mutual
  pub continues : TypedStatement → Bool
  continues (block all) = any_continues all
  continues (if_else e a b) = continues a || continues b
  continues (loop e last body) = continues last
  continues continue_loop = true
  continues _ = false

  pub any_continues : TypedStatements → Bool
  any_continues no_statements = false
  any_continues (more_statements s rest) = continues s || any_continues rest

-- whether code goes on after it, by the last statement of a block
abbrev mutual
  pub stays : TypedStatement → Bool
  stays break_loop = false
  stays continue_loop = false
  stays (return_with e) = false
  stays (block all) = last_stays all true
  stays _ = true

  pub last_stays : TypedStatements → Bool → Bool
  last_stays no_statements b = b
  last_stays (more_statements s rest) b = last_stays rest (stays s)

-- how many blocks it takes to jump to its code, by how many it takes to jump to what comes after it
abbrev mutual
  pub statement_joint : TypedStatement → ℕ → ℕ
  statement_joint empty n = n
  statement_joint (unset x) n = n
  statement_joint (block all) n = statements_joint all n
  statement_joint break_loop n = 0
  statement_joint continue_loop n = 0
  statement_joint _ n = 1

  pub statements_joint : TypedStatements → ℕ → ℕ
  statements_joint no_statements n = n
  statements_joint (more_statements s rest) n = statement_joint s (statements_joint rest n)

-- where a call's result goes, and how its caller goes on
abbrev pub receiver_blocks : Option Destination → ℕ → ℕ
receiver_blocks (Some (Variable g)) n = 1
receiver_blocks _ n = n

abbrev pub receiver_registers : Option Destination → (free : ℕ) → ℕ
receiver_registers None free = 0
receiver_registers (Some (Local x)) free = x + 1
receiver_registers (Some (Variable g)) free = free + 2

-- the blocks beside those that what comes after it has
abbrev mutual
  pub statement_blocks : TypedStatement → ℕ → ℕ
  statement_blocks (block all) n = statements_blocks all n
  statement_blocks (assign (Local x) e) n = value_blocks e n
  statement_blocks (assign (Variable g) e) n = value_blocks e 1
  statement_blocks (store a i e) n = value_blocks e 1 + value_blocks i 1
  statement_blocks (call to f es) n = receiver_blocks to n + arguments_blocks es
  statement_blocks (output e) n = n + value_blocks e 1
  statement_blocks (if_else e a b) n =
      n + statement_blocks a 0 + statement_joint a 0 + statement_blocks b 0 + statement_joint b 0 + condition_blocks e
  statement_blocks (loop e last body) n =
      n + 1 + condition_blocks e + statement_blocks last 1 + (if continues body then statement_joint last 1 else 0)
      + statement_blocks body (if continues body then 0 else statement_joint last 1) + condition_blocks e
  statement_blocks (return_with (Some e)) n = value_blocks e 1
  statement_blocks _ n = 0

  pub statements_blocks : TypedStatements → ℕ → ℕ
  statements_blocks no_statements n = 0
  statements_blocks (more_statements s rest) n = statements_blocks rest n + statement_blocks s (statements_joint rest n)

-- at most how many instructions; the test of a loop stands before it and after its last part
abbrev pub receiver_insts : Option Destination → ℕ
receiver_insts (Some (Variable g)) = 2
receiver_insts _ = 0

abbrev mutual
  pub statement_insts : TypedStatement → ℕ
  statement_insts (block all) = statements_insts all
  statement_insts (assign (Local x) e) = value_insts e
  statement_insts (assign (Variable g) e) = value_insts e + 2
  statement_insts (store a i e) = value_insts e + value_insts i + 1
  statement_insts (call to f es) = receiver_insts to + arguments_insts es
  statement_insts (output e) = value_insts e
  statement_insts (if_else e a b) = statement_insts a + statement_insts b + condition_insts e
  statement_insts (loop e last body) = condition_insts e + statement_insts last + statement_insts body + condition_insts e
  statement_insts (return_with (Some e)) = value_insts e
  statement_insts _ = 0

  pub statements_insts : TypedStatements → ℕ
  statements_insts no_statements = 0
  statements_insts (more_statements s rest) = statements_insts rest + statement_insts s

abbrev mutual
  pub statement_registers : TypedStatement → (free : ℕ) → ℕ
  statement_registers (block all) free = statements_registers all free
  statement_registers (assign (Local x) e) free = max (x + 1) (value_registers e free)
  statement_registers (assign (Variable g) e) free = max (next_free e free + 1) (operand_registers e free)
  statement_registers (store a i e) free =
      operands_registers (place_registers i free) (place_registers e (next_free i free)) (value_registers i free)
      (value_registers e (next_free i free))
  statement_registers (call to f es) free = max (receiver_registers to free) (max (places_registers es free) (values_registers es free))
  statement_registers (output e) free = operand_registers e free
  statement_registers (if_else e a b) free =
      max (max (statement_registers a free) (statement_registers b free)) (condition_registers e (stays a && not (is_equality e)) free)
  statement_registers (loop e last body) free =
      max (max (statement_registers last free) (statement_registers body free)) (condition_registers e true free)
  statement_registers (return_with (Some e)) free = operand_registers e free
  statement_registers _ free = 0

  pub statements_registers : TypedStatements → (free : ℕ) → ℕ
  statements_registers no_statements free = 0
  statements_registers (more_statements s rest) free = max (statement_registers s free) (statements_registers rest free)

-- the entry and the blocks of the body
abbrev pub function_blocks : TypedFunction → ℕ
function_blocks f = 1 + statements_blocks f.body 1

abbrev pub function_insts : TypedFunction → ℕ
function_insts f = statements_insts f.body

abbrev pub function_registers : TypedFunction → ℕ
function_registers f = max f.locals (statements_registers f.body f.locals)

-- each function has at most so many pseudo-registers, and together they have at most so many blocks
pub record HaveRoom (fs : List TypedFunction) : Type 0 where
  pub registers : All (λ f. function_registers f ≤ MAX_REGISTERS) fs
  pub blocks : sum_by function_blocks fs ≤ MAX_BLOCKS

-- one more than the greatest number of a global or of a function that is named, 0 where none is
abbrev pub target_number : Option Destination → ℕ
target_number (Some (Variable g)) = g + 1
target_number _ = 0

abbrev mutual
  pub numbers_named : TypedStatement → ℕ
  numbers_named (block all) = numbers_named_in all
  numbers_named (assign to e) = max (target_number (Some to)) (globals_named e)
  numbers_named (store a i e) = max (a + 1) (max (globals_named i) (globals_named e))
  numbers_named (call to f es) = max (max (target_number to) (f + 1)) (globals_named_in es)
  numbers_named (output e) = globals_named e
  numbers_named (if_else e a b) = max (globals_named e) (max (numbers_named a) (numbers_named b))
  numbers_named (loop e last body) = max (globals_named e) (max (numbers_named last) (numbers_named body))
  numbers_named (return_with (Some e)) = globals_named e
  numbers_named _ = 0

  pub numbers_named_in : TypedStatements → ℕ
  numbers_named_in no_statements = 0
  numbers_named_in (more_statements s rest) = max (numbers_named s) (numbers_named_in rest)

-- what each function of a well-formed program keeps: only its size may be too great
pub record IsPlain (f : TypedFunction) : Type 0 where
  pub parameters : f.parameters ≤ f.locals
  pub locals : f.locals < MAX_REGISTERS
  pub jumps : any_continues f.body ≡ false
  pub numbers : numbers_named_in f.body ≤ 2 ^ 32
