-- What each typed program keeps, so that no layer above tests it again: names stand for what is there, and calls fit their functions.
-- Operators compute in the types of their operands, jumps stand in loops, and the sizes are within the limits.
use Rattle.std.specs.Prelude.{◌≡◌, ◌<◌, ◌≤◌, ◌+◌, ℕ, List, [], ◌∷◌, Option, Some, None, Bool, true, false, length, is_some, slice_get, All}
use Rattle.c_tokens.specs.declared.token.IntegerType.TheVariants.{SignedInt}
use Rattle.words.specs.Widths.{words_of_elements}
use Rattle.c_typed.specs.declared.limits.TheConstants.{MAX_FUNCTIONS, MAX_GLOBAL_WORDS, MAX_LOCALS, MAX_PARAMETERS}
use Rattle.c_typed.specs.declared.tree.Destination.{Destination}
use Rattle.c_typed.specs.declared.tree.Destination.TheVariants.{Local, Global as Variable}
use Rattle.c_typed.specs.declared.tree.Global.{Global}
use Rattle.c_typed.specs.Trees.{TypedExpression, TypedStatement, TypedStatements, TypedFunction, TypedProgram, constant, local, global}
use Rattle.c_typed.specs.Trees.{element, unary, binary}
use Rattle.c_typed.specs.Trees.{conditional, type_of, prefix_type, operation_type, common_type, empty, block, unset, assign, store, call}
use Rattle.c_typed.specs.Trees.{output, if_else, loop}
use Rattle.c_typed.specs.Trees.{break_loop, continue_loop, return_with, no_statements, more_statements}

-- in a function with so many locals, each local and global is there. An operator computes in the type that its operands give (C99
-- 6.3.1.8, 6.5)
abbrev pub FitsExpression : TypedProgram → (locals : ℕ) → TypedExpression → Type 0
FitsExpression p n (constant c) = Unit {0}
FitsExpression p n (local x k) = x < n
FitsExpression p n (global x k) = x < length p.globals
FitsExpression p n (element x k e) = (x < length p.globals) × FitsExpression p n e
FitsExpression p n (unary o k e) = (k ≡ prefix_type o (type_of e)) × FitsExpression p n e
FitsExpression p n (binary o k l r) = (k ≡ operation_type o (type_of l) (type_of r)) × (FitsExpression p n l × FitsExpression p n r)
FitsExpression p n (conditional k c a b) = (k ≡ common_type (type_of a) (type_of b))
    × (FitsExpression p n c × (FitsExpression p n a × FitsExpression p n b))

abbrev pub FitsAll : TypedProgram → (locals : ℕ) → List TypedExpression → Type 0
FitsAll p n [] = Unit {0}
FitsAll p n (e ∷ rest) = FitsExpression p n e × FitsAll p n rest

abbrev pub FitsMaybe : TypedProgram → (locals : ℕ) → Option TypedExpression → Type 0
FitsMaybe p n None = Unit {0}
FitsMaybe p n (Some e) = FitsExpression p n e

abbrev pub FitsPlace : TypedProgram → (locals : ℕ) → Destination → Type 0
FitsPlace p n (Local x) = x < n
FitsPlace p n (Variable x) = x < length p.globals

-- where a result goes, if anywhere
abbrev pub FitsTarget : TypedProgram → (locals : ℕ) → Option Destination → Type 0
FitsTarget p n None = Unit {0}
FitsTarget p n (Some to) = FitsPlace p n to

-- the function is there, has as many parameters as there are arguments, and gives a result where one is wanted
pub record FitsCall (p : TypedProgram) (to : Option Destination) (f arguments : ℕ) : Type 0 where
  pub callee : TypedFunction
  pub there : slice_get p.functions f ≡ Some callee
  pub count : arguments ≡ callee.parameters
  pub gives : is_some to ≡ true → is_some callee.result ≡ true

-- a statement of a function that gives a result or not, in a loop or not. The last part of a loop's turn has no jump
abbrev mutual
  pub FitsStatement : TypedProgram → (locals : ℕ) → (gives inside : Bool) → TypedStatement → Type 0
  FitsStatement p n gives inside empty = Unit {0}
  FitsStatement p n gives inside (block all) = FitsStatements p n gives inside all
  FitsStatement p n gives inside (unset x) = x < n
  FitsStatement p n gives inside (assign to e) = FitsPlace p n to × FitsExpression p n e
  FitsStatement p n gives inside (store x i e) = (x < length p.globals) × (FitsExpression p n i × FitsExpression p n e)
  FitsStatement p n gives inside (call to f all) = FitsTarget p n to × (FitsCall p to f (length all) × FitsAll p n all)
  FitsStatement p n gives inside (output e) = FitsExpression p n e
  FitsStatement p n gives inside (if_else c a b) = FitsExpression p n c
      × (FitsStatement p n gives inside a × FitsStatement p n gives inside b)
  FitsStatement p n gives inside (loop c last body) = FitsExpression p n c
      × (FitsStatement p n gives false last × FitsStatement p n gives true body)
  FitsStatement p n gives inside break_loop = inside ≡ true
  FitsStatement p n gives inside continue_loop = inside ≡ true
  FitsStatement p n gives inside (return_with e) = (is_some e ≡ gives) × FitsMaybe p n e

  pub FitsStatements : TypedProgram → (locals : ℕ) → (gives inside : Bool) → TypedStatements → Type 0
  FitsStatements p n gives inside no_statements = Unit {0}
  FitsStatements p n gives inside (more_statements s rest) = FitsStatement p n gives inside s × FitsStatements p n gives inside rest

-- the parameters are the first of the locals
pub record FitsFunction (p : TypedProgram) (f : TypedFunction) : Type 0 where
  pub parameters : f.parameters ≤ MAX_PARAMETERS
  pub first : f.parameters ≤ f.locals
  pub locals : f.locals ≤ MAX_LOCALS
  pub body : FitsStatements p f.locals (is_some f.result) false f.body

-- the words that these globals take
abbrev pub words_in : List Global → ℕ
words_in [] = 0
words_in (g ∷ rest) = words_of_elements g.width g.length + words_in rest

-- each global has an element at least, and there is an `int main(void)`
pub record IsWellFormed (p : TypedProgram) : Type 0 where
  pub functions : All (FitsFunction p) p.functions
  pub functions_fit : length p.functions ≤ MAX_FUNCTIONS
  pub globals : All (λ (g : Global). 1 ≤ g.length) p.globals
  pub words_fit : words_in p.globals ≤ MAX_GLOBAL_WORDS
  pub main : TypedFunction
  pub entry : slice_get p.functions p.main ≡ Some main
  pub alone : main.parameters ≡ 0
  pub gives : main.result ≡ Some SignedInt
