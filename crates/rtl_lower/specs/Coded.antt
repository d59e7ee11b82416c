-- Which code stands for a statement, a function and a program.
use Rattle.std.specs.Prelude.{◌≡◌, ℕ, ◌<◌, ◌≤◌, ◌⊎◌, List, [], ◌∷◌, Option, Some, None, length, slice_get, map}
use Rattle.runs.specs.Stores.{Places}
use Rattle.runs.specs.Runs.{with_value}
use Rattle.c_typed.specs.declared.tree.Destination.{Destination}
use Rattle.c_typed.specs.declared.tree.Destination.TheVariants.{Local, Global as Variable}
use Rattle.c_typed.specs.declared.tree.Global.{Global}
use Rattle.c_typed.specs.Trees.{TypedExpression, TypedStatement, TypedStatements, TypedFunction, TypedProgram, empty, block, unset, assign}
use Rattle.c_typed.specs.Trees.{store, call}
use Rattle.c_typed.specs.Trees.{output, if_else, loop, break_loop, continue_loop, return_with, no_statements, more_statements}
use Rattle.c_typed.specs.WellFormed.{FitsFunction}
use Rattle.c_typed.specs.Meaning.{first_words}
use Rattle.rtl.specs.Programs.{Program}
use Rattle.rtl.specs.Meaning.{Code, Surroundings, at, activation, around_callee, code_of, words_in, state_after_call, state_after_exit, first_values}
use Rattle.rtl.specs.declared.instruction.RInst.TheVariants as I
use Rattle.rtl.specs.declared.instruction.RExit.{RExit}
use Rattle.rtl.specs.declared.instruction.RExit.TheVariants as X
use Rattle.rtl.specs.declared.block.RBlock.{RBlock}
use Rattle.rtl.specs.declared.block.RFunc.{RFunc}
use Rattle.rtl.specs.declared.block.RGlobal.{RGlobal}
use Rattle.rtl_emit.specs.Blocks.{goto, exit_code, first, Spot, Block, Line, line_of, insts_in, Lands, At}
use Rattle.rtl_emit.specs.Runs.{Goes}
use Rattle.rtl_emit.specs.Expressions.{IsPlace, Evaluates, Fetches, Decides, ArePlaces, FetchAll}
use Rattle.rtl_emit.specs.Sound.{Scope, AreSound}
use Rattle.rtl_emit.specs.declared.place.Place.{Place}
use Rattle.rtl_lower.specs.Sizes.{function_blocks, function_insts, function_registers}
use Rattle.rtl_lower.specs.Sound.{Suits}

-- code that is at a spot, or that has jumped there already
abbrev pub Sits : List RBlock → Spot → Code → Type 0
Sits bs (Block b) c = (c ≡ goto b) ⊎ At bs b c
Sits bs (Line c') c = c ≡ c'

abbrev pub IsThere : List RBlock → Spot → Type 0
IsThere bs (Block b) = (c : Code) × At bs b c
IsThere bs (Line c) = Unit {0}

-- code that comes from one spot to another by jumps alone
pub record Comes (bs : List RBlock) (from to : Spot) : Type 0 where
  pub there : IsThere bs to → IsThere bs from
  pub by : (c : Code) → Sits bs from c → (w : Surroundings) (r : Places)
      → (c' : Code) × Sits bs to c' × Goes w.program w.depth (at w bs r c) (at w bs r c')

-- the function that code is of: its blocks, and the number of its locals, which is the first register that is free
pub record Enclosing : Type 0 where
  pub blocks : List RBlock
  pub free : ℕ

abbrev pub enclosing : List RBlock → (free : ℕ) → Enclosing
enclosing bs free = record { blocks = bs; free = free }

pub record IsAssign (fn : Enclosing) (x : ℕ) (e : TypedExpression) (from after : Spot) : Type 0 where
  pub code : Code
  pub is : from ≡ Line code
  pub value : Evaluates fn.blocks e fn.free x code (line_of after)

-- a word in the register p goes to a global variable, by way of a free register z
abbrev pub put_code : (g z p : ℕ) → Code → Code
put_code g z p after = first (I.Const z 0) (first (I.Store g z p) after)

-- code that first has a value in its place
pub record FetchesFirst (fn : Enclosing) (e : TypedExpression) (from : Spot) (rest : (p : ℕ) → Code) : Type 0 where
  pub code : Code
  pub is : from ≡ Line code
  pub p : ℕ
  pub next : ℕ
  pub is_place : IsPlace e fn.free p next
  pub value : Fetches fn.blocks e fn.free p code (rest p)

pub record IsPut (fn : Enclosing) (g : ℕ) (e : TypedExpression) (from after : Spot) : Type 0 where
  pub z : ℕ
  pub fetches : FetchesFirst fn e from (λ p. put_code g z p (line_of after))
  pub open fetches use *
  pub spare : fetches.next ≤ z

pub record IsStore (fn : Enclosing) (a : ℕ) (i e : TypedExpression) (from after : Spot) : Type 0 where
  pub code : Code
  pub is : from ≡ Line code
  pub p : ℕ
  pub q : ℕ
  pub next : ℕ
  pub last : ℕ
  pub index_place : IsPlace i fn.free p next
  pub value_place : IsPlace e next q last
  pub middle : Code
  pub index : Fetches fn.blocks i fn.free p code middle
  pub value : Fetches fn.blocks e next q middle (first (I.Store a p q) (line_of after))

-- an exit by a value
abbrev pub Leaves : Enclosing → TypedExpression → (from : Spot) → (exit : ℕ → RExit) → Type 0
Leaves fn e from exit = FetchesFirst fn e from (λ p. exit_code (exit p))

-- an exit by a value that goes on at a block
pub record Exits (fn : Enclosing) (e : TypedExpression) (from : Spot) (exit : (p block : ℕ)
    → RExit) (after : Spot) : Type 0 where
  pub block : ℕ
  pub lands : Lands fn.blocks block after
  pub leaves : Leaves fn e from (λ p. exit p block)

-- after a call: the result is in a free register, and goes to a global variable
pub record PutsResult (fn : Enclosing) (g : ℕ) (to : Option ℕ) (b : ℕ) (after : Spot) : Type 0 where
  pub t : ℕ
  pub z : ℕ
  pub is : to ≡ Some t
  pub low : fn.free ≤ t
  pub apart : t < z
  pub there : At fn.blocks b (put_code g z t (line_of after))

-- where a call's result goes, and the block where its caller goes on
abbrev pub Receives : Enclosing → Option Destination → Option ℕ → (b : ℕ) → Spot → Type 0
Receives fn None to b after = (to ≡ None) × Lands fn.blocks b after
Receives fn (Some (Local x)) to b after = (to ≡ Some x) × Lands fn.blocks b after
Receives fn (Some (Variable g)) to b after = PutsResult fn g to b after

pub record IsCall (fn : Enclosing) (place : Option Destination) (f : ℕ) (es : List TypedExpression)
    (from after : Spot) : Type 0 where
  pub code : Code
  pub is : from ≡ Line code
  pub to : Option ℕ
  pub block : ℕ
  pub receives : Receives fn place to block after
  pub places : List Place
  pub are_places : ArePlaces es fn.free places
  pub exit : RExit
  pub leaves : (w : Surroundings) (r : Places)
      → state_after_exit w fn.blocks r exit
      ≡ with_value (words_in r (map (λ p. p.register) places)) w.output (λ vs. with_value (slice_get fn.blocks block) w.output (λ b.
      state_after_call (around_callee w (activation w fn.blocks r (code_of b)) to) f vs))
  pub values : FetchAll fn.blocks es fn.free places code (exit_code exit)

-- ForA and ForB: the code from here on, to there, is that of either side
pub record IsChoice (fn : Enclosing) (e : TypedExpression) (ForA ForB : Spot → Spot
    → Type 0) (from after : Spot) : Type 0 where
  pub code : Code
  pub is : from ≡ Line code
  pub join : ℕ
  pub joined : Lands fn.blocks join after
  pub a : ℕ
  pub a_spot : Spot
  pub a_lands : Lands fn.blocks a a_spot
  pub a_for : ForA a_spot (Block join)
  pub b : ℕ
  pub b_spot : Spot
  pub b_lands : Lands fn.blocks b b_spot
  pub b_for : ForB b_spot (Block join)
  pub test : Decides fn.blocks e fn.free a b code

-- the end of a turn comes to the last part of the loop, and so does `continue`, if there is any
pub record IsTurn (bs : List RBlock) (next : Option ℕ) (turn last : Spot) : Type 0 where
  pub comes : Comes bs turn last
  pub continues : (b : ℕ) → next ≡ Some b → Lands bs b last

-- a loop's body, and its last part with the test after it
pub record LoopBlocks (fn : Enclosing) (e : TypedExpression) (ForLast : Spot → Spot → Type 0)
    (ForBody : (leave : ℕ) (next : Option ℕ) → Spot → Spot → Type 0) (after : Spot) : Type 0 where
  pub leave : ℕ
  pub left : Lands fn.blocks leave after
  pub next : Option ℕ
  pub body : ℕ
  pub body_spot : Spot
  pub body_at : At fn.blocks body (line_of body_spot)
  pub turn : Spot
  pub body_for : ForBody leave next body_spot turn
  pub last_spot : Spot
  pub is_turn : IsTurn fn.blocks next turn last_spot
  pub bottom : Code
  pub last_for : ForLast last_spot (Line bottom)
  pub again : Decides fn.blocks e fn.free body leave bottom

-- a loop whose test stands before it, too
pub record IsLoop (fn : Enclosing) (e : TypedExpression) (ForLast : Spot → Spot → Type 0)
    (ForBody : (leave : ℕ) (next : Option ℕ) → Spot → Spot → Type 0) (from after : Spot) : Type 0 where
  pub blocks : LoopBlocks fn e ForLast ForBody after
  pub open blocks use *
  pub top : Code
  pub is : from ≡ Line top
  pub test : Decides fn.blocks e fn.free blocks.body blocks.leave top

-- the code from here on is that of a statement, and goes on there; `break` leads to one block, and `continue` to
-- another
abbrev mutual
  pub Coded : Enclosing → TypedStatement → (leave : ℕ) (next : Option ℕ) → (from after : Spot) → Type 0
  Coded fn empty leave next from after = from ≡ after
  Coded fn (block all) leave next from after = CodedAll fn all leave next from after
  Coded fn (unset x) leave next from after = from ≡ after
  Coded fn (assign (Local x) e) leave next from after = IsAssign fn x e from after
  Coded fn (assign (Variable g) e) leave next from after = IsPut fn g e from after
  Coded fn (store a i e) leave next from after = IsStore fn a i e from after
  Coded fn (call to f es) leave next from after = IsCall fn to f es from after
  Coded fn (output e) leave next from after = Exits fn e from (λ p b. X.Out p b) after
  Coded fn (if_else e a b) leave next from after =
      IsChoice fn e (λ f t. Coded fn a leave next f t) (λ f t. Coded fn b leave next f t) from after
  Coded fn (loop e last body) leave next from after =
      IsLoop fn e (λ f t. Coded fn last leave next f t) (λ leave' next' f t. Coded fn body leave' next' f t) from after
  Coded fn break_loop leave next from after = from ≡ Block leave
  Coded fn continue_loop leave next from after = (b : ℕ) × (next ≡ Some b) × (from ≡ Block b)
  Coded fn (return_with None) leave next from after = from ≡ Line (exit_code (X.Return None))
  Coded fn (return_with (Some e)) leave next from after = Leaves fn e from (λ p. X.Return (Some p))

  pub CodedAll : Enclosing → TypedStatements → (leave : ℕ) (next : Option ℕ) → (from after : Spot) → Type 0
  CodedAll fn no_statements leave next from after = from ≡ after
  CodedAll fn (more_statements s rest) leave next from after =
      (middle : Spot) × Coded fn s leave next from middle × CodedAll fn rest leave next middle after

-- the blocks of a function, which name no more registers and have no more instructions than are counted on it
pub record IsCodeOf (f : TypedFunction) (r : RFunc) : Type 0 where
  pub parameters : r.parameters ≡ f.parameters
  pub entry : Spot
  pub entry_at : At r.blocks.items 0 (line_of entry)
  pub after : Code
  pub body : CodedAll (enclosing r.blocks.items f.locals) f.body 0 None entry (Line after)
  pub count : length r.blocks.items ≡ function_blocks f
  pub insts : insts_in r.blocks.items ≤ function_insts f
  pub sound : (p : TypedProgram) (s : Scope) → Suits p (function_registers f) s → FitsFunction p f → length r.blocks.items ≤ s.blocks
      → AreSound s r.blocks.items

-- a global of the same width and length, with as many first values, and the same ones
pub record IsGlobalOf (g : Global) (r : RGlobal) : Type 0 where
  pub elements : r.length ≡ g.length
  pub values : length r.first.items ≡ g.length
  pub width : r.width ≡ g.width
  pub first : first_values r ≡ first_words g

-- the code of each function, and the globals
pub record IsCodeOfProgram (s : TypedProgram) (p : Program) : Type 0 where
  pub main : p.main ≡ s.main
  pub functions : (i : ℕ) (f : TypedFunction) → slice_get s.functions i ≡ Some f
      → (r : RFunc) × (slice_get p.functions i ≡ Some r) × IsCodeOf f r
  pub globals : (i : ℕ) (g : Global) → slice_get s.globals i ≡ Some g → (r : RGlobal) × (slice_get p.globals i ≡ Some r) × IsGlobalOf g r
  pub first : map first_values p.globals ≡ map first_words s.globals

-- two lists of one length, each item of the first with the one at its place in the second
abbrev pub ArePairs : {A B : Type 0} → (A → B → Type 0) → List A → List B → Type 0
ArePairs IsPair [] [] = Unit {0}
ArePairs IsPair (x ∷ xs) (y ∷ ys) = IsPair x y × ArePairs IsPair xs ys
ArePairs IsPair [] (y ∷ ys) = ⊥
ArePairs IsPair (x ∷ xs) [] = ⊥

abbrev pub AreCodesOf : List TypedFunction → List RFunc → Type 0
AreCodesOf fs rs = ArePairs IsCodeOf fs rs

abbrev pub AreGlobalsOf : List Global → List RGlobal → Type 0
AreGlobalsOf gs rs = ArePairs IsGlobalOf gs rs
