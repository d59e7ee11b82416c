-- Tail duplication (Muchnick, Advanced Compiler Design and Implementation, 18.4). A block that goes to a short one ends with that one's
-- code in place of the goto. The goto was a step, and so is what stands in its place. It is a constant for a register that the copy sets to
-- a constant before it reads it. So each run takes as many steps as before, and the constant costs nothing where it is deferred.
use Rattle.std.specs.Prelude.{◌≡◌, ℕ, suc, ◌+◌, Bool, true, false, ◌&&◌, ◌||◌, List, [], ◌∷◌, ◌++◌, length, nat_eq, nat_le, Option, Some, None}
use Rattle.std.specs.Prelude.{slice_get, get_or, ◌<◌, if◌then◌else◌}
use Rattle.rtl.specs.declared.instruction.RInst.{RInst}
use Rattle.rtl.specs.declared.instruction.RInst.TheVariants.{Const}
use Rattle.rtl.specs.declared.instruction.RExit.{RExit}
use Rattle.rtl.specs.declared.instruction.RExit.TheVariants.{Goto, Branch, Call, Return, Out}
use Rattle.rtl.specs.declared.block.RBlock.{RBlock}
use Rattle.rtl.specs.declared.block.RFunc.{RFunc}
use Rattle.rtl.specs.declared.tails.TheConstants.{TAIL_INSTS, TAIL_OPERATIONS}
use Rattle.rtl.specs.Meaning.{Code, code_of, rtl_run}
use Rattle.rtl.specs.Names.{is_in, inst_reads, inst_writes, some_go_to}
use Rattle.rtl.specs.Programs.{Program}

-- ---- which blocks are copied

-- whether instructions write a register before they read it
abbrev pub writes_first : List RInst → ℕ → Bool
writes_first [] d = false
writes_first (i ∷ is) d = if is_in (inst_reads i) d then false else if is_in (inst_writes i) d then true else writes_first is d

-- the first register that one of them sets to a constant, and that all of them write before they read it
abbrev pub constant_of : (all : List RInst) → List RInst → Option ℕ
constant_of all [] = None
constant_of all (Const d w ∷ is) = if writes_first all d then Some d else constant_of all is
constant_of all (i ∷ is) = constant_of all is

abbrev pub spare_constant : List RInst → Option ℕ
spare_constant all = constant_of all all

-- how many instructions aren't constants
abbrev pub weight : RInst → ℕ
weight (Const d w) = 0
weight _ = 1

abbrev pub operations : List RInst → ℕ
operations [] = 0
operations (i ∷ is) = weight i + operations is

abbrev pub is_short : List RInst → Bool
is_short is = nat_le (length is) TAIL_INSTS && nat_le (operations is) TAIL_OPERATIONS

-- a call has arguments, and a block of its own where it goes on
abbrev pub again : RExit → Option RExit
again (Call g xs d next) = None
again x = Some x

-- ---- what comes of code

-- the code, with a copy of such instructions and such an exit, which write d before they read it
abbrev pub joined : Code → (d : ℕ) → List RInst → RExit → Code
joined c d is e = record { insts = c.insts ++ Const d 0 ∷ is; exit = e }

abbrev pub joined_if : Code → List RInst → Option ℕ → Option RExit → Code
joined_if c is (Some d) (Some e) = joined c d is e
joined_if c is _ _ = c

abbrev pub with_tail : Code → Option RBlock → Code
with_tail c None = c
with_tail c (Some t) = if is_short t.insts.items then joined_if c t.insts.items (spare_constant t.insts.items) (again t.exit) else c

-- of a block after these, which are those that may be copied
abbrev pub tailed_by : (before : List RBlock) → Code → RExit → Code
tailed_by before c (Goto b) = with_tail c (slice_get before b)
tailed_by before c _ = c

abbrev pub tailed : (before : List RBlock) → Code → Code
tailed before c = tailed_by before c c.exit

-- ---- blocks, functions and programs

abbrev pub AreTailed : (before blocks new : List RBlock) → Type 0
AreTailed before [] [] = Unit {0}
AreTailed before (b ∷ bs) (c ∷ cs) = (code_of c ≡ tailed before (code_of b)) × AreTailed (before ++ b ∷ []) bs cs
AreTailed before _ _ = ⊥

-- a block that no exit of these goes to is left empty, but for the entry
abbrev pub is_reached : List RBlock → ℕ → Bool
is_reached bs i = nat_eq i 0 || some_go_to bs i

-- the shortest exit that goes nowhere else
abbrev pub shortest : RExit → RExit
shortest (Goto b) = Goto b
shortest (Branch c t e) = Goto t
shortest (Call g xs d next) = Goto next
shortest (Return o) = Return None
shortest (Out x next) = Goto next

abbrev pub empty_code : RBlock → Code
empty_code b = record { insts = []; exit = shortest b.exit }

-- from block i on
abbrev pub AreKept : (keeps : ℕ → Bool) → (i : ℕ) → (blocks new : List RBlock) → Type 0
AreKept keeps i [] [] = Unit {0}
AreKept keeps i (b ∷ bs) (c ∷ cs) = (code_of c ≡ (if keeps i then code_of b else empty_code b)) × AreKept keeps (suc i) bs cs
AreKept keeps i _ _ = ⊥

-- blocks with their tails, without those that nothing goes to then
pub record AreMade (blocks new : List RBlock) : Type 0 where
  pub with_tails : List RBlock
  pub tailed : AreTailed [] blocks with_tails
  pub kept : AreKept (is_reached with_tails) 0 with_tails new

pub record HasTails (f new : RFunc) : Type 0 where
  pub parameters : new.parameters ≡ f.parameters
  pub blocks : AreMade f.blocks.items new.blocks.items

abbrev pub HaveTails : List RFunc → List RFunc → Type 0
HaveTails [] [] = Unit {0}
HaveTails (f ∷ fs) (n ∷ ns) = HasTails f n × HaveTails fs ns
HaveTails _ _ = ⊥

pub record IsTailed (p new : Program) : Type 0 where
  pub functions : HaveTails p.functions new.functions
  pub globals : new.globals ≡ p.globals
  pub main : new.main ≡ p.main

-- after any number of steps, with any bound on active calls, it has come to the same
abbrev pub RunsAlike : Program → Program → Type 0
RunsAlike p new = (depth n : ℕ) → rtl_run new depth n ≡ rtl_run p depth n

-- ---- words of private functions

-- the marks of these blocks are set
pub record Marks (numbers : List ℕ) (old new : List Bool) : Type 0 where
  pub same_length : length new ≡ length old
  pub each : (x : ℕ) → x < length old → get_or new x false ≡ (get_or old x false || is_in numbers x)
