-- What each call promises that emits code and adds blocks to a function's list, whatever the code is for.
use Rattle.std.specs.Prelude.{◌≡◌, ℕ, ◌+◌, ◌<◌, ◌≤◌, max, Bool, true, false, List, length, Result, IfOk, IfErr, OnOk}
use Rattle.c_typed.specs.Trees.{TypedExpression}
use Rattle.rtl.specs.declared.block.RBlock.{RBlock}
use Rattle.rtl.specs.declared.limits.TheConstants.{MAX_REGISTERS}
use Rattle.rtl.specs.Meaning.{Code}
use Rattle.rtl_emit.specs.Blocks.{open_code, goto, line_of, insts_of, insts_at, Spot, Line, Grows, Has, At, Adds}
use Rattle.rtl_emit.specs.Expressions.{Evaluates, Fetches, Decides, FetchAll}
use Rattle.rtl_emit.specs.Sizes.{joint, Beyond, value_registers, value_blocks, value_insts, condition_registers, condition_blocks}
use Rattle.rtl_emit.specs.Sizes.{condition_insts, arguments_insts, globals_named}
use Rattle.rtl_emit.specs.Sizes.{values_registers, places_registers, arguments_blocks, globals_named_in, test_registers, place_registers, next_free}
use Rattle.rtl_emit.specs.Sound.{Scope, IsSound, IsSoundSpot, KeepsSound}
use Rattle.rtl_emit.specs.declared.block.OpenBlock.{OpenBlock}
use Rattle.rtl_emit.specs.declared.fault.LowerFault.{LowerFault}
use Rattle.rtl_emit.specs.declared.fault.LowerFault.TheVariants.{Limit}
use Rattle.rtl_emit.specs.declared.place.Place.{Place}
use Rattle.rtl_emit.specs.declared.targets.Targets.{Targets}
use Rattle.rtl_emit.specs.declared.waiting.WaitingForTwo.{WaitingForTwo}

-- how many blocks code adds, and at most how many instructions. Also one more than the greatest number of a register, and of a global,
-- that it names beside those that it is given
pub record Size : Type 0 where
  pub registers : ℕ
  pub blocks : ℕ
  pub insts : ℕ
  pub globals : ℕ

-- so many registers and globals are in scope
abbrev pub Covers : Size → Scope → Type 0
Covers size s = (size.registers ≤ s.registers) × (size.globals ≤ s.globals)

-- what a call emits: how big it is, what holds of old and new blocks, and what it does in a list that has the new ones
pub record Description (A : Type 0) : Type 1 where
  pub size : Size
  pub Keeps : (old new : List RBlock) → A → Type 0
  pub Does : A → List RBlock → Type 0

-- the call emits this: the blocks that were there stay, whatever is answered. An Ok adds so many and is within the limits. It does its work
-- in every list of blocks that has those which were added. A Limit comes only where one of the sizes is beyond one
pub record Emits {A : Type 0} (d : Description A) (old new : List RBlock) (r : Result A LowerFault) : Type 0 where
  pub grows : Grows old new
  pub count : OnOk r (length new ≡ length old + d.size.blocks)
  pub room : OnOk r (d.size.registers ≤ MAX_REGISTERS)
  pub limit : IfErr r (λ f. f ≡ Limit → Beyond d.size.registers (length old + d.size.blocks) d.size.globals)
  pub sound : IfOk r (λ x. d.Keeps old new x)
  pub does : IfOk r (λ x. (bs : List RBlock) → Has bs old new → d.Does x bs)

abbrev pub value_size : TypedExpression → (free joint : ℕ) → Size
value_size e free n = record {
  registers = value_registers e free;
  blocks = value_blocks e n;
  insts = value_insts e;
  globals = globals_named e;
}

abbrev pub test_size : TypedExpression → (likely : Bool) (free : ℕ) → Size
test_size e likely free = record {
  registers = test_registers likely free (place_registers e free) (next_free e free) (value_registers e free);
  blocks = value_blocks e 1;
  insts = value_insts e + 2;
  globals = globals_named e;
}

abbrev pub condition_size : TypedExpression → (likely : Bool) (free : ℕ) → Size
condition_size e likely free = record {
  registers = condition_registers e likely free;
  blocks = condition_blocks e;
  insts = condition_insts e;
  globals = globals_named e;
}

abbrev pub values_size : List TypedExpression → (free : ℕ) → Size
values_size es free = record {
  registers = values_registers es free;
  blocks = arguments_blocks es;
  insts = arguments_insts es;
  globals = globals_named_in es;
}

abbrev pub both_size : (left right : TypedExpression) (free next : ℕ) → Size
both_size l r free next = record {
  registers = max (value_registers r next) (value_registers l free);
  blocks = value_blocks r 1 + value_blocks l 1;
  insts = value_insts r + value_insts l;
  globals = max (globals_named l) (globals_named r);
}

-- sound blocks stay so beside sound code, which has at most so many instructions more than the code after it
abbrev pub KeepsCode : (Needs : Scope → Type 0) → (after most : ℕ) → (old new : List RBlock) → OpenBlock → Type 0
KeepsCode Needs after most old new from =
    KeepsSound old new Needs (λ s. IsSound s (open_code from)) × Adds old new (insts_of (open_code from)) after most

-- code that puts the value of an expression into the register `to`
abbrev pub value : TypedExpression → (to free : ℕ) → Spot → Description OpenBlock
value e to free after = record {
  size = value_size e free (joint after);
  Keeps = KeepsCode (λ s. (to < s.registers) × (Covers (value_size e free (joint after)) s × IsSoundSpot s after)) (insts_at after)
      (value_insts e);
  Does = λ from bs. Evaluates bs e free to (open_code from) (line_of after);
}

-- code that puts it into the operand's place, where it isn't there
abbrev pub operand : TypedExpression → (register free : ℕ) → OpenBlock → Description OpenBlock
operand e register free after =
    record (value e register free (Line (open_code after))) { Does = λ from bs. Fetches bs e free register (open_code from) (open_code after) }

-- code that puts the values of a list into their places
abbrev pub operands : List TypedExpression → List Place → (free : ℕ) → OpenBlock → Description OpenBlock
operands es places free after = record {
  size = values_size es free;
  Keeps = KeepsCode (λ s. (places_registers es free ≤ s.registers) × (Covers (values_size es free) s × IsSound s (open_code after)))
      (insts_of (open_code after)) (arguments_insts es);
  Does = λ from bs. FetchAll bs es free places (open_code from) (open_code after);
}

-- code that puts the values of two operands into their places, the second of which is found while the first is held
abbrev pub two_operands : (left right : TypedExpression) (free : ℕ) → WaitingForTwo → Description OpenBlock
two_operands l r free w = record {
  size = both_size l r free w.first.free;
  Keeps = KeepsCode (λ s. (w.first.register < s.registers) × ((w.second.register < s.registers)
      × (Covers (both_size l r free w.first.free) s × IsSound s (open_code w.code)))) (insts_of (open_code w.code)) (value_insts r + value_insts l);
  Does = λ from bs. (middle : Code) × Fetches bs l free w.first.register (open_code from) middle
      × Fetches bs r w.first.free w.second.register middle (open_code w.code);
}

-- code that leads to one of two blocks
abbrev pub branch : Size → TypedExpression → Targets → (free : ℕ) → Description OpenBlock
branch size e targets free = record {
  size = size;
  Keeps = KeepsCode (λ s. Covers size s × ((targets.yes < s.blocks) × (targets.no < s.blocks))) 0 size.insts;
  Does = λ from bs. Decides bs e free targets.yes targets.no (open_code from);
}

-- by the value of the expression
abbrev pub value_branch : TypedExpression → Targets → (free : ℕ) → Description OpenBlock
value_branch e targets free = branch (test_size e targets.likely free) e targets free

-- by the branches of a condition
abbrev pub condition_branch : TypedExpression → Targets → (free : ℕ) → Description OpenBlock
condition_branch e targets free = branch (condition_size e targets.likely free) e targets free

-- code in a block of its own
abbrev pub own_block : Size → (Needs : Scope → Type 0) (Is : List RBlock → Code → Type 0) → Description ℕ
own_block size Needs Is = record {
  size = record size { blocks = size.blocks + 1 };
  Keeps = λ old new b. KeepsSound old new (λ s. Covers size s × Needs s) (λ s. b < s.blocks) × Adds old new 0 0 size.insts;
  Does = λ b bs. (from : Code) × At bs b from × Is bs from;
}

-- a value whose code goes on at the block `join`
abbrev pub own_value : TypedExpression → (to free join : ℕ) → Description ℕ
own_value e to free join = own_block (value_size e free 0) (λ s. (to < s.registers) × (join < s.blocks))
    (λ bs from. Evaluates bs e free to from (goto join))

abbrev pub own_branch : TypedExpression → Targets → (free : ℕ) → Description ℕ
own_branch e targets free =
    own_block (condition_size e targets.likely free) (λ s. (targets.yes < s.blocks) × (targets.no < s.blocks))
    (λ bs from. Decides bs e free targets.yes targets.no from)

-- the targets of the left operand of `&&`, or of `||`, where the right one is tested in a block
abbrev pub left_targets : (both : Bool) → Targets → (block : ℕ) → Targets
left_targets true t b = record { yes = b; no = t.no; likely = t.likely }
left_targets false t b = record { yes = t.yes; no = b; likely = t.likely }
