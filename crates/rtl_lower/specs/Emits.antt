-- What each call promises that emits the code of statements, and adds blocks to a function's list.
use Rattle.std.specs.Prelude.{◌≡◌, ℕ, ◌+◌, ◌<◌, max, Bool, false, List, Option, Result, Ok, Err, IfSome, is_some, if◌then◌else◌}
use Rattle.c_typed.specs.declared.tree.Destination.{Destination}
use Rattle.c_typed.specs.Trees.{TypedExpression, TypedStatement, TypedStatements, TypedProgram}
use Rattle.c_typed.specs.WellFormed.{FitsTarget, FitsExpression, FitsStatement}
use Rattle.rtl.specs.Meaning.{Code}
use Rattle.rtl.specs.declared.block.RBlock.{RBlock}
use Rattle.rtl_emit.specs.Blocks.{Spot, Block, Line, Lands, Adds, open_code, spot, insts_of, insts_at}
use Rattle.rtl_emit.specs.Emits.{Size, Description}
use Rattle.rtl_emit.specs.Expressions.{Decides}
use Rattle.rtl_emit.specs.Sizes.{joint, condition_registers, condition_blocks, condition_insts, globals_named}
use Rattle.rtl_emit.specs.Sound.{Scope, IsSoundMaybe, IsSound, IsSoundSpot, KeepsSound}
use Rattle.rtl_emit.specs.declared.block.OpenBlock.{OpenBlock}
use Rattle.rtl_emit.specs.declared.block.Continuation.{Continuation}
use Rattle.rtl_emit.specs.declared.block.Continuation.TheVariants.{Made}
use Rattle.rtl_emit.specs.declared.fault.LowerFault.{LowerFault}
use Rattle.rtl_emit.specs.declared.targets.Targets.{Targets}
use Rattle.rtl_lower.specs.Coded.{enclosing, Receives, IsTurn, Coded, CodedAll}
use Rattle.rtl_lower.specs.Sizes.{statement_joint, statements_joint, statement_blocks, statements_blocks, statement_registers}
use Rattle.rtl_lower.specs.Sizes.{statement_insts, statements_insts, receiver_insts}
use Rattle.rtl_lower.specs.Sizes.{statements_registers, numbers_named, numbers_named_in, receiver_blocks, receiver_registers, target_number}
use Rattle.rtl_lower.specs.Sound.{Suits, KeepsFit, KeepsFitAll}
use Rattle.rtl_lower.specs.declared.context.Context.{Context}
use Rattle.rtl_lower.specs.declared.simple.Receiver.{Receiver}
use Rattle.rtl_lower.specs.declared.statement.Turn.{Turn}

abbrev pub statement_size : TypedStatement → (free joint : ℕ) → Size
statement_size s free n = record {
  registers = statement_registers s free;
  blocks = statement_blocks s n;
  insts = statement_insts s;
  globals = numbers_named s;
}

abbrev pub statements_size : TypedStatements → (free joint : ℕ) → Size
statements_size all free n = record {
  registers = statements_registers all free;
  blocks = statements_blocks all n;
  insts = statements_insts all;
  globals = numbers_named_in all;
}

-- code of a statement that goes on after it alone, wherever `break` and `continue` lead
abbrev pub simple_code : TypedStatement → (free : ℕ) → Spot → Description OpenBlock
simple_code s free after = record {
  size = statement_size s free (joint after);
  Keeps = λ old new from. KeepsFit s (statement_registers s free) old new (λ s. IsSoundSpot s after) (λ s. IsSound s (open_code from))
      × Adds old new (insts_of (open_code from)) (insts_at after) (statement_insts s);
  Does = λ from bs. (leave : ℕ) (next : Option ℕ) → Coded (enclosing bs free) s leave next (Line (open_code from)) after;
}

-- the places where a statement leads are there
abbrev pub Leads : Context → Spot → Scope → Type 0
Leads c after s = (c.leave < s.blocks) × (IfSome c.next (λ b. b < s.blocks) × IsSoundSpot s after)

-- code of a statement, which takes so many blocks to jump to
abbrev pub statement_code : TypedStatement → Context → Spot → Description Continuation
statement_code s c after = record {
  size = statement_size s c.free (joint after);
  Keeps = λ old new from. (joint (spot from) ≡ statement_joint s (joint after))
      × KeepsFit s (statement_registers s c.free) old new (Leads c after) (λ s. IsSoundSpot s (spot from))
      × Adds old new (insts_at (spot from)) (insts_at after) (statement_insts s);
  Does = λ from bs. Coded (enclosing bs c.free) s c.leave c.next (spot from) after;
}

-- of statements one after another
abbrev pub statements_code : TypedStatements → Context → Spot → Description Continuation
statements_code all c after = record {
  size = statements_size all c.free (joint after);
  Keeps = λ old new from. (joint (spot from) ≡ statements_joint all (joint after))
      × KeepsFitAll all (statements_registers all c.free) old new (Leads c after) (λ s. IsSoundSpot s (spot from))
      × Adds old new (insts_at (spot from)) (insts_at after) (statements_insts all);
  Does = λ from bs. CodedAll (enclosing bs c.free) all c.leave c.next (spot from) after;
}

-- code in a block of its own, as what goes on there
abbrev pub made_of : Result OpenBlock LowerFault → Result Continuation LowerFault
made_of (Ok from) = Ok (Made from)
made_of (Err f) = Err f

abbrev pub side_size : TypedStatement → (free : ℕ) → Size
side_size s free = record {
  registers = statement_registers s free;
  blocks = statement_blocks s 0 + statement_joint s 0;
  insts = statement_insts s;
  globals = numbers_named s;
}

-- a block that does what a statement does, and goes on at another
abbrev pub side_code : TypedStatement → Context → (join : ℕ) → Description ℕ
side_code s c join = record {
  size = side_size s c.free;
  Keeps = λ old new b. KeepsFit s (statement_registers s c.free) old new (Leads c (Block join)) (λ s. b < s.blocks)
      × Adds old new 0 0 (statement_insts s);
  Does = λ b bs. (from : Spot) × Lands bs b from × Coded (enclosing bs c.free) s c.leave c.next from (Block join);
}

abbrev pub receiver_size : Option Destination → (free joint : ℕ) → Size
receiver_size to free n = record {
  registers = receiver_registers to free;
  blocks = receiver_blocks to n;
  insts = receiver_insts to;
  globals = target_number to;
}

-- where a call's result goes, and the block where its caller goes on
abbrev pub receiver : Option Destination → (free : ℕ) → Spot → Description Receiver
receiver to free after = record {
  size = receiver_size to free (joint after);
  Keeps = λ old new x. ((p : TypedProgram) (n : ℕ) → FitsTarget p n to
      → KeepsSound old new (λ s. Suits p (receiver_registers to free) s × IsSoundSpot s after) (λ s. IsSoundMaybe s x.to × (x.block < s.blocks)))
      × Adds old new 0 (insts_at after) (receiver_insts to);
  Does = λ x bs. Receives (enclosing bs free) to x.to x.block after;
}

-- the end of a turn: a block of its own where there is a `continue`
abbrev pub end_size : Bool → (joint : ℕ) → Size
end_size many n = record { registers = 0; blocks = if many then n else 0; insts = 0; globals = 0 }

abbrev pub IsEnd : Bool → Turn → (joint : ℕ) → Type 0
IsEnd many t n = (is_some t.next ≡ many) × (joint (spot t.after) ≡ (if many then 0 else n))

abbrev pub IsSoundTurn : Turn → Scope → Type 0
IsSoundTurn t s = IfSome t.next (λ b. b < s.blocks) × IsSoundSpot s (spot t.after)

abbrev pub end_of_turn : Bool → Spot → Description Turn
end_of_turn many last = record {
  size = end_size many (joint last);
  Keeps = λ old new t. IsEnd many t (joint last) × KeepsSound old new (λ s. IsSoundSpot s last) (IsSoundTurn t)
      × Adds old new (insts_at (spot t.after)) (insts_at last) 0;
  Does = λ t bs. IsTurn bs t.next (spot t.after) last;
}

-- the last part of a turn, and the test that leads to the next one
abbrev pub last_size : TypedExpression → TypedStatement → (many likely : Bool) (free : ℕ) → Size
last_size e last many likely free = record {
  registers = max (statement_registers last free) (condition_registers e likely free);
  blocks = condition_blocks e + statement_blocks last 1 + (if many then statement_joint last 1 else 0);
  insts = condition_insts e + statement_insts last;
  globals = max (globals_named e) (numbers_named last);
}

pub record IsLast (bs : List RBlock) (e : TypedExpression) (last : TypedStatement) (c : Context) (again : Targets) (t : Turn) : Type 0 where
  pub from : Spot
  pub is_turn : IsTurn bs t.next (spot t.after) from
  pub bottom : Code
  pub coded : Coded (enclosing bs c.free) last c.leave c.next from (Line bottom)
  pub test : Decides bs e c.free again.yes again.no bottom

-- the places where the last part and the test lead are there
abbrev pub LeadsAgain : Context → Targets → Scope → Type 0
LeadsAgain c again s = (c.leave < s.blocks) × (IfSome c.next (λ b. b < s.blocks) × ((again.yes < s.blocks) × (again.no < s.blocks)))

abbrev pub last_code : TypedExpression → TypedStatement → Context → (many : Bool) → Targets → Description Turn
last_code e last c many again = record {
  size = last_size e last many again.likely c.free;
  Keeps = λ old new t. IsEnd many t (statement_joint last 1)
      × ((p : TypedProgram) (n : ℕ) (gives : Bool) → FitsExpression p n e → FitsStatement p n gives false last
      → KeepsSound old new (λ s. Suits p (last_size e last many again.likely c.free).registers s × LeadsAgain c again s) (IsSoundTurn t))
      × Adds old new (insts_at (spot t.after)) 0 (condition_insts e + statement_insts last);
  Does = λ t bs. IsLast bs e last c again t;
}
