-- The machine code of functions: what stands before and after the code of their instructions, and how blocks are left.
use Rattle.std.specs.Prelude.{ℕ, ℤ, pos, negsuc, zero, suc, ◌+◌, ◌-◌, ◌*◌, Bool, true, false, nat_eq, if◌then◌else◌, List, [], ◌∷◌, ◌++◌}
use Rattle.std.specs.Prelude.{Option, Some, None, length}
use Rattle.mips_isa.specs.declared.inst.ImmOp.TheVariants.{Addiu}
use Rattle.mips_isa.specs.declared.inst.Plain.{Plain}
use Rattle.mips_isa.specs.declared.inst.Plain.TheVariants.{Imm}
use Rattle.mblock.specs.declared.exit.Exit.{Exit}
use Rattle.mblock.specs.declared.exit.Exit.TheVariants as exits
use Rattle.mblock.specs.Parts.{BlockParts}
use Rattle.rtl.specs.declared.instruction.RExit.{RExit}
use Rattle.rtl.specs.declared.instruction.RExit.TheVariants.{Goto, Branch, Call, Return, Out}
use Rattle.rtl.specs.declared.block.RBlock.{RBlock}
use Rattle.rtl.specs.Meaning.{Code, code_of}
use Rattle.mips_homes.specs.declared.convention.TheConstants.{RESULT, FIRST_ARGUMENT, GLOBAL_POINTER, STACK_POINTER, LINK}
use Rattle.mips_homes.specs.declared.homed.Frame.{Frame}
use Rattle.mips_emit.specs.declared.facts.Last.{Last}
use Rattle.mips_emit.specs.declared.comparison.Asked.{Asked}
use Rattle.mips_emit.specs.declared.comparison.Asked.TheVariants.{Nothing, Branched, Returned}
use Rattle.mips_emit.specs.Frames.{link_words}
use Rattle.mips_emit.specs.Elements.{data_middle}
use Rattle.mips_emit.specs.Locations.{Locations, locations, Facts, no_facts, known_after, known_in, last_operand}
use Rattle.mips_emit.specs.Code.{Context, constant, load_word_at, store_word_at, move_code, carry, arrive, arguments_code}
use Rattle.mips_emit.specs.Comparisons.{insts_code, last_after, no_last, tested, branch_code, branch_exit, returned, return_code}
use Rattle.mips_select.specs.declared.heads.Head.{Head}
use Rattle.mips_select.specs.declared.heads.Head.TheVariants.{Bare, Enters, Takes}
use Rattle.mips_select.specs.declared.prologue.Direction.{Direction}
use Rattle.mips_select.specs.declared.prologue.Direction.TheVariants.{Save, Restore}
use Rattle.mips_select.specs.Plans.{Linking, Placing, Planning}

-- ---- frames

-- a register into a word of the frame, or back
abbrev pub frame_word : Direction → ℕ → ℕ → Plain
frame_word Save r at = store_word_at r at
frame_word Restore r at = load_word_at r at

-- registers, from an offset on
abbrev pub frame_words : Direction → ℕ → List ℕ → List Plain
frame_words direction at [] = []
frame_words direction at (r ∷ rs) = frame_word direction r at ∷ frame_words direction (at + 4) rs

-- the bytes that a frame takes
abbrev pub frame_bytes : Bool → Frame → ℕ
frame_bytes leaf f = 4 * (f.slots + length f.saved.items + link_words leaf)

-- the link stands after the registers that are saved
abbrev pub link_offset : Frame → ℕ
link_offset f = 4 * f.slots + 4 * length f.saved.items

abbrev pub frame_link : Direction → Bool → Frame → List Plain
frame_link direction true f = []
frame_link direction false f = frame_word direction LINK (link_offset f) ∷ []

-- the stack pointer goes down and up
abbrev pub step_of : Direction → ℕ → ℤ
step_of Save n = negsuc (n - 1)
step_of Restore n = pos n

abbrev pub stack_step : Direction → ℕ → List Plain
stack_step direction n = if nat_eq n 0 then [] else Imm Addiu STACK_POINTER STACK_POINTER (step_of direction n) ∷ []

-- n parameters from registers from t on, into the homes of the pseudo-registers from x on
abbrev pub parameters_code : Locations → (t x n : ℕ) → List Plain
parameters_code at t x zero = []
parameters_code at t x (suc n) = arrive (at x) t ++ parameters_code at (suc t) (suc x) n

-- what a function begins with and ends with
abbrev pub prologue : Bool → Frame → (parameters : ℕ) → List Plain
prologue leaf f n =
    stack_step Save (frame_bytes leaf f)
    ++ ((frame_words Save (4 * f.slots) f.saved.items ++ frame_link Save leaf f) ++ parameters_code (locations f) FIRST_ARGUMENT 0 n)

abbrev pub epilogue : Bool → Frame → List Plain
epilogue leaf f = (frame_words Restore (4 * f.slots) f.saved.items ++ frame_link Restore leaf f) ++ stack_step Restore (frame_bytes leaf f)

-- ---- exits

-- by which pseudo-register a block is left
abbrev pub asked_of : RExit → Asked
asked_of (Branch c t e) = Branched c
asked_of (Return (Some x)) = Returned x
asked_of _ = Nothing

-- what stands before an exit
abbrev pub exit_code : Bool → Frame → Facts → Last → RExit → List Plain
exit_code leaf f facts last (Goto b) = []
exit_code leaf f facts last (Branch c t e) =
    branch_code (tested last.comparison c) (known_in facts c) (last_operand (locations f) facts last.fresh c)
exit_code leaf f facts last (Call g xs d next) = arguments_code (locations f) facts FIRST_ARGUMENT xs.items
exit_code leaf f facts last (Return None) = epilogue leaf f
exit_code leaf f facts last (Return (Some x)) =
    return_code (returned last.comparison x) (last_operand (locations f) facts last.fresh x) ++ epilogue leaf f
exit_code leaf f facts last (Out x next) = carry FIRST_ARGUMENT (last_operand (locations f) facts last.fresh x)

-- an exit; a call goes on at block n
abbrev pub exit_of : Linking → Placing → Facts → Last → ℕ → RExit → Exit
exit_of l p facts last n (Goto b) = exits.Goto (p.place b)
exit_of l p facts last n (Branch c t e) =
    branch_exit (tested last.comparison c) (known_in facts c) (last_operand (locations p.frame) facts last.fresh c) (p.place t) (p.place e)
exit_of l p facts last n (Call g xs d next) = exits.Call (l.entry g) n
exit_of l p facts last n (Return o) = exits.Return
exit_of l p facts last n (Out x next) = exits.Out (p.place next)

-- ---- blocks

-- what code depends on besides its instructions
abbrev pub context_in : Linking → Placing → Context
context_in l p = record { globals = l.globals; starts = l.starts; at = locations p.frame }

-- what is left of a block's code
abbrev pub code_insts : Linking → Placing → Facts → Last → Code → List Plain
code_insts l p facts last c =
    insts_code (context_in l p) (asked_of c.exit) facts c.insts
    (exit_code p.leaf p.frame (known_after (locations p.frame) c.insts facts) (last_after (locations p.frame) (asked_of c.exit) facts c.insts last)
    c.exit)

-- the block for a block, with what stands before its own code; a call goes on at block n
abbrev pub own_block : Linking → Placing → (head : List Plain) → (n : ℕ) → RBlock → BlockParts
own_block l p head n b = record {
  insts = head ++ code_insts l p no_facts no_last (code_of b);
  exit = exit_of l p (known_after (locations p.frame) b.insts.items no_facts)
      (last_after (locations p.frame) (asked_of b.exit) no_facts b.insts.items no_last) n b.exit;
}

-- the result of a call into its location
abbrev pub result_code : Locations → Option ℕ → List Plain
result_code at None = []
result_code at (Some d) = arrive (at d) RESULT

-- what stands before a block's own code
abbrev pub head_code : Planning → Head → List Plain
head_code p Bare = []
head_code p Enters = prologue p.leaf p.frame p.parameters
head_code p (Takes d) = result_code (locations p.frame) (Some d)

-- where a call goes on, if that is no block of the function itself
abbrev pub after_block : Frame → Option ℕ → (next : ℕ) → BlockParts
after_block f d next = record { insts = result_code (locations f) d; exit = exits.Goto next }

abbrev pub prologue_block : Bool → Frame → (parameters first : ℕ) → BlockParts
prologue_block leaf f n first = record { insts = prologue leaf f n; exit = exits.Goto first }

-- block 0 sets the global pointer and calls the main function, block 1 ends with its result
abbrev pub start_block : (main : ℕ) → BlockParts
start_block main = record { insts = constant GLOBAL_POINTER data_middle; exit = exits.Call main 1 }

abbrev pub end_block : BlockParts
end_block = record { insts = move_code FIRST_ARGUMENT RESULT ∷ []; exit = exits.Halt }
