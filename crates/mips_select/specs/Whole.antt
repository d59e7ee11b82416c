-- The blocks for a whole program, as a function of the program and its frames. Two blocks for start and end come first, then those of each
-- function.
use Rattle.std.specs.Prelude.{ℕ, suc, ◌+◌, List, [], ◌∷◌, ◌++◌, map, replicate, slice_index, if◌then◌else◌}
use Rattle.mblock.specs.declared.limits.TheConstants.{BLOCK_INSTS}
use Rattle.mblock.specs.Parts.{BlockParts}
use Rattle.mblock.specs.Units.{UnitParts, unit_parts}
use Rattle.rtl.specs.declared.instruction.RExit.{RExit}
use Rattle.rtl.specs.declared.instruction.RExit.TheVariants.{Call}
use Rattle.rtl.specs.declared.block.RBlock.{RBlock}
use Rattle.rtl.specs.declared.block.RFunc.{RFunc}
use Rattle.rtl.specs.Programs.{Program}
use Rattle.mips_homes.specs.declared.homed.Frame.{Frame}
use Rattle.mips_homes.specs.declared.homed.Homed.{Homed}
use Rattle.mips_select.specs.Split.{first_piece_of, split_blocks, split_owners}
use Rattle.mips_select.specs.declared.heads.Head.{Head}
use Rattle.mips_select.specs.declared.heads.Head.TheVariants.{Enters}
use Rattle.mips_select.specs.Heads.{heads_of, is_leaf, resumes, count, lead_in}
use Rattle.mips_select.specs.Data.{data_bytes, start_of}
use Rattle.mips_select.specs.Plans.{Linking, Planning, placing_of}
use Rattle.mips_select.specs.Code.{own_block, head_code, after_block, prologue_block, start_block, end_block}

-- how many blocks stand for some
abbrev pub size_of_blocks : (ℕ → Head) → List RBlock → ℕ
size_of_blocks heads [] = 0
size_of_blocks heads (b ∷ bs) = count heads b.exit + size_of_blocks heads bs

-- the numbers of blocks, the first of which has the number k
abbrev pub numbers : (ℕ → Head) → ℕ → List RBlock → List ℕ
numbers heads k [] = []
numbers heads k (b ∷ bs) = k ∷ numbers heads (k + count heads b.exit) bs

-- where the call at the end of block k goes on
abbrev pub next_of : Planning → (k : ℕ) → RExit → ℕ
next_of p k (Call g xs d next) = if resumes d (p.heads next) then p.place next else suc k
next_of p k _ = 0

-- the block after a call, where there is one
abbrev pub behind : Planning → RExit → List BlockParts
behind p (Call g xs d next) = if resumes d (p.heads next) then [] else after_block p.frame d (p.place next) ∷ []
behind p _ = []

-- the blocks for block j, the first of which has the number k
abbrev pub blocks_for : Linking → Planning → (k j : ℕ) → RBlock → List BlockParts
blocks_for l p k j b = own_block l p.placing (head_code p (p.heads j)) (next_of p k b.exit) b ∷ behind p b.exit

-- the blocks for the blocks from j on, the first of which has the number k
abbrev pub blocks_from : Linking → Planning → (k j : ℕ) → List RBlock → List BlockParts
blocks_from l p k j [] = []
blocks_from l p k j (b ∷ bs) = blocks_for l p k j b ++ blocks_from l p (k + count p.heads b.exit) (suc j) bs

-- the numbers of the blocks of a function of number k, before long ones are cut
abbrev pub numbers_in : ℕ → List RBlock → List ℕ
numbers_in k bs = numbers (heads_of bs) (k + lead_in (heads_of bs)) bs

-- where a block of a function of number k stands
abbrev pub place_in : ℕ → List RBlock → ℕ → ℕ
place_in k bs b = slice_index (numbers_in k bs) b

-- the prologue's block, where block 0 doesn't begin with it
abbrev pub lead_blocks : Planning → Head → List BlockParts
lead_blocks p Enters = []
lead_blocks p _ = prologue_block p.leaf p.frame p.parameters (p.place 0) ∷ []

-- how the blocks of a function of number k with n parameters are selected
abbrev pub planning_in : (n k : ℕ) → List RBlock → Frame → Planning
planning_in n k bs f = record { placing = placing_of (is_leaf bs) f (place_in k bs); parameters = n; heads = heads_of bs }

-- the blocks for them
abbrev pub blocks_in : Linking → (n k : ℕ) → List RBlock → Frame → List BlockParts
blocks_in l n k bs f =
    lead_blocks (planning_in n k bs f) (heads_of bs 0) ++ blocks_from l (planning_in n k bs f) (k + lead_in (heads_of bs)) 0 bs

abbrev pub function_blocks : Linking → (k : ℕ) → RFunc → Frame → List BlockParts
function_blocks l k func f = blocks_in l func.parameters k func.blocks.items f

abbrev pub size_in : List RBlock → ℕ
size_in bs = lead_in (heads_of bs) + size_of_blocks (heads_of bs) bs

abbrev pub function_size : RFunc → ℕ
function_size func = size_in func.blocks.items

abbrev pub functions_size : List RFunc → ℕ
functions_size [] = 0
functions_size (func ∷ funcs) = function_size func + functions_size funcs

-- the numbers of the first blocks of functions, that of the first function being k
abbrev pub entries_from : ℕ → List RFunc → List ℕ
entries_from k [] = []
entries_from k (func ∷ funcs) = k ∷ entries_from (k + function_size func) funcs

abbrev pub entry_of : List RFunc → ℕ → ℕ
entry_of funcs g = slice_index (entries_from 2 funcs) g

-- the numbers of the blocks of functions, one function after another, the first of which has the number k
abbrev pub numbers_from : ℕ → List RFunc → List ℕ
numbers_from k [] = []
numbers_from k (func ∷ funcs) = numbers_in k func.blocks.items ++ numbers_from (k + function_size func) funcs

-- the first block of the function of each block
abbrev pub owners_from : ℕ → List RFunc → List ℕ
owners_from k [] = []
owners_from k (func ∷ funcs) = replicate (function_size func) k ++ owners_from (k + function_size func) funcs

abbrev pub owners_for : List RFunc → List ℕ
owners_for funcs = 0 ∷ 0 ∷ owners_from 2 funcs

abbrev pub functions_blocks : Linking → (k : ℕ) → List RFunc → List Frame → List BlockParts
functions_blocks l k [] fs = []
functions_blocks l k (func ∷ funcs) [] = []
functions_blocks l k (func ∷ funcs) (f ∷ fs) = function_blocks l k func f ++ functions_blocks l (k + function_size func) funcs fs

-- what the functions of a program share
abbrev pub linking_for : Program → Linking
linking_for p = record { globals = p.globals; starts = start_of p.globals; entry = entry_of p.functions }

-- all of them, of any length
abbrev pub program_blocks : Homed → List BlockParts
program_blocks h =
    start_block (entry_of (h.rtl.now).functions (h.rtl.now).main)
    ∷ end_block
    ∷ functions_blocks (linking_for h.rtl.now) 2 (h.rtl.now).functions h.frames.items

-- the unit of a program over homes: its blocks, cut where they are long, and the bytes of its globals
abbrev pub unit_for : Homed → UnitParts
unit_for h =
    unit_parts (split_blocks (program_blocks h)) (split_owners (program_blocks h) (owners_for (h.rtl.now).functions))
    (data_bytes (h.rtl.now).globals)

-- the number of the unit's block with which each block of the program begins, one function after another. It is the number of the first
-- piece where it was cut
abbrev pub block_numbers : Homed → List ℕ
block_numbers h = map (first_piece_of BLOCK_INSTS (program_blocks h)) (numbers_from 2 (h.rtl.now).functions)
