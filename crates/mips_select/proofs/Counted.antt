-- At most how many blocks the unit of a program has.
use Rattle.std.proofs.Common.{◌≡◌, ℕ, suc, ◌+◌, ◌*◌, ◌<◌, ◌≤◌, Bool, false, List, [], ◌∷◌, ◌++◌, length, length-append, Option, Some, refl, arith}
use Rattle.std.specs.Prelude.{slice_get}
use Rattle.std.proofs.lemmas.Bool.Decides.{nat_tests}
use Rattle.mblock.specs.Parts.{BlockParts}
use Rattle.rtl.specs.declared.instruction.RExit.{RExit}
use Rattle.rtl.specs.declared.block.RBlock.{RBlock}
use Rattle.rtl.specs.declared.block.RFunc.{RFunc}
use Rattle.mips_homes.specs.declared.homed.Frame.{Frame}
use Rattle.mips_emit.specs.Frames.{HaveNoCopies}
use Rattle.mips_emit.specs.Locations.{locations, no_facts, known_after}
use Rattle.mips_emit.specs.Comparisons.{last_after, no_last}
use Rattle.mips_select.specs.Split.{first_piece_of, total}
use Rattle.mips_select.proofs.Places.{length-split_from}
use Rattle.mips_select.specs.declared.heads.Naming.{Naming}
use Rattle.mips_select.specs.Code.{context_in, asked_of, exit_code, head_code}
use Rattle.mips_select.specs.Plans.{Linking, Planning}
use Rattle.mips_select.specs.Emittable.{HasFewArguments}
use Rattle.mips_select.specs.Heads.{head_at, heads_of, is_leaf, namings, unnamed, count, lead_in}
use Rattle.mips_select.specs.Laws.{EachUnitIsCounted, EachUnitIsCountedByExits}
use Rattle.mips_select.specs.Limits.{insts_in, exit_blocks, exits_blocks, most_blocks_for, most_by_exits_for}
use Rattle.mips_select.specs.Whole.{behind, blocks_from, blocks_in, lead_blocks, planning_in, function_size, functions_blocks, linking_for}
use Rattle.mips_select.specs.Whole.{program_blocks}
use Rattle.mips_select.proofs.CodeSizes.{insts_few, prologue_most, prologue_few, exit_most, exit_few, behind_most, result_few}
use Rattle.mips_select.proofs.FrameSizes.{placed_eight, placed_alone}
use Rattle.mips_select.proofs.Lists.{all_at}
use Rattle.mips_select.proofs.Selecting.{functions_emittable}
use Rattle.rtl.specs.Programs.{IsFunction}
use Rattle.mips_isa.specs.declared.inst.Plain.{Plain}

-- the instructions of blocks
abbrev words_in : List BlockParts → ℕ
words_in [] = 0
words_in (b ∷ bs) = length b.insts + words_in bs

-- both are sums over blocks, which are cut at 512 instructions
all_append : (xs ys : List BlockParts) → (words_in (xs ++ ys) ≡ words_in xs + words_in ys) × (total 512 (xs ++ ys) ≡ total 512 xs + total 512 ys)
all_append [] ys = omega arith
all_append (x ∷ xs) ys = omega (arith, all_append xs ys)

total_few : (bs : List BlockParts) → 512 * total 512 bs ≤ 512 * length bs + words_in bs
total_few [] = omega arith
total_few (b ∷ bs) = omega (arith, total_few bs)

-- so many blocks, with so many instructions in all
record Few (bs : List BlockParts) (blocks words : ℕ) : Type 0 where
  blocks_few : length bs ≤ blocks
  words_few : words_in bs ≤ words

-- ---- one function

module _ (l : Linking) (p : Planning) (eight : length p.frame.saved.items ≤ 8) (four : p.parameters ≤ 4)
    (alone : p.leaf ≡ false → HaveNoCopies p.frame.homes.items) where
  behind_few : (x : RExit) → (suc (length (behind p x)) ≤ exit_blocks x) × (words_in (behind p x) ≤ behind_most x)
  behind_few x = grind (arith, result_few)

  -- a block, and what is behind it
  one_few : (k j : ℕ) (b : RBlock) (bs : List RBlock) {blocks words : ℕ} → HasFewArguments b.exit
      → Few (blocks_from l p (k + count p.heads b.exit) (suc j) bs) blocks words
      → Few (blocks_from l p k j (b ∷ bs)) (exit_blocks b.exit + blocks)
      (length (head_code p (p.heads j)) + (exit_most p.leaf + 8 * length b.insts.items) + words)
  one_few k j b bs few rest =
      let at = locations p.frame in
      let facts = known_after at b.insts.items no_facts in
      let last = last_after at (asked_of b.exit) no_facts b.insts.items no_last in
      let exit = exit_few p.leaf p.frame facts last b.exit eight few in
      let code = insts_few (context_in l p.placing) (asked_of b.exit) no_facts b.insts.items (exit_code p.leaf p.frame facts last b.exit) in
      let more = blocks_from l p (k + count p.heads b.exit) (suc j) bs in
      omega (arith, exit, code, behind_few b.exit, rest, length-append {A = Plain}, length-append (behind p b.exit) more, all_append (behind p b.exit) more)

  -- what an exit has at most, and a prologue with it
  most : (leaf : Bool) → (exit_most leaf ≤ 12) × (prologue_most leaf + exit_most leaf ≤ 28)
  most leaf = grind arith

  -- those behind the first begin with two instructions at most
  rest_few : ((j : ℕ) → length (head_code p (p.heads (suc j))) ≤ 2) → (k j : ℕ) (bs : List RBlock)
      → ((i : ℕ) (b : RBlock) → slice_get bs i ≡ Some b → HasFewArguments b.exit)
      → Few (blocks_from l p k (suc j) bs) (exits_blocks bs) (14 * length bs + 8 * insts_in bs)
  rest_few small k j [] few = omega arith
  rest_few small k j (b ∷ bs) few =
      let all = one_few k (suc j) b bs (few 0 b refl) (rest_few small (k + count p.heads b.exit) (suc j) bs (λ i c e. few (suc i) c e)) in
      omega (arith, small j, most p.leaf, all)

  -- the prologue is in a block of its own, or at the head of the first
  lead_few : (o : Option Naming) → (length (lead_blocks p (head_at 0 o)) ≤ 1)
      × (words_in (lead_blocks p (head_at 0 o)) + length (head_code p (head_at 0 o)) ≤ prologue_most p.leaf)
  lead_few o = grind (arith, prologue_few p.leaf p.frame p.parameters eight four alone)

-- a function of n parameters
record IsFew (n : ℕ) (bs : List RBlock) (f : Frame) : Type 0 where
  eight : length f.saved.items ≤ 8
  four : n ≤ 4
  alone : is_leaf bs ≡ false → HaveNoCopies f.homes.items
  some : 0 < length bs
  few : (i : ℕ) (b : RBlock) → slice_get bs i ≡ Some b → HasFewArguments b.exit

function_few : (l : Linking) (n k : ℕ) (bs : List RBlock) (f : Frame) → IsFew n bs f
    → Few (blocks_in l n k bs f) (1 + exits_blocks bs) (14 + 14 * length bs + 8 * insts_in bs)
function_few l n k [] f is = absurd (omega (arith, is.some))
function_few l n k (b ∷ bs) f is =
    let all = b ∷ bs in
    let heads = heads_of all in
    let p = planning_in n k all f in
    let lead = lead_few l p is.eight is.four is.alone (slice_get (namings all (unnamed all)) 0) in
    let fits = (most l p is.eight is.four is.alone (is_leaf all)).1 in
    let rest = rest_few l p is.eight is.four is.alone (λ j. grind (arith, nat_tests, result_few (locations p.frame)))
    (k + lead_in heads + count heads b.exit) 0 bs (λ i c e. is.few (suc i) c e) in
    let first = one_few l p is.eight is.four is.alone (k + lead_in heads) 0 b bs (is.few 0 b refl) rest in
    omega (arith, lead, fits, first, length-append {A = BlockParts}, all_append)

-- ---- the program

functions_few : (l : Linking) (k : ℕ) (funcs : List RFunc) (fs : List Frame)
    → ((i : ℕ) (func : RFunc) (f : Frame) → slice_get funcs i ≡ Some func → slice_get fs i ≡ Some f → IsFew func.parameters func.blocks.items f)
    → total 512 (functions_blocks l k funcs fs) ≤ most_by_exits_for funcs
functions_few l k (func ∷ funcs) (f ∷ fs) each =
    let one = function_few l func.parameters k func.blocks.items f (each 0 func f refl refl) in
    let rest = functions_few l (k + function_size func) funcs fs (λ i g h eg eh. each (suc i) g h eg eh) in
    omega (arith, one.blocks_few, one.words_few, total_few, rest, all_append)
functions_few l k _ _ each = omega arith

pub each_counted_by_exits : EachUnitIsCountedByExits
each_counted_by_exits h ok places =
    let p = h.rtl.now in
    let emittable = functions_emittable p p.functions (length p.globals) ok refl refl in
    let few = functions_few (linking_for p) 2 p.functions h.frames.items (λ i func f there at. record {
      eight = placed_eight (places.by i func f there at);
      four = (emittable.by i func there).parameters;
      alone = placed_alone (places.by i func f there at);
      some = (all_at (IsFunction p.functions (length p.globals)) p.functions i func ok.functions there).entry;
      few = λ b block e. ((emittable.by i func there).blocks.by b block e).exit;
    }) in
    let long = length-split_from 512 (first_piece_of 512 (program_blocks h)) 0 (program_blocks h) in
    omega (arith, few, long)

-- a block has two at most
exits_few : (bs : List RBlock) → exits_blocks bs ≤ 2 * length bs
exits_few [] = omega arith
exits_few (b ∷ bs) = grind (arith, exits_few bs)

most_few : (funcs : List RFunc) → most_by_exits_for funcs ≤ most_blocks_for funcs
most_few [] = omega arith
most_few (func ∷ funcs) = omega (arith, exits_few func.blocks.items, most_few funcs)

pub each_counted : EachUnitIsCounted
each_counted h ok places = omega (arith, each_counted_by_exits h ok places, most_few (h.rtl.now).functions)
