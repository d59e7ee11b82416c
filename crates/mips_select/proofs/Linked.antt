-- The blocks for a program are functions one behind another.
use Rattle.std.proofs.Common.{◌≡◌, ℕ, zero, suc, ◌+◌, ◌<◌, ◌≤◌, List, [], ◌∷◌, ◌++◌, length, length-append, Some, refl, sym, ap, subst, arith}
use Rattle.std.specs.Prelude.{All, slice_get, slice_index}
use Rattle.std.proofs.lemmas.List.Elements.{All-append, All-cons, All-head, All-nil, All-tail}
use Rattle.std.proofs.lemmas.Option.{slice_get_within}
use Rattle.mblock.specs.Parts.{BlockParts}
use Rattle.mblock.specs.Units.{AreLinked, AreOwners}
use Rattle.rtl.specs.declared.instruction.RExit.{RExit}
use Rattle.rtl.specs.declared.block.RBlock.{RBlock}
use Rattle.rtl.specs.declared.block.RFunc.{RFunc}
use Rattle.rtl.specs.Programs.{IsExit, IsBlock, IsFunction, IsProgram}
use Rattle.mips_homes.specs.declared.homed.Frame.{Frame}
use Rattle.mips_homes.specs.declared.homed.Homed.{Homed}
use Rattle.mips_emit.specs.declared.facts.Last.{Last}
use Rattle.mips_emit.specs.Locations.{Facts, known_after, no_facts, locations}
use Rattle.mips_emit.specs.Comparisons.{last_after, no_last}
use Rattle.mips_select.specs.Functions.{blocks_of, owners_of, IsFrom, GoesWithin, IsFunctionAt, AreFunctions}
use Rattle.mips_select.proofs.Owned.{functions_owned}
use Rattle.mips_select.specs.declared.heads.Head.{Head}
use Rattle.mips_select.specs.Heads.{heads_of, count, lead_of, lead_in}
use Rattle.mips_select.specs.Plans.{Linking, Planning}
use Rattle.mips_select.specs.Code.{asked_of, exit_of, start_block, end_block}
use Rattle.mips_select.proofs.Lists.{all_at}
use Rattle.mips_select.specs.Whole.{size_of_blocks, numbers, next_of, behind, blocks_from, place_in, lead_blocks, planning_in, function_blocks, size_in}
use Rattle.mips_select.specs.Whole.{function_size, functions_size, entries_from, entry_of, owners_from, owners_for, functions_blocks}
use Rattle.mips_select.specs.Whole.{linking_for, program_blocks}

pub behind_length : (p : Planning) (x : RExit) → suc (length (behind p x)) ≡ count p.heads x
behind_length p x = grind arith

-- each block takes a number
pub one_at_least : (heads : ℕ → Head) (x : RExit) → 1 ≤ count heads x
one_at_least heads x = grind arith

pub blocks_length : (l : Linking) (p : Planning) (k j : ℕ) (bs : List RBlock) → length (blocks_from l p k j bs) ≡ size_of_blocks p.heads bs
blocks_length l p k j [] = refl
blocks_length l p k j (b ∷ bs) =
    let rest = blocks_from l p (k + count p.heads b.exit) (suc j) bs in
    omega (arith, blocks_length l p (k + count p.heads b.exit) (suc j) bs, behind_length p b.exit, length-append (behind p b.exit) rest)

pub lead_length : (p : Planning) (head : Head) → length (lead_blocks p head) ≡ lead_of head
lead_length p head = grind arith

pub function_length : (l : Linking) (k : ℕ) (func : RFunc) (f : Frame)
    → length (function_blocks l k func f) ≡ function_size func
function_length l k func f = omega (arith, lead_length, blocks_length, length-append {A = BlockParts})

-- numbers of blocks are from the first on, and below the end
numbers_from : (heads : ℕ → Head) (k : ℕ) (bs : List RBlock) (b : ℕ) → b < length bs → IsFrom k (size_of_blocks heads bs) (slice_index (numbers heads k bs) b)
numbers_from heads k [] b lt = absurd (omega (arith, lt))
numbers_from heads k (x ∷ bs) zero lt = omega (arith, one_at_least heads x.exit)
numbers_from heads k (x ∷ bs) (suc b) lt = omega (arith, numbers_from heads (k + count heads x.exit) bs b (omega (arith, lt)))

pub function_some : (bs : List RBlock) → 1 ≤ size_in bs
function_some [] = omega arith
function_some (b ∷ bs) = omega (arith, one_at_least (heads_of (b ∷ bs)) b.exit)

entries_below : (k : ℕ) (funcs : List RFunc) (g : ℕ) → g < length funcs → slice_index (entries_from k funcs) g < k + functions_size funcs
entries_below k [] g lt = absurd (omega (arith, lt))
entries_below k (func ∷ funcs) zero lt = omega (arith, function_some func.blocks.items)
entries_below k (func ∷ funcs) (suc g) lt = omega (arith, entries_below (k + function_size func) funcs g (omega (arith, lt)))

-- those of each function
abbrev pub each_function : Linking → ℕ → List RFunc → List Frame → List (List BlockParts)
each_function l k (func ∷ funcs) (f ∷ fs) = function_blocks l k func f ∷ each_function l (k + function_size func) funcs fs
each_function l k _ _ = []

module _ (l : Linking) (functions : List RFunc) (bound : ℕ) (entry_below : (g : ℕ) → g < length functions → l.entry g < bound) where
  module _ (start size blocks : ℕ) (fits : start + size ≤ bound) (p : Planning) (place_from : (t : ℕ)
      → t < blocks → IsFrom start size (p.place t)) where
    abbrev Goes : BlockParts → Type 0
    Goes b = GoesWithin bound start size b.exit

    abbrev GivenBlock : RBlock → Type 0
    GivenBlock b = IsBlock functions (length l.globals) blocks b

    place_below : (t : ℕ) → t < blocks → p.place t < bound
    place_below t lt = omega (arith, fits, place_from t lt)

    -- the exits of the blocks that stand for a block
    exit_goes : (k : ℕ) (facts : Facts) (last : Last) (x : RExit) → IsExit functions blocks x → k + count p.heads x ≤ bound
        → GoesWithin bound start size (exit_of l p.placing facts last (next_of p k x) x)
    exit_goes k facts last x ok le = grind (arith, place_from, entry_below, slice_get_within functions)

    behind_goes : (x : RExit) → IsExit functions blocks x → All Goes (behind p x)
    behind_goes x ok = grind (arith, place_below, All-nil Goes, All-cons Goes)

    blocks_go : (k j : ℕ) (bs : List RBlock) → k + size_of_blocks p.heads bs ≤ bound → All GivenBlock bs → All Goes (blocks_from l p k j bs)
    blocks_go k j [] le ok = All-nil Goes
    blocks_go k j (x ∷ bs) le ok =
        let more = blocks_from l p (k + count p.heads x.exit) (suc j) bs in
        let exit = (All-head GivenBlock x bs ok).exit in
        let facts = known_after (locations p.frame) x.insts.items no_facts in
        let last = last_after (locations p.frame) (asked_of x.exit) no_facts x.insts.items no_last in
        All-cons Goes _ (behind p x.exit ++ more) (exit_goes k facts last x.exit exit (omega (arith, le)))
        (All-append Goes (behind p x.exit) more (behind_goes x.exit exit)
        (blocks_go (k + count p.heads x.exit) (suc j) bs (omega (arith, le)) (All-tail GivenBlock x bs ok)))

    lead_goes : (head : Head) → 0 < blocks → All Goes (lead_blocks p head)
    lead_goes head some = grind (arith, place_below, All-nil Goes, All-cons Goes)

  abbrev GivenFunction : RFunc → Type 0
  GivenFunction func = IsFunction functions (length l.globals) func

  function_goes : (k : ℕ) (func : RFunc) (f : Frame) → GivenFunction func → k + function_size func ≤ bound → IsFunctionAt bound k (function_blocks l k func f)
  function_goes k func f ok le =
      let bs = func.blocks.items in
      let heads = heads_of bs in
      let first = k + lead_in heads in
      let size = function_size func in
      let p = planning_in func.parameters k bs f in
      let from_next : (t : ℕ) → t < length bs → IsFrom k size (place_in k bs t) = λ t lt. omega (arith, numbers_from heads first bs t lt) in
      let all = All-append (Goes k size (length bs) le p from_next) (lead_blocks p (heads 0)) (blocks_from l p first 0 bs)
      (lead_goes k size (length bs) le p from_next (heads 0) ok.entry)
      (blocks_go k size (length bs) le p from_next first 0 bs (omega (arith, le)) ok.blocks) in
      record {
        by = λ i b there. rw (function_length l k func f) (all_at (Goes k size (length bs) le p from_next) (function_blocks l k func f) i b all there);
      }

  functions_go : (k : ℕ) (funcs : List RFunc) (fs : List Frame) → All GivenFunction funcs → k + functions_size funcs ≤ bound
      → AreFunctions bound k (each_function l k funcs fs)
  functions_go k (func ∷ funcs) (f ∷ fs) has le = (
    function_goes k func f (All-head GivenFunction func funcs has) (omega (arith, le)),
    rw (function_length l k func f) (functions_go (k + function_size func) funcs fs (All-tail GivenFunction func funcs has) (omega (arith, le))),
  )
  functions_go k _ _ has le = tt

-- one behind another they are the blocks of all, with their owners
pub functions_joined : (l : Linking) (k : ℕ) (funcs : List RFunc) (fs : List Frame) → length fs ≡ length funcs
    → (blocks_of (each_function l k funcs fs) ≡ functions_blocks l k funcs fs) × (owners_of k (each_function l k funcs fs) ≡ owners_from k funcs)
    × (length (functions_blocks l k funcs fs) ≡ functions_size funcs)
functions_joined l k [] fs same = (refl, refl, refl)
functions_joined l k (func ∷ funcs) [] same = absurd (omega (arith, same))
functions_joined l k (func ∷ funcs) (f ∷ fs) same =
    let rest = functions_joined l (k + function_size func) funcs fs (omega (arith, same)) in
    let long = function_length l k func f in
    (cc (rest.0), cc (long, rest.1), omega (arith, long, rest.2, length-append {A = BlockParts}))

starts_go : (bound main : ℕ) → main < bound → 1 < bound → (i : ℕ) (b : BlockParts) → slice_get (start_block main ∷ end_block ∷ []) i ≡ Some b
    → GoesWithin bound 0 2 b.exit
starts_go bound main lt low i b there = grind arith

-- every block that an exit names exists, and branches stay in their functions
pub program_well : (h : Homed) → IsProgram h.rtl.now → length h.frames.items ≡ length (h.rtl.now).functions
    → AreLinked (program_blocks h) × AreOwners (program_blocks h) (owners_for (h.rtl.now).functions)
program_well h ok same =
    let l = linking_for h.rtl.now in
    let funcs = (h.rtl.now).functions in
    let fs = h.frames.items in
    let bound = 2 + functions_size funcs in
    let below = λ (g : ℕ) (lt : g < length funcs). entries_below 2 funcs g lt in
    let main = below (h.rtl.now).main (slice_get_within funcs (h.rtl.now).main (ok.main).callee (ok.main).there) in
    let all = (start_block (entry_of funcs (h.rtl.now).main) ∷ end_block ∷ []) ∷ each_function l 2 funcs fs in
    let joined = functions_joined l 2 funcs fs same in
    let size : length (blocks_of all) ≡ bound = omega (arith, ap length joined.0, joined.2) in
    rw (joined.0, joined.1) at (functions_owned all (subst (λ n. AreFunctions n 0 all) (sym size)
    (record { by = starts_go bound _ main (omega arith) }, functions_go l funcs bound below 2 funcs fs ok.functions (omega arith))))
