-- Frames and blocks by the counts of the typed program.
use Rattle.std.proofs.Common.{◌≡◌, ℕ, suc, ◌+◌, ◌*◌, ◌≤◌, inl, inr, Bool, true, false, List, [], ◌∷◌, ◌++◌, Some, length, length-append, refl, sym, ap, ◌∙◌, subst, arith}
use Rattle.std.specs.Prelude.{if◌then◌else◌}
use Rattle.std.proofs.lemmas.Bool.{and_parts, leb-true}
use Rattle.std.proofs.lemmas.Option.{none-some}
use Rattle.rtl.specs.declared.instruction.RInst.{RInst}
use Rattle.rtl.specs.declared.instruction.RInst.TheVariants.{Const}
use Rattle.rtl.specs.declared.instruction.RExit.{RExit}
use Rattle.rtl.specs.declared.instruction.RExit.TheVariants.{Call}
use Rattle.std.proofs.Math.Nat.{mul-le-mul_left}
use Rattle.c_typed.specs.Trees.{TypedFunction, TypedProgram}
use Rattle.c_types.specs.Typed.{SpellsTyped}
use Rattle.rtl.specs.Programs.{Program, IsProgram}
use Rattle.rtl.specs.declared.block.RBlock.{RBlock}
use Rattle.rtl.specs.declared.block.RFunc.{RFunc}
use Rattle.mblock.specs.Units.{UnitParts}
use Rattle.rtl_emit.specs.Blocks as Emitted
use Rattle.rtl_lower.specs.Laws.{AreOfSizes, KeepsRuns as Lowers}
use Rattle.rtl.specs.Meaning.{Code, code_of}
use Rattle.rtl.specs.Tails.{AreTailed, is_reached, shortest, empty_code, AreKept, AreMade, HaveTails, IsTailed, RunsAlike, is_short, again}
use Rattle.rtl.proofs.Names.{no_more_names}
use Rattle.rtl.proofs.Copies.{Copy, copy_of_code, as_many, program_fits}
use Rattle.mips_homes.specs.declared.homed.Homed.{Homed}
use Rattle.mips_homes.specs.Places.{ArePlaced}
use Rattle.mips_select.specs.Limits.{largest_frame, insts_in, exit_blocks, exits_blocks, most_by_exits_for, FramesFit}
use Rattle.mips_select.specs.Laws.{IsSelected, IsBeyond}
use Rattle.mips_select.specs.Whole.{unit_for}
use Rattle.mips_select.proofs.Counted.{each_counted_by_exits}
use Rattle.driver.specs.Stages.{IsCounted, IsLowered}
use Rattle.driver.specs.BuildFaults.{largest_counted, functions_counted, blocks_counted, FitSelection, IsTooLong}

largest : (fs : List TypedFunction) (rs : List RFunc) → AreOfSizes fs rs → largest_frame rs ≤ largest_counted fs
largest [] [] m = omega arith
largest (f ∷ fs) (r ∷ rs) m = omega (arith, m.0.registers, largest fs rs m.1)
largest _ _ m = absurd m

frames_fit : (fs : List TypedFunction) (r : Program) (depth : ℕ) → IsCounted fs r → FitSelection depth fs → FramesFit r depth
frames_fit fs r depth counted fit =
    let le = counted.frames in
    let times : depth * largest_frame r.functions ≤ depth * largest_counted fs = mul-le-mul_left depth le in
    record { frames = omega arith; stack = omega arith }

same_insts : (bs : List RBlock) → insts_in bs ≡ Emitted.insts_in bs
same_insts [] = refl
same_insts (b ∷ bs) = omega (arith, same_insts bs)

-- ---- with tails

fewer : (fs ns : List RFunc) → HaveTails fs ns → largest_frame ns ≤ largest_frame fs
fewer [] [] t = omega arith
fewer (f ∷ fs) (n ∷ ns) t = omega (arith, no_more_names f n t.0, fewer fs ns t.1)
fewer _ _ t = absurd t

one_or_two : (x : RExit) → (1 ≤ exit_blocks x) × (exit_blocks x ≤ 2)
one_or_two (Call g xs d next) = (omega arith, omega arith)
one_or_two _ = (omega arith, omega arith)

-- no call is copied
one : (x : RExit) → again x ≡ Some x → exit_blocks x ≤ 1
one (Call g xs d next) is = absurd (none-some (Call g xs d next) is)
one _ is = omega arith

-- nor does an empty block have one
least : (x : RExit) → exit_blocks (shortest x) ≤ 1
least (Call g xs d next) = omega arith
least _ = omega arith

short : (is : List RInst) → is_short is ≡ true → length is ≤ 8
short is h = leb-true (length is) 8 (and_parts _ _ h).0

-- a block's exit counts as 512 instructions of machine code do, and an instruction as 8
weighs : (before : List RBlock) (b c : RBlock) → Copy before (code_of b) (code_of c)
    → 512 * exit_blocks c.exit + 8 * length c.insts.items ≤ 1024 + 8 * length b.insts.items
weighs before b c (inl is) = omega (arith, one_or_two c.exit, ap (λ (k : Code). length k.insts) is)
weighs before b c (inr t) =
    let exit = one t.block.exit t.same in
    let same = ap (λ (k : Code). exit_blocks k.exit) t.is in
    let insts = ap (λ (k : Code). length k.insts) t.is in
    let few = short t.block.insts.items t.short in
    let sum = length-append b.insts.items (Const t.d 0 ∷ t.block.insts.items) in
    omega arith

weigh : (before bs cs : List RBlock) → AreTailed before bs cs
    → 512 * exits_blocks cs + 8 * insts_in cs ≤ 1024 * length bs + 8 * insts_in bs
weigh before [] [] t = omega arith
weigh before (b ∷ bs) (c ∷ cs) t =
    let first = weighs before b c (subst (Copy before (code_of b)) (sym t.0) (copy_of_code before (code_of b))) in
    let rest = weigh (before ++ b ∷ []) bs cs t.1 in
    omega arith
weigh before _ _ t = absurd t

-- an empty block is no heavier than any other
kept_weighs : (keeps : ℕ → Bool) (n : ℕ) (cs ds : List RBlock) → AreKept keeps n cs ds
    → 512 * exits_blocks ds + 8 * insts_in ds ≤ 512 * exits_blocks cs + 8 * insts_in cs
kept_weighs keeps n [] [] t = omega arith
kept_weighs keeps n (c ∷ cs) (d ∷ ds) t =
    let first = by (keeps n) t.0 in
    let rest = kept_weighs keeps (suc n) cs ds t.1 in
    omega arith
  where
    by : (b : Bool) → code_of d ≡ (if b then code_of c else empty_code c)
        → 512 * exit_blocks d.exit + 8 * length d.insts.items ≤ 512 * exit_blocks c.exit + 8 * length c.insts.items
    by true is = omega (arith, ap (λ (k : Code). exit_blocks k.exit) is, ap (λ (k : Code). length k.insts) is)
    by false is =
        omega (arith, ap (λ (k : Code). exit_blocks k.exit) is, ap (λ (k : Code). length k.insts) is, one_or_two c.exit, least c.exit)
kept_weighs keeps n _ _ t = absurd t

made_weighs : (bs ds : List RBlock) → AreMade bs ds → 512 * exits_blocks ds + 8 * insts_in ds ≤ 1024 * length bs + 8 * insts_in bs
made_weighs bs ds m = omega (arith, weigh [] bs m.with_tails m.tailed, kept_weighs (is_reached m.with_tails) 0 m.with_tails ds m.kept)

blocks_few : (fs : List TypedFunction) (ls rs : List RFunc) → AreOfSizes fs ls → HaveTails ls rs → most_by_exits_for rs ≤ functions_counted fs
blocks_few [] [] [] m t = omega arith
blocks_few (f ∷ fs) (l ∷ ls) (r ∷ rs) m t =
    let size = m.0 in
    let same = same_insts l.blocks.items in
    let many = as_many l.blocks.items r.blocks.items t.0.blocks in
    let weight = made_weighs l.blocks.items r.blocks.items t.0.blocks in
    let rest = blocks_few fs ls rs m.1 t.1 in
    omega arith
blocks_few [] [] (r ∷ rs) m t = absurd t
blocks_few (f ∷ fs) (l ∷ ls) [] m t = absurd t
blocks_few _ _ _ m t = absurd m

counted_with_tails : (fs : List TypedFunction) (l r : Program) → AreOfSizes fs l.functions → IsTailed l r → IsCounted fs r
counted_with_tails fs l r sizes t = record {
  frames = omega (arith, fewer l.functions r.functions t.functions, largest fs l.functions sizes);
  blocks = blocks_few fs l.functions r.functions sizes t.functions;
}

pub lowered_with_tails : (s : TypedProgram) (l r : Program) → Lowers s l → AreOfSizes s.functions l.functions → IsProgram l → IsTailed l r
    → RunsAlike l r → IsLowered s r
lowered_with_tails s l r runs sizes fits t alike = record {
  runs = λ depth low n right. (let x = runs depth low n right in (x.0, x.1, alike depth x.0 ∙ x.2));
  counted = counted_with_tails s.functions l r sizes t;
  fits = program_fits l.functions r.functions r.globals r.main t.functions (rw (t.globals, t.main) fits);
}

-- a unit over any homes has as few blocks as are counted
few_blocks : (fs : List TypedFunction) (r : Program) (h : Homed) → IsCounted fs r → IsProgram r → h.rtl.now ≡ r → ArePlaced h
    → length (unit_for h).blocks ≤ blocks_counted fs
few_blocks fs r h counted fits lent placed =
    let few = each_counted_by_exits h (subst IsProgram (sym lent) fits) placed in
    let same = ap (λ (p : Program). most_by_exits_for p.functions) lent in
    omega arith

pub unit_few : (fs : List TypedFunction) (r : Program) (u : UnitParts) → IsCounted fs r → IsProgram r → IsSelected r u
    → length u.blocks ≤ blocks_counted fs
unit_few fs r u counted fits is = rw is.unit (few_blocks fs r is.homed counted fits is.lent is.places)

pub too_long : (text : List ℕ) (p : TypedProgram) (r : Program) (depth : ℕ) → SpellsTyped text p → IsLowered p r → (FramesFit r depth → IsBeyond r)
    → IsTooLong (FitSelection depth) text
too_long text p r depth spelled is beyond = record {
  program = p;
  spelled = spelled;
  beyond = λ fit.
      let over = beyond (frames_fit p.functions r depth is.counted fit) in
      omega (arith, few_blocks p.functions r over.homed is.counted is.fits over.lent over.choices);
}
