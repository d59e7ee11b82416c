-- At most how many machine instructions stand for an instruction, an exit and the beginning of a function.
use Rattle.std.proofs.Common.{◌≡◌, ℕ, zero, suc, ◌+◌, ◌*◌, ◌≤◌, Bool, true, false, List, [], ◌∷◌, ◌++◌, length, length-append, Option, arith, refl}
use Rattle.std.specs.Prelude.{slice_get}
use Rattle.words.specs.declared.width.Width.{Width}
use Rattle.mips_isa.specs.declared.inst.Plain.{Plain}
use Rattle.rtl.specs.declared.operator.Op.{Op}
use Rattle.rtl.specs.declared.instruction.RInst.{RInst}
use Rattle.rtl.specs.declared.instruction.RInst.TheVariants.{Bin}
use Rattle.rtl.specs.declared.instruction.RExit.{RExit}
use Rattle.rtl.specs.declared.instruction.RExit.TheVariants.{Call}
use Rattle.rtl.specs.declared.block.RGlobal.{RGlobal}
use Rattle.mips_homes.specs.declared.homed.Home.{Home}
use Rattle.mips_homes.specs.declared.homed.Frame.{Frame}
use Rattle.mips_emit.specs.Frames.{HaveNoCopies, link_words}
use Rattle.mips_emit.specs.declared.location.Source.{Source}
use Rattle.mips_emit.specs.declared.location.Source.TheVariants.{InRegister}
use Rattle.mips_emit.specs.declared.comparison.Asked.{Asked}
use Rattle.mips_emit.specs.declared.comparison.Comparison.{Comparison}
use Rattle.mips_emit.specs.declared.facts.Last.{Last}
use Rattle.mips_emit.specs.Locations.{Locations, Facts, inner_of, locations, learned, operand}
use Rattle.mips_emit.specs.declared.element.Reach.{Reach}
use Rattle.mips_emit.specs.Code.{fetch, bring, carry, into, finish, put_at, arrive, operand_with, Context, op_code, element_code, inst_code, arguments_code}
use Rattle.mips_emit.specs.declared.operation.Operand.{Operand}
use Rattle.mips_emit.specs.Comparisons.{next_code, insts_code}
use Rattle.mips_select.specs.declared.prologue.Direction.{Direction}
use Rattle.mips_select.specs.Code.{frame_words, stack_step, parameters_code, prologue, epilogue, exit_code, result_code}
use Rattle.mips_select.specs.Emittable.{HasFewArguments}

-- ---- operands and results

source_few : (t : ℕ) (x : Source) → (length (fetch t x) ≤ 2) × (length (bring t x) ≤ 2)
source_few t x = grind arith

carry_few : (t : ℕ) (x : Source) → length (carry t x) ≤ 2
carry_few t x = grind (arith, source_few t x)

put_few : (o : Option Home) (x : Source) → length (put_at o x) ≤ 8
put_few o x = grind (arith, length-append {A = Plain}, source_few)

moved_few : (r t : ℕ) → length (carry r (InRegister t)) ≤ 1
moved_few r t = grind arith

-- two, of which the second is the store of a copy
arrive_few : (o : Option Home) (t : ℕ) → length (arrive o t) ≤ 2
arrive_few o t = grind (arith, length-append {A = Plain}, moved_few)

-- and one where no slot has a copy
arrive_one : (hs : List Home) (x t : ℕ) → HaveNoCopies hs → length (arrive (slice_get hs x) t) ≤ 1
arrive_one hs x t none = grind (arith, moved_few, none x)

-- ---- operators

op_few : (op : Op) (t d : ℕ) (x y : Operand) → length (op_code op t d x y) ≤ 6
op_few op t d x y = grind (arith, length-append {A = Plain}, source_few)

-- ---- instructions

element_few : (w : Width) (start : ℕ) (by : Reach) (x : Source) → length (element_code w start by x) ≤ 5
element_few w start by x = grind (arith, length-append {A = Plain}, source_few)

finished : (code : List Plain) (o : Option Home) → length code ≤ 6 → length (code ++ finish o) ≤ 8
finished code o few = grind (arith, length-append {A = Plain})

inst_few : (globals : List RGlobal) (starts : ℕ → ℕ) (at : Locations) (facts : Facts) (i : RInst) → length (inst_code globals starts at facts i) ≤ 8
inst_few globals starts at facts (Bin op d a b) =
    finished (op_code op (inner_of (at d)) (into (at d)) (operand_with at facts a) (operand_with at facts b)) (at d) (op_few op _ _ _ _)
inst_few globals starts at facts _ = grind (arith, length-append {A = Plain}, put_few, element_few, source_few)

next_few : (c : Context) (facts : Facts) (o : Option Comparison) (i : RInst) → length (next_code c facts o i) ≤ 8
next_few c facts o i = grind (arith, length-append {A = Plain}, inst_few, op_few, source_few)

pub insts_few : (c : Context) (asked : Asked) (facts : Facts) (is : List RInst) (behind : List Plain)
    → length (insts_code c asked facts is behind) ≤ 8 * length is + length behind
insts_few c asked facts [] behind = omega arith
insts_few c asked facts (i ∷ is) behind = omega (arith, length-append {A = Plain}, next_few, insts_few c asked (learned c.at i facts) is behind)

-- ---- frames and exits

words_many : (direction : Direction) (at : ℕ) (rs : List ℕ) → length (frame_words direction at rs) ≡ length rs
words_many direction at [] = omega arith
words_many direction at (r ∷ rs) = omega (arith, words_many direction (at + 4) rs)

step_few : (direction : Direction) (n : ℕ) → length (stack_step direction n) ≤ 1
step_few direction n = grind arith

parameters_few : (most : ℕ) (at : Locations) (t x n : ℕ) → ((y u : ℕ) → length (arrive (at y) u) ≤ most) → length (parameters_code at t x n) ≤ most * n
parameters_few most at t x zero each = omega arith
parameters_few most at t x (suc n) each =
    omega (arith, length-append {A = Plain}, each x t, parameters_few most at (suc t) (suc x) n each)

-- a leaf has no link, but it may have copies of its parameters; what it has more at its beginning it has less at a return
abbrev pub prologue_most : Bool → ℕ
prologue_most true = 17
prologue_most false = 14

abbrev pub exit_most : Bool → ℕ
exit_most leaf = 11 + link_words leaf

pub prologue_few : (leaf : Bool) (f : Frame) (n : ℕ) → length f.saved.items ≤ 8 → n ≤ 4 → (leaf ≡ false → HaveNoCopies f.homes.items)
    → length (prologue leaf f n) ≤ prologue_most leaf
prologue_few true f n eight four alone =
    omega (arith, length-append {A = Plain}, words_many, step_few, eight, four, parameters_few 2 (locations f) 4 0 n (λ y u. arrive_few (locations f y) u))
prologue_few false f n eight four alone =
    let one = parameters_few 1 (locations f) 4 0 n (λ y u. arrive_one f.homes.items y u (alone refl)) in
    omega (arith, length-append {A = Plain}, words_many, step_few, eight, four, one)

-- an epilogue, and two instructions for what is returned
epilogue_few : (leaf : Bool) (f : Frame) → length f.saved.items ≤ 8 → length (epilogue leaf f) + 2 ≤ exit_most leaf
epilogue_few leaf f eight = grind (arith, length-append {A = Plain}, words_many, step_few)

arguments_few : (at : Locations) (facts : Facts) (t : ℕ) (xs : List ℕ) → length (arguments_code at facts t xs) ≤ 2 * length xs
arguments_few at facts t [] = omega arith
arguments_few at facts t (x ∷ xs) = omega (arith, length-append {A = Plain}, carry_few t (operand at facts x), arguments_few at facts (suc t) xs)

-- what stands behind the block of a call
abbrev pub behind_most : RExit → ℕ
behind_most (Call g xs d next) = 2
behind_most _ = 0

pub exit_few : (leaf : Bool) (f : Frame) (facts : Facts) (last : Last) (x : RExit) → length f.saved.items ≤ 8 → HasFewArguments x
    → length (exit_code leaf f facts last x) + behind_most x ≤ exit_most leaf
exit_few leaf f facts last x eight few =
    grind (arith, arguments_few, epilogue_few leaf f eight, carry_few, source_few, length-append {A = Plain})

pub result_few : (at : Locations) (o : Option ℕ) → length (result_code at o) ≤ 2
result_few at o = grind (arith, arrive_few)
