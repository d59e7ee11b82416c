-- The machine code of each instruction, and of arguments. The scratch registers are free between instructions.
use Rattle.std.specs.Prelude.{ℕ, ℤ, pos, negsuc, suc, ◌-◌, ◌*◌, ◌/◌, ◌%◌, ◌^◌, Bool, true, false, ◌||◌, ◌&&◌, nat_eq, nat_lt}
use Rattle.std.specs.Prelude.{◌+◌, if◌then◌else◌, List, [], ◌∷◌, ◌++◌, Option, Some, None, slice_index}
use Rattle.std.specs.Option.{option_and_then, option_to_list}
use Rattle.std.specs.Int.{w32, trailing_zeros}
use Rattle.words.specs.declared.sign.Sign.TheVariants.{Signed, Unsigned}
use Rattle.words.specs.declared.width.Width.{Width}
use Rattle.words.specs.declared.width.Width.TheVariants as widths
use Rattle.words.specs.Words.{wrap}
use Rattle.mips_isa.specs.declared.inst.ShiftOp.TheVariants.{Sll, Srl, Sra}
use Rattle.mips_isa.specs.declared.inst.AluOp.TheVariants as alu
use Rattle.mips_isa.specs.declared.inst.ImmOp.TheVariants.{Addiu, Slti, Sltiu}
use Rattle.mips_isa.specs.declared.inst.LogicOp.TheVariants.{Andi, Ori, Xori}
use Rattle.mips_isa.specs.declared.inst.HiLo.TheVariants.{Hi, Lo}
use Rattle.mips_isa.specs.declared.inst.Plain.{Plain}
use Rattle.mips_isa.specs.declared.inst.Plain.TheVariants as plain
use Rattle.mips_isa.specs.declared.inst.Plain.TheVariants.{Shift, ShiftBy, Alu, Imm, Logic, LoadUpper, MoveFrom, Multiply, Divide}
use Rattle.rtl.specs.declared.operator.Op.{Op}
use Rattle.rtl.specs.declared.operator.Op.TheVariants.{Add, Sub, Mul, DivS, DivU, RemS, RemU, And, Or, Xor, Shl, ShrU, ShrS, Eq, Ne, LtS}
use Rattle.rtl.specs.declared.operator.Op.TheVariants.{LtU, LeS, LeU}
use Rattle.rtl.specs.declared.instruction.RInst.{RInst}
use Rattle.rtl.specs.declared.instruction.RInst.TheVariants.{Const, Move, Bin, Load, Store}
use Rattle.rtl.specs.declared.block.RGlobal.{RGlobal}
use Rattle.mips_homes.specs.declared.convention.TheConstants.{SCRATCH_1, SCRATCH_2, STACK_POINTER}
use Rattle.mips_emit.specs.declared.element.TheConstants.{KEPT_BASE}
use Rattle.mips_homes.specs.Convention.{is_callee_saved}
use Rattle.mips_homes.specs.declared.homed.Home.{Home}
use Rattle.mips_homes.specs.declared.homed.Home.TheVariants.{Reg, Slot, Copied}
use Rattle.mips_emit.specs.declared.location.Source.{Source}
use Rattle.mips_emit.specs.declared.product.ShiftedSum.{ShiftedSum}
use Rattle.mips_emit.specs.declared.operation.Operand.{Operand}
use Rattle.mips_emit.specs.declared.location.Source.TheVariants.{Zero, Word, InRegister, InSlot}
use Rattle.mips_emit.specs.declared.element.Reach.{Reach}
use Rattle.mips_emit.specs.declared.element.Reach.TheVariants.{ByScratch, ByNew}
use Rattle.mips_emit.specs.declared.offset.Offset.{Offset}
use Rattle.mips_emit.specs.declared.facts.Kept.{Kept}
use Rattle.mips_emit.specs.declared.setting.Setting.{Setting}
use Rattle.mips_emit.specs.Locations.{Locations, locations, inner_of, Facts, known_in, operand, index_of, word_source}
use Rattle.mips_emit.specs.Elements.{width_of, direct, base_code, shares_base, base_index, reach_by, element_base, element_offset}

-- an operand with what is known of it
abbrev pub known_operand : (known : Option ℕ) → Source → Operand
known_operand known x = record { known = known; source = x }

abbrev pub operand_with : Locations → Facts → ℕ → Operand
operand_with at facts x = known_operand (known_in facts x) (operand at facts x)

-- ---- words and frames

-- a word in two instructions
abbrev pub constant : (t w : ℕ) → List Plain
constant t w = LoadUpper t (w / 65536 % 65536) ∷ Logic Ori t t (w % 65536) ∷ []

-- a word that fits the 16 bits of an instruction, signed
abbrev pub is_small : ℕ → Bool
is_small w = nat_lt w 32768 || nat_lt 4294934527 w

abbrev pub half : ℕ → ℤ
half w = if nat_lt w 32768 then pos w else negsuc (4294967295 - w)

-- a word into a register, as short as it can be
abbrev pub li : (t w : ℕ) → List Plain
li t w =
    if is_small w then Imm Addiu t 0 (half w) ∷ []
    else if nat_lt w 65536 then Logic Ori t 0 w ∷ []
    else if nat_eq (w % 65536) 0 then LoadUpper t (w / 65536 % 65536) ∷ []
    else constant t w

-- a word of the frame into a register, and back
abbrev pub load_word_at : (t offset : ℕ) → Plain
load_word_at t offset = plain.Load widths.Word t STACK_POINTER (pos offset)

abbrev pub store_word_at : (t offset : ℕ) → Plain
store_word_at t offset = plain.Store widths.Word t STACK_POINTER (pos offset)

-- one register into another
abbrev pub move_code : (t r : ℕ) → Plain
move_code t r = Alu alu.Addu t r 0

-- ---- operands and results

-- an operand: what stands before, and the register that shows it then
abbrev pub fetch : ℕ → Source → List Plain
fetch t (Word w) = li t w
fetch t (InSlot k) = load_word_at t (4 * k) ∷ []
fetch t _ = []

abbrev pub operand_register : ℕ → Source → ℕ
operand_register t Zero = 0
operand_register t (InRegister r) = r
operand_register t _ = t

-- an operand into a register of its own
abbrev pub bring : ℕ → Source → List Plain
bring t Zero = move_code t 0 ∷ []
bring t (InRegister r) = move_code t r ∷ []
bring t x = fetch t x

-- the same, but nothing where the operand is in that register
abbrev pub stays : ℕ → Source → Bool
stays t (InRegister r) = nat_eq r t
stays t _ = false

abbrev pub carry : ℕ → Source → List Plain
carry t x = if stays t x then [] else bring t x

-- a result: the register into which it is computed, and what stands after
abbrev pub into : Option Home → ℕ
into None = inner_of None
into (Some (Reg r)) = r
into (Some (Slot k)) = inner_of (Some (Slot k))
into (Some (Copied r k)) = r

abbrev pub finish : Option Home → List Plain
finish None = []
finish (Some (Reg r)) = []
finish (Some (Slot k)) = store_word_at (inner_of (Some (Slot k))) (4 * k) ∷ []
finish (Some (Copied r k)) = store_word_at r (4 * k) ∷ []

-- an operand into a home
abbrev pub put_at : Option Home → Source → List Plain
put_at None x = []
put_at (Some (Reg r)) x = bring r x
put_at (Some (Slot k)) x = fetch (inner_of (Some (Slot k))) x ++ store_word_at (operand_register (inner_of (Some (Slot k))) x) (4 * k) ∷ []
put_at (Some (Copied r k)) x = bring r x ++ store_word_at r (4 * k) ∷ []

-- a register into a home
abbrev pub arrive : Option Home → ℕ → List Plain
arrive None t = []
arrive (Some (Reg r)) t = carry r (InRegister t)
arrive (Some (Slot k)) t = store_word_at t (4 * k) ∷ []
arrive (Some (Copied r k)) t = carry r (InRegister t) ++ store_word_at r (4 * k) ∷ []

-- ---- operators

-- an instruction, and a second one after it, if there is one
abbrev pub one_or_two : Plain → Option Plain → List Plain
one_or_two i o = i ∷ option_to_list o

-- an operator on registers a and b into register d; a test of equality is one of the difference
abbrev pub operation : Op → (d a b : ℕ) → List Plain
operation Add d a b = Alu alu.Addu d a b ∷ []
operation Sub d a b = Alu alu.Subu d a b ∷ []
operation Mul d a b = Multiply Unsigned a b ∷ MoveFrom Lo d ∷ []
operation DivS d a b = Divide Signed a b ∷ MoveFrom Lo d ∷ []
operation DivU d a b = Divide Unsigned a b ∷ MoveFrom Lo d ∷ []
operation RemS d a b = Divide Signed a b ∷ MoveFrom Hi d ∷ []
operation RemU d a b = Divide Unsigned a b ∷ MoveFrom Hi d ∷ []
operation And d a b = Alu alu.And d a b ∷ []
operation Or d a b = Alu alu.Or d a b ∷ []
operation Xor d a b = Alu alu.Xor d a b ∷ []
operation Shl d a b = ShiftBy Sll d a b ∷ []
operation ShrU d a b = ShiftBy Srl d a b ∷ []
operation ShrS d a b = ShiftBy Sra d a b ∷ []
operation Eq d a b = Alu alu.Subu d a b ∷ Imm Sltiu d d (pos 1) ∷ []
operation Ne d a b = Alu alu.Subu d a b ∷ Alu alu.Sltu d 0 d ∷ []
operation LtS d a b = Alu alu.Slt d a b ∷ []
operation LtU d a b = Alu alu.Sltu d a b ∷ []
operation LeS d a b = Alu alu.Slt d b a ∷ Logic Xori d d 1 ∷ []
operation LeU d a b = Alu alu.Sltu d b a ∷ Logic Xori d d 1 ∷ []

-- minus a word
abbrev pub opposite : ℕ → ℕ
opposite c = wrap (2 ^ 32 - c)

-- one more, modulo 2^32
abbrev pub next_word : ℕ → ℕ
next_word c = wrap (c + 1)

-- the exponent of a power of 2
abbrev pub exponent : ℕ → ℕ
exponent c = trailing_zeros w32 c

abbrev pub is_power : ℕ → Bool
is_power c = nat_eq (2 ^ (exponent c % 32)) c

-- an operator on register q and a word in one instruction, where there is one
abbrev pub immediate : Op → (d q c : ℕ) → Option Plain
immediate Add d q c = if is_small c then Some (Imm Addiu d q (half c)) else None
immediate Sub d q c = if is_small (opposite c) then Some (Imm Addiu d q (half (opposite c))) else None
immediate And d q c = if nat_lt c 65536 then Some (Logic Andi d q c) else None
immediate Or d q c = if nat_lt c 65536 then Some (Logic Ori d q c) else None
immediate Xor d q c =
    if nat_lt c 65536 then Some (Logic Xori d q c) else if nat_eq c 4294967295 then Some (Alu alu.Nor d q 0) else None
immediate Shl d q c = Some (Shift Sll d q (c % 32))
immediate ShrU d q c = Some (Shift Srl d q (c % 32))
immediate ShrS d q c = Some (Shift Sra d q (c % 32))
immediate Eq d q c = if nat_eq c 0 then Some (Imm Sltiu d q (pos 1)) else None
immediate Ne d q c = if nat_eq c 0 then Some (Alu alu.Sltu d 0 q) else None
immediate LtS d q c = if is_small c then Some (Imm Slti d q (half c)) else None
immediate LtU d q c = if is_small c then Some (Imm Sltiu d q (half c)) else None
immediate LeS d q c = if is_small (next_word c) then Some (Imm Slti d q (half (next_word c))) else None
immediate LeU d q c =
    if nat_eq c 4294967295 then None else if is_small (next_word c) then Some (Imm Sltiu d q (half (next_word c))) else None
immediate Mul d q c = if is_power c then Some (Shift Sll d q (exponent c % 32)) else None
immediate DivU d q c = if is_power c then Some (Shift Srl d q (exponent c % 32)) else None
immediate RemU d q c = if is_power c then (if nat_lt (c - 1) 65536 then Some (Logic Andi d q (c - 1)) else None) else None
immediate _ d q c = None

abbrev pub immediate_of : Op → (d q : ℕ) → (known : Option ℕ) → Option Plain
immediate_of op d q known = option_and_then (immediate op d q) known

-- operators that give the same on turned operands
abbrev pub is_symmetric : Op → Bool
is_symmetric Add = true
is_symmetric And = true
is_symmetric Or = true
is_symmetric Xor = true
is_symmetric Eq = true
is_symmetric Ne = true
is_symmetric Mul = true
is_symmetric _ = false

abbrev pub turned_immediate_of : Op → (d q : ℕ) → (known : Option ℕ) → Option Plain
turned_immediate_of op d q known = if is_symmetric op then immediate_of op d q known else None

-- a word is at most another where that is not less than the word
abbrev pub turned_less_of : Op → (d q : ℕ) → (known : Option ℕ) → Option Plain
turned_less_of LeS d q known = immediate_of LtS d q known
turned_less_of LeU d q known = immediate_of LtU d q known
turned_less_of _ d q known = None

-- an operator into register d. Its right or left operand is a word, or the left operand of a test that is then turned. Else it is on two
-- registers. The left operand goes through register t, the right one through the second scratch register
abbrev pub code_by_less : Op → (t d : ℕ) → (less : Option Plain) → Source → Source → List Plain
code_by_less op t d None x y = fetch t x ++ (fetch SCRATCH_2 y ++ operation op d (operand_register t x) (operand_register SCRATCH_2 y))
code_by_less op t d (Some i) x y = fetch SCRATCH_2 y ++ i ∷ Logic Xori d d 1 ∷ []

abbrev pub code_by_left : Op → (t d : ℕ) → (left : Option Plain) → (x y : Operand) → List Plain
code_by_left op t d None x y = code_by_less op t d (turned_less_of op d (operand_register SCRATCH_2 y.source) x.known) x.source y.source
code_by_left op t d (Some i) x y = fetch SCRATCH_2 y.source ++ i ∷ []

abbrev pub code_by_right : Op → (t d : ℕ) → (right : Option Plain) → (x y : Operand) → List Plain
code_by_right op t d None x y = code_by_left op t d (turned_immediate_of op d (operand_register SCRATCH_2 y.source) x.known) x y
code_by_right op t d (Some i) x y = fetch t x.source ++ i ∷ []

abbrev pub code_by_word : Op → (t d : ℕ) → (x y : Operand) → List Plain
code_by_word op t d x y = code_by_right op t d (immediate_of op d (operand_register t x.source) y.known) x y

-- a product by one more or one less than a power of 2, and by no power itself. The other operand is shifted, and then added to that or
-- taken from it, modulo 2^32
abbrev pub multiple : ℕ → Option ShiftedSum
multiple c =
    if is_power c then None
    else if is_power (c - 1) then Some (record { op = alu.Addu; amount = exponent (c - 1) })
    else if is_power (next_word c) then Some (record { op = alu.Subu; amount = exponent (next_word c) })
    else None

abbrev pub multiple_of : Op → (known : Option ℕ) → Option ShiftedSum
multiple_of Mul (Some c) = multiple c
multiple_of _ _ = None

abbrev pub multiple_code : (t d : ℕ) → ShiftedSum → Source → List Plain
multiple_code t d m x = fetch t x ++ Shift Sll SCRATCH_2 (operand_register t x) (m.amount % 32) ∷ Alu m.op d SCRATCH_2 (operand_register t x) ∷ []

-- the product where it is one, else other code
abbrev pub code_by_multiple : (t d : ℕ) → Option ShiftedSum → Source → (other : List Plain) → List Plain
code_by_multiple t d None x other = other
code_by_multiple t d (Some m) x other = multiple_code t d m x

-- an operator into register d: a product by the right operand, one by the left operand, or any other
abbrev pub op_code : Op → (t d : ℕ) → (x y : Operand) → List Plain
op_code op t d x y =
    code_by_multiple t d (multiple_of op y.known) x.source
    (code_by_multiple t d (multiple_of op x.known) y.source (code_by_word op t d x y))

-- ---- instructions

-- what code depends on besides its instructions: the globals, where in the data each begins, and where pseudo-registers are
pub record Context : Type 0 where
  pub globals : List RGlobal
  pub starts : ℕ → ℕ
  pub at : Locations

-- the same as the code has it
abbrev pub context_of : Setting → Context
context_of s = record { globals = s.globals.now; starts = slice_index s.starts.now; at = locations s.frame.now }

-- whether the base that is kept is one of a global's elements at an index
abbrev pub holds_base : List RGlobal → (starts : ℕ → ℕ) → Option Kept → (a : ℕ) → (index : Option Offset) → Bool
holds_base globals starts (Some k) a (Some o) =
    nat_eq (base_index (width_of globals k.global) (starts k.global) k.index) (base_index (width_of globals a) (starts a) o)
    && shares_base globals starts k.global a
holds_base globals starts _ a _ = false

-- how an element of a global is reached, whose index may be known or in a register
abbrev pub reach_with : List RGlobal → (starts : ℕ → ℕ) → Option Kept → (a : ℕ) → (known : Option ℕ) → (index : Option Offset) → Reach
reach_with globals starts kept a known index =
    reach_by (width_of globals a) (starts a) (direct (width_of globals a) (starts a) known) index (holds_base globals starts kept a index)

abbrev pub reach_of : List RGlobal → (starts : ℕ → ℕ) → Locations → Facts → (a i : ℕ) → Reach
reach_of globals starts at facts a i = reach_with globals starts facts.kept a (known_in facts i) (index_of at facts i)

-- what stands before an element is used, from the operand that is its index
abbrev pub element_code : Width → (start : ℕ) → Reach → Source → List Plain
element_code w start ByScratch x = fetch SCRATCH_1 x ++ base_code w SCRATCH_1 start (operand_register SCRATCH_1 x)
element_code w start (ByNew q c) x = base_code w KEPT_BASE start q
element_code w start _ x = []

-- an element into a register, and back
abbrev pub element_load : Width → ℕ → (start : ℕ) → Reach → Plain
element_load w t start by = plain.Load w t (element_base by) (element_offset w start by)

abbrev pub element_store : Width → ℕ → (start : ℕ) → Reach → Plain
element_store w t start by = plain.Store w t (element_base by) (element_offset w start by)

-- an element at index x into a home, and operand y into an element
abbrev pub load_code : Option Home → Width → (start : ℕ) → Reach → (x : Source) → List Plain
load_code to w start by x = (element_code w start by x ++ element_load w (into to) start by ∷ []) ++ finish to

abbrev pub store_code : Width → (start : ℕ) → Reach → (x y : Source) → List Plain
store_code w start by x y =
    element_code w start by x ++ (fetch SCRATCH_2 y ++ element_store w (operand_register SCRATCH_2 y) start by ∷ [])

-- nothing is done
abbrev pub nop : Plain
nop = Shift Sll 0 0 0

-- a constant: nothing yet for a caller-saved register
abbrev pub const_code : Option Home → ℕ → List Plain
const_code (Some (Reg r)) w = if is_callee_saved r then bring r (word_source w) else nop ∷ []
const_code l w = put_at l (word_source w)

abbrev pub inst_code : List RGlobal → (starts : ℕ → ℕ) → Locations → Facts → RInst → List Plain
inst_code globals starts at facts (Const d w) = const_code (at d) (wrap w)
inst_code globals starts at facts (Move d a) = put_at (at d) (operand at facts a)
inst_code globals starts at facts (Bin op d a b) =
    op_code op (inner_of (at d)) (into (at d)) (operand_with at facts a) (operand_with at facts b) ++ finish (at d)
inst_code globals starts at facts (Load d a i) =
    load_code (at d) (width_of globals a) (starts a) (reach_of globals starts at facts a i) (operand at facts i)
inst_code globals starts at facts (Store a i b) =
    store_code (width_of globals a) (starts a) (reach_of globals starts at facts a i) (operand at facts i) (operand at facts b)

-- ---- exits

-- arguments into registers from t on
abbrev pub arguments_code : Locations → Facts → ℕ → List ℕ → List Plain
arguments_code at facts t [] = []
arguments_code at facts t (x ∷ xs) = carry t (operand at facts x) ++ arguments_code at facts (suc t) xs
