-- Operators that are one with the exit after them: comparisons with a branch on their result, any with a return of it. And the code of
-- several instructions.
use Rattle.std.specs.Prelude.{ℕ, Bool, true, false, not, ◌&&◌, nat_eq, if◌then◌else◌, List, [], ◌∷◌, ◌++◌, Option, Some, None}
use Rattle.std.specs.Option.{is_some, option_map, option_map_or}
use Rattle.mips_isa.specs.declared.inst.PairTest.TheVariants.{Equal, NotEqual}
use Rattle.mips_isa.specs.declared.inst.ZeroTest.TheVariants.{AtMostZero, AboveZero, BelowZero, AtLeastZero}
use Rattle.mips_isa.specs.declared.inst.Plain.{Plain}
use Rattle.mblock.specs.declared.exit.Exit.{Exit}
use Rattle.mblock.specs.declared.exit.Exit.TheVariants.{Goto, BranchPair, BranchZero}
use Rattle.rtl.specs.declared.operator.Op.{Op}
use Rattle.rtl.specs.declared.operator.Op.TheVariants.{Eq, Ne, LtS, LtU, LeS, LeU}
use Rattle.rtl.specs.Operators.{op_result}
use Rattle.rtl.specs.declared.instruction.RInst.{RInst}
use Rattle.rtl.specs.declared.instruction.RInst.TheVariants.{Bin}
use Rattle.mips_homes.specs.declared.convention.TheConstants.{SCRATCH_1, SCRATCH_3, RESULT}
use Rattle.mips_homes.specs.Convention.{is_callee_saved}
use Rattle.mips_homes.specs.declared.homed.Home.{Home}
use Rattle.mips_homes.specs.declared.homed.Home.TheVariants.{Reg}
use Rattle.mips_emit.specs.declared.location.Source.{Source}
use Rattle.mips_emit.specs.declared.comparison.Form.{Form}
use Rattle.mips_emit.specs.declared.comparison.Form.TheVariants.{Known, OnPair, OnLeft, OnRight, ByResult, ByOpposite, InResult}
use Rattle.mips_emit.specs.declared.comparison.Asked.{Asked}
use Rattle.mips_emit.specs.declared.comparison.Asked.TheVariants.{Nothing, Branched, Returned}
use Rattle.mips_emit.specs.declared.comparison.Comparison.{Comparison}
use Rattle.mips_emit.specs.declared.operation.Operand.{Operand}
use Rattle.mips_emit.specs.declared.facts.Last.{Last}
use Rattle.mips_emit.specs.Locations.{Locations, Facts, FitsSource, known_in, learned, fresh_of}
use Rattle.mips_emit.specs.Code.{Context, operand_with, fetch, operand_register, carry, immediate_of, op_code, inst_code, nop}

-- ---- forms

abbrev pub is_known_zero : Option ℕ → Bool
is_known_zero known = option_map_or (λ w. nat_eq w 0) known false

-- a word that an operator has in its instruction
abbrev pub is_immediate : Op → (known : Option ℕ) → Bool
is_immediate op known = is_some (immediate_of op SCRATCH_1 0 known)

abbrev pub opposite_if : Bool → Form
opposite_if b = if b then ByOpposite else ByResult

-- how a branch tells the result of a comparison, from what is known of its operands; none of another operator
abbrev pub form_of : Op → (left right : Option ℕ) → Option Form
form_of Eq l r = Some (OnPair Equal)
form_of Ne l r = Some (OnPair NotEqual)
form_of LtS l r =
    Some (if is_known_zero l then OnRight AboveZero else if is_known_zero r then OnLeft BelowZero
    else opposite_if (is_immediate LeS l))
form_of LtU l r = Some (opposite_if (is_immediate LeU l))
form_of LeS l r =
    Some (if is_known_zero r then OnLeft AtMostZero else if is_known_zero l then OnRight AtLeastZero
    else opposite_if (not (is_immediate LeS r)))
form_of LeU l r = Some (opposite_if (not (is_immediate LeU r)))
form_of _ l r = None

-- whether the result of an operator on known words isn't 0
abbrev pub known_truth : Op → (left right : Option ℕ) → Option Bool
known_truth op (Some a) (Some b) = option_map (λ u. not (nat_eq u 0)) (op_result op a b)
known_truth op _ _ = None

-- one is less than another where that isn't at most the one
abbrev pub opposite_op : Op → Op
opposite_op LtS = LeS
opposite_op LtU = LeU
opposite_op LeS = LtS
opposite_op LeU = LtU
opposite_op op = op

-- ---- code and exits

-- what stands before the branch; a nop where that would be nothing. It is in the third scratch register and not in the first, so that what stands before may
-- be done after it
abbrev pub code_by_form : Form → Op → (x y : Operand) → List Plain
code_by_form (Known b) op x y = nop ∷ []
code_by_form (OnPair test) op x y = fetch SCRATCH_1 x.source ++ (fetch SCRATCH_3 y.source ++ nop ∷ [])
code_by_form (OnLeft test) op x y = fetch SCRATCH_3 x.source ++ nop ∷ []
code_by_form (OnRight test) op x y = fetch SCRATCH_3 y.source ++ nop ∷ []
code_by_form ByResult op x y = op_code op SCRATCH_1 SCRATCH_3 x y
code_by_form ByOpposite op x y = op_code (opposite_op op) SCRATCH_1 SCRATCH_3 y x
code_by_form InResult op x y = op_code op SCRATCH_1 RESULT x y

abbrev pub comparison_code : Comparison → List Plain
comparison_code m = code_by_form m.form m.op m.left m.right

abbrev pub exit_by_form : Form → Source → Source → (t e : ℕ) → Exit
exit_by_form (Known b) x y t e = Goto (if b then t else e)
exit_by_form (OnPair test) x y t e = BranchPair test (operand_register SCRATCH_1 x) (operand_register SCRATCH_3 y) t e
exit_by_form (OnLeft test) x y t e = BranchZero test (operand_register SCRATCH_3 x) t e
exit_by_form (OnRight test) x y t e = BranchZero test (operand_register SCRATCH_3 y) t e
exit_by_form ByResult x y t e = BranchPair NotEqual SCRATCH_3 0 t e
exit_by_form ByOpposite x y t e = BranchPair Equal SCRATCH_3 0 t e
exit_by_form InResult x y t e = BranchPair NotEqual RESULT 0 t e

abbrev pub comparison_exit : Comparison → (t e : ℕ) → Exit
comparison_exit m t e = exit_by_form m.form m.left.source m.right.source t e

-- ---- which comparisons

-- whether the exit after goes by a pseudo-register
abbrev pub is_asked : Asked → ℕ → Bool
is_asked Nothing d = false
is_asked (Branched c) d = nat_eq c d
is_asked (Returned c) d = nat_eq c d

-- a branch goes by comparisons, but one of known words isn't made; a return goes by any operator
abbrev pub form_for : Asked → Op → (left right : Option ℕ) → Option Form
form_for Nothing op l r = None
form_for (Branched c) op l r = option_map (option_map_or Known (known_truth op l r)) (form_of op l r)
form_for (Returned c) op l r = Some InResult

-- a home that no other block reads
abbrev pub is_caller_saved : Option Home → Bool
is_caller_saved (Some (Reg r)) = not (is_callee_saved r)
is_caller_saved _ = false

-- an instruction that is one with the branch after it, which goes by the pseudo-register asked for
abbrev pub comparison_of : Locations → Facts → Asked → RInst → Option Comparison
comparison_of at facts asked (Bin op d a b) =
    if is_asked asked d && is_caller_saved (at d)
    then option_map (λ form. record { result = d; op = op; form = form; left = operand_with at facts a; right = operand_with at facts b })
    (form_for asked op (known_in facts a) (known_in facts b))
    else None
comparison_of at facts asked _ = None

abbrev pub FitsComparison : Option Comparison → Type 0
FitsComparison None = Unit {0}
FitsComparison (Some m) = FitsSource m.left.source × FitsSource m.right.source

-- ---- several instructions

-- only after the last of them stands the branch
abbrev pub asked_last : Asked → (behind : List RInst) → Asked
asked_last asked [] = asked
asked_last asked (i ∷ is) = Nothing

abbrev pub next_code : Context → Facts → Option Comparison → RInst → List Plain
next_code c facts None i = inst_code c.globals c.starts c.at facts i
next_code c facts (Some m) i = comparison_code m

-- the code of an instruction before others
abbrev pub one_code : Context → Asked → (behind : List RInst) → Facts → RInst → List Plain
one_code c asked behind facts i = next_code c facts (comparison_of c.at facts (asked_last asked behind) i) i

-- what an exit can use then
abbrev pub last_with : Option Comparison → (fresh : Option ℕ) → Last
last_with None fresh = record { fresh = fresh; comparison = None }
last_with (Some m) fresh = record { fresh = None; comparison = Some m }

abbrev pub no_last : Last
no_last = record { fresh = None; comparison = None }

abbrev pub last_after : Locations → Asked → Facts → List RInst → Last → Last
last_after at asked facts [] last = last
last_after at asked facts (i ∷ is) last =
    last_after at asked (learned at i facts) is (last_with (comparison_of at facts (asked_last asked is) i) (fresh_of at i))

-- the code of several, before other code
abbrev pub insts_code : Context → Asked → Facts → List RInst → (behind : List Plain) → List Plain
insts_code c asked facts [] behind = behind
insts_code c asked facts (i ∷ is) behind = one_code c asked is facts i ++ insts_code c asked (learned c.at i facts) is behind

-- and before none
abbrev pub code_of_insts : Context → Asked → Facts → List RInst → List Plain
code_of_insts c asked facts is = insts_code c asked facts is []

-- ---- branches

-- the comparison whose result a pseudo-register is
abbrev pub tested : Option Comparison → ℕ → Option Comparison
tested None c = None
tested (Some m) c = if nat_eq m.result c then Some m else None

-- a branch: on what was compared, or on an operand, where its word isn't known
abbrev pub branch_code : (tested : Option Comparison) → (known : Option ℕ) → Source → List Plain
branch_code None None x = fetch SCRATCH_1 x
branch_code _ _ x = []

abbrev pub branch_exit : (tested : Option Comparison) → (known : Option ℕ) → Source → (t e : ℕ) → Exit
branch_exit None None x t e = BranchPair NotEqual (operand_register SCRATCH_1 x) 0 t e
branch_exit None (Some w) x t e = Goto (if nat_eq w 0 then e else t)
branch_exit (Some m) known x t e = comparison_exit m t e

-- ---- returns

abbrev pub is_result : Form → Bool
is_result InResult = true
is_result _ = false

-- whether a pseudo-register is in the result's register already
abbrev pub returned : Option Comparison → ℕ → Bool
returned None x = false
returned (Some m) x = is_result m.form && nat_eq m.result x

abbrev pub return_code : (returned : Bool) → Source → List Plain
return_code true x = []
return_code false x = carry RESULT x
