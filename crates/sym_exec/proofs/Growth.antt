-- The growth of a run step by step, its bound, and two examples.
use Rattle.std.proofs.Common.{◌≡◌, ℕ, suc, ◌+◌, ◌*◌, ◌≤◌, Bool, true, false, List, [], ◌∷◌, length, refl, arith}
use Rattle.std.specs.Prelude.{if◌then◌else◌}
use Rattle.words.specs.declared.width.Width.TheVariants.{Word}
use Rattle.words.specs.declared.operator.Operator.TheVariants.{Addu}
use Rattle.mips_isa.specs.declared.action.Operand.TheVariants.{Held, Fixed}
use Rattle.mips_isa.specs.declared.action.Action.{Action}
use Rattle.mips_isa.specs.declared.action.Action.TheVariants.{Computes, Loads, Stores}
use Rattle.mblock.specs.declared.exit.Exit.TheVariants.{Goto}
use Rattle.mblock.specs.BlockMeaning.{Shape, Goes, exit_shape}
use Rattle.sym_terms.specs.NormalForms.{is_addition}
use Rattle.sym_exec.specs.Growth.{growth_by, stores_after, all_stores, growth_by_all, growth_by_shape, code_growth, GrowthHasBound}

-- the bound
two_or_one : (b : Bool) → (if b then 2 else 1) ≤ 2
two_or_one true = omega arith
two_or_one false = omega arith

action_low : (a : Action) (k : ℕ) → (growth_by a k ≤ k + 3) × (stores_after a k ≤ suc k)
action_low (Computes d op a (Held r)) k = omega (arith, two_or_one (is_addition op))
action_low (Computes d op a (Fixed w)) k = omega (arith, two_or_one (is_addition op))
action_low _ k = omega arith

all_stores_low : (acts : List Action) (k : ℕ) → all_stores acts k ≤ k + length acts
all_stores_low [] k = omega arith
all_stores_low (a ∷ rest) k = omega (arith, action_low a k, all_stores_low rest (stores_after a k))

all_low : (acts : List Action) (k m : ℕ) → k + length acts ≤ m → growth_by_all acts k ≤ length acts * (m + 3)
all_low [] k m few = omega arith
all_low (a ∷ rest) k m few =
    let below = all_low rest (stores_after a k) m (omega (arith, action_low a k, few)) in
    let split : suc (length rest) * (m + 3) ≡ (m + 3) + length rest * (m + 3) = grind arith in
    omega (arith, action_low a k, few, below, split)

shape_low : (shape : Shape) → growth_by_shape shape ≤ 1
shape_low (Goes t) = omega arith
shape_low _ = omega arith

pub growth_bound : GrowthHasBound
growth_bound acts exit slots =
    let n = length acts + length slots in
    let before = all_stores acts 0 in
    let few = all_stores_low acts 0 in
    let first = all_low acts 0 n (omega arith) in
    let last = all_low slots before n (omega (arith, few)) in
    let whole : (a b : ℕ) → (a + b) + (a * (a + b + 3) + b * (a + b + 3)) ≡ (a + b) * (a + b + 4) = λ a b. grind arith in
    omega (arith, few, all_stores_low slots before, first, last, shape_low (exit_shape exit), whole (length acts) (length slots))

-- 35 at the start, and 3 for a constant, the sum's constant and the sum
pub one_sum : code_growth (Computes 5 Addu 4 (Fixed 1) ∷ []) (Goto 1) [] ≡ 38
one_sum = refl

-- 2 for each address, 2 for the memories that the load needs, 1 for the load, and 2 for the memories at the end
pub two_stores_and_a_load : code_growth (Stores Word 5 4 0 ∷ Stores Word 5 4 4 ∷ Loads Word 6 4 0 ∷ []) (Goto 1) [] ≡ 46
two_stores_and_a_load = refl
