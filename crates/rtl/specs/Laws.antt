-- What is true of every run of a program, and of the operators beside those of C.
use Rattle.std.specs.Prelude.{◌≡◌, ◌-◌, ◌^◌, ℕ, Some, not}
use Rattle.words.specs.declared.sign.Sign.{Sign}
use Rattle.words.specs.Operators.{quotient_of, remainder_of}
use Rattle.words.specs.Signs.{by_sign}
use Rattle.words.specs.C.{sum_of, difference_of, times_of, negation_of, left_shift_of, right_shift_of, is_below}
use Rattle.runs.specs.Stores.{IsWord, PlacesHoldWords}
use Rattle.runs.specs.Runs.{HoldsWords}
use Rattle.runs.specs.Steps.{IsKept, GoesOnFromWhereItIs}
use Rattle.rtl.specs.declared.operator.Op.{Op}
use Rattle.rtl.specs.declared.operator.Op.TheVariants.{Add, Sub, Mul, DivS, DivU, RemS, RemU, Xor, Shl, ShrU, ShrS, LtS, LtU, LeS, LeU}
use Rattle.rtl.specs.Operators.{truth_word, op_result}
use Rattle.rtl.specs.Programs.{Program}
use Rattle.rtl.specs.Meaning.{Frame, Run, rtl_start, rtl_step}

abbrev pub FrameHoldsWords : Frame → Type 0
FrameHoldsWords f = PlacesHoldWords f.registers

abbrev pub RunHoldsWords : Run → Type 0
RunHoldsWords s = HoldsWords FrameHoldsWords s

-- a run begins with words, and each step keeps to them
abbrev pub ValuesAreWords : Type 0
ValuesAreWords = (p : Program) (depth : ℕ) → IsKept RunHoldsWords (rtl_step p depth) (rtl_start p)

-- a number of steps is taken in two parts, and a run that ended or failed stays so
abbrev pub RunsGoOnFromWhereTheyAre : Type 0
RunsGoOnFromWhereTheyAre = (p : Program) (depth : ℕ) → GoesOnFromWhereItIs (rtl_step p depth)

-- the operators that compute in a type of C, by its sign
abbrev pub quotient_op : Sign → Op
quotient_op sign = by_sign sign DivS DivU

abbrev pub remainder_op : Sign → Op
remainder_op sign = by_sign sign RemS RemU

abbrev pub right_shift_op : Sign → Op
right_shift_op sign = by_sign sign ShrS ShrU

abbrev pub below_op : Sign → Op
below_op sign = by_sign sign LtS LtU

abbrev pub not_above_op : Sign → Op
not_above_op sign = by_sign sign LeS LeU

-- where C gives two words a value, it is the result of an operator here; the complement is that of `xor` with all ones
pub record ComputesAsC : Type 0 where
  pub sum : (s : Sign) (a b v : ℕ) → IsWord a → IsWord b → sum_of s a b ≡ Some v → op_result Add a b ≡ Some v
  pub difference : (s : Sign) (a b v : ℕ) → IsWord a → IsWord b → difference_of s a b ≡ Some v → op_result Sub a b ≡ Some v
  pub product : (s : Sign) (a b v : ℕ) → IsWord a → IsWord b → times_of s a b ≡ Some v → op_result Mul a b ≡ Some v
  pub quotient : (s : Sign) (a b : ℕ) → quotient_of s a b ≡ op_result (quotient_op s) a b
  pub remainder : (s : Sign) (a b : ℕ) → remainder_of s a b ≡ op_result (remainder_op s) a b
  pub negation : (s : Sign) (a v : ℕ) → IsWord a → negation_of s a ≡ Some v → op_result Sub 0 a ≡ Some v
  pub left_shift : (s : Sign) (a n v : ℕ) → left_shift_of s a n ≡ Some v → op_result Shl a n ≡ Some v
  pub right_shift : (s : Sign) (a n v : ℕ) → right_shift_of s a n ≡ Some v → op_result (right_shift_op s) a n ≡ Some v
  pub below : (s : Sign) (a b : ℕ) → op_result (below_op s) a b ≡ Some (truth_word (is_below s a b))
  pub not_above : (s : Sign) (a b : ℕ) → op_result (not_above_op s) a b ≡ Some (truth_word (not (is_below s b a)))
  pub complement : (a : ℕ) → IsWord a → op_result Xor a (2 ^ 32 - 1) ≡ Some (2 ^ 32 - 1 - a)
