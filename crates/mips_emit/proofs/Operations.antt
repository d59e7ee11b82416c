-- The code of operators leaves their results.
use Rattle.std.proofs.Common.{◌≡◌, ◌≢◌, ℕ, pos, ◌+◌, ◌-◌, ◌*◌, ◌/◌, ◌%◌, ◌^◌, ◌<◌, ◌≤◌, ◌==◌, Bool, true, false, List, [], ◌∷◌, length, Option, Some, None}
use Rattle.std.proofs.Common.{refl, sym, ap, ap₂, ◌∙◌, subst, arith, nat_eq, nat_lt, ltb-true, eqb-true, true≢false, ◌++◌, take, drop}
use Rattle.std.specs.Prelude.{bit_and, if◌then◌else◌, not, int_lt}
use Rattle.std.proofs.lemmas.Bool.{eqb-false, cond_both}
use Rattle.std.proofs.lemmas.Bool.Decides.{nat_tests}
use Rattle.std.proofs.lemmas.Nat.{and_comm, or_comm, xor_comm, and_mask}
use Rattle.std.proofs.lemmas.Int.{ints}
use Rattle.std.proofs.lemmas.Option.{same_Some, none-some, cond_some}
use Rattle.words.specs.declared.sign.Sign.{Sign}
use Rattle.words.specs.declared.sign.Sign.TheVariants.{Signed, Unsigned}
use Rattle.words.specs.declared.operator.Operator.{Operator}
use Rattle.words.specs.declared.operator.Operator.TheVariants as operators
use Rattle.words.specs.Words.{wrap, signed}
use Rattle.words.specs.Operators.{or_zero, value_of, op_value, has_quotient, quotient, remainder}
use Rattle.words.proofs.OfC.{complement_agrees}
use Rattle.mips_isa.specs.declared.inst.ShiftOp.{ShiftOp}
use Rattle.mips_isa.specs.declared.inst.ShiftOp.TheVariants.{Sll, Srl, Sra}
use Rattle.mips_isa.specs.declared.inst.AluOp.{AluOp}
use Rattle.mips_isa.specs.declared.inst.AluOp.TheVariants as alu
use Rattle.mips_isa.specs.declared.inst.ImmOp.{ImmOp}
use Rattle.mips_isa.specs.declared.inst.ImmOp.TheVariants.{Addiu, Slti, Sltiu}
use Rattle.mips_isa.specs.declared.inst.LogicOp.{LogicOp}
use Rattle.mips_isa.specs.declared.inst.LogicOp.TheVariants.{Andi, Ori, Xori}
use Rattle.mips_isa.specs.declared.inst.HiLo.{HiLo}
use Rattle.mips_isa.specs.declared.inst.HiLo.TheVariants.{Hi, Lo}
use Rattle.mips_isa.specs.declared.inst.Plain.{Plain}
use Rattle.mips_isa.specs.declared.inst.Plain.TheVariants.{Shift, ShiftBy, Alu, Imm, Logic, MoveFrom, Divide}
use Rattle.mips_isa.specs.States.{State, read, put}
use Rattle.mips_isa.specs.Actions.{shift_operator, alu_operator, imm_operator, logic_operator, quotient_operator, remainder_operator}
use Rattle.rtl.specs.declared.operator.Op.{Op}
use Rattle.rtl.specs.declared.operator.Op.TheVariants.{Add, Sub, Mul, DivS, DivU, RemS, RemU, And, Or, Xor, Shl, ShrU, ShrS, Eq, Ne, LtS, LtU, LeS, LeU}
use Rattle.rtl.specs.Operators.{truth_word, op_result}
use Rattle.rtl.proofs.Computing.{complement-is}
use Rattle.std.proofs.lemmas.List.{take-append-drop}
use Rattle.std.specs.Option.{option_to_list}
use Rattle.mips_emit.specs.Code.{one_or_two, is_small, half, operation, opposite, next_word, exponent, is_power, immediate, is_symmetric}
use Rattle.mips_emit.specs.Code.{turned_less_of}
use Rattle.mips_emit.proofs.Runs.{RunsTo, if_some, runs_then}
use Rattle.mips_emit.proofs.View.{set, IsTarget, put_here, put_other, read_register, alu_runs, imm_runs}

-- instructions that write register d, and perhaps HI and LO
pub record Gives (is : List Plain) (s : State) (d v : ℕ) : Type 0 where
  pub regs : ℕ → ℕ
  pub hi : ℕ
  pub lo : ℕ
  pub runs : RunsTo is s (record s { regs = regs; hi = hi; lo = lo })
  pub here : regs d ≡ v
  pub others : (r : ℕ) → r ≢ d → regs r ≡ s.regs r
  pub some : 1 ≤ length is

-- that register alone, HI and LO
writes : {is : List Plain} {s : State} {d v : ℕ} (hi lo x : ℕ) → IsTarget d → RunsTo is s (record s { regs = put s.regs d x; hi = hi; lo = lo })
    → 1 ≤ length is → x ≡ v → Gives is s d v
writes {s} {d} hi lo x ok run some e = record {
  regs = put s.regs d x;
  hi = hi;
  lo = lo;
  runs = run;
  here = put_here s.regs d x ok ∙ e;
  others = λ r ne. put_other s.regs d x r ne;
  some = some;
}

-- one instruction
one : {i : Plain} {s : State} {d : ℕ} (x : ℕ) {v : ℕ} → IsTarget d → RunsTo (i ∷ []) s (set s d x) → x ≡ v → Gives (i ∷ []) s d v
one {s} x ok run e = writes s.hi s.lo x ok run (omega arith) e

-- and another one on its result
then_one : {i j : Plain} {s : State} {d v u : ℕ} (f : ℕ → ℕ) → IsTarget d → ((t : State) → RunsTo (j ∷ []) t (set t d (f (read 0 t.regs d))))
    → Gives (i ∷ []) s d v → f v ≡ u → Gives (i ∷ j ∷ []) s d u
then_one {j} {s} {d} {v} f ok runs g e =
    let m : State = record s { regs = g.regs; hi = g.hi; lo = g.lo } in
    record {
      regs = put g.regs d (f v);
      hi = g.hi;
      lo = g.lo;
      runs = runs_then g.runs (subst (λ y. RunsTo (j ∷ []) m (set m d (f y))) (read_register g.regs d ok.low ∙ g.here) (runs m));
      here = put_here g.regs d (f v) ok ∙ e;
      others = λ r ne. put_other g.regs d (f v) r ne ∙ g.others r ne;
      some = omega arith;
    }

-- a test that is turned behind
turned_word : (b : Bool) → op_value operators.Xor (truth_word b) (wrap 1) ≡ truth_word (not b)
unfolding op_value
turned_word true = refl
turned_word false = refl

then_turned : {i : Plain} {s : State} {d u : ℕ} (b : Bool) → IsTarget d → Some (truth_word (not b)) ≡ Some u → Gives (i ∷ []) s d (truth_word b)
    → Gives (i ∷ Logic Xori d d 1 ∷ []) s d u
then_turned {u} b ok e g = then_one (λ x. op_value operators.Xor x (wrap 1)) ok (λ t. record { ends = refl }) g (turned_word b ∙ same_Some _ u e)

-- ---- operators of the machine

-- the value of an operator that has one
direct : (op : Operator) (v w u : ℕ) → value_of op v w ≡ Some u → op_value op v w ≡ u
unfolding op_value
direct op v w u e = ap or_zero e

low_bits : (n : ℕ) → wrap (n % 32) % 32 ≡ n % 32
low_bits n = omega arith

pub shifted : (op : ShiftOp) (v c : ℕ) → op_value (shift_operator op) v (wrap (c % 32)) ≡ op_value (shift_operator op) v c
unfolding op_value
shifted Sll v c = rw low_bits
shifted _ v c = rw low_bits

-- with a register and a word
module _ {s : State} {d q v u : ℕ} (ok : IsTarget d) (left : read 0 s.regs q ≡ v) where
  imm_gives : (op : ImmOp) (w : ℕ) → w < 2 ^ 32 → op_value (imm_operator op) v w ≡ u → Gives (Imm op d q (half w) ∷ []) s d u
  imm_gives op w lt e = one (op_value (imm_operator op) (read 0 s.regs q) w) ok (imm_runs s op d q w lt) (rw left e)

  logic_gives : (op : LogicOp) (w : ℕ) → w < 65536 → value_of (logic_operator op) v w ≡ Some u → Gives (Logic op d q w ∷ []) s d u
  logic_gives op w lt e =
      let same : wrap w ≡ w = omega arith in
      one (op_value (logic_operator op) (read 0 s.regs q) (wrap w)) ok (record { ends = refl }) (rw (left, same) (direct (logic_operator op) v w u e))

  by_gives : (op : ShiftOp) (c : ℕ) → value_of (shift_operator op) v c ≡ Some u → Gives (Shift op d q (c % 32) ∷ []) s d u
  by_gives op c e = one (op_value (shift_operator op) (read 0 s.regs q) (wrap (c % 32))) ok (record { ends = refl })
      (rw left (shifted op v c ∙ direct (shift_operator op) v c u e))

-- ---- tests

-- two words are equal exactly where their difference is 0
equal_word : (v w : ℕ) → v < 2 ^ 32 → w < 2 ^ 32 → op_value operators.Sltu (op_value operators.Subu v w) 1 ≡ truth_word (v == w)
unfolding op_value
equal_word v w lv lw = grind (arith, nat_tests)

unequal_word : (v w : ℕ) → v < 2 ^ 32 → w < 2 ^ 32 → op_value operators.Sltu 0 (op_value operators.Subu v w) ≡ truth_word (not (v == w))
unfolding op_value
unequal_word v w lv lw = grind (arith, nat_tests)

-- ---- each operator

-- on two registers
module _ (s : State) (d a b v w u : ℕ) (ok : IsTarget d) (left : read 0 s.regs a ≡ v) (right : read 0 s.regs b ≡ w) where
  abbrev shown : Operator → ℕ
  shown op = op_value op (read 0 s.regs a) (read 0 s.regs b)

  shows : (op : Operator) → value_of op v w ≡ Some u → shown op ≡ u
  shows op e = rw (left, right) (direct op v w u e)

  pub alu_gives : (op : AluOp) → value_of (alu_operator op) v w ≡ Some u → Gives (Alu op d a b ∷ []) s d u
  alu_gives op e = one (shown (alu_operator op)) ok (alu_runs s op d a b) (shows (alu_operator op) e)

  shift_gives : (op : ShiftOp) → value_of (shift_operator op) v w ≡ Some u → Gives (ShiftBy op d a b ∷ []) s d u
  shift_gives op e = one (shown (shift_operator op)) ok (record { ends = refl }) (shows (shift_operator op) e)

  -- a part of the result of a division, which is moved out of HI or LO
  part_gives : (place : HiLo) (sign : Sign) (operator : Operator) (x : ℕ) → (let m : State = record s { hi = shown (remainder_operator sign); lo = shown (quotient_operator sign) } in
      RunsTo (MoveFrom place d ∷ []) m (set m d (shown operator)))
      → (if has_quotient sign v w then Some x else None) ≡ Some u → value_of operator v w ≡ Some u → Gives (Divide sign a b ∷ MoveFrom place d ∷ []) s d u
  part_gives place sign operator x moved fits e =
      let high = shown (remainder_operator sign) in
      let low = shown (quotient_operator sign) in
      let divides : RunsTo (Divide sign a b ∷ []) s (record s { hi = high; lo = low }) =
      record { ends = rw (left, right, (if_some (has_quotient sign v w) (Some x) u fits).0) } in
      writes high low (shown operator) ok (runs_then divides moved) (omega arith) (shows operator e)

  -- a comparison and then a test of its result
  difference_gives : (j : Plain) (f : ℕ → ℕ) → ((t : State) → RunsTo (j ∷ []) t (set t d (f (read 0 t.regs d)))) → f (op_value operators.Subu v w) ≡ u
      → Gives (Alu alu.Subu d a b ∷ j ∷ []) s d u
  difference_gives j f runs e = then_one f ok runs (one (shown operators.Subu) ok (alu_runs s alu.Subu d a b) refl) (rw (left, right) e)

  turned_gives : (op : AluOp) (t : Bool) → op_value (alu_operator op) w v ≡ truth_word t → Some (truth_word (not t)) ≡ Some u
      → Gives (Alu op d b a ∷ Logic Xori d d 1 ∷ []) s d u
  turned_gives op t is e =
      then_turned t ok e (one (op_value (alu_operator op) (read 0 s.regs b) (read 0 s.regs a)) ok (alu_runs s op d b a) (rw (left, right) is))

  pub operation_gives : (op : Op) → v < 2 ^ 32 → w < 2 ^ 32 → op_result op v w ≡ Some u → Gives (operation op d a b) s d u
  operation_gives Add lv lw e = alu_gives alu.Addu e
  operation_gives Sub lv lw e = alu_gives alu.Subu e
  operation_gives Mul lv lw e = writes (shown operators.MultuHigh) (shown operators.MultuLow) (shown operators.MultuLow) ok (record { ends = refl }) (omega arith)
      (shows operators.MultuLow e)
  operation_gives DivS lv lw e = part_gives Lo Signed operators.DivQuotient (quotient Signed v w) (record { ends = refl }) e e
  operation_gives DivU lv lw e = part_gives Lo Unsigned operators.DivuQuotient (quotient Unsigned v w) (record { ends = refl }) e e
  operation_gives RemS lv lw e = part_gives Hi Signed operators.DivRemainder (remainder Signed v w) (record { ends = refl }) e e
  operation_gives RemU lv lw e = part_gives Hi Unsigned operators.DivuRemainder (remainder Unsigned v w) (record { ends = refl }) e e
  operation_gives And lv lw e = alu_gives alu.And e
  operation_gives Or lv lw e = alu_gives alu.Or e
  operation_gives Xor lv lw e = alu_gives alu.Xor e
  operation_gives Shl lv lw e = shift_gives Sll e
  operation_gives ShrU lv lw e = shift_gives Srl e
  operation_gives ShrS lv lw e = shift_gives Sra e
  operation_gives Eq lv lw e = difference_gives (Imm Sltiu d d (pos 1)) (λ x. op_value operators.Sltu x 1) (λ t. imm_runs t Sltiu d d 1 (omega arith))
      (equal_word v w lv lw ∙ same_Some (truth_word (v == w)) u e)
  operation_gives Ne lv lw e = difference_gives (Alu alu.Sltu d 0 d) (λ x. op_value operators.Sltu 0 x) (λ t. alu_runs t alu.Sltu d 0 d)
      (unequal_word v w lv lw ∙ same_Some (truth_word (not (v == w))) u e)
  operation_gives LtS lv lw e = alu_gives alu.Slt e
  operation_gives LtU lv lw e = alu_gives alu.Sltu e
  operation_gives LeS lv lw e = turned_gives alu.Slt (int_lt (signed w) (signed v)) (direct operators.Slt w v _ refl) e
  operation_gives LeU lv lw e = turned_gives alu.Sltu (nat_lt w v) (direct operators.Sltu w v _ refl) e

-- operands may be turned
pub symmetric : (op : Op) (v w : ℕ) → is_symmetric op ≡ true → op_result op v w ≡ op_result op w v
symmetric Add v w e = let turned : wrap (v + w) ≡ wrap (w + v) = omega arith in ap Some turned
symmetric And v w e = ap Some (and_comm v w)
symmetric Or v w e = ap Some (or_comm v w)
symmetric Xor v w e = ap Some (xor_comm v w)
symmetric Eq v w e = grind (arith, nat_tests)
symmetric Ne v w e = grind (arith, nat_tests)
symmetric Mul v w e = let turned : v * w ≡ w * v = omega arith in ap (λ n. Some (wrap n)) turned
symmetric _ v w e = absurd (true≢false (sym e))

-- ---- with a word in the instruction

sum_turned : (v c : ℕ) → c < 2 ^ 32 → op_value operators.Addu v (opposite c) ≡ op_value operators.Subu v c
unfolding op_value
sum_turned v c lt = omega (arith, lt)

-- tests against 0
is_zero : (v : ℕ) → op_value operators.Sltu v 1 ≡ truth_word (v == 0)
unfolding op_value
is_zero v = grind (arith, nat_tests)

is_some : (v : ℕ) → op_value operators.Sltu 0 v ≡ truth_word (not (v == 0))
unfolding op_value
is_some v = grind (arith, nat_tests)

-- at most c is less than one more
not_above_signed : (v c : ℕ) → v < 2 ^ 32 → c < 2 ^ 32 → is_small (next_word c) ≡ true
    → op_value operators.Slt v (next_word c) ≡ truth_word (not (int_lt (signed c) (signed v)))
unfolding op_value
not_above_signed v c lv lc small = grind (arith, ints)

not_above : (v c : ℕ) → c < 2 ^ 32 → c ≢ 4294967295 → op_value operators.Sltu v (next_word c) ≡ truth_word (not (nat_lt c v))
unfolding op_value
not_above v c lc ne = grind (arith, nat_tests)

power : (c : ℕ) → is_power c ≡ true → 2 ^ (exponent c % 32) ≡ c
power c e = eqb-true (2 ^ (exponent c % 32)) c e

module _ {s : State} {d : ℕ} (q c : ℕ) {v u : ℕ} {i : Plain} (ok : IsTarget d) (left : read 0 s.regs q ≡ v) (lv : v < 2 ^ 32) (lc : c < 2 ^ 32) where
  given : (x : Plain) → x ≡ i → Gives (x ∷ []) s d u → Gives (i ∷ []) s d u
  given x e g = subst (λ i. Gives (i ∷ []) s d u) e g

  -- an instruction that there is where a test holds
  when : (b : Bool) (x : Plain) → (if b then Some x else None) ≡ Some i → (b ≡ true → Gives (x ∷ []) s d u) → Gives (i ∷ []) s d u
  when b x is g = let there = cond_some b x i is in given x there.1 (g there.0)

  -- or else another one
  either : (b : Bool) (o p : Option Plain) → (if b then o else p) ≡ Some i → (b ≡ true → o ≡ Some i → Gives (i ∷ []) s d u)
      → (b ≡ false → p ≡ Some i → Gives (i ∷ []) s d u) → Gives (i ∷ []) s d u
  either b o p is first second = cond_both b o p (λ o. o ≡ Some i → Gives (i ∷ []) s d u) first second is

  small_gives : (op : ImmOp) → (if is_small c then Some (Imm op d q (half c)) else None) ≡ Some i → value_of (imm_operator op) v c ≡ Some u
      → Gives (i ∷ []) s d u
  small_gives op is e = when (is_small c) _ is (λ _. imm_gives ok left op c lc (direct (imm_operator op) v c u e))

  half_gives : (op : LogicOp) → (if nat_lt c 65536 then Some (Logic op d q c) else None) ≡ Some i → value_of (logic_operator op) v c ≡ Some u
      → Gives (i ∷ []) s d u
  half_gives op is e = when (nat_lt c 65536) _ is (λ lt. logic_gives ok left op c (ltb-true c 65536 lt) e)

  pub immediate_gives : (op : Op) → immediate op d q c ≡ Some i → op_result op v c ≡ Some u → Gives (i ∷ []) s d u
  immediate_gives Add is e = small_gives Addiu is e
  immediate_gives Sub is e = when (is_small (opposite c)) _ is
      (λ _. imm_gives ok left Addiu (opposite c) (omega (arith, lc)) (sum_turned v c lc ∙ direct operators.Subu v c u e))
  immediate_gives And is e = half_gives Andi is e
  immediate_gives Or is e = half_gives Ori is e
  immediate_gives Xor is e = either (nat_lt c 65536) (Some (Logic Xori d q c)) _ is
      (λ lt is. given (Logic Xori d q c) (same_Some _ i is) (logic_gives ok left Xori c (ltb-true c 65536 lt) e))
      (λ _ is. when (nat_eq c 4294967295) _ is (λ all.
      let value : 2 ^ 32 - 1 - v ≡ u = same_Some _ u (sym (complement-is v lv) ∙ (rw (eqb-true c 4294967295 all) at e)) in
      one (op_value operators.Nor (read 0 s.regs q) 0) ok (alu_runs s alu.Nor d q 0) (rw left (sym (complement_agrees v lv) ∙ value))))
  immediate_gives Shl is e = given (Shift Sll d q (c % 32)) (same_Some _ i is) (by_gives ok left Sll c e)
  immediate_gives ShrU is e = given (Shift Srl d q (c % 32)) (same_Some _ i is) (by_gives ok left Srl c e)
  immediate_gives ShrS is e = given (Shift Sra d q (c % 32)) (same_Some _ i is) (by_gives ok left Sra c e)
  immediate_gives Eq is e = when (nat_eq c 0) _ is (λ zero. imm_gives ok left Sltiu 1 (omega arith)
      (is_zero v ∙ same_Some (truth_word (v == 0)) u (rw (eqb-true c 0 zero) at e)))
  immediate_gives Ne is e = when (nat_eq c 0) _ is (λ zero. one (op_value operators.Sltu 0 (read 0 s.regs q)) ok (alu_runs s alu.Sltu d 0 q)
      (rw left (is_some v ∙ same_Some (truth_word (not (v == 0))) u (rw (eqb-true c 0 zero) at e))))
  immediate_gives LtS is e = small_gives Slti is e
  immediate_gives LtU is e = small_gives Sltiu is e
  immediate_gives LeS is e = when (is_small (next_word c)) _ is (λ small. imm_gives ok left Slti (next_word c) (omega arith)
      (not_above_signed v c lv lc small ∙ same_Some (truth_word (not (int_lt (signed c) (signed v)))) u e))
  immediate_gives LeU is e = either (nat_eq c 4294967295) None _ is (λ _ is. absurd (none-some i is))
      (λ less is. when (is_small (next_word c)) _ is (λ _. imm_gives ok left Sltiu (next_word c) (omega arith)
      (not_above v c lc (eqb-false c 4294967295 less) ∙ same_Some (truth_word (not (nat_lt c v))) u e)))
  immediate_gives Mul is e = when (is_power c) _ is (λ b. by_gives ok left Sll (exponent c) (ap (λ n. Some (wrap (v * n))) (power c b) ∙ e))
  immediate_gives DivU is e = when (is_power c) _ is (λ b. by_gives ok left Srl (exponent c)
      (ap (λ n. Some (v / n)) (power c b) ∙ (if_some (has_quotient Unsigned v c) (Some (v / c)) u e).1))
  immediate_gives RemU is e = either (is_power c) _ None is
      (λ b is. when (nat_lt (c - 1) 65536) _ is (λ lt.
      let low : bit_and v (c - 1) ≡ v % c = ap (λ n. bit_and v (n - 1)) (sym (power c b)) ∙ and_mask v (exponent c % 32) ∙ ap (λ n. v % n) (power c b) in
      logic_gives ok left Andi (c - 1) (ltb-true (c - 1) 65536 lt) (ap Some low ∙ (if_some (has_quotient Unsigned v c) (Some (v % c)) u e).1)))
      (λ _ is. absurd (none-some i is))
  immediate_gives _ is e = absurd (none-some i is)

pub less_gives : (op : Op) (s : State) (d q v w u : ℕ) (i : Plain) (known : Option ℕ) → IsTarget d → read 0 s.regs q ≡ w → v < 2 ^ 32 → w < 2 ^ 32
    → ((c : ℕ) → known ≡ Some c → c ≡ v) → turned_less_of op d q known ≡ Some i → op_result op v w ≡ Some u → Gives (i ∷ Logic Xori d d 1 ∷ []) s d u
less_gives LeS s d q v w u i (Some c) ok left lv lw said is e =
    let same : c ≡ v = said c refl in
    then_turned (int_lt (signed w) (signed c)) ok (rw same e)
    (immediate_gives q c ok left lw (omega (arith, same, lv)) LtS is refl)
less_gives LeU s d q v w u i (Some c) ok left lv lw said is e =
    let same : c ≡ v = said c refl in
    then_turned (nat_lt w c) ok (rw same e)
    (immediate_gives q c ok left lw (omega (arith, same, lv)) LtU is refl)
less_gives _ s d q v w u i _ ok left lv lw said is e = absurd (none-some i is)

-- an instruction and a second one, as the first and the rest of what they are
pub one_or_two_are : (i : Plain) (s : Option Plain) (l : List Plain) → take 1 l ≡ i ∷ [] → drop 1 l ≡ option_to_list s → one_or_two i s ≡ l
one_or_two_are i s l first rest = ap₂ (λ a b. a ++ b) (sym first) (sym rest) ∙ take-append-drop 1 l
