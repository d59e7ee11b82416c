-- The operators make words of words, and actions keep a state's words.
use Rattle.std.proofs.Common.{ℕ, zero, suc, ◌+◌, ◌-◌, ◌*◌, ◌%◌, ◌^◌, ◌<◌, Bool, true, false, cond, ◌&&◌, ◌==◌}
use Rattle.std.proofs.Common.{nat_le, List, length, inl, inr, sym, subst, arith}
use Rattle.std.specs.Prelude.{All, slice_index}
use Rattle.std.proofs.lemmas.Bool.{cases_lt}
use Rattle.std.proofs.lemmas.List.{get_or_past}
use Rattle.std.proofs.lemmas.List.Elements.{All-get_or}
use Rattle.words.specs.declared.width.Width.{Width}
use Rattle.words.specs.declared.width.Width.TheVariants.{Word, Byte}
use Rattle.words.specs.Words.{wrap}
use Rattle.mips_isa.specs.declared.action.Operand.{Operand}
use Rattle.mips_isa.specs.declared.action.Operand.TheVariants.{Held, Fixed}
use Rattle.mips_isa.specs.declared.action.Action.{Action}
use Rattle.mips_isa.specs.declared.action.Action.TheVariants.{Computes, Sets, Loads, Stores, Multiplies, Divides, MovesHigh, MovesLow}
use Rattle.words.proofs.Bounds.{op_words}
use Rattle.mips_isa.specs.States.{State, IsWords, is_register, read, put, is_open, is_inside, byte_of}
use Rattle.mips_isa.specs.States.{load_word, load_byte, load_at, store_word, store_byte, store_at}
use Rattle.mips_isa.specs.Starting.{data_base, stack_base, stack_end, start_state}
use Rattle.mips_isa.specs.Actions.{operand, address, state_after, product_high, product_low, quotient_operator, remainder_operator}

either_below : (b : Bool) (x y : ℕ) → x < 2 ^ 32 → y < 2 ^ 32 → cond b x y < 2 ^ 32
either_below true x y hx hy = hx
either_below false x y hx hy = hy

either_byte : (b : Bool) (x y : ℕ) → x < 2 ^ 8 → y < 2 ^ 8 → cond b x y < 2 ^ 8
either_byte true x y hx hy = hx
either_byte false x y hx hy = hy

word_of_bytes : (a b c d : ℕ) → a < 2 ^ 8 → b < 2 ^ 8 → c < 2 ^ 8 → d < 2 ^ 8 → a * 2 ^ 24 + b * 2 ^ 16 + c * 2 ^ 8 + d < 2 ^ 32
word_of_bytes a b c d ha hb hc hd = omega arith

pub load_below : (w : Width) (mapped : ℕ → Bool) (memory : ℕ → ℕ) (a : ℕ) → ((b : ℕ) → memory b < 2 ^ 8) → load_at w mapped memory a < 2 ^ 32
unfolding load_word load_byte
load_below Word mapped memory a h =
    either_below (is_open Word mapped a) _ 0 (word_of_bytes _ _ _ _ (h a) (h (a + 1)) (h (a + 2)) (h (a + 3))) (omega arith)
load_below Byte mapped memory a h = let small = h a in either_below (is_open Byte mapped a) (memory a) 0 (omega arith) (omega arith)

pub byte_below : (v k : ℕ) → byte_of v k < 2 ^ 8
byte_below v (suc (suc zero)) = omega arith
byte_below v _ = omega arith

pub store_below : (w : Width) (mapped : ℕ → Bool) (memory : ℕ → ℕ) (a v : ℕ) → ((b : ℕ) → memory b < 2 ^ 8) → (b : ℕ)
    → store_at w mapped memory a v b < 2 ^ 8
unfolding store_word store_byte
store_below Word mapped memory a v h b =
    either_byte (is_open Word mapped a && is_inside a b) (byte_of v (b - a)) (memory b) (byte_below v (b - a)) (h b)
store_below Byte mapped memory a v h b = either_byte (is_open Byte mapped a && (b == a)) (v % 2 ^ 8) (memory b) (omega arith) (h b)

pub put_below : (f : ℕ → ℕ) (d v : ℕ) → ((r : ℕ) → f r < 2 ^ 32) → v < 2 ^ 32 → (r : ℕ) → put f d v r < 2 ^ 32
put_below f d v h hv r = either_below (is_register d && (r == d)) v (f r) hv (h r)

pub read_below : (f : ℕ → ℕ) → ((r : ℕ) → f r < 2 ^ 32) → (r : ℕ) → read 0 f r < 2 ^ 32
read_below f h zero = omega arith
read_below f h (suc r) = h (suc r)

pub operand_below : (s : State) (x : Operand) → IsWords s → operand s x < 2 ^ 32
operand_below s (Held r) h = read_below s.regs h.regs r
operand_below s (Fixed w) h = omega arith

pub after_words : (a : Action) (s : State) → IsWords s → IsWords (state_after a s)
after_words (Computes d op x y) s h =
    record { regs = put_below s.regs d _ h.regs (op_words op _ _ (read_below s.regs h.regs x) (operand_below s y h)); hi = h.hi; lo = h.lo; memory = h.memory }
after_words (Sets d w) s h = record { regs = put_below s.regs d (wrap w) h.regs (omega arith); hi = h.hi; lo = h.lo; memory = h.memory }
after_words (Loads w d base offset) s h =
    record { regs = put_below s.regs d _ h.regs (load_below w s.mapped s.memory (address s base offset) h.memory); hi = h.hi; lo = h.lo; memory = h.memory }
after_words (Stores w r base offset) s h =
    record { regs = h.regs; hi = h.hi; lo = h.lo; memory = store_below w s.mapped s.memory (address s base offset) (read 0 s.regs r) h.memory }
after_words (Multiplies sign x y) s h =
    let a = read_below s.regs h.regs x in
    let b = read_below s.regs h.regs y in
    record { regs = h.regs; hi = op_words (product_high sign) _ _ a b; lo = op_words (product_low sign) _ _ a b; memory = h.memory }
after_words (Divides sign x y) s h =
    let a = read_below s.regs h.regs x in
    let b = read_below s.regs h.regs y in
    record { regs = h.regs; hi = op_words (remainder_operator sign) _ _ a b; lo = op_words (quotient_operator sign) _ _ a b; memory = h.memory }
after_words (MovesHigh d) s h = record { regs = put_below s.regs d _ h.regs h.hi; hi = h.hi; lo = h.lo; memory = h.memory }
after_words (MovesLow d) s h = record { regs = put_below s.regs d _ h.regs h.lo; hi = h.hi; lo = h.lo; memory = h.memory }

-- the state at the start has words in its registers, and bytes in its memory
pub index_small : (bytes : List ℕ) (k : ℕ) → All (λ b. b < 2 ^ 8) bytes → slice_index bytes k < 2 ^ 8
index_small bytes k h = elim (cases_lt k (length bytes)) [
  | inl lt ↦ All-get_or (λ b. b < 2 ^ 8) bytes k 0 lt h
  | inr le ↦ subst (λ x. x < 2 ^ 8) (sym (get_or_past bytes k 0 le)) (omega arith)
]

pub start_words : (bytes : List ℕ) → All (λ b. b < 2 ^ 8) bytes → IsWords (start_state bytes)
start_words bytes h = record {
  regs = put_below (λ r. 0) 29 stack_end (λ r. omega arith) (omega arith);
  hi = omega arith;
  lo = omega arith;
  memory = λ a. either_byte (nat_le stack_base a) 0 _ (omega arith)
      (either_byte (nat_le data_base a) (slice_index bytes (a - data_base)) 0 (index_small bytes (a - data_base) h) (omega arith));
}
