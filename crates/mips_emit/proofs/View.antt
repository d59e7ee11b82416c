-- Registers and words of a state, and what single instructions do to them.
use Rattle.std.proofs.Common.{◌≡◌, ◌≢◌, ℕ, ℤ, pos, zero, suc, ◌+◌, ◌*◌, ◌/◌, ◌%◌, ◌^◌, ◌<◌, Bool, true, false, List, [], ◌∷◌, Option, Some, refl, sym, ap, ◌∙◌}
use Rattle.std.proofs.Common.{arith, eqb-true}
use Rattle.std.specs.Prelude.{if◌then◌else◌, nat_eq, nat_lt, bit_or}
use Rattle.std.proofs.lemmas.Bool.{cond_both}
use Rattle.std.proofs.lemmas.Bool.Decides.{nat_tests}
use Rattle.std.proofs.lemmas.Nat.{or_shifted}
use Rattle.words.specs.declared.operator.Operator.TheVariants as operators
use Rattle.words.specs.declared.width.Width.{Width}
use Rattle.words.specs.declared.width.Width.TheVariants.{Word, Byte}
use Rattle.words.specs.Words.{wrap}
use Rattle.words.specs.Widths.{kept}
use Rattle.words.specs.Operators.{op_value}
use Rattle.mips_isa.specs.declared.inst.AluOp.{AluOp}
use Rattle.mips_isa.specs.declared.inst.AluOp.TheVariants.{Addu}
use Rattle.mips_isa.specs.declared.inst.ImmOp.{ImmOp}
use Rattle.mips_isa.specs.declared.inst.ImmOp.TheVariants.{Addiu}
use Rattle.mips_isa.specs.declared.inst.LogicOp.TheVariants.{Ori}
use Rattle.mips_isa.specs.declared.inst.ShiftOp.TheVariants.{Sll}
use Rattle.mips_isa.specs.declared.inst.Plain.{Plain}
use Rattle.mips_isa.specs.declared.inst.Plain.TheVariants.{Alu, Imm, Logic, LoadUpper, Load, Shift, Store}
use Rattle.mips_isa.specs.States.{State, IsWords, AreApart, read, put, is_open, load_at, store_at}
use Rattle.mips_isa.specs.Actions.{sign_extension, imm_operator, alu_operator}
use Rattle.mips_isa.proofs.Memory.{load_same, load-past-store}
use Rattle.mips_isa.proofs.StateWords as words
use Rattle.mips_homes.specs.declared.homed.Home.{Home}
use Rattle.mips_homes.specs.declared.homed.Home.TheVariants.{Reg}
use Rattle.mips_emit.specs.Locations.{inner_of}
use Rattle.mips_emit.specs.Elements.{width_bytes, address_of_place, data_middle, near, page, base_code, base_offset, base_word, base_index, shifted_offset}
use Rattle.mips_emit.specs.declared.offset.Offset.{Offset}
use Rattle.mips_emit.specs.Code.{is_small, half, constant, li, load_word_at, store_word_at, move_code}
use Rattle.mips_emit.proofs.Runs.{RunsTo, runs_then}

-- ---- memory and registers

-- what a load of a width sees at an address, and a word there
abbrev pub shown_at : Width → State → ℕ → ℕ
shown_at w s a = load_at w s.mapped s.memory a

abbrev pub word_at : State → ℕ → ℕ
word_at s a = shown_at Word s a

-- a register written, and memory
abbrev pub set : State → ℕ → ℕ → State
set s t v = record s { regs = put s.regs t v }

abbrev pub set_at : Width → State → ℕ → ℕ → State
set_at w s a v = record s { memory = store_at w s.mapped s.memory a v }

abbrev pub set_word : State → ℕ → ℕ → State
set_word s a v = set_at Word s a v

-- the number that an offset adds to an address
abbrev pub word_of_offset : ℤ → ℕ
word_of_offset z = wrap (sign_extension z)

-- a register that a write can change
pub record IsTarget (t : ℕ) : Type 0 where
  pub low : 0 < t
  pub high : t < 32

-- an inner temporary: a register below 4, and not the right operand's
pub record IsInner (t : ℕ) : Type 0 where
  pub low : 0 < t
  pub high : t < 4
  pub apart : t ≢ 2

pub inner_is : (l : Option Home) → IsInner (inner_of l)
inner_is (Some (Reg r)) = omega arith
inner_is _ = omega arith

pub put_here : (f : ℕ → ℕ) (t v : ℕ) → IsTarget t → put f t v t ≡ v
put_here f t v h = grind (arith, nat_tests)

pub put_other : (f : ℕ → ℕ) (t v r : ℕ) → r ≢ t → put f t v r ≡ f r
put_other f t v r ne = grind (arith, nat_tests)

pub read_register : (f : ℕ → ℕ) (r : ℕ) → 0 < r → read 0 f r ≡ f r
read_register f zero lt = absurd (omega (arith, lt))
read_register f (suc r) lt = refl

pub read_other : (f f' : ℕ → ℕ) (r : ℕ) → (0 < r → f' r ≡ f r) → read 0 f' r ≡ read 0 f r
read_other f f' zero same = refl
read_other f f' (suc r) same = same (omega arith)

pub shown_below : (w : Width) (s : State) (a : ℕ) → IsWords s → shown_at w s a < 2 ^ 32
shown_below w s a h = words.load_below w s.mapped s.memory a h.memory

pub word_below : (s : State) (a : ℕ) → IsWords s → word_at s a < 2 ^ 32
word_below s a h = shown_below Word s a h

pub set_words : (s : State) (t v : ℕ) → IsWords s → v < 2 ^ 32 → IsWords (set s t v)
set_words s t v h lt = record { regs = words.put_below s.regs t v h.regs lt; hi = h.hi; lo = h.lo; memory = h.memory }

pub set_at_words : (w : Width) (s : State) (a v : ℕ) → IsWords s → IsWords (set_at w s a v)
set_at_words w s a v h = record { regs = h.regs; hi = h.hi; lo = h.lo; memory = words.store_below w s.mapped s.memory a v h.memory }

pub shown_here : (w : Width) (s : State) (a v : ℕ) → is_open w s.mapped a ≡ true → v < 2 ^ 32 → shown_at w (set_at w s a v) a ≡ kept w v
shown_here w s a v ok lt = load_same w s.mapped s.memory a v ok lt

pub shown_other : (w u : Width) (s : State) (a v b : ℕ) → AreApart w a u b → shown_at u (set_at w s a v) b ≡ shown_at u s b
shown_other w u s a v b apart = load-past-store w u s.mapped s.memory a v b apart

pub word_here : (s : State) (a v : ℕ) → is_open Word s.mapped a ≡ true → v < 2 ^ 32 → word_at (set_word s a v) a ≡ v
word_here s a v ok lt = shown_here Word s a v ok lt

pub word_other : (s : State) (a v b : ℕ) → b ≢ a → word_at (set_word s a v) b ≡ word_at s b
word_other s a v b ne = shown_other Word Word s a v b (λ e. ne (sym e))

-- ---- instructions on registers

pub sum_value : (a b : ℕ) → op_value operators.Addu a b ≡ wrap (a + b)
unfolding op_value
sum_value a b = refl

-- one register into another
pub moves : (s : State) (t r : ℕ) → IsWords s → RunsTo (move_code t r ∷ []) s (set s t (read 0 s.regs r))
moves s t r w =
    let e : wrap (read 0 s.regs r + 0) ≡ read 0 s.regs r = omega (arith, words.read_below s.regs w.regs r) in
    record { ends = ap (λ v. Some (set s t v)) (sum_value (read 0 s.regs r) 0 ∙ e) }

pub alu_runs : (s : State) (op : AluOp) (t a b : ℕ) → RunsTo (Alu op t a b ∷ []) s (set s t (op_value (alu_operator op) (read 0 s.regs a) (read 0 s.regs b)))
alu_runs s op t a b = record { ends = refl }

-- with a word that fits 16 bits
pub imm_runs : (s : State) (op : ImmOp) (t a w : ℕ) → w < 2 ^ 32 → RunsTo (Imm op t a (half w) ∷ []) s
    (set s t (op_value (imm_operator op) (read 0 s.regs a) w))
imm_runs s op t a w lt = let same : word_of_offset (half w) ≡ w = grind (arith, nat_tests) in record { ends = rw same }

-- ---- loads and stores

-- at any offset
pub loads_at : (w : Width) (s : State) (t b : ℕ) (z : ℤ) (a : ℕ) → wrap (read 0 s.regs b + word_of_offset z) ≡ a → is_open w s.mapped a ≡ true
    → RunsTo (Load w t b z ∷ []) s (set s t (shown_at w s a))
loads_at w s t b z a e ok = record { ends = rw (sum_value (read 0 s.regs b) (word_of_offset z), e, ok) }

pub stores_at : (w : Width) (s : State) (t b : ℕ) (z : ℤ) (a : ℕ) → wrap (read 0 s.regs b + word_of_offset z) ≡ a → is_open w s.mapped a ≡ true
    → RunsTo (Store w t b z ∷ []) s (set_at w s a (read 0 s.regs t))
stores_at w s t b z a e ok = record { ends = rw (sum_value (read 0 s.regs b) (word_of_offset z), e, ok) }

-- a word of the frame
pub loads_word : (s : State) (t o : ℕ) → s.regs 29 + o < 2 ^ 32 → is_open Word s.mapped (s.regs 29 + o) ≡ true
    → RunsTo (load_word_at t o ∷ []) s (set s t (word_at s (s.regs 29 + o)))
loads_word s t o small ok = loads_at Word s t 29 (pos o) (s.regs 29 + o) (omega arith) ok

pub stores_word : (s : State) (t o : ℕ) → s.regs 29 + o < 2 ^ 32 → is_open Word s.mapped (s.regs 29 + o) ≡ true
    → RunsTo (store_word_at t o ∷ []) s (set_word s (s.regs 29 + o) (read 0 s.regs t))
stores_word s t o small ok = stores_at Word s t 29 (pos o) (s.regs 29 + o) (omega arith) ok

-- ---- constants

-- instructions that write register t alone, with word v
pub record Sets (is : List Plain) (s : State) (t v : ℕ) : Type 0 where
  pub regs : ℕ → ℕ
  pub runs : RunsTo is s (record s { regs = regs })
  pub here : regs t ≡ v
  pub others : (r : ℕ) → r ≢ t → regs r ≡ s.regs r

-- one register is written
pub set_sets : {is : List Plain} {s : State} {t v w : ℕ} → IsTarget t → v ≡ w → RunsTo is s (set s t v) → Sets is s t w
set_sets {s} {t} {v} ok e run = record { regs = put s.regs t v; runs = run; here = put_here s.regs t v ok ∙ e; others = λ r ne. put_other s.regs t v r ne }

pub constant_set : (s : State) (t w : ℕ) → IsTarget t → Sets (constant t w) s t (wrap w)
unfolding op_value
constant_set s t w ok =
    let high = wrap (w / 65536 % 65536 * 2 ^ 16) in
    let f = put s.regs t high in
    let low = bit_or (read 0 f t) (wrap (w % 65536)) in
    let shown : read 0 f t ≡ w / 65536 % 65536 * 2 ^ 16 = read_register f t ok.low ∙ put_here s.regs t high ok ∙ omega arith in
    let second : wrap (w % 65536) ≡ w % 65536 = omega arith in
    let fits : w % 65536 < 2 ^ 16 = omega arith in
    record {
      regs = put f t low;
      runs = record { ends = refl };
      here = put_here f t low ok ∙ rw (shown, second, or_shifted) (omega arith);
      others = λ r ne. put_other f t low r ne ∙ put_other s.regs t high r ne;
    }

pub li_sets : (s : State) (t w : ℕ) → IsTarget t → w < 2 ^ 32 → Sets (li t w) s t w
unfolding op_value
li_sets s t w ok lt =
    let same : wrap w ≡ w = omega (arith, lt) in
    cond_both (is_small w) (Imm Addiu t 0 (half w) ∷ []) _ (λ is. Sets is s t w)
    (λ _. set_sets {v = op_value operators.Addu 0 w} ok (omega (arith, lt)) (imm_runs s Addiu t 0 w lt))
    (λ _. cond_both (nat_lt w 65536) (Logic Ori t 0 w ∷ []) _ (λ is. Sets is s t w)
    (λ _. set_sets {v = bit_or 0 (wrap w)} ok same (record { ends = refl }))
    (λ _. cond_both (nat_eq (w % 65536) 0) (LoadUpper t (w / 65536 % 65536) ∷ []) _ (λ is. Sets is s t w)
    (λ e. let zero_low = eqb-true (w % 65536) 0 e in
    set_sets {v = wrap (w / 65536 % 65536 * 2 ^ 16)} ok (omega (arith, lt, zero_low)) (record { ends = refl }))
    (λ _. rw same at (constant_set s t w ok))))

-- ---- elements of globals

-- from register 28
pub near_word : (p : ℕ) → p < 65536 → wrap (data_middle + word_of_offset (near p)) ≡ address_of_place p
near_word p lt = grind (arith, nat_tests)

-- from an index to a base for an element, in register t
pub record Based (is : List Plain) (s : State) (t b : ℕ) : Type 0 where
  pub regs : ℕ → ℕ
  pub runs : RunsTo is s (record s { regs = regs })
  pub here : regs t ≡ b
  pub others : (r : ℕ) → r ≢ t → r ≢ 2 → regs r ≡ s.regs r

pub t2 : IsTarget 2
t2 = omega arith

-- a base is made from the word in register q
sums : (b : Bool) (s : State) (t q start k : ℕ) → IsTarget t → read 0 s.regs q ≡ k → q ≢ 2 → s.regs 28 ≡ data_middle → start < 1048576
    → Based (if b then Alu Addu t q 28 ∷ [] else LoadUpper 2 (page (address_of_place start)) ∷ Alu Addu t q 2 ∷ []) s t
    (wrap (k + (if b then data_middle else page (address_of_place start) * 65536)))
sums true s t q start k ok is apart gp few =
    let c : Sets (Alu Addu t q 28 ∷ []) s t (wrap (k + data_middle)) = set_sets ok (rw (is, gp) (sum_value k data_middle)) (alu_runs s Addu t q 28) in
    record { regs = c.regs; runs = c.runs; here = c.here; others = λ r n1 n2. c.others r n1 }
sums false s t q start k ok is apart gp few =
    let high = page (address_of_place start) in
    let a : Sets (LoadUpper 2 high ∷ []) s 2 (high * 65536) = set_sets {v = wrap (high * 2 ^ 16)} t2 (omega (arith, few)) (record { ends = refl }) in
    let m : State = record s { regs = a.regs } in
    let c : Sets (Alu Addu t q 2 ∷ []) m t (wrap (k + high * 65536)) =
    set_sets ok (rw (read_other s.regs a.regs q (λ _. a.others q apart), is, a.here) (sum_value k (high * 65536))) (alu_runs m Addu t q 2) in
    record { regs = c.regs; runs = runs_then a.runs c.runs; here = c.here; others = λ r n1 n2. c.others r n1 ∙ a.others r n2 }

pub based : (w : Width) (s : State) (t q start i : ℕ) → IsTarget t → t ≢ 2 → t ≢ 28 → read 0 s.regs q ≡ i → q ≢ 2 → s.regs 28 ≡ data_middle
    → start < 1048576 → Based (base_code w t start q) s t (wrap (width_bytes w * i + base_word start))
unfolding op_value
based Word s t q start i ok t_apart middle is apart gp few =
    let a : Sets (Shift Sll t q 2 ∷ []) s t (wrap (i * 4)) = set_sets ok (rw is refl) (record { ends = refl }) in
    let b = sums (nat_lt start 65536) (record s { regs = a.regs }) t t start (wrap (i * 4)) ok (read_register a.regs t ok.low ∙ a.here) t_apart
    (a.others 28 (λ e. middle (sym e)) ∙ gp) few in
    record { regs = b.regs; runs = runs_then a.runs b.runs; here = b.here ∙ omega arith; others = λ r n1 n2. b.others r n1 n2 ∙ a.others r n1 }
based Byte s t q start i ok t_apart middle is apart gp few =
    let one : 1 * i ≡ i = omega arith in
    rw one (sums (nat_lt start 65536) s t q start i ok is apart gp few)

-- from the base to the element
pub from_base : (start k b : ℕ) → start + k < 1048576 → b ≡ wrap (k + base_word start) → wrap (b + word_of_offset (base_offset start)) ≡ address_of_place (start + k)
from_base start k b few is = grind (arith, nat_tests)

-- and to one some places further
pub from_shifted : (w : Width) (start : ℕ) (o : Offset) (v b : ℕ) (f : ℕ → ℕ) → f o.register ≡ v → f o.register ≡ wrap (f o.base + o.word)
    → start + width_bytes w * v < 1048576 → b ≡ wrap (width_bytes w * f (base_index w start o) + base_word start)
    → wrap (b + word_of_offset (shifted_offset w start o.word)) ≡ address_of_place (start + width_bytes w * v)
from_shifted Word start o v b f at sum few is = grind (arith, nat_tests)
from_shifted Byte start o v b f at sum few is = grind (arith, nat_tests)
