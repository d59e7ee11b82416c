-- Each step over homes is one step over pseudo-registers.
use Rattle.std.proofs.Common.{◌≡◌, ◌≢◌, ℕ, zero, suc, ◌+◌, ◌<◌, Bool, true, false, not, ◌&&◌, List, [], ◌∷◌, ◌++◌, Option, Some, None, refl, sym}
use Rattle.std.proofs.Common.{◌∙◌, ap, subst, arith, append_assoc, append-nil, length, nat_eq, nat_lt, eqb-true, eq-eqb, ne_eqb, true≢false}
use mathlib.Core.Path.{fun_ext}
use Rattle.std.specs.Prelude.{slice_get, if◌then◌else◌, ◌==◌, map}
use Rattle.std.proofs.lemmas.Bool.{and_parts, or_right, cond_both}
use Rattle.std.proofs.lemmas.Bool.Decides.{nat_tests}
use Rattle.std.proofs.lemmas.List.{length_push}
use Rattle.std.proofs.lemmas.Option.{same_Some}
use Rattle.words.specs.Words.{wrap}
use Rattle.runs.specs.Stores.{Places, unset_places, places_with, Arrays, element_at, arrays_with}
use Rattle.runs.specs.Runs as Runs
use Rattle.rtl.specs.declared.block.RGlobal.{RGlobal}
use Rattle.rtl.specs.Operators.{op_result}
use Rattle.rtl.specs.Names.{inst_names, optional, exit_names, insts_names, blocks_names}
use Rattle.rtl.specs.Meaning as Meaning
use Rattle.rtl.specs.Meaning.{Code, code_of, words_in, argument_registers, kept_in, first_values, rtl_step, rtl_steps, rtl_start}
use Rattle.rtl.proofs.Copies.{goes_block}
use Rattle.mips_homes.specs.Locals.{inst_reads, inst_writes, reads_first, block_reads_first, goes_to, some_go_to}
use Rattle.mips_homes.specs.HomedRun.{cells, Surroundings, around, is_callee_saved, callee_saved, Activation, new_activation, Run, Running}
use Rattle.mips_homes.specs.HomedRun.{Ended, Failed, with_value, in_home, read_home, read_homes, write_at, write_home, write_homes, is_in}
use Rattle.mips_homes.specs.HomedRun.{registers_at_entry, registers_at_return, with_inst, at_code, state_at_block, with_result}
use Rattle.mips_homes.specs.HomedRun.{state_after_return, state_after_call, state_after_exit, step_at, homed_step, homed_steps, homed_start}
use Rattle.mips_homes.specs.HomedRun.{homed_run, outcome}
use Rattle.mips_homes.specs.Homes.{HasHome, HaveHomes, AreHomes, AreAllHomes, cell}
use Rattle.mips_homes.specs.Forgetting.{ForgetsNothing}
use Rattle.mips_homes.specs.Laws.{KeepsRtlRuns}
use Rattle.mips_homes.specs.declared.homed.Home.{Home}
use Rattle.mips_homes.specs.declared.homed.Home.TheVariants.{Reg, Slot, Copied}
use Rattle.mips_homes.specs.declared.homed.Frame.{Frame}
use Rattle.mips_homes.specs.declared.homed.Homed.{Homed}
use Rattle.rtl.specs.declared.instruction.RInst.{RInst}
use Rattle.rtl.specs.declared.instruction.RInst.TheVariants.{Const, Move, Bin, Load, Store}
use Rattle.rtl.specs.declared.instruction.RExit.{RExit}
use Rattle.rtl.specs.declared.instruction.RExit.TheVariants.{Goto, Branch, Call, Return, Out}
use Rattle.rtl.specs.declared.block.RBlock.{RBlock}

-- what is left of a block names none without a home, and goes only where exits of the function go
pub record CodeHasHomes (hs : List Home) (blocks : List RBlock) (c : Code) : Type 0 where
  pub insts : HaveHomes hs (insts_names c.insts)
  pub exit : HaveHomes hs (exit_names c.exit)
  pub goes : (t : ℕ) → is_in (goes_to c.exit) t ≡ true → some_go_to blocks t ≡ true

named_parts : (hs : List Home) (xs ys : List ℕ) → HaveHomes hs (xs ++ ys) → HaveHomes hs xs × HaveHomes hs ys
named_parts hs [] ys n = (tt, n)
named_parts hs (x ∷ xs) ys n = let rest = named_parts hs xs ys n.1 in ((n.0, rest.0), rest.1)

named_homes : (hs : List Home) (bs : List RBlock) (b : ℕ) (block : RBlock) → HaveHomes hs (blocks_names bs) → slice_get bs b ≡ Some block
    → HaveHomes hs (insts_names block.insts.items) × HaveHomes hs (exit_names block.exit)
named_homes hs [] b block n e = absurd cc
named_homes hs (k ∷ bs) zero block n e =
    let insts = named_parts hs (insts_names k.insts.items) (exit_names k.exit ++ blocks_names bs) n in
    rw (← same_Some k block e) (insts.0, (named_parts hs (exit_names k.exit) (blocks_names bs) insts.1).0)
named_homes hs (k ∷ bs) (suc b) block n e =
    let insts = named_parts hs (insts_names k.insts.items) (exit_names k.exit ++ blocks_names bs) n in
    named_homes hs bs b block (named_parts hs (exit_names k.exit) (blocks_names bs) insts.1).1 e

named_block : (hs : List Home) (bs : List RBlock) (b : ℕ) (block : RBlock) → HaveHomes hs (blocks_names bs) → slice_get bs b ≡ Some block
    → CodeHasHomes hs bs (code_of block)
named_block hs bs b block n e =
    let homes = named_homes hs bs b block n e in
    record { insts = homes.0; exit = homes.1; goes = goes_block bs b block e }

-- a home that doesn't outlive a block
abbrev pub is_caller_saved : Home → Bool
is_caller_saved (Reg r) = not (is_callee_saved r)
is_caller_saved _ = false

-- homes that outlive blocks
abbrev pub AreCalleeSaved : List Home → Type 0
AreCalleeSaved hs = (x r : ℕ) → slice_get hs x ≡ Some (Reg r) → is_callee_saved r ≡ true

-- a home holds what its pseudo-register holds, unless it is caller-saved and no longer wanted; and where no home is caller-saved, only
-- callee-saved registers hold words
pub record Agrees (hs : List Home) (registers slots regs : Places) (wanted : ℕ → Bool) : Type 0 where
  pub by : (x : ℕ) (h : Home) → slice_get hs x ≡ Some h → (is_caller_saved h ≡ true → wanted x ≡ true) → in_home registers slots h ≡ regs x
  pub only : AreCalleeSaved hs → callee_saved registers ≡ registers

reads : {hs : List Home} {registers slots regs : Places} {wanted : ℕ → Bool} {x : ℕ} → Agrees hs registers slots regs wanted → HasHome hs x
    → wanted x ≡ true → read_home hs registers slots x ≡ regs x
reads {x = x} ag has w = rw has.is (ag.by x has.home has.is (λ _. w))

-- if all is wanted, then what is wanted
enough : {hs : List Home} {registers slots regs : Places} {wanted : ℕ → Bool} → Agrees hs registers slots regs (λ x. true)
    → Agrees hs registers slots regs wanted
enough ag = record { by = λ x h at m. ag.by x h at (λ _. refl); only = ag.only }

-- the registers of the activation below, once this one has returned
abbrev pub below : (saved : List ℕ) (aside registers : Places) → Places
below saved aside registers = registers_at_return saved aside (callee_saved registers)

other : (p : Places) (x : ℕ) (v : Option ℕ) (y : ℕ) → y ≢ x → places_with p x v y ≡ p y
other p x v y ne = rw (ne_eqb y x ne)

same_place : (p : Places) (x : ℕ) (v : Option ℕ) → places_with p x v x ≡ v
same_place p x v = rw (eq-eqb x x refl)

-- what a write changes comes back when the activation returns
restored_write : (saved : List ℕ) (aside registers : Places) (r : ℕ) (v : Option ℕ) → (is_callee_saved r ≡ true → is_in saved r ≡ true)
    → below saved aside (places_with registers r v) ≡ below saved aside registers
restored_write saved aside registers r v kept = fun_ext (λ q. grind (arith, nat_tests))

callee_saved_twice : (registers : Places) → callee_saved (callee_saved registers) ≡ callee_saved registers
callee_saved_twice registers = fun_ext (λ q. grind (arith, nat_tests))

-- a write to a callee-saved register, and a function's entry, leave words in callee-saved registers alone
written_only : (registers : Places) (r : ℕ) (v : Option ℕ) → callee_saved registers ≡ registers → is_callee_saved r ≡ true
    → callee_saved (places_with registers r v) ≡ places_with registers r v
written_only registers r v e l = fun_ext (λ q. let same = ap (λ (p : Places). p q) e in grind (arith, nat_tests))

entry_only : (saved : List ℕ) (registers : Places)
    → callee_saved (registers_at_entry saved (callee_saved registers)) ≡ registers_at_entry saved (callee_saved registers)
entry_only saved registers = fun_ext (λ q. grind (arith, nat_tests))

-- what a call puts aside comes back
restored_cleared : (saved : List ℕ) (registers : Places)
    → below saved (callee_saved registers) (registers_at_entry saved (callee_saved registers)) ≡ callee_saved registers
restored_cleared saved registers = fun_ext (λ q. grind (arith, nat_tests))

pub is_in_first : (x : ℕ) (xs : List ℕ) → is_in (x ∷ xs) x ≡ true
is_in_first x xs = rw (eq-eqb x x refl)

is_in_later : (x y : ℕ) (xs : List ℕ) → is_in xs x ≡ true → is_in (y ∷ xs) x ≡ true
is_in_later x y xs e = or_right (nat_eq x y) (is_in xs x) e

reads_all : {hs : List Home} {registers slots regs : Places} {wanted : ℕ → Bool} (xs : List ℕ) → Agrees hs registers slots regs wanted
    → HaveHomes hs xs → ((x : ℕ) → is_in xs x ≡ true → wanted x ≡ true) → read_homes hs registers slots xs ≡ words_in regs xs
reads_all [] ag n all = refl
reads_all (x ∷ xs) ag n all = rw (reads ag n.0 (all x (is_in_first x xs)), reads_all xs ag n.1 (λ y e. all y (is_in_later y x xs e)))

-- what is wanted behind an instruction is wanted before it, unless it writes it
kept_by : (i : RInst) (is : List RInst) (e : RExit) (x : ℕ) → is_in (inst_writes i) x ≡ false → reads_first is e x ≡ true → reads_first (i ∷ is) e x ≡ true
kept_by i is e x out t = rw (out, t) (cond_both (is_in (inst_reads i) x) true true (λ b. b ≡ true) (λ _. refl) (λ _. refl))

-- one more word behind some
pushed : (ws : List ℕ) (v x : ℕ) → slice_get (ws ++ v ∷ []) x ≡ places_with (slice_get ws) (length ws) (Some v) x
pushed [] v zero = refl
pushed [] v (suc x) = grind (arith, nat_tests)
pushed (w ∷ ws) v zero = grind (arith, nat_tests)
pushed (w ∷ ws) v (suc x) = grind (arith, nat_tests, pushed ws v x)

module _ {hs : List Home} {saved : List ℕ} {blocks : List RBlock} (ok : AreHomes hs saved blocks) where
  -- at the end of a block only callee-saved registers matter
  settles : {registers slots regs : Places} {wanted : ℕ → Bool} → Agrees hs registers slots regs wanted → (b : ℕ) → some_go_to blocks b ≡ true
      → (block : RBlock) → slice_get blocks b ≡ Some block → Agrees hs (callee_saved registers) slots regs (block_reads_first block)
  settles {registers} {slots} {regs} ag b goes block there = record { by = by; only = λ _. callee_saved_twice registers }
    where
      by : (x : ℕ) (h : Home) → slice_get hs x ≡ Some h → (is_caller_saved h ≡ true → block_reads_first block x ≡ true)
          → in_home (callee_saved registers) slots h ≡ regs x
      by x (Reg r) at m = grind (arith, ag.by x (Reg r) at, m, λ (passes : is_callee_saved r ≡ false). ok.local x r at passes b block there goes)
      by x h at m = ag.by x h at (λ c. absurd (true≢false (sym c)))

  -- a function begins with all its homes unset
  all_unset : (registers : Places) → Agrees hs (registers_at_entry saved (callee_saved registers)) unset_places unset_places (λ x. true)
  all_unset registers = record { by = λ x h at m. unset x h at; only = λ _. entry_only saved registers }
    where
      unset : (x : ℕ) (h : Home) → slice_get hs x ≡ Some h → in_home (registers_at_entry saved (callee_saved registers)) unset_places h ≡ None
      unset x (Reg r) at = let kept = ok.kept x r at in grind (arith, kept)
      unset x _ at = refl

abbrev pub ResultHasHome : Option ℕ → List Activation → Type 0
ResultHasHome d [] = Unit {0}
ResultHasHome d (a ∷ ws) = HaveHomes a.frame.homes.items (optional d)

abbrev pub plain : List Activation → List Places → List Meaning.Frame
plain [] rs = []
plain (a ∷ ws) [] = []
plain (a ∷ ws) (r ∷ rs) = record { blocks = a.blocks; registers = r; code = a.code; result_to = a.result_to } ∷ plain ws rs

module _ (h : Homed) where
  -- a frame of the program, whose homes serve these blocks, and what stands below its activation
  pub record Stands (frame : Frame) (blocks : List RBlock) (to : Option ℕ) (ws : List Activation) (Below : Type 0) : Type 0 where
    pub homes : AreHomes frame.homes.items frame.saved.items blocks
    pub number : ℕ
    pub is_frame : slice_get h.frames.items number ≡ Some frame
    pub dest : ResultHasHome to ws
    pub stack : Below

  -- the registers of each activation, as they are once those above have returned
  abbrev pub Stack : Places → List Activation → List Places → Type 0
  Stack registers [] [] = Unit {0}
  Stack registers (a ∷ ws) (r ∷ rs) =
      Stands a.frame a.blocks a.result_to ws (Stack (below a.frame.saved.items a.aside registers) ws rs)
      × Agrees a.frame.homes.items registers a.slots r (reads_first a.code.insts a.code.exit) × CodeHasHomes a.frame.homes.items a.blocks a.code
  Stack registers _ _ = ⊥

  abbrev pub Alike : Run → Meaning.Run → Type 0
  Alike (Running registers [] g out) t = ⊥
  Alike (Running registers (a ∷ ws) g out) t =
      (r : Places) × (rs : List Places) × (t ≡ Runs.Running (plain (a ∷ ws) (r ∷ rs)) g out) × Stack registers (a ∷ ws) (r ∷ rs)
  Alike (Ended v out) t = t ≡ Runs.Ended v out
  Alike (Failed out) t = t ≡ Runs.Failed out

  -- the same value on both sides
  both_value : {A : Type 0} {o o' : Option A} (out : List ℕ) (go : A → Run) (go' : A → Meaning.Run) → o ≡ o'
      → ((v : A) → o ≡ Some v → Alike (go v) (go' v)) → Alike (with_value o out go) (Runs.with_value o' out go')
  both_value {A} {o} out go go' e f = rw (← e) (by o refl)
    where
      by : (o1 : Option A) → o ≡ o1 → Alike (with_value o1 out go) (Runs.with_value o1 out go')
      by None e = refl
      by (Some v) e = f v e

  -- the same test on both sides
  both_if : (b : Bool) (s s' : Run) (t t' : Meaning.Run) → (b ≡ true → Alike s t) → Alike s' t'
      → Alike (if b then s else s') (if b then t else t')
  both_if true s s' t t' met else_met = met refl
  both_if false s s' t t' met else_met = else_met

  -- an activation's homes, and what it has put aside
  module _ {hs : List Home} {saved : List ℕ} {blocks : List RBlock} (ok : AreHomes hs saved blocks) (aside : Places) where
    -- a write to a home
    writes : {registers slots regs : Places} {wanted wanted' : ℕ → Bool} {d : ℕ} (v : ℕ) (out : List ℕ) (go : Places → Places → Run) (t : Meaning.Run)
        → Agrees hs registers slots regs wanted → HasHome hs d → ((y : ℕ) → nat_eq y d ≡ false → wanted' y ≡ true → wanted y ≡ true)
        → ((registers' slots' : Places) → Agrees hs registers' slots' (places_with regs d (Some v)) wanted'
        → below saved aside registers' ≡ below saved aside registers → Alike (go registers' slots') t)
        → Alike (write_home (cells hs registers slots) d v out go) t
    writes {registers} {slots} {regs} {wanted} {wanted'} {d} v out go t ag has lift f = rw has.is (at has.home has.is)
      where
        -- a write that changes no other cell
        put : (h : Home) → slice_get hs d ≡ Some h → (registers' slots' : Places) → in_home registers' slots' h ≡ Some v
            → ((k : Home) → cell k ≢ cell h → in_home registers' slots' k ≡ in_home registers slots k)
            → below saved aside registers' ≡ below saved aside registers → (AreCalleeSaved hs → callee_saved registers' ≡ registers')
            → Alike (go registers' slots') t
        put h is registers' slots' here there back only = f registers' slots' (record { by = λ y k at m. by y k at m (nat_eq y d) refl; only = only }) back
          where
            by : (y : ℕ) (k : Home) → slice_get hs y ≡ Some k → (is_caller_saved k ≡ true → wanted' y ≡ true) → (b : Bool) → nat_eq y d ≡ b
                → in_home registers' slots' k ≡ (if b then Some v else regs y)
            by y k at m true e = rw (same_Some k h (sym at ∙ ap (slice_get hs) (eqb-true y d e) ∙ is)) here
            by y k at m false e =
                let apart : cell k ≢ cell h = λ same. true≢false (sym (eq-eqb y d (ok.apart y d k h at is same)) ∙ e) in
                there k apart ∙ ag.by y k at (λ c. lift y e (m c))

        reg_other : (r : ℕ) (k : Home) → cell k ≢ Reg r → in_home (places_with registers r (Some v)) slots k ≡ in_home registers slots k
        reg_other r (Reg q) ne = other registers r (Some v) q (λ e. ne (ap Reg e))
        reg_other r _ ne = refl

        slot_other : (s : ℕ) (k : Home) → cell k ≢ Slot s → in_home registers (places_with slots s (Some v)) k ≡ in_home registers slots k
        slot_other s (Reg q) ne = refl
        slot_other s (Slot q) ne = other slots s (Some v) q (λ e. ne (ap Slot e))
        slot_other s (Copied p q) ne = other slots s (Some v) q (λ e. ne (ap Slot e))

        at : (h : Home) → slice_get hs d ≡ Some h → Alike (write_at h registers slots v go) t
        at (Reg r) is = put (Reg r) is (places_with registers r (Some v)) slots (same_place registers r (Some v)) (reg_other r)
            (restored_write saved aside registers r (Some v) (ok.kept d r is)) (λ lasts. written_only registers r (Some v) (ag.only lasts) (lasts d r is))
        at (Slot s) is = put (Slot s) is registers (places_with slots s (Some v)) (same_place slots s (Some v)) (slot_other s) refl ag.only
        at (Copied p s) is = put (Copied p s) is registers (places_with slots s (Some v)) (same_place slots s (Some v)) (slot_other s) refl ag.only

    -- words into the homes of the pseudo-registers from x on, behind those that are written
    writes_all : {registers slots : Places} {wanted : ℕ → Bool} (ws : List ℕ) (x : ℕ) (vs : List ℕ) (out : List ℕ) (go : Places → Places → Run)
        (t : Meaning.Run) → length ws ≡ x → Agrees hs registers slots (argument_registers ws) wanted → ((y : ℕ) → y < x + length vs → HasHome hs y)
        → ((registers' slots' : Places) → Agrees hs registers' slots' (argument_registers (ws ++ vs)) wanted
        → below saved aside registers' ≡ below saved aside registers → Alike (go registers' slots') t)
        → Alike (write_homes (cells hs registers slots) x vs out go) t
    writes_all {registers} {slots} ws x [] out go t long ag has f = f registers slots (rw (append-nil ws) ag) refl
    writes_all {wanted = wanted} ws x (v ∷ vs) out go t long ag has f =
        writes {wanted' = wanted} v out _ t ag (has x (omega arith)) (λ y _ m. m) (λ r1 s1 ag1 e1.
        let one : Agrees hs r1 s1 (argument_registers (ws ++ v ∷ [])) wanted = rw (fun_ext (pushed ws v), long) ag1 in
        writes_all (ws ++ v ∷ []) (suc x) vs out go t (omega (arith, length_push ws v)) one (λ y lt. has y (omega (arith, lt))) (λ r2 s2 ag2 e2.
        f r2 s2 (rw append_assoc at ag2) (e2 ∙ e1)))

    -- one instruction
    performs : {r s regs : Places} (globals : List RGlobal) (i : RInst) (is : List RInst) (e : RExit) (g : Arrays) (out : List ℕ)
        (go : Places → Places → Arrays → Run) (go' : Places → Arrays → Meaning.Run)
        → Agrees hs r s regs (reads_first (i ∷ is) e) → HaveHomes hs (inst_names i)
        → ((r' s' regs' : Places) (g' : Arrays) → Agrees hs r' s' regs' (reads_first is e) → below saved aside r' ≡ below saved aside r
        → Alike (go r' s' g') (go' regs' g'))
        → Alike (with_inst globals i (cells hs r s) g out go) (Meaning.with_inst globals i regs g out go')
    performs {r} {s} {regs} globals i is e g out go go' ag n f = at i ag n
      where
        Before : RInst → Type 0
        Before i = Agrees hs r s regs (reads_first (i ∷ is) e)

        get : (i : RInst) (x : ℕ) → Before i → HasHome hs x → is_in (inst_reads i) x ≡ true → read_home hs r s x ≡ regs x
        get i x ag has t = reads ag has (rw t)

        put : (i : RInst) (d v : ℕ) → Before i → HasHome hs d → inst_writes i ≡ d ∷ []
            → Alike (write_home (cells hs r s) d v out (λ r' s'. go r' s' g)) (go' (places_with regs d (Some v)) g)
        put i d v ag has same = writes {wanted' = reads_first is e} v out _ _ ag has
            (λ y ne t. kept_by i is e y (rw (same, ne)) t) (λ r' s' ag' e'. f r' s' _ g ag' e')

        at : (i : RInst) → Before i → HaveHomes hs (inst_names i)
            → Alike (with_inst globals i (cells hs r s) g out go) (Meaning.with_inst globals i regs g out go')
        at (Const d w) ag n = put (Const d w) d (wrap w) ag n.0 refl
        at (Move d a) ag n = both_value _ _ _ (get (Move d a) a ag n.1.0 (is_in_first a [])) (λ v _. put (Move d a) d v ag n.0 refl)
        at (Bin op d a b) ag n =
            both_value _ _ _ (get (Bin op d a b) a ag n.1.0 (is_in_first a (b ∷ []))) (λ x _.
            both_value _ _ _ (get (Bin op d a b) b ag n.1.1.0 (is_in_later b a (b ∷ []) (is_in_first b []))) (λ y _.
            both_value {o = op_result op x y} _ _ _ refl (λ v _. put (Bin op d a b) d v ag n.0 refl)))
        at (Load d a i) ag n =
            both_value _ _ _ (get (Load d a i) i ag n.1.0 (is_in_first i [])) (λ x _.
            both_value {o = element_at g a x} _ _ _ refl (λ v _. put (Load d a i) d v ag n.0 refl))
        at (Store a i b) ag n =
            both_value _ _ _ (get (Store a i b) i ag n.0 (is_in_first i (b ∷ []))) (λ x _.
            both_value _ _ _ (get (Store a i b) b ag n.1.0 (is_in_later b i (b ∷ []) (is_in_first b []))) (λ v _.
            both_value {o = kept_in globals a v} _ _ _ refl (λ w _.
            both_value {o = arrays_with g a x w} _ _ _ refl (λ g' _.
            f r s regs g' (record { by = λ y h at m. ag.by y h at (λ c. kept_by (Store a i b) is e y refl (m c)); only = ag.only }) refl))))

  as_deep : (registers : Places) (ws : List Activation) (rs : List Places) → Stack registers ws rs → length (plain ws rs) ≡ length ws
  as_deep registers [] [] s = refl
  as_deep registers (a ∷ ws) (r ∷ rs) s = ap suc (as_deep (below a.frame.saved.items a.aside registers) ws rs (s.0).stack)
  as_deep registers _ _ s = absurd s

  -- registers that come back the same leave what stands below
  still : {frame : Frame} {blocks : List RBlock} {to : Option ℕ} {ws : List Activation} {p p' : Places} (rs : List Places)
      → Stands frame blocks to ws (Stack p ws rs) → p' ≡ p → Stands frame blocks to ws (Stack p' ws rs)
  still {frame} {blocks} {to} {ws} rs at e = subst (λ p. Stands frame blocks to ws (Stack p ws rs)) (sym e) at

  -- a result
  returns : (o : Option ℕ) (a : Activation) (registers : Places) (ws : List Activation) (rs : List Places) (g : Arrays) (out : List ℕ)
      → ResultHasHome a.result_to ws → Stack (below a.frame.saved.items a.aside registers) ws rs
      → Alike (state_after_return o a (callee_saved registers) ws g out) (Meaning.state_after_return o a.result_to (plain ws rs) g out)
  returns o a registers [] [] g out dest st = both_value {o = o} out _ _ refl (λ v _. refl)
  returns o a registers (w ∷ ws) (r ∷ rs) g out dest st = to a.result_to dest
    where
      under : Places
      under = below a.frame.saved.items a.aside registers

      to : (d : Option ℕ) → HaveHomes w.frame.homes.items (optional d)
          → Alike (with_result d o (cells w.frame.homes.items under w.slots) out (λ r' s'. Running r' (at_code w s' w.code ∷ ws) g out))
          (Meaning.with_result d o r out
          (λ r'. Runs.Running (record { blocks = w.blocks; registers = r'; code = w.code; result_to = w.result_to } ∷ plain ws rs) g out))
      to None n = (r, rs, refl, st)
      to (Some d) n =
          both_value {o = o} out _ _ refl (λ v _.
          writes (st.0).homes w.aside {wanted' = reads_first w.code.insts w.code.exit} v out _ _ st.1 n.0
          (λ y _ m. m) (λ r' s' ag' e. (places_with r d (Some v), rs, refl, (still rs (st.0) e, ag', st.2))))
  returns o a registers _ _ g out dest st = absurd st

  module _ (all : AreAllHomes h) (depth : ℕ) where
    -- what is around the same activation over pseudo-registers
    abbrev over : Option ℕ → Surroundings → List Places → Meaning.Surroundings
    over to u rs =
        record { program = h.rtl.now; depth = depth; result_to = to; waiting = plain u.below rs; globals = u.arrays; output = u.output }

    jumps : (b : ℕ) (a : Activation) (slots regs : Places) (u : Surroundings) (rs : List Places)
        → Stands a.frame a.blocks a.result_to u.below (Stack (below a.frame.saved.items a.aside u.registers) u.below rs)
        → ((block : RBlock) → slice_get a.blocks b ≡ Some block → Agrees a.frame.homes.items u.registers slots regs (block_reads_first block))
        → Alike (state_at_block b a slots u) (Meaning.state_at_block (over a.result_to u rs) a.blocks regs b)
    jumps b a slots regs u rs at ag = both_value _ _ _ refl (λ block e.
        let code = named_block a.frame.homes.items a.blocks b block at.homes.named e in
        (regs, rs, refl, (at, ag block e, code)))

    calls : (f : ℕ) (vs : List ℕ) (dest : Option ℕ) (u : Surroundings) (rs : List Places) → ResultHasHome dest u.below
        → Stack (callee_saved u.registers) u.below rs
        → Alike (state_after_call h depth f vs dest (record u { registers = callee_saved u.registers })) (Meaning.state_after_call (over dest u rs) f vs)
    calls f vs dest u rs dn st = both_value _ _ _ refl (λ func is.
        let has = all.by f func is in
        let frame = has.0 in
        let kept = callee_saved u.registers in
        rw (has.1, as_deep kept u.below rs st) (both_if (nat_lt (length u.below) depth && (length vs == func.parameters)) _ _ _ _ (λ fits.
        let many : length vs ≡ func.parameters = eqb-true _ _ (and_parts (nat_lt (length u.below) depth) (length vs == func.parameters) fits).1 in
        writes_all has.2.homes kept [] 0 vs u.output _ _ refl (all_unset has.2.homes u.registers)
        (λ y lt. has.2.parameters y (omega (arith, lt, many))) (λ r' s' ag e.
        jumps 0 (new_activation func.blocks.items frame s' kept dest) s' (argument_registers vs) (record u { registers = r' }) rs (record {
          homes = has.2.homes;
          number = f;
          is_frame = has.1;
          dest = dn;
          stack = subst (λ p. Stack p u.below rs) (sym (e ∙ restored_cleared frame.saved.items u.registers)) st;
        }) (λ block _. enough ag))) refl))

    module _ (a : Activation) (regs : Places) (u : Surroundings) (rs : List Places)
        (at : Stands a.frame a.blocks a.result_to u.below (Stack (below a.frame.saved.items a.aside u.registers) u.below rs)) where
      abbrev hs : List Home
      hs = a.frame.homes.items

      -- once an exit has left what is callee-saved
      leaves : Stands a.frame a.blocks a.result_to u.below (Stack (below a.frame.saved.items a.aside (callee_saved u.registers)) u.below rs)
      leaves = still rs at (ap (registers_at_return a.frame.saved.items a.aside) (callee_saved_twice u.registers))

      goes_on : {wanted : ℕ → Bool} → Agrees hs u.registers a.slots regs wanted → (out : List ℕ) (b : ℕ) → some_go_to a.blocks b ≡ true
          → Alike (state_at_block b a a.slots (record u { registers = callee_saved u.registers; output = out }))
          (Meaning.state_at_block (over a.result_to (record u { output = out }) rs) a.blocks regs b)
      goes_on ag out b there =
          jumps b a a.slots regs (record u { registers = callee_saved u.registers; output = out }) rs leaves (settles at.homes ag b there)

      exits : (exit : RExit) → Agrees hs u.registers a.slots regs (reads_first [] exit) → HaveHomes hs (exit_names exit)
          → ((t : ℕ) → is_in (goes_to exit) t ≡ true → some_go_to a.blocks t ≡ true)
          → Alike (state_after_exit h depth exit a u) (Meaning.state_after_exit (over a.result_to u rs) a.blocks regs exit)
      exits (Goto b) ag n goes = goes_on ag u.output b (goes b (is_in_first b []))
      exits (Branch c x y) ag n goes = both_value _ _ _ (reads ag n.0 (is_in_first c [])) (λ v _.
          goes_on ag u.output (if v == 0 then y else x) (goes (if v == 0 then y else x) (grind (arith, nat_tests))))
      exits (Call f xs d next) ag n goes =
          both_value _ _ _ (reads_all xs.items ag (named_parts hs xs.items (optional d) n).0 (λ x t. t)) (λ vs _.
          both_value _ _ _ refl (λ block e.
          calls f vs d (record u { below = at_code a a.slots (code_of block) ∷ u.below }) (regs ∷ rs) (named_parts hs xs.items (optional d) n).1
          (leaves, settles at.homes ag next (goes next (is_in_first next [])) block e, named_block hs a.blocks next block at.homes.named e)))
      exits (Return None) ag n goes = returns None a u.registers u.below rs u.arrays u.output at.dest at.stack
      exits (Return (Some x)) ag n goes = both_value _ _ _ (reads ag n.0 (is_in_first x [])) (λ v _.
          returns (Some v) a u.registers u.below rs u.arrays u.output at.dest at.stack)
      exits (Out x next) ag n goes = both_value _ _ _ (reads ag n.0 (is_in_first x [])) (λ v _.
          goes_on ag (u.output ++ v ∷ []) next (goes next (is_in_first next [])))

      code_alike : (is : List RInst) (exit : RExit) → Agrees hs u.registers a.slots regs (reads_first is exit)
          → CodeHasHomes hs a.blocks (record { insts = is; exit = exit })
          → Alike (step_at h depth is exit a u) (Meaning.step_at (over a.result_to u rs) a.blocks regs is exit)
      code_alike [] exit ag code = exits exit ag code.exit code.goes
      code_alike (i ∷ is) exit ag code =
          let names = named_parts hs (inst_names i) (insts_names is) code.insts in
          performs at.homes a.aside (h.rtl.now).globals i is exit u.arrays u.output _ _ ag names.0 (λ r' s' regs' g' ag' e.
          (regs', rs, refl, (still rs at e, ag', record { insts = names.1; exit = code.exit; goes = code.goes })))

    pub steps_alike : (s : Run) (t : Meaning.Run) → Alike s t → Alike (homed_step h depth s) (rtl_step (h.rtl.now) depth t)
    steps_alike (Running registers [] g out) t m = absurd m
    steps_alike (Running registers (a ∷ ws) g out) t m =
        rw m.2 (code_alike a m.0 (around registers ws g out) m.1 m.3.0 a.code.insts a.code.exit m.3.1 m.3.2)
    steps_alike _ t m = ap (rtl_step (h.rtl.now) depth) m

    pub runs_alike : (n : ℕ) (s : Run) (t : Meaning.Run) → Alike s t → Alike (homed_steps h depth n s) (rtl_steps (h.rtl.now) depth n t)
    runs_alike zero s t m = m
    runs_alike (suc n) s t m = runs_alike n (homed_step h depth s) (rtl_step (h.rtl.now) depth t) (steps_alike s t m)

    -- at the start all homes are unset
    pub starts_alike : Alike (homed_start h) (rtl_start (h.rtl.now))
    starts_alike = both_value _ _ _ refl (λ func is.
        let has = all.by (h.rtl.now).main func is in
        rw has.1 (jumps 0 (new_activation func.blocks.items has.0 unset_places unset_places None) unset_places unset_places
        (around unset_places [] (map first_values (h.rtl.now).globals) []) []
        (record { homes = has.2.homes; number = (h.rtl.now).main; is_frame = has.1; dest = tt; stack = tt })
        (λ block there. record { by = λ x h at m. empty h; only = λ _. fun_ext (λ q. grind (arith, nat_tests)) })))
      where
        empty : (h : Home) → in_home unset_places unset_places h ≡ None
        empty (Reg r) = refl
        empty _ = refl

  -- where all homes are callee-saved
  pub only_callee_saved : ((i : ℕ) (frame : Frame) → slice_get h.frames.items i ≡ Some frame → AreCalleeSaved frame.homes.items)
      → (s : Run) (t : Meaning.Run) → Alike s t → ForgetsNothing s
  only_callee_saved each (Running registers [] g out) t m = absurd m
  only_callee_saved each (Running registers (a ∷ ws) g out) t m = m.3.1.only (each (m.3.0).number a.frame (m.3.0).is_frame)
  only_callee_saved each (Ended v out) t m = tt
  only_callee_saved each (Failed out) t m = tt

  same_outcome : (s : Run) (t : Meaning.Run) → Alike s t → outcome s ≡ Runs.outcome t
  same_outcome (Running registers [] g out) t m = absurd m
  same_outcome (Running registers (a ∷ ws) g out) t m = sym (ap Runs.outcome m.2)
  same_outcome _ t m = sym (ap Runs.outcome m)

pub each_homed_run : (h : Homed) → AreAllHomes h → KeepsRtlRuns homed_run h
each_homed_run h all depth n =
    same_outcome h (homed_steps h depth n (homed_start h)) (rtl_steps (h.rtl.now) depth n (rtl_start (h.rtl.now)))
    (runs_alike h all depth n (homed_start h) (rtl_start (h.rtl.now)) (starts_alike h all depth))
