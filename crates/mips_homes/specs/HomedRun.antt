-- What a program does where its pseudo-registers live in homes.
use Rattle.std.specs.Prelude.{ℕ, suc, ◌&&◌, ◌==◌, List, [], ◌∷◌, ◌++◌, Option, Some, None, length, nat_lt, if◌then◌else◌, slice_get, map}
use Rattle.words.specs.Words.{wrap}
use Rattle.runs.specs.declared.ran.End.TheVariants.{Done, Wrong, More}
use Rattle.runs.specs.Stores.{Places, unset_places, places_with, Arrays, chain, element_at, arrays_with}
use Rattle.runs.specs.Runs.{Outcome, steps}
use Rattle.rtl.specs.declared.block.RGlobal.{RGlobal}
use Rattle.rtl.specs.Operators.{op_result}
use Rattle.rtl.specs.Meaning.{Code, code_of, kept_in, first_values}
pub use Rattle.rtl.specs.Names.{is_in}
pub use Rattle.mips_homes.specs.Convention.{is_callee_saved}
use Rattle.mips_homes.specs.declared.homed.Home.{Home}
use Rattle.mips_homes.specs.declared.homed.Home.TheVariants.{Reg, Slot, Copied}
use Rattle.mips_homes.specs.declared.homed.Frame.{Frame}
use Rattle.mips_homes.specs.declared.homed.Homed.{Homed}
use Rattle.rtl.specs.declared.instruction.RInst.{RInst}
use Rattle.rtl.specs.declared.instruction.RInst.TheVariants.{Const, Move, Bin, Load, Store}
use Rattle.rtl.specs.declared.instruction.RExit.{RExit}
use Rattle.rtl.specs.declared.instruction.RExit.TheVariants.{Goto, Branch, Call, Return, Out}
use Rattle.rtl.specs.declared.block.RBlock.{RBlock}

-- an activation: its blocks, its homes, its slots, what it put aside, its code, and where its result goes
pub record Activation : Type 0 where
  pub blocks : List RBlock
  pub frame : Frame
  pub slots : Places
  pub aside : Places
  pub code : Code
  pub result_to : Option ℕ

-- before its first block
abbrev pub new_activation : List RBlock → Frame → (slots aside : Places) → Option ℕ → Activation
new_activation blocks frame slots aside to =
    record { blocks = blocks; frame = frame; slots = slots; aside = aside; code = record { insts = []; exit = Goto 0 }; result_to = to }

-- what an activation's homes are in: the registers, which all activations share, and its slots
pub record Cells : Type 0 where
  pub homes : List Home
  pub registers : Places
  pub slots : Places

abbrev pub cells : List Home → (registers slots : Places) → Cells
cells homes registers slots = record { homes = homes; registers = registers; slots = slots }

-- what is around an activation: the registers, the activations that wait below it, the globals and the output
pub record Surroundings : Type 0 where
  pub registers : Places
  pub below : List Activation
  pub arrays : Arrays
  pub output : List ℕ

abbrev pub around : Places → List Activation → Arrays → List ℕ → Surroundings
around registers below arrays output = record { registers = registers; below = below; arrays = arrays; output = output }

-- what a run goes by: what an exit keeps of the registers, the program over its homes, and at most how many activations wait
pub record Rules : Type 0 where
  pub keep : Places → Places
  pub homed : Homed
  pub depth : ℕ

abbrev pub rules : (keep : Places → Places) → Homed → (depth : ℕ) → Rules
rules keep h depth = record { keep = keep; homed = h; depth = depth }

-- how far a run has come: the registers, which all activations share, the activations, the globals and the output
pub data Run : Type 0 where
  Running : (registers : Places) → List Activation → Arrays → List ℕ → Run
  Ended : ℕ → List ℕ → Run
  Failed : List ℕ → Run

-- goes on with a value, or fails
abbrev pub with_value : {A : Type 0} → Option A → List ℕ → (A → Run) → Run
with_value None out go = Failed out
with_value (Some a) out go = go a

-- what a home holds: the word of a slot is in the slot, whether or not there is a copy
abbrev pub in_home : Places → Places → Home → Option ℕ
in_home registers slots (Reg r) = registers r
in_home registers slots (Slot k) = slots k
in_home registers slots (Copied r k) = slots k

-- what the home of a pseudo-register holds, or none where it has none
abbrev pub read_home : List Home → Places → Places → ℕ → Option ℕ
read_home homes registers slots x = chain (slice_get homes x) (in_home registers slots)

abbrev pub read_homes : List Home → Places → Places → List ℕ → Option (List ℕ)
read_homes homes registers slots [] = Some []
read_homes homes registers slots (x ∷ xs) =
    chain (read_home homes registers slots x) (λ v. chain (read_homes homes registers slots xs) (λ vs. Some (v ∷ vs)))

-- a word into a home
abbrev pub write_at : Home → Places → Places → ℕ → (Places → Places → Run) → Run
write_at (Reg r) registers slots v go = go (places_with registers r (Some v)) slots
write_at (Slot k) registers slots v go = go registers (places_with slots k (Some v))
write_at (Copied r k) registers slots v go = go registers (places_with slots k (Some v))

-- a word into the home of a pseudo-register
abbrev pub write_home : Cells → (x v : ℕ) → List ℕ → (Places → Places → Run) → Run
write_home c x v out go = with_value (slice_get c.homes x) out (λ h. write_at h c.registers c.slots v go)

-- words into the homes of the pseudo-registers from x on
abbrev pub write_homes : Cells → (x : ℕ) → List ℕ → List ℕ → (Places → Places → Run) → Run
write_homes c x [] out go = go c.registers c.slots
write_homes c x (v ∷ vs) out go = write_home c x v out (λ r s. write_homes (cells c.homes r s) (suc x) vs out go)

-- the registers that a function saves are unset at its entry, and come back at its return
abbrev pub registers_at_entry : List ℕ → Places → Places
registers_at_entry saved registers = λ r. if is_in saved r then None else registers r

abbrev pub registers_at_return : List ℕ → Places → Places → Places
registers_at_return saved aside registers = λ r. if is_in saved r then aside r else registers r

-- what the callee-saved registers hold; the others are unset
abbrev pub callee_saved : Places → Places
callee_saved registers = λ r. if is_callee_saved r then registers r else None

-- an instruction, with what it leaves in the registers, slots and globals
abbrev pub with_inst : List RGlobal → RInst → Cells → Arrays → List ℕ → (Places → Places → Arrays → Run) → Run
with_inst globals (Const d w) c g out go = write_home c d (wrap w) out (λ r s. go r s g)
with_inst globals (Move d a) c g out go =
    with_value (read_home c.homes c.registers c.slots a) out (λ v. write_home c d v out (λ r s. go r s g))
with_inst globals (Bin op d a b) c g out go =
    with_value (read_home c.homes c.registers c.slots a) out
    (λ x. with_value (read_home c.homes c.registers c.slots b) out
    (λ y. with_value (op_result op x y) out (λ v. write_home c d v out (λ r s. go r s g))))
with_inst globals (Load d a i) c g out go =
    with_value (read_home c.homes c.registers c.slots i) out
    (λ x. with_value (element_at g a x) out (λ v. write_home c d v out (λ r s. go r s g)))
with_inst globals (Store a i b) c g out go =
    with_value (read_home c.homes c.registers c.slots i) out
    (λ x. with_value (read_home c.homes c.registers c.slots b) out
    (λ v. with_value (kept_in globals a v) out
    (λ w. with_value (arrays_with g a x w) out (λ g'. go c.registers c.slots g'))))

-- an activation with other slots, at other code
abbrev pub at_code : Activation → Places → Code → Activation
at_code a s code = record { blocks = a.blocks; frame = a.frame; slots = s; aside = a.aside; code = code; result_to = a.result_to }

-- at the start of a block of the same function
abbrev pub state_at_block : ℕ → Activation → (slots : Places) → Surroundings → Run
state_at_block b a s u =
    with_value (slice_get a.blocks b) u.output (λ block. Running u.registers (at_code a s (code_of block) ∷ u.below) u.arrays u.output)

-- a result where one is wanted
abbrev pub with_result : Option ℕ → Option ℕ → Cells → List ℕ → (Places → Places → Run) → Run
with_result None o c out go = go c.registers c.slots
with_result (Some d) o c out go = with_value o out (λ v. write_home c d v out go)

-- a return: what was put aside comes back first, then the result is arrays_with in its home below
abbrev pub state_after_return : Option ℕ → Activation → Places → List Activation → Arrays → List ℕ → Run
state_after_return o a r [] g out = with_value o out (λ v. Ended v out)
state_after_return o a r (w ∷ ws) g out =
    with_result a.result_to o (cells w.frame.homes.items (registers_at_return a.frame.saved.items a.aside r) w.slots) out (λ r' s'.
    Running r' (at_code w s' w.code ∷ ws) g out)

-- a call: the arguments were read; the registers that the function saves are put aside and unset, and the parameters are set
abbrev pub state_after_call : Homed → (depth f : ℕ) → List ℕ → Option ℕ → Surroundings → Run
state_after_call h depth f vs dest u =
    with_value (slice_get (h.rtl.now).functions f) u.output (λ func. with_value (slice_get h.frames.items f) u.output (λ frame.
    if nat_lt (length u.below) depth && (length vs == func.parameters)
    then write_homes (cells frame.homes.items (registers_at_entry frame.saved.items u.registers) unset_places) 0 vs u.output (λ r s.
    state_at_block 0 (new_activation func.blocks.items frame s u.registers dest) s (around r u.below u.arrays u.output))
    else Failed u.output))

-- how a block is left: what it reads it reads first, and then the registers hold what an exit keeps of them
abbrev pub exit_keeping : Rules → RExit → Activation → Surroundings → Run
exit_keeping by (Goto b) a u = state_at_block b a a.slots (around (by.keep u.registers) u.below u.arrays u.output)
exit_keeping by (Branch c t e) a u =
    with_value (read_home a.frame.homes.items u.registers a.slots c) u.output
    (λ v. state_at_block (if v == 0 then e else t) a a.slots (around (by.keep u.registers) u.below u.arrays u.output))
exit_keeping by (Call f xs dest next) a u =
    with_value (read_homes a.frame.homes.items u.registers a.slots xs.items) u.output
    (λ vs. with_value (slice_get a.blocks next) u.output (λ block.
    state_after_call by.homed by.depth f vs dest
    (around (by.keep u.registers) (at_code a a.slots (code_of block) ∷ u.below) u.arrays u.output)))
exit_keeping by (Return None) a u = state_after_return None a (by.keep u.registers) u.below u.arrays u.output
exit_keeping by (Return (Some x)) a u =
    with_value (read_home a.frame.homes.items u.registers a.slots x) u.output
    (λ v. state_after_return (Some v) a (by.keep u.registers) u.below u.arrays u.output)
exit_keeping by (Out x next) a u =
    with_value (read_home a.frame.homes.items u.registers a.slots x) u.output
    (λ v. state_at_block next a a.slots (around (by.keep u.registers) u.below u.arrays (u.output ++ v ∷ [])))

-- one instruction, or the exit where none is left
abbrev pub code_keeping : Rules → List RInst → RExit → Activation → Surroundings → Run
code_keeping by [] exit a u = exit_keeping by exit a u
code_keeping by (i ∷ is) exit a u =
    with_inst (by.homed.rtl.now).globals i (cells a.frame.homes.items u.registers a.slots) u.arrays u.output (λ r s g.
    Running r (at_code a s (record { insts = is; exit = exit }) ∷ u.below) g u.output)

abbrev pub step_keeping : (keep : Places → Places) → Homed → ℕ → Run → Run
step_keeping keep h depth (Running r [] g out) = Failed out
step_keeping keep h depth (Running r (a ∷ ws) g out) = code_keeping (rules keep h depth) a.code.insts a.code.exit a (around r ws g out)
step_keeping keep h depth (Ended v out) = Ended v out
step_keeping keep h depth (Failed out) = Failed out

abbrev pub steps_keeping : (keep : Places → Places) → Homed → (depth n : ℕ) → Run → Run
steps_keeping keep h depth n run = steps (step_keeping keep h depth) n run

-- what a run that goes no further comes to
abbrev pub outcome : Run → Outcome
outcome (Running r ws g out) = record { end = More; output = out }
outcome (Ended s out) = record { end = Done s; output = out }
outcome (Failed out) = record { end = Wrong; output = out }

-- before the first step: `main`, and all homes unset
abbrev pub homed_start : Homed → Run
homed_start h =
    with_value (slice_get (h.rtl.now).functions (h.rtl.now).main) []
    (λ func. with_value (slice_get h.frames.items (h.rtl.now).main) [] (λ frame.
    state_at_block 0 (new_activation func.blocks.items frame unset_places unset_places None) unset_places
    (around unset_places [] (map first_values (h.rtl.now).globals) [])))

-- n steps of a program over its homes, with at most so many activations
abbrev pub run_keeping : (keep : Places → Places) → Homed → (depth n : ℕ) → Outcome
run_keeping keep h depth n = outcome (steps_keeping keep h depth n (homed_start h))

-- the run that forgets nothing: an exit keeps all registers
abbrev pub remembering_run : Homed → (depth n : ℕ) → Outcome
remembering_run h depth n = run_keeping (λ r. r) h depth n

-- the run that forgets at each exit what isn't in a callee-saved register or in a slot, and its parts
abbrev pub state_after_exit : Homed → (depth : ℕ) → RExit → Activation → Surroundings → Run
state_after_exit h depth exit a u = exit_keeping (rules callee_saved h depth) exit a u

abbrev pub step_at : Homed → (depth : ℕ) → List RInst → RExit → Activation → Surroundings → Run
step_at h depth is exit a u = code_keeping (rules callee_saved h depth) is exit a u

abbrev pub homed_step : Homed → ℕ → Run → Run
homed_step h depth run = step_keeping callee_saved h depth run

abbrev pub homed_steps : Homed → (depth n : ℕ) → Run → Run
homed_steps h depth n run = steps_keeping callee_saved h depth n run

abbrev pub homed_run : Homed → (depth n : ℕ) → Outcome
homed_run h depth n = run_keeping callee_saved h depth n
