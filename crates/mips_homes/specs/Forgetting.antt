-- Over which homes the end of a block forgets nothing.
use Rattle.std.specs.Prelude.{◌≡◌, ℕ}
use Rattle.mips_homes.specs.HomedRun.{callee_saved, Run, Running, Ended, Failed, homed_steps, homed_start}
use Rattle.mips_homes.specs.Choice.{AreChoices}
use Rattle.mips_homes.specs.declared.homed.Homed.{Homed}

-- each register that holds a word outlives a block
abbrev pub ForgetsNothing : Run → Type 0
ForgetsNothing (Running registers ws g out) = callee_saved registers ≡ registers
ForgetsNothing (Ended v out) = Unit {0}
ForgetsNothing (Failed out) = Unit {0}

-- so it is at each bound after every number of steps
abbrev pub NeverForgets : Homed → Type 0
NeverForgets h = (depth n : ℕ) → ForgetsNothing (homed_steps h depth n (homed_start h))

-- where the eight pseudo-registers with most occurrences live in callee-saved registers, and all others in slots
abbrev pub EachChoiceNeverForgets : Type 0
EachChoiceNeverForgets = (h : Homed) → AreChoices h → NeverForgets h
