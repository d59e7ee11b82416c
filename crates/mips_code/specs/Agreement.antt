-- A run of a program beside one of the machine: both end alike and write the same.
use Rattle.std.specs.Prelude.{◌≡◌}
use Rattle.runs.specs.declared.ran.End.{End}
use Rattle.runs.specs.declared.ran.End.TheVariants.{Done, Wrong, More}
use Rattle.runs.specs.Runs.{Outcome}
use Rattle.mips_code.specs.declared.steps.Ending.{Ending}
use Rattle.mips_code.specs.declared.steps.Ending.TheVariants as endings
use Rattle.mips_code.specs.Machines as machine

-- an end of the machine that says what an end of a program says; it is never stuck
abbrev pub EndsAs : End → Ending → Type 0
EndsAs (Done w) e = e ≡ endings.Halt w
EndsAs Wrong e = ⊥
EndsAs More e = e ≡ endings.More

pub record Agrees (program : Outcome) (machine : machine.MachineOutcome) : Type 0 where
  pub end : EndsAs program.end machine.end
  pub output : machine.output ≡ program.output
