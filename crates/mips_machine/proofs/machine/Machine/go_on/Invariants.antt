use Rattle.std.proofs.Common.{◌≡◌, ◌-◌, None}
use Rattle.runs.specs.Portions.{WentOn}
use Rattle.runs.proofs.Portions.{HeldFewer}
use Rattle.mips_code.specs.declared.steps.Ending.TheVariants.{More}
use Rattle.mips_machine.specs.Portions.{comes_to}
use Rattle.mips_machine.proofs.machine.Machine.go_on.Given as goal

abbrev pub invariant-loop-ran : goal.invariant-loop-ran
invariant-loop-ran l = record {
  went : WentOn comes_to More l.words l.fn.self l.self (record { end = None; ran = l.ran });
  code : l.self.code ≡ l.fn.self.code;
  fewer : HeldFewer comes_to More l.words l.fn.self l.outputs l.ran;
}

abbrev pub decreases-loop-ran : goal.decreases-loop-ran
decreases-loop-ran l = l.words - l.ran
