use Rattle.std.proofs.Common.{◌≡◌, ◌-◌, None}
use Rattle.runs.specs.Portions.{WentOn}
use Rattle.runs.proofs.Portions.{HeldFewer}
use Rattle.runs.specs.declared.ran.End.TheVariants.{More}
use Rattle.c_run.specs.Portions.{comes_to}
use Rattle.c_run.proofs.portions.UnderWay.go_on.Given as goal

abbrev pub invariant-loop-ran : goal.invariant-loop-ran
invariant-loop-ran l = record {
  went : WentOn comes_to More l.steps l.fn.self l.self (record { end = None; ran = l.ran });
  program : l.self.program ≡ l.fn.self.program;
  depth : l.self.depth ≡ l.fn.self.depth;
  fewer : HeldFewer comes_to More l.steps l.fn.self l.outputs l.ran;
}

abbrev pub decreases-loop-ran : goal.decreases-loop-ran
decreases-loop-ran l = l.steps - l.ran
