use Rattle.c_types.specs.Shape.{program_of}
use Rattle.c_run.specs.Portions.{state_of}
use Rattle.c_run.proofs.Going.{output_before}
use Rattle.driver.proofs.interp_command.UnderWayResumable.clear_output.Goals as goal

pub returns : goal.returns
returns c = λ n.
    let old = c.args.self.now in
    let new = c.clear_output.ensures in
    rw (new.state, new.program, new.depth) (output_before (program_of old.program.now) old.depth n (state_of old))
