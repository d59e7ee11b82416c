use Rattle.std.proofs.Common.{refl, rules}
use Rattle.std.proofs.lemmas.Result.{IfOk-weaker}
use Rattle.runs.proofs.Running.{comes-to}
use Rattle.c_types.specs.Shape.{program_of}
use Rattle.c_typed.specs.Meaning.{source_step, source_start}
use Rattle.c_run.specs.Interpreter.{frame_of}
use Rattle.c_run.proofs.steps.run.Goals as goal

pub returns : goal.returns
returns c =
    let p = program_of c.args.program.now in
    IfOk-weaker c.run_steps.result _ _
    (λ r h. comes-to frame_of (source_step p c.args.depth) (source_start p) c.in_ok-interpreter.interpreter c.args.steps _
    (record { ended = λ w out. refl; failed = λ out. refl }) c.in_ok-interpreter.ensures (λ m new r s. search rules) h) c.run_steps.ensures
