use Rattle.std.proofs.Common.{refl, rules}
use Rattle.std.proofs.lemmas.Result.{IfOk-weaker}
use Rattle.runs.proofs.Running.{comes-to}
use Rattle.rtl.specs.Meaning.{rtl_step, rtl_start}
use Rattle.rtl.specs.Interpreter.{frame_of}
use Rattle.rtl.proofs.steps.run.Goals as goal

pub returns : goal.returns
returns c =
    IfOk-weaker c.run_steps.result _ _
    (λ r h. comes-to frame_of (rtl_step c.args.program.now c.args.depth) (rtl_start c.args.program.now) c.in_ok-interpreter.interpreter c.args.steps _
    (record { ended = λ w out. refl; failed = λ out. refl }) c.in_ok-interpreter.ensures (λ m new r s. search rules) h) c.run_steps.ensures
