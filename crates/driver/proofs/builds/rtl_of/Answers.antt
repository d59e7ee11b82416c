use Rattle.std.proofs.lemmas.Result.{IfOk-weaker}
use Rattle.driver.specs.Stages.{IsRtlOf}
use Rattle.driver.proofs.builds.rtl_of.Goals as goal

pub returns-clause-spelled : goal.returns-clause-spelled
returns-clause-spelled c =
    IfOk-weaker _ _ (IsRtlOf c.args.text.now) (λ rtl lowered. record { program = _; spelled = c.in_ok-typed.ensures.typed; lowered = lowered })
    c.rtl_of_typed.ensures.rtl
