use Rattle.mips_homes.specs.Choice.{IsChoice}
use Rattle.mips_homes.proofs.Framing.{frames_step, frames_end}
use Rattle.mips_homes.proofs.Chosen.{choice_keeps_runs}
use Rattle.mips_homes.proofs.Kept.{choice_remembers_runs}
use Rattle.mips_homes.specs.declared.homed.Homed.{Homed}
use Rattle.mips_homes.proofs.frames.homes.Goals as goal

pub loop-func-preserved : goal.loop-func-preserved
loop-func-preserved c =
    frames_step IsChoice _ c.functions-func-items.result.now _ _ c.loop-func.func-index c.func-item.result c.in_ok-frame.frame
    c.functions-func-items.ensures.value c.loop-func-test.true c.func-item.is c.in_ok-push.ensures.items c.in_ok-frame.ensures.choice c.loop-func.invariant

pub returns-clause-choices : goal.returns-clause-choices
returns-clause-choices c =
    let h : Homed = record { rtl = c.args.rtl; frames = c.loop-func.frames } in
    frames_end IsChoice h c.loop-func.func-index c.functions-func-items.result.now c.functions-func-items.ensures.value c.loop-func-test.false
    c.loop-func.auto.func-index-end c.loop-func.invariant

pub returns-clause-runs : goal.returns-clause-runs
returns-clause-runs c = choice_remembers_runs (record { rtl = c.args.rtl; frames = c.loop-func.frames }) (returns-clause-choices c)

pub returns-clause-forgetting : goal.returns-clause-forgetting
returns-clause-forgetting c = choice_keeps_runs (record { rtl = c.args.rtl; frames = c.loop-func.frames }) (returns-clause-choices c)
