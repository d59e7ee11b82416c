use Rattle.std.proofs.Common.{◌≤◌, sym, subst, arith}
use Rattle.image.specs.Images.{CountsOf, total}
use Rattle.sched_phase.specs.Schedules.{IsScheduled}
use Rattle.mips_asm.proofs.assembly.assemble.Goals as goal
use Rattle.image.specs.declared.limits.TheConstants.{COUNTED_BLOCKS}

pub image_of-requires-clause-version : goal.image_of-requires-clause-version
image_of-requires-clause-version c =
    let sound : IsScheduled c.args.scheduled.now = c.report-report.ensures.sound in
    let counted = sound.counted in
    let few = sound.unit.few in
    subst (λ (n : CountsOf). total n ≤ COUNTED_BLOCKS) (sym c.report-report.ensures.value) (omega arith)
