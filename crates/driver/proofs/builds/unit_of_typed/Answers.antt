use Rattle.std.proofs.Common.{rules}
use Rattle.c_types.specs.Shape.{program_of}
use Rattle.driver.proofs.build_command.Composed.{selected}
use Rattle.driver.proofs.build_command.Counts.{too_long, unit_few}
use Rattle.driver.proofs.builds.unit_of_typed.Goals as goal

pub returns-in-Ok-select-clause-unit : goal.returns-in-Ok-select-clause-unit
returns-in-Ok-select-clause-unit c = λ text spelled. record {
  program = program_of c.args.typed.now;
  spelled = spelled;
  runs = selected (program_of c.args.typed.now) c.in-Ok.rtl c.in-Ok-select.unit c.args.depth c.requires c.in-Ok.ensures.rtl.runs c.in-Ok-select.ensures.runs;
  few = unit_few _ c.in-Ok.rtl c.in-Ok-select.unit c.in-Ok.ensures.rtl.counted c.in-Ok.ensures.rtl.fits c.in-Ok-select.ensures.unit;
}

pub returns-in-Err-Limit-clause-fault : goal.returns-in-Err-Limit-clause-fault
returns-in-Err-Limit-clause-fault c = λ text spelled.
    too_long text (program_of c.args.typed.now) c.in-Ok.rtl c.args.depth spelled c.in-Ok.ensures.rtl (c.in-Err-Limit.ensures.limit (search rules))

pub returns-in-Err-clause-fault : goal.returns-in-Err-clause-fault
returns-in-Err-clause-fault c = λ text spelled. c.in-Err.ensures.fault text c.args.depth spelled
