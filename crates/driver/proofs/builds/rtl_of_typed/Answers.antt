use Rattle.c_types.specs.Shape.{program_of}
use Rattle.driver.proofs.build_command.Counts.{lowered_with_tails}
use Rattle.driver.proofs.builds.rtl_of_typed.Goals as goal

pub returns-clause-rtl : goal.returns-clause-rtl
returns-clause-rtl c =
    lowered_with_tails (program_of c.args.typed.now) c.in-Ok.rtl c.in_ok-rtl.rtl c.in-Ok.ensures.runs c.in-Ok.ensures.sizes c.in-Ok.ensures.program
    c.in_ok-rtl.ensures.tails c.in_ok-rtl.ensures.runs
