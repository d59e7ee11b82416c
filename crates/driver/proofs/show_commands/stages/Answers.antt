use Rattle.std.proofs.Common.{inl, rules}
use Rattle.driver.proofs.build_command.Counts.{too_long}
use Rattle.driver.proofs.show_commands.stages.Goals as goal

pub shown_of-requires : goal.shown_of-requires
shown_of-requires c = let of = c.in-Ok.ensures.spelled in (of.program, of.spelled)

pub returns-in-Err-Limit-clause-fault : goal.returns-in-Err-Limit-clause-fault
returns-in-Err-Limit-clause-fault c = let of = c.in-Ok.ensures.spelled in
    inl (too_long c.args.text.now of.program c.in-Ok.rtl 1 of.spelled of.lowered (c.in-Err-Limit.ensures.limit (search rules)))

pub returns-clause-fault : goal.returns-clause-fault
returns-clause-fault c = let of = c.in-Ok.ensures.spelled in inl (of.program, of.spelled)
