use Rattle.host.proofs.Told.{line_on}
use Rattle.driver.specs.BuildTexts.{build_fault_text}
use Rattle.driver.proofs.build_command.tell_build.Goals as goal

pub returns-in-Limit-clause-told : goal.returns-in-Limit-clause-told
returns-in-Limit-clause-told g c =
    line_on g.E.Complaints.tells _ _ _ (build_fault_text c.args.fault) c.tell_placed-status.ensures.told c.tell_limit.ensures
