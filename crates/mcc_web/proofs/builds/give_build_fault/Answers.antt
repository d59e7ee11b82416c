use Rattle.driver.specs.BuildFaults.{IsBuildFault}
use Rattle.driver.specs.BuildTexts.{build_fault_text}
use Rattle.mcc_web.proofs.Fronts.{fault_given}
use Rattle.mcc_web.proofs.builds.give_build_fault.Goals as goal

pub returns-clause-faulty : goal.returns-clause-faulty
returns-clause-faulty c =
    fault_given (IsBuildFault c.args.text.now c.args.depth) build_fault_text c.args.fault c.new-told.result c.tell_build.new.err
    c.give.new.status _ c.give.result c.args.out.now c.give.new.out
    c.requires c.new-told.ensures.lines c.tell_build.ensures.told c.give.ensures.given
