use Rattle.std.proofs.Common.{arith}
use Rattle.mcc_web.proofs.Fronts.{fault_given}
use Rattle.mcc_web.proofs.answers.give.Goals as goal

pub returns-in-Err-Faulty-clause-faulty : goal.returns-in-Err-Faulty-clause-faulty
returns-in-Err-Faulty-clause-faulty g c =
    let m = g.C.FileCommand.meaning c.args.command.now in
    let broken = rw c.in-Err-Faulty.field-0-is at c.in-Err-Faulty.ensures.broken in
    fault_given (m.Faults c.args.bytes.now) m.line c.in-Err-Faulty.found c.new-told.result c.tell.new.err
    c.give.new.status _ c.give.result c.args.out.now c.give.new.out
    broken.0 c.new-told.ensures.lines c.tell.ensures.told c.give.ensures.given

pub returns-in-Ok-clause-refused : goal.returns-in-Ok-clause-refused
returns-in-Ok-clause-refused g c = λ is. absurd (omega (arith, is, c.in-Ok.ensures.possible.0))
