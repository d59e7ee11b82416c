use Rattle.runs.proofs.Lookups.{found, past}
use Rattle.rtl.proofs.Lookups.{callee-there, callee-nowhere}
use Rattle.rtl.proofs.program.is_callee.Goals as goal

pub returns-in-Some : goal.returns-in-Some
returns-in-Some c =
    let fs = c.args.functions.now in
    callee-there fs c.args.function c.args.count c.in-Some.callee.now (found fs c.args.function c.get.result c.in-Some.callee c.get.ensures.lookup.0
    c.get.ensures.lookup.1 c.in-Some.is)

pub returns-in-None : goal.returns-in-None
returns-in-None c =
    let fs = c.args.functions.now in
    callee-nowhere fs c.args.function c.args.count (past fs c.args.function c.get.result c.get.ensures.lookup.0 c.in-None.is)
