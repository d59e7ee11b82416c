use Rattle.std.proofs.Common.{ap}
use Rattle.c_types.specs.Shape.{program_of}
use Rattle.c_typed.specs.Shape.{statement_of}
use Rattle.c_run.proofs.Acts.{assigned-first, stored-first}
use Rattle.c_run.proofs.interpreter.step.Goals as goal

pub returns-in-Assign : goal.returns-in-Assign
returns-in-Assign c = assigned-first (program_of c.args.program.now) c.args.depth c.args.interpreter.now c.assign_to.new.interpreter c.in-Some.rest
    c.in-Some.s.now c.assign_to.result c.in-Some.ensures.cases.0 _ _ (ap statement_of c.in-Assign.is) c.assign_to.ensures

pub returns-in-Store : goal.returns-in-Store
returns-in-Store c = stored-first (program_of c.args.program.now) c.args.depth c.args.interpreter.now c.store_at.new.interpreter c.in-Some.rest
    c.in-Some.s.now c.store_at.result c.in-Some.ensures.cases.0 _ _ _ (ap statement_of c.in-Store.is) c.store_at.ensures
